mod SkippedLines
