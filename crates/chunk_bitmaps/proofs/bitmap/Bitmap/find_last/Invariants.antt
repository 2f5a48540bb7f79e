use Rattle.chunk_bitmaps.proofs.LastBits.{NoneBehind}
use Rattle.chunk_bitmaps.proofs.bitmap.Bitmap.find_last.Given as goal

abbrev pub invariant-loop-place : goal.invariant-loop-place
invariant-loop-place l = NoneBehind l.self l.value l.from l.end l.place

abbrev pub decreases-loop-place : goal.decreases-loop-place
decreases-loop-place l = l.place
