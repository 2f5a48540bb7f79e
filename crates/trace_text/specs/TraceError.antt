-- What the reader says where no layout was built.
use Rattle.unit_layout.specs.declared.errors.BuildError.{BuildError}
use Rattle.unit_layout.specs.declared.errors.BuildError.TheVariants as build
use Rattle.trace_text.specs.declared.reader.TraceError.{TraceError}
use Rattle.trace_text.specs.declared.reader.TraceError.TheVariants as trace

abbrev pub error_of : BuildError → TraceError
error_of (build.Layout error) = trace.Layout error
error_of build.OutOfMemory = trace.OutOfMemory
