use Rattle.std.proofs.Common.{◌≡◌, codes, refl, subst, OnOk, ◌++◌}
use Rattle.std.specs.Fmt.{digits}
use Rattle.trace_text.specs.SpelledLines.{text_of}
use Rattle.trace_maker.specs.Generated.{header_lines}
use Rattle.trace_maker.proofs.maker.put_header.Goals as goal

header_is : codes "vmtrace 1\nspace 65536\nframes 8192\nlazy 256\nblock 128 64\nunit 8 1\ngroup 4 0\ncallers 8\ncounters 4 32\n" ≡ text_of header_lines
unfolding digits
header_is = refl

pub returns : goal.returns
returns c = subst (λ t. OnOk c.put_field.result (c.put_field.new.text.items ≡ c.args.text.now.items ++ t)) header_is c.put_field.ensures
