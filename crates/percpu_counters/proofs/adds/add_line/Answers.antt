use Rattle.std.proofs.Common.{◌≡◌, FitsSigned, w32, w64, rules, arith}
use Rattle.percpu_counters.specs.CounterRule.{bits_of}
use Rattle.percpu_counters.proofs.Sizes.{tested}
use Rattle.percpu_counters.proofs.WholeAdds.{has_stayed, has_folded}
use Rattle.percpu_counters.proofs.adds.add_line.Goals as goal

pub returns-then-unsigned_abs-from-clause-added : goal.returns-then-unsigned_abs-from-clause-added
returns-then-unsigned_abs-from-clause-added g c =
    has_stayed c.args.shape c.args.line c.args.place.now.me c.put-found.result c.requires.line.2 c.requires.line.3 (let f : FitsSigned w32 c.args.line.amount = search rules in f) (omega arith) c.put-found.ensures.found c.put-found.type_inv
    c.put-found.new.place.me c.put-found.ensures.view c.requires.empty
    (let size = tested c.unsigned_abs.result c.put-found.result c.cast_unsigned.result (bits_of c.args.line) c.cast_signed-value.result c.unsigned_abs.ensures.value c.cast_signed-value.ensures (let b : bits_of c.args.line ≡ c.cast_unsigned.result = search rules in b) (let f : FitsSigned w64 c.cast_signed-value.result = search rules in f) in omega arith)

pub returns-clause-added : goal.returns-clause-added
returns-clause-added g c =
    has_folded c.args.shape c.args.line c.args.place.now.me c.put-found.result c.requires.line.2 c.requires.line.3 (let f : FitsSigned w32 c.args.line.amount = search rules in f) (omega arith) c.put-found.ensures.found c.put-found.type_inv
    c.put-found.new.place.me c.lift-taken.new.place.me c.settle.new.place.me c.lift-taken.result c.settle.result c.put-found.ensures.view c.lift-taken.ensures.view c.settle.ensures.view c.lift-taken.ensures.found c.settle.ensures.found c.settle.type_inv
    (let size = tested c.unsigned_abs.result c.put-found.result c.cast_unsigned.result (bits_of c.args.line) c.cast_signed-value.result c.unsigned_abs.ensures.value c.cast_signed-value.ensures (let b : bits_of c.args.line ≡ c.cast_unsigned.result = search rules in b) (let f : FitsSigned w64 c.cast_signed-value.result = search rules in f) in omega arith)
