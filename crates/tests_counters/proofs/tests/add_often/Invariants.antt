use Rattle.std.proofs.Common.{◌≡◌, ◌+◌, length}
use Rattle.percpu_counters.specs.Passes.{adds_of, spare_of, IsPassOf}
use Rattle.tests_counters.proofs.tests.add_often.Given as goal

abbrev pub invariant-loop-turn : goal.invariant-loop-turn
invariant-loop-turn l = record {
  pass : IsPassOf l.counters l.pass;
  all : length (adds_of l.pass) + spare_of l.pass ≡ length (adds_of l.initial.pass) + spare_of l.initial.pass;
  room : spare_of l.pass + l.turn ≡ spare_of l.initial.pass;
}
