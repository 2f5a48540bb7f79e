use Rattle.law_tests.proofs.LawTestProofs as test
use Rattle.law_tests.proofs.laws.Goals as goal

pub returns : goal.returns
returns c = record {
  areas_apart = test.areas_apart;
  areas_aligned = test.areas_aligned;
  guards = test.guards;
  free_pages = test.free_pages;
  lost_pages = test.lost_pages;
  waiting = test.waiting;
  flushing = test.flushing;
  objects = test.objects;
  adds = test.adds;
  sums = test.sums;
  parts = test.parts;
  turns = test.turns;
  purge_turn = test.purge_turn;
  carried = test.carried;
}
