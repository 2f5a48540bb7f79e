use Rattle.std.proofs.Common.{◌≡◌, ◌+◌, ◌*◌, replicate, rules}
use Rattle.percpu_counters.proofs.Opens.{opens}
use Rattle.percpu_counters.proofs.counters.Counters.start.Goals as goal

pub of_words-requires : goal.of_words-requires
of_words-requires c =
    opens _ c.as_slice.result.now (let e : c.as_slice.result.now ≡ replicate (c.args.counters * (c.args.cpus + 1) + 1) 0 = search rules in e) c.requires.few
