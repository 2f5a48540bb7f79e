use Rattle.std.proofs.Common.{rules, ◌≡◌, ℕ, sym, subst}
use Rattle.section_table.specs.PassViews.{HasCaller}
use Rattle.section_table.proofs.SplitPasses.{cuts}
use Rattle.section_table.proofs.steps.cut.Goals as goal

pub split_seat-requires : goal.split_seat-requires
split_seat-requires g c = (search rules, search rules, cuts g.P.Parts.meaning _ _ _ _ g.C.Actor.caller (subst (λ (n : ℕ). HasCaller n c.args.place.now.me.0) c.requires.caller c.requires.has) c.requires.rests.0)
