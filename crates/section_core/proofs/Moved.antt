-- A section at a known place, by the section that the region gives to it.
use Rattle.std.proofs.Common.{◌≡◌, Some, ap, sym, ◌∙◌, is_some}
use Rattle.vm_model.specs.Events.{Section}
use Rattle.vm_model.specs.Effects.{effect_as}
use Rattle.vm_model.specs.Places.{Place, ask}
use Rattle.vm_model.specs.Given.{given, can_move}
use Rattle.vm_model.specs.Next.{Next, next}
use Rattle.vm_model.specs.History.{Local, moved_to}
use Rattle.vm_model.specs.Parts.{Region, map_with, region_in, left_by}
use Rattle.vm_model.proofs.OneNext.{gives}
use Rattle.section_core.specs.MadeSections.{IsMoved}

pub moved_as : (l : Local) (r : Region) (p : Place) (s : Section) (n : Next) (l' : Local) (r' : Region) → l.place ≡ p → given l.setup (map_with l.setup r) (ask l.setup p) ≡ Some s
    → next l.setup p s ≡ n → l' ≡ moved_to l n → r' ≡ region_in (effect_as l.setup (map_with l.setup r) l.caller s) r → IsMoved l r l' r'
moved_as l r p s n l' r' at told on local region = record {
  moves = ap (λ q. can_move (map_with l.setup r) (ask l.setup q)) at ∙ sym (gives l.setup (map_with l.setup r) (ask l.setup p)) ∙ ap is_some told;
  leaves =
      ap (λ (x : Local). (x, r')) (local ∙ ap (moved_to l) (sym on ∙ ap (λ q. next l.setup q s) (sym at)))
      ∙ ap (λ (x : Region). (moved_to l (next l.setup l.place s), x)) region
      ∙ sym (ap (λ q. left_by l r (given l.setup (map_with l.setup r) (ask l.setup q))) at ∙ ap (left_by l r) told);
}
