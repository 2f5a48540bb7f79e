-- The sections over the purge turn, and what two clauses on a result say together.
use Rattle.std.proofs.Common.{◌≡◌, ℕ, [], true, false, Option, Some, None, Result, Ok, Err, OnOk, OnErr, refl, ap, sym, ◌∙◌}
use Rattle.vm_model.specs.declared.areas.Span.{Span}
use Rattle.vm_model.specs.Events.{TakePurge}
use Rattle.vm_model.specs.Places.{Then, PurgeTaking, PurgeFragmenting, ask}
use Rattle.vm_model.specs.Given.{can_move}
use Rattle.vm_model.specs.Next.{Go}
use Rattle.vm_model.specs.History.{Local, moved_to}
use Rattle.vm_model.specs.Parts.{Region, PurgeTurn, map_with, moves}
use Rattle.section_core.specs.MadeSections.{IsMoved}
use Rattle.section_core.proofs.Moved.{moved_as}

-- who moves at a turn finds nobody there
pub takes_turn : (l : Local) (turn : Option ℕ) (extra : Option Span) (after : Then) (l' : Local) (r' : Region) → l.place ≡ PurgeTaking extra after → moves l (PurgeTurn turn) ≡ true → l' ≡ moved_to l (Go (PurgeFragmenting 0 [] extra after))
    → r' ≡ PurgeTurn (Some l.caller) → IsMoved l (PurgeTurn turn) l' r'
takes_turn l None extra after l' r' place m local region = moved_as l (PurgeTurn None) (PurgeTaking extra after) TakePurge (Go (PurgeFragmenting 0 [] extra after)) l' r' place refl refl local region
takes_turn l (Some holder) extra after l' r' place m local region = absurd (let no : false ≡ true = sym (ap (λ q. can_move (map_with l.setup (PurgeTurn (Some holder))) (ask l.setup q)) place) ∙ m in cc)

pub ok_both : {T E A B C : Type 0} (r : Result T E) → (A → B → C) → OnOk r A → OnOk r B → OnOk r C
ok_both (Ok x) f a b = f a b
ok_both (Err e) f a b = tt

pub err_then : {T E A B : Type 0} (r : Result T E) → (A → B) → OnErr r A → OnErr r B
err_then (Ok x) f a = tt
err_then (Err e) f a = f a
