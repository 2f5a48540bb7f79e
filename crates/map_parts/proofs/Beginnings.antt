-- A call begins at a sound place, without pages.
use Rattle.std.proofs.Common.{◌≡◌, ℕ, ◌≤◌, Bool, true, false, if◌then◌else◌, List, slice_get, Option, Some, refl, arith}
use Rattle.std.proofs.lemmas.Bool.Decides.{nat_tests}
use Rattle.vm_model.specs.declared.calls.Call.{Call}
use Rattle.vm_model.specs.declared.calls.Call.TheVariants.{Vmalloc, Vfree, MapRam, UnmapRam, UnmapAliases, AllocPercpu, AllocAtomic, FreePercpu, Add, Sum, Balance}
use Rattle.vm_model.specs.declared.calls.Reply.{Reply}
use Rattle.vm_model.specs.Setup.{Setup}
use Rattle.vm_model.specs.PlainMap.{PlainMap}
use Rattle.vm_model.specs.Blocks.{rounded}
use Rattle.vm_model.specs.Places.{Place, Refusing}
use Rattle.vm_model.specs.Calls.{Answered, begin_call, begin}
use Rattle.vm_model.specs.Rules.{IsSetup}
use Rattle.vm_model.proofs.RoundedPages.{rounded_high}
use Rattle.map_parts.specs.Owners.{of_place}
use Rattle.map_parts.specs.KeptByEvents.{IsSoundPlace, AreSoundAnswers, IsSoundCall}
use Rattle.map_parts.proofs.Tests.{le_test}

-- A part that the desk lets through has room in a block.

pub part_fits : (c : Setup) (pages : ℕ) → IsSetup c → pages ≤ c.part_limit → rounded pages ≤ c.block_pages
part_fits c pages is l = let within = rounded_high pages c.part_limit is.part l in let high = is.part_high in omega arith

-- Beginnings.

pub record IsBeginning (c : Setup) (m : PlainMap) (k : ℕ) (place : Place) : Type 0 where
  pub sound : IsSoundPlace c m k place
  pub none : (counts : ℕ → Bool) (page : ℕ) → of_place c place counts page ≡ 0

module _ (c : Setup) (m : PlainMap) (k : ℕ) where
  begins_if : (b : Bool) (place other : Place) → (b ≡ true → IsBeginning c m k place) → (b ≡ false → IsBeginning c m k other) → IsBeginning c m k (if b then place else other)
  begins_if true place other p q = p refl
  begins_if false place other p q = q refl

  refusing : (r : Reply) → IsBeginning c m k (Refusing r)
  refusing r = record { sound = tt; none = λ counts page. refl }

  begins_call : IsSetup c → (opening own : List Answered) → AreSoundAnswers c m opening → AreSoundAnswers c m own → (call : Call) → IsSoundCall c call → IsBeginning c m k (begin_call c opening own call)
  begins_call is opening own p q (Vmalloc bytes align) s = grind (arith, begins_if, refusing, nat_tests)
  begins_call is opening own p q (Vfree t) s = grind (arith, refusing, nat_tests)
  begins_call is opening own p q (MapRam cpu pages) s = grind (arith, begins_if, refusing, part_fits, le_test, nat_tests)
  begins_call is opening own p q (UnmapRam t) s = grind (arith, refusing, nat_tests)
  begins_call is opening own p q UnmapAliases s = record { sound = is.units.some; none = λ counts page. refl }
  begins_call is opening own p q (AllocPercpu bytes align) s = grind (arith, begins_if, refusing, nat_tests)
  begins_call is opening own p q (AllocAtomic bytes align) s = grind (arith, begins_if, refusing, nat_tests)
  begins_call is opening own p q (FreePercpu t) s = grind (arith, refusing, nat_tests)
  begins_call is opening own p q (Add t cpu index amount) s = grind (arith, begins_if, refusing, nat_tests)
  begins_call is opening own p q (Sum t index) s = grind (arith, begins_if, refusing, nat_tests)
  begins_call is opening own p q Balance s = record { sound = tt; none = λ counts page. refl }

  pub begins : IsSetup c → (opening own : List Answered) (calls : List Call) (i : ℕ) → AreSoundAnswers c m opening → AreSoundAnswers c m own
      → ((i : ℕ) (call : Call) → slice_get calls i ≡ Some call → IsSoundCall c call) → (o : Option Call) → slice_get calls i ≡ o → IsBeginning c m k (begin c opening own o)
  begins is opening own calls i p q sound o e = grind (arith, begins_call, nat_tests)
