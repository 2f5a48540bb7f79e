-- A processor's next part has at most the number of all events as its serial.
use Rattle.std.proofs.Common.{ℕ, zero, suc, ◌+◌, ◌≤◌, List, [], ◌∷◌, length, replicate, slice_index, slice_set, sym, subst, arith, length-append}
use Rattle.vm_model.specs.declared.calls.Call.{Call}
use Rattle.vm_model.specs.Setup.{Setup, cpus}
use Rattle.vm_model.specs.PlainMap.{PlainMap}
use Rattle.vm_model.specs.Events.{Section, Refuse, TakePurge, GivePurge, TakeAlloc, GiveAlloc, Carve, CarveGroups, NoHole, Drop, Return, Settle, Remove, AreaNotLive, Unlink, Wait, TakeWaiting, MapPages, Populate, Fill, NoFrames, Unmap, Depopulate, Flush, Zero, AddWord, SumWords, PlaceObject, NoPlace, AddChunk, PlaceAtomic, NoAtomic, SettleObject, Unplace, FreeObject, ObjectNotLive, Spare, NoSpare, NextPage, Enough, Filled, CutPart, NoPart, AddBlock, SettlePart, BeginUnmap, PartNotLive, Retire, Fragment, Dirty}
use Rattle.vm_model.specs.Legal.{IsLegalAs}
use Rattle.vm_model.specs.Effects.{effect_as}
use Rattle.vm_model.specs.History.{World}
use Rattle.vm_model.specs.LegalHistory.{IsReached}
use Rattle.map_laws.proofs.areas.AreaWorlds.{IsLegallyLasting, legally_lasts}

-- a number that is written into a list raises none above it
set_below : (xs : List ℕ) (i j v n : ℕ) → v ≤ n → slice_index xs j ≤ n → slice_index (slice_set xs i v) j ≤ n
set_below [] i j v n new old = old
set_below (x ∷ xs) zero zero v n new old = new
set_below (x ∷ xs) zero (suc j) v n new old = old
set_below (x ∷ xs) (suc i) zero v n new old = old
set_below (x ∷ xs) (suc i) (suc j) v n new old = set_below xs i j v n new old

replicated_below : (n j x : ℕ) → slice_index (replicate n x) j ≤ x
replicated_below zero j x = omega arith
replicated_below (suc n) zero x = omega arith
replicated_below (suc n) (suc j) x = replicated_below n j x

-- no processor's serials are above a number
abbrev pub AreSerialsBelow : ℕ → PlainMap → Type 0
AreSerialsBelow n m = (cpu : ℕ) → slice_index m.next_part cpu ≤ n

raised : (c : Setup) (m : PlainMap) (k n : ℕ) (s : Section) → IsLegalAs c m k s → AreSerialsBelow n m → AreSerialsBelow (suc n) (effect_as c m k s)
raised c m k n (SettlePart at serial) legal below own =
    let given = below at.cpu in let other = below own in let e = legal.1 in set_below m.next_part at.cpu own (suc serial) (suc n) (omega arith) (omega arith)
raised c m k n Refuse legal below own = let old = below own in omega arith
raised c m k n TakePurge legal below own = let old = below own in omega arith
raised c m k n GivePurge legal below own = let old = below own in omega arith
raised c m k n TakeAlloc legal below own = let old = below own in omega arith
raised c m k n GiveAlloc legal below own = let old = below own in omega arith
raised c m k n (Carve s align) legal below own = let old = below own in omega arith
raised c m k n (CarveGroups base) legal below own = let old = below own in omega arith
raised c m k n (NoHole search) legal below own = let old = below own in omega arith
raised c m k n (Drop s) legal below own = let old = below own in omega arith
raised c m k n (Return spans) legal below own = let old = below own in omega arith
raised c m k n (Settle areas first) legal below own = let old = below own in omega arith
raised c m k n (Remove start serial a) legal below own = let old = below own in omega arith
raised c m k n (AreaNotLive start serial) legal below own = let old = below own in omega arith
raised c m k n (Unlink starts) legal below own = let old = below own in omega arith
raised c m k n (Wait spans waiting) legal below own = let old = below own in omega arith
raised c m k n (TakeWaiting all) legal below own = let old = below own in omega arith
raised c m k n (MapPages s) legal below own = let old = below own in omega arith
raised c m k n (Populate at missing) legal below own = let old = below own in omega arith
raised c m k n (Fill base page) legal below own = let old = below own in omega arith
raised c m k n (NoFrames asked) legal below own = let old = below own in omega arith
raised c m k n (Unmap s) legal below own = let old = below own in omega arith
raised c m k n (Depopulate base pages) legal below own = let old = below own in omega arith
raised c m k n (Flush s) legal below own = let old = below own in omega arith
raised c m k n (Zero at) legal below own = let old = below own in omega arith
raised c m k n (AddWord at serial cpu index amount) legal below own = let old = below own in omega arith
raised c m k n (SumWords at serial index total) legal below own = let old = below own in omega arith
raised c m k n (PlaceObject at align missing) legal below own = let old = below own in omega arith
raised c m k n (NoPlace bytes align next) legal below own = let old = below own in omega arith
raised c m k n (AddChunk chunk base at align missing) legal below own = let old = below own in omega arith
raised c m k n (PlaceAtomic at align) legal below own = let old = below own in omega arith
raised c m k n (NoAtomic bytes align) legal below own = let old = below own in omega arith
raised c m k n (SettleObject at serial) legal below own = let old = below own in omega arith
raised c m k n (Unplace at) legal below own = let old = below own in omega arith
raised c m k n (FreeObject at serial) legal below own = let old = below own in omega arith
raised c m k n (ObjectNotLive at serial) legal below own = let old = below own in omega arith
raised c m k n (Spare chunk base populated) legal below own = let old = below own in omega arith
raised c m k n NoSpare legal below own = let old = below own in omega arith
raised c m k n (NextPage chunk base page) legal below own = let old = below own in omega arith
raised c m k n Enough legal below own = let old = below own in omega arith
raised c m k n (Filled chunk page) legal below own = let old = below own in omega arith
raised c m k n (CutPart at) legal below own = let old = below own in omega arith
raised c m k n (NoPart cpu pages) legal below own = let old = below own in omega arith
raised c m k n (AddBlock at) legal below own = let old = below own in omega arith
raised c m k n (BeginUnmap at serial) legal below own = let old = below own in omega arith
raised c m k n (PartNotLive cpu page serial) legal below own = let old = below own in omega arith
raised c m k n (Retire at spent) legal below own = let old = below own in omega arith
raised c m k n (Fragment cpu gone) legal below own = let old = below own in omega arith
raised c m k n (Dirty cpu range) legal below own = let old = below own in omega arith

abbrev pub AreFewParts : World → Type 0
AreFewParts w = AreSerialsBelow (1 + length w.events) w.map

few_last : (c : Setup) (calls : List (List Call)) → IsLegallyLasting c calls AreFewParts
few_last c calls = record {
  steps = λ w k l s framed few step cpu.
      let up = raised l.setup w.map l.caller (1 + length w.events) s (subst (λ i. IsLegalAs l.setup w.map i s) (sym (framed.own k l step.step.here).caller) step.legal) few cpu in
      omega (arith, length-append w.events (record { caller = l.caller; section = s } ∷ []));
  joins = λ w framed one few over. few;
}

pub few_parts : (c : Setup) (opening : List Call) (calls : List (List Call)) (w : World) → IsReached c opening calls w → AreFewParts w
few_parts c opening calls w reached = (legally_lasts c calls AreFewParts (few_last c calls) opening (λ cpu. let low = replicated_below (cpus c) cpu 1 in omega arith) w reached).1
