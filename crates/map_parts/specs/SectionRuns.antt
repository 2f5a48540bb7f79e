-- What holds of sections over regions and locals, whatever regions and locals are.
use Rattle.std.specs.Prelude.{◌≡◌, ◌≢◌, ℕ, Bool, true, false, List, [], ◌∷◌, ◌++◌, length, Option, Some, None, slice_get, slice_set}
use Rattle.vm_model.specs.Space.{is_among}
use Rattle.vm_model.specs.Run.{section_by, state_after, StandTogether}

-- where a section moves in a lawful state and its two values are put back, the state is lawful again
abbrev pub KeepsLawful : {R L : Type 0} → (L → Option ℕ) → (L → R → Bool) → (L → R → L × R) → (List R → List L → Type 0) → Type 0
KeepsLawful {R} {L} wanted moves after lawful = (rs : List R) (ls : List L) (caller region : ℕ) (l : L) (r : R) → lawful rs ls → slice_get ls caller ≡ Some l → wanted l ≡ Some region
    → slice_get rs region ≡ Some r → moves l r ≡ true → lawful (slice_set rs region (after l r).1) (slice_set ls caller (after l r).0)

pub record IsRunOfSections {R L : Type 0} (wanted : L → Option ℕ) (moves : L → R → Bool) (after : L → R → L × R) : Type 0 where
  -- sections after others, and one more
  pub more : (s : List R × List L) (callers later : List ℕ)
      → state_after wanted moves after s (callers ++ later) ≡ state_after wanted moves after (state_after wanted moves after s callers) later
  pub one_more : (s : List R × List L) (callers : List ℕ) (caller : ℕ) → let before : List R × List L = state_after wanted moves after s callers in
      state_after wanted moves after s (callers ++ caller ∷ []) ≡ section_by wanted moves after before caller (slice_get before.1 caller)
  -- a section that moves puts its two values in their places; one that stays, or wants nothing, changes nothing
  pub moved : (s : List R × List L) (caller region : ℕ) (l : L) (r : R) → wanted l ≡ Some region → slice_get s.0 region ≡ Some r → moves l r ≡ true
      → section_by wanted moves after s caller (Some l) ≡ (slice_set s.0 region (after l r).1, slice_set s.1 caller (after l r).0)
  pub stayed : (s : List R × List L) (caller region : ℕ) (l : L) (r : R) → wanted l ≡ Some region → slice_get s.0 region ≡ Some r → moves l r ≡ false
      → section_by wanted moves after s caller (Some l) ≡ s
  pub ended : (s : List R × List L) (caller : ℕ) (l : L) → wanted l ≡ None → section_by wanted moves after s caller (Some l) ≡ s
  -- there are as many regions and locals as before
  pub as_many_regions : (s : List R × List L) (callers : List ℕ) → length (state_after wanted moves after s callers).0 ≡ length s.0
  pub as_many_locals : (s : List R × List L) (callers : List ℕ) → length (state_after wanted moves after s callers).1 ≡ length s.1
  -- the regions that it doesn't want stay, and so do the locals of others
  pub other_regions : (s : List R × List L) (caller : ℕ) (l : L) (region : ℕ) → wanted l ≢ Some region
      → slice_get (section_by wanted moves after s caller (Some l)).0 region ≡ slice_get s.0 region
  pub other_locals : (s : List R × List L) (callers : List ℕ) (other : ℕ) → is_among callers other ≡ false
      → slice_get (state_after wanted moves after s callers).1 other ≡ slice_get s.1 other

abbrev pub SectionsRun : (R L : Type 0) → Type 0
SectionsRun R L = (wanted : L → Option ℕ) (moves : L → R → Bool) (after : L → R → L × R) → IsRunOfSections wanted moves after

-- a lawful state stays lawful, and a local stands together with the region that it wants
abbrev pub StaysLawful : {R L : Type 0} → (L → Option ℕ) → (L → R → Bool) → (L → R → L × R) → (List R → List L → Type 0) → Type 0
StaysLawful {R} {L} wanted moves after lawful = (s : List R × List L) (callers : List ℕ) → lawful s.0 s.1
    → lawful (state_after wanted moves after s callers).0 (state_after wanted moves after s callers).1

abbrev pub FindsTogether : {R L : Type 0} → (L → Option ℕ) → (L → R → Bool) → (L → R → L × R) → (List R → List L → Type 0) → Type 0
FindsTogether {R} {L} wanted moves after lawful = (s : List R × List L) (callers : List ℕ) (caller region : ℕ) (l : L) (r : R) → lawful s.0 s.1
    → slice_get (state_after wanted moves after s callers).1 caller ≡ Some l → wanted l ≡ Some region → slice_get (state_after wanted moves after s callers).0 region ≡ Some r
    → StandTogether wanted lawful l r
