-- The search over the chunks in order.
use Rattle.std.proofs.Common.{◌≡◌, ℕ, suc, ◌*◌, ◌/◌, ◌%◌, ◌<◌, ◌≤◌, Bool, true, false, cond, nat_lt, if◌then◌else◌, List, [], ◌∷◌, length, map, find, drop, None, Some, refl, ap, sym, ◌∙◌, subst, arith}
use Rattle.std.specs.Option.{is_some}
use Rattle.std.proofs.lemmas.Bool.Decides.{nat_tests}
use Rattle.std.proofs.lemmas.List.{drop_all, length-map}
use Rattle.vm_model.specs.Space.{sort_by}
use Rattle.vm_model.specs.Bits.{slot_for}
use Rattle.chunk_slots.specs.Rising.{rank_by}
use Rattle.chunk_slots.specs.KeptChunks.{KeptRow, slot_in}
use Rattle.chunk_slots.specs.ChunksBySlot.{key_of_slot, slot_key, in_slot_of, slots_of, fit_in}
use Rattle.chunk_slots.specs.SlotOrder.{key_of_row, AreNumbered}
use Rattle.chunk_slots.specs.Choices.{chosen_row}
use Rattle.chunk_slots.proofs.Choosing.{the_first_in_order_is_chosen, slots_in_order}
use Rattle.chunk_slots.proofs.SlotFitProofs.{nothing_fits_below_its_slot}

-- whether a chunk has a fit
abbrev pub has_fit : (atomic : Bool) (bits align : ℕ) → KeptRow → Bool
has_fit atomic bits align row = is_some (fit_in atomic bits align row)

rank-mapped : (k : ℕ) (rows : List KeptRow) → rank_by key_of_slot k (map in_slot_of rows) ≡ rank_by key_of_row k rows
rank-mapped k [] = refl
rank-mapped k (row ∷ rows) = ap (λ n. if nat_lt (key_of_row row) k then suc n else 0) (rank-mapped k rows)

skip_by : (fits : KeptRow → Bool) (k : ℕ) (row : KeptRow) (rows : List KeptRow) (b : Bool) → (b ≡ true → fits row ≡ false) → find fits rows ≡ find fits (drop (rank_by key_of_row k rows) rows)
    → find fits (row ∷ rows) ≡ find fits (drop (if b then suc (rank_by key_of_row k rows) else 0) (row ∷ rows))
skip_by fits k row rows true none rest = ap (λ b. cond b (Some row) (find fits rows)) (none refl) ∙ rest
skip_by fits k row rows false none rest = refl

skip_low : (fits : KeptRow → Bool) (k : ℕ) (rows : List KeptRow) → ((row : KeptRow) → key_of_row row < k → fits row ≡ false) → find fits rows ≡ find fits (drop (rank_by key_of_row k rows) rows)
skip_low fits k [] none = refl
skip_low fits k (row ∷ rows) none =
    skip_by fits k row rows (nat_lt (key_of_row row) k) (λ e. none row (let less : key_of_row row < k = grind (arith, nat_tests) in less)) (skip_low fits k rows none)

no_fit_low : (atomic : Bool) (bytes align : ℕ) (row : KeptRow) → 4 ≤ bytes → bytes % 4 ≡ 0 → key_of_row row < slot_key (slot_for bytes) 0 → has_fit atomic (bytes / 4) (align / 4) row ≡ false
no_fit_low atomic bytes align row some words low =
    let whole : bytes ≡ 4 * (bytes / 4) = omega arith in
    let slot : slot_in row < slot_for bytes = omega arith in
    ap is_some (nothing_fits_below_its_slot atomic row (bytes / 4) (align / 4) (omega arith) (subst (λ n. slot_in row < slot_for n) whole slot))

-- the search may begin at the size's slot
pub begins_at_slot : (atomic : Bool) (bytes align first k : ℕ) (rows : List KeptRow) → 4 ≤ bytes → bytes % 4 ≡ 0 → k ≡ slot_key (slot_for bytes) 0 → first ≡ rank_by key_of_slot k (slots_of rows)
    → find (has_fit atomic (bytes / 4) (align / 4)) (sort_by key_of_row rows) ≡ find (has_fit atomic (bytes / 4) (align / 4)) (drop first (sort_by key_of_row rows))
begins_at_slot atomic bytes align first k rows some words key at =
    let rank : first ≡ rank_by key_of_row k (sort_by key_of_row rows) = at ∙ ap (rank_by key_of_slot k) (sym (slots_in_order rows)) ∙ rank-mapped k (sort_by key_of_row rows) in
    skip_low (has_fit atomic (bytes / 4) (align / 4)) k (sort_by key_of_row rows) (λ row low. no_fit_low atomic bytes align row some words (subst (λ n. key_of_row row < n) key low))
    ∙ ap (λ n. find (has_fit atomic (bytes / 4) (align / 4)) (drop n (sort_by key_of_row rows))) (sym rank)

-- where the search has come to the end, no chunk is chosen
pub none_chosen : (atomic : Bool) (bits align place : ℕ) (rows : List KeptRow) → AreNumbered rows → length (slots_of rows) ≤ place
    → find (has_fit atomic bits align) (sort_by key_of_row rows) ≡ find (has_fit atomic bits align) (drop place (sort_by key_of_row rows)) → chosen_row atomic bits align rows ≡ None
none_chosen atomic bits align place rows numbered end rest =
    let long : length (sort_by key_of_row rows) ≡ length (slots_of rows) = sym (length-map (sort_by key_of_row rows) in_slot_of) ∙ ap length (slots_in_order rows) in
    the_first_in_order_is_chosen (has_fit atomic bits align) rows numbered ∙ rest
    ∙ ap (find (has_fit atomic bits align)) (drop_all place (sort_by key_of_row rows) (omega (arith, long)))
