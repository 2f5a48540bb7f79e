-- Which words of objects a section touches; all others stay.
use Rattle.std.proofs.Common.{◌≡◌, ℕ, suc, ◌+◌, ◌*◌, ◌/◌, ◌<◌, ◌≤◌, List, slice_get, slice_index, Option, Some, refl, ap, sym, ◌∙◌, subst, ℤ, ◌+ℤ◌, ◌≢◌, inl, inr, Bool, true, false, ◌==◌, take, arith, pos}
use Rattle.std.proofs.lemmas.Option.{get_or_from_slice_get}
use Rattle.vm_model.specs.Space.{times}
use Rattle.vm_model.specs.Setup.{Setup, cpus}
use Rattle.vm_model.specs.PlainMap.{PlainMap, Life, InHand, Lives}
use Rattle.vm_model.specs.Frames.{word_at, add_word}
use Rattle.vm_model.specs.Chunks.{ObjectAt, copy_at, object_pages}
use Rattle.vm_model.specs.Events.{Section, Populate, Zero, AddWord, Event, SumWords}
use Rattle.vm_model.specs.Legal.{OnPages, IsMapped, IsLegalAs, sum_of}
use Rattle.vm_model.specs.Effects.{effect_as}
use Rattle.vm_model.specs.Places.{Place, Adding, Summing, ask}
use Rattle.vm_model.specs.History.{World, Local}
use Rattle.vm_model.specs.LegalHistory.{Meets}
use Rattle.vm_model.specs.Laws.{all_copies, IsEvent, amount_of, added}
use Rattle.map_laws.proofs.KeptThroughSteps.{there, same_or}
use Rattle.map_laws.proofs.objects.ObjectFacts.{IsObject, AreChunksFine, IsObjectAt}
use Rattle.map_laws.proofs.TraceWorlds.{SomeonePlaces}
use Rattle.map_laws.proofs.Deeds.{populates_at, zeroes_at, adds_at}
use Rattle.map_laws.proofs.FrameWords.{AreCells, HasFrame, added_own, added_other, sums_agree, sums_grow, is_add}
use Rattle.map_laws.proofs.objects.ObjectWords.{IsWordOf, IsWordy, word_whole, one_word, word_mapped, frame_stays, same_word, word_stays, zeroed_other}
use Rattle.map_laws.proofs.objects.ObjectsReady.{IsZeroedAt}
use Rattle.std.proofs.lemmas.Bool.Decides.{nat_tests}
use Rattle.std.proofs.Math.IntN.{+ℤ_idr}
use Rattle.map_laws.proofs.objects.ObjectsBefore.{one_object}

-- what the words of objects rest on in a world
pub record AreWordsOwn (c : Setup) (w : World) : Type 0 where
  pub fine : AreChunksFine c (SomeonePlaces w) w.map.chunks
  pub copies : (byte : ℕ) → times byte (all_copies c w.map.chunks) ≤ 1
  pub cells : AreCells c.frames w.map.frames w.map.cells
  pub live : (at : ObjectAt) (serial : ℕ) → IsObject w.map.chunks at (Lives serial) → OnPages (object_pages c at) (IsMapped w.map)
  pub hand : (k : ℕ) (l : Local) (at : ObjectAt) → slice_get w.locals k ≡ Some l → IsZeroedAt l.place at → IsObject w.map.chunks at (InHand k) × OnPages (object_pages c at) (IsMapped w.map)

-- the object of an add or a sum is live, and its word is there
abbrev pub IsUsable : Setup → PlainMap → Place → Type 0
IsUsable c m (Adding at serial cpu index amount) = IsObject m.chunks at (Lives serial) × (cpu < cpus c) × (4 * index < at.bytes)
IsUsable c m (Summing at serial index) = IsObject m.chunks at (Lives serial) × (4 * index < at.bytes)
IsUsable c m _ = Unit {0}

pub wordy_of : (c : Setup) (w : World) (own : AreWordsOwn c w) (at : ObjectAt) (life : Life) → IsObject w.map.chunks at life → IsWordy at
wordy_of c w own at life is =
    let shape = (own.fine.each is.chunk is.there).shaped is.object is.object_there in
    record { start = record { word = shape.bit; at = sym is.off ∙ shape.at }; long = record { word = suc shape.more; at = sym is.bytes ∙ shape.whole } }

-- which words a section touches, by their object, processor and index
abbrev pub Touches : Section → ObjectAt → (cpu index : ℕ) → Type 0
Touches (Populate own missing) at cpu index = (at.chunk ≡ own.chunk) × (at.off ≡ own.off)
Touches (Zero own) at cpu index = (at.chunk ≡ own.chunk) × (at.off ≡ own.off)
Touches (AddWord own serial cpu' index' amount) at cpu index = (at.chunk ≡ own.chunk) × (at.off ≡ own.off) × (cpu ≡ cpu') × (index ≡ index')
Touches _ at cpu index = ⊥

abbrev pub AreApartFrames : List (Option ℕ) → Type 0
AreApartFrames frames = (page other frame : ℕ) → slice_get frames page ≡ Some (Some frame) → slice_get frames other ≡ Some (Some frame) → page ≡ other

module _ (c : Setup) (w : World) (own : AreWordsOwn c w) (k : ℕ) (p : Place) (hand : IsObjectAt w.map k p) (use_of : IsUsable c w.map p) where
  populating : (at : ObjectAt) (missing : List ℕ) → Meets c (ask c p) (Populate at missing) → IsObject w.map.chunks at (InHand k)
  populating at missing meets = subst (IsObjectAt w.map k) (populates_at c p at missing meets) hand

  zeroing : (at : ObjectAt) → Meets c (ask c p) (Zero at) → IsObject w.map.chunks at (InHand k)
  zeroing at meets = subst (IsObjectAt w.map k) (zeroes_at c p at meets) hand

  pub adding : (at : ObjectAt) (serial cpu index : ℕ) (amount : ℤ) → Meets c (ask c p) (AddWord at serial cpu index amount) → IsObject w.map.chunks at (Lives serial) × (cpu < cpus c) × (4 * index < at.bytes)
  adding at serial cpu index amount meets = subst (IsUsable c w.map) (adds_at c p at serial cpu index amount meets) use_of

  -- the word of an add
  pub add_word_of : (at : ObjectAt) (cpu index : ℕ) → cpu < cpus c → 4 * index < at.bytes → (byte : ℕ) × IsWordOf c at cpu index byte
  add_word_of at cpu index low inside = let unit = there c.units cpu low in (copy_at at unit.0 + 4 * index, record { unit = unit.0; at_unit = unit.1; inside = inside; is = refl })

  module _ (at : ObjectAt) (life : Life) (is : IsObject w.map.chunks at life) (mapped : OnPages (object_pages c at) (IsMapped w.map)) (cpu index byte : ℕ) (word : IsWordOf c at cpu index byte) where
    abbrev wordy : IsWordy at
    wordy = wordy_of c w own at life is

    frame : (f : ℕ) × HasFrame w.map.frames byte f
    frame = word_mapped c w.map at cpu index byte (wordy_of c w own at life is) word mapped

    zero_apart : (o : ObjectAt) → IsObject w.map.chunks o (InHand k) → ((at.chunk ≡ o.chunk) × (at.off ≡ o.off) → ⊥) → (cpu' index' : ℕ) → IsWordOf c o cpu' index' byte → ⊥
    zero_apart o theirs never cpu' index' word' = let one = one_word c w.map.chunks at o life (InHand k) cpu cpu' index index' byte (own.copies byte) is theirs word word' in never (one.chunk, one.off)

    pub word_same : (s : Section) → Meets c (ask c p) s → IsLegalAs c w.map k s → AreApartFrames (effect_as c w.map k s).frames → OnPages (object_pages c at) (IsMapped (effect_as c w.map k s)) → (Touches s at cpu index → ⊥)
        → word_at (effect_as c w.map k s).frames (effect_as c w.map k s).cells byte ≡ word_at w.map.frames w.map.cells byte
    word_same (Populate o missing) meets legal apart mapped' never =
        let theirs = populating o missing meets in
        let behind = word_mapped c (effect_as c w.map k (Populate o missing)) at cpu index byte (wordy_of c w own at life is) word mapped' in
        zeroed_other c (effect_as c w.map k (Populate o missing)).frames w.map.cells o (wordy_of c w own o (InHand k) theirs) apart byte behind.0 (word_whole c at cpu index byte (wordy_of c w own at life is) word) behind.1 (zero_apart o theirs never)
        ∙ same_word w.map.frames (effect_as c w.map k (Populate o missing)).frames w.map.cells byte (frame_stays c w.map k (Populate o missing) (byte / 4096) frame.0 behind.0 legal frame.1 behind.1)
    word_same (Zero o) meets legal apart mapped' never =
        let theirs = zeroing o meets in
        zeroed_other c w.map.frames w.map.cells o (wordy_of c w own o (InHand k) theirs) apart byte frame.0 (word_whole c at cpu index byte (wordy_of c w own at life is) word) frame.1 (zero_apart o theirs never)
    word_same (AddWord o serial cpu' index' amount) meets legal apart mapped' never =
        let theirs = adding o serial cpu' index' amount meets in
        let added = add_word_of o cpu' index' theirs.1 theirs.2 in
        let wordy' = wordy_of c w own o (Lives serial) theirs.0 in
        let there' = word_mapped c w.map o cpu' index' added.0 wordy' added.1 (own.live o serial theirs.0) in
        ap (λ b. word_at w.map.frames (add_word w.map.frames b amount w.map.cells) byte) (add_byte o cpu' index' added.0 added.1)
        ∙ added_other c.frames w.map.frames w.map.cells own.cells added.0 there'.0 amount there'.1 byte frame.0 frame.1 (word_whole c o cpu' index' added.0 wordy' added.1) (word_whole c at cpu index byte (wordy_of c w own at life is) word)
        (λ same. (let one = one_word c w.map.chunks at o life (Lives serial) cpu cpu' index index' byte (own.copies byte) is theirs.0 word (subst (IsWordOf c o cpu' index') (sym same) added.1) in never (one.chunk, one.off, one.same_cpu, one.same_index)))
      where
        add_byte : (o : ObjectAt) (cpu' index' b : ℕ) (word' : IsWordOf c o cpu' index' b) → copy_at o (slice_index c.units cpu') + 4 * index' ≡ b
        add_byte o cpu' index' b word' = ap (λ u. copy_at o u + 4 * index') (get_or_from_slice_get c.units cpu' word'.unit 0 word'.at_unit) ∙ sym word'.is
    word_same s meets legal apart mapped' never =
        let behind = word_mapped c (effect_as c w.map k s) at cpu index byte (wordy_of c w own at life is) word mapped' in word_stays c w.map k s byte frame.0 behind.0 legal refl frame.1 behind.1

  -- an add to the word itself
  pub word_grows : (at : ObjectAt) (serial cpu index byte : ℕ) (amount : ℤ) → IsObject w.map.chunks at (Lives serial) → IsWordOf c at cpu index byte → word_at w.map.frames (add_word w.map.frames byte amount w.map.cells) byte ≡ (word_at w.map.frames w.map.cells byte +ℤ amount)
  word_grows at serial cpu index byte amount is word =
      let there' = word_mapped c w.map at cpu index byte (wordy_of c w own at (Lives serial) is) word (own.live at serial is) in added_own c.frames w.map.frames w.map.cells own.cells byte there'.0 amount there'.1

-- A sum is what was added to its object and index: each legal section keeps it.

-- what is kept of serials, of what was added, and of objects that are about to be settled
pub record IsSummed (c : Setup) (w : World) : Type 0 where
  pub serials : (at : ObjectAt) (serial : ℕ) → IsObject w.map.chunks at (Lives serial) → serial < w.map.next_object
  pub unique : (at own : ObjectAt) (serial : ℕ) → IsObject w.map.chunks at (Lives serial) → IsObject w.map.chunks own (Lives serial) → (at.chunk ≡ own.chunk) × (at.off ≡ own.off)
  pub later : (serial index : ℕ) → w.map.next_object ≤ serial → added serial index w.events ≡ pos 0
  pub sums : (at : ObjectAt) (serial index : ℕ) → IsObject w.map.chunks at (Lives serial) → 4 * index < at.bytes → sum_of c w.map at index ≡ added serial index w.events
  pub zeroed : (k : ℕ) (l : Local) (at : ObjectAt) → slice_get w.locals k ≡ Some l → IsZeroedAt l.place at → (cpu index byte : ℕ) → IsWordOf c at cpu index byte → word_at w.map.frames w.map.cells byte ≡ pos 0
  pub told : (i caller serial index : ℕ) (at : ObjectAt) (total : ℤ) → IsEvent w.events i caller (SumWords at serial index total) → total ≡ added serial index (take i w.events)

-- the words of an index, by processor
abbrev pub byte_in : ObjectAt → (index unit : ℕ) → ℕ
byte_in at index unit = copy_at at unit + 4 * index

unit_word : (c : Setup) (at : ObjectAt) (cpu index unit : ℕ) → slice_get c.units cpu ≡ Some unit → 4 * index < at.bytes → IsWordOf c at cpu index (byte_in at index unit)
unit_word c at cpu index unit there inside = record { unit = unit; at_unit = there; inside = inside; is = refl }

pub amount_serial : (at : ObjectAt) (serial own cpu index at_index : ℕ) (amount : ℤ) → own ≢ serial → amount_of serial index (AddWord at own cpu at_index amount) ≡ pos 0
amount_serial at serial own cpu index at_index amount n = grind (arith, nat_tests)

amount_index : (at : ObjectAt) (serial own cpu index at_index : ℕ) (amount : ℤ) → at_index ≢ index → amount_of serial index (AddWord at own cpu at_index amount) ≡ pos 0
amount_index at serial own cpu index at_index amount n = grind (arith, nat_tests)

-- A legal section of one caller, over the setup itself and under its number.

module _ (c : Setup) (w : World) (own : AreWordsOwn c w) (kept : IsSummed c w) (k : ℕ) (l : Local) (here : slice_get w.locals k ≡ Some l) (hand : IsObjectAt w.map k l.place) (usable : IsUsable c w.map l.place) where
  one_life : (at o : ObjectAt) (life life' : Life) → IsObject w.map.chunks at life → IsObject w.map.chunks o life' → at.chunk ≡ o.chunk → at.off ≡ o.off → life ≡ life'
  one_life at o life life' is is' e f = (one_object c (SomeonePlaces w) w.map.chunks own.fine at o life life' is is' e f).lives

  -- words that a section doesn't touch
  pub live_untouched : (at : ObjectAt) (serial cpu index : ℕ) (s : Section) → is_add s ≡ false → Meets c (ask c l.place) s → IsObject w.map.chunks at (Lives serial) → Touches s at cpu index → ⊥
  live_untouched at serial cpu index (Populate o missing) quiet meets is t = let hold = subst (IsObjectAt w.map k) (populates_at c l.place o missing meets) hand in let e = one_life at o (Lives serial) (InHand k) is hold t.0 t.1 in cc
  live_untouched at serial cpu index (Zero o) quiet meets is t = let hold = subst (IsObjectAt w.map k) (zeroes_at c l.place o meets) hand in let e = one_life at o (Lives serial) (InHand k) is hold t.0 t.1 in cc
  live_untouched at serial cpu index (AddWord o own' cpu' index' amount) quiet meets is t = cc
  live_untouched at serial cpu index _ quiet meets is t = absurd t

  pub hand_untouched : (at : ObjectAt) (j cpu index : ℕ) (s : Section) → j ≢ k → Meets c (ask c l.place) s → IsObject w.map.chunks at (InHand j) → Touches s at cpu index → ⊥
  hand_untouched at j cpu index (Populate o missing) apart meets is t =
      let hold = subst (IsObjectAt w.map k) (populates_at c l.place o missing meets) hand in let e = one_life at o (InHand j) (InHand k) is hold t.0 t.1 in apart (let f : j ≡ k = cc in f)
  hand_untouched at j cpu index (Zero o) apart meets is t = let hold = subst (IsObjectAt w.map k) (zeroes_at c l.place o meets) hand in let e = one_life at o (InHand j) (InHand k) is hold t.0 t.1 in apart (let f : j ≡ k = cc in f)
  hand_untouched at j cpu index (AddWord o serial cpu' index' amount) apart meets is t = let live = adding c w own k l.place hand usable o serial cpu' index' amount meets in let e = one_life at o (InHand j) (Lives serial) is live.0 t.0 t.1 in cc
  hand_untouched at j cpu index _ apart meets is t = absurd t

  module _ (s : Section) (meets : Meets c (ask c l.place) s) (legal : IsLegalAs c w.map k s) (apart : AreApartFrames (effect_as c w.map k s).frames) where
    abbrev after : PlainMap
    after = effect_as c w.map k s

    abbrev event : Event
    event = record { caller = k; section = s }

    -- the sum of untouched words stays
    pub sum_same : (at : ObjectAt) (life : Life) (index : ℕ) → IsObject w.map.chunks at life → OnPages (object_pages c at) (IsMapped w.map) → OnPages (object_pages c at) (IsMapped after) → 4 * index < at.bytes → ((cpu : ℕ) → Touches s at cpu index → ⊥)
        → sum_of c after at index ≡ sum_of c w.map at index
    sum_same at life index is mapped mapped' inside never = sums_agree w.map.frames after.frames w.map.cells after.cells (byte_in at index) c.units
        (λ cpu unit there. word_same c w own k l.place hand usable at life is mapped cpu index (byte_in at index unit) (unit_word c at cpu index unit there inside) s meets legal apart mapped' (never cpu))

  -- An add.

  module _ (o : ObjectAt) (serial cpu index : ℕ) (amount : ℤ) (meets : Meets c (ask c l.place) (AddWord o serial cpu index amount)) (legal : IsLegalAs c w.map k (AddWord o serial cpu index amount))
      (apart : AreApartFrames (effect_as c w.map k (AddWord o serial cpu index amount)).frames) where
    abbrev added_map : PlainMap
    added_map = effect_as c w.map k (AddWord o serial cpu index amount)

    target : IsObject w.map.chunks o (Lives serial) × (cpu < cpus c) × (4 * index < o.bytes)
    target = adding c w own k l.place hand usable o serial cpu index amount meets

    -- the sum of its own object and index grows
    sum_grown : (at : ObjectAt) → IsObject w.map.chunks at (Lives serial) → at.chunk ≡ o.chunk → at.off ≡ o.off → OnPages (object_pages c at) (IsMapped added_map) → 4 * index < at.bytes → sum_of c added_map at index ≡ (sum_of c w.map at index +ℤ amount)
    sum_grown at is e f mapped' inside =
        let same = one_object c (SomeonePlaces w) w.map.chunks own.fine at o (Lives serial) (Lives serial) is target.0 e f in
        let word = add_word_of c w own k l.place hand usable o cpu index target.1 target.2 in
        let byte : byte_in at index word.1.unit ≡ word.0 = (let i = word.1.is in omega arith) in
        sums_grow w.map.frames w.map.frames w.map.cells added_map.cells (byte_in at index) c.units cpu word.1.unit amount word.1.at_unit
        (ap (λ b. word_at w.map.frames (add_word w.map.frames b amount w.map.cells) (byte_in at index word.1.unit)) (ap (λ u. copy_at o u + 4 * index) (get_or_from_slice_get c.units cpu word.1.unit 0 word.1.at_unit) ∙ sym word.1.is)
        ∙ subst (λ b. word_at w.map.frames (add_word w.map.frames word.0 amount w.map.cells) b ≡ (word_at w.map.frames w.map.cells b +ℤ amount)) (sym byte) (word_grows c w own k l.place hand usable o serial cpu index word.0 amount target.0 word.1))
        (λ i unit there n. word_same c w own k l.place hand usable at (Lives serial) is (own.live at serial is) i index (byte_in at index unit) (unit_word c at i index unit there inside) (AddWord o serial cpu index amount) meets legal apart mapped'
        (λ t. n (let g = t.2 in g)))

    pub sum_added : (at : ObjectAt) (own_serial own_index : ℕ) → IsObject w.map.chunks at (Lives own_serial) → OnPages (object_pages c at) (IsMapped added_map) → 4 * own_index < at.bytes
        → sum_of c added_map at own_index ≡ (sum_of c w.map at own_index +ℤ amount_of own_serial own_index (AddWord o serial cpu index amount))
    sum_added at own_serial own_index is mapped' inside = elim (same_or serial own_serial) [
      | inr n ↦ sum_same (AddWord o serial cpu index amount) meets legal apart at (Lives own_serial) own_index is (own.live at own_serial is) mapped' inside
          (λ i t. n (let e = one_life at o (Lives own_serial) (Lives serial) is target.0 t.0 t.1 in let f : serial ≡ own_serial = cc in f))
          ∙ sym (+ℤ_idr (sum_of c w.map at own_index)) ∙ ap (λ v. sum_of c w.map at own_index +ℤ v) (sym (amount_serial o own_serial serial cpu own_index index amount n))
      | inl e ↦ elim (same_or index own_index) [
        | inr n ↦ sum_same (AddWord o serial cpu index amount) meets legal apart at (Lives own_serial) own_index is (own.live at own_serial is) mapped' inside (λ i t. n (sym t.3))
            ∙ sym (+ℤ_idr (sum_of c w.map at own_index)) ∙ ap (λ v. sum_of c w.map at own_index +ℤ v) (sym (amount_index o own_serial serial cpu own_index index amount n))
        | inl f ↦ (
            let is' : IsObject w.map.chunks at (Lives serial) = subst (λ n. IsObject w.map.chunks at (Lives n)) (sym e) is in
            let place = kept.unique at o serial is' target.0 in
            let inside' : 4 * index < at.bytes = omega arith in
            subst (λ i. sum_of c added_map at i ≡ (sum_of c w.map at i +ℤ amount_of own_serial i (AddWord o serial cpu index amount))) f
            grind (arith, sum_grown)
            )
      ]
    ]
