-- The words of objects, and what sections keep of them.
use Rattle.std.proofs.Common.{◌≡◌, ℕ, suc, ◌+◌, ◌-◌, ◌*◌, ◌/◌, ◌<◌, ◌≤◌, inl, inr, Bool, true, false, List, flat_map, slice_get, sum_by, Some, refl, ap, sym, ◌∙◌, subst, arith, ℤ, ◌+ℤ◌, ◌%◌, map, Option, None, option_map, unwrap_or, pos, zero, if◌then◌else◌, [], ◌∷◌, ◌++◌, length, take, append_assoc, append-nil}
use Rattle.std.proofs.lemmas.Bool.Decides.{nat_tests}
use Rattle.std.proofs.lemmas.Option.{same_Some, get_or_from_slice_get, slice_get-map}
use Rattle.vm_model.specs.Space.{span, holds, times, one_if, is_among}
use Rattle.vm_model.specs.Setup.{Setup, cpus}
use Rattle.vm_model.specs.PlainMap.{PlainMap, Chunk, Object, Life}
use Rattle.vm_model.specs.Frames.{word_at, add_word, joined_option, frame_of, cell_in, read_cell, words_in_page, zero_words}
use Rattle.vm_model.specs.Chunks.{ObjectAt, pages_of_object, object_pages, copy_at}
use Rattle.vm_model.specs.Events.{AddWord, Section, MapPages, Populate, Fill, Unmap, Depopulate, Zero}
use Rattle.vm_model.specs.Legal.{OnPages, IsMapped, IsLegalAs}
use Rattle.vm_model.specs.Effects.{effect_as}
use Rattle.vm_model.specs.Laws.{object_at, copies_of, all_copies, word_of, is_word, grown_if}
use Rattle.map_laws.proofs.KeptThroughSteps.{same_or}
use Rattle.map_laws.proofs.TestsAndFilters.{sum_has, among_in, holds_from, holds_to, covers_one}
use Rattle.map_laws.proofs.OutMoves.{sum_two}
use Rattle.map_laws.proofs.chunks.ChunkFacts.{page_in_units}
use Rattle.map_laws.proofs.PlaceMoves.{row_in}
use Rattle.map_laws.proofs.objects.ObjectFacts.{IsObject, AreChunksFine, same_chunk, times_map, same_place}
use Rattle.map_laws.proofs.MapLaws.{times_flat}
use Rattle.map_laws.proofs.FrameWords.{IsWord, AreCells, HasFrame, added_own, added_other, word_is, zeroed_within, within_zeroed, zero_words-own, zero_words-other}
use Rattle.map_laws.proofs.chunks.ChunkFalls.{mapped_at}
use Rattle.map_laws.proofs.areas.AreaFacts.{painted, unpainted, ungiven, in_row}
use Rattle.vm_model.specs.declared.calls.Call.{Call}
use Rattle.vm_model.specs.declared.calls.Call.TheVariants.{Add, Sum}
use Rattle.vm_model.specs.declared.calls.Target.{Target}
use Rattle.vm_model.specs.Places.{MadeObject, Adding, Summing}
use Rattle.vm_model.specs.Calls.{made_in, words_for}
use Rattle.vm_model.specs.History.{World, Local}
use Rattle.vm_model.specs.Rules.{IsTrace, IsRuled, AreRuled, IsAllocCall}
use Rattle.map_laws.proofs.objects.ObjectsMade.{AreObjectsMade, made_some}
use Rattle.map_laws.proofs.SizedCalls.{IsMadeSized, call_bytes, IsUse, IsLocalSized, AreSized, calls_at}

-- The words of objects: no two of them share a cell, and an add changes one.

-- a copy of an object that has the byte, by the places of its chunk, of itself and of its processor
pub record IsHit (c : Setup) (chunks : List Chunk) (byte i j cpu : ℕ) : Type 0 where
  pub chunk : Chunk
  at_chunk : slice_get chunks i ≡ Some chunk
  pub object : Object
  at_object : slice_get chunk.objects j ≡ Some object
  pub unit : ℕ
  pub at_unit : slice_get c.units cpu ≡ Some unit
  pub has : holds (span (copy_at (object_at chunk object) unit) object.bytes) byte ≡ true

module _ (c : Setup) (byte : ℕ) where
  module _ (chunks : List Chunk) (once : times byte (all_copies c chunks) ≤ 1) where
    same_cpu : (i i' j j' cpu cpu' : ℕ) (hit : IsHit c chunks byte i j cpu) (hit' : IsHit c chunks byte i' j' cpu') → hit.chunk ≡ hit'.chunk → hit.object ≡ hit'.object → cpu ≡ cpu'
    same_cpu i i' j j' cpu cpu' hit hit' e f = grind (arith, sum_has, sum_two, times_map, times_flat)

    same_object_place : (i i' j j' cpu cpu' : ℕ) (hit : IsHit c chunks byte i j cpu) (hit' : IsHit c chunks byte i' j' cpu') → hit.chunk ≡ hit'.chunk → j ≡ j'
    same_object_place i i' j j' cpu cpu' hit hit' e = grind (arith, sum_has, sum_two, times_map, times_flat)

    same_chunk_place : (i i' j j' cpu cpu' : ℕ) → IsHit c chunks byte i j cpu → IsHit c chunks byte i' j' cpu' → i ≡ i'
    same_chunk_place i i' j j' cpu cpu' hit hit' = grind (arith, sum_has, sum_two, times_map, times_flat)

    -- two copies with one byte are one
    pub record IsOneHit (i i' j j' cpu cpu' : ℕ) (hit : IsHit c chunks byte i j cpu) (hit' : IsHit c chunks byte i' j' cpu') : Type 0 where
      pub chunk : hit.chunk ≡ hit'.chunk
      pub object : hit.object ≡ hit'.object
      pub same : cpu ≡ cpu'

    one_hit : (i i' j j' cpu cpu' : ℕ) (hit : IsHit c chunks byte i j cpu) (hit' : IsHit c chunks byte i' j' cpu') → IsOneHit i i' j j' cpu cpu' hit hit'
    one_hit i i' j j' cpu cpu' hit hit' =
        let first = same_chunk_place i i' j j' cpu cpu' hit hit' in let chunk : hit.chunk ≡ hit'.chunk = grind arith in
        let second = same_object_place i i' j j' cpu cpu' hit hit' chunk in let object : hit.object ≡ hit'.object = grind arith in
        record { chunk = chunk; object = object; same = same_cpu i i' j j' cpu cpu' hit hit' chunk object }

-- A word of an object, by its processor and index.

pub record IsWordOf (c : Setup) (at : ObjectAt) (cpu index byte : ℕ) : Type 0 where
  pub unit : ℕ
  pub at_unit : slice_get c.units cpu ≡ Some unit
  pub inside : 4 * index < at.bytes
  pub is : byte ≡ copy_at at unit + 4 * index

-- an object of whole words
pub record IsWordy (at : ObjectAt) : Type 0 where
  pub start : IsWord at.off
  pub long : IsWord at.bytes

pub word_whole : (c : Setup) (at : ObjectAt) (cpu index byte : ℕ) → IsWordy at → IsWordOf c at cpu index byte → IsWord byte
word_whole c at cpu index byte wordy is = record { word = 1024 * (at.base + is.unit) + wordy.start.word + index; at = (let a = wordy.start.at in let e = is.is in omega arith) }

abbrev hit_of : (c : Setup) (chunks : List Chunk) (at : ObjectAt) (life : Life) (cpu index byte : ℕ) (is : IsObject chunks at life) → IsWordOf c at cpu index byte → IsHit c chunks byte is.there.place is.object_there.place cpu
hit_of c chunks at life cpu index byte is word = record {
  chunk = is.chunk;
  at_chunk = is.there.at;
  object = is.object;
  at_object = is.object_there.at;
  unit = word.unit;
  at_unit = word.at_unit;
  has = (let b = is.based in let o = is.off in let l = is.bytes in let e = word.is in let low = word.inside in holds_from (span (copy_at (object_at is.chunk is.object) word.unit) is.object.bytes) byte (omega arith) (omega arith));
}

-- words with one byte are one
pub record IsOneWord (at own : ObjectAt) (cpu cpu' index index' : ℕ) : Type 0 where
  pub chunk : at.chunk ≡ own.chunk
  pub off : at.off ≡ own.off
  pub same_cpu : cpu ≡ cpu'
  pub same_index : index ≡ index'

pub one_word : (c : Setup) (chunks : List Chunk) (at own : ObjectAt) (life life' : Life) (cpu cpu' index index' byte : ℕ) → times byte (all_copies c chunks) ≤ 1 → IsObject chunks at life → IsObject chunks own life' → IsWordOf c at cpu index byte
    → IsWordOf c own cpu' index' byte → IsOneWord at own cpu cpu' index index'
one_word c chunks at own life life' cpu cpu' index index' byte once is is' word word' =
    let hit = hit_of c chunks at life cpu index byte is word in let hit' = hit_of c chunks own life' cpu' index' byte is' word' in
    let one = one_hit c byte chunks once is.there.place is'.there.place is.object_there.place is'.object_there.place cpu cpu' hit hit' in
    grind arith

-- Its page, and its word.

pub word_mapped : (c : Setup) (m : PlainMap) (at : ObjectAt) (cpu index byte : ℕ) → IsWordy at → IsWordOf c at cpu index byte → OnPages (object_pages c at) (IsMapped m) → (frame : ℕ) × HasFrame m.frames byte frame
word_mapped c m at cpu index byte wordy word mapped =
    let page : ℕ = (at.off + 4 * index) / 4096 in
    let among : is_among (pages_of_object at) page ≡ true = row_in (suc ((at.off + at.bytes - 1) / 4096) - at.off / 4096) (at.off / 4096) page (omega arith) (omega arith) in
    let there : is_among (object_pages c at) (at.base + word.unit + page) ≡ true = page_in_units c at.base page cpu word.unit (pages_of_object at) word.at_unit among in
    grind arith

word_read : (c : Setup) (m : PlainMap) (at : ObjectAt) (cpu index byte : ℕ) → IsWordOf c at cpu index byte → word_of c m at cpu index ≡ word_at m.frames m.cells byte
word_read c m at cpu index byte word = ap (word_at m.frames m.cells) (ap (λ u. copy_at at u + 4 * index) (get_or_from_slice_get c.units cpu word.unit 0 word.at_unit) ∙ sym word.is)

-- An add changes one word.

module _ (c : Setup) (m : PlainMap) (k : ℕ) (copies : (byte : ℕ) → times byte (all_copies c m.chunks) ≤ 1) (cells : AreCells c.frames m.frames m.cells) (placing : ℕ → ℕ → Type 0) (fine : AreChunksFine c placing m.chunks) where
  same_base : (at own : ObjectAt) (life life' : Life) → IsObject m.chunks at life → IsObject m.chunks own life' → at.chunk ≡ own.chunk → at.base ≡ own.base
  same_base at own life life' is is' e =
      let one = same_chunk m.chunks is.chunk is'.chunk fine.once is.there is'.there (is.numbered ∙ e ∙ sym is'.numbered) in sym is.based ∙ ap (λ (h : Chunk). h.base) one ∙ is'.based

  module _ (at : ObjectAt) (life : Life) (is : IsObject m.chunks at life) (wordy : IsWordy at) (mapped : OnPages (object_pages c at) (IsMapped m)) (serial cpu index byte : ℕ) (amount : ℤ) (word : IsWordOf c at cpu index byte) where
    added_map : (effect_as c m k (AddWord at serial cpu index amount)).cells ≡ add_word m.frames byte amount m.cells
    added_map = ap (λ b. add_word m.frames b amount m.cells) (ap (λ u. copy_at at u + 4 * index) (get_or_from_slice_get c.units cpu word.unit 0 word.at_unit) ∙ sym word.is)

    all_same : (own : ObjectAt) (cpu' index' : ℕ) → IsOneWord at own cpu cpu' index index' → is_word at cpu index own cpu' index' ≡ true
    all_same own cpu' index' one = grind (arith, same_cpu, nat_tests)

    same_all : (own : ObjectAt) (cpu' index' : ℕ) → is_word at cpu index own cpu' index' ≡ true → IsOneWord at own cpu cpu' index index'
    same_all own cpu' index' h = grind (arith, same_cpu, nat_tests)

    frame : (f : ℕ) × HasFrame m.frames byte f
    frame = word_mapped c m at cpu index byte wordy word mapped

    grown_by : (own : ObjectAt) (life' : Life) (cpu' index' byte' : ℕ) (b : Bool) → is_word at cpu index own cpu' index' ≡ b → IsObject m.chunks own life' → IsWordy own → OnPages (object_pages c own) (IsMapped m) → IsWordOf c own cpu' index' byte'
        → word_at m.frames (add_word m.frames byte amount m.cells) byte' ≡ grown_if b (word_at m.frames m.cells byte') amount
    grown_by own life' cpu' index' byte' true e is' wordy' mapped' word' =
        let one = same_all own cpu' index' e in
        let base = same_base at own life life' is is' one.chunk in
        let units : Some word.unit ≡ Some word'.unit = sym word.at_unit ∙ ap (slice_get c.units) one.same_cpu ∙ word'.at_unit in
        let unit : word.unit ≡ word'.unit = same_Some word.unit word'.unit units in
        let same : byte ≡ byte' = (let off = one.off in let index = one.same_index in let f = word.is in let g = word'.is in omega arith) in
        subst (λ n. word_at m.frames (add_word m.frames byte amount m.cells) n ≡ (word_at m.frames m.cells n +ℤ amount)) same (added_own c.frames m.frames m.cells cells byte frame.0 amount frame.1)
    grown_by own life' cpu' index' byte' false e is' wordy' mapped' word' =
        let frame' = word_mapped c m own cpu' index' byte' wordy' word' mapped' in
        added_other c.frames m.frames m.cells cells byte frame.0 amount frame.1 byte' frame'.0 frame'.1 (word_whole c at cpu index byte wordy word) (word_whole c own cpu' index' byte' wordy' word')
        (λ same. (let one = one_word c m.chunks at own life life' cpu cpu' index index' byte (copies byte) is is' word (subst (IsWordOf c own cpu' index') same word') in let yes = all_same own cpu' index' one in cc))

    -- the word of an object behind the add
    pub grown : (own : ObjectAt) (life' : Life) (cpu' index' byte' : ℕ) → IsObject m.chunks own life' → IsWordy own → OnPages (object_pages c own) (IsMapped m) → IsWordOf c own cpu' index' byte'
        → word_of c (effect_as c m k (AddWord at serial cpu index amount)) own cpu' index' ≡ grown_if (is_word at cpu index own cpu' index') (word_of c m own cpu' index') amount
    grown own life' cpu' index' byte' is' wordy' mapped' word' =
        word_read c (effect_as c m k (AddWord at serial cpu index amount)) own cpu' index' byte' word' ∙ ap (λ l. word_at m.frames l byte') added_map
        ∙ grown_by own life' cpu' index' byte' (is_word at cpu index own cpu' index') refl is' wordy' mapped' word' ∙ ap (λ v. grown_if (is_word at cpu index own cpu' index') v amount) (sym (word_read c m own cpu' index' byte' word'))

-- Words of mapped pages through the sections: they stay, but for an add and where an object is zeroed.

-- A page that is mapped before and behind a section keeps its frame.

pub frame_stays : (c : Setup) (m : PlainMap) (k : ℕ) (s : Section) (page f f' : ℕ) → IsLegalAs c m k s → slice_get m.frames page ≡ Some (Some f) → slice_get (effect_as c m k s).frames page ≡ Some (Some f')
    → slice_get (effect_as c m k s).frames page ≡ slice_get m.frames page
frame_stays c m k s page f f' legal h g = grind (arith, in_row, ungiven, painted, unpainted)

-- the sections that change words
abbrev moves_words : Section → Bool
moves_words (Populate at missing) = true
moves_words (Zero at) = true
moves_words (AddWord at serial cpu index amount) = true
moves_words _ = false

pub same_word : (frames frames' : List (Option ℕ)) (cells : List ℤ) (byte : ℕ) → slice_get frames' (byte / 4096) ≡ slice_get frames (byte / 4096) → word_at frames' cells byte ≡ word_at frames cells byte
same_word frames frames' cells byte e = ap (λ o. read_cell cells (cell_in (joined_option o) byte)) e

pub word_stays : (c : Setup) (m : PlainMap) (k : ℕ) (s : Section) (byte f f' : ℕ) → IsLegalAs c m k s → moves_words s ≡ false → HasFrame m.frames byte f → HasFrame (effect_as c m k s).frames byte f'
    → word_at (effect_as c m k s).frames (effect_as c m k s).cells byte ≡ word_at m.frames m.cells byte
word_stays c m k s byte f f' legal quiet h g = grind (arith, same_word, frame_stays, nat_tests)

-- Where an object is zeroed.

module _ (c : Setup) (frames : List (Option ℕ)) (cells : List ℤ) (own : ObjectAt) (wordy : IsWordy own) where
  abbrev zeroed : List ℤ
  zeroed = zero_words frames (map (λ unit. own.base + unit) c.units) own.off own.bytes cells

  -- its words are 0
  pub zeroed_own : (cpu index byte f : ℕ) → IsWordOf c own cpu index byte → HasFrame frames byte f → word_at frames zeroed byte ≡ pos 0
  zeroed_own cpu index byte f word h =
      let page : ℕ = (own.off + 4 * index) / 4096 in
      let among : is_among (pages_of_object own) page ≡ true = row_in (suc ((own.off + own.bytes - 1) / 4096) - own.off / 4096) (own.off / 4096) page (omega arith) (omega arith) in
      let place = among_in page (pages_of_object own) among in
      let same : byte / 4096 ≡ own.base + word.unit + page = omega arith in
      let inner : ℕ = (byte % 4096) / 4 in
      let unit : slice_get (map (λ unit. own.base + unit) c.units) cpu ≡ Some (own.base + word.unit) = slice_get-map (λ unit. own.base + unit) c.units cpu ∙ ap (option_map (λ unit. own.base + unit)) word.at_unit in
      let frame : frame_of frames (own.base + word.unit + page) ≡ Some f = ap joined_option (ap (slice_get frames) (sym same) ∙ h) in
      word_is frames zeroed byte f h
      ∙ zero_words-own frames own.off own.bytes (own.base + word.unit) page f inner (map (λ unit. own.base + unit) c.units) cells place.place cpu unit place.at frame
      (within_zeroed own.off own.bytes page wordy.start wordy.long inner (omega arith) (omega arith) (omega arith))

  -- and the others stay
  module _ (apart : (page other frame : ℕ) → slice_get frames page ≡ Some (Some frame) → slice_get frames other ≡ Some (Some frame) → page ≡ other) (byte f : ℕ) (word : IsWord byte) (h : HasFrame frames byte f)
      (never : (cpu index : ℕ) → IsWordOf c own cpu index byte → ⊥) where
    abbrev cell : ℕ
    cell = 1024 * f + (byte % 4096) / 4

    elsewhere_by : (cpu unit page frame : ℕ) (o : Option (Option ℕ)) → slice_get c.units cpu ≡ Some unit → slice_get frames (own.base + unit + page) ≡ o → joined_option o ≡ Some frame
        → holds (span (1024 * frame + (words_in_page own.off own.bytes page).start) (words_in_page own.off own.bytes page).pages) cell ≡ true → ⊥
    elsewhere_by cpu unit page frame None at e g hit = cc
    elsewhere_by cpu unit page frame (Some o) at e g hit =
        let r = holds_to (span (1024 * frame + (words_in_page own.off own.bytes page).start) (words_in_page own.off own.bytes page).pages) cell hit in
        let inner : ℕ = cell - 1024 * frame in
        let inside = zeroed_within own.off own.bytes page wordy.start wordy.long inner (holds_from (words_in_page own.off own.bytes page) inner (omega arith) (omega arith)) in
        let one : frame ≡ f = omega arith in
        let there : slice_get frames (own.base + unit + page) ≡ Some (Some frame) = e ∙ ap (λ x. Some x) g in
        let same : own.base + unit + page ≡ byte / 4096 = apart (own.base + unit + page) (byte / 4096) frame there (h ∙ ap (λ n. Some (Some n)) (sym one)) in
        never cpu ((byte - copy_at own unit) / 4) (record { unit = unit; at_unit = at; inside = omega arith; is = omega arith })

    pub zeroed_other : word_at frames zeroed byte ≡ word_at frames cells byte
    zeroed_other =
        word_is frames zeroed byte f h
        ∙ ap (λ o. unwrap_or o (pos 0)) (zero_words-other frames own.off own.bytes cell (map (λ unit. own.base + unit) c.units) cells
        (λ j unit at page frame g hit. (grind (arith, mapped_at, elsewhere_by))))
        ∙ sym (word_is frames cells byte f h)

-- The word of an add and the words of a sum are in their object, and the processor of an add is there.

-- a call of a list is ruled after those before it
ruled_at : (c : Setup) (opening before calls : List Call) (i : ℕ) (call : Call) → AreRuled c opening before calls → slice_get calls i ≡ Some call → IsRuled c opening (before ++ take i calls) call
ruled_at c opening before [] i call ruled h = cc
ruled_at c opening before (x ∷ calls) zero call ruled h = subst (λ l. IsRuled c opening l call) (sym (append-nil before)) (subst (IsRuled c opening before) (same_Some x call h) ruled.0)
ruled_at c opening before (x ∷ calls) (suc i) call ruled h = subst (λ l. IsRuled c opening l call) (append_assoc before (x ∷ []) (take i calls)) (ruled_at c opening (before ++ x ∷ []) calls i call ruled.1 h)

taken_at : {X : Type 0} (xs : List X) (i j : ℕ) (y : X) → slice_get (take i xs) j ≡ Some y → slice_get xs j ≡ Some y
taken_at [] zero j y h = cc
taken_at [] (suc i) j y h = cc
taken_at (x ∷ xs) zero j y h = cc
taken_at (x ∷ xs) (suc i) zero y h = h
taken_at (x ∷ xs) (suc i) (suc j) y h = taken_at xs i j y h

-- a call for an object, of bytes of which P holds
record IsAlloc (P : ℕ → Type 0) (o : Option Call) : Type 0 where
  call : Call
  there : o ≡ Some call
  asked : ℕ
  bytes : call_bytes call ≡ Some (4 * words_for asked)
  fits : P asked

alloc_is : (P : ℕ → Type 0) (o : Option Call) → IsAllocCall P o → IsAlloc P o
alloc_is P o h = grind arith

-- an answer of a caller that made the object
module _ (own : List Call) (l : Local) (sized : IsLocalSized own l) (at : ObjectAt) (serial index j : ℕ) (made : made_in (slice_get l.answers j) ≡ MadeObject at serial) where
  answer_within : (o : Option Call) → ((call : Call) → o ≡ Some call → slice_get own j ≡ Some call) → IsAllocCall (λ bytes. index < words_for bytes) o → 4 * index < at.bytes
  answer_within o from ruled = grind (arith, alloc_is)

module _ (c : Setup) (opening : List Call) (calls : List (List Call)) (trace : IsTrace c opening calls) (w : World) (sized : AreSized opening calls w) (made : AreObjectsMade w) (k : ℕ) (l : Local) (here : slice_get w.locals k ≡ Some l) where
  abbrev before_of : ℕ → List Call
  before_of zero = []
  before_of (suc i) = opening

  own_ruled : (i : ℕ) (own : List Call) → calls_at opening calls i ≡ Some own → AreRuled c (before_of i) [] own
  own_ruled i own e = grind (arith, same_Some)

  -- the word is in the object that the target names
  named_within : (i : ℕ) (own : List Call) (t : Target) (at : ObjectAt) (serial index : ℕ) (b : Bool) → IsLocalSized own l → made_in (slice_get (if b then l.opening else l.answers) (t.call - 1)) ≡ MadeObject at serial
      → IsAllocCall (λ bytes. index < words_for bytes) (slice_get (if b then before_of i else take (length l.answers) own) (t.call - 1)) → 4 * index < at.bytes
  named_within i own t at serial index b is e ruled = grind (arith, answer_within, taken_at)

  pub add_within : (at : ObjectAt) (serial cpu index : ℕ) (amount : ℤ) → l.place ≡ Adding at serial cpu index amount → (cpu < cpus c) × (4 * index < at.bytes)
  add_within at serial cpu index amount e =
      let has = sized.each k l here in
      let used = subst (IsUse l) e has.2.used in
      let call : slice_get has.0 (length l.answers) ≡ Some (Add used.0 cpu index amount) = ap (λ l'. slice_get l' (length l.answers)) (sym has.2.calls) ∙ used.1 in
      let ruled = ruled_at c (before_of k) [] has.0 (length l.answers) (Add used.0 cpu index amount) (own_ruled k has.0 has.1) call in
      (ruled.1, named_within k has.0 used.0 at serial index used.0.opening has.2 used.2 ruled.2)

  pub sum_within : (at : ObjectAt) (serial index : ℕ) → l.place ≡ Summing at serial index → 4 * index < at.bytes
  sum_within at serial index e =
      let has = sized.each k l here in
      let used = subst (IsUse l) e has.2.used in
      let call : slice_get has.0 (length l.answers) ≡ Some (Sum used.0 index) = ap (λ l'. slice_get l' (length l.answers)) (sym has.2.calls) ∙ used.1 in
      let ruled = ruled_at c (before_of k) [] has.0 (length l.answers) (Sum used.0 index) (own_ruled k has.0 has.1) call in
      named_within k has.0 used.0 at serial index used.0.opening has.2 used.2 ruled.1
