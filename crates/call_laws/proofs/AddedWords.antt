-- An add changes one word, in every world that a legal history leads to.
use Rattle.std.proofs.Common.{◌≡◌, ◌≢◌, ℕ, ◌+◌, ◌*◌, ◌/◌, ◌<◌, Bool, true, false, List, slice_get, slice_index, Option, Some, ℤ, refl, ap, sym, ◌∙◌, subst, arith}
use Rattle.std.proofs.lemmas.Option.{get_or_from_slice_get}
use Rattle.vm_model.specs.declared.calls.Call.{Call}
use Rattle.vm_model.specs.Setup.{Setup, cpus}
use Rattle.vm_model.specs.PlainMap.{Chunk, Object, Life, Lives, is_live}
use Rattle.vm_model.specs.Frames.{joined_option, cell_in, read_cell, add_word, word_at}
use Rattle.vm_model.specs.Chunks.{ObjectAt, copy_at, object_pages}
use Rattle.vm_model.specs.Events.{AddWord}
use Rattle.vm_model.specs.Legal.{IsLegalAs, OnPages, IsMapped}
use Rattle.vm_model.specs.Effects.{effect, effect_as}
use Rattle.vm_model.specs.Places.{Adding}
use Rattle.vm_model.specs.History.{World, Local}
use Rattle.vm_model.specs.LegalHistory.{IsReached, IsNext}
use Rattle.vm_model.specs.Rules.{IsTrace}
use Rattle.vm_model.specs.Laws.{object_at, word_of, is_word, grown_if}
use Rattle.map_laws.proofs.areas.AreaWorlds.{IsLegalStep, event_legal, legally_lasts}
use Rattle.map_laws.proofs.blocks.BlockFacts.{to_same}
use Rattle.map_laws.proofs.FrameWords.{HaveCells, have_cells_section, have_cells_first, AreCells, HasFrame, added_other}
use Rattle.map_laws.proofs.Deeds.{adds_at}
use Rattle.map_laws.proofs.KeptThroughSteps.{IsFramed, there}
use Rattle.map_laws.proofs.SizedCalls.{IsNow, AreSized, sized_lasts, sized_first}
use Rattle.map_laws.proofs.objects.ObjectFacts.{IsObject, object_only}
use Rattle.map_laws.proofs.MapLaws.{objects_mapped}
use Rattle.map_laws.proofs.objects.ObjectsReady.{named_live}
use Rattle.map_laws.proofs.objects.ObjectWords.{IsWordOf, IsWordy, word_whole, word_mapped, one_word, add_within}
use Rattle.map_laws.proofs.TraceWorlds.{SomeonePlaces, IsTraceWorld, trace_reached}
use Rattle.map_laws.proofs.SumLaws.{sums_are_the_adds}
use Rattle.call_laws.specs.Adds.{AddsChangeOneWord}

module _ (c : Setup) (opening : List Call) (calls : List (List Call)) (trace : IsTrace c opening calls) (w : World) (reached : IsReached c opening calls w) where
  framed : IsFramed c w
  framed = (trace_reached c opening calls trace w reached).0

  world : IsTraceWorld c w
  world = (trace_reached c opening calls trace w reached).1

  cells : HaveCells c w.map
  cells = (legally_lasts c calls (λ v. HaveCells c v.map) (record {
    steps = λ v k l s framed has step. subst (λ d. HaveCells c (effect_as d v.map l.caller s)) (sym (framed.own k l step.step.here).setup) (have_cells_section c v.map l.caller s has);
    joins = λ v framed one has over. has;
  }) opening (have_cells_first c opening calls) w reached).1

  are : AreCells c.frames w.map.frames w.map.cells
  are = record { own = world.clean.own.own; few = cells.few; long = cells.long }

  sized : AreSized opening calls w
  sized = (legally_lasts c calls (AreSized opening calls) (sized_lasts c opening calls) opening (sized_first c opening calls) w reached).1

  wordy : (at : ObjectAt) (life : Life) → IsObject w.map.chunks at life → IsWordy at
  wordy at life is =
      let shape = (world.objects.fine.each is.chunk is.there).shaped is.object is.object_there in
      record { start = record { word = shape.bit; at = sym is.off ∙ shape.at }; long = record { word = _; at = sym is.bytes ∙ shape.whole } }

  module _ (caller serial cpu index : ℕ) (at : ObjectAt) (amount : ℤ) (next : IsNext w (record { caller = caller; section = AddWord at serial cpu index amount })) where
    abbrev l : Local
    l = (event_legal w (record { caller = caller; section = AddWord at serial cpu index amount }) next).0

    step : IsLegalStep w caller l (AddWord at serial cpu index amount)
    step = (event_legal w (record { caller = caller; section = AddWord at serial cpu index amount }) next).1

    here : slice_get w.locals caller ≡ Some l
    here = step.step.here

    setup : l.setup ≡ c
    setup = (framed.own caller l here).setup

    place : l.place ≡ Adding at serial cpu index amount
    place = grind (arith, adds_at, setup, step)

    target : IsObject w.map.chunks at (Lives serial)
    target = named_live c trace.setup w framed world caller l here at serial (subst (IsNow l) place (world.uses.now caller l here))

    mapped : OnPages (object_pages c at) (IsMapped w.map)
    mapped = (subst (λ d. IsLegalAs d w.map caller (AddWord at serial cpu index amount)) setup step.legal).1

    within : (cpu < cpus c) × (4 * index < at.bytes)
    within = add_within c opening calls trace w sized world.uses caller l here at serial cpu index amount place

    byte_at : (own : ObjectAt) (cpu index : ℕ) → cpu < cpus c → 4 * index < own.bytes → (byte : ℕ) × IsWordOf c own cpu index byte × (copy_at own (slice_index c.units cpu) + 4 * index ≡ byte)
    byte_at own cpu index low inside =
        let unit = there c.units cpu low in
        (copy_at own unit.0 + 4 * index, record { unit = unit.0; at_unit = unit.1; inside = inside; is = refl }, ap (λ u. copy_at own u + 4 * index) (get_or_from_slice_get c.units cpu unit.0 0 unit.1))

    word : (byte : ℕ) × IsWordOf c at cpu index byte × (copy_at at (slice_index c.units cpu) + 4 * index ≡ byte)
    word = byte_at at cpu index within.0 within.1

    framed_word : (f : ℕ) × HasFrame w.map.frames word.0 f
    framed_word = word_mapped c w.map at cpu index word.0 (wordy at (Lives serial) target) word.1 mapped

    -- of an object that isn't live
    module _ (i j cpu' index' : ℕ) (h : Chunk) (o : Object) (h_there : slice_get w.map.chunks i ≡ Some h) (o_there : slice_get h.objects j ≡ Some o) (low : cpu' < cpus c) (inside : 4 * index' < o.bytes) (idle : is_live o.life ≡ false) where
      object : IsObject w.map.chunks (object_at h o) o.life
      object = grind (arith, there, place)

      -- it isn't the object of the add
      apart : at.chunk ≡ h.number → at.off ≡ o.off → ⊥
      apart e f =
          let same = object_only c (SomeonePlaces w) w.map.chunks world.objects.fine at (Lives serial) target h o (record { place = i; at = h_there }) (sym e) (record { place = j; at = o_there }) (sym f) in
          let life : o.life ≡ Lives serial = ap (λ (x : Object). x.life) same ∙ target.lives in
          let alive : is_live o.life ≡ true = ap is_live life in cc

      word' : (byte : ℕ) × IsWordOf c (object_at h o) cpu' index' byte × (copy_at (object_at h o) (slice_index c.units cpu') + 4 * index' ≡ byte)
      word' = byte_at (object_at h o) cpu' index' low inside

      other_byte : word'.0 ≢ word.0
      other_byte same =
          let one = one_word c w.map.chunks at (object_at h o) (Lives serial) o.life cpu cpu' index index' word.0 ((objects_mapped c opening calls w trace reached).copies word.0) target object word.1 (subst (IsWordOf c (object_at h o) cpu' index') same word'.1) in
          apart one.chunk one.off

      abbrev cells_after : List ℤ
      cells_after = add_word w.map.frames word.0 amount w.map.cells

      by_frame : (f : Option (Option ℕ)) → slice_get w.map.frames (word'.0 / 4096) ≡ f → word_at w.map.frames cells_after word'.0 ≡ word_at w.map.frames w.map.cells word'.0
      by_frame (Some (Some f)) e = added_other c.frames w.map.frames w.map.cells are word.0 framed_word.0 amount framed_word.1 word'.0 f e
          (word_whole c at cpu index word.0 (wordy at (Lives serial) target) word.1) (word_whole c (object_at h o) cpu' index' word'.0 (wordy (object_at h o) o.life object) word'.1) other_byte
      by_frame _ e = ap (λ x. read_cell cells_after (cell_in (joined_option x) word'.0)) e ∙ sym (ap (λ x. read_cell w.map.cells (cell_in (joined_option x) word'.0)) e)

      unchanged : word_of c (effect c w.map (record { caller = caller; section = AddWord at serial cpu index amount })) (object_at h o) cpu' index' ≡ word_of c w.map (object_at h o) cpu' index'
      unchanged =
          ap (λ b. word_at w.map.frames (add_word w.map.frames b amount w.map.cells) (copy_at (object_at h o) (slice_index c.units cpu') + 4 * index')) word.2
          ∙ ap (λ b. word_at w.map.frames cells_after b) word'.2 ∙ by_frame (slice_get w.map.frames (word'.0 / 4096)) refl ∙ sym (ap (λ b. word_at w.map.frames w.map.cells b) word'.2)

      not_it : is_word at cpu index (object_at h o) cpu' index' ≡ false
      not_it = grind (arith, apart, to_same)

      pub in_hand : word_of c (effect c w.map (record { caller = caller; section = AddWord at serial cpu index amount })) (object_at h o) cpu' index'
          ≡ grown_if (is_word at cpu index (object_at h o) cpu' index') (word_of c w.map (object_at h o) cpu' index') amount
      in_hand = unchanged ∙ sym (ap (λ b. grown_if b (word_of c w.map (object_at h o) cpu' index') amount) not_it)

pub adds_change_one_word : AddsChangeOneWord
adds_change_one_word c opening calls w trace reached = record {
  words = λ caller serial cpu index at amount next i j cpu' index' h o h_there o_there low inside. by_life caller serial cpu index at amount next i j cpu' index' h o h_there o_there low inside (is_live o.life) refl;
}
  where
    by_life : (caller serial cpu index : ℕ) (at : ObjectAt) (amount : ℤ) → IsNext w (record { caller = caller; section = AddWord at serial cpu index amount })
        → (i j cpu' index' : ℕ) (h : Chunk) (o : Object) → slice_get w.map.chunks i ≡ Some h → slice_get h.objects j ≡ Some o → cpu' < cpus c → 4 * index' < o.bytes → (b : Bool) → is_live o.life ≡ b
        → word_of c (effect c w.map (record { caller = caller; section = AddWord at serial cpu index amount })) (object_at h o) cpu' index'
        ≡ grown_if (is_word at cpu index (object_at h o) cpu' index') (word_of c w.map (object_at h o) cpu' index') amount
    by_life caller serial cpu index at amount next i j cpu' index' h o h_there o_there low inside true alive =
        (sums_are_the_adds c opening calls w trace reached).one_word caller serial cpu index at amount next i j cpu' index' h o h_there o_there alive low inside
    by_life caller serial cpu index at amount next i j cpu' index' h o h_there o_there low inside false idle =
        in_hand c opening calls trace w reached caller serial cpu index at amount next i j cpu' index' h o h_there o_there low inside idle
