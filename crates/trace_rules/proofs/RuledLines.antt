-- Each call of a trace may stand after those before it: what holds after each line.
use Rattle.std.proofs.Common.{◌≡◌, ℕ, suc, ◌<◌, ◌≤◌, Bool, true, false, not, ◌&&◌, List, [], refl, ap, ◌∙◌, sym, subst, arith}
use Rattle.std.specs.Prelude.{ℤ}
use Rattle.std.proofs.lemmas.Bool.{and_parts, ltb-true}
use Rattle.vm_model.specs.declared.calls.Call.{Call}
use Rattle.vm_model.specs.declared.calls.Call.TheVariants as call
use Rattle.vm_model.specs.Setup.{cpus}
use Rattle.vm_model.specs.Calls.{words_for}
use Rattle.vm_model.specs.Words.{is_name, is_number, is_amount}
use Rattle.vm_model.specs.Rules.{IsVmallocCall, IsMapRamCall, IsAllocCall, AreRuled}
use Rattle.trace_text.specs.SpelledLines.{Line, TargetName, GroupOf, Vmalloc, Vfree, MapRam, UnmapRam, UnmapAliases, AllocPercpu, AllocAtomic, FreePercpu, Add, Sum, Balance}
use Rattle.trace_text.specs.Reading.{Reading, AreNamed, unread, calls_of, calls_before, cpus_of, target_of, with_call, with_name}
use Rattle.trace_text.specs.Grammar.{may_stand, read, has_room, is_new, is_cpu, aims, is_vmalloc, is_map_ram, is_object, has_word}
use Rattle.trace_text.proofs.NameProofs.{named-read}
use Rattle.section_laws.specs.Lawful.{IsSmall}
use Rattle.trace_rules.proofs.TraceLines.{place, spelling, rule}
use Rattle.trace_rules.proofs.SmallCalls.{AreSmallLines, lines-append}
use Rattle.trace_rules.proofs.AllSections.{opening_before, AreAllRuled, MayBeNext, one_more, none_ruled}
use Rattle.trace_rules.proofs.NamedTargets.{AreNumbered, numbered-append, vmalloc_is, map_ram_is, object_is, word_is, aimed}

-- what holds after each line: before the lines of calls there are none
pub record IsRuledSoFar (r : Reading) : Type 0 where
  pub uncalled : r.rank < 10 → (r.calls ≡ []) × (r.names ≡ [])
  pub named : AreNamed r.calls r.names
  pub numbered : AreNumbered r.names
  pub small : AreSmallLines r.calls
  pub ruled : AreAllRuled r

-- a line that is no call's and no group's
unchanged : (r : Reading) (l : Line) → may_stand r l ≡ true → (read r l).calls ≡ r.calls → (read r l).names ≡ r.names → cpus_of (read r l).header ≡ cpus_of r.header → IsRuledSoFar r → IsRuledSoFar (read r l)
unchanged r l h calls names same is = record {
  uncalled = λ early. let at = place r l h in let none = is.uncalled (omega arith) in (calls ∙ none.0, names ∙ none.1);
  named = subst (λ ns. AreNamed (read r l).calls ns) (sym names) (subst (λ cs. AreNamed cs r.names) (sym calls) is.named);
  numbered = subst AreNumbered (sym names) is.numbered;
  small = subst AreSmallLines (sym calls) is.small;
  ruled = λ c many caller. subst (λ cs. AreRuled c (opening_before caller cs) [] (calls_of caller cs)) (sym calls) (is.ruled c (many ∙ same) caller);
}

-- where no line is a call's yet
before_calls : (r : Reading) → r.calls ≡ [] → r.names ≡ [] → IsRuledSoFar r
before_calls r calls names = record {
  uncalled = λ early. (calls, names);
  named = subst (AreNamed r.calls) (sym names) tt;
  numbered = subst AreNumbered (sym names) tt;
  small = subst AreSmallLines (sym calls) tt;
  ruled = λ c many caller. subst (λ cs. AreRuled c (opening_before caller cs) [] (calls_of caller cs)) (sym calls) (none_ruled c caller);
}

-- a line of a call
called : (r : Reading) (l : Line) (x : Call) → IsRuledSoFar r → 10 ≤ (read r l).rank → (read r l).header ≡ r.header → (read r l).calls ≡ (with_call r x).calls → AreNumbered (read r l).names → IsSmall x
    → MayBeNext r x → IsRuledSoFar (read r l)
called r l x s late header calls numbered small is = record {
  uncalled = λ early. absurd (omega arith);
  named = named-read r l s.named;
  numbered = numbered;
  small = subst AreSmallLines (sym calls) (lines-append r.calls (record { caller = r.caller; call = x }) s.small small);
  ruled = λ c many caller.
      subst (λ cs. AreRuled c (opening_before caller cs) [] (calls_of caller cs)) (sym calls) (one_more r x s.ruled is c (many ∙ ap cpus_of header) caller);
}

-- a name more
named_more : (r : Reading) (name : List ℕ) (x : Call) → IsRuledSoFar r → AreNumbered (with_name r name x).names
named_more r name x s = numbered-append r.names (record { caller = r.caller; name = name; number = suc (calls_before r); call = x }) s.numbered (omega arith)

-- the calls that have a rule
is_false : (b : Bool) → not b ≡ true → b ≡ false
is_false true e = cc
is_false false e = refl

next_vfree : (r : Reading) (t : TargetName) → IsRuledSoFar r → may_stand r (Vfree t) ≡ true → MayBeNext r (call.Vfree (target_of r t))
next_vfree r t s h c many = aimed IsVmallocCall is_vmalloc vmalloc_is r t s.named s.numbered (and_parts (aims r is_vmalloc t) (has_room r) (rule r (Vfree t) h)).0

next_map_ram : (r : Reading) (name : List ℕ) (cpu pages : ℕ) → may_stand r (MapRam name cpu pages) ≡ true → MayBeNext r (call.MapRam cpu pages)
next_map_ram r name cpu pages h c many =
    let asked = and_parts (is_new r name && is_cpu r cpu) (has_room r) (rule r (MapRam name cpu pages) h) in
    subst (λ n. cpu < n) (sym many) (ltb-true cpu (cpus_of r.header) (and_parts (is_new r name) (is_cpu r cpu) asked.0).1)

next_unmap_ram : (r : Reading) (t : TargetName) → IsRuledSoFar r → may_stand r (UnmapRam t) ≡ true → MayBeNext r (call.UnmapRam (target_of r t))
next_unmap_ram r t s h c many = aimed IsMapRamCall is_map_ram map_ram_is r t s.named s.numbered (and_parts (aims r is_map_ram t) (has_room r) (rule r (UnmapRam t) h)).0

next_free : (r : Reading) (t : TargetName) → IsRuledSoFar r → may_stand r (FreePercpu t) ≡ true → MayBeNext r (call.FreePercpu (target_of r t))
next_free r t s h c many =
    let asked = and_parts (not t.opening) (aims r is_object t) (and_parts (not t.opening && aims r is_object t) (has_room r) (rule r (FreePercpu t) h)).0 in
    let names = aimed (IsAllocCall (λ bytes. Unit {0})) is_object object_is r t s.named s.numbered asked.1 in
    (names.0, is_false t.opening asked.0, names.1)

next_add : (r : Reading) (t : TargetName) (cpu index : ℕ) (amount : ℤ) → IsRuledSoFar r → may_stand r (Add t cpu index amount) ≡ true → MayBeNext r (call.Add (target_of r t) cpu index amount)
next_add r t cpu index amount s h c many =
    let asked = and_parts (aims r (has_word index) t) (is_cpu r cpu) (and_parts (aims r (has_word index) t && is_cpu r cpu) (has_room r) (rule r (Add t cpu index amount) h)).0 in
    let names = aimed (IsAllocCall (λ bytes. index < words_for bytes)) (has_word index) (word_is index) r t s.named s.numbered asked.0 in
    (names.0, subst (λ n. cpu < n) (sym many) (ltb-true cpu (cpus_of r.header) asked.1), names.1)

next_sum : (r : Reading) (t : TargetName) (index : ℕ) → IsRuledSoFar r → may_stand r (Sum t index) ≡ true → MayBeNext r (call.Sum (target_of r t) index)
next_sum r t index s h c many =
    aimed (IsAllocCall (λ bytes. index < words_for bytes)) (has_word index) (word_is index) r t s.named s.numbered (and_parts (aims r (has_word index) t) (has_room r) (rule r (Sum t index) h)).0

small_add : (r : Reading) (t : TargetName) (cpu index : ℕ) (amount : ℤ) → may_stand r (Add t cpu index amount) ≡ true → IsSmall (call.Add (target_of r t) cpu index amount)
small_add r t cpu index amount h = (and_parts (is_name t.name && is_number cpu && is_number index) (is_amount amount) (spelling r (Add t cpu index amount) h)).1

pub line_ruled : (r : Reading) (l : Line) → may_stand r l ≡ true → IsRuledSoFar r → IsRuledSoFar (read r l)
line_ruled r (GroupOf cpus offset) h s =
    let none = s.uncalled (let at = place r (GroupOf cpus offset) h in omega arith) in
    before_calls (read r (GroupOf cpus offset)) none.0 none.1
line_ruled r (Vmalloc name bytes align) h s = called r (Vmalloc name bytes align) (call.Vmalloc bytes align) s (omega arith) refl refl (named_more r name (call.Vmalloc bytes align) s) tt (λ c many. tt)
line_ruled r (Vfree t) h s = called r (Vfree t) (call.Vfree (target_of r t)) s (omega arith) refl refl s.numbered tt (next_vfree r t s h)
line_ruled r (MapRam name cpu pages) h s = called r (MapRam name cpu pages) (call.MapRam cpu pages) s (omega arith) refl refl (named_more r name (call.MapRam cpu pages) s) tt (next_map_ram r name cpu pages h)
line_ruled r (UnmapRam t) h s = called r (UnmapRam t) (call.UnmapRam (target_of r t)) s (omega arith) refl refl s.numbered tt (next_unmap_ram r t s h)
line_ruled r UnmapAliases h s = called r UnmapAliases call.UnmapAliases s (omega arith) refl refl s.numbered tt (λ c many. tt)
line_ruled r (AllocPercpu name bytes align) h s = called r (AllocPercpu name bytes align) (call.AllocPercpu bytes align) s (omega arith) refl refl (named_more r name (call.AllocPercpu bytes align) s) tt (λ c many. tt)
line_ruled r (AllocAtomic name bytes align) h s = called r (AllocAtomic name bytes align) (call.AllocAtomic bytes align) s (omega arith) refl refl (named_more r name (call.AllocAtomic bytes align) s) tt (λ c many. tt)
line_ruled r (FreePercpu t) h s = called r (FreePercpu t) (call.FreePercpu (target_of r t)) s (omega arith) refl refl s.numbered tt (next_free r t s h)
line_ruled r (Add t cpu index amount) h s = called r (Add t cpu index amount) (call.Add (target_of r t) cpu index amount) s (omega arith) refl refl s.numbered (small_add r t cpu index amount h) (next_add r t cpu index amount s h)
line_ruled r (Sum t index) h s = called r (Sum t index) (call.Sum (target_of r t) index) s (omega arith) refl refl s.numbered tt (next_sum r t index s h)
line_ruled r Balance h s = called r Balance call.Balance s (omega arith) refl refl s.numbered tt (λ c many. tt)
line_ruled r l h s = unchanged r l h refl refl refl s

pub ruled_first : IsRuledSoFar unread
ruled_first = before_calls unread refl refl
