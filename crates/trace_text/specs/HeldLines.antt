-- What a reader keeps of the lines so far.
use Rattle.std.specs.Prelude.{◌≡◌, ◌≢◌, ◌<◌, ◌≤◌, ◌+◌, ℕ, suc, Bool, true, false, not, ◌&&◌, ◌||◌, nat_lt, if◌then◌else◌, List, [], ◌++◌, ◌∷◌, length, map, decimal, slice_get, IsTrue, Option, Some, None, is_some, option_map}
use Rattle.std.specs.List.{list_all, range_with_len}
use Rattle.trace_text.specs.declared.progress.Progress.{Progress}
use Rattle.vm_model.specs.declared.calls.Call.{Call}
use Rattle.vm_model.specs.declared.calls.Call.TheVariants as call
use Rattle.vm_model.specs.declared.calls.Target.{Target}
use Rattle.unit_layout.specs.declared.request.GroupSpec.{GroupSpec}
use Rattle.unit_layout.specs.LayoutRule.{processors}
use Rattle.vm_model.specs.Words.{fields, within, is_name, is_number}
use Rattle.trace_text.specs.SpelledLines.{Line, TargetName, spelled, target_text, word_of}
use Rattle.trace_text.specs.Reading.{Reading, Header, Made, Named, AreNamed, calls_of, find_name, aimed_at}
use Rattle.trace_text.specs.Names.{NameTable, place_of}
use Rattle.trace_text.specs.Grammar.{may_stand, read, follows, has_room}

-- the places are those of the calls that a section's names stand for
abbrev pub ArePlaces : NameTable → (List ℕ → Option Named) → Type 0
ArePlaces names find = (name : List ℕ) → option_map suc (place_of names name) ≡ option_map (λ (n : Named). n.number) (find name)

-- the call at a place, and its number
abbrev pub call_at : List Call → Option ℕ → Option (ℕ × Call)
call_at calls None = None
call_at calls (Some place) = option_map (λ c. (suc place, c)) (slice_get calls place)

-- the call that a target may name, and its number: a name of the opening is none in the opening
abbrev pub target_call : Reading → TargetName → Option (ℕ × Call)
target_call r t = if not t.opening || nat_lt 0 r.caller then option_map (λ (n : Named). (n.number, n.call)) (aimed_at r t) else None

-- the header whose lines say these numbers
abbrev pub named_header : (space frames lazy block_pages part_limit unit_pages atom : ℕ) → List GroupSpec → (callers counters batch : ℕ) → Header
named_header space frames lazy block_pages part_limit unit_pages atom groups callers counters batch = record {
  space = space;
  frames = frames;
  lazy = lazy;
  block_pages = block_pages;
  part_limit = part_limit;
  unit_pages = unit_pages;
  atom = atom;
  groups = groups;
  callers = callers;
  counters = counters;
  batch = batch;
}

-- the header that the lines so far say
abbrev pub header_of : Progress → Header
header_of p = named_header p.space p.frames p.lazy p.block_pages p.part_limit p.unit_pages p.atom p.groups.items p.callers p.counters p.batch

-- whether a call line may come here, whatever it asks
abbrev pub has_place : Reading → Bool
has_place r = follows r.rank 10 && has_room r

-- the calls of the callers below a number, from the opening on
abbrev pub sections_below : ℕ → List Made → List (List Call)
sections_below caller calls = map (λ k. calls_of k calls) (range_with_len 0 caller)

-- an object's call asks for a number of bytes
abbrev pub has_size : Call → Bool
has_size (call.AllocPercpu bytes align) = is_number bytes
has_size (call.AllocAtomic bytes align) = is_number bytes
has_size _ = true

-- p has what the lines told, and callers behind the open section have no calls and no names yet
pub record IsHeld (p : Progress) (r : Reading) : Type 0 where
  pub rank : p.rank ≡ r.rank
  pub header : r.header ≡ header_of p
  pub cpus : p.cpus ≡ processors r.header.groups
  pub caller : p.caller ≡ r.caller
  pub among : r.caller ≤ r.header.callers
  pub opening : r.rank < 10 → r.caller ≡ 0
  pub closed : p.closed.items ≡ sections_below r.caller r.calls
  pub calls : p.calls.items ≡ calls_of r.caller r.calls
  pub uncalled : (caller : ℕ) → r.caller < caller → calls_of caller r.calls ≡ []
  pub count : p.lines ≡ length r.calls + length r.counts
  pub counts : p.counts.items ≡ r.counts
  pub picks : p.picks.items ≡ r.picks
  pub names : ArePlaces p.names (find_name r r.caller)
  pub opening_names : 0 < r.caller → ArePlaces p.opening_names (find_name r 0)
  pub named : AreNamed r.calls r.names
  pub sized : IsTrue (list_all (λ (n : Named). has_size n.call) r.names)
  pub unnamed : (caller : ℕ) (name : List ℕ) → r.caller < caller → is_some (find_name r caller name) ≡ false

-- the text is a target of this section, and names this call
pub record NamesCall (r : Reading) (text : List ℕ) (target : Target) (call : Call) : Type 0 where
  pub aim : TargetName
  pub name : IsTrue (is_name aim.name)
  pub spells : text ≡ target_text aim
  pub opening : target.opening ≡ aim.opening
  pub found : target_call r aim ≡ Some (target.call, call)
  pub sized : IsTrue (has_size call)

-- no call has the name that the text is
abbrev pub NamesNone : Reading → List ℕ → Type 0
NamesNone r text = (t : TargetName) → IsTrue (is_name t.name) → text ≡ target_text t → target_call r t ≡ None

-- the text is these picks, 1 to 64 of them, each one of so many callers
pub record ArePicks (callers : ℕ) (text picks : List ℕ) : Type 0 where
  pub spells : text ≡ fields (map decimal picks)
  pub count : IsTrue (within 1 64 (length picks))
  pub each : IsTrue (list_all (within 1 callers) picks)

-- the text is picks, which now stand behind the old ones; or it is none
abbrev pub AddsPicks : ℕ → List ℕ → Bool → List ℕ → List ℕ → Type 0
AddsPicks callers text true old new = (picks : List ℕ) × ArePicks callers text picks × (new ≡ old ++ picks)
AddsPicks callers text false old new = (picks : List ℕ) → ArePicks callers text picks → ⊥

-- a line with this text may stand, and p holds what was read with it; or no line with this text may
abbrev pub Steps : Reading → List ℕ → Bool → Progress → Type 0
Steps r text true p = (l : Line) × (text ≡ fields (spelled l)) × IsTrue (may_stand r l) × IsHeld p (read r l)
Steps r text false p = (l : Line) → IsTrue (may_stand r l) → text ≢ fields (spelled l)

-- the same, where no line with these words has a text that none with it may stand
abbrev pub StepsIn : (List ℕ → Bool) → Reading → List ℕ → Bool → Progress → Type 0
StepsIn words r text true p = Steps r text true p
StepsIn words r text false p = (l : Line) → IsTrue (words (word_of l)) → IsTrue (may_stand r l) → text ≢ fields (spelled l)

-- q has one more call than p
pub record AddsCall (p q : Progress) (c : Call) : Type 0 where
  pub rank : q.rank ≡ 10
  pub header : header_of q ≡ header_of p
  pub cpus : q.cpus ≡ p.cpus
  pub caller : q.caller ≡ p.caller
  pub calls : q.calls.items ≡ p.calls.items ++ c ∷ []
  pub closed : q.closed.items ≡ p.closed.items
  pub counts : q.counts.items ≡ p.counts.items
  pub lines : q.lines ≡ p.lines + 1
  pub picks : q.picks.items ≡ p.picks.items
  pub opening_names : q.opening_names ≡ p.opening_names
