-- What callers carry beside their places, from one place to the next.
use Rattle.std.proofs.Common.{◌≡◌, ℕ, suc, ◌+◌, ◌≤◌, map, slice_get, Bool, true, false, nat_lt, if◌then◌else◌, All, List, [], ◌∷◌, ◌++◌, length, Option, Some, None, option_to_list, refl, arith, length-append}
use Rattle.std.proofs.lemmas.Bool.Decides.{nat_tests}
use Rattle.std.proofs.lemmas.List.Elements.{All-append, All-nil, All-cons}
use Rattle.vm_model.specs.declared.areas.Span.{Span}
use Rattle.vm_model.specs.declared.calls.Reply.TheVariants as reply
use Rattle.vm_model.specs.Space.{span, hull}
use Rattle.vm_model.specs.Setup.{Setup, cpus, groups_at}
use Rattle.vm_model.specs.Rules.{IsSetup}
use Rattle.lazy_purge.specs.WaitingSet.{HasPage}
use Rattle.vm_model.specs.Places as model
use Rattle.vm_model.specs.Places.{Then, ReplyWith}
use Rattle.vm_model.specs.Next.{Go, after_fragments}
use Rattle.callers.specs.declared.place.Place.{Place}
use Rattle.callers.specs.declared.place.Place.TheVariants as place
use Rattle.callers.specs.CarriedPlaces.{Carried, place_of, EndsWithin, IsExtra, AreRanges, IsWhole}
use Rattle.callers.proofs.Hulls.{hull_in}

-- the lists that a place tells
pub ranges_told : (p : Place) (carried : Carried) (cpu : ℕ) (ranges : List Span) → place_of p carried ≡ model.LookingAtDirty cpu ranges → carried.ranges ≡ ranges
ranges_told (place.LookingAtDirty own) carried cpu ranges e = cc
ranges_told _ carried cpu ranges e = cc

pub gone_told : (p : Place) (carried : Carried) (cpu : ℕ) (gone : List ℕ) (extra : Option Span) (after : Then) → place_of p carried ≡ model.PurgeFragmenting cpu gone extra after → carried.gone ≡ gone
gone_told (place.PurgeFragmenting own more then_) carried cpu gone extra after e = cc
gone_told _ carried cpu gone extra after e = cc

few_in : (o : Option Span) → length (option_to_list o) ≤ 1
few_in None = omega arith
few_in (Some s) = omega arith

-- with the range of one processor more
ranges_then : (c : Setup) (cpu n : ℕ) (ranges : List Span) (b : Bool) → nat_lt (suc cpu) n ≡ b → n ≡ cpus c → length ranges ≤ suc cpu → All (EndsWithin c.space) ranges
    → IsWhole c (if b then model.LookingAtDirty (suc cpu) ranges else model.PurgeTaking (hull ranges) (ReplyWith reply.Done))
ranges_then c cpu n ranges true e many few within = record { there = grind (arith, nat_tests); few = few; within = within }
ranges_then c cpu n ranges false e many few within = hull_in c.space ranges within

pub ranges_more : (c : Setup) (cpu n : ℕ) (ranges : List Span) (range : Option Span) → n ≡ cpus c → AreRanges c cpu ranges → IsExtra c.space range
    → IsWhole c (if nat_lt (suc cpu) n then model.LookingAtDirty (suc cpu) (ranges ++ option_to_list range) else model.PurgeTaking (hull (ranges ++ option_to_list range)) (ReplyWith reply.Done))
ranges_more c cpu n ranges range many are extra =
    ranges_then c cpu n (ranges ++ option_to_list range) (nat_lt (suc cpu) n) refl many
    (let few = are.few in omega (arith, length-append ranges (option_to_list range), few_in range)) (All-append (EndsWithin c.space) ranges (option_to_list range) are.within extra)

-- on from the fragments of a processor
unlinks_then : (c : Setup) (gone : List ℕ) (extra : Option Span) (after : Then) → IsExtra c.space extra → IsWhole c (after_fragments gone extra after)
unlinks_then c [] extra after is = is
unlinks_then c (start ∷ gone) extra after is = is

fragments_then : (c : Setup) (cpu n : ℕ) (gone : List ℕ) (extra : Option Span) (after : Then) (b : Bool) → nat_lt (suc cpu) n ≡ b → n ≡ cpus c → IsExtra c.space extra
    → IsWhole c (if b then model.PurgeFragmenting (suc cpu) gone extra after else after_fragments gone extra after)
fragments_then c cpu n gone extra after true e many is = (grind (arith, nat_tests), is)
fragments_then c cpu n gone extra after false e many is = unlinks_then c gone extra after is

pub fragments_more : (c : Setup) (cpu n : ℕ) (gone : List ℕ) (extra : Option Span) (after : Then) → n ≡ cpus c → IsExtra c.space extra
    → IsWhole c (if nat_lt (suc cpu) n then model.PurgeFragmenting (suc cpu) gone extra after else after_fragments gone extra after)
fragments_more c cpu n gone extra after many is = fragments_then c cpu n gone extra after (nat_lt (suc cpu) n) refl many is

-- a choice of places is a choice of ways
pub goes_to : (b : Bool) (p q : model.Place) → Go (if b then p else q) ≡ (if b then Go p else Go q)
goes_to true p q = refl
goes_to false p q = refl

-- each span of a chunk's groups has a page
pub groups_have_pages : (c : Setup) → IsSetup c → (base : ℕ) → All HasPage (groups_at c base)
groups_have_pages c is base = each c.groups is.groups.pages
  where
    each : (groups : List Span) → ((i : ℕ) (s : Span) → slice_get groups i ≡ Some s → 1 ≤ s.pages) → All HasPage (map (λ (g : Span). span (base + g.start) g.pages) groups)
    each [] pages = All-nil HasPage
    each (g ∷ groups) pages = All-cons HasPage (span (base + g.start) g.pages) (map (λ (h : Span). span (base + h.start) h.pages) groups) (pages 0 g refl) (each groups (λ i s at. pages (suc i) s at))
