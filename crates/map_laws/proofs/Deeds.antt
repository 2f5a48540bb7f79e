-- What a section is for is known from the ask that it meets.
use Rattle.std.proofs.Common.{◌≡◌, ◌≢◌, ℕ, List, [], ◌∷◌, Option, refl, sym, subst, ℤ, arith}
use Rattle.vm_model.specs.declared.areas.Span.{Span}
use Rattle.vm_model.specs.declared.areas.Area.{Area}
use Rattle.vm_model.specs.declared.calls.Reply.{Reply}
use Rattle.vm_model.specs.Setup.{Setup}
use Rattle.vm_model.specs.Chunks.{ObjectAt}
use Rattle.vm_model.specs.Events.{Section, Drop, Return, Remove, Unlink, TakeWaiting, Populate, Zero, AddWord, SumWords, SettleObject}
use Rattle.vm_model.specs.Places.{Place, Zeroing, Adding, Summing, SettlingObject, SettlingAtomic, Dropping, Removing, PurgeUnlinking, UnlinkingBlock, UnlinkingGroups, PurgeCollecting, PurgeReturning, Populating, Then, Ask, AskDrop, AskReturn, AskRemove, AskUnlink, AskTakeWaiting, AskPopulate, AskZero, AskAdd, AskSum, AskSettleObject, ask, group_starts}
use Rattle.map_laws.proofs.AskRows.{ask_row}
use Rattle.vm_model.specs.LegalHistory.{Meets}

-- the sections that mark pages free, take areas out, take what waits, give an object frames, or are of its words or life
pub data Deed : Type 0 where
  Drops : Deed
  Returns : Deed
  Removes : Deed
  Unlinks : Deed
  Collects : Deed
  Populates : Deed
  Zeroes : Deed
  Adds : Deed
  Sums : Deed
  Settles : Deed
  Others : Deed

abbrev pub asked : Ask → Deed
asked (AskDrop s) = Drops
asked (AskReturn spans) = Returns
asked (AskRemove start serial) = Removes
asked (AskUnlink starts) = Unlinks
asked AskTakeWaiting = Collects
asked (AskPopulate at missing) = Populates
asked (AskZero at) = Zeroes
asked (AskAdd at serial cpu index amount) = Adds
asked (AskSum at serial index) = Sums
asked (AskSettleObject at) = Settles
asked _ = Others

abbrev pub deed : Section → Deed
deed (Drop s) = Drops
deed (Return spans) = Returns
deed (Remove start serial area) = Removes
deed (Unlink starts) = Unlinks
deed (TakeWaiting all) = Collects
deed (Populate at missing) = Populates
deed (Zero at) = Zeroes
deed (AddWord at serial cpu index amount) = Adds
deed (SumWords at serial index total) = Sums
deed (SettleObject at serial) = Settles
deed _ = Others

was_asked : (c : Setup) (a : Ask) (s : Section) (d : Deed) → Meets c a s → deed s ≡ d → d ≢ Others → asked a ≡ d
was_asked c a s d w h n = grind (arith, ask_row)

-- The places at which a caller does these.

pub drops_at : (c : Setup) (p : Place) (s : Span) → Meets c (ask c p) (Drop s) → p ≡ Dropping s
drops_at c p s w = grind (arith, was_asked)

-- a return, with what follows the purge
pub returns_at : (c : Setup) (p : Place) (spans : List Span) → Meets c (ask c p) (Return spans) → (after : Then) × (p ≡ PurgeReturning spans after)
returns_at c p spans w = grind (arith, was_asked)

pub removes_at : (c : Setup) (p : Place) (start serial : ℕ) (area : Area) → Meets c (ask c p) (Remove start serial area) → p ≡ Removing start serial
removes_at c p start serial area w = grind (arith, was_asked)

-- the areas of blocks, and those of a chunk
pub data UnlinksAt (c : Setup) (starts : List ℕ) : Place → Type 0 where
  OfPurge : (extra : Option Span) (after : Then) → UnlinksAt c starts (PurgeUnlinking starts extra after)
  OfBlock : (start : ℕ) (reply : Reply) → starts ≡ start ∷ [] → UnlinksAt c starts (UnlinkingBlock start reply)
  OfGroups : (base : ℕ) → starts ≡ group_starts c base → UnlinksAt c starts (UnlinkingGroups base)

pub unlinks_at : (c : Setup) (p : Place) (starts : List ℕ) → Meets c (ask c p) (Unlink starts) → UnlinksAt c starts p
unlinks_at c (PurgeUnlinking gone extra after) starts w = let e : gone ≡ starts = cc in subst (λ g. UnlinksAt c starts (PurgeUnlinking g extra after)) (sym e) (OfPurge extra after)
unlinks_at c (UnlinkingBlock start reply) starts w = let e : starts ≡ start ∷ [] = cc in OfBlock start reply e
unlinks_at c (UnlinkingGroups base) starts w = let e : starts ≡ group_starts c base = cc in OfGroups base e
unlinks_at c p starts w = let e = was_asked c (ask c p) (Unlink starts) Unlinks w refl (λ e. cc) in cc

pub collects_at : (c : Setup) (p : Place) (all : List Span) → Meets c (ask c p) (TakeWaiting all) → (extra : Option Span) × (after : Then) × (p ≡ PurgeCollecting extra after)
collects_at c p all w = grind (arith, was_asked)

pub populates_at : (c : Setup) (p : Place) (at : ObjectAt) (missing : List ℕ) → Meets c (ask c p) (Populate at missing) → p ≡ Populating at missing
populates_at c p at missing w = grind (arith, was_asked)

pub zeroes_at : (c : Setup) (p : Place) (at : ObjectAt) → Meets c (ask c p) (Zero at) → p ≡ Zeroing at
zeroes_at c p at w = grind (arith, was_asked)

pub adds_at : (c : Setup) (p : Place) (at : ObjectAt) (serial cpu index : ℕ) (amount : ℤ) → Meets c (ask c p) (AddWord at serial cpu index amount) → p ≡ Adding at serial cpu index amount
adds_at c p at serial cpu index amount w = grind (arith, was_asked)

pub sums_at : (c : Setup) (p : Place) (at : ObjectAt) (serial index : ℕ) (total : ℤ) → Meets c (ask c p) (SumWords at serial index total) → p ≡ Summing at serial index
sums_at c p at serial index total w = grind (arith, was_asked)

-- an object becomes live at the end of its call
pub data SettlesAt (at : ObjectAt) : Place → Type 0 where
  Populated : SettlesAt at (SettlingObject at)
  Zeroed : SettlesAt at (SettlingAtomic at)

pub settles_at : (c : Setup) (p : Place) (at : ObjectAt) (serial : ℕ) → Meets c (ask c p) (SettleObject at serial) → SettlesAt at p
settles_at c (SettlingObject own) at serial w = let same = w.1 in let e : at ≡ own = cc in subst (λ x. SettlesAt at (SettlingObject x)) e Populated
settles_at c (SettlingAtomic own) at serial w = let same = w.1 in let e : at ≡ own = cc in subst (λ x. SettlesAt at (SettlingAtomic x)) e Zeroed
settles_at c p at serial w = let e = was_asked c (ask c p) (SettleObject at serial) Settles w refl (λ e. cc) in cc
