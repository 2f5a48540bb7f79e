-- The replies and how many of each kind there are.
use Rattle.std.specs.Prelude.{◌≡◌, ◌<◌, ◌+◌, ◌^◌, ℕ, Bool, true, false, List, [], ◌∷◌, ◌++◌, length, codes, decimal, count_by}
use Rattle.vm_model.specs.declared.calls.Entry.{Entry}
use Rattle.vm_model.specs.declared.calls.Reply.{Reply}
use Rattle.vm_model.specs.declared.calls.Reply.TheVariants.{Address, Done, Sum, Count, NoSpace, NoFrames, NoAtomic, NotLive, BadSize, BadAlign, Unbound}
use Rattle.report_text.specs.declared.tally.Tally.{Tally}
use Rattle.vm_model.specs.Words.{line}
use Rattle.report_text.specs.Numerals.{reply_words}

-- the caller and the number of the call, its reply, and the event at which it came
abbrev pub entry_line : Entry → List ℕ
entry_line e = line ((decimal e.caller ++ codes "." ++ decimal e.call) ∷ (reply_words e.reply ++ (codes "@" ++ decimal e.event) ∷ []))

-- what a reply counts as
pub data Kind : Type 0 where
  Good : Kind
  SpaceWanting : Kind
  FramesWanting : Kind
  AtomicWanting : Kind
  Dead : Kind
  Refused : Kind

abbrev pub kind_of : Reply → Kind
kind_of (Address a) = Good
kind_of Done = Good
kind_of (Sum n) = Good
kind_of (Count n) = Good
kind_of NoSpace = SpaceWanting
kind_of NoFrames = FramesWanting
kind_of NoAtomic = AtomicWanting
kind_of NotLive = Dead
kind_of BadSize = Refused
kind_of BadAlign = Refused
kind_of Unbound = Refused

abbrev pub is_kind : Kind → Kind → Bool
is_kind Good Good = true
is_kind SpaceWanting SpaceWanting = true
is_kind FramesWanting FramesWanting = true
is_kind AtomicWanting AtomicWanting = true
is_kind Dead Dead = true
is_kind Refused Refused = true
is_kind _ _ = false

-- how many replies are of a kind
abbrev pub count_of : Kind → List Entry → ℕ
count_of kind entries = count_by (λ (e : Entry). is_kind kind (kind_of e.reply)) entries

-- the replies, counted
abbrev pub tally_of : List Entry → Tally
tally_of entries = record {
  ok = count_of Good entries;
  no_space = count_of SpaceWanting entries;
  no_frames = count_of FramesWanting entries;
  no_atomic = count_of AtomicWanting entries;
  not_live = count_of Dead entries;
  refused = count_of Refused entries;
}

-- how many calls there are, and how many of each kind
abbrev pub counts_line : ℕ → Tally → List ℕ
counts_line calls t = line (codes "tally" ∷ codes "calls" ∷ decimal calls ∷ codes "ok" ∷ decimal t.ok ∷ codes "no-space" ∷ decimal t.no_space ∷ codes "no-frames" ∷ decimal t.no_frames
    ∷ codes "no-atomic" ∷ decimal t.no_atomic ∷ codes "not-live" ∷ decimal t.not_live ∷ codes "refused" ∷ decimal t.refused ∷ [])

abbrev pub tally_line : List Entry → List ℕ
tally_line entries = counts_line (length entries) (tally_of entries)

-- each count can rise
pub record IsRoomy (t : Tally) : Type 0 where
  pub ok : t.ok + 1 < 2 ^ 64
  pub no_space : t.no_space + 1 < 2 ^ 64
  pub no_frames : t.no_frames + 1 < 2 ^ 64
  pub no_atomic : t.no_atomic + 1 < 2 ^ 64
  pub not_live : t.not_live + 1 < 2 ^ 64
  pub refused : t.refused + 1 < 2 ^ 64

abbrev pub one_if : Bool → ℕ
one_if true = 1
one_if false = 0

-- a reply of this kind is counted once, and under no other kind
pub record Counts (old new : Tally) (kind : Kind) : Type 0 where
  pub ok : new.ok ≡ old.ok + one_if (is_kind Good kind)
  pub no_space : new.no_space ≡ old.no_space + one_if (is_kind SpaceWanting kind)
  pub no_frames : new.no_frames ≡ old.no_frames + one_if (is_kind FramesWanting kind)
  pub no_atomic : new.no_atomic ≡ old.no_atomic + one_if (is_kind AtomicWanting kind)
  pub not_live : new.not_live ≡ old.not_live + one_if (is_kind Dead kind)
  pub refused : new.refused ≡ old.refused + one_if (is_kind Refused kind)
