-- What a section over one region answers and leaves.
use Rattle.std.specs.Prelude.{◌≡◌, ◌≢◌, [], true, false, IsSomeAnd}
use Rattle.vm_model.specs.Events.{Section, Carve, CarveGroups, Drop, Return, Settle, Wait, AddBlock, Fragment, AddChunk}
use Rattle.vm_model.specs.History.{Local, section_of}
use Rattle.vm_model.specs.Parts.{Region, map_with, moves, after}
use Rattle.section_core.specs.declared.region.Stepped.{Stepped}
use Rattle.section_core.specs.declared.region.Stepped.TheVariants.{Moved, Stays, Ended}

-- the section moves, and these are the two values that it leaves
pub record IsMoved (l : Local) (r : Region) (l' : Local) (r' : Region) : Type 0 where
  pub moves : moves l r ≡ true
  pub leaves : (l', r') ≡ after l r

-- another has the turn, and nothing changes
pub record HasStayed (l : Local) (r : Region) (l' : Local) (r' : Region) : Type 0 where
  pub stays : moves l r ≡ false
  pub local : l' ≡ l
  pub region : r' ≡ r

abbrev pub Answers : Local → Region → Local → Region → Stepped → Type 0
Answers l r l' r' Moved = IsMoved l r l' r'
Answers l r l' r' Stays = HasStayed l r l' r'
Answers l r l' r' Ended = ⊥

-- the sections that may find no memory: what they keep may grow, and a purge keeps the starts of the blocks that it takes out
abbrev pub MayGrow : Section → Type 0
MayGrow (Carve s align) = Unit {0}
MayGrow (CarveGroups base) = Unit {0}
MayGrow (Drop s) = Unit {0}
MayGrow (Return spans) = Unit {0}
MayGrow (Settle areas first) = Unit {0}
MayGrow (Wait spans waiting) = Unit {0}
MayGrow (AddBlock at) = Unit {0}
MayGrow (Fragment cpu gone) = gone ≢ []
MayGrow (AddChunk chunk base at align missing) = Unit {0}
MayGrow _ = ⊥

-- the section that the caller makes over this region is one of these
abbrev pub TakesMemory : Local → Region → Type 0
TakesMemory l r = IsSomeAnd (section_of (map_with l.setup r) l) MayGrow
