-- What a section answers.
use Rattle.std.specs.Prelude.{◌≡◌, true, false}
use Rattle.section_table.specs.declared.parts.Turned.{Turned}
use Rattle.section_table.specs.declared.parts.Turned.TheVariants.{Moved, Stays}
use Rattle.section_table.specs.Meanings.{Meanings}

-- the local and the region before and after, by what is answered
abbrev pub Answers : {R L : Type 0} → Meanings R L → L → R → L → R → Turned → Type 0
Answers m l r l' r' Moved = (m.moves l r ≡ true) × ((l', r') ≡ m.after l r)
Answers m l r l' r' Stays = (m.moves l r ≡ false) × (l' ≡ l) × (r' ≡ r)
