-- What visits do, as plain data.
use Rattle.std.specs.Prelude.{ℕ, ◌+◌, ◌-◌, ◌%◌, ◌==◌, ◌||◌, not, Bool, List, [], ◌∷◌, ◌++◌, length, Option, Some, None, if◌then◌else◌}
use Rattle.map_parts.specs.SectionRuns.{KeepsLawful}
use Rattle.section_table.specs.Meanings.{Meanings}
use Rattle.tests_turns.specs.declared.rooms.Room.{Room}
use Rattle.tests_turns.specs.declared.rooms.Walker.{Walker}

abbrev pub room_wanted : Walker → Option ℕ
room_wanted w = if w.left == 0 then None else Some (w.room % 3)

-- there was a guest, or this is the opener
abbrev pub lets_in : Walker → Room → Bool
lets_in w r = not (length r.guests == 0) || r.opener == w.number

abbrev pub after_visit : Walker → Room → Walker × Room
after_visit w r = (record w { room = w.room % 3 + 1; left = w.left - 1 }, record r { guests = r.guests ++ w.number ∷ [] })

abbrev pub IsAny : List Room → List Walker → Type 0
IsAny rooms walkers = Unit {0}

abbrev pub walking : Meanings Room Walker
walking = record {
  wanted = room_wanted;
  reach = λ w. 3;
  moves = lets_in;
  after = after_visit;
  lawful = IsAny;
}

pub walking_is_lawful : KeepsLawful room_wanted lets_in after_visit IsAny
walking_is_lawful rooms walkers caller room w r lawful has wants there moves = tt
