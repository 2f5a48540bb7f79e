-- What a call of `act` tells, by its answer: v is what the pass knew before, and w what it knows after.
use Rattle.std.specs.Prelude.{◌≡◌, ℕ, true, false, Option, Some, None, Result, Ok, Err}
use Rattle.vm_model.specs.Run.{StandTogether}
use Rattle.section_table.specs.declared.views.Held.{Held}
use Rattle.section_table.specs.declared.views.View.{View}
use Rattle.section_table.specs.declared.acted.Acted.{Acted}
use Rattle.section_table.specs.declared.acted.Acted.TheVariants.{Moved, Ended, Halted}
use Rattle.section_table.specs.Meanings.{Meanings}
use Rattle.section_table.specs.PassViews.{Has, flagged, with_event}
use Rattle.section_table.specs.TableSteps.{IsPast}

module _ {R L : Type 0} where
  -- the caller made one event, over the region that it wanted: its local is what the section leaves, and it has one stamp more
  pub record HasMoved (m : Meanings R L) (caller : ℕ) (v w : View R L) (stamp : ℕ) : Type 0 where
    pub held : Held L
    pub number : ℕ
    pub region : R
    pub has : Has v caller held
    pub wants : m.wanted held.local ≡ Some number
    pub together : StandTogether m.wanted m.lawful held.local region
    pub moves : m.moves held.local region ≡ true
    pub leaves : w ≡ with_event caller held (m.after held.local region).0 stamp v
    pub past : IsPast m v stamp
    pub unhalted : v.saw_halt ≡ false

  -- the caller wants nothing, and the pass has seen no halt
  pub record HasEnded (m : Meanings R L) (caller : ℕ) (v w : View R L) : Type 0 where
    pub held : Held L
    pub has : Has v caller held
    pub ended : m.wanted held.local ≡ None
    pub same : w ≡ v
    pub unhalted : v.saw_halt ≡ false

  -- the pass has seen a halt, and made none
  abbrev pub HasHalted : View R L → View R L → Type 0
  HasHalted v w = w ≡ flagged true v.made_halt v

  -- the section found no memory: the pass made a halt, which it has seen
  pub record HasRefused (m : Meanings R L) (caller : ℕ) (v w : View R L) : Type 0 where
    pub held : Held L
    pub number : ℕ
    pub has : Has v caller held
    pub wants : m.wanted held.local ≡ Some number
    pub leaves : w ≡ flagged true true v
    pub unhalted : v.saw_halt ≡ false

  abbrev pub ActsSo : Meanings R L → ℕ → View R L → View R L → Acted → Type 0
  ActsSo m caller v w (Moved stamp) = HasMoved m caller v w stamp
  ActsSo m caller v w Ended = HasEnded m caller v w
  ActsSo m caller v w Halted = HasHalted v w

  abbrev pub Acts : {E : Type 0} → Meanings R L → ℕ → View R L → View R L → Result Acted E → Type 0
  Acts m caller v w (Ok acted) = ActsSo m caller v w acted
  Acts m caller v w (Err error) = HasRefused m caller v w

  -- one try: none where another pass has the region, or the section stays
  abbrev pub Tries : {E : Type 0} → Meanings R L → ℕ → View R L → View R L → Result (Option Acted) E → Type 0
  Tries m caller v w (Ok (Some acted)) = ActsSo m caller v w acted
  Tries m caller v w (Ok None) = w ≡ v
  Tries m caller v w (Err error) = HasRefused m caller v w
