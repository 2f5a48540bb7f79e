-- What the worked traces show of each law, computed.
use Rattle.std.proofs.Common.{Option, Some, None, slice_get, ◌≡◌, refl}
use Rattle.vm_model.specs.Events.{Section}
use Rattle.vm_model.specs.Places.{ask}
use Rattle.vm_model.specs.Given.{given}
use Rattle.vm_model.specs.History.{World, Local, made_if, step_of}
use Rattle.law_tests.specs.Machines.{model, made_if_on, step_of_on}
use Rattle.law_tests.specs.LawTests.{TheModelIsRun, AreasApartTested, AreasAlignedTested, GuardsTested, FreePagesTested, LostPagesTested, WaitingTested, FlushingTested, ObjectsTested, AddsTested, SumsTested, PartsTested, TurnsTested, PurgeTurnTested, CarriedTested, OwnersTested, PartsOfTheMapTested, EndsTested, StaysTested, LegalTested, RegionsTested}

made_the_same : (w : World) (l : Local) (o : Option Section) → made_if_on model w l o ≡ made_if w l o
made_the_same w l None = refl
made_the_same w l (Some s) = refl

steps_the_same : (w : World) (o : Option Local) → step_of_on model w o ≡ step_of w o
steps_the_same w None = refl
steps_the_same w (Some l) = made_the_same w l (given l.setup w.map (ask l.setup l.place))

pub the_model_is_run : TheModelIsRun
the_model_is_run w k = steps_the_same w (slice_get w.locals k)

pub areas_apart : AreasApartTested
areas_apart = record { worked = refl; found = refl }

pub areas_aligned : AreasAlignedTested
areas_aligned = record { worked = refl; found = refl }

pub guards : GuardsTested
guards = record { worked = refl; found = refl }

pub free_pages : FreePagesTested
free_pages = record { worked = refl; found = refl }

pub lost_pages : LostPagesTested
lost_pages = record { worked = refl; found = refl }

pub waiting : WaitingTested
waiting = record { worked = refl; found = refl }

pub flushing : FlushingTested
flushing = record { worked = refl; found = refl }

pub objects : ObjectsTested
objects = record { worked = refl; found = refl }

pub adds : AddsTested
adds = record { worked = refl; found = refl }

pub sums : SumsTested
sums = record { worked = refl; found = refl }

pub parts : PartsTested
parts = record { worked = refl; found = refl }

pub turns : TurnsTested
turns = record { worked = refl; found = refl }

pub purge_turn : PurgeTurnTested
purge_turn = record { worked = refl; found = refl }

pub carried : CarriedTested
carried = record { worked = refl; found = refl }

pub owners : OwnersTested
owners = record { worked = refl; found = refl }

pub parts_of_the_map : PartsOfTheMapTested
parts_of_the_map = record { worked = refl; found = refl }

pub ends : EndsTested
ends = record { worked = refl; found = refl }

pub stays : StaysTested
stays = record { worked = refl; found = refl }

pub legal : LegalTested
legal = record { worked = refl; found = refl }

pub regions : RegionsTested
regions = record { worked = refl; found = refl }
