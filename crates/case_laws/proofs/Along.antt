-- A case for the next event, whatever the events so far.
use Rattle.std.proofs.Common.{List, [], ◌∷◌, sym, subst}
use Rattle.jcl_plan.specs.declared.entry.Entry.{Entry}
use Rattle.world_meaning.specs.declared.event.Event.{Event}
use Rattle.world_meaning.specs.Readings.{Denoting}
use Rattle.world_meaning.specs.Starts.{IsStart}
use Rattle.world_meaning.specs.Transitions.{Runs}
use Rattle.world_meaning.specs.Worlds.{World}
use Rattle.law_core.specs.Soundness.{IsSound}
use Rattle.law_core.proofs.Sound.{sound_along, sound_behind}
use Rattle.law_core.proofs.Starting.{starts_sound}
use Rattle.case_laws.specs.Cases.{CanBeWritten, HasCase, HasWholeQueue, IsSupplied}
use Rattle.case_laws.proofs.Cases.{has_case}
use Rattle.case_laws.proofs.Supplies.{starts_supplied, supplied_behind}

supplied_along : (job_of : Denoting) (w end : World) (es : List Event) (told : List (List Entry)) → IsSound w → IsSupplied w → Runs job_of w es told end →
    IsSupplied end
supplied_along job_of w end [] [] s h runs = subst IsSupplied (sym runs) h
supplied_along job_of w end [] (lines ∷ more) s h runs = absurd runs
supplied_along job_of w end (e ∷ es) [] s h runs = absurd runs
supplied_along job_of w end (e ∷ es) (lines ∷ more) s h runs =
    supplied_along job_of runs.0 end es more (sound_behind job_of w runs.0 e lines s runs.1) (supplied_behind job_of w runs.0 e lines s h runs.1) runs.2

pub next_case : (job_of : Denoting) (start w : World) (before : List Event) (told : List (List Entry)) (e : Event) → IsStart start →
    Runs job_of start before told w → HasWholeQueue w → CanBeWritten job_of w → HasCase job_of w e
next_case job_of start w before told e s runs queue can =
    has_case job_of w e (sound_along job_of start w before told (starts_sound start s) runs)
    (supplied_along job_of start w before told (starts_sound start s) (starts_supplied start s) runs) queue can
