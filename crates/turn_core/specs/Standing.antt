-- A turn, by how many actions of the job's agenda are done.
use Rattle.std.specs.Prelude.{◌≡◌, ℕ, ◌-◌, true, false, List, nat_le, drop, length}
use Rattle.jcl_plan.specs.declared.plan.JobPlan.{JobPlan}
use Rattle.jcl_meaning.specs.declared.program.SoloProgram.{SoloProgram}
use Rattle.jcl_meaning.specs.Agendas.{Action, agenda}
use Rattle.jcl_meaning.specs.Programs.{moves_of}
use Rattle.jcl_meaning.specs.Stores.{Store}
use Rattle.turn_core.specs.Places.{agenda_at}
use Rattle.turn_core.specs.Turning.{Acts, Around, Ends, Waits}
use Rattle.turn_core.specs.declared.todo.Todo.{Todo}
use Rattle.turn_core.specs.declared.walk.Acted.{Acted}
use Rattle.turn_core.specs.declared.walk.Turned.{Turned}
use Rattle.turn_core.specs.declared.walk.Turned.TheVariants as turned
use Rattle.turn_core.specs.declared.walk.Walk.{Walk}

-- how many actions are done at a place
abbrev pub count_at : JobPlan → List SoloProgram → Todo → ℕ
count_at plan programs place = length (agenda plan programs) - length (agenda_at (moves_of programs) plan.steps place)

-- and with the others the job's agenda is whole
abbrev pub Stands : JobPlan → List SoloProgram → Todo → Type 0
Stands plan programs place = drop (count_at plan programs place) (agenda plan programs) ≡ agenda_at (moves_of programs) plan.steps place

-- the actions that are not done
abbrev pub undone : JobPlan → List SoloProgram → Todo → List Action
undone plan programs place = drop (count_at plan programs place) (agenda plan programs)

pub record JobActs (w : Around) (plan : JobPlan) (old new : Store) (before after : Walk) (told : Acted) : Type 0 where
  pub acts : Acts w (undone plan w.programs before.todo) old before.course new after.course (undone plan w.programs after.todo)
      (count_at plan w.programs before.todo) told
  pub counted : acts.its_turn.count ≡ count_at plan w.programs after.todo
  pub stands : Stands plan w.programs after.todo
  pub goes_on : nat_le (length (agenda plan w.programs)) acts.its_turn.count ≡ false

pub record JobEnds (w : Around) (plan : JobPlan) (seen : Store) (before : Walk) : Type 0 where
  pub ends : Ends w (undone plan w.programs before.todo) seen before.course.own (count_at plan w.programs before.todo)
  pub is_over : nat_le (length (agenda plan w.programs)) ends.its_turn.count ≡ true

abbrev pub TellsJob : Around → JobPlan → Store → Walk → Store → Walk → Turned → Type 0
TellsJob w plan old before new after turned.Waits = Waits w (undone plan w.programs before.todo) old before.course.own (count_at plan w.programs before.todo)
TellsJob w plan old before new after (turned.Acts told) = JobActs w plan old new before after told
TellsJob w plan old before new after turned.Ends = JobEnds w plan old before
