-- A job is cancelled while a record is on its way: one ABEND S222 stands in the place of the result, and a later step may run.
use Rattle.std.specs.Prelude.{ℕ, true, false, List, [], ◌∷◌, ◌++◌, codes, replicate, Some, None}
use Rattle.jcl_plan.specs.declared.plan.AfterAbend.TheVariants as after
use Rattle.jcl_plan.specs.declared.plan.ConditionalWord.TheVariants as conditional
use Rattle.jcl_plan.specs.declared.plan.JobPlan.{JobPlan}
use Rattle.jcl_plan.specs.declared.plan.Operator.TheVariants as operator
use Rattle.jcl_plan.specs.declared.plan.Status.TheVariants as status
use Rattle.jcl_plan.specs.declared.plan.StepPlan.{StepPlan}
use Rattle.jcl_plan.specs.declared.plan.Word.TheVariants as word
use Rattle.jcl_meaning.specs.declared.program.Request.TheVariants.{Put, End}
use Rattle.jcl_meaning.specs.declared.program.SoloProgram.{SoloProgram}
use Rattle.jcl_meaning.specs.States.{Fixed}
use Rattle.jcl_meaning.specs.Solo.{nothing_own}
use Rattle.world_meaning.specs.declared.event.Event.TheVariants as event
use Rattle.world_meaning.specs.Readings.{Denoting}
use Rattle.world_meaning.specs.Worlds.{World}
use Rattle.world_rows.specs.Growths.{no_sets}
use Rattle.world_rows.specs.Machines.{Did, Follow, dd_with, fixed_with, job_with, machine, means, says, serial, shared_set, stands_at, step_with}

abbrev pub name : List ℕ
name = codes "A.B"

-- ./ PROGRAM WR: PUT OUT X, CODE 0
abbrev pub writing : SoloProgram
writing = record { name = codes "WR"; requests = Put (codes "OUT") (codes "X" ++ replicate 79 32) ∷ End 0 ∷ [] }

-- //OUT DD DSN=A.B,DISP=(NEW,CATLG,DELETE),SPACE=(TRK,1)
abbrev pub first_step : StepPlan
first_step = step_with (Some (codes "S1")) (codes "WR") (dd_with (codes "OUT") (record (shared_set name) {
  status = status.New;
  normal = Some word.Catlg;
  conditional = Some conditional.Delete;
  space = Some (record { primary = 1; secondary = 0; release = false });
}) ∷ [])

-- COND=((4095,GE,S1),EVEN)
abbrev pub second_step : StepPlan
second_step = record (step_with (Some (codes "S2")) (codes "IEFBR14") []) {
  after_abend = after.Even;
  tests = record { items = record { code = 4095; operator = operator.Ge; step = Some 1 } ∷ [] };
}

abbrev pub writer : JobPlan
writer = job_with (codes "J") (first_step ∷ second_step ∷ [])

abbrev pub fixed : Fixed
fixed = fixed_with (record { step = 1; dd = 1; serial = serial } ∷ []) (means 1 1 name ∷ [])

abbrev pub start : World
start = machine (writing ∷ []) no_sets 100 (Some (stands_at 1 writer fixed 1 (record nothing_own { runs = true }))) None

abbrev pub turns : List Did
turns =
    says (event.Turn 1) (codes "0001 TAKE 1 OUT MADE VOL001")
    ∷ says (event.Turn 1) (codes "0001 PUT OUT START VOL001")
    ∷ says (event.Cancel 1) (codes "-- CANCEL 0001")
    ∷ says (event.Turn 1) (codes "0001 ABEND S222")
    ∷ says (event.Turn 1) (codes "0001 DISP 1 OUT DELETED")
    ∷ says (event.Turn 1) (codes "0001 STEP 2 S2 RUN")
    ∷ says (event.Turn 1) (codes "0001 CODE 0000")
    ∷ []

abbrev pub IsCancelled : Type 0
IsCancelled = (job_of : Denoting) → Follow job_of start turns
