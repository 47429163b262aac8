-- What is read of the records of a queue, from a number on or of one record. (This profile)
use Rattle.std.specs.Prelude.{ℕ, ◌+◌, List}
use Rattle.jcl_plan.specs.declared.plan.DdKind.{DdKind}
use Rattle.jcl_plan.specs.declared.plan.DdPlan.{DdPlan}
use Rattle.jcl_plan.specs.declared.plan.JobPlan.{JobPlan}
use Rattle.jcl_plan.specs.declared.plan.StepPlan.{StepPlan}
use Rattle.cb_meaning.specs.Readings.{cards_read, dd_read, dds_read, kind_read, plan_read, step_read, steps_read}
use Rattle.cb_queue.specs.RecordQueues.{RecordQueue, shown}

abbrev pub cards_from : RecordQueue → ℕ → List (List ℕ)
cards_from q first = cards_read q.layout (shown q) (q.layout.most_records + 1) first

abbrev pub kind_of : RecordQueue → List ℕ → DdKind
kind_of q s = kind_read q.layout (shown q) s

abbrev pub dd_of : RecordQueue → List ℕ → DdPlan
dd_of q s = dd_read q.layout (shown q) s

abbrev pub dds_from : RecordQueue → ℕ → List DdPlan
dds_from q first = dds_read q.layout (shown q) (q.layout.most_records + 1) first

abbrev pub step_of : RecordQueue → List ℕ → StepPlan
step_of q r = step_read q.layout (shown q) r

abbrev pub steps_from : RecordQueue → ℕ → List StepPlan
steps_from q first = steps_read q.layout (shown q) (q.layout.most_records + 1) first

abbrev pub plan_of : RecordQueue → ℕ → JobPlan
plan_of q n = plan_read q.layout (shown q) n
