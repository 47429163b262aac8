-- Where the bits of tests stand in a row.
use Rattle.std.specs.Prelude.{ℕ, ◌<◌, ◌+◌, ◌^◌, List, [], ◌∷◌, drop, length, take}
use Rattle.jcl_plan.specs.declared.plan.JobPlan.{JobPlan}
use Rattle.jcl_plan.specs.declared.plan.StepPlan.{StepPlan}
use Rattle.packed_core.specs.declared.room.Room.{Room}

-- all bits, and a word more, can be counted
abbrev pub IsSmall : Room → Type 0
IsSmall room = room.job + room.passed + room.left + 64 < 2 ^ 64

-- how many tests these steps have
abbrev pub count_in : List StepPlan → ℕ
count_in [] = 0
count_in (step ∷ later) = length step.tests.items + count_in later

-- the tests of the JOB statement, those of the steps before a part, and those from it on
abbrev pub room_at : JobPlan → ℕ → Room
room_at plan k = record { job = length plan.tests.items; passed = count_in (take k plan.steps); left = count_in (drop k plan.steps) }
