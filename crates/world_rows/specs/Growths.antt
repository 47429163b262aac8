-- A set is full and there is no room to grow, since what is free is kept for another job.
use Rattle.std.specs.Prelude.{ℕ, true, false, List, [], ◌∷◌, ◌++◌, codes, replicate, Some, None}
use Rattle.jcl_plan.specs.declared.plan.ConditionalWord.TheVariants as conditional
use Rattle.jcl_plan.specs.declared.plan.JobPlan.{JobPlan}
use Rattle.jcl_plan.specs.declared.plan.Status.TheVariants as status
use Rattle.jcl_plan.specs.declared.plan.Word.TheVariants as word
use Rattle.jcl_meaning.specs.declared.program.Request.TheVariants.{Put, End}
use Rattle.jcl_meaning.specs.declared.program.SoloProgram.{SoloProgram}
use Rattle.jcl_meaning.specs.States.{Fixed}
use Rattle.jcl_meaning.specs.Solo.{nothing_own}
use Rattle.world_meaning.specs.declared.event.Event.TheVariants as event
use Rattle.world_meaning.specs.Lenses.{WorldStore}
use Rattle.world_meaning.specs.Readings.{Denoting}
use Rattle.world_meaning.specs.Worlds.{Kept, World}
use Rattle.world_rows.specs.Machines.{Did, Follow, dd_with, fixed_with, job_with, machine, means, says, serial, shared_set, stands_at, step_with}

abbrev pub name : List ℕ
name = codes "C.D"

-- ./ PROGRAM GROW: PUT OUT X, CODE 0
abbrev pub growing : SoloProgram
growing = record { name = codes "GROW"; requests = Put (codes "OUT") (codes "X" ++ replicate 79 32) ∷ End 0 ∷ [] }

-- //OUT DD DSN=C.D,DISP=(NEW,CATLG,DELETE),SPACE=(TRK,(0,2))
abbrev pub grower : JobPlan
grower = job_with (codes "J2") (step_with (Some (codes "S1")) (codes "GROW") (dd_with (codes "OUT") (record (shared_set name) {
  status = status.New;
  normal = Some word.Catlg;
  conditional = Some conditional.Delete;
  space = Some (record { primary = 0; secondary = 2; release = false });
}) ∷ []) ∷ [])

abbrev pub fixed : Fixed
fixed = fixed_with (record { step = 1; dd = 1; serial = serial } ∷ []) (means 1 1 name ∷ [])

abbrev pub no_sets : WorldStore
no_sets = record { set = λ k v. None; catalog = λ n. None }

-- ten of eleven tracks are kept for the first job
abbrev pub of_another : Kept
of_another = record { job = 1; step = 2; dd = 1; tracks = 10 }

-- on the one volume that the machine has
abbrev pub kept_there : List Kept → List ℕ → List Kept
kept_there kept v = kept

abbrev pub bare : World
bare = machine (growing ∷ []) no_sets 1 None (Some (stands_at 2 grower fixed 1 (record nothing_own { runs = true })))

abbrev pub start : World
start = record bare { shared = record bare.shared { kept = kept_there (of_another ∷ []) } }

abbrev pub turns : List Did
turns =
    says (event.Turn 2) (codes "0002 TAKE 1 OUT MADE VOL001")
    ∷ says (event.Turn 2) (codes "0002 ABEND SB37")
    ∷ says (event.Turn 2) (codes "0002 DISP 1 OUT DELETED")
    ∷ says (event.Turn 2) (codes "0002 END")
    ∷ []

abbrev pub IsRefusedGrowth : Type 0
IsRefusedGrowth = (job_of : Denoting) → Follow job_of start turns
