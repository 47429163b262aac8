-- A new generation makes the lowest of a full group roll off, and its set is scratched.
use Rattle.std.specs.Prelude.{ℕ, Bool, true, false, ◌&&◌, ◌||◌, List, [], ◌∷◌, codes, Some, None, if◌then◌else◌}
use Rattle.std.specs.Str.{bytes_eq}
use Rattle.jname_core.specs.declared.key.Key.TheVariants.{Relative}
use Rattle.jname_core.specs.declared.key.Sign.TheVariants.{Plus}
use Rattle.group_core.specs.declared.entry.CatEntry.TheVariants as entry
use Rattle.group_core.specs.declared.group.Generation.{Generation}
use Rattle.vtoc_core.specs.declared.entry.SetKey.{SetKey}
use Rattle.vtoc_core.specs.declared.entry.SetKey.TheVariants as world
use Rattle.vtoc_core.specs.Entries.{same_key}
use Rattle.jcl_plan.specs.declared.plan.JobPlan.{JobPlan}
use Rattle.jcl_plan.specs.declared.plan.Status.TheVariants as status
use Rattle.jcl_plan.specs.declared.plan.Word.TheVariants as word
use Rattle.jcl_meaning.specs.States.{Fixed}
use Rattle.jcl_meaning.specs.Solo.{nothing_own}
use Rattle.world_meaning.specs.declared.event.Event.TheVariants as event
use Rattle.world_meaning.specs.Lenses.{WorldStore}
use Rattle.world_meaning.specs.Readings.{Denoting}
use Rattle.world_meaning.specs.Worlds.{World}
use Rattle.world_rows.specs.Machines.{Did, Follow, dd_with, fixed_with, job_with, machine, means, says, serial, set_of, shared_set, stands_at, step_with}

abbrev pub base : List ℕ
base = codes "PAY.G"

abbrev pub generation : ℕ → Generation
generation n = record { number = n; serial = serial }

-- the sets of the two
abbrev pub is_old : SetKey → Bool
is_old k = same_key k (world.Named (codes "PAY.G.G0001V00")) || same_key k (world.Named (codes "PAY.G.G0002V00"))

-- ./ GROUP PAY.G 2 SCRATCH, with generations 1 and 2
abbrev pub store : WorldStore
store = record {
  set = λ k v. if is_old k && bytes_eq v serial then Some (set_of 1 []) else None;
  catalog = λ n. if bytes_eq n base then Some (entry.Group (record { limit = 2; scratch = true; generations = generation 2 ∷ generation 1 ∷ [] })) else None;
}

-- //OUT DD DSN=PAY.G(+1),DISP=(NEW,CATLG),SPACE=(TRK,1)
abbrev pub entering : JobPlan
entering = job_with (codes "J2") (step_with (Some (codes "S1")) (codes "IEFBR14") (dd_with (codes "OUT") (record (shared_set base) {
  key = Relative base Plus 1;
  status = status.New;
  normal = Some word.Catlg;
  space = Some (record { primary = 1; secondary = 0; release = false });
}) ∷ []) ∷ [])

abbrev pub new_name : List ℕ
new_name = codes "PAY.G.G0003V00"

abbrev pub fixed : Fixed
fixed = fixed_with (record { step = 1; dd = 1; serial = serial } ∷ []) (means 1 1 new_name ∷ [])

abbrev pub start : World
start = machine [] store 98 None (Some (stands_at 2 entering fixed 1 (record nothing_own { runs = true })))

abbrev pub turns : List Did
turns =
    says (event.Turn 2) (codes "0002 TAKE 1 OUT MADE VOL001")
    ∷ says (event.Turn 2) (codes "0002 CODE 0000")
    ∷ says (event.Turn 2) (codes "0002 DISP 1 OUT CATALOGED")
    ∷ record { event = event.Display; lines = codes "-- VOL001 FREE 98 KEPT 0" ∷ codes "-- QUEUED 0 RUNNING 1 RECORDS 8" ∷ [] }
    ∷ []

abbrev pub RollsOff : Type 0
RollsOff = (job_of : Denoting) → Follow job_of start turns
