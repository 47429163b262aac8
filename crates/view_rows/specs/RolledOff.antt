-- A generation that makes another roll off. (GC28-6704, "Generation data sets")
use Rattle.std.specs.Prelude.{◌≡◌, ℕ, Bool, true, false, List, [], ◌∷◌, codes, Some, None}
use Rattle.jname_core.specs.declared.key.Key.TheVariants.{Named, Relative}
use Rattle.jname_core.specs.declared.key.Sign.TheVariants.{Plus}
use Rattle.group_core.specs.declared.entry.CatEntry.{CatEntry}
use Rattle.group_core.specs.declared.entry.CatEntry.TheVariants as entry
use Rattle.group_core.specs.declared.group.Generation.{Generation}
use Rattle.jcl_plan.specs.declared.outcome.Outcome.TheVariants.{Code}
use Rattle.jcl_plan.specs.declared.plan.JobPlan.{JobPlan}
use Rattle.jcl_plan.specs.declared.plan.Status.TheVariants as status
use Rattle.jcl_plan.specs.declared.plan.Word.TheVariants as word
use Rattle.jcl_meaning.specs.declared.state.Resolution.TheVariants.{Means, Fails}
use Rattle.jcl_meaning.specs.declared.store.DataSet.{DataSet}
use Rattle.jcl_meaning.specs.declared.store.SoloStore.{SoloStore}
use Rattle.jcl_meaning.specs.Resolutions.{meaning_at, meanings_of}
use Rattle.jcl_meaning.specs.Stores.{store_of}
use Rattle.jcl_meaning.specs.Views.{View}
use Rattle.view_rows.specs.Examples.{dd_of, job_of, places, serial, set_of_t, step_of, view_alone}
use Rattle.jcl_plan.specs.declared.fault.Fault.TheVariants.{F5}

abbrev pub base : List ℕ
base = codes "PAY.G"

-- DSN=PAY.G(+1),DISP=(NEW,CATLG),SPACE=(TRK,1), and then DSN=PAY.G(0),DISP=SHR
abbrev pub enters_the_next : JobPlan
enters_the_next = job_of (step_of [] (dd_of (record set_of_t {
  key = Relative base Plus 1;
  status = status.New;
  normal = Some word.Catlg;
  space = Some (record { primary = 1; secondary = 0; release = false });
}) ∷ []) ∷ step_of [] (dd_of (record set_of_t { key = Relative base Plus 0; status = status.Shr }) ∷ []) ∷ [])

abbrev pub a_set : DataSet
a_set = record { tracks = 1; expires = None; records = [] }

abbrev pub generation : ℕ → Generation
generation n = record { number = n; serial = serial }

abbrev pub group_with : Bool → List Generation → CatEntry
group_with scratch generations = entry.Group (record { limit = 2; scratch = scratch; generations = generations })

-- a full group of two, 1 and 2
abbrev pub two_generations : Bool → SoloStore
two_generations scratch = record {
  volumes = serial ∷ [];
  sets = record { serial = serial; key = Named (codes "PAY.G.G0001V00"); set = a_set } ∷ record { serial = serial; key = Named (codes "PAY.G.G0002V00"); set = a_set } ∷ [];
  catalog = record { name = base; entry = group_with scratch (generation 2 ∷ generation 1 ∷ []) } ∷ [];
}

abbrev pub behind : Bool → View
behind scratch = view_alone (two_generations scratch) places 25567 enters_the_next 1 (Code 0 ∷ [])

pub record RollsOff : Type 0 where
  pub numbers : (behind true).catalog base ≡ Some (group_with true (generation 3 ∷ generation 2 ∷ []))
  pub entered : (behind true).sets (Named (codes "PAY.G.G0003V00")) serial ≡ Some false
  pub stays : (behind true).sets (Named (codes "PAY.G.G0002V00")) serial ≡ Some false
  pub scratched : (behind true).sets (Named (codes "PAY.G.G0001V00")) serial ≡ None
  pub numbers_so : (behind false).catalog base ≡ Some (group_with false (generation 3 ∷ generation 2 ∷ []))
  pub kept : (behind false).sets (Named (codes "PAY.G.G0001V00")) serial ≡ Some false

-- relative numbers mean what they meant before the first step: the second step's (0) is generation 2
pub record IsResolvedOnce : Type 0 where
  pub next : meaning_at (meanings_of (store_of (two_generations true)) enters_the_next) 1 1 ≡ Means (Named (codes "PAY.G.G0003V00"))
  pub newest : meaning_at (meanings_of (store_of (two_generations true)) enters_the_next) 2 1 ≡ Means (Named (codes "PAY.G.G0002V00"))
  pub no_such_dd : meaning_at (meanings_of (store_of (two_generations true)) enters_the_next) 2 2 ≡ Fails F5
