-- What a line tells of a job whose names are held.
use Rattle.std.specs.Prelude.{◌≡◌, ℕ, List, Option, Some, None}
use Rattle.std.specs.List.{Contains}
use Rattle.jcl_plan.specs.declared.entry.JobLine.{JobLine}
use Rattle.jcl_plan.specs.declared.entry.JobLine.TheVariants as line
use Rattle.jcl_plan.specs.declared.fault.Fault.{Fault}
use Rattle.jcl_plan.specs.declared.outcome.Outcome.{Outcome}
use Rattle.jcl_plan.specs.declared.plan.JobPlan.{JobPlan}
use Rattle.jcl_meaning.specs.declared.program.SoloProgram.{SoloProgram}
use Rattle.jcl_meaning.specs.declared.state.Place.{Place}
use Rattle.jcl_meaning.specs.Agendas.{budget_of}
use Rattle.jcl_meaning.specs.Solo.{fixed_in}
use Rattle.jcl_meaning.specs.States.{Fixed}
use Rattle.path_meaning.specs.Verdicts.{IsEarliest, IsFirstWithMore, IsFree}
use Rattle.world_meaning.specs.Admissions.{tracks_asked}
use Rattle.world_meaning.specs.Lenses.{seen}
use Rattle.shared_core.specs.Shown.{world_store_of}
use Rattle.shared_core.specs.declared.store.SharedStore.{SharedStore}
use Rattle.place_core.specs.Keepings.{kept_in}
use Rattle.place_core.specs.Placings.{placed, serials_of}

-- what is fixed for a job that is admitted on these volumes, as they are: its sets are placed where there is room
abbrev pub fixed_by_room : SharedStore → List (List (List ℕ)) → ℕ → JobPlan → ℕ → Fixed
fixed_by_room store units job plan date =
    fixed_in (serials_of store.volumes) (seen job (world_store_of store)) plan (placed store.volumes units job plan) date

-- of the volumes of these places the first that has no room for the primary of its DD, behind those before it
abbrev pub refused_by : SharedStore → ℕ → JobPlan → List Place → Option (List ℕ)
refused_by store job plan made = (kept_in job plan made store.volumes).refused

-- What is told: ASSURED where no path meets a fault, no step has too many views, and the volumes have room for the primary of every DD where some path
-- makes its set; where they have not, WAIT SPACE with the first that has none; RISK at the earliest fault; TOOMANY.
pub data IsTold (store : SharedStore) (programs : List SoloProgram) (most_views job : ℕ) (plan : JobPlan) (fixed : Fixed) (told : JobLine) : Type 0 where
  assured : (made : List Place) → IsFree fixed plan (seen job (world_store_of store)) most_views made → refused_by store job plan made ≡ None →
      told ≡ line.Assured (tracks_asked plan made) (budget_of plan programs) → IsTold store programs most_views job plan fixed told
  no_space : (made : List Place) (serial : List ℕ) → IsFree fixed plan (seen job (world_store_of store)) most_views made →
      refused_by store job plan made ≡ Some serial → Contains (serials_of store.volumes) serial → told ≡ line.WaitSpace serial →
      IsTold store programs most_views job plan fixed told
  risk : (fault : Fault) (step dd : ℕ) (path : List Outcome) → IsEarliest fixed plan (seen job (world_store_of store)) most_views fault step dd path →
      told ≡ line.Risk fault step dd path → IsTold store programs most_views job plan fixed told
  too_many : (step : ℕ) → IsFirstWithMore fixed plan (seen job (world_store_of store)) most_views step → told ≡ line.TooMany step →
      IsTold store programs most_views job plan fixed told
