-- A job before its admission: where its sets are placed, what its keys mean, and what may become of it so.
use Rattle.std.specs.Prelude.{◌≡◌, ℕ, Bool, true, List, []}
use Rattle.jcl_plan.specs.declared.entry.JobLine.{JobLine}
use Rattle.jcl_plan.specs.declared.plan.JobPlan.{JobPlan}
use Rattle.jcl_meaning.specs.declared.state.Place.{Place}
use Rattle.jcl_meaning.specs.Resolutions.{meanings_of}
use Rattle.jcl_meaning.specs.Solo.{fixed_in}
use Rattle.jcl_meaning.specs.States.{Fixed}
use Rattle.jcl_meaning.specs.Stores.{Store}
use Rattle.path_meaning.specs.Explanations.{path_lines}
use Rattle.path_meaning.specs.Verdicts.{IsFree}
use Rattle.path_search.specs.Verdicts.{IsVerdict}
use Rattle.path_search.specs.declared.verdict.Verdict.{Verdict}
use Rattle.path_search.specs.declared.verdict.Verdict.TheVariants.{Risk}
use Rattle.place_core.specs.Placings.{placed, serials_of}
use Rattle.shared_core.specs.Shown.{world_store_of}
use Rattle.shared_core.specs.declared.store.SharedStore.{SharedStore}
use Rattle.world_meaning.specs.Lenses.{seen}
use Rattle.world_meaning.specs.Placements.{ArePlaces}
use Rattle.world_meaning.specs.Worlds.{Config}
use Rattle.verdict_core.specs.declared.judge.Judged.{Judged}
use Rattle.verdict_core.specs.declared.verdict.Finding.{Finding}

-- The lines of the path to a risk, where they are asked for.
abbrev pub path_of : Bool → Fixed → JobPlan → Store → Verdict → List JobLine
path_of true fixed plan store (Risk report) = path_lines fixed plan store report.path.items
path_of explains fixed plan store verdict = []

-- What may become of a job, with the path to it.
pub record IsFound (fixed : Fixed) (plan : JobPlan) (store : Store) (most_views : ℕ) (explains : Bool) (f : Finding) : Type 0 where
  pub verdict : IsVerdict fixed plan store most_views f.verdict
  pub path : f.path ≡ path_of explains fixed plan store f.verdict

-- this is found of each job that is free and makes its sets at these places
abbrev pub IsFoundWhereFree : List Place → Finding → Type 0
IsFoundWhereFree made f = (fixed : Fixed) (plan : JobPlan) (store : Store) (most_views : ℕ) (explains : Bool) →
    IsFree fixed plan store most_views made → IsFound fixed plan store most_views explains f

-- this is found of a job in the store as it sees it, where its sets are placed so
abbrev pub IsFoundInStore : SharedStore → ℕ → JobPlan → List Place → ℕ → ℕ → Bool → Finding → Type 0
IsFoundInStore store job plan places date most_views explains f =
    IsFound (fixed_in (serials_of store.volumes) (seen job (world_store_of store)) plan places date) plan (seen job (world_store_of store))
    most_views explains f

-- Its sets are placed by the rule, on volumes that are configured for them; its keys mean what they mean in the store as it sees it, and this may become
-- of it there.
pub record IsJudged (store : SharedStore) (units : List (List (List ℕ))) (job : ℕ) (plan : JobPlan) (date most_views : ℕ) (explains : Bool) (j : Judged) : Type 0 where
  pub placed_so : j.places ≡ placed store.volumes units job plan
  pub configured : (c : Config) → c.volumes ≡ serials_of store.volumes → c.units ≡ units → ArePlaces c plan j.places
  pub meanings : j.meanings ≡ meanings_of (seen job (world_store_of store)) plan
  pub found : IsFoundInStore store job plan j.places date most_views explains j.finding
