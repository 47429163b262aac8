-- How far a search has come.
use Rattle.std.specs.Prelude.{◌≡◌, ℕ, ◌≤◌, List, length, slice_get, Some, All, Contains}
use Rattle.jcl_plan.specs.declared.outcome.Outcome.{Outcome}
use Rattle.jcl_plan.specs.declared.plan.JobPlan.{JobPlan}
use Rattle.jcl_meaning.specs.declared.state.Place.{Place}
use Rattle.jcl_meaning.specs.History.{IsStepOutcome}
use Rattle.jcl_meaning.specs.States.{Fixed}
use Rattle.jcl_meaning.specs.Stores.{Store}
use Rattle.jcl_meaning.specs.Views.{View, ran_to}
use Rattle.path_meaning.specs.Paths.{Makes}
use Rattle.path_meaning.specs.Verdicts.{AreRising, FewViewsUpTo, NoFaultUpTo}
use Rattle.path_laws.specs.Paths.{AreAllViews}
use Rattle.path_search.specs.declared.trail.Link.{Link}
use Rattle.path_search.specs.Crossings.{LeadsTo}
use Rattle.path_search.specs.Trails.{path_at}

-- The first k steps are behind: none of them meets a fault or has too many views, these are all views there, each with its path, and sets are made at
-- these places.
pub record IsReached (fixed : Fixed) (plan : JobPlan) (store : Store) (limit k : ℕ) (views : List View) (count : ℕ) (levels : List (List Link))
    (places : List Place) : Type 0 where
  pub none_met : NoFaultUpTo fixed plan store k
  pub all : AreAllViews fixed plan store k views
  pub leads : (number : ℕ) (view : View) → slice_get views number ≡ Some view → LeadsTo fixed plan store k (path_at levels k number) view
  pub few : FewViewsUpTo fixed plan store limit k
  pub counted : count ≡ length views
  pub deep : length levels ≡ k
  pub made : All (Makes fixed plan store) places
  pub makings : (p : Place) (outcomes : List Outcome) → All IsStepOutcome outcomes → Contains (ran_to fixed plan store k outcomes).made p → Contains places p
  pub rising : AreRising fixed.volumes places
  pub past : All (λ p. p.step ≤ k) places
