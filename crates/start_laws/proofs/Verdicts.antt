-- What is told of a job in one store stands in the other.
use Rattle.std.proofs.Common.{◌≡◌, ◌-◌, ℕ, suc, true, List, length, sym, ap, ◌∙◌, subst}
use Rattle.std.specs.List.{Contains}
use Rattle.std.proofs.lemmas.List.Elements.{All-weaker}
use Rattle.jcl_plan.specs.declared.outcome.Outcome.{Outcome}
use Rattle.jcl_plan.specs.declared.plan.JobPlan.{JobPlan}
use Rattle.jcl_meaning.specs.declared.state.Place.{Place}
use Rattle.jcl_meaning.specs.Solo.{is_clean, solo_path_of}
use Rattle.jcl_meaning.specs.States.{Fixed}
use Rattle.jcl_meaning.specs.Stores.{Store}
use Rattle.jcl_meaning.specs.Views.{IsViewAfter, View, ran_to}
use Rattle.path_meaning.specs.Paths.{HasMoreViews, IsSafe, Makes}
use Rattle.path_meaning.specs.Verdicts.{FewViewsUpTo, IsFirstWithMore, IsFree, NoFaultUpTo}
use Rattle.path_laws.specs.Paths.{before_part, part_ran}
use Rattle.path_laws.proofs.Before.{both_clean}
use Rattle.path_laws.proofs.Parts.{path_ends}
use Rattle.path_laws.specs.ViewLaws.{DidTheSame}
use Rattle.start_laws.specs.Starts.{IsAnalysed, SeesSame}
use Rattle.start_laws.proofs.Runs.{as_clean, both_ways, same_path, same_to}

module _ (fixed : Fixed) (plan : JobPlan) (s t : Store) (ready : IsAnalysed fixed plan) (same : SeesSame plan fixed.date s t) where
  -- views
  view_there : (k : ℕ) (view : View) → IsViewAfter fixed plan s k view → IsViewAfter fixed plan t k view
  view_there k view after =
      let did = same_to fixed plan s t ready same after.outcomes k after.without_fault in
      record {
        outcomes = after.outcomes;
        within = after.within;
        without_fault = as_clean plan fixed.date k (ran_to fixed plan s k after.outcomes) (ran_to fixed plan t k after.outcomes) did after.without_fault;
        seen = after.seen ∙ did.view;
      }

  more_there : (k limit : ℕ) → HasMoreViews fixed plan s k limit → HasMoreViews fixed plan t k limit
  more_there k limit more = record {
    views = more.views;
    seen = All-weaker (IsViewAfter fixed plan s k) (IsViewAfter fixed plan t k) (view_there k) more.views more.seen;
    different = more.different;
    more = more.more;
  }

  none_met_there : (k : ℕ) → NoFaultUpTo fixed plan s k → NoFaultUpTo fixed plan t k
  none_met_there k none = λ os within.
      as_clean plan fixed.date k (ran_to fixed plan s k os) (ran_to fixed plan t k os) (same_to fixed plan s t ready same os k (none os within)) (none os within)

  -- a path without a fault, and the sets that it makes
  path_there : (os : List Outcome) → is_clean (solo_path_of fixed plan s os) ≡ true →
      DidTheSame plan fixed.date (suc (length plan.steps)) (solo_path_of fixed plan s os) (solo_path_of fixed plan t os)
  path_there os clean =
      same_path fixed plan s t ready same os
      (both_clean (before_part plan (length plan.steps)) (ran_to fixed plan s (length plan.steps) os) (part_ran fixed plan s (length plan.steps) os)
      (ap is_clean (sym (path_ends fixed plan s os)) ∙ clean)).0

  safe_there : IsSafe fixed plan s → IsSafe fixed plan t
  safe_there safe = λ os within.
      as_clean plan fixed.date (suc (length plan.steps)) (solo_path_of fixed plan s os) (solo_path_of fixed plan t os) (path_there os (safe os within))
      (safe os within)

  makes_there : IsSafe fixed plan s → (p : Place) → Makes fixed plan s p → Makes fixed plan t p
  makes_there safe p makes = record {
    outcomes = makes.outcomes;
    within = makes.within;
    made = subst (λ (places : List Place). Contains places p) (path_there makes.outcomes (safe makes.outcomes makes.within)).made makes.made;
  }

pub few_there : (fixed : Fixed) (plan : JobPlan) (s t : Store) → IsAnalysed fixed plan → SeesSame plan fixed.date s t → (limit k : ℕ) →
    FewViewsUpTo fixed plan s limit k → FewViewsUpTo fixed plan t limit k
few_there fixed plan s t ready same limit k few =
    λ n from to more. few n from to (more_there fixed plan t s ready (both_ways plan fixed.date s t same) n limit more)

pub first_with_more_is_seen : (fixed : Fixed) (plan : JobPlan) (s t : Store) (limit step : ℕ) → IsAnalysed fixed plan → SeesSame plan fixed.date s t →
    IsFirstWithMore fixed plan s limit step → IsFirstWithMore fixed plan t limit step
first_with_more_is_seen fixed plan s t limit step ready same first = record {
  from_one = first.from_one;
  to_last = first.to_last;
  more = more_there fixed plan s t ready same step limit first.more;
  few = few_there fixed plan s t ready same limit (step - 1) first.few;
  none_met = none_met_there fixed plan s t ready same step first.none_met;
}

pub free_is_seen : (fixed : Fixed) (plan : JobPlan) (s t : Store) (limit : ℕ) (places : List Place) → IsAnalysed fixed plan → SeesSame plan fixed.date s t →
    IsFree fixed plan s limit places → IsFree fixed plan t limit places
free_is_seen fixed plan s t limit places ready same free = record {
  safe = safe;
  few = few_there fixed plan s t ready same limit (length plan.steps) free.few;
  made = record {
    made = All-weaker (Makes fixed plan s) (Makes fixed plan t) (makes_there fixed plan s t ready same free.safe) places free.made.made;
    all = λ p makes. free.made.all p (makes_there fixed plan t s ready (both_ways plan fixed.date s t same) safe p makes);
    rising = free.made.rising;
  };
}
  where
    safe : IsSafe fixed plan t
    safe = safe_there fixed plan s t ready same free.safe
