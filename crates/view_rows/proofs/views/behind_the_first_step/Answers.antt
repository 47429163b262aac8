use Rattle.std.proofs.Common.{[], ◌∷◌, arith, refl}
use Rattle.std.proofs.lemmas.List.Elements.{All-cons, All-nil}
use Rattle.jcl_plan.specs.declared.outcome.Outcome.TheVariants.{Code}
use Rattle.jcl_meaning.specs.History.{IsStepOutcome}
use Rattle.jcl_meaning.specs.Views.{IsViewAfter}
use Rattle.view_rows.specs.Examples.{no_sets, passing_job, places, seen}
use Rattle.jcl_meaning.specs.Acts.{act}
use Rattle.jcl_meaning.specs.Solo.{fixed_alone, run}
use Rattle.jcl_meaning.specs.Stores.{store_of}
use Rattle.view_rows.proofs.views.behind_the_first_step.Goals as goal

is_view : IsViewAfter (fixed_alone no_sets passing_job places 25567) passing_job (store_of no_sets) 1 (seen 1 (Code 5 ∷ []))
unfolding run act
is_view = record {
  outcomes = Code 5 ∷ [];
  within = All-cons IsStepOutcome (Code 5) [] (omega arith) (All-nil IsStepOutcome);
  without_fault = refl;
  seen = refl;
}

pub returns : goal.returns
unfolding run act
returns c = record { there = refl; passed = refl; not_abended = refl; not_met = refl; met = refl; passed_so = refl; by_abend = refl; is_view = is_view }
