-- In two stores that show a job the same it writes the same lines as its steps end, as their sets are disposed of, and as it ends.
use Rattle.std.proofs.Common.{◌≡◌, ◌-◌, ℕ, true, List, Option, Some, None, refl, sym, ◌∙◌, subst}
use Rattle.std.specs.Prelude.{slice_get}
use Rattle.std.specs.List.{AllByRecursion}
use Rattle.jname_core.specs.declared.key.Key.{Key}
use Rattle.jcl_plan.specs.declared.outcome.Outcome.{Outcome}
use Rattle.jcl_plan.specs.declared.plan.DdKind.{DdKind}
use Rattle.jcl_plan.specs.declared.plan.DdKind.TheVariants.{Sysout, Dummy, Cards, Set}
use Rattle.jcl_plan.specs.declared.plan.DdPlan.{DdPlan}
use Rattle.jcl_plan.specs.declared.plan.SetPlan.{SetPlan}
use Rattle.jcl_plan.specs.declared.plan.Word.{Word}
use Rattle.jcl_meaning.specs.declared.names.HeldName.{HeldName}
use Rattle.jcl_meaning.specs.declared.state.DdState.{DdState}
use Rattle.jcl_meaning.specs.declared.state.Disposed.{Disposed}
use Rattle.jcl_meaning.specs.declared.state.Own.{Own}
use Rattle.jcl_meaning.specs.declared.state.Passed.{Passed}
use Rattle.jcl_meaning.specs.declared.state.Resolution.TheVariants.{Means}
use Rattle.jcl_meaning.specs.declared.state.TakenSet.{TakenSet}
use Rattle.jcl_meaning.specs.Dispositions.{as_taken, changed, disposed_by, left_word}
use Rattle.jcl_meaning.specs.EndActs.{after_abend, disposes, finished, finishes, leaves, left_at, left_disposed, passed_by, set_disposed, set_disposes}
use Rattle.jcl_meaning.specs.Names.{is_temporary}
use Rattle.jcl_meaning.specs.Plans.{conditional_meaning, normal_meaning, word_done}
use Rattle.jcl_meaning.specs.Programs.{taken_by}
use Rattle.jcl_meaning.specs.Resolutions.{meaning_at}
use Rattle.jcl_meaning.specs.States.{Answers, Done, Fixed, State, cancel_due}
use Rattle.jcl_meaning.specs.Stores.{Store}
use Rattle.jcl_meaning.specs.Takes.{releases}
use Rattle.part_laws.specs.Fits.{AreTaken, IsDdHeld, IsHeldFor, IsPassed, sees_set}
use Rattle.part_laws.proofs.SameReads.{IsSeen}
use Rattle.part_laws.proofs.Taken.{passed_there, taken_seen}
use Rattle.part_laws.proofs.TakesAlike.{at}
use Rattle.path_laws.proofs.ShownReads.{disposed_alike}
use Rattle.path_laws.proofs.ShownWrites.{changed_alike, released_alike}
use Rattle.path_laws.proofs.Sights.{ShowAlike}
use Rattle.start_laws.proofs.LinesTaken.{WroteAlike, either_wrote, goes_on}

module _ (names : List HeldName) (fixed : Fixed) (s t : Store) (h : ShowAlike names fixed.date s t) (own : Own) (answers : Answers) where
  abbrev Same : Done → Done → Type 0
  Same d e = WroteAlike names fixed.date d e

  abbrev here : State
  here = at s own answers

  abbrev there : State
  there = at t own answers

  -- the step's end
  finishes_same : (n : ℕ) (over : Option Outcome) → Same (finishes n over here) (finishes n over there)
  finishes_same n (Some o) = goes_on names fixed.date s t _ _ _ h
  finishes_same n None =
      either_wrote names fixed.date (cancel_due answers.cancels own.lines) _ _ _ _ (goes_on names fixed.date s t _ _ _ h)
      (goes_on names fixed.date s t _ _ _ h)

  pub finished_same : (n : ℕ) → Same (finished n here) (finished n there)
  finished_same n = either_wrote names fixed.date own.runs _ _ _ _ (finishes_same n own.over) (goes_on names fixed.date s t _ _ _ h)

  module _ (n dd : ℕ) (name : Option (List ℕ)) where
    -- dispositions
    set_disposed_same : (p : SetPlan) (x : TakenSet) (d : Disposed) → sees_set names x.key ≡ true →
        Same (set_disposed fixed n dd name p x here d) (set_disposed fixed n dd name p x there d)
    set_disposed_same p x d seen = record {
      lines = refl;
      state = record {
        stores = released_alike names fixed.date (changed d.change s x.key x.serial fixed.date) (changed d.change t x.key x.serial fixed.date)
            (changed_alike names fixed.date s t h d.change x.key x.serial seen) (releases p.space) x.key x.serial;
        own = refl;
        answers = refl;
      };
    }

    set_disposes_same : (p : SetPlan) (x : Option TakenSet) → IsSeen names x →
        Same (set_disposes fixed n dd name p x here) (set_disposes fixed n dd name p x there)
    set_disposes_same p None seen = goes_on names fixed.date s t _ _ _ h
    set_disposes_same p (Some x) seen =
        let word : Word =
        word_done (normal_meaning (is_temporary x.key) p.normal) (conditional_meaning (is_temporary x.key) p.conditional) (after_abend own.over) x.made in
        let d : Disposed = disposed_by word s x fixed.date in
        subst (λ (e : Disposed). Same (set_disposed fixed n dd name p x here d) (set_disposed fixed n dd name p x there e))
        (disposed_alike names fixed.date s t h word x seen) (set_disposed_same p x d seen)

    disposes_same : (kind : DdKind) (x : Option DdState) → IsSeen names (taken_by x) →
        Same (disposes x fixed n dd name kind here) (disposes x fixed n dd name kind there)
    disposes_same kind None seen = goes_on names fixed.date s t _ _ _ h
    disposes_same (Sysout class) (Some x) seen = goes_on names fixed.date s t _ _ _ h
    disposes_same Dummy (Some x) seen = goes_on names fixed.date s t _ _ _ h
    disposes_same (Cards cards) (Some x) seen = goes_on names fixed.date s t _ _ _ h
    disposes_same (Set p) (Some x) seen = set_disposes_same p x.taken seen

    pub dispose_same : (step : ℕ) (dds : List DdPlan) → AreTaken names fixed.meanings step 1 dds own.dds → (kind : DdKind) →
        Same (disposes (slice_get own.dds (dd - 1)) fixed n dd name kind here) (disposes (slice_get own.dds (dd - 1)) fixed n dd name kind there)
    dispose_same step dds each kind =
        disposes_same kind (slice_get own.dds (dd - 1)) (taken_seen names fixed.meanings step 1 dds own.dds each (dd - 1))

    -- the job's end
    left_disposed_same : (q : Passed) (d : Disposed) → sees_set names q.key ≡ true →
        Same (left_disposed fixed n dd name q here d) (left_disposed fixed n dd name q there d)
    left_disposed_same q d seen =
        record { lines = refl; state = record { stores = changed_alike names fixed.date s t h d.change q.key q.serial seen; own = refl; answers = refl } }

    leaves_same : (p : SetPlan) (q : Option Passed) → ((r : Passed) → q ≡ Some r → sees_set names r.key ≡ true) →
        Same (leaves fixed n dd name p q here) (leaves fixed n dd name p q there)
    leaves_same p None seen = goes_on names fixed.date s t _ _ _ h
    leaves_same p (Some q) seen =
        let word : Word = left_word (is_temporary q.key) q.abend_later (conditional_meaning (is_temporary q.key) p.conditional) q.made in
        let d : Disposed = disposed_by word s (as_taken q) fixed.date in
        subst (λ (e : Disposed). Same (left_disposed fixed n dd name q here d) (left_disposed fixed n dd name q there e))
        (disposed_alike names fixed.date s t h word (as_taken q) (seen q refl)) (left_disposed_same q d (seen q refl))

    passed_seen : (p : SetPlan) → ((key : Key) → meaning_at fixed.meanings n dd ≡ Means key → IsHeldFor names p key) →
        AllByRecursion (IsPassed names fixed.meanings) own.passed → (q : Passed) → passed_by own.passed n dd ≡ Some q → sees_set names q.key ≡ true
    passed_seen p held all q is =
        let by = passed_there (IsPassed names fixed.meanings) own.passed n dd q all is in
        let same_dd : meaning_at fixed.meanings q.step q.dd ≡ meaning_at fixed.meanings n dd = λ i. meaning_at fixed.meanings (by.1 i) (by.2 i) in
        (held q.key (sym same_dd ∙ by.0.meant)).seen

    pub left_same : (kind : DdKind) → IsDdHeld names fixed.meanings n dd kind → AllByRecursion (IsPassed names fixed.meanings) own.passed →
        Same (left_at fixed n dd name kind here) (left_at fixed n dd name kind there)
    left_same (Sysout class) held all = goes_on names fixed.date s t _ _ _ h
    left_same Dummy held all = goes_on names fixed.date s t _ _ _ h
    left_same (Cards cards) held all = goes_on names fixed.date s t _ _ _ h
    left_same (Set p) held all = leaves_same p (passed_by own.passed n dd) (passed_seen p held.key all)
