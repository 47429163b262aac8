-- From states alike a step ends alike, and its dispositions and the job's end do the same.
use Rattle.std.proofs.Common.{◌≡◌, ◌-◌, ℕ, true, List, Option, Some, None, refl, sym, ◌∙◌, subst}
use Rattle.std.specs.Prelude.{slice_get}
use Rattle.std.specs.List.{AllByRecursion}
use Rattle.jname_core.specs.declared.key.Key.{Key}
use Rattle.jcl_plan.specs.declared.outcome.Outcome.{Outcome}
use Rattle.jcl_plan.specs.declared.plan.DdKind.{DdKind}
use Rattle.jcl_plan.specs.declared.plan.DdKind.TheVariants.{Sysout, Dummy, Cards, Set}
use Rattle.jcl_plan.specs.declared.plan.DdPlan.{DdPlan}
use Rattle.jcl_plan.specs.declared.plan.SetPlan.{SetPlan}
use Rattle.jcl_meaning.specs.declared.names.HeldName.{HeldName}
use Rattle.jcl_meaning.specs.declared.state.DdState.{DdState}
use Rattle.jcl_meaning.specs.declared.state.Disposed.{Disposed}
use Rattle.jcl_meaning.specs.declared.state.Own.{Own}
use Rattle.jcl_meaning.specs.declared.state.Passed.{Passed}
use Rattle.jcl_meaning.specs.declared.state.Resolution.TheVariants.{Means}
use Rattle.jcl_meaning.specs.declared.state.TakenSet.{TakenSet}
use Rattle.jcl_meaning.specs.Dispositions.{as_taken, changed, disposed_by, left_word}
use Rattle.jcl_meaning.specs.EndActs.{after_abend, disposes, finished, finishes, leaves, left_at, left_disposed, passed_by, set_disposed, set_disposes}
use Rattle.jcl_meaning.specs.Names.{is_temporary}
use Rattle.jcl_meaning.specs.Parts.{SamePart}
use Rattle.jcl_meaning.specs.Plans.{conditional_meaning, normal_meaning, word_done}
use Rattle.jcl_meaning.specs.Programs.{taken_by}
use Rattle.jcl_meaning.specs.Resolutions.{meaning_at}
use Rattle.jcl_meaning.specs.States.{Answers, Fixed, cancel_due}
use Rattle.jcl_meaning.specs.Stores.{Store}
use Rattle.jcl_meaning.specs.Takes.{releases}
use Rattle.part_laws.specs.Alike.{AlikeDone}
use Rattle.part_laws.specs.Fits.{AreTaken, IsDdHeld, IsHeldFor, IsPassed, sees_set}
use Rattle.part_laws.proofs.SameReads.{IsSeen, same_disposed}
use Rattle.part_laws.proofs.SameWrites.{same_change, same_release}
use Rattle.part_laws.proofs.Taken.{passed_there, taken_seen}
use Rattle.part_laws.proofs.TakesAlike.{at, either_alike, goes_alike}

module _ (names : List HeldName) (s t : Store) (p : SamePart names s t) (own : Own) (answers : Answers) where
  finish_alike : (n : ℕ) (over : Option Outcome) → AlikeDone names (finishes n over (at s own answers)) (finishes n over (at t own answers))
  finish_alike n (Some o) = goes_alike names s t _ _ _ p
  finish_alike n None = either_alike names (cancel_due answers.cancels own.lines) _ _ _ _ (goes_alike names s t _ _ _ p) (goes_alike names s t _ _ _ p)

  pub finished_alike : (n : ℕ) → AlikeDone names (finished n (at s own answers)) (finished n (at t own answers))
  finished_alike n = either_alike names own.runs _ _ _ _ (finish_alike n own.over) (goes_alike names s t _ _ _ p)

  module _ (fixed : Fixed) (n dd : ℕ) (name : Option (List ℕ)) where
    disposed_alike : (plan : SetPlan) (u : TakenSet) (d : Disposed) → sees_set names u.key ≡ true →
        AlikeDone names (set_disposed fixed n dd name plan u (at s own answers) d) (set_disposed fixed n dd name plan u (at t own answers) d)
    disposed_alike plan u d seen = record {
      lines = refl;
      meets = refl;
      made = refl;
      state = record {
        part = same_release names (changed d.change s u.key u.serial fixed.date) (changed d.change t u.key u.serial fixed.date)
            (same_change names s t p d.change u.key u.serial fixed.date seen) (releases plan.space) u.key u.serial seen;
        own = refl;
        answers = refl;
      };
    }

    set_disposes_alike : (plan : SetPlan) (u : Option TakenSet) → IsSeen names u →
        AlikeDone names (set_disposes fixed n dd name plan u (at s own answers)) (set_disposes fixed n dd name plan u (at t own answers))
    set_disposes_alike plan None seen = goes_alike names s t _ _ _ p
    set_disposes_alike plan (Some u) seen =
        let w =
        word_done (normal_meaning (is_temporary u.key) plan.normal) (conditional_meaning (is_temporary u.key) plan.conditional)
        (after_abend own.over) u.made in
        subst (λ (d : Disposed). AlikeDone names (set_disposed fixed n dd name plan u (at s own answers) (disposed_by w s u fixed.date))
        (set_disposed fixed n dd name plan u (at t own answers) d))
        (same_disposed names s t p w u fixed.date seen)
        (disposed_alike plan u (disposed_by w s u fixed.date) seen)

    disposes_at_alike : (kind : DdKind) (x : Option DdState) → ((y : DdState) → x ≡ Some y → IsSeen names y.taken) →
        AlikeDone names (disposes x fixed n dd name kind (at s own answers)) (disposes x fixed n dd name kind (at t own answers))
    disposes_at_alike kind None seen = goes_alike names s t _ _ _ p
    disposes_at_alike (Sysout class) (Some x) seen = goes_alike names s t _ _ _ p
    disposes_at_alike Dummy (Some x) seen = goes_alike names s t _ _ _ p
    disposes_at_alike (Cards cards) (Some x) seen = goes_alike names s t _ _ _ p
    disposes_at_alike (Set plan) (Some x) seen = set_disposes_alike plan x.taken (seen x refl)

    left_disposed_alike : (plan : SetPlan) (q : Passed) (d : Disposed) → sees_set names q.key ≡ true →
        AlikeDone names (left_disposed fixed n dd name q (at s own answers) d) (left_disposed fixed n dd name q (at t own answers) d)
    left_disposed_alike plan q d seen = record {
      lines = refl;
      meets = refl;
      made = refl;
      state = record { part = same_change names s t p d.change q.key q.serial fixed.date seen; own = refl; answers = refl };
    }

    leaves_alike : (plan : SetPlan) (q : Option Passed) → ((r : Passed) → q ≡ Some r → sees_set names r.key ≡ true) →
        AlikeDone names (leaves fixed n dd name plan q (at s own answers)) (leaves fixed n dd name plan q (at t own answers))
    leaves_alike plan None seen = goes_alike names s t _ _ _ p
    leaves_alike plan (Some q) seen =
        let w = left_word (is_temporary q.key) q.abend_later (conditional_meaning (is_temporary q.key) plan.conditional) q.made in
        subst (λ (d : Disposed). AlikeDone names (left_disposed fixed n dd name q (at s own answers) (disposed_by w s (as_taken q) fixed.date))
        (left_disposed fixed n dd name q (at t own answers) d))
        (same_disposed names s t p w (as_taken q) fixed.date (seen q refl))
        (left_disposed_alike plan q (disposed_by w s (as_taken q) fixed.date) (seen q refl))

    -- what a DD passed is what its key means
    passed_seen : (plan : SetPlan) → ((key : Key) → meaning_at fixed.meanings n dd ≡ Means key → IsHeldFor names plan key) →
        AllByRecursion (IsPassed names fixed.meanings) own.passed → (q : Passed) → passed_by own.passed n dd ≡ Some q → sees_set names q.key ≡ true
    passed_seen plan held all q e =
        let there = passed_there (IsPassed names fixed.meanings) own.passed n dd q all e in
        (held q.key (sym (λ i. meaning_at fixed.meanings (there.1 i) (there.2 i)) ∙ there.0.meant)).seen

    pub left_alike : (kind : DdKind) → IsDdHeld names fixed.meanings n dd kind → AllByRecursion (IsPassed names fixed.meanings) own.passed →
        AlikeDone names (left_at fixed n dd name kind (at s own answers)) (left_at fixed n dd name kind (at t own answers))
    left_alike (Sysout class) h all = goes_alike names s t _ _ _ p
    left_alike Dummy h all = goes_alike names s t _ _ _ p
    left_alike (Cards cards) h all = goes_alike names s t _ _ _ p
    left_alike (Set plan) h all = leaves_alike plan (passed_by own.passed n dd) (passed_seen plan h.key all)

    pub dispose_alike : (step : ℕ) (dds : List DdPlan) → AreTaken names fixed.meanings step 1 dds own.dds → (kind : DdKind) →
        AlikeDone names (disposes (slice_get own.dds (dd - 1)) fixed n dd name kind (at s own answers))
        (disposes (slice_get own.dds (dd - 1)) fixed n dd name kind (at t own answers))
    dispose_alike step dds h kind =
        let seen = taken_seen names fixed.meanings step 1 dds own.dds h (dd - 1) in
        disposes_at_alike kind (slice_get own.dds (dd - 1)) (λ y e. subst (λ (x : Option DdState). IsSeen names (taken_by x)) e seen)
