-- A case for a turn of an admitted job.
use Rattle.std.proofs.Common.{◌≡◌, ◌≤◌, ◌<◌, ◌⊎◌, inl, inr, ℕ, true, false, List, [], ◌∷◌, Some, arith, drop, length, refl, sym, ap, ◌∙◌, subst}
use Rattle.std.specs.List.{Contains}
use Rattle.std.proofs.lemmas.Bool.{cases_Bool}
use Rattle.std.proofs.lemmas.List.Elements.{All-contains, All-drop}
use Rattle.jcl_plan.specs.declared.plan.JobPlan.{JobPlan}
use Rattle.jcl_meaning.specs.declared.state.Own.{Own}
use Rattle.jcl_meaning.specs.declared.state.Place.{Place}
use Rattle.jcl_meaning.specs.Agendas.{Action, agenda}
use Rattle.jcl_meaning.specs.RequestActs.{head_or}
use Rattle.jcl_meaning.specs.States.{Answers, State}
use Rattle.jcl_meaning.specs.WellFormed.{AreWellFormedPrograms}
use Rattle.world_meaning.specs.Lenses.{put_back, seen}
use Rattle.world_meaning.specs.Tracks.{kept_on, kept_unless_made, kept_without}
use Rattle.world_meaning.specs.Turns.{Advanced, acts, advanced, answers_due, ends, granting, is_over, must_wait, state_in, waits}
use Rattle.world_meaning.specs.Worlds.{Admission, Admitted, Config, Kept, Running, Shared}
use Rattle.law_core.proofs.Elements.{contains_first}
use Rattle.case_laws.specs.Cases.{HasTracks, IsCovered}
use Rattle.case_laws.specs.Gains.{Gains, MakesSet}
use Rattle.case_laws.proofs.Fairness.{are_fair}
use Rattle.case_laws.proofs.Gaining.{act_gains}
use Rattle.case_laws.proofs.Known.{IsKnown, all_known, end_ahead}
use Rattle.case_laws.proofs.Spending.{Spent, free_left, spent, spent_conserves}
use Rattle.case_laws.proofs.Sums.{sum_filter}
use Rattle.case_laws.proofs.Turned.{Turned, turn_told, turned}
use Rattle.case_laws.proofs.Turning.{WentOn}

module _ (c : Config) (old : Shared) (r : Running) (plan : JobPlan) (a : Admission) (count : ℕ) (own : Own) (formed : AreWellFormedPrograms c.programs)
    (left : count < length (agenda plan c.programs)) (covered : a.assured ≡ true → IsCovered c old r.job plan a count own) where
  -- no growth is granted, and a primary to an assured job alone
  abbrev answers : Action → Own → Answers
  answers = answers_due c.programs plan.steps (granting old r.job false a.assured)

  abbrev here : State
  here = state_in (seen r.job old.store) own

  abbrev DoesNext : Advanced → Type 0
  DoesNext x = Turned answers a.fixed (λ b o. refl) (drop count (agenda plan c.programs)) here x

  gains : (x : Advanced) → DoesNext x → Gains a.fixed x.action x.before x.done
  gains x t =
      subst (Gains a.fixed x.action x.before) (sym t.does)
      (act_gains a.fixed x.action x.before)

  has_tracks : (x : Advanced) → DoesNext x → (p : Place) → MakesSet a.fixed x.action x.before x.done → x.done.made ≡ p ∷ [] → HasTracks (old.kept p.serial) plan r.job p
  has_tracks x t p m made =
      let is : a.assured ≡ true = sym (ap (λ (b : Answers). b.primary) t.answered) ∙ m.granted in
      covered is p (t.makes (λ b o. are_fair c.programs plan.steps (granting old r.job false a.assured) b o formed is) p
      (subst (λ (ps : List Place). Contains ps p) (sym made) (contains_first p [])))

  known : (x : Advanced) → DoesNext x → IsKnown plan.steps x.action
  known x t =
      All-contains (IsKnown plan.steps) (drop count (agenda plan c.programs)) x.action
      (All-drop (IsKnown plan.steps) count (agenda plan c.programs) (all_known plan c.programs)) t.among

  spends : (x : Advanced) → DoesNext x → (kept : List ℕ → List Kept) → ((v : List ℕ) → kept_on kept v ≤ kept_on (kept_unless_made old.kept r.job x.done.made) v) →
      Spent old (put_back r.job old.store x.done.state.store) kept
  spends x t kept few =
      spent old r.job plan a.fixed x.action x.before x.done t.before (ap (λ (b : Answers). head_or true b.grants) t.answered) (known x t) (has_tracks x t)
      kept few (gains x t)

  by_end : (x : Advanced) → advanced c old r.job plan a count own false a.assured ≡ Some x → DoesNext x → must_wait old.operations r.job x ≡ false →
      (is_over c plan x ≡ true) ⊎ (is_over c plan x ≡ false) → WentOn c old r (Admitted plan a count own)
  by_end x e t goes (inr on) =
      let kept : List ℕ → List Kept = kept_unless_made old.kept r.job x.done.made in
      let s : Spent old (put_back r.job old.store x.done.state.store) kept = spends x t kept (λ v. omega arith) in (
        _,
        _,
        _,
        acts x false a.assured (free_left old (put_back r.job old.store x.done.state.store) kept s.touched) e (λ h. h) goes on refl refl
            (spent_conserves old _ s refl) refl,
      )
  by_end x e t goes (inl over) =
      let kept : List ℕ → List Kept = kept_without (kept_unless_made old.kept r.job x.done.made) r.job in
      let s : Spent old (put_back r.job old.store x.done.state.store) kept = spends x t kept
      (λ v. sum_filter _ _ (kept_unless_made old.kept r.job x.done.made v)) in (
        _,
        _,
        _,
        ends x false a.assured (free_left old (put_back r.job old.store x.done.state.store) kept s.touched) e (λ h. h) goes over refl refl
            (spent_conserves old _ s refl) refl,
      )

  by_wait : (x : Advanced) → advanced c old r.job plan a count own false a.assured ≡ Some x →
      (must_wait old.operations r.job x ≡ true) ⊎ (must_wait old.operations r.job x ≡ false) → WentOn c old r (Admitted plan a count own)
  by_wait x e (inl wait) = (_, _, _, waits x false a.assured e wait refl refl refl)
  by_wait x e (inr goes) =
      by_end x e (turned answers a.fixed (λ b o. refl) (drop count (agenda plan c.programs)) here count x e) goes (cases_Bool (is_over c plan x))

  pub advances : WentOn c old r (Admitted plan a count own)
  advances =
      let next = turn_told answers a.fixed (drop count (agenda plan c.programs)) here count (end_ahead plan c.programs count left) in
      by_wait next.0 next.1 (cases_Bool (must_wait old.operations r.job next.0))
