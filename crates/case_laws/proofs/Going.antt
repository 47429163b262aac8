-- What a turn of a job leaves can go on.
use Rattle.std.proofs.Common.{◌≡◌, ◌<◌, ◌++◌, ℕ, Bool, true, false, List, [], ◌∷◌, Option, Some, None, arith, drop, length, length-append, refl, sym, ap, ◌∙◌, subst}
use Rattle.std.specs.Prelude.{◌==◌, nat_le}
use Rattle.std.proofs.lemmas.Bool.{cond-true, eq-eqb, leb-false}
use Rattle.jcl_plan.specs.declared.entry.JobLine.{JobLine}
use Rattle.jcl_plan.specs.declared.plan.JobPlan.{JobPlan}
use Rattle.jcl_meaning.specs.declared.names.HeldName.{HeldName}
use Rattle.jcl_meaning.specs.declared.state.Own.{Own}
use Rattle.jcl_meaning.specs.Agendas.{Action, Over, agenda, lefts_from, steps_from}
use Rattle.jcl_meaning.specs.Names.{names_of}
use Rattle.jcl_meaning.specs.Parts.{SamePart}
use Rattle.jcl_meaning.specs.Programs.{moves_of}
use Rattle.jcl_meaning.specs.Solo.{nothing_own}
use Rattle.jcl_meaning.specs.States.{Fixed}
use Rattle.jcl_meaning.specs.Stores.{Store}
use Rattle.jcl_meaning.specs.WellFormed.{AreWellFormedPrograms}
use Rattle.meaning_laws.proofs.Parts.{part_back}
use Rattle.world_meaning.specs.Admissions.{Answered, MayFail, admitted, assured, fixed_at, no_space, refused, risk, risky, too_many}
use Rattle.world_meaning.specs.Holdings.{Holds, blocked, broken, held, read}
use Rattle.world_meaning.specs.Lenses.{WorldStore, put_back, seen}
use Rattle.world_meaning.specs.Tracks.{kept_unless_made}
use Rattle.world_meaning.specs.Transitions.{GoesOn}
use Rattle.world_meaning.specs.Turns.{Advanced, Advances, acts, advanced, answers_due, ends, granting, is_over, state_in, waits}
use Rattle.world_meaning.specs.Worlds.{Admission, Admitted, Config, Kept, Named, Running, Selected, Shared, Stage, Wanting}
use Rattle.world_laws.specs.Beside.{FitsAt}
use Rattle.world_laws.proofs.Beside.{behind}
use Rattle.case_laws.specs.Cases.{CanGoOn, HasTracks, IsCovered, MayMake}
use Rattle.case_laws.proofs.Fairness.{are_fair}
use Rattle.case_laws.proofs.Making.{Led, led, may_make_alike, not_again}
use Rattle.case_laws.proofs.Ordered.{agenda_ordered, ordered_behind}
use Rattle.case_laws.proofs.Paths.{covers}
use Rattle.case_laws.proofs.StillKept.{has_unless_made}

-- what is left to an initiator
abbrev pub RunsOn : Config → Shared → Option Running → Type 0
RunsOn c s None = Unit {0}
RunsOn c s (Some r) = CanGoOn c s r.job r.stage

-- an agenda has an action
pub some_action : (c : Config) (plan : JobPlan) → 0 < length (agenda plan c.programs)
some_action c plan =
    let some : (xs ys : List Action) → 0 < length (xs ++ (ys ++ Over ∷ [])) =
    λ xs ys. omega (arith, length-append xs (ys ++ Over ∷ []), length-append ys (Over ∷ [])) in
    some (steps_from (moves_of c.programs) 1 plan.steps) (lefts_from 1 plan.steps)

-- its own store, put back, is what the job then sees
own_part : (job : ℕ) (names : List HeldName) (w : WorldStore) (s : Store) → SamePart names s (seen job (put_back job w s))
own_part job names w s = record {
  named = λ name serial h. refl;
  temporary = λ name serial. sym (cond-true (job == job) _ _ (eq-eqb job job refl));
  unnamed = λ step dd serial. sym (cond-true (job == job) _ _ (eq-eqb job job refl));
  catalog = λ name. refl;
}

more_left : (most count : ℕ) (b : Bool) → nat_le most count ≡ b → b ≡ false → count < most
more_left most count b e f = leb-false most count (e ∙ f)

module _ (c : Config) (old : Shared) (r : Running) (programs : AreWellFormedPrograms c.programs) where
  -- behind a turn of an assured job tracks are kept for what it may make still
  module _ (plan : JobPlan) (a : Admission) (count : ℕ) (own : Own) (fits : FitsAt c (Admitted plan a count own)) where
    led_to : (x : Advanced) (growth primary : Bool) → advanced c old r.job plan a count own growth primary ≡ Some x → primary ≡ true →
        Led a.fixed (agenda plan c.programs) (drop count (agenda plan c.programs)) (state_in (seen r.job old.store) own) x
    led_to x growth primary e granted =
        led (answers_due c.programs plan.steps (granting old r.job growth primary)) a.fixed (agenda plan c.programs)
        (λ b o. are_fair c.programs plan.steps (granting old r.job growth primary) b o programs granted) (drop count (agenda plan c.programs))
        (state_in (seen r.job old.store) own) count x refl (ordered_behind count (agenda plan c.programs) (agenda_ordered plan c.programs)) e

    covered_behind : (x : Advanced) (growth primary : Bool) (new : Shared) → advanced c old r.job plan a count own growth primary ≡ Some x → primary ≡ true →
        new.store ≡ put_back r.job old.store x.done.state.store → new.kept ≡ kept_unless_made old.kept r.job x.done.made →
        IsCovered c old r.job plan a count own → IsCovered c new r.job plan a x.count x.done.state.own
    covered_behind x growth primary new e granted stores keeps covered p m =
        let l : Led a.fixed (agenda plan c.programs) (drop count (agenda plan c.programs)) (state_in (seen r.job old.store) own) x =
        led_to x growth primary e granted in
        let seen_now : MayMake a.fixed (drop x.count (agenda plan c.programs)) (seen r.job (put_back r.job old.store x.done.state.store)) x.done.state.own p =
        subst (λ (w : WorldStore). MayMake a.fixed (drop x.count (agenda plan c.programs)) (seen r.job w) x.done.state.own p) stores m in
        let made_then : MayMake a.fixed (drop x.count (agenda plan c.programs)) x.done.state.store x.done.state.own p =
        may_make_alike (names_of plan) a.fixed (drop x.count (agenda plan c.programs)) (seen r.job (put_back r.job old.store x.done.state.store))
        x.done.state.store x.done.state.own p
        (part_back (names_of plan) x.done.state.store (seen r.job (put_back r.job old.store x.done.state.store))
        (own_part r.job (names_of plan) old.store x.done.state.store)) (behind c old r plan a count own fits x growth primary e).fits seen_now in
        subst (λ (kept : List ℕ → List Kept). HasTracks (kept p.serial) plan r.job p) (sym keeps)
        (has_unless_made plan r.job p old.kept x.done.made
        (λ q h same_step same_dd. not_again a.fixed (agenda plan c.programs) (drop count (agenda plan c.programs)) (state_in (seen r.job old.store) own) x l
        x.done.state.store x.done.state.own p q made_then h same_step same_dd)
        (covered p (l.back p made_then)))

    turn_goes_on : (lines : List JobLine) (new : Shared) (runs : Option Running) → r.stage ≡ Admitted plan a count own →
        CanGoOn c old r.job (Admitted plan a count own) → Advances c old r plan a count own lines new runs → RunsOn c new runs
    turn_goes_on lines new runs is can (waits x growth primary e must t n on) =
        subst (RunsOn c new) (sym on) (subst (λ (s : Shared). CanGoOn c s r.job r.stage) (sym n) (subst (CanGoOn c old r.job) (sym is) can))
    turn_goes_on lines new runs is can (acts x growth primary free e grants goes more t n conserved on) =
        subst (RunsOn c new) (sym on) (
          more_left (length (agenda plan c.programs)) x.count (is_over c plan x) refl more,
          λ is_assured. covered_behind x growth primary new e (grants is_assured) (ap (λ (s : Shared). s.store) n) (ap (λ (s : Shared). s.kept) n)
              (can.1 is_assured),
        )
    turn_goes_on lines new runs is can (ends x growth primary free e grants goes last t n conserved gone) = subst (RunsOn c new) (sym gone) tt

  holds_goes_on : (plan : JobPlan) (lines : List JobLine) (new : Shared) (runs : Option Running) → Holds old r plan lines new runs → RunsOn c new runs
  holds_goes_on plan lines new runs (held free t n on) = subst (RunsOn c new) (sym on) tt
  holds_goes_on plan lines new runs (blocked by is t n on) = subst (RunsOn c new) (sym on) tt

  -- an admission without tracks is none of an assured job
  unassured : (plan : JobPlan) (fixed : Fixed) (lines : List JobLine) (new : Shared) (runs : Option Running) → runs ≡ admitted r lines plan fixed false →
      RunsOn c new runs
  unassured plan fixed lines new runs on = subst (RunsOn c new) (sym on) (some_action c plan, λ is_assured. absurd cc)

  may_fail_goes_on : (plan : JobPlan) (fixed : Fixed) (told : JobLine) (lines : List JobLine) (new : Shared) (runs : Option Running) →
      MayFail c old r plan fixed told lines new runs → RunsOn c new runs
  may_fail_goes_on plan fixed told lines new runs (risky b t n on) = unassured plan fixed lines new runs on
  may_fail_goes_on plan fixed told lines new runs (refused free b t n conserved gone) = subst (RunsOn c new) (sym gone) tt

  answered_goes_on : (plan : JobPlan) (fixed : Fixed) (lines : List JobLine) (new : Shared) (runs : Option Running) →
      Answered c old r plan fixed lines new runs → RunsOn c new runs
  answered_goes_on plan fixed lines new runs (assured places kept free safe are_made are others t n conserved on) =
      subst (RunsOn c new) (sym on) (
        some_action c plan,
        λ is_assured. subst (λ (s : Shared). IsCovered c s r.job plan (record { fixed = fixed; assured = true }) 0 nothing_own) (sym n)
            (covers c old r.job plan fixed places kept free safe are_made are),
      )
  answered_goes_on plan fixed lines new runs (no_space serial there t n on) = subst (RunsOn c new) (sym on) tt
  answered_goes_on plan fixed lines new runs (risk fault step dd path meets m) = may_fail_goes_on plan fixed _ lines new runs m
  answered_goes_on plan fixed lines new runs (too_many step low high views m) = may_fail_goes_on plan fixed _ lines new runs m

  pub goes_on : (stage : Stage) (lines : List JobLine) (new : Shared) (runs : Option Running) → r.stage ≡ stage → FitsAt c stage → CanGoOn c old r.job stage →
      GoesOn c old r stage lines new runs → RunsOn c new runs
  goes_on (Selected first) lines new runs is fits can (broken n free f t e conserved gone) = subst (RunsOn c new) (sym gone) tt
  goes_on (Selected first) lines new runs is fits can (read plan rest denoted h) = holds_goes_on plan lines new runs h
  goes_on (Wanting plan) lines new runs is fits can h = holds_goes_on plan lines new runs h
  goes_on (Named plan) lines new runs is fits can g = answered_goes_on plan (fixed_at c old r.job plan g.places) lines new runs g.answers
  goes_on (Admitted plan a count own) lines new runs is fits can g = turn_goes_on plan a count own fits lines new runs is can g
