-- The end of a step, its dispositions, and what is left at the job's end.
use Rattle.std.proofs.Common.{◌≡◌, ◌-◌, ◌≤◌, arith, ℕ, Bool, true, false, cond, List, [], ◌∷◌, Option, Some, None, refl, sym, ap, ◌∙◌, subst}
use Rattle.std.specs.Prelude.{All, slice_get}
use Rattle.std.proofs.lemmas.Bool.{both_ways}
use Rattle.std.proofs.lemmas.List.Elements.{All-head, All-tail}
use Rattle.jcl_plan.specs.declared.outcome.Abend.TheVariants as abend
use Rattle.jcl_plan.specs.declared.outcome.Outcome.{Outcome}
use Rattle.jcl_plan.specs.declared.outcome.Outcome.TheVariants as outcome
use Rattle.jcl_plan.specs.declared.plan.DdKind.{DdKind}
use Rattle.jcl_plan.specs.declared.plan.DdKind.TheVariants.{Sysout, Dummy, Cards, Set}
use Rattle.jcl_plan.specs.declared.plan.DdPlan.{DdPlan}
use Rattle.jcl_plan.specs.declared.plan.SetPlan.{SetPlan}
use Rattle.jcl_plan.specs.declared.plan.Word.{Word}
use Rattle.jcl_plan.specs.declared.entry.JobLine.TheVariants as line
use Rattle.jcl_meaning.specs.declared.state.DdState.{DdState}
use Rattle.jcl_meaning.specs.declared.state.Disposed.{Disposed}
use Rattle.jcl_meaning.specs.declared.state.Passed.{Passed}
use Rattle.jcl_meaning.specs.declared.state.TakenSet.{TakenSet}
use Rattle.jcl_meaning.specs.Acts.{act}
use Rattle.jcl_meaning.specs.Agendas.{Dispose, Finish, Left}
use Rattle.jcl_meaning.specs.Dispositions.{as_taken, changed, disposed_by, left_word}
use Rattle.jcl_meaning.specs.EndActs.{after_abend, as_ending, disposes, end_line, disposes_at, ended_with, finishes, leaves, left_at, left_disposed, passed_after, passed_by, passed_with, set_disposed, set_disposes, without_pass}
use Rattle.jcl_meaning.specs.History.{IsStepOutcome}
use Rattle.jcl_meaning.specs.Names.{is_temporary}
use Rattle.jcl_meaning.specs.Plans.{conditional_meaning, normal_meaning, word_done}
use Rattle.jcl_meaning.specs.RequestActs.{head_or}
use Rattle.jcl_meaning.specs.States.{Fixed, State, cancel_due, goes, others, with_answers_used}
use Rattle.jcl_meaning.specs.Takes.{releases}
use Rattle.path_laws.proofs.Alike.{AsEnded, Closed, Meets, Open, Same, SameDd, dds_at, met_both}
use Rattle.path_laws.proofs.Shapes.{change_shaped, release_shaped, same_disposed}

-- what a step ends with
abbrev outcome_by : Option Outcome → State → Outcome
outcome_by (Some o) s = o
outcome_by None s = cond (cancel_due s.answers.cancels s.own.lines) (outcome.Abend abend.S222) (as_ending (head_or (outcome.Code 0) s.answers.outcomes))

abbrev pub outcome_of : State → Outcome
outcome_of s = cond s.own.runs (outcome_by s.own.over s) (outcome.Code 0)

ending_twice : (o : Outcome) → as_ending (as_ending o) ≡ as_ending o
ending_twice (outcome.Code code) = refl
ending_twice (outcome.Abend a) = refl
ending_twice outcome.Bypassed = refl
ending_twice outcome.Flushed = refl

ending_good : (o : Outcome) → IsStepOutcome o → IsStepOutcome (as_ending o)
ending_good (outcome.Code code) h = h
ending_good (outcome.Abend a) h = tt
ending_good outcome.Bypassed h = let le : 0 ≤ 4095 = omega arith in le
ending_good outcome.Flushed h = let le : 0 ≤ 4095 = omega arith in le

head_good : (os : List Outcome) → All IsStepOutcome os → IsStepOutcome (head_or (outcome.Code 0) os)
head_good [] h = let le : 0 ≤ 4095 = omega arith in le
head_good (o ∷ os) h = All-head IsStepOutcome o os h

others_good : (os : List Outcome) → All IsStepOutcome os → All IsStepOutcome (others os)
others_good [] h = h
others_good (o ∷ os) h = All-tail IsStepOutcome o os h

by_good : (s : State) (o : Option Outcome) → AsEnded o → All IsStepOutcome s.answers.outcomes →
    (as_ending (outcome_by o s) ≡ outcome_by o s) × IsStepOutcome (outcome_by o s)
by_good s (Some o) h g = h
by_good s None h g = by_cancel (cancel_due s.answers.cancels s.own.lines)
  where
    by_cancel : (b : Bool) → (as_ending (cond b (outcome.Abend abend.S222) (as_ending (head_or (outcome.Code 0) s.answers.outcomes)))
        ≡ cond b (outcome.Abend abend.S222) (as_ending (head_or (outcome.Code 0) s.answers.outcomes)))
        × IsStepOutcome (cond b (outcome.Abend abend.S222) (as_ending (head_or (outcome.Code 0) s.answers.outcomes)))
    by_cancel true = (refl, tt)
    by_cancel false = (
      ending_twice (head_or (outcome.Code 0) s.answers.outcomes),
      ending_good (head_or (outcome.Code 0) s.answers.outcomes) (head_good s.answers.outcomes g),
    )

pub outcome_good : (s : State) → AsEnded s.own.over → All IsStepOutcome s.answers.outcomes → IsStepOutcome (outcome_of s)
outcome_good s h g = by_runs s.own.runs
  where
    by_runs : (b : Bool) → IsStepOutcome (cond b (outcome_by s.own.over s) (outcome.Code 0))
    by_runs true = (by_good s s.own.over h g).1
    by_runs false = let le : 0 ≤ 4095 = omega arith in le

-- the state that a step's end leaves, by its outcome
finish_by : (n : ℕ) (o : Option Outcome) (s : State) → ((finishes n o s).meets ≡ None) × ((finishes n o s).state ≡ ended_with n (outcome_by o s) s)
finish_by n (Some o) s = (refl, refl)
finish_by n None s = by_cancel (cancel_due s.answers.cancels s.own.lines)
  where
    by_cancel : (b : Bool) →
        ((cond b (goes (line.Abend abend.S222 ∷ []) (ended_with n (outcome.Abend abend.S222) s))
        (goes (end_line (as_ending (head_or (outcome.Code 0) s.answers.outcomes)) ∷ []) (ended_with n (as_ending (head_or (outcome.Code 0) s.answers.outcomes)) s))).meets ≡ None)
        × ((cond b (goes (line.Abend abend.S222 ∷ []) (ended_with n (outcome.Abend abend.S222) s))
        (goes (end_line (as_ending (head_or (outcome.Code 0) s.answers.outcomes)) ∷ []) (ended_with n (as_ending (head_or (outcome.Code 0) s.answers.outcomes)) s))).state
        ≡ ended_with n (cond b (outcome.Abend abend.S222) (as_ending (head_or (outcome.Code 0) s.answers.outcomes))) s)
    by_cancel true = (refl, refl)
    by_cancel false = (refl, refl)

module _ (rest : List Outcome) (o : Outcome) (s t : State) (h : Same (o ∷ rest) s t) where
  others_none : (cs : List (Option ℕ)) → cs ≡ [] → others cs ≡ []
  others_none cs e = ap others e

  -- a step that ended with this outcome
  ended_alike : (n : ℕ) → Closed rest (ended_with n o s) (ended_with n o t)
  ended_alike n = record {
    same = record {
      store = h.store;
      passed = ap (passed_after o n) h.passed;
      ended = ap (λ (es : _). record { step = n; outcome = o } ∷ es) h.ended;
      faulted = h.faulted;
      volumes = h.volumes;
      runs = h.runs;
      dds = h.dds;
      granted = h.granted;
      granted_too = h.granted_too;
      no_cancel = others_none t.answers.cancels h.no_cancel;
      given = ap others h.given;
      good = others_good s.answers.outcomes h.good;
    };
    over = λ runs. refl;
  }

  -- a step that did not run
  passed_over : (s_over : s.own.runs ≡ false) →
      Closed rest (record { store = s.store; own = s.own; answers = with_answers_used s.answers }) (record { store = t.store; own = t.own; answers = with_answers_used t.answers })
  passed_over idle = record {
    same = record {
      store = h.store;
      passed = h.passed;
      ended = h.ended;
      faulted = h.faulted;
      volumes = h.volumes;
      runs = h.runs;
      dds = h.dds;
      granted = h.granted;
      granted_too = h.granted_too;
      no_cancel = others_none t.answers.cancels h.no_cancel;
      given = ap others h.given;
      good = others_good s.answers.outcomes h.good;
    };
    over = λ runs. absurd (both_ways s.own.runs idle runs);
  }

pub finishes_alike : (rest : List Outcome) (fixed : Fixed) (s t : State) (n : ℕ) → Open (outcome_of s ∷ rest) s t →
    ((act fixed (Finish n) s).meets ≡ None) × Closed rest (act fixed (Finish n) s).state (act fixed (Finish n) t).state
unfolding act
finishes_alike rest fixed s t n o = by_runs s.own.runs t.own.runs refl refl
  where
    -- along given outcomes it ends with the one that is given
    there : (b : Outcome) → outcome_of s ≡ b → as_ending b ≡ b → outcome_by t.own.over t ≡ b
    there b e f =
        ap (λ (x : Option Outcome). outcome_by x t) o.over_there
        ∙ ((λ i. cond (cancel_due (o.same.no_cancel i) t.own.lines) (outcome.Abend abend.S222) (as_ending (head_or (outcome.Code 0) (o.same.given i))))
        ∙ (ap as_ending e ∙ f))

    by_runs : (a b : Bool) → s.own.runs ≡ a → t.own.runs ≡ b →
        ((cond a (finishes n s.own.over s) (goes [] (record { store = s.store; own = s.own; answers = with_answers_used s.answers }))).meets ≡ None)
        × Closed rest (cond a (finishes n s.own.over s) (goes [] (record { store = s.store; own = s.own; answers = with_answers_used s.answers }))).state
        (cond b (finishes n t.own.over t) (goes [] (record { store = t.store; own = t.own; answers = with_answers_used t.answers }))).state
    by_runs true true e f =
        let g : (as_ending (outcome_by s.own.over s) ≡ outcome_by s.own.over s) × IsStepOutcome (outcome_by s.own.over s) =
        by_good s s.own.over o.over o.same.good in
        let is : outcome_of s ≡ outcome_by s.own.over s = ap (λ (b : Bool). cond b (outcome_by s.own.over s) (outcome.Code 0)) e in
        let given : Same (outcome_by s.own.over s ∷ rest) s t = subst (λ (z : Outcome). Same (z ∷ rest) s t) is o.same in (
          (finish_by n s.own.over s).0,
          subst (λ (u : State). Closed rest u (finishes n t.own.over t).state) (sym (finish_by n s.own.over s).1)
              (subst (λ (u : State). Closed rest (ended_with n (outcome_by s.own.over s) s) u)
              (sym ((finish_by n t.own.over t).1 ∙ ap (λ (z : Outcome). ended_with n z t) (there (outcome_by s.own.over s) is g.0)))
              (ended_alike rest (outcome_by s.own.over s) s t given n)),
        )
    by_runs true false e f = absurd (both_ways t.own.runs f (sym o.same.runs ∙ e))
    by_runs false true e f = absurd (both_ways s.own.runs e (o.same.runs ∙ f))
    by_runs false false e f = (refl, passed_over rest (outcome_of s) s t o.same e)

module _ (outs : List Outcome) (fixed : Fixed) (s t : State) (c : Closed outs s t) where
  abbrev h : Same outs s t
  h = c.same

  set_done : (n dd : ℕ) (name : Option (List ℕ)) (p : SetPlan) (x : TakenSet) (d : Disposed) →
      Meets (Closed outs) (set_disposed fixed n dd name p x s d) (set_disposed fixed n dd name p x t d)
  set_done n dd name p x d none = (
    none,
    record {
      same = record {
        store = release_shaped (releases p.space) (changed d.change s.store x.key x.serial fixed.date) (changed d.change t.store x.key x.serial fixed.date)
            (change_shaped d.change s.store t.store h.store x.key x.serial fixed.date) x.key x.serial;
        passed = ap (passed_with d.passes n dd x) h.passed;
        ended = h.ended;
        faulted = h.faulted;
        volumes = h.volumes;
        runs = h.runs;
        dds = h.dds;
        granted = h.granted;
        granted_too = h.granted_too;
        no_cancel = h.no_cancel;
        given = h.given;
        good = h.good;
      };
      over = c.over;
    },
  )

  same_word : (w : Bool → Word) (x : TakenSet) → s.own.runs ≡ true →
      disposed_by (w (after_abend s.own.over)) s.store x fixed.date ≡ disposed_by (w (after_abend t.own.over)) t.store x fixed.date
  same_word w x runs =
      same_disposed s.store t.store h.store (w (after_abend s.own.over)) x fixed.date
      ∙ ap (λ (o : Option Outcome). disposed_by (w (after_abend o)) t.store x fixed.date) (c.over runs)

  by_taken : (n dd : ℕ) (name : Option (List ℕ)) (p : SetPlan) (x : Option TakenSet) → s.own.runs ≡ true →
      Meets (Closed outs) (set_disposes fixed n dd name p x s) (set_disposes fixed n dd name p x t)
  by_taken n dd name p None runs none = (refl, c)
  by_taken n dd name p (Some x) runs none =
      let word : Bool → Word =
      λ later. word_done (normal_meaning (is_temporary x.key) p.normal) (conditional_meaning (is_temporary x.key) p.conditional) later x.made in
      subst (λ (d : Disposed). Meets (Closed outs)
      (set_disposed fixed n dd name p x s (disposed_by (word (after_abend s.own.over)) s.store x fixed.date)) (set_disposed fixed n dd name p x t d))
      (same_word word x runs) (set_done n dd name p x (disposed_by (word (after_abend s.own.over)) s.store x fixed.date)) none

  by_kind : (n dd : ℕ) (name : Option (List ℕ)) (kind : DdKind) (x y : DdState) → x.taken ≡ y.taken → s.own.runs ≡ true →
      Meets (Closed outs) (disposes_at fixed n dd name kind x s) (disposes_at fixed n dd name kind y t)
  by_kind n dd name (Sysout class) x y e runs none = (
    refl,
    record {
      same = record {
        store = h.store;
        passed = h.passed;
        ended = h.ended;
        faulted = h.faulted;
        volumes = h.volumes;
        runs = h.runs;
        dds = h.dds;
        granted = h.granted;
        granted_too = h.granted_too;
        no_cancel = h.no_cancel;
        given = h.given;
        good = h.good;
      };
      over = c.over;
    },
  )
  by_kind n dd name Dummy x y e runs none = (refl, c)
  by_kind n dd name (Cards cards) x y e runs none = (refl, c)
  by_kind n dd name (Set p) x y e runs none =
      subst (λ (z : Option TakenSet). Meets (Closed outs) (set_disposes fixed n dd name p x.taken s) (set_disposes fixed n dd name p z t)) e
      (by_taken n dd name p x.taken runs) none

  by_dd : (n dd : ℕ) (name : Option (List ℕ)) (kind : DdKind) (x y : Option DdState) → SameDd x y → s.own.runs ≡ true →
      Meets (Closed outs) (disposes x fixed n dd name kind s) (disposes y fixed n dd name kind t)
  by_dd n dd name kind None None e runs none = (refl, c)
  by_dd n dd name kind None (Some y) e runs none = absurd e
  by_dd n dd name kind (Some x) None e runs none = absurd e
  by_dd n dd name kind (Some x) (Some y) e runs none = by_kind n dd name kind x y e runs none

  pub disposes_alike : (n dd : ℕ) (d : DdPlan) → Meets (Closed outs) (act fixed (Dispose n dd d) s) (act fixed (Dispose n dd d) t)
  unfolding act
  disposes_alike n dd d =
      met_both (Closed outs) s.own.runs t.own.runs h.runs s t (disposes (slice_get s.own.dds (dd - 1)) fixed n dd d.name d.kind s)
      (disposes (slice_get t.own.dds (dd - 1)) fixed n dd d.name d.kind t) c
      (λ runs. by_dd n dd d.name d.kind (slice_get s.own.dds (dd - 1)) (slice_get t.own.dds (dd - 1)) (dds_at s.own.dds t.own.dds (dd - 1) h.dds) (h.runs ∙ runs))

-- behind the last step
module _ (outs : List Outcome) (fixed : Fixed) (s t : State) (h : Same outs s t) where
  left_done : (n dd : ℕ) (name : Option (List ℕ)) (q : Passed) (d : Disposed) →
      Meets (Same outs) (left_disposed fixed n dd name q s d) (left_disposed fixed n dd name q t d)
  left_done n dd name q d none = (
    none,
    record {
      store = change_shaped d.change s.store t.store h.store q.key q.serial fixed.date;
      passed = ap (λ (qs : List Passed). without_pass qs n dd) h.passed;
      ended = h.ended;
      faulted = h.faulted;
      volumes = h.volumes;
      runs = h.runs;
      dds = h.dds;
      granted = h.granted;
      granted_too = h.granted_too;
      no_cancel = h.no_cancel;
      given = h.given;
      good = h.good;
    },
  )

  by_pass : (n dd : ℕ) (name : Option (List ℕ)) (p : SetPlan) (q : Option Passed) → Meets (Same outs) (leaves fixed n dd name p q s) (leaves fixed n dd name p q t)
  by_pass n dd name p None none = (refl, h)
  by_pass n dd name p (Some q) none =
      let word : Word = left_word (is_temporary q.key) q.abend_later (conditional_meaning (is_temporary q.key) p.conditional) q.made in
      subst (λ (d : Disposed). Meets (Same outs) (left_disposed fixed n dd name q s (disposed_by word s.store (as_taken q) fixed.date)) (left_disposed fixed n dd name q t d))
      (same_disposed s.store t.store h.store word (as_taken q) fixed.date) (left_done n dd name q (disposed_by word s.store (as_taken q) fixed.date)) none

  by_left : (n dd : ℕ) (name : Option (List ℕ)) (kind : DdKind) → Meets (Same outs) (left_at fixed n dd name kind s) (left_at fixed n dd name kind t)
  by_left n dd name (Sysout class) none = (refl, h)
  by_left n dd name Dummy none = (refl, h)
  by_left n dd name (Cards cards) none = (refl, h)
  by_left n dd name (Set p) none =
      subst (λ (qs : List Passed). Meets (Same outs) (leaves fixed n dd name p (passed_by s.own.passed n dd) s) (leaves fixed n dd name p (passed_by qs n dd) t)) h.passed
      (by_pass n dd name p (passed_by s.own.passed n dd)) none

  pub lefts_alike : (n dd : ℕ) (d : DdPlan) → Meets (Same outs) (act fixed (Left n dd d) s) (act fixed (Left n dd d) t)
  unfolding act
  lefts_alike n dd d = by_left n dd d.name d.kind
