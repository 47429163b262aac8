-- A job is safe, or on some path meets a fault.
use Rattle.std.proofs.Common.{◌≡◌, ◌+◌, ◌++◌, ◌==◌, ◌≤◌, ◌<◌, ◌⊎◌, inl, inr, ℕ, zero, suc, Bool, true, false, List, [], ◌∷◌, All, drop, length, map, take, Option, Some, None, refl, sym, ap, ◌∙◌, subst, arith, eqb-true}
use Rattle.std.specs.List.{Contains}
use Rattle.std.specs.Prelude.{slice_get, if◌then◌else◌}
use Rattle.std.proofs.lemmas.List.{length-append, length-drop, length-map}
use Rattle.jcl_plan.specs.declared.fault.Fault.{Fault}
use Rattle.jcl_plan.specs.declared.entry.JobLine.TheVariants as line
use Rattle.jcl_plan.specs.declared.outcome.Abend.TheVariants as abend
use Rattle.jcl_plan.specs.declared.outcome.Outcome.{Outcome}
use Rattle.jcl_plan.specs.declared.outcome.Outcome.TheVariants as outcome
use Rattle.jcl_plan.specs.declared.plan.JobPlan.{JobPlan}
use Rattle.jcl_plan.specs.declared.plan.StepPlan.{StepPlan}
use Rattle.jcl_meaning.specs.Acts.{act}
use Rattle.jcl_meaning.specs.Agendas.{Action, Ask, Dispose, Finish, Left, Over, Receive, Start, Take, path_agenda}
use Rattle.jcl_meaning.specs.EndActs.{as_ending, end_line, ended_with, finishes}
use Rattle.jcl_meaning.specs.History.{IsStepOutcome}
use Rattle.jcl_meaning.specs.Names.{names_of}
use Rattle.jcl_meaning.specs.RequestActs.{head_or}
use Rattle.jcl_meaning.specs.Solo.{Met, Ran, at_start, given, is_clean, later, met_first, nothing_own, run, solo_path_of}
use Rattle.jcl_meaning.specs.States.{Fixed, State, cancel_due, goes, with_answers_used}
use Rattle.jcl_meaning.specs.Stores.{Store}
use Rattle.jcl_meaning.specs.Views.{ran_to}
use Rattle.meaning_laws.specs.Laws.{behind, joined}
use Rattle.part_laws.specs.Fits.{Fits}
use Rattle.path_laws.proofs.Asking.{ask_quiet, receive_quiet}
use Rattle.path_meaning.specs.Paths.{FaultPlace, IsSafe, MeetsFault, fates_in, fault_place, path_shown}
use Rattle.path_laws.specs.PathParts.{part_runs, path_part}
use Rattle.path_laws.specs.ViewLaws.{DidTheSame, PartSees}
use Rattle.path_laws.specs.Deciding.{SafeOrMeets, SomeFault}
use Rattle.path_laws.specs.Paths.{PathEnds, StandsBefore, before_part, part_ran}
use Rattle.path_laws.proofs.Before.{both_clean, fits_before}
use Rattle.path_laws.proofs.Ends.{each_list, plain_ends, plainly_alike}
use Rattle.path_laws.proofs.Seeing.{path_sees_alike}

-- an action that was run, with the first fault, which it met
record IsFirstMet (fixed : Fixed) (actions : List Action) (faults : List Met) : Type 0 where
  place : ℕ
  fault : Fault
  action : Action
  state : State
  among : Contains faults (record { place = place; fault = fault })
  there : slice_get actions place ≡ Some action
  meets : (act fixed action state).meets ≡ Some fault

first_later : (met : Met) (faults : List Met) → Contains faults met → Contains (map later faults) (later met)
first_later met [] (k, l, e) = absurd (omega (arith, l))
first_later met (m ∷ faults) (zero, l, e) = (0, omega arith, ap later e)
first_later met (m ∷ faults) (suc k, l, e) =
    let more = first_later met faults (k, omega (arith, l), e) in
    let less = more.1 in
    (suc more.0, omega (arith, less), more.2)

abbrev faults_behind : Fixed → Action → List Action → State → List Met
faults_behind fixed a actions s = (run fixed actions (act fixed a s).state).faults

first_met : (fixed : Fixed) (actions : List Action) (s : State) → is_clean (run fixed actions s) ≡ false →
    IsFirstMet fixed actions (run fixed actions s).faults
unfolding run
first_met fixed [] s unclean = absurd cc
first_met fixed (a ∷ actions) s unclean = by (act fixed a s).meets refl unclean (λ rest. first_met fixed actions (act fixed a s).state rest)
  where
    more : IsFirstMet fixed actions (faults_behind fixed a actions s) → IsFirstMet fixed (a ∷ actions) (map later (faults_behind fixed a actions s))
    more m = record {
      place = suc m.place;
      fault = m.fault;
      action = m.action;
      state = m.state;
      among = first_later (record { place = m.place; fault = m.fault }) (faults_behind fixed a actions s) m.among;
      there = m.there;
      meets = m.meets;
    }

    by : (meets : Option Fault) → (act fixed a s).meets ≡ meets → (length (met_first meets (map later (faults_behind fixed a actions s))) == 0) ≡ false →
        ((length (faults_behind fixed a actions s) == 0) ≡ false → IsFirstMet fixed actions (faults_behind fixed a actions s)) →
        IsFirstMet fixed (a ∷ actions) (met_first meets (map later (faults_behind fixed a actions s)))
    by (Some fault) e unclean rest =
        record { place = 0; fault = fault; action = a; state = s; among = (0, omega arith, refl); there = refl; meets = e }
    by None e unclean rest = more (rest (ap (λ n. n == 0) (sym (length-map (faults_behind fixed a actions s) later)) ∙ unclean))

-- no fault is met at a step's start, at a request, at a step's end, or at the job's
finish_meets : (n : ℕ) (s : State) (over : Option Outcome) → (finishes n over s).meets ≡ None
finish_meets n s (Some o) = refl
finish_meets n s None = by (cancel_due s.answers.cancels s.own.lines)
  where
    by : (b : Bool) → (if b then goes (line.Abend abend.S222 ∷ []) (ended_with n (outcome.Abend abend.S222) s)
        else goes (end_line (as_ending (head_or (outcome.Code 0) s.answers.outcomes)) ∷ [])
        (ended_with n (as_ending (head_or (outcome.Code 0) s.answers.outcomes)) s)).meets ≡ None
    by true = refl
    by false = refl

finished_meets : (n : ℕ) (s : State) (runs : Bool) →
    (if runs then finishes n s.own.over s else goes [] (record { store = s.store; own = s.own; answers = with_answers_used s.answers })).meets ≡ None
finished_meets n s true = finish_meets n s s.own.over
finished_meets n s false = refl

-- So a fault is met where one may be.
met_at : (fixed : Fixed) (steps : ℕ) (a : Action) (s : State) (fault : Fault) → (act fixed a s).meets ≡ Some fault →
    (p : FaultPlace) × (fault_place steps a ≡ Some p)
unfolding act
met_at fixed steps (Start n step) s fault e = absurd cc
met_at fixed steps (Take n dd d) s fault e = (_, refl)
met_at fixed steps (Ask step move) s fault e = let none = (ask_quiet fixed step move s).meets in absurd cc
met_at fixed steps Receive s fault e = let none = (receive_quiet fixed s).meets in absurd cc
met_at fixed steps (Finish n) s fault e = let none = finished_meets n s s.own.runs in absurd cc
met_at fixed steps (Dispose n dd d) s fault e = (_, refl)
met_at fixed steps (Left n dd d) s fault e = (_, refl)
met_at fixed steps Over s fault e = absurd cc

risky : (fixed : Fixed) (plan : JobPlan) (store : Store) (os : List Outcome) → All IsStepOutcome os →
    is_clean (solo_path_of fixed plan store os) ≡ false → SomeFault fixed plan store
risky fixed plan store os within unclean = record {
  fault = first.fault;
  step = at.0.step;
  dd = at.0.dd;
  path = path_shown (take at.0.ended (fates_in (solo_path_of fixed plan store os).lines)) os;
  meets = record {
    outcomes = os;
    within = within;
    place = first.place;
    action = first.action;
    due = first.there;
    ended = at.0.ended;
    at = at.1;
    met = first.among;
    shown = refl;
  };
}
  where
    first : IsFirstMet fixed (path_agenda plan) (solo_path_of fixed plan store os).faults
    first = first_met fixed (path_agenda plan) (at_start store (given os)) unclean

    at : (p : FaultPlace) × (fault_place (length plan.steps) first.action ≡ Some p)
    at = met_at fixed (length plan.steps) first.action first.state first.fault first.meets

-- two clean runs in a row
clean_joined : (count : ℕ) (a b : Ran) → is_clean a ≡ true → is_clean b ≡ true → is_clean (joined count a b) ≡ true
clean_joined count a b first second =
    let none : length a.faults ≡ 0 = eqb-true (length a.faults) 0 first in
    let none_later : length b.faults ≡ 0 = eqb-true (length b.faults) 0 second in
    let sum : length (a.faults ++ map (behind count) b.faults) ≡ length a.faults + length (map (behind count) b.faults)
    = length-append a.faults (map (behind count) b.faults) in
    let same : length (map (behind count) b.faults) ≡ length b.faults = length-map b.faults (behind count) in
    let all : length (a.faults ++ map (behind count) b.faults) ≡ 0 = omega arith in
    ap (λ n. n == 0) all

all_dropped : {X : Type 0} (xs : List X) → drop (length xs) xs ≡ []
all_dropped [] = refl
all_dropped (x ∷ xs) = all_dropped xs

clean_too : (a b : Ran) → a.faults ≡ b.faults → is_clean a ≡ true → is_clean b ≡ true
clean_too a b same clean = ap (λ faults. length faults == 0) (sym same) ∙ clean

module _ (sees : PartSees) (stands : StandsBefore) (ends : PathEnds) (fixed : Fixed) (plan : JobPlan) (store : Store)
    (tests : fixed.job_tests ≡ plan.tests.items) (fits : Fits (names_of plan) fixed.meanings (path_agenda plan) nothing_own) where
  abbrev count : ℕ
  count = length plan.steps

  abbrev plain : List Outcome → List Outcome
  plain os = plain_ends count os

  -- a path is clean where the one is whose ends stand for its ends
  safe_along : (os : List Outcome) → is_clean (solo_path_of fixed plan store (plain os)) ≡ true →
      is_clean (solo_path_of fixed plan store os) ≡ true
  safe_along os clean = ap is_clean (ends fixed plan store os)
      ∙ clean_joined (before_part plan count) (ran_to fixed plan store count os) (part_ran fixed plan store count os) steps_clean
      (clean_too (part_ran fixed plan store count (plain os)) (part_ran fixed plan store count os) end.faults both.1)
    where
      both : (is_clean (ran_to fixed plan store count (plain os)) ≡ true) × (is_clean (part_ran fixed plan store count (plain os)) ≡ true)
      both =
          both_clean (before_part plan count) (ran_to fixed plan store count (plain os)) (part_ran fixed plan store count (plain os))
          (ap is_clean (sym (ends fixed plan store (plain os))) ∙ clean)

      steps : DidTheSame plan fixed.date count (ran_to fixed plan store count (plain os)) (ran_to fixed plan store count os)
      steps =
          path_sees_alike sees stands fixed plan store count (plain os) os (omega arith) tests fits
          (λ n below. plainly_alike (n + 1) count n plan.tests.items (drop (n + 1) plan.steps) os below) both.0

      steps_clean : is_clean (ran_to fixed plan store count os) ≡ true
      steps_clean = clean_too (ran_to fixed plan store count (plain os)) (ran_to fixed plan store count os) steps.faults both.0

      no_step : part_runs fixed (drop count plan.steps) (ran_to fixed plan store count (plain os)).state.own ≡ true → ⊥
      no_step runs =
          let none : part_runs fixed (drop count plan.steps) (ran_to fixed plan store count (plain os)).state.own ≡ false
          = ap (λ (left : List StepPlan). part_runs fixed left (ran_to fixed plan store count (plain os)).state.own) (all_dropped plan.steps) in
          absurd cc

      end : DidTheSame plan fixed.date (count + 1) (part_ran fixed plan store count (plain os)) (part_ran fixed plan store count os)
      end =
          let ahead = fits_before fixed plan store count (plain os) (omega arith) fits in
          sees plan fixed count ahead.0 (ran_to fixed plan store count (plain os)).state (ran_to fixed plan store count os).state (drop count (plain os))
          (drop count os) tests steps.view (stands fixed plan store count (plain os) (omega arith) both.0) (stands fixed plan store count os (omega arith) steps_clean)
          (λ runs. absurd (no_step runs)) ahead.1

  by_lists : ((os : List Outcome) × All IsStepOutcome os × (is_clean (solo_path_of fixed plan store os) ≡ false))
      ⊎ ((os : List Outcome) → All IsStepOutcome os → is_clean (solo_path_of fixed plan store (plain_ends count os)) ≡ true) →
      IsSafe fixed plan store ⊎ SomeFault fixed plan store
  by_lists (inl (os, within, unclean)) = inr (risky fixed plan store os within unclean)
  by_lists (inr all) = inl (λ os within. safe_along os (all os within))

  pub decided : IsSafe fixed plan store ⊎ SomeFault fixed plan store
  decided = by_lists (each_list count (λ os. is_clean (solo_path_of fixed plan store os)))
