-- The lines of a step tell one fate.
use Rattle.std.proofs.Common.{◌≡◌, ◌+◌, ◌-◌, ◌++◌, ◌≤◌, ◌<◌, ℕ, zero, suc, Bool, true, false, cond, List, [], ◌∷◌, drop, length, Option, Some, None, refl}
use Rattle.std.proofs.Common.{ap, ◌∙◌, arith}
use Rattle.std.specs.Prelude.{All, slice_get}
use Rattle.std.proofs.lemmas.List.{length-append, length-drop}
use Rattle.std.proofs.lemmas.List.Elements.{All-append, All-cons, All-head, All-nil, All-tail}
use Rattle.jname_core.specs.declared.key.Key.{Key}
use Rattle.jcl_plan.specs.declared.entry.JobLine.{JobLine}
use Rattle.jcl_plan.specs.declared.outcome.Outcome.{Outcome}
use Rattle.jcl_plan.specs.declared.outcome.Outcome.TheVariants as outcome
use Rattle.jcl_plan.specs.declared.plan.DdKind.{DdKind}
use Rattle.jcl_plan.specs.declared.plan.DdKind.TheVariants.{Cards, Dummy, Set, Sysout}
use Rattle.jcl_plan.specs.declared.plan.DdPlan.{DdPlan}
use Rattle.jcl_plan.specs.declared.plan.JobPlan.{JobPlan}
use Rattle.jcl_plan.specs.declared.plan.SetPlan.{SetPlan}
use Rattle.jcl_plan.specs.declared.plan.StepPlan.{StepPlan}
use Rattle.jcl_meaning.specs.declared.state.DdState.{DdState}
use Rattle.jcl_meaning.specs.declared.state.Resolution.{Resolution}
use Rattle.jcl_meaning.specs.declared.state.Resolution.TheVariants.{Fails, Means}
use Rattle.jcl_meaning.specs.declared.state.TakenSet.{TakenSet}
use Rattle.jcl_meaning.specs.declared.take.Decision.{Decision}
use Rattle.jcl_meaning.specs.declared.take.Decision.TheVariants.{Refuses, Takes}
use Rattle.jcl_meaning.specs.Acts.{act}
use Rattle.jcl_meaning.specs.Agendas.{Action, Dispose, Finish, Start, Take, disposes_from, step_actions, takes_from}
use Rattle.jcl_meaning.specs.EndActs.{as_ending, disposes, disposes_at, end_line, finishes, set_disposes}
use Rattle.jcl_meaning.specs.RequestActs.{head_or}
use Rattle.jcl_meaning.specs.Resolutions.{meaning_at}
use Rattle.jcl_meaning.specs.Solo.{Ran, run}
use Rattle.jcl_meaning.specs.States.{Done, Fixed, State, cancel_due, if_runs}
use Rattle.jcl_meaning.specs.Stores.{Store}
use Rattle.jcl_meaning.specs.TakeActs.{back_line, back_lines, decided, decision_at, takes, takes_set, target_at}
use Rattle.jcl_meaning.specs.Views.{ran_to}
use Rattle.path_meaning.specs.Paths.{fates_in}
use Rattle.path_laws.specs.PathParts.{part_from}
use Rattle.path_laws.specs.Paths.{part_ran}
use Rattle.path_laws.proofs.Before.{one_step_more}
use Rattle.path_laws.proofs.Seeing.{fates_append}

-- lines that tell no fate
abbrev TellsNone : List JobLine → Type 0
TellsNone lines = fates_in lines ≡ []

none_in_both : (xs ys : List JobLine) → TellsNone xs → TellsNone ys → TellsNone (xs ++ ys)
none_in_both xs ys p q = fates_append xs ys ∙ (λ i. p i ++ q i)

back_tells : (number : ℕ) (name : Option (List ℕ)) (taken : Option TakenSet) (member position : ℕ) (written : Bool) (spooled : List (List ℕ)) →
    TellsNone (back_line (record { number = number; name = name; taken = taken; member = member; position = position; written = written; spooled = spooled }))
back_tells number name None member position written spooled = refl
back_tells number name (Some t) member position written spooled = refl

backs_tell : (xs : List DdState) → TellsNone (back_lines xs)
backs_tell [] = refl
backs_tell (x ∷ xs) =
    none_in_both (back_line x) (back_lines xs) (back_tells x.number x.name x.taken x.member x.position x.written x.spooled) (backs_tell xs)

module _ (fixed : Fixed) (n dd : ℕ) (name : Option (List ℕ)) (s : State) where
  decided_tells : (p : SetPlan) (key : Key) (d : Decision) → TellsNone (decided fixed n dd name p key s d).lines
  decided_tells p key (Refuses fault) = backs_tell s.own.dds
  decided_tells p key (Takes serial how) = refl

  set_tells : (p : SetPlan) (r : Resolution) → TellsNone (takes_set fixed n dd name p s r).lines
  set_tells p (Fails fault) = backs_tell s.own.dds
  set_tells p (Means key) = decided_tells p key (decision_at fixed p key s (target_at fixed n dd p key s))

  takes_tell : (kind : DdKind) → TellsNone (takes fixed n dd name kind s).lines
  takes_tell (Sysout class) = refl
  takes_tell Dummy = refl
  takes_tell (Cards cards) = refl
  takes_tell (Set p) = set_tells p (meaning_at fixed.meanings n dd)

  set_disposes_tell : (p : SetPlan) (t : Option TakenSet) → TellsNone (set_disposes fixed n dd name p t s).lines
  set_disposes_tell p None = refl
  set_disposes_tell p (Some t) = refl

  disposes_at_tell : (kind : DdKind) (x : DdState) → TellsNone (disposes_at fixed n dd name kind x s).lines
  disposes_at_tell (Sysout class) x = refl
  disposes_at_tell Dummy x = refl
  disposes_at_tell (Cards cards) x = refl
  disposes_at_tell (Set p) x = set_disposes_tell p x.taken

  disposes_tell : (kind : DdKind) (x : Option DdState) → TellsNone (disposes x fixed n dd name kind s).lines
  disposes_tell kind None = refl
  disposes_tell kind (Some x) = disposes_at_tell kind x

  if_runs_tells : (b : Bool) (d : Done) → TellsNone d.lines → TellsNone (if_runs b s d).lines
  if_runs_tells true d h = h
  if_runs_tells false d h = refl

either_tells : (b : Bool) (d e : Done) → TellsNone d.lines → TellsNone e.lines → TellsNone (cond b d e).lines
either_tells true d e p q = p
either_tells false d e p q = q

end_tells : (o : Outcome) → TellsNone (end_line o ∷ [])
end_tells (outcome.Code code) = refl
end_tells (outcome.Abend a) = refl
end_tells outcome.Bypassed = refl
end_tells outcome.Flushed = refl

finishes_tell : (n : ℕ) (o : Option Outcome) (s : State) → TellsNone (finishes n o s).lines
finishes_tell n (Some o) s = refl
finishes_tell n None s =
    either_tells (cancel_due s.answers.cancels s.own.lines) _ _ refl (end_tells (as_ending (head_or (outcome.Code 0) s.answers.outcomes)))

-- actions that tell none, whatever the state is
module _ (fixed : Fixed) where
  abbrev IsQuiet : Action → Type 0
  IsQuiet action = (s : State) → TellsNone (act fixed action s).lines

  pub run_tells : (actions : List Action) (s : State) → All IsQuiet actions → TellsNone (run fixed actions s).lines
  unfolding run
  run_tells [] s h = refl
  run_tells (a ∷ actions) s h =
      none_in_both (act fixed a s).lines (run fixed actions (act fixed a s).state).lines (All-head IsQuiet a actions h s)
      (run_tells actions (act fixed a s).state (All-tail IsQuiet a actions h))

  take_quiet : (n dd : ℕ) (d : DdPlan) → IsQuiet (Take n dd d)
  unfolding act
  take_quiet n dd d = λ s. if_runs_tells fixed n dd d.name s s.own.runs _ (takes_tell fixed n dd d.name s d.kind)

  finish_quiet : (n : ℕ) → IsQuiet (Finish n)
  unfolding act
  finish_quiet n = λ s. either_tells s.own.runs _ _ (finishes_tell n s.own.over s) refl

  dispose_quiet : (n dd : ℕ) (d : DdPlan) → IsQuiet (Dispose n dd d)
  unfolding act
  dispose_quiet n dd d =
      λ s. if_runs_tells fixed n dd d.name s s.own.runs _ (disposes_tell fixed n dd d.name s d.kind (slice_get s.own.dds (dd - 1)))

  takes_quiet : (n dd : ℕ) (ds : List DdPlan) → All IsQuiet (takes_from n dd ds)
  takes_quiet n dd [] = All-nil IsQuiet
  takes_quiet n dd (d ∷ ds) = All-cons IsQuiet (Take n dd d) (takes_from n (dd + 1) ds) (take_quiet n dd d) (takes_quiet n (dd + 1) ds)

  disposes_quiet : (n dd : ℕ) (ds : List DdPlan) → All IsQuiet (disposes_from n dd ds)
  disposes_quiet n dd [] = All-nil IsQuiet
  disposes_quiet n dd (d ∷ ds) = All-cons IsQuiet (Dispose n dd d) (disposes_from n (dd + 1) ds) (dispose_quiet n dd d) (disposes_quiet n (dd + 1) ds)

  pub behind_start : (n : ℕ) (step : StepPlan) → All IsQuiet (takes_from n 1 step.dds ++ (Finish n ∷ disposes_from n 1 step.dds))
  behind_start n step =
      All-append IsQuiet (takes_from n 1 step.dds) (Finish n ∷ disposes_from n 1 step.dds) (takes_quiet n 1 step.dds)
      (All-cons IsQuiet (Finish n) (disposes_from n 1 step.dds) (finish_quiet n) (disposes_quiet n 1 step.dds))

  start_tells : (n : ℕ) (step : StepPlan) (s : State) → length (fates_in (act fixed (Start n step) s).lines) ≡ 1
  unfolding act
  start_tells n step s = refl

  step_tells : (n : ℕ) (step : StepPlan) (s : State) → length (fates_in (run fixed (step_actions n step []) s).lines) ≡ 1
  unfolding run
  step_tells n step s =
      let rest : List Action = takes_from n 1 step.dds ++ (Finish n ∷ disposes_from n 1 step.dds) in
      let t : State = (act fixed (Start n step) s).state in
      ap length (fates_append (act fixed (Start n step) s).lines (run fixed rest t).lines)
      ∙ (length-append (fates_in (act fixed (Start n step) s).lines) (fates_in (run fixed rest t).lines)
      ∙ (λ i. start_tells n step s i + length (run_tells rest t (behind_start n step) i)))

-- one step more tells one fate more
tells_one_more : (fixed : Fixed) (plan : JobPlan) (store : Store) (k : ℕ) (outcomes : List Outcome) → k < length plan.steps →
    length (fates_in (ran_to fixed plan store k outcomes).lines) ≡ k → length (fates_in (ran_to fixed plan store (suc k) outcomes).lines) ≡ suc k
tells_one_more fixed plan store k outcomes h earlier = by_rest (drop k plan.steps) refl
  where
    before : List JobLine
    before = (ran_to fixed plan store k outcomes).lines

    by_rest : (steps : List StepPlan) → drop k plan.steps ≡ steps → length (fates_in (ran_to fixed plan store (suc k) outcomes).lines) ≡ suc k
    by_rest [] e = let size : length (drop k plan.steps) ≡ 0 = ap length e in absurd (omega (arith, length-drop k plan.steps))
    by_rest (step ∷ later) e =
        let here : List JobLine = (part_ran fixed plan store k outcomes).lines in
        let one : length (fates_in here) ≡ 1 =
        ap (λ steps. length (fates_in (run fixed (part_from k plan.steps steps) (ran_to fixed plan store k outcomes).state).lines)) e
        ∙ step_tells fixed (k + 1) step (ran_to fixed plan store k outcomes).state in
        let all : length (fates_in (ran_to fixed plan store (suc k) outcomes).lines) ≡ length (fates_in before) + length (fates_in here)
        = ap (λ (r : Ran). length (fates_in r.lines)) (one_step_more fixed plan store k outcomes h)
        ∙ (ap length (fates_append before here) ∙ length-append (fates_in before) (fates_in here)) in
        let same : length (fates_in before) ≡ k = earlier in
        omega arith

pub tells_fates : (fixed : Fixed) (plan : JobPlan) (store : Store) (k : ℕ) (outcomes : List Outcome) → k ≤ length plan.steps →
    length (fates_in (ran_to fixed plan store k outcomes).lines) ≡ k
unfolding run
tells_fates fixed plan store zero outcomes h = refl
tells_fates fixed plan store (suc k) outcomes h =
    tells_one_more fixed plan store k outcomes (omega arith) (tells_fates fixed plan store k outcomes (omega arith))
