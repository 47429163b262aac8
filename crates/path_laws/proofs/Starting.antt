-- A step that runs starts and does what is behind its start; one that does not run passes over.
use Rattle.std.proofs.Common.{◌≡◌, ◌++◌, ◌+◌, ℕ, Bool, true, false, cond, List, [], ◌∷◌, drop, map, None, refl, sym, ap, ◌∙◌, subst}
use Rattle.jcl_plan.specs.declared.outcome.Fate.{Fate}
use Rattle.jcl_plan.specs.declared.outcome.Fate.TheVariants.{Run, Bypassed, Flushed}
use Rattle.jcl_plan.specs.declared.outcome.Outcome.{Outcome}
use Rattle.jcl_plan.specs.declared.plan.DdPlan.{DdPlan}
use Rattle.jcl_plan.specs.declared.plan.JobPlan.{JobPlan}
use Rattle.jcl_plan.specs.declared.plan.StepPlan.{StepPlan}
use Rattle.jcl_meaning.specs.declared.state.Own.{Own}
use Rattle.jcl_meaning.specs.Acts.{act}
use Rattle.jcl_meaning.specs.Agendas.{Action, Dispose, Finish, Start, Take, disposes_from, step_actions, takes_from}
use Rattle.jcl_meaning.specs.EndActs.{finished, finishes}
use Rattle.jcl_meaning.specs.History.{is_run}
use Rattle.jcl_meaning.specs.Names.{names_of}
use Rattle.jcl_meaning.specs.Solo.{Ran, later, met_first, run}
use Rattle.jcl_meaning.specs.States.{Done, Fixed, State, at_step, goes, if_runs, with_answers_used}
use Rattle.jcl_meaning.specs.TakeActs.{fate_at}
use Rattle.part_laws.specs.Fits.{Fits}
use Rattle.part_laws.proofs.ActsFit.{act_fits}
use Rattle.path_meaning.specs.Paths.{fates_in}
use Rattle.path_laws.proofs.Fates as fates
use Rattle.path_laws.proofs.Seeing.{fates_append}
use Rattle.path_laws.specs.PathParts.{IsBefore, part_from, path_part}
use Rattle.path_laws.specs.Steps.{HasStarted, PassesOver, ShowTheSame, StartsFrom, behind_start}

only_run : (f : Fate) → is_run f ≡ true → f ≡ Run
only_run Run h = refl
only_run Bypassed h = absurd cc
only_run Flushed h = absurd cc

-- a step's start, and the lines of the step
module _ (fixed : Fixed) (n : ℕ) (step : StepPlan) (s : State) where
  abbrev begun : State
  begun = (act fixed (Start n step) s).state

  start_line : fates_in (act fixed (Start n step) s).lines ≡ fate_at fixed step s.own ∷ []
  unfolding act
  start_line = refl

  step_told : fates_in (run fixed (step_actions n step []) s).lines ≡ fate_at fixed step s.own ∷ []
  unfolding run
  step_told =
      fates_append (act fixed (Start n step) s).lines (run fixed (behind_start n step) begun).lines
      ∙ (λ i. start_line i ++ fates.run_tells fixed (behind_start n step) begun (fates.behind_start fixed n step) i)

  start_meets : (run fixed (step_actions n step []) s).faults ≡ map later (run fixed (behind_start n step) begun).faults
  unfolding run act
  start_meets = refl

  start_makes : (run fixed (step_actions n step []) s).made ≡ (run fixed (behind_start n step) begun).made
  unfolding run act
  start_makes = refl

  start_reaches : (run fixed (step_actions n step []) s).state ≡ (run fixed (behind_start n step) begun).state
  unfolding run
  start_reaches = refl

  begun_own : begun.own ≡ at_step s.own (is_run (fate_at fixed step s.own))
  unfolding act
  begun_own = refl

  begun_store : begun.store ≡ s.store
  unfolding act
  begun_store = refl

  has_started : (outcomes : List Outcome) → IsBefore s outcomes → is_run (fate_at fixed step s.own) ≡ true → HasStarted begun outcomes
  unfolding act
  has_started outcomes before runs = record { runs = runs; unended = refl; none_taken = refl; answers = before.answers }

  start_shows : (plan : JobPlan) (k : ℕ) → ShowTheSame plan fixed.date k s begun
  unfolding act
  start_shows plan k = record { sets = refl; catalog = refl; passed = refl; volumes = refl; abended = refl }

-- the step is part k of the path
pub step_starts : (plan : JobPlan) (fixed : Fixed) (k : ℕ) (step : StepPlan) (after : List StepPlan) (s : State) (outcomes : List Outcome) →
    drop k plan.steps ≡ step ∷ after → IsBefore s outcomes → is_run (fate_at fixed step s.own) ≡ true →
    StartsFrom plan fixed k step s outcomes (run fixed (path_part plan k) s)
step_starts plan fixed k step after s outcomes is before runs =
    subst (λ (part : List Action). StartsFrom plan fixed k step s outcomes (run fixed part s)) (sym part_is) (record {
      started = begun fixed (k + 1) step s;
      has_started = has_started fixed (k + 1) step s outcomes before runs;
      shows = start_shows fixed (k + 1) step s plan k;
      ended = ap (λ (own : Own). own.ended) (begun_own fixed (k + 1) step s);
      fits = λ rest fits.
          act_fits (names_of plan) fixed (Start (k + 1) step) (behind_start (k + 1) step ++ rest) s
          (subst (λ (part : List Action). Fits (names_of plan) fixed.meanings (part ++ rest) s.own) part_is fits);
      fates = step_told fixed (k + 1) step s ∙ ap (λ (f : Fate). f ∷ []) (only_run (fate_at fixed step s.own) runs);
      faults = start_meets fixed (k + 1) step s;
      made = start_makes fixed (k + 1) step s;
      state = start_reaches fixed (k + 1) step s;
    })
  where
    part_is : path_part plan k ≡ step_actions (k + 1) step []
    part_is = ap (part_from k plan.steps) is

-- Where the step does not run, nothing is done: neither by an action,
record DidNothing (s : State) (d : Done) : Type 0 where
  meets : d.meets ≡ None
  made : d.made ≡ []
  store : d.state.store ≡ s.store
  own : d.state.own ≡ s.own

-- nor by several.
record RanNothing (s : State) (ran : Ran) : Type 0 where
  faults : ran.faults ≡ []
  made : ran.made ≡ []
  store : ran.state.store ≡ s.store
  own : ran.state.own ≡ s.own

abbrev IsIdle : Fixed → List Action → Type 0
IsIdle fixed actions = (s : State) → s.own.runs ≡ false → RanNothing s (run fixed actions s)

if_runs_not : (b : Bool) (s : State) (d : Done) → b ≡ false → DidNothing s (if_runs b s d)
if_runs_not true s d h = absurd cc
if_runs_not false s d h = record { meets = refl; made = refl; store = refl; own = refl }

module _ (fixed : Fixed) where
  nothing_idle : IsIdle fixed []
  unfolding run
  nothing_idle s h = record { faults = refl; made = refl; store = refl; own = refl }

  first_idle : (a : Action) (actions : List Action) → ((s : State) → s.own.runs ≡ false → DidNothing s (act fixed a s)) → IsIdle fixed actions →
      IsIdle fixed (a ∷ actions)
  unfolding run
  first_idle a actions one more s h =
      let d : DidNothing s (act fixed a s) = one s h in
      let r : RanNothing (act fixed a s).state (run fixed actions (act fixed a s).state) =
      more (act fixed a s).state (ap (λ (own : Own). own.runs) d.own ∙ h) in
      record {
        faults = λ i. met_first (d.meets i) (map later (r.faults i));
        made = λ i. d.made i ++ r.made i;
        store = r.store ∙ d.store;
        own = r.own ∙ d.own;
      }

  take_idle : (n dd : ℕ) (d : DdPlan) (s : State) → s.own.runs ≡ false → DidNothing s (act fixed (Take n dd d) s)
  unfolding act
  take_idle n dd d s h = if_runs_not s.own.runs s _ h

  dispose_idle : (n dd : ℕ) (d : DdPlan) (s : State) → s.own.runs ≡ false → DidNothing s (act fixed (Dispose n dd d) s)
  unfolding act
  dispose_idle n dd d s h = if_runs_not s.own.runs s _ h

  finish_idle : (n : ℕ) (s : State) → s.own.runs ≡ false → DidNothing s (act fixed (Finish n) s)
  unfolding act
  finish_idle n s h = by_running s.own.runs h
    where
      by_running : (b : Bool) → b ≡ false →
          DidNothing s (cond b (finishes n s.own.over s) (goes [] (record { store = s.store; own = s.own; answers = with_answers_used s.answers })))
      by_running true e = absurd cc
      by_running false e = record { meets = refl; made = refl; store = refl; own = refl }

  takes_idle : (n dd : ℕ) (ds : List DdPlan) (actions : List Action) → IsIdle fixed actions → IsIdle fixed (takes_from n dd ds ++ actions)
  takes_idle n dd [] actions more = more
  takes_idle n dd (d ∷ ds) actions more =
      first_idle (Take n dd d) (takes_from n (dd + 1) ds ++ actions) (take_idle n dd d) (takes_idle n (dd + 1) ds actions more)

  disposes_idle : (n dd : ℕ) (ds : List DdPlan) → IsIdle fixed (disposes_from n dd ds)
  disposes_idle n dd [] = nothing_idle
  disposes_idle n dd (d ∷ ds) = first_idle (Dispose n dd d) (disposes_from n (dd + 1) ds) (dispose_idle n dd d) (disposes_idle n (dd + 1) ds)

  behind_idle : (n : ℕ) (step : StepPlan) → IsIdle fixed (behind_start n step)
  behind_idle n step =
      takes_idle n 1 step.dds (Finish n ∷ disposes_from n 1 step.dds)
      (first_idle (Finish n) (disposes_from n 1 step.dds) (finish_idle n) (disposes_idle n 1 step.dds))

pub step_passes : (plan : JobPlan) (fixed : Fixed) (k : ℕ) (step : StepPlan) (after : List StepPlan) (s : State) (outcomes : List Outcome) →
    drop k plan.steps ≡ step ∷ after → IsBefore s outcomes → is_run (fate_at fixed step s.own) ≡ false →
    PassesOver fixed step s (run fixed (path_part plan k) s)
step_passes plan fixed k step after s outcomes is before idle =
    subst (λ (part : List Action). PassesOver fixed step s (run fixed part s)) (sym (ap (part_from k plan.steps) is)) (record {
      fates = step_told fixed (k + 1) step s;
      faults = start_meets fixed (k + 1) step s ∙ ap (map later) nothing.faults;
      made = start_makes fixed (k + 1) step s ∙ nothing.made;
      store = ap (λ (t : State). t.store) (start_reaches fixed (k + 1) step s) ∙ (nothing.store ∙ begun_store fixed (k + 1) step s);
      passed = ap (λ (own : Own). own.passed) own_is;
      volumes = ap (λ (own : Own). own.volumes) own_is;
      ended = ap (λ (own : Own). own.ended) own_is;
    })
  where
    nothing : RanNothing (begun fixed (k + 1) step s) (run fixed (behind_start (k + 1) step) (begun fixed (k + 1) step s))
    nothing = behind_idle fixed (k + 1) step (begun fixed (k + 1) step s) (ap (λ (own : Own). own.runs) (begun_own fixed (k + 1) step s) ∙ idle)

    own_is : (run fixed (step_actions (k + 1) step []) s).state.own ≡ at_step s.own (is_run (fate_at fixed step s.own))
    own_is = ap (λ (t : State). t.own) (start_reaches fixed (k + 1) step s) ∙ (nothing.own ∙ begun_own fixed (k + 1) step s)
