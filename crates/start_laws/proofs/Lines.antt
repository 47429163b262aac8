-- Along one list of outcomes a job writes the same lines in two stores of which it sees the same.
use Rattle.std.proofs.Common.{◌≡◌, ◌+◌, ◌++◌, ℕ, Bool, true, false, cond, List, [], ◌∷◌, refl, sym, subst}
use Rattle.std.specs.Prelude.{All}
use Rattle.std.proofs.lemmas.List.Elements.{All-append, All-cons, All-head, All-nil, All-tail}
use Rattle.jcl_plan.specs.declared.outcome.Outcome.{Outcome}
use Rattle.jcl_plan.specs.declared.plan.DdPlan.{DdPlan}
use Rattle.jcl_plan.specs.declared.plan.JobPlan.{JobPlan}
use Rattle.jcl_plan.specs.declared.plan.StepPlan.{StepPlan}
use Rattle.jcl_meaning.specs.declared.names.HeldName.{HeldName}
use Rattle.jcl_meaning.specs.declared.program.Move.{Move}
use Rattle.jcl_meaning.specs.declared.state.Own.{Own}
use Rattle.jcl_meaning.specs.Acts.{act}
use Rattle.jcl_meaning.specs.Agendas.{Action, Ask, Dispose, Finish, Left, Over, Receive, Start, Take, disposes_from, left_by, lefts_from, lefts_in}
use Rattle.jcl_meaning.specs.Agendas.{path_agenda, step_actions, steps_from, takes_from}
use Rattle.jcl_meaning.specs.Names.{names_of}
use Rattle.jcl_meaning.specs.Parts.{sees_key}
use Rattle.jcl_meaning.specs.Plans.{passes}
use Rattle.jcl_meaning.specs.Programs.{moves_of}
use Rattle.jcl_meaning.specs.Solo.{at_start, given, run, solo_path_of}
use Rattle.jcl_meaning.specs.States.{Answers, Fixed, State}
use Rattle.jcl_meaning.specs.Stores.{Store}
use Rattle.part_laws.specs.Fits.{Fits}
use Rattle.part_laws.proofs.ActsFit.{act_fits}
use Rattle.part_laws.proofs.TakesAlike.{at}
use Rattle.path_laws.proofs.Parts.{none_asked}
use Rattle.path_laws.proofs.PartsSee.{shown_of}
use Rattle.path_laws.proofs.Sights.{ShowAlike}
use Rattle.start_laws.specs.Starts.{IsAnalysed, SeesSame}
use Rattle.start_laws.proofs.LinesEnded.{dispose_same, finished_same, left_same}
use Rattle.start_laws.proofs.LinesTaken.{StandAlike, WroteAlike, goes_on, if_runs_wrote, take_same}

-- an action of a job whose outcomes are given: no request
abbrev pub IsGiven : Action → Type 0
IsGiven (Start n step) = Unit {0}
IsGiven (Take n dd d) = Unit {0}
IsGiven (Ask step move) = ⊥
IsGiven Receive = ⊥
IsGiven (Finish n) = Unit {0}
IsGiven (Dispose n dd d) = Unit {0}
IsGiven (Left n dd d) = Unit {0}
IsGiven Over = Unit {0}

takes_given : (n dd : ℕ) (ds : List DdPlan) → All IsGiven (takes_from n dd ds)
takes_given n dd [] = All-nil IsGiven
takes_given n dd (d ∷ ds) = All-cons IsGiven (Take n dd d) (takes_from n (dd + 1) ds) tt (takes_given n (dd + 1) ds)

disposes_given : (n dd : ℕ) (ds : List DdPlan) → All IsGiven (disposes_from n dd ds)
disposes_given n dd [] = All-nil IsGiven
disposes_given n dd (d ∷ ds) = All-cons IsGiven (Dispose n dd d) (disposes_from n (dd + 1) ds) tt (disposes_given n (dd + 1) ds)

step_given : (n : ℕ) (step : StepPlan) → All IsGiven (step_actions n step [])
step_given n step =
    All-cons IsGiven (Start n step) (takes_from n 1 step.dds ++ (Finish n ∷ disposes_from n 1 step.dds)) tt
    (All-append IsGiven (takes_from n 1 step.dds) (Finish n ∷ disposes_from n 1 step.dds) (takes_given n 1 step.dds)
    (All-cons IsGiven (Finish n) (disposes_from n 1 step.dds) tt (disposes_given n 1 step.dds)))

steps_given : (n : ℕ) (steps : List StepPlan) → All IsGiven (steps_from (moves_of []) n steps)
steps_given n [] = All-nil IsGiven
steps_given n (step ∷ steps) =
    All-append IsGiven (step_actions n step (moves_of [] step.program)) (steps_from (moves_of []) (n + 1) steps)
    (subst (λ (moves : List Move). All IsGiven (step_actions n step moves)) (sym (none_asked step.program)) (step_given n step))
    (steps_given (n + 1) steps)

one_left_given : (n dd : ℕ) (d : DdPlan) (b : Bool) → All IsGiven (cond b (Left n dd d ∷ []) [])
one_left_given n dd d true = All-cons IsGiven (Left n dd d) [] tt (All-nil IsGiven)
one_left_given n dd d false = All-nil IsGiven

step_left_given : (n dd : ℕ) (ds : List DdPlan) → All IsGiven (lefts_in n dd ds)
step_left_given n dd [] = All-nil IsGiven
step_left_given n dd (d ∷ ds) =
    All-append IsGiven (left_by n dd d) (lefts_in n (dd + 1) ds) (one_left_given n dd d (passes d.kind)) (step_left_given n (dd + 1) ds)

lefts_given : (n : ℕ) (steps : List StepPlan) → All IsGiven (lefts_from n steps)
lefts_given n [] = All-nil IsGiven
lefts_given n (step ∷ steps) =
    All-append IsGiven (lefts_in n 1 step.dds) (lefts_from (n + 1) steps) (step_left_given n 1 step.dds) (lefts_given (n + 1) steps)

pub path_given : (plan : JobPlan) → All IsGiven (path_agenda plan)
path_given plan =
    All-append IsGiven (steps_from (moves_of []) 1 plan.steps) (lefts_from 1 plan.steps ++ (Over ∷ [])) (steps_given 1 plan.steps)
    (All-append IsGiven (lefts_from 1 plan.steps) (Over ∷ []) (lefts_given 1 plan.steps) (All-cons IsGiven Over [] tt (All-nil IsGiven)))

module _ (names : List HeldName) (fixed : Fixed) where
  -- one action, where the states have one own state and one list of answers
  one_same : (a : Action) (rest : List Action) (s t : Store) (own : Own) (answers : Answers) → ShowAlike names fixed.date s t → IsGiven a →
      Fits names fixed.meanings (a ∷ rest) own → WroteAlike names fixed.date (act fixed a (at s own answers)) (act fixed a (at t own answers))
  unfolding act
  one_same (Start n step) rest s t own answers h given fits = goes_on names fixed.date s t _ _ answers h
  one_same (Take n dd d) rest s t own answers h given fits =
      if_runs_wrote names fixed.date own.runs s t own answers _ _ h
      (λ runs. take_same names fixed s t h own answers n dd d.name d.kind fits.ahead.2)
  one_same (Ask step move) rest s t own answers h given fits = absurd given
  one_same Receive rest s t own answers h given fits = absurd given
  one_same (Finish n) rest s t own answers h given fits = finished_same names fixed s t h own answers n
  one_same (Dispose n dd d) rest s t own answers h given fits =
      if_runs_wrote names fixed.date own.runs s t own answers _ _ h
      (λ runs. dispose_same names fixed s t h own answers n dd d.name fits.step fits.dds (fits.taken runs).each d.kind)
  one_same (Left n dd d) rest s t own answers h given fits =
      left_same names fixed s t h own answers n dd d.name d.kind fits.ahead.0 fits.passed
  one_same Over rest s t own answers h given fits = goes_on names fixed.date s t _ own answers h

  act_same : (a : Action) (rest : List Action) (s t : State) → StandAlike names fixed.date s t → IsGiven a → Fits names fixed.meanings (a ∷ rest) s.own →
      WroteAlike names fixed.date (act fixed a s) (act fixed a t)
  act_same a rest s t h given fits =
      subst (λ (own : Own). WroteAlike names fixed.date (act fixed a s) (act fixed a (at t.store own t.answers))) h.own
      (subst (λ (answers : Answers). WroteAlike names fixed.date (act fixed a s) (act fixed a (at t.store s.own answers))) h.answers
      (one_same a rest s.store t.store s.own s.answers h.stores given fits))

  run_same : (actions : List Action) (s t : State) → StandAlike names fixed.date s t → All IsGiven actions → Fits names fixed.meanings actions s.own →
      (run fixed actions s).lines ≡ (run fixed actions t).lines
  unfolding run
  run_same [] s t h given fits = refl
  run_same (a ∷ rest) s t h given fits =
      let d : WroteAlike names fixed.date (act fixed a s) (act fixed a t) = act_same a rest s t h (All-head IsGiven a rest given) fits in
      let more : (run fixed rest (act fixed a s).state).lines ≡ (run fixed rest (act fixed a t).state).lines =
      run_same rest (act fixed a s).state (act fixed a t).state d.state (All-tail IsGiven a rest given) (act_fits names fixed a rest s fits) in
      λ i. d.lines i ++ more i

-- as it starts
shows_same : (plan : JobPlan) (date : ℕ) (s t : Store) → SeesSame plan date s t → ShowAlike (names_of plan) date s t
shows_same plan date s t same = record {
  sets = λ key serial seen. shown_of (sees_key (names_of plan) key) (s.set key serial) (t.set key serial) date seen (same.sets key serial);
  entries = same.catalog;
}

pub path_is_seen : (fixed : Fixed) (plan : JobPlan) (s t : Store) (outcomes : List Outcome) → IsAnalysed fixed plan → SeesSame plan fixed.date s t →
    (solo_path_of fixed plan s outcomes).lines ≡ (solo_path_of fixed plan t outcomes).lines
path_is_seen fixed plan s t outcomes ready same =
    run_same (names_of plan) fixed (path_agenda plan) (at_start s (given outcomes)) (at_start t (given outcomes))
    (record { stores = shows_same plan fixed.date s t same; own = refl; answers = refl }) (path_given plan) ready.fits
