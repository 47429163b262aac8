-- A job by its programs, beside one along the outcomes that its steps then have.
use Rattle.std.proofs.Common.{◌≡◌, ◌++◌, ◌+◌, ◌≤◌, arith, ℕ, Bool, true, false, cond, List, [], ◌∷◌, map, Some, refl, sym, ap, ◌∙◌, subst}
use Rattle.std.specs.Prelude.{All}
use Rattle.std.specs.Str.{bytes_eq}
use Rattle.std.proofs.lemmas.List.Elements.{All-cons, All-head, All-nil, All-tail}
use Rattle.jcl_plan.specs.declared.outcome.Outcome.{Outcome}
use Rattle.jcl_plan.specs.declared.outcome.Outcome.TheVariants as outcome
use Rattle.jcl_plan.specs.declared.plan.DdPlan.{DdPlan}
use Rattle.jcl_plan.specs.declared.plan.JobPlan.{JobPlan}
use Rattle.jcl_plan.specs.declared.plan.StepPlan.{StepPlan}
use Rattle.jcl_meaning.specs.declared.program.Move.{Move}
use Rattle.jcl_meaning.specs.declared.program.Request.{Request}
use Rattle.jcl_meaning.specs.declared.program.Request.TheVariants.{Get, Put, End, Abend}
use Rattle.jcl_meaning.specs.declared.program.SoloProgram.{SoloProgram}
use Rattle.jcl_meaning.specs.declared.solo.SoloAnswers.{SoloAnswers}
use Rattle.jcl_meaning.specs.Acts.{act}
use Rattle.jcl_meaning.specs.Agendas.{Action, Ask, Finish, Left, Over, Receive, Start, agenda, disposes_from, left_by, lefts_from, lefts_in, moves_from, path_agenda, step_actions, steps_from, takes_from}
use Rattle.jcl_meaning.specs.History.{IsStepOutcome}
use Rattle.jcl_meaning.specs.Plans.{passes}
use Rattle.jcl_meaning.specs.Programs.{ending_by, ending_in, ending_of, is_iefbr14, moves_of, program_of}
use Rattle.jcl_meaning.specs.Solo.{answers_of, at_start, given, is_clean, run}
use Rattle.jcl_meaning.specs.States.{Fixed, State}
use Rattle.jcl_meaning.specs.Stores.{Store}
use Rattle.jcl_meaning.specs.WellFormed.{AreWellFormedPrograms, IsRequest}
use Rattle.path_laws.proofs.Alike.{Closed, Open, Same}
use Rattle.path_laws.proofs.Asking.{ask_quiet, receive_quiet, stays_open}
use Rattle.path_laws.proofs.Cleanly.{Clean, after, after_append, clean_is_run, clean_join, clean_split, run_is_clean}
use Rattle.path_laws.proofs.Ending.{disposes_alike, finishes_alike, lefts_alike, outcome_good, outcome_of}
use Rattle.path_laws.proofs.Ranges.{in_range, range_good, range_same}
use Rattle.path_laws.proofs.Shapes.{shaped_same}
use Rattle.path_laws.proofs.Taking.{starts_alike, takes_alike}
use Rattle.path_meaning.specs.Paths.{IsSafe}

module _ (fixed : Fixed) where
  takes_clean : (outs : List Outcome) (n dd : ℕ) (ds : List DdPlan) (s t : State) → Open outs s t → Clean fixed (takes_from n dd ds) t →
      Clean fixed (takes_from n dd ds) s × Open outs (after fixed (takes_from n dd ds) s) (after fixed (takes_from n dd ds) t)
  takes_clean outs n dd [] s t o c = (tt, o)
  takes_clean outs n dd (d ∷ ds) s t o c =
      let first = takes_alike outs fixed s t o n dd d c.0 in
      let rest = takes_clean outs n (dd + 1) ds _ _ first.1 c.1 in
      ((first.0, rest.0), rest.1)

  moves_clean : (outs : List Outcome) (step : StepPlan) (ms : List Move) (s t : State) → Open outs s t →
      Clean fixed (moves_from step ms) s × Open outs (after fixed (moves_from step ms) s) t
  moves_clean outs step [] s t o = (tt, o)
  moves_clean outs step (m ∷ ms) s t o =
      let asks = ask_quiet fixed step m s in
      let u : State = (act fixed (Ask step m) s).state in
      let receives = receive_quiet fixed u in
      let v : State = (act fixed Receive u).state in
      let rest = moves_clean outs step ms v t (stays_open outs u v t (stays_open outs s u t o asks.kept) receives.kept) in
      ((asks.meets, (receives.meets, rest.0)), rest.1)

  disposes_clean : (outs : List Outcome) (n dd : ℕ) (ds : List DdPlan) (s t : State) → Closed outs s t → Clean fixed (disposes_from n dd ds) t →
      Clean fixed (disposes_from n dd ds) s × Closed outs (after fixed (disposes_from n dd ds) s) (after fixed (disposes_from n dd ds) t)
  disposes_clean outs n dd [] s t o c = (tt, o)
  disposes_clean outs n dd (d ∷ ds) s t o c =
      let first = disposes_alike outs fixed s t o n dd d c.0 in
      let rest = disposes_clean outs n (dd + 1) ds _ _ first.1 c.1 in
      ((first.0, rest.0), rest.1)

  -- a step, to its end and behind its dispositions
  abbrev before_end : ℕ → StepPlan → List Move → State → State
  before_end n step ms s = after fixed (moves_from step ms) (after fixed (takes_from n 1 step.dds) (act fixed (Start n step) s).state)

  abbrev behind_step : ℕ → StepPlan → List Move → State → State
  behind_step n step ms s = after fixed (disposes_from n 1 step.dds) (act fixed (Finish n) (before_end n step ms s)).state

  step_after : (n : ℕ) (step : StepPlan) (ms : List Move) (s : State) → after fixed (step_actions n step ms) s ≡ behind_step n step ms s
  step_after n step ms s =
      after_append fixed (takes_from n 1 step.dds) (moves_from step ms ++ (Finish n ∷ disposes_from n 1 step.dds)) (act fixed (Start n step) s).state
      ∙ after_append fixed (moves_from step ms) (Finish n ∷ disposes_from n 1 step.dds) (after fixed (takes_from n 1 step.dds) (act fixed (Start n step) s).state)

  step_clean : (rest : List Outcome) (n : ℕ) (step : StepPlan) (ms : List Move) (s t : State) → Same (in_range (outcome_of (before_end n step ms s)) ∷ rest) s t →
      Clean fixed (step_actions n step []) t → Clean fixed (step_actions n step ms) s × Same rest (behind_step n step ms s) (behind_step n step [] t)
  step_clean rest n step ms s t h c =
      let outs : List Outcome = in_range (outcome_of (before_end n step ms s)) ∷ rest in
      let starts = starts_alike outs fixed s t h n step in
      let path = clean_split fixed (takes_from n 1 step.dds) (Finish n ∷ disposes_from n 1 step.dds) (act fixed (Start n step) t).state c.1 in
      let takes = takes_clean outs n 1 step.dds _ _ starts.1 path.0 in
      let moves = moves_clean outs step ms _ _ takes.1 in
      let good : IsStepOutcome (outcome_of (before_end n step ms s)) = outcome_good (before_end n step ms s) moves.1.over moves.1.same.good in
      let unended : Open (outcome_of (before_end n step ms s) ∷ rest) (before_end n step ms s) (before_end n step [] t) =
      subst (λ (o : Outcome). Open (o ∷ rest) (before_end n step ms s) (before_end n step [] t)) (range_same (outcome_of (before_end n step ms s)) good) moves.1 in
      let ends = finishes_alike rest fixed (before_end n step ms s) (before_end n step [] t) n unended in
      let disposes = disposes_clean rest n 1 step.dds _ _ ends.1 path.1.1 in (
        (
          starts.0,
          clean_join fixed (takes_from n 1 step.dds) (moves_from step ms ++ (Finish n ∷ disposes_from n 1 step.dds)) (act fixed (Start n step) s).state takes.0
              (clean_join fixed (moves_from step ms) (Finish n ∷ disposes_from n 1 step.dds) (after fixed (takes_from n 1 step.dds) (act fixed (Start n step) s).state)
              moves.0 (ends.0, disposes.0)),
        ),
        disposes.1.same,
      )

  -- outcomes for steps, such that a job along them does the same
  record Chosen (programs : List SoloProgram) (n : ℕ) (steps : List StepPlan) (s : State) : Type 0 where
    outs : List Outcome
    within : All IsStepOutcome outs
    clean : (t : State) → Same outs s t → Clean fixed (steps_from (moves_of []) n steps) t → Clean fixed (steps_from (moves_of programs) n steps) s
        × Same [] (after fixed (steps_from (moves_of programs) n steps) s) (after fixed (steps_from (moves_of []) n steps) t)

  no_moves : (name : List ℕ) → moves_of [] name ≡ []
  no_moves name = either (is_iefbr14 name)
    where
      either : (b : Bool) → cond {A = List Move} b [] [] ≡ []
      either true = refl
      either false = refl

  chosen : (programs : List SoloProgram) (n : ℕ) (steps : List StepPlan) (s : State) → Chosen programs n steps s
  chosen programs n [] s = record { outs = []; within = All-nil IsStepOutcome; clean = λ t h c. (tt, h) }
  chosen programs n (step ∷ steps) s = with_rest (chosen programs (n + 1) steps (behind_step n step (moves_of programs step.program) s))
    where
      ms : List Move
      ms = moves_of programs step.program

      with_rest : Chosen programs (n + 1) steps (behind_step n step (moves_of programs step.program) s) → Chosen programs n (step ∷ steps) s
      with_rest rest = record {
        outs = in_range (outcome_of (before_end n step ms s)) ∷ rest.outs;
        within = All-cons IsStepOutcome (in_range (outcome_of (before_end n step ms s))) rest.outs (range_good (outcome_of (before_end n step ms s))) rest.within;
        clean = λ t h c. by_moves t h (moves_of [] step.program) (no_moves step.program) c;
      }
        where
          by_moves : (t : State) → Same (in_range (outcome_of (before_end n step ms s)) ∷ rest.outs) s t → (none : List Move) → none ≡ [] →
              Clean fixed (step_actions n step none ++ steps_from (moves_of []) (n + 1) steps) t →
              Clean fixed (step_actions n step ms ++ steps_from (moves_of programs) (n + 1) steps) s
              × Same [] (after fixed (step_actions n step ms ++ steps_from (moves_of programs) (n + 1) steps) s)
              (after fixed (step_actions n step none ++ steps_from (moves_of []) (n + 1) steps) t)
          by_moves t h (m ∷ none) e c = absurd cc
          by_moves t h [] e c =
              let path = clean_split fixed (step_actions n step []) (steps_from (moves_of []) (n + 1) steps) t c in
              let first = step_clean rest.outs n step ms s t h path.0 in
              let later = rest.clean (behind_step n step [] t) first.1
              (subst (Clean fixed (steps_from (moves_of []) (n + 1) steps)) (step_after n step [] t) path.1) in (
                clean_join fixed (step_actions n step ms) (steps_from (moves_of programs) (n + 1) steps) s first.0
                    (subst (Clean fixed (steps_from (moves_of programs) (n + 1) steps)) (sym (step_after n step ms s)) later.0),
                subst (λ (u : State). Same [] u (after fixed (step_actions n step [] ++ steps_from (moves_of []) (n + 1) steps) t))
                    (sym (after_append fixed (step_actions n step ms) (steps_from (moves_of programs) (n + 1) steps) s
                    ∙ ap (after fixed (steps_from (moves_of programs) (n + 1) steps)) (step_after n step ms s)))
                    (subst (λ (u : State). Same [] (after fixed (steps_from (moves_of programs) (n + 1) steps) (behind_step n step ms s)) u)
                    (sym (after_append fixed (step_actions n step []) (steps_from (moves_of []) (n + 1) steps) t
                    ∙ ap (after fixed (steps_from (moves_of []) (n + 1) steps)) (step_after n step [] t)))
                    later.1),
              )

  -- what is left behind the last step
  left_clean : (outs : List Outcome) (n dd : ℕ) (d : DdPlan) (b : Bool) (s t : State) → Same outs s t → Clean fixed (cond b (Left n dd d ∷ []) []) t →
      Clean fixed (cond b (Left n dd d ∷ []) []) s × Same outs (after fixed (cond b (Left n dd d ∷ []) []) s) (after fixed (cond b (Left n dd d ∷ []) []) t)
  left_clean outs n dd d true s t h c = let one = lefts_alike outs fixed s t h n dd d c.0 in ((one.0, tt), one.1)
  left_clean outs n dd d false s t h c = (tt, h)

  appended_clean : (outs : List Outcome) (xs ys : List Action) (s t : State) →
      (Clean fixed xs t → Clean fixed xs s × Same outs (after fixed xs s) (after fixed xs t)) →
      (Same outs (after fixed xs s) (after fixed xs t) → Clean fixed ys (after fixed xs t) →
      Clean fixed ys (after fixed xs s) × Same outs (after fixed ys (after fixed xs s)) (after fixed ys (after fixed xs t))) →
      Clean fixed (xs ++ ys) t → Clean fixed (xs ++ ys) s × Same outs (after fixed (xs ++ ys) s) (after fixed (xs ++ ys) t)
  appended_clean outs xs ys s t first later c =
      let path = clean_split fixed xs ys t c in
      let a = first path.0 in
      let b = later a.1 path.1 in (
        clean_join fixed xs ys s a.0 b.0,
        subst (λ (u : State). Same outs u (after fixed (xs ++ ys) t)) (sym (after_append fixed xs ys s))
            (subst (λ (u : State). Same outs (after fixed ys (after fixed xs s)) u) (sym (after_append fixed xs ys t)) b.1),
      )

  lefts_in_clean : (outs : List Outcome) (n dd : ℕ) (ds : List DdPlan) (s t : State) → Same outs s t → Clean fixed (lefts_in n dd ds) t →
      Clean fixed (lefts_in n dd ds) s × Same outs (after fixed (lefts_in n dd ds) s) (after fixed (lefts_in n dd ds) t)
  lefts_in_clean outs n dd [] s t h c = (tt, h)
  lefts_in_clean outs n dd (d ∷ ds) s t h c =
      appended_clean outs (left_by n dd d) (lefts_in n (dd + 1) ds) s t (left_clean outs n dd d (passes d.kind) s t h)
      (λ same. lefts_in_clean outs n (dd + 1) ds (after fixed (left_by n dd d) s) (after fixed (left_by n dd d) t) same) c

  lefts_clean : (outs : List Outcome) (n : ℕ) (steps : List StepPlan) (s t : State) → Same outs s t → Clean fixed (lefts_from n steps) t →
      Clean fixed (lefts_from n steps) s × Same outs (after fixed (lefts_from n steps) s) (after fixed (lefts_from n steps) t)
  lefts_clean outs n [] s t h c = (tt, h)
  lefts_clean outs n (step ∷ steps) s t h c =
      appended_clean outs (lefts_in n 1 step.dds) (lefts_from (n + 1) steps) s t (lefts_in_clean outs n 1 step.dds s t h)
      (λ same. lefts_clean outs (n + 1) steps (after fixed (lefts_in n 1 step.dds) s) (after fixed (lefts_in n 1 step.dds) t) same) c

  over_clean : (s : State) → Clean fixed (Over ∷ []) s
  unfolding act
  over_clean s = (refl, tt)

-- how programs end
ending_in_good : (requests : List Request) → All IsRequest requests → IsStepOutcome (ending_in requests)
ending_in_good [] h = let le : 0 ≤ 4095 = omega arith in le
ending_in_good (Get dd ∷ requests) h = ending_in_good requests (All-tail IsRequest (Get dd) requests h)
ending_in_good (Put dd text ∷ requests) h = ending_in_good requests (All-tail IsRequest (Put dd text) requests h)
ending_in_good (End code ∷ requests) h = All-head IsRequest (End code) requests h
ending_in_good (Abend code ∷ requests) h = tt

ending_by_good : (programs : List SoloProgram) → AreWellFormedPrograms programs → (name : List ℕ) → IsStepOutcome (ending_by (program_of programs name))
ending_by_good [] h name = tt
ending_by_good (p ∷ ps) h name =
    by_name (bytes_eq p.name name) (ending_by_good ps (All-tail (λ program. All IsRequest program.requests) p ps h) name)
  where
    by_name : (b : Bool) → IsStepOutcome (ending_by (program_of ps name)) → IsStepOutcome (ending_by (cond b (Some p.requests) (program_of ps name)))
    by_name true later = ending_in_good p.requests (All-head (λ program. All IsRequest program.requests) p ps h)
    by_name false later = later

ending_good : (programs : List SoloProgram) → AreWellFormedPrograms programs → (name : List ℕ) → IsStepOutcome (ending_of programs name)
ending_good programs h name = by_name (is_iefbr14 name)
  where
    by_name : (b : Bool) → IsStepOutcome (cond b (outcome.Code 0) (ending_by (program_of programs name)))
    by_name true = let le : 0 ≤ 4095 = omega arith in le
    by_name false = ending_by_good programs h name

endings_good : (programs : List SoloProgram) → AreWellFormedPrograms programs → (steps : List StepPlan) →
    All IsStepOutcome (map (λ (step : StepPlan). ending_of programs step.program) steps)
endings_good programs h [] = All-nil IsStepOutcome
endings_good programs h (step ∷ steps) =
    All-cons IsStepOutcome (ending_of programs step.program) (map (λ (step : StepPlan). ending_of programs step.program) steps)
    (ending_good programs h step.program) (endings_good programs h steps)

pub clean_by_programs : (fixed : Fixed) (plan : JobPlan) (programs : List SoloProgram) (s : Store) (answers : SoloAnswers) → AreWellFormedPrograms programs →
    IsSafe fixed plan s → is_clean (run fixed (agenda plan programs) (at_start s (answers_of plan programs answers))) ≡ true
clean_by_programs fixed plan programs s answers formed safe = by_choice (chosen fixed programs 1 plan.steps here)
  where
    here : State
    here = at_start s (answers_of plan programs answers)

    by_choice : Chosen fixed programs 1 plan.steps here → is_clean (run fixed (agenda plan programs) here) ≡ true
    by_choice choice =
        let there : State = at_start s (given choice.outs) in
        let same : Same choice.outs here (at_start s (given choice.outs)) = record {
          store = shaped_same s;
          passed = refl;
          ended = refl;
          faulted = refl;
          volumes = refl;
          runs = refl;
          dds = tt;
          granted = refl;
          granted_too = refl;
          no_cancel = refl;
          given = refl;
          good = endings_good programs formed plan.steps;
        } in
        let path = clean_split fixed (steps_from (moves_of []) 1 plan.steps) (lefts_from 1 plan.steps ++ (Over ∷ [])) (at_start s (given choice.outs))
        (run_is_clean fixed (path_agenda plan) (at_start s (given choice.outs)) (safe choice.outs choice.within)) in
        let steps = choice.clean (at_start s (given choice.outs)) same path.0 in
        let behind = clean_split fixed (lefts_from 1 plan.steps) (Over ∷ []) (after fixed (steps_from (moves_of []) 1 plan.steps) (at_start s (given choice.outs))) path.1 in
        let lefts = lefts_clean fixed [] 1 plan.steps _ _ steps.1 behind.0 in
        clean_is_run fixed (agenda plan programs) here
        (clean_join fixed (steps_from (moves_of programs) 1 plan.steps) (lefts_from 1 plan.steps ++ (Over ∷ [])) here steps.0
        (clean_join fixed (lefts_from 1 plan.steps) (Over ∷ []) (after fixed (steps_from (moves_of programs) 1 plan.steps) here) lefts.0
        (over_clean fixed _)))
