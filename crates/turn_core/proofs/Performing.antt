-- An action carried out is the definition's, with the answers of the store.
use Rattle.std.proofs.Common.{◌≡◌, ℕ, ◌-◌, Bool, true, false, List, [], ◌∷◌, ◌++◌, Option, Some, None, slice_get, drop, length, eq-eqb, refl, sym, ap, subst, ◌∙◌, if◌then◌else◌}
use Rattle.std.proofs.Math.Seq.{drop-append_seam}
use Rattle.jname_core.specs.declared.key.Key.{Key}
use Rattle.jcl_plan.specs.declared.entry.JobLine.{JobLine}
use Rattle.jcl_plan.specs.declared.fault.Fault.{Fault}
use Rattle.jcl_plan.specs.declared.outcome.Outcome.{Outcome}
use Rattle.jcl_plan.specs.declared.outcome.Outcome.TheVariants as outcome
use Rattle.jcl_plan.specs.declared.plan.DdPlan.{DdPlan}
use Rattle.jcl_plan.specs.declared.plan.StepPlan.{StepPlan}
use Rattle.jcl_meaning.specs.declared.program.Move.{Move}
use Rattle.jcl_meaning.specs.declared.state.Own.{Own}
use Rattle.jcl_meaning.specs.Acts.{act}
use Rattle.jcl_meaning.specs.declared.program.SoloProgram.{SoloProgram}
use Rattle.jcl_meaning.specs.declared.state.Place.{Place}
use Rattle.jcl_meaning.specs.Agendas.{Action, Start, Take, Ask, Receive, Finish, Dispose, Left}
use Rattle.jcl_meaning.specs.EndActs.{disposes, finished, left_at}
use Rattle.jcl_meaning.specs.Programs.{ending_of}
use Rattle.jcl_meaning.specs.RequestActs.{asked, head_or, received}
use Rattle.jcl_meaning.specs.States.{Answers, Done, Fixed, State, cancel_due, if_runs, with_answers_used}
use Rattle.jcl_meaning.specs.Stores.{Store}
use Rattle.jcl_meaning.specs.TakeActs.{started, takes}
use Rattle.store_core.specs.Actions.{state_at}
use Rattle.disp_core.specs.Courses.{Carried, CarriedAside, CarriedEnd, Does}
use Rattle.disp_core.specs.Grants.{CarriedWith, made_of, primary_granted}
use Rattle.disp_core.specs.declared.course.Course.{Course}
use Rattle.request_core.specs.Requests.{CarriedRequest, CarriedUnless, Grants, Growth, answers_left, growth_asked}
use Rattle.world_meaning.specs.Turns.{answers_due, end_of, is_cancelled, outcomes_due}
use Rattle.turn_core.specs.Ending.{ended_at}
use Rattle.turn_core.specs.Passing.{is_idle}
use Rattle.turn_core.specs.Performing.{HasActed, Performs, StoreAnswers, granting_by, growth_granted, volume_started}
use Rattle.turn_core.specs.Places.{action_of}
use Rattle.turn_core.specs.Waiting.{volume_due}
use Rattle.turn_core.specs.declared.todo.Task.{Task}
use Rattle.turn_core.specs.declared.walk.Acted.{Acted}
use Rattle.turn_core.proofs.Saying.{cancels_at, cancels_of_program, says, starts_none}

-- the lines of an action, behind those before
lines_from : (lines before said : List JobLine) (n : ℕ) → lines ≡ before ++ said → n ≡ length before → drop n lines ≡ said
lines_from lines before said n e f = (λ i. drop (f i) (e i)) ∙ drop-append_seam before said

-- what is told of an action is what it did
pub record IsTold (done : Done) (told : Acted) : Type 0 where
  pub starts : told.starts ≡ volume_started done.lines
  pub cancels : told.cancelled ≡ is_cancelled done.lines

pub has_acted : (done : Done) (seen : Store) (after before : Course) (answers : Answers) (meets : Option Fault) (told : Acted) →
    Does done seen after before answers meets (made_of told.made) → IsTold done told → HasActed done seen after before told
has_acted done seen after before answers meets told h t = record {
  its_store = ap (λ (s : State). s.store) h.its_state;
  its_own = ap (λ (s : State). s.own) h.its_state;
  its_lines = h.its_lines;
  its_made = h.its_made;
  its_start = t.starts;
  its_cancel = t.cancels;
}

-- a cancel stands in the place of the next program line, or none does
pub cancelled_now : (b : Bool) (n : ℕ) → cancel_due ((if b then Some n else None) ∷ []) n ≡ b
cancelled_now true n = eq-eqb n n refl
cancelled_now false n = refl

-- the answer to a growth is the store's
pub grants_now : (grants : Key → List ℕ → ℕ → Bool) (growth : Option Growth) (outcomes : List Outcome) (cancels : List (Option ℕ)) (primary : Bool) →
    Grants grants growth (record { outcomes = outcomes; cancels = cancels; grants = growth_granted grants growth ∷ []; primary = primary })
grants_now grants None outcomes cancels primary = tt
grants_now grants (Some g) outcomes cancels primary = refl

-- the step's program ends as it does by itself
pub ending_now : (programs : List SoloProgram) (steps : List StepPlan) (n : ℕ) (step : StepPlan) → slice_get steps (n - 1) ≡ Some step →
    head_or (outcome.Code 0) (outcomes_due programs steps (Finish n)) ≡ ending_of programs step.program
ending_now programs steps n step e = ap (λ o. head_or (outcome.Code 0) (end_of programs o)) e

module _ (programs : List SoloProgram) (steps : List StepPlan) (grants : StoreAnswers) (cancel : Bool) (fixed : Fixed) where
  abbrev due : Action → Store → Own → Answers
  due a seen own = answers_due programs steps (granting_by grants cancel fixed a seen own) a own

  abbrev here : Action → Store → Own → State
  here a seen own = state_at seen own (due a seen own)

  -- where no request is made, none starts an operation; whether a cancel acts goes by the kind of the action
  told_of : (a : Action) (seen : Store) (own : Own) (made : Option Place) (cancelled : Bool) → is_idle a own ≡ false → ended_at a own ≡ None →
      volume_due cancel a seen own ≡ None → cancels_at cancel a (here a seen own) ≡ cancelled →
      IsTold (act fixed a (here a seen own)) (record { made = made; starts = None; cancelled = cancelled })
  told_of a seen own made cancelled h k none c = record {
    starts = starts_none fixed a (here a seen own) cancel h k (cancelled_now cancel own.lines) none;
    cancels = sym ((says fixed a (here a seen own) cancel h k (cancelled_now cancel own.lines)).acts ∙ c);
  }

  pub performs_start : (n : ℕ) (step : StepPlan) (seen : Store) (before after : Course) → CarriedAside (λ s. started fixed n step s) before after →
      Performs programs steps grants cancel fixed (Start n step) seen before seen after (record { made = None; starts = None; cancelled = false })
  unfolding act
  performs_start n step seen before after h =
      has_acted (started fixed n step (here (Start n step) seen before.own)) seen after before (due (Start n step) seen before.own) None _
      (h seen (due (Start n step) seen before.own)) (told_of (Start n step) seen before.own None false refl refl refl refl)

  pub performs_take : (n dd : ℕ) (d : DdPlan) (old new : Store) (before after : Course) (meets : Option Fault) (made : Option Place) →
      is_idle (Take n dd d) before.own ≡ false →
      CarriedWith (primary_granted grants.new fixed n dd d.kind old before.own) (λ s. if_runs s.own.runs s (takes fixed n dd d.name d.kind s)) old before new after meets (made_of made) →
      Performs programs steps grants cancel fixed (Take n dd d) old before new after (record { made = made; starts = None; cancelled = false })
  unfolding act
  performs_take n dd d old new before after meets made k h =
      let s : State = here (Take n dd d) old before.own in
      has_acted (if_runs s.own.runs s (takes fixed n dd d.name d.kind s)) new after before s.answers meets _ (h s.answers refl)
      (told_of (Take n dd d) old before.own made false k refl refl refl)

  pub performs_ask : (step : StepPlan) (wants : Move) (old new : Store) (before after : Course) (starts : Option (List ℕ)) → is_idle (Ask step wants) before.own ≡ false →
      (place : ℕ) → place ≡ length before.lines → starts ≡ volume_started (drop place after.lines) →
      CarriedRequest cancel grants.growth (growth_asked cancel step wants before.own old) (λ s. asked step wants s) old before new after →
      Performs programs steps grants cancel fixed (Ask step wants) old before new after (record { made = None; starts = starts; cancelled = cancel })
  unfolding act
  performs_ask step wants old new before after starts k place is told h =
      let a : Answers = due (Ask step wants) old before.own in
      let s : State = here (Ask step wants) old before.own in
      let does = h a (cancelled_now cancel before.own.lines) (grants_now grants.growth (growth_asked cancel step wants before.own old) a.outcomes a.cancels a.primary) in
      has_acted (asked step wants s) new after before (answers_left (growth_asked cancel step wants before.own old) a) None _ does (record {
        starts = told ∙ ap volume_started (lines_from after.lines before.lines (asked step wants s).lines place does.its_lines is);
        cancels = sym (says fixed (Ask step wants) s cancel k refl (cancelled_now cancel before.own.lines)).acts;
      })

  pub performs_receive : (old new : Store) (before after : Course) → is_idle Receive before.own ≡ false → CarriedUnless cancel (λ s. received s) old before new after →
      Performs programs steps grants cancel fixed Receive old before new after (record { made = None; starts = None; cancelled = cancel })
  unfolding act
  performs_receive old new before after k h =
      let s : State = here Receive old before.own in
      has_acted (received s) new after before s.answers None _ (h s.answers (cancelled_now cancel before.own.lines))
      (told_of Receive old before.own None cancel k refl refl refl)

  pub performs_finish : (n : ℕ) (step : StepPlan) (o : Outcome) (seen : Store) (before after : Course) → is_idle (Finish n) before.own ≡ false →
      ended_at (Finish n) before.own ≡ None → slice_get steps (n - 1) ≡ Some step → o ≡ ending_of programs step.program →
      CarriedEnd (λ s. finished n s) o cancel before after →
      Performs programs steps grants cancel fixed (Finish n) seen before seen after (record { made = None; starts = None; cancelled = cancel })
  unfolding act
  performs_finish n step o seen before after i k e q h =
      let s : State = here (Finish n) seen before.own in
      has_acted (finished n s) seen after before (with_answers_used s.answers) None _
      (h seen s.answers (ending_now programs steps n step e ∙ sym q) (cancelled_now cancel before.own.lines))
      (told_of (Finish n) seen before.own None cancel i k refl (cancels_of_program programs step.program s cancel (ending_now programs steps n step e)))

  pub performs_dispose : (n dd : ℕ) (d : DdPlan) (old new : Store) (before after : Course) (meets : Option Fault) → is_idle (Dispose n dd d) before.own ≡ false →
      Carried (λ s. if_runs s.own.runs s (disposes (slice_get s.own.dds (dd - 1)) fixed n dd d.name d.kind s)) old before new after meets [] →
      Performs programs steps grants cancel fixed (Dispose n dd d) old before new after (record { made = None; starts = None; cancelled = false })
  unfolding act
  performs_dispose n dd d old new before after meets k h =
      let s : State = here (Dispose n dd d) old before.own in
      has_acted (if_runs s.own.runs s (disposes (slice_get s.own.dds (dd - 1)) fixed n dd d.name d.kind s)) new after before s.answers meets _ (h s.answers)
      (told_of (Dispose n dd d) old before.own None false k refl refl refl)

  pub performs_left : (n dd : ℕ) (d : DdPlan) (old new : Store) (before after : Course) (meets : Option Fault) → is_idle (Left n dd d) before.own ≡ false →
      Carried (λ s. left_at fixed n dd d.name d.kind s) old before new after meets [] →
      Performs programs steps grants cancel fixed (Left n dd d) old before new after (record { made = None; starts = None; cancelled = false })
  unfolding act
  performs_left n dd d old new before after meets k h =
      let s : State = here (Left n dd d) old before.own in
      has_acted (left_at fixed n dd d.name d.kind s) new after before s.answers meets _ (h s.answers)
      (told_of (Left n dd d) old before.own None false k refl refl refl)

-- of the action at hand
abbrev pub PerformsTask : List SoloProgram → List StepPlan → StoreAnswers → Bool → Fixed → Store → Course → Store → Course → Acted → Task → Type 0
PerformsTask programs steps grants cancel fixed old before new after told t = Performs programs steps grants cancel fixed (action_of steps t) old before new after told

-- what is told of it, and whether it may be passed over, by its kind
pub as_told : (told is : Acted) (programs : List SoloProgram) (steps : List StepPlan) (grants : StoreAnswers) (cancel : Bool) (fixed : Fixed) (a : Action)
    (old new : Store) (before after : Course) → told ≡ is → Performs programs steps grants cancel fixed a old before new after is →
    Performs programs steps grants cancel fixed a old before new after told
as_told told is programs steps grants cancel fixed a old new before after e p = subst (Performs programs steps grants cancel fixed a old before new after) (sym e) p
