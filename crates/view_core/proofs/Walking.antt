-- A step's takes, its end and its dispositions on a scene, put together.
use Rattle.std.proofs.Common.{◌≡◌, ◌+◌, ◌-◌, ◌++◌, ◌∷◌, ℕ, suc, false, List, [], Option, Some, None, Result, Ok, Err, length, refl, sym, ap, ◌∙◌, subst, append_assoc, add-one, arith}
use Rattle.std.proofs.lemmas.List.{append-nil, length-append}
use Rattle.jcl_plan.specs.declared.outcome.Outcome.{Outcome}
use Rattle.jcl_plan.specs.declared.plan.DdPlan.{DdPlan}
use Rattle.jcl_plan.specs.declared.plan.StepPlan.{StepPlan}
use Rattle.jcl_meaning.specs.declared.state.Place.{Place}
use Rattle.jcl_meaning.specs.declared.store.SoloStore.{SoloStore}
use Rattle.jcl_meaning.specs.Acts.{act}
use Rattle.jcl_meaning.specs.Agendas.{Action, Dispose, Finish, Take, disposes_from, takes_from}
use Rattle.jcl_meaning.specs.EndActs.{finished}
use Rattle.jcl_meaning.specs.Solo.{given, run}
use Rattle.jcl_meaning.specs.States.{Answers, Fixed, State, with_answers_used}
use Rattle.jcl_meaning.specs.Stores.{store_of}
use Rattle.path_meaning.specs.Paths.{FaultPlace}
use Rattle.disp_core.specs.Courses.{CarriedEnd, Does}
use Rattle.disp_core.specs.declared.course.Course.{Course}
use Rattle.path_laws.specs.Steps.{behind_start}
use Rattle.view_domain.specs.declared.crossed.Stop.{Stop}
use Rattle.view_core.specs.declared.scene.Scene.{Scene}
use Rattle.view_core.specs.declared.walk.Under.{Under}
use Rattle.view_core.specs.Scenes.{state_on}
use Rattle.view_core.specs.Walks.{DisposesAll, EndsFrom, EndsIn, LeavesScene, MeetsAt, RanTo, StopsAt, StopsIn, TakesAll, state_of}
use Rattle.view_core.proofs.Runs.{end_makes, length-takes, made_append, meets_before, meets_behind, run_append, run_one}

-- where a fault is met, told by its stop
abbrev pub told_at : Stop → ℕ → Option FaultPlace
told_at stop ended = Some (record { step = stop.step; dd = stop.dd; ended = ended })

place_told : (stop : Stop) (ended : ℕ) → ended ≡ stop.ended → told_at stop ended ≡ told_at stop stop.ended
place_told stop ended e = ap (told_at stop) e

-- behind so many takes and an end
behind_end : (size dds place at : ℕ) → size ≡ suc dds → at ≡ dds + 2 + place → at ≡ suc (size + place)
behind_end size dds place at e f = omega arith

module _ (fixed : Fixed) (n : ℕ) (step : StepPlan) (scene : Scene) (u : Under) (same : u.store ≡ scene.store) where
  abbrev start : List Outcome → State
  start os = state_on scene u.course.own os

  on_scene : (os : List Outcome) → state_of u (given os) ≡ start os
  on_scene os = ap (λ (s : SoloStore). record { store = store_of s; own = u.course.own; answers = given os }) same

  -- a take meets a fault
  pub refused : (stop : Stop) (v : Under) (made : List Place) → TakesAll fixed n step.dds u [] (Some stop) v made → (os : List Outcome) →
      StopsIn fixed n step (start os) stop
  refused stop v made h os =
      let there : (place : ℕ) × (stop.at ≡ place + 1) × StopsAt fixed Take (takes_from n 1 step.dds) (state_of u (given os)) place stop = h.2 (given os) refl in
      record {
        place = there.0;
        at = there.1 ∙ add-one there.0;
        action = Take stop.step stop.dd there.2.plan;
        meets = meets_before fixed (takes_from n 1 step.dds) (Finish n ∷ disposes_from n 1 step.dds) (start os) there.0 (Take stop.step stop.dd there.2.plan) stop.fault
            (subst (λ (s : State). MeetsAt fixed (takes_from n 1 step.dds) s there.0 (Take stop.step stop.dd there.2.plan) stop.fault) (on_scene os) there.2.meets);
        told = λ steps. place_told stop (stop.step - 1) (ap (λ (m : ℕ). m - 1) h.0 ∙ sym h.1);
      }

  -- all are taken
  module _ (v : Under) (made : List Place) (taken : TakesAll fixed n step.dds u [] None v made) where
    taken_on : (os : List Outcome) → RanTo (run fixed (takes_from n 1 step.dds) (start os)) (state_of v (given os)) made
    taken_on os =
        subst (λ (s : State). RanTo (run fixed (takes_from n 1 step.dds) s) (state_of v (given os)) made) (on_scene os)
        (subst (λ (l : List Place). RanTo (run fixed (takes_from n 1 step.dds) (state_of u (given os))) (state_of v (given os)) l) (sym taken.1) (taken.2 (given os) refl))

    pub makes : (os : List Outcome) → (run fixed (behind_start n step) (start os)).made ≡ made
    makes os =
        made_append fixed (takes_from n 1 step.dds) (Finish n ∷ disposes_from n 1 step.dds) (start os)
        ∙ (λ i. (taken_on os).made i ++ end_makes fixed n step.dds (run fixed (takes_from n 1 step.dds) (start os)).state i) ∙ append-nil made

    -- and the step ends
    module _ (o : Outcome) (c : Course) (ended : CarriedEnd (λ s. finished n s) o false v.course c) where
      abbrev shut : Under
      shut = record { store = v.store; course = c }

      abbrev left : Answers
      left = with_answers_used (given (o ∷ []))

      end_one : RanTo (run fixed (Finish n ∷ []) (state_of v (given (o ∷ [])))) (state_of shut left) []
      unfolding act
      end_one =
          let did : Does (finished n (state_of v (given (o ∷ [])))) (store_of v.store) c v.course left None [] =
          ended (store_of v.store) (given (o ∷ [])) refl refl in
          run_one fixed (Finish n) (state_of v (given (o ∷ []))) (state_of shut left) [] did.its_state did.its_fault did.its_made

      to_end : RanTo (run fixed (takes_from n 1 step.dds ++ Finish n ∷ []) (start (o ∷ []))) (state_of shut left) (made ++ [])
      to_end = run_append fixed (takes_from n 1 step.dds) (Finish n ∷ []) (start (o ∷ [])) (state_of v (given (o ∷ []))) (state_of shut left) made []
          (taken_on (o ∷ [])) end_one

      whole : (takes_from n 1 step.dds ++ Finish n ∷ []) ++ disposes_from n 1 step.dds ≡ behind_start n step
      whole = append_assoc (takes_from n 1 step.dds) (Finish n ∷ []) (disposes_from n 1 step.dds)

      -- a disposition meets a fault
      pub stops : (stop : Stop) (w : Under) → DisposesAll fixed n step.dds shut (Some stop) w → StopsIn fixed n step (start (o ∷ [])) stop
      stops stop w h =
          let there : (place : ℕ) × (stop.at ≡ length step.dds + 2 + place) × StopsAt fixed Dispose (disposes_from n 1 step.dds) (state_of shut left) place stop = h.2 left in
          let action : Action = Dispose stop.step stop.dd there.2.plan in
          let xs : List Action = takes_from n 1 step.dds ++ Finish n ∷ [] in
          let size : length xs ≡ suc (length step.dds) =
          length-append (takes_from n 1 step.dds) (Finish n ∷ []) ∙ ap (λ (m : ℕ). m + 1) (length-takes n 1 step.dds) ∙ add-one (length step.dds) in
          record {
            place = length xs + there.0;
            at = behind_end (length xs) (length step.dds) there.0 stop.at size there.1;
            action = action;
            meets = subst (λ (l : List Action). MeetsAt fixed l (start (o ∷ [])) (length xs + there.0) action stop.fault) whole
                (meets_behind fixed xs (disposes_from n 1 step.dds) (start (o ∷ [])) (state_of shut left) (made ++ []) there.0 action stop.fault to_end there.2.meets);
            told = λ steps. place_told stop stop.step (h.0 ∙ sym h.1);
          }

      -- or none does
      pub leaves : (w : Under) → DisposesAll fixed n step.dds shut None w → LeavesScene (run fixed (behind_start n step) (start (o ∷ [])))
          (record { store = w.store; passed = w.course.own.passed; volumes = w.course.own.volumes })
      leaves w h =
          let ran : RanTo (run fixed (behind_start n step) (start (o ∷ []))) (state_of w left) ((made ++ []) ++ []) =
          subst (λ (l : List Action). RanTo (run fixed l (start (o ∷ []))) (state_of w left) ((made ++ []) ++ [])) whole
          (run_append fixed (takes_from n 1 step.dds ++ Finish n ∷ []) (disposes_from n 1 step.dds) (start (o ∷ [])) (state_of shut left) (state_of w left) (made ++ []) []
          to_end (h left)) in
          record {
            faults = ran.faults;
            store = ap (λ (s : State). s.store) ran.state;
            passed = ap (λ (s : State). s.own.passed) ran.state;
            volumes = ap (λ (s : State). s.own.volumes) ran.state;
          }

    -- so what it comes to is what its actions come to
    pub ends : (o : Outcome) (end : Result Scene Stop) → EndsFrom fixed n step.dds v o end → EndsIn fixed n step (start (o ∷ [])) end
    ends o (Err stop) h = stops o h.0 h.1 stop h.2.0 h.2.1
    ends o (Ok seen) h =
        subst (LeavesScene (run fixed (behind_start n step) (start (o ∷ [])))) (sym h.2.1.1) (leaves o h.0 h.1 h.2.0 h.2.1.0)

-- a step under way and its copy
pub taken_again : (fixed : Fixed) (n : ℕ) (ds : List DdPlan) (u v w : Under) (made : List Place) → w.store ≡ v.store → w.course.own ≡ v.course.own →
    TakesAll fixed n ds u [] None v made → TakesAll fixed n ds u [] None w made
taken_again fixed n ds u v w made store own h = (
  h.0,
  h.1,
  λ answers granted.
      let ran : RanTo (run fixed (takes_from n 1 ds) (state_of u answers)) (state_of v answers) h.0 = h.2 answers granted in
      record {
        faults = ran.faults;
        state = ran.state ∙ (λ i. record { store = store_of (sym store i); own = sym own i; answers = answers });
        made = ran.made;
      },
)

-- the same of what is known to be the same
pub taken_as : (fixed : Fixed) (n : ℕ) (ds es : List DdPlan) (u v : Under) (old new made : List Place) (a b : Option Stop) → ds ≡ es → old ≡ new → a ≡ b →
    TakesAll fixed n ds u old a v made → TakesAll fixed n es u new b v made
taken_as fixed n ds es u v old new made a b p q r h =
    subst (λ (x : Option Stop). TakesAll fixed n es u new x v made) r
    (subst (λ (x : List Place). TakesAll fixed n es u x a v made) q (subst (λ (x : List DdPlan). TakesAll fixed n x u old a v made) p h))

pub disposed_as : (fixed : Fixed) (n : ℕ) (ds es : List DdPlan) (u v : Under) (a b : Option Stop) → ds ≡ es → a ≡ b →
    DisposesAll fixed n ds u a v → DisposesAll fixed n es u b v
disposed_as fixed n ds es u v a b p r h =
    subst (λ (x : Option Stop). DisposesAll fixed n es u x v) r (subst (λ (x : List DdPlan). DisposesAll fixed n x u a v) p h)

pub ended_as : (fixed : Fixed) (n : ℕ) (ds es : List DdPlan) (v : Under) (o p : Outcome) (end : Result Scene Stop) → ds ≡ es → o ≡ p →
    EndsFrom fixed n ds v o end → EndsFrom fixed n es v p end
ended_as fixed n ds es v o p end dds outcomes h =
    subst (λ (x : Outcome). EndsFrom fixed n es v x end) outcomes (subst (λ (x : List DdPlan). EndsFrom fixed n x v o end) dds h)
