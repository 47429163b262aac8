-- In which part of a path an action of its agenda stands.
use Rattle.std.proofs.Common.{◌≡◌, ◌+◌, ◌-◌, ◌++◌, ◌<◌, ◌≤◌, ℕ, zero, suc, Bool, true, false, List, [], ◌∷◌, drop, take, length, Some, refl, sym, ap, ◌∙◌, arith}
use Rattle.std.proofs.Common.{ltb, ltb-true, ltb-false}
use Rattle.std.specs.Prelude.{slice_get}
use Rattle.std.proofs.lemmas.List.{drop_all, length-append}
use Rattle.jcl_plan.specs.declared.plan.JobPlan.{JobPlan}
use Rattle.jcl_plan.specs.declared.plan.StepPlan.{StepPlan}
use Rattle.jcl_plan.specs.declared.outcome.Outcome.{Outcome}
use Rattle.jcl_meaning.specs.Agendas.{Action, Over, lefts_from, path_agenda, steps_from}
use Rattle.jcl_meaning.specs.Programs.{moves_of}
use Rattle.jcl_meaning.specs.Solo.{at_start, given, run}
use Rattle.jcl_meaning.specs.States.{Fixed, State}
use Rattle.jcl_meaning.specs.Stores.{Store}
use Rattle.jcl_meaning.specs.Views.{ran_to}
use Rattle.path_laws.specs.Paths.{before_part}
use Rattle.path_laws.proofs.Parts.{cut_at_part, cut_behind, front_and_part, front_of, get_behind, last_part}
use Rattle.solo_core.specs.Meets.{meets_in}
use Rattle.solo_core.proofs.Runs.{meets_in-append}
use Rattle.path_laws.specs.PathParts.{path_part}
use Rattle.path_core.proofs.Members.{get_front}
use Rattle.path_core.proofs.MetPlaces.{meets_size}

pub record Located (plan : JobPlan) (place : ℕ) (action : Action) : Type 0 where
  pub part : ℕ
  pub at : ℕ
  pub within : part ≤ length plan.steps
  pub place_is : place ≡ before_part plan part + at
  pub there : slice_get (path_part plan part) at ≡ Some action

module _ (plan : JobPlan) (place : ℕ) (action : Action) (due : slice_get (path_agenda plan) place ≡ Some action) where
  -- what stands there behind a front
  in_rest : (k : ℕ) (rest : List Action) → before_part plan k ≤ place → path_agenda plan ≡ front_of plan k ++ rest →
      slice_get rest (place - before_part plan k) ≡ Some action
  in_rest k rest low whole =
      let number : before_part plan k + (place - before_part plan k) ≡ place = omega arith in
      sym (get_behind (front_of plan k) rest (place - before_part plan k))
      ∙ ap (slice_get (front_of plan k ++ rest)) number ∙ ap (λ (actions : List Action). slice_get actions place) (sym whole) ∙ due

  at_end : (k : ℕ) → k ≡ length plan.steps → before_part plan k ≤ place → Located plan place action
  at_end k e low =
      let none : drop k plan.steps ≡ [] = drop_all k plan.steps (omega arith) in
      let whole : path_agenda plan ≡ front_of plan k ++ path_part plan k =
      cut_behind plan k
      ∙ ap (λ (steps : List StepPlan). front_of plan k ++ (steps_from (moves_of []) (1 + length (take k plan.steps)) steps ++ (lefts_from 1 plan.steps ++ (Over ∷ [])))) none
      ∙ ap (λ (actions : List Action). front_of plan k ++ actions) (sym (last_part plan) ∙ ap (path_part plan) (sym e)) in
      record {
        part = k;
        at = place - before_part plan k;
        within = omega arith;
        place_is = omega arith;
        there = in_rest k (path_part plan k) low whole;
      }

  from_part : (count k : ℕ) → count + k ≡ length plan.steps → before_part plan k ≤ place → Located plan place action
  from_part zero k e low = at_end k (omega arith) low
  from_part (suc count) k e low =
      by_place (ltb (place - before_part plan k) (length (path_part plan k))) refl (from_part count (k + 1) (omega arith))
    where
      by_place : (b : Bool) → ltb (place - before_part plan k) (length (path_part plan k)) ≡ b →
          (before_part plan (k + 1) ≤ place → Located plan place action) → Located plan place action
      by_place true h later =
          let cut = cut_at_part plan k in
          let less : place - before_part plan k < length (path_part plan k) = ltb-true _ _ h in
          record {
            part = k;
            at = place - before_part plan k;
            within = omega arith;
            place_is = omega arith;
            there = sym (get_front (path_part plan k) cut.rest (place - before_part plan k) less)
                ∙ in_rest k (path_part plan k ++ cut.rest) low cut.whole;
          }
      by_place false h later =
          let past : length (path_part plan k) ≤ place - before_part plan k = ltb-false _ _ h in
          let next : before_part plan (k + 1) ≡ before_part plan k + length (path_part plan k) =
          ap length (front_and_part plan k (omega arith)) ∙ length-append (front_of plan k) (path_part plan k) in
          later (omega arith)

  pub locate : Located plan place action
  locate = from_part (length plan.steps) 0 (omega arith) (omega arith)

-- what the action at a place of a part meets
pub meets_at_part : (fixed : Fixed) (plan : JobPlan) (store : Store) (k at : ℕ) (os : List Outcome) → at < length (path_part plan k) →
    slice_get (meets_in fixed (path_agenda plan) (at_start store (given os))) (before_part plan k + at)
    ≡ slice_get (meets_in fixed (path_part plan k) (ran_to fixed plan store k os).state) at
meets_at_part fixed plan store k at os h =
    let cut = cut_at_part plan k in
    let start : State = at_start store (given os) in
    let here : State = (ran_to fixed plan store k os).state in
    let front = meets_in fixed (front_of plan k) start in
    let part = meets_in fixed (path_part plan k) here in
    let rest = meets_in fixed cut.rest (run fixed (path_part plan k) here).state in
    let size : length front ≡ before_part plan k = meets_size fixed (front_of plan k) start in
    let less : at < length part = omega (arith, h, meets_size fixed (path_part plan k) here) in
    ap (λ (actions : List Action). slice_get (meets_in fixed actions start) (before_part plan k + at)) cut.whole
    ∙ ap (λ ms. slice_get ms (before_part plan k + at)) (meets_in-append fixed (front_of plan k) (path_part plan k ++ cut.rest) start
    ∙ ap (λ ms. front ++ ms) (meets_in-append fixed (path_part plan k) cut.rest here))
    ∙ ap (λ n. slice_get (front ++ (part ++ rest)) (n + at)) (sym size)
    ∙ get_behind front (part ++ rest) at ∙ get_front part rest at less
