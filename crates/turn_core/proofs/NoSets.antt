-- A job that names no set asks for no primary.
use Rattle.std.proofs.Common.{◌≡◌, ℕ, zero, suc, ◌+◌, ◌++◌, Bool, true, false, if◌then◌else◌, List, [], ◌∷◌, Some, slice_get, All, refl, subst, ◌∙◌, arith}
use Rattle.jname_core.specs.declared.key.Key.{Key}
use Rattle.jcl_plan.specs.declared.plan.DdKind.{DdKind}
use Rattle.jcl_plan.specs.declared.plan.DdKind.TheVariants.{Sysout, Dummy, Cards, Set}
use Rattle.jcl_plan.specs.declared.plan.DdPlan.{DdPlan}
use Rattle.jcl_plan.specs.declared.plan.JobPlan.{JobPlan}
use Rattle.jcl_plan.specs.declared.plan.StepPlan.{StepPlan}
use Rattle.jcl_meaning.specs.declared.program.Move.{Move}
use Rattle.jcl_meaning.specs.declared.program.SoloProgram.{SoloProgram}
use Rattle.jcl_meaning.specs.declared.state.Own.{Own}
use Rattle.jcl_meaning.specs.declared.state.Place.{Place}
use Rattle.jcl_meaning.specs.Agendas.{Action, Start, Take, Ask, Receive, Finish, Dispose, Left, Over, agenda, disposes_from, left_by, lefts_from, lefts_in, moves_from, step_actions, steps_from, takes_from}
use Rattle.jcl_meaning.specs.NoSets.{HasNoSets, IsNoSet, StepHasNoSets}
use Rattle.jcl_meaning.specs.Plans.{passes}
use Rattle.jcl_meaning.specs.Programs.{moves_of}
use Rattle.jcl_meaning.specs.States.{Fixed}
use Rattle.jcl_meaning.specs.Stores.{Store}
use Rattle.disp_core.specs.Grants.{primary_granted}
use Rattle.turn_core.specs.Performing.{primary_by}
use Rattle.turn_core.specs.Standing.{count_at}
use Rattle.turn_core.specs.TurnLaws.{NoneRefused}
use Rattle.turn_core.proofs.Turning.{get_from}

all_first : {X : Type 0} (P : X → Type 0) (x : X) (xs : List X) → All P (x ∷ xs) → P x
all_first P x xs h = h 0 x (omega arith)

all_others : {X : Type 0} (P : X → Type 0) (x : X) (xs : List X) → All P (x ∷ xs) → All P xs
all_others P x xs h = λ k d lt. h (suc k) d (omega arith)

-- what it takes is no set
abbrev TakesNoSet : Action → Type 0
TakesNoSet (Start n step) = Unit {0}
TakesNoSet (Take n dd d) = IsNoSet d.kind
TakesNoSet (Ask step wants) = Unit {0}
TakesNoSet Receive = Unit {0}
TakesNoSet (Finish n) = Unit {0}
TakesNoSet (Dispose n dd d) = Unit {0}
TakesNoSet (Left n dd d) = Unit {0}
TakesNoSet Over = Unit {0}

abbrev TakeNoSets : List Action → Type 0
TakeNoSets [] = Unit {0}
TakeNoSets (a ∷ actions) = TakesNoSet a × TakeNoSets actions

both : (xs ys : List Action) → TakeNoSets xs → TakeNoSets ys → TakeNoSets (xs ++ ys)
both [] ys p q = q
both (x ∷ xs) ys p q = (p.0, both xs ys p.1 q)

in_takes : (n dd : ℕ) (dds : List DdPlan) → All (λ (d : DdPlan). IsNoSet d.kind) dds → TakeNoSets (takes_from n dd dds)
in_takes n dd [] h = tt
in_takes n dd (d ∷ dds) h = (all_first (λ (d : DdPlan). IsNoSet d.kind) d dds h, in_takes n (dd + 1) dds (all_others (λ (d : DdPlan). IsNoSet d.kind) d dds h))

in_moves : (step : StepPlan) (moves : List Move) → TakeNoSets (moves_from step moves)
in_moves step [] = tt
in_moves step (m ∷ moves) = (tt, (tt, in_moves step moves))

in_disposes : (n dd : ℕ) (dds : List DdPlan) → TakeNoSets (disposes_from n dd dds)
in_disposes n dd [] = tt
in_disposes n dd (d ∷ dds) = (tt, in_disposes n (dd + 1) dds)

in_step : (n : ℕ) (step : StepPlan) (moves : List Move) → StepHasNoSets step → TakeNoSets (step_actions n step moves)
in_step n step moves h = (
  tt,
  both (takes_from n 1 step.dds) (moves_from step moves ++ (Finish n ∷ disposes_from n 1 step.dds)) (in_takes n 1 step.dds h)
      (both (moves_from step moves) (Finish n ∷ disposes_from n 1 step.dds) (in_moves step moves) (tt, in_disposes n 1 step.dds)),
)

in_steps : (moves : List ℕ → List Move) (n : ℕ) (steps : List StepPlan) → All StepHasNoSets steps → TakeNoSets (steps_from moves n steps)
in_steps moves n [] h = tt
in_steps moves n (step ∷ steps) h =
    both (step_actions n step (moves step.program)) (steps_from moves (n + 1) steps) (in_step n step (moves step.program) (all_first StepHasNoSets step steps h))
    (in_steps moves (n + 1) steps (all_others StepHasNoSets step steps h))

in_left : (n dd : ℕ) (d : DdPlan) → TakeNoSets (left_by n dd d)
in_left n dd d = elim (passes d.kind) as (λ b. TakeNoSets (if b then Left n dd d ∷ [] else [])) [ true ↦ (tt, tt) | false ↦ tt ]

in_lefts : (n dd : ℕ) (dds : List DdPlan) → TakeNoSets (lefts_in n dd dds)
in_lefts n dd [] = tt
in_lefts n dd (d ∷ dds) = both (left_by n dd d) (lefts_in n (dd + 1) dds) (in_left n dd d) (in_lefts n (dd + 1) dds)

in_all_lefts : (n : ℕ) (steps : List StepPlan) → TakeNoSets (lefts_from n steps)
in_all_lefts n [] = tt
in_all_lefts n (step ∷ steps) = both (lefts_in n 1 step.dds) (lefts_from (n + 1) steps) (in_lefts n 1 step.dds) (in_all_lefts (n + 1) steps)

in_agenda : (plan : JobPlan) (programs : List SoloProgram) → HasNoSets plan → TakeNoSets (agenda plan programs)
in_agenda plan programs h =
    both (steps_from (moves_of programs) 1 plan.steps) (lefts_from 1 plan.steps ++ (Over ∷ [])) (in_steps (moves_of programs) 1 plan.steps h)
    (both (lefts_from 1 plan.steps) (Over ∷ []) (in_all_lefts 1 plan.steps) (tt, tt))

at_place : (actions : List Action) (i : ℕ) (a : Action) → slice_get actions i ≡ Some a → TakeNoSets actions → TakesNoSet a
at_place [] i a e h = absurd cc
at_place (x ∷ xs) zero a e h = let same : x ≡ a = cc in subst TakesNoSet same h.0
at_place (x ∷ xs) (suc i) a e h = at_place xs i a e h.1

-- so no primary is asked for
of_kind : (grants : Key → Place → ℕ → Bool) (fixed : Fixed) (n dd : ℕ) (kind : DdKind) (seen : Store) (own : Own) → IsNoSet kind → primary_granted grants fixed n dd kind seen own ≡ true
of_kind grants fixed n dd (Sysout class) seen own h = refl
of_kind grants fixed n dd Dummy seen own h = refl
of_kind grants fixed n dd (Cards cards) seen own h = refl
of_kind grants fixed n dd (Set p) seen own h = absurd h

of_action : (grants : Key → Place → ℕ → Bool) (fixed : Fixed) (a : Action) (seen : Store) (own : Own) → TakesNoSet a → primary_by grants fixed a seen own ≡ true
of_action grants fixed (Start n step) seen own h = refl
of_action grants fixed (Take n dd d) seen own h = of_kind grants fixed n dd d.kind seen own h
of_action grants fixed (Ask step wants) seen own h = refl
of_action grants fixed Receive seen own h = refl
of_action grants fixed (Finish n) seen own h = refl
of_action grants fixed (Dispose n dd d) seen own h = refl
of_action grants fixed (Left n dd d) seen own h = refl
of_action grants fixed Over seen own h = refl

pub none_refused : NoneRefused
none_refused w plan old new before after told none h =
    let q = h.acts in
    let stood : slice_get (agenda plan w.programs) (count_at plan w.programs before.todo + q.place) ≡ Some q.its_turn.action =
    get_from (count_at plan w.programs before.todo) q.place (agenda plan w.programs) ∙ q.stood in
    q.primary_answered ∙ of_action w.grants.new w.fixed q.its_turn.action q.its_turn.before.store q.its_turn.before.own
    (at_place (agenda plan w.programs) (count_at plan w.programs before.todo + q.place) q.its_turn.action stood (in_agenda plan w.programs none))
