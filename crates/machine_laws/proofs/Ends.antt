-- END is the last line of a job's solo meaning, and stands there once.
use Rattle.std.proofs.Common.{◌≡◌, ◌+◌, ℕ, Bool, true, false, cond, List, [], ◌∷◌, ◌++◌, append_assoc, refl, sym, ap, subst, ◌∙◌}
use Rattle.std.specs.Prelude.{◌||◌}
use Rattle.std.specs.List.{list_any}
use Rattle.std.proofs.lemmas.Bool.{or_parts}
use Rattle.std.proofs.lemmas.List.Folds.{list_any-append}
use Rattle.jcl_plan.specs.declared.entry.JobLine.{JobLine}
use Rattle.jcl_plan.specs.declared.entry.JobLine.TheVariants as line
use Rattle.jcl_plan.specs.declared.plan.DdPlan.{DdPlan}
use Rattle.jcl_plan.specs.declared.plan.JobPlan.{JobPlan}
use Rattle.jcl_plan.specs.declared.plan.StepPlan.{StepPlan}
use Rattle.jcl_meaning.specs.declared.program.Move.{Move}
use Rattle.jcl_meaning.specs.declared.program.SoloProgram.{SoloProgram}
use Rattle.jcl_meaning.specs.Acts.{act}
use Rattle.jcl_meaning.specs.Agendas.{Action, Finish, Left, Over, agenda, disposes_from, left_by, lefts_from, lefts_in, moves_from, step_actions, steps_from, takes_from}
use Rattle.jcl_meaning.specs.Programs.{moves_of}
use Rattle.jcl_meaning.specs.Solo.{run}
use Rattle.jcl_meaning.specs.States.{Fixed, State}
use Rattle.world_meaning.specs.Headlines.{is_end}
use Rattle.law_core.proofs.PlainLines.{is_last, is_of_admission, is_special, plain_act}

-- no action before the last is the job's end
none_last : (xs ys : List Action) → list_any is_last xs ≡ false → list_any is_last ys ≡ false → list_any is_last (xs ++ ys) ≡ false
none_last xs ys a b = list_any-append is_last xs ys ∙ (λ i. a i || b i)

no_take : (n dd : ℕ) (ds : List DdPlan) → list_any is_last (takes_from n dd ds) ≡ false
no_take n dd [] = refl
no_take n dd (d ∷ ds) = no_take n (dd + 1) ds

no_move : (step : StepPlan) (ms : List Move) → list_any is_last (moves_from step ms) ≡ false
no_move step [] = refl
no_move step (m ∷ ms) = no_move step ms

no_dispose : (n dd : ℕ) (ds : List DdPlan) → list_any is_last (disposes_from n dd ds) ≡ false
no_dispose n dd [] = refl
no_dispose n dd (d ∷ ds) = no_dispose n (dd + 1) ds

no_step : (n : ℕ) (step : StepPlan) (moves : List Move) → list_any is_last (step_actions n step moves) ≡ false
no_step n step moves =
    none_last (takes_from n 1 step.dds) (moves_from step moves ++ (Finish n ∷ disposes_from n 1 step.dds)) (no_take n 1 step.dds)
    (none_last (moves_from step moves) (Finish n ∷ disposes_from n 1 step.dds) (no_move step moves) (no_dispose n 1 step.dds))

no_steps : (moves : List ℕ → List Move) (n : ℕ) (steps : List StepPlan) → list_any is_last (steps_from moves n steps) ≡ false
no_steps moves n [] = refl
no_steps moves n (step ∷ steps) =
    none_last (step_actions n step (moves step.program)) (steps_from moves (n + 1) steps) (no_step n step (moves step.program)) (no_steps moves (n + 1) steps)

no_left_if : (step dd : ℕ) (d : DdPlan) (b : Bool) → list_any is_last (cond b (Left step dd d ∷ []) []) ≡ false
no_left_if step dd d true = refl
no_left_if step dd d false = refl

no_left_in : (step dd : ℕ) (ds : List DdPlan) → list_any is_last (lefts_in step dd ds) ≡ false
no_left_in step dd [] = refl
no_left_in step dd (d ∷ ds) = none_last (left_by step dd d) (lefts_in step (dd + 1) ds) (no_left_if step dd d _) (no_left_in step (dd + 1) ds)

no_left : (n : ℕ) (steps : List StepPlan) → list_any is_last (lefts_from n steps) ≡ false
no_left n [] = refl
no_left n (step ∷ steps) = none_last (lefts_in n 1 step.dds) (lefts_from (n + 1) steps) (no_left_in n 1 step.dds) (no_left (n + 1) steps)

-- a line that is not special is no END
no_end : (lines : List JobLine) → list_any is_special lines ≡ false → list_any is_end lines ≡ false
no_end [] none = refl
no_end (l ∷ lines) none =
    let both = or_parts (is_special l) (list_any is_special lines) none in
    let first = or_parts (is_end l) (is_of_admission l) both.0 in
    λ i. first.0 i || no_end lines both.1 i

record EndsOnce (lines : List JobLine) : Type 0 where
  front : List JobLine
  is : lines ≡ front ++ line.End ∷ []
  none : list_any is_end front ≡ false

ends_once : (fixed : Fixed) (actions : List Action) → list_any is_last actions ≡ false → (s : State) → EndsOnce (run fixed (actions ++ Over ∷ []) s).lines
unfolding run act
ends_once fixed [] none s = record { front = []; is = refl; none = refl }
ends_once fixed (a ∷ actions) none s =
    let both = or_parts (is_last a) (list_any is_last actions) none in
    let more = ends_once fixed actions both.1 (act fixed a s).state in
    record {
      front = (act fixed a s).lines ++ more.front;
      is = ap (λ (l : List JobLine). (act fixed a s).lines ++ l) more.is ∙ sym (append_assoc (act fixed a s).lines more.front (line.End ∷ []));
      none = list_any-append is_end (act fixed a s).lines more.front ∙ (λ i. no_end (act fixed a s).lines (plain_act fixed a s both.0).plain i || more.none i);
    }

solo_ends : (fixed : Fixed) (plan : JobPlan) (programs : List SoloProgram) (s : State) → EndsOnce (run fixed (agenda plan programs) s).lines
solo_ends fixed plan programs s =
    subst (λ (actions : List Action). EndsOnce (run fixed actions s).lines)
    (append_assoc (steps_from (moves_of programs) 1 plan.steps) (lefts_from 1 plan.steps) (Over ∷ []))
    (ends_once fixed (steps_from (moves_of programs) 1 plan.steps ++ lefts_from 1 plan.steps)
    (none_last (steps_from (moves_of programs) 1 plan.steps) (lefts_from 1 plan.steps) (no_steps (moves_of programs) 1 plan.steps) (no_left 1 plan.steps)) s)

-- what stands behind a front with END is nothing
none_behind : (front p q : List JobLine) → list_any is_end front ≡ false → list_any is_end p ≡ true → p ++ q ≡ front ++ line.End ∷ [] → q ≡ []
none_behind [] [] q none some is = absurd cc
none_behind [] (l ∷ p) q none some is =
    let rest : p ++ q ≡ [] = cc in none_of p rest
  where
    none_of : (p : List JobLine) → p ++ q ≡ [] → q ≡ []
    none_of [] e = e
    none_of (x ∷ p) e = absurd cc
none_behind (f ∷ front) [] q none some is = absurd cc
none_behind (f ∷ front) (l ∷ p) q none some is =
    let both = or_parts (is_end f) (list_any is_end front) none in
    let same : l ≡ f = cc in
    let rest : p ++ q ≡ front ++ line.End ∷ [] = cc in
    none_behind front p q both.1 (later (is_end l) (ap is_end same ∙ both.0) some) rest
  where
    later : (b : Bool) → b ≡ false → (b || list_any is_end p) ≡ true → list_any is_end p ≡ true
    later false e h = h
    later true e h = absurd cc

pub end_is_last : (fixed : Fixed) (plan : JobPlan) (programs : List SoloProgram) (s : State) (p q : List JobLine) →
    p ++ q ≡ (run fixed (agenda plan programs) s).lines → list_any is_end p ≡ true → q ≡ []
end_is_last fixed plan programs s p q is some =
    let e = solo_ends fixed plan programs s in none_behind e.front p q e.none some (is ∙ e.is)
