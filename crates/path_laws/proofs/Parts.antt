-- The parts of a path, one after another.
use Rattle.std.proofs.Common.{◌≡◌, ◌+◌, ◌++◌, ◌≤◌, ◌<◌, ℕ, zero, suc, Bool, true, false, cond, List, [], ◌∷◌, take, drop, length, Some, refl, sym, ap, ◌∙◌}
use Rattle.std.proofs.Common.{arith, add-one, append_assoc}
use Rattle.std.specs.Prelude.{slice_get}
use Rattle.std.proofs.lemmas.List.{append-nil, drop_all, length-drop, length-take, take-append-drop}
use Rattle.jcl_plan.specs.declared.outcome.Outcome.{Outcome}
use Rattle.jcl_plan.specs.declared.plan.JobPlan.{JobPlan}
use Rattle.jcl_plan.specs.declared.plan.StepPlan.{StepPlan}
use Rattle.jcl_meaning.specs.declared.program.Move.{Move}
use Rattle.jcl_meaning.specs.Agendas.{Action, Over, lefts_from, path_agenda, step_actions, steps_from}
use Rattle.jcl_meaning.specs.Programs.{is_iefbr14, moves_of}
use Rattle.jcl_meaning.specs.Solo.{Ran, at_start, given, run, solo_path_of}
use Rattle.jcl_meaning.specs.States.{Fixed}
use Rattle.jcl_meaning.specs.Stores.{Store}
use Rattle.jcl_meaning.specs.Views.{ran_to}
use Rattle.meaning_laws.specs.Laws.{joined}
use Rattle.meaning_laws.proofs.Splitting.{run_splits}
use Rattle.path_laws.specs.PathParts.{part_from, path_part}
use Rattle.path_laws.specs.Paths.{before_part, part_ran}

-- without programs no step has requests
pub none_asked : (program : List ℕ) → moves_of [] program ≡ []
none_asked program = either (is_iefbr14 program)
  where
    either : (b : Bool) → cond {A = List Move} b [] [] ≡ []
    either true = refl
    either false = refl

-- the front of a list, and the element behind it
pub front_length : {X : Type 0} (k : ℕ) (xs : List X) → k ≤ length xs → length (take k xs) ≡ k
front_length k xs h = omega (arith, length-take k xs)

pub front_more : {X : Type 0} (k : ℕ) (xs : List X) (x : X) (later : List X) → drop k xs ≡ x ∷ later → take (suc k) xs ≡ take k xs ++ x ∷ []
front_more zero [] x later e = absurd cc
front_more zero (y ∷ xs) x later e = let same : y ≡ x = cc in λ i. same i ∷ []
front_more (suc k) [] x later e = absurd cc
front_more (suc k) (y ∷ xs) x later e = ap (λ zs. y ∷ zs) (front_more k xs x later e)

pub rest_less : {X : Type 0} (k : ℕ) (xs : List X) (x : X) (later : List X) → drop k xs ≡ x ∷ later → drop (suc k) xs ≡ later
rest_less zero [] x later e = absurd cc
rest_less zero (y ∷ xs) x later e = let same : xs ≡ later = cc in same
rest_less (suc k) [] x later e = absurd cc
rest_less (suc k) (y ∷ xs) x later e = rest_less k xs x later e

pub is_within : {X : Type 0} (k : ℕ) (xs : List X) (x : X) (later : List X) → drop k xs ≡ x ∷ later → k < length xs
is_within k xs x later e = let size : length (drop k xs) ≡ suc (length later) = ap length e in omega (arith, length-drop k xs)

-- the actions of steps, and of steps behind them
pub steps_append : (n : ℕ) (xs ys : List StepPlan) →
    steps_from (moves_of []) n (xs ++ ys) ≡ steps_from (moves_of []) n xs ++ steps_from (moves_of []) (n + length xs) ys
steps_append n [] ys = let e : n ≡ n + 0 = omega arith in ap (λ m. steps_from (moves_of []) m ys) e
steps_append n (x ∷ xs) ys =
    let e : n + 1 + length xs ≡ n + suc (length xs) = omega arith in
    ap (λ zs. step_actions n x (moves_of [] x.program) ++ zs)
    (steps_append (n + 1) xs ys ∙ ap (λ m. steps_from (moves_of []) (n + 1) xs ++ steps_from (moves_of []) m ys) e)
    ∙ sym (append_assoc (step_actions n x (moves_of [] x.program)) (steps_from (moves_of []) (n + 1) xs) (steps_from (moves_of []) (n + suc (length xs)) ys))

-- the actions of all steps before this one
abbrev pub front_of : JobPlan → ℕ → List Action
front_of plan k = steps_from (moves_of []) 1 (take k plan.steps)

front_next : (plan : JobPlan) (k : ℕ) (step : StepPlan) (later : List StepPlan) → drop k plan.steps ≡ step ∷ later →
    front_of plan (k + 1) ≡ front_of plan k ++ step_actions (k + 1) step []
front_next plan k step later e =
    let within : k < length plan.steps = is_within k plan.steps step later e in
    let size : length (take k plan.steps) ≡ k = front_length k plan.steps (omega arith) in
    let number : 1 + length (take k plan.steps) ≡ k + 1 = omega arith in
    ap (λ n. steps_from (moves_of []) 1 (take n plan.steps)) (add-one k)
    ∙ (ap (steps_from (moves_of []) 1) (front_more k plan.steps step later e)
    ∙ (steps_append 1 (take k plan.steps) (step ∷ [])
    ∙ ap (λ xs. front_of plan k ++ xs) (append-nil (step_actions (1 + length (take k plan.steps)) step (moves_of [] step.program))
    ∙ (λ i. step_actions (number i) step (none_asked step.program i)))))

-- one part more
pub front_and_part : (plan : JobPlan) (k : ℕ) → k < length plan.steps → front_of plan (k + 1) ≡ front_of plan k ++ path_part plan k
front_and_part plan k h = by_rest (drop k plan.steps) refl
  where
    by_rest : (steps : List StepPlan) → drop k plan.steps ≡ steps → front_of plan (k + 1) ≡ front_of plan k ++ part_from k plan.steps steps
    by_rest [] e = let size : length (drop k plan.steps) ≡ 0 = ap length e in absurd (omega (arith, length-drop k plan.steps))
    by_rest (step ∷ later) e = front_next plan k step later e

-- the job's end, and all actions behind the first steps
abbrev end_of : JobPlan → List Action
end_of plan = lefts_from 1 plan.steps ++ (Over ∷ [])

abbrev pub behind_front : JobPlan → ℕ → List Action
behind_front plan k = steps_from (moves_of []) (1 + length (take k plan.steps)) (drop k plan.steps) ++ (lefts_from 1 plan.steps ++ (Over ∷ []))

pub cut_behind : (plan : JobPlan) (k : ℕ) → path_agenda plan ≡ front_of plan k ++ behind_front plan k
cut_behind plan k =
    ap (λ steps. steps_from (moves_of []) 1 steps ++ end_of plan) (sym (take-append-drop k plan.steps))
    ∙ (ap (λ actions. actions ++ end_of plan) (steps_append 1 (take k plan.steps) (drop k plan.steps))
    ∙ append_assoc (front_of plan k) (steps_from (moves_of []) (1 + length (take k plan.steps)) (drop k plan.steps)) (end_of plan))

no_steps_left : (plan : JobPlan) (k : ℕ) → drop k plan.steps ≡ [] → path_agenda plan ≡ front_of plan k ++ end_of plan
no_steps_left plan k e =
    cut_behind plan k ∙ ap (λ steps. front_of plan k ++ (steps_from (moves_of []) (1 + length (take k plan.steps)) steps ++ end_of plan)) e

steps_left : (plan : JobPlan) (k : ℕ) (step : StepPlan) (later : List StepPlan) → drop k plan.steps ≡ step ∷ later →
    path_agenda plan ≡ front_of plan k ++ (step_actions (k + 1) step [] ++ (steps_from (moves_of []) (k + 1 + 1) later ++ end_of plan))
steps_left plan k step later e =
    let within : k < length plan.steps = is_within k plan.steps step later e in
    let size : length (take k plan.steps) ≡ k = front_length k plan.steps (omega arith) in
    let number : 1 + length (take k plan.steps) ≡ k + 1 = omega arith in
    let actions : behind_front plan k ≡ (step_actions (k + 1) step [] ++ steps_from (moves_of []) (k + 1 + 1) later) ++ end_of plan =
    (λ i. steps_from (moves_of []) (number i) (e i) ++ end_of plan)
    ∙ (λ i. (step_actions (k + 1) step (none_asked step.program i) ++ steps_from (moves_of []) (k + 1 + 1) later) ++ end_of plan) in
    cut_behind plan k
    ∙ ap (λ zs. front_of plan k ++ zs) (actions ∙ append_assoc (step_actions (k + 1) step []) (steps_from (moves_of []) (k + 1 + 1) later) (end_of plan))

-- a whole path, cut before a part
pub record CutAt (plan : JobPlan) (k : ℕ) : Type 0 where
  pub rest : List Action
  pub whole : path_agenda plan ≡ front_of plan k ++ (path_part plan k ++ rest)

pub cut_at_part : (plan : JobPlan) (k : ℕ) → CutAt plan k
cut_at_part plan k = let cut = by_rest (drop k plan.steps) refl in record { rest = cut.0; whole = cut.1 }
  where
    by_rest : (steps : List StepPlan) → drop k plan.steps ≡ steps →
        (rest : List Action) × (path_agenda plan ≡ front_of plan k ++ (part_from k plan.steps steps ++ rest))
    by_rest [] e = ([], no_steps_left plan k e ∙ ap (λ zs. front_of plan k ++ zs) (sym (append-nil (end_of plan))))
    by_rest (step ∷ later) e = (steps_from (moves_of []) (k + 1 + 1) later ++ end_of plan, steps_left plan k step later e)

pub path_goes_on : (fixed : Fixed) (plan : JobPlan) (store : Store) (k : ℕ) (outcomes : List Outcome) → k < length plan.steps →
    ran_to fixed plan store (k + 1) outcomes ≡ joined (before_part plan k) (ran_to fixed plan store k outcomes) (part_ran fixed plan store k outcomes)
path_goes_on fixed plan store k outcomes h =
    ap (λ actions. run fixed actions (at_start store (given outcomes))) (front_and_part plan k h)
    ∙ run_splits fixed (front_of plan k) (path_part plan k) (at_start store (given outcomes))

-- the job's end is the last part
pub last_part : (plan : JobPlan) → path_part plan (length plan.steps) ≡ lefts_from 1 plan.steps ++ (Over ∷ [])
last_part plan = ap (part_from (length plan.steps) plan.steps) (drop_all (length plan.steps) plan.steps (omega arith))

pub path_ends : (fixed : Fixed) (plan : JobPlan) (store : Store) (outcomes : List Outcome) →
    solo_path_of fixed plan store outcomes
    ≡ joined (before_part plan (length plan.steps)) (ran_to fixed plan store (length plan.steps) outcomes)
    (part_ran fixed plan store (length plan.steps) outcomes)
path_ends fixed plan store outcomes =
    ap (λ actions. run fixed actions (at_start store (given outcomes)))
    (no_steps_left plan (length plan.steps) (drop_all (length plan.steps) plan.steps (omega arith))
    ∙ ap (λ zs. front_of plan (length plan.steps) ++ zs) (sym (last_part plan)))
    ∙ run_splits fixed (front_of plan (length plan.steps)) (path_part plan (length plan.steps)) (at_start store (given outcomes))

pub path_begins : (fixed : Fixed) (plan : JobPlan) (store : Store) (k : ℕ) (outcomes : List Outcome) →
    (later : Ran) × (solo_path_of fixed plan store outcomes ≡ joined (before_part plan k) (ran_to fixed plan store k outcomes) later)
path_begins fixed plan store k outcomes =
    let cut = cut_at_part plan k in (
      run fixed (path_part plan k ++ cut.rest) (ran_to fixed plan store k outcomes).state,
      ap (λ actions. run fixed actions (at_start store (given outcomes))) cut.whole
          ∙ run_splits fixed (front_of plan k) (path_part plan k ++ cut.rest) (at_start store (given outcomes)),
    )

-- an element of two lists one after another
pub get_behind : {X : Type 0} (xs ys : List X) (at : ℕ) → slice_get (xs ++ ys) (length xs + at) ≡ slice_get ys at
get_behind [] ys at = let e : 0 + at ≡ at = omega arith in ap (slice_get ys) e
get_behind (x ∷ xs) ys at =
    let e : suc (length xs) + at ≡ suc (length xs + at) = omega arith in
    ap (slice_get (x ∷ (xs ++ ys))) e ∙ get_behind xs ys at

pub get_in_front : {X : Type 0} (xs ys : List X) (at : ℕ) (x : X) → slice_get xs at ≡ Some x → slice_get (xs ++ ys) at ≡ Some x
get_in_front [] ys at x e = absurd cc
get_in_front (y ∷ xs) ys zero x e = e
get_in_front (y ∷ xs) ys (suc at) x e = get_in_front xs ys at x e

pub agenda_has : (plan : JobPlan) (k at : ℕ) (action : Action) → k ≤ length plan.steps → slice_get (path_part plan k) at ≡ Some action →
    slice_get (path_agenda plan) (before_part plan k + at) ≡ Some action
agenda_has plan k at action h e =
    let cut = cut_at_part plan k in
    ap (λ actions. slice_get actions (before_part plan k + at)) cut.whole
    ∙ (get_behind (front_of plan k) (path_part plan k ++ cut.rest) at ∙ get_in_front (path_part plan k) cut.rest at action e)
