-- Actions carried out one after another.
use Rattle.std.proofs.Common.{◌≡◌, ◌+◌, ◌-◌, ◌<◌, ◌==◌, ◌&&◌, ◌++◌, ◌∷◌, ℕ, suc, Bool, true, false, List, [], Option, Some, None, length, map, take, get_or, refl, sym, ap, ◌∙◌, subst, append_assoc, arith}
use Rattle.std.proofs.Math.Dec.{eqb-suc-zero}
use Rattle.std.proofs.lemmas.List.{append-nil, length-map, length-take-le, take_more}
use Rattle.jcl_plan.specs.declared.fault.Fault.{Fault}
use Rattle.jcl_plan.specs.declared.plan.DdPlan.{DdPlan}
use Rattle.jcl_plan.specs.declared.plan.StepPlan.{StepPlan}
use Rattle.jcl_meaning.specs.declared.program.Move.{Move}
use Rattle.job_text.specs.Places.{dd_at, step_at}
use Rattle.solo_core.specs.declared.runner.Runner.{Runner}
use Rattle.jcl_meaning.specs.Acts.{act}
use Rattle.jcl_meaning.specs.Agendas.{Action, Take, Ask, Receive, Dispose, Left, disposes_from, left_by, lefts_from, lefts_in, moves_from, step_actions, steps_from, takes_from}
use Rattle.jcl_meaning.specs.Plans.{passes}
use Rattle.disp_core.specs.Courses.{fixed_by}
use Rattle.solo_core.specs.Meets.{faults_of, meets_in}
use Rattle.solo_core.specs.Runners.{Acts, Does, done_by, ran_by, state_by}
use Rattle.jcl_meaning.specs.Solo.{Ran, later, met_first, run}
use Rattle.jcl_meaning.specs.States.{Fixed, State}

-- no action
pub acts_none : (a : Runner) → Acts [] a a
unfolding run
acts_none a = record { state = refl; lines = sym (append-nil a.course.lines); meets = sym (append-nil a.meets); keeps = record { given = refl; volumes = refl } }

-- one action
pub acts_one : (x : Action) (a b : Runner) → Does x a b → Acts (x ∷ []) a b
unfolding run
acts_one x a b h = record {
  state = h.state;
  lines = h.lines ∙ ap (λ l. a.course.lines ++ l) (sym (append-nil (done_by a x).lines));
  meets = h.meets;
  keeps = h.keeps;
}

-- a run of more actions
pub run_state-append : (f : Fixed) (xs ys : List Action) (s : State) → (run f (xs ++ ys) s).state ≡ (run f ys (run f xs s).state).state
unfolding run
run_state-append f [] ys s = refl
run_state-append f (x ∷ xs) ys s = run_state-append f xs ys (act f x s).state

pub run_lines-append : (f : Fixed) (xs ys : List Action) (s : State) → (run f (xs ++ ys) s).lines ≡ (run f xs s).lines ++ (run f ys (run f xs s).state).lines
unfolding run
run_lines-append f [] ys s = refl
run_lines-append f (x ∷ xs) ys s =
    ap (λ l. (act f x s).lines ++ l) (run_lines-append f xs ys (act f x s).state)
    ∙ sym (append_assoc (act f x s).lines (run f xs (act f x s).state).lines (run f ys (run f xs (act f x s).state).state).lines)

pub meets_in-append : (f : Fixed) (xs ys : List Action) (s : State) → meets_in f (xs ++ ys) s ≡ meets_in f xs s ++ meets_in f ys (run f xs s).state
unfolding run
meets_in-append f [] ys s = refl
meets_in-append f (x ∷ xs) ys s = ap (λ l. (act f x s).meets ∷ l) (meets_in-append f xs ys (act f x s).state)

-- the faults of a run are those that its actions met
pub run_faults : (f : Fixed) (xs : List Action) (s : State) → (run f xs s).faults ≡ faults_of (meets_in f xs s)
unfolding run
run_faults f [] s = refl
run_faults f (x ∷ xs) s = ap (λ l. met_first (act f x s).meets (map later l)) (run_faults f xs (act f x s).state)

-- these actions, and then those
pub acts_more : (xs ys : List Action) (a b c : Runner) → Acts xs a b → Acts ys b c → Acts (xs ++ ys) a c
acts_more xs ys a b c p q =
    let f : Fixed = fixed_by a.given in
    let s : State = state_by a in
    let moved : ran_by b ys ≡ run f ys (run f xs s).state = λ i. run (fixed_by (p.keeps.given i)) ys (p.state i) in
    record {
      state = q.state ∙ ap (λ (r : Ran). r.state) moved ∙ sym (run_state-append f xs ys s);
      lines = q.lines ∙ (λ i. p.lines i ++ (moved i).lines)
          ∙ append_assoc a.course.lines (run f xs s).lines (run f ys (run f xs s).state).lines ∙ ap (λ l. a.course.lines ++ l) (sym (run_lines-append f xs ys s));
      meets = q.meets ∙ (λ i. p.meets i ++ meets_in (fixed_by (p.keeps.given i)) ys (p.state i))
          ∙ append_assoc a.meets (meets_in f xs s) (meets_in f ys (run f xs s).state) ∙ ap (λ l. a.meets ++ l) (sym (meets_in-append f xs ys s));
      keeps = record { given = q.keeps.given ∙ p.keeps.given; volumes = q.keeps.volumes ∙ p.keeps.volumes };
    }

-- one DD more
pub takes-snoc : (n k : ℕ) (xs : List DdPlan) (d : DdPlan) → takes_from n k (xs ++ d ∷ []) ≡ takes_from n k xs ++ Take n (k + length xs) d ∷ []
takes-snoc n k [] d = ap (λ m. Take n m d ∷ []) (let e : k ≡ k + 0 = omega arith in e)
takes-snoc n k (x ∷ xs) d = ap (λ l. Take n k x ∷ l) (takes-snoc n (k + 1) xs d
    ∙ ap (λ m. takes_from n (k + 1) xs ++ Take n m d ∷ []) (let e : k + 1 + length xs ≡ k + suc (length xs) = omega arith in e))

pub disposes-snoc : (n k : ℕ) (xs : List DdPlan) (d : DdPlan) → disposes_from n k (xs ++ d ∷ []) ≡ disposes_from n k xs ++ Dispose n (k + length xs) d ∷ []
disposes-snoc n k [] d = ap (λ m. Dispose n m d ∷ []) (let e : k ≡ k + 0 = omega arith in e)
disposes-snoc n k (x ∷ xs) d = ap (λ l. Dispose n k x ∷ l) (disposes-snoc n (k + 1) xs d
    ∙ ap (λ m. disposes_from n (k + 1) xs ++ Dispose n m d ∷ []) (let e : k + 1 + length xs ≡ k + suc (length xs) = omega arith in e))

pub moves-snoc : (step : StepPlan) (xs : List Move) (m : Move) → moves_from step (xs ++ m ∷ []) ≡ moves_from step xs ++ Ask step m ∷ Receive ∷ []
moves-snoc step [] m = refl
moves-snoc step (x ∷ xs) m = ap (λ l. Ask step x ∷ Receive ∷ l) (moves-snoc step xs m)

pub lefts_in-snoc : (n k : ℕ) (xs : List DdPlan) (d : DdPlan) → lefts_in n k (xs ++ d ∷ []) ≡ lefts_in n k xs ++ left_by n (k + length xs) d
lefts_in-snoc n k [] d = append-nil (left_by n k d) ∙ ap (λ m. left_by n m d) (let e : k ≡ k + 0 = omega arith in e)
lefts_in-snoc n k (x ∷ xs) d = ap (λ l. left_by n k x ++ l) (lefts_in-snoc n (k + 1) xs d)
    ∙ sym (append_assoc (left_by n k x) (lefts_in n (k + 1) xs) (left_by n (k + 1 + length xs) d))
    ∙ ap (λ m. (left_by n k x ++ lefts_in n (k + 1) xs) ++ left_by n m d) (let e : k + 1 + length xs ≡ k + suc (length xs) = omega arith in e)

pub lefts_from-snoc : (n : ℕ) (xs : List StepPlan) (step : StepPlan) → lefts_from n (xs ++ step ∷ []) ≡ lefts_from n xs ++ lefts_in (n + length xs) 1 step.dds
lefts_from-snoc n [] step = append-nil (lefts_in n 1 step.dds) ∙ ap (λ m. lefts_in m 1 step.dds) (let e : n ≡ n + 0 = omega arith in e)
lefts_from-snoc n (x ∷ xs) step = ap (λ l. lefts_in n 1 x.dds ++ l) (lefts_from-snoc (n + 1) xs step)
    ∙ sym (append_assoc (lefts_in n 1 x.dds) (lefts_from (n + 1) xs) (lefts_in (n + 1 + length xs) 1 step.dds))
    ∙ ap (λ m. (lefts_in n 1 x.dds ++ lefts_from (n + 1) xs) ++ lefts_in m 1 step.dds) (let e : n + 1 + length xs ≡ n + suc (length xs) = omega arith in e)

pub steps_from-snoc : (moves : List ℕ → List Move) (n : ℕ) (xs : List StepPlan) (step : StepPlan) →
    steps_from moves n (xs ++ step ∷ []) ≡ steps_from moves n xs ++ step_actions (n + length xs) step (moves step.program)
steps_from-snoc moves n [] step = append-nil (step_actions n step (moves step.program)) ∙ ap (λ m. step_actions m step (moves step.program)) (let e : n ≡ n + 0 = omega arith in e)
steps_from-snoc moves n (x ∷ xs) step = ap (λ l. step_actions n x (moves x.program) ++ l) (steps_from-snoc moves (n + 1) xs step)
    ∙ sym (append_assoc (step_actions n x (moves x.program)) (steps_from moves (n + 1) xs) (step_actions (n + 1 + length xs) step (moves step.program)))
    ∙ ap (λ m. (step_actions n x (moves x.program) ++ steps_from moves (n + 1) xs) ++ step_actions m step (moves step.program)) (let e : n + 1 + length xs ≡ n + suc (length xs) = omega arith in e)

-- the front of a list, one element longer
pub front_more : {X : Type 0} (xs : List X) (i : ℕ) (x : X) → i < length xs → x ≡ get_or xs i x → take (i + 1) xs ≡ take i xs ++ x ∷ []
front_more xs i x h e = take_more xs i x h ∙ ap (λ y. take i xs ++ y ∷ []) (sym e)

pub acts_joined : (zs xs ys : List Action) (a b c : Runner) → zs ≡ xs ++ ys → Acts xs a b → Acts ys b c → Acts zs a c
acts_joined zs xs ys a b c e p q = subst (λ (l : List Action). Acts l a c) (sym e) (acts_more xs ys a b c p q)

-- a DD that passes has one action at the end, and another none
pub left_none : (n dd : ℕ) (d : DdPlan) → passes d.kind ≡ false → left_by n dd d ≡ []
left_none n dd d h = rw h refl

pub left_some : (n dd : ℕ) (d : DdPlan) → passes d.kind ≡ true → left_by n dd d ≡ Left n dd d ∷ []
left_some n dd d h = rw h refl

-- a front's length, counted from 1
pub front_number : {X : Type 0} (xs : List X) (i : ℕ) → i < length xs → 1 + length (take i xs) ≡ i + 1
front_number xs i h = let e : length (take i xs) ≡ i = length-take-le i xs (omega arith) in omega (arith, e)

-- the length of a front
pub front_length : {X : Type 0} (xs : List X) (i : ℕ) → i < length xs → length (take i xs) ≡ i
front_length xs i h = length-take-le i xs (omega arith)

-- the front of a list, one element longer, whatever stands for an element that is not there
pub front_with : {X : Type 0} (xs : List X) (i : ℕ) (x : X) → i < length xs → take (i + 1) xs ≡ take i xs ++ get_or xs i x ∷ []
front_with xs i x h = take_more xs i x h

-- a step and a DD by their numbers from 1
one_less : (k : ℕ) → k + 1 - 1 ≡ k
one_less k = omega arith

pub same_step : (steps : List StepPlan) (k : ℕ) → step_at steps (k + 1 - 1) ≡ step_at steps k
same_step steps k = ap (step_at steps) (one_less k)

pub same_dd : (steps : List StepPlan) (k d : ℕ) → dd_at (step_at steps (k + 1 - 1)).dds (d + 1 - 1) ≡ dd_at (step_at steps k).dds d
same_dd steps k d = ap (λ (s : StepPlan). dd_at s.dds (d + 1 - 1)) (same_step steps k) ∙ ap (dd_at (step_at steps k).dds) (one_less d)
