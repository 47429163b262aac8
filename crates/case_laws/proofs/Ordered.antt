-- The takes of an agenda are in the order of steps and DDs, each DD once.
use Rattle.std.proofs.Common.{◌≡◌, ◌≤◌, ◌<◌, ◌+◌, ◌++◌, ◌⊎◌, inl, inr, ℕ, zero, suc, Bool, true, false, cond, List, [], ◌∷◌, All, append_assoc, arith, drop, refl, sym, ap, ◌∙◌, subst}
use Rattle.std.proofs.lemmas.List.Elements.{All-cons, All-nil, All-weaker}
use Rattle.jcl_plan.specs.declared.plan.DdPlan.{DdPlan}
use Rattle.jcl_plan.specs.declared.plan.JobPlan.{JobPlan}
use Rattle.jcl_plan.specs.declared.plan.StepPlan.{StepPlan}
use Rattle.jcl_meaning.specs.declared.program.Move.{Move}
use Rattle.jcl_meaning.specs.declared.program.SoloProgram.{SoloProgram}
use Rattle.jcl_meaning.specs.Agendas.{Action, Ask, Dispose, Finish, Left, Over, Receive, Start, Take, agenda, disposes_from, left_by, lefts_from, lefts_in, moves_from, step_actions, steps_from, takes_from}
use Rattle.jcl_meaning.specs.Plans.{passes}
use Rattle.jcl_meaning.specs.Programs.{moves_of}

-- a take is of a DD from this one on
abbrev pub AtLeast : ℕ → ℕ → Action → Type 0
AtLeast n dd (Start m step) = Unit {0}
AtLeast n dd (Take m e d) = (n < m) ⊎ ((n ≡ m) × (dd ≤ e))
AtLeast n dd (Ask step move) = Unit {0}
AtLeast n dd Receive = Unit {0}
AtLeast n dd (Finish m) = Unit {0}
AtLeast n dd (Dispose m e d) = Unit {0}
AtLeast n dd (Left m e d) = Unit {0}
AtLeast n dd Over = Unit {0}

-- behind a take are those of later DDs
abbrev pub IsAhead : Action → List Action → Type 0
IsAhead (Start n step) rest = Unit {0}
IsAhead (Take n dd d) rest = All (AtLeast n (dd + 1)) rest
IsAhead (Ask step move) rest = Unit {0}
IsAhead Receive rest = Unit {0}
IsAhead (Finish n) rest = Unit {0}
IsAhead (Dispose n dd d) rest = Unit {0}
IsAhead (Left n dd d) rest = Unit {0}
IsAhead Over rest = Unit {0}

abbrev pub AreOrdered : List Action → Type 0
AreOrdered [] = Unit {0}
AreOrdered (a ∷ rest) = IsAhead a rest × AreOrdered rest

pub ordered_behind : (n : ℕ) (actions : List Action) → AreOrdered actions → AreOrdered (drop n actions)
ordered_behind zero actions o = o
ordered_behind (suc n) [] o = o
ordered_behind (suc n) (a ∷ actions) o = ordered_behind n actions o.1

-- in order, from a DD on
abbrev From : ℕ → ℕ → List Action → Type 0
From n dd actions = AreOrdered actions × All (AtLeast n dd) actions

next_dd : (n dd : ℕ) (a : Action) → AtLeast n (dd + 1) a → AtLeast n dd a
next_dd n dd (Start m step) h = tt
next_dd n dd (Take m e d) (inl less) = inl less
next_dd n dd (Take m e d) (inr both) = inr (both.0, (let le : dd + 1 ≤ e = both.1 in omega arith))
next_dd n dd (Ask step move) h = tt
next_dd n dd Receive h = tt
next_dd n dd (Finish m) h = tt
next_dd n dd (Dispose m e d) h = tt
next_dd n dd (Left m e d) h = tt
next_dd n dd Over h = tt

next_step : (n dd : ℕ) (a : Action) → AtLeast (n + 1) 1 a → AtLeast n dd a
next_step n dd (Start m step) h = tt
next_step n dd (Take m e d) (inl less) = inl (omega (arith, less))
next_step n dd (Take m e d) (inr both) = inl (let is : n + 1 ≡ m = both.0 in omega arith)
next_step n dd (Ask step move) h = tt
next_step n dd Receive h = tt
next_step n dd (Finish m) h = tt
next_step n dd (Dispose m e d) h = tt
next_step n dd (Left m e d) h = tt
next_step n dd Over h = tt

takes_ordered : (n dd : ℕ) (ds : List DdPlan) (rest : List Action) → From (n + 1) 1 rest → From n dd (takes_from n dd ds ++ rest)
takes_ordered n dd [] rest o = (o.0, All-weaker (AtLeast (n + 1) 1) (AtLeast n dd) (next_step n dd) rest o.1)
takes_ordered n dd (d ∷ ds) rest o =
    let later : From n (dd + 1) (takes_from n (dd + 1) ds ++ rest) = takes_ordered n (dd + 1) ds rest o in (
      (later.1, later.0),
      All-cons (AtLeast n dd) (Take n dd d) (takes_from n (dd + 1) ds ++ rest) (inr (refl, omega arith))
          (All-weaker (AtLeast n (dd + 1)) (AtLeast n dd) (next_dd n dd) (takes_from n (dd + 1) ds ++ rest) later.1),
    )

moves_ordered : (n dd : ℕ) (step : StepPlan) (moves : List Move) (rest : List Action) → From n dd rest → From n dd (moves_from step moves ++ rest)
moves_ordered n dd step [] rest o = o
moves_ordered n dd step (m ∷ moves) rest o =
    let later : From n dd (moves_from step moves ++ rest) = moves_ordered n dd step moves rest o in (
      (tt, (tt, later.0)),
      All-cons (AtLeast n dd) (Ask step m) (Receive ∷ (moves_from step moves ++ rest)) tt
          (All-cons (AtLeast n dd) Receive (moves_from step moves ++ rest) tt later.1),
    )

disposes_ordered : (n dd m e : ℕ) (ds : List DdPlan) (rest : List Action) → From n dd rest → From n dd (disposes_from m e ds ++ rest)
disposes_ordered n dd m e [] rest o = o
disposes_ordered n dd m e (d ∷ ds) rest o =
    let later : From n dd (disposes_from m (e + 1) ds ++ rest) = disposes_ordered n dd m (e + 1) ds rest o in
    ((tt, later.0), All-cons (AtLeast n dd) (Dispose m e d) (disposes_from m (e + 1) ds ++ rest) tt later.1)

finish_ordered : (n dd m : ℕ) (rest : List Action) → From n dd rest → From n dd (Finish m ∷ rest)
finish_ordered n dd m rest o = ((tt, o.0), All-cons (AtLeast n dd) (Finish m) rest tt o.1)

pub in_a_row : (n : ℕ) (step : StepPlan) (moves : List Move) (rest : List Action) →
    step_actions n step moves ++ rest
    ≡ Start n step ∷ (takes_from n 1 step.dds ++ (moves_from step moves ++ (Finish n ∷ (disposes_from n 1 step.dds ++ rest))))
in_a_row n step moves rest =
    ap (λ (xs : List Action). Start n step ∷ xs)
    (append_assoc (takes_from n 1 step.dds) (moves_from step moves ++ (Finish n ∷ disposes_from n 1 step.dds)) rest
    ∙ ap (λ (xs : List Action). takes_from n 1 step.dds ++ xs) (append_assoc (moves_from step moves) (Finish n ∷ disposes_from n 1 step.dds) rest))

step_ordered : (n : ℕ) (step : StepPlan) (moves : List Move) (rest : List Action) → From (n + 1) 1 rest → From n 1 (step_actions n step moves ++ rest)
step_ordered n step moves rest o =
    let inner : From n 1 (takes_from n 1 step.dds ++ (moves_from step moves ++ (Finish n ∷ (disposes_from n 1 step.dds ++ rest)))) =
    takes_ordered n 1 step.dds (moves_from step moves ++ (Finish n ∷ (disposes_from n 1 step.dds ++ rest)))
    (moves_ordered (n + 1) 1 step moves (Finish n ∷ (disposes_from n 1 step.dds ++ rest))
    (finish_ordered (n + 1) 1 n (disposes_from n 1 step.dds ++ rest) (disposes_ordered (n + 1) 1 n 1 step.dds rest o))) in
    subst (From n 1) (sym (in_a_row n step moves rest)) (
      (tt, inner.0),
      All-cons (AtLeast n 1) (Start n step) (takes_from n 1 step.dds ++ (moves_from step moves ++ (Finish n ∷ (disposes_from n 1 step.dds ++ rest)))) tt
          inner.1,
    )

steps_ordered : (moves : List ℕ → List Move) (n : ℕ) (steps : List StepPlan) (rest : List Action) → ((m : ℕ) → From m 1 rest) →
    From n 1 (steps_from moves n steps ++ rest)
steps_ordered moves n [] rest o = o n
steps_ordered moves n (step ∷ steps) rest o =
    subst (From n 1) (sym (append_assoc (step_actions n step (moves step.program)) (steps_from moves (n + 1) steps) rest))
    (step_ordered n step (moves step.program) (steps_from moves (n + 1) steps ++ rest) (steps_ordered moves (n + 1) steps rest o))

left_ordered : (b : Bool) (k m e : ℕ) (d : DdPlan) (rest : List Action) → From k 1 rest → From k 1 (cond b (Left m e d ∷ []) [] ++ rest)
left_ordered true k m e d rest o = ((tt, o.0), All-cons (AtLeast k 1) (Left m e d) rest tt o.1)
left_ordered false k m e d rest o = o

lefts_in_ordered : (k m e : ℕ) (ds : List DdPlan) (rest : List Action) → From k 1 rest → From k 1 (lefts_in m e ds ++ rest)
lefts_in_ordered k m e [] rest o = o
lefts_in_ordered k m e (d ∷ ds) rest o =
    subst (From k 1) (sym (append_assoc (left_by m e d) (lefts_in m (e + 1) ds) rest))
    (left_ordered (passes d.kind) k m e d (lefts_in m (e + 1) ds ++ rest) (lefts_in_ordered k m (e + 1) ds rest o))

lefts_ordered : (k m : ℕ) (steps : List StepPlan) (rest : List Action) → From k 1 rest → From k 1 (lefts_from m steps ++ rest)
lefts_ordered k m [] rest o = o
lefts_ordered k m (step ∷ steps) rest o =
    subst (From k 1) (sym (append_assoc (lefts_in m 1 step.dds) (lefts_from (m + 1) steps) rest))
    (lefts_in_ordered k m 1 step.dds (lefts_from (m + 1) steps ++ rest) (lefts_ordered k (m + 1) steps rest o))

over_ordered : (k : ℕ) → From k 1 (Over ∷ [])
over_ordered k = ((tt, tt), All-cons (AtLeast k 1) Over [] tt (All-nil (AtLeast k 1)))

pub agenda_ordered : (plan : JobPlan) (programs : List SoloProgram) → AreOrdered (agenda plan programs)
agenda_ordered plan programs =
    (steps_ordered (moves_of programs) 1 plan.steps (lefts_from 1 plan.steps ++ (Over ∷ []))
    (λ k. lefts_ordered k 1 plan.steps (Over ∷ []) (over_ordered k))).0
