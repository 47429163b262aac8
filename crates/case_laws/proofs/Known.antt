-- What is known of the actions of an agenda: its takes are of the plan's DDs, and its last is the job's end.
use Rattle.std.proofs.Common.{◌≡◌, ◌<◌, ◌+◌, ◌-◌, ◌++◌, ℕ, zero, suc, Bool, true, false, cond, List, [], ◌∷◌, Option, Some, None, All, append_assoc, arith, drop, length, length-append, refl, sym, ap, ◌∙◌, subst}
use Rattle.std.specs.Prelude.{slice_get}
use Rattle.std.specs.List.{list_any}
use Rattle.std.proofs.lemmas.Bool.{or_left, or_right}
use Rattle.std.proofs.lemmas.List.Elements.{All-append, All-cons, All-nil}
use Rattle.jcl_plan.specs.declared.plan.DdKind.{DdKind}
use Rattle.jcl_plan.specs.declared.plan.DdPlan.{DdPlan}
use Rattle.jcl_plan.specs.declared.plan.JobPlan.{JobPlan}
use Rattle.jcl_plan.specs.declared.plan.StepPlan.{StepPlan}
use Rattle.jcl_meaning.specs.declared.program.Move.{Move}
use Rattle.jcl_meaning.specs.declared.program.SoloProgram.{SoloProgram}
use Rattle.jcl_meaning.specs.Agendas.{Action, Ask, Dispose, Finish, Left, Over, Receive, Start, Take, agenda, disposes_from, left_by, lefts_from, lefts_in, moves_from, step_actions, steps_from, takes_from}
use Rattle.jcl_meaning.specs.Plans.{passes}
use Rattle.jcl_meaning.specs.Programs.{moves_of}
use Rattle.cb_meaning.specs.Writable.{kind_at}
use Rattle.case_laws.proofs.Turned.{is_last}

-- the end is behind all but the last
last_behind : (count : ℕ) (actions : List Action) (a : Action) → is_last a ≡ true → count < length (actions ++ a ∷ []) →
    list_any is_last (drop count (actions ++ a ∷ [])) ≡ true
last_behind zero [] a e less = or_left (is_last a) false e
last_behind zero (x ∷ actions) a e less =
    or_right (is_last x) (list_any is_last (actions ++ a ∷ [])) (last_behind zero actions a e
    (let l : 0 < length (actions ++ a ∷ []) = omega (arith, length-append actions (a ∷ [])) in l))
last_behind (suc count) [] a e less = absurd (omega (arith, less))
last_behind (suc count) (x ∷ actions) a e less = last_behind count actions a e (omega (arith, less))

pub end_ahead : (plan : JobPlan) (programs : List SoloProgram) (count : ℕ) → count < length (agenda plan programs) →
    list_any is_last (drop count (agenda plan programs)) ≡ true
end_ahead plan programs count less =
    let whole : List Action = steps_from (moves_of programs) 1 plan.steps ++ lefts_from 1 plan.steps in
    let same : whole ++ (Over ∷ []) ≡ agenda plan programs = append_assoc (steps_from (moves_of programs) 1 plan.steps) (lefts_from 1 plan.steps) (Over ∷ []) in
    subst (λ (actions : List Action). list_any is_last (drop count actions) ≡ true) same
    (last_behind count whole Over refl (subst (λ (actions : List Action). count < length actions) (sym same) less))

-- kinds by place
abbrev kind_of_dd : Option DdPlan → Option DdKind
kind_of_dd None = None
kind_of_dd (Some d) = Some d.kind

abbrev kind_of_step : Option StepPlan → ℕ → Option DdKind
kind_of_step None dd = None
kind_of_step (Some s) dd = kind_of_dd (slice_get s.dds (dd - 1))

abbrev pub IsKnown : List StepPlan → Action → Type 0
IsKnown steps (Start n step) = Unit {0}
IsKnown steps (Take n dd d) = kind_at steps n dd ≡ Some d.kind
IsKnown steps (Ask step move) = Unit {0}
IsKnown steps Receive = Unit {0}
IsKnown steps (Finish n) = Unit {0}
IsKnown steps (Dispose n dd d) = Unit {0}
IsKnown steps (Left n dd d) = Unit {0}
IsKnown steps Over = Unit {0}

behind : {X : Type 0} (before : List X) (x : X) (xs : List X) → slice_get (before ++ x ∷ xs) (length before) ≡ Some x
behind [] x xs = refl
behind (y ∷ before) x xs = behind before x xs

numbered : {X : Type 0} (all before : List X) (x : X) (xs : List X) (n : ℕ) → all ≡ before ++ x ∷ xs → n ≡ length before + 1 → slice_get all (n - 1) ≡ Some x
numbered all before x xs n e m =
    let at : n - 1 ≡ length before = omega (arith, m) in
    (λ i. slice_get (e i) (at i)) ∙ behind before x xs

one_more : {X : Type 0} (before : List X) (x : X) (n : ℕ) → n ≡ length before + 1 → n + 1 ≡ length (before ++ x ∷ []) + 1
one_more before x n e = omega (arith, e, length-append before (x ∷ []))

module _ (steps : List StepPlan) where
  takes_known : (n dd : ℕ) (step : StepPlan) (before ds : List DdPlan) → slice_get steps (n - 1) ≡ Some step → step.dds ≡ before ++ ds →
      dd ≡ length before + 1 → All (IsKnown steps) (takes_from n dd ds)
  takes_known n dd step before [] at e m = All-nil (IsKnown steps)
  takes_known n dd step before (d ∷ ds) at e m =
      All-cons (IsKnown steps) (Take n dd d) (takes_from n (dd + 1) ds)
      (ap (λ (s : Option StepPlan). kind_of_step s dd) at ∙ ap kind_of_dd (numbered step.dds before d ds dd e m))
      (takes_known n (dd + 1) step (before ++ d ∷ []) ds at (e ∙ sym (append_assoc before (d ∷ []) ds)) (one_more before d dd m))

  moves_known : (step : StepPlan) (moves : List Move) → All (IsKnown steps) (moves_from step moves)
  moves_known step [] = All-nil (IsKnown steps)
  moves_known step (m ∷ moves) =
      All-cons (IsKnown steps) (Ask step m) (Receive ∷ moves_from step moves) tt
      (All-cons (IsKnown steps) Receive (moves_from step moves) tt (moves_known step moves))

  disposes_known : (n dd : ℕ) (ds : List DdPlan) → All (IsKnown steps) (disposes_from n dd ds)
  disposes_known n dd [] = All-nil (IsKnown steps)
  disposes_known n dd (d ∷ ds) = All-cons (IsKnown steps) (Dispose n dd d) (disposes_from n (dd + 1) ds) tt (disposes_known n (dd + 1) ds)

  step_known : (n : ℕ) (step : StepPlan) (moves : List Move) → slice_get steps (n - 1) ≡ Some step → All (IsKnown steps) (step_actions n step moves)
  step_known n step moves at =
      All-cons (IsKnown steps) (Start n step) (takes_from n 1 step.dds ++ (moves_from step moves ++ (Finish n ∷ disposes_from n 1 step.dds))) tt
      (All-append (IsKnown steps) (takes_from n 1 step.dds) (moves_from step moves ++ (Finish n ∷ disposes_from n 1 step.dds))
      (takes_known n 1 step [] step.dds at refl refl)
      (All-append (IsKnown steps) (moves_from step moves) (Finish n ∷ disposes_from n 1 step.dds) (moves_known step moves)
      (All-cons (IsKnown steps) (Finish n) (disposes_from n 1 step.dds) tt (disposes_known n 1 step.dds))))

  steps_known : (moves : List ℕ → List Move) (n : ℕ) (before rest : List StepPlan) → steps ≡ before ++ rest → n ≡ length before + 1 →
      All (IsKnown steps) (steps_from moves n rest)
  steps_known moves n before [] e m = All-nil (IsKnown steps)
  steps_known moves n before (step ∷ rest) e m =
      All-append (IsKnown steps) (step_actions n step (moves step.program)) (steps_from moves (n + 1) rest)
      (step_known n step (moves step.program) (numbered steps before step rest n e m))
      (steps_known moves (n + 1) (before ++ step ∷ []) rest (e ∙ sym (append_assoc before (step ∷ []) rest)) (one_more before step n m))

  left_known : (b : Bool) (n dd : ℕ) (d : DdPlan) → All (IsKnown steps) (cond b (Left n dd d ∷ []) [])
  left_known true n dd d = All-cons (IsKnown steps) (Left n dd d) [] tt (All-nil (IsKnown steps))
  left_known false n dd d = All-nil (IsKnown steps)

  lefts_in_known : (n dd : ℕ) (ds : List DdPlan) → All (IsKnown steps) (lefts_in n dd ds)
  lefts_in_known n dd [] = All-nil (IsKnown steps)
  lefts_in_known n dd (d ∷ ds) =
      All-append (IsKnown steps) (left_by n dd d) (lefts_in n (dd + 1) ds) (left_known (passes d.kind) n dd d) (lefts_in_known n (dd + 1) ds)

  lefts_known : (n : ℕ) (rest : List StepPlan) → All (IsKnown steps) (lefts_from n rest)
  lefts_known n [] = All-nil (IsKnown steps)
  lefts_known n (step ∷ rest) =
      All-append (IsKnown steps) (lefts_in n 1 step.dds) (lefts_from (n + 1) rest) (lefts_in_known n 1 step.dds) (lefts_known (n + 1) rest)

pub all_known : (plan : JobPlan) (programs : List SoloProgram) → All (IsKnown plan.steps) (agenda plan programs)
all_known plan programs =
    All-append (IsKnown plan.steps) (steps_from (moves_of programs) 1 plan.steps) (lefts_from 1 plan.steps ++ (Over ∷ []))
    (steps_known plan.steps (moves_of programs) 1 [] plan.steps refl refl)
    (All-append (IsKnown plan.steps) (lefts_from 1 plan.steps) (Over ∷ []) (lefts_known plan.steps 1 plan.steps)
    (All-cons (IsKnown plan.steps) Over [] tt (All-nil (IsKnown plan.steps))))
