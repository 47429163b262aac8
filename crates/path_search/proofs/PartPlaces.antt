-- The actions of a part: where faults are met in it, and how many they are.
use Rattle.std.proofs.Common.{◌≡◌, ◌⊎◌, inl, inr, ⊎_elim, ◌∷◌, ◌<◌, ◌≤◌, ◌+◌, ◌-◌, ◌∙◌, ◌++◌, List, [], length, drop, take, ℕ, zero, suc, Bool, true}
use Rattle.std.proofs.Common.{false, subst, sym, refl, ap, arith, map, Option, Some, None, length-append, length-drop, if◌then◌else◌}
use Rattle.std.specs.Prelude.{slice_get}
use Rattle.std.specs.List.{AllByRecursion}
use Rattle.jcl_plan.specs.declared.outcome.Fate.{Fate}
use Rattle.jcl_plan.specs.declared.outcome.Fate.TheVariants as fate
use Rattle.jcl_plan.specs.declared.plan.DdPlan.{DdPlan}
use Rattle.jcl_plan.specs.declared.plan.JobPlan.{JobPlan}
use Rattle.jcl_plan.specs.declared.plan.StepPlan.{StepPlan}
use Rattle.jcl_meaning.specs.declared.program.Move.{Move}
use Rattle.jcl_meaning.specs.Acts.{act}
use Rattle.jcl_meaning.specs.Agendas.{Action, Ask, Dispose, Finish, Left, Over, Receive, Start, Take, disposes_from, left_by, lefts_from, lefts_in}
use Rattle.jcl_meaning.specs.Agendas.{step_actions, steps_from, takes_from}
use Rattle.jcl_meaning.specs.EndActs.{finished, finishes}
use Rattle.jcl_meaning.specs.History.{is_run}
use Rattle.jcl_meaning.specs.Plans.{passes}
use Rattle.jcl_meaning.specs.Programs.{is_iefbr14, moves_of}
use Rattle.jcl_meaning.specs.Solo.{Met, Ran, later, run}
use Rattle.jcl_meaning.specs.States.{Done, Fixed, State, at_step, goes, if_runs, with_answers_used, with_own}
use Rattle.jcl_meaning.specs.TakeActs.{fate_at}
use Rattle.path_meaning.specs.Paths.{FaultPlace, fates_in, fault_place}
use Rattle.path_meaning.specs.Verdicts.{steps_over}
use Rattle.path_laws.specs.Paths.{before_part}
use Rattle.path_laws.specs.PathParts.{part_from, path_part}

append_all : (P : Action → Type 0) (xs ys : List Action) → AllByRecursion P xs → AllByRecursion P ys → AllByRecursion P (xs ++ ys)
append_all P [] ys a b = b
append_all P (x ∷ xs) ys a b = (a.0, append_all P xs ys a.1 b)

pub at_place : (P : Action → Type 0) (xs : List Action) (i : ℕ) (a : Action) → AllByRecursion P xs → slice_get xs i ≡ Some a → P a
at_place P [] i a all at = absurd (cc)
at_place P (x ∷ xs) zero a all at = let e : x ≡ a = cc in subst P e all.0
at_place P (x ∷ xs) (suc i) a all at = at_place P xs i a all.1 at

-- an action of part k
abbrev IsOfPart : ℕ → ℕ → Action → Type 0
IsOfPart steps k (Start n step) = Unit {0}
IsOfPart steps k (Take n dd d) = (n ≡ k + 1) × (k < steps)
IsOfPart steps k (Ask step move) = Unit {0}
IsOfPart steps k Receive = Unit {0}
IsOfPart steps k (Finish n) = Unit {0}
IsOfPart steps k (Dispose n dd d) = (n ≡ k + 1) × (k < steps)
IsOfPart steps k (Left n dd d) = k ≡ steps
IsOfPart steps k Over = Unit {0}

module _ (steps k : ℕ) where
  takes_of : (dd : ℕ) (ds : List DdPlan) → k < steps → AllByRecursion (IsOfPart steps k) (takes_from (k + 1) dd ds)
  takes_of dd [] l = tt
  takes_of dd (d ∷ ds) l = ((refl, l), takes_of (dd + 1) ds l)

  disposes_of : (dd : ℕ) (ds : List DdPlan) → k < steps → AllByRecursion (IsOfPart steps k) (disposes_from (k + 1) dd ds)
  disposes_of dd [] l = tt
  disposes_of dd (d ∷ ds) l = ((refl, l), disposes_of (dd + 1) ds l)

  lefts_of_dds : (n dd : ℕ) (ds : List DdPlan) → k ≡ steps → AllByRecursion (IsOfPart steps k) (lefts_in n dd ds)
  lefts_of_dds n dd [] e = tt
  lefts_of_dds n dd (d ∷ ds) e = append_all (IsOfPart steps k) (left_by n dd d) (lefts_in n (dd + 1) ds) (one (passes d.kind)) (lefts_of_dds n (dd + 1) ds e)
    where
      one : (b : Bool) → AllByRecursion (IsOfPart steps k) (if b then Left n dd d ∷ [] else [])
      one true = (e, tt)
      one false = tt

  lefts_of : (n : ℕ) (ss : List StepPlan) → k ≡ steps → AllByRecursion (IsOfPart steps k) (lefts_from n ss)
  lefts_of n [] e = tt
  lefts_of n (s ∷ ss) e = append_all (IsOfPart steps k) (lefts_in n 1 s.dds) (lefts_from (n + 1) ss) (lefts_of_dds n 1 s.dds e) (lefts_of (n + 1) ss e)

pub all_of_part : (plan : JobPlan) (k : ℕ) → k ≤ length plan.steps → AllByRecursion (IsOfPart (length plan.steps) k) (path_part plan k)
all_of_part plan k within = by (drop k plan.steps) (length-drop k plan.steps)
  where
    by : (rest : List StepPlan) → length rest ≡ length plan.steps - k → AllByRecursion (IsOfPart (length plan.steps) k) (part_from k plan.steps rest)
    by [] left = append_all (IsOfPart (length plan.steps) k) (lefts_from 1 plan.steps) (Over ∷ [])
        (lefts_of (length plan.steps) k 1 plan.steps (omega (arith, left, within))) (tt, tt)
    by (step ∷ later) left =
        let inside : k < length plan.steps = omega (arith, left, within) in (
          tt,
          append_all (IsOfPart (length plan.steps) k) (takes_from (k + 1) 1 step.dds) (Finish (k + 1) ∷ disposes_from (k + 1) 1 step.dds)
              (takes_of (length plan.steps) k 1 step.dds inside) (tt, disposes_of (length plan.steps) k 1 step.dds inside),
        )

-- where a fault is met in part k
pub placed : (steps k : ℕ) (a : Action) (p : FaultPlace) → IsOfPart steps k a → fault_place steps a ≡ Some p →
    (steps_over steps a ≡ k) × ((p.ended ≡ k) ⊎ ((p.ended ≡ k + 1) × (k < steps)))
placed steps k (Start n step) p of at = absurd (cc)
placed steps k (Take n dd d) p of at =
    let e : record { step = n; dd = dd; ended = n - 1 } ≡ p = cc in
    let ended : n - 1 ≡ p.ended = ap (λ (q : FaultPlace). q.ended) e in
    (omega (arith, of.0), inl (omega (arith, of.0, ended)))
placed steps k (Ask step move) p of at = absurd (cc)
placed steps k Receive p of at = absurd (cc)
placed steps k (Finish n) p of at = absurd (cc)
placed steps k (Dispose n dd d) p of at =
    let e : record { step = n; dd = dd; ended = n } ≡ p = cc in
    let ended : n ≡ p.ended = ap (λ (q : FaultPlace). q.ended) e in
    (omega (arith, of.0), inr (sym ended ∙ of.0, of.1))
placed steps k (Left n dd d) p of at =
    let e : record { step = n; dd = dd; ended = steps } ≡ p = cc in
    let ended : steps ≡ p.ended = ap (λ (q : FaultPlace). q.ended) e in
    (sym of, inl (sym ended ∙ sym of))
placed steps k Over p of at = absurd (cc)

-- a step that does not run meets no fault
abbrev IsPassedOver : Action → Type 0
IsPassedOver (Start n step) = ⊥
IsPassedOver (Take n dd d) = Unit {0}
IsPassedOver (Ask step move) = ⊥
IsPassedOver Receive = ⊥
IsPassedOver (Finish n) = Unit {0}
IsPassedOver (Dispose n dd d) = Unit {0}
IsPassedOver (Left n dd d) = ⊥
IsPassedOver Over = ⊥

abbrev IsQuiet : Done → Type 0
IsQuiet done = (done.meets ≡ None) × (done.state.own.runs ≡ false)

quiet_if : (b : Bool) (s : State) (done : Done) → b ≡ false → s.own.runs ≡ false → IsQuiet (if_runs b s done)
quiet_if true s done e h = absurd (cc)
quiet_if false s done e h = (refl, h)

quiet_act : (fixed : Fixed) (a : Action) (s : State) → IsPassedOver a → s.own.runs ≡ false → IsQuiet (act fixed a s)
unfolding act
quiet_act fixed (Start n step) s is h = absurd is
quiet_act fixed (Take n dd d) s is h = quiet_if s.own.runs s _ h h
quiet_act fixed (Ask step move) s is h = absurd is
quiet_act fixed Receive s is h = absurd is
quiet_act fixed (Finish n) s is h = by s.own.runs h
  where
    by : (b : Bool) → b ≡ false → IsQuiet (if b then finishes n s.own.over s else goes []
        (record { store = s.store; own = s.own; answers = with_answers_used s.answers }))
    by true e = absurd (cc)
    by false e = (refl, h)
quiet_act fixed (Dispose n dd d) s is h = quiet_if s.own.runs s _ h h
quiet_act fixed (Left n dd d) s is h = absurd is
quiet_act fixed Over s is h = absurd is

quiet_run : (fixed : Fixed) (actions : List Action) (s : State) → AllByRecursion IsPassedOver actions → s.own.runs ≡ false → (run fixed actions s).faults ≡ []
unfolding run
quiet_run fixed [] s all h = refl
quiet_run fixed (a ∷ actions) s all h =
    let one = quiet_act fixed a s all.0 h in
    let rest : (run fixed actions (act fixed a s).state).faults ≡ [] = quiet_run fixed actions (act fixed a s).state all.1 one.1 in
    simp (one.0, rest)

passed_takes : (n dd : ℕ) (ds : List DdPlan) → AllByRecursion IsPassedOver (takes_from n dd ds)
passed_takes n dd [] = tt
passed_takes n dd (d ∷ ds) = (tt, passed_takes n (dd + 1) ds)

passed_disposes : (n dd : ℕ) (ds : List DdPlan) → AllByRecursion IsPassedOver (disposes_from n dd ds)
passed_disposes n dd [] = tt
passed_disposes n dd (d ∷ ds) = (tt, passed_disposes n (dd + 1) ds)

step_runs : (fixed : Fixed) (n : ℕ) (step : StepPlan) (actions : List Action) (s : State) → AllByRecursion IsPassedOver actions → (f : Met)
    (behind : List Met) →
    (run fixed (Start n step ∷ actions) s).faults ≡ f ∷ behind → (later : List Fate) ×
    (fates_in (run fixed (Start n step ∷ actions) s).lines ≡ fate.Run ∷ later)
unfolding run act
step_runs fixed n step actions s all f behind e = by (fate_at fixed step s.own) refl
  where
    never : is_run (fate_at fixed step s.own) ≡ false → ⊥
    never idle =
        let none : (run fixed actions (with_own s (at_step s.own (is_run (fate_at fixed step s.own))))).faults ≡ [] =
        quiet_run fixed actions (with_own s (at_step s.own (is_run (fate_at fixed step s.own)))) all idle in
        let both : [] ≡ f ∷ behind = sym (ap (map later) none) ∙ e in
        absurd (cc)

    by : (x : Fate) → fate_at fixed step s.own ≡ x → (later : List Fate) × (fates_in (run fixed (Start n step ∷ actions) s).lines ≡ fate.Run ∷ later)
    by fate.Run same = (
      fates_in (run fixed actions (with_own s (at_step s.own (is_run (fate_at fixed step s.own))))).lines,
      ap (λ (x : Fate). x ∷ fates_in (run fixed actions (with_own s (at_step s.own (is_run (fate_at fixed step s.own))))).lines) same,
    )
    by fate.Bypassed same = absurd (never (ap is_run same))
    by fate.Flushed same = absurd (never (ap is_run same))

-- how many actions come before the next part
no_moves : (name : List ℕ) → moves_of [] name ≡ []
no_moves name = by (is_iefbr14 name)
  where
    by : (b : Bool) → if◌then◌else◌ {A = List Move} b [] [] ≡ []
    by true = refl
    by false = refl

steps_count : (k n : ℕ) (steps : List StepPlan) (step : StepPlan) (later : List StepPlan) → drop k steps ≡ step ∷ later →
    length (steps_from (moves_of []) n (take (suc k) steps)) ≡ length (steps_from (moves_of []) n (take k steps)) + length (step_actions (n + k) step [])
steps_count zero n [] step later e = absurd (cc)
steps_count zero n (x ∷ xs) step later e =
    let same : x ≡ step = cc in
    let none : n + 0 ≡ n = omega arith in
    subst (λ (m : ℕ). length (steps_from (moves_of []) n (x ∷ [])) ≡ 0 + length (step_actions m step [])) (sym none)
    (subst (λ (y : StepPlan). length (steps_from (moves_of []) n (x ∷ [])) ≡ 0 + length (step_actions n y [])) same
    (length-append (step_actions n x (moves_of [] x.program)) [] ∙
    subst (λ (moves : List Move). length (step_actions n x moves) + 0 ≡ 0 + length (step_actions n x [])) (sym (no_moves x.program)) (omega arith)))
steps_count (suc k) n [] step later e = absurd (cc)
steps_count (suc k) n (x ∷ xs) step later e =
    let rest = steps_count k (n + 1) xs step later e in
    let on : n + suc k ≡ (n + 1) + k = omega arith in
    let a = length-append (step_actions n x (moves_of [] x.program)) (steps_from (moves_of []) (n + 1) (take (suc k) xs)) in
    let b = length-append (step_actions n x (moves_of [] x.program)) (steps_from (moves_of []) (n + 1) (take k xs)) in
    subst (λ (m : ℕ). length (steps_from (moves_of []) n (take (suc (suc k)) (x ∷ xs))) ≡ length (steps_from (moves_of []) n (take (suc k) (x ∷ xs)))
    + length (step_actions m step []))
    (sym on) (omega (arith, a, b, rest))

pub before_next : (plan : JobPlan) (k : ℕ) (step : StepPlan) (later : List StepPlan) → drop k plan.steps ≡ step ∷ later →
    before_part plan (k + 1) ≡ before_part plan k + length (path_part plan k)
before_next plan k step later e =
    let one : k + 1 ≡ suc k = omega arith in
    let on : 1 + k ≡ k + 1 = omega arith in
    ap (before_part plan) one ∙ steps_count k 1 plan.steps step later e
    ∙ ap (λ (m : ℕ). before_part plan k + length (step_actions m step [])) on
    ∙ ap (λ (rest : List StepPlan). before_part plan k + length (part_from k plan.steps rest)) (sym e)

pub part_runs_if_met : (fixed : Fixed) (plan : JobPlan) (k : ℕ) (step : StepPlan) (later : List StepPlan) (s : State) (f : Met) (behind : List Met) →
    drop k plan.steps ≡ step ∷ later → (run fixed (path_part plan k) s).faults ≡ f ∷ behind →
    (more : List Fate) × (fates_in (run fixed (path_part plan k) s).lines ≡ fate.Run ∷ more)
part_runs_if_met fixed plan k step later s f behind e met =
    subst (λ (rest : List StepPlan). (run fixed (part_from k plan.steps rest) s).faults ≡ f ∷ behind →
    (more : List Fate) × (fates_in (run fixed (part_from k plan.steps rest) s).lines ≡ fate.Run ∷ more))
    (sym e)
    (λ met. step_runs fixed (k + 1) step (takes_from (k + 1) 1 step.dds ++ (Finish (k + 1) ∷ disposes_from (k + 1) 1 step.dds)) s
    (append_all IsPassedOver (takes_from (k + 1) 1 step.dds) (Finish (k + 1) ∷ disposes_from (k + 1) 1 step.dds)
    (passed_takes (k + 1) 1 step.dds) (tt, passed_disposes (k + 1) 1 step.dds)) f behind met)
    met
