-- What is told of a job before it runs is the only answer.
use Rattle.std.proofs.Common.{◌≡◌, ◌+◌, ◌-◌, ◌++◌, ◌<◌, ◌≤◌, ℕ, Bool, true, false, cond, List, [], ◌∷◌, get_or, length, map, drop, take, Some, None, refl}
use Rattle.std.proofs.Common.{sym, ap, ◌∙◌, subst, arith, eqb-true, leb-true, leb-false}
use Rattle.std.specs.Prelude.{All, nat_le, slice_get}
use Rattle.std.specs.List.{Contains}
use Rattle.std.proofs.lemmas.List.Elements.{All-append, All-cons, All-contains, All-get_or, All-map, All-nil}
use Rattle.std.proofs.lemmas.Option.{slice_get_within, slice_get-get_or}
use Rattle.jcl_plan.specs.declared.fault.Fault.{Fault}
use Rattle.jcl_plan.specs.declared.outcome.Outcome.{Outcome}
use Rattle.jcl_plan.specs.declared.plan.DdPlan.{DdPlan}
use Rattle.jcl_plan.specs.declared.plan.JobPlan.{JobPlan}
use Rattle.jcl_plan.specs.declared.plan.StepPlan.{StepPlan}
use Rattle.jcl_meaning.specs.declared.program.Move.{Move}
use Rattle.jcl_meaning.specs.Agendas.{Action, Ask, Dispose, Finish, Left, Over, Receive, Start, Take, disposes_from, left_by, lefts_from, lefts_in}
use Rattle.jcl_meaning.specs.Agendas.{moves_from, path_agenda, step_actions, steps_from, takes_from}
use Rattle.jcl_meaning.specs.Plans.{passes}
use Rattle.jcl_meaning.specs.Programs.{moves_of}
use Rattle.jcl_meaning.specs.Solo.{Met, Ran, is_clean, solo_path_of}
use Rattle.jcl_meaning.specs.States.{Fixed}
use Rattle.jcl_meaning.specs.Stores.{Store}
use Rattle.jcl_meaning.specs.Views.{ran_to}
use Rattle.meaning_laws.specs.Laws.{behind}
use Rattle.path_meaning.specs.Paths.{FaultPlace, fault_place}
use Rattle.path_meaning.specs.Verdicts.{IsEarliest, IsFirstWithMore, steps_over}
use Rattle.path_laws.specs.OneAnswer.{IsOneAnswer}
use Rattle.path_laws.specs.Paths.{before_part}
use Rattle.path_laws.proofs.Parts.{behind_front, cut_behind, front_length, front_of, get_behind, path_begins}
use Rattle.path_laws.proofs.Rising.{one_list}

-- an earliest fault is met no later than any other
no_later : (fixed : Fixed) (plan : JobPlan) (store : Store) (limit : ℕ) (f g : Fault) (m n d e : ℕ) (os ps : List Outcome) →
    (a : IsEarliest fixed plan store limit f m d os) → (b : IsEarliest fixed plan store limit g n e ps) → a.meets.place ≤ b.meets.place
no_later fixed plan store limit f g m n d e os ps a b =
    All-contains (λ (met : Met). a.meets.place ≤ met.place) (solo_path_of fixed plan store b.meets.outcomes).faults
    (record { place = b.meets.place; fault = g }) (a.none_before b.meets.outcomes b.meets.within) b.meets.met

-- places of one action are one
same_place : (steps : ℕ) (x y : Action) (p q : FaultPlace) → x ≡ y → fault_place steps x ≡ Some p → fault_place steps y ≡ Some q → p ≡ q
same_place steps x y p q same e f =
    let both : Some p ≡ Some q = sym e ∙ (ap (fault_place steps) same ∙ f) in cc

one_place : (fixed : Fixed) (plan : JobPlan) (store : Store) (limit : ℕ) (f g : Fault) (m n d e : ℕ) (os ps : List Outcome) →
    (a : IsEarliest fixed plan store limit f m d os) → (b : IsEarliest fixed plan store limit g n e ps) →
    (a.meets.place ≡ b.meets.place) × (m ≡ n) × (d ≡ e)
one_place fixed plan store limit f g m n d e os ps a b =
    let le : a.meets.place ≤ b.meets.place = no_later fixed plan store limit f g m n d e os ps a b in
    let ge : b.meets.place ≤ a.meets.place = no_later fixed plan store limit g f n m e d ps os b a in
    let place : a.meets.place ≡ b.meets.place = omega arith in
    let due : Some a.meets.action ≡ Some b.meets.action = sym a.meets.due ∙ (ap (slice_get (path_agenda plan)) place ∙ b.meets.due) in
    let action : a.meets.action ≡ b.meets.action = cc in
    let at : record { step = m; dd = d; ended = a.meets.ended } ≡ record { step = n; dd = e; ended = b.meets.ended } =
    same_place (length plan.steps) a.meets.action b.meets.action (record { step = m; dd = d; ended = a.meets.ended })
    (record { step = n; dd = e; ended = b.meets.ended }) action a.meets.at b.meets.at in
    (place, ap (λ (p : FaultPlace). p.step) at, ap (λ (p : FaultPlace). p.dd) at)

-- the first step with more is one
one_step : (fixed : Fixed) (plan : JobPlan) (store : Store) (limit m n : ℕ) → IsFirstWithMore fixed plan store limit m →
    IsFirstWithMore fixed plan store limit n → m ≡ n
one_step fixed plan store limit m n a b =
    let low : n ≤ m = no_earlier m n a b in
    let high : m ≤ n = no_earlier n m b a in
    omega arith
  where
    no_earlier : (m n : ℕ) → IsFirstWithMore fixed plan store limit m → IsFirstWithMore fixed plan store limit n → n ≤ m
    no_earlier m n a b = by_order (nat_le n m) refl
      where
        by_order : (r : Bool) → nat_le n m ≡ r → n ≤ m
        by_order true e = leb-true n m e
        by_order false e =
            let above : m < n = leb-false n m e in
            let some : 1 ≤ m = a.from_one in
            absurd (b.few m some (omega arith) a.more)

-- where a fault may be met in actions, this many steps are over
module _ (steps least : ℕ) where
  abbrev IsBehind : Action → Type 0
  IsBehind action = (p : FaultPlace) → fault_place steps action ≡ Some p → least ≤ steps_over steps action

  takes_behind : (n dd : ℕ) (ds : List DdPlan) → least < n → All IsBehind (takes_from n dd ds)
  takes_behind n dd [] h = All-nil IsBehind
  takes_behind n dd (d ∷ ds) h = All-cons IsBehind (Take n dd d) (takes_from n (dd + 1) ds) (λ p e. omega arith) (takes_behind n (dd + 1) ds h)

  disposes_behind : (n dd : ℕ) (ds : List DdPlan) → least < n → All IsBehind (disposes_from n dd ds)
  disposes_behind n dd [] h = All-nil IsBehind
  disposes_behind n dd (d ∷ ds) h = All-cons IsBehind (Dispose n dd d) (disposes_from n (dd + 1) ds) (λ p e. omega arith) (disposes_behind n (dd + 1) ds h)

  no_place : (action : Action) → fault_place steps action ≡ None → IsBehind action
  no_place action none p e = let both : None ≡ Some p = sym none ∙ e in absurd cc

  moves_behind : (step : StepPlan) (moves : List Move) → All IsBehind (moves_from step moves)
  moves_behind step [] = All-nil IsBehind
  moves_behind step (m ∷ moves) =
      All-cons IsBehind (Ask step m) (Receive ∷ moves_from step moves) (no_place (Ask step m) refl)
      (All-cons IsBehind Receive (moves_from step moves) (no_place Receive refl) (moves_behind step moves))

  step_behind : (n : ℕ) (step : StepPlan) (moves : List Move) → least < n → All IsBehind (step_actions n step moves)
  step_behind n step moves h =
      All-cons IsBehind (Start n step) (takes_from n 1 step.dds ++ (moves_from step moves ++ (Finish n ∷ disposes_from n 1 step.dds)))
      (no_place (Start n step) refl)
      (All-append IsBehind (takes_from n 1 step.dds) (moves_from step moves ++ (Finish n ∷ disposes_from n 1 step.dds)) (takes_behind n 1 step.dds h)
      (All-append IsBehind (moves_from step moves) (Finish n ∷ disposes_from n 1 step.dds) (moves_behind step moves)
      (All-cons IsBehind (Finish n) (disposes_from n 1 step.dds) (no_place (Finish n) refl) (disposes_behind n 1 step.dds h))))

  steps_behind : (n : ℕ) (later : List StepPlan) → least < n → All IsBehind (steps_from (moves_of []) n later)
  steps_behind n [] h = All-nil IsBehind
  steps_behind n (step ∷ later) h =
      All-append IsBehind (step_actions n step (moves_of [] step.program)) (steps_from (moves_of []) (n + 1) later)
      (step_behind n step (moves_of [] step.program) h) (steps_behind (n + 1) later (omega arith))

  one_left_behind : (n dd : ℕ) (d : DdPlan) (b : Bool) → least ≤ steps → All IsBehind (cond b (Left n dd d ∷ []) [])
  one_left_behind n dd d true h = All-cons IsBehind (Left n dd d) [] (λ p e. h) (All-nil IsBehind)
  one_left_behind n dd d false h = All-nil IsBehind

  step_left_behind : (n dd : ℕ) (ds : List DdPlan) → least ≤ steps → All IsBehind (lefts_in n dd ds)
  step_left_behind n dd [] h = All-nil IsBehind
  step_left_behind n dd (d ∷ ds) h =
      All-append IsBehind (left_by n dd d) (lefts_in n (dd + 1) ds) (one_left_behind n dd d (passes d.kind) h) (step_left_behind n (dd + 1) ds h)

  lefts_behind : (n : ℕ) (each : List StepPlan) → least ≤ steps → All IsBehind (lefts_from n each)
  lefts_behind n [] h = All-nil IsBehind
  lefts_behind n (step ∷ each) h =
      All-append IsBehind (lefts_in n 1 step.dds) (lefts_from (n + 1) each) (step_left_behind n 1 step.dds h) (lefts_behind (n + 1) each h)

  end_behind : (each : List StepPlan) → least ≤ steps → All IsBehind (lefts_from 1 each ++ (Over ∷ []))
  end_behind each h =
      All-append IsBehind (lefts_from 1 each) (Over ∷ []) (lefts_behind 1 each h) (All-cons IsBehind Over [] (no_place Over refl) (All-nil IsBehind))

-- a fault of a path whose first steps meet none is met behind them
met_behind : (fixed : Fixed) (plan : JobPlan) (store : Store) (k : ℕ) (outcomes : List Outcome) (met : Met) →
    is_clean (ran_to fixed plan store k outcomes) ≡ true → Contains (solo_path_of fixed plan store outcomes).faults met → before_part plan k ≤ met.place
met_behind fixed plan store k outcomes met clean there =
    let first : Ran = ran_to fixed plan store k outcomes in
    let begins = path_begins fixed plan store k outcomes in
    let more : List Met = map (behind (before_part plan k)) begins.0.faults in
    let none : first.faults ≡ [] = no_element first.faults (eqb-true (length first.faults) 0 clean) in
    let faults : (solo_path_of fixed plan store outcomes).faults ≡ more = ap (λ (r : Ran). r.faults) begins.1 ∙ ap (λ ms. ms ++ more) none in
    All-contains (λ (m : Met). before_part plan k ≤ m.place) more met
    (All-map (λ (m : Met). before_part plan k ≤ m.place) (behind (before_part plan k)) begins.0.faults (each begins.0.faults))
    (subst (λ (ms : List Met). Contains ms met) faults there)
  where
    no_element : (ms : List Met) → length ms ≡ 0 → ms ≡ []
    no_element [] e = refl
    no_element (m ∷ ms) e = absurd (omega arith)

    each : (ms : List Met) → All (λ (m : Met). before_part plan k ≤ before_part plan k + m.place) ms
    each [] = All-nil (λ (m : Met). before_part plan k ≤ before_part plan k + m.place)
    each (m ∷ ms) = All-cons (λ (x : Met). before_part plan k ≤ before_part plan k + x.place) m ms (omega arith) (each ms)

-- behind the first steps
front_behind : (plan : JobPlan) (k : ℕ) → k ≤ length plan.steps → All (IsBehind (length plan.steps) k) (behind_front plan k)
front_behind plan k h =
    let n : ℕ = 1 + length (take k plan.steps) in
    let size : length (take k plan.steps) ≡ k = front_length k plan.steps h in
    All-append (IsBehind (length plan.steps) k) (steps_from (moves_of []) n (drop k plan.steps)) (lefts_from 1 plan.steps ++ (Over ∷ []))
    (steps_behind (length plan.steps) k n (drop k plan.steps) (omega arith)) (end_behind (length plan.steps) k plan.steps h)

-- at a place of a list behind its front stands one of what is behind the front
at_behind : (P : Action → Type 0) (xs ys : List Action) (place : ℕ) (action : Action) → All P ys → length xs ≤ place →
    slice_get (xs ++ ys) place ≡ Some action → P action
at_behind P xs ys place action all h e =
    let number : length xs + (place - length xs) ≡ place = omega arith in
    let there : slice_get ys (place - length xs) ≡ Some action =
    sym (get_behind xs ys (place - length xs)) ∙ (ap (slice_get (xs ++ ys)) number ∙ e) in
    let below : place - length xs < length ys = slice_get_within ys (place - length xs) action there in
    let same : Some (get_or ys (place - length xs) action) ≡ Some action = sym (slice_get-get_or ys (place - length xs) action below) ∙ there in
    let one : get_or ys (place - length xs) action ≡ action = cc in
    subst P one (All-get_or P ys (place - length xs) action below all)

not_both : (fixed : Fixed) (plan : JobPlan) (store : Store) (limit step n d : ℕ) (f : Fault) (path : List Outcome) →
    IsEarliest fixed plan store limit f n d path → IsFirstWithMore fixed plan store limit step → ⊥
not_both fixed plan store limit step n d f path a b =
    let steps : ℕ = length plan.steps in
    let met : Met = record { place = a.meets.place; fault = f } in
    let place : before_part plan step ≤ a.meets.place =
    met_behind fixed plan store step a.meets.outcomes met (b.none_met a.meets.outcomes a.meets.within) a.meets.met in
    let due : slice_get (front_of plan step ++ behind_front plan step) a.meets.place ≡ Some a.meets.action =
    ap (λ actions. slice_get actions a.meets.place) (sym (cut_behind plan step)) ∙ a.meets.due in
    let over : step ≤ steps_over steps a.meets.action =
    at_behind (IsBehind steps step) (front_of plan step) (behind_front plan step) a.meets.place a.meets.action (front_behind plan step b.to_last) place due
    (record { step = n; dd = d; ended = a.meets.ended }) a.meets.at in
    a.few step b.from_one over b.more

pub is_one_answer : IsOneAnswer
is_one_answer = record { place = one_place; not_both = not_both; step = one_step; places = one_list }
