-- What is left of an agenda at each of its places.
use Rattle.std.proofs.Common.{◌≡◌, ◌+◌, ◌<◌, ◌≤◌, ◌++◌, ◌∷◌, ℕ, suc, true, if◌then◌else◌, List, [], Option, Some, None, drop, length, get_or, slice_get, refl, sym, ap, ◌∙◌, append_assoc, drop-cons, inl, inr, add-one, arith, subst, ◌-◌}
use Rattle.std.proofs.lemmas.List.{drop_all}
use Rattle.std.proofs.lemmas.Option.{get_or_from_slice_get, slice_get-get_or, slice_get_cases, slice_get_read, slice_get_within}
use Rattle.jcl_plan.specs.declared.plan.DdPlan.{DdPlan}
use Rattle.jcl_plan.specs.declared.plan.StepPlan.{StepPlan}
use Rattle.jcl_meaning.specs.declared.program.Move.{Move}
use Rattle.jcl_meaning.specs.Agendas.{Action, Start, Take, Ask, Receive, Finish, Dispose, Left, Over, disposes_from, lefts_from, lefts_in, moves_from, steps_from, takes_from}
use Rattle.jcl_meaning.specs.Plans.{passes}
use Rattle.job_text.specs.Places.{IsDd, IsStep, dd_at, no_dd, no_step, step_at}
use Rattle.turn_core.specs.Places.{IsNext, LeavesFirst, agenda_at, disposes_left, in_step, lefts_left, requests_left, steps_left, takes_left}
use Rattle.turn_core.specs.declared.todo.Next.{Next}
use Rattle.turn_core.specs.declared.todo.Next.TheVariants as next
use Rattle.turn_core.specs.declared.todo.Todo.{Todo}
use Rattle.turn_core.specs.declared.todo.Todo.TheVariants as todo

-- the element at a place, and those behind it
pub drop_at : {X : Type 0} (xs : List X) (i : ℕ) (x : X) → slice_get xs i ≡ Some x → drop i xs ≡ x ∷ drop (i + 1) xs
drop_at xs i x e = rw add-one (drop-cons xs i x (slice_get_within xs i x e) ∙ ap (λ y. y ∷ drop (suc i) xs) (get_or_from_slice_get xs i x x e))

-- what was read there
pub read_at : {X : Type 0} (xs : List X) (i : ℕ) (x : X) → i < length xs → x ≡ get_or xs i x → slice_get xs i ≡ Some x
read_at xs i x h e = slice_get_read xs (length xs) i x refl h e

-- where none was read there are no more
pub none_past : {X : Type 0} (xs : List X) (i : ℕ) → slice_get xs i ≡ None → length xs ≤ i
none_past xs i e = elim ((slice_get_cases xs i).1) [ inl there ↦ clash (sym there.2 ∙ e) | inr past ↦ past.0 ]
  where
    clash : {X A : Type 0} {x : X} → Some x ≡ None → A
    clash h = absurd cc

module _ (moves : List ℕ → List Move) (steps : List StepPlan) where
  -- a step that is there
  pub here : (k : ℕ) (step : StepPlan) (rest : StepPlan → List Action) → slice_get steps k ≡ Some step → in_step (slice_get steps k) rest ≡ rest step
  here k step rest e = ap (λ o. in_step o rest) e

  regroup : (t m d s e : List Action) (f : Action) → ((t ++ (m ++ (f ∷ d))) ++ s) ++ e ≡ t ++ (m ++ (f ∷ (d ++ (s ++ e))))
  regroup t m d s e f = simp append_assoc

  pub start_at : (k : ℕ) (step : StepPlan) → slice_get steps k ≡ Some step →
      agenda_at moves steps (todo.Start k) ≡ Start (k + 1) step ∷ agenda_at moves steps (todo.Take k 0)
  start_at k step e =
      let behind : List StepPlan = drop (k + 1) steps in
      let ends : List Action = lefts_from 1 steps ++ (Over ∷ []) in
      ap (λ l. steps_from moves (k + 1) l ++ ends) (drop_at steps k step e)
      ∙ ap (λ l. Start (k + 1) step ∷ l) (regroup (takes_from (k + 1) 1 step.dds) (moves_from step (moves step.program)) (disposes_from (k + 1) 1 step.dds)
      (steps_from moves (k + 1 + 1) behind) ends (Finish (k + 1)))
      ∙ ap (λ l. Start (k + 1) step ∷ l) (sym (here k step (λ step. takes_left moves steps k 0 step) e))

  pub take_at : (k d : ℕ) (step : StepPlan) (x : DdPlan) → slice_get steps k ≡ Some step → slice_get step.dds d ≡ Some x →
      agenda_at moves steps (todo.Take k d) ≡ Take (k + 1) (d + 1) x ∷ agenda_at moves steps (todo.Take k (d + 1))
  take_at k d step x e h =
      here k step (λ step. takes_left moves steps k d step) e
      ∙ ap (λ l. takes_from (k + 1) (d + 1) l ++ requests_left moves steps k 0 step) (drop_at step.dds d x h)
      ∙ ap (λ l. Take (k + 1) (d + 1) x ∷ l) (sym (here k step (λ step. takes_left moves steps k (d + 1) step) e))

  pub taken_at : (k d : ℕ) (step : StepPlan) → slice_get steps k ≡ Some step → length step.dds ≤ d →
      agenda_at moves steps (todo.Take k d) ≡ agenda_at moves steps (todo.Ask k 0)
  taken_at k d step e h =
      here k step (λ step. takes_left moves steps k d step) e
      ∙ ap (λ l. takes_from (k + 1) (d + 1) l ++ requests_left moves steps k 0 step) (drop_all d step.dds h)
      ∙ sym (here k step (λ step. requests_left moves steps k 0 step) e)

  pub ask_at : (k r : ℕ) (step : StepPlan) (m : Move) → slice_get steps k ≡ Some step → slice_get (moves step.program) r ≡ Some m →
      agenda_at moves steps (todo.Ask k r) ≡ Ask step m ∷ agenda_at moves steps (todo.Receive k (r + 1))
  ask_at k r step m e h =
      here k step (λ step. requests_left moves steps k r step) e
      ∙ ap (λ l. moves_from step l ++ (Finish (k + 1) ∷ disposes_left moves steps k 0 step)) (drop_at (moves step.program) r m h)
      ∙ ap (λ l. Ask step m ∷ Receive ∷ l) (sym (here k step (λ step. requests_left moves steps k (r + 1) step) e))

  pub finish_at : (k r : ℕ) (step : StepPlan) → slice_get steps k ≡ Some step → length (moves step.program) ≤ r →
      agenda_at moves steps (todo.Ask k r) ≡ Finish (k + 1) ∷ agenda_at moves steps (todo.Dispose k 0)
  finish_at k r step e h =
      here k step (λ step. requests_left moves steps k r step) e
      ∙ ap (λ l. moves_from step l ++ (Finish (k + 1) ∷ disposes_left moves steps k 0 step)) (drop_all r (moves step.program) h)
      ∙ ap (λ l. Finish (k + 1) ∷ l) (sym (here k step (λ step. disposes_left moves steps k 0 step) e))

  pub dispose_at : (k d : ℕ) (step : StepPlan) (x : DdPlan) → slice_get steps k ≡ Some step → slice_get step.dds d ≡ Some x →
      agenda_at moves steps (todo.Dispose k d) ≡ Dispose (k + 1) (d + 1) x ∷ agenda_at moves steps (todo.Dispose k (d + 1))
  dispose_at k d step x e h =
      here k step (λ step. disposes_left moves steps k d step) e
      ∙ ap (λ l. disposes_from (k + 1) (d + 1) l ++ steps_left moves steps (k + 1)) (drop_at step.dds d x h)
      ∙ ap (λ l. Dispose (k + 1) (d + 1) x ∷ l) (sym (here k step (λ step. disposes_left moves steps k (d + 1) step) e))

  pub disposed_at : (k d : ℕ) (step : StepPlan) → slice_get steps k ≡ Some step → length step.dds ≤ d →
      agenda_at moves steps (todo.Dispose k d) ≡ agenda_at moves steps (todo.Start (k + 1))
  disposed_at k d step e h =
      here k step (λ step. disposes_left moves steps k d step) e
      ∙ ap (λ l. disposes_from (k + 1) (d + 1) l ++ steps_left moves steps (k + 1)) (drop_all d step.dds h)

clash : {X A : Type 0} {x : X} → Some x ≡ None → A
clash h = absurd cc

-- what the steps' DDs passed, from the first of a step on
pub lefts_at : (steps : List StepPlan) (k : ℕ) → lefts_from (k + 1) (drop k steps) ≡ lefts_left (slice_get steps k) (drop (k + 1) steps) k 0
lefts_at steps k = by_step (slice_get steps k) refl
  where
    by_step : (o : Option StepPlan) → slice_get steps k ≡ o → lefts_from (k + 1) (drop k steps) ≡ lefts_left o (drop (k + 1) steps) k 0
    by_step None e = elim ((slice_get_cases steps k).1) [ inl there ↦ clash (sym there.2 ∙ e) | inr past ↦ ap (lefts_from (k + 1)) (drop_all k steps past.0) ]
    by_step (Some step) e = ap (lefts_from (k + 1)) (drop_at steps k step e)

-- what stands first at a place stands first where the same is left
pub next_along : (moves : List ℕ → List Move) (steps : List StepPlan) (r : Next) (from to : Todo) → agenda_at moves steps from ≡ agenda_at moves steps to →
    IsNext moves steps to r → IsNext moves steps from r
next_along moves steps (next.Does it behind) from to e h = record { first = e ∙ h.first; there = h.there }
next_along moves steps next.Over from to e h = e ∙ h

-- the first DD that may have passed a set
some_is : {X : Type 0} (a b : X) → Some a ≡ Some b → a ≡ b
some_is a b e = cc

leaves_here : (dds : List DdPlan) (i n : ℕ) (d : DdPlan) → slice_get dds i ≡ Some d → passes d.kind ≡ true →
    lefts_in n (i + 1) (drop i dds) ≡ Left n (i + 1) d ∷ lefts_in n (i + 1 + 1) (drop (i + 1) dds)
leaves_here dds i n d e h = ap (lefts_in n (i + 1)) (drop_at dds i d e) ∙ ap (λ b. (if b then Left n (i + 1) d ∷ [] else []) ++ lefts_in n (i + 1 + 1) (drop (i + 1) dds)) h

pub leaves_first : (dds : List DdPlan) (from i : ℕ) → i < length dds → passes (dd_at dds i).kind ≡ true →
    ((n : ℕ) → lefts_in n (from + 1) (drop from dds) ≡ lefts_in n (i + 1) (drop i dds)) → LeavesFirst dds from i
leaves_first dds from i lt h before = record {
  within = lt;
  first = λ n d e. before n ∙ leaves_here dds i n d e
      (ap (λ (q : DdPlan). passes q.kind) (some_is d (dd_at dds i) (sym e ∙ slice_get-get_or dds i no_dd lt)) ∙ h);
}

-- of a step
pub left_first : (steps : List StepPlan) (i from dd : ℕ) (step : StepPlan) (x : DdPlan) → slice_get steps i ≡ Some step → slice_get step.dds dd ≡ Some x → LeavesFirst step.dds from dd →
    lefts_left (slice_get steps i) (drop (i + 1) steps) i from ≡ Left (i + 1) (dd + 1) x ∷ lefts_left (slice_get steps i) (drop (i + 1) steps) i (dd + 1)
left_first steps i from dd step x e g h =
    let behind : List StepPlan = drop (i + 1) steps in
    ap (λ o. lefts_left o behind i from) e ∙ ap (λ l. l ++ lefts_from (i + 1 + 1) behind) (h.first (i + 1) x g)
    ∙ ap (λ o. Left (i + 1) (dd + 1) x ∷ lefts_left o behind i (dd + 1)) (sym e)

pub left_none : (steps : List StepPlan) (i from : ℕ) (step : StepPlan) → slice_get steps i ≡ Some step → ((n : ℕ) → lefts_in n (from + 1) (drop from step.dds) ≡ []) →
    lefts_left (slice_get steps i) (drop (i + 1) steps) i from ≡ lefts_left (slice_get steps (i + 1)) (drop (i + 1 + 1) steps) (i + 1) 0
left_none steps i from step e h =
    let behind : List StepPlan = drop (i + 1) steps in
    ap (λ o. lefts_left o behind i from) e ∙ ap (λ l. l ++ lefts_from (i + 1 + 1) behind) (h (i + 1)) ∙ lefts_at steps (i + 1)

-- behind the last step what the DDs passed is left
pub started_at : (moves : List ℕ → List Move) (steps : List StepPlan) (k : ℕ) → length steps ≤ k → agenda_at moves steps (todo.Start k) ≡ agenda_at moves steps (todo.Left 0 0)
started_at moves steps k h =
    ap (λ l. steps_from moves (k + 1) l ++ (lefts_from 1 steps ++ (Over ∷ []))) (drop_all k steps h)
    ∙ ap (λ l. l ++ (Over ∷ [])) (lefts_at steps 0)

-- the step and the DD of a number that is there
pub step_is : (steps : List StepPlan) (k : ℕ) → k < length steps → slice_get steps k ≡ Some (step_at steps k)
step_is steps k h = slice_get-get_or steps k no_step h

pub dd_is : (dds : List DdPlan) (d : ℕ) → d < length dds → slice_get dds d ≡ Some (dd_at dds d)
dd_is dds d h = slice_get-get_or dds d no_dd h

-- by its number from 1
pub one_less : (k : ℕ) → k + 1 - 1 ≡ k
one_less k = omega arith

pub step_of : (steps : List StepPlan) (k : ℕ) → step_at steps k ≡ step_at steps (k + 1 - 1)
step_of steps k = ap (step_at steps) (sym (one_less k))

pub dd_of : (steps : List StepPlan) (k d : ℕ) → dd_at (step_at steps k).dds d ≡ dd_at (step_at steps (k + 1 - 1)).dds (d + 1 - 1)
dd_of steps k d = ap (λ (s : StepPlan). dd_at s.dds d) (step_of steps k) ∙ ap (dd_at (step_at steps (k + 1 - 1)).dds) (sym (one_less d))

pub is_step : (steps : List StepPlan) (k : ℕ) → k < length steps → IsStep steps (k + 1)
is_step steps k h = (omega arith, omega arith)

pub is_dd : (steps : List StepPlan) (k d : ℕ) → k < length steps → d < length (step_at steps k).dds → IsDd steps (k + 1) (d + 1)
is_dd steps k d h w = (omega arith, omega arith, omega arith, subst (λ (s : StepPlan). d + 1 ≤ length s.dds) (step_of steps k) (omega arith))

-- an action by the numbers of its step and its DD
pub by_step : (steps : List StepPlan) (act : ℕ → StepPlan → Action) (k : ℕ) (l rest : List Action) → l ≡ act (k + 1) (step_at steps k) ∷ rest →
    l ≡ act (k + 1) (step_at steps (k + 1 - 1)) ∷ rest
by_step steps act k l rest e = e ∙ ap (λ s. act (k + 1) s ∷ rest) (step_of steps k)

pub by_dd : (steps : List StepPlan) (act : ℕ → ℕ → DdPlan → Action) (k d : ℕ) (l rest : List Action) →
    l ≡ act (k + 1) (d + 1) (dd_at (step_at steps k).dds d) ∷ rest →
    l ≡ act (k + 1) (d + 1) (dd_at (step_at steps (k + 1 - 1)).dds (d + 1 - 1)) ∷ rest
by_dd steps act k d l rest e = e ∙ ap (λ x. act (k + 1) (d + 1) x ∷ rest) (dd_of steps k d)

pub step_at_is : (steps : List StepPlan) (n : ℕ) → IsStep steps n → slice_get steps (n - 1) ≡ Some (step_at steps (n - 1))
step_at_is steps n h = step_is steps (n - 1) (omega (arith, h.0, h.1))
