-- Conditions of steps, one after another.
use Rattle.std.proofs.Common.{◌≡◌, refl, sym, ap, ◌∙◌, ℕ, zero, suc, ◌+◌, ◌<◌, Bool, true}
use Rattle.std.proofs.Common.{false, cond, List, [], ◌∷◌, length, map, Option, Some, None, slice_index_or, slice_set, arith}
use Rattle.std.specs.List.{position, position_from}
use Rattle.std.proofs.lemmas.Iterator.Adapters.{position_from-zero}
use Rattle.std.proofs.lemmas.List.Quantifiers.{position-Some}
use Rattle.list_values.specs.declared.condition.Condition.{Condition}
use Rattle.jcl_cards.specs.declared.exec.StepCondition.{StepCondition}
use Rattle.jcl_procs.specs.declared.step.FlatStep.{FlatStep}
use Rattle.jcl_procs.specs.Overrides.{is_step, with_step_condition, with_this}

-- the first n steps changed
abbrev pub changed : (FlatStep → FlatStep) → ℕ → List FlatStep → List FlatStep
changed f zero steps = steps
changed f (suc n) [] = []
changed f (suc n) (step ∷ steps) = f step ∷ changed f n steps

pub one_more_changed : (f : FlatStep → FlatStep) (steps : List FlatStep) (n : ℕ) (d : FlatStep) → n < length steps →
    slice_set (changed f n steps) n (f (slice_index_or (changed f n steps) n d)) ≡ changed f (suc n) steps
one_more_changed f [] n d lt = absurd (omega (arith, lt))
one_more_changed f (step ∷ steps) zero d lt = refl
one_more_changed f (step ∷ steps) (suc n) d lt = ap (λ left. f step ∷ left) (one_more_changed f steps n d (omega (arith, lt)))

pub put_more : (c copy : Condition) (steps left : List FlatStep) (n : ℕ) (d : FlatStep) → n < length steps → left ≡ changed (with_this c) n steps → copy ≡ c →
    slice_set left n (record (slice_index_or left n d) { condition = copy }) ≡ changed (with_this c) (n + 1) steps
put_more c copy steps left n d lt is same =
    let f : FlatStep → FlatStep = with_this c in
    let more : suc n ≡ n + 1 = omega arith in
    ap (λ left. slice_set left n (record (slice_index_or left n d) { condition = copy })) is
    ∙ ap (λ copy. slice_set (changed f n steps) n (record (slice_index_or (changed f n steps) n d) { condition = copy })) same
    ∙ one_more_changed f steps n d lt
    ∙ ap (λ n. changed f n steps) more

pub all_changed : (f : FlatStep → FlatStep) (steps : List FlatStep) → changed f (length steps) steps ≡ map f steps
all_changed f [] = refl
all_changed f (step ∷ steps) = ap (λ left. f step ∷ left) (all_changed f steps)

-- the first step of the name
pub at_first : (own : StepCondition) (steps : List FlatStep) (n : ℕ) (d : FlatStep) → n < length steps → is_step own.step (slice_index_or steps n d) ≡ true →
    ((k : ℕ) → k < n → is_step own.step (slice_index_or steps k d) ≡ false) →
    slice_set steps n (record (slice_index_or steps n d) { condition = own.condition }) ≡ with_step_condition steps own
at_first own [] n d lt is before = absurd (omega (arith, lt))
at_first own (step ∷ steps) zero d lt is before =
    ap (λ b. cond b (record step { condition = own.condition } ∷ steps) (step ∷ with_step_condition steps own)) (sym is)
at_first own (step ∷ steps) (suc n) d lt is before =
    ap (λ left. step ∷ left) (at_first own steps n d (omega (arith, lt)) is (λ k le. before (suc k) (omega (arith, le))))
    ∙ ap (λ b. cond b (record step { condition = own.condition } ∷ steps) (step ∷ with_step_condition steps own)) (sym (before 0 (omega arith)))

pub at_place : (own : StepCondition) (steps : List FlatStep) (n : ℕ) (d : FlatStep) → position (is_step own.step) steps ≡ Some n →
    slice_set steps n (record (slice_index_or steps n d) { condition = own.condition }) ≡ with_step_condition steps own
at_place own steps n d is =
    let there = position-Some (is_step own.step) steps n d is in
    at_first own steps n d there.0 there.1 there.2

none_here : (b : Bool) (i : ℕ) (place : Option ℕ) (step : FlatStep) (steps left : List FlatStep) (own : StepCondition) → cond b (Some i) place ≡ None →
    (place ≡ None → left ≡ steps) → cond b (record step { condition = own.condition } ∷ steps) (step ∷ left) ≡ step ∷ steps
none_here true i place step steps left own is same = cc
none_here false i place step steps left own is same = ap (λ left. step ∷ left) (same is)

none_from : (own : StepCondition) (steps : List FlatStep) (i : ℕ) → position_from (is_step own.step) i steps ≡ None → with_step_condition steps own ≡ steps
none_from own [] i is = refl
none_from own (step ∷ steps) i is =
    none_here (is_step own.step step) i (position_from (is_step own.step) (i + 1) steps) step steps (with_step_condition steps own) own is
    (λ none. none_from own steps (i + 1) none)

pub at_none : (own : StepCondition) (steps : List FlatStep) → position (is_step own.step) steps ≡ None → steps ≡ with_step_condition steps own
at_none own steps is = sym (none_from own steps 0 (sym (position_from-zero (is_step own.step) steps) ∙ is))
