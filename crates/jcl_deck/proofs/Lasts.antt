-- the last of a list
use Rattle.std.proofs.Common.{◌≡◌, ℕ, ◌-◌, suc, zero, false, not, nat_eq, List, [], ◌∷◌, ◌++◌, length, map, slice_set, slice_index_or, Some, refl, ap, arith}
use Rattle.std.specs.List.{slice_get}
use Rattle.card_core.specs.declared.statement.Statement.{Statement}
use Rattle.jcl_dds.specs.declared.dd.DdCard.{DdCard}
use Rattle.jcl_deck.specs.declared.deck.DeckStep.{DeckStep}
use Rattle.jcl_deck.specs.declared.deck.Procedure.{Procedure}
use Rattle.jcl_deck.specs.Decks.{last_has_dd, onto_last, onto_open}

pub one_more : (n : ℕ) → false ≡ nat_eq n 0 → n ≡ suc (n - 1)
one_more zero h = cc
one_more (suc n) h = omega arith

last_by : (steps : List DeckStep) (i : ℕ) (step : DeckStep) → length steps ≡ suc i → slice_get steps i ≡ Some step →
    last_has_dd (map (λ s. s.dds) steps) ≡ not (nat_eq (length step.dds) 0)
last_by [] i step h is = absurd (omega (arith, h))
last_by (x ∷ []) zero step h is = let same : x ≡ step = cc in ap (λ (s : DeckStep). not (nat_eq (length s.dds) 0)) same
last_by (x ∷ []) (suc i) step h is = absurd (omega (arith, h))
last_by (x ∷ y ∷ steps) zero step h is = absurd (omega (arith, h))
last_by (x ∷ y ∷ steps) (suc i) step h is = last_by (y ∷ steps) i step (omega (arith, h)) is

some_length : (steps : List DeckStep) (step : DeckStep) → slice_get steps (length steps - 1) ≡ Some step → length steps ≡ suc (length steps - 1)
some_length [] step is = cc
some_length (x ∷ steps) step is = omega arith

pub last_is : (steps : List DeckStep) (step : DeckStep) → slice_get steps (length steps - 1) ≡ Some step →
    last_has_dd (map (λ s. s.dds) steps) ≡ not (nat_eq (length step.dds) 0)
last_is steps step is = last_by steps (length steps - 1) step (some_length steps step is) is

abbrev pub with_dd_behind : DdCard → DeckStep → DeckStep
with_dd_behind dd step = record step { dds = step.dds ++ dd ∷ [] }

pub onto_last_at : (dd : DdCard) (steps : List DeckStep) (i : ℕ) (step : DeckStep) → length steps ≡ suc i → step ≡ slice_index_or steps i step →
    slice_set steps i (with_dd_behind dd step) ≡ onto_last dd steps
onto_last_at dd [] i step h is = absurd (omega (arith, h))
onto_last_at dd (x ∷ []) zero step h is = ap (λ (s : DeckStep). with_dd_behind dd s ∷ []) is
onto_last_at dd (x ∷ []) (suc i) step h is = absurd (omega (arith, h))
onto_last_at dd (x ∷ y ∷ steps) zero step h is = absurd (omega (arith, h))
onto_last_at dd (x ∷ y ∷ steps) (suc i) step h is = ap (λ others. x ∷ others) (onto_last_at dd (y ∷ steps) i step (omega (arith, h)) is)

abbrev pub with_statement : Statement → Procedure → Procedure
with_statement s p = record p { statements = p.statements ++ s ∷ [] }

pub onto_open_at : (s : Statement) (procedures : List Procedure) (i : ℕ) (p : Procedure) → length procedures ≡ suc i →
    p ≡ slice_index_or procedures i p →
    slice_set procedures i (with_statement s p) ≡ onto_open s procedures
onto_open_at s [] i p h is = absurd (omega (arith, h))
onto_open_at s (x ∷ []) zero p h is = ap (λ (q : Procedure). with_statement s q ∷ []) is
onto_open_at s (x ∷ []) (suc i) p h is = absurd (omega (arith, h))
onto_open_at s (x ∷ y ∷ procedures) zero p h is = absurd (omega (arith, h))
onto_open_at s (x ∷ y ∷ procedures) (suc i) p h is = ap (λ others. x ∷ others) (onto_open_at s (y ∷ procedures) i p (omega (arith, h)) is)

-- what stands there already changes nothing
pub set_itself : {X : Type 0} (xs : List X) (i : ℕ) (x : X) → x ≡ slice_index_or xs i x → slice_set xs i x ≡ xs
set_itself [] i x is = refl
set_itself (y ∷ xs) zero x is = ap (λ z. z ∷ xs) is
set_itself (y ∷ xs) (suc i) x is = ap (λ others. y ∷ others) (set_itself xs i x is)
