-- The statements before the one that is refused are taken.
use Rattle.std.proofs.Common.{◌≡◌, ◌∷◌, ◌∙◌, ℕ, zero, suc, ◌+◌, List, [], Result, Ok, Err, take, arith, refl, sym}
use Rattle.card_core.specs.declared.statement.Statement.{Statement}
use Rattle.jcl_deck.specs.Decks.{Place, behind, start}
use Rattle.jcl_plan.specs.declared.fault.Cause.{Cause}
use Rattle.deck_places.specs.Statements.{RefusedAt, TakenTo, read_by, read_from}
use Rattle.deck_places.proofs.Spotted.{number_in}

before_turn : (i k : ℕ) (moved : Result Place Cause) (statements : List Statement) (n : ℕ) (cause : Cause) → n ≡ k + suc i →
    ((next : Place) → read_from (k + 1) next statements ≡ RefusedAt n cause → (last : Place) × (read_from (k + 1) next (take i statements) ≡ TakenTo last)) →
    read_by k moved (λ next. read_from (k + 1) next statements) ≡ RefusedAt n cause →
    (last : Place) × (read_by k moved (λ next. read_from (k + 1) next (take i statements)) ≡ TakenTo last)
before_turn i k (Err c) statements n cause far more e = let h : k ≡ n = number_in k n c cause e in absurd (omega (arith, h, far))
before_turn i k (Ok next) statements n cause far more e = more next e

pub taken_before : (i k : ℕ) (place : Place) (statements : List Statement) (n : ℕ) (cause : Cause) → n ≡ k + i → read_from k place statements ≡ RefusedAt n cause →
    (last : Place) × (read_from k place (take i statements) ≡ TakenTo last)
taken_before zero k place statements n cause far e = (place, refl)
taken_before (suc i) k place [] n cause far e = absurd cc
taken_before (suc i) k place (s ∷ statements) n cause far e =
    before_turn i k (behind place s) statements n cause far
    (λ next h. taken_before i (k + 1) next statements n cause (let more : n ≡ k + 1 + i = omega (arith, far) in more) h) e

-- none of them is refused
pub taken_only : (i : ℕ) (statements : List Statement) (cause : Cause) → read_from 0 start statements ≡ RefusedAt i cause →
    (m : ℕ) (other : Cause) → read_from 0 start (take i statements) ≡ RefusedAt m other → ⊥
taken_only i statements cause refused m other e = by (taken_before i 0 start statements i cause (omega arith) refused)
  where
    by : (last : Place) × (read_from 0 start (take i statements) ≡ TakenTo last) → ⊥
    by (last, taken) = let both : TakenTo last ≡ RefusedAt m other = sym taken ∙ e in absurd cc
