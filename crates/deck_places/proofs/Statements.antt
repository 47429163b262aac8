-- Statements that are read one by one, and their deck.
use Rattle.std.proofs.Common.{◌≡◌, ◌∷◌, ℕ, ◌+◌, List, [], Ok, Err, Result, ap}
use Rattle.card_core.specs.declared.statement.Statement.{Statement}
use Rattle.jcl_deck.specs.declared.deck.Deck.{Deck}
use Rattle.jcl_deck.specs.Decks.{Place, behind, deck_behind, deck_from, ended_with}
use Rattle.jcl_plan.specs.declared.fault.Cause.{Cause}
use Rattle.deck_places.specs.Statements.{Reading, RefusedAt, TakenTo, read_by, read_from}

same_cause : (m n : ℕ) (a b : Cause) → RefusedAt m a ≡ RefusedAt n b → a ≡ b
same_cause m n a b e = ap cause_in e
  where
    cause_in : Reading → Cause
    cause_in (RefusedAt k c) = c
    cause_in (TakenTo place) = a

same_place : (p q : Place) → TakenTo p ≡ TakenTo q → p ≡ q
same_place p q e = ap place_in e
  where
    place_in : Reading → Place
    place_in (TakenTo place) = place
    place_in (RefusedAt k c) = p

-- what is refused one by one is refused as a deck
refused_turn : (k : ℕ) (moved : Result Place Cause) (statements : List Statement) (n : ℕ) (cause : Cause) →
    ((next : Place) → read_from (k + 1) next statements ≡ RefusedAt n cause → deck_from next statements ≡ Err cause) →
    read_by k moved (λ next. read_from (k + 1) next statements) ≡ RefusedAt n cause → deck_behind moved (λ next. deck_from next statements) ≡ Err cause
refused_turn k (Err c) statements n cause more e = ap (λ x. let r : Result Deck Cause = Err x in r) (same_cause k n c cause e)
refused_turn k (Ok next) statements n cause more e = more next e

pub deck_refused : (k : ℕ) (place : Place) (statements : List Statement) (n : ℕ) (cause : Cause) → read_from k place statements ≡ RefusedAt n cause →
    deck_from place statements ≡ Err cause
deck_refused k place [] n cause e = absurd cc
deck_refused k place (s ∷ statements) n cause e =
    refused_turn k (behind place s) statements n cause (λ next h. deck_refused (k + 1) next statements n cause h) e

-- and where all are taken the deck is that of its end
ended_turn : (k : ℕ) (moved : Result Place Cause) (statements : List Statement) (last : Place) →
    ((next : Place) → read_from (k + 1) next statements ≡ TakenTo last → deck_from next statements ≡ ended_with last.job last) →
    read_by k moved (λ next. read_from (k + 1) next statements) ≡ TakenTo last →
    deck_behind moved (λ next. deck_from next statements) ≡ ended_with last.job last
ended_turn k (Err c) statements last more e = absurd cc
ended_turn k (Ok next) statements last more e = more next e

pub deck_ended : (k : ℕ) (place : Place) (statements : List Statement) (last : Place) → read_from k place statements ≡ TakenTo last →
    deck_from place statements ≡ ended_with last.job last
deck_ended k place [] last e = ap (λ (p : Place). ended_with p.job p) (same_place place last e)
deck_ended k place (s ∷ statements) last e = ended_turn k (behind place s) statements last (λ next h. deck_ended (k + 1) next statements last h) e
