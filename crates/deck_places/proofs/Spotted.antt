-- Each place is at a statement that begins.
use Rattle.std.proofs.Common.{◌≡◌, ◌∷◌, ◌<◌, ℕ, suc, ◌+◌, List, [], Result, Ok, Err, length, refl, ap, arith, sym, subst}
use Rattle.card_core.specs.declared.fault.CardFault.{CardFault}
use Rattle.card_core.specs.declared.statement.Statement.{Statement}
use Rattle.card_core.specs.Deck.{statements_of}
use Rattle.jcl_deck.specs.Decks.{Place, behind, start}
use Rattle.jcl_plan.specs.declared.fault.Cause.{Cause}
use Rattle.proc_library.specs.declared.library.LibraryProcedure.{LibraryProcedure}
use Rattle.deck_places.specs.Cards.{walk_of}
use Rattle.deck_places.specs.Places.{IsAmong, IsPlace}
use Rattle.deck_places.specs.Spots.{IsWithin}
use Rattle.deck_places.specs.Statements.{Reading, RefusedAt, TakenTo, read_by, read_from}
use Rattle.deck_places.specs.declared.judge.At.{At}
use Rattle.deck_places.specs.declared.judge.At.TheVariants as place
use Rattle.deck_places.proofs.Begun.{as_many}

pub number_in : (m n : ℕ) (a b : Cause) → RefusedAt m a ≡ RefusedAt n b → m ≡ n
number_in m n a b e = ap number_of e
  where
    number_of : Reading → ℕ
    number_of (RefusedAt k c) = k
    number_of (TakenTo place) = m

-- the statement that is refused is one of them
refused_turn : (k : ℕ) (moved : Result Place Cause) (statements : List Statement) (n : ℕ) (cause : Cause) →
    ((next : Place) → read_from (k + 1) next statements ≡ RefusedAt n cause → n < k + 1 + length statements) →
    read_by k moved (λ next. read_from (k + 1) next statements) ≡ RefusedAt n cause → n < k + suc (length statements)
refused_turn k (Err c) statements n cause more e = let h : k ≡ n = number_in k n c cause e in omega arith
refused_turn k (Ok next) statements n cause more e = let h : n < k + 1 + length statements = more next e in omega arith

pub refused_one : (k : ℕ) (place : Place) (statements : List Statement) (n : ℕ) (cause : Cause) → read_from k place statements ≡ RefusedAt n cause →
    n < k + length statements
refused_one k place [] n cause e = absurd cc
refused_one k place (s ∷ statements) n cause e =
    refused_turn k (behind place s) statements n cause (λ next h. refused_one (k + 1) next statements n cause h) e

module _ (units : List (List ℕ)) (library : List LibraryProcedure) (lines : List (List ℕ)) (cause : Cause) where
  among : (statements : List Statement) → length (walk_of lines).begun ≡ length statements → (at : At) → IsAmong units library statements cause at →
      IsWithin (walk_of lines).begun at
  among statements many (place.Card n) h = tt
  among statements many (place.Statement k) h =
      let one : k < 0 + length statements = refused_one 0 start statements k cause h in
      subst (λ n. k < n) (sym many) (let less : k < length statements = omega arith in less)
  among statements many place.End h = tt
  among statements many (place.Call k) h = subst (λ n. k < n) (sym many) h.there
  among statements many (place.Planned part k) h = subst (λ n. k < n) (sym many) h.there

  at_card : (at : At) (n : ℕ) → at ≡ place.Card n → IsWithin (walk_of lines).begun at
  at_card at n e = subst (IsWithin (walk_of lines).begun) (sym e) tt

  by_cards : (r : Result (List Statement) CardFault) → statements_of lines ≡ r → (at : At) →
      (IsPlace units library lines cause at → IsWithin (walk_of lines).begun at)
  by_cards (Err fault) e at = rw e (λ h. at_card at h.0 h.1)
  by_cards (Ok statements) e at = rw e (λ h. among statements (as_many lines statements e) at h)

  pub place_is_within : (at : At) → IsPlace units library lines cause at → IsWithin (walk_of lines).begun at
  place_is_within at h = by_cards (statements_of lines) refl at h
