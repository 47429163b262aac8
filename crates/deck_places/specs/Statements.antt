-- The statement of a deck that is refused where it stands. (This profile)
use Rattle.std.specs.Prelude.{◌≡◌, ℕ, ◌+◌, List, [], ◌∷◌, Result, Ok, Err}
use Rattle.card_core.specs.declared.statement.Statement.{Statement}
use Rattle.jcl_plan.specs.declared.fault.Cause.{Cause}
use Rattle.jcl_deck.specs.Decks.{Place, behind, start}

-- statements are read one by one: all are taken, and the deck is this so far; or the k-th, from 0, is refused
pub data Reading : Type 0 where
  TakenTo : Place → Reading
  RefusedAt : ℕ → Cause → Reading

abbrev pub read_by : ℕ → Result Place Cause → (Place → Reading) → Reading
read_by k (Err cause) next = RefusedAt k cause
read_by k (Ok place) next = next place

abbrev pub read_from : ℕ → Place → List Statement → Reading
read_from k place [] = TakenTo place
read_from k place (s ∷ statements) = read_by k (behind place s) (λ next. read_from (k + 1) next statements)

-- a deck of these statements is refused for this at the k-th
abbrev pub IsRefusedAt : List Statement → ℕ → Cause → Type 0
IsRefusedAt statements k cause = read_from 0 start statements ≡ RefusedAt k cause
