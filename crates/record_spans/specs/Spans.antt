-- Where the records of a job are, by its number. A record has its place, from 0.
use Rattle.std.specs.Prelude.{◌≡◌, ◌≢◌, ℕ, ◌+◌, ◌<◌, ◌≤◌, List, get_or, length}
use Rattle.record_spans.specs.declared.spans.Span.{Span}

-- the record at a place is in a span
pub record IsIn (span : Span) (k : ℕ) : Type 0 where
  pub from : span.low ≤ k
  pub to : k < span.high

abbrev pub no_span : Span
no_span = record { low = 0; high = 0 }

-- a span widened by record n has it, and all that it had
pub record Widens (span : Span) (n : ℕ) (wide : Span) : Type 0 where
  pub old : (k : ℕ) → IsIn span k → IsIn wide k
  pub new : (k : ℕ) → k + 1 ≡ n → IsIn wide k

-- the record at a place may be an owner's: it is in the owner's span, if the owner has one
abbrev pub MayOwn : List Span → ℕ → ℕ → Type 0
MayOwn spans owner k = owner < length spans → IsIn (get_or spans owner no_span) k

-- each record that has an owner is in the owner's span, by the owners of the records
abbrev pub AreSpanned : List Span → List ℕ → Type 0
AreSpanned spans owners = (k : ℕ) → get_or owners k 0 ≢ 0 → MayOwn spans (get_or owners k 0) k
