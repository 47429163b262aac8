-- The marks of a DD, read back.
use Rattle.std.proofs.Common.{◌≡◌, ◌==◌, ◌+◌, ℕ, Bool, true, false, List, Option, Some, None, refl, ap, ◌∙◌}
use Rattle.std.specs.Prelude.{bit_and, nat_lt}
use Rattle.jcl_plan.specs.declared.plan.Space.{Space}
use Rattle.cb_meaning.specs.Codes.{mark}
use Rattle.cb_meaning.specs.Fields.{byte_at}
use Rattle.cb_meaning.specs.Spelled.{of_space}
use Rattle.cb_meaning.specs.Walks.{continues, has_space, releases}

abbrev pub marks : Bool → Bool → Bool → ℕ
marks a b c = mark a 1 + (mark b 4 + mark c 2)

record ReadBack (a b c : Bool) : Type 0 where
  first : (bit_and (marks a b c) 1 == 1) ≡ a
  second : (bit_and (marks a b c) 2 == 2) ≡ c
  third : (bit_and (marks a b c) 4 == 4) ≡ b
  few : nat_lt 7 (marks a b c) ≡ false

read_back : (a b c : Bool) → ReadBack a b c
read_back true true true = record { first = refl; second = refl; third = refl; few = refl }
read_back true true false = record { first = refl; second = refl; third = refl; few = refl }
read_back true false true = record { first = refl; second = refl; third = refl; few = refl }
read_back true false false = record { first = refl; second = refl; third = refl; few = refl }
read_back false true true = record { first = refl; second = refl; third = refl; few = refl }
read_back false true false = record { first = refl; second = refl; third = refl; few = refl }
read_back false false true = record { first = refl; second = refl; third = refl; few = refl }
read_back false false false = record { first = refl; second = refl; third = refl; few = refl }

abbrev pub released : Option Space → Bool
released None = false
released (Some s) = s.release

pub space_marks : (space : Option Space) → of_space space (λ s. mark s.release 2) ≡ mark (released space) 2
space_marks None = refl
space_marks (Some s) = refl

module _ (r : List ℕ) (a b c : Bool) (is : byte_at r 24 ≡ marks a b c) where
  pub continues_is : continues r ≡ a
  continues_is = ap (λ n. bit_and n 1 == 1) is ∙ (read_back a b c).first

  pub releases_is : releases r ≡ c
  releases_is = ap (λ n. bit_and n 2 == 2) is ∙ (read_back a b c).second

  pub has_space_is : has_space r ≡ b
  has_space_is = ap (λ n. bit_and n 4 == 4) is ∙ (read_back a b c).third

  pub no_other : nat_lt 7 (byte_at r 24) ≡ false
  no_other = ap (λ n. nat_lt 7 n) is ∙ (read_back a b c).few
