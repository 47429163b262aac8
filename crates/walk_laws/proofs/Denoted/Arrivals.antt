-- Arriving at a record of the job for the first time tells no fault.
use Rattle.std.proofs.Common.{◌≡◌, ◌==◌, ◌||◌, ◌≤◌, arith, ℕ, false, not, cond, List, Option, Some, None, Result, Ok, ap, ◌∙◌}
use Rattle.std.specs.Prelude.{nat_lt}
use Rattle.std.proofs.lemmas.Bool.{eq-eqb, le-ltb, ne_eqb, not_from_true, or_from}
use Rattle.cb_meaning.specs.declared.layout.Layout.{Layout}
use Rattle.cb_meaning.specs.Fields.{byte_at, field, number_at}
use Rattle.cb_meaning.specs.Spelled.{IsOwned, Records}
use Rattle.cb_meaning.specs.Walks.{and_then, arrival_fault, kind_of, owner_of, unless_fault}
use Rattle.walk_laws.proofs.Denoted.Seen.{is_among}

pub passes : {A : Type 0} (o : Option ℕ) (next : Unit {0} → Result A ℕ) → o ≡ None → unless_fault o next ≡ next tt
passes o next e = ap (λ x. unless_fault x next) e

pub passes_on : {A B : Type 0} (o : Result A ℕ) (a : A) (next : A → Result B ℕ) → o ≡ Ok a → and_then o next ≡ next a
passes_on o a next e = ap (λ x. and_then x next) e

module _ (l : Layout) (q : Records) (job kind n : ℕ) (owned : IsOwned l q job kind n) where
  in_range : (nat_lt n 1 || nat_lt l.most_records n) ≡ false
  in_range = or_from (nat_lt n 1) (nat_lt l.most_records n) (le-ltb n 1 owned.from_one) (le-ltb l.most_records n owned.within)

  of_kind : not (kind_of q n == kind) ≡ false
  of_kind =
      not_from_true (kind_of q n == kind)
      (eq-eqb (kind_of q n) kind (ap (λ b. cond b 0 (byte_at (q.at n) 0)) owned.in_use ∙ owned.of_kind))

  of_job : not (owner_of q n == job) ≡ false
  of_job =
      not_from_true (owner_of q n == job)
      (eq-eqb (owner_of q n) job (ap (λ b. cond b 0 (number_at (q.at n) (field 2 2))) owned.in_use ∙ owned.of_job))

  pub arrived : (seen : List ℕ) → is_among n seen ≡ false → arrival_fault l q job kind seen n ≡ None
  arrived seen new =
      λ i. cond (in_range i) (Some 1) (cond (of_kind i) (Some 2) (cond (of_job i) (Some 3) (cond (new i) (Some 4) None)))

  pub no_end : (n == 0) ≡ false
  no_end = ne_eqb n 0 (λ e. let low : 1 ≤ n = owned.from_one in let no : ⊥ = omega (arith, low, e) in no)
