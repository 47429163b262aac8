-- Two fronts of one list: the one is the front of the other.
use Rattle.std.proofs.Common.{◌≡◌, ◌⊎◌, ◌+◌, inl, inr, ℕ, List, [], ◌∷◌, ◌++◌, append_assoc, length, length-append, arith, refl, sym, ap, subst, ◌∙◌}
use Rattle.std.proofs.lemmas.List.{append-nil}
use Rattle.machine_laws.specs.Listing.{GoesOn}

pub record Extends {X : Type 0} (xs ys : List X) : Type 0 where
  pub more : List X
  pub is : ys ≡ xs ++ more

extends_behind : {X : Type 0} (x : X) (xs ys : List X) → Extends xs ys → Extends (x ∷ xs) (x ∷ ys)
extends_behind x xs ys e = record { more = e.more; is = λ i. x ∷ e.is i }

pub two_fronts : {X : Type 0} (xs ys us vs : List X) → xs ++ us ≡ ys ++ vs → Extends xs ys ⊎ Extends ys xs
two_fronts [] ys us vs is = inl (record { more = ys; is = refl })
two_fronts (x ∷ xs) [] us vs is = inr (record { more = x ∷ xs; is = refl })
two_fronts {X = X} (x ∷ xs) (y ∷ ys) us vs is =
    let first : x ≡ y = cc in
    let rest : xs ++ us ≡ ys ++ vs = cc in
    elim (two_fronts xs ys us vs rest) [
      | inl e ↦ inl (subst (λ (z : X). Extends (x ∷ xs) (z ∷ ys)) first (extends_behind x xs ys e))
      | inr e ↦ inr (subst (λ (z : X). Extends (z ∷ ys) (x ∷ xs)) first (extends_behind x ys xs e))
    ]

-- of texts
pub front_of : (one two whole : List ℕ) → GoesOn one two → GoesOn two whole → GoesOn one whole
front_of one two whole a b = record {
  behind = a.behind ++ b.behind;
  is = b.is ∙ ap (λ (t : List ℕ). t ++ b.behind) a.is ∙ append_assoc one a.behind b.behind;
}

pub compared : (one other whole : List ℕ) → GoesOn one whole → GoesOn other whole → GoesOn one other ⊎ GoesOn other one
compared one other whole a b =
    elim (two_fronts one other a.behind b.behind (sym a.is ∙ b.is)) [
      | inl e ↦ inl (record { behind = e.more; is = e.is })
      | inr e ↦ inr (record { behind = e.more; is = e.is })
    ]

none_left : (xs : List ℕ) → length xs ≡ 0 → xs ≡ []
none_left [] is = refl
none_left (x ∷ xs) is = absurd cc

-- each is the front of the other
pub both_fronts : (one other : List ℕ) → GoesOn one other → GoesOn other one → one ≡ other
both_fronts one other a b =
    let size : length other ≡ length (one ++ a.behind) = ap length a.is in
    let size_too : length one ≡ length (other ++ b.behind) = ap length b.is in
    let none : length a.behind ≡ 0 = omega (arith, size, size_too, length-append one a.behind, length-append other b.behind) in
    sym (a.is ∙ ap (λ (t : List ℕ). one ++ t) (none_left a.behind none) ∙ append-nil one)
