-- The numbers that a walk meets: each is new.
use Rattle.std.proofs.Common.{◌≡◌, ℕ, ◌==◌, Bool, true, false, not, List, [], ◌∷◌, ◌++◌, refl, sym, ap, ◌∙◌, subst, inl, inr, eqb-true, eq-eqb}
use Rattle.std.specs.List.{list_any}
use Rattle.std.proofs.lemmas.Bool.{and_from, both_ways, cases_Bool, or_from, or_left, or_right}
use Rattle.plain.specs.Lists.{are_different}

abbrev pub is_met : List ℕ → ℕ → Bool
is_met seen n = list_any (λ m. m == n) seen

abbrev pub onto : List ℕ → List ℕ → List ℕ
onto [] seen = seen
onto (n ∷ ns) seen = onto ns (n ∷ seen)

abbrev pub AreNew : List ℕ → List ℕ → Type 0
AreNew seen [] = Unit {0}
AreNew seen (n ∷ ns) = (is_met seen n ≡ false) × AreNew (n ∷ seen) ns

onto_both : (xs ys seen : List ℕ) → onto (xs ++ ys) seen ≡ onto ys (onto xs seen)
onto_both [] ys seen = refl
onto_both (x ∷ xs) ys seen = onto_both xs ys (x ∷ seen)

new_both : (xs ys seen : List ℕ) → AreNew seen xs → AreNew (onto xs seen) ys → AreNew seen (xs ++ ys)
new_both [] ys seen h g = g
new_both (x ∷ xs) ys seen h g = (h.0, new_both xs ys (x ∷ seen) h.1 g)

-- from those that were met on, by these numbers, to those that are met then
pub record Passes (seen numbers met : List ℕ) : Type 0 where
  pub new : AreNew seen numbers
  pub after : met ≡ onto numbers seen

pub passes_none : (seen met : List ℕ) → met ≡ seen → Passes seen [] met
passes_none seen met e = record { new = tt; after = e }

pub passes_first : (n : ℕ) (seen numbers met : List ℕ) → is_met seen n ≡ false → Passes (n ∷ seen) numbers met → Passes seen (n ∷ numbers) met
passes_first n seen numbers met h p = record { new = (h, p.new); after = p.after }

pub passes_both : (seen xs middle ys met : List ℕ) → Passes seen xs middle → Passes middle ys met → Passes seen (xs ++ ys) met
passes_both seen xs middle ys met p r = record {
  new = new_both xs ys seen p.new (subst (λ (s : List ℕ). AreNew s ys) p.after r.new);
  after = r.after ∙ (ap (onto ys) p.after ∙ sym (onto_both xs ys seen));
}

other_than : (m n : ℕ) (seen : List ℕ) → is_met seen m ≡ false → is_met seen n ≡ true → (m == n) ≡ false
other_than m n seen h g =
    elim (cases_Bool (m == n)) [
      | inr other ↦ other
      | inl same ↦ absurd (both_ways (is_met seen m) h (ap (is_met seen) (eqb-true m n same) ∙ g))
    ]

not_again : (n : ℕ) (numbers seen : List ℕ) → is_met seen n ≡ true → AreNew seen numbers → is_met numbers n ≡ false
not_again n [] seen g h = refl
not_again n (m ∷ ms) seen g h =
    or_from (m == n) (is_met ms n) (other_than m n seen h.0 g) (not_again n ms (m ∷ seen) (or_right (m == n) (is_met seen n) g) h.1)

pub all_different : (numbers seen : List ℕ) → AreNew seen numbers → are_different numbers ≡ true
all_different [] seen h = refl
all_different (n ∷ ns) seen h =
    let once = not_again n ns (n ∷ seen) (or_left (n == n) (is_met seen n) (eq-eqb n n refl)) h.1 in
    and_from (not (is_met ns n)) (are_different ns) (ap not once) (all_different ns (n ∷ seen) h.1)
