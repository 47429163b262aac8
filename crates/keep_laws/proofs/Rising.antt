-- Two rising lists of places with the same elements are one.
use Rattle.std.proofs.Common.{◌≡◌, ◌⊎◌, inl, inr, ◌<◌, ℕ, List, [], ◌∷◌, Option, Some, None, refl, sym, ◌∙◌, subst, arith}
use Rattle.std.specs.Prelude.{All}
use Rattle.std.specs.List.{Contains, position}
use Rattle.std.specs.Str.{bytes_eq}
use Rattle.std.proofs.lemmas.List.Elements.{All-contains}
use Rattle.jcl_meaning.specs.declared.state.Place.{Place}
use Rattle.path_meaning.specs.Verdicts.{AreRising, ComesBefore, IsOnEarlier, IsOnEarlierVolume}
use Rattle.keep_laws.proofs.Elements.{first_or_later, in_front, in_no_list, later_too}

-- no two places come before each other
not_both_earlier : (i j : Option ℕ) → IsOnEarlier i j → IsOnEarlier j i → ⊥
not_both_earlier (Some i) (Some j) h g = let a : i < j = h in let b : j < i = g in absurd (omega arith)
not_both_earlier (Some i) None h g = g
not_both_earlier None other h g = h

module _ (volumes : List (List ℕ)) where
  not_both_ways : (p q : Place) → ComesBefore volumes p q → ComesBefore volumes q p → ⊥
  not_both_ways p q (inl h) (inl g) = absurd (omega arith)
  not_both_ways p q (inl h) (inr g) = let same : q.step ≡ p.step = g.0 in absurd (omega arith)
  not_both_ways p q (inr h) (inl g) = let same : p.step ≡ q.step = h.0 in absurd (omega arith)
  not_both_ways p q (inr h) (inr g) = by_dd h.1 g.1
    where
      by_dd : (p.dd < q.dd) ⊎ ((p.dd ≡ q.dd) × IsOnEarlierVolume volumes p q) → (q.dd < p.dd) ⊎ ((q.dd ≡ p.dd) × IsOnEarlierVolume volumes q p) → ⊥
      by_dd (inl a) (inl b) = absurd (omega arith)
      by_dd (inl a) (inr b) = let same : q.dd ≡ p.dd = b.0 in absurd (omega arith)
      by_dd (inr a) (inl b) = let same : p.dd ≡ q.dd = a.0 in absurd (omega arith)
      by_dd (inr a) (inr b) = not_both_earlier (position (bytes_eq p.serial) volumes) (position (bytes_eq q.serial) volumes) a.1 b.1

  same_first : (p q : Place) (ps qs : List Place) → All (ComesBefore volumes p) ps → All (ComesBefore volumes q) qs → Contains (q ∷ qs) p →
      Contains (p ∷ ps) q → p ≡ q
  same_first p q ps qs rising rising_too p_there q_there = by_places (first_or_later q p qs p_there) (first_or_later p q ps q_there)
    where
      by_places : (q ≡ p) ⊎ Contains qs p → (p ≡ q) ⊎ Contains ps q → p ≡ q
      by_places (inl e) other = sym e
      by_places (inr a) (inl e) = e
      by_places (inr a) (inr b) =
          absurd (not_both_ways p q (All-contains (ComesBefore volumes p) ps q rising b) (All-contains (ComesBefore volumes q) qs p rising_too a))

  -- what stands behind the first of a rising list is not the first
  not_first : (p x : Place) (ps : List Place) → All (ComesBefore volumes p) ps → Contains ps x → p ≡ x → ⊥
  not_first p x ps rising there e =
      let before : ComesBefore volumes p x = All-contains (ComesBefore volumes p) ps x rising there in
      let itself : ComesBefore volumes p p = subst (ComesBefore volumes p) (sym e) before in
      not_both_ways p p itself itself

  behind_first : (p q x : Place) (ps qs : List Place) → All (ComesBefore volumes p) ps → p ≡ q → Contains ps x → Contains (q ∷ qs) x → Contains qs x
  behind_first p q x ps qs rising first there h =
      elim (first_or_later q x qs h) [
        | inl e ↦ absurd (not_first p x ps rising there (first ∙ e))
        | inr later ↦ later
      ]

  pub same_lists : (ps qs : List Place) → AreRising volumes ps → AreRising volumes qs → ((x : Place) → Contains ps x → Contains qs x) →
      ((x : Place) → Contains qs x → Contains ps x) → ps ≡ qs
  same_lists [] [] rising rising_too there back = refl
  same_lists [] (q ∷ qs) rising rising_too there back = absurd (in_no_list q (back q (in_front q qs)))
  same_lists (p ∷ ps) [] rising rising_too there back = absurd (in_no_list p (there p (in_front p ps)))
  same_lists (p ∷ ps) (q ∷ qs) rising rising_too there back =
      let first : p ≡ q = same_first p q ps qs rising.0 rising_too.0 (there p (in_front p ps)) (back q (in_front q qs)) in
      let rest : ps ≡ qs = same_lists ps qs rising.1 rising_too.1
      (λ x h. behind_first p q x ps qs rising.0 first h (there x (later_too p x ps h)))
      (λ x h. behind_first q p x qs ps rising_too.0 (sym first) h (back x (later_too q x qs h))) in
      λ i. first i ∷ rest i
