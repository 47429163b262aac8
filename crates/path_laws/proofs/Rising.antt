-- Two rising lists with the same elements are one.
use Rattle.std.proofs.Common.{◌≡◌, ◌⊎◌, inl, inr, ◌<◌, ℕ, zero, suc, List, [], ◌∷◌, get_or, length, Option, Some, None, refl, sym, ◌∙◌, subst, arith}
use Rattle.std.specs.Prelude.{All}
use Rattle.std.specs.List.{Contains, position}
use Rattle.std.specs.Str.{bytes_eq}
use Rattle.std.proofs.lemmas.List.Elements.{All-contains}
use Rattle.jcl_meaning.specs.declared.state.Place.{Place}
use Rattle.jcl_meaning.specs.States.{Fixed}
use Rattle.jcl_meaning.specs.Stores.{Store}
use Rattle.jcl_plan.specs.declared.plan.JobPlan.{JobPlan}
use Rattle.path_meaning.specs.Paths.{Makes}
use Rattle.path_meaning.specs.Verdicts.{AreMade, AreRising, ComesBefore, IsOnEarlier, IsOnEarlierVolume}

-- no two places come before each other
not_both_earlier : (i j : Option ℕ) → IsOnEarlier i j → IsOnEarlier j i → ⊥
not_both_earlier (Some i) (Some j) h g = let a : i < j = h in let b : j < i = g in absurd (omega arith)
not_both_earlier (Some i) None h g = g
not_both_earlier None other h g = h

not_both_ways : (volumes : List (List ℕ)) (p q : Place) → ComesBefore volumes p q → ComesBefore volumes q p → ⊥
not_both_ways volumes p q (inl h) (inl g) = absurd (omega arith)
not_both_ways volumes p q (inl h) (inr g) = let same : q.step ≡ p.step = g.0 in absurd (omega arith)
not_both_ways volumes p q (inr h) (inl g) = let same : p.step ≡ q.step = h.0 in absurd (omega arith)
not_both_ways volumes p q (inr h) (inr g) = by_dd h.1 g.1
  where
    by_dd : (p.dd < q.dd) ⊎ ((p.dd ≡ q.dd) × IsOnEarlierVolume volumes p q) → (q.dd < p.dd) ⊎ ((q.dd ≡ p.dd) × IsOnEarlierVolume volumes q p) → ⊥
    by_dd (inl a) (inl b) = absurd (omega arith)
    by_dd (inl a) (inr b) = let same : q.dd ≡ p.dd = b.0 in absurd (omega arith)
    by_dd (inr a) (inl b) = let same : p.dd ≡ q.dd = a.0 in absurd (omega arith)
    by_dd (inr a) (inr b) = not_both_earlier (position (bytes_eq p.serial) volumes) (position (bytes_eq q.serial) volumes) a.1 b.1

-- an element of a list is its first or stands behind it
first_or_later : {X : Type 0} (x y : X) (xs : List X) (k : ℕ) → k < length (x ∷ xs) → get_or (x ∷ xs) k y ≡ y → (x ≡ y) ⊎ Contains xs y
first_or_later x y xs zero below e = inl e
first_or_later x y xs (suc k) below e = inr (k, omega arith, e)

in_front : {X : Type 0} (x : X) (xs : List X) → Contains (x ∷ xs) x
in_front x xs = (0, omega arith, refl)

later_too : {X : Type 0} (x y : X) (xs : List X) → Contains xs y → Contains (x ∷ xs) y
later_too x y xs h = (suc h.0, omega arith, h.2)

in_no_list : {X : Type 0} (x : X) → Contains [] x → ⊥
in_no_list {X} x h = let below : h.0 < length {A = X} [] = h.1 in absurd (omega arith)

module _ (volumes : List (List ℕ)) where
  same_first : (p q : Place) (ps qs : List Place) → All (ComesBefore volumes p) ps → All (ComesBefore volumes q) qs → Contains (q ∷ qs) p →
      Contains (p ∷ ps) q → p ≡ q
  same_first p q ps qs rising rising_too p_there q_there =
      by_places (first_or_later q p qs p_there.0 p_there.1 p_there.2) (first_or_later p q ps q_there.0 q_there.1 q_there.2)
    where
      by_places : (q ≡ p) ⊎ Contains qs p → (p ≡ q) ⊎ Contains ps q → p ≡ q
      by_places (inl e) other = sym e
      by_places (inr a) (inl e) = e
      by_places (inr a) (inr b) =
          absurd (not_both_ways volumes p q (All-contains (ComesBefore volumes p) ps q rising b) (All-contains (ComesBefore volumes q) qs p rising_too a))

  -- what stands in a list behind its first is not the first
  not_first : (p x : Place) (ps : List Place) → All (ComesBefore volumes p) ps → Contains ps x → p ≡ x → ⊥
  not_first p x ps rising there e =
      let before : ComesBefore volumes p x = All-contains (ComesBefore volumes p) ps x rising there in
      let itself : ComesBefore volumes p p = subst (ComesBefore volumes p) (sym e) before in
      not_both_ways volumes p p itself itself

  behind_first : (p q x : Place) (ps qs : List Place) → All (ComesBefore volumes p) ps → p ≡ q → Contains ps x → Contains (q ∷ qs) x → Contains qs x
  behind_first p q x ps qs rising first there h =
      elim (first_or_later q x qs h.0 h.1 h.2) [ inl e ↦ absurd (not_first p x ps rising there (first ∙ e)) | inr later ↦ later ]

  same_lists : (ps qs : List Place) → AreRising volumes ps → AreRising volumes qs → ((x : Place) → Contains ps x → Contains qs x) →
      ((x : Place) → Contains qs x → Contains ps x) → ps ≡ qs
  same_lists [] [] rising rising_too there back = refl
  same_lists [] (q ∷ qs) rising rising_too there back = absurd (in_no_list q (back q (in_front q qs)))
  same_lists (p ∷ ps) [] rising rising_too there back = absurd (in_no_list p (there p (in_front p ps)))
  same_lists (p ∷ ps) (q ∷ qs) rising rising_too there back =
      let first : p ≡ q = same_first p q ps qs rising.0 rising_too.0 (there p (in_front p ps)) (back q (in_front q qs)) in
      let rest : ps ≡ qs = same_lists ps qs rising.1 rising_too.1
      (λ x h. behind_first p q x ps qs rising.0 first h (there x (later_too p x ps h)))
      (λ x h. behind_first q p x qs ps rising_too.0 (sym first) h (back x (later_too q x qs h))) in
      λ i. first i ∷ rest i

pub one_list : (fixed : Fixed) (plan : JobPlan) (store : Store) (ps qs : List Place) → AreMade fixed plan store ps → AreMade fixed plan store qs → ps ≡ qs
one_list fixed plan store ps qs a b =
    same_lists fixed.volumes ps qs a.rising b.rising (λ p h. b.all p (All-contains (Makes fixed plan store) ps p a.made h))
    (λ p h. a.all p (All-contains (Makes fixed plan store) qs p b.made h))
