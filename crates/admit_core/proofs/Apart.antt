-- Of places that rise none stands twice.
use Rattle.std.proofs.Common.{◌≡◌, inl, inr, ℕ, ◌==◌, ◌&&◌, ◌||◌, not, Bool, true, false, List, [], ◌∷◌, All, Option, Some, None, arith, refl, sym, ap, subst}
use Rattle.std.specs.List.{list_any, position}
use Rattle.std.specs.Str.{bytes_eq}
use Rattle.std.proofs.lemmas.Bool.{and_from, and_parts, eqb-true, false_from_ne_true}
use Rattle.std.proofs.lemmas.List.Elements.{All-head, All-tail}
use Rattle.std.proofs.lemmas.Slice.Eq.{bytes_eq-Decides}
use Rattle.plain.specs.Lists.{all_different}
use Rattle.jcl_meaning.specs.declared.state.Place.{Place}
use Rattle.path_meaning.specs.Verdicts.{AreRising, ComesBefore, IsOnEarlier}
use Rattle.place_core.specs.Keepings.{AreApart, is_same_spot}

not_before_itself : (o : Option ℕ) → IsOnEarlier o o → ⊥
not_before_itself None h = h
not_before_itself (Some i) h = absurd (omega (arith, h))

neither : (a b : Bool) → a ≡ false → b ≡ false → (a || b) ≡ false
neither true b h k = absurd cc
neither false b h k = k

module _ (volumes : List (List ℕ)) where
  -- the step, the DD and the serial are the same
  not_the_same : (p q : Place) → ComesBefore volumes p q → p.step ≡ q.step → p.dd ≡ q.dd → p.serial ≡ q.serial → ⊥
  not_the_same p q (inl less) step dd serial = absurd (omega (arith, less, step))
  not_the_same p q (inr (same, inl less)) step dd serial = absurd (omega (arith, less, dd))
  not_the_same p q (inr (same, inr (dds, earlier))) step dd serial =
      not_before_itself (position (bytes_eq p.serial) volumes)
      (subst (λ s. IsOnEarlier (position (bytes_eq p.serial) volumes) (position (bytes_eq s) volumes)) (sym serial) earlier)

  another : (p q : Place) → ComesBefore volumes p q → is_same_spot p q ≡ false
  another p q before = false_from_ne_true (is_same_spot p q) (λ t.
      let both = and_parts (p.step == q.step && p.dd == q.dd) (bytes_eq p.serial q.serial) t in
      let first = and_parts (p.step == q.step) (p.dd == q.dd) both.0 in
      not_the_same p q before (eqb-true p.step q.step first.0) (eqb-true p.dd q.dd first.1) ((bytes_eq-Decides p.serial q.serial).0 both.1))

  none_the_same : (p : Place) (ps : List Place) → All (ComesBefore volumes p) ps → list_any (is_same_spot p) ps ≡ false
  none_the_same p [] all = refl
  none_the_same p (q ∷ ps) all =
      neither (is_same_spot p q) (list_any (is_same_spot p) ps) (another p q (All-head (ComesBefore volumes p) q ps all))
      (none_the_same p ps (All-tail (ComesBefore volumes p) q ps all))

  pub rising_apart : (places : List Place) → AreRising volumes places → AreApart places
  rising_apart [] h = refl
  rising_apart (p ∷ ps) h =
      and_from (not (list_any (is_same_spot p) ps)) (all_different is_same_spot ps) (ap not (none_the_same p ps h.0)) (rising_apart ps h.1)
