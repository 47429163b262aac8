-- A map that has nothing at any key has no entry.
use Rattle.std.proofs.Common.{◌≡◌, List, [], ◌∷◌, None, length, refl, sym, ap, ◌∙◌}
use Rattle.std.specs.Cmp.{IsTotalOrder}
use Rattle.std.specs.FinMap.{FinMap, IsAntisymmetric, empty, entries, get, get-empty, len-empty, len-entries, same_map}
use Rattle.std.specs.declared.cmp.Ordering.{Ordering}

no_items : {A : Type 0} (es : List A) → length es ≡ 0 → es ≡ []
no_items [] h = refl
no_items (e ∷ es) h = absurd cc

module _ {K X : Type 0} {R : K → K → Ordering} (o : IsTotalOrder R) (same : IsAntisymmetric R) where
  pub no_entries : (m : FinMap R X) → ((k : K) → get m k ≡ None) → entries m ≡ []
  no_entries m h =
      ap entries (same_map o same m empty (λ k. h k ∙ sym (get-empty R k)))
      ∙ no_items (entries (empty {X = X} {R = R})) (sym (len-entries (empty {X = X} {R = R})) ∙ len-empty R X)
