-- The tracks of all kept lists, with one more or one fewer.
use Rattle.std.proofs.Common.{◌≡◌, ℕ, ◌+◌, List, [], ◌∷◌, ◌++◌, Some, None, refl, ap, sym, ◌∙◌, arith, append-nil}
use Rattle.std.specs.FinMap.{entries, entries-insert, find, get, get-entries, insert, put, remove}
use Rattle.std.specs.List.{flat_map}
use Rattle.std.specs.declared.cmp.Ordering.TheVariants.{Less, Equal, Greater}
use Rattle.std.proofs.lemmas.Option.{none-some}
use Rattle.extent_core.specs.declared.extent.Extent.{Extent}
use Rattle.mount_core.specs.declared.place.KeptPlace.{KeptPlace}
use Rattle.mount_core.specs.Kept.{Kept, extents_kept, place_cmp}
use Rattle.mount_core.proofs.KeptMaps.{Entry, get_removed, insert-remove, insert_same}
use Rattle.mount_core.proofs.Places.{place_total}

abbrev extents_in : List (KeptPlace × Entry) → List Extent
extents_in es = flat_map (λ e. e.1) es

-- a measure of extents that adds up
module _ (size : List Extent → ℕ) (adds : (es fs : List Extent) → size (es ++ fs) ≡ size es + size fs) where
  size-put : (k : KeptPlace) (v : Entry) (es : List (KeptPlace × Entry)) → find place_cmp k es ≡ None →
      size (extents_in (put place_cmp k v es)) ≡ size (extents_in es) + size v
  size-put k v [] h = ap size (append-nil v) ∙ (let z : size ([] ++ []) ≡ size [] + size [] = adds [] [] in omega (arith, z))
  size-put k v (e ∷ es) h =
      elim (place_cmp k e.0) as
      (λ o. place_cmp k e.0 ≡ o → size (extents_in (put place_cmp k v (e ∷ es))) ≡ size (extents_in (e ∷ es)) + size v) [
        | Less ↦ λ q. simp q (adds v (extents_in (e ∷ es)) ∙ omega arith)
        | Equal ↦ λ q. absurd (none-some e.1 (sym (simp q at h)))
        | Greater ↦ λ q.
            let r : find place_cmp k es ≡ None = simp q at h in
            let i : size (extents_in (put place_cmp k v es)) ≡ size (extents_in es) + size v = size-put k v es r in
            simp q (omega (arith, adds (e.1) (extents_in (put place_cmp k v es)), adds (e.1) (extents_in es)))
      ] refl

  pub size_more : (m : Kept) (k : KeptPlace) (v : Entry) → get m k ≡ None → size (extents_kept (insert m k v)) ≡ size (extents_kept m) + size v
  size_more m k v h =
      ap (λ es. size (extents_in es)) (entries-insert place_total m k v)
      ∙ size-put k v (entries m) (sym (get-entries m k) ∙ h)

  -- of a list that is there
  pub size_fewer : (m : Kept) (k : KeptPlace) (v : Entry) → get m k ≡ Some v → size (extents_kept m) ≡ size (extents_kept (remove m k)) + size v
  size_fewer m k v h =
      sym (ap (λ (n : Kept). size (extents_kept n)) (insert-remove m k v ∙ insert_same m k v h))
      ∙ size_more (remove m k) k v (get_removed m k)
