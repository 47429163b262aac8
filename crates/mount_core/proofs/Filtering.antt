-- The entries of a map that has a part of another's places.
use Rattle.std.proofs.Common.{◌≡◌, Bool, cond, List, None, ap, sym, ◌∙◌}
use Rattle.std.specs.Prelude.{filter}
use Rattle.std.specs.FinMap.{entries, entries-from_sorted, entries_sorted, from_sorted, get, get-entries, get-from_sorted, same_map}
use Rattle.std.specs.FinMap.Entries.{find-where_key, is_sorted-where_key}
use Rattle.mount_core.specs.declared.place.KeptPlace.{KeptPlace}
use Rattle.mount_core.specs.Kept.{Kept, place_cmp}
use Rattle.mount_core.proofs.KeptMaps.{Entry}
use Rattle.mount_core.proofs.Places.{place_total, places_tie}

module _ (p : KeptPlace → Bool) (m : Kept) where
  abbrev part : List (KeptPlace × Entry)
  part = filter (λ e. p e.0) (entries m)

  get-part : (q : KeptPlace) → get (from_sorted {R = place_cmp} part) q ≡ cond (p q) (get m q) None
  get-part q =
      get-from_sorted place_cmp part q (is_sorted-where_key place_cmp p (entries m) (entries_sorted m))
      ∙ find-where_key place_cmp p q (λ x t. ap p (sym (places_tie q x t))) (entries m)
      ∙ ap (λ o. cond (p q) o None) (sym (get-entries m q))

  -- what has the lists at some places and no others has their entries
  pub entries_of_part : (n : Kept) → ((q : KeptPlace) → get n q ≡ cond (p q) (get m q) None) → entries n ≡ part
  entries_of_part n h =
      ap entries (same_map place_total places_tie n (from_sorted part) (λ q. h q ∙ sym (get-part q)))
      ∙ entries-from_sorted place_cmp part (is_sorted-where_key place_cmp p (entries m) (entries_sorted m))
