-- The sets between two bounds, as a search by the derived order yields them.
use Rattle.std.proofs.Common.{◌≡◌, cond, not, ◌&&◌, List, [], ◌∷◌, Some, None, refl, ap, sym, ◌∙◌}
use Rattle.std.specs.BTreeMap.{is_at}
use Rattle.std.specs.BTreeMap.Range.{entries_between, is_from_start, is_past_end, range_contains}
use Rattle.std.specs.FinMap.{find, get-from_entries}
use Rattle.std.specs.Ordering.{is_gt, is_le, is_lt}
use Rattle.std.specs.declared.ops.Bound.{Bound}
use Rattle.std.specs.declared.ops.Bound.TheVariants.{Excluded, Included, Unbounded}
use Rattle.std.proofs.lemmas.Map.Entries.{lookup-filter-keys}
use Rattle.vtoc_core.specs.contracts.entry.SetKeyOrd.TheImpl as ord
use Rattle.vtoc_core.specs.declared.entry.SetEntry.{SetEntry}
use Rattle.vtoc_core.specs.declared.entry.SetKey.{SetKey}
use Rattle.vtoc_core.specs.Entries.{key_cmp, set_among, set_within, sets_of}
use Rattle.vtoc_core.proofs.MapLemmas.{tied_equal}
use Rattle.vtoc_core.proofs.PlaceLemmas.{key_total, order_is}

starts_same : (low : Bound SetKey) (q : SetKey) → is_from_start ord.ghosts.cmp low q ≡ is_from_start key_cmp low q
starts_same (Included a) q = ap is_le (order_is a q)
starts_same (Excluded a) q = ap is_lt (order_is a q)
starts_same Unbounded q = refl

ends_same : (high : Bound SetKey) (q : SetKey) → is_past_end ord.ghosts.cmp high q ≡ is_past_end key_cmp high q
ends_same (Included a) q = ap is_lt (order_is a q)
ends_same (Excluded a) q = ap is_le (order_is a q)
ends_same Unbounded q = refl

bounds_same : (low high : Bound SetKey) (q : SetKey) → range_contains ord.ghosts.cmp low high q ≡ range_contains key_cmp low high q
bounds_same low high q =
    ap (λ b. b && not (is_past_end ord.ghosts.cmp high q)) (starts_same low q) ∙ ap (λ b. is_from_start key_cmp low q && not b) (ends_same high q)

find_among : (es : List (SetKey × SetEntry)) (q : SetKey) → set_among es q ≡ find key_cmp q es
find_among [] q = refl
find_among (e ∷ es) q = ap (cond (is_at (key_cmp q) e.0) (Some e.1)) (find_among es q)

-- what is found among the sets between two bounds
pub among_between : (low high : Bound SetKey) (es : List (SetKey × SetEntry)) (q : SetKey) →
    set_among (entries_between ord.ghosts.cmp low high es) q ≡ set_within low high (sets_of es) q
among_between low high es q =
    lookup-filter-keys (is_at (key_cmp q)) (range_contains ord.ghosts.cmp low high) (range_contains key_cmp low high q)
    (λ k h. bounds_same low high k ∙ ap (range_contains key_cmp low high) (sym (tied_equal q k h))) es
    ∙ ap (λ o. cond (range_contains key_cmp low high q) o None) (find_among es q ∙ sym (get-from_entries key_total es q))

-- a range runs forward by the derived order too
pub forward_same : (low high : SetKey) → is_gt (ord.ghosts.cmp low high) ≡ is_gt (key_cmp low high)
forward_same low high = ap is_gt (order_is low high)
