-- The tracks of all sets of a volume, as a sum over any keys among which those of all sets are.
use Rattle.std.proofs.Common.{◌≡◌, ℕ, ◌+◌, ◌&&◌, ◌||◌, Bool, true, false, not, cond, List, [], ◌∷◌, ◌++◌, Option, Some, None, is_some, refl, sym, ap, ◌∙◌, arith, append-nil}
use Rattle.std.specs.FinMap.{contains_key-keys, entries, entries-insert, find, get, get-entries, insert, keys, put, remove, same_map}
use Rattle.std.specs.List.{flat_map, list_any, sum_by}
use Rattle.std.specs.Option.{option_map}
use Rattle.std.specs.declared.cmp.Ordering.TheVariants.{Less, Equal, Greater}
use Rattle.std.proofs.lemmas.Bool.{and_parts}
use Rattle.std.proofs.lemmas.List.Folds.{list_any-append}
use Rattle.std.proofs.lemmas.List.Sums.{sum_by-cons}
use Rattle.std.proofs.lemmas.Option.{none-some}
use Rattle.extent_core.specs.declared.extent.Extent.{Extent}
use Rattle.vtoc_core.specs.declared.entry.SetEntry.{SetEntry}
use Rattle.vtoc_core.specs.declared.entry.SetKey.{SetKey}
use Rattle.vtoc_core.specs.Entries.{Sets, key_cmp, same_key}
use Rattle.vtoc_core.specs.Extents.{tracks_in}
use Rattle.vtoc_core.specs.Volumes.{extents_of_all}
use Rattle.vtoc_core.proofs.MapLemmas.{get_removed, insert-remove, insert_same}
use Rattle.vtoc_core.proofs.PlaceLemmas.{key_same_itself, key_total, keys_same, keys_tie}
use Rattle.world_meaning.specs.Tracks.{is_touched, tracks_of}
use Rattle.mount_core.proofs.Keeping.{tracks_in-append}
use Rattle.shared_core.specs.Shown.{data_of}
use Rattle.shared_core.proofs.NoEntries.{no_entries}
use Rattle.shared_core.proofs.WorldKeys.{keys_tied, set_taken}
use Rattle.plain.specs.Lists.{all_different}

abbrev extents_in : List (SetKey × SetEntry) → List Extent
extents_in es = flat_map (λ s. s.1.extents.items) es

-- one more set
size-put : (k : SetKey) (v : SetEntry) (es : List (SetKey × SetEntry)) → find key_cmp k es ≡ None →
    tracks_in (extents_in (put key_cmp k v es)) ≡ tracks_in v.extents.items + tracks_in (extents_in es)
size-put k v [] h = ap tracks_in (append-nil v.extents.items) ∙ omega arith
size-put k v (e ∷ es) h =
    elim (key_cmp k e.0) as
    (λ o. key_cmp k e.0 ≡ o → tracks_in (extents_in (put key_cmp k v (e ∷ es))) ≡ tracks_in v.extents.items + tracks_in (extents_in (e ∷ es))) [
      | Less ↦ λ q. simp q (tracks_in-append v.extents.items (extents_in (e ∷ es)))
      | Equal ↦ λ q. absurd (none-some e.1 (sym (simp q at h)))
      | Greater ↦ λ q.
          let r : find key_cmp k es ≡ None = simp q at h in
          let i : tracks_in (extents_in (put key_cmp k v es)) ≡ tracks_in v.extents.items + tracks_in (extents_in es) = size-put k v es r in
          simp q (omega (arith, i, tracks_in-append e.1.extents.items (extents_in (put key_cmp k v es)), tracks_in-append e.1.extents.items (extents_in es)))
    ] refl

size_more : (m : Sets) (k : SetKey) (v : SetEntry) → get m k ≡ None → tracks_in (extents_of_all (insert m k v)) ≡ tracks_in v.extents.items + tracks_in (extents_of_all m)
size_more m k v h =
    ap (λ es. tracks_in (extents_in es)) (entries-insert key_total m k v)
    ∙ size-put k v (entries m) (sym (get-entries m k) ∙ h)

-- the tracks of the set of a key, none where there is none
abbrev pub tracks_at : Sets → SetKey → ℕ
tracks_at m k = tracks_of (option_map data_of (get m k))

not_there : (m : Sets) (k : SetKey) → get m k ≡ None → remove m k ≡ m
not_there m k h = same_map key_total keys_tie (remove m k) m (λ q. set_taken m k q ∙ stays (same_key q k) q refl)
  where
    stays : (b : Bool) (q : SetKey) → same_key q k ≡ b → cond b None (get m q) ≡ get m q
    stays true q e = sym (ap (get m) (keys_same q k e) ∙ h)
    stays false q e = refl

-- the tracks of the set of a key, and of the others
one_of_all : (m : Sets) (k : SetKey) (o : Option SetEntry) → get m k ≡ o → tracks_of (option_map data_of o) + tracks_in (extents_of_all (remove m k)) ≡ tracks_in (extents_of_all m)
one_of_all m k None h = let e : tracks_in (extents_of_all (remove m k)) ≡ tracks_in (extents_of_all m) = ap (λ (n : Sets). tracks_in (extents_of_all n)) (not_there m k h) in omega (arith, e)
one_of_all m k (Some v) h =
    sym (size_more (remove m k) k v (get_removed m k))
    ∙ ap (λ (n : Sets). tracks_in (extents_of_all n)) (insert-remove m k v ∙ insert_same m k v h)

-- a set that is taken out is none of the others
other_key : (k q : SetKey) (b : Bool) → same_key q k ≡ b → same_key k q ≡ false → b ≡ false
other_key k q true e h = sym (ap (same_key k) (keys_same q k e) ∙ key_same_itself k) ∙ h
other_key k q false e h = refl

apart : (a b : Bool) → (a || b) ≡ false → (a ≡ false) × (b ≡ false)
apart true b h = absurd cc
apart false b h = (refl, h)

joined : (a b : Bool) → a ≡ false → b ≡ false → (a || b) ≡ false
joined a b h k = ap (λ c. c || b) h ∙ k

others_same : (m : Sets) (k : SetKey) (keys : List SetKey) → is_touched keys k ≡ false → sum_by (tracks_at m) keys ≡ sum_by (tracks_at (remove m k)) keys
others_same m k [] h = refl
others_same m k (q ∷ keys) h =
    let p = apart (same_key k q) (is_touched keys k) h in
    let one : tracks_at m q ≡ tracks_at (remove m k) q =
    sym (ap (λ o. tracks_of (option_map data_of o)) (set_taken m k q ∙ ap (λ b. cond b None (get m q)) (other_key k q (same_key q k) refl p.0))) in
    let rest : sum_by (tracks_at m) keys ≡ sum_by (tracks_at (remove m k)) keys = others_same m k keys p.1 in
    omega (arith, one, rest, sum_by-cons (tracks_at m) q keys, sum_by-cons (tracks_at (remove m k)) q keys)

gone : (m : Sets) (k q : SetKey) (b : Bool) → same_key q k ≡ b → (b ≡ false → get m q ≡ None) → get (remove m k) q ≡ None
gone m k q true e h = set_taken m k q ∙ ap (λ b. cond b None (get m q)) e
gone m k q false e h = set_taken m k q ∙ ap (λ b. cond b None (get m q)) e ∙ h refl

not_true : (b : Bool) → not b ≡ true → b ≡ false
not_true true h = absurd cc
not_true false h = refl

pub sum_of_all : (keys : List SetKey) (m : Sets) → all_different same_key keys ≡ true → ((q : SetKey) → is_touched keys q ≡ false → get m q ≡ None) →
    sum_by (tracks_at m) keys ≡ tracks_in (extents_of_all m)
sum_of_all [] m d h =
    sym (ap (λ (es : List (SetKey × SetEntry)). tracks_in (extents_in es)) (no_entries key_total keys_tie m (λ q. h q refl)))
sum_of_all (k ∷ keys) m d h =
    let p = and_parts (not (is_touched keys k)) (all_different same_key keys) d in
    let same : sum_by (tracks_at m) keys ≡ sum_by (tracks_at (remove m k)) keys = others_same m k keys (not_true (is_touched keys k) p.0) in
    let rest : sum_by (tracks_at (remove m k)) keys ≡ tracks_in (extents_of_all (remove m k)) =
    sum_of_all keys (remove m k) p.1 (λ q t. gone m k q (same_key q k) refl (λ e. h q (joined (same_key q k) (is_touched keys q) e t))) in
    omega (arith, same, rest, sum_by-cons (tracks_at m) k keys, one_of_all m k (get m k) refl)

-- keys, each once
abbrev pub once : List SetKey → List SetKey
once [] = []
once (k ∷ keys) = cond (is_touched (once keys) k) (once keys) (k ∷ once keys)

different_step : (k : SetKey) (keys : List SetKey) (b : Bool) → is_touched keys k ≡ b → all_different same_key keys ≡ true → all_different same_key (cond b keys (k ∷ keys)) ≡ true
different_step k keys true e h = h
different_step k keys false e h = ap (λ b. not b && all_different same_key keys) e ∙ h

pub once-are_different : (keys : List SetKey) → all_different same_key (once keys) ≡ true
once-are_different [] = refl
once-are_different (k ∷ keys) = different_step k (once keys) (is_touched (once keys) k) refl (once-are_different keys)

touched_step : (k q : SetKey) (keys all : List SetKey) (b : Bool) → is_touched keys k ≡ b → (is_touched keys q ≡ false → is_touched all q ≡ false) →
    is_touched (cond b keys (k ∷ keys)) q ≡ false → (same_key q k || is_touched all q) ≡ false
touched_step k q keys all true e h t = joined (same_key q k) (is_touched all q) (other (same_key q k) refl) (h t)
  where
    other : (c : Bool) → same_key q k ≡ c → c ≡ false
    other true f = sym e ∙ sym (ap (is_touched keys) (keys_same q k f)) ∙ t
    other false f = refl
touched_step k q keys all false e h t =
    let p = apart (same_key q k) (is_touched keys q) t in
    joined (same_key q k) (is_touched all q) p.0 (h p.1)

pub once-touches : (keys : List SetKey) (q : SetKey) → is_touched (once keys) q ≡ false → is_touched keys q ≡ false
once-touches [] q t = refl
once-touches (k ∷ keys) q t = touched_step k q (once keys) keys (is_touched (once keys) k) refl (once-touches keys q) t

-- a key that is not among those of a map's entries has nothing there
lacking : (o : Option SetEntry) → is_some o ≡ false → o ≡ None
lacking None h = refl
lacking (Some e) h = absurd cc

pub not_among : (m : Sets) (q : SetKey) → is_touched (keys m) q ≡ false → get m q ≡ None
not_among m q t = lacking (get m q) (contains_key-keys m q ∙ (λ i. list_any (λ k. keys_tied q k i) (keys m)) ∙ t)

pub not_among_both : (a b : List SetKey) (q : SetKey) → is_touched (a ++ b) q ≡ false → (is_touched a q ≡ false) × (is_touched b q ≡ false)
not_among_both a b q t = apart (is_touched a q) (is_touched b q) (sym (list_any-append (same_key q) a b) ∙ t)
