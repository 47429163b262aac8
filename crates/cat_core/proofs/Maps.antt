-- What the map that entries make has at a name.
use Rattle.std.proofs.Common.{◌≡◌, ℕ, List, [], ◌∷◌, Bool, true, false, Option, Ordering, Less, Equal, Greater, Some, None, T, ◌&&◌, cond, map, is_lt, refl, ap, subst, ◌∙◌, sym}
use Rattle.std.specs.BTreeMap.{is_at}
use Rattle.std.specs.BTreeMap.Range.{entries_between, range_contains}
use Rattle.std.specs.Map.{lookup}
use Rattle.std.specs.List.{AllByRecursion}
use Rattle.std.specs.List.Sorted.{IsStrictlySortedBy}
use Rattle.std.proofs.lemmas.Bool.{and_parts}
use Rattle.std.specs.FinMap.{entries, entries-from_sorted, find, from_sorted, get-from_sorted, is_sorted, get, insert, remove, same_map, get-from_entries, get-insert, get-remove}
use Rattle.std.proofs.lemmas.Cmp.{eq_by_cmp_equiv, nat_list_cmp_total}
use Rattle.std.proofs.lemmas.Map.Lookups.{exact_bytes}
use Rattle.group_core.specs.declared.entry.CatEntry.{CatEntry}
use Rattle.group_core.specs.declared.entry.CatEntry.TheVariants.{Volume, Group}
use Rattle.group_core.specs.Entries.{group_in}
use Rattle.std.specs.Ordering.{is_eq}
use Rattle.std.specs.declared.ops.Bound.{Bound}
use Rattle.std.proofs.lemmas.Map.Entries.{lookup-filter-keys}
use Rattle.cat_core.specs.Catalogs.{Contents, contents_of, entry_among, entry_with, entry_within, entry_without, name_cmp, with_generation, with_generation_by, without_number, without_number_by}

abbrev pub entry_at : List (List ℕ × CatEntry) → List ℕ → Option CatEntry
entry_at es name = lookup (is_at (name_cmp name)) es

find_name : (es : List (List ℕ × CatEntry)) (q : List ℕ) → find name_cmp q es ≡ entry_at es q
find_name [] q = refl
find_name (e ∷ es) q = ap (cond (is_at (name_cmp q) e.0) (Some e.1)) (find_name es q)

-- what the map that the entries make has at a name
pub get_name : (es : List (List ℕ × CatEntry)) (q : List ℕ) → get (contents_of es) q ≡ entry_at es q
get_name es q = get-from_entries nat_list_cmp_total es q ∙ find_name es q

-- entries that differ at one name make maps that differ there
pub one_set : (es fs : List (List ℕ × CatEntry)) (k : List ℕ) (v : CatEntry) →
    ((q : List ℕ) → entry_at fs q ≡ cond (is_at (name_cmp k) q) (Some v) (entry_at es q)) → contents_of fs ≡ insert (contents_of es) k v
one_set es fs k v h = same_map nat_list_cmp_total exact_bytes (contents_of fs) (insert (contents_of es) k v) (λ q.
    get_name fs q ∙ h q ∙ ap (λ b. cond b (Some v) (entry_at es q)) ((eq_by_cmp_equiv nat_list_cmp_total).symm k q)
    ∙ sym (get-insert nat_list_cmp_total (contents_of es) k v q ∙ ap (cond (is_at (name_cmp q) k) (Some v)) (get_name es q)))

pub one_cleared : (es fs : List (List ℕ × CatEntry)) (k : List ℕ) →
    ((q : List ℕ) → entry_at fs q ≡ cond (is_at (name_cmp k) q) None (entry_at es q)) → contents_of fs ≡ remove (contents_of es) k
one_cleared es fs k h = same_map nat_list_cmp_total exact_bytes (contents_of fs) (remove (contents_of es) k) (λ q.
    get_name fs q ∙ h q ∙ ap (λ b. cond b None (entry_at es q)) ((eq_by_cmp_equiv nat_list_cmp_total).symm k q)
    ∙ sym (get-remove nat_list_cmp_total (contents_of es) k q ∙ ap (cond (is_at (name_cmp q) k) None) (get_name es q)))

-- entries that have the same at each name make one map
pub none_changed : (es fs : List (List ℕ × CatEntry)) → ((q : List ℕ) → entry_at fs q ≡ entry_at es q) → contents_of fs ≡ contents_of es
none_changed es fs h = same_map nat_list_cmp_total exact_bytes (contents_of fs) (contents_of es) (λ q. get_name fs q ∙ h q ∙ sym (get_name es q))

equal : (o : Ordering) → is_eq o ≡ true → o ≡ Equal
equal Less h = cc
equal Equal h = refl
equal Greater h = cc

kept_step : (b : Bool) (m : Contents) (k q : List ℕ) (v : CatEntry) → is_eq (name_cmp q k) ≡ b → get m k ≡ Some v → cond b (Some v) (get m q) ≡ get m q
kept_step true m k q v e h = sym h ∙ ap (get m) (sym (exact_bytes q k (equal (name_cmp q k) e)))
kept_step false m k q v e h = refl

-- to put what is there already changes nothing
pub insert_same : (m : Contents) (k : List ℕ) (v : CatEntry) → get m k ≡ Some v → insert m k v ≡ m
insert_same m k v h = same_map nat_list_cmp_total exact_bytes (insert m k v) m (λ q.
    get-insert nat_list_cmp_total m k v q ∙ kept_step (is_eq (name_cmp q k)) m k q v refl h)

-- to change the entry of a base is to change its group
pub entry_with_is : (m : Contents) (base : List ℕ) (number : ℕ) (serial : List ℕ) (e : CatEntry) → get m base ≡ Some e → insert m base (entry_with e number serial) ≡ with_generation m base number serial
entry_with_is m base number serial (Volume there) h =
    insert_same m base (Volume there) h ∙ ap (λ (o : Option CatEntry). with_generation_by (group_in o) m base number serial) (sym h)
entry_with_is m base number serial (Group g) h = ap (λ (o : Option CatEntry). with_generation_by (group_in o) m base number serial) (sym h)

pub entry_without_is : (m : Contents) (base : List ℕ) (number : ℕ) (e : CatEntry) → get m base ≡ Some e → insert m base (entry_without e number) ≡ without_number m base number
entry_without_is m base number (Volume there) h =
    insert_same m base (Volume there) h ∙ ap (λ (o : Option CatEntry). without_number_by (group_in o) m base number) (sym h)
entry_without_is m base number (Group g) h = ap (λ (o : Option CatEntry). without_number_by (group_in o) m base number) (sym h)

sorted_step : (a b c d : Bool) → a ≡ true → (b && d) ≡ true → (c && d) ≡ true → ((a && b) && (c && d)) ≡ true
sorted_step true true c true e h k = k
sorted_step true true c false e h k = absurd (cc)
sorted_step true false c d e h k = absurd (cc)
sorted_step false b c d e h k = absurd (cc)

sorted_behind : (x : List ℕ) (v : CatEntry) (es : List (List ℕ × CatEntry)) → AllByRecursion (λ y. name_cmp x y ≡ Less) (map (λ e. e.0) es) → is_sorted name_cmp es ≡ true → is_sorted name_cmp ((x, v) ∷ es) ≡ true
sorted_behind x v [] h s = refl
sorted_behind x v (e ∷ es) h s = sorted_step (is_lt (name_cmp x e.0)) _ _ (is_sorted name_cmp es) (ap is_lt h.0) (sorted_behind x v es h.1 (and_parts _ (is_sorted name_cmp es) s).1) s

sorted : (es : List (List ℕ × CatEntry)) → IsStrictlySortedBy name_cmp (map (λ e. e.0) es) → is_sorted name_cmp es ≡ true
unfolding IsStrictlySortedBy
sorted [] h = refl
sorted (e ∷ es) h = sorted_behind e.0 e.1 es h.0 (sorted es h.1)

-- the entries of the map that entries in order make are these
pub entries_of : (es : List (List ℕ × CatEntry)) → IsStrictlySortedBy name_cmp (map (λ e. e.0) es) → entries (contents_of es) ≡ es
entries_of es h =
    let s : T (is_sorted name_cmp es) = subst T (sym (sorted es h)) tt in
    let same : contents_of es ≡ from_sorted es = same_map nat_list_cmp_total exact_bytes (contents_of es) (from_sorted es)
    (λ q. get-from_entries nat_list_cmp_total es q ∙ sym (get-from_sorted name_cmp es q s)) in
    ap entries same ∙ entries-from_sorted name_cmp es s

same_name : (a b : List ℕ) → is_at (name_cmp a) b ≡ true → a ≡ b
same_name a b h = exact_bytes a b (equal (name_cmp a b) h)

-- what is found among the entries between two bounds
pub among_between : (low high : Bound (List ℕ)) (es : List (List ℕ × CatEntry)) (q : List ℕ) →
    entry_among (entries_between name_cmp low high es) q ≡ entry_within low high (contents_of es) q
among_between low high es q =
    lookup-filter-keys (is_at (name_cmp q)) (range_contains name_cmp low high) (range_contains name_cmp low high q)
    (λ k h. ap (range_contains name_cmp low high) (sym (same_name q k h))) es
    ∙ ap (λ (o : Option CatEntry). cond (range_contains name_cmp low high q) o None) (sym (get_name es q))
