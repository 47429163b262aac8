-- The sets of a volume as a map: what it has at a key, and the extents of all.
use Rattle.std.proofs.Common.{◌≡◌, ℕ, ◌+◌, Bool, true, false, cond, List, [], ◌∷◌, ◌++◌, Option, Some, None, refl, ap, sym, ◌∙◌, arith, append-nil}
use Rattle.std.specs.BTreeMap.{is_at}
use Rattle.std.specs.FinMap.{entries, entries-insert, find, get, get-entries, get-from_entries, get-insert, get-remove, insert, put, remove, same_map}
use Rattle.std.specs.List.{flat_map}
use Rattle.std.specs.Map.{lookup}
use Rattle.std.specs.Ordering.{eq_by_cmp, is_eq}
use Rattle.std.specs.declared.cmp.Ordering.{Ordering}
use Rattle.std.specs.declared.cmp.Ordering.TheVariants.{Less, Equal, Greater}
use Rattle.std.proofs.lemmas.Cmp.{eq_by_cmp_equiv}
use Rattle.std.proofs.lemmas.Option.{none-some}
use Rattle.vtoc_core.specs.contracts.entry.SetKeyOrd.TheImpl as ord
use Rattle.extent_core.specs.declared.extent.Extent.{Extent}
use Rattle.vtoc_core.specs.declared.entry.SetEntry.{SetEntry}
use Rattle.vtoc_core.specs.declared.entry.SetKey.{SetKey}
use Rattle.vtoc_core.specs.Entries.{Sets, changed, changed_by, key_cmp, sets_of}
use Rattle.vtoc_core.specs.Volumes.{extents_of_all, times_in}
use Rattle.vtoc_core.proofs.FreeLemmas.{times_in-append}
use Rattle.vtoc_core.proofs.PlaceLemmas.{key_total, keys_tie, order_is}

-- what entries have at a key, as a search by the derived order finds it
abbrev pub entry_at : List (SetKey × SetEntry) → SetKey → Option SetEntry
entry_at es key = lookup (is_at (ord.ghosts.cmp key)) es

find_key : (es : List (SetKey × SetEntry)) (q : SetKey) → find key_cmp q es ≡ entry_at es q
find_key [] q = refl
find_key (e ∷ es) q =
    ap (λ o. cond (is_eq o) (Some e.1) (find key_cmp q es)) (sym (order_is q e.0))
    ∙ ap (cond (is_at (ord.ghosts.cmp q) e.0) (Some e.1)) (find_key es q)

pub get_key : (es : List (SetKey × SetEntry)) (q : SetKey) → get (sets_of es) q ≡ entry_at es q
get_key es q = get-from_entries key_total es q ∙ find_key es q

at_key : (k q : SetKey) → is_at (ord.ghosts.cmp k) q ≡ eq_by_cmp key_cmp q k
at_key k q = ap is_eq (order_is k q) ∙ (eq_by_cmp_equiv key_total).symm k q

-- entries that differ at one key make maps that differ there
pub one_set : (es fs : List (SetKey × SetEntry)) (k : SetKey) (v : SetEntry) →
    ((q : SetKey) → entry_at fs q ≡ cond (is_at (ord.ghosts.cmp k) q) (Some v) (entry_at es q)) → sets_of fs ≡ insert (sets_of es) k v
one_set es fs k v h = same_map key_total keys_tie (sets_of fs) (insert (sets_of es) k v) (λ q.
    get_key fs q ∙ h q ∙ ap (λ b. cond b (Some v) (entry_at es q)) (at_key k q)
    ∙ sym (get-insert key_total (sets_of es) k v q ∙ ap (cond (eq_by_cmp key_cmp q k) (Some v)) (get_key es q)))

pub one_cleared : (es fs : List (SetKey × SetEntry)) (k : SetKey) →
    ((q : SetKey) → entry_at fs q ≡ cond (is_at (ord.ghosts.cmp k) q) None (entry_at es q)) → sets_of fs ≡ remove (sets_of es) k
one_cleared es fs k h = same_map key_total keys_tie (sets_of fs) (remove (sets_of es) k) (λ q.
    get_key fs q ∙ h q ∙ ap (λ b. cond b None (entry_at es q)) (at_key k q)
    ∙ sym (get-remove key_total (sets_of es) k q ∙ ap (cond (eq_by_cmp key_cmp q k) None) (get_key es q)))

equal : (o : Ordering) → is_eq o ≡ true → o ≡ Equal
equal Less h = cc
equal Equal h = refl
equal Greater h = cc

pub tied_equal : (a b : SetKey) → eq_by_cmp key_cmp a b ≡ true → a ≡ b
tied_equal a b h = keys_tie a b (equal (key_cmp a b) h)

same_step : (b : Bool) (m : Sets) (k q : SetKey) (v : SetEntry) → eq_by_cmp key_cmp q k ≡ b → get m k ≡ Some v → cond b (Some v) (get m q) ≡ get m q
same_step true m k q v e h = sym h ∙ ap (get m) (sym (tied_equal q k e))
same_step false m k q v e h = refl

-- to put what is there already changes nothing
pub insert_same : (m : Sets) (k : SetKey) (v : SetEntry) → get m k ≡ Some v → insert m k v ≡ m
insert_same m k v h = same_map key_total keys_tie (insert m k v) m (λ q.
    get-insert key_total m k v q ∙ same_step (eq_by_cmp key_cmp q k) m k q v refl h)

twice : (b : Bool) (x y z : Option SetEntry) → cond b x (cond b y z) ≡ cond b x z
twice true x y z = refl
twice false x y z = refl

-- the last that is put at a key stays
pub insert-insert : (m : Sets) (k : SetKey) (v w : SetEntry) → insert (insert m k v) k w ≡ insert m k w
insert-insert m k v w = same_map key_total keys_tie (insert (insert m k v) k w) (insert m k w) (λ q.
    get-insert key_total (insert m k v) k w q
    ∙ ap (cond (eq_by_cmp key_cmp q k) (Some w)) (get-insert key_total m k v q)
    ∙ twice (eq_by_cmp key_cmp q k) (Some w) (Some v) (get m q)
    ∙ sym (get-insert key_total m k w q))

-- to put something at a key is to put it where nothing is at that key
pub insert-remove : (m : Sets) (k : SetKey) (v : SetEntry) → insert (remove m k) k v ≡ insert m k v
insert-remove m k v = same_map key_total keys_tie (insert (remove m k) k v) (insert m k v) (λ q.
    get-insert key_total (remove m k) k v q
    ∙ ap (cond (eq_by_cmp key_cmp q k) (Some v)) (get-remove key_total m k q)
    ∙ twice (eq_by_cmp key_cmp q k) (Some v) None (get m q)
    ∙ sym (get-insert key_total m k v q))

absent_step : (b : Bool) (m : Sets) (k q : SetKey) (v : SetEntry) → eq_by_cmp key_cmp q k ≡ b → get m k ≡ None →
    cond b None (cond b (Some v) (get m q)) ≡ get m q
absent_step true m k q v e h = sym h ∙ ap (get m) (sym (tied_equal q k e))
absent_step false m k q v e h = refl

-- a set that is made and taken out again
pub remove-insert : (m : Sets) (k : SetKey) (v : SetEntry) → get m k ≡ None → remove (insert m k v) k ≡ m
remove-insert m k v h = same_map key_total keys_tie (remove (insert m k v) k) m (λ q.
    get-remove key_total (insert m k v) k q
    ∙ ap (cond (eq_by_cmp key_cmp q k) None) (get-insert key_total m k v q)
    ∙ absent_step (eq_by_cmp key_cmp q k) m k q v refl h)

pub get_inserted : (m : Sets) (k : SetKey) (v : SetEntry) → get (insert m k v) k ≡ Some v
get_inserted m k v = get-insert key_total m k v k ∙ ap (λ b. cond b (Some v) (get m k)) ((eq_by_cmp_equiv key_total).refl k)

pub get_removed : (m : Sets) (k : SetKey) → get (remove m k) k ≡ None
get_removed m k = get-remove key_total m k k ∙ ap (λ b. cond b None (get m k)) ((eq_by_cmp_equiv key_total).refl k)

-- a set that is there is changed
pub changed_is : (m : Sets) (k : SetKey) (f : SetEntry → SetEntry) (e : SetEntry) → get m k ≡ Some e → changed m k f ≡ insert m k (f e)
changed_is m k f e h = ap (λ o. changed_by o m k f) h

pub not_changed : (m : Sets) (k : SetKey) (f : SetEntry → SetEntry) → get m k ≡ None → changed m k f ≡ m
not_changed m k f h = ap (λ o. changed_by o m k f) h

-- what is there as a search of the entries finds it, and what a change of it in place makes
pub there_is : (es : List (SetKey × SetEntry)) (k : SetKey) (e : SetEntry) → Some e ≡ entry_at es k → get (sets_of es) k ≡ Some e
there_is es k e h = get_key es k ∙ sym h

pub missing_is : (es : List (SetKey × SetEntry)) (k : SetKey) → None ≡ entry_at es k → get (sets_of es) k ≡ None
missing_is es k h = get_key es k ∙ sym h

pub written_is : (es fs : List (SetKey × SetEntry)) (k : SetKey) (e new : SetEntry) (f : SetEntry → SetEntry) → Some e ≡ entry_at es k → new ≡ f e →
    ((q : SetKey) → entry_at fs q ≡ cond (is_at (ord.ghosts.cmp k) q) (Some new) (entry_at es q)) → sets_of fs ≡ changed (sets_of es) k f
written_is es fs k e new f h n u =
    one_set es fs k new u ∙ ap (insert (sets_of es) k) n ∙ sym (changed_is (sets_of es) k f e (there_is es k e h))

pub unwritten_is : (es fs : List (SetKey × SetEntry)) (k : SetKey) (e new : SetEntry) → Some e ≡ entry_at es k → new ≡ e →
    ((q : SetKey) → entry_at fs q ≡ cond (is_at (ord.ghosts.cmp k) q) (Some new) (entry_at es q)) → sets_of fs ≡ sets_of es
unwritten_is es fs k e new h n u =
    one_set es fs k new u ∙ ap (insert (sets_of es) k) n ∙ insert_same (sets_of es) k e (there_is es k e h)

-- the tracks of one more set
abbrev extents_in : List (SetKey × SetEntry) → List Extent
extents_in es = flat_map (λ s. s.1.extents.items) es

-- a measure of extents that adds up
module _ (size : List Extent → ℕ) (adds : (es fs : List Extent) → size (es ++ fs) ≡ size es + size fs) where
  size-put : (k : SetKey) (v : SetEntry) (es : List (SetKey × SetEntry)) → find key_cmp k es ≡ None →
      size (extents_in (put key_cmp k v es)) ≡ size (extents_in es) + size v.extents.items
  size-put k v [] h = ap size (append-nil v.extents.items) ∙ (let z : size ([] ++ []) ≡ size [] + size [] = adds [] [] in omega (arith, z))
  size-put k v (e ∷ es) h =
      elim (key_cmp k e.0) as
      (λ o. key_cmp k e.0 ≡ o → size (extents_in (put key_cmp k v (e ∷ es))) ≡ size (extents_in (e ∷ es)) + size v.extents.items) [
        | Less ↦ λ q. simp q (adds v.extents.items (extents_in (e ∷ es)) ∙ omega arith)
        | Equal ↦ λ q. absurd (none-some e.1 (sym (simp q at h)))
        | Greater ↦ λ q.
            let r : find key_cmp k es ≡ None = simp q at h in
            let i : size (extents_in (put key_cmp k v es)) ≡ size (extents_in es) + size v.extents.items = size-put k v es r in
            simp q (omega (arith, adds e.1.extents.items (extents_in (put key_cmp k v es)), adds e.1.extents.items (extents_in es)))
      ] refl

  pub size_more : (m : Sets) (k : SetKey) (v : SetEntry) → get m k ≡ None → size (extents_of_all (insert m k v)) ≡ size (extents_of_all m) + size v.extents.items
  size_more m k v h =
      ap (λ es. size (extents_in es)) (entries-insert key_total m k v)
      ∙ size-put k v (entries m) (sym (get-entries m k) ∙ h)

  -- of a set that is there, and of that set with others
  pub size_fewer : (m : Sets) (k : SetKey) (v : SetEntry) → get m k ≡ Some v → size (extents_of_all m) ≡ size (extents_of_all (remove m k)) + size v.extents.items
  size_fewer m k v h =
      sym (ap (λ (n : Sets). size (extents_of_all n)) (insert-remove m k v ∙ insert_same m k v h))
      ∙ size_more (remove m k) k v (get_removed m k)

  pub size_other : (m : Sets) (k : SetKey) (v : SetEntry) → size (extents_of_all (insert m k v)) ≡ size (extents_of_all (remove m k)) + size v.extents.items
  size_other m k v =
      sym (ap (λ (n : Sets). size (extents_of_all n)) (insert-remove m k v))
      ∙ size_more (remove m k) k v (get_removed m k)

pub times_in_more : (t : ℕ) (m : Sets) (k : SetKey) (v : SetEntry) → get m k ≡ None →
    times_in t (extents_of_all (insert m k v)) ≡ times_in t (extents_of_all m) + times_in t v.extents.items
times_in_more t = size_more (times_in t) (times_in-append t)

pub times_in_fewer : (t : ℕ) (m : Sets) (k : SetKey) (v : SetEntry) → get m k ≡ Some v →
    times_in t (extents_of_all m) ≡ times_in t (extents_of_all (remove m k)) + times_in t v.extents.items
times_in_fewer t = size_fewer (times_in t) (times_in-append t)

pub times_in_other : (t : ℕ) (m : Sets) (k : SetKey) (v : SetEntry) →
    times_in t (extents_of_all (insert m k v)) ≡ times_in t (extents_of_all (remove m k)) + times_in t v.extents.items
times_in_other t = size_other (times_in t) (times_in-append t)
