-- The kept lists as a map: what is at a place, and one place changed.
use Rattle.std.proofs.Common.{◌≡◌, Bool, true, false, cond, List, [], ◌∷◌, Option, Some, None, refl, ap, sym, ◌∙◌}
use Rattle.std.specs.BTreeMap.{is_at}
use Rattle.std.specs.FinMap.{find, get, get-from_entries, get-insert, get-remove, insert, remove, same_map}
use Rattle.std.specs.Map.{lookup}
use Rattle.std.specs.Ordering.{eq_by_cmp, is_eq}
use Rattle.std.specs.declared.cmp.Ordering.{Ordering}
use Rattle.std.specs.declared.cmp.Ordering.TheVariants.{Less, Equal, Greater}
use Rattle.std.proofs.lemmas.Cmp.{eq_by_cmp_equiv}
use Rattle.extent_core.specs.declared.extent.Extent.{Extent}
use Rattle.mount_core.specs.contracts.place.KeptPlaceOrd.TheImpl as ord
use Rattle.mount_core.specs.declared.place.KeptPlace.{KeptPlace}
use Rattle.mount_core.specs.Kept.{Kept, kept_of, place_cmp}
use Rattle.mount_core.proofs.Places.{order_is, place_total, places_tie}

abbrev pub Entry : Type 0
Entry = List Extent

-- what entries have at a place, as a search by the derived order finds it
abbrev pub entry_at : List (KeptPlace × Entry) → KeptPlace → Option Entry
entry_at es place = lookup (is_at (ord.ghosts.cmp place)) es

find_place : (es : List (KeptPlace × Entry)) (q : KeptPlace) → find place_cmp q es ≡ entry_at es q
find_place [] q = refl
find_place (e ∷ es) q =
    ap (λ o. cond (is_eq o) (Some e.1) (find place_cmp q es)) (sym (order_is q e.0))
    ∙ ap (cond (is_at (ord.ghosts.cmp q) e.0) (Some e.1)) (find_place es q)

pub get_place : (es : List (KeptPlace × Entry)) (q : KeptPlace) → get (kept_of es) q ≡ entry_at es q
get_place es q = get-from_entries place_total es q ∙ find_place es q

at_place : (k q : KeptPlace) → is_at (ord.ghosts.cmp k) q ≡ eq_by_cmp place_cmp q k
at_place k q = ap is_eq (order_is k q) ∙ (eq_by_cmp_equiv place_total).symm k q

-- entries that differ at one place make maps that differ there
pub one_put : (es fs : List (KeptPlace × Entry)) (k : KeptPlace) (v : Entry) →
    ((q : KeptPlace) → entry_at fs q ≡ cond (is_at (ord.ghosts.cmp k) q) (Some v) (entry_at es q)) → kept_of fs ≡ insert (kept_of es) k v
one_put es fs k v h = same_map place_total places_tie (kept_of fs) (insert (kept_of es) k v) (λ q.
    get_place fs q ∙ h q ∙ ap (λ b. cond b (Some v) (entry_at es q)) (at_place k q)
    ∙ sym (get-insert place_total (kept_of es) k v q ∙ ap (cond (eq_by_cmp place_cmp q k) (Some v)) (get_place es q)))

pub one_cleared : (es fs : List (KeptPlace × Entry)) (k : KeptPlace) →
    ((q : KeptPlace) → entry_at fs q ≡ cond (is_at (ord.ghosts.cmp k) q) None (entry_at es q)) → kept_of fs ≡ remove (kept_of es) k
one_cleared es fs k h = same_map place_total places_tie (kept_of fs) (remove (kept_of es) k) (λ q.
    get_place fs q ∙ h q ∙ ap (λ b. cond b None (entry_at es q)) (at_place k q)
    ∙ sym (get-remove place_total (kept_of es) k q ∙ ap (cond (eq_by_cmp place_cmp q k) None) (get_place es q)))

equal : (o : Ordering) → is_eq o ≡ true → o ≡ Equal
equal Less h = absurd cc
equal Equal h = refl
equal Greater h = absurd cc

pub tied_equal : (a b : KeptPlace) → eq_by_cmp place_cmp a b ≡ true → a ≡ b
tied_equal a b h = places_tie a b (equal (place_cmp a b) h)

same_step : (b : Bool) (m : Kept) (k q : KeptPlace) (v : Entry) → eq_by_cmp place_cmp q k ≡ b → get m k ≡ Some v → cond b (Some v) (get m q) ≡ get m q
same_step true m k q v e h = sym h ∙ ap (get m) (sym (tied_equal q k e))
same_step false m k q v e h = refl

-- to put what is there already changes nothing
pub insert_same : (m : Kept) (k : KeptPlace) (v : Entry) → get m k ≡ Some v → insert m k v ≡ m
insert_same m k v h = same_map place_total places_tie (insert m k v) m (λ q.
    get-insert place_total m k v q ∙ same_step (eq_by_cmp place_cmp q k) m k q v refl h)

twice : (b : Bool) (x y z : Option Entry) → cond b x (cond b y z) ≡ cond b x z
twice true x y z = refl
twice false x y z = refl

pub insert-remove : (m : Kept) (k : KeptPlace) (v : Entry) → insert (remove m k) k v ≡ insert m k v
insert-remove m k v = same_map place_total places_tie (insert (remove m k) k v) (insert m k v) (λ q.
    get-insert place_total (remove m k) k v q
    ∙ ap (cond (eq_by_cmp place_cmp q k) (Some v)) (get-remove place_total m k q)
    ∙ twice (eq_by_cmp place_cmp q k) (Some v) None (get m q)
    ∙ sym (get-insert place_total m k v q))

pub get_removed : (m : Kept) (k : KeptPlace) → get (remove m k) k ≡ None
get_removed m k = get-remove place_total m k k ∙ ap (λ b. cond b None (get m k)) ((eq_by_cmp_equiv place_total).refl k)

pub get_inserted : (m : Kept) (k : KeptPlace) (v : Entry) → get (insert m k v) k ≡ Some v
get_inserted m k v = get-insert place_total m k v k ∙ ap (λ b. cond b (Some v) (get m k)) ((eq_by_cmp_equiv place_total).refl k)

absent_step : (b : Bool) (m : Kept) (k q : KeptPlace) (v : Entry) → eq_by_cmp place_cmp q k ≡ b → get m k ≡ None → cond b None (cond b (Some v) (get m q)) ≡ get m q
absent_step true m k q v e h = sym h ∙ ap (get m) (sym (tied_equal q k e))
absent_step false m k q v e h = refl

-- what is put where nothing was and taken out again
pub remove-insert : (m : Kept) (k : KeptPlace) (v : Entry) → get m k ≡ None → remove (insert m k v) k ≡ m
remove-insert m k v h = same_map place_total places_tie (remove (insert m k v) k) m (λ q.
    get-remove place_total (insert m k v) k q
    ∙ ap (cond (eq_by_cmp place_cmp q k) None) (get-insert place_total m k v q)
    ∙ absent_step (eq_by_cmp place_cmp q k) m k q v refl h)
