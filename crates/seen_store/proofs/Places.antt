-- The order of places tells apart what the test of keys and serials tells apart.
use Rattle.std.proofs.Common.{◌≡◌, ℕ, Bool, true, false, ◌&&◌, ◌==◌, cond, suc, ◌<◌, ◌≤◌, ◌-◌, length, drop, get_or, arith, drop-cons, List, [], ◌∷◌, Option, Some, None, Ordering, Less, Equal, Greater, refl, sym, ap, subst, ◌∙◌, eq-eqb, eqb-true}
use Rattle.std.specs.BTreeMap.{is_at}
use Rattle.std.specs.Cmp.{nat_cmp_total, tied_itself}
use Rattle.std.specs.Cmp.Lexicographic.{nat_list_cmp_total, slice_cmp}
use Rattle.std.specs.FinMap.{nat_cmp-IsAntisymmetric}
use Rattle.std.specs.Map.{lookup, set_value}
use Rattle.std.specs.Ordering.{is_eq, nat_cmp, ordering_then}
use Rattle.std.specs.Str.{bytes_eq}
use Rattle.std.proofs.lemmas.Cmp.{eq_by_cmp_equiv}
use Rattle.std.proofs.lemmas.Map.Lookups.{exact_bytes}
use Rattle.std.proofs.lemmas.Map.Steps.{set_value_same}
use Rattle.std.proofs.lemmas.Slice.Eq.{bytes_eq-Decides}
use Rattle.jname_core.specs.declared.key.Key.{Key}
use Rattle.jname_core.specs.declared.key.Key.TheVariants.{Named, Relative, Temporary, Unnamed}
use Rattle.jname_core.specs.declared.key.Sign.{Sign}
use Rattle.jname_core.specs.declared.key.Sign.TheVariants.{Plus, Minus}
use Rattle.jname_core.specs.contracts.key.KeyOrd.TheImpl as key_order
use Rattle.jname_core.specs.contracts.key.SignOrd.TheImpl as sign_order
use Rattle.jcl_meaning.specs.declared.store.DataSet.{DataSet}
use Rattle.jcl_meaning.specs.declared.store.SoloSet.{SoloSet}
use Rattle.jcl_meaning.specs.Names.{same_key, same_sign}
use Rattle.jcl_meaning.specs.Stores.{set_in}
use Rattle.seen_store.specs.declared.place.SetPlace.{SetPlace}
use Rattle.seen_store.specs.Listing.{AreSets, ChangesSet, ChangesSetBy, PlacedSets, WritesSet, sets_of}
use Rattle.seen_store.specs.contracts.place.SetPlaceOrd.TheImpl as order
use Rattle.seen_store.specs.contracts.place.SetPlaceOrd.TheImpl.Laws as law

abbrev sign_cmp : Sign → Sign → Ordering
sign_cmp = sign_order.ghosts.cmp

-- two tests that say the same
same_truth : (b c : Bool) → (b ≡ true → c ≡ true) → (c ≡ true → b ≡ true) → b ≡ c
same_truth true true h g = refl
same_truth true false h g = sym (h refl)
same_truth false true h g = g refl
same_truth false false h g = refl

is_equal : (o : Ordering) → is_eq o ≡ true → o ≡ Equal
is_equal Less h = cc
is_equal Equal h = refl
is_equal Greater h = cc

then_eq : (x y : Ordering) → is_eq (ordering_then x y) ≡ (is_eq x && is_eq y)
then_eq Less y = refl
then_eq Equal y = refl
then_eq Greater y = refl

signs_tell : (s t : Sign) → is_eq (sign_cmp s t) ≡ same_sign s t
signs_tell Plus Plus = refl
signs_tell Plus Minus = refl
signs_tell Minus Plus = refl
signs_tell Minus Minus = refl

pub texts_tell : (a b : List ℕ) → is_eq (slice_cmp nat_cmp a b) ≡ bytes_eq a b
texts_tell a b =
    same_truth (is_eq (slice_cmp nat_cmp a b)) (bytes_eq a b)
    (λ h. (bytes_eq-Decides a b).1 (exact_bytes a b (is_equal (slice_cmp nat_cmp a b) h)))
    (λ h. ap (λ (c : List ℕ). is_eq (slice_cmp nat_cmp a c)) (sym ((bytes_eq-Decides a b).0 h)) ∙ ap is_eq (tied_itself nat_list_cmp_total a))

numbers_tell : (m n : ℕ) → is_eq (nat_cmp m n) ≡ (m == n)
numbers_tell m n =
    same_truth (is_eq (nat_cmp m n)) (m == n)
    (λ h. eq-eqb m n (nat_cmp-IsAntisymmetric m n (is_equal (nat_cmp m n) h)))
    (λ h. ap (λ (k : ℕ). is_eq (nat_cmp m k)) (sym (eqb-true m n h)) ∙ ap is_eq (tied_itself nat_cmp_total m))

keys_tell : (k l : Key) → is_eq (key_order.ghosts.cmp k l) ≡ same_key k l
keys_tell (Named a) (Named b) = texts_tell a b
keys_tell (Named a) (Relative b t m) = refl
keys_tell (Named a) (Temporary b) = refl
keys_tell (Named a) (Unnamed t e) = refl
keys_tell (Relative a s n) (Named b) = refl
keys_tell (Relative a s n) (Relative b t m) =
    then_eq (slice_cmp nat_cmp a b) (ordering_then (sign_cmp s t) (nat_cmp n m))
    ∙ (λ i. texts_tell a b i && (then_eq (sign_cmp s t) (nat_cmp n m) ∙ (λ j. signs_tell s t j && numbers_tell n m j)) i)
keys_tell (Relative a s n) (Temporary b) = refl
keys_tell (Relative a s n) (Unnamed t e) = refl
keys_tell (Temporary a) (Named b) = refl
keys_tell (Temporary a) (Relative b t m) = refl
keys_tell (Temporary a) (Temporary b) = texts_tell a b
keys_tell (Temporary a) (Unnamed t e) = refl
keys_tell (Unnamed s d) (Named b) = refl
keys_tell (Unnamed s d) (Relative b t m) = refl
keys_tell (Unnamed s d) (Temporary b) = refl
keys_tell (Unnamed s d) (Unnamed t e) = then_eq (nat_cmp s t) (nat_cmp d e) ∙ (λ i. numbers_tell s t i && numbers_tell d e i)

-- what the order of places says of two, and of what stands at one of them
places_tell : (p q : SetPlace) → is_eq (order.ghosts.cmp p q) ≡ (same_key p.key q.key && bytes_eq p.serial q.serial)
places_tell p q =
    then_eq (key_order.ghosts.cmp p.key q.key) (slice_cmp nat_cmp p.serial q.serial)
    ∙ (λ i. keys_tell p.key q.key i && texts_tell p.serial q.serial i)

at_place : (k q : SetPlace) → is_at (order.ghosts.cmp k) q ≡ (same_key q.key k.key && bytes_eq q.serial k.serial)
at_place k q = (eq_by_cmp_equiv law.total-law).symm k q ∙ places_tell q k

-- what a search by the order of places finds
abbrev pub found : PlacedSets → SetPlace → Option DataSet
found sets q = lookup (is_at (order.ghosts.cmp q)) sets

pub set_found : (sets : PlacedSets) (key : Key) (serial : List ℕ) → found sets (record { key = key; serial = serial }) ≡ set_in (sets_of sets) key serial
set_found [] key serial = refl
set_found (e ∷ sets) key serial =
    let q : SetPlace = record { key = key; serial = serial } in
    ap (λ (b : Bool). cond b (Some e.1) (found sets q)) (places_tell q e.0)
    ∙ ap (cond (same_key key e.0.key && bytes_eq serial e.0.serial) (Some e.1)) (set_found sets key serial)

-- a map written at one place
pub written : (old new : PlacedSets) (k : SetPlace) (there : Option DataSet) →
    ((q : SetPlace) → found new q ≡ cond (is_at (order.ghosts.cmp k) q) there (found old q)) → WritesSet old new k.key k.serial there
written old new k there h key serial =
    let q : SetPlace = record { key = key; serial = serial } in
    sym (set_found new key serial) ∙ h q ∙ ap (λ (b : Bool). cond b there (found old q)) (at_place k q)
    ∙ ap (cond (same_key key k.key && bytes_eq serial k.serial) there) (set_found old key serial)

-- or changed there
pub changed : (f : DataSet → DataSet) (old new : PlacedSets) (k : SetPlace) (set set_now : DataSet) → Some set ≡ found old k → set_now ≡ f set →
    ((q : SetPlace) → found new q ≡ cond (is_at (order.ghosts.cmp k) q) (Some set_now) (found old q)) → ChangesSet f old new k.key k.serial
changed f old new k set set_now at is h =
    subst (λ (o : Option DataSet). ChangesSetBy o f old new k.key k.serial) (at ∙ set_found old k.key k.serial)
    (subst (λ (d : DataSet). WritesSet old new k.key k.serial (Some d)) is (written old new k (Some set_now) h))

pub not_changed : (f : DataSet → DataSet) (old new : PlacedSets) (k : SetPlace) → None ≡ found old k → new ≡ old → ChangesSet f old new k.key k.serial
not_changed f old new k at same =
    subst (λ (o : Option DataSet). ChangesSetBy o f old new k.key k.serial) (at ∙ set_found old k.key k.serial) (ap sets_of same)

-- or written as it was
pub written_again : (old new : PlacedSets) (k : SetPlace) (set set_now : DataSet) → Some set ≡ found old k → set_now ≡ set →
    new ≡ set_value (is_at (order.ghosts.cmp k)) old set_now → new ≡ old
written_again old new k set set_now at same h =
    h ∙ ap (set_value (is_at (order.ghosts.cmp k)) old) same ∙ set_value_same (is_at (order.ghosts.cmp k)) old set (sym at)

-- The sets behind so many of a list are in the map, and one more is put before them.
pub one_placed : (old new : PlacedSets) (list : List SoloSet) (left : ℕ) (x : SoloSet) (set : DataSet) → 0 < left → left ≤ length list →
    x ≡ get_or list (left - 1) x → set ≡ x.set → AreSets old (drop left list) → WritesSet old new x.key x.serial (Some set) →
    AreSets new (drop (left - 1) list)
one_placed old new list left x set some within is copied are writes key serial =
    let at : left - 1 < length list = omega arith in
    let next : left ≡ suc (left - 1) = omega arith in
    let front : drop (left - 1) list ≡ x ∷ drop left list =
    drop-cons list (left - 1) x at ∙ (λ i. sym is i ∷ drop (sym next i) list) in
    writes key serial
    ∙ (λ i. cond (same_key key x.key && bytes_eq serial x.serial) (Some (copied i)) (are key serial i))
    ∙ sym (ap (λ (l : List SoloSet). set_in l key serial) front)
