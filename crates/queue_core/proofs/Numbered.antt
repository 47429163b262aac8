-- Things that lie under their numbers, in the order of these.
use Rattle.std.proofs.Common.{◌≡◌, ◌<◌, ◌==◌, ℕ, zero, suc, Bool, true, false, cond, not, List, [], ◌∷◌, ◌++◌, Option, Some, None, All, map, refl, sym, ap, ◌∙◌, subst, arith}
use Rattle.std.specs.Prelude.{IfSome, filter}
use Rattle.std.specs.declared.cmp.Ordering.{Ordering}
use Rattle.std.specs.declared.cmp.Ordering.TheVariants.{Less, Equal, Greater}
use Rattle.std.specs.BTreeMap.{BTreeMap, get, insert_entry, is_at}
use Rattle.std.specs.List.{AllByRecursion, Contains}
use Rattle.std.specs.List.Sorted.{IsStrictlySortedBy}
use Rattle.std.specs.Map.{keys_of, lookup, remove_entry, set_value, values_of}
use Rattle.std.specs.Ordering.{is_eq, nat_cmp}
use Rattle.std.proofs.lemmas.Bool.{both_ways, eq-eqb, ne_eqb}
use Rattle.std.proofs.lemmas.Bool.Decides.{nat_tests}
use Rattle.std.proofs.lemmas.Cmp.{eq_by_cmp_equiv, nat_cmp_total, tied_itself}
use Rattle.std.proofs.lemmas.List.{get_or-map, length-map}
use Rattle.std.proofs.lemmas.List.Elements.{All-cons, All-contains, All-head, All-nil, All-tail}
use Rattle.std.proofs.lemmas.Map.Keys.{IsDistinct-from_sorted, sorted_head, sorted_tail}
use Rattle.std.proofs.lemmas.Map.Lookups.{exact_unsigned}
use Rattle.std.proofs.lemmas.Map.Views.{IfSome-get, lookup-from_Contains}

pub from_is_eq : (o : Ordering) → is_eq o ≡ true → o ≡ Equal
from_is_eq Less e = cc
from_is_eq Equal e = refl
from_is_eq Greater e = cc

pub job_at : (a b : ℕ) → is_at (nat_cmp a) b ≡ true → a ≡ b
job_at a b e = exact_unsigned a b (from_is_eq (nat_cmp a b) e)

pub at_own : (a : ℕ) → is_at (nat_cmp a) a ≡ true
at_own a = ap is_eq (tied_itself nat_cmp_total a)

less_is_gt : (a b : ℕ) → b < a → nat_cmp a b ≡ Greater
less_is_gt a b h = grind (arith, nat_tests)

not_below : (a b : ℕ) → a ≡ b → a < b → ⊥
not_below a b e h = omega arith

is_less : (a b : ℕ) → nat_cmp a b ≡ Less → a < b
is_less a b e = grind (arith, nat_tests)

-- what is entered last stands last
pub entered_last : {X : Type 0} (es : List (ℕ × X)) (k : ℕ) (x : X) → All (λ e. e.0 < k) es → insert_entry nat_cmp es k x ≡ es ++ (k, x) ∷ []
entered_last [] k x h = refl
entered_last (e ∷ es) k x h =
    rw (less_is_gt k e.0 (All-head (λ y. y.0 < k) e es h)) (ap (λ xs. e ∷ xs) (entered_last es k x (All-tail (λ y. y.0 < k) e es h)))

pub values_last : {X : Type 0} (es : List (ℕ × X)) (k : ℕ) (x : X) → values_of (es ++ (k, x) ∷ []) ≡ values_of es ++ x ∷ []
values_last [] k x = refl
values_last (e ∷ es) k x = ap (λ xs. e.1 ∷ xs) (values_last es k x)

above : {X : Type 0} (k : ℕ) (es : List (ℕ × X)) → AllByRecursion (λ y. nat_cmp k y ≡ Less) (keys_of es) → All (λ e. k < e.0) es
above k [] h = All-nil (λ e. k < e.0)
above k (e ∷ es) h = All-cons (λ x. k < x.0) e es (is_less k e.0 h.0) (above k es h.1)

removed_by_test : {X : Type 0} (P : ℕ × X → Type 0) (e : ℕ × X) (es rest : List (ℕ × X)) (b : Bool) → All P (e ∷ es) → All P rest → All P (cond b es (e ∷ rest))
removed_by_test P e es rest true h r = All-tail P e es h
removed_by_test P e es rest false h r = All-cons P e rest (All-head P e es h) r

pub All-removed : {X : Type 0} (P : ℕ × X → Type 0) (test : ℕ → Bool) (es : List (ℕ × X)) → All P es → All P (remove_entry test es)
All-removed P test [] h = h
All-removed P test (e ∷ es) h = removed_by_test P e es (remove_entry test es) (test e.0) h (All-removed P test es (All-tail P e es h))

-- nothing lies under a number above all
pub none_at : {X : Type 0} (m : BTreeMap ℕ X) (k : ℕ) → All (λ e. e.0 < k) m.entries → get nat_cmp m k ≡ None
none_at {X} m k below = by (get nat_cmp m k) refl
  where
    itself : k < k → ⊥
    itself h = omega arith

    by : (o : Option X) → get nat_cmp m k ≡ o → o ≡ None
    by None e = refl
    by (Some x) e = absurd (itself (All-contains (λ y. y.0 < k) m.entries (k, x) below (subst (λ r. IfSome r (λ v. Contains m.entries (k, v))) e (IfSome-get nat_cmp_total exact_unsigned m k))))

module _ {X : Type 0} (number : X → ℕ) where
  -- it lies under its number
  abbrev pub is_numbered : ℕ × X → Type 0
  is_numbered e = number e.1 ≡ e.0

  pub numbered_at : (m : BTreeMap ℕ X) (k : ℕ) (x : X) → All is_numbered m.entries → get nat_cmp m k ≡ Some x → number x ≡ k
  numbered_at m k x n e = All-contains is_numbered m.entries (k, x) n (subst (λ r. IfSome r (λ v. Contains m.entries (k, v))) e (IfSome-get nat_cmp_total exact_unsigned m k))

  -- all but the one of a number
  abbrev pub other_than : ℕ → X → Bool
  other_than k x = not (number x == k)

  unlike : (k : ℕ) (e : ℕ × X) → number e.1 ≡ e.0 → (k ≡ e.0 → ⊥) → other_than k e.1 ≡ true
  unlike k e n h = ap not (ne_eqb (number e.1) k (λ i. h (sym i ∙ n)))

  like : (k : ℕ) (e : ℕ × X) → number e.1 ≡ e.0 → k ≡ e.0 → other_than k e.1 ≡ false
  like k e n h = ap not (eq-eqb (number e.1) k (n ∙ sym h))

  untouched : (k : ℕ) (es : List (ℕ × X)) → All (λ e. k < e.0) es → All is_numbered es → filter (other_than k) (values_of es) ≡ values_of es
  untouched k [] h n = refl
  untouched k (e ∷ es) h n =
      let apart : k ≡ e.0 → ⊥ = λ i. absurd (not_below k e.0 i (All-head (λ x. k < x.0) e es h)) in
      rw (unlike k e (All-head is_numbered e es n) apart) (ap (λ xs. e.1 ∷ xs) (untouched k es (All-tail (λ x. k < x.0) e es h) (All-tail is_numbered e es n)))

  by_test : (k : ℕ) (e : ℕ × X) (es : List (ℕ × X)) (b : Bool) → is_at (nat_cmp k) e.0 ≡ b → IsStrictlySortedBy nat_cmp (keys_of (e ∷ es)) → All is_numbered (e ∷ es) →
      values_of (remove_entry (is_at (nat_cmp k)) es) ≡ filter (other_than k) (values_of es) →
      values_of (cond b es (e ∷ remove_entry (is_at (nat_cmp k)) es)) ≡ filter (other_than k) (e.1 ∷ values_of es)
  by_test k e es true at s n rest =
      let same = job_at k e.0 at in
      rw (like k e (All-head is_numbered e es n) same)
      (sym (untouched k es (subst (λ j. All (λ x. j < x.0) es) (sym same) (above e.0 es (sorted_head nat_cmp e.0 (keys_of es) s))) (All-tail is_numbered e es n)))
  by_test k e es false at s n rest =
      let apart : k ≡ e.0 → ⊥ = λ i. both_ways (is_at (nat_cmp k) e.0) at (ap (λ j. is_at (nat_cmp k) j) (sym i) ∙ at_own k) in
      rw (unlike k e (All-head is_numbered e es n) apart) (ap (λ xs. e.1 ∷ xs) rest)

  -- what is left once one is taken out
  pub without_job : (k : ℕ) (es : List (ℕ × X)) → IsStrictlySortedBy nat_cmp (keys_of es) → All is_numbered es →
      values_of (remove_entry (is_at (nat_cmp k)) es) ≡ filter (other_than k) (values_of es)
  without_job k [] s n = refl
  without_job k (e ∷ es) s n =
      by_test k e es (is_at (nat_cmp k) e.0) refl s n (without_job k es (sorted_tail nat_cmp e.0 (keys_of es) s) (All-tail is_numbered e es n))

  -- the numbers of the entries, where those of the values are known
  pub below_all : (k : ℕ) (es : List (ℕ × X)) → All (λ x. number x < k) (values_of es) → All is_numbered es → All (λ e. e.0 < k) es
  below_all k [] h n = All-nil (λ e. e.0 < k)
  below_all k (e ∷ es) h n =
      All-cons (λ x. x.0 < k) e es (subst (λ j. j < k) (All-head is_numbered e es n) (All-head (λ x. number x < k) e.1 (values_of es) h))
      (below_all k es (All-tail (λ x. number x < k) e.1 (values_of es) h) (All-tail is_numbered e es n))

  -- a value is found under its number
  pub found_at : (es : List (ℕ × X)) (x : X) → IsStrictlySortedBy nat_cmp (keys_of es) → All is_numbered es → Contains (values_of es) x → lookup (is_at (nat_cmp (number x))) es ≡ Some x
  found_at es x s n c = lookup-from_Contains (eq_by_cmp_equiv nat_cmp_total) (number x) x es (IsDistinct-from_sorted nat_cmp (keys_of es) s) (entry_of es x n c)
    where
      entry_of : (es : List (ℕ × X)) (x : X) → All is_numbered es → Contains (values_of es) x → Contains es (number x, x)
      entry_of [] x n c = absurd (omega (arith, c.1))
      entry_of (e ∷ es) x n (zero, within, is) = (zero, omega arith, λ i. (sym (ap number (sym is) ∙ All-head is_numbered e es n) i, is i))
      entry_of (e ∷ es) x n (suc k, within, is) = let rest = entry_of es x (All-tail is_numbered e es n) (k, omega (arith, within), is) in (suc rest.0, omega (arith, rest.1), rest.2)

pub value_found : {X : Type 0} (m : BTreeMap ℕ X) (k : ℕ) (x : X) → get nat_cmp m k ≡ Some x → Contains (values_of m.entries) x
value_found {X} m k x e = value_of m.entries (subst (λ r. IfSome r (λ v. Contains m.entries (k, v))) e (IfSome-get nat_cmp_total exact_unsigned m k))
  where
    value_of : (es : List (ℕ × X)) → Contains es (k, x) → Contains (map (λ (e : ℕ × X). e.1) es) x
    value_of es c = (c.0, rw length-map c.1, get_or-map (λ (e : ℕ × X). e.1) es c.0 (k, x) x c.1 ∙ ap (λ (e : ℕ × X). e.1) c.2)

-- what a list of what is read of others has is read of one of them
pub read_of : {X Y : Type 0} (f : X → Y) (xs : List X) (y : Y) → Contains (map f xs) y → (x : X) × Contains xs x × (f x ≡ y)
read_of f [] y c = absurd (omega (arith, c.1))
read_of f (x ∷ xs) y (zero, within, is) = (x, (zero, omega arith, refl), is)
read_of f (x ∷ xs) y (suc k, within, is) =
    let rest = read_of f xs y (k, omega (arith, within), is) in
    let c = rest.1 in
    (rest.0, (suc c.0, omega (arith, c.1), c.2), rest.2)

pub all_read : {X Y : Type 0} (P : Y → Type 0) (f : X → Y) (xs : List X) → All P (map f xs) → All (λ x. P (f x)) xs
all_read P f [] h = All-nil (λ x. P (f x))
all_read P f (x ∷ xs) h = All-cons (λ y. P (f y)) x xs (All-head P (f x) (map f xs) h) (all_read P f xs (All-tail P (f x) (map f xs) h))

-- all but one, read of those that are left
pub others_read : {X Y : Type 0} (number : Y → ℕ) (f : X → Y) (k : ℕ) (xs : List X) → filter (other_than number k) (map f xs) ≡ map f (filter (other_than (λ x. number (f x)) k) xs)
others_read number f k [] = refl
others_read number f k (x ∷ xs) = by (other_than number k (f x)) (others_read number f k xs)
  where
    by : (b : Bool) → filter (other_than number k) (map f xs) ≡ map f (filter (other_than (λ x. number (f x)) k) xs) →
        cond b (f x ∷ filter (other_than number k) (map f xs)) (filter (other_than number k) (map f xs)) ≡ map f (cond b (x ∷ filter (other_than (λ x. number (f x)) k) xs) (filter (other_than (λ x. number (f x)) k) xs))
    by true rest = ap (λ l. f x ∷ l) rest
    by false rest = rest

-- none is taken out where all are below
pub none_taken : {X : Type 0} (number : X → ℕ) (k : ℕ) (xs : List X) → All (λ x. number x < k) xs → filter (other_than number k) xs ≡ xs
none_taken number k [] h = refl
none_taken number k (x ∷ xs) h =
    let apart : number x ≡ k → ⊥ = λ e. absurd (not_below (number x) k e (All-head (λ y. number y < k) x xs h)) in
    rw (ap not (ne_eqb (number x) k apart)) (ap (λ l. x ∷ l) (none_taken number k xs (All-tail (λ y. number y < k) x xs h)))

-- a value that is written in the place of another
pub set_same : {X : Type 0} (test : ℕ → Bool) (es : List (ℕ × X)) (x : X) → lookup test es ≡ Some x → set_value test es x ≡ es
set_same test [] x e = refl
set_same test (e₀ ∷ es) x e = by (test e₀.0) (set_same test es x) e
  where
    by : (b : Bool) → (lookup test es ≡ Some x → set_value test es x ≡ es) → cond b (Some e₀.1) (lookup test es) ≡ Some x → cond b ((e₀.0, x) ∷ es) (e₀ ∷ set_value test es x) ≡ e₀ ∷ es
    by true rest h = let same : e₀.1 ≡ x = cc in ap (λ y. (e₀.0, y) ∷ es) (sym same)
    by false rest h = ap (λ l. e₀ ∷ l) (rest h)

pub removed_set : {X : Type 0} (test : ℕ → Bool) (es : List (ℕ × X)) (x : X) → remove_entry test (set_value test es x) ≡ remove_entry test es
removed_set test [] x = refl
removed_set test (e ∷ es) x = by (test e.0) refl (removed_set test es x)
  where
    by : (b : Bool) → test e.0 ≡ b → remove_entry test (set_value test es x) ≡ remove_entry test es →
        remove_entry test (cond b ((e.0, x) ∷ es) (e ∷ set_value test es x)) ≡ cond b es (e ∷ remove_entry test es)
    by true h rest = ap (λ b. cond b es ((e.0, x) ∷ remove_entry test es)) h
    by false h rest = ap (λ b. cond b (set_value test es x) (e ∷ remove_entry test (set_value test es x))) h ∙ ap (λ l. e ∷ l) rest

pub found_set : {X : Type 0} (test : ℕ → Bool) (es : List (ℕ × X)) (x y : X) → lookup test es ≡ Some x → lookup test (set_value test es y) ≡ Some y
found_set test [] x y e = cc
found_set test (e₀ ∷ es) x y e = by (test e₀.0) refl (found_set test es x y) e
  where
    by : (b : Bool) → test e₀.0 ≡ b → (lookup test es ≡ Some x → lookup test (set_value test es y) ≡ Some y) → cond b (Some e₀.1) (lookup test es) ≡ Some x →
        lookup test (cond b ((e₀.0, y) ∷ es) (e₀ ∷ set_value test es y)) ≡ Some y
    by true h rest g = ap (λ b. cond b (Some y) (lookup test es)) h
    by false h rest g = ap (λ b. cond b (Some e₀.1) (lookup test (set_value test es y))) h ∙ rest g
