-- Two lists gone through side by side, to see that each item of both passes a test.
use Rattle.std.proofs.Common.{◌≡◌, ◌&&◌, ◌∙◌, ℕ, suc, Bool, true, false, List, [], ◌∷◌, Some, All, refl, sym, ap, subst, arith}
use Rattle.std.specs.List.{list_all}
use Rattle.std.specs.Str.{bytes_eq}
use Rattle.std.proofs.lemmas.Bool.{and_parts}
use Rattle.group_core.specs.declared.entry.CatEntry.{CatEntry}
use Rattle.jname_core.specs.Generations.{base_of}
use Rattle.jcl_meaning.specs.declared.names.HeldName.{HeldName}
use Rattle.jcl_meaning.specs.declared.store.DataSet.{DataSet}
use Rattle.jcl_meaning.specs.declared.store.SoloStore.{SoloStore}
use Rattle.jcl_meaning.specs.Names.{same_key}
use Rattle.jcl_meaning.specs.Parts.{is_among}
use Rattle.jcl_meaning.specs.Stores.{entry_in, set_in}
use Rattle.seen_store.specs.declared.place.SetPlace.{SetPlace}
use Rattle.view_core.specs.Same.{entry_alike, same_place, same_seen, set_alike, shown_alike}
use Rattle.path_laws.proofs.Shapes.{keys}
use Rattle.view_core.proofs.SameViews.{same_bytes}

twice : (b : Bool) → b ≡ (b && b)
twice true = refl
twice false = refl

neither : (p q r s : Bool) → (p && q) ≡ false → false ≡ ((p && r) && (q && s))
neither true true r s h = absurd cc
neither true false true s h = refl
neither true false false s h = refl
neither false q r s h = refl

not_first : (p r t : Bool) → p ≡ false → false ≡ ((p && r) && t)
not_first true r t h = absurd cc
not_first false r t h = refl

-- one list gone through
module _ {X : Type 0} (test : X → Bool) (x : X) (left xs all : List X) (is : left ≡ x ∷ xs) (same : list_all test left ≡ list_all test all) where
  pub each_ends : test x ≡ false → false ≡ list_all test all
  each_ends h = sym (ap (λ (b : Bool). b && list_all test xs) h) ∙ sym (ap (list_all test) is) ∙ same

  pub each_goes : test x ≡ true → list_all test xs ≡ list_all test all
  each_goes h = sym (ap (λ (b : Bool). b && list_all test xs) h) ∙ sym (ap (list_all test) is) ∙ same

all_behind : {X : Type 0} (P : X → Type 0) (x : X) (xs : List X) → All P (x ∷ xs) → All P xs
all_behind P x xs h = λ k d l. h (suc k) d (omega arith)

-- of two lists and what is left of them: what is left passes where all do, and of each item something is known
module _ {X : Type 0} (test : X → Bool) (First Other : X → Type 0) (firsts others : List X) where
  pub record LeftBeside (xs ys : List X) : Type 0 where
    pub firsts_pass : list_all test xs ≡ list_all test firsts
    pub others_pass : list_all test ys ≡ list_all test others
    pub firsts_known : All First xs
    pub others_known : All Other ys

  abbrev pub all_pass : Bool
  all_pass = list_all test firsts && list_all test others

  module _ (x y : X) (firsts_left others_left xs ys : List X) (is : firsts_left ≡ x ∷ xs) (too : others_left ≡ y ∷ ys) (left : LeftBeside firsts_left others_left) where
    there : LeftBeside (x ∷ xs) (y ∷ ys)
    there = subst (λ (l : List X). LeftBeside l (y ∷ ys)) is (subst (λ (l : List X). LeftBeside firsts_left l) too left)

    pub first_known : First x
    first_known = there.firsts_known 0 x (omega arith)

    pub other_known : Other y
    other_known = there.others_known 0 y (omega arith)

    pub two_end : (test x && test y) ≡ false → false ≡ all_pass
    two_end h = neither (test x) (test y) (list_all test xs) (list_all test ys) h ∙ (λ i. there.firsts_pass i && there.others_pass i)

    pub two_go : (test x && test y) ≡ true → LeftBeside xs ys
    two_go h =
        let p : (test x ≡ true) × (test y ≡ true) = and_parts (test x) (test y) h in
        record {
          firsts_pass = sym (ap (λ (b : Bool). b && list_all test xs) p.0) ∙ there.firsts_pass;
          others_pass = sym (ap (λ (b : Bool). b && list_all test ys) p.1) ∙ there.others_pass;
          firsts_known = all_behind First x xs there.firsts_known;
          others_known = all_behind Other y ys there.others_known;
        }

  module _ (x : X) (firsts_left others_left xs ys : List X) (is : firsts_left ≡ x ∷ xs) (none : others_left ≡ []) (left : LeftBeside firsts_left others_left) where
    there_alone : LeftBeside (x ∷ xs) []
    there_alone = subst (λ (l : List X). LeftBeside l []) is (subst (λ (l : List X). LeftBeside firsts_left l) none left)

    pub one_ends : test x ≡ false → false ≡ all_pass
    one_ends h = not_first (test x) (list_all test xs) true h ∙ (λ i. there_alone.firsts_pass i && there_alone.others_pass i)

    pub one_goes : ys ≡ [] → test x ≡ true → LeftBeside xs ys
    one_goes e h = subst (λ (l : List X). LeftBeside xs l) (sym e) (record {
      firsts_pass = sym (ap (λ (b : Bool). b && list_all test xs) h) ∙ there_alone.firsts_pass;
      others_pass = there_alone.others_pass;
      firsts_known = all_behind First x xs there_alone.firsts_known;
      others_known = there_alone.others_known;
    })

-- sets in one place, of which it is known that they stand there
pub sets_in_place : (names : List HeldName) (date : ℕ) (a b : SoloStore) (p q : SetPlace) (x y : DataSet) → same_place p q ≡ true →
    set_in a.sets p.key p.serial ≡ Some x → set_in b.sets q.key q.serial ≡ Some y →
    shown_alike names date p.key (Some x) (Some y) ≡ (set_alike names date a b p.key p.serial && set_alike names date a b q.key q.serial)
sets_in_place names date a b p q x y h at_p at_q =
    let k : p.key ≡ q.key = keys p.key q.key (and_parts (same_key p.key q.key) (bytes_eq p.serial q.serial) h).0 in
    let s : p.serial ≡ q.serial = same_bytes p.serial q.serial (and_parts (same_key p.key q.key) (bytes_eq p.serial q.serial) h).1 in
    let there : set_in b.sets p.key p.serial ≡ Some y = (λ i. set_in b.sets (k i) (s i)) ∙ at_q in
    let first : shown_alike names date p.key (Some x) (Some y) ≡ set_alike names date a b p.key p.serial =
    λ i. shown_alike names date p.key (sym at_p i) (sym there i) in
    let other : set_alike names date a b p.key p.serial ≡ set_alike names date a b q.key q.serial = λ i. set_alike names date a b (k i) (s i) in
    first ∙ twice (set_alike names date a b p.key p.serial) ∙ ap (λ (c : Bool). set_alike names date a b p.key p.serial && c) other

-- entries of one name
pub entries_of_name : (names : List HeldName) (a b : SoloStore) (n m : List ℕ) (x y : CatEntry) → bytes_eq n m ≡ true →
    entry_in a.catalog n ≡ Some x → entry_in b.catalog m ≡ Some y →
    same_seen (is_among names n) (is_among names (base_of n)) (Some x) (Some y) ≡ (entry_alike names a b n && entry_alike names a b m)
entries_of_name names a b n m x y h at_n at_m =
    let e : n ≡ m = same_bytes n m h in
    let there : entry_in b.catalog n ≡ Some y = ap (entry_in b.catalog) e ∙ at_m in
    let first : same_seen (is_among names n) (is_among names (base_of n)) (Some x) (Some y) ≡ entry_alike names a b n =
    λ i. same_seen (is_among names n) (is_among names (base_of n)) (sym at_n i) (sym there i) in
    first ∙ twice (entry_alike names a b n) ∙ ap (λ (c : Bool). entry_alike names a b n && c) (ap (entry_alike names a b) e)
