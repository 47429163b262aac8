-- The place of a name in a list in byte order.
use Rattle.std.proofs.Common.{◌≡◌, ℕ, suc, ◌+◌, ◌<◌, ◌||◌, List, [], ◌∷◌, ◌++◌, length, take, drop, get_or, set, refl, sym, ap, ◌∙◌, add-one, append_assoc, arith, drop-cons}
use Rattle.std.specs.List.{flat_map, insert}
use Rattle.std.specs.Ordering.{nat_cmp}
use Rattle.std.specs.Cmp.Lexicographic.{slice_cmp}
use Rattle.std.specs.declared.cmp.Ordering.{Ordering}
use Rattle.std.specs.declared.cmp.Ordering.TheVariants.{Less, Equal, Greater}
use Rattle.std.proofs.lemmas.List.{append-nil, drop-set-lt, get_or_default, take-append-drop, take_more, take_more_set}
use Rattle.std.proofs.lemmas.Grind.{flat_map-append}
use Rattle.std.proofs.Math.Seq.{drop-length, take-length}
use Rattle.jcl_meaning.specs.declared.names.HeldName.{HeldName}
use Rattle.jcl_meaning.specs.Names.{entered_at, held, with_name, with_names}

-- what stands at a place and behind it
split_at : (xs : List HeldName) (i : ℕ) (t : HeldName) → i < length xs → t ≡ get_or xs i t → drop i xs ≡ t ∷ drop (i + 1) xs
split_at xs i t h e = rw add-one (drop-cons xs i t h ∙ ap (λ x. x ∷ drop (suc i) xs) (sym e))

set_split : (xs : List HeldName) (i : ℕ) (v : HeldName) → i < length xs → set xs i v ≡ take i xs ++ v ∷ drop (i + 1) xs
set_split xs i v h =
    let lt : i < i + 1 = omega arith in
    sym (take-append-drop (i + 1) (set xs i v))
    ∙ (λ k. take_more_set xs i v h k ++ drop-set-lt (i + 1) xs i v lt k)
    ∙ append_assoc (take i xs) (v ∷ []) (drop (i + 1) xs)

-- a name that comes before the one there
pub name_before : (xs : List HeldName) (i : ℕ) (t h : HeldName) → i < length xs → t ≡ get_or xs i t → slice_cmp nat_cmp h.name t.name ≡ Less →
    take i xs ++ with_name (drop i xs) h ≡ with_name xs h → with_name xs h ≡ insert xs i h
name_before xs i t h lt e o k =
    let there : drop i xs ≡ t ∷ drop (i + 1) xs = split_at xs i t lt e in
    let rest : with_name (drop i xs) h ≡ h ∷ drop i xs =
    ap (λ ys. with_name ys h) there ∙ ap (λ (p : Ordering). entered_at p h t (drop (i + 1) xs) (with_name (drop (i + 1) xs) h)) o ∙ ap (λ ys. h ∷ ys) (sym there) in
    sym k ∙ ap (λ ys. take i xs ++ ys) rest

-- the name that is there
pub name_there : (xs : List HeldName) (i : ℕ) (t h : HeldName) → i < length xs → t ≡ get_or xs i t → slice_cmp nat_cmp h.name t.name ≡ Equal →
    take i xs ++ with_name (drop i xs) h ≡ with_name xs h →
    with_name xs h ≡ set xs i (held (get_or xs i h).name ((get_or xs i h).exclusive || h.exclusive))
name_there xs i t h lt e o k =
    let there : drop i xs ≡ t ∷ drop (i + 1) xs = split_at xs i t lt e in
    let rest : with_name (drop i xs) h ≡ held t.name (t.exclusive || h.exclusive) ∷ drop (i + 1) xs =
    ap (λ ys. with_name ys h) there ∙ ap (λ (p : Ordering). entered_at p h t (drop (i + 1) xs) (with_name (drop (i + 1) xs) h)) o in
    sym k ∙ ap (λ ys. take i xs ++ ys) rest ∙ sym (set_split xs i (held t.name (t.exclusive || h.exclusive)) lt)
    ∙ ap (λ (x : HeldName). set xs i (held x.name (x.exclusive || h.exclusive))) (e ∙ get_or_default xs i t h lt)

-- one more that comes before it
pub name_behind : (xs : List HeldName) (i : ℕ) (t h : HeldName) → i < length xs → t ≡ get_or xs i t → slice_cmp nat_cmp h.name t.name ≡ Greater →
    take i xs ++ with_name (drop i xs) h ≡ with_name xs h → take (i + 1) xs ++ with_name (drop (i + 1) xs) h ≡ with_name xs h
name_behind xs i t h lt e o k =
    let rest : with_name (drop i xs) h ≡ t ∷ with_name (drop (i + 1) xs) h =
    ap (λ ys. with_name ys h) (split_at xs i t lt e) ∙ ap (λ (p : Ordering). entered_at p h t (drop (i + 1) xs) (with_name (drop (i + 1) xs) h)) o in
    ap (λ ys. ys ++ with_name (drop (i + 1) xs) h) (take_more xs i t lt ∙ ap (λ x. take i xs ++ x ∷ []) (sym e))
    ∙ append_assoc (take i xs) (t ∷ []) (with_name (drop (i + 1) xs) h) ∙ ap (λ ys. take i xs ++ ys) (sym rest) ∙ k

-- behind all of them
pub name_last : (xs : List HeldName) (i n : ℕ) (h : HeldName) → i ≡ length xs → n ≡ length xs →
    take i xs ++ with_name (drop i xs) h ≡ with_name xs h → with_name xs h ≡ insert xs n h
name_last xs i n h e f k =
    let all : (m : ℕ) → m ≡ length xs → take m xs ≡ xs = λ m g. ap (λ j. take j xs) g ∙ take-length xs in
    let none : (m : ℕ) → m ≡ length xs → drop m xs ≡ [] = λ m g. ap (λ j. drop j xs) g ∙ drop-length xs in
    sym k ∙ (λ j. all i e j ++ with_name (none i e j) h) ∙ sym (λ j. all n f j ++ h ∷ none n f j)

-- names wanted one after another
pub with_names-append : (names xs ys : List HeldName) → with_names names (xs ++ ys) ≡ with_names (with_names names xs) ys
with_names-append names [] ys = refl
with_names-append names (x ∷ xs) ys = with_names-append (with_name names x) xs ys

-- those that one more item wants
pub with_names-more : {X : Type 0} (f : X → List HeldName) (xs : List X) (i : ℕ) (x : X) (start a b : List HeldName) → i < length xs → x ≡ get_or xs i x →
    a ≡ with_names start (flat_map f (take i xs)) → b ≡ with_names a (f x) → b ≡ with_names start (flat_map f (take (i + 1) xs))
with_names-more f xs i x start a b h e p q =
    let more : flat_map f (take (i + 1) xs) ≡ flat_map f (take i xs) ++ f x =
    ap (λ ys. flat_map f ys) (take_more xs i x h ∙ ap (λ y. take i xs ++ y ∷ []) (sym e)) ∙ flat_map-append f (take i xs) (x ∷ [])
    ∙ ap (λ ys. flat_map f (take i xs) ++ ys) (append-nil (f x)) in
    q ∙ ap (λ ns. with_names ns (f x)) p ∙ sym (with_names-append start (flat_map f (take i xs)) (f x)) ∙ ap (λ ws. with_names start ws) (sym more)
