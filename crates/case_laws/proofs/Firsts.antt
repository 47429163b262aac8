-- The first element of a list of which something holds.
use Rattle.std.proofs.Common.{◌≡◌, ◌++◌, ◌⊎◌, inl, inr, List, [], ◌∷◌, All, refl, sym, ap, subst}
use Rattle.std.proofs.lemmas.List.Elements.{All-cons, All-head, All-nil, All-tail}

-- what stands before the first, the first, and what stands behind it
pub record First {X : Type 0} (No Yes : X → Type 0) (xs : List X) : Type 0 where
  pub before : List X
  pub it : X
  pub after : List X
  pub stands : xs ≡ before ++ it ∷ after
  pub none_before : All No before
  pub is_it : Yes it

later : {X : Type 0} (No Yes : X → Type 0) (x : X) (xs : List X) → No x → First No Yes xs → First No Yes (x ∷ xs)
later No Yes x xs isnt f = record {
  before = x ∷ f.before;
  it = f.it;
  after = f.after;
  stands = ap (λ l. x ∷ l) f.stands;
  none_before = All-cons No x f.before isnt f.none_before;
  is_it = f.is_it;
}

next : {X : Type 0} (No Yes : X → Type 0) (x : X) (xs : List X) → No x → (All No xs) ⊎ First No Yes xs → (All No (x ∷ xs)) ⊎ First No Yes (x ∷ xs)
next No Yes x xs isnt (inl all) = inl (All-cons No x xs isnt all)
next No Yes x xs isnt (inr f) = inr (later No Yes x xs isnt f)

here : {X : Type 0} (No Yes : X → Type 0) (x : X) (xs : List X) → Yes x → First No Yes (x ∷ xs)
here No Yes x xs is_so = record { before = []; it = x; after = xs; stands = refl; none_before = All-nil No; is_it = is_so }

by_first : {X : Type 0} (No Yes : X → Type 0) (x : X) (xs : List X) → No x ⊎ Yes x → (All No xs) ⊎ First No Yes xs → (All No (x ∷ xs)) ⊎ First No Yes (x ∷ xs)
by_first No Yes x xs (inl isnt) more = next No Yes x xs isnt more
by_first No Yes x xs (inr is_so) more = inr (here No Yes x xs is_so)

-- of each element it is known whether it is so
pub first_or_none : {X : Type 0} (No Yes : X → Type 0) → ((x : X) → No x ⊎ Yes x) → (xs : List X) → (All No xs) ⊎ First No Yes xs
first_or_none No Yes known [] = inl (All-nil No)
first_or_none No Yes known (x ∷ xs) = by_first No Yes x xs (known x) (first_or_none No Yes known xs)

-- two splits of one list at the first are one
pub same_first : {X : Type 0} (No Yes : X → Type 0) → ((x : X) → No x → Yes x → ⊥) → (before other after others : List X) (x y : X) →
    before ++ x ∷ after ≡ other ++ y ∷ others → All No before → All No other → Yes x → Yes y → x ≡ y
same_first No Yes clash [] [] after others x y e all both p q = cc
same_first No Yes clash [] (z ∷ zs) after others x y e all both p q =
    let same : x ≡ z = cc in absurd (clash z (All-head No z zs both) (subst Yes same p))
same_first No Yes clash (z ∷ zs) [] after others x y e all both p q =
    let same : z ≡ y = cc in absurd (clash z (All-head No z zs all) (subst Yes (sym same) q))
same_first No Yes clash (z ∷ zs) (w ∷ ws) after others x y e all both p q =
    let rest : zs ++ x ∷ after ≡ ws ++ y ∷ others = cc in
    same_first No Yes clash zs ws after others x y rest (All-tail No z zs all) (All-tail No w ws both) p q

-- none, and one that is so
pub none_and_one : {X : Type 0} (No Yes : X → Type 0) → ((x : X) → No x → Yes x → ⊥) → (before after : List X) (x : X) → All No (before ++ x ∷ after) →
    Yes x → ⊥
none_and_one No Yes clash [] after x all p = clash x (All-head No x after all) p
none_and_one No Yes clash (z ∷ zs) after x all p = none_and_one No Yes clash zs after x (All-tail No z (zs ++ x ∷ after) all) p
