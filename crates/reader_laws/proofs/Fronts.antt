-- The front of a list that passes a test, and what is behind it.
use Rattle.std.proofs.Common.{◌≡◌, ◌++◌, ℕ, Bool, true, false, cond, List, [], ◌∷◌, length, drop, replicate, refl, sym, ap, ◌∙◌, append-nil}
use Rattle.std.specs.Prelude.{not, ◌&&◌, suc, zero}
use Rattle.std.specs.List.{list_all, take_while}
use Rattle.std.proofs.lemmas.Bool.{and_parts}
use Rattle.std.proofs.lemmas.List.Folds.{list_all-append}
use Rattle.std.proofs.lemmas.List.Sums.{take_while-cons}
use Rattle.std.proofs.Math.Seq.{drop-append_seam}

-- a test ends here
abbrev pub stops : {X : Type 0} → (X → Bool) → List X → Bool
stops p [] = true
stops p (c ∷ cs) = not (p c)

none_taken : {X : Type 0} (y : X) (b : Bool) (ys : List X) → not b ≡ true → cond b (y ∷ ys) [] ≡ []
none_taken y true ys e = absurd cc
none_taken y false ys e = refl

front_empty : {X : Type 0} (p : X → Bool) (ys : List X) → stops p ys ≡ true → take_while p ys ≡ []
front_empty p [] h = refl
front_empty p (y ∷ ys) h = take_while-cons p y ys ∙ none_taken y (p y) (take_while p ys) h

pub front_is : {X : Type 0} (p : X → Bool) (xs ys : List X) → list_all p xs ≡ true → stops p ys ≡ true → take_while p (xs ++ ys) ≡ xs
front_is p [] ys h k = front_empty p ys k
front_is {X} p (x ∷ xs) ys h k =
    let parts = and_parts (p x) (list_all p xs) h in
    take_while-cons p x (xs ++ ys)
    ∙ ap (λ (b : Bool). cond b (x ∷ take_while p (xs ++ ys)) []) parts.0
    ∙ ap (λ (cs : List X). x ∷ cs) (front_is p xs ys parts.1 k)

pub behind_is : {X : Type 0} (p : X → Bool) (xs ys : List X) → list_all p xs ≡ true → stops p ys ≡ true →
    drop (length (take_while p (xs ++ ys))) (xs ++ ys) ≡ ys
behind_is {X} p xs ys h k = ap (λ (front : List X). drop (length front) (xs ++ ys)) (front_is p xs ys h k) ∙ drop-append_seam xs ys

pub behind_all : {X : Type 0} (p : X → Bool) (xs : List X) → list_all p xs ≡ true → drop (length (take_while p xs)) xs ≡ []
behind_all {X} p xs h = sym (ap (λ (all : List X). drop (length (take_while p all)) all) (append-nil xs)) ∙ behind_is p xs [] h refl

pub all_replicate : (p : ℕ → Bool) (c n : ℕ) → p c ≡ true → list_all p (replicate n c) ≡ true
all_replicate p c zero h = refl
all_replicate p c (suc n) h = ap (λ (b : Bool). b && list_all p (replicate n c)) h ∙ all_replicate p c n h

-- where a text stops a test, it does so with more behind it that stops it
pub stops_before : {X : Type 0} (p : X → Bool) (xs ys : List X) → stops p xs ≡ true → stops p ys ≡ true → stops p (xs ++ ys) ≡ true
stops_before p [] ys h k = k
stops_before p (x ∷ xs) ys h k = h

false_behind : (a b : Bool) → b ≡ false → (a && b) ≡ false
false_behind true b h = h
false_behind false b h = refl

pub other_behind : {X : Type 0} (p : X → Bool) (xs ys : List X) → list_all p ys ≡ false → list_all p (xs ++ ys) ≡ false
other_behind p xs ys h = list_all-append p xs ys ∙ false_behind (list_all p xs) (list_all p ys) h

pub other_before : {X : Type 0} (p : X → Bool) (xs ys : List X) → list_all p xs ≡ false → list_all p (xs ++ ys) ≡ false
other_before p xs ys h = list_all-append p xs ys ∙ ap (λ (b : Bool). b && list_all p ys) h
