-- Reads and writes, one after another.
use Rattle.std.proofs.Common.{◌≡◌, ℕ, ◌+◌, ◌-◌, ◌≤◌, List, [], ◌∷◌, ◌++◌, length, take, drop, get_or, Option, None, Some, Result, Ok, Err, OnErr, sym, ap, ◌∙◌, append_assoc, arith, length-drop}
use Rattle.std.specs.Io.KnownBytes.{Appends, Consumes}
use Rattle.std.proofs.Math.Seq.{take-add}
use Rattle.std.proofs.lemmas.List.{append-nil, take_all, take_more}

pub appended_none : (a : Option (List ℕ)) → Appends a a []
appended_none None = tt
appended_none (Some a) = sym (append-nil a)

pub appended_twice : (a b c : Option (List ℕ)) (xs ys : List ℕ) → Appends a b xs → Appends b c ys → Appends a c (xs ++ ys)
appended_twice None b c xs ys first then = tt
appended_twice (Some a) None c xs ys first then = absurd first
appended_twice (Some a) (Some b) None xs ys first then = absurd then
appended_twice (Some a) (Some b) (Some c) xs ys first then = then ∙ ap (λ z. z ++ ys) first ∙ append_assoc a xs ys

pub consumed_twice : (a b c : Option (List ℕ)) (xs ys : List ℕ) → Consumes a b xs → Consumes b c ys → Consumes a c (xs ++ ys)
consumed_twice None b c xs ys first then = tt
consumed_twice (Some a) None c xs ys first then = absurd first
consumed_twice (Some a) (Some b) None xs ys first then = absurd then
consumed_twice (Some a) (Some b) (Some c) xs ys first then = first ∙ ap (λ z. xs ++ z) then ∙ sym (append_assoc xs ys c)

-- what a call took of the rest of a text
pub taken_more : (at count : ℕ) (text : List ℕ) → take at text ++ take count (take (length text - at) (drop at text)) ≡ take (at + count) text
taken_more at count text =
    ap (λ rest. take at text ++ take count rest) (take_all (length text - at) (drop at text) (omega (arith, length-drop at text))) ∙ sym (take-add at count text)

pub still_within : (at count : ℕ) (text : List ℕ) → at ≤ length text → count ≤ length (take (length text - at) (drop at text)) → at + count ≤ length text
still_within at count text low high =
    let rest = ap length (take_all (length text - at) (drop at text) (omega (arith, length-drop at text))) in
    omega (arith, length-drop at text)

-- a list of one more than n
pub without_last : (n : ℕ) (xs : List ℕ) → length xs ≡ n + 1 → take n xs ++ get_or xs n 0 ∷ [] ≡ xs
without_last n xs long = sym (take_more xs n 0 (omega arith)) ∙ take_all (n + 1) xs (omega arith)

pub of_any : {T E P : Type 0} (r : Result T E) → P → OnErr r P
of_any (Ok x) p = tt
of_any (Err e) p = p
