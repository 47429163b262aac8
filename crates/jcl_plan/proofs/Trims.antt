-- The blanks at a text's end.
use Rattle.std.proofs.Common.{◌≡◌, ℕ, ◌+◌, ◌-◌, ◌<◌, ◌≤◌, ◌==◌, Bool, true, false, not, ◌||◌, cond, List, [], ◌∷◌, ◌++◌, length, take, drop, get_or, refl, ap, sym, ◌∙◌, arith}
use Rattle.std.specs.List.{list_any}
use Rattle.std.proofs.lemmas.Bool.{eqb-true, ne_eqb}
use Rattle.std.proofs.lemmas.List.{append-nil, append_assoc}
use Rattle.std.proofs.Math.Seq.{take-add}
use Rattle.std.proofs.lemmas.List.{take_more}
use Rattle.jcl_plan.specs.Texts.{trimmed, onto_text}

pub trimmed-append-blank : (xs : List ℕ) → trimmed (xs ++ 32 ∷ []) ≡ trimmed xs
trimmed-append-blank [] = refl
trimmed-append-blank (x ∷ xs) = ap (onto_text x) (trimmed-append-blank xs)

onto-snoc : (x c : ℕ) (xs : List ℕ) → onto_text x (xs ++ c ∷ []) ≡ x ∷ xs ++ c ∷ []
onto-snoc x c [] = refl
onto-snoc x c (y ∷ ys) = refl

pub trimmed-append-other : (xs : List ℕ) (c : ℕ) → (c == 32) ≡ false → trimmed (xs ++ c ∷ []) ≡ xs ++ c ∷ []
trimmed-append-other [] c e = ap (λ b. cond b [] (c ∷ [])) e
trimmed-append-other (x ∷ xs) c e = ap (onto_text x) (trimmed-append-other xs c e) ∙ onto-snoc x c xs

-- a blank at the end of the front may go
pub trimmed-shorter : (xs : List ℕ) (n : ℕ) → n < length xs → get_or xs n 0 ≡ 32 → trimmed (take (n + 1) xs) ≡ trimmed (take n xs)
trimmed-shorter xs n h e = ap trimmed (take_more xs n 0 h ∙ ap (λ c. take n xs ++ c ∷ []) e) ∙ trimmed-append-blank (take n xs)

-- a front that ends otherwise stays
pub trimmed-stays : (xs : List ℕ) (n : ℕ) → n < length xs → (get_or xs n 0 == 32) ≡ false → trimmed (take (n + 1) xs) ≡ take (n + 1) xs
trimmed-stays xs n h e = rw (take_more xs n 0 h) (trimmed-append-other (take n xs) (get_or xs n 0) e)

-- the same at a place above 0, counted back
pub trimmed-before : (xs : List ℕ) (n : ℕ) → 0 < n → n ≤ length xs → get_or xs (n - 1) 0 ≡ 32 → trimmed (take n xs) ≡ trimmed (take (n - 1) xs)
trimmed-before xs n above within e =
    let whole : n - 1 + 1 ≡ n = omega arith in
    rw whole at (trimmed-shorter xs (n - 1) (omega arith) e)

pub trimmed-front : (xs : List ℕ) (n : ℕ) → 0 < n → n ≤ length xs → (get_or xs (n - 1) 0 ≡ 32 → ⊥) → trimmed (take n xs) ≡ take n xs
trimmed-front xs n above within e =
    let whole : n - 1 + 1 ≡ n = omega arith in
    rw whole at (trimmed-stays xs (n - 1) (omega arith) (ne_eqb (get_or xs (n - 1) 0) 32 e))

abbrev pub is_other : ℕ → Bool
is_other c = not (c == 32)

-- blanks behind a text may go
pub trimmed-append-blanks : (xs ys : List ℕ) → list_any is_other ys ≡ false → trimmed (xs ++ ys) ≡ trimmed xs
trimmed-append-blanks xs [] none = ap trimmed (append-nil xs)
trimmed-append-blanks xs (y ∷ ys) none = by (y == 32) refl none (trimmed-append-blanks (xs ++ y ∷ []) ys)
  where
    by : (b : Bool) → (y == 32) ≡ b → (not b || list_any is_other ys) ≡ false →
        (list_any is_other ys ≡ false → trimmed ((xs ++ y ∷ []) ++ ys) ≡ trimmed (xs ++ y ∷ [])) → trimmed (xs ++ y ∷ ys) ≡ trimmed xs
    by true blank rest fewer =
        ap trimmed (sym (append_assoc xs (y ∷ []) ys))
        ∙ fewer rest
        ∙ ap (λ c. trimmed (xs ++ c ∷ [])) (eqb-true y 32 blank)
        ∙ trimmed-append-blank xs
    by false other rest fewer = cc

-- the last of a front may go where they are blanks
pub trimmed-before-blanks : (xs : List ℕ) (n : ℕ) → 8 ≤ n → list_any is_other (take (n - (n - 8)) (drop (n - 8) xs)) ≡ false → trimmed (take (n - 8) xs) ≡ trimmed (take n xs)
trimmed-before-blanks xs n above none =
    let whole : n - 8 + (n - (n - 8)) ≡ n = omega arith in
    sym (ap (λ k. trimmed (take k xs)) (sym whole)
    ∙ ap trimmed (take-add (n - 8) (n - (n - 8)) xs)
    ∙ trimmed-append-blanks (take (n - 8) xs) (take (n - (n - 8)) (drop (n - 8) xs)) none)
