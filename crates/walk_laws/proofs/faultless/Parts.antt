-- Parts of a record: numbers of two bytes, texts with blanks behind them.
use Rattle.std.proofs.Common.{◌≡◌, ℕ, zero, suc, ◌+◌, ◌-◌, ◌/◌, ◌%◌, ◌<◌, ◌≤◌, ◌==◌, true, cond, List, [], ◌∷◌, ◌++◌, length, take, drop, replicate, refl, sym, ap, ◌∙◌, arith, inl, inr, eqb-true}
use Rattle.std.specs.Prelude.{All}
use Rattle.std.specs.List.{list_all}
use Rattle.std.proofs.lemmas.Bool.{and_parts, cases_Bool}
use Rattle.std.proofs.lemmas.List.{drop-drop, drop-take, drop_more, length-append, length-drop, length-replicate, length-take-le, take-append-drop, take-take}
use Rattle.std.proofs.lemmas.List.Elements.{All-cons, All-head, All-nil, All-tail}
use Rattle.jcl_plan.specs.Texts.{onto_text, trimmed}
use Rattle.cb_meaning.specs.Fields.{byte_at, field, filled, number_at, number_of, part, two_bytes}

abbrev pub IsByte : ℕ → Type 0
IsByte b = b < 256

pub part_long : (r : List ℕ) (from width : ℕ) → from + width ≤ length r → length (part r from width) ≡ width
part_long r from width h = length-take-le width (drop from r) (let e = length-drop from r in omega (arith, h, e))

pub all_take : {X : Type 0} (P : X → Type 0) (n : ℕ) (xs : List X) → All P xs → All P (take n xs)
all_take P zero xs h = All-nil P
all_take P (suc n) [] h = All-nil P
all_take P (suc n) (x ∷ xs) h = All-cons P x (take n xs) (All-head P x xs h) (all_take P n xs (All-tail P x xs h))

pub all_drop : {X : Type 0} (P : X → Type 0) (n : ℕ) (xs : List X) → All P xs → All P (drop n xs)
all_drop P zero xs h = h
all_drop P (suc n) [] h = All-nil P
all_drop P (suc n) (x ∷ xs) h = all_drop P n xs (All-tail P x xs h)

pub part_bytes : (r : List ℕ) (from width : ℕ) → All IsByte r → All IsByte (part r from width)
part_bytes r from width h = all_take IsByte width (drop from r) (all_drop IsByte from r h)

-- a part in two
pub in_two : (r : List ℕ) (from m n : ℕ) → part r from (m + n) ≡ part r from m ++ part r (from + m) n
in_two r from m n =
    let xs = drop from r in
    sym (take-append-drop m (take (m + n) xs)) ∙ ap (λ ys. ys ++ drop m (take (m + n) xs)) (take-take m (m + n) xs (omega arith))
    ∙ ap (λ ys. take m xs ++ ys) (drop-take m n xs) ∙ ap (λ ys. take m xs ++ take n ys) (drop-drop m from r)

-- a part of one byte
pub of_one : (r : List ℕ) (from : ℕ) → from < length r → part r from 1 ≡ byte_at r from ∷ []
of_one r from h = ap (take 1) (drop_more r from 0 h)

-- numbers of two bytes
pub pair_back : (xs : List ℕ) → length xs ≡ 2 → All IsByte xs → two_bytes (number_of xs) ≡ xs
pair_back [] e h = absurd cc
pair_back (a ∷ []) e h = absurd cc
pair_back (a ∷ b ∷ c ∷ xs) e h = absurd (let no : suc (suc (suc (length xs))) ≡ 2 = e in omega (arith, no))
pair_back (a ∷ b ∷ []) e h =
    let low : b < 256 = All-head IsByte b [] (All-tail IsByte a (b ∷ []) h) in
    let first : number_of (a ∷ b ∷ []) / 256 ≡ a = omega (arith, low) in
    let second : number_of (a ∷ b ∷ []) % 256 ≡ b = omega (arith, low) in
    λ i. first i ∷ second i ∷ []

pub short_back : (r : List ℕ) (from : ℕ) → from + 2 ≤ length r → All IsByte r → two_bytes (number_at r (field from 2)) ≡ part r from 2
short_back r from h bytes = pair_back (part r from 2) (part_long r from 2 h) (part_bytes r from 2 bytes)

-- one character over and over
pub all_same : (c : ℕ) (xs : List ℕ) → list_all (λ b. b == c) xs ≡ true → xs ≡ replicate (length xs) c
all_same c [] h = refl
all_same c (x ∷ xs) h =
    let parts = and_parts (x == c) (list_all (λ b. b == c) xs) h in
    let first = eqb-true x c parts.0 in
    λ i. first i ∷ all_same c xs parts.1 i

pub all_same_long : (c n : ℕ) (xs : List ℕ) → length xs ≡ n → list_all (λ b. b == c) xs ≡ true → xs ≡ replicate n c
all_same_long c n xs e h = all_same c xs h ∙ ap (λ k. replicate k c) e

pub zeros_number : (n : ℕ) → number_of (replicate n 0) ≡ 0
zeros_number zero = refl
zeros_number (suc n) = zeros_number n

-- a text is what it is without the blanks behind it, and blanks
behind_onto : (c n : ℕ) (cs ds : List ℕ) → cs ≡ ds ++ replicate n 32 → (m : ℕ) × (c ∷ cs ≡ onto_text c ds ++ replicate m 32)
behind_onto c n cs (d ∷ ds) e = (n, ap (λ xs. c ∷ xs) e)
behind_onto c n cs [] e =
    elim (cases_Bool (c == 32)) [
      | inl blank ↦ (
        suc n,
        (let is = eqb-true c 32 blank in
            (λ i. is i ∷ e i) ∙ ap (λ b. cond b [] (c ∷ []) ++ replicate (suc n) 32) (sym blank)),
      )
      | inr other ↦ (n, ap (λ xs. c ∷ xs) e ∙ ap (λ b. cond b [] (c ∷ []) ++ replicate n 32) (sym other))
    ]

pub blanks_behind : (text : List ℕ) → (n : ℕ) × (text ≡ trimmed text ++ replicate n 32)
blanks_behind [] = (0, refl)
blanks_behind (c ∷ cs) = let rest = blanks_behind cs in behind_onto c rest.0 cs (trimmed cs) rest.1

pub filled_again : (width : ℕ) (text : List ℕ) → length text ≡ width → text ≡ filled width (trimmed text)
filled_again width text e =
    let rest = blanks_behind text in
    let size = ap length rest.1 ∙ length-append (trimmed text) (replicate rest.0 32) in
    let blanks = length-replicate {A = ℕ} rest.0 32 in
    let left : rest.0 ≡ width - length (trimmed text) = omega (arith, e, size, blanks) in
    rest.1 ∙ ap (λ k. trimmed text ++ replicate k 32) left

pub blank_trimmed : (text : List ℕ) → list_all (λ c. c == 32) text ≡ true → trimmed text ≡ []
blank_trimmed [] h = refl
blank_trimmed (c ∷ cs) h =
    let parts = and_parts (c == 32) (list_all (λ d. d == 32) cs) h in
    ap (onto_text c) (blank_trimmed cs parts.1) ∙ ap (λ b. cond b [] (c ∷ [])) parts.0
