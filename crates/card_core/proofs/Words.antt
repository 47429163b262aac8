-- the characters of a word
use Rattle.std.proofs.Common.{◌≡◌, ℕ, zero, suc, ◌+◌, ◌≤◌, Bool, true, false, cond, not, ◌||◌, take_while, take, drop, List, [], ◌∷◌, length, refl, sym, ap, ◌∙◌, arith, length-drop}
use Rattle.std.specs.List.{list_any}
use Rattle.std.proofs.lemmas.List.{drop-drop}
use Rattle.std.proofs.lemmas.List.Sums.{take_while-cons}
use Rattle.card_core.specs.Fields.{is_unquoted}

abbrev pub is_stop : ℕ → Bool
is_stop c = not (is_unquoted c)

none_more : (n : ℕ) → n ≡ 0 + n
none_more n = omega arith

one_more : (m n : ℕ) → suc (m + n) ≡ suc m + n
one_more m n = omega arith

-- where none of the first characters stops, all of them stand before the first that does
pub before_stop : (count : ℕ) (text : List ℕ) → count ≤ length text → list_any is_stop (take count text) ≡ false →
    length (take_while is_unquoted text) ≡ count + length (take_while is_unquoted (drop count text))
before_stop zero text fits none = none_more (length (take_while is_unquoted text))
before_stop (suc count) [] fits none = absurd (omega arith)
before_stop (suc count) (c ∷ cs) fits none = cases (λ h. before_stop count cs (omega arith) h) (is_unquoted c) refl none
  where
    cases : (list_any is_stop (take count cs) ≡ false → length (take_while is_unquoted cs) ≡ count + length (take_while is_unquoted (drop count cs))) →
        (b : Bool) → is_unquoted c ≡ b → (not (is_unquoted c) || list_any is_stop (take count cs)) ≡ false →
        length (take_while is_unquoted (c ∷ cs)) ≡ suc count + length (take_while is_unquoted (drop count cs))
    cases next true is none =
        let others : list_any is_stop (take count cs) ≡ false = sym (ap (λ (x : Bool). not x || list_any is_stop (take count cs)) is) ∙ none in
        ap length (take_while-cons is_unquoted c cs ∙ ap (λ (x : Bool). cond x (c ∷ take_while is_unquoted cs) []) is)
        ∙ ap suc (next others)
        ∙ one_more count (length (take_while is_unquoted (drop count cs)))
    cases next false is none = absurd (cc (sym (ap (λ (x : Bool). not x || list_any is_stop (take count cs)) is) ∙ none))

one_sum : (m n : ℕ) → m + (8 + n) ≡ m + 8 + n
one_sum m n = omega arith

eight_fits : (text : List ℕ) (count : ℕ) → count + 8 ≤ length text → 8 ≤ length (drop count text)
eight_fits text count fits = let rest = length-drop count text in omega arith

-- and so behind a first part
pub eight_more : (text : List ℕ) (count : ℕ) → count + 8 ≤ length text →
    length (take_while is_unquoted text) ≡ count + length (take_while is_unquoted (drop count text)) →
    list_any is_stop (take 8 (drop count text)) ≡ false →
    length (take_while is_unquoted text) ≡ count + 8 + length (take_while is_unquoted (drop (count + 8) text))
eight_more text count fits before none =
    let more = before_stop 8 (drop count text) (eight_fits text count fits) none in
    before ∙ ap (λ n. count + n) more ∙ one_sum count (length (take_while is_unquoted (drop 8 (drop count text))))
    ∙ ap (λ rest. count + 8 + length (take_while is_unquoted rest)) (drop-drop 8 count text)
