-- The columns of a card that is written by its fields.
use Rattle.std.proofs.Common.{◌≡◌, ◌≤◌, ◌+◌, ◌-◌, ◌++◌, ℕ, Bool, true, false, cond, List, [], ◌∷◌, Option, Some, length, take, drop, refl, sym, ap, ◌∙◌, subst, arith, append_assoc, length-append}
use Rattle.std.specs.Prelude.{not, ◌&&◌, suc, zero}
use Rattle.std.specs.List.{list_all}
use Rattle.std.proofs.lemmas.Bool.{and_parts}
use Rattle.std.proofs.lemmas.List.{length-replicate}
use Rattle.std.proofs.lemmas.List.Folds.{list_all-append}
use Rattle.std.proofs.Math.Seq.{drop-append_seam, take-append_seam}
use Rattle.card_core.specs.Cards.{columns, filled}
use Rattle.card_core.specs.Fields.{begun_with, operand_text, quoted_after, without_blanks}
use Rattle.reader_laws.specs.WrittenCards.{blanks, card_with, is_apart, is_blank, is_empty, is_whole}
use Rattle.reader_laws.proofs.Fronts.{all_replicate, behind_all, behind_is, stops}

take_front : (k : ℕ) (xs ys : List ℕ) → length xs ≡ k → take k (xs ++ ys) ≡ xs
take_front k xs ys e = subst (λ (n : ℕ). take n (xs ++ ys) ≡ xs) e (take-append_seam xs ys)

drop_front : (k : ℕ) (xs ys : List ℕ) → length xs ≡ k → drop k (xs ++ ys) ≡ ys
drop_front k xs ys e = subst (λ (n : ℕ). drop n (xs ++ ys) ≡ ys) e (drop-append_seam xs ys)

length_padded : (k n : ℕ) (xs : List ℕ) → length xs + n ≡ k → length (xs ++ blanks n) ≡ k
length_padded k n xs e = length-append xs (blanks n) ∙ ap (λ (m : ℕ). length xs + m) (length-replicate n 32) ∙ e

pub padded_front : (k n : ℕ) (xs ys : List ℕ) → length xs + n ≡ k → take k (xs ++ (blanks n ++ ys)) ≡ xs ++ blanks n
padded_front k n xs ys e = ap (take k) (sym (append_assoc xs (blanks n) ys)) ∙ take_front k (xs ++ blanks n) ys (length_padded k n xs e)

pub padded_behind : (k n : ℕ) (xs ys : List ℕ) → length xs + n ≡ k → drop k (xs ++ (blanks n ++ ys)) ≡ ys
padded_behind k n xs ys e = ap (drop k) (sym (append_assoc xs (blanks n) ys)) ∙ drop_front k (xs ++ blanks n) ys (length_padded k n xs e)

-- columns 3 to 71, and from column 4 on, and column 72
pub fields_are : (fields : List ℕ) (mark : ℕ) (behind : List ℕ) → length fields ≤ 69 →
    columns 3 71 (card_with fields mark behind) ≡ fields ++ blanks (69 - length fields)
fields_are fields mark behind fits = padded_front 69 (69 - length fields) fields (mark ∷ behind) (omega arith)

pub fields_behind_are : (fields : List ℕ) (mark : ℕ) (behind : List ℕ) → length (32 ∷ fields) ≤ 69 →
    columns 4 71 (card_with (32 ∷ fields) mark behind) ≡ fields ++ blanks (69 - length (32 ∷ fields))
fields_behind_are fields mark behind fits = padded_front 68 (69 - length (32 ∷ fields)) fields (mark ∷ behind) (omega arith)

pub mark_is : (fields : List ℕ) (mark : ℕ) (behind : List ℕ) → length fields ≤ 69 → columns 72 72 (card_with fields mark behind) ≡ mark ∷ []
mark_is fields mark behind fits = ap (take 1) (padded_behind 69 (69 - length fields) fields (mark ∷ behind) (omega arith))

-- a card that is filled with blanks has more behind column 72
pub filled_is : (fields : List ℕ) (mark : ℕ) (behind : List ℕ) →
    filled (card_with fields mark behind) ≡ card_with fields mark (behind ++ blanks (80 - length (card_with fields mark behind)))
filled_is fields mark behind =
    let end : List ℕ = blanks (80 - length (card_with fields mark behind)) in
    let gap : List ℕ = blanks (69 - length fields) in
    ap (λ (cs : List ℕ). 47 ∷ 47 ∷ cs) (append_assoc fields (gap ++ (mark ∷ behind)) end
    ∙ ap (λ (cs : List ℕ). fields ++ cs) (append_assoc gap (mark ∷ behind) end))

not_chosen : (b : Bool) (other text : Option (List ℕ)) → not b ≡ true → cond b other text ≡ text
not_chosen true other text h = absurd cc
not_chosen false other text h = refl

chosen : (b : Bool) (text other : Option (List ℕ)) → b ≡ true → cond (b && true) text other ≡ text
chosen true text other h = refl
chosen false text other h = absurd cc

-- an operand's text ends where a blank stands behind it, or nothing
pub text_is : (within : Bool) (text behind : List ℕ) → is_whole within text ≡ true → is_apart behind ≡ true → operand_text within (text ++ behind) ≡ Some text
text_is true [] behind h k = absurd cc
text_is false [] [] h k = refl
text_is false [] (c ∷ behind) h k = chosen (is_blank c) (Some []) (begun_with c (operand_text (quoted_after false c) behind)) k
text_is within (c ∷ cs) behind h k =
    let parts = and_parts (not (is_blank c && not within)) (is_whole (quoted_after within c) cs) h in
    not_chosen (is_blank c && not within) (Some []) (begun_with c (operand_text (quoted_after within c) (cs ++ behind))) parts.0
    ∙ ap (begun_with c) (text_is (quoted_after within c) cs behind parts.1 k)

-- blanks, and what is behind them
pub blanks_are : (n : ℕ) (text : List ℕ) → stops is_blank text ≡ true → without_blanks (blanks n ++ text) ≡ text
blanks_are n text h = behind_is is_blank (blanks n) text (all_replicate is_blank 32 n refl) h

not_blank : (b : Bool) (rest : Bool) → (not (b && true) && rest) ≡ true → not b ≡ true
not_blank true rest h = absurd cc
not_blank false rest h = refl

-- a text that is whole begins with no blank
pub whole_stops : (text behind : List ℕ) → is_whole false text ≡ true → is_empty text ≡ false → stops is_blank (text ++ behind) ≡ true
whole_stops [] behind h k = absurd cc
whole_stops (c ∷ cs) behind h k = not_blank (is_blank c) (is_whole (quoted_after false c) cs) h

not_all : (b rest : Bool) → not b ≡ true → (b && rest) ≡ false
not_all true rest h = absurd cc
not_all false rest h = refl

pub whole_not_blank : (text : List ℕ) → is_whole false text ≡ true → is_empty text ≡ false → list_all is_blank text ≡ false
whole_not_blank [] h k = absurd cc
whole_not_blank (c ∷ cs) h k = not_all (is_blank c) (list_all is_blank cs) (whole_stops (c ∷ cs) [] h k)

-- what is apart, and blanks behind it
pub apart_before : (text : List ℕ) (n : ℕ) → is_apart text ≡ true → is_apart (text ++ blanks n) ≡ true
apart_before [] zero h = refl
apart_before [] (suc n) h = refl
apart_before (c ∷ cs) n h = h

-- the blanks before a text, the text, and what is behind it, where blanks fill the card
pub part_fields : (b : ℕ) (text comment : List ℕ) (n : ℕ) → (blanks b ++ (text ++ comment)) ++ blanks n ≡ blanks b ++ (text ++ (comment ++ blanks n))
part_fields b text comment n = append_assoc (blanks b) (text ++ comment) (blanks n)
    ∙ ap (λ (cs : List ℕ). blanks b ++ cs) (append_assoc text comment (blanks n))

-- a text that is something is read behind the blanks before it
pub behind_blanks : (b : ℕ) (text comment : List ℕ) (n : ℕ) → is_whole false text ≡ true → is_empty text ≡ false →
    without_blanks ((blanks b ++ (text ++ comment)) ++ blanks n) ≡ text ++ (comment ++ blanks n)
behind_blanks b text comment n h k =
    ap without_blanks (part_fields b text comment n) ∙ blanks_are b (text ++ (comment ++ blanks n)) (whole_stops text (comment ++ blanks n) h k)

pub read_behind_blanks : (b : ℕ) (text comment : List ℕ) (n : ℕ) → is_whole false text ≡ true → is_apart comment ≡ true → is_empty text ≡ false →
    operand_text false (without_blanks ((blanks b ++ (text ++ comment)) ++ blanks n)) ≡ Some text
read_behind_blanks b text comment n h k something =
    ap (operand_text false) (behind_blanks b text comment n h something) ∙ text_is false text (comment ++ blanks n) h (apart_before comment n k)

blanks_read : (text : List ℕ) → list_all is_blank text ≡ true → operand_text false (without_blanks text) ≡ Some []
blanks_read text h = ap (operand_text false) (behind_all is_blank text h)

all_both : (p : ℕ → Bool) (xs ys : List ℕ) → list_all p xs ≡ true → list_all p ys ≡ true → list_all p (xs ++ ys) ≡ true
all_both p xs ys h k = list_all-append p xs ys ∙ ap (λ (b : Bool). b && list_all p ys) h ∙ k

-- where there is no operand, blanks fill the card
pub nothing_read : (b : ℕ) (text comment : List ℕ) (n : ℕ) → is_empty text ≡ true → is_empty comment ≡ true →
    operand_text false (without_blanks ((blanks b ++ (text ++ comment)) ++ blanks n)) ≡ Some []
nothing_read b [] [] n h k =
    blanks_read ((blanks b ++ ([] ++ [])) ++ blanks n)
    (all_both is_blank (blanks b ++ ([] ++ [])) (blanks n) (all_both is_blank (blanks b) [] (all_replicate is_blank 32 b refl) refl)
    (all_replicate is_blank 32 n refl))
nothing_read b [] (c ∷ comment) n h k = absurd cc
nothing_read b (c ∷ text) comment n h k = absurd cc
