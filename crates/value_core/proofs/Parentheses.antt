-- a name and what stands in parentheses behind it
use Rattle.std.proofs.Common.{◌≡◌, ℕ, ◌-◌, ◌==◌, Bool, true, false, cond, not, ◌&&◌, ◌||◌, List, [], ◌∷◌, ◌++◌, length, take, drop, Some, None, refl, sym, ap, ◌∙◌, arith, append_assoc, length-append}
use Rattle.std.specs.List.{list_any}
use Rattle.std.proofs.Math.Seq.{take-append_seam}
use Rattle.std.proofs.lemmas.List.{drop-drop, take-append-drop}
use Rattle.std.proofs.lemmas.List.Sums.{take_while-cons}
use Rattle.value_core.specs.SetNames.{before_parenthesis, behind_parenthesis, ends_in_parenthesis, has_parentheses, is_open, named_part, within_parentheses, without_last}

-- what stands from the first parenthesis on
abbrev pub from_parenthesis : List ℕ → List ℕ
from_parenthesis text = drop (length (before_parenthesis text)) text

before_cons : (c : ℕ) (cs : List ℕ) (opens : Bool) → is_open c ≡ opens → before_parenthesis (c ∷ cs) ≡ cond (not opens) (c ∷ before_parenthesis cs) []
before_cons c cs opens is =
    take_while-cons (λ c. not (is_open c)) c cs ∙ ap (λ (b : Bool). cond (not b) (c ∷ before_parenthesis cs) []) is

pub before_is_front : (text : List ℕ) → take (length (before_parenthesis text)) text ≡ before_parenthesis text
before_is_front [] = refl
before_is_front (c ∷ cs) = cases (is_open c) refl (before_is_front cs)
  where
    cases : (opens : Bool) → is_open c ≡ opens → take (length (before_parenthesis cs)) cs ≡ before_parenthesis cs → take (length (before_parenthesis (c ∷ cs))) (c ∷ cs) ≡ before_parenthesis (c ∷ cs)
    cases true is later =
        ap (λ front. take (length front) (c ∷ cs)) (before_cons c cs true is) ∙ sym (before_cons c cs true is)
    cases false is later =
        ap (λ front. take (length front) (c ∷ cs)) (before_cons c cs false is) ∙ ap (λ front. c ∷ front) later ∙ sym (before_cons c cs false is)

-- whether there is one, and what begins there
pub opens_at : (text rest : List ℕ) (c : ℕ) → from_parenthesis text ≡ c ∷ rest → (list_any is_open text ≡ true) × (is_open c ≡ true)
opens_at [] rest c h = absurd (cc)
opens_at (x ∷ xs) rest c h = cases (is_open x) refl (λ k. opens_at xs rest c k)
  where
    cases : (opens : Bool) → is_open x ≡ opens → (from_parenthesis xs ≡ c ∷ rest → (list_any is_open xs ≡ true) × (is_open c ≡ true)) → (list_any is_open (x ∷ xs) ≡ true) × (is_open c ≡ true)
    cases true is behind =
        let here : x ∷ xs ≡ c ∷ rest = ap (λ front. drop (length front) (x ∷ xs)) (sym (before_cons x xs true is)) ∙ h in
        let same : x ≡ c = cc in
        (ap (λ (b : Bool). b || list_any is_open xs) is, ap is_open (sym same) ∙ is)
    cases false is behind =
        let later : from_parenthesis xs ≡ c ∷ rest = ap (λ front. drop (length front) (x ∷ xs)) (sym (before_cons x xs false is)) ∙ h in
        let found : (list_any is_open xs ≡ true) × (is_open c ≡ true) = behind later in
        (ap (λ (b : Bool). b || list_any is_open xs) is ∙ found.0, found.1)

pub opens_nowhere : (text : List ℕ) → from_parenthesis text ≡ [] → list_any is_open text ≡ false
opens_nowhere [] h = refl
opens_nowhere (x ∷ xs) h = cases (is_open x) refl (opens_nowhere xs)
  where
    cases : (opens : Bool) → is_open x ≡ opens → (from_parenthesis xs ≡ [] → list_any is_open xs ≡ false) → list_any is_open (x ∷ xs) ≡ false
    cases true is behind =
        let here : x ∷ xs ≡ [] = ap (λ front. drop (length front) (x ∷ xs)) (sym (before_cons x xs true is)) ∙ h in
        absurd (cc)
    cases false is behind =
        let later : from_parenthesis xs ≡ [] = ap (λ front. drop (length front) (x ∷ xs)) (sym (before_cons x xs false is)) ∙ h in
        ap (λ (b : Bool). b || list_any is_open xs) is ∙ behind later

ends_by_last : (front : List ℕ) (c : ℕ) → ends_in_parenthesis (front ++ c ∷ []) ≡ (c == 41)
ends_by_last [] c = refl
ends_by_last (a ∷ []) c = refl
ends_by_last (a ∷ b ∷ front) c = ends_by_last (b ∷ front) c

without_last_is : (front : List ℕ) (c : ℕ) → without_last (front ++ c ∷ []) ≡ front
without_last_is front c =
    let shorter : length (front ++ c ∷ []) - 1 ≡ length front = omega (arith, length-append front (c ∷ [])) in
    ap (λ n. take n (front ++ c ∷ [])) shorter ∙ take-append_seam front (c ∷ [])

-- the last character, where a parenthesis stands before it or it is one
ends_at : (text inside : List ℕ) (c : ℕ) → from_parenthesis text ≡ inside ++ c ∷ [] → ends_in_parenthesis text ≡ (c == 41)
ends_at text inside c is =
    let n = length (before_parenthesis text) in
    let whole : text ≡ (take n text ++ inside) ++ c ∷ [] =
    sym (take-append-drop n text) ∙ ap (λ behind. take n text ++ behind) is ∙ sym (append_assoc (take n text) inside (c ∷ [])) in
    ap ends_in_parenthesis whole ∙ ends_by_last (take n text ++ inside) c

pub closed_within : (text inside within : List ℕ) (o c : ℕ) → from_parenthesis text ≡ inside ++ c ∷ [] → (c == 41) ≡ true → inside ≡ o ∷ within →
    (named_part text ≡ before_parenthesis text) × (within_parentheses text ≡ Some within)
closed_within text inside within o c is closes first =
    let n = length (before_parenthesis text) in
    let from : from_parenthesis text ≡ o ∷ (within ++ c ∷ []) = is ∙ ap (λ front. front ++ c ∷ []) first in
    let has : has_parentheses text ≡ true =
    ap (λ (b : Bool). b && ends_in_parenthesis text) (opens_at text (within ++ c ∷ []) o from).0 ∙ (ends_at text inside c is ∙ closes) in
    let behind : behind_parenthesis text ≡ within ++ c ∷ [] = sym (drop-drop 1 n text) ∙ ap (drop 1) from in (
      ap (λ (b : Bool). cond b (before_parenthesis text) text) has,
      ap (λ (b : Bool). cond b (Some (without_last (behind_parenthesis text))) None) has ∙ ap (λ front. Some (without_last front)) behind ∙ ap (λ x. Some x) (without_last_is within c),
    )

abbrev pub IsWhole : List ℕ → Type 0
IsWhole text = (text ≡ named_part text) × (None ≡ within_parentheses text)

whole_from : (text : List ℕ) → has_parentheses text ≡ false → IsWhole text
whole_from text has =
    (sym (ap (λ (b : Bool). cond b (before_parenthesis text) text) has), sym (ap (λ (b : Bool). cond b (Some (without_last (behind_parenthesis text))) None) has))

pub whole_at_none : (text : List ℕ) → from_parenthesis text ≡ [] → IsWhole text
whole_at_none text is = whole_from text (ap (λ (b : Bool). b && ends_in_parenthesis text) (opens_nowhere text is))

and_false : (b : Bool) → (b && false) ≡ false
and_false true = refl
and_false false = refl

pub whole_at_other : (text inside : List ℕ) (c : ℕ) → from_parenthesis text ≡ inside ++ c ∷ [] → (c == 41) ≡ false → IsWhole text
whole_at_other text inside c is other =
    whole_from text (ap (λ (b : Bool). list_any is_open text && b) (ends_at text inside c is ∙ other) ∙ and_false (list_any is_open text))

pub whole_at_one : (text inside : List ℕ) (c : ℕ) → from_parenthesis text ≡ inside ++ c ∷ [] → c ≡ 41 → inside ≡ [] → IsWhole text
whole_at_one text inside c is closes none =
    let from : from_parenthesis text ≡ c ∷ [] = is ∙ ap (λ front. front ++ c ∷ []) none in
    let opens : is_open c ≡ true = (opens_at text [] c from).1 in
    let no : false ≡ true = ap is_open (sym closes) ∙ opens in
    absurd (cc)

pub nothing_left : (xs : List ℕ) → length xs ≡ 0 → xs ≡ []
nothing_left [] h = refl
nothing_left (x ∷ xs) h = absurd (omega arith)
