-- A generation is held under its base.
use Rattle.std.proofs.Common.{◌≡◌, ◌&&◌, ◌≤◌, ◌<◌, ◌+◌, ◌/◌, ◌%◌, ℕ, Bool, true, false, cond, [], ◌∷◌, nat_le, nat_lt, List, ◌++◌, length, take, drop, refl, ap, ◌∙◌, arith, le-leb, leb-true, length-append, length-take, min, ltb-true, Some, None, ◌==◌}
use Rattle.std.proofs.lemmas.Bool.{and_from, and_parts, cond-true, lt-ltb}
use Rattle.std.proofs.lemmas.List.{drop-append-le, take-append-le}
use Rattle.std.proofs.Math.Seq.{drop-length, take-length}
use Rattle.jname_core.specs.Characters.{is_digit}
use Rattle.jname_core.specs.Generations.{base_of, before_suffix, generation_name, generation_of, has_generation_form, is_suffix, number_of_digits, suffix_number}
use Rattle.jname_core.proofs.Suffixes.{name_joined, suffix_for}

digit : (d : ℕ) → d < 10 → is_digit (48 + d) ≡ true
digit d h = and_from (nat_le 48 (48 + d)) (nat_le (48 + d) 57) (le-leb 48 (48 + d) (omega arith)) (le-leb (48 + d) 57 (omega arith))

suffix_passes : (n : ℕ) → n ≤ 9999 → is_suffix (suffix_for n) ≡ true
suffix_passes n h =
    let a : is_digit (48 + n / 1000) ≡ true = digit (n / 1000) (omega arith) in
    let b : is_digit (48 + n / 100 % 10) ≡ true = digit (n / 100 % 10) (omega arith) in
    let c : is_digit (48 + n / 10 % 10) ≡ true = digit (n / 10 % 10) (omega arith) in
    let d : is_digit (48 + n % 10) ≡ true = digit (n % 10) (omega arith) in
    λ i. (((((a i && b i) && c i) && d i) && true) && true) && true

-- of a base of at least one character, and a number of four digits
joined_base : (base s : List ℕ) → 0 < length base → length s ≡ 9 → is_suffix s ≡ true → base_of (base ++ s) ≡ base
joined_base base s h l suffix =
    let text : List ℕ = base ++ s in
    let all : length (base ++ s) ≡ length base + length s = length-append base s in
    let before : before_suffix (base ++ s) ≡ length base = omega (arith, all, l) in
    let long : 9 < length (base ++ s) = omega (arith, all, l) in
    let le : length base ≤ length base = omega arith in
    let end : drop (before_suffix (base ++ s)) (base ++ s) ≡ s =
    ap (λ (k : ℕ). drop k (base ++ s)) before ∙ drop-append-le (length base) base s le ∙ ap (λ (xs : List ℕ). xs ++ s) (drop-length base) in
    let front : take (before_suffix (base ++ s)) (base ++ s) ≡ base =
    ap (λ (k : ℕ). take k (base ++ s)) before ∙ take-append-le (length base) base s le ∙ take-length base in
    let form : has_generation_form (base ++ s) ≡ true =
    and_from (nat_lt 9 (length (base ++ s))) (is_suffix (drop (before_suffix (base ++ s)) (base ++ s))) (lt-ltb 9 (length (base ++ s)) long)
    (ap is_suffix end ∙ suffix) in
    cond-true (has_generation_form (base ++ s)) (take (before_suffix (base ++ s)) (base ++ s)) (base ++ s) form ∙ front

pub generation_base : (base : List ℕ) (n : ℕ) → 0 < length base → n ≤ 9999 → base_of (generation_name base n) ≡ base
generation_base base n h k = ap base_of (name_joined base n) ∙ joined_base base (suffix_for n) h refl (suffix_passes n k)

-- The base of a generation has at least one character, and its number at most four digits.
digit_high : (c : ℕ) → is_digit c ≡ true → c ≤ 57
digit_high c h = leb-true c 57 (and_parts (nat_le 48 c) (nat_le c 57) h).1

four_digits_high : (a b c d : ℕ) → is_digit a ≡ true → is_digit b ≡ true → is_digit c ≡ true → is_digit d ≡ true → number_of_digits a b c d ≤ 9999
four_digits_high a b c d ha hb hc hd =
    let la : a ≤ 57 = digit_high a ha in
    let lb : b ≤ 57 = digit_high b hb in
    let lc : c ≤ 57 = digit_high c hc in
    let ld : d ≤ 57 = digit_high d hd in
    omega arith

suffix_high : (s : List ℕ) → is_suffix s ≡ true → suffix_number s ≤ 9999
suffix_high (period ∷ g ∷ a ∷ b ∷ c ∷ d ∷ v ∷ e ∷ f ∷ []) h =
    let p8 = and_parts (period == 46 && g == 71 && is_digit a && is_digit b && is_digit c && is_digit d && v == 86 && is_digit e) (is_digit f) h in
    let p7 = and_parts (period == 46 && g == 71 && is_digit a && is_digit b && is_digit c && is_digit d && v == 86) (is_digit e) p8.0 in
    let p6 = and_parts (period == 46 && g == 71 && is_digit a && is_digit b && is_digit c && is_digit d) (v == 86) p7.0 in
    let p5 = and_parts (period == 46 && g == 71 && is_digit a && is_digit b && is_digit c) (is_digit d) p6.0 in
    let p4 = and_parts (period == 46 && g == 71 && is_digit a && is_digit b) (is_digit c) p5.0 in
    let p3 = and_parts (period == 46 && g == 71 && is_digit a) (is_digit b) p4.0 in
    let p2 = and_parts (period == 46 && g == 71) (is_digit a) p3.0 in
    four_digits_high a b c d p2.1 p3.1 p4.1 p5.1
suffix_high _ h = absurd cc

number_by_form : (form : Bool) (text : List ℕ) (n : ℕ) → has_generation_form text ≡ form →
    cond form (Some (suffix_number (drop (before_suffix text) text))) None ≡ Some n →
    (n ≤ 9999) × (0 < length (cond form (take (before_suffix text) text) text))
number_by_form true text n e h =
    let parts : (nat_lt 9 (length text) ≡ true) × (is_suffix (drop (before_suffix text) text) ≡ true) =
    and_parts (nat_lt 9 (length text)) (is_suffix (drop (before_suffix text) text)) e in
    let long : 9 < length text = ltb-true 9 (length text) parts.0 in
    let same : suffix_number (drop (before_suffix text) text) ≡ n = cc in
    let high : suffix_number (drop (before_suffix text) text) ≤ 9999 = suffix_high (drop (before_suffix text) text) parts.1 in
    let front : length (take (before_suffix text) text) ≡ min (before_suffix text) (length text) = length-take (before_suffix text) text in
    (omega (arith, same, high), omega (arith, front, long))
number_by_form false text n e h = absurd cc

pub generation_number : (name : List ℕ) (n : ℕ) → generation_of name ≡ Some n → (n ≤ 9999) × (0 < length (base_of name))
generation_number name n h = number_by_form (has_generation_form name) name n refl h
