-- The nine characters of a generation: their digits and number, the component that they make, and the name behind a base.
use Rattle.std.proofs.Common.{◌≡◌, ◌≤◌, ◌<◌, ◌+◌, ◌-◌, ◌*◌, ◌/◌, ◌%◌, ◌&&◌, ◌||◌, ◌==◌, ℕ, Bool, true, false, nat_le, nat_lt, List, [], ◌∷◌, ◌++◌, length, take, drop, IsTrue, Some, None, refl, ap, ◌∙◌, sym, subst, arith, le-leb, leb-true, ltb-false, eqb-true, ne_eqb, append_assoc, take-append-drop}
use Rattle.std.specs.Prelude.{codes, if◌then◌else◌}
use Rattle.std.specs.List.{list_any, AllByRecursion}
use Rattle.std.proofs.lemmas.Bool.{and_parts, and_from, or_from, or_left, or_right}
use Rattle.jname_core.specs.Characters.{is_digit, is_first, is_name_character, is_component_character}
use Rattle.jname_core.specs.Generations.{four_digits, number_of_digits, generation_name, is_suffix, before_suffix, has_generation_form, suffix_number, suffix_version, is_bad_generation, generation_of, base_of}
use Rattle.jname_core.specs.Grammar.{IsComponent, components_of, IsDotted}
use Rattle.jname_core.proofs.Components.{split_of_none, dotted_front, dotted_joined}

abbrev pub suffix_for : ℕ → List ℕ
suffix_for n = codes ".G" ++ four_digits n ++ codes "V00"

pub name_joined : (base : List ℕ) (n : ℕ) → generation_name base n ≡ base ++ suffix_for n
name_joined base n = simp append_assoc

digit_low : (c : ℕ) → IsTrue (is_digit c) → 48 ≤ c
digit_low c h = leb-true 48 c (and_parts (nat_le 48 c) (nat_le c 57) h).0

digit_high : (c : ℕ) → IsTrue (is_digit c) → c ≤ 57
digit_high c h = leb-true c 57 (and_parts (nat_le 48 c) (nat_le c 57) h).1

digit_from : (d : ℕ) → d < 10 → IsTrue (is_digit (48 + d))
digit_from d h = and_from (nat_le 48 (48 + d)) (nat_le (48 + d) 57) (le-leb 48 (48 + d) (omega arith)) (le-leb (48 + d) 57 (omega arith))

component_from_digit : (c : ℕ) → IsTrue (is_digit c) → IsTrue (is_component_character c)
component_from_digit c h = or_left (is_name_character c) (c == 45) (or_right (is_first c) (is_digit c) h)

no_period : (c : ℕ) → IsTrue (is_digit c) → (c == 46) ≡ false
no_period c h = ne_eqb c 46 (λ e. omega (arith, digit_low c h))

-- G, four digits, V00 is a component
component_of_digits : (a b c d : ℕ) → IsTrue (is_digit a) → IsTrue (is_digit b) → IsTrue (is_digit c) → IsTrue (is_digit d) → AllByRecursion IsComponent (components_of (71 ∷ a ∷ b ∷ c ∷ d ∷ 86 ∷ 48 ∷ 48 ∷ []))
component_of_digits a b c d ha hb hc hd =
    let none : list_any (λ x. x == 46) (71 ∷ a ∷ b ∷ c ∷ d ∷ 86 ∷ 48 ∷ 48 ∷ []) ≡ false
    = or_from (a == 46) ((b == 46) || ((c == 46) || ((d == 46) || false))) (no_period a ha)
    (or_from (b == 46) ((c == 46) || ((d == 46) || false)) (no_period b hb)
    (or_from (c == 46) ((d == 46) || false) (no_period c hc)
    (or_from (d == 46) false (no_period d hd) refl))) in
    subst (AllByRecursion IsComponent) (sym (split_of_none (λ x. x == 46) (71 ∷ a ∷ b ∷ c ∷ d ∷ 86 ∷ 48 ∷ 48 ∷ []) none))
    ((refl, (component_from_digit a ha, (component_from_digit b hb, (component_from_digit c hc, (component_from_digit d hd, (refl, (refl, (refl, tt))))))), omega arith), tt)

pub component_of_suffix : (n : ℕ) → n ≤ 9999 → AllByRecursion IsComponent (components_of (drop 1 (suffix_for n)))
component_of_suffix n h =
    component_of_digits (48 + n / 1000) (48 + n / 100 % 10) (48 + n / 10 % 10) (48 + n % 10)
    (digit_from (n / 1000) (omega arith)) (digit_from (n / 100 % 10) (omega arith)) (digit_from (n / 10 % 10) (omega arith)) (digit_from (n % 10) (omega arith))

pub dotted_generation : (base : List ℕ) (n : ℕ) → IsDotted 44 base → length base ≤ 35 → n ≤ 9999 → IsDotted 44 (base ++ suffix_for n)
dotted_generation base n h l k = dotted_joined 44 base (drop 1 (suffix_for n)) h (component_of_suffix n k) (omega arith)

-- the names below and above all generations of a base
pub dotted_below : (base : List ℕ) → IsDotted 44 base → length base ≤ 35 → IsDotted 44 (base ++ codes ".G0000V0#")
dotted_below base h l =
    dotted_joined 44 base (codes "G0000V0#") h ((refl, (refl, (refl, (refl, (refl, (refl, (refl, (refl, tt))))))), omega arith), tt) (omega arith)

pub dotted_above : (base : List ℕ) → IsDotted 44 base → length base ≤ 35 → IsDotted 44 (base ++ codes ".G9999V9A")
dotted_above base h l =
    dotted_joined 44 base (codes "G9999V9A") h ((refl, (refl, (refl, (refl, (refl, (refl, (refl, (refl, tt))))))), omega arith), tt) (omega arith)

-- what the test of nine characters tells of each
suffix_parts : (period g a b c d v e f : ℕ) → IsTrue (is_suffix (period ∷ g ∷ a ∷ b ∷ c ∷ d ∷ v ∷ e ∷ f ∷ [])) →
    (period ≡ 46) × (g ≡ 71) × IsTrue (is_digit a) × IsTrue (is_digit b) × IsTrue (is_digit c) × IsTrue (is_digit d) × (v ≡ 86) × IsTrue (is_digit e) × IsTrue (is_digit f)
suffix_parts period g a b c d v e f h =
    let p9 : ((period == 46 && g == 71 && is_digit a && is_digit b && is_digit c && is_digit d && v == 86 && is_digit e) ≡ true) × ((is_digit f) ≡ true) = and_parts (period == 46 && g == 71 && is_digit a && is_digit b && is_digit c && is_digit d && v == 86 && is_digit e) (is_digit f) h in
    let p8 : ((period == 46 && g == 71 && is_digit a && is_digit b && is_digit c && is_digit d && v == 86) ≡ true) × ((is_digit e) ≡ true) = and_parts (period == 46 && g == 71 && is_digit a && is_digit b && is_digit c && is_digit d && v == 86) (is_digit e) p9.0 in
    let p7 : ((period == 46 && g == 71 && is_digit a && is_digit b && is_digit c && is_digit d) ≡ true) × ((v == 86) ≡ true) = and_parts (period == 46 && g == 71 && is_digit a && is_digit b && is_digit c && is_digit d) (v == 86) p8.0 in
    let p6 : ((period == 46 && g == 71 && is_digit a && is_digit b && is_digit c) ≡ true) × ((is_digit d) ≡ true) = and_parts (period == 46 && g == 71 && is_digit a && is_digit b && is_digit c) (is_digit d) p7.0 in
    let p5 : ((period == 46 && g == 71 && is_digit a && is_digit b) ≡ true) × ((is_digit c) ≡ true) = and_parts (period == 46 && g == 71 && is_digit a && is_digit b) (is_digit c) p6.0 in
    let p4 : ((period == 46 && g == 71 && is_digit a) ≡ true) × ((is_digit b) ≡ true) = and_parts (period == 46 && g == 71 && is_digit a) (is_digit b) p5.0 in
    let p3 : ((period == 46 && g == 71) ≡ true) × ((is_digit a) ≡ true) = and_parts (period == 46 && g == 71) (is_digit a) p4.0 in
    let p2 : ((period == 46) ≡ true) × ((g == 71) ≡ true) = and_parts (period == 46) (g == 71) p3.0 in
    (eqb-true period 46 p2.0, eqb-true g 71 p2.1, p3.1, p4.1, p5.1, p6.1, eqb-true v 86 p7.1, p8.1, p9.1)

suffix_begins : (s : List ℕ) → IsTrue (is_suffix s) → s ≡ 46 ∷ drop 1 s
suffix_begins (period ∷ g ∷ a ∷ b ∷ c ∷ d ∷ v ∷ e ∷ f ∷ []) h =
    ap (λ x. x ∷ g ∷ a ∷ b ∷ c ∷ d ∷ v ∷ e ∷ f ∷ []) (suffix_parts period g a b c d v e f h).0
suffix_begins _ h = cc

pub dotted_base : (limit k : ℕ) (text : List ℕ) → IsDotted limit text → IsTrue (is_suffix (drop k text)) → IsDotted limit (take k text)
dotted_base limit k text h s =
    dotted_front limit (take k text) (drop 1 (drop k text))
    (subst (IsDotted limit) (sym (take-append-drop k text) ∙ ap (λ rest. take k text ++ rest) (suffix_begins (drop k text) s)) h)

-- a number's digits, and back
digits_back : (w x y z : ℕ) → w < 10 → x < 10 → y < 10 → z < 10 → four_digits (w * 1000 + x * 100 + y * 10 + z) ≡ (48 + w) ∷ (48 + x) ∷ (48 + y) ∷ (48 + z) ∷ []
digits_back w x y z hw hx hy hz =
    let n : ℕ = w * 1000 + x * 100 + y * 10 + z in
    let ew : 48 + n / 1000 ≡ 48 + w = omega arith in
    let ex : 48 + n / 100 % 10 ≡ 48 + x = omega arith in
    let ey : 48 + n / 10 % 10 ≡ 48 + y = omega arith in
    let ez : 48 + n % 10 ≡ 48 + z = omega arith in
    cc

digits_are : (a b c d : ℕ) → IsTrue (is_digit a) → IsTrue (is_digit b) → IsTrue (is_digit c) → IsTrue (is_digit d) → four_digits (number_of_digits a b c d) ≡ a ∷ b ∷ c ∷ d ∷ []
digits_are a b c d ha hb hc hd =
    let la : 48 ≤ a = digit_low a ha in let ua : a ≤ 57 = digit_high a ha in
    let lb : 48 ≤ b = digit_low b hb in let ub : b ≤ 57 = digit_high b hb in
    let lc : 48 ≤ c = digit_low c hc in let uc : c ≤ 57 = digit_high c hc in
    let ld : 48 ≤ d = digit_low d hd in let ud : d ≤ 57 = digit_high d hd in
    let ea : 48 + (a - 48) ≡ a = omega arith in let eb : 48 + (b - 48) ≡ b = omega arith in
    let ec : 48 + (c - 48) ≡ c = omega arith in let ed : 48 + (d - 48) ≡ d = omega arith in
    digits_back (a - 48) (b - 48) (c - 48) (d - 48) (omega arith) (omega arith) (omega arith) (omega arith) ∙ cc

-- a suffix of version 00 is that of its number
suffix_is : (s : List ℕ) → IsTrue (is_suffix s) → suffix_version s ≡ 0 → s ≡ suffix_for (suffix_number s)
suffix_is (period ∷ g ∷ a ∷ b ∷ c ∷ d ∷ v ∷ e ∷ f ∷ []) h z =
    let p = suffix_parts period g a b c d v e f h in
    let le : 48 ≤ e = digit_low e p.7 in let lf : 48 ≤ f = digit_low f p.8 in
    let ee : e ≡ 48 = omega arith in
    let ef : f ≡ 48 = omega arith in
    let ds : four_digits (number_of_digits a b c d) ≡ a ∷ b ∷ c ∷ d ∷ [] = digits_are a b c d p.2 p.3 p.4 p.5 in
    cc (p.0, p.1, p.6, ee, ef, ds)
suffix_is _ h z = cc

version_is_zero : (number version : ℕ) → (if number == 0 then true else nat_lt 0 version) ≡ false → version ≡ 0
version_is_zero number version h = elim (number == 0) as (λ b. (if b then true else nat_lt 0 version) ≡ false → version ≡ 0)
    [ true ↦ λ e. absurd (cc) | false ↦ λ e. omega (arith, ltb-false 0 version e) ] h

name_of_form : (form : Bool) (text : List ℕ) (n : ℕ) → has_generation_form text ≡ form →
    (form && (if suffix_number (drop (before_suffix text) text) == 0 then true else nat_lt 0 (suffix_version (drop (before_suffix text) text)))) ≡ false →
    (if form then Some (suffix_number (drop (before_suffix text) text)) else None) ≡ Some n →
    text ≡ generation_name (if form then take (before_suffix text) text else text) n
name_of_form true text n form good number =
    let s : List ℕ = drop (before_suffix text) text in
    let is : IsTrue (is_suffix s) = (and_parts (nat_lt 9 (length text)) (is_suffix s) form).1 in
    let v : suffix_version s ≡ 0 = version_is_zero (suffix_number s) (suffix_version s) good in
    let e : suffix_number s ≡ n = cc in
    sym (take-append-drop (before_suffix text) text)
    ∙ ap (λ rest. take (before_suffix text) text ++ rest) (suffix_is s is v ∙ ap suffix_for e)
    ∙ sym (name_joined (take (before_suffix text) text) n)
name_of_form false text n form good number = cc

pub name_exact : (text : List ℕ) (n : ℕ) → is_bad_generation text ≡ false → generation_of text ≡ Some n → text ≡ generation_name (base_of text) n
name_exact text n good number = name_of_form (has_generation_form text) text n refl good number
