-- Each generation of a base stands between two names.
use Rattle.std.proofs.Common.{◌≡◌, ◌≤◌, ◌&&◌, ◌==◌, ℕ, Bool, true, false, cond, nat_le, nat_lt, List, [], ◌∷◌, ◌++◌, take, drop, Ordering, Less, Equal, Greater, is_gt, refl, ap, ◌∙◌, sym, subst, arith, leb-true, ltb-false, le-ltb, eq-eqb, eqb-true, take-append-drop, append-nil}
use Rattle.std.specs.Prelude.{codes, is_some, Some, None, if◌then◌else◌, not}
use Rattle.std.specs.Cmp.{nat_cmp_is}
use Rattle.std.specs.Cmp.Lexicographic.{slice_cmp, bytes_decides}
use Rattle.std.specs.BTreeMap.Range.{entries_between, range_contains}
use Rattle.std.specs.List.{list_any}
use Rattle.std.specs.Ordering.{is_le, nat_cmp, ordering_then}
use Rattle.std.specs.Str.{bytes_eq}
use Rattle.std.specs.declared.ops.Bound.TheVariants.{Included, Excluded, Unbounded}
use Rattle.std.proofs.lemmas.Bool.{and_parts, cond-true}
use Rattle.std.proofs.lemmas.Map.Views.{any-filter_same}
use Rattle.jname_core.specs.Characters.{is_digit}
use Rattle.jname_core.specs.Generations.{above_generations, base_of, before_suffix, below_generations, generation_of, has_generation_form, is_suffix, suffix_number}
use Rattle.group_core.specs.declared.entry.CatEntry.{CatEntry}
use Rattle.cat_core.specs.Catalogs.{enters_generation_of, is_generation_of, is_volume, name_cmp}

-- the first pair decides where it differs, and else the rest
le_by : (b c : Bool) (o : Ordering) → (b ≡ false → c ≡ true) → is_le o ≡ true → is_le (ordering_then (cond b Less (cond c Equal Greater)) o) ≡ true
le_by true c o h k = refl
le_by false true o h k = k
le_by false false o h k = let e : false ≡ true = h refl in absurd cc

le_step : (x y : ℕ) (o : Ordering) → x ≤ y → is_le o ≡ true → is_le (ordering_then (nat_cmp x y) o) ≡ true
le_step x y o h k = le_by (nat_lt x y) (x == y) o (λ n. eq-eqb x y (omega (arith, h, ltb-false x y n))) k

above_by : (b c : Bool) (o : Ordering) → b ≡ false → o ≡ Greater → ordering_then (cond b Less (cond c Equal Greater)) o ≡ Greater
above_by true c o h k = absurd cc
above_by false true o h k = k
above_by false false o h k = refl

above_step : (x y : ℕ) (o : Ordering) → y ≤ x → o ≡ Greater → ordering_then (nat_cmp x y) o ≡ Greater
above_step x y o h k = above_by (nat_lt x y) (x == y) o (le-ltb x y h) k

-- what two texts have in front does not decide
behind : (front xs ys : List ℕ) → slice_cmp nat_cmp (front ++ xs) (front ++ ys) ≡ slice_cmp nat_cmp xs ys
behind [] xs ys = refl
behind (x ∷ front) xs ys = ap (λ (o : Ordering). ordering_then o (slice_cmp nat_cmp (front ++ xs) (front ++ ys))) (sym (nat_cmp_is x x Equal refl)) ∙ behind front xs ys

digit_low : (c : ℕ) → is_digit c ≡ true → 48 ≤ c
digit_low c h = leb-true 48 c (and_parts (nat_le 48 c) (nat_le c 57) h).0

digit_high : (c : ℕ) → is_digit c ≡ true → c ≤ 57
digit_high c h = leb-true c 57 (and_parts (nat_le 48 c) (nat_le c 57) h).1

-- each character of the nine between two others
parts : (period g a b c d v e f : ℕ) → is_suffix (period ∷ g ∷ a ∷ b ∷ c ∷ d ∷ v ∷ e ∷ f ∷ []) ≡ true →
    (period ≡ 46) × (g ≡ 71) × (is_digit a ≡ true) × (is_digit b ≡ true) × (is_digit c ≡ true) × (is_digit d ≡ true) × (v ≡ 86) × (is_digit e ≡ true) × (is_digit f ≡ true)
parts period g a b c d v e f h =
    let p9 = and_parts (period == 46 && g == 71 && is_digit a && is_digit b && is_digit c && is_digit d && v == 86 && is_digit e) (is_digit f) h in
    let p8 = and_parts (period == 46 && g == 71 && is_digit a && is_digit b && is_digit c && is_digit d && v == 86) (is_digit e) p9.0 in
    let p7 = and_parts (period == 46 && g == 71 && is_digit a && is_digit b && is_digit c && is_digit d) (v == 86) p8.0 in
    let p6 = and_parts (period == 46 && g == 71 && is_digit a && is_digit b && is_digit c) (is_digit d) p7.0 in
    let p5 = and_parts (period == 46 && g == 71 && is_digit a && is_digit b) (is_digit c) p6.0 in
    let p4 = and_parts (period == 46 && g == 71 && is_digit a) (is_digit b) p5.0 in
    let p3 = and_parts (period == 46 && g == 71) (is_digit a) p4.0 in
    let p2 = and_parts (period == 46) (g == 71) p3.0 in
    (eqb-true period 46 p2.0, eqb-true g 71 p2.1, p3.1, p4.1, p5.1, p6.1, eqb-true v 86 p7.1, p8.1, p9.1)

suffix_from : (s : List ℕ) → is_suffix s ≡ true → is_le (slice_cmp nat_cmp (codes ".G0000V0#") s) ≡ true
suffix_from (period ∷ g ∷ a ∷ b ∷ c ∷ d ∷ v ∷ e ∷ f ∷ []) h =
    let p = parts period g a b c d v e f h in
    le_step 46 period _ (omega (arith, p.0)) (le_step 71 g _ (omega (arith, p.1))
    (le_step 48 a _ (digit_low a p.2) (le_step 48 b _ (digit_low b p.3) (le_step 48 c _ (digit_low c p.4) (le_step 48 d _ (digit_low d p.5)
    (le_step 86 v _ (omega (arith, p.6)) (le_step 48 e _ (digit_low e p.7) (le_step 35 f _ (omega (arith, digit_low f p.8)) refl))))))))
suffix_from _ h = absurd cc

suffix_to : (s : List ℕ) → is_suffix s ≡ true → slice_cmp nat_cmp (codes ".G9999V9A") s ≡ Greater
suffix_to (period ∷ g ∷ a ∷ b ∷ c ∷ d ∷ v ∷ e ∷ f ∷ []) h =
    let p = parts period g a b c d v e f h in
    above_step 46 period _ (omega (arith, p.0)) (above_step 71 g _ (omega (arith, p.1))
    (above_step 57 a _ (digit_high a p.2) (above_step 57 b _ (digit_high b p.3) (above_step 57 c _ (digit_high c p.4) (above_step 57 d _ (digit_high d p.5)
    (above_step 86 v _ (omega (arith, p.6)) (above_step 57 e _ (digit_high e p.7)
    (ap (λ (o : Ordering). ordering_then o Equal) (sym (nat_cmp_is 65 f Greater (omega (arith, digit_high f p.8))))))))))))
suffix_to _ h = absurd cc

-- a generation is its base and a suffix
form_by : (b : Bool) (n : ℕ) → is_some (if b then Some n else None) ≡ true → b ≡ true
form_by true n h = refl
form_by false n h = absurd cc

has_form : (name : List ℕ) → is_some (generation_of name) ≡ true → has_generation_form name ≡ true
has_form name h = form_by (has_generation_form name) (suffix_number (drop (before_suffix name) name)) h

split : (base name : List ℕ) → has_generation_form name ≡ true → bytes_eq (base_of name) base ≡ true → base ++ drop (before_suffix name) name ≡ name
split base name form same =
    ap (λ (front : List ℕ). front ++ drop (before_suffix name) name)
    (sym ((bytes_decides (base_of name) base).0 same) ∙ cond-true (has_generation_form name) (take (before_suffix name) name) name form)
    ∙ take-append-drop (before_suffix name) name

-- each stands between the two
pub in_range : (base name : List ℕ) → is_generation_of base name ≡ true → range_contains name_cmp (Included (below_generations base)) (Excluded (above_generations base)) name ≡ true
in_range base name h =
    let q = and_parts (is_some (generation_of name)) (bytes_eq (base_of name) base) h in
    let form : has_generation_form name ≡ true = has_form name q.0 in
    let s : List ℕ = drop (before_suffix name) name in
    let suffix : is_suffix s ≡ true = (and_parts (nat_lt 9 _) (is_suffix s) form).1 in
    let whole : base ++ s ≡ name = split base name form q.1 in
    let low : is_le (name_cmp (below_generations base) (base ++ s)) ≡ true = ap is_le (behind base (codes ".G0000V0#") s) ∙ suffix_from s suffix in
    let high : name_cmp (above_generations base) (base ++ s) ≡ Greater = behind base (codes ".G9999V9A") s ∙ suffix_to s suffix in
    subst (λ (n : List ℕ). range_contains name_cmp (Included (below_generations base)) (Excluded (above_generations base)) n ≡ true) whole
    (ap (λ (b : Bool). b && not (is_le (name_cmp (above_generations base) (base ++ s)))) low ∙ ap (λ (o : Ordering). not (is_le o)) high)

entered_in_range : (base : List ℕ) (e : List ℕ × CatEntry) → enters_generation_of base e ≡ true →
    range_contains name_cmp (Included (below_generations base)) (Excluded (above_generations base)) e.0 ≡ true
entered_in_range base e h = in_range base e.0 (and_parts (is_volume e.1) (is_generation_of base e.0) h).1

-- so nothing is missed between them
pub any_between : (base below above : List ℕ) (es : List (List ℕ × CatEntry)) → below ≡ below_generations base → above ≡ above_generations base →
    list_any (enters_generation_of base) (entries_between name_cmp (Included below) (Excluded above) es) ≡ list_any (enters_generation_of base) es
any_between base below above es low high =
    ap (λ (b : List ℕ × List ℕ). list_any (enters_generation_of base) (entries_between name_cmp (Included b.0) (Excluded b.1) es))
    (ap (λ (b : List ℕ). (b, above)) low ∙ ap (λ (b : List ℕ). (below_generations base, b)) high)
    ∙ any-filter_same (enters_generation_of base) (λ e. range_contains name_cmp (Included (below_generations base)) (Excluded (above_generations base)) e.0) true
    (entered_in_range base) es

pub forward_by : (base below above : List ℕ) → below ≡ below_generations base → above ≡ above_generations base → is_gt (name_cmp below above) ≡ false
forward_by base below above low high =
    ap (λ (b : List ℕ). is_gt (name_cmp b above)) low ∙ ap (λ (b : List ℕ). is_gt (name_cmp (below_generations base) b)) high
    ∙ ap is_gt (behind base (codes ".G0000V0#") (codes ".G9999V9A"))

-- and behind the base itself
at_front : (s : List ℕ) → is_le (slice_cmp nat_cmp [] s) ≡ true
at_front [] = refl
at_front (x ∷ s) = refl

pub behind_base : (base name : List ℕ) → is_generation_of base name ≡ true → range_contains name_cmp (Included base) Unbounded name ≡ true
behind_base base name h =
    let q = and_parts (is_some (generation_of name)) (bytes_eq (base_of name) base) h in
    let s : List ℕ = drop (before_suffix name) name in
    let whole : base ++ s ≡ name = split base name (has_form name q.0) q.1 in
    let low : is_le (name_cmp (base ++ []) (base ++ s)) ≡ true = ap is_le (behind base [] s) ∙ at_front s in
    let from_base : is_le (name_cmp base (base ++ s)) ≡ true = ap (λ (b : List ℕ). is_le (name_cmp b (base ++ s))) (sym (append-nil base)) ∙ low in
    subst (λ (n : List ℕ). range_contains name_cmp (Included base) Unbounded n ≡ true) whole (ap (λ (b : Bool). b && true) from_base)
