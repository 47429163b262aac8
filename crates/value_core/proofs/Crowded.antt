-- the places of LABEL that have no keyword, one by one
use Rattle.std.proofs.Common.{◌≡◌, ℕ, ◌+◌, ◌-◌, ◌^◌, ◌==◌, ◌<◌, ◌≤◌, Bool, true, false, cond, not, ◌||◌, nat_lt, min, List, [], ◌∷◌, length, drop, Option, Some, None, is_some, Bor, MatchOption, ◌⊎◌, inl, inr, lt-ltb, le-ltb, sym, ap, ◌∙◌, arith}
use Rattle.std.specs.List.{list_any}
use Rattle.std.proofs.lemmas.Bool.{cases_lt}
use Rattle.std.proofs.lemmas.List.Sums.{take_while-cons}
use Rattle.operand_core.specs.Operands.{behind_positional, is_positional, keyword_of, positional_parts}

-- places of which some were met: whether a keyword was, and how many places before it
abbrev pub crowded_with : Bool → ℕ → List (List ℕ) → Bool
crowded_with true positional places = nat_lt 4 positional || list_any is_positional places
crowded_with false positional places =
    nat_lt 4 (positional + length (positional_parts places)) || list_any is_positional (behind_positional places) || length (behind_positional places) == 0

pub positional_from : (place : List ℕ) (found : Option (Bor (List ℕ) × Bor (List ℕ))) →
    MatchOption found (keyword_of place ≡ None) (λ r. keyword_of place ≡ Some (r.0.now, r.1.now)) → is_some found ≡ false → is_positional place ≡ true
positional_from place None h none = ap (λ o. not (is_some o)) h
positional_from place (Some r) h none = absurd (cc)

front_more : (place : List ℕ) (places : List (List ℕ)) → is_positional place ≡ true → positional_parts (place ∷ places) ≡ place ∷ positional_parts places
front_more place places is = take_while-cons is_positional place places ∙ ap (λ (b : Bool). cond b (place ∷ positional_parts places) []) is

-- one more place before the first keyword
pub crowded_more : (positional more : ℕ) (place : List ℕ) (places : List (List ℕ)) → more ≡ min (positional + 1) (2 ^ 64 - 1) → is_positional place ≡ true →
    crowded_with false more places ≡ crowded_with false positional (place ∷ places)
crowded_more positional more place places is here =
    ap (λ (b : Bool). b || list_any is_positional (behind_positional places) || length (behind_positional places) == 0) (tests (cases_lt 4 (more + length (positional_parts places))))
    ∙ ap (λ front. nat_lt 4 (positional + length front) || list_any is_positional (drop (length front) (place ∷ places)) || length (drop (length front) (place ∷ places)) == 0)
    (sym (front_more place places here))
  where
    tests : (4 < more + length (positional_parts places)) ⊎ (more + length (positional_parts places) ≤ 4) →
        nat_lt 4 (more + length (positional_parts places)) ≡ nat_lt 4 (positional + length (place ∷ positional_parts places))
    tests (inl above) = lt-ltb 4 (more + length (positional_parts places)) above ∙ sym (lt-ltb 4 (positional + length (place ∷ positional_parts places)) (omega arith))
    tests (inr below) = le-ltb 4 (more + length (positional_parts places)) below ∙ sym (le-ltb 4 (positional + length (place ∷ positional_parts places)) (omega arith))
