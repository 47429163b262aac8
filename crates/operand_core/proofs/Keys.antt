-- keywords of which no fault is told
use Rattle.std.proofs.Common.{◌≡◌, ℕ, suc, zero, ◌<◌, Bool, true, false, cond, not, ◌&&◌, ◌||◌, List, [], ◌∷◌, length, get_or, map, take_while, Option, Some, None, is_some, refl, ap, subst, arith}
use Rattle.std.specs.List.{flat_map}
use Rattle.std.specs.Str.{bytes_eq}
use Rattle.std.proofs.lemmas.List.Sums.{take_while-cons}
use Rattle.std.proofs.lemmas.Slice.Eq.{bytes_eq-Decides}
use Rattle.jcl_plan.specs.declared.fault.Cause.{Cause}
use Rattle.jcl_plan.specs.declared.fault.Cause.TheVariants.{P}
use Rattle.jcl_plan.specs.declared.fault.StatementFault.TheVariants.{BadValue, UnbalancedParentheses}
use Rattle.operand_core.specs.Faults.{when}
use Rattle.operand_core.specs.Operands.{Keyword, is_balanced, is_closed, is_positional, is_read, keyword_of, keywords_of, onto_keywords, part_faults, positional_parts, read_of}
use Rattle.operand_core.specs.Keywords.{has_key, value_of}
use Rattle.operand_core.specs.Operands.{first_of}
use Rattle.operand_core.proofs.Faultless.{none_behind, none_in_front}

-- where none of several has a fault, one has none
pub one_has_none : {X : Type 0} (f : X → List Cause) (xs : List X) (i : ℕ) (d : X) → flat_map f xs ≡ [] → i < length xs → f (get_or xs i d) ≡ []
one_has_none f [] i d none lt = absurd (omega arith)
one_has_none f (x ∷ xs) zero d none lt = none_in_front (f x) (flat_map f xs) none
one_has_none f (x ∷ xs) (suc i) d none lt = one_has_none f xs i d (none_behind (f x) (flat_map f xs) none) (omega arith)

key_cases : (f : Keyword → List Cause) (key : List ℕ) (keyword : Keyword) (keywords : List Keyword) (same : Bool) → bytes_eq keyword.key key ≡ same →
    f keyword ≡ [] → (has_key key keywords ≡ true → f (record { key = key; value = value_of key keywords }) ≡ []) →
    (same || has_key key keywords) ≡ true → f (record { key = key; value = cond same keyword.value (value_of key keywords) }) ≡ []
key_cases f key keyword keywords true is here later has =
    let same_key : keyword.key ≡ key = (bytes_eq-Decides keyword.key key).0 is in
    subst (λ (k : List ℕ). f (record { key = k; value = keyword.value }) ≡ []) same_key here
key_cases f key keyword keywords false is here later has = later has

-- the first keyword with a key has no fault
pub first_has_none : (f : Keyword → List Cause) (key : List ℕ) (keywords : List Keyword) → flat_map f keywords ≡ [] → has_key key keywords ≡ true →
    f (record { key = key; value = value_of key keywords }) ≡ []
first_has_none f key [] none has = absurd (cc)
first_has_none f key (keyword ∷ keywords) none has =
    key_cases f key keyword keywords (bytes_eq keyword.key key) refl (none_in_front (f keyword) (flat_map f keywords) none)
    (first_has_none f key keywords (none_behind (f keyword) (flat_map f keywords) none)) has

read_cases : (balanced closed : Bool) → cond balanced (when (not closed) (P BadValue)) (P UnbalancedParentheses ∷ []) ≡ [] → (balanced && closed) ≡ true
read_cases true true h = refl
read_cases true false h = absurd (cc)
read_cases false closed h = absurd (cc)

-- a part without a fault is read
is_read_from_none : (part : List ℕ) → part_faults part ≡ [] → is_read part ≡ true
is_read_from_none part h = read_cases (is_balanced part) (is_closed part) h

read_of_is : (part text : List ℕ) → part_faults part ≡ [] → read_of part text ≡ Some text
read_of_is part text h = ap (λ (read : Bool). cond read (Some text) None) (is_read_from_none part h)

value_cases : (key part : List ℕ) (found : Option (List ℕ × List ℕ)) (keywords : List Keyword) → part_faults part ≡ [] →
    (has_key key keywords ≡ true → is_some (value_of key keywords) ≡ true) → has_key key (onto_keywords part found keywords) ≡ true → is_some (value_of key (onto_keywords part found keywords)) ≡ true
value_cases key part None keywords none later has = later has
value_cases key part (Some found) keywords none later has = same_cases (bytes_eq found.0 key) has
  where
    same_cases : (same : Bool) → (same || has_key key keywords) ≡ true → is_some (cond same (read_of part found.1) (value_of key keywords)) ≡ true
    same_cases true h = ap is_some (read_of_is part found.1 none)
    same_cases false h = later h

-- the value of a keyword that is there is read
pub value_is_read : (key : List ℕ) (parts : List (List ℕ)) → flat_map part_faults parts ≡ [] → has_key key (keywords_of parts) ≡ true → is_some (value_of key (keywords_of parts)) ≡ true
value_is_read key [] none has = absurd (cc)
value_is_read key (part ∷ parts) none has =
    value_cases key part (keyword_of part) (keywords_of parts) (none_in_front (part_faults part) (flat_map part_faults parts) none)
    (value_is_read key parts (none_behind (part_faults part) (flat_map part_faults parts) none)) has

abbrev pub read_parts : List (List ℕ) → List (Option (List ℕ))
read_parts parts = map (λ part. read_of part part) parts

first_cases : (part : List ℕ) (front rest : List (List ℕ)) (positional : Bool) → front ≡ cond positional (part ∷ rest) [] → part_faults part ≡ [] →
    0 < length (read_parts front) → is_some (first_of (read_parts front)) ≡ true
first_cases part front rest true is none lt = rw is (ap is_some (read_of_is part part none))
first_cases part front rest false is none lt = let no : 0 < 0 = rw is at lt in absurd (omega arith)

-- the first positional operand is read
pub first_is_read : (parts : List (List ℕ)) → flat_map part_faults parts ≡ [] → 0 < length (read_parts (positional_parts parts)) →
    is_some (first_of (read_parts (positional_parts parts))) ≡ true
first_is_read [] none lt = absurd (omega arith)
first_is_read (part ∷ parts) none lt =
    first_cases part (positional_parts (part ∷ parts)) (take_while is_positional parts) (is_positional part) (take_while-cons is_positional part parts)
    (none_in_front (part_faults part) (flat_map part_faults parts) none) lt
