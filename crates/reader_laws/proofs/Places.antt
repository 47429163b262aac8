-- The places of spelled values.
use Rattle.std.proofs.Common.{◌≡◌, ◌+◌, ◌-◌, ◌++◌, ℕ, Bool, true, false, cond, List, [], ◌∷◌, refl, sym, ap, ◌∙◌, arith, append-nil, append_assoc, add-one}
use Rattle.std.specs.Prelude.{not, ◌&&◌, ◌==◌, suc}
use Rattle.std.specs.List.{onto_first}
use Rattle.std.proofs.lemmas.Bool.{and_parts}
use Rattle.card_core.specs.Fields.{quoted_after}
use Rattle.operand_core.specs.Operands.{depth_after, ends_part, parts_from, places_of}
use Rattle.reader_laws.specs.Spelled.{doubled, quoted}
use Rattle.reader_laws.specs.SpelledOperands.{Value, Values, are_values, is_plain, is_value, spelled, spelled_all, texts_of}
use Rattle.reader_laws.proofs.Fields.{is_false}

-- a text before the first of several parts
abbrev pub onto_front : List ℕ → List (List ℕ) → List (List ℕ)
onto_front [] parts = parts
onto_front (c ∷ text) parts = onto_first c (onto_front text parts)

front_append : (a b : List ℕ) (parts : List (List ℕ)) → onto_front (a ++ b) parts ≡ onto_front a (onto_front b parts)
front_append [] b parts = refl
front_append (c ∷ a) b parts = ap (onto_first c) (front_append a b parts)

front_first : (text part : List ℕ) (parts : List (List ℕ)) → onto_front text (part ∷ parts) ≡ (text ++ part) ∷ parts
front_first [] part parts = refl
front_first (c ∷ text) part parts = ap (onto_first c) (front_first text part parts)

pub and_false : (b : Bool) → (b && false) ≡ false
and_false true = refl
and_false false = refl

-- what a plain character is not
pub record IsPlain (c : ℕ) : Type 0 where
  pub blank : (c == 32) ≡ false
  pub apostrophe : (c == 39) ≡ false
  pub opening : (c == 40) ≡ false
  pub closing : (c == 41) ≡ false
  pub comma : (c == 44) ≡ false

pub plain_is : (c : ℕ) → is_plain c ≡ true → IsPlain c
plain_is c h =
    let a = and_parts (not (c == 32)) (not (c == 39) && (not (c == 40) && (not (c == 41) && not (c == 44)))) h in
    let b = and_parts (not (c == 39)) (not (c == 40) && (not (c == 41) && not (c == 44))) a.1 in
    let d = and_parts (not (c == 40)) (not (c == 41) && not (c == 44)) b.1 in
    let e = and_parts (not (c == 41)) (not (c == 44)) d.1 in
    record {
      blank = is_false (c == 32) a.0;
      apostrophe = is_false (c == 39) b.0;
      opening = is_false (c == 40) d.0;
      closing = is_false (c == 41) e.0;
      comma = is_false (c == 44) e.1;
    }

pub depth_plain : (d c : ℕ) → IsPlain c → depth_after false d c ≡ d
depth_plain d c p =
    ap (λ (b : Bool). cond b (d + 1) (cond (c == 41) (d - 1) d)) p.opening ∙ ap (λ (b : Bool). cond b (d - 1) d) p.closing

pub quoted_plain : (c : ℕ) → IsPlain c → quoted_after false c ≡ false
quoted_plain c p = ap (λ (b : Bool). cond b true false) p.apostrophe

-- a character that ends no part
step : (d c after : ℕ) (opens : Bool) (text : List ℕ) → ends_part false d c ≡ false → quoted_after false c ≡ opens → depth_after false d c ≡ after →
    parts_from false d (c ∷ text) ≡ onto_first c (parts_from opens after text)
step d c after opens text h k l =
    ap (λ (b : Bool). cond b ([] ∷ parts_from false 0 text) (onto_first c (parts_from (quoted_after false c) (depth_after false d c) text))) h
    ∙ ap (λ (b : Bool). onto_first c (parts_from b (depth_after false d c) text)) k
    ∙ ap (λ (n : ℕ). onto_first c (parts_from opens n text)) l

ends_not : (d c : ℕ) → (c == 44) ≡ false → ends_part false d c ≡ false
ends_not d c h = ap (λ (b : Bool). (d == 0) && b) h ∙ and_false (d == 0)

pub not_zero : (n : ℕ) → (suc n == 0) ≡ false
not_zero n = grind (arith)

pub one_less : (d : ℕ) → suc d - 1 ≡ d
one_less d = omega arith

comma_within : (d : ℕ) → ends_part false (suc d) 44 ≡ false
comma_within d = ap (λ (b : Bool). b && true) (not_zero d)

-- a text in apostrophes is of one part
quoted_by : (d c : ℕ) (cs rest : List ℕ) (b : Bool) → (c == 39) ≡ b →
    parts_from true d (doubled cs ++ 39 ∷ rest) ≡ onto_front (doubled cs ++ 39 ∷ []) (parts_from false d rest) →
    parts_from true d (cond b (39 ∷ 39 ∷ doubled cs) (c ∷ doubled cs) ++ 39 ∷ rest)
    ≡ onto_front (cond b (39 ∷ 39 ∷ doubled cs) (c ∷ doubled cs) ++ 39 ∷ []) (parts_from false d rest)
quoted_by d c cs rest true e h =
    ap (onto_first 39) (step d 39 d true (doubled cs ++ 39 ∷ rest) (ends_not d 39 refl) refl refl)
    ∙ ap (λ (parts : List (List ℕ)). onto_first 39 (onto_first 39 parts)) h
quoted_by d c cs rest false e h =
    ap (λ (b : Bool). onto_first c (parts_from (cond b false true) d (doubled cs ++ 39 ∷ rest))) e ∙ ap (onto_first c) h

quoted_parts : (d : ℕ) (text rest : List ℕ) → parts_from true d (doubled text ++ 39 ∷ rest) ≡ onto_front (doubled text ++ 39 ∷ []) (parts_from false d rest)
quoted_parts d [] rest = refl
quoted_parts d (c ∷ cs) rest = quoted_by d c cs rest (c == 39) refl (quoted_parts d cs rest)

pub quoted_before : (text rest : List ℕ) → quoted text ++ rest ≡ 39 ∷ (doubled text ++ 39 ∷ rest)
quoted_before text rest = ap (λ (cs : List ℕ). 39 ∷ cs) (append_assoc (doubled text) (39 ∷ []) rest)

mutual
  -- a value is of one part
  value_parts : (v : Value) (d : ℕ) (rest : List ℕ) → is_value v ≡ true →
      parts_from false d (spelled v ++ rest) ≡ onto_front (spelled v) (parts_from false d rest)
  value_parts Value.End d rest h = refl
  value_parts (Value.Character c v) d rest h =
      let halves = and_parts (is_plain c) (is_value v) h in
      let p = plain_is c halves.0 in
      step d c d false (spelled v ++ rest) (ends_not d c p.comma) (quoted_plain c p) (depth_plain d c p) ∙ ap (onto_first c) (value_parts v d rest halves.1)
  value_parts (Value.Apostrophes text v) d rest h =
      ap (parts_from false d) (append_assoc (quoted text) (spelled v) rest ∙ quoted_before text (spelled v ++ rest))
      ∙ step d 39 d true (doubled text ++ 39 ∷ (spelled v ++ rest)) (ends_not d 39 refl) refl refl
      ∙ ap (onto_first 39) (quoted_parts d text (spelled v ++ rest))
      ∙ ap (onto_front (quoted text)) (value_parts v d rest h)
      ∙ sym (front_append (quoted text) (spelled v) (parts_from false d rest))
  value_parts (Value.Parentheses vs v) d rest h =
      let halves = and_parts (are_values vs) (is_value v) h in
      ap (λ (text : List ℕ). parts_from false d (40 ∷ text)) (append_assoc (spelled_all vs) (41 ∷ spelled v) rest)
      ∙ step d 40 (suc d) false (spelled_all vs ++ 41 ∷ (spelled v ++ rest)) (ends_not d 40 refl) refl (add-one d)
      ∙ ap (onto_first 40) (values_parts vs d (41 ∷ (spelled v ++ rest)) halves.0
      ∙ ap (onto_front (spelled_all vs)) (step (suc d) 41 d false (spelled v ++ rest) (ends_not (suc d) 41 refl) refl (one_less d)
      ∙ ap (onto_first 41) (value_parts v d rest halves.1))
      ∙ sym (front_append (spelled_all vs) (41 ∷ spelled v) (parts_from false d rest)))

  -- and so are values within parentheses
  values_parts : (vs : Values) (d : ℕ) (rest : List ℕ) → are_values vs ≡ true →
      parts_from false (suc d) (spelled_all vs ++ rest) ≡ onto_front (spelled_all vs) (parts_from false (suc d) rest)
  values_parts (Values.Last v) d rest h = value_parts v (suc d) rest h
  values_parts (Values.Before v vs) d rest h =
      let halves = and_parts (is_value v) (are_values vs) h in
      ap (parts_from false (suc d)) (append_assoc (spelled v) (44 ∷ spelled_all vs) rest)
      ∙ value_parts v (suc d) (44 ∷ (spelled_all vs ++ rest)) halves.0
      ∙ ap (onto_front (spelled v)) (step (suc d) 44 (suc d) false (spelled_all vs ++ rest) (comma_within d) refl refl
      ∙ ap (onto_first 44) (values_parts vs d rest halves.1))
      ∙ sym (front_append (spelled v) (44 ∷ spelled_all vs) (parts_from false (suc d) rest))

pub one_place : (v : Value) → is_value v ≡ true → places_of (spelled v) ≡ spelled v ∷ []
one_place v h =
    ap (parts_from false 0) (sym (append-nil (spelled v))) ∙ value_parts v 0 [] h ∙ front_first (spelled v) [] []
    ∙ ap (λ (t : List ℕ). t ∷ []) (append-nil (spelled v))

pub all_places : (vs : Values) → are_values vs ≡ true → places_of (spelled_all vs) ≡ texts_of vs
all_places (Values.Last v) h = one_place v h
all_places (Values.Before v vs) h =
    let halves = and_parts (is_value v) (are_values vs) h in
    value_parts v 0 (44 ∷ spelled_all vs) halves.0
    ∙ front_first (spelled v) [] (places_of (spelled_all vs))
    ∙ ap (λ (t : List ℕ). t ∷ places_of (spelled_all vs)) (append-nil (spelled v))
    ∙ ap (λ (rest : List (List ℕ)). spelled v ∷ rest) (all_places vs halves.1)
