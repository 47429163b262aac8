-- Values in parentheses.
use Rattle.std.proofs.Common.{◌≡◌, ◌+◌, ◌-◌, ◌++◌, ℕ, Bool, true, false, cond, List, [], ◌∷◌, length, take, refl, ap, ◌∙◌, arith, append_assoc, add-one, length-append}
use Rattle.std.specs.Prelude.{not, ◌&&◌, ◌==◌, suc}
use Rattle.std.proofs.lemmas.Bool.{and_parts}
use Rattle.std.proofs.Math.Seq.{take-append_seam}
use Rattle.card_core.specs.Fields.{quoted_after}
use Rattle.operand_core.specs.Operands.{depth_after, places_of}
use Rattle.operand_core.specs.Subparameters.{closes_last, inside, is_wrapped, subparameters_of}
use Rattle.reader_laws.specs.Spelled.{doubled, quoted}
use Rattle.reader_laws.specs.SpelledOperands.{Value, Values, are_values, is_plain, is_value, spelled, spelled_all, texts_of}
use Rattle.reader_laws.specs.WrittenCards.{is_empty}
use Rattle.reader_laws.proofs.Places.{all_places, and_false, depth_plain, one_less, plain_is, quoted_before, quoted_plain}

abbrev is_some_text : List ℕ → Bool
is_some_text [] = false
is_some_text (c ∷ cs) = true

-- a character that does not close the last parenthesis, before something
passes : (q : Bool) (d c after : ℕ) (opens : Bool) (text : List ℕ) → (not q && d == 1 && c == 41) ≡ false → quoted_after q c ≡ opens →
    depth_after q d c ≡ after →
    is_some_text text ≡ true → closes_last q d (c ∷ text) ≡ closes_last opens after text
passes q d c after opens [] h k l some = absurd cc
passes q d c after opens (e ∷ text) h k l some =
    ap (λ (b : Bool). cond b false (closes_last (quoted_after q c) (depth_after q d c) (e ∷ text))) h
    ∙ ap (λ (b : Bool). closes_last b (depth_after q d c) (e ∷ text)) k
    ∙ ap (λ (n : ℕ). closes_last opens n (e ∷ text)) l

not_last : (d c : ℕ) → (c == 41) ≡ false → (not false && d == 1 && c == 41) ≡ false
not_last d c h = ap (λ (b : Bool). (d == 1) && b) h ∙ and_false (d == 1)

not_one : (d : ℕ) → (suc (suc d) == 1) ≡ false
not_one d = grind (arith)

not_outer : (d : ℕ) → (not false && suc (suc d) == 1 && 41 == 41) ≡ false
not_outer d = ap (λ (b : Bool). b && true) (not_one d)

some_behind : (text behind : List ℕ) → is_some_text behind ≡ true → is_some_text (text ++ behind) ≡ true
some_behind [] behind h = h
some_behind (c ∷ text) behind h = refl

quoted_by : (d c : ℕ) (cs rest : List ℕ) (b : Bool) → (c == 39) ≡ b → is_some_text rest ≡ true →
    closes_last true d (doubled cs ++ 39 ∷ rest) ≡ closes_last false d rest →
    closes_last true d (cond b (39 ∷ 39 ∷ doubled cs) (c ∷ doubled cs) ++ 39 ∷ rest) ≡ closes_last false d rest
quoted_by d c cs rest true e some h =
    passes true d 39 d false (39 ∷ (doubled cs ++ 39 ∷ rest)) refl refl refl refl
    ∙ passes false d 39 d true (doubled cs ++ 39 ∷ rest) (not_last d 39 refl) refl refl (some_behind (doubled cs) (39 ∷ rest) refl) ∙ h
quoted_by d c cs rest false e some h =
    passes true d c d true (doubled cs ++ 39 ∷ rest) refl (ap (λ (b : Bool). cond b false true) e) refl (some_behind (doubled cs) (39 ∷ rest) refl) ∙ h

quoted_passes : (d : ℕ) (text rest : List ℕ) → is_some_text rest ≡ true → closes_last true d (doubled text ++ 39 ∷ rest) ≡ closes_last false d rest
quoted_passes d [] rest some = passes true d 39 d false rest refl refl refl some
quoted_passes d (c ∷ cs) rest some = quoted_by d c cs rest (c == 39) refl some (quoted_passes d cs rest some)

mutual
  value_passes : (v : Value) (d : ℕ) (rest : List ℕ) → is_value v ≡ true → is_some_text rest ≡ true →
      closes_last false (suc d) (spelled v ++ rest) ≡ closes_last false (suc d) rest
  value_passes Value.End d rest h some = refl
  value_passes (Value.Character c v) d rest h some =
      let halves = and_parts (is_plain c) (is_value v) h in
      let p = plain_is c halves.0 in
      passes false (suc d) c (suc d) false (spelled v ++ rest) (not_last (suc d) c p.closing) (quoted_plain c p) (depth_plain (suc d) c p)
      (some_behind (spelled v) rest some) ∙ value_passes v d rest halves.1 some
  value_passes (Value.Apostrophes text v) d rest h some =
      ap (closes_last false (suc d)) (append_assoc (quoted text) (spelled v) rest ∙ quoted_before text (spelled v ++ rest))
      ∙ passes false (suc d) 39 (suc d) true (doubled text ++ 39 ∷ (spelled v ++ rest)) (not_last (suc d) 39 refl) refl refl
      (some_behind (doubled text) (39 ∷ (spelled v ++ rest)) refl)
      ∙ quoted_passes (suc d) text (spelled v ++ rest) (some_behind (spelled v) rest some)
      ∙ value_passes v d rest h some
  value_passes (Value.Parentheses vs v) d rest h some =
      let halves = and_parts (are_values vs) (is_value v) h in
      ap (λ (text : List ℕ). closes_last false (suc d) (40 ∷ text)) (append_assoc (spelled_all vs) (41 ∷ spelled v) rest)
      ∙ passes false (suc d) 40 (suc (suc d)) false (spelled_all vs ++ 41 ∷ (spelled v ++ rest)) (not_last (suc d) 40 refl) refl (add-one (suc d))
      (some_behind (spelled_all vs) (41 ∷ (spelled v ++ rest)) refl)
      ∙ values_pass vs (suc d) (41 ∷ (spelled v ++ rest)) halves.0 refl
      ∙ passes false (suc (suc d)) 41 (suc d) false (spelled v ++ rest) (not_outer d) refl (one_less (suc d)) (some_behind (spelled v) rest some)
      ∙ value_passes v d rest halves.1 some

  values_pass : (vs : Values) (d : ℕ) (rest : List ℕ) → are_values vs ≡ true → is_some_text rest ≡ true →
      closes_last false (suc d) (spelled_all vs ++ rest) ≡ closes_last false (suc d) rest
  values_pass (Values.Last v) d rest h some = value_passes v d rest h some
  values_pass (Values.Before v vs) d rest h some =
      let halves = and_parts (is_value v) (are_values vs) h in
      ap (closes_last false (suc d)) (append_assoc (spelled v) (44 ∷ spelled_all vs) rest)
      ∙ value_passes v d (44 ∷ (spelled_all vs ++ rest)) halves.0 refl
      ∙ passes false (suc d) 44 (suc d) false (spelled_all vs ++ rest) (not_last (suc d) 44 refl) refl refl (some_behind (spelled_all vs) rest some)
      ∙ values_pass vs d rest halves.1 some

wrapped : (vs : Values) → are_values vs ≡ true → is_wrapped (40 ∷ (spelled_all vs ++ 41 ∷ [])) ≡ true
wrapped vs h = values_pass vs 0 (41 ∷ []) h refl

inside_is : (text : List ℕ) → inside (40 ∷ (text ++ 41 ∷ [])) ≡ text
inside_is text =
    let sum : length (text ++ 41 ∷ []) ≡ length text + 1 = length-append text (41 ∷ []) in
    let at : suc (length (text ++ 41 ∷ [])) - 2 ≡ length text = omega arith in
    ap (λ (n : ℕ). take n (text ++ 41 ∷ [])) at ∙ take-append_seam text (41 ∷ [])

-- the places of a value in parentheses are what it was spelled of
pub group_is : (vs : Values) → are_values vs ≡ true → subparameters_of (spelled (Value.Parentheses vs Value.End)) ≡ texts_of vs
group_is vs h =
    let value : List ℕ = 40 ∷ (spelled_all vs ++ 41 ∷ []) in
    ap (λ (b : Bool). cond b (places_of (inside value)) (value ∷ [])) (wrapped vs h)
    ∙ ap places_of (inside_is (spelled_all vs)) ∙ all_places vs h

-- and what has more behind its parentheses is one place
closed_before : (text : List ℕ) → is_empty text ≡ false → closes_last false 1 (41 ∷ text) ≡ false
closed_before [] h = absurd cc
closed_before (c ∷ text) h = refl

pub followed_is : (vs : Values) (v : Value) → are_values vs ≡ true → is_empty (spelled v) ≡ false →
    subparameters_of (spelled (Value.Parentheses vs v)) ≡ spelled (Value.Parentheses vs v) ∷ []
followed_is vs v h some =
    let value : List ℕ = 40 ∷ (spelled_all vs ++ 41 ∷ spelled v) in
    ap (λ (b : Bool). cond b (places_of (inside value)) (value ∷ [])) (values_pass vs 0 (41 ∷ spelled v) h refl ∙ closed_before (spelled v) some)
