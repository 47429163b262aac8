-- Spelled values are read, may stand on a card, and have the places that they were spelled of.
use Rattle.std.proofs.Common.{◌≡◌, ◌++◌, ℕ, Bool, true, false, cond, List, [], ◌∷◌, refl, sym, ap, ◌∙◌, append-nil, append_assoc, add-one}
use Rattle.std.specs.Prelude.{not, ◌&&◌, ◌==◌, suc}
use Rattle.std.proofs.lemmas.Bool.{and_parts}
use Rattle.card_core.specs.Fields.{quoted_after}
use Rattle.operand_core.specs.Operands.{balanced_from, closes_nothing, depth_after, is_read, open_at_end}
use Rattle.reader_laws.specs.Spelled.{doubled, quoted}
use Rattle.reader_laws.specs.SpelledOperands.{Value, Values, are_values, is_plain, is_value, spelled, spelled_all}
use Rattle.reader_laws.specs.WrittenCards.{is_blank, is_whole}
use Rattle.reader_laws.proofs.Places.{and_false, depth_plain, not_zero, one_less, plain_is, quoted_before, quoted_plain}

-- parentheses balance: a character that closes nothing
closes : (d c after : ℕ) (opens : Bool) (text : List ℕ) → closes_nothing false d c ≡ false → quoted_after false c ≡ opens → depth_after false d c ≡ after →
    balanced_from false d (c ∷ text) ≡ balanced_from opens after text
closes d c after opens text h k l =
    ap (λ (b : Bool). cond b false (balanced_from (quoted_after false c) (depth_after false d c) text)) h
    ∙ ap (λ (b : Bool). balanced_from b (depth_after false d c) text) k
    ∙ ap (λ (n : ℕ). balanced_from opens n text) l

closes_not : (d c : ℕ) → (c == 41) ≡ false → closes_nothing false d c ≡ false
closes_not d c h = ap (λ (b : Bool). (d == 0) && b) h ∙ and_false (d == 0)

closes_open : (d : ℕ) → closes_nothing false (suc d) 41 ≡ false
closes_open d = ap (λ (b : Bool). b && true) (not_zero d)

quoted_balanced_by : (d c : ℕ) (cs rest : List ℕ) (b : Bool) → (c == 39) ≡ b → balanced_from true d (doubled cs ++ 39 ∷ rest) ≡ balanced_from false d rest →
    balanced_from true d (cond b (39 ∷ 39 ∷ doubled cs) (c ∷ doubled cs) ++ 39 ∷ rest) ≡ balanced_from false d rest
quoted_balanced_by d c cs rest true e h = closes d 39 d true (doubled cs ++ 39 ∷ rest) (closes_not d 39 refl) refl refl ∙ h
quoted_balanced_by d c cs rest false e h = ap (λ (b : Bool). balanced_from (cond b false true) d (doubled cs ++ 39 ∷ rest)) e ∙ h

quoted_balanced : (d : ℕ) (text rest : List ℕ) → balanced_from true d (doubled text ++ 39 ∷ rest) ≡ balanced_from false d rest
quoted_balanced d [] rest = refl
quoted_balanced d (c ∷ cs) rest = quoted_balanced_by d c cs rest (c == 39) refl (quoted_balanced d cs rest)

mutual
  value_balanced : (v : Value) (d : ℕ) (rest : List ℕ) → is_value v ≡ true → balanced_from false d (spelled v ++ rest) ≡ balanced_from false d rest
  value_balanced Value.End d rest h = refl
  value_balanced (Value.Character c v) d rest h =
      let halves = and_parts (is_plain c) (is_value v) h in
      let p = plain_is c halves.0 in
      closes d c d false (spelled v ++ rest) (closes_not d c p.closing) (quoted_plain c p) (depth_plain d c p) ∙ value_balanced v d rest halves.1
  value_balanced (Value.Apostrophes text v) d rest h =
      ap (balanced_from false d) (append_assoc (quoted text) (spelled v) rest ∙ quoted_before text (spelled v ++ rest))
      ∙ closes d 39 d true (doubled text ++ 39 ∷ (spelled v ++ rest)) (closes_not d 39 refl) refl refl
      ∙ quoted_balanced d text (spelled v ++ rest)
      ∙ value_balanced v d rest h
  value_balanced (Value.Parentheses vs v) d rest h =
      let halves = and_parts (are_values vs) (is_value v) h in
      ap (λ (text : List ℕ). balanced_from false d (40 ∷ text)) (append_assoc (spelled_all vs) (41 ∷ spelled v) rest)
      ∙ closes d 40 (suc d) false (spelled_all vs ++ 41 ∷ (spelled v ++ rest)) (closes_not d 40 refl) refl (add-one d)
      ∙ values_balanced vs (suc d) (41 ∷ (spelled v ++ rest)) halves.0
      ∙ closes (suc d) 41 d false (spelled v ++ rest) (closes_open d) refl (one_less d)
      ∙ value_balanced v d rest halves.1

  values_balanced : (vs : Values) (d : ℕ) (rest : List ℕ) → are_values vs ≡ true → balanced_from false d (spelled_all vs ++ rest) ≡ balanced_from false d rest
  values_balanced (Values.Last v) d rest h = value_balanced v d rest h
  values_balanced (Values.Before v vs) d rest h =
      let halves = and_parts (is_value v) (are_values vs) h in
      ap (balanced_from false d) (append_assoc (spelled v) (44 ∷ spelled_all vs) rest)
      ∙ value_balanced v d (44 ∷ (spelled_all vs ++ rest)) halves.0
      ∙ closes d 44 d false (spelled_all vs ++ rest) (closes_not d 44 refl) refl refl
      ∙ values_balanced vs d rest halves.1

-- apostrophes close
quoted_closed_by : (c : ℕ) (cs rest : List ℕ) (b : Bool) → (c == 39) ≡ b → open_at_end true (doubled cs ++ 39 ∷ rest) ≡ open_at_end false rest →
    open_at_end true (cond b (39 ∷ 39 ∷ doubled cs) (c ∷ doubled cs) ++ 39 ∷ rest) ≡ open_at_end false rest
quoted_closed_by c cs rest true e h = h
quoted_closed_by c cs rest false e h = ap (λ (b : Bool). open_at_end (cond b false true) (doubled cs ++ 39 ∷ rest)) e ∙ h

quoted_closed : (text rest : List ℕ) → open_at_end true (doubled text ++ 39 ∷ rest) ≡ open_at_end false rest
quoted_closed [] rest = refl
quoted_closed (c ∷ cs) rest = quoted_closed_by c cs rest (c == 39) refl (quoted_closed cs rest)

mutual
  value_closed : (v : Value) (rest : List ℕ) → is_value v ≡ true → open_at_end false (spelled v ++ rest) ≡ open_at_end false rest
  value_closed Value.End rest h = refl
  value_closed (Value.Character c v) rest h =
      let halves = and_parts (is_plain c) (is_value v) h in
      ap (λ (b : Bool). open_at_end b (spelled v ++ rest)) (quoted_plain c (plain_is c halves.0)) ∙ value_closed v rest halves.1
  value_closed (Value.Apostrophes text v) rest h =
      ap (open_at_end false) (append_assoc (quoted text) (spelled v) rest ∙ quoted_before text (spelled v ++ rest))
      ∙ quoted_closed text (spelled v ++ rest) ∙ value_closed v rest h
  value_closed (Value.Parentheses vs v) rest h =
      let halves = and_parts (are_values vs) (is_value v) h in
      ap (open_at_end false) (append_assoc (spelled_all vs) (41 ∷ spelled v) rest)
      ∙ values_closed vs (41 ∷ (spelled v ++ rest)) halves.0 ∙ value_closed v rest halves.1

  values_closed : (vs : Values) (rest : List ℕ) → are_values vs ≡ true → open_at_end false (spelled_all vs ++ rest) ≡ open_at_end false rest
  values_closed (Values.Last v) rest h = value_closed v rest h
  values_closed (Values.Before v vs) rest h =
      let halves = and_parts (is_value v) (are_values vs) h in
      ap (open_at_end false) (append_assoc (spelled v) (44 ∷ spelled_all vs) rest)
      ∙ value_closed v (44 ∷ (spelled_all vs ++ rest)) halves.0 ∙ values_closed vs rest halves.1

pub value_read : (v : Value) → is_value v ≡ true → is_read (spelled v) ≡ true
value_read v h =
    ap is_read (sym (append-nil (spelled v)))
    ∙ (λ i. value_balanced v 0 [] h i && not (value_closed v [] h i))

-- no blank stands outside apostrophes
quoted_whole_by : (c : ℕ) (cs rest : List ℕ) (b : Bool) → (c == 39) ≡ b → is_whole true (doubled cs ++ 39 ∷ rest) ≡ is_whole false rest →
    is_whole true (cond b (39 ∷ 39 ∷ doubled cs) (c ∷ doubled cs) ++ 39 ∷ rest) ≡ is_whole false rest
quoted_whole_by c cs rest true e h = h
quoted_whole_by c cs rest false e h =
    ap (λ (b : Bool). not b && is_whole (cond (c == 39) false true) (doubled cs ++ 39 ∷ rest)) (and_false (is_blank c))
    ∙ ap (λ (b : Bool). is_whole (cond b false true) (doubled cs ++ 39 ∷ rest)) e ∙ h

quoted_whole : (text rest : List ℕ) → is_whole true (doubled text ++ 39 ∷ rest) ≡ is_whole false rest
quoted_whole [] rest = refl
quoted_whole (c ∷ cs) rest = quoted_whole_by c cs rest (c == 39) refl (quoted_whole cs rest)

mutual
  value_whole : (v : Value) (rest : List ℕ) → is_value v ≡ true → is_whole false (spelled v ++ rest) ≡ is_whole false rest
  value_whole Value.End rest h = refl
  value_whole (Value.Character c v) rest h =
      let halves = and_parts (is_plain c) (is_value v) h in
      let p = plain_is c halves.0 in
      ap (λ (b : Bool). not (b && true) && is_whole (cond (c == 39) true false) (spelled v ++ rest)) p.blank
      ∙ ap (λ (b : Bool). is_whole (cond b true false) (spelled v ++ rest)) p.apostrophe ∙ value_whole v rest halves.1
  value_whole (Value.Apostrophes text v) rest h =
      ap (is_whole false) (append_assoc (quoted text) (spelled v) rest ∙ quoted_before text (spelled v ++ rest))
      ∙ quoted_whole text (spelled v ++ rest) ∙ value_whole v rest h
  value_whole (Value.Parentheses vs v) rest h =
      let halves = and_parts (are_values vs) (is_value v) h in
      ap (is_whole false) (append_assoc (spelled_all vs) (41 ∷ spelled v) rest)
      ∙ values_whole vs (41 ∷ (spelled v ++ rest)) halves.0 ∙ value_whole v rest halves.1

  values_whole : (vs : Values) (rest : List ℕ) → are_values vs ≡ true → is_whole false (spelled_all vs ++ rest) ≡ is_whole false rest
  values_whole (Values.Last v) rest h = value_whole v rest h
  values_whole (Values.Before v vs) rest h =
      let halves = and_parts (is_value v) (are_values vs) h in
      ap (is_whole false) (append_assoc (spelled v) (44 ∷ spelled_all vs) rest)
      ∙ value_whole v (44 ∷ (spelled_all vs ++ rest)) halves.0 ∙ values_whole vs rest halves.1

pub all_whole : (vs : Values) → are_values vs ≡ true → is_whole false (spelled_all vs) ≡ true
all_whole vs h = ap (is_whole false) (sym (append-nil (spelled_all vs))) ∙ values_whole vs [] h
