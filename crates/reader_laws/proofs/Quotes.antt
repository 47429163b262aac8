-- A text in apostrophes.
use Rattle.std.proofs.Common.{◌≡◌, ◌++◌, ℕ, Bool, true, false, cond, List, [], ◌∷◌, Option, Some, refl, sym, ap, ◌∙◌}
use Rattle.std.specs.Prelude.{not, ◌&&◌, ◌==◌}
use Rattle.std.specs.Option.{unwrap_or}
use Rattle.std.specs.List.{onto_first}
use Rattle.std.proofs.lemmas.Bool.{eqb-true}
use Rattle.card_core.specs.Fields.{begun_with}
use Rattle.operand_core.specs.Operands.{balanced_from, is_read, open_at_end, parts_from, places_of}
use Rattle.operand_core.specs.Values.{enclosed, unquoted}
use Rattle.reader_laws.specs.Spelled.{doubled, quoted}
use Rattle.reader_laws.specs.WrittenCards.{is_blank, is_whole}

-- an apostrophe or another character at the front of a doubled text
enclosed_by : (c : ℕ) (cs : List ℕ) (b : Bool) → (c == 39) ≡ b → enclosed false (doubled cs ++ 39 ∷ []) ≡ Some cs →
    enclosed false (cond b (39 ∷ 39 ∷ doubled cs) (c ∷ doubled cs) ++ 39 ∷ []) ≡ Some (c ∷ cs)
enclosed_by c cs true e h = ap (begun_with 39) h ∙ ap (λ (d : ℕ). Some (d ∷ cs)) (sym (eqb-true c 39 e))
enclosed_by c cs false e h =
    let text : List ℕ = doubled cs ++ 39 ∷ [] in
    ap (λ (b : Bool). cond b (enclosed true text) (begun_with c (enclosed false text))) e ∙ ap (begun_with c) h

enclosed_is : (text : List ℕ) → enclosed false (doubled text ++ 39 ∷ []) ≡ Some text
enclosed_is [] = refl
enclosed_is (c ∷ cs) = enclosed_by c cs (c == 39) refl (enclosed_is cs)

pub unquoted_is : (text : List ℕ) → unquoted (quoted text) ≡ text
unquoted_is text = ap (λ (read : Option (List ℕ)). unwrap_or read (quoted text)) (enclosed_is text)

-- within apostrophes a comma or a parenthesis is a character
parts_by : (c : ℕ) (cs : List ℕ) (b : Bool) → (c == 39) ≡ b → parts_from true 0 (doubled cs ++ 39 ∷ []) ≡ (doubled cs ++ 39 ∷ []) ∷ [] →
    parts_from true 0 (cond b (39 ∷ 39 ∷ doubled cs) (c ∷ doubled cs) ++ 39 ∷ []) ≡ (cond b (39 ∷ 39 ∷ doubled cs) (c ∷ doubled cs) ++ 39 ∷ []) ∷ []
parts_by c cs true e h = ap (λ (parts : List (List ℕ)). onto_first 39 (onto_first 39 parts)) h
parts_by c cs false e h =
    ap (λ (b : Bool). onto_first c (parts_from (cond b false true) 0 (doubled cs ++ 39 ∷ []))) e ∙ ap (onto_first c) h

parts_are : (text : List ℕ) → parts_from true 0 (doubled text ++ 39 ∷ []) ≡ (doubled text ++ 39 ∷ []) ∷ []
parts_are [] = refl
parts_are (c ∷ cs) = parts_by c cs (c == 39) refl (parts_are cs)

pub place_is : (text : List ℕ) → places_of (quoted text) ≡ quoted text ∷ []
place_is text = ap (onto_first 39) (parts_are text)

balanced_by : (c : ℕ) (cs : List ℕ) (b : Bool) → (c == 39) ≡ b → balanced_from true 0 (doubled cs ++ 39 ∷ []) ≡ true →
    balanced_from true 0 (cond b (39 ∷ 39 ∷ doubled cs) (c ∷ doubled cs) ++ 39 ∷ []) ≡ true
balanced_by c cs true e h = h
balanced_by c cs false e h = ap (λ (b : Bool). balanced_from (cond b false true) 0 (doubled cs ++ 39 ∷ [])) e ∙ h

balanced : (text : List ℕ) → balanced_from true 0 (doubled text ++ 39 ∷ []) ≡ true
balanced [] = refl
balanced (c ∷ cs) = balanced_by c cs (c == 39) refl (balanced cs)

closed_by : (c : ℕ) (cs : List ℕ) (b : Bool) → (c == 39) ≡ b → open_at_end true (doubled cs ++ 39 ∷ []) ≡ false →
    open_at_end true (cond b (39 ∷ 39 ∷ doubled cs) (c ∷ doubled cs) ++ 39 ∷ []) ≡ false
closed_by c cs true e h = h
closed_by c cs false e h = ap (λ (b : Bool). open_at_end (cond b false true) (doubled cs ++ 39 ∷ [])) e ∙ h

closed : (text : List ℕ) → open_at_end true (doubled text ++ 39 ∷ []) ≡ false
closed [] = refl
closed (c ∷ cs) = closed_by c cs (c == 39) refl (closed cs)

pub is_read_whole : (text : List ℕ) → is_read (quoted text) ≡ true
is_read_whole text = ap (λ (b : Bool). b && not (open_at_end true (doubled text ++ 39 ∷ []))) (balanced text) ∙ ap not (closed text)

no_blank_outside : (b : Bool) → not (b && false) ≡ true
no_blank_outside true = refl
no_blank_outside false = refl

whole_by : (c : ℕ) (cs : List ℕ) (b : Bool) → (c == 39) ≡ b → is_whole true (doubled cs ++ 39 ∷ []) ≡ true →
    is_whole true (cond b (39 ∷ 39 ∷ doubled cs) (c ∷ doubled cs) ++ 39 ∷ []) ≡ true
whole_by c cs true e h = h
whole_by c cs false e h =
    ap (λ (b : Bool). b && is_whole (cond (c == 39) false true) (doubled cs ++ 39 ∷ [])) (no_blank_outside (is_blank c))
    ∙ ap (λ (b : Bool). is_whole (cond b false true) (doubled cs ++ 39 ∷ [])) e ∙ h

whole_within : (text : List ℕ) → is_whole true (doubled text ++ 39 ∷ []) ≡ true
whole_within [] = refl
whole_within (c ∷ cs) = whole_by c cs (c == 39) refl (whole_within cs)

pub whole : (text : List ℕ) → is_whole false (quoted text) ≡ true
whole text = whole_within text
