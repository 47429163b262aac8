-- An operand without a symbol is the same whatever values symbols have.
use Rattle.std.proofs.Common.{◌≡◌, ◌∷◌, ◌++◌, ◌∙◌, ℕ, ◌||◌, ◌&&◌, ◌==◌, Bool, true, false, not, List, [], None, Some, ap, map, refl, sym}
use Rattle.std.specs.Prelude.{if◌then◌else◌}
use Rattle.std.specs.List.{list_any, onto_first}
use Rattle.card_core.specs.Fields.{quoted_after}
use Rattle.jcl_plan.specs.declared.fault.Cause.TheVariants.{P}
use Rattle.jcl_plan.specs.declared.fault.StatementFault.TheVariants.{OperandTooLong, SymbolWithoutValue}
use Rattle.operand_core.specs.Faults.{when}
use Rattle.operand_core.specs.Keywords.{is_long}
use Rattle.operand_core.specs.Operands.{depth_after, ends_part, keyword_of, parts_from, places_of}
use Rattle.value_core.specs.Reads.{Read}
use Rattle.jcl_symbols.specs.declared.symbol.Symbol.{Symbol}
use Rattle.jcl_symbols.specs.Substitutions.{Substituted, begins_symbol, behind, is_set_name, joined, lacks_value, substituted, substituted_from, substituted_in, text_with}
use Rattle.jcl_procs.specs.Counting.{has_symbol}

or_first : (a b : Bool) → (a || b) ≡ false → a ≡ false
or_first true b h = absurd cc
or_first false b h = refl

or_second : (a b : Bool) → (a || b) ≡ false → b ≡ false
or_second true b h = absurd cc
or_second false b h = h

begins : (quoted : Bool) (c : ℕ) → (c == 38) ≡ false → begins_symbol quoted c ≡ false
begins true c h = refl
begins false c h = h

-- nor has a part of it one
onto : (c : ℕ) (parts : List (List ℕ)) → (c == 38) ≡ false → list_any has_symbol parts ≡ false → list_any has_symbol (onto_first c parts) ≡ false
onto c [] none h = ap (λ b. (b || false) || false) none
onto c (part ∷ parts) none h = ap (λ b. (b || has_symbol part) || list_any has_symbol parts) none ∙ h

part_free : (c : ℕ) (next more : List (List ℕ)) (b : Bool) → (c == 38) ≡ false → list_any has_symbol next ≡ false → list_any has_symbol more ≡ false →
    list_any has_symbol (if b then [] ∷ next else onto_first c more) ≡ false
part_free c next more true none h k = h
part_free c next more false none h k = onto c more none k

parts_free : (quoted : Bool) (depth : ℕ) (text : List ℕ) → has_symbol text ≡ false → list_any has_symbol (parts_from quoted depth text) ≡ false
parts_free quoted depth [] h = refl
parts_free quoted depth (c ∷ cs) h =
    let rest = or_second (c == 38) (has_symbol cs) h in
    part_free c (parts_from false 0 cs) (parts_from (quoted_after quoted c) (depth_after quoted depth c) cs) (ends_part quoted depth c)
    (or_first (c == 38) (has_symbol cs) h) (parts_free false 0 cs rest) (parts_free (quoted_after quoted c) (depth_after quoted depth c) cs rest)

module _ (one other : List Symbol) where
  chosen : List Symbol → Bool → ℕ → List ℕ → Bool → Substituted
  chosen symbols quoted c cs b =
      if b then substituted_from symbols false (Some []) cs else behind (c ∷ []) (substituted_from symbols (quoted_after quoted c) None cs)

  same_from : (quoted : Bool) (text : List ℕ) → has_symbol text ≡ false → substituted_from one quoted None text ≡ substituted_from other quoted None text
  unfolding substituted_from chosen
  same_from quoted [] h = refl
  same_from quoted (c ∷ cs) h =
      let none = begins quoted c (or_first (c == 38) (has_symbol cs) h) in
      ap (chosen one quoted c cs) none
      ∙ ap (behind (c ∷ [])) (same_from (quoted_after quoted c) cs (or_second (c == 38) (has_symbol cs) h))
      ∙ sym (ap (chosen other quoted c cs) none)

  texts : (parts : List (List ℕ)) → list_any has_symbol parts ≡ false →
      map (λ part. (substituted_in one part).text) parts ≡ map (λ part. (substituted_in other part).text) parts
  texts [] h = refl
  texts (part ∷ parts) h =
      ap (λ (s : Substituted). s.text ∷ map (λ part. (substituted_in one part).text) parts)
      (same_from false part (or_first (has_symbol part) (list_any has_symbol parts) h))
      ∙ ap (λ (rest : List (List ℕ)). (substituted_in other part).text ∷ rest) (texts parts (or_second (has_symbol part) (list_any has_symbol parts) h))

  lacks : (dd : Bool) (parts : List (List ℕ)) → list_any has_symbol parts ≡ false → list_any (lacks_value one dd) parts ≡ list_any (lacks_value other dd) parts
  lacks dd [] h = refl
  lacks dd (part ∷ parts) h =
      ap (λ (s : Substituted). (not (dd && is_set_name (keyword_of part)) && s.lacks_value) || list_any (lacks_value one dd) parts)
      (same_from false part (or_first (has_symbol part) (list_any has_symbol parts) h))
      ∙ ap (λ (b : Bool). lacks_value other dd part || b) (lacks dd parts (or_second (has_symbol part) (list_any has_symbol parts) h))

  abbrev read_of : List ℕ → Bool → List ℕ → Read (List ℕ)
  read_of operand lacking text = record {
    value = text;
    faults = when lacking (P SymbolWithoutValue) ++ when (is_long operand || is_long text) (P OperandTooLong);
  }

  pub unused : (dd : Bool) (operand : List ℕ) → has_symbol operand ≡ false → substituted one dd operand ≡ substituted other dd operand
  unused dd operand h =
      let free = parts_free false 0 operand h in
      ap (read_of operand (list_any (lacks_value one dd) (places_of operand))) (ap joined (texts (places_of operand) free))
      ∙ ap (λ (b : Bool). read_of operand b (text_with other operand)) (lacks dd (places_of operand) free)
