-- Names of one component, and serials: no fault holds of a text exactly where it keeps to the grammar.
use Rattle.std.proofs.Common.{◌≡◌, ◌↔◌, ℕ, false, ◌||◌, nat_lt, List, [], ◌∷◌, length, None, refl, arith, le-ltb, ltb-false, ne_eqb}
use Rattle.std.proofs.lemmas.Bool.{or_parts, or_from, not-false, not_from_true}
use Rattle.jname_core.specs.Characters.{is_first, is_name_character, is_component_character}
use Rattle.jname_core.specs.Faults.{is_empty, begins_badly, has_other_than, name8_fault, unit_name_fault, is_no_serial}
use Rattle.jname_core.specs.Grammar.{Consists, IsName8, IsUnitName, IsSerial}
use Rattle.jname_core.proofs.CharacterTests.{consists_from_none, none_from_consists, name_from_first, first_fault_none, first_fault_from}

pub not_empty : (c : ℕ) (cs : List ℕ) → is_empty (c ∷ cs) ≡ false
not_empty c cs = ne_eqb (length (c ∷ cs)) 0 (λ e. omega arith)

pub name8_from_none : (text : List ℕ) → name8_fault text ≡ None → IsName8 text
name8_from_none [] h = cc
name8_from_none (c ∷ cs) h =
    let p : (is_empty (c ∷ cs) ≡ false) × (nat_lt 8 (length (c ∷ cs)) ≡ false) × ((begins_badly (c ∷ cs) || has_other_than is_name_character (c ∷ cs)) ≡ false) × (false ≡ false)
    = first_fault_none (is_empty (c ∷ cs)) (nat_lt 8 (length (c ∷ cs))) (begins_badly (c ∷ cs) || has_other_than is_name_character (c ∷ cs)) false h in
    let q : (begins_badly (c ∷ cs) ≡ false) × (has_other_than is_name_character (c ∷ cs) ≡ false)
    = or_parts (begins_badly (c ∷ cs)) (has_other_than is_name_character (c ∷ cs)) p.2 in
    let k : Consists is_name_character (c ∷ cs) = consists_from_none is_name_character (c ∷ cs) q.1 in
    (not-false (is_first c) q.0, k.1, omega (arith, ltb-false 8 (length (c ∷ cs)) p.1))

pub name8_none : (text : List ℕ) → IsName8 text → name8_fault text ≡ None
name8_none [] h = absurd h
name8_none (c ∷ cs) h =
    first_fault_from (is_empty (c ∷ cs)) (nat_lt 8 (length (c ∷ cs))) (begins_badly (c ∷ cs) || has_other_than is_name_character (c ∷ cs)) false
    (not_empty c cs)
    (le-ltb 8 (length (c ∷ cs)) (omega arith))
    (or_from (begins_badly (c ∷ cs)) (has_other_than is_name_character (c ∷ cs)) (not_from_true (is_first c) h.0) (none_from_consists is_name_character (c ∷ cs) (name_from_first c h.0, h.1)))
    refl

pub unit_name_from_none : (text : List ℕ) → unit_name_fault text ≡ None → IsUnitName text
unit_name_from_none [] h = cc
unit_name_from_none (c ∷ cs) h =
    let p : (is_empty (c ∷ cs) ≡ false) × (nat_lt 8 (length (c ∷ cs)) ≡ false) × (has_other_than is_name_character (c ∷ cs) ≡ false) × (false ≡ false)
    = first_fault_none (is_empty (c ∷ cs)) (nat_lt 8 (length (c ∷ cs))) (has_other_than is_name_character (c ∷ cs)) false h in
    (consists_from_none is_name_character (c ∷ cs) p.2, omega (arith, ltb-false 8 (length (c ∷ cs)) p.1))

pub unit_name_none : (text : List ℕ) → IsUnitName text → unit_name_fault text ≡ None
unit_name_none [] h = absurd h
unit_name_none (c ∷ cs) h =
    first_fault_from (is_empty (c ∷ cs)) (nat_lt 8 (length (c ∷ cs))) (has_other_than is_name_character (c ∷ cs)) false
    (not_empty c cs) (le-ltb 8 (length (c ∷ cs)) (omega arith)) (none_from_consists is_name_character (c ∷ cs) h.0) refl

pub serial_from_kept : (text : List ℕ) → is_no_serial text ≡ false → IsSerial text
serial_from_kept [] h = cc
serial_from_kept (c ∷ cs) h =
    let p : ((is_empty (c ∷ cs) || nat_lt 6 (length (c ∷ cs))) ≡ false) × (has_other_than is_component_character (c ∷ cs) ≡ false)
    = or_parts (is_empty (c ∷ cs) || nat_lt 6 (length (c ∷ cs))) (has_other_than is_component_character (c ∷ cs)) h in
    let q : (is_empty (c ∷ cs) ≡ false) × (nat_lt 6 (length (c ∷ cs)) ≡ false) = or_parts (is_empty (c ∷ cs)) (nat_lt 6 (length (c ∷ cs))) p.0 in
    (consists_from_none is_component_character (c ∷ cs) p.1, omega (arith, ltb-false 6 (length (c ∷ cs)) q.1))

pub kept_from_serial : (text : List ℕ) → IsSerial text → is_no_serial text ≡ false
kept_from_serial [] h = absurd h
kept_from_serial (c ∷ cs) h =
    or_from (is_empty (c ∷ cs) || nat_lt 6 (length (c ∷ cs))) (has_other_than is_component_character (c ∷ cs))
    (or_from (is_empty (c ∷ cs)) (nat_lt 6 (length (c ∷ cs))) (not_empty c cs) (le-ltb 6 (length (c ∷ cs)) (omega arith)))
    (none_from_consists is_component_character (c ∷ cs) h.0)

pub name8_exact : (text : List ℕ) → (name8_fault text ≡ None) ↔ IsName8 text
name8_exact text = (name8_from_none text, name8_none text)

pub unit_name_exact : (text : List ℕ) → (unit_name_fault text ≡ None) ↔ IsUnitName text
unit_name_exact text = (unit_name_from_none text, unit_name_none text)
