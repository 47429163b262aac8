-- A name and blanks behind it is read as the name.
use Rattle.std.proofs.Common.{◌≡◌, ◌≢◌, ◌-◌, ℕ, zero, suc, true, not, cond, List, [], ◌∷◌, ◌++◌, length, replicate, Option, Some, None, refl, ap, ◌∙◌}
use Rattle.std.specs.Prelude.{is_none}
use Rattle.std.proofs.lemmas.Bool.{ne_eqb, or_left, or_right}
use Rattle.jname_core.specs.Faults.{ds_name_fault, is_no_serial, name8_fault}
use Rattle.jname_core.specs.Grammar.{IsDsNameWithin, IsName8, IsSerial}
use Rattle.jname_core.proofs.Names.{kept_from_serial, name8_none}
use Rattle.jname_core.proofs.Components.{ds_name_none}
use Rattle.jcl_plan.specs.Texts.{onto_text, trimmed}
use Rattle.cb_meaning.specs.Fields.{filled, filled_or_blank}
use Rattle.cb_meaning.specs.Walks.{is_blank, is_ds_name, is_name, is_name_or_blank, is_serial}
use Rattle.cb_meaning.specs.Writable.{IsName}
use Rattle.record_laws.proofs.Blanks.{NoBlank, dotted_blank, name_blank, serial_blank}

trimmed_blanks : (n : ℕ) → trimmed (replicate n 32) ≡ []
trimmed_blanks zero = refl
trimmed_blanks (suc n) = ap (onto_text 32) (trimmed_blanks n)

onto_other : (c : ℕ) (cs : List ℕ) → c ≢ 32 → onto_text c cs ≡ c ∷ cs
onto_other c [] h = ap (λ b. cond b [] (c ∷ [])) (ne_eqb c 32 h)
onto_other c (d ∷ ds) h = refl

pub trimmed_filled : (text : List ℕ) (n : ℕ) → NoBlank text → trimmed (text ++ replicate n 32) ≡ text
trimmed_filled [] n h = trimmed_blanks n
trimmed_filled (c ∷ cs) n h = ap (onto_text c) (trimmed_filled cs n h.1) ∙ onto_other c cs h.0

pub blank_is : (n : ℕ) → is_blank (replicate n 32) ≡ true
blank_is zero = refl
blank_is (suc n) = blank_is n

pub name_is : (width : ℕ) (name : List ℕ) → IsName8 name → is_name (filled width name) ≡ true
name_is width name h =
    ap (λ t. is_none (name8_fault t)) (trimmed_filled name (width - length name) (name_blank name h)) ∙ ap (λ o. is_none o) (name8_none name h)

pub ds_name_is : (limit width : ℕ) (name : List ℕ) → IsDsNameWithin limit name → is_ds_name limit (filled width name) ≡ true
ds_name_is limit width name h =
    ap (λ t. is_none (ds_name_fault limit t)) (trimmed_filled name (width - length name) (dotted_blank limit name h.dotted))
    ∙ ap (λ o. is_none o) (ds_name_none limit name h)

pub serial_is : (width : ℕ) (text : List ℕ) → IsSerial text → is_serial (filled width text) ≡ true
serial_is width text h =
    ap (λ t. not (is_no_serial t)) (trimmed_filled text (width - length text) (serial_blank text h)) ∙ ap not (kept_from_serial text h)

pub name_or_blank_is : (name : Option (List ℕ)) → IsName name → is_name_or_blank (filled_or_blank 8 name) ≡ true
name_or_blank_is None h = or_left (is_blank (replicate 8 32)) (is_name (replicate 8 32)) (blank_is 8)
name_or_blank_is (Some name) h = or_right (is_blank (filled 8 name)) (is_name (filled 8 name)) (name_is 8 name h)
