-- Names that are read of their fields.
use Rattle.std.proofs.Common.{◌≡◌, ℕ, Bool, true, false, not, cond, List, [], length, Option, Some, None, refl, sym, ap, ◌∙◌, subst, inl, inr}
use Rattle.std.specs.Prelude.{is_none}
use Rattle.std.proofs.lemmas.Bool.{cases_Bool, or_cases}
use Rattle.jname_core.specs.Faults.{ds_name_fault, is_no_serial, name8_fault}
use Rattle.jname_core.specs.Grammar.{IsDsNameWithin, IsName8, IsSerial}
use Rattle.jname_core.proofs.Components.{ds_name_from_none}
use Rattle.jname_core.proofs.Names.{name8_from_none, serial_from_kept}
use Rattle.jcl_plan.specs.Texts.{trimmed}
use Rattle.cb_meaning.specs.Fields.{filled_or_blank}
use Rattle.cb_meaning.specs.Readings.{name_read}
use Rattle.cb_meaning.specs.Walks.{is_blank, is_ds_name, is_name, is_name_or_blank, is_serial}
use Rattle.cb_meaning.specs.Writable.{IsName}
use Rattle.walk_laws.proofs.faultless.Parts.{all_same_long, blank_trimmed, filled_again}
use Rattle.walk_laws.proofs.faultless.Told.{true_of}

none_of : {A : Type 0} (o : Option A) → is_none o ≡ true → o ≡ None
none_of None h = refl
none_of (Some a) h = absurd cc

pub name_of : (text : List ℕ) → is_name text ≡ true → IsName8 (trimmed text)
name_of text h = name8_from_none (trimmed text) (none_of (name8_fault (trimmed text)) h)

pub ds_name_of : (limit : ℕ) (text : List ℕ) → is_ds_name limit text ≡ true → IsDsNameWithin limit (trimmed text)
ds_name_of limit text h = ds_name_from_none limit (trimmed text) (none_of (ds_name_fault limit (trimmed text)) h)

no_longer : (b : Bool) → not b ≡ true → b ≡ false
no_longer true h = absurd cc
no_longer false h = refl

pub serial_of : (text : List ℕ) → is_serial text ≡ true → IsSerial (trimmed text)
serial_of text h = serial_from_kept (trimmed text) (no_longer (is_no_serial (trimmed text)) h)

-- a blank field is no name
blank_no_name : (text : List ℕ) → is_blank text ≡ true → is_name text ≡ true → ⊥
blank_no_name text h g =
    let no : IsName8 [] = subst IsName8 (blank_trimmed text h) (name_of text g) in no

pub not_blank : (text : List ℕ) → is_name text ≡ true → is_blank text ≡ false
not_blank text h =
    elim (cases_Bool (is_blank text)) [
      | inl blank ↦ absurd (blank_no_name text blank h)
      | inr other ↦ other
    ]

pub name_back : (width : ℕ) (text : List ℕ) → length text ≡ width → text ≡ filled_or_blank width (name_read text)
name_back width text e =
    let by : Bool → List ℕ = λ b. filled_or_blank width (cond b None (Some (trimmed text))) in
    elim (cases_Bool (is_blank text)) [
      | inl blank ↦ all_same_long 32 width text e blank ∙ ap by (sym blank)
      | inr other ↦ filled_again width text e ∙ ap by (sym other)
    ]

pub name_in : (text : List ℕ) → is_name_or_blank text ≡ true → IsName (name_read text)
name_in text h =
    let By : Bool → Type 0 = λ b. IsName (cond b None (Some (trimmed text))) in
    elim (or_cases (is_blank text) (is_name text) h) [
      | inl blank ↦ subst By (sym blank) tt
      | inr name ↦ subst By (sym (not_blank text name)) (name_of text name)
    ]

-- the name of a DD, which is blank where it continues one
pub record DdName (text : List ℕ) (continuing : Bool) : Type 0 where
  pub name : IsName (name_read text)
  pub absent : is_none (name_read text) ≡ continuing

by_blank : (text : List ℕ) (b : Bool) → is_blank text ≡ b → is_none (name_read text) ≡ b
by_blank text true e = ap (λ x. is_none (cond x None (Some (trimmed text)))) e
by_blank text false e = ap (λ x. is_none (cond x None (Some (trimmed text)))) e

pub dd_name : (text : List ℕ) (continuing : Bool) → cond continuing (not (is_blank text)) (not (is_name text)) ≡ false → DdName text continuing
dd_name text true h =
    let blank : is_blank text ≡ true = true_of (is_blank text) h in
    record { name = subst (λ b. IsName (cond b None (Some (trimmed text)))) (sym blank) tt; absent = by_blank text true blank }
dd_name text false h =
    let name : is_name text ≡ true = true_of (is_name text) h in
    let other = not_blank text name in
    record { name = subst (λ b. IsName (cond b None (Some (trimmed text)))) (sym other) (name_of text name); absent = by_blank text false other }
