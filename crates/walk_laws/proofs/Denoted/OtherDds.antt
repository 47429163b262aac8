-- The SIOT of a DD that is for no set has no fault.
use Rattle.std.proofs.Common.{◌≡◌, ◌==◌, ◌+◌, ◌&&◌, ℕ, Bool, true, false, not, cond, List, Option, Some, None, refl, ap, ◌∙◌}
use Rattle.std.specs.Prelude.{is_none, is_some, nat_le}
use Rattle.std.specs.List.{list_all}
use Rattle.std.proofs.lemmas.Bool.{and_left, and_right, not_from_true, or_from}
use Rattle.jname_core.specs.Characters.{is_letter_or_digit}
use Rattle.jcl_plan.specs.declared.plan.DdKind.{DdKind}
use Rattle.jcl_plan.specs.declared.plan.DdKind.TheVariants.{Cards, Dummy, Sysout}
use Rattle.jcl_plan.specs.declared.plan.SetPlan.{SetPlan}
use Rattle.cb_meaning.specs.declared.layout.Field.{Field}
use Rattle.cb_meaning.specs.declared.layout.Layout.{Layout}
use Rattle.cb_meaning.specs.Codes.{conditional_code, mark, normal_code, or_zero, status_code}
use Rattle.cb_meaning.specs.Fields.{byte_at, field, filled_or_blank, is_zero_but, number_at, part}
use Rattle.cb_meaning.specs.Spelled.{SpellsSiot, of_set, of_space, set_of, volume_code, volume_dd_of}
use Rattle.cb_meaning.specs.Walks.{continues, is_blank, is_known_kind, is_name, is_set, is_sysout, lowest, siot_faults, siot_fields_used}
use Rattle.cb_meaning.specs.Writable.{IsName}
use Rattle.walk_laws.proofs.Denoted.Marks.{continues_is, has_space_is, marks, no_other, releases_is}
use Rattle.walk_laws.proofs.Denoted.NoFault.{four_none, no_six}
use Rattle.walk_laws.proofs.Denoted.Texts.{blank_is, name_is}
use Rattle.walk_laws.proofs.Denoted.Unused.{Covered, by_byte, by_number, by_parts, by_use, by_zeros, used_by, zero_but_these, zero_but_used}

-- its name, where it has one
pub dd_name : (name : Option (List ℕ)) (r : List ℕ) → IsName name → part r 16 8 ≡ filled_or_blank 8 name → continues r ≡ is_none name →
    cond (continues r) (not (is_blank (part r 16 8))) (not (is_name (part r 16 8))) ≡ false
dd_name None r h is e =
    ap (λ b. cond b (not (is_blank (part r 16 8))) (not (is_name (part r 16 8)))) e ∙ not_from_true (is_blank (part r 16 8)) (ap is_blank is ∙ blank_is 8)
dd_name (Some name) r h is e =
    ap (λ b. cond b (not (is_blank (part r 16 8))) (not (is_name (part r 16 8)))) e ∙ not_from_true (is_name (part r 16 8)) (ap is_name is ∙ name_is 8 name h)

-- only one behind the first may continue
pub not_first : (name : Option (List ℕ)) (r : List ℕ) (d : ℕ) → (name ≡ None → (d == 1) ≡ false) → continues r ≡ is_none name → (continues r && d == 1) ≡ false
not_first None r d h e = and_right (continues r) (d == 1) (h refl)
not_first (Some name) r d h e = and_left (continues r) (d == 1) e

module _ (l : Layout) (name : Option (List ℕ)) (kind : DdKind) (r : List ℕ) (s : SpellsSiot l (record { name = name; kind = kind }) r)
    (none : set_of kind ≡ None) where
  marks_are : byte_at r 24 ≡ marks (is_none name) false false
  marks_are =
      s.marks ∙ ap (λ (o : Option SetPlan). mark (is_none name) 1 + of_set o (λ p. mark (is_some p.space) 4 + of_space p.space (λ z. mark z.release 2))) none

  module _ (units : ℕ) (steps : List (List Bool)) (k d : ℕ) (named : IsName name) (first : name ≡ None → (d == 1) ≡ false) (not_set : is_set r ≡ false)
      (known : is_known_kind r ≡ true) (class : (is_sysout r && not (is_letter_or_digit (byte_at r 25))) ≡ false)
      (zero : is_zero_but (siot_fields_used l r) r ≡ true) where
    no_fault : lowest (siot_faults l units steps k d r) ≡ None
    no_fault =
        let goes_on = continues_is r (is_none name) false false marks_are in
        four_none 6 7 9 12 _ _ _ _ (dd_name name r named s.name goes_on)
        (or_from (not (is_known_kind r)) _ (not_from_true (is_known_kind r) known) (and_left (is_set r) _ not_set))
        (and_left (is_set r && byte_at r 28 == 3) _ (and_left (is_set r) (byte_at r 28 == 3) not_set))
        (no_six _ _ _ _ _ _ (no_other r (is_none name) false false marks_are) (not_first name r d first goes_on) (and_left (is_set r) _ not_set) class
        (and_right (is_known_kind r && not (is_set r)) _
        (or_from _ _ (has_space_is r (is_none name) false false marks_are) (releases_is r (is_none name) false false marks_are)))
        (and_right (is_known_kind r) _ (not_from_true (is_zero_but (siot_fields_used l r) r) zero)))

  -- what a set alone uses is zero
  module _ (used : List Field) where
    words_zero : Covered used r (field 13 3)
    words_zero =
        by_parts used r 13 1 2 (by_byte used r 13 (s.status ∙ ap (λ (o : Option SetPlan). of_set o (λ p. status_code p.status)) none))
        (by_parts used r 14 1 1 (by_byte used r 14 (s.normal ∙ ap (λ (o : Option SetPlan). of_set o (λ p. normal_code p.normal)) none))
        (by_byte used r 15 (s.conditional ∙ ap (λ (o : Option SetPlan). of_set o (λ p. conditional_code p.conditional)) none)))

    volume_zero : Covered used r (field 28 1)
    volume_zero = by_byte used r 28 (s.volume ∙ ap (λ (o : Option SetPlan). of_set o (λ p. volume_code p.volume)) none)

    numbers_zero : Covered used r (field 30 10)
    numbers_zero =
        by_parts used r 30 4 6 (by_zeros used r (field 30 4) (ap (λ bs. list_all (λ b. b == 0) bs) (s.volume_dd ∙ ap volume_dd_of none)))
        (by_parts used r 34 2 4
        (by_number used r (field 34 2) (s.primary ∙ ap (λ (o : Option SetPlan). of_set o (λ p. of_space p.space (λ z. z.primary))) none))
        (by_parts used r 36 2 2
        (by_number used r (field 36 2) (s.secondary ∙ ap (λ (o : Option SetPlan). of_set o (λ p. of_space p.space (λ z. z.secondary))) none))
        (by_number used r (field 38 2) (s.units ∙ ap (λ (o : Option SetPlan). of_set o (λ p. or_zero p.units)) none))))

pub kind_is : (r : List ℕ) (code : ℕ) → byte_at r 12 ≡ code → (m : ℕ) → (byte_at r 12 == m) ≡ (code == m)
kind_is r code e m = ap (λ n. n == m) e

pub known_is : (r : List ℕ) (code : ℕ) → byte_at r 12 ≡ code → (nat_le 1 code && nat_le code 4) ≡ true → is_known_kind r ≡ true
known_is r code e h = ap (λ n. nat_le 1 n && nat_le n 4) e ∙ h

module _ (l : Layout) (units : ℕ) (steps : List (List Bool)) (k d : ℕ) (name : Option (List ℕ)) (r : List ℕ) (named : IsName name)
    (first : name ≡ None → (d == 1) ≡ false) where
  pub dummy_none : SpellsSiot l (record { name = name; kind = Dummy }) r → number_at r l.below ≡ 0 → lowest (siot_faults l units steps k d r) ≡ None
  dummy_none s below =
      let used : List Field = used_by l false false false false in
      let left : is_zero_but used r ≡ true =
      zero_but_these l r false false false false (by_number used r l.below below) (words_zero l name Dummy r s refl used) (by_byte used r 25 s.class)
      (by_number used r l.cards s.cards) (volume_zero l name Dummy r s refl used) (numbers_zero l name Dummy r s refl used) s.unused in
      let rest = zero_but_used l r false false false false (kind_is r 2 s.kind 1) (and_left (is_set r) (byte_at r 28 == 3) (kind_is r 2 s.kind 1))
      (kind_is r 2 s.kind 3) (kind_is r 2 s.kind 4) left in
      no_fault l name Dummy r s refl units steps k d named first (kind_is r 2 s.kind 1) (known_is r 2 s.kind refl)
      (and_left (is_sysout r) _ (kind_is r 2 s.kind 3)) rest

  pub sysout_none : (class : ℕ) → is_letter_or_digit class ≡ true → SpellsSiot l (record { name = name; kind = Sysout class }) r → number_at r l.below ≡ 0 →
      lowest (siot_faults l units steps k d r) ≡ None
  sysout_none class good s below =
      let used : List Field = used_by l false false true false in
      let left : is_zero_but used r ≡ true =
      zero_but_these l r false false true false (by_number used r l.below below) (words_zero l name (Sysout class) r s refl used)
      (by_use used r 7 (field 25 1) refl)
      (by_number used r l.cards s.cards) (volume_zero l name (Sysout class) r s refl used) (numbers_zero l name (Sysout class) r s refl used) s.unused in
      let rest = zero_but_used l r false false true false (kind_is r 3 s.kind 1) (and_left (is_set r) (byte_at r 28 == 3) (kind_is r 3 s.kind 1))
      (kind_is r 3 s.kind 3) (kind_is r 3 s.kind 4) left in
      no_fault l name (Sysout class) r s refl units steps k d named first (kind_is r 3 s.kind 1) (known_is r 3 s.kind refl)
      (and_right (is_sysout r) _ (not_from_true (is_letter_or_digit (byte_at r 25)) (ap is_letter_or_digit s.class ∙ good))) rest

  pub cards_dd_none : (cards : List (List ℕ)) → SpellsSiot l (record { name = name; kind = Cards cards }) r → lowest (siot_faults l units steps k d r) ≡ None
  cards_dd_none cards s =
      let used : List Field = used_by l false false false true in
      let left : is_zero_but used r ≡ true =
      zero_but_these l r false false false true (by_use used r 7 l.below refl) (words_zero l name (Cards cards) r s refl used) (by_byte used r 25 s.class)
      (by_use used r 8 l.cards refl) (volume_zero l name (Cards cards) r s refl used) (numbers_zero l name (Cards cards) r s refl used) s.unused in
      let rest = zero_but_used l r false false false true (kind_is r 4 s.kind 1) (and_left (is_set r) (byte_at r 28 == 3) (kind_is r 4 s.kind 1))
      (kind_is r 4 s.kind 3) (kind_is r 4 s.kind 4) left in
      no_fault l name (Cards cards) r s refl units steps k d named first (kind_is r 4 s.kind 1) (known_is r 4 s.kind refl)
      (and_left (is_sysout r) _ (kind_is r 4 s.kind 3)) rest
