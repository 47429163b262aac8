-- The name and the volume of a set, in its JFCB and its SIOT.
use Rattle.std.proofs.Common.{◌≡◌, ℕ, zero, suc, ◌≤◌, ◌==◌, Bool, true, false, not, cond, ◌&&◌, ◌||◌, List, [], ◌∷◌, ◌++◌, length, replicate, None, refl, sym, ap, ◌∙◌, subst, arith, inl, inr, eqb-true, eq-eqb}
use Rattle.std.specs.Prelude.{nat_lt, ◌⊎◌, if◌then◌else◌}
use Rattle.std.specs.List.{list_all}
use Rattle.std.proofs.lemmas.Bool.{and_parts, ltb-false, or_cases, or_parts}
use Rattle.jname_core.specs.declared.key.Key.{Key}
use Rattle.jname_core.specs.declared.key.Key.TheVariants.{Named, Relative, Temporary, Unnamed}
use Rattle.jname_core.specs.Generations.{has_generation_form}
use Rattle.jcl_plan.specs.Texts.{trimmed}
use Rattle.jcl_plan.specs.declared.plan.StepPlan.{StepPlan}
use Rattle.cb_meaning.specs.declared.layout.Layout.{Layout}
use Rattle.cb_meaning.specs.Fields.{byte_at, field, filled, is_zero_but, number_at, part, two_bytes}
use Rattle.cb_meaning.specs.Readings.{key_read, sign_read}
use Rattle.cb_meaning.specs.Spelled.{jfcb_fields, key_code, name_bytes, relative_bytes}
use Rattle.cb_meaning.specs.Walks.{is_blank, is_ds_name, is_earlier_set, is_name, is_no_expiry, is_relative, is_serial, jfcb_faults, lowest, set_name_bad, stems_forward}
use Rattle.cb_meaning.specs.Writable.{IsKeyAt}
use Rattle.walk_laws.specs.WalkLaws.{IsRecord}
use Rattle.walk_laws.proofs.faultless.Codes.{sign_back}
use Rattle.walk_laws.proofs.faultless.Earlier.{Agrees, earlier}
use Rattle.walk_laws.proofs.faultless.Names.{ds_name_of, name_of}
use Rattle.walk_laws.proofs.faultless.Parts.{all_same_long, filled_again, in_two, of_one, part_long, short_back}
use Rattle.walk_laws.proofs.faultless.Told.{second_false, told_three, true_of}

-- one of five, and one of four from zero
pub five : (n : ℕ) → 1 ≤ n → n ≤ 5 → (n ≡ 1) ⊎ ((n ≡ 2) ⊎ ((n ≡ 3) ⊎ ((n ≡ 4) ⊎ (n ≡ 5))))
five zero h g = absurd (omega (arith, h))
five (suc zero) h g = inl refl
five (suc (suc zero)) h g = inr (inl refl)
five (suc (suc (suc zero))) h g = inr (inr (inl refl))
five (suc (suc (suc (suc zero)))) h g = inr (inr (inr (inl refl)))
five (suc (suc (suc (suc (suc zero))))) h g = inr (inr (inr (inr refl)))
five (suc (suc (suc (suc (suc (suc n)))))) h g = absurd (omega (arith, g))

pub four : (n : ℕ) → n ≤ 3 → (n ≡ 0) ⊎ ((n ≡ 1) ⊎ ((n ≡ 2) ⊎ (n ≡ 3)))
four zero g = inl refl
four (suc zero) g = inr (inl refl)
four (suc (suc zero)) g = inr (inr (inl refl))
four (suc (suc (suc zero))) g = inr (inr (inr refl))
four (suc (suc (suc (suc n)))) g = absurd (omega (arith, g))

-- JFCB
pub record JfcbFine (l : Layout) (steps : List (List Bool)) (k d : ℕ) (s r : List ℕ) : Type 0 where
  pub name : set_name_bad r ≡ false
  pub serial : cond (byte_at s 28 == 1) (not (is_serial (part r 56 6))) (not (is_blank (part r 56 6))) ≡ false
  pub reference : cond (byte_at s 28 == 2) (not (is_ds_name 44 (part r 62 44))) (not (is_blank (part r 62 44))) ≡ false
  pub back : stems_forward steps k d r ≡ false
  pub low : 1 ≤ byte_at r 8
  pub high : byte_at r 8 ≤ 5
  pub relative : (is_relative r && (nat_lt 1 (byte_at r 9) || nat_lt 255 (number_at r (field 10 2)))) ≡ false
  pub other : (not (is_relative r) && not (list_all (λ b. b == 0) (part r 9 3))) ≡ false
  pub expiry : is_no_expiry (number_at r l.expiry_kind) (number_at r l.expiry_days) ≡ false
  pub unused : is_zero_but (jfcb_fields l) r ≡ true

pub jfcb_fine : (l : Layout) (steps : List (List Bool)) (k d : ℕ) (s r : List ℕ) → lowest (jfcb_faults l steps k d s r) ≡ None → JfcbFine l steps k d s r
jfcb_fine l steps k d s r h =
    let serial = cond (byte_at s 28 == 1) (not (is_serial (part r 56 6))) (not (is_blank (part r 56 6))) in
    let reference = cond (byte_at s 28 == 2) (not (is_ds_name 44 (part r 62 44))) (not (is_blank (part r 62 44))) in
    let relative = is_relative r && (nat_lt 1 (byte_at r 9) || nat_lt 255 (number_at r (field 10 2))) in
    let other = not (is_relative r) && not (list_all (λ b. b == 0) (part r 9 3)) in
    let bounds = nat_lt (byte_at r 8) 1 || nat_lt 5 (byte_at r 8) in
    let expiry = is_no_expiry (number_at r l.expiry_kind) (number_at r l.expiry_days) in
    let unused = not (is_zero_but (jfcb_fields l) r) in
    let told = told_three 6 9 12 (set_name_bad r || serial || reference) (stems_forward steps k d r) (bounds || relative || other || expiry || unused) h in
    let names = or_parts (set_name_bad r || serial) reference told.0 in
    let first = or_parts (set_name_bad r) serial names.0 in
    let last = or_parts (bounds || relative || other || expiry) unused told.2 in
    let days = or_parts (bounds || relative || other) expiry last.0 in
    let middle = or_parts (bounds || relative) other days.0 in
    let numbers = or_parts bounds relative middle.0 in
    let both = or_parts (nat_lt (byte_at r 8) 1) (nat_lt 5 (byte_at r 8)) numbers.0 in
    record {
      name = first.0;
      serial = first.1;
      reference = names.1;
      back = told.1;
      low = ltb-false (byte_at r 8) 1 both.0;
      high = ltb-false 5 (byte_at r 8) both.1;
      relative = numbers.1;
      other = middle.1;
      expiry = days.1;
      unused = true_of (is_zero_but (jfcb_fields l) r) last.1;
    }

-- the name of the set, by its kind
pub record IsKeyOf (all : List StepPlan) (k d : ℕ) (r : List ℕ) (key : Key) : Type 0 where
  pub kind : byte_at r 8 ≡ key_code key
  pub relative : part r 9 3 ≡ relative_bytes key
  pub name : part r 12 44 ≡ name_bytes key
  pub fits : IsKeyAt all k d key

abbrev key_by : List ℕ → ℕ → Key
key_by r n =
    if n == 3 then Relative (trimmed (part r 12 44)) (sign_read (byte_at r 9)) (number_at r (field 10 2))
    else (if n == 4 then Temporary (trimmed (part r 12 44))
    else (if n == 5 then Unnamed (number_at r (field 12 2)) (number_at r (field 14 2))
    else Named (trimmed (part r 12 44))))

record NameFine (r : List ℕ) : Type 0 where
  one : (byte_at r 8 == 1 && (not (is_ds_name 44 (part r 12 44)) || has_generation_form (trimmed (part r 12 44)))) ≡ false
  two : (byte_at r 8 == 2 && not (is_ds_name 44 (part r 12 44) && has_generation_form (trimmed (part r 12 44)))) ≡ false
  three : (byte_at r 8 == 3 && not (is_ds_name 35 (part r 12 44))) ≡ false
  four : (byte_at r 8 == 4 && not (is_name (part r 12 44))) ≡ false
  five : (byte_at r 8 == 5 && not (is_blank (part r 16 40))) ≡ false

name_fine : (r : List ℕ) → set_name_bad r ≡ false → NameFine r
name_fine r h =
    let last = or_parts _ _ h in
    let fourth = or_parts _ _ last.0 in
    let third = or_parts _ _ fourth.0 in
    let second = or_parts _ _ third.0 in
    record { one = second.0; two = second.1; three = third.1; four = fourth.1; five = last.1 }

module _ (l : Layout) (marks : List (List Bool)) (all : List StepPlan) (agrees : Agrees marks all) (k d : ℕ) (s r : List ℕ) (is : IsRecord r)
    (fine : JfcbFine l marks k d s r) where
  long : length r ≡ 176
  long = is.size

  not_relative : (n : ℕ) → byte_at r 8 ≡ n → (n == 3) ≡ false → part r 9 3 ≡ 0 ∷ 0 ∷ 0 ∷ []
  not_relative n e other =
      let no : is_relative r ≡ false = ap (λ b. b == 3) e ∙ other in
      let zeros = second_false (not (is_relative r)) (not (list_all (λ b. b == 0) (part r 9 3))) (ap not no) fine.other in
      all_same_long 0 3 (part r 9 3) (part_long r 9 3 (omega (arith, long))) (true_of _ zeros)

  text : part r 12 44 ≡ filled 44 (trimmed (part r 12 44))
  text = filled_again 44 (part r 12 44) (part_long r 12 44 (omega (arith, long)))

  key_one : byte_at r 8 ≡ 1 → IsKeyOf all k d r (Named (trimmed (part r 12 44)))
  key_one e =
      let parts = or_parts _ _ (second_false (byte_at r 8 == 1) _ (eq-eqb (byte_at r 8) 1 e) (name_fine r fine.name).one) in
      record {
        kind = e ∙ ap (λ b. cond b 2 1) (sym parts.1);
        relative = not_relative 1 e refl;
        name = text;
        fits = ds_name_of 44 (part r 12 44) (true_of _ parts.0);
      }

  key_two : byte_at r 8 ≡ 2 → IsKeyOf all k d r (Named (trimmed (part r 12 44)))
  key_two e =
      let both = true_of _ (second_false (byte_at r 8 == 2) _ (eq-eqb (byte_at r 8) 2 e) (name_fine r fine.name).two) in
      let parts = and_parts _ _ both in
      record {
        kind = e ∙ ap (λ b. cond b 2 1) (sym parts.1);
        relative = not_relative 2 e refl;
        name = text;
        fits = ds_name_of 44 (part r 12 44) parts.0;
      }

  key_three : byte_at r 8 ≡ 3 → IsKeyOf all k d r (Relative (trimmed (part r 12 44)) (sign_read (byte_at r 9)) (number_at r (field 10 2)))
  key_three e =
      let name : is_ds_name 35 (part r 12 44) ≡ true = true_of _ (second_false (byte_at r 8 == 3) _ (eq-eqb (byte_at r 8) 3 e) (name_fine r fine.name).three) in
      let numbers = or_parts _ _ (second_false (is_relative r) _ (eq-eqb (byte_at r 8) 3 e) fine.relative) in
      let sign = sign_back (byte_at r 9) (ltb-false 1 (byte_at r 9) numbers.0) in
      let amount = short_back r 10 (omega (arith, long)) is.bytes in
      record {
        kind = e;
        relative = in_two r 9 1 2 ∙ ((λ i. of_one r 9 (omega (arith, long)) i ++ sym amount i) ∙ ap (λ c. c ∷ two_bytes (number_at r (field 10 2))) (sym sign));
        name = text;
        fits = (ds_name_of 35 (part r 12 44) name, ltb-false 255 (number_at r (field 10 2)) numbers.1);
      }

  key_four : byte_at r 8 ≡ 4 → IsKeyOf all k d r (Temporary (trimmed (part r 12 44)))
  key_four e =
      let name = true_of _ (second_false (byte_at r 8 == 4) _ (eq-eqb (byte_at r 8) 4 e) (name_fine r fine.name).four) in
      record { kind = e; relative = not_relative 4 e refl; name = text; fits = name_of (part r 12 44) name }

  stems : byte_at r 8 ≡ 5 → IsKeyAt all k d (Unnamed (number_at r (field 12 2)) (number_at r (field 14 2)))
  stems e =
      let step = number_at r (field 12 2) in
      let dd = number_at r (field 14 2) in
      let known = true_of _ (second_false (byte_at r 8 == 5) _ (eq-eqb (byte_at r 8) 5 e) fine.back) in
      elim (or_cases (step == k && dd == d) (is_earlier_set marks k d step dd) known) [
        | inl own ↦ (let parts = and_parts (step == k) (dd == d) own in inl (eqb-true step k parts.0, eqb-true dd d parts.1))
        | inr other ↦ inr (earlier marks all k d step dd agrees other)
      ]

  key_five : byte_at r 8 ≡ 5 → IsKeyOf all k d r (Unnamed (number_at r (field 12 2)) (number_at r (field 14 2)))
  key_five e =
      let blank : is_blank (part r 16 40) ≡ true = true_of _ (second_false (byte_at r 8 == 5) _ (eq-eqb (byte_at r 8) 5 e) (name_fine r fine.name).five) in
      let step = short_back r 12 (omega (arith, long)) is.bytes in
      let dd = short_back r 14 (omega (arith, long)) is.bytes in
      let blanks = all_same_long 32 40 (part r 16 40) (part_long r 16 40 (omega (arith, long))) blank in
      record {
        kind = e;
        relative = not_relative 5 e refl;
        name = in_two r 12 4 40 ∙ ((λ i. in_two r 12 2 2 i ++ blanks i) ∙ (λ i. (sym step i ++ sym dd i) ++ replicate 40 32));
        fits = stems e;
      }

  pub key_of : IsKeyOf all k d r (key_read r)
  key_of =
      let By : ℕ → Type 0 = λ n. IsKeyOf all k d r (key_by r n) in
      elim (five (byte_at r 8) fine.low fine.high) [
        | inl one ↦ subst By (sym one) (key_one one)
        | inr (inl two) ↦ subst By (sym two) (key_two two)
        | inr (inr (inl three)) ↦ subst By (sym three) (key_three three)
        | inr (inr (inr (inl fourth))) ↦ subst By (sym fourth) (key_four fourth)
        | inr (inr (inr (inr fifth))) ↦ subst By (sym fifth) (key_five fifth)
      ]
