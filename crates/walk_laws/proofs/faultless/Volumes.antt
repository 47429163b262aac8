-- The volume of a set, in its SIOT and its JFCB.
use Rattle.std.proofs.Common.{◌≡◌, ℕ, ◌≤◌, ◌==◌, Bool, false, not, cond, List, [], ◌∷◌, ◌++◌, length, replicate, refl, sym, ap, ◌∙◌, subst, arith, inl, inr}
use Rattle.std.specs.Prelude.{if◌then◌else◌}
use Rattle.jcl_plan.specs.Texts.{trimmed}
use Rattle.jcl_plan.specs.declared.plan.StepPlan.{StepPlan}
use Rattle.jcl_plan.specs.declared.plan.VolumePlan.{VolumePlan}
use Rattle.jcl_plan.specs.declared.plan.VolumePlan.TheVariants as volume
use Rattle.cb_meaning.specs.declared.layout.Layout.{Layout}
use Rattle.cb_meaning.specs.Fields.{byte_at, field, filled_or_blank, number_at, part}
use Rattle.cb_meaning.specs.Readings.{volume_read}
use Rattle.cb_meaning.specs.Spelled.{name_referred, serial_coded, volume_code, volume_dd_bytes}
use Rattle.cb_meaning.specs.Walks.{is_blank, is_ds_name, is_serial}
use Rattle.cb_meaning.specs.Writable.{IsEarlierSet, IsVolumeAt}
use Rattle.walk_laws.specs.WalkLaws.{IsRecord}
use Rattle.walk_laws.proofs.faultless.Names.{ds_name_of, serial_of}
use Rattle.walk_laws.proofs.faultless.Parts.{all_same_long, filled_again, in_two, part_long, short_back}
use Rattle.walk_laws.proofs.faultless.Sets.{JfcbFine, four}
use Rattle.walk_laws.proofs.faultless.Told.{true_of}

pub record IsVolumeOf (all : List StepPlan) (k d : ℕ) (s r : List ℕ) (v : VolumePlan) : Type 0 where
  pub code : byte_at s 28 ≡ volume_code v
  pub dd : part s 30 4 ≡ volume_dd_bytes v
  pub serial : part r 56 6 ≡ filled_or_blank 6 (serial_coded v)
  pub reference : part r 62 44 ≡ filled_or_blank 44 (name_referred v)
  pub fits : IsVolumeAt all k d v

abbrev volume_by : List ℕ → List ℕ → ℕ → VolumePlan
volume_by s r n =
    if n == 1 then volume.Serial (trimmed (part r 56 6))
    else (if n == 2 then volume.OfName (trimmed (part r 62 44))
    else (if n == 3 then volume.OfDd (number_at s (field 30 2)) (number_at s (field 32 2))
    else volume.NotCoded))

-- what a SIOT says of the volume
pub record VolumeFine (all : List StepPlan) (k d : ℕ) (s : List ℕ) : Type 0 where
  pub high : byte_at s 28 ≤ 3
  pub none : (byte_at s 28 == 3) ≡ false → part s 30 4 ≡ 0 ∷ 0 ∷ 0 ∷ 0 ∷ []
  pub earlier : byte_at s 28 ≡ 3 → IsEarlierSet all k d (number_at s (field 30 2)) (number_at s (field 32 2))

module _ (l : Layout) (marks : List (List Bool)) (all : List StepPlan) (k d : ℕ) (s r : List ℕ) (siot : IsRecord s) (is : IsRecord r)
    (fine : JfcbFine l marks k d s r) (dd : VolumeFine all k d s) where
  long : length r ≡ 176
  long = is.size

  serial_long : length (part r 56 6) ≡ 6
  serial_long = part_long r 56 6 (omega (arith, long))

  name_long : length (part r 62 44) ≡ 44
  name_long = part_long r 62 44 (omega (arith, long))

  no_serial : (n : ℕ) → byte_at s 28 ≡ n → (n == 1) ≡ false → part r 56 6 ≡ replicate 6 32
  no_serial n e other =
      let blank : not (is_blank (part r 56 6)) ≡ false =
      ap (λ b. cond b (not (is_serial (part r 56 6))) (not (is_blank (part r 56 6)))) (sym (ap (λ x. x == 1) e ∙ other)) ∙ fine.serial in
      all_same_long 32 6 (part r 56 6) serial_long (true_of (is_blank (part r 56 6)) blank)

  no_name : (n : ℕ) → byte_at s 28 ≡ n → (n == 2) ≡ false → part r 62 44 ≡ replicate 44 32
  no_name n e other =
      let blank : not (is_blank (part r 62 44)) ≡ false =
      ap (λ b. cond b (not (is_ds_name 44 (part r 62 44))) (not (is_blank (part r 62 44)))) (sym (ap (λ x. x == 2) e ∙ other)) ∙ fine.reference in
      all_same_long 32 44 (part r 62 44) name_long (true_of (is_blank (part r 62 44)) blank)

  no_dd : (n : ℕ) → byte_at s 28 ≡ n → (n == 3) ≡ false → part s 30 4 ≡ 0 ∷ 0 ∷ 0 ∷ 0 ∷ []
  no_dd n e other = dd.none (ap (λ x. x == 3) e ∙ other)

  not_coded : byte_at s 28 ≡ 0 → IsVolumeOf all k d s r volume.NotCoded
  not_coded e = record { code = e; dd = no_dd 0 e refl; serial = no_serial 0 e refl; reference = no_name 0 e refl; fits = tt }

  by_serial : byte_at s 28 ≡ 1 → IsVolumeOf all k d s r (volume.Serial (trimmed (part r 56 6)))
  by_serial e =
      let kept : not (is_serial (part r 56 6)) ≡ false =
      ap (λ n. cond (n == 1) (not (is_serial (part r 56 6))) (not (is_blank (part r 56 6)))) (sym e) ∙ fine.serial in
      record {
        code = e;
        dd = no_dd 1 e refl;
        serial = filled_again 6 (part r 56 6) serial_long;
        reference = no_name 1 e refl;
        fits = serial_of (part r 56 6) (true_of (is_serial (part r 56 6)) kept);
      }

  by_name : byte_at s 28 ≡ 2 → IsVolumeOf all k d s r (volume.OfName (trimmed (part r 62 44)))
  by_name e =
      let kept : not (is_ds_name 44 (part r 62 44)) ≡ false =
      ap (λ n. cond (n == 2) (not (is_ds_name 44 (part r 62 44))) (not (is_blank (part r 62 44)))) (sym e) ∙ fine.reference in
      record {
        code = e;
        dd = no_dd 2 e refl;
        serial = no_serial 2 e refl;
        reference = filled_again 44 (part r 62 44) name_long;
        fits = ds_name_of 44 (part r 62 44) (true_of (is_ds_name 44 (part r 62 44)) kept);
      }

  by_dd : byte_at s 28 ≡ 3 → IsVolumeOf all k d s r (volume.OfDd (number_at s (field 30 2)) (number_at s (field 32 2)))
  by_dd e =
      let size : length s ≡ 176 = siot.size in
      let step = short_back s 30 (omega (arith, size)) siot.bytes in
      let own = short_back s 32 (omega (arith, size)) siot.bytes in
      record {
        code = e;
        dd = in_two s 30 2 2 ∙ (λ i. sym step i ++ sym own i);
        serial = no_serial 3 e refl;
        reference = no_name 3 e refl;
        fits = dd.earlier e;
      }

  pub volume_of : IsVolumeOf all k d s r (volume_read s r)
  volume_of =
      let By : ℕ → Type 0 = λ n. IsVolumeOf all k d s r (volume_by s r n) in
      elim (four (byte_at s 28) dd.high) [
        | inl none ↦ subst By (sym none) (not_coded none)
        | inr (inl serial) ↦ subst By (sym serial) (by_serial serial)
        | inr (inr (inl name)) ↦ subst By (sym name) (by_name name)
        | inr (inr (inr other)) ↦ subst By (sym other) (by_dd other)
      ]
