-- The JFCB of a DD has no fault.
use Rattle.std.proofs.Common.{◌≡◌, ◌==◌, ◌-◌, ◌&&◌, ◌||◌, ◌⊎◌, arith, ℕ, Bool, true, false, not, cond, List, [], ◌∷◌, length, take, drop, None, refl, ap, ◌∙◌, inl, inr}
use Rattle.std.specs.Prelude.{nat_lt}
use Rattle.std.specs.List.{list_all}
use Rattle.std.proofs.lemmas.Bool.{and_from, and_left, and_right, eq-eqb, le-ltb, not_from_true, or_from, or_left, or_right}
use Rattle.jname_core.specs.declared.key.Key.{Key}
use Rattle.jname_core.specs.declared.key.Key.TheVariants.{Named, Relative, Temporary, Unnamed}
use Rattle.jname_core.specs.declared.key.Sign.{Sign}
use Rattle.jname_core.specs.declared.key.Sign.TheVariants.{Plus, Minus}
use Rattle.jname_core.specs.Generations.{has_generation_form}
use Rattle.jname_core.specs.Grammar.{IsDsNameWithin}
use Rattle.jcl_plan.specs.declared.plan.Expiry.{Expiry}
use Rattle.jcl_plan.specs.declared.plan.Expiry.TheVariants as expiry
use Rattle.jcl_plan.specs.declared.plan.SetPlan.{SetPlan}
use Rattle.jcl_plan.specs.declared.plan.StepPlan.{StepPlan}
use Rattle.jcl_plan.specs.declared.plan.VolumePlan.{VolumePlan}
use Rattle.jcl_plan.specs.declared.plan.VolumePlan.TheVariants as volume
use Rattle.jcl_plan.specs.Texts.{trimmed}
use Rattle.cb_meaning.specs.declared.layout.Layout.{Layout}
use Rattle.cb_meaning.specs.declared.layout.TheConstants.{LAST_DAY, MOST_DAYS}
use Rattle.cb_meaning.specs.Codes.{expiry_code, expiry_number}
use Rattle.cb_meaning.specs.Fields.{byte_at, field, filled_or_blank, number_at, number_of, part}
use Rattle.cb_meaning.specs.Spelled.{SpellsJfcb, key_code, name_bytes, name_referred, relative_bytes, serial_coded, sign_code, volume_code}
use Rattle.cb_meaning.specs.Walks.{is_blank, is_ds_name, is_earlier_set, is_name, is_no_expiry, is_relative, is_serial, jfcb_faults, lowest, set_name_bad, stems_forward}
use Rattle.cb_meaning.specs.Writable.{IsEarlierSet, IsExpiry, IsKeyAt, IsSetAt, IsVolumeAt}
use Rattle.record_laws.proofs.Blanks.{dotted_blank}
use Rattle.walk_laws.proofs.Denoted.Bytes.{byte_within, part_within, two_bytes_are}
use Rattle.walk_laws.proofs.Denoted.NoFault.{no_five, no_six, no_three, three_none}
use Rattle.walk_laws.proofs.Denoted.Texts.{blank_is, ds_name_is, name_is, serial_is, trimmed_filled}

-- the texts of the volume
serial_text : (v : VolumePlan) (all : List StepPlan) (k d : ℕ) (s r : List ℕ) → IsVolumeAt all k d v → byte_at s 28 ≡ volume_code v →
    part r 56 6 ≡ filled_or_blank 6 (serial_coded v) → cond (byte_at s 28 == 1) (not (is_serial (part r 56 6))) (not (is_blank (part r 56 6))) ≡ false
serial_text v all k d s r h e f = ap (λ b. cond b (not (is_serial (part r 56 6))) (not (is_blank (part r 56 6)))) (ap (λ n. n == 1) e) ∙ by v h f
  where
    by : (w : VolumePlan) → IsVolumeAt all k d w → part r 56 6 ≡ filled_or_blank 6 (serial_coded w) →
        cond (volume_code w == 1) (not (is_serial (part r 56 6))) (not (is_blank (part r 56 6))) ≡ false
    by volume.NotCoded h f = not_from_true (is_blank (part r 56 6)) (ap is_blank f ∙ blank_is 6)
    by (volume.Serial serial) h f = not_from_true (is_serial (part r 56 6)) (ap is_serial f ∙ serial_is 6 serial h)
    by (volume.OfName name) h f = not_from_true (is_blank (part r 56 6)) (ap is_blank f ∙ blank_is 6)
    by (volume.OfDd step dd) h f = not_from_true (is_blank (part r 56 6)) (ap is_blank f ∙ blank_is 6)

reference_text : (v : VolumePlan) (all : List StepPlan) (k d : ℕ) (s r : List ℕ) → IsVolumeAt all k d v → byte_at s 28 ≡ volume_code v →
    part r 62 44 ≡ filled_or_blank 44 (name_referred v) → cond (byte_at s 28 == 2) (not (is_ds_name 44 (part r 62 44))) (not (is_blank (part r 62 44))) ≡ false
reference_text v all k d s r h e f = ap (λ b. cond b (not (is_ds_name 44 (part r 62 44))) (not (is_blank (part r 62 44)))) (ap (λ n. n == 2) e) ∙ by v h f
  where
    by : (w : VolumePlan) → IsVolumeAt all k d w → part r 62 44 ≡ filled_or_blank 44 (name_referred w) →
        cond (volume_code w == 2) (not (is_ds_name 44 (part r 62 44))) (not (is_blank (part r 62 44))) ≡ false
    by volume.NotCoded h f = not_from_true (is_blank (part r 62 44)) (ap is_blank f ∙ blank_is 44)
    by (volume.Serial serial) h f = not_from_true (is_blank (part r 62 44)) (ap is_blank f ∙ blank_is 44)
    by (volume.OfName name) h f = not_from_true (is_ds_name 44 (part r 62 44)) (ap (is_ds_name 44) f ∙ ds_name_is 44 44 name h)
    by (volume.OfDd step dd) h f = not_from_true (is_blank (part r 62 44)) (ap is_blank f ∙ blank_is 44)

sign_ok : (s : Sign) → nat_lt 1 (sign_code s) ≡ false
sign_ok Plus = refl
sign_ok Minus = refl

-- what is asked of a set's name in its record
pub record NamesWell (steps : List (List Bool)) (k d : ℕ) (r : List ℕ) : Type 0 where
  pub text : set_name_bad r ≡ false
  pub stem : stems_forward steps k d r ≡ false
  pub some_kind : nat_lt (byte_at r 8) 1 ≡ false
  pub known : nat_lt 5 (byte_at r 8) ≡ false
  pub relative : (is_relative r && (nat_lt 1 (byte_at r 9) || nat_lt 255 (number_at r (field 10 2)))) ≡ false
  pub absolute : (not (is_relative r) && not (list_all (λ b. b == 0) (part r 9 3))) ≡ false

module _ (all : List StepPlan) (steps : List (List Bool)) (k d : ℕ)
    (look : (s e : ℕ) → IsEarlierSet all k d s e → is_earlier_set steps k d s e ≡ true) (r : List ℕ) where
  -- of a kind that is no relative name
  plainly : (code : ℕ) → byte_at r 8 ≡ code → (code == 3) ≡ false → (code == 5) ≡ false → nat_lt code 1 ≡ false → nat_lt 5 code ≡ false →
      part r 9 3 ≡ 0 ∷ 0 ∷ 0 ∷ [] → set_name_bad r ≡ false → NamesWell steps k d r
  plainly code e three five low high zeros text = record {
    text = text;
    stem = and_left (byte_at r 8 == 5) _ (ap (λ n. n == 5) e ∙ five);
    some_kind = ap (λ n. nat_lt n 1) e ∙ low;
    known = ap (λ n. nat_lt 5 n) e ∙ high;
    relative = and_left (is_relative r) _ (ap (λ n. n == 3) e ∙ three);
    absolute = and_right (not (is_relative r)) _ (not_from_true _ (ap (λ bs. list_all (λ b. b == 0) bs) zeros));
  }

  named : (name : List ℕ) → IsDsNameWithin 44 name → (g : Bool) → has_generation_form name ≡ g → byte_at r 8 ≡ cond g 2 1 → part r 9 3 ≡ 0 ∷ 0 ∷ 0 ∷ [] →
      part r 12 44 ≡ name_bytes (Named name) → NamesWell steps k d r
  named name h true g e zeros is =
      let good : is_ds_name 44 (part r 12 44) ≡ true = ap (is_ds_name 44) is ∙ ds_name_is 44 44 name h in
      let form : has_generation_form (trimmed (part r 12 44)) ≡ true =
      ap (λ t. has_generation_form (trimmed t)) is ∙ (ap has_generation_form (trimmed_filled name (44 - length name) (dotted_blank 44 name h.dotted)) ∙ g) in
      plainly 2 e refl refl refl refl zeros (no_five _ _ _ _ _ (and_left (byte_at r 8 == 1) _ (ap (λ n. n == 1) e))
      (and_right (byte_at r 8 == 2) _ (not_from_true _ (and_from _ _ good form)))
      (and_left (is_relative r) _ (ap (λ n. n == 3) e)) (and_left (byte_at r 8 == 4) _ (ap (λ n. n == 4) e))
      (and_left (byte_at r 8 == 5) _ (ap (λ n. n == 5) e)))
  named name h false g e zeros is =
      let good : is_ds_name 44 (part r 12 44) ≡ true = ap (is_ds_name 44) is ∙ ds_name_is 44 44 name h in
      let form : has_generation_form (trimmed (part r 12 44)) ≡ false =
      ap (λ t. has_generation_form (trimmed t)) is ∙ (ap has_generation_form (trimmed_filled name (44 - length name) (dotted_blank 44 name h.dotted)) ∙ g) in
      plainly 1 e refl refl refl refl zeros (no_five _ _ _ _ _ (and_right (byte_at r 8 == 1) _ (or_from _ _ (not_from_true _ good) form))
      (and_left (byte_at r 8 == 2) _ (ap (λ n. n == 2) e))
      (and_left (is_relative r) _ (ap (λ n. n == 3) e)) (and_left (byte_at r 8 == 4) _ (ap (λ n. n == 4) e))
      (and_left (byte_at r 8 == 5) _ (ap (λ n. n == 5) e)))

  -- the DD that an unnamed set stems from stands first in the name's field
  stem_dd : (step dd : ℕ) → part r 12 44 ≡ name_bytes (Unnamed step dd) → (number_at r (field 12 2) ≡ step) × (number_at r (field 14 2) ≡ dd)
  stem_dd step dd is = (
    ap number_of (part_within r 12 44 0 2 (omega arith) ∙ ap (λ bs. take 2 (drop 0 bs)) is) ∙ two_bytes_are step,
    ap number_of (part_within r 12 44 2 2 (omega arith) ∙ ap (λ bs. take 2 (drop 2 bs)) is) ∙ two_bytes_are dd,
  )

  stem_ok : (step dd : ℕ) → ((step ≡ k) × (dd ≡ d)) ⊎ IsEarlierSet all k d step dd → ((step == k && dd == d) || is_earlier_set steps k d step dd) ≡ true
  stem_ok step dd (inl own) = or_left (step == k && dd == d) _ (and_from (step == k) (dd == d) (eq-eqb step k own.0) (eq-eqb dd d own.1))
  stem_ok step dd (inr earlier) = or_right (step == k && dd == d) _ (look step dd earlier)

  names_well : (key : Key) → IsKeyAt all k d key → byte_at r 8 ≡ key_code key → part r 9 3 ≡ relative_bytes key → part r 12 44 ≡ name_bytes key →
      NamesWell steps k d r
  names_well (Named name) h e z is = named name h (has_generation_form name) refl e z is
  names_well (Temporary name) h e z is =
      plainly 4 e refl refl refl refl z (no_five _ _ _ _ _ (and_left (byte_at r 8 == 1) _ (ap (λ n. n == 1) e))
      (and_left (byte_at r 8 == 2) _ (ap (λ n. n == 2) e))
      (and_left (is_relative r) _ (ap (λ n. n == 3) e))
      (and_right (byte_at r 8 == 4) _ (not_from_true (is_name (part r 12 44)) (ap is_name is ∙ name_is 44 name h)))
      (and_left (byte_at r 8 == 5) _ (ap (λ n. n == 5) e)))
  names_well (Relative base sign amount) h e z is = record {
    text = no_five _ _ _ _ _ (and_left (byte_at r 8 == 1) _ (ap (λ n. n == 1) e)) (and_left (byte_at r 8 == 2) _ (ap (λ n. n == 2) e))
        (and_right (is_relative r) _ (not_from_true (is_ds_name 35 (part r 12 44)) (ap (is_ds_name 35) is ∙ ds_name_is 35 44 base h.0)))
        (and_left (byte_at r 8 == 4) _ (ap (λ n. n == 4) e)) (and_left (byte_at r 8 == 5) _ (ap (λ n. n == 5) e));
    stem = and_left (byte_at r 8 == 5) _ (ap (λ n. n == 5) e);
    some_kind = ap (λ n. nat_lt n 1) e;
    known = ap (λ n. nat_lt 5 n) e;
    relative =
        (let signed : byte_at r 9 ≡ sign_code sign = byte_within r 9 3 0 (omega arith) ∙ ap (λ bs. byte_at bs 0) z in
        let far : number_at r (field 10 2) ≡ amount =
        ap number_of (part_within r 9 3 1 2 (omega arith) ∙ ap (λ bs. take 2 (drop 1 bs)) z) ∙ two_bytes_are amount in
        and_right (is_relative r) _ (or_from _ _ (ap (λ n. nat_lt 1 n) signed ∙ sign_ok sign) (ap (λ n. nat_lt 255 n) far ∙ le-ltb 255 amount h.1)));
    absolute = and_left (not (is_relative r)) _ (not_from_true (is_relative r) (ap (λ n. n == 3) e));
  }
  names_well (Unnamed step dd) h e z is = record {
    text = no_five _ _ _ _ _ (and_left (byte_at r 8 == 1) _ (ap (λ n. n == 1) e)) (and_left (byte_at r 8 == 2) _ (ap (λ n. n == 2) e))
        (and_left (is_relative r) _ (ap (λ n. n == 3) e)) (and_left (byte_at r 8 == 4) _ (ap (λ n. n == 4) e))
        (and_right (byte_at r 8 == 5) _ (not_from_true (is_blank (part r 16 40))
        (ap is_blank (part_within r 12 44 4 40 (omega arith) ∙ ap (λ bs. take 40 (drop 4 bs)) is) ∙ blank_is 40)));
    stem =
        (let at = stem_dd step dd is in
        and_right (byte_at r 8 == 5) _
        (not_from_true _ ((λ i. (at.0 i == k && at.1 i == d) || is_earlier_set steps k d (at.0 i) (at.1 i)) ∙ stem_ok step dd h)));
    some_kind = ap (λ n. nat_lt n 1) e;
    known = ap (λ n. nat_lt 5 n) e;
    relative = and_left (is_relative r) _ (ap (λ n. n == 3) e);
    absolute = and_right (not (is_relative r)) _ (not_from_true _ (ap (λ bs. list_all (λ b. b == 0) bs) z));
  }

  expiry_is : (e : Expiry) → IsExpiry e → is_no_expiry (expiry_code e) (expiry_number e) ≡ false
  expiry_is expiry.NotCoded h = refl
  expiry_is (expiry.Day day) h = ap (λ b. b || false) (le-ltb LAST_DAY day h)
  expiry_is (expiry.DaysFromToday days) h = le-ltb MOST_DAYS days h

  pub jfcb_none : (l : Layout) (units : ℕ) (p : SetPlan) (s : List ℕ) → IsSetAt units all k d p → byte_at s 28 ≡ volume_code p.volume → SpellsJfcb l p r →
      lowest (jfcb_faults l steps k d s r) ≡ None
  jfcb_none l units p s h e j =
      let key = names_well p.key h.key j.kind j.relative j.name in
      three_none 6 9 12 _ _ _
      (no_three _ _ _ key.text (serial_text p.volume all k d s r h.volume e j.serial) (reference_text p.volume all k d s r h.volume e j.reference))
      key.stem
      (no_six _ _ _ _ _ _ key.some_kind key.known key.relative key.absolute
      ((λ i. is_no_expiry (j.expiry_kind i) (j.expiry_days i)) ∙ expiry_is p.expiry h.expiry_fits)
      (not_from_true _ j.unused))
