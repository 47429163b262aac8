-- The SIOT of a DD that is for a set has no fault.
use Rattle.std.proofs.Common.{◌≡◌, ◌==◌, ◌+◌, ◌&&◌, ◌||◌, arith, ℕ, Bool, true, false, not, List, ◌++◌, take, drop, Option, Some, None, refl, ap, ◌∙◌}
use Rattle.std.specs.Prelude.{is_none, is_some, nat_lt}
use Rattle.std.specs.List.{list_all}
use Rattle.std.proofs.lemmas.Bool.{and_from, and_left, and_right, le-ltb, not_from_true, or_from}
use Rattle.jcl_plan.specs.declared.plan.ConditionalWord.{ConditionalWord}
use Rattle.jcl_plan.specs.declared.plan.ConditionalWord.TheVariants as conditional
use Rattle.jcl_plan.specs.declared.plan.DdKind.TheVariants.{Set}
use Rattle.jcl_plan.specs.declared.plan.SetPlan.{SetPlan}
use Rattle.jcl_plan.specs.declared.plan.Space.{Space}
use Rattle.jcl_plan.specs.declared.plan.Status.{Status}
use Rattle.jcl_plan.specs.declared.plan.Status.TheVariants as status
use Rattle.jcl_plan.specs.declared.plan.StepPlan.{StepPlan}
use Rattle.jcl_plan.specs.declared.plan.VolumePlan.{VolumePlan}
use Rattle.jcl_plan.specs.declared.plan.VolumePlan.TheVariants as volume
use Rattle.jcl_plan.specs.declared.plan.Word.{Word}
use Rattle.jcl_plan.specs.declared.plan.Word.TheVariants as word
use Rattle.cb_meaning.specs.declared.layout.Layout.{Layout}
use Rattle.cb_meaning.specs.Codes.{conditional_code, mark, normal_code, or_zero, status_code}
use Rattle.cb_meaning.specs.Fields.{byte_at, field, is_zero_but, number_at, number_of, part, two_bytes}
use Rattle.cb_meaning.specs.Spelled.{SpellsSiot, of_space, volume_code, volume_dd_bytes}
use Rattle.cb_meaning.specs.Walks.{has_space, is_earlier_set, is_known_kind, is_set, is_sysout, lowest, releases, set_numbers_bad, set_words_bad, siot_faults, siot_fields_used}
use Rattle.cb_meaning.specs.Writable.{IsEarlierSet, IsName, IsSetAt, IsSpace, IsUnits, IsVolumeAt, most_tracks}
use Rattle.walk_laws.proofs.Denoted.Bytes.{part_within, two_bytes_are}
use Rattle.walk_laws.proofs.Denoted.Marks.{continues_is, has_space_is, marks, no_other, released, releases_is, space_marks}
use Rattle.walk_laws.proofs.Denoted.NoFault.{four_none, no_five, no_six, no_three}
use Rattle.walk_laws.proofs.Denoted.OtherDds.{dd_name, kind_is, known_is, not_first}
use Rattle.walk_laws.proofs.Denoted.Unused.{Covered, by_byte, by_number, by_parts, by_use, by_zeros, used_by, zero_but_these, zero_but_used}

-- words by their numbers
status_ok : (s : Status) → (nat_lt (status_code s) 1 ≡ false) × (nat_lt 4 (status_code s) ≡ false)
status_ok status.New = (refl, refl)
status_ok status.Old = (refl, refl)
status_ok status.Shr = (refl, refl)
status_ok status.Mod = (refl, refl)

normal_ok : (w : Option Word) → nat_lt 5 (normal_code w) ≡ false
normal_ok None = refl
normal_ok (Some word.Delete) = refl
normal_ok (Some word.Keep) = refl
normal_ok (Some word.Pass) = refl
normal_ok (Some word.Catlg) = refl
normal_ok (Some word.Uncatlg) = refl

conditional_ok : (w : Option ConditionalWord) → (nat_lt 5 (conditional_code w) ≡ false) × ((conditional_code w == 3) ≡ false)
conditional_ok None = (refl, refl)
conditional_ok (Some conditional.Delete) = (refl, refl)
conditional_ok (Some conditional.Keep) = (refl, refl)
conditional_ok (Some conditional.Catlg) = (refl, refl)
conditional_ok (Some conditional.Uncatlg) = (refl, refl)

volume_ok : (v : VolumePlan) → nat_lt 3 (volume_code v) ≡ false
volume_ok volume.NotCoded = refl
volume_ok (volume.Serial serial) = refl
volume_ok (volume.OfName name) = refl
volume_ok (volume.OfDd step dd) = refl

-- space, and units
pub record FitsSpace (r : List ℕ) : Type 0 where
  pub primary : nat_lt most_tracks (number_at r (field 34 2)) ≡ false
  pub secondary : nat_lt most_tracks (number_at r (field 36 2)) ≡ false
  pub coded : (not (has_space r) && (releases r || nat_lt 0 (number_at r (field 34 2)) || nat_lt 0 (number_at r (field 36 2)))) ≡ false

fits_space : (r : List ℕ) (space : Option Space) → IsSpace space → has_space r ≡ is_some space → releases r ≡ released space →
    number_at r (field 34 2) ≡ of_space space (λ s. s.primary) → number_at r (field 36 2) ≡ of_space space (λ s. s.secondary) → FitsSpace r
fits_space r None h a b p s = record {
  primary = ap (λ n. nat_lt most_tracks n) p;
  secondary = ap (λ n. nat_lt most_tracks n) s;
  coded = and_right (not (has_space r)) _ (no_three _ _ _ b (ap (λ n. nat_lt 0 n) p) (ap (λ n. nat_lt 0 n) s));
}
fits_space r (Some z) h a b p s = record {
  primary = ap (λ n. nat_lt most_tracks n) p ∙ le-ltb most_tracks z.primary h.0;
  secondary = ap (λ n. nat_lt most_tracks n) s ∙ le-ltb most_tracks z.secondary h.1;
  coded = and_left (not (has_space r)) _ (not_from_true (has_space r) a);
}

units_ok : (units : ℕ) (asked : Option ℕ) → IsUnits units asked → nat_lt units (or_zero asked) ≡ false
units_ok units None h = le-ltb units 0 (omega arith)
units_ok units (Some n) h = le-ltb units n h.1

module _ (l : Layout) (units : ℕ) (all : List StepPlan) (steps : List (List Bool)) (k d : ℕ)
    (look : (s e : ℕ) → IsEarlierSet all k d s e → is_earlier_set steps k d s e ≡ true) (name : Option (List ℕ)) (p : SetPlan) (r : List ℕ)
    (s : SpellsSiot l (record { name = name; kind = Set p }) r) where
  a_set : is_set r ≡ true
  a_set = kind_is r 1 s.kind 1

  marks_are : byte_at r 24 ≡ marks (is_none name) (is_some p.space) (released p.space)
  marks_are = s.marks ∙ ap (λ n. mark (is_none name) 1 + (mark (is_some p.space) 4 + n)) (space_marks p.space)

  words_are : set_words_bad r ≡ false
  words_are =
      let one = status_ok p.status in
      let other = conditional_ok p.conditional in
      no_five _ _ _ _ _ (ap (λ n. nat_lt n 1) s.status ∙ one.0) (ap (λ n. nat_lt 4 n) s.status ∙ one.1) (ap (λ n. nat_lt 5 n) s.normal ∙ normal_ok p.normal)
      (ap (λ n. nat_lt 5 n) s.conditional ∙ other.0) (ap (λ n. n == 3) s.conditional ∙ other.1)

  numbers_are : IsSpace p.space → IsUnits units p.units → set_numbers_bad units r ≡ false
  numbers_are h g =
      let space = fits_space r p.space h (has_space_is r (is_none name) (is_some p.space) (released p.space) marks_are)
      (releases_is r (is_none name) (is_some p.space) (released p.space) marks_are) s.primary s.secondary in
      no_five _ _ _ _ _ space.primary space.secondary space.coded (ap (λ n. nat_lt units n) s.units ∙ units_ok units p.units g)
      (ap (λ n. nat_lt 3 n) s.volume ∙ volume_ok p.volume)

  -- a reference to a DD stands in its field
  referred_dd : (step dd : ℕ) → part r 30 4 ≡ two_bytes step ++ two_bytes dd → (number_at r (field 30 2) ≡ step) × (number_at r (field 32 2) ≡ dd)
  referred_dd step dd e = (
    ap number_of (part_within r 30 4 0 2 (omega arith) ∙ ap (λ bs. take 2 (drop 0 bs)) e) ∙ two_bytes_are step,
    ap number_of (part_within r 30 4 2 2 (omega arith) ∙ ap (λ bs. take 2 (drop 2 bs)) e) ∙ two_bytes_are dd,
  )

  looks : (v : VolumePlan) → IsVolumeAt all k d v → byte_at r 28 ≡ volume_code v → part r 30 4 ≡ volume_dd_bytes v →
      (is_set r && byte_at r 28 == 3 && not (is_earlier_set steps k d (number_at r (field 30 2)) (number_at r (field 32 2)))) ≡ false
  looks volume.NotCoded h e f = and_left (is_set r && byte_at r 28 == 3) _ (and_right (is_set r) (byte_at r 28 == 3) (ap (λ n. n == 3) e))
  looks (volume.Serial serial) h e f = and_left (is_set r && byte_at r 28 == 3) _ (and_right (is_set r) (byte_at r 28 == 3) (ap (λ n. n == 3) e))
  looks (volume.OfName set) h e f = and_left (is_set r && byte_at r 28 == 3) _ (and_right (is_set r) (byte_at r 28 == 3) (ap (λ n. n == 3) e))
  looks (volume.OfDd step dd) h e f =
      let is = referred_dd step dd f in
      and_right (is_set r && byte_at r 28 == 3) _ (not_from_true _ ((λ i. is_earlier_set steps k d (is.0 i) (is.1 i)) ∙ look step dd h))

  -- what it does not use is zero
  zero_left : (referred : Bool) → (is_set r && byte_at r 28 == 3) ≡ referred → Covered (used_by l true referred false false) r (field 30 4) →
      is_zero_but (siot_fields_used l r) r ≡ true
  zero_left referred e c =
      zero_but_used l r true referred false false a_set e (kind_is r 1 s.kind 3) (kind_is r 1 s.kind 4)
      (zero_but_these l r true referred false false (by_use (used_by l true referred false false) r 7 l.below refl)
      (by_use (used_by l true referred false false) r 8 (field 13 3) refl) (by_byte (used_by l true referred false false) r 25 s.class)
      (by_number (used_by l true referred false false) r l.cards s.cards) (by_use (used_by l true referred false false) r 9 (field 28 1) refl)
      (by_parts (used_by l true referred false false) r 30 4 6 c (by_use (used_by l true referred false false) r 10 (field 34 6) refl)) s.unused)

  unreferred : (byte_at r 28 == 3) ≡ false → list_all (λ b. b == 0) (part r 30 4) ≡ true → is_zero_but (siot_fields_used l r) r ≡ true
  unreferred e zeros =
      zero_left false (and_right (is_set r) (byte_at r 28 == 3) e) (by_zeros (used_by l true false false false) r (field 30 4) zeros)

  zero_by : (v : VolumePlan) → byte_at r 28 ≡ volume_code v → part r 30 4 ≡ volume_dd_bytes v → is_zero_but (siot_fields_used l r) r ≡ true
  zero_by volume.NotCoded e f = unreferred (ap (λ n. n == 3) e) (ap (λ bs. list_all (λ b. b == 0) bs) f)
  zero_by (volume.Serial serial) e f = unreferred (ap (λ n. n == 3) e) (ap (λ bs. list_all (λ b. b == 0) bs) f)
  zero_by (volume.OfName set) e f = unreferred (ap (λ n. n == 3) e) (ap (λ bs. list_all (λ b. b == 0) bs) f)
  zero_by (volume.OfDd step dd) e f =
      zero_left true (and_from (is_set r) (byte_at r 28 == 3) a_set (ap (λ n. n == 3) e)) (by_use (used_by l true true false false) r 11 (field 30 4) refl)

  pub set_none : IsName name → (name ≡ None → (d == 1) ≡ false) → IsSetAt units all k d p → lowest (siot_faults l units steps k d r) ≡ None
  set_none named first h =
      let goes_on = continues_is r (is_none name) (is_some p.space) (released p.space) marks_are in
      let known = known_is r 1 s.kind refl in
      four_none 6 7 9 12 _ _ _ _ (dd_name name r named s.name goes_on)
      (or_from (not (is_known_kind r)) _ (not_from_true (is_known_kind r) known) (and_right (is_set r) _ words_are))
      (looks p.volume h.volume s.volume s.volume_dd)
      (no_six _ _ _ _ _ _ (no_other r (is_none name) (is_some p.space) (released p.space) marks_are) (not_first name r d first goes_on)
      (and_right (is_set r) _ (numbers_are h.space h.unit))
      (and_left (is_sysout r) _ (kind_is r 1 s.kind 3))
      (and_left (is_known_kind r && not (is_set r)) _ (and_right (is_known_kind r) (not (is_set r)) (not_from_true (is_set r) a_set)))
      (and_right (is_known_kind r) _ (not_from_true (is_zero_but (siot_fields_used l r) r) (zero_by p.volume s.volume s.volume_dd))))
