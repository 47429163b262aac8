-- An SIOT without a fault.
use Rattle.std.proofs.Common.{◌≡◌, ℕ, ◌≤◌, ◌==◌, Bool, true, false, not, cond, ◌&&◌, ◌||◌, List, None, ap, ◌∙◌, eq-eqb}
use Rattle.std.specs.Prelude.{nat_le, nat_lt}
use Rattle.std.proofs.lemmas.Bool.{and_parts, leb-true, ltb-false, or_parts}
use Rattle.jname_core.specs.Characters.{is_letter_or_digit}
use Rattle.cb_meaning.specs.declared.layout.Layout.{Layout}
use Rattle.cb_meaning.specs.Fields.{byte_at, field, is_zero_but, number_at, part}
use Rattle.cb_meaning.specs.Walks.{continues, has_space, is_blank, is_earlier_set, is_known_kind, is_name, is_set, is_sysout, lowest, releases, set_numbers_bad, set_words_bad, siot_faults, siot_fields_used}
use Rattle.cb_meaning.specs.Writable.{most_tracks}
use Rattle.walk_laws.proofs.faultless.Names.{DdName, dd_name}
use Rattle.walk_laws.proofs.faultless.Told.{second_false, told_four, true_of}

pub record SetWords (r : List ℕ) : Type 0 where
  pub status_low : 1 ≤ byte_at r 13
  pub status_high : byte_at r 13 ≤ 4
  pub normal : byte_at r 14 ≤ 5
  pub conditional : byte_at r 15 ≤ 5
  pub not_passed : (byte_at r 15 == 3) ≡ false

pub record SetNumbers (units : ℕ) (r : List ℕ) : Type 0 where
  pub primary : number_at r (field 34 2) ≤ most_tracks
  pub secondary : number_at r (field 36 2) ≤ most_tracks
  pub without : (not (has_space r) && (releases r || nat_lt 0 (number_at r (field 34 2)) || nat_lt 0 (number_at r (field 36 2)))) ≡ false
  pub listed : number_at r (field 38 2) ≤ units
  pub volume : byte_at r 28 ≤ 3

pub record SiotFine (l : Layout) (units : ℕ) (marks : List (List Bool)) (k d : ℕ) (r : List ℕ) : Type 0 where
  pub name : DdName (part r 16 8) (continues r)
  pub low : 1 ≤ byte_at r 12
  pub high : byte_at r 12 ≤ 4
  pub words : byte_at r 12 ≡ 1 → SetWords r
  pub earlier : byte_at r 12 ≡ 1 → byte_at r 28 ≡ 3 → is_earlier_set marks k d (number_at r (field 30 2)) (number_at r (field 32 2)) ≡ true
  pub few_marks : byte_at r 24 ≤ 7
  pub begins : (continues r && d == 1) ≡ false
  pub numbers : byte_at r 12 ≡ 1 → SetNumbers units r
  pub class : byte_at r 12 ≡ 3 → is_letter_or_digit (byte_at r 25) ≡ true
  pub without : (byte_at r 12 == 1) ≡ false → (has_space r ≡ false) × (releases r ≡ false)
  pub unused : is_zero_but (siot_fields_used l r) r ≡ true

set_words : (r : List ℕ) → set_words_bad r ≡ false → SetWords r
set_words r h =
    let passed = or_parts _ _ h in
    let conditional = or_parts _ _ passed.0 in
    let normal = or_parts _ _ conditional.0 in
    let status = or_parts _ _ normal.0 in
    record {
      status_low = ltb-false (byte_at r 13) 1 status.0;
      status_high = ltb-false 4 (byte_at r 13) status.1;
      normal = ltb-false 5 (byte_at r 14) normal.1;
      conditional = ltb-false 5 (byte_at r 15) conditional.1;
      not_passed = passed.1;
    }

set_numbers : (units : ℕ) (r : List ℕ) → set_numbers_bad units r ≡ false → SetNumbers units r
set_numbers units r h =
    let volume = or_parts _ _ h in
    let number = or_parts _ _ volume.0 in
    let without = or_parts _ _ number.0 in
    let tracks = or_parts _ _ without.0 in
    record {
      primary = ltb-false most_tracks (number_at r (field 34 2)) tracks.0;
      secondary = ltb-false most_tracks (number_at r (field 36 2)) tracks.1;
      without = without.1;
      listed = ltb-false units (number_at r (field 38 2)) number.1;
      volume = ltb-false 3 (byte_at r 28) volume.1;
    }

both_true : (x y : Bool) → x ≡ true → y ≡ true → (x && y) ≡ true
both_true x y e f = ap (λ b. b && y) e ∙ f

pub siot_fine : (l : Layout) (units : ℕ) (marks : List (List Bool)) (k d : ℕ) (r : List ℕ) → lowest (siot_faults l units marks k d r) ≡ None →
    SiotFine l units marks k d r
siot_fine l units marks k d r h =
    let name = cond (continues r) (not (is_blank (part r 16 8))) (not (is_name (part r 16 8))) in
    let known = is_known_kind r in
    let kind = not known || (is_set r && set_words_bad r) in
    let earlier = is_earlier_set marks k d (number_at r (field 30 2)) (number_at r (field 32 2)) in
    let volume = is_set r && byte_at r 28 == 3 && not earlier in
    let begins = continues r && d == 1 in
    let numbers = is_set r && set_numbers_bad units r in
    let class = is_sysout r && not (is_letter_or_digit (byte_at r 25)) in
    let without = known && not (is_set r) && (has_space r || releases r) in
    let used = is_zero_but (siot_fields_used l r) r in
    let told = told_four 6 7 9 12 name kind volume (nat_lt 7 (byte_at r 24) || begins || numbers || class || without || (known && not used)) h in
    let kinds = or_parts (not known) (is_set r && set_words_bad r) told.1 in
    let is_known : known ≡ true = true_of known kinds.0 in
    let bounds = and_parts (nat_le 1 (byte_at r 12)) (nat_le (byte_at r 12) 4) is_known in
    let a = or_parts (nat_lt 7 (byte_at r 24) || begins || numbers || class || without) (known && not used) told.3 in
    let b = or_parts (nat_lt 7 (byte_at r 24) || begins || numbers || class) without a.0 in
    let c = or_parts (nat_lt 7 (byte_at r 24) || begins || numbers) class b.0 in
    let e = or_parts (nat_lt 7 (byte_at r 24) || begins) numbers c.0 in
    let f = or_parts (nat_lt 7 (byte_at r 24)) begins e.0 in
    record {
      name = dd_name (part r 16 8) (continues r) told.0;
      low = leb-true 1 (byte_at r 12) bounds.0;
      high = leb-true (byte_at r 12) 4 bounds.1;
      words = λ is. set_words r (second_false (is_set r) (set_words_bad r) (eq-eqb (byte_at r 12) 1 is) kinds.1);
      earlier = λ is is_dd. true_of earlier (second_false (is_set r && byte_at r 28 == 3) (not earlier)
          (both_true (is_set r) (byte_at r 28 == 3) (eq-eqb (byte_at r 12) 1 is) (eq-eqb (byte_at r 28) 3 is_dd)) told.2);
      few_marks = ltb-false 7 (byte_at r 24) f.0;
      begins = f.1;
      numbers = λ is. set_numbers units r (second_false (is_set r) (set_numbers_bad units r) (eq-eqb (byte_at r 12) 1 is) e.1);
      class = λ is. true_of (is_letter_or_digit (byte_at r 25))
          (second_false (is_sysout r) (not (is_letter_or_digit (byte_at r 25))) (eq-eqb (byte_at r 12) 3 is) c.1);
      without = λ other. or_parts (has_space r) (releases r)
          (second_false (known && not (is_set r)) (has_space r || releases r) (both_true known (not (is_set r)) is_known (ap not other)) b.1);
      unused = true_of used (second_false known (not used) is_known a.1);
    }
