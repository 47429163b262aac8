-- A JCT and an SCT without a fault spell what is read of them.
use Rattle.std.proofs.Common.{◌≡◌, ℕ, ◌+◌, ◌≤◌, ◌==◌, true, false, not, ◌||◌, List, length, take, drop, None, refl, sym, arith, eqb-true}
use Rattle.std.specs.Prelude.{nat_lt}
use Rattle.std.specs.List.{list_any}
use Rattle.std.proofs.lemmas.Bool.{ltb-false, or_parts}
use Rattle.jname_core.specs.Characters.{is_job_class, is_letter_or_digit}
use Rattle.cb_meaning.specs.declared.layout.Layout.{Layout}
use Rattle.cb_meaning.specs.Codes.{job_test_bytes, step_test_bytes}
use Rattle.cb_meaning.specs.Fields.{byte_at, is_zero_but, number_at, part}
use Rattle.cb_meaning.specs.Readings.{dds_read, job_test_read, plan_read, step_read, step_test_read, steps_read}
use Rattle.cb_meaning.specs.Spelled.{Records, SpellsJct, SpellsSct, jct_fields, sct_fields}
use Rattle.cb_meaning.specs.Walks.{are_zero, is_bad_test, is_name, is_name_or_blank, jct_faults, jct_tests, looks_forward, lowest, sct_faults, sct_tests}
use Rattle.walk_laws.specs.WalkLaws.{IsRecord}
use Rattle.walk_laws.proofs.faultless.Codes.{after_back}
use Rattle.walk_laws.proofs.faultless.Names.{name_back}
use Rattle.walk_laws.proofs.faultless.Parts.{filled_again, part_bytes, part_long}
use Rattle.walk_laws.proofs.faultless.Tests.{count_back, job_test_back, step_test_back, tests_back}
use Rattle.walk_laws.proofs.faultless.Told.{told_four, true_of}

-- JCT
pub record JctFine (l : Layout) (r : List ℕ) : Type 0 where
  pub name : is_name (part r 16 8) ≡ true
  pub few : byte_at r 24 ≤ 8
  pub tests : list_any is_bad_test (take (byte_at r 24) (jct_tests r)) ≡ false
  pub layout : byte_at r 8 ≡ l.number
  pub class : is_job_class (byte_at r 9) ≡ true
  pub priority : byte_at r 10 ≤ 13
  pub message_class : is_letter_or_digit (byte_at r 11) ≡ true
  pub behind : are_zero (drop (byte_at r 24) (jct_tests r)) ≡ true
  pub unused : is_zero_but (jct_fields l) r ≡ true

pub jct_fine : (l : Layout) (r : List ℕ) → lowest (jct_faults l r) ≡ None → JctFine l r
jct_fine l r h =
    let names = not (is_name (part r 16 8)) in
    let codes = nat_lt 8 (byte_at r 24) || list_any is_bad_test (take (byte_at r 24) (jct_tests r)) in
    let others =
    not (is_job_class (byte_at r 9)) || nat_lt 13 (byte_at r 10) || not (is_letter_or_digit (byte_at r 11))
    || not (are_zero (drop (byte_at r 24) (jct_tests r))) || not (is_zero_but (jct_fields l) r) in
    let told = told_four 6 8 11 12 names codes (not (byte_at r 8 == l.number)) others h in
    let tests = or_parts _ _ told.1 in
    let unused = or_parts _ _ told.3 in
    let behind = or_parts _ _ unused.0 in
    let message = or_parts _ _ behind.0 in
    let class = or_parts _ _ message.0 in
    record {
      name = true_of _ told.0;
      few = ltb-false 8 (byte_at r 24) tests.0;
      tests = tests.1;
      layout = eqb-true (byte_at r 8) l.number (true_of _ told.2);
      class = true_of _ class.0;
      priority = ltb-false 13 (byte_at r 10) class.1;
      message_class = true_of _ message.1;
      behind = true_of _ behind.1;
      unused = true_of _ unused.1;
    }

pub jct_spelled : (l : Layout) (q : Records) (n : ℕ) → IsRecord (q.at n) → JctFine l (q.at n) →
    number_at (q.at n) l.steps ≡ length (steps_read l q (l.most_records + 1) (number_at (q.at n) l.first_step)) → SpellsJct l (plan_read l q n) (q.at n)
jct_spelled l q n is fine count =
    let r = q.at n in
    let size : length r ≡ 176 = is.size in
    record {
      layout = fine.layout;
      class = refl;
      priority = refl;
      message_class = refl;
      steps = count;
      name = filled_again 8 (part r 16 8) (part_long r 16 8 (omega (arith, size)));
      count = sym (count_back job_test_read 8 (byte_at r 24) 3 (part r 26 24) fine.few);
      tests = tests_back job_test_bytes job_test_read is_bad_test 3 job_test_back 8 (byte_at r 24) 24 (part r 26 24) refl
          (part_long r 26 24 (omega (arith, size))) (part_bytes r 26 24 is.bytes) fine.tests fine.behind;
      unused = fine.unused;
    }

-- SCT
pub record SctFine (l : Layout) (k : ℕ) (r : List ℕ) : Type 0 where
  pub name : is_name_or_blank (part r 16 8) ≡ true
  pub procedure_step : is_name_or_blank (part r 24 8) ≡ true
  pub program : is_name (part r 32 8) ≡ true
  pub few : byte_at r 15 ≤ 8
  pub tests : list_any is_bad_test (take (byte_at r 15) (sct_tests r)) ≡ false
  pub earlier : list_any (looks_forward k) (take (byte_at r 15) (sct_tests r)) ≡ false
  pub after_abend : byte_at r 14 ≤ 2
  pub behind : are_zero (drop (byte_at r 15) (sct_tests r)) ≡ true
  pub unused : is_zero_but (sct_fields l) r ≡ true

pub sct_fine : (l : Layout) (k : ℕ) (r : List ℕ) → lowest (sct_faults l k r) ≡ None → SctFine l k r
sct_fine l k r h =
    let badly = not (is_name_or_blank (part r 16 8)) || not (is_name_or_blank (part r 24 8)) || not (is_name (part r 32 8)) in
    let codes = nat_lt 8 (byte_at r 15) || list_any is_bad_test (take (byte_at r 15) (sct_tests r)) in
    let forward = list_any (looks_forward k) (take (byte_at r 15) (sct_tests r)) in
    let others = nat_lt 2 (byte_at r 14) || not (are_zero (drop (byte_at r 15) (sct_tests r))) || not (is_zero_but (sct_fields l) r) in
    let told = told_four 6 8 9 12 badly codes forward others h in
    let names = or_parts _ _ told.0 in
    let steps = or_parts _ _ names.0 in
    let tests = or_parts _ _ told.1 in
    let unused = or_parts _ _ told.3 in
    let behind = or_parts _ _ unused.0 in
    record {
      name = true_of _ steps.0;
      procedure_step = true_of _ steps.1;
      program = true_of _ names.1;
      few = ltb-false 8 (byte_at r 15) tests.0;
      tests = tests.1;
      earlier = told.2;
      after_abend = ltb-false 2 (byte_at r 14) behind.0;
      behind = true_of _ behind.1;
      unused = true_of _ unused.1;
    }

pub sct_spelled : (l : Layout) (q : Records) (k : ℕ) (r : List ℕ) → IsRecord r → SctFine l k r →
    number_at r l.dds ≡ length (dds_read l q (l.most_records + 1) (number_at r l.first_dd)) → SpellsSct l (step_read l q r) r
sct_spelled l q k r is fine count =
    let size : length r ≡ 176 = is.size in
    record {
      dds = count;
      after_abend = sym (after_back (byte_at r 14) fine.after_abend);
      count = sym (count_back step_test_read 8 (byte_at r 15) 5 (part r 40 40) fine.few);
      name = name_back 8 (part r 16 8) (part_long r 16 8 (omega (arith, size)));
      procedure_step = name_back 8 (part r 24 8) (part_long r 24 8 (omega (arith, size)));
      program = filled_again 8 (part r 32 8) (part_long r 32 8 (omega (arith, size)));
      tests = tests_back step_test_bytes step_test_read is_bad_test 5 step_test_back 8 (byte_at r 15) 40 (part r 40 40) refl
          (part_long r 40 40 (omega (arith, size))) (part_bytes r 40 40 is.bytes) fine.tests fine.behind;
      unused = fine.unused;
    }
