-- Tests in their fields: none is bad, and behind them stand zeros.
use Rattle.std.proofs.Common.{◌≡◌, ◌==◌, ◌+◌, ◌-◌, ◌*◌, ◌≤◌, ◌<◌, arith, ℕ, zero, suc, Bool, true, false, List, [], ◌∷◌, ◌++◌, length, take, drop, replicate, Option, Some, None, refl, ap, ◌∙◌}
use Rattle.std.specs.Prelude.{All, nat_le, nat_lt}
use Rattle.std.specs.List.{flat_map, list_all, list_any}
use Rattle.std.proofs.lemmas.Bool.{and_from, and_parts, le-ltb, lt-leb, or_from}
use Rattle.std.proofs.lemmas.List.{append_assoc, drop_at, length-append, length-take, take_at}
use Rattle.std.proofs.lemmas.List.Elements.{All-head, All-tail}
use Rattle.jcl_plan.specs.declared.outcome.TheConstants.{GREATEST_CODE}
use Rattle.jcl_plan.specs.declared.plan.Operator.{Operator}
use Rattle.jcl_plan.specs.declared.plan.Operator.TheVariants as operator
use Rattle.jcl_plan.specs.declared.plan.Test.{Test}
use Rattle.cb_meaning.specs.Codes.{job_test_bytes, operator_code, or_zero, step_test_bytes}
use Rattle.cb_meaning.specs.Fields.{then_zeros}
use Rattle.cb_meaning.specs.Walks.{are_zero, in_parts, is_bad_test, looks_forward}
use Rattle.cb_meaning.specs.Writable.{IsJobTest, IsStepTest, NamesEarlier}
use Rattle.walk_laws.proofs.Denoted.Bytes.{two_bytes_are}
use Rattle.walk_laws.proofs.Denoted.NoFault.{no_three}

-- zeros in parts
abbrev all_zero : List ℕ → Bool
all_zero bytes = list_all (λ b. b == 0) bytes

pub zero_take : (n : ℕ) (bytes : List ℕ) → all_zero bytes ≡ true → all_zero (take n bytes) ≡ true
zero_take zero bytes h = refl
zero_take (suc n) [] h = refl
zero_take (suc n) (b ∷ bytes) h =
    let parts = and_parts (b == 0) (all_zero bytes) h in and_from (b == 0) (all_zero (take n bytes)) parts.0 (zero_take n bytes parts.1)

zero_drop : (n : ℕ) (bytes : List ℕ) → all_zero bytes ≡ true → all_zero (drop n bytes) ≡ true
zero_drop zero bytes h = h
zero_drop (suc n) [] h = refl
zero_drop (suc n) (b ∷ bytes) h = zero_drop n bytes (and_parts (b == 0) (all_zero bytes) h).1

zero_parts : (n width : ℕ) (bytes : List ℕ) → all_zero bytes ≡ true → are_zero (in_parts n width bytes) ≡ true
zero_parts zero width bytes h = refl
zero_parts (suc n) width bytes h =
    and_from (all_zero (take width bytes)) (are_zero (in_parts n width (drop width bytes))) (zero_take width bytes h)
    (zero_parts n width (drop width bytes) (zero_drop width bytes h))

pub zeros_are : (n : ℕ) → all_zero (replicate n 0) ≡ true
zeros_are zero = refl
zeros_are (suc n) = zeros_are n

module _ (bytes_of : Test → List ℕ) (width : ℕ) (size : (t : Test) → length (bytes_of t) ≡ width) where
  abbrev together : List Test → List ℕ → List ℕ
  together tests behind = flat_map bytes_of tests ++ behind

  first_part : (t : Test) (tests : List Test) (behind : List ℕ) → take width (together (t ∷ tests) behind) ≡ bytes_of t
  first_part t tests behind =
      ap (take width) (append_assoc (bytes_of t) (flat_map bytes_of tests) behind) ∙ take_at (bytes_of t) (together tests behind) width (size t)

  later_parts : (t : Test) (tests : List Test) (behind : List ℕ) → drop width (together (t ∷ tests) behind) ≡ together tests behind
  later_parts t tests behind =
      ap (drop width) (append_assoc (bytes_of t) (flat_map bytes_of tests) behind) ∙ drop_at (bytes_of t) (together tests behind) width (size t)

  none_is : (Q : Test → Type 0) (p : List ℕ → Bool) → ((t : Test) → Q t → p (bytes_of t) ≡ false) → (n : ℕ) (tests : List Test) (behind : List ℕ) →
      length tests ≤ n → All Q tests → list_any p (take (length tests) (in_parts n width (together tests behind))) ≡ false
  none_is Q p each n [] behind h all = refl
  none_is Q p each zero (t ∷ tests) behind h all = absurd (omega (arith, h))
  none_is Q p each (suc n) (t ∷ tests) behind h all =
      or_from (p (take width (together (t ∷ tests) behind)))
      (list_any p (take (length tests) (in_parts n width (drop width (together (t ∷ tests) behind)))))
      (ap p (first_part t tests behind) ∙ each t (All-head Q t tests all))
      (ap (λ b. list_any p (take (length tests) (in_parts n width b))) (later_parts t tests behind)
      ∙ none_is Q p each n tests behind (omega (arith, h)) (All-tail Q t tests all))

  zeros_behind : (n : ℕ) (tests : List Test) (behind : List ℕ) → length tests ≤ n → all_zero behind ≡ true →
      are_zero (drop (length tests) (in_parts n width (together tests behind))) ≡ true
  zeros_behind n [] behind h zeros = zero_parts n width behind zeros
  zeros_behind zero (t ∷ tests) behind h zeros = absurd (omega (arith, h))
  zeros_behind (suc n) (t ∷ tests) behind h zeros =
      ap (λ b. are_zero (drop (length tests) (in_parts n width b))) (later_parts t tests behind)
      ∙ zeros_behind n tests behind (omega (arith, h)) zeros

  total : (tests : List Test) → length (flat_map bytes_of tests) ≡ length tests * width
  total [] = omega arith
  total (t ∷ tests) =
      let one = size t in let rest = total tests in let both = length-append (bytes_of t) (flat_map bytes_of tests) in
      both ∙ (ap (λ n. n + length (flat_map bytes_of tests)) one ∙ (ap (λ n. width + n) rest ∙ more width (length tests)))
    where
      more : (w n : ℕ) → w + n * w ≡ suc n * w
      more w n = omega arith

-- of a field of so many bytes there are not more
fits : (width count : ℕ) (bytes whole : List ℕ) → take count whole ≡ then_zeros count bytes → length bytes ≤ count
fits width count bytes whole e =
    let long = ap length e in
    let both = length-append bytes (replicate (count - length bytes) 0) in
    let short = length-take count whole in
    omega (arith, long, both, short)

-- the words and codes of one test
operator_ok : (o : Operator) → (nat_lt (operator_code o) 1 ≡ false) × (nat_lt 6 (operator_code o) ≡ false)
operator_ok operator.Gt = (refl, refl)
operator_ok operator.Ge = (refl, refl)
operator_ok operator.Eq = (refl, refl)
operator_ok operator.Lt = (refl, refl)
operator_ok operator.Le = (refl, refl)
operator_ok operator.Ne = (refl, refl)

code_ok : (code : ℕ) → code ≤ GREATEST_CODE → nat_lt GREATEST_CODE code ≡ false
code_ok code h = le-ltb GREATEST_CODE code h

job_test_ok : (t : Test) → IsJobTest t → is_bad_test (job_test_bytes t) ≡ false
job_test_ok t h =
    let o = operator_ok t.operator in
    no_three _ _ _ o.0 o.1 (ap (λ n. nat_lt GREATEST_CODE n) (two_bytes_are t.code) ∙ code_ok t.code h.0)

step_test_ok : (k : ℕ) (t : Test) → IsStepTest k t → is_bad_test (step_test_bytes t) ≡ false
step_test_ok k t h =
    let o = operator_ok t.operator in
    no_three _ _ _ o.0 o.1 (ap (λ n. nat_lt GREATEST_CODE n) (two_bytes_are t.code) ∙ code_ok t.code h.0)

earlier : (k : ℕ) (step : Option ℕ) → 1 ≤ k → NamesEarlier k step → or_zero step < k
earlier k None low h = low
earlier k (Some step) low h = h.1

step_test_looks : (k : ℕ) → 1 ≤ k → (t : Test) → IsStepTest k t → looks_forward k (step_test_bytes t) ≡ false
step_test_looks k low t h = ap (λ n. nat_le k n) (two_bytes_are (or_zero t.step)) ∙ lt-leb k (or_zero t.step) (earlier k t.step low h.1)

-- tests of the JOB statement
module _ (tests : List Test) (whole : List ℕ) (e : take 24 whole ≡ then_zeros 24 (flat_map job_test_bytes tests)) where
  pub few_job_tests : length tests ≤ 8
  few_job_tests = omega (arith, fits 3 24 (flat_map job_test_bytes tests) whole e, total job_test_bytes 3 (λ t. refl) tests)

  pub good_job_tests : All IsJobTest tests → list_any is_bad_test (take (length tests) (in_parts 8 3 (take 24 whole))) ≡ false
  good_job_tests h =
      ap (λ b. list_any is_bad_test (take (length tests) (in_parts 8 3 b))) e
      ∙ none_is job_test_bytes 3 (λ t. refl) IsJobTest is_bad_test job_test_ok 8 tests (replicate (24 - length (flat_map job_test_bytes tests)) 0)
      few_job_tests h

  pub behind_job_tests : are_zero (drop (length tests) (in_parts 8 3 (take 24 whole))) ≡ true
  behind_job_tests =
      ap (λ b. are_zero (drop (length tests) (in_parts 8 3 b))) e
      ∙ zeros_behind job_test_bytes 3 (λ t. refl) 8 tests (replicate (24 - length (flat_map job_test_bytes tests)) 0) few_job_tests
      (zeros_are (24 - length (flat_map job_test_bytes tests)))

-- tests of a step
module _ (k : ℕ) (low : 1 ≤ k) (tests : List Test) (whole : List ℕ) (e : take 40 whole ≡ then_zeros 40 (flat_map step_test_bytes tests)) where
  pub few_step_tests : length tests ≤ 8
  few_step_tests = omega (arith, fits 5 40 (flat_map step_test_bytes tests) whole e, total step_test_bytes 5 (λ t. refl) tests)

  none_of : (p : List ℕ → Bool) → ((t : Test) → IsStepTest k t → p (step_test_bytes t) ≡ false) → All (IsStepTest k) tests →
      list_any p (take (length tests) (in_parts 8 5 (take 40 whole))) ≡ false
  none_of p each h =
      ap (λ b. list_any p (take (length tests) (in_parts 8 5 b))) e
      ∙ none_is step_test_bytes 5 (λ t. refl) (IsStepTest k) p each 8 tests (replicate (40 - length (flat_map step_test_bytes tests)) 0) few_step_tests h

  pub good_step_tests : All (IsStepTest k) tests → list_any is_bad_test (take (length tests) (in_parts 8 5 (take 40 whole))) ≡ false
  good_step_tests h = none_of is_bad_test (step_test_ok k) h

  pub looking_back : All (IsStepTest k) tests → list_any (looks_forward k) (take (length tests) (in_parts 8 5 (take 40 whole))) ≡ false
  looking_back h = none_of (looks_forward k) (step_test_looks k low) h

  pub behind_step_tests : are_zero (drop (length tests) (in_parts 8 5 (take 40 whole))) ≡ true
  behind_step_tests =
      ap (λ b. are_zero (drop (length tests) (in_parts 8 5 b))) e
      ∙ zeros_behind step_test_bytes 5 (λ t. refl) 8 tests (replicate (40 - length (flat_map step_test_bytes tests)) 0) few_step_tests
      (zeros_are (40 - length (flat_map step_test_bytes tests)))
