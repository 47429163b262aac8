-- Tests of return codes that stand one behind the other are what is read of them.
use Rattle.std.proofs.Common.{◌≡◌, ℕ, zero, suc, ◌+◌, ◌-◌, ◌≤◌, ◌==◌, Bool, true, false, ◌||◌, List, [], ◌∷◌, ◌++◌, map, length, take, drop, replicate, refl, sym, ap, ◌∙◌, subst, arith}
use Rattle.std.specs.Prelude.{All, nat_le, nat_lt}
use Rattle.std.specs.List.{flat_map, list_all, list_any}
use Rattle.std.proofs.lemmas.Bool.{and_parts, leb-false, ltb-false, or_parts}
use Rattle.std.proofs.lemmas.List.{append_assoc, length-append, length-drop, length-map, length-replicate, length-take-le, nil_from_length, replicate-append-replicate, take-append-drop}
use Rattle.std.proofs.lemmas.List.Elements.{All-cons, All-nil}
use Rattle.jcl_plan.specs.declared.outcome.TheConstants.{GREATEST_CODE}
use Rattle.cb_meaning.specs.Codes.{job_test_bytes, or_zero, step_test_bytes}
use Rattle.cb_meaning.specs.Fields.{byte_at, number_of, part, then_zeros, two_bytes}
use Rattle.cb_meaning.specs.Readings.{job_test_read, number_read, step_test_read}
use Rattle.cb_meaning.specs.Walks.{are_zero, in_parts, is_bad_test, looks_forward}
use Rattle.cb_meaning.specs.Writable.{IsJobTest, IsStepTest, NamesEarlier}
use Rattle.walk_laws.proofs.faultless.Codes.{number_back, number_some, operator_back}
use Rattle.walk_laws.proofs.faultless.Parts.{IsByte, all_drop, all_same, all_take, pair_back, part_bytes}

-- so many times a width
abbrev pub in_all : ℕ → ℕ → ℕ
in_all zero width = 0
in_all (suc n) width = width + in_all n width

abbrev pub ReadsBack : {X : Type 0} → (X → List ℕ) → (List ℕ → X) → (List ℕ → Bool) → ℕ → Type 0
ReadsBack f read bad width = (t : List ℕ) → length t ≡ width → All IsByte t → bad t ≡ false → f (read t) ≡ t

abbrev BehindZeros : List ℕ → List ℕ → Type 0
BehindZeros bytes front = (m : ℕ) × (bytes ≡ front ++ replicate m 0)

none_there : (n width : ℕ) (bytes : List ℕ) → length bytes ≡ in_all n width → are_zero (in_parts n width bytes) ≡ true → BehindZeros bytes []
none_there zero width bytes e h = (0, nil_from_length bytes e)
none_there (suc n) width bytes e h =
    let parts = and_parts (list_all (λ b. b == 0) (take width bytes)) (are_zero (in_parts n width (drop width bytes))) h in
    let front = all_same 0 (take width bytes) parts.0 in
    let left : length (drop width bytes) ≡ in_all n width = length-drop width bytes ∙ omega (arith, e) in
    let rest = none_there n width (drop width bytes) left parts.1 in
    let size = length (take width bytes) in (
      size + rest.0,
      sym (take-append-drop width bytes) ∙ ((λ i. front i ++ rest.1 i) ∙ replicate-append-replicate {A = ℕ} size rest.0 0),
    )

module _ {X : Type 0} (f : X → List ℕ) (read : List ℕ → X) (bad : List ℕ → Bool) (width : ℕ) (back : ReadsBack f read bad width) where
  all_back : (n c : ℕ) (bytes : List ℕ) → length bytes ≡ in_all n width → All IsByte bytes →
      list_any bad (take c (in_parts n width bytes)) ≡ false → are_zero (drop c (in_parts n width bytes)) ≡ true →
      BehindZeros bytes (flat_map f (map read (take c (in_parts n width bytes))))
  all_back zero zero bytes e good fine zeros = (0, nil_from_length bytes e)
  all_back zero (suc c) bytes e good fine zeros = (0, nil_from_length bytes e)
  all_back (suc n) zero bytes e good fine zeros = none_there (suc n) width bytes e zeros
  all_back (suc n) (suc c) bytes e good fine zeros =
      let one = take width bytes in
      let others = in_parts n width (drop width bytes) in
      let parts = or_parts (bad one) (list_any bad (take c others)) fine in
      let size : length one ≡ width = length-take-le width bytes (omega (arith, e)) in
      let left : length (drop width bytes) ≡ in_all n width = length-drop width bytes ∙ omega (arith, e) in
      let first : f (read one) ≡ one = back one size (all_take IsByte width bytes good) parts.0 in
      let rest = all_back n c (drop width bytes) left (all_drop IsByte width bytes good) parts.1 zeros in
      let behind = flat_map f (map read (take c others)) in (
        rest.0,
        sym (take-append-drop width bytes) ∙ ((λ i. sym first i ++ rest.1 i) ∙ sym (append_assoc (f (read one)) behind (replicate rest.0 0))),
      )

  pub tests_back : (n c total : ℕ) (bytes : List ℕ) → in_all n width ≡ total → length bytes ≡ total → All IsByte bytes →
      list_any bad (take c (in_parts n width bytes)) ≡ false → are_zero (drop c (in_parts n width bytes)) ≡ true →
      bytes ≡ then_zeros total (flat_map f (map read (take c (in_parts n width bytes))))
  tests_back n c total bytes is e good fine zeros =
      let rest = all_back n c bytes (e ∙ sym is) good fine zeros in
      let front = flat_map f (map read (take c (in_parts n width bytes))) in
      let size = ap length rest.1 ∙ length-append front (replicate rest.0 0) in
      let behind = length-replicate {A = ℕ} rest.0 0 in
      let left : rest.0 ≡ total - length front = omega (arith, e, size, behind) in
      rest.1 ∙ ap (λ k. front ++ replicate k 0) left

length_parts : (n width : ℕ) (bytes : List ℕ) → length (in_parts n width bytes) ≡ n
length_parts zero width bytes = refl
length_parts (suc n) width bytes = ap suc (length_parts n width (drop width bytes))

pub count_back : {X : Type 0} (read : List ℕ → X) (n c width : ℕ) (bytes : List ℕ) → c ≤ n →
    length (map read (take c (in_parts n width bytes))) ≡ c
count_back read n c width bytes h =
    length-map (take c (in_parts n width bytes)) read ∙ length-take-le c (in_parts n width bytes) (omega (arith, h, length_parts n width bytes))

-- a test
record IsGood (t : List ℕ) : Type 0 where
  low : 1 ≤ byte_at t 0
  high : byte_at t 0 ≤ 6
  code : number_of (part t 1 2) ≤ GREATEST_CODE

good : (t : List ℕ) → is_bad_test t ≡ false → IsGood t
good t h =
    let parts = or_parts (nat_lt (byte_at t 0) 1 || nat_lt 6 (byte_at t 0)) (nat_lt GREATEST_CODE (number_of (part t 1 2))) h in
    let bounds = or_parts (nat_lt (byte_at t 0) 1) (nat_lt 6 (byte_at t 0)) parts.0 in
    record {
      low = ltb-false (byte_at t 0) 1 bounds.0;
      high = ltb-false 6 (byte_at t 0) bounds.1;
      code = ltb-false GREATEST_CODE (number_of (part t 1 2)) parts.1;
    }

pub job_test_back : ReadsBack job_test_bytes job_test_read is_bad_test 3
job_test_back (a ∷ b ∷ c ∷ []) e bytes h =
    let is = good (a ∷ b ∷ c ∷ []) h in
    let code : two_bytes (number_of (b ∷ c ∷ [])) ≡ b ∷ c ∷ [] = pair_back (b ∷ c ∷ []) refl (part_bytes (a ∷ b ∷ c ∷ []) 1 2 bytes) in
    λ i. operator_back a is.low is.high i ∷ code i
job_test_back [] e bytes h = absurd cc
job_test_back (a ∷ []) e bytes h = absurd cc
job_test_back (a ∷ b ∷ []) e bytes h = absurd cc
job_test_back (a ∷ b ∷ c ∷ d ∷ t) e bytes h = absurd (omega (arith, e))

pub step_test_back : ReadsBack step_test_bytes step_test_read is_bad_test 5
step_test_back (a ∷ b ∷ c ∷ d ∷ e ∷ []) size bytes h =
    let is = good (a ∷ b ∷ c ∷ d ∷ e ∷ []) h in
    let whole = a ∷ b ∷ c ∷ d ∷ e ∷ [] in
    let code : two_bytes (number_of (b ∷ c ∷ [])) ≡ b ∷ c ∷ [] = pair_back (b ∷ c ∷ []) refl (part_bytes whole 1 2 bytes) in
    let number = number_of (d ∷ e ∷ []) in
    let step : two_bytes (or_zero (number_read number)) ≡ d ∷ e ∷ [] =
    ap two_bytes (number_back number) ∙ pair_back (d ∷ e ∷ []) refl (part_bytes whole 3 2 bytes) in
    λ i. operator_back a is.low is.high i ∷ (code i ++ step i)
step_test_back [] size bytes h = absurd cc
step_test_back (a ∷ []) size bytes h = absurd cc
step_test_back (a ∷ b ∷ []) size bytes h = absurd cc
step_test_back (a ∷ b ∷ c ∷ []) size bytes h = absurd cc
step_test_back (a ∷ b ∷ c ∷ d ∷ []) size bytes h = absurd cc
step_test_back (a ∷ b ∷ c ∷ d ∷ e ∷ f ∷ t) size bytes h = absurd (omega (arith, size))

pub are_job_tests : (ts : List (List ℕ)) → list_any is_bad_test ts ≡ false → All IsJobTest (map job_test_read ts)
are_job_tests [] h = All-nil IsJobTest
are_job_tests (t ∷ ts) h =
    let parts = or_parts (is_bad_test t) (list_any is_bad_test ts) h in
    All-cons IsJobTest (job_test_read t) (map job_test_read ts) ((good t parts.0).code, refl) (are_job_tests ts parts.1)

names_earlier : (k n : ℕ) → nat_le k n ≡ false → NamesEarlier k (number_read n)
names_earlier k zero h = tt
names_earlier k (suc n) h = subst (NamesEarlier k) (sym (number_some n)) (omega arith, leb-false k (suc n) h)

pub are_step_tests : (k : ℕ) (ts : List (List ℕ)) → list_any is_bad_test ts ≡ false → list_any (looks_forward k) ts ≡ false →
    All (IsStepTest k) (map step_test_read ts)
are_step_tests k [] h g = All-nil (IsStepTest k)
are_step_tests k (t ∷ ts) h g =
    let parts = or_parts (is_bad_test t) (list_any is_bad_test ts) h in
    let behind = or_parts (looks_forward k t) (list_any (looks_forward k) ts) g in
    let here : IsStepTest k (step_test_read t) = ((good t parts.0).code, names_earlier k (number_of (part t 3 2)) behind.0) in
    All-cons (IsStepTest k) (step_test_read t) (map step_test_read ts) here (are_step_tests k ts parts.1 behind.1)
