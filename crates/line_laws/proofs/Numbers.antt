-- The number in front of a job's lines.
use Rattle.std.proofs.Common.{◌≡◌, ◌≤◌, ◌<◌, ◌+◌, ◌-◌, ◌^◌, ◌++◌, ◌==◌, ℕ, zero, suc, Bool, true, false, List, [], length, replicate, take, codes, decimal, arith, append_assoc, refl, sym, ap, ◌∙◌}
use Rattle.std.specs.Str.{bytes_eq}
use Rattle.std.specs.Str.Parse.{digits_value}
use Rattle.std.proofs.lemmas.Bool.{both_ways, eq-eqb, eqb-true, false_from_ne_true}
use Rattle.std.proofs.lemmas.Fmt.{decimal_is_IsNumeral_wide, length-decimal-le}
use Rattle.std.proofs.lemmas.List.{append_cancel_left, length-append, length-replicate, take_at}
use Rattle.std.proofs.lemmas.Slice.Eq.{bytes_eq-Decides}
use Rattle.jcl_plan.specs.declared.entry.JobLine.{JobLine}
use Rattle.jcl_plan.specs.Lines.{job_line_text, line_text}
use Rattle.jcl_plan.specs.Texts.{digits}
use Rattle.machine_meaning.specs.declared.machine.TheConstants.{MOST_JOBS}
use Rattle.line_laws.specs.Lines.{is_of_job}

pub four_digits : (job : ℕ) → job ≤ MOST_JOBS → length (digits 4 job) ≡ 4
four_digits job h =
    let front : List ℕ = replicate (4 - length (decimal job)) 48 in
    let few : length {A = ℕ} (decimal job) ≤ 4 = length-decimal-le 4 job (omega arith) (omega arith) (omega arith) in
    let zeros : length {A = ℕ} front ≡ 4 - length {A = ℕ} (decimal job) = length-replicate {A = ℕ} (4 - length (decimal job)) 48 in
    let whole : length {A = ℕ} (front ++ decimal job) ≡ length {A = ℕ} front + length {A = ℕ} (decimal job) = length-append front (decimal job) in
    omega arith

-- zeros in front change no value
zeros_first : (zeros : ℕ) (text : List ℕ) → digits_value 10 (replicate zeros 48 ++ text) ≡ digits_value 10 text
zeros_first zero text = refl
zeros_first (suc zeros) text = zeros_first zeros text

value_of : (width n : ℕ) → n < 10 ^ 64 → digits_value 10 (digits width n) ≡ n
value_of width n h = zeros_first (width - length (decimal n)) (decimal n) ∙ (decimal_is_IsNumeral_wide n h).1

pub same_digits : (m n : ℕ) → m ≤ MOST_JOBS → n ≤ MOST_JOBS → digits 4 m ≡ digits 4 n → m ≡ n
same_digits m n p q e = sym (value_of 4 m (omega arith)) ∙ ap (digits_value 10) e ∙ value_of 4 n (omega arith)

-- of a job and its line the text tells both the number and what stands behind it
pub same_number : (m n : ℕ) (x y : List ℕ) → m ≤ MOST_JOBS → n ≤ MOST_JOBS → digits 4 m ++ codes " " ++ x ≡ digits 4 n ++ codes " " ++ y →
    (m ≡ n) × (x ≡ y)
same_number m n x y p q e =
    let number : List ℕ → List ℕ → List ℕ = λ d z. d ++ codes " " ++ z in
    let front = λ (d z : List ℕ) (four : length d ≡ 4). ap (take 4) (append_assoc d (codes " ") z) ∙ take_at d (codes " " ++ z) 4 four in
    let jobs : m ≡ n = same_digits m n p q (sym (front (digits 4 m) x (four_digits m p)) ∙ ap (take 4) e ∙ front (digits 4 n) y (four_digits n q)) in
    (jobs, append_cancel_left (digits 4 m ++ codes " ") x y (e ∙ ap (λ k. digits 4 k ++ codes " " ++ y) (sym jobs)))

-- the number stands in front of a job's line
five : (job : ℕ) → job ≤ MOST_JOBS → length (digits 4 job ++ codes " ") ≡ 5
five job h = length-append (digits 4 job) (codes " ") ∙ ap (λ n. n + 1) (four_digits job h)

front_is : (job other : ℕ) (l : JobLine) → job ≤ MOST_JOBS → other ≤ MOST_JOBS →
    take (length (digits 4 job ++ codes " ")) (job_line_text other l) ≡ digits 4 other ++ codes " "
front_is job other l p q =
    take_at (digits 4 other ++ codes " ") (line_text l) (length (digits 4 job ++ codes " ")) (five other q ∙ sym (five job p))

-- so a line is of the job if it has the job's number
pub is_of_its_job : (job other : ℕ) (l : JobLine) → job ≤ MOST_JOBS → other ≤ MOST_JOBS → is_of_job job (job_line_text other l) ≡ (other == job)
is_of_its_job job other l p q =
    ap (λ t. bytes_eq t (digits 4 job ++ codes " ")) (front_is job other l p q)
    ∙ by (other == job) refl
  where
    by : (b : Bool) → (other == job) ≡ b → bytes_eq (digits 4 other ++ codes " ") (digits 4 job ++ codes " ") ≡ b
    by true e = (bytes_eq-Decides _ _).1 (ap (λ k. digits 4 k ++ codes " ") (eqb-true other job e))
    by false e =
        false_from_ne_true _ (λ same. both_ways (other == job) e (eq-eqb other job (same_number other job [] [] q p
        (ap (λ t. t ++ []) ((bytes_eq-Decides _ _).0 same))).0))
