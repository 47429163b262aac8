-- Words and tests by the numbers that tell them.
use Rattle.std.proofs.Common.{◌≡◌, ◌++◌, ◌/◌, ◌%◌, ◌≤◌, arith, ℕ, zero, suc, List, [], ◌∷◌, length, replicate, Option, Some, None, refl, sym, ap, ◌∙◌, subst}
use Rattle.std.specs.Prelude.{All}
use Rattle.std.specs.List.{flat_map}
use Rattle.std.proofs.lemmas.List.Elements.{All-head, All-tail}
use Rattle.jcl_plan.specs.declared.plan.AfterAbend.{AfterAbend}
use Rattle.jcl_plan.specs.declared.plan.AfterAbend.TheVariants as after
use Rattle.jcl_plan.specs.declared.plan.ConditionalWord.{ConditionalWord}
use Rattle.jcl_plan.specs.declared.plan.ConditionalWord.TheVariants as conditional
use Rattle.jcl_plan.specs.declared.plan.Expiry.{Expiry}
use Rattle.jcl_plan.specs.declared.plan.Expiry.TheVariants as expiry
use Rattle.jcl_plan.specs.declared.plan.Operator.{Operator}
use Rattle.jcl_plan.specs.declared.plan.Operator.TheVariants as operator
use Rattle.jcl_plan.specs.declared.plan.Status.{Status}
use Rattle.jcl_plan.specs.declared.plan.Status.TheVariants as status
use Rattle.jcl_plan.specs.declared.plan.Test.{Test}
use Rattle.jcl_plan.specs.declared.plan.Word.{Word}
use Rattle.jcl_plan.specs.declared.plan.Word.TheVariants as word
use Rattle.cb_meaning.specs.Codes.{after_abend_code, conditional_code, expiry_code, expiry_number, job_test_bytes, normal_code, operator_code, or_zero, status_code, step_test_bytes}
use Rattle.cb_meaning.specs.Writable.{IsJobTest, IsStepTest, NamesEarlier}

-- each number tells one word
abbrev operator_by : ℕ → Operator
operator_by (suc (suc zero)) = operator.Ge
operator_by (suc (suc (suc zero))) = operator.Eq
operator_by (suc (suc (suc (suc zero)))) = operator.Lt
operator_by (suc (suc (suc (suc (suc zero))))) = operator.Le
operator_by (suc (suc (suc (suc (suc (suc n)))))) = operator.Ne
operator_by other = operator.Gt

operator_back : (o : Operator) → operator_by (operator_code o) ≡ o
operator_back operator.Gt = refl
operator_back operator.Ge = refl
operator_back operator.Eq = refl
operator_back operator.Lt = refl
operator_back operator.Le = refl
operator_back operator.Ne = refl

same_operator : (a b : Operator) → operator_code a ≡ operator_code b → a ≡ b
same_operator a b e = sym (operator_back a) ∙ (ap operator_by e ∙ operator_back b)

abbrev after_by : ℕ → AfterAbend
after_by zero = after.Unsaid
after_by (suc zero) = after.Even
after_by (suc (suc n)) = after.Only

after_back : (a : AfterAbend) → after_by (after_abend_code a) ≡ a
after_back after.Unsaid = refl
after_back after.Even = refl
after_back after.Only = refl

pub same_after : (a b : AfterAbend) → after_abend_code a ≡ after_abend_code b → a ≡ b
same_after a b e = sym (after_back a) ∙ (ap after_by e ∙ after_back b)

abbrev status_by : ℕ → Status
status_by (suc (suc zero)) = status.Old
status_by (suc (suc (suc zero))) = status.Shr
status_by (suc (suc (suc (suc n)))) = status.Mod
status_by other = status.New

status_back : (s : Status) → status_by (status_code s) ≡ s
status_back status.New = refl
status_back status.Old = refl
status_back status.Shr = refl
status_back status.Mod = refl

abbrev expiry_by : ℕ → ℕ → Expiry
expiry_by (suc zero) n = expiry.Day n
expiry_by (suc (suc m)) n = expiry.DaysFromToday n
expiry_by zero n = expiry.NotCoded

expiry_back : (e : Expiry) → expiry_by (expiry_code e) (expiry_number e) ≡ e
expiry_back expiry.NotCoded = refl
expiry_back (expiry.Day day) = refl
expiry_back (expiry.DaysFromToday days) = refl

pub same_expiry : (a b : Expiry) → expiry_code a ≡ expiry_code b → expiry_number a ≡ expiry_number b → a ≡ b
same_expiry a b e f = sym (expiry_back a) ∙ ((λ i. expiry_by (e i) (f i)) ∙ expiry_back b)

pub same_status : (a b : Status) → status_code a ≡ status_code b → a ≡ b
same_status a b e = sym (status_back a) ∙ (ap status_by e ∙ status_back b)

abbrev normal_by : ℕ → Option Word
normal_by zero = None
normal_by (suc zero) = Some word.Delete
normal_by (suc (suc zero)) = Some word.Keep
normal_by (suc (suc (suc zero))) = Some word.Pass
normal_by (suc (suc (suc (suc zero)))) = Some word.Catlg
normal_by (suc (suc (suc (suc (suc n))))) = Some word.Uncatlg

normal_back : (w : Option Word) → normal_by (normal_code w) ≡ w
normal_back None = refl
normal_back (Some word.Delete) = refl
normal_back (Some word.Keep) = refl
normal_back (Some word.Pass) = refl
normal_back (Some word.Catlg) = refl
normal_back (Some word.Uncatlg) = refl

pub same_normal : (a b : Option Word) → normal_code a ≡ normal_code b → a ≡ b
same_normal a b e = sym (normal_back a) ∙ (ap normal_by e ∙ normal_back b)

abbrev conditional_by : ℕ → Option ConditionalWord
conditional_by zero = None
conditional_by (suc zero) = Some conditional.Delete
conditional_by (suc (suc (suc (suc zero)))) = Some conditional.Catlg
conditional_by (suc (suc (suc (suc (suc n))))) = Some conditional.Uncatlg
conditional_by other = Some conditional.Keep

conditional_back : (w : Option ConditionalWord) → conditional_by (conditional_code w) ≡ w
conditional_back None = refl
conditional_back (Some conditional.Delete) = refl
conditional_back (Some conditional.Keep) = refl
conditional_back (Some conditional.Catlg) = refl
conditional_back (Some conditional.Uncatlg) = refl

pub same_conditional : (a b : Option ConditionalWord) → conditional_code a ≡ conditional_code b → a ≡ b
same_conditional a b e = sym (conditional_back a) ∙ (ap conditional_by e ∙ conditional_back b)

-- numbers of two bytes, and absent ones
pub same_short : (a b : ℕ) → a / 256 ≡ b / 256 → a % 256 ≡ b % 256 → a ≡ b
same_short a b e f = omega (arith, e, f)

pub same_number : (a b : Option ℕ) → ((n : ℕ) → a ≡ Some n → 1 ≤ n) → ((n : ℕ) → b ≡ Some n → 1 ≤ n) → or_zero a ≡ or_zero b → a ≡ b
same_number None None h g e = refl
same_number None (Some n) h g e = let le : 1 ≤ n = g n refl in let no : ⊥ = omega (arith, e, le) in absurd no
same_number (Some n) None h g e = let le : 1 ≤ n = h n refl in let no : ⊥ = omega (arith, e, le) in absurd no
same_number (Some n) (Some m) h g e = ap Some e

-- tests with zeros behind them
pub same_job_tests : (xs ys : List Test) (m n : ℕ) → length xs ≡ length ys → All IsJobTest xs → All IsJobTest ys →
    flat_map job_test_bytes xs ++ replicate m 0 ≡ flat_map job_test_bytes ys ++ replicate n 0 → xs ≡ ys
same_job_tests [] [] m n l h g e = refl
same_job_tests [] (y ∷ ys) m n l h g e = absurd cc
same_job_tests (x ∷ xs) [] m n l h g e = absurd cc
same_job_tests (x ∷ xs) (y ∷ ys) m n l h g e =
    let o : operator_code x.operator ≡ operator_code y.operator = cc in
    let high : x.code / 256 ≡ y.code / 256 = cc in
    let low : x.code % 256 ≡ y.code % 256 = cc in
    let rest : flat_map job_test_bytes xs ++ replicate m 0 ≡ flat_map job_test_bytes ys ++ replicate n 0 = cc in
    let shorter : length xs ≡ length ys = cc in
    let no_step : x.step ≡ y.step = (All-head IsJobTest x xs h).1 ∙ sym (All-head IsJobTest y ys g).1 in
    λ i. record { code = same_short x.code y.code high low i; operator = same_operator x.operator y.operator o i; step = no_step i }
    ∷ same_job_tests xs ys m n shorter (All-tail IsJobTest x xs h) (All-tail IsJobTest y ys g) rest i

from_one : (k : ℕ) (o : Option ℕ) → NamesEarlier k o → (n : ℕ) → o ≡ Some n → 1 ≤ n
from_one k None h n e = absurd cc
from_one k (Some m) h n e = let is : m ≡ n = cc in subst (λ z. 1 ≤ z) is h.0

pub same_step_tests : (k : ℕ) (xs ys : List Test) (m n : ℕ) → length xs ≡ length ys → All (IsStepTest k) xs → All (IsStepTest k) ys →
    flat_map step_test_bytes xs ++ replicate m 0 ≡ flat_map step_test_bytes ys ++ replicate n 0 → xs ≡ ys
same_step_tests k [] [] m n l h g e = refl
same_step_tests k [] (y ∷ ys) m n l h g e = absurd cc
same_step_tests k (x ∷ xs) [] m n l h g e = absurd cc
same_step_tests k (x ∷ xs) (y ∷ ys) m n l h g e =
    let o : operator_code x.operator ≡ operator_code y.operator = cc in
    let high : x.code / 256 ≡ y.code / 256 = cc in
    let low : x.code % 256 ≡ y.code % 256 = cc in
    let step_high : or_zero x.step / 256 ≡ or_zero y.step / 256 = cc in
    let step_low : or_zero x.step % 256 ≡ or_zero y.step % 256 = cc in
    let rest : flat_map step_test_bytes xs ++ replicate m 0 ≡ flat_map step_test_bytes ys ++ replicate n 0 = cc in
    let shorter : length xs ≡ length ys = cc in
    let step : x.step ≡ y.step = same_number x.step y.step (from_one k x.step (All-head (IsStepTest k) x xs h).1)
    (from_one k y.step (All-head (IsStepTest k) y ys g).1) (same_short (or_zero x.step) (or_zero y.step) step_high step_low) in
    λ i. record { code = same_short x.code y.code high low i; operator = same_operator x.operator y.operator o i; step = step i }
    ∷ same_step_tests k xs ys m n shorter (All-tail (IsStepTest k) x xs h) (All-tail (IsStepTest k) y ys g) rest i
