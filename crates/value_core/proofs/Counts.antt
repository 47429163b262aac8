-- counts that are told up to 2 ^ 64 - 1
use Rattle.std.proofs.Common.{◌≡◌, ℕ, ◌<◌, ◌≤◌, Bool, ◌||◌, ◌&&◌, nat_lt, min, ◌++◌, ◌⊎◌, inl, inr, lt-ltb, le-ltb, sym, ap, ◌∙◌, arith}
use Rattle.std.proofs.lemmas.Bool.{cases_lt}
use Rattle.jcl_plan.specs.declared.fault.Cause.TheVariants.{P}
use Rattle.jcl_plan.specs.declared.fault.StatementFault.TheVariants.{ExcludeOneAnother, KeywordTwice}
use Rattle.operand_core.specs.Faults.{when}
use Rattle.value_core.specs.Places.{counts_faults}

abbrev pub most : ℕ
most = 18446744073709551615

-- below the cap a test on a number is one on the capped number
pub lt_capped : (k n m : ℕ) → k < most → m ≡ min most n → nat_lt k m ≡ nat_lt k n
lt_capped k n m small is = capped (cases_lt k n)
  where
    capped : (k < n) ⊎ (n ≤ k) → nat_lt k m ≡ nat_lt k n
    capped (inl above) = lt-ltb k m (omega arith) ∙ sym (lt-ltb k n above)
    capped (inr below) = le-ltb k m (omega arith) ∙ sym (le-ltb k n below)

pub counts_capped : (one other first second : ℕ) → one ≡ min most first → other ≡ min most second → counts_faults one other ≡ counts_faults first second
counts_capped one other first second o s =
    let a : nat_lt 1 one ≡ nat_lt 1 first = lt_capped 1 first one (omega arith) o in
    let b : nat_lt 1 other ≡ nat_lt 1 second = lt_capped 1 second other (omega arith) s in
    let d : nat_lt 0 one ≡ nat_lt 0 first = lt_capped 0 first one (omega arith) o in
    let e : nat_lt 0 other ≡ nat_lt 0 second = lt_capped 0 second other (omega arith) s in
    ap (λ (x : Bool). when (x || nat_lt 1 other) (P KeywordTwice) ++ when (nat_lt 0 one && nat_lt 0 other) (P ExcludeOneAnother)) a
    ∙ ap (λ (x : Bool). when (nat_lt 1 first || x) (P KeywordTwice) ++ when (nat_lt 0 one && nat_lt 0 other) (P ExcludeOneAnother)) b
    ∙ ap (λ (x : Bool). when (nat_lt 1 first || nat_lt 1 second) (P KeywordTwice) ++ when (x && nat_lt 0 other) (P ExcludeOneAnother)) d
    ∙ ap (λ (x : Bool). when (nat_lt 1 first || nat_lt 1 second) (P KeywordTwice) ++ when (nat_lt 0 first && x) (P ExcludeOneAnother)) e
