-- Numbers, read up to a cap and no further.
use Rattle.std.proofs.Common.{◌≡◌, ℕ, ◌+◌, ◌≤◌, true, min, nat_le, List, Some, arith, le-leb}
use Rattle.jname_core.specs.Decimals.{decimal_value, is_decimal, number_within}

-- below it they are what the digits say
pub within_capped : (low high value : ℕ) (text : List ℕ) → is_decimal text ≡ true
    → value ≡ min (high + 1) (decimal_value text) → low ≤ value → value ≤ high → Some value ≡ number_within low high text
within_capped low high value text digits is above below =
    let same : decimal_value text ≡ value = omega arith in
    let first : nat_le low value ≡ true = le-leb low value above in
    let last : nat_le value high ≡ true = le-leb value high below in
    rw (digits, same, first, last)
