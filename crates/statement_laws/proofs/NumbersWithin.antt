-- Numbers that are read within limits.
use Rattle.std.proofs.Common.{◌≡◌, ℕ, ◌≤◌, Bool, true, false, ◌&&◌, cond, nat_le, List, Some, None, unwrap_or, refl}
use Rattle.std.proofs.lemmas.Bool.{leb-true}
use Rattle.jname_core.specs.Decimals.{decimal_value, if_within, is_decimal, number_within}

within_by : (low above : Bool) (high other n : ℕ) → other ≤ high → (above ≡ true → n ≤ high) → unwrap_or (cond (low && above) (Some n) None) other ≤ high
within_by true true high other n o fits = fits refl
within_by true false high other n o fits = o
within_by false above high other n o fits = o

decimal_by : (decimal : Bool) (low high other n : ℕ) → other ≤ high → unwrap_or (cond decimal (if_within low high n) None) other ≤ high
decimal_by true low high other n o = within_by (nat_le low n) (nat_le n high) high other n o (leb-true n high)
decimal_by false low high other n o = o

-- a number, or another where it does not lie within them
pub fits_within : (low high other : ℕ) (text : List ℕ) → other ≤ high → unwrap_or (number_within low high text) other ≤ high
fits_within low high other text o = decimal_by (is_decimal text) low high other (decimal_value text) o
