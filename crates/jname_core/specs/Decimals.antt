-- Numbers in decimal digits, without sign; zeros may stand before them. (This profile)
use Rattle.std.specs.Prelude.{ℕ, ◌+◌, ◌*◌, ◌-◌, Bool, not, ◌&&◌, ◌==◌, nat_le, List, length, fold, Option, Some, None, if◌then◌else◌}
use Rattle.std.specs.List.{list_all}
use Rattle.jname_core.specs.Characters.{is_digit}

abbrev pub decimal_value : List ℕ → ℕ
decimal_value text = fold (λ number c. 10 * number + (c - 48)) 0 text

abbrev pub is_decimal : List ℕ → Bool
is_decimal text = not (length text == 0) && list_all is_digit text

abbrev pub if_within : ℕ → ℕ → ℕ → Option ℕ
if_within low high n = if nat_le low n && nat_le n high then Some n else None

-- the number that the text is, where it lies within these
abbrev pub number_within : ℕ → ℕ → List ℕ → Option ℕ
number_within low high text = if is_decimal text then if_within low high (decimal_value text) else None
