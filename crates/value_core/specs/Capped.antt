-- Numbers in decimal digits, of which those above 30,000,000 are not told apart: so many tracks, cylinders or blocks are too many.
use Rattle.std.specs.Prelude.{ℕ, min, List, Option, Some, None, if◌then◌else◌}
use Rattle.jname_core.specs.Decimals.{decimal_value, is_decimal}

abbrev pub capped : List ℕ → Option ℕ
capped text = if is_decimal text then Some (min 30000000 (decimal_value text)) else None
