-- The bytes of a text that mostly is short. (This profile)
use Rattle.std.specs.Prelude.{ℕ, List}
use Rattle.plain.specs.declared.small.Bytes.{Bytes}
use Rattle.plain.specs.declared.small.Bytes.TheVariants.{Inside, Outside}

abbrev pub bytes_in : {n : ℕ} → Bytes n → List ℕ
bytes_in (Inside bytes) = bytes
bytes_in (Outside bytes) = bytes
