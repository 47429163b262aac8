-- What is no serial.
use Rattle.std.proofs.Common.{◌≡◌, ℕ, true, List}
use Rattle.jname_core.proofs.Names.{kept_from_serial}
use Rattle.jname_core.specs.Faults.{is_no_serial}
use Rattle.jname_core.specs.Grammar.{IsSerial}

pub no_serial : (text : List ℕ) → is_no_serial text ≡ true → IsSerial text → ⊥
no_serial text is_none h = cc (is_none, kept_from_serial text h)
