-- What is a serial is none that is refused.
use Rattle.std.proofs.Common.{◌≡◌, ℕ, true, false, List, inl, inr}
use Rattle.std.proofs.lemmas.Bool.{cases_Bool}
use Rattle.jname_core.specs.Faults.{is_no_serial}
use Rattle.jname_core.specs.Grammar.{IsSerial}
use Rattle.jname_core.proofs.Names as names

pub kept_from_serial : (text : List ℕ) → IsSerial text → is_no_serial text ≡ false
kept_from_serial text h = names.kept_from_serial text h

pub kept_from_none : (text : List ℕ) → (IsSerial text → ⊥) → is_no_serial text ≡ true
kept_from_none text h =
    elim (cases_Bool (is_no_serial text)) [
      | inl refused ↦ refused
      | inr kept ↦ absurd (h (names.serial_from_kept text kept))
    ]
