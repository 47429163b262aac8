-- An answer that is put where the caller has room for it, or the fault that is told, or memory is missing.
use Rattle.std.specs.Prelude.{◌≡◌, Result, Ok, Err}
use Rattle.jcl_plan.specs.declared.fault.Cause.{Cause}
use Rattle.value_core.specs.declared.refusal.ReadError.{ReadError}
use Rattle.value_core.specs.Reads.{Gives}

abbrev pub GivesInto : {A : Type 0} → Result (Unit {0}) ReadError → A → Result A Cause → Type 0
GivesInto (Ok done) value given = given ≡ Ok value
GivesInto (Err error) value given = Gives (Err error) given
