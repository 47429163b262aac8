use Rattle.std.proofs.Common.{Bool, nat_lt, length, sym, ap, ◌∙◌, subst}
use Rattle.jname_core.specs.Grammar.{IsSerial}
use Rattle.operand_core.specs.Faults.{told}
use Rattle.operand_core.specs.Subparameters.{first_place, subparameters_of}
use Rattle.value_core.specs.VolumeNames.{serial}
use Rattle.value_core.proofs.Both.{refused_is}
use Rattle.value_core.proofs.Volumes.{bad_serial, first_is_serial, serial_faults}
use Rattle.value_core.proofs.volume_name.serial.Goals as goal

pub returns-then-has_no_serial : goal.returns-then-has_no_serial
returns-then-has_no_serial c =
    let text = c.args.text.now in
    let places = subparameters_of text in
    refused_is (serial text)
    (ap (λ (b : Bool). told (serial_faults (nat_lt 1 (length places)) b)) (sym c.has_no_serial.ensures ∙ c.if-has_no_serial.true) ∙ bad_serial (nat_lt 1 (length places)))

pub returns-in-None : goal.returns-in-None
returns-in-None c =
    let text = c.args.text.now in
    let is_serial : IsSerial (first_place (subparameters_of text)) = first_is_serial text (sym c.has_no_serial.ensures ∙ c.if-has_no_serial.false) in
    absurd (c.in-None.ensures.read (subst IsSerial (sym c.first_subparameter.ensures) is_serial))
