use Rattle.std.proofs.Common.{◌≡◌, Some, false, ◌∙◌, subst}
use Rattle.std.specs.Prelude.{IfOk}
use Rattle.std.specs.List.{list_any}
use Rattle.jname_core.specs.Faults.{is_no_serial}
use Rattle.jname_core.specs.Grammar.{IsUnitName}
use Rattle.session_text.specs.Fields.{fields_of, listed_in}
use Rattle.session_text.specs.Rows.{two_of}
use Rattle.session_text.specs.Statements.{configures, unit_of}
use Rattle.session_text.specs.declared.statement.Says.{Says}
use Rattle.session_input.specs.declared.statement.ConfigStatement.TheVariants.{Unit}
use Rattle.session_text.proofs.Operands.{unit_kept}
use Rattle.session_text.proofs.says.unit.Goals as goal

pub returns-in-Some-2 : goal.returns-in-Some-2
returns-in-Some-2 c =
    let two : two_of (fields_of c.args.operands.now) ≡ Some (c.in-Some.name, c.in-Some.serials) = cc in
    let name_bytes : c.name.inside.bytes.now ≡ c.in-Some.name = c.name.view_is in
    let serial_bytes : c.serials.inside.bytes.now ≡ c.in-Some.serials = c.serials.view_is in
    let same : c.in-Ok.name ≡ c.in-Some.name = c.in-Ok.ensures.read.0 ∙ name_bytes in
    let is_name : IsUnitName c.in-Some.name = rw name_bytes at c.in-Ok.ensures.read.1 in
    let serials : (c.in-Some-2.serials ≡ listed_in c.serials.inside.bytes.now) × (list_any is_no_serial (listed_in c.serials.inside.bytes.now) ≡ false)
    = rw c.in-Some-2.is at c.in_ok-serials_in-in-Ok.ensures in
    let kept : configures (Unit c.in-Ok.name c.in-Some-2.serials) ≡ unit_of (fields_of c.args.operands.now) =
    rw (same, serials.0, serial_bytes) (unit_kept _ (c.in-Some.name, c.in-Some.serials) two is_name (rw serial_bytes at serials.1)) in
    subst (λ (says : Says). IfOk c.configures.result (λ s. s ≡ says)) kept c.configures.ensures
