-- The statements of the configuration, by their fields.
use Rattle.std.proofs.Common.{◌≡◌, ℕ, List, Some, false}
use Rattle.std.specs.List.{list_any}
use Rattle.jname_core.specs.Faults.{is_no_serial}
use Rattle.jname_core.specs.Grammar.{IsName8, IsUnitName}
use Rattle.jname_core.proofs.Names.{name8_none, unit_name_none}
use Rattle.session_input.specs.declared.statement.ConfigStatement.TheVariants as config
use Rattle.session_text.specs.declared.statement.Block.TheVariants.{Procedure}
use Rattle.session_text.specs.Fields.{listed_in}
use Rattle.session_text.specs.Rows.{only_of, two_of}
use Rattle.session_text.specs.Statements.{configures, procedure_of, unit_of}
use Rattle.session_text.proofs.Blanks.{only_field_is, two_fields_are}

pub unit_kept : (fields : List (List ℕ)) (two : List ℕ × List ℕ) → two_of fields ≡ Some two → IsUnitName two.0 → list_any is_no_serial (listed_in two.1) ≡ false → configures (config.Unit two.0 (listed_in two.1)) ≡ unit_of fields
unit_kept fields two h name serials = rw (two_fields_are fields two h, unit_name_none two.0 name, serials)

pub procedure_kept : (fields : List (List ℕ)) (name : List ℕ) → only_of fields ≡ Some name → IsName8 name → Procedure name ≡ procedure_of fields
procedure_kept fields name h is = rw (only_field_is fields name h, name8_none name is)
