-- What a line outside a block says is printable.
use Rattle.std.proofs.Common.{◌≡◌, ◌&&◌, ℕ, Bool, true, false, cond, not, List, [], ◌∷◌, codes, All, Option, Some, None, is_none, refl}
use Rattle.std.specs.Prelude.{IfSome}
use Rattle.std.specs.List.{list_any}
use Rattle.std.specs.Str.{bytes_eq}
use Rattle.std.proofs.lemmas.Bool.{and_parts, not-true}
use Rattle.extent_core.specs.declared.extent.Extent.{Extent}
use Rattle.jname_core.specs.Decimals.{number_within}
use Rattle.jname_core.specs.Faults.{is_no_serial, name8_fault, unit_name_fault}
use Rattle.line_laws.specs.Printable.{IsPrintable}
use Rattle.print_laws.proofs.GroupsPrintable.{either}
use Rattle.session_input.specs.declared.statement.ConfigStatement.TheVariants as config
use Rattle.session_text.specs.declared.fault.Fault.TheVariants as fault
use Rattle.session_text.specs.declared.statement.Block.TheVariants.{Faulty, Procedure}
use Rattle.session_text.specs.declared.statement.LineSays.{LineSays}
use Rattle.session_text.specs.declared.statement.LineSays.TheVariants as line
use Rattle.session_text.specs.Fields.{base_in, flag_of, listed_in, name_in, serial_in, set_name_in}
use Rattle.session_text.specs.Statements.{bad, behind_if, configures, event_by, expires_of, group_of, group_with, has_word, initiator_of, initiator_with, procedure_of, program_of, program_with, says_by, set_of, set_with, unit_of, unit_with, volume_of, volume_with}
use Rattle.session_text.specs.Volumes.{used_of}
use Rattle.machine_laws.proofs.Blocks.{IsPrintableBlock, IsPrintableSays}
use Rattle.machine_laws.proofs.Records.{good_serials, serial_in_printable}

abbrev pub IsPrintableLineSays : LineSays → Type 0
IsPrintableLineSays line.Blank = Unit {0}
IsPrintableLineSays (line.One s) = IsPrintableSays s
IsPrintableLineSays (line.Opens block) = IsPrintableBlock block

-- a volume
volume_by : (serial : Option (List ℕ)) (tracks : Option ℕ) (used : Option (List Extent)) → IfSome serial IsPrintable →
    IsPrintableSays (volume_with serial tracks used)
volume_by None tracks used h = tt
volume_by (Some serial) None used h = tt
volume_by (Some serial) (Some tracks) None h = tt
volume_by (Some serial) (Some tracks) (Some used) h = h

volume_printable : (operands : List (List ℕ)) → IsPrintableSays (volume_of operands)
volume_printable [] = tt
volume_printable (serial ∷ []) = tt
volume_printable (serial ∷ tracks ∷ behind) =
    volume_by (serial_in serial) (number_within 0 65535 tracks) (used_of behind) (serial_in_printable serial)

-- a unit
unit_by : (b : Bool) (name : List ℕ) (serials : List (List ℕ)) → (b ≡ true → All IsPrintable serials) →
    IsPrintableSays (cond b (configures (config.Unit name serials)) bad)
unit_by true name serials h = h refl
unit_by false name serials h = tt

units_printable : (name : List ℕ) (serials : List (List ℕ)) → IsPrintableSays (unit_with name serials)
units_printable name serials =
    unit_by (is_none (unit_name_fault name) && not (list_any is_no_serial serials)) name serials
    (λ is. good_serials serials
    (not-true (list_any is_no_serial serials) (and_parts (is_none (unit_name_fault name)) (not (list_any is_no_serial serials)) is).1))

unit_printable : (operands : List (List ℕ)) → IsPrintableSays (unit_of operands)
unit_printable [] = tt
unit_printable (name ∷ []) = tt
unit_printable (name ∷ serials ∷ []) = units_printable name (listed_in serials)
unit_printable (name ∷ serials ∷ next ∷ more) = tt

-- a group, and an initiator
group_by : (base : Option (List ℕ)) (limit : Option ℕ) (scratch : Option Bool) → IsPrintableSays (group_with base limit scratch)
group_by None limit scratch = tt
group_by (Some base) None scratch = tt
group_by (Some base) (Some limit) None = tt
group_by (Some base) (Some limit) (Some scratch) = tt

group_printable : (operands : List (List ℕ)) → IsPrintableSays (group_of operands)
group_printable [] = tt
group_printable (base ∷ []) = tt
group_printable (base ∷ limit ∷ behind) = group_by (base_in base) (number_within 0 65535 limit) (flag_of (codes "SCRATCH") behind)

initiator_by : (number : Option ℕ) (classes : List ℕ) → IsPrintableSays (initiator_with number classes)
initiator_by None classes = tt
initiator_by (Some number) classes = tt

initiator_printable : (operands : List (List ℕ)) → IsPrintableSays (initiator_of operands)
initiator_printable [] = tt
initiator_printable (number ∷ []) = tt
initiator_printable (number ∷ classes ∷ []) = initiator_by (number_within 0 65535 number) classes
initiator_printable (number ∷ classes ∷ next ∷ more) = tt

-- a set
set_by : (name serial : Option (List ℕ)) (tracks : Option ℕ) (catalogued : Bool) (expires : Option (Option ℕ)) → IfSome serial IsPrintable →
    IsPrintableBlock (set_with name serial tracks catalogued expires)
set_by None serial tracks catalogued expires h = tt
set_by (Some name) None tracks catalogued expires h = tt
set_by (Some name) (Some serial) None catalogued expires h = tt
set_by (Some name) (Some serial) (Some tracks) catalogued None h = tt
set_by (Some name) (Some serial) (Some tracks) catalogued (Some expires) h = h

set_printable : (operands : List (List ℕ)) → IsPrintableBlock (set_of operands)
set_printable [] = tt
set_printable (name ∷ []) = tt
set_printable (name ∷ serial ∷ []) = tt
set_printable (name ∷ serial ∷ tracks ∷ behind) =
    set_by (set_name_in name) (serial_in serial) (number_within 0 65535 tracks) (has_word (codes "CAT") behind)
    (expires_of (behind_if (has_word (codes "CAT") behind) behind)) (serial_in_printable serial)

-- a procedure, and a program
procedure_printable : (operands : List (List ℕ)) → IsPrintableBlock (procedure_of operands)
procedure_printable [] = tt
procedure_printable (name ∷ []) = either IsPrintableBlock (is_none (name8_fault name)) (Procedure name) (Faulty fault.BadValue) tt tt
procedure_printable (name ∷ next ∷ more) = tt

program_by : (name : Option (List ℕ)) → IsPrintableBlock (program_with name)
program_by None = tt
program_by (Some name) = tt

program_printable : (operands : List (List ℕ)) → IsPrintableBlock (program_of operands)
program_printable [] = tt
program_printable (name ∷ []) = program_by (name_in name)
program_printable (name ∷ next ∷ more) = tt

-- configuration, or an event
pub by_word_printable : (word : List ℕ) (operands : List (List ℕ)) → IsPrintableLineSays (event_by word operands) → IsPrintableLineSays (says_by word operands)
by_word_printable word operands event =
    either IsPrintableLineSays (bytes_eq word (codes "VOLUME")) _ _ (volume_printable operands)
    (either IsPrintableLineSays (bytes_eq word (codes "UNIT")) _ _ (unit_printable operands)
    (either IsPrintableLineSays (bytes_eq word (codes "GROUP")) _ _ (group_printable operands)
    (either IsPrintableLineSays (bytes_eq word (codes "SET")) _ _ (set_printable operands)
    (either IsPrintableLineSays (bytes_eq word (codes "PROC")) _ _ (procedure_printable operands)
    (either IsPrintableLineSays (bytes_eq word (codes "PROGRAM")) _ _ (program_printable operands)
    (either IsPrintableLineSays (bytes_eq word (codes "INIT")) _ _ (initiator_printable operands) event))))))
