-- The PROC statement. (GC28-6704, "PROC statement")
use Rattle.std.specs.Prelude.{ℕ, Bool, ◌==◌, List, [], ◌∷◌, ◌++◌, length, map, if◌then◌else◌}
use Rattle.std.specs.List.{flat_map}
use Rattle.jcl_plan.specs.declared.fault.Cause.{Cause}
use Rattle.jcl_plan.specs.declared.fault.Cause.TheVariants.{P}
use Rattle.jcl_plan.specs.declared.fault.StatementFault.TheVariants.{MissingName}
use Rattle.operand_core.specs.Faults.{name_faults, written_name, written_name_faults}
use Rattle.operand_core.specs.Operands.{Operand, operand_of}
use Rattle.value_core.specs.Reads.{Read}
use Rattle.jcl_cards.specs.declared.procedure.ProcedureCard.{ProcedureCard}
use Rattle.jcl_cards.specs.Keywords.{as_it_is, symbol_faults, symbol_of, twice_faults, unless_long}

-- in the stream it has a name
abbrev pub procedure_name_faults : Bool → List ℕ → List Cause
procedure_name_faults in_stream name = if length name == 0 then (if in_stream then P MissingName ∷ [] else []) else name_faults name

-- each keyword is a symbol
abbrev pub procedure_with : Bool → List ℕ → Operand → Read ProcedureCard
procedure_with in_stream name operand = record {
  value = record { name = written_name name; symbols = map symbol_of operand.keywords };
  faults = procedure_name_faults in_stream name ++ operand.faults ++ flat_map (λ k. symbol_faults k.key) operand.keywords
      ++ twice_faults as_it_is operand.keywords;
}

-- no positional operand is
abbrev pub procedure_card : Bool → List ℕ → List ℕ → Read ProcedureCard
procedure_card in_stream name operand =
    unless_long (written_name_faults name) operand (procedure_with in_stream name (operand_of 0 operand))
