-- The EXEC statement. (GC28-6704, "EXEC statement": PGM, procedure name, PROC, COND, PARM, symbolic parameters)
use Rattle.std.specs.Prelude.{ℕ, ◌+◌, Bool, true, false, not, ◌&&◌, ◌||◌, nat_lt, nat_eq, List, [], ◌∷◌, ◌++◌, drop, filter, length, map, codes, Option, Some, None, unwrap_or, if◌then◌else◌}
use Rattle.std.specs.List.{flat_map, starts_with}
use Rattle.std.specs.Str.{bytes_eq}
use Rattle.jcl_plan.specs.declared.fault.Cause.{Cause}
use Rattle.jcl_plan.specs.declared.fault.Cause.TheVariants.{P}
use Rattle.jcl_plan.specs.declared.fault.StatementFault.TheVariants.{LeftOut, NotOneProgram, UnknownKeyword}
use Rattle.operand_core.specs.Faults.{name_faults, read_name_faults, when, written_name, written_name_faults}
use Rattle.operand_core.specs.Keywords.{has_key, is_among, value_of}
use Rattle.operand_core.specs.Operands.{Keyword, Operand, first_of, operand_of}
use Rattle.operand_core.specs.Qualified.{head_of, is_qualified}
use Rattle.list_values.specs.declared.condition.Condition.{Condition}
use Rattle.list_values.specs.Conditions.{condition, no_condition}
use Rattle.value_core.specs.Parms.{parm_faults}
use Rattle.value_core.specs.Reads.{Read}
use Rattle.jcl_cards.specs.declared.exec.ExecCard.{ExecCard}
use Rattle.jcl_cards.specs.declared.exec.Runs.{Runs}
use Rattle.jcl_cards.specs.declared.exec.Runs.TheVariants.{Program, Procedure}
use Rattle.jcl_cards.specs.declared.exec.StepCondition.{StepCondition}
use Rattle.jcl_cards.specs.Keywords.{as_it_is, read_or, symbol_faults, symbol_of, twice_faults, unless_long}

-- what a keyword is on a statement that calls a procedure or not; in a call some may name a step of the procedure, as COND.STEP
pub data ExecKeyword : Type 0 where
  OfProgram : ExecKeyword
  OfProcedure : ExecKeyword
  OfCondition : ExecKeyword
  OfParm : ExecKeyword
  OfForm : ExecKeyword
  OfSymbol : ExecKeyword
  IsLeftOut : ExecKeyword
  IsUnknown : ExecKeyword

abbrev pub exec_keyword : Bool → List ℕ → ExecKeyword
exec_keyword calls key =
    if bytes_eq key (codes "PGM") then OfProgram
    else (if bytes_eq key (codes "PROC") then OfProcedure
    else (if is_qualified key && not calls then IsUnknown
    else (if is_among (codes "RD" ∷ codes "ROLL" ∷ codes "DPRTY" ∷ []) (head_of key) then IsLeftOut
    else (if bytes_eq (head_of key) (codes "COND") then OfCondition
    else (if bytes_eq (head_of key) (codes "PARM") then OfParm
    else (if is_among (codes "REGION" ∷ codes "TIME" ∷ codes "ACCT" ∷ []) (head_of key) then OfForm
    else (if is_qualified key || not calls then IsUnknown
    else OfSymbol)))))))

-- the step that a keyword names
abbrev pub step_named : List ℕ → List ℕ
step_named key = drop (length (head_of key) + 1) key

abbrev pub step_faults : List ℕ → List Cause
step_faults key = if is_qualified key then name_faults (step_named key) else []

-- a program is named, and not by reference to a DD
abbrev pub program_faults : Option (List ℕ) → List Cause
program_faults None = []
program_faults (Some value) = if starts_with nat_eq value (codes "*.") then P LeftOut ∷ [] else name_faults value

abbrev pub read_parm_faults : Option (List ℕ) → List Cause
read_parm_faults None = []
read_parm_faults (Some value) = parm_faults value

abbrev pub condition_of : Option (List ℕ) → Read Condition
condition_of value = read_or (condition true) no_condition value

abbrev pub faults_of : ExecKeyword → Keyword → List Cause
faults_of OfProgram k = program_faults k.value
faults_of OfProcedure k = read_name_faults k.value
faults_of OfCondition k = step_faults k.key ++ (condition_of k.value).faults
faults_of OfParm k = step_faults k.key ++ read_parm_faults k.value
faults_of OfForm k = step_faults k.key
faults_of OfSymbol k = symbol_faults k.key
faults_of IsLeftOut k = P LeftOut ∷ []
faults_of IsUnknown k = P UnknownKeyword ∷ []

-- a procedure is called by position or by PROC
abbrev pub has_positional : Operand → Bool
has_positional operand = nat_lt 0 (length operand.positional)

abbrev pub calls : Operand → Bool
calls operand = has_positional operand || has_key (codes "PROC") operand.keywords

-- neither a program nor a procedure, or both, or a procedure twice
abbrev pub runs_badly : Operand → Bool
runs_badly operand =
    (if has_key (codes "PGM") operand.keywords then calls operand else not (calls operand))
    || has_positional operand && has_key (codes "PROC") operand.keywords

abbrev pub is_symbol : Keyword → Bool
is_symbol k = is_symbol_by (exec_keyword true k.key)
  where
    is_symbol_by : ExecKeyword → Bool
    is_symbol_by OfSymbol = true
    is_symbol_by other = false

abbrev pub procedure_of : Operand → List ℕ
procedure_of operand =
    if has_positional operand then unwrap_or (first_of operand.positional) [] else unwrap_or (value_of (codes "PROC") operand.keywords) []

abbrev pub runs_of : Operand → Runs
runs_of operand =
    if calls operand then Procedure (procedure_of operand) (map symbol_of (filter is_symbol operand.keywords))
    else Program (unwrap_or (value_of (codes "PGM") operand.keywords) [])

-- COND without a step, where it is coded
abbrev pub condition_in : List Keyword → Option Condition
condition_in [] = None
condition_in (k ∷ keywords) = if bytes_eq k.key (codes "COND") then Some (condition_of k.value).value else condition_in keywords

-- and those of single steps
abbrev pub is_step_condition : Keyword → Bool
is_step_condition k = is_qualified k.key && bytes_eq (head_of k.key) (codes "COND")

abbrev pub step_condition : Keyword → StepCondition
step_condition k = record { step = step_named k.key; condition = (condition_of k.value).value }

abbrev pub exec_with : List ℕ → Operand → Read ExecCard
exec_with name operand = record {
  value = record {
    name = written_name name;
    runs = runs_of operand;
    condition = condition_in operand.keywords;
    step_conditions = map step_condition (filter is_step_condition operand.keywords);
    named_steps = map (λ k. step_named k.key) (filter (λ k. is_qualified k.key) operand.keywords);
  };
  faults = written_name_faults name ++ operand.faults ++ when (runs_badly operand) (P NotOneProgram) ++ read_name_faults (first_of operand.positional)
      ++ flat_map (λ k. faults_of (exec_keyword (calls operand) k.key) k) operand.keywords ++ twice_faults as_it_is operand.keywords;
}

-- one positional operand is
abbrev pub exec_card : List ℕ → List ℕ → Read ExecCard
exec_card name operand = unless_long (written_name_faults name) operand (exec_with name (operand_of 1 operand))
