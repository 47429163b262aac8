-- What the parts of the reading of an EXEC say.
use Rattle.std.specs.Prelude.{◌≡◌, ℕ, Bool, true, false, ◌&&◌, List, [], ◌∷◌, codes, filter, map, Option, None, unwrap_or}
use Rattle.std.specs.List.{flat_map}
use Rattle.std.specs.Str.{bytes_eq}
use Rattle.jcl_plan.specs.declared.fault.Cause.{Cause}
use Rattle.jcl_symbols.specs.declared.symbol.Symbol.{Symbol}
use Rattle.operand_core.specs.Faults.{name_faults, told}
use Rattle.operand_core.specs.Keywords.{is_among, value_of}
use Rattle.operand_core.specs.Operands.{Keyword, Operand}
use Rattle.operand_core.specs.Qualified.{head_of, is_qualified}
use Rattle.jcl_cards.specs.declared.exec.StepCondition.{StepCondition}
use Rattle.jcl_cards.specs.declared.exec_keyword.ExecKeyword.{ExecKeyword as Word}
use Rattle.jcl_cards.specs.declared.exec_keyword.ExecKeyword.TheVariants as word
use Rattle.jcl_cards.specs.ExecCards.{ExecKeyword, IsLeftOut, IsUnknown, OfCondition, OfForm, OfParm, OfProcedure, OfProgram, OfSymbol, calls, condition_of, exec_keyword, faults_of, is_step_condition, is_symbol, procedure_of, step_condition, step_named}
use Rattle.jcl_cards.specs.Keywords.{symbol_of}

abbrev pub keyword_of : Word → ExecKeyword
keyword_of word.Program = OfProgram
keyword_of word.Procedure = OfProcedure
keyword_of word.Condition = OfCondition
keyword_of word.Parm = OfParm
keyword_of word.Form = OfForm
keyword_of word.Symbol = OfSymbol
keyword_of word.LeftOut = IsLeftOut
keyword_of word.Unknown = IsUnknown

abbrev pub IsExecKeyword : Word → ExecKeyword → Type 0
IsExecKeyword word is = keyword_of word ≡ is

abbrev pub is_left_out : List ℕ → Bool
is_left_out head = is_among (codes "RD" ∷ codes "ROLL" ∷ codes "DPRTY" ∷ []) head

abbrev pub is_form : List ℕ → Bool
is_form head = is_among (codes "REGION" ∷ codes "TIME" ∷ codes "ACCT" ∷ []) head

abbrev pub condition_faults : Option (List ℕ) → List Cause
condition_faults value = (condition_of value).faults

-- the faults of a keyword
abbrev pub faults_on : Bool → Keyword → List Cause
faults_on calls k = faults_of (exec_keyword calls k.key) k

-- the keywords have no fault on a statement that calls a procedure or not
abbrev pub HaveNoFault : Bool → List Keyword → Type 0
HaveNoFault calls keywords = flat_map (λ k. faults_of (exec_keyword calls k.key) k) keywords ≡ []

abbrev pub AreRead : List Keyword → Type 0
AreRead keywords = (calls : Bool) × HaveNoFault calls keywords

abbrev pub program_of : List Keyword → List ℕ
program_of keywords = unwrap_or (value_of (codes "PGM") keywords) []

abbrev pub symbols_of : List Keyword → List Symbol
symbols_of keywords = map symbol_of (filter is_symbol keywords)

abbrev pub step_conditions_of : List Keyword → List StepCondition
step_conditions_of keywords = map step_condition (filter is_step_condition keywords)

abbrev pub named_steps_of : List Keyword → List (List ℕ)
named_steps_of keywords = map (λ k. step_named k.key) (filter (λ k. is_qualified k.key) keywords)

-- what a step runs has a name, and its symbols have names
pub record CanRun (operand : Operand) : Type 0 where
  pub program : calls operand ≡ false → told (name_faults (program_of operand.keywords)) ≡ None
  pub procedure : calls operand ≡ true → told (name_faults (procedure_of operand)) ≡ None
  pub symbols : calls operand ≡ true → HaveNoFault true operand.keywords
