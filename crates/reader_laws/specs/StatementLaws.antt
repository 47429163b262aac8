-- JOB, EXEC and DD statements that are spelled read back.
use Rattle.std.specs.Prelude.{◌≡◌, ℕ, true, List, [], ◌∷◌, codes, Option, Some, None, Ok}
use Rattle.jname_core.specs.declared.key.Key.TheVariants.{Named}
use Rattle.jcl_plan.specs.declared.plan.Status.{Status}
use Rattle.value_core.specs.declared.set.Disposition.{Disposition}
use Rattle.value_core.specs.declared.set.SetName.TheVariants.{Of}
use Rattle.jcl_cards.specs.declared.coded.Coded.TheVariants.{Value}
use Rattle.jcl_cards.specs.declared.exec.Runs.TheVariants.{Procedure, Program}
use Rattle.jcl_cards.specs.ExecCards.{exec_card}
use Rattle.jcl_cards.specs.JobCards.{job_card}
use Rattle.jcl_dds.specs.declared.dd.Word.TheVariants.{Cards, Dummy}
use Rattle.jcl_dds.specs.DdCards.{dd_card}
use Rattle.value_core.specs.Reads.{answer}
use Rattle.reader_laws.specs.Spelled.{is_among, is_name, joined}
use Rattle.reader_laws.specs.SpelledSessions.{class_characters}
use Rattle.reader_laws.specs.SpelledStatements.{IsJob, IsSetName, SpelledJob, call_operand, empty_dd, is_name_or_none, job_of, job_operand, name_text, only_status, program_operand, set_operand, status_alone, step_of, sysout_operand, three_words}

abbrev pub JobReadsBack : Type 0
JobReadsBack = (j : SpelledJob) → IsJob j → answer (job_card j.name (job_operand j)) ≡ Ok (job_of j)

abbrev pub ProgramReadsBack : Type 0
ProgramReadsBack = (name : Option (List ℕ)) (program : List ℕ) → is_name_or_none name ≡ true → is_name program ≡ true →
    answer (exec_card (name_text name) (program_operand program)) ≡ Ok (step_of name (Program program))

abbrev pub CallReadsBack : Type 0
CallReadsBack = (name : Option (List ℕ)) (procedure : List ℕ) → is_name_or_none name ≡ true → is_name procedure ≡ true →
    answer (exec_card (name_text name) (call_operand procedure)) ≡ Ok (step_of name (Procedure procedure []))

pub record DdsReadBack : Type 0 where
  pub dummy : (name : Option (List ℕ)) → is_name_or_none name ≡ true →
      answer (dd_card (name_text name) (codes "DUMMY") None) ≡ Ok (record (empty_dd name) { word = Some Dummy })
  pub cards : (name : Option (List ℕ)) (cards : List (List ℕ)) → is_name_or_none name ≡ true →
      answer (dd_card (name_text name) (codes "*") (Some cards)) ≡ Ok (record (empty_dd name) { word = Some (Cards cards) })
  pub all_cards : (name : Option (List ℕ)) (cards : List (List ℕ)) → is_name_or_none name ≡ true →
      answer (dd_card (name_text name) (codes "DATA") (Some cards)) ≡ Ok (record (empty_dd name) { word = Some (Cards cards) })
  pub sysout : (name : Option (List ℕ)) (class : ℕ) → is_name_or_none name ≡ true → is_among class_characters class ≡ true →
      answer (dd_card (name_text name) (sysout_operand class) None) ≡ Ok (record (empty_dd name) { sysout = Value class })
  pub unnamed : (name : Option (List ℕ)) → is_name_or_none name ≡ true → answer (dd_card (name_text name) [] None) ≡ Ok (empty_dd name)

-- a DD of a set that its name and DISP say
pub record SetsReadBack : Type 0 where
  pub words : (name : Option (List ℕ)) (part : List ℕ) (parts : List (List ℕ)) (d : Disposition) → is_name_or_none name ≡ true → IsSetName part parts →
      answer (dd_card (name_text name) (set_operand (joined (part ∷ parts)) (three_words d)) None)
      ≡ Ok (record (empty_dd name) { set_name = Value (Of (Named (joined (part ∷ parts)))); disposition = Value d })
  pub status : (name : Option (List ℕ)) (part : List ℕ) (parts : List (List ℕ)) (s : Status) → is_name_or_none name ≡ true → IsSetName part parts →
      answer (dd_card (name_text name) (set_operand (joined (part ∷ parts)) (status_alone s)) None)
      ≡ Ok (record (empty_dd name) { set_name = Value (Of (Named (joined (part ∷ parts)))); disposition = Value (only_status s) })
