-- Operands of statements as they are spelled, and that what is asked of them is met.
use Rattle.std.proofs.Common.{◌≡◌, [], ◌∷◌, Some, None, arith, refl}
use Rattle.std.specs.Prelude.{codes}
use Rattle.std.specs.Fmt.{digits}
use Rattle.jcl_plan.specs.declared.plan.ConditionalWord.TheVariants as conditional
use Rattle.jcl_plan.specs.declared.plan.Status.TheVariants as status
use Rattle.jcl_plan.specs.declared.plan.Word.TheVariants as word
use Rattle.value_core.specs.declared.set.Disposition.{Disposition}
use Rattle.reader_laws.specs.Spelled.{joined}
use Rattle.reader_laws.specs.SpelledOperands.{Value, Values, of_characters}
use Rattle.reader_laws.specs.SpelledStatements.{IsJob, IsSetName, SpelledJob, call_operand, job_operand, program_operand, set_operand, status_alone, sysout_operand, three_words}

abbrev job : SpelledJob
job = record {
  name = codes "PAYROLL";
  accounting = Value.Parentheses (Values.Before (of_characters (codes "1")) (Values.Last (of_characters (codes "A")))) Value.End;
  programmer = Value.Apostrophes (codes "O'HARA, J") Value.End;
  class = 66;
  zeros = 1;
  priority = 12;
  message_class = 65;
}

job_spelled : job_operand job ≡ codes "(1,A),'O''HARA, J',CLASS=B,PRTY=012,MSGCLASS=A"
unfolding digits
job_spelled = refl

job_is_job : IsJob job
unfolding digits
job_is_job = record {
  accounting = refl;
  programmer = refl;
  name = refl;
  class = refl;
  priority = omega arith;
  message_class = refl;
  fits = omega arith;
}

program_spelled : program_operand (codes "IEFBR14") ≡ codes "PGM=IEFBR14"
program_spelled = refl

call_spelled : call_operand (codes "COPY") ≡ codes "COPY"
call_spelled = refl

sysout_spelled : sysout_operand 65 ≡ codes "SYSOUT=A"
sysout_spelled = refl

abbrev new_set : Disposition
new_set = record { status = status.New; normal = Some word.Catlg; conditional = Some conditional.Delete }

abbrev kept_set : Disposition
kept_set = record { status = status.Old; normal = None; conditional = Some conditional.Keep }

set_spelled : set_operand (joined (codes "PROD" ∷ codes "MASTER-1" ∷ [])) (three_words new_set)
    ≡ codes "DSN=PROD.MASTER-1,DISP=(NEW,CATLG,DELETE)"
set_spelled = refl

kept_spelled : set_operand (codes "PROD") (three_words kept_set) ≡ codes "DSN=PROD,DISP=(OLD,,KEEP)"
kept_spelled = refl

shared_spelled : set_operand (codes "PROD") (status_alone status.Shr) ≡ codes "DSN=PROD,DISP=SHR"
shared_spelled = refl

set_is_set_name : IsSetName (codes "PROD") (codes "MASTER-1" ∷ [])
set_is_set_name = record { components = refl; fits = omega arith; no_generation = refl; no_null = refl }
