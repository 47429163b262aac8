use Rattle.std.proofs.Common.{refl}
use Rattle.jcl_rows.proofs.decks.reads_decks.Goals as goal

pub returns : goal.returns
returns c = record {
  whole = refl;
  no_job = refl;
  second_job = refl;
  second_job_in_a_procedure = refl;
  no_step = refl;
  unknown_operation = refl;
  pend_of_nothing = refl;
  unknown_operation_in_a_procedure = refl;
  dd_before_exec = refl;
  unnamed_dd_before_exec = refl;
  nothing_to_continue = refl;
  procedure_within = refl;
  missing_pend = refl;
  procedures_15 = refl;
  procedures_16 = refl;
}
