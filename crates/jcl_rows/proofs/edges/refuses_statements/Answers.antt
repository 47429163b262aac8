use Rattle.std.proofs.Common.{refl}
use Rattle.jcl_symbols.specs.Substitutions.{substituted_from}
use Rattle.jcl_rows.proofs.edges.refuses_statements.Goals as goal

pub returns : goal.returns
unfolding substituted_from
returns c = record {
  two_jobs = refl;
  procedure_without_a_name = refl;
  unknown_operation = refl;
  pend_of_nothing = refl;
  unknown_keyword = refl;
  program_twice = refl;
  name_twice = refl;
  greatest_code = refl;
  code_too_great = refl;
  word_and_class = refl;
  even_and_only = refl;
  open_parenthesis = refl;
  two_positional = refl;
  no_program_and_no_procedure = refl;
  program_and_procedure = refl;
  no_step = refl;
  dd_before_exec = refl;
  job_library = refl;
}
