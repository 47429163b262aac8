use Rattle.std.proofs.Common.{refl}
use Rattle.jcl_symbols.specs.Substitutions.{substituted_from}
use Rattle.jcl_rows.proofs.procedures.expands_decks.Goals as goal

pub returns : goal.returns
unfolding substituted_from
returns c = record {
  without_a_call = refl;
  no_such_procedure = refl;
  faults_of_its_cards = refl;
  override_of_a_program = refl;
}
