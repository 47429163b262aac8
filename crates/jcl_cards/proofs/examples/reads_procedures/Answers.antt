use Rattle.std.proofs.Common.{refl}
use Rattle.jcl_cards.proofs.examples.reads_procedures.Goals as goal

pub returns : goal.returns
returns c = record {
  of_symbols = refl;
  of_the_library = refl;
  without_a_name = refl;
  positional = refl;
  twice = refl;
  of_a_step = refl;
}
