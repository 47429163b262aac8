use Rattle.std.proofs.Common.{refl}
use Rattle.jcl_symbols.specs.Substitutions.{substituted_from}
use Rattle.deck_laws.proofs.example.Goals as goal

pub returns : goal.returns
unfolding substituted_from
returns c = record { read = refl; steps = refl }
