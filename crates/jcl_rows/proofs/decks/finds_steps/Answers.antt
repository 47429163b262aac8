use Rattle.std.proofs.Common.{refl}
use Rattle.jcl_rows.proofs.decks.finds_steps.Goals as goal

pub returns : goal.returns
returns c = record {
  earlier = refl;
  itself = refl;
  later = refl;
}
