use Rattle.std.proofs.Common.{subst}
use Rattle.world_laws.specs.Beside.{FitsAt}
use Rattle.world_laws.proofs.Beside.{turn_fits}
use Rattle.world_laws.proofs.turn_fits.Goals as goal

pub returns : goal.returns
returns c = λ config old r plan a count own lines new runs is fits turn.
    turn_fits config old r plan a count own (subst (FitsAt config) is fits) lines new runs fits turn
