use Rattle.std.proofs.Common.{subst, sym}
use Rattle.world_meaning.specs.Worlds.{Config}
use Rattle.world_laws.specs.Beside.{RunsFit}
use Rattle.world_laws.proofs.Beside.{fits_stay}
use Rattle.world_laws.proofs.Effects.{changes}
use Rattle.world_laws.proofs.fits_stay.Goals as goal

pub returns : goal.returns
returns c = λ job_of old new e lines place x y r at running yes fits t there.
    let d = changes job_of old new e lines t in
    subst (λ (config : Config). RunsFit config y.running) (sym d.config) (fits_stay old new e place x y r at running yes fits there d.effect)
