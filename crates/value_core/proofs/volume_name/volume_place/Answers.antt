use Rattle.std.proofs.Common.{ℕ, List, Option, sym, subst}
use Rattle.value_core.specs.Reads.{IsRead}
use Rattle.value_core.specs.VolumeNames.{volume_place}
use Rattle.value_core.proofs.volume_name.volume_place.Goals as goal

pub returns-in-Some : goal.returns-in-Some
returns-in-Some c =
    subst (λ (found : Option (List ℕ × List ℕ)). IsRead c.by_key.result (volume_place c.args.place.now found)) (sym c.in-Some.ensures) c.by_key.ensures

pub returns-in-None : goal.returns-in-None
returns-in-None c =
    subst (λ (found : Option (List ℕ × List ℕ)). IsRead c.without_key.result (volume_place c.args.place.now found)) (sym c.in-None.ensures) c.without_key.ensures
