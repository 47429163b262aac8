use Rattle.std.proofs.Common.{◌≡◌, sym, ap, subst, ◌∙◌, rules}
use Rattle.world_meaning.specs.Placements.{ArePlaces}
use Rattle.place_core.specs.Placings.{placed}
use Rattle.place_core.proofs.Configured.{are_places}
use Rattle.place_core.proofs.place.place_sets.Goals as goal

pub returns-in-Ok-clause-configured : goal.returns-in-Ok-clause-configured
returns-in-Ok-clause-configured c = λ k volumes units.
    let is : c.place_steps-done.new.places ≡ placed c.args.store.now.volumes c.args.units.now c.args.job c.args.plan.now = search rules in
    subst (ArePlaces k c.args.plan.now) (ap (λ u. placed c.args.store.now.volumes u c.args.job c.args.plan.now) units ∙ sym is)
    (are_places k c.args.store.now.volumes c.args.job c.args.plan.now volumes)
