use Rattle.machine_laws.specs.Deciding.{AreDecided}
use Rattle.sched_core.specs.Systems.{world_of}
use Rattle.sched_core.proofs.Driving.{along}
use Rattle.machine_laws.proofs.volumes_decide_a_session.Goals as goal

pub returns : goal.returns
returns c = λ o config events listing l. record {
  along = along (λ old e lines next s. AreDecided old e lines (world_of next) s) (λ old e lines next s. record {
    growth = c.growth_is_refused.ensures old e lines (world_of next) s;
    primary = c.primary_is_refused.ensures old e lines (world_of next) s;
    places = c.sets_are_placed.ensures old e lines (world_of next) s;
  }) l.first l.last events l.entries l.drives;
}
