use Rattle.std.proofs.Common.{subst, sym}
use Rattle.world_meaning.specs.Starts.{IsStart}
use Rattle.session_core.proofs.laws.promises_of_a_session.Goals as goal

pub returns : goal.returns
returns c = λ o config events listing l.
    c.chains_keep_promises.ensures l.first events l.entries l.last (subst IsStart (sym l.started.world) l.started.is_start) l.drives
