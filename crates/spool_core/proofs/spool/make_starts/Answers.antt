use Rattle.std.proofs.Common.{subst, sym}
use Rattle.spool_core.specs.Places.{AreStarts}
use Rattle.spool_core.proofs.Filled.{starts_made}
use Rattle.spool_core.proofs.spool.make_starts.Goals as goal

pub loop-class-preserved : goal.loop-class-preserved
loop-class-preserved c = λ places s.
    subst (λ l. AreStarts l places) (sym c.in_ok-push.ensures.items) (starts_made c.loop-class.starts.items places (c.loop-class.invariant places s))
