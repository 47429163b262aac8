use Rattle.session_core.proofs.Started.{configured_run}
use Rattle.session_core.proofs.laws.listings_are_runs.Goals as goal

pub returns : goal.returns
returns c = λ o config events listing l. configured_run c.chains_are_runs.ensures o config l.first l.last events l.entries l.started l.drives
