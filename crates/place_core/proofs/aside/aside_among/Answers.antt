use Rattle.std.proofs.Common.{sym, ap, ◌∙◌}
use Rattle.place_core.specs.Volumes.{aside_at}
use Rattle.place_core.proofs.Choosing.{zero_same}
use Rattle.place_core.proofs.aside.aside_among.Goals as goal

pub returns-then-tracks-eq0-clause-ok : goal.returns-then-tracks-eq0-clause-ok
returns-then-tracks-eq0-clause-ok c =
    sym (ap (λ n. aside_at c.copied.result c.args.at n c.args.volumes.now) c.if-tracks-eq0.true ∙ zero_same c.args.volumes.now c.args.at c.copied.result)
