use Rattle.std.proofs.Common.{ap, sym, ◌∙◌}
use Rattle.machine_core.proofs.Releasing.{is_released}
use Rattle.machine_core.proofs.Unnamed.{none_given_free}
use Rattle.machine_core.proofs.over.release_unnamed.Goals as goal

pub returns-clause-back : goal.returns-clause-back
returns-clause-back g c = record {
  records = c.leave.ensures.records;
  names = ap (λ p. p.names) c.leave.ensures.rest ∙ sym (none_given_free c.args.parts.now.names c.args.job c.requires.unnamed);
  cancels = ap (λ p. p.cancels) c.leave.ensures.rest;
  store = c.leave.ensures.back;
  units = ap (λ p. p.units) c.leave.ensures.rest;
  spool = ap (λ p. p.spool) c.leave.ensures.rest;
  date = ap (λ p. p.date) c.leave.ensures.rest;
}

pub returns-clause-released : goal.returns-clause-released
returns-clause-released g c config layout = is_released g.Q.RecordStore.queue config c.args.job c.args.parts.now _ layout (returns-clause-back g c) c.leave.ensures.conserves
