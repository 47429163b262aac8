use Rattle.record_rows.proofs.Writable.{each_is_writable}
use Rattle.record_rows.proofs.deck.denoted.Goals as goal

pub returns : goal.returns
returns c = each_is_writable c.args.units.now c.new.result c.args.deck.now c.job_of-2.result c.job_of-2.ensures
