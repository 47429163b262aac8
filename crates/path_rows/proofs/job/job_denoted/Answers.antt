use Rattle.path_rows.proofs.Formed.{each_is_formed}
use Rattle.path_rows.proofs.job.job_denoted.Goals as goal

pub returns : goal.returns
returns c = each_is_formed c.args.units.now c.args.library.now c.args.deck.now c.job_of.result c.job_of.ensures
