use Rattle.part_copy.proofs.Held.{behind_there}
use Rattle.part_copy.proofs.sets.generation_sets.Goals as goal

pub returns-in-None-clause-all : goal.returns-in-None-clause-all
returns-in-None-clause-all c = behind_there c.args.base.now c.sets_from.result c.args.volume.now.sets c.sets_from.ensures
