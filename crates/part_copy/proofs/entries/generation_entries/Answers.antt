use Rattle.part_copy.proofs.EntryCopies.{behind_there}
use Rattle.part_copy.proofs.entries.generation_entries.Goals as goal

pub returns-in-None-clause-all : goal.returns-in-None-clause-all
returns-in-None-clause-all c = behind_there c.args.base.now c.entries_from.result c.args.catalog.now c.entries_from.ensures
