use Rattle.packed_core.proofs.Bits.{clear_elsewhere, clear_here, clear_within}
use Rattle.packed_core.proofs.words.unmark.Goals as goal

pub returns-clause-here : goal.returns-clause-here
returns-clause-here c = clear_here c.args.row.now c.args.i c.requires.there

pub returns-clause-elsewhere : goal.returns-clause-elsewhere
returns-clause-elsewhere c = clear_elsewhere c.args.row.now c.args.i c.requires.there

pub returns-clause-within : goal.returns-clause-within
returns-clause-within c j = clear_within c.args.row.now c.args.i c.requires.there c.requires.within j
