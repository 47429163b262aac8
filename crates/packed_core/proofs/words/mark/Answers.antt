use Rattle.std.proofs.Common.{◌∙◌, Bool, ap, sym}
use Rattle.std.specs.Prelude.{◌||◌}
use Rattle.packed_core.specs.Words.{bit}
use Rattle.packed_core.proofs.Bits.{mark_elsewhere, mark_here, mark_within}
use Rattle.packed_core.proofs.words.mark.Goals as goal

pub returns-then-b-clause-here : goal.returns-then-b-clause-here
returns-then-b-clause-here c =
    mark_here c.args.row.now c.args.i c.requires.there ∙ sym (ap (λ (b : Bool). b || bit c.args.row.now c.args.i) c.if-b.true)

pub returns-then-b-clause-elsewhere : goal.returns-then-b-clause-elsewhere
returns-then-b-clause-elsewhere c = mark_elsewhere c.args.row.now c.args.i c.requires.there

pub returns-then-b-clause-within : goal.returns-then-b-clause-within
returns-then-b-clause-within c j = mark_within c.args.row.now c.args.i c.requires.there c.requires.within j
