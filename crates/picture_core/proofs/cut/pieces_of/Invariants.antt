use Rattle.std.proofs.Common.{◌≡◌}
use Rattle.picture_core.specs.Cuts.{IsCut}
use Rattle.picture_core.specs.Scales.{last_column}
use Rattle.picture_core.proofs.cut.pieces_of.Given as goal

abbrev pub invariant-loop-place : goal.invariant-loop-place
invariant-loop-place l = record { cut : IsCut l.cutter; last : l.cutter.last ≡ last_column l.axis.scale }
