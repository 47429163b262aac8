use Rattle.std.proofs.Common.{◌≡◌, ◌++◌, drop}
use Rattle.svg_text.specs.Elements.{escaped}
use Rattle.svg_text.specs.Pictures.{points_text}
use Rattle.svg_text.proofs.text.push_points.Given as goal

-- what is written and what is left are the whole
abbrev pub invariant-loop-point : goal.invariant-loop-point
invariant-loop-point l = record {
  kept : l.out.kept ≡ l.fn.out.kept;
  whole : l.out.begun ++ escaped (points_text (drop l.point-index l.points)) ≡ l.fn.out.begun ++ escaped (points_text l.points);
}
