use Rattle.std.proofs.Common.{◌≡◌, [], drop, length, map}
use Rattle.jcl_refs.specs.Kinds.{plans_from}
use Rattle.jcl_refs.specs.Plans.{kinds_in}
use Rattle.jcl_refs.proofs.kinds.planned_dds.Given as goal

-- those that are planned, with what is left, are all
abbrev pub invariant-loop-dd : goal.invariant-loop-dd
invariant-loop-dd l = record {
  counts : length l.planned ≡ l.dd-index;
  left : plans_from l.steps l.call l.k (map kinds_in l.done) l.planned (drop l.dd-index l.dds) ≡ plans_from l.steps l.call l.k (map kinds_in l.done) [] l.dds;
}
