use Rattle.std.proofs.Common.{◌≡◌, ◌+◌, ◌++◌, [], drop, length}
use Rattle.jcl_refs.specs.Planning.{HaveFewDds, counts_in, planned_counts, steps_by}
use Rattle.jcl_refs.proofs.plan.planned_steps.Given as goal

-- those that are planned, with what is left, are all
abbrev pub invariant-loop-n : goal.invariant-loop-n
invariant-loop-n l = record {
  planned : steps_by l.left 1 [] l.many_dd_names l.left ≡ steps_by l.left (l.n + 1) l.done (drop l.n l.many_dd_names) (drop l.n l.left);
  place : length l.done ≡ l.n;
  few : HaveFewDds l.done;
  counts : planned_counts l.done ++ counts_in (drop l.n l.left) ≡ counts_in l.left;
}
