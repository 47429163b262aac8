use Rattle.std.proofs.Common.{◌≡◌, ◌++◌, replicate}
use Rattle.jcl_plan.proofs.text.push_zeros.Given as goal

abbrev pub invariant-loop : goal.invariant-loop
invariant-loop l = record {
  kept : l.out.kept ≡ l.fn.out.kept;
  zeros : l.out.begun ≡ l.fn.out.begun ++ replicate l.counter 48;
}
