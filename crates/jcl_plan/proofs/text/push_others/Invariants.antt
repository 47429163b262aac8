use Rattle.std.proofs.Common.{◌≡◌, ◌++◌, drop}
use Rattle.jcl_plan.specs.Texts.{others_text}
use Rattle.jcl_plan.proofs.text.push_others.Given as goal

-- what is written and what is left are the whole
abbrev pub invariant-loop-outcome : goal.invariant-loop-outcome
invariant-loop-outcome l = record {
  kept : l.out.kept ≡ l.fn.out.kept;
  whole : l.out.begun ++ others_text (drop l.outcome-index l.others) ≡ l.fn.out.begun ++ others_text l.others;
}
