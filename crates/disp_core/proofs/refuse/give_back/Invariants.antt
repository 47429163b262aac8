use Rattle.std.proofs.Common.{◌≡◌, drop}
use Rattle.jcl_meaning.specs.TakeActs.{all_given_back}
use Rattle.disp_core.proofs.refuse.give_back.Given as goal

-- what is left decides
abbrev pub invariant-loop-x : goal.invariant-loop-x
invariant-loop-x g l = record {
  seen : all_given_back (drop l.x-index l.dds) (g.S.JobStore.seen l.job l.store) ≡ all_given_back l.dds (g.S.JobStore.seen l.job l.fn.store);
  rest : g.S.JobStore.gives_up (g.S.JobStore.rest l.job l.fn.store) (g.S.JobStore.rest l.job l.store);
}
