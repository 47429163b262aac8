use Rattle.place_core.specs.Keepings.{IsGivenBackOn}
use Rattle.place_core.proofs.Pairwise.{ChangedUpTo}
use Rattle.place_core.proofs.keep.give_back_on_each.Given as goal

abbrev pub invariant-loop-mounted : goal.invariant-loop-mounted
invariant-loop-mounted l = ChangedUpTo (IsGivenBackOn l.job) l.mounted-index l.fn.volumes l.volumes
