use Rattle.std.proofs.Common.{◌≡◌, map, take}
use Rattle.queued_job.specs.Naming.{want_of}
use Rattle.queued_job.proofs.wants.wants_for.Given as goal

abbrev pub invariant-loop-held : goal.invariant-loop-held
invariant-loop-held l = l.wants.items ≡ map want_of (take l.held-index l.names)
