use Rattle.std.proofs.Common.{◌≡◌, map, take}
use Rattle.sched_core.specs.Starting.{no_lines}
use Rattle.sched_core.proofs.start.backlog_of.Given as goal

abbrev pub invariant-loop-job : goal.invariant-loop-job
invariant-loop-job l = l.backlog ≡ map no_lines (take l.job-index l.jobs)
