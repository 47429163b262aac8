use Rattle.std.proofs.Common.{◌≡◌, drop}
use Rattle.mvt_check.specs.Checking.{later_fault}
use Rattle.mvt_check.proofs.session.later_fault.Given as goal

abbrev pub invariant-loop-statement : goal.invariant-loop-statement
invariant-loop-statement l = later_fault l.opened.late l.behind ≡ later_fault l.opened.late (drop l.statement-index l.behind)
