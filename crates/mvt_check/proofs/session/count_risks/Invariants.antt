use Rattle.std.proofs.Common.{◌≡◌, ◌≤◌, ◌+◌, drop}
use Rattle.mvt_check.specs.Checking.{risks_in}
use Rattle.mvt_check.proofs.session.count_risks.Given as goal

abbrev pub invariant-loop-n : goal.invariant-loop-n
invariant-loop-n l = record {
  counted : risks_in l.answers ≡ l.count + risks_in (drop l.n l.answers);
  few : l.count ≤ l.n;
}
