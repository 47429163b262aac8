use Rattle.std.proofs.Common.{◌≡◌, ◌⊎◌, ◌<◌, ◌≤◌, ◌-◌, false, length, true}
use Rattle.deck_places.specs.Cuts.{cut, refuses}
use Rattle.deck_places.proofs.refusing.Sources.bringer.Given as goal

abbrev pub invariant-loop-low : goal.invariant-loop-low
invariant-loop-low l = record {
  before : (l.low ≡ 0) ⊎ (refuses l.fn.part l.fn.self.units.now l.fn.self.library.now (cut l.low l.fn.statements) ≡ false);
  behind : refuses l.fn.part l.fn.self.units.now l.fn.self.library.now (cut l.high l.fn.statements) ≡ true;
  order : l.low < l.high;
  within : l.high ≤ length l.fn.statements;
}

abbrev pub decreases-loop-low : goal.decreases-loop-low
decreases-loop-low l = l.high - l.low
