use Rattle.std.proofs.Common.{◌≡◌, ◌≤◌, All, take}
use Rattle.cond_core.specs.Breaks.{starts_of}
use Rattle.cond_core.proofs.classes.starts.Given as goal

abbrev pub invariant-loop-test : goal.invariant-loop-test
invariant-loop-test l = record { items : l.starts.items ≡ starts_of (take l.test-index l.tests); codes : All (λ n. n ≤ 4095) l.starts.items }
