use Rattle.std.proofs.Common.{◌≡◌, take}
use Rattle.std.specs.List.{flat_map}
use Rattle.cb_meaning.specs.Codes.{job_test_bytes}
use Rattle.cb_meaning.specs.Fields.{then_zeros}
use Rattle.cb_chain.proofs.texts.job_tests.Given as goal

abbrev pub invariant-loop-i : goal.invariant-loop-i
invariant-loop-i l = l.own ≡ then_zeros 24 (flat_map job_test_bytes (take l.i l.tests))
