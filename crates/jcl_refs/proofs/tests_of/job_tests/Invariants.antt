use Rattle.std.proofs.Common.{◌≡◌, ◌++◌, drop, length, map}
use Rattle.jcl_refs.specs.Plans.{job_test}
use Rattle.jcl_refs.proofs.tests_of.job_tests.Given as goal

-- those that are found, with what is left, are all
abbrev pub invariant-loop-test : goal.invariant-loop-test
invariant-loop-test l = record {
  counts : length l.found.items ≡ l.test-index;
  left : l.found.items ++ map job_test (drop l.test-index l.coded) ≡ map job_test l.coded;
}
