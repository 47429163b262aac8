use Rattle.std.proofs.Common.{◌≡◌, drop, length}
use Rattle.jcl_refs.specs.Plans.{tests_of}
use Rattle.jcl_refs.proofs.TestLists.{behind}
use Rattle.jcl_refs.proofs.tests_of.tests_of.Given as goal

-- those that are found, with what is left, are all
abbrev pub invariant-loop-test : goal.invariant-loop-test
invariant-loop-test l = record {
  counts : length l.found.items ≡ l.test-index;
  left : behind l.found.items (tests_of l.call l.k l.steps (drop l.test-index l.coded)) ≡ tests_of l.call l.k l.steps l.coded;
}
