use Rattle.std.proofs.Common.{◌≡◌, ◌+◌, ◌*◌, ◌≤◌, ◌++◌, All, length, map, take}
use Rattle.cb_meaning.specs.Walks.{in_parts}
use Rattle.cb_read.specs.Ranges.{IsTestInRange}
use Rattle.cb_read.specs.Tests.{test_read, width_of}
use Rattle.cb_read.proofs.Parts.{parts_read}
use Rattle.cb_read.proofs.tests_read.tests_read.Given as goal

-- what was read, and then what is left, is the whole
abbrev pub invariant-loop-left : goal.invariant-loop-left
invariant-loop-left l = record {
  room : length l.tests.items + l.left ≤ 8;
  size : width_of l.kind * l.left ≤ length l.rest;
  range : All IsTestInRange (parts_read (test_read l.kind) (width_of l.kind) l.left l.rest);
  whole : map (test_read l.kind) (take l.count (in_parts 8 (width_of l.kind) l.fn.bytes)) ≡
      l.tests.items ++ parts_read (test_read l.kind) (width_of l.kind) l.left l.rest;
}

abbrev pub decreases-loop-left : goal.decreases-loop-left
decreases-loop-left l = l.left
