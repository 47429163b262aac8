use Rattle.std.proofs.Common.{◌≡◌, ◌+◌, ◌-◌, ◌≤◌, ◌++◌, length, take, vec_capacity, vec_len}
use Rattle.enq_core.specs.Holds.{holds_of}
use Rattle.enq_core.proofs.table.append.Given as goal

abbrev pub invariant-loop-want : goal.invariant-loop-want
invariant-loop-want l = record {
  held : l.holds.items ≡ l.initial.holds.items ++ holds_of l.job (take l.want-index l.wants);
  room : vec_len l.holds + (length l.wants - l.want-index) ≤ vec_capacity l.holds;
}
