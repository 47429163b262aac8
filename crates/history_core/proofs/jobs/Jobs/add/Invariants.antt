use Rattle.std.proofs.Common.{◌≡◌, ◌<◌, ◌≤◌, ℕ, length}
use Rattle.history_core.specs.Jobs.{name_at}
use Rattle.history_core.proofs.jobs.Jobs.add.Given as goal

abbrev pub invariant-loop-number : goal.invariant-loop-number
invariant-loop-number l = record {
  long : length l.fn.self ≤ l.job → length l.self-inside.names.items ≡ l._number;
  longer : length l.fn.self ≤ length l.self-inside.names.items;
  others : (k : ℕ) → k < length l.fn.self → name_at l.self-inside.names.items k ≡ name_at l.fn.self k;
}
