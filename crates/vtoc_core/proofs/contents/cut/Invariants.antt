use Rattle.std.proofs.Common.{◌≡◌, ◌≤◌, ◌++◌, drop, length}
use Rattle.vtoc_core.specs.Extents.{kept_front, past_front}
use Rattle.vtoc_core.proofs.contents.cut.Given as goal

abbrev pub invariant-loop-extent : goal.invariant-loop-extent
invariant-loop-extent l = record {
  kept_few : length l.kept.items ≤ l.extent-index;
  past_few : length l.past.items ≤ l.extent-index;
  keeps : l.kept.items ++ kept_front l.left (drop l.extent-index l.extents) ≡ kept_front l.tracks l.extents;
  passes : l.past.items ++ past_front l.left (drop l.extent-index l.extents) ≡ past_front l.tracks l.extents;
}
