use Rattle.std.proofs.Common.{◌≡◌, ◌++◌, take}
use Rattle.std.specs.List.{flat_map}
use Rattle.play_core.specs.Given.{line_of}
use Rattle.play_core.specs.Texts.{ended}
use Rattle.play_core.proofs.lines.with_events.Given as goal

abbrev pub invariant-loop-next : goal.invariant-loop-next
invariant-loop-next l = l.out.items ≡ ended l.text ++ flat_map line_of (take l.next-index l.given)
