use Rattle.std.proofs.Common.{◌≡◌, ◌-◌, ◌++◌, length}
use Rattle.std.specs.Option.{option_map}
use Rattle.extent_core.specs.Extents.{free_extents}
use Rattle.vtoc_core.specs.Extents.{largest_taken}
use Rattle.vtoc_core.specs.Searches.{WereTaken}
use Rattle.vtoc_core.proofs.space.take_each.Given as goal

abbrev pub invariant-loop-turn : goal.invariant-loop-turn
invariant-loop-turn l = record {
  count : length l.taken.items ≡ l._turn;
  were : WereTaken l.initial.free l.taken.items l.free;
  rest : largest_taken 5 (free_extents l.initial.free) l.wanted
      ≡ option_map (λ more. l.taken.items ++ more) (largest_taken (5 - l._turn) (free_extents l.free) l.left);
}
