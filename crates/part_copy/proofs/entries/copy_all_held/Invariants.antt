use Rattle.std.proofs.Common.{take}
use Rattle.std.specs.FinMap as map
use Rattle.part_copy.specs.Copies.{AddsEntries, is_of_some}
use Rattle.part_copy.proofs.entries.copy_all_held.Given as goal

abbrev pub invariant-loop-held : goal.invariant-loop-held
invariant-loop-held l = AddsEntries (λ n. map.get l.catalog n) (is_of_some (take l.held-index l.names)) l.fn.entries l.entries
