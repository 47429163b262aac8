use Rattle.std.proofs.Common.{List, subst}
use Rattle.std.specs.FinMap as map
use Rattle.jcl_meaning.specs.declared.store.SoloEntry.{SoloEntry}
use Rattle.part_copy.specs.Copies.{AddsEntries, is_of_some}
use Rattle.part_copy.proofs.EntryCopies.{all_copied, all_seen}
use Rattle.part_copy.proofs.entries.entries_seen.Goals as goal

pub returns-clause-copied : goal.returns-clause-copied
returns-clause-copied c =
    all_copied c.args.names.now c.args.catalog.now c.copy_all_held.new.entries
    (subst (λ (old : List SoloEntry). AddsEntries (λ n. map.get c.args.catalog.now n) (is_of_some c.args.names.now) old c.copy_all_held.new.entries)
    c.empty-entries.ensures c.in_ok-copy_all_held.ensures)

pub returns-clause-seen : goal.returns-clause-seen
returns-clause-seen c =
    all_seen c.args.names.now c.args.catalog.now c.copy_all_held.new.entries
    (subst (λ (old : List SoloEntry). AddsEntries (λ n. map.get c.args.catalog.now n) (is_of_some c.args.names.now) old c.copy_all_held.new.entries)
    c.empty-entries.ensures c.in_ok-copy_all_held.ensures)
