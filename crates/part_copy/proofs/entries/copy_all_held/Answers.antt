use Rattle.std.proofs.Common.{ℕ, List, refl, sym}
use Rattle.std.specs.FinMap as map
use Rattle.jcl_meaning.specs.declared.names.HeldName.{HeldName}
use Rattle.jcl_meaning.specs.Stores.{entry_in}
use Rattle.part_copy.specs.Copies.{is_of_name}
use Rattle.part_copy.proofs.Adding.{next, nothing}
use Rattle.part_copy.proofs.EntryCopies.{entries_behind}
use Rattle.part_copy.proofs.entries.copy_all_held.Goals as goal

pub loop-held-init : goal.loop-held-init
loop-held-init c = nothing entry_in (λ n. map.get c.args.catalog.now n) c.args.entries.now (λ n. refl)

pub loop-held-preserved : goal.loop-held-preserved
loop-held-preserved c =
    next entry_in (λ n. map.get c.args.catalog.now n) entries_behind (λ (h : HeldName) (n : List ℕ). is_of_name h.name n)
    c.args.names.now c.loop-held.held-index c.held-item.result c.args.entries.now c.loop-held.entries c.copy_held.new.entries
    c.loop-held-test.true (sym c.held-item.is) c.loop-held.invariant c.in_ok-copy_held.ensures
