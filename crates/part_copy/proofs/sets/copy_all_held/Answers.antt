use Rattle.std.proofs.Common.{Some, refl, sym}
use Rattle.jcl_meaning.specs.declared.names.HeldName.{HeldName}
use Rattle.jcl_meaning.specs.Names.{held_under}
use Rattle.part_copy.specs.Copies.{Spot, bare_on, is_under, set_at}
use Rattle.part_copy.proofs.Adding.{next, nothing}
use Rattle.part_copy.proofs.Copied.{sets_behind}
use Rattle.part_copy.proofs.sets.copy_all_held.Goals as goal

pub loop-held-init : goal.loop-held-init
loop-held-init c = nothing set_at (bare_on c.args.job c.args.mounted.now) c.args.sets.now (λ q. refl)

pub loop-held-preserved : goal.loop-held-preserved
loop-held-preserved c =
    next set_at (bare_on c.args.job c.args.mounted.now) sets_behind (λ (h : HeldName) (q : Spot). is_under (Some h.name) (held_under q.0))
    c.args.names.now c.loop-held.held-index c.held-item.result c.args.sets.now c.loop-held.sets c.copy_held.new.sets
    c.loop-held-test.true (sym c.held-item.is) c.loop-held.invariant c.in_ok-copy_held.ensures
