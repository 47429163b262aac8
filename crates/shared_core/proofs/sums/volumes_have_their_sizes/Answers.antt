use Rattle.std.proofs.Common.{subst, ◌∙◌}
use Rattle.std.specs.List.{All}
use Rattle.std.proofs.lemmas.List.{take_all}
use Rattle.std.proofs.lemmas.List.Elements.{All-more}
use Rattle.shared_core.specs.Sizes.{HasItsSize}
use Rattle.shared_core.proofs.sums.volumes_have_their_sizes.Goals as goal

pub loop-mounted-preserved : goal.loop-mounted-preserved
loop-mounted-preserved c =
    All-more HasItsSize c.as_slice-mounted-items.result.now c.loop-mounted.mounted-index c.mounted-item.result c.loop-mounted-test.true c.loop-mounted.invariant
    (subst HasItsSize c.mounted-item.is c.tracks_add_up.ensures)

pub returns : goal.returns
returns c =
    subst (All HasItsSize) (take_all c.loop-mounted.mounted-index c.as_slice-mounted-items.result.now c.loop-mounted-test.false ∙ c.as_slice-mounted-items.ensures)
    c.loop-mounted.invariant
