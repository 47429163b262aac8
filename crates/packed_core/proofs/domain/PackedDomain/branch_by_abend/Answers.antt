use Rattle.std.proofs.Common.{subst}
use Rattle.packed_core.specs.Crossing.{IsPlaced}
use Rattle.packed_core.proofs.Led.{abend_leads}
use Rattle.packed_core.proofs.domain.PackedDomain.branch_by_abend.Goals as goal

pub returns-in_ok-moves_by_abend-in-Ok : goal.returns-in_ok-moves_by_abend-in-Ok
returns-in_ok-moves_by_abend-in-Ok g c =
    let plan = g.J.Job.plan in
    let date = g.J.Job.fixed.date in
    let behind = c.args.behind.now in
    record {
      leads = λ left placed.
          abend_leads _ plan date behind c.args.row.items c.renumbered-row.result.items c.renumbered-row.ensures.bits c.in-Ok.number
          c.renumbered-row.ensures.first c.in_ok-moves_by_abend-in-Ok.field-0 c.in_ok-moves_by_abend-in-Ok.ensures left
          (subst (IsPlaced plan date behind left) c.in-Ok.is placed);
    }
