use Rattle.std.proofs.Common.{◌≡◌, ◌≤◌, length, arith}
use Rattle.jcl_meaning.specs.Views.{IsViewAfter}
use Rattle.path_search.proofs.Across.{at_inside, drop_inside, holds_at, made_dds}
use Rattle.path_search.proofs.crossing.cross.Goals as goal

pub mark_crossed-requires : goal.mark_crossed-requires
mark_crossed-requires g c =
    let domain = c.args.domain.now in
    let fixed = g.D.ViewDomain.fixed domain in
    let plan = g.D.ViewDomain.plan domain in
    let store = g.D.ViewDomain.store domain in
    let before = g.D.ViewDomain.members domain c.args.before.now in
    let to_end : c.args.part ≤ length plan.steps = let inside = c.requires.part in omega arith in
    let view = at_inside before c.args.number c.requires.number in
    let step = drop_inside c.args.part plan.steps c.requires.part in
    record {
      dds = made_dds c.path_laws.ensures fixed plan store c.args.part to_end c.requires.job_tests c.requires.fits
          (g.D.ViewDomain.meaning domain c.transfer.new.behind)
          (g.D.ViewDomain.members domain c.transfer.new.behind) c.args.number before c.in_ok-crossed.crossed c.in_ok-crossed.ensures.crossed view.0
          step.0 step.1
          (length c.args.behind.now.made.items) step.2 (c.requires.rows step.0 step.1 step.2) view.1
          (holds_at (IsViewAfter fixed plan store c.args.part) before c.args.number view.0 c.requires.seen view.1);
    }
