use Rattle.std.proofs.Common.{◌∙◌, ap, length, refl}
use Rattle.disp_core.specs.Courses.{fixed_by}
use Rattle.jcl_meaning.specs.Agendas.{lefts_from}
use Rattle.view_core.proofs.Leaving.{left_as}
use Rattle.view_core.proofs.domain.PlainDomain.end_on.Goals as goal

pub returns : goal.returns
returns c =
    let domain = c.args.self.now in
    let lefts = c.in_ok-lefts.lefts.items in
    record {
      old = c.in_ok-under.under;
      new = c.leave_all.new.under;
      lefts = lefts;
      store = c.in_ok-under.ensures.0;
      begun = c.in_ok-under.ensures.1;
      these = c.in_ok-lefts.ensures ∙ ap (lefts_from 1) c.as_slice-steps.ensures;
      leaves = left_as (fixed_by domain.given) (length c.as_slice-steps.result.now) (length domain.plan.now.steps) c.as_slice.result.now lefts
          c.in_ok-under.under c.leave_all.new.under c.in_ok-stop.stop c.in_ok-stop.stop (ap length c.as_slice-steps.ensures) c.as_slice.ensures.value refl
          c.in_ok-stop.ensures;
    }
