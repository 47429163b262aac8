use Rattle.std.proofs.Common.{ap, subst, ◌∙◌, IfOk}
use Rattle.jcl_meaning.specs.Dispositions.{as_taken, disposed_by, left_word}
use Rattle.jcl_meaning.specs.EndActs.{left_disposed}
use Rattle.jcl_meaning.specs.Plans.{conditional_meaning}
use Rattle.job_text.specs.Texts.{disp_as}
use Rattle.disp_core.specs.Acting.{Meets, at_site}
use Rattle.disp_core.proofs.dispose.leave_set.Goals as goal

pub returns : goal.returns
returns g c =
    let seen = g.S.JobStore.seen c.args.at.now.job c.args.store.now in
    let after = g.S.JobStore.seen c.args.at.now.job c.left_disposed.new.store in
    let q = c.args.q.now in
    let date = c.args.given.now.date in record {
      ok = subst
          (λ d. IfOk c.left_disposed.result (λ meets.
          Meets (λ s. at_site left_disposed c.args.given.now c.args.at.now q s d) seen c.args.course.now after c.left_disposed.new.course meets))
          (c.disposed_by-disposed.ensures
          ∙ ap (λ t. disposed_by c.left_word-word.result seen t date) c.as_taken.ensures
          ∙ ap (λ w. disposed_by w seen (as_taken q) date) c.left_word-word.ensures
          ∙ ap (λ w. disposed_by (left_word c.is_temporary-temporary.result q.abend_later w q.made) seen (as_taken q) date) c.conditional_meaning-conditional.ensures
          ∙ ap (λ b. disposed_by (left_word b q.abend_later (conditional_meaning b (disp_as c.args.p.now).conditional) q.made) seen (as_taken q) date) c.is_temporary-temporary.ensures)
          c.left_disposed.ensures.ok;
      err = c.left_disposed.ensures.err;
      rest = c.left_disposed.ensures.rest;
    }
