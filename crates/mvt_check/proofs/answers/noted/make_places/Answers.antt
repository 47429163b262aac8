use Rattle.std.proofs.Common.{◌≡◌, ◌+◌, ◌∙◌, None, get_or, length, length-append, ap, arith}
use Rattle.mvt_check.proofs.Noting.{place_more}
use Rattle.mvt_check.proofs.answers.noted.make_places.Goals as goal

pub loop-place-preserved : goal.loop-place-preserved
loop-place-preserved c =
    let more : length c.push.new.self.items ≡ length c.loop-place.by_job.items + 1 = ap length c.in_ok-push.ensures.items ∙ length-append _ _ in
    record {
      long = let before = c.loop-place.invariant.long in omega (arith, more, before);
      same = λ job. ap (λ xs. get_or xs job None) c.in_ok-push.ensures.items ∙ place_more c.loop-place.by_job.items job ∙ c.loop-place.invariant.same job;
    }
