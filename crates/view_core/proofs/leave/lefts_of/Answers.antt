use Rattle.std.proofs.Common.{◌+◌, ◌++◌, ℕ, take, sym, ap, ◌∙◌}
use Rattle.jcl_meaning.specs.Agendas.{lefts_from, lefts_in}
use Rattle.view_core.proofs.Leaving.{from_more}
use Rattle.view_core.proofs.Runs.{front_more, front_number}
use Rattle.view_core.proofs.leave.lefts_of.Goals as goal

pub loop-i-preserved : goal.loop-i-preserved
loop-i-preserved c =
    let i = c.loop-i.i in
    let steps = c.args.steps.now in
    let s = c.index-steps-i.result in
    c.in_ok-push_dds.ensures
    ∙ (λ j. c.loop-i.invariant j ++ lefts_in (i + 1) 1 (c.as_slice.ensures j))
    ∙ sym (ap (lefts_from 1) (front_more steps i s c.loop-i-test.true c.index-steps-i.is) ∙ from_more 1 (take i steps) s
    ∙ ap (λ (m : ℕ). lefts_from 1 (take i steps) ++ lefts_in m 1 s.dds) (front_number steps i c.loop-i-test.true))
