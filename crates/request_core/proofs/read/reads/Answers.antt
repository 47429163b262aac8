use Rattle.std.proofs.Common.{ap, sym, ◌∙◌}
use Rattle.jcl_meaning.specs.Programs.{located}
use Rattle.job_text.specs.Places.{step_at}
use Rattle.request_core.proofs.Reading.{read_from, read_past}
use Rattle.request_core.proofs.read.reads.Goals as goal

pub returns-then-here-end : goal.returns-then-here-end
returns-then-here-end g c =
    let seen = g.S.JobStore.seen c.args.job c.args.store.now in
    let dds = (step_at (g.T.JobText.plan c.args.text.now).steps c.args.step).dds in
    let here = c.args.here.now in
    c.located.ensures
    ∙ read_from seen dds c.args.states.now here.d here.member c.members_end-end.result here.position c.if-here-end.true
    c.members_end-end.ensures.within.1 c.members_end-end.ensures.members

pub returns-else-here-end : goal.returns-else-here-end
returns-else-here-end g c =
    let seen = g.S.JobStore.seen c.args.job c.args.store.now in
    let dds = (step_at (g.T.JobText.plan c.args.text.now).steps c.args.step).dds in
    let here = c.args.here.now in
    ap (λ xs. located xs here.member here.position)
    (sym (read_past seen dds c.args.states.now here.d here.member c.members_end-end.result here.position c.if-here-end.false
    c.members_end-end.ensures.within.1 c.members_end-end.ensures.members))
