use Rattle.std.proofs.Common.{◌≡◌, ◌≤◌, ◌^◌, OnErr, if◌then◌else◌, ap, subst, sym, ◌∙◌}
use Rattle.jcl_meaning.specs.Agendas.{budget_of}
use Rattle.sched_core.specs.Explaining.{most_explained, most_explained_at}
use Rattle.sched_core.proofs.going.most_explained.Goals as goal

pub returns-in-Named-clause-past : goal.returns-in-Named-clause-past
returns-in-Named-clause-past c =
    let p = c.args.profile.now in
    let stage = c.args.running.now.stage in
    let same : budget_of c.plan.result.now p.programs.now ≡ most_explained p c.args.running.now =
    ap (λ plan. budget_of plan p.programs.now) c.plan.ensures ∙ ap (most_explained_at p) (sym c.in-Named.is)
    ∙ ap (λ b. if b then most_explained_at p stage else 0) (sym c.if-not-profile.false) in
    subst (λ n. OnErr c.budget_of.result (2 ^ 64 ≤ n)) same c.budget_of.ensures.past
