use Rattle.std.proofs.Common.{refl, subst, sym}
use Rattle.jcl_plan.specs.declared.plan.DdKind.{DdKind}
use Rattle.jcl_plan.specs.declared.plan.DdKind.TheVariants.{Dummy, Sysout}
use Rattle.cb_meaning.specs.Needs.{records_below}
use Rattle.cb_chain.specs.Taking.{Writes, OfKind}
use Rattle.std.proofs.lemmas.List.Elements.{All-nil}
use Rattle.cb_chain.specs.Written.{IsFresh}
use Rattle.cb_chain.proofs.Linked.{writes_nothing}
use Rattle.cb_chain.proofs.dds.write_below.Goals as goal

pub returns-in-Sysout-clause-value : goal.returns-in-Sysout-clause-value
returns-in-Sysout-clause-value g c =
    let q = g.S.RecordStore.queue c.args.store.now in
    subst (λ (kind : DdKind). Writes (records_below kind) (OfKind c.args.layout.now c.args.job kind) q q 0) (sym c.in-Sysout.is)
    (writes_nothing (OfKind c.args.layout.now c.args.job (Sysout c.in-Sysout.field-0)) q (λ later. ((refl, refl), All-nil (λ n. IsFresh c.args.layout.now (later.at n)))))

pub returns-in-Dummy-clause-value : goal.returns-in-Dummy-clause-value
returns-in-Dummy-clause-value g c =
    let q = g.S.RecordStore.queue c.args.store.now in
    subst (λ (kind : DdKind). Writes (records_below kind) (OfKind c.args.layout.now c.args.job kind) q q 0) (sym c.in-Dummy.is)
    (writes_nothing (OfKind c.args.layout.now c.args.job Dummy) q (λ later. ((refl, refl), All-nil (λ n. IsFresh c.args.layout.now (later.at n)))))
