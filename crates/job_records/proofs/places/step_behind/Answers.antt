use Rattle.std.proofs.Common.{◌≡◌, ◌+◌, ◌∙◌, ap, arith, subst, suc, sym}
use Rattle.cb_meaning.specs.Fields.{number_at}
use Rattle.cb_meaning.specs.Spelled.{sct}
use Rattle.cb_read.specs.Kinds.{IsOfKind}
use Rattle.job_records.specs.Fields.{SctFields}
use Rattle.job_records.specs.Recorded.{along, next_step}
use Rattle.job_records.proofs.places.step_behind.Goals as goal

pub sct_of-requires-clause-kind : goal.sct_of-requires-clause-kind
sct_of-requires-clause-kind g c =
    let q = g.S.RecordStore.queue c.args.store.now in
    subst (IsOfKind q sct) (sym c.loop-k.invariant.n) (c.requires.kinds c.loop-k.k c.loop-k-test.true)

pub loop-k-preserved : goal.loop-k-preserved
loop-k-preserved g c =
    let q = g.S.RecordStore.queue c.args.store.now in
    let more : suc c.loop-k.k ≡ c.loop-k.k + 1 = omega arith in
    let less = c.loop-k-test.true in
    record {
      few = omega (arith, less);
      n = c.next-n.ensures ∙ (λ i. number_at c.sct_of.result.bytes.now ((c.sct_of.ensures.layout i).next_step)) ∙ ap (λ (f : SctFields). f.next) c.sct_of.ensures.fields
          ∙ ap (next_step q) c.loop-k.invariant.n ∙ ap (along (next_step q) c.args.first) more;
    }

pub returns : goal.returns
returns g c =
    let q = g.S.RecordStore.queue c.args.store.now in
    let few = c.loop-k.invariant.few in
    let last = c.loop-k-test.false in
    c.loop-k.invariant.n ∙ ap (along (next_step q) c.args.first) (omega (arith, few, last))
