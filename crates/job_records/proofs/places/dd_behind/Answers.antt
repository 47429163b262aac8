use Rattle.std.proofs.Common.{◌≡◌, ◌+◌, ◌∙◌, ap, arith, subst, suc, sym}
use Rattle.cb_meaning.specs.Fields.{number_at}
use Rattle.cb_meaning.specs.Spelled.{siot}
use Rattle.cb_read.specs.Kinds.{IsOfKind}
use Rattle.job_records.specs.Fields.{SiotFields}
use Rattle.job_records.specs.Recorded.{along, next_dd}
use Rattle.job_records.proofs.places.dd_behind.Goals as goal

pub siot_of-requires-clause-kind : goal.siot_of-requires-clause-kind
siot_of-requires-clause-kind g c =
    let q = g.S.RecordStore.queue c.args.store.now in
    subst (IsOfKind q siot) (sym c.loop-k.invariant.n) (c.requires.kinds c.loop-k.k c.loop-k-test.true)

pub loop-k-preserved : goal.loop-k-preserved
loop-k-preserved g c =
    let q = g.S.RecordStore.queue c.args.store.now in
    let more : suc c.loop-k.k ≡ c.loop-k.k + 1 = omega arith in
    let less = c.loop-k-test.true in
    record {
      few = omega (arith, less);
      n = c.next-n.ensures ∙ (λ i. number_at c.siot_of.result.bytes.now ((c.siot_of.ensures.layout i).next_dd)) ∙ ap (λ (f : SiotFields). f.next) c.siot_of.ensures.fields
          ∙ ap (next_dd q) c.loop-k.invariant.n ∙ ap (along (next_dd q) c.args.first) more;
    }

pub returns : goal.returns
returns g c =
    let q = g.S.RecordStore.queue c.args.store.now in
    let few = c.loop-k.invariant.few in
    let last = c.loop-k-test.false in
    c.loop-k.invariant.n ∙ ap (along (next_dd q) c.args.first) (omega (arith, few, last))
