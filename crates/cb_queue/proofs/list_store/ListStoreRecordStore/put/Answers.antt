use Rattle.std.proofs.Common.{◌≡◌, ◌<◌, ◌∙◌, ap, arith, subst, sym, true, Some}
use Rattle.std.specs.Prelude.{is_some}
use Rattle.std.proofs.lemmas.List.Elements.{All-same}
use Rattle.cb_meaning.specs.Fields.{field, number_at}
use Rattle.cb_queue.specs.RecordQueues.{IsInUse, owner_at, record_at, unlinked, with_record_at}
use Rattle.cb_queue.specs.Stored.{seen}
use Rattle.cb_queue.proofs.Parts.{in_use_put, owner_put}
use Rattle.cb_queue.proofs.Uses.{owner_there, put_seen, put_stored, reach}
use Rattle.cb_queue.proofs.list_store.ListStoreRecordStore.put.Goals as goal

pub index_mut-requires : goal.index_mut-requires
index_mut-requires c =
    let used : is_some (record_at (seen c.self.inside) c.args.n) ≡ true = rw c.self.view_is c.requires.used in
    let below = reach c.self.inside c.self.invariant.0 c.args.n used in
    let room = c.self.invariant.0.records_room in
    let whole = c.self.inside.records.ok.0 in
    omega (arith, below, room, whole)

pub invariant_of-self : goal.invariant_of-self
invariant_of-self c =
    let used : is_some (record_at (seen c.self.inside) c.args.n) ≡ true = rw c.self.view_is c.requires.used in
    let owner : number_at c.args.rec.now (field 2 2) ≡ owner_at (seen c.self.inside) c.args.n = rw c.self.view_is c.requires.owner in (
      put_stored c.self.inside c.self.invariant.0 c.args.n used c.write_unlinked.new.own
          (subst (IsInUse c.self.inside.layout) (sym c.write_unlinked.ensures.value)
          (in_use_put c.self.inside.layout c.self.invariant.0.sound.own_link c.args.rec.now c.write_unlinked.ensures.whole
          (λ none. owner_there c.self.inside c.self.invariant.0 c.args.n used (sym owner ∙ none))
          (All-same (λ b. b < 256) (unlinked c.self.inside.layout c.args.rec.now) c.write_unlinked.new.own (sym c.write_unlinked.ensures.value) c.write_unlinked.ensures.bytes)))
          (ap (λ r. number_at r (field 2 2)) c.write_unlinked.ensures.value
          ∙ owner_put c.self.inside.layout c.self.invariant.0.sound.own_link c.args.rec.now c.write_unlinked.ensures.whole ∙ owner),
      c.self.invariant.1,
    )

pub returns-clause-value : goal.returns-clause-value
returns-clause-value c =
    let used : is_some (record_at (seen c.self.inside) c.args.n) ≡ true = rw c.self.view_is c.requires.used in
    put_seen c.self.inside c.self.invariant.0 c.args.n used c.write_unlinked.new.own ∙ ap (λ r. with_record_at (seen c.self.inside) c.args.n (Some r)) c.write_unlinked.ensures.value
    ∙ ap (λ q. with_record_at q c.args.n (Some (unlinked q.layout c.args.rec.now))) c.self.view_is
