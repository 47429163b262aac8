use Rattle.std.proofs.Common.{◌≡◌, ◌≢◌, ◌-◌, ◌∙◌, ap, arith, subst, sym, true, Some}
use Rattle.std.specs.Prelude.{is_some}
use Rattle.cb_meaning.specs.Fields.{field, number_at}
use Rattle.cb_queue.proofs.Parts.{in_use_put, owner_put}
use Rattle.cb_queue.specs.RecordQueues.{owner_at, record_at, unlinked, with_record_at}
use Rattle.chain_store.specs.Chained.{queue_in, tables_of}
use Rattle.chain_store.specs.Links.{link_at}
use Rattle.chain_store.specs.Values.{Linked}
use Rattle.chain_store.proofs.Bytes.{bytes_unlinked}
use Rattle.chain_store.proofs.Ops.{chained_written, queue_written}
use Rattle.chain_store.proofs.Placed.{noted_rewritten}
use Rattle.chain_store.proofs.Uses.{is_owned, number, record_place, used_at}
use Rattle.chain_store.proofs.store.ChainStoreRecordStore.put.Goals as goal

pub rewrite-requires-clause-there : goal.rewrite-requires-clause-there
rewrite-requires-clause-there c =
    let t = tables_of c.self.inside in
    let used : is_some (record_at (queue_in t) c.args.n) ≡ true = subst (λ (v : Linked). is_some (record_at v.queue c.args.n) ≡ true) (sym c.self.view_is) c.requires.used in
    omega (arith, record_place t c.self.invariant.tables c.args.n used)

pub invariant_of-self : goal.invariant_of-self
invariant_of-self c =
    let t = tables_of c.self.inside in
    let h = c.self.invariant.tables in
    let l = t.layout in
    let used : is_some (record_at (queue_in t) c.args.n) ≡ true = subst (λ (v : Linked). is_some (record_at v.queue c.args.n) ≡ true) (sym c.self.view_is) c.requires.used in
    let owner : number_at c.args.rec.now (field 2 2) ≡ owner_at (queue_in t) c.args.n = subst (λ (v : Linked). number_at c.args.rec.now (field 2 2) ≡ owner_at v.queue c.args.n) (sym c.self.view_is) c.requires.owner in
    let is = number t h c.args.n used in
    let rec_owner : number_at c.args.rec.now (field 2 2) ≢ 0 = λ none. is_owned t h c.args.n used (sym owner ∙ none) in
    record {
      tables = chained_written t h (c.args.n - 1) c.rewrite.new.records.items (unlinked l c.args.rec.now) (used_at t h c.args.n used) c.rewrite.ensures.change
          (subst (λ m. link_at l c.rewrite.new.records.items m ≡ link_at l t.records m) (sym is) c.rewrite.ensures.link)
          (in_use_put l h.sound.own_link c.args.rec.now c.rewrite.ensures.whole rec_owner (bytes_unlinked l h.sound.own_link c.args.rec.now c.rewrite.ensures.bytes))
          (owner_put l h.sound.own_link c.args.rec.now c.rewrite.ensures.whole ∙ owner ∙ ap (owner_at (queue_in t)) (sym is));
      marked = c.self.invariant.marked;
      noted = noted_rewritten t h c.self.inside.spots.items c.self.invariant.noted c.rewrite.new.records.items (c.args.n - 1) (unlinked l c.args.rec.now) c.rewrite.ensures.change
          (subst (λ m. link_at l c.rewrite.new.records.items m ≡ link_at l t.records m) (sym is) c.rewrite.ensures.link);
      spots = c.self.invariant.spots;
      spanned = c.self.invariant.spanned;
    }

pub returns-clause-value : goal.returns-clause-value
returns-clause-value c =
    let t = tables_of c.self.inside in
    let h = c.self.invariant.tables in
    let l = t.layout in
    let used : is_some (record_at (queue_in t) c.args.n) ≡ true = subst (λ (v : Linked). is_some (record_at v.queue c.args.n) ≡ true) (sym c.self.view_is) c.requires.used in
    let owner : number_at c.args.rec.now (field 2 2) ≡ owner_at (queue_in t) c.args.n = subst (λ (v : Linked). number_at c.args.rec.now (field 2 2) ≡ owner_at v.queue c.args.n) (sym c.self.view_is) c.requires.owner in
    let is = number t h c.args.n used in
    let rec_owner : number_at c.args.rec.now (field 2 2) ≢ 0 = λ none. is_owned t h c.args.n used (sym owner ∙ none) in
    queue_written t h (c.args.n - 1) c.rewrite.new.records.items (unlinked l c.args.rec.now) (used_at t h c.args.n used) c.rewrite.ensures.change
    (subst (λ m. link_at l c.rewrite.new.records.items m ≡ link_at l t.records m) (sym is) c.rewrite.ensures.link)
    (in_use_put l h.sound.own_link c.args.rec.now c.rewrite.ensures.whole rec_owner (bytes_unlinked l h.sound.own_link c.args.rec.now c.rewrite.ensures.bytes))
    (owner_put l h.sound.own_link c.args.rec.now c.rewrite.ensures.whole ∙ owner ∙ ap (owner_at (queue_in t)) (sym is))
    ∙ ap (λ m. with_record_at (queue_in t) m (Some (unlinked l c.args.rec.now))) is
    ∙ ap (λ (v : Linked). with_record_at v.queue c.args.n (Some (unlinked v.queue.layout c.args.rec.now))) c.self.view_is
