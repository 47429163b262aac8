use Rattle.std.proofs.Common.{◌≡◌, ◌≢◌, ◌+◌, ◌-◌, ◌^◌, ◌<◌, ◌∙◌, All, ap, arith, length-set, subst, suc, sym, true}
use Rattle.std.specs.Prelude.{is_some, slice_set}
use Rattle.cb_queue.specs.RecordQueues.{given_back, record_at}
use Rattle.chain_store.specs.Chained.{AreChained, queue_in, tables_of}
use Rattle.chain_store.specs.Links.{link_at, record_of}
use Rattle.chain_store.specs.Values.{Linked}
use Rattle.chain_store.proofs.Ops.{chained_given, few_given, few_records, queue_given}
use Rattle.chain_store.proofs.Placed.{all_records, noted_relinked}
use Rattle.record_spans.proofs.Spanned.{spanned_given}
use Rattle.chain_store.proofs.Uses.{number, owner_place, record_place, used_at}
use Rattle.chain_store.proofs.store.ChainStoreRecordStore.give_back.Goals as goal

pub relink-requires-clause-there : goal.relink-requires-clause-there
relink-requires-clause-there c =
    let t = tables_of c.self.inside in
    let used : is_some (record_at (queue_in t) c.args.n) ≡ true = subst (λ (v : Linked). is_some (record_at v.queue c.args.n) ≡ true) (sym c.self.view_is) c.requires.used in
    omega (arith, record_place t c.self.invariant.tables c.args.n used)

pub index_mut-requires : goal.index_mut-requires
index_mut-requires c =
    let t = tables_of c.self.inside in
    let used : is_some (record_at (queue_in t) c.args.n) ≡ true = subst (λ (v : Linked). is_some (record_at v.queue c.args.n) ≡ true) (sym c.self.view_is) c.requires.used in
    let whole = c.self.inside.owners.ok.0 in
    omega (arith, owner_place t c.self.invariant.tables c.args.n used, whole)

pub overflow_add-self : goal.overflow_add-self
overflow_add-self c =
    let t = tables_of c.self.inside in
    let h = c.self.invariant.tables in
    let used : is_some (record_at (queue_in t) c.args.n) ≡ true = subst (λ (v : Linked). is_some (record_at v.queue c.args.n) ≡ true) (sym c.self.view_is) c.requires.used in
    let is = number t h c.args.n used in
    let fits : suc (c.args.n - 1) < 256 ^ t.layout.link.width =
    (let here = owner_place t h c.args.n used in let most = h.most in let links = h.links in omega (arith, here, most, links)) in
    let unqueued = subst (λ (v : Linked). All (λ x. x.jct ≢ suc (c.args.n - 1)) v.queue.waiting) (sym c.self.view_is)
    (subst (λ m. All (λ x. x.jct ≢ m) c.args.self.now.queue.waiting) (sym is) c.requires.unqueued) in
    let few = few_given t h (c.args.n - 1) c.relink.new.records.items (used_at t h c.args.n used) unqueued c.relink.ensures.change
    (subst (λ m. link_at t.layout c.relink.new.records.items m ≡ t.first_free) (sym is) c.relink.ensures.link) fits in
    let small = few_records (tables_of c.self.inside) c.self.invariant.tables in
    omega (arith, few, small)

pub invariant_of-self : goal.invariant_of-self
invariant_of-self c =
    let t = tables_of c.self.inside in
    let h = c.self.invariant.tables in
    let used : is_some (record_at (queue_in t) c.args.n) ≡ true = subst (λ (v : Linked). is_some (record_at v.queue c.args.n) ≡ true) (sym c.self.view_is) c.requires.used in
    let is = number t h c.args.n used in
    let fits : suc (c.args.n - 1) < 256 ^ t.layout.link.width =
    (let here = owner_place t h c.args.n used in let most = h.most in let links = h.links in omega (arith, here, most, links)) in
    let unqueued = subst (λ (v : Linked). All (λ x. x.jct ≢ suc (c.args.n - 1)) v.queue.waiting) (sym c.self.view_is)
    (subst (λ m. All (λ x. x.jct ≢ m) c.args.self.now.queue.waiting) (sym is) c.requires.unqueued) in
    record {
      tables = subst (λ m. AreChained (record t { records = c.relink.new.records.items; owners = slice_set t.owners (c.args.n - 1) 0; first_free = m; free_count = t.free_count + 1 })) is
          (chained_given t h (c.args.n - 1) c.relink.new.records.items (used_at t h c.args.n used) unqueued c.relink.ensures.change
          (subst (λ m. link_at t.layout c.relink.new.records.items m ≡ t.first_free) (sym is) c.relink.ensures.link) fits);
      marked = c.self.invariant.marked;
      noted = noted_relinked t h c.self.inside.spots.items c.self.invariant.noted c.relink.new.records.items (c.args.n - 1) (record_of t.layout t.records (c.args.n - 1)) c.relink.ensures.change
          (all_records t h (λ m. m ≢ suc (c.args.n - 1)) unqueued);
      spots = (let has = c.self.invariant.spots in let size = length-set t.owners (c.args.n - 1) 0 in omega (arith, has, size));
      spanned = spanned_given c.self.inside.spans c.self.inside.owners.items (c.args.n - 1) c.self.invariant.spanned;
    }

pub returns-clause-value : goal.returns-clause-value
returns-clause-value c =
    let t = tables_of c.self.inside in
    let h = c.self.invariant.tables in
    let used : is_some (record_at (queue_in t) c.args.n) ≡ true = subst (λ (v : Linked). is_some (record_at v.queue c.args.n) ≡ true) (sym c.self.view_is) c.requires.used in
    let is = number t h c.args.n used in
    let fits : suc (c.args.n - 1) < 256 ^ t.layout.link.width =
    (let here = owner_place t h c.args.n used in let most = h.most in let links = h.links in omega (arith, here, most, links)) in
    let unqueued = subst (λ (v : Linked). All (λ x. x.jct ≢ suc (c.args.n - 1)) v.queue.waiting) (sym c.self.view_is)
    (subst (λ m. All (λ x. x.jct ≢ m) c.args.self.now.queue.waiting) (sym is) c.requires.unqueued) in
    subst (λ m. queue_in (record t { records = c.relink.new.records.items; owners = slice_set t.owners (c.args.n - 1) 0; first_free = m; free_count = t.free_count + 1 }) ≡ given_back (queue_in t) m) is
    (queue_given t h (c.args.n - 1) c.relink.new.records.items (used_at t h c.args.n used) unqueued c.relink.ensures.change
    (subst (λ m. link_at t.layout c.relink.new.records.items m ≡ t.first_free) (sym is) c.relink.ensures.link) fits)
    ∙ ap (λ (v : Linked). given_back v.queue c.args.n) c.self.view_is
