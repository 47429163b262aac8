use Rattle.std.proofs.Common.{◌≡◌, ◌-◌, ◌∙◌, ap, arith, subst, suc, sym, true}
use Rattle.std.specs.Prelude.{is_some}
use Rattle.std.specs.Option.{option_map}
use Rattle.cb_meaning.specs.Fields.{with_part}
use Rattle.cb_queue.proofs.Parts.{in_use_status, owner_status}
use Rattle.cb_queue.specs.RecordQueues.{owner_in, record_at, with_record_at, with_status}
use Rattle.chain_store.specs.Chained.{queue_in, tables_of}
use Rattle.chain_store.specs.Links.{link_at, record_of}
use Rattle.chain_store.specs.Values.{Linked}
use Rattle.chain_store.proofs.Ops.{chained_written, queue_written, record_there, used_record}
use Rattle.chain_store.proofs.Placed.{noted_rewritten}
use Rattle.chain_store.proofs.Uses.{number, record_place, used_at}
use Rattle.chain_store.proofs.store.ChainStoreRecordStore.write_status.Goals as goal

pub rewrite_status-requires-clause-there : goal.rewrite_status-requires-clause-there
rewrite_status-requires-clause-there c =
    let t = tables_of c.self.inside in
    let used : is_some (record_at (queue_in t) c.args.n) ≡ true = subst (λ (v : Linked). is_some (record_at v.queue c.args.n) ≡ true) (sym c.self.view_is) c.requires in
    omega (arith, record_place t c.self.invariant.tables c.args.n used)

pub invariant_of-self : goal.invariant_of-self
invariant_of-self c =
    let t = tables_of c.self.inside in
    let h = c.self.invariant.tables in
    let l = t.layout in
    let used : is_some (record_at (queue_in t) c.args.n) ≡ true = subst (λ (v : Linked). is_some (record_at v.queue c.args.n) ≡ true) (sym c.self.view_is) c.requires in
    let is = number t h c.args.n used in
    let at = used_at t h c.args.n used in
    let old = record_of l t.records (c.args.n - 1) in
    record {
      tables = chained_written t h (c.args.n - 1) c.rewrite_status.new.records.items (with_part old 168 c.args.status.now) at c.rewrite_status.ensures.change
          (subst (λ m. link_at l c.rewrite_status.new.records.items m ≡ link_at l t.records m) (sym is) c.rewrite_status.ensures.link)
          (in_use_status l h.sound.own_link old c.args.status.now (used_record t h (c.args.n - 1) at) c.told-status c.rewrite_status.ensures.bytes)
          (owner_status l h.sound.own_link old c.args.status.now (used_record t h (c.args.n - 1) at) c.told-status ∙ sym (ap owner_in (record_there t h (c.args.n - 1) at)));
      marked = c.self.invariant.marked;
      noted = noted_rewritten t h c.self.inside.spots.items c.self.invariant.noted c.rewrite_status.new.records.items (c.args.n - 1) (with_part old 168 c.args.status.now) c.rewrite_status.ensures.change
          (subst (λ m. link_at l c.rewrite_status.new.records.items m ≡ link_at l t.records m) (sym is) c.rewrite_status.ensures.link);
      spots = c.self.invariant.spots;
      spanned = c.self.invariant.spanned;
    }

pub returns-clause-value : goal.returns-clause-value
returns-clause-value c =
    let t = tables_of c.self.inside in
    let h = c.self.invariant.tables in
    let l = t.layout in
    let used : is_some (record_at (queue_in t) c.args.n) ≡ true = subst (λ (v : Linked). is_some (record_at v.queue c.args.n) ≡ true) (sym c.self.view_is) c.requires in
    let is = number t h c.args.n used in
    let at = used_at t h c.args.n used in
    let old = record_of l t.records (c.args.n - 1) in
    queue_written t h (c.args.n - 1) c.rewrite_status.new.records.items (with_part old 168 c.args.status.now) at c.rewrite_status.ensures.change
    (subst (λ m. link_at l c.rewrite_status.new.records.items m ≡ link_at l t.records m) (sym is) c.rewrite_status.ensures.link)
    (in_use_status l h.sound.own_link old c.args.status.now (used_record t h (c.args.n - 1) at) c.told-status c.rewrite_status.ensures.bytes)
    (owner_status l h.sound.own_link old c.args.status.now (used_record t h (c.args.n - 1) at) c.told-status ∙ sym (ap owner_in (record_there t h (c.args.n - 1) at)))
    ∙ ap (λ o. with_record_at (queue_in t) (suc (c.args.n - 1)) (option_map (λ r. with_part r 168 c.args.status.now) o)) (sym (record_there t h (c.args.n - 1) at))
    ∙ ap (λ m. with_status (queue_in t) m c.args.status.now) is
    ∙ ap (λ (v : Linked). with_status v.queue c.args.n c.args.status.now) c.self.view_is
