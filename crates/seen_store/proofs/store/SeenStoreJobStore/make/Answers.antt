use Rattle.std.proofs.Common.{◌≡◌, ◌∙◌, Some, OnOk, Result, subst, sym}
use Rattle.jcl_meaning.specs.declared.store.DataSet.{DataSet}
use Rattle.jcl_meaning.specs.Stores.{store_of, with_set}
use Rattle.store_core.specs.Actions.{new_set_of}
use Rattle.store_core.specs.declared.job_store.RoomFault.{RoomFault}
use Rattle.seen_store.proofs.Seen.{listed, seen_written}
use Rattle.seen_store.proofs.store.SeenStoreJobStore.make.Goals as goal
use Rattle.seen_store.proofs.store.SeenStoreJobStore.make.Goals.{in-Ok, in-Err}

pub returns-clause-made : goal.returns-clause-made
returns-clause-made c =
    let sets = c.self.inside.sets.entries in
    let new = c.put_set.new.sets.entries in
    let entries = c.self.inside.catalog.entries in
    let key = c.args.key.now in
    let serial = c.args.place.now.serial in
    let set : DataSet = record { tracks = c.from.result; expires = c.args.expires; records = c.empty.result } in
    let made : DataSet = new_set_of c.args.tracks c.args.expires in
    let same : set ≡ made = λ i. record { tracks = c.from.ensures i; expires = c.args.expires; records = c.empty.ensures i } in
    let Told : Result (Unit {0}) RoomFault → Type 0 = λ r.
    OnOk r (store_of (listed new entries) ≡ with_set (store_of c.args.self.now) key serial (Some made)) in
    elim c.match-put_set.branch [
      | in-Ok w ↦ subst Told (sym w.result-is)
          (seen_written sets new entries key serial (Some set) w.in-Ok.ensures.ok
          ∙ (λ i. with_set (store_of (c.self.view_is i)) key serial (Some (same i))))
      | in-Err w ↦ subst Told (sym w.result-is) tt
    ]
