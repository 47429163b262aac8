use Rattle.std.proofs.Common.{◌≡◌, ◌∙◌, OnOk, Result, ap, subst, sym}
use Rattle.jcl_meaning.specs.declared.store.SoloStore.{SoloStore}
use Rattle.jcl_meaning.specs.Programs.{grown_by}
use Rattle.jcl_meaning.specs.Stores.{store_of}
use Rattle.store_core.specs.Actions.{changed_at}
use Rattle.store_core.specs.declared.job_store.RoomFault.{RoomFault}
use Rattle.seen_store.proofs.Seen.{listed, seen_changed}
use Rattle.seen_store.proofs.store.SeenStoreJobStore.grow.Goals as goal
use Rattle.seen_store.proofs.store.SeenStoreJobStore.grow.Goals.{in-Ok, in-Err}

pub returns-clause-grown : goal.returns-clause-grown
returns-clause-grown c =
    let sets = c.self.inside.sets.entries in
    let new = c.grow_set.new.sets.entries in
    let entries = c.self.inside.catalog.entries in
    let key = c.args.key.now in
    let serial = c.args.serial in
    let Told : Result (Unit {0}) RoomFault → Type 0 = λ r.
    OnOk r (store_of (listed new entries) ≡ changed_at (grown_by c.args.tracks) (store_of c.args.self.now) key serial) in
    elim c.match-grow_set.branch [
      | in-Ok w ↦ subst Told (sym w.result-is)
          (seen_changed sets new entries key serial (grown_by c.args.tracks) w.in-Ok.ensures.ok
          ∙ ap (λ (s : SoloStore). changed_at (grown_by c.args.tracks) (store_of s) key serial) c.self.view_is)
      | in-Err w ↦ subst Told (sym w.result-is) tt
    ]
