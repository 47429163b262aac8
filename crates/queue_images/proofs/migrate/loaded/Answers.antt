use Rattle.std.proofs.Common.{◌≡◌, ◌∙◌, ap, arith, length}
use Rattle.chain_store.specs.Values.{Linked}
use Rattle.cb_queue.specs.RecordQueues.{RecordQueue}
use Rattle.queue_images.proofs.Loaded.{all_free}
use Rattle.queue_images.proofs.migrate.loaded.Goals as goal

pub make_room-requires : goal.make_room-requires
make_room-requires c =
    let free = all_free c.in_ok-store.store.queue (ap (λ (s : Linked). s.queue) c.in_ok-store.ensures) in
    omega (arith, free)

pub load-requires-clause-room : goal.load-requires-clause-room
load-requires-clause-room c =
    let free = all_free c.make_room.new.self.queue (c.in_ok-make_room.ensures.same ∙ ap (λ (s : Linked). s.queue) c.in_ok-store.ensures) in
    omega (arith, free, c.in_ok-make_room.ensures.room)
