use Rattle.std.proofs.Common.{◌≡◌, ◌+◌, ◌*◌, ◌-◌, ◌<◌, ◌∙◌, ap, arith, drop, length, take}
use Rattle.queue_images.proofs.Loaded.{all_loaded, first_loaded, loaded_more, next_number}
use Rattle.queue_images.proofs.load.load.Goals as goal

pub loop-n-init : goal.loop-n-init
loop-n-init g c = record {
  loaded = first_loaded c.args.image.now (g.S.RecordStore.queue c.args.store.now) c.requires.empty c.the_layouts_hold_jobs.ensures.first.own_link;
  room = c.requires.room;
}

pub load_next-requires-clause-room : goal.load_next-requires-clause-room
load_next-requires-clause-room g c = c.loop-n.invariant.room

pub load_next-requires-clause-free : goal.load_next-requires-clause-free
load_next-requires-clause-free g c =
    let some : 0 < 4096 - c.loop-n.n = omega (arith, c.loop-n-test.true) in
    let size = ap length (c.loop-n.invariant.loaded.free ∙ next_number (c.loop-n.n + 1) (4096 - c.loop-n.n) some) in
    omega (arith, size)

pub load_next-requires-clause-layout : goal.load_next-requires-clause-layout
load_next-requires-clause-layout g c = c.loop-n.invariant.loaded.layout

pub loop-n-preserved : goal.loop-n-preserved
loop-n-preserved g c =
    let image = c.args.image.now in
    let n = c.loop-n.n in
    let width : (n + 1) * 176 - n * 176 ≡ 176 = omega arith in
    let at : n * 176 ≡ 176 * (n + 1 - 1) = omega arith in
    record {
      loaded = loaded_more image (take ((n + 1) * 176 - n * 176) (drop (n * 176) image)) n (g.S.RecordStore.queue c.loop-n.store)
          (g.S.RecordStore.queue c.load_next.new.store) c.loop-n-test.true c.loop-n.invariant.loaded (λ i. take (width i) (drop (at i) image)) c.load_next.ensures.loads;
      room = c.load_next.ensures.room;
    }

pub returns : goal.returns
returns g c = all_loaded c.args.image.now c.loop-n.n (g.S.RecordStore.queue c.loop-n.store) (omega (arith, c.loop-n-test.false, c.loop-n.auto.n-end)) c.loop-n.invariant.loaded
