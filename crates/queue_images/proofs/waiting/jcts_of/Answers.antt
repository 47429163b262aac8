use Rattle.std.proofs.Common.{◌≡◌, ◌∙◌, ◌<◌, ap, arith, get_or, length, length-set, set, sym}
use Rattle.queue_images.proofs.Waits.{no_jcts, nowhere, one_jct}
use Rattle.queue_images.proofs.waiting.jcts_of.Goals as goal

pub loop-w-init : goal.loop-w-init
loop-w-init c = record {
  size = ap length (c.in_ok-jcts.ensures.items_if_clones_equal (λ x e. e));
  are = no_jcts 10000 c.in_ok-jcts.jcts.items (c.in_ok-jcts.ensures.items_if_clones_equal (λ x e. e));
}

pub loop-w-preserved : goal.loop-w-preserved
loop-w-preserved c =
    let jobs = c.args.jobs.now in
    let w = get_or jobs c.loop-w.w-index nowhere in
    let jcts = c.loop-w.jcts.items in
    let few = c.requires.numbers c.loop-w.w-index nowhere c.loop-w-test.true in
    record {
      size = length-set jcts c.from.result w.jct ∙ c.loop-w.invariant.size;
      are = one_jct jobs c.loop-w.w-index c.loop-w-test.true c.requires.once jcts (set jcts c.from.result w.jct)
          (omega (arith, few, c.loop-w.invariant.size)) (ap (λ n. set jcts n w.jct) c.from.ensures) c.loop-w.invariant.are;
    }
