use Rattle.std.proofs.Common.{◌≡◌, ◌∙◌, ap, arith, get_or, subst, sym, take}
use Rattle.std.proofs.lemmas.List.{get_or_default, take_all}
use Rattle.cb_queue.specs.RecordQueues.{RecordQueue}
use Rattle.queue_images.specs.declared.image.WaitingJob.{WaitingJob}
use Rattle.queue_images.specs.Carrying.{AreCarried}
use Rattle.queue_images.proofs.Carried.{layout_stays, nobody_waits, none_carried, one_noted}
use Rattle.queue_images.proofs.Numbered.{fits_at}
use Rattle.queue_images.proofs.migrate.carry_jobs.Goals as goal

pub loop-w-init : goal.loop-w-init
loop-w-init c = record {
  layout = ap (λ (q : RecordQueue). q.layout) c.requires.empty;
  nobody = ap (λ (q : RecordQueue). q.waiting) c.requires.empty;
  carried = λ image loaded. none_carried image c.args.units c.args.new.now.queue c.args.sorted.now.kept.items c.args.sorted.now.dropped.items
      c.requires.empty c.the_layouts_hold_jobs.ensures.second.own_link c.requires.nothing.0 c.requires.nothing.1;
}

pub carry_job-requires-clause-first : goal.carry_job-requires-clause-first
carry_job-requires-clause-first c = c.requires.loaded.1.layout

pub carry_job-requires-clause-number : goal.carry_job-requires-clause-number
carry_job-requires-clause-number c = fits_at c.args.jobs.now c.loop-w.w-index c.loop-w-test.true c.requires.numbers

pub loop-w-preserved : goal.loop-w-preserved
loop-w-preserved c =
    let w : WaitingJob = get_or c.args.jobs.now c.loop-w.w-index (record { job = 0; jct = 0 }) in
    record {
      layout = layout_stays c.requires.loaded.0 c.args.units w c.loop-w.new.queue c.carry_job.new.new.queue c.in_ok-told.told
          (c.in_ok-told.ensures c.requires.loaded.0 c.requires.loaded.1)
          ∙ c.loop-w.invariant.layout;
      nobody = nobody_waits c.requires.loaded.0 c.args.units w c.loop-w.new.queue c.carry_job.new.new.queue c.in_ok-told.told
          (c.in_ok-told.ensures c.requires.loaded.0 c.requires.loaded.1)
          ∙ c.loop-w.invariant.nobody;
      carried = λ image loaded. one_noted image c.args.units c.args.jobs.now c.loop-w.w-index w c.loop-w.new.queue c.carry_job.new.new.queue
          c.loop-w.sorted.kept.items c.note.new.sorted.kept.items c.loop-w.sorted.dropped.items c.note.new.sorted.dropped.items c.in_ok-told.told
          c.denotes_still.ensures c.layouts_have_own_links.ensures.second c.loop-w-test.true
          (get_or_default c.args.jobs.now c.loop-w.w-index (record { job = 0; jct = 0 }) w c.loop-w-test.true)
          (c.in_ok-told.ensures image loaded) c.in_ok-note.ensures (c.loop-w.invariant.carried image loaded);
    }

pub returns-clause-carried : goal.returns-clause-carried
returns-clause-carried c = λ image loaded.
    subst (λ ws. AreCarried image c.args.units ws c.loop-w.new.queue c.loop-w.sorted.kept.items c.loop-w.sorted.dropped.items)
    (take_all c.loop-w.w-index c.args.jobs.now (omega (arith, c.loop-w-test.false))) (c.loop-w.invariant.carried image loaded)
