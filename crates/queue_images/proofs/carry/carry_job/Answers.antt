use Rattle.std.proofs.Common.{◌≡◌, ◌≤◌, ◌∙◌, ◌∷◌, ℕ, ap, arith, length, refl, subst, sym}
use Rattle.cb_meaning.specs.declared.layout.Layout.{Layout}
use Rattle.cb_meaning.specs.declared.layout.TheConstants.{LAYOUT_1, LAYOUT_2}
use Rattle.cb_meaning.specs.Layouts.{HasOwnFields}
use Rattle.cb_meaning.specs.Writable.{IsWritable}
use Rattle.cb_chain.specs.Written.{HasDays, HoldsJobs}
use Rattle.cb_chain.proofs.DaysHeld.{days_held}
use Rattle.queued_job.specs.Reads.{IsRead}
use Rattle.queue_images.specs.Images.{records_in}
use Rattle.queue_images.proofs.Standing.{denotes_image, fault_same}
use Rattle.queue_images.proofs.Stepped.{allows}
use Rattle.queue_images.proofs.carry.carry_job.Goals as goal

pub read_job-requires : goal.read_job-requires
read_job-requires g c = subst HasOwnFields (sym c.requires.first) c.the_layouts_have_own_fields.ensures.first

pub write_anew-requires-clause-holds : goal.write_anew-requires-clause-holds
write_anew-requires-clause-holds g c = subst HoldsJobs (sym c.requires.layout) c.the_layouts_hold_jobs.ensures.second

pub write_anew-requires-clause-writable : goal.write_anew-requires-clause-writable
write_anew-requires-clause-writable g c =
    let old = g.R.RecordStore.queue c.args.old.now in
    let new = g.S.RecordStore.queue c.args.new.now in
    let read = subst (IsRead old c.args.units c.args.w.job c.args.w.jct) c.in-Plan.is c.in_ok-fault.ensures in
    let few : old.layout.most_steps ≡ 32 = ap (λ (l : Layout). l.most_steps) c.requires.first in
    let most : new.layout.most_steps ≡ 255 = ap (λ (l : Layout). l.most_steps) c.requires.layout in (
      c.args.units,
      allows old.layout.most_steps new.layout.most_steps c.args.units c.in-Plan.plan (omega (arith, read.1.in_range.few_steps, few, most)) read.1.in_range,
    )

pub write_anew-requires-clause-days : goal.write_anew-requires-clause-days
write_anew-requires-clause-days g c =
    let old = g.R.RecordStore.queue c.args.old.now in
    let new = g.S.RecordStore.queue c.args.new.now in
    let read = subst (IsRead old c.args.units c.args.w.job c.args.w.jct) c.in-Plan.is c.in_ok-fault.ensures in
    days_held new.layout (subst HasDays (sym c.requires.layout) c.the_layouts_hold_jobs.ensures.days) old.layout.most_steps c.args.units c.in-Plan.plan
    read.1.in_range

pub returns-in-Broken : goal.returns-in-Broken
returns-in-Broken g c = λ image loaded.
    let old = g.R.RecordStore.queue c.args.old.now in
    let told = subst (IsRead old c.args.units c.args.w.job c.args.w.jct) c.in-Broken.is c.in_ok-fault.ensures in (
      sym (fault_same image old loaded c.args.w.job c.requires.number.0 c.requires.number.1 c.first_fault_stays.ensures
          c.layouts_have_own_links.ensures.first c.args.units c.args.w.jct) ∙ told,
      refl,
    )

pub returns-in_ok-write_anew-in-Plan : goal.returns-in_ok-write_anew-in-Plan
returns-in_ok-write_anew-in-Plan g c = λ image loaded.
    let old = g.R.RecordStore.queue c.args.old.now in
    let read = subst (IsRead old c.args.units c.args.w.job c.args.w.jct) c.in-Plan.is c.in_ok-fault.ensures in
    let denoted = denotes_image image old loaded c.args.w.job c.requires.number.0 c.requires.number.1 c.denotes_still.ensures
    c.layouts_have_own_links.ensures.first c.layout-layout.ensures.sound c.args.units (c.args.w.jct ∷ read.0) c.in-Plan.plan read.1 in
    record {
      faultless = c.denoted_has_no_fault.ensures LAYOUT_1 c.args.units (records_in image) c.args.w.job c.args.w.jct read.0 c.in-Plan.plan denoted;
      plan = c.in-Plan.plan;
      before = read.0;
      denoted = denoted;
      written = c.in_ok-write_anew-in-Plan.ensures;
    }
