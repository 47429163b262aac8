use Rattle.std.proofs.Common.{List, length, map, ap, refl, ◌∙◌}
use Rattle.jcl_plan.specs.declared.outcome.Outcome.{Outcome}
use Rattle.jcl_meaning.specs.Solo.{Ran}
use Rattle.jcl_meaning.specs.Stores.{store_of}
use Rattle.path_meaning.specs.Paths.{fates_in}
use Rattle.solo_core.specs.declared.path.MetFault.{MetFault}
use Rattle.solo_core.specs.Meets.{met_of}
use Rattle.path_core.specs.Starts.{fixed_from}
use Rattle.path_core.proofs.Certified.{decided, refused, same_ran}
use Rattle.path_core.proofs.check.check_path.Goals as goal

pub returns-then-not-are_of_fates : goal.returns-then-not-are_of_fates
returns-then-not-are_of_fates c =
    let start = c.args.start.now in
    let plan = c.args.plan.now in
    let report = c.args.report.now in
    let same = same_ran start.store plan start.date start.places start.places c.as_slice-path.result.now report.path.items refl c.as_slice-path.ensures.value in
    let told = c.as_slice-2.ensures ∙ c.in_ok-fates.ensures ∙ ap fates_in (c.as_slice.ensures ∙ c.in_ok-ran.ensures.run.lines ∙ ap (λ (r : Ran). r.lines) same) in
    refused (fixed_from start plan) plan (store_of start.store) report.fault report.step report.dd report.path.items c.as_slice-path.result.now
    c.as_slice-2.result.now c.are_of_fates.result c.as_slice-path.ensures.value told c.are_of_fates.ensures c.if-not-are_of_fates.true

pub returns : goal.returns
returns c =
    let start = c.args.start.now in
    let plan = c.args.plan.now in
    let report = c.args.report.now in
    let same = same_ran start.store plan start.date start.places start.places c.as_slice-path.result.now report.path.items refl c.as_slice-path.ensures.value in
    let told = c.as_slice-2.ensures ∙ c.in_ok-fates.ensures ∙ ap fates_in (c.as_slice.ensures ∙ c.in_ok-ran.ensures.run.lines ∙ ap (λ (r : Ran). r.lines) same) in
    decided (fixed_from start plan) plan (store_of start.store) report.fault report.step report.dd report.path.items c.as_slice-path.result.now
    c.as_slice-2.result.now c.are_of_fates.result c.as_slice-4.result.now (length c.as_slice-path.result.now) c.as_slice-3.result.now c.is_met.result
    c.as_slice-path.ensures.value told c.are_of_fates.ensures c.if-not-are_of_fates.false (ap (λ (os : List Outcome). length os) c.as_slice-path.ensures.value)
    (c.as_slice-4.ensures ∙ c.in_ok-marks.ensures)
    (ap (λ (ms : List MetFault). map met_of ms) c.as_slice-3.ensures ∙ c.in_ok-ran.ensures.faults ∙ ap (λ (r : Ran). r.faults) same) c.is_met.ensures
