-- How many records a job takes: its JCT, an SCT for each step, an SIOT for each DD, and for that a JFCB or two cards a record.
use Rattle.std.specs.Prelude.{◌≡◌, ◌≢◌, ℕ, ◌+◌, ◌/◌, List, length, sum_by}
use Rattle.jcl_plan.specs.declared.plan.DdKind.{DdKind}
use Rattle.jcl_plan.specs.declared.plan.DdKind.TheVariants.{Cards, Dummy, Set, Sysout}
use Rattle.jcl_plan.specs.declared.plan.JobPlan.{JobPlan}
use Rattle.jcl_plan.specs.declared.plan.StepPlan.{StepPlan}
use Rattle.cb_meaning.specs.declared.layout.Layout.{Layout}
use Rattle.cb_meaning.specs.Fields.{byte_at, number_at}
use Rattle.cb_meaning.specs.Spelled.{card_record}

abbrev pub records_below : DdKind → ℕ
records_below (Sysout class) = 0
records_below Dummy = 0
records_below (Cards cards) = (length cards + 1) / 2
records_below (Set p) = 1

abbrev pub records_of_step : StepPlan → ℕ
records_of_step step = 1 + sum_by (λ dd. 1 + records_below dd.kind) step.dds

abbrev pub records_needed : JobPlan → ℕ
records_needed plan = 1 + sum_by records_of_step plan.steps

-- Cards stand two in a record: one that more cards of its DD follow has two. (This profile)
abbrev pub IsPacked : Layout → List ℕ → Type 0
IsPacked l r = byte_at r 0 ≡ card_record → number_at r l.next_cards ≢ 0 → byte_at r 10 ≡ 2
