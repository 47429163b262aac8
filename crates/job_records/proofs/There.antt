-- What is known of the records of a job: their kinds, and that the plan is read from them.
use Rattle.std.proofs.Common.{◌≡◌, ◌∙◌, ℕ, ◌+◌, ◌<◌, ◌≤◌, List, [], ◌∷◌, ap, arith, get_or, length, subst, sym}
use Rattle.std.proofs.lemmas.List.Elements.{All-get_or}
use Rattle.jcl_plan.specs.declared.plan.DdPlan.{DdPlan}
use Rattle.jcl_plan.specs.declared.plan.JobPlan.{JobPlan}
use Rattle.jcl_plan.specs.declared.plan.StepPlan.{StepPlan}
use Rattle.cb_meaning.specs.Fields.{byte_at, number_at}
use Rattle.cb_meaning.specs.Readings.{dds_read, step_test_read, steps_read}
use Rattle.cb_meaning.specs.Spelled.{StepChain, cards_of, jct, sct, siot}
use Rattle.cb_queue.specs.RecordQueues.{RecordQueue, shown}
use Rattle.cb_read.specs.Chains.{cards_from, dd_of, plan_of, step_of}
use Rattle.cb_read.specs.Kinds.{IsBelowOfKind, IsOfKind}
use Rattle.cb_read.specs.Ranges.{IsDdInRange, IsJobInRange, IsStepInRange, IsTestInRange}
use Rattle.cb_read.proofs.Chained.{dds_chain, steps_chain}
use Rattle.cb_read.proofs.InRange.{job_in_range}
use Rattle.cb_read.proofs.OfKind.{below_of_kind}
use Rattle.job_text.specs.Places.{card_at, dd_at, no_dd, no_step, no_test, step_at, test_at}
use Rattle.job_text.specs.Texts.{cards_in}
use Rattle.job_records.specs.Fields.{SctFields, fields_of_sct}
use Rattle.job_records.specs.Recorded.{HasCard, IsRecorded, along, first_sct, first_siot, next_dd, next_step, sct_at, siot_at}
use Rattle.job_records.specs.Said.{AreStepNames, test_bytes}
use Rattle.job_records.proofs.Meant.{cards_here, cards_there, few_tests, test_at_is}
use Rattle.job_records.proofs.Placed.{IsSct, IsSiot, along_on, nth_read, sct_of_chain, siot_of_chain}

pub record IsHead (q : RecordQueue) (job : ℕ) (plan : JobPlan) (numbers : List ℕ) (n : ℕ) : Type 0 where
  pub kind : IsOfKind q jct n
  pub steps : number_at ((shown q).at n) q.layout.steps ≡ length plan.steps
  pub chain : StepChain q.layout (shown q) job (first_sct q n) numbers plan.steps

pub record IsStepThere (q : RecordQueue) (n : ℕ) (step : StepPlan) : Type 0 where
  pub kind : IsOfKind q sct n
  pub is : step ≡ step_of q ((shown q).at n)
  pub range : IsStepInRange step
  pub dds : number_at ((shown q).at n) q.layout.dds ≡ length step.dds
  pub tests : byte_at ((shown q).at n) 15 ≡ length step.tests.items

pub record IsDdThere (q : RecordQueue) (n : ℕ) (dd : DdPlan) : Type 0 where
  pub kind : IsOfKind q siot n
  pub is : dd ≡ dd_of q ((shown q).at n)
  pub range : IsDdInRange dd
  pub below : IsBelowOfKind q ((shown q).at n)
  pub cards : number_at ((shown q).at n) q.layout.cards ≡ length (cards_of dd.kind)

abbrev head_of : List ℕ → ℕ
head_of [] = 0
head_of (n ∷ ns) = n

module _ (q : RecordQueue) (n : ℕ) (h : IsRecorded q n) where
  abbrev plan : JobPlan
  plan = plan_of q n

  pub head : IsHead q h.job plan h.denotes.spelled.behind n
  head =
      let s = h.denotes.spelled in
      subst (IsHead q h.job plan s.behind) (sym (ap head_of s.begins)) (record { kind = s.owned.of_kind; steps = s.head.steps; chain = s.steps })

  pub range : IsJobInRange plan
  range = job_in_range q.layout.most_steps h.units plan h.denotes.in_range

  module _ (k : ℕ) (there : k < length plan.steps) where
    its_records : IsSct q h.job (sct_at q n k) (step_at plan.steps k)
    its_records = sct_of_chain q h.job (first_sct q n) h.denotes.spelled.behind plan.steps k head.chain there

    pub step_there : IsStepThere q (sct_at q n k) (step_at plan.steps k)
    step_there = record {
      kind = its_records.owned.of_kind;
      is = nth_read (steps_read q.layout (shown q)) (λ m. step_of q ((shown q).at m)) (next_step q) (steps_chain q.layout (shown q)) no_step
          (q.layout.most_records + 1) (first_sct q n) k there;
      range = All-get_or IsStepInRange plan.steps k no_step there range.steps;
      dds = its_records.spelled.dds;
      tests = its_records.spelled.count;
    }

    -- its DDs are those that are read from its SIOTs
    pub dds_are : (step_at plan.steps k).dds ≡ dds_read q.layout (shown q) (q.layout.most_records + 1) (first_siot q n k)
    dds_are = ap (λ (s : StepPlan). s.dds) step_there.is

    module _ (d : ℕ) (has : d < length (step_at plan.steps k).dds) where
      abbrev the_dd : DdPlan
      the_dd = dd_at (step_at plan.steps k).dds d

      its_siot : IsSiot q h.job (siot_at q n k d) the_dd
      its_siot = siot_of_chain q h.job (first_siot q n k) its_records.below (step_at plan.steps k).dds d its_records.dds has

      pub dd_there : IsDdThere q (siot_at q n k d) the_dd
      dd_there = record {
        kind = its_siot.owned.of_kind;
        is = ap (λ (dds : List DdPlan). get_or dds d no_dd) dds_are
            ∙ nth_read (dds_read q.layout (shown q)) (λ m. dd_of q ((shown q).at m)) (next_dd q) (dds_chain q.layout (shown q)) no_dd
            (q.layout.most_records + 1) (first_siot q n k) d (subst (λ (dds : List DdPlan). d < length dds) dds_are has);
        range = All-get_or IsDdInRange (step_at plan.steps k).dds d no_dd has step_there.range.dds;
        below = below_of_kind q h.job ((shown q).at (siot_at q n k d)) its_siot.numbers the_dd.kind its_siot.spelled.kind its_siot.below;
        cards = its_siot.spelled.cards;
      }

  -- what lies behind a record of the chain is a record of it
  pub scts_behind : (from count m : ℕ) → m ≡ sct_at q n from → from + count ≤ length plan.steps → (k : ℕ) → k < count → IsOfKind q sct (along (next_step q) m k)
  scts_behind from count m is most k less =
      subst (IsOfKind q sct) (sym (ap (λ x. along (next_step q) x k) is ∙ along_on (next_step q) (first_sct q n) from k))
      (step_there (from + k) (omega (arith, most, less))).kind

  pub siots_behind : (step from count m : ℕ) → step < length plan.steps → m ≡ siot_at q n step from → from + count ≤ length (step_at plan.steps step).dds →
      (k : ℕ) → k < count → IsOfKind q siot (along (next_dd q) m k)
  siots_behind step from count m there is most k less =
      subst (IsOfKind q siot) (sym (ap (λ x. along (next_dd q) x k) is ∙ along_on (next_dd q) (first_siot q n step) from k))
      (dd_there step there (from + k) (omega (arith, most, less))).kind

pub sct_behind : (q : RecordQueue) (n from count m step : ℕ) → m ≡ sct_at q n from → from + count ≡ step → along (next_step q) m count ≡ sct_at q n step
sct_behind q n from count m step is on =
    ap (λ x. along (next_step q) x count) is ∙ along_on (next_step q) (first_sct q n) from count ∙ ap (sct_at q n) on

pub siot_behind : (q : RecordQueue) (n step from count m place : ℕ) → m ≡ siot_at q n step from → from + count ≡ place →
    along (next_dd q) m count ≡ siot_at q n step place
siot_behind q n step from count m place is on =
    ap (λ x. along (next_dd q) x count) is ∙ along_on (next_dd q) (first_siot q n step) from count ∙ ap (siot_at q n step) on

-- the names and the tests of a step
module _ (q : RecordQueue) (n : ℕ) (step : StepPlan) (t : IsStepThere q n step) where
  abbrev sct_fields : SctFields
  sct_fields = fields_of_sct q.layout ((shown q).at n)

  in_range : IsStepInRange (step_of q ((shown q).at n))
  in_range = subst IsStepInRange t.is t.range

  pub names_there : AreStepNames sct_fields
  names_there = record { name = in_range.name; procedure_step = in_range.procedure_step; program = in_range.program }

  module _ (i : ℕ) (h : i < length step.tests.items) where
    its_place : i < length (step_of q ((shown q).at n)).tests.items
    its_place = subst (λ (s : StepPlan). i < length s.tests.items) t.is h

    pub test_few : i < 8
    test_few = few_tests step_test_read no_test sct_fields.test_count 8 i sct_fields.tests its_place

    read_is : test_at (step_of q ((shown q).at n)).tests.items i ≡ step_test_read (test_bytes sct_fields i)
    read_is = test_at_is step_test_read no_test sct_fields.test_count 8 i sct_fields.tests its_place

    pub test_is : test_at step.tests.items i ≡ step_test_read (test_bytes sct_fields i)
    test_is = ap (λ (s : StepPlan). test_at s.tests.items i) t.is ∙ read_is

    pub test_in_range : IsTestInRange (step_test_read (test_bytes sct_fields i))
    test_in_range = subst IsTestInRange test_is (All-get_or IsTestInRange step.tests.items i no_test h t.range.tests)

-- the name of a DD, and what it is
module _ (q : RecordQueue) (n : ℕ) (d : DdPlan) (t : IsDdThere q n d) where
  pub dd_in_range : IsDdInRange (dd_of q ((shown q).at n))
  dd_in_range = subst IsDdInRange t.is t.range

  -- a card of it is in the records below it
  module _ (i : ℕ) (h : i < length (cards_in d.kind)) where
    its_cards : byte_at ((shown q).at n) 12 ≡ 4
    its_cards = cards_here q.layout (shown q) ((shown q).at n) i (subst (λ (x : DdPlan). i < length (cards_in x.kind)) t.is h)

    cards_are : cards_in d.kind ≡ cards_from q (number_at ((shown q).at n) q.layout.below)
    cards_are = ap (λ (x : DdPlan). cards_in x.kind) t.is ∙ ap cards_in (cards_there q.layout (shown q) ((shown q).at n) its_cards)

    pub has_card : HasCard q (number_at ((shown q).at n) q.layout.below) i
    has_card = record {
      records = q.layout.most_records + 1;
      few = omega arith;
      kinds = t.below.cards its_cards;
      there = subst (λ cards. i < length cards) cards_are h;
    }

    pub card_is : card_at (cards_in d.kind) i ≡ card_at (cards_from q (number_at ((shown q).at n) q.layout.below)) i
    card_is = ap (λ cards. card_at cards i) cards_are

  pub counted : number_at ((shown q).at n) q.layout.cards ≡ length (cards_of (dd_of q ((shown q).at n)).kind)
  counted = t.cards ∙ ap (λ (x : DdPlan). length (cards_of x.kind)) t.is
