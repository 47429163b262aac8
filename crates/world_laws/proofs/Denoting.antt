-- The records of a job go on spelling it where they differ in what is open alone.
use Rattle.std.proofs.Common.{◌≡◌, ◌≤◌, ◌+◌, ◌++◌, arith, ℕ, true, false, List, [], ◌∷◌, refl, sym, ap, ◌∙◌, subst}
use Rattle.std.proofs.lemmas.Bool.{cond-false}
use Rattle.jcl_plan.specs.declared.plan.DdKind.{DdKind}
use Rattle.jcl_plan.specs.declared.plan.DdKind.TheVariants.{Cards, Dummy, Set, Sysout}
use Rattle.jcl_plan.specs.declared.plan.DdPlan.{DdPlan}
use Rattle.jcl_plan.specs.declared.plan.JobPlan.{JobPlan}
use Rattle.jcl_plan.specs.declared.plan.SetPlan.{SetPlan}
use Rattle.jcl_plan.specs.declared.plan.StepPlan.{StepPlan}
use Rattle.cb_meaning.specs.declared.layout.Layout.{Layout}
use Rattle.cb_meaning.specs.Fields.{byte_at, field, number_at, number_of}
use Rattle.cb_meaning.specs.Spelled.{Below, CardChain, DdChain, Denotes, IsOwned, Records, Spell, SpellsCards, SpellsJct, SpellsJfcb, SpellsSct, SpellsSiot, StepChain, card_fields, card_record, common, jct, jct_fields, jfcb, jfcb_fields, sct, sct_fields, siot, status_bytes}
use Rattle.cb_meaning.specs.Walks.{is_free}
use Rattle.world_meaning.specs.Records.{AgreeBut, has_status, open_fields}
use Rattle.world_meaning.specs.Records.{IsQueueLayout}
use Rattle.world_laws.specs.RecordsKept.{KeepsRecords}
use Rattle.world_laws.proofs.Bytes.{low_byte, low_part, open_part, opened, told_byte, told_number, told_part, unused_same}

module _ (l : Layout) (own : IsQueueLayout l) where
  -- one record of each kind
  module _ (r s : List ℕ) (agree : AgreeBut (opened l true) r s) where
    byte : (k : ℕ) → 8 ≤ k → k + 1 ≤ 168 → byte_at s k ≡ byte_at r k
    byte k from to = told_byte l own true r s agree k from (λ e. omega (arith, to))

    jct_still : (plan : JobPlan) → SpellsJct l plan r → SpellsJct l plan s
    jct_still plan h = record {
      layout = byte 8 (omega arith) (omega arith) ∙ h.layout;
      class = byte 9 (omega arith) (omega arith) ∙ h.class;
      priority = byte 10 (omega arith) (omega arith) ∙ h.priority;
      message_class = byte 11 (omega arith) (omega arith) ∙ h.message_class;
      steps = told_number l own true r s agree l.steps own.steps ∙ h.steps;
      name = told_part l own true r s agree 16 8 (omega arith) (omega arith) ∙ h.name;
      count = byte 24 (omega arith) (omega arith) ∙ h.count;
      tests = told_part l own true r s agree 26 24 (omega arith) (omega arith) ∙ h.tests;
      unused = unused_same l own true r s agree (jct_fields l) 8 refl (λ e. refl) ∙ h.unused;
    }

    sct_still : (step : StepPlan) → SpellsSct l step r → SpellsSct l step s
    sct_still step h = record {
      dds = told_number l own true r s agree l.dds own.dds ∙ h.dds;
      after_abend = byte 14 (omega arith) (omega arith) ∙ h.after_abend;
      count = byte 15 (omega arith) (omega arith) ∙ h.count;
      name = told_part l own true r s agree 16 8 (omega arith) (omega arith) ∙ h.name;
      procedure_step = told_part l own true r s agree 24 8 (omega arith) (omega arith) ∙ h.procedure_step;
      program = told_part l own true r s agree 32 8 (omega arith) (omega arith) ∙ h.program;
      tests = told_part l own true r s agree 40 40 (omega arith) (omega arith) ∙ h.tests;
      unused = unused_same l own true r s agree (sct_fields l) 9 refl (λ e. refl) ∙ h.unused;
    }

    siot_still : (dd : DdPlan) → SpellsSiot l dd r → SpellsSiot l dd s
    siot_still dd h = record {
      kind = byte 12 (omega arith) (omega arith) ∙ h.kind;
      status = byte 13 (omega arith) (omega arith) ∙ h.status;
      normal = byte 14 (omega arith) (omega arith) ∙ h.normal;
      conditional = byte 15 (omega arith) (omega arith) ∙ h.conditional;
      name = told_part l own true r s agree 16 8 (omega arith) (omega arith) ∙ h.name;
      marks = byte 24 (omega arith) (omega arith) ∙ h.marks;
      class = byte 25 (omega arith) (omega arith) ∙ h.class;
      cards = told_number l own true r s agree l.cards own.cards ∙ h.cards;
      volume = byte 28 (omega arith) (omega arith) ∙ h.volume;
      volume_dd = told_part l own true r s agree 30 4 (omega arith) (omega arith) ∙ h.volume_dd;
      primary = ap number_of (told_part l own true r s agree 34 2 (omega arith) (omega arith)) ∙ h.primary;
      secondary = ap number_of (told_part l own true r s agree 36 2 (omega arith) (omega arith)) ∙ h.secondary;
      units = ap number_of (told_part l own true r s agree 38 2 (omega arith) (omega arith)) ∙ h.units;
      unused = unused_same l own true r s agree
          (common l ++ l.next_dd ∷ l.below ∷ field 12 4 ∷ field 16 10 ∷ l.cards ∷ field 28 1 ∷ field 30 10 ∷ status_bytes ∷ []) 10 refl (λ e. refl) ∙ h.unused;
    }

  module _ (r s : List ℕ) (agree : AgreeBut (opened l false) r s) where
    no_status : {X : Type 0} → false ≡ true → X
    no_status e = absurd cc

    jfcb_still : (p : SetPlan) → SpellsJfcb l p r → SpellsJfcb l p s
    jfcb_still p h = record {
      kind = told_byte l own false r s agree 8 (omega arith) (λ e. no_status e) ∙ h.kind;
      relative = open_part l own false r s agree 9 3 (omega arith) refl ∙ h.relative;
      name = open_part l own false r s agree 12 44 (omega arith) refl ∙ h.name;
      serial = open_part l own false r s agree 56 6 (omega arith) refl ∙ h.serial;
      reference = open_part l own false r s agree 62 44 (omega arith) refl ∙ h.reference;
      expiry_kind = told_number l own false r s agree l.expiry_kind own.expiry_kind ∙ h.expiry_kind;
      expiry_days = told_number l own false r s agree l.expiry_days own.expiry_days ∙ h.expiry_days;
      unused = unused_same l own false r s agree (jfcb_fields l) 0 refl (λ e. no_status e) ∙ h.unused;
    }

    cards_still : (here : List (List ℕ)) → SpellsCards l here r → SpellsCards l here s
    cards_still here h = record {
      count = told_byte l own false r s agree 10 (omega arith) (λ e. no_status e) ∙ h.count;
      some = h.some;
      most = h.most;
      cards = open_part l own false r s agree 16 160 (omega arith) refl ∙ h.cards;
      unused = unused_same l own false r s agree (card_fields l) 0 refl (λ e. no_status e) ∙ h.unused;
    }

  -- the records of a queue
  module _ (job : ℕ) (old new : Records) (keeps : KeepsRecords l job old new) where
    kept : (kind n : ℕ) → IsOwned l old job kind n → (is_free new n ≡ false) × AgreeBut (opened l (has_status kind)) (old.at n) (new.at n)
    kept kind n o =
        let k : (is_free new n ≡ false) × AgreeBut (open_fields l (old.at n)) (old.at n) (new.at n) =
        keeps n o.in_use (cond-false (is_free old n) 0 (number_at (old.at n) (field 2 2)) o.in_use ∙ o.of_job) in
        (k.0, subst (λ b. AgreeBut (opened l (has_status b)) (old.at n) (new.at n)) o.of_kind k.1)

    owned_still : (kind n : ℕ) → IsOwned l old job kind n → IsOwned l new job kind n
    owned_still kind n o =
        let k : (is_free new n ≡ false) × AgreeBut (opened l (has_status kind)) (old.at n) (new.at n) = kept kind n o in
        record {
          from_one = o.from_one;
          within = o.within;
          in_use = k.0;
          size = k.1.size ∙ o.size;
          of_kind = low_byte l own (has_status kind) (old.at n) (new.at n) k.1 0 (omega arith) ∙ o.of_kind;
          of_job = ap number_of (low_part l own (has_status kind) (old.at n) (new.at n) k.1 2 2 (omega arith)) ∙ o.of_job;
        }

    cards_chain : (first : ℕ) (numbers : List ℕ) (cards : List (List ℕ)) → CardChain l old job first numbers cards → CardChain l new job first numbers cards
    cards_chain first [] cards h = h
    cards_chain first (n ∷ numbers) cards h =
        let k : AgreeBut (opened l false) (old.at n) (new.at n) = (kept card_record n h.4).1 in (
          h.0,
          h.1,
          h.2,
          h.3,
          owned_still card_record n h.4,
          cards_still (old.at n) (new.at n) k h.0 h.5,
          subst (λ next. CardChain l new job next numbers h.1) (sym (told_number l own false (old.at n) (new.at n) k l.next_cards own.next_cards))
              (cards_chain (number_at (old.at n) l.next_cards) numbers h.1 h.6),
        )

    below_still : (first : ℕ) (numbers : List ℕ) (kind : DdKind) → Below l old job first numbers kind → Below l new job first numbers kind
    below_still first numbers Dummy h = h
    below_still first numbers (Sysout class) h = h
    below_still first numbers (Cards cards) h = cards_chain first numbers cards h
    below_still first numbers (Set p) h =
        (h.0, owned_still jfcb first h.1, jfcb_still (old.at first) (new.at first) (kept jfcb first h.1).1 p h.2)

    dds_still : (first : ℕ) (numbers : List ℕ) (dds : List DdPlan) → DdChain l old job first numbers dds → DdChain l new job first numbers dds
    dds_still first numbers [] h = h
    dds_still first numbers (dd ∷ dds) h =
        let k : AgreeBut (opened l true) (old.at first) (new.at first) = (kept siot first h.3).1 in (
          h.0,
          h.1,
          h.2,
          owned_still siot first h.3,
          siot_still (old.at first) (new.at first) k dd h.4,
          subst (λ next. Below l new job next h.0 dd.kind) (sym (told_number l own true (old.at first) (new.at first) k l.below own.below))
              (below_still (number_at (old.at first) l.below) h.0 dd.kind h.5),
          subst (λ next. DdChain l new job next h.1 dds) (sym (told_number l own true (old.at first) (new.at first) k l.next_dd own.next_dd))
              (dds_still (number_at (old.at first) l.next_dd) h.1 dds h.6),
        )

    steps_still : (first : ℕ) (numbers : List ℕ) (steps : List StepPlan) → StepChain l old job first numbers steps → StepChain l new job first numbers steps
    steps_still first numbers [] h = h
    steps_still first numbers (step ∷ steps) h =
        let k : AgreeBut (opened l true) (old.at first) (new.at first) = (kept sct first h.3).1 in (
          h.0,
          h.1,
          h.2,
          owned_still sct first h.3,
          sct_still (old.at first) (new.at first) k step h.4,
          subst (λ next. DdChain l new job next h.0 step.dds) (sym (told_number l own true (old.at first) (new.at first) k l.first_dd own.first_dd))
              (dds_still (number_at (old.at first) l.first_dd) h.0 step.dds h.5),
          subst (λ next. StepChain l new job next h.1 steps) (sym (told_number l own true (old.at first) (new.at first) k l.next_step own.next_step))
              (steps_still (number_at (old.at first) l.next_step) h.1 steps h.6),
        )

    spell_still : (numbers : List ℕ) (plan : JobPlan) → Spell l old job numbers plan → Spell l new job numbers plan
    spell_still numbers plan h =
        let k : AgreeBut (opened l true) (old.at h.first) (new.at h.first) = (kept jct h.first h.owned).1 in
        record {
          first = h.first;
          behind = h.behind;
          begins = h.begins;
          once = h.once;
          owned = owned_still jct h.first h.owned;
          head = jct_still (old.at h.first) (new.at h.first) k plan h.head;
          steps = subst (λ next. StepChain l new job next h.behind plan.steps)
              (sym (told_number l own true (old.at h.first) (new.at h.first) k l.first_step own.first_step))
              (steps_still (number_at (old.at h.first) l.first_step) h.behind plan.steps h.steps);
        }

    pub denotes_still : (units : ℕ) (numbers : List ℕ) (plan : JobPlan) → Denotes l units old job numbers plan → Denotes l units new job numbers plan
    denotes_still units numbers plan h = record { in_range = h.in_range; spelled = spell_still numbers plan h.spelled }
