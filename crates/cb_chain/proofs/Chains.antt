-- One link of each chain.
use Rattle.std.proofs.Common.{◌≡◌, ◌≢◌, ℕ, ◌≤◌, false, List, ◌∷◌, ◌++◌, length, ap, ◌∙◌, sym, refl, subst, arith}
use Rattle.std.proofs.lemmas.List.Elements.{All-append, All-cons}
use Rattle.jcl_plan.specs.declared.plan.DdPlan.{DdPlan}
use Rattle.jcl_plan.specs.declared.plan.StepPlan.{StepPlan}
use Rattle.cb_meaning.specs.declared.layout.Layout.{Layout}
use Rattle.cb_meaning.specs.Fields.{byte_at, field, number_at}
use Rattle.cb_meaning.specs.Spelled.{Below, CardChain, DdChain, IsOwned, Records, SpellsCards, SpellsSct, SpellsSiot, StepChain, card_record, sct, siot}
use Rattle.cb_chain.specs.Composed.{IsCards, IsOf, IsSct, IsSiot}
use Rattle.cb_chain.specs.Taking.{AreFresh, CardsFrom, DdsFrom, OfDds, OfKind, StepsFrom, is_among}
use Rattle.cb_chain.specs.Written.{HasNoStatus, IsFresh}

module _ (l : Layout) (later : Records) (job here : ℕ) (r : List ℕ) (is : later.at here ≡ r) (from : 1 ≤ here) (to : here ≤ l.most_records)
    (in_use : is_among here later.free ≡ false) where
  pub owned : (kind : ℕ) → IsOf l job kind r → IsOwned l later job kind here
  owned kind head = record {
    from_one = from;
    within = to;
    in_use = in_use;
    size = ap length is ∙ head.size;
    of_kind = ap (λ b. byte_at b 0) is ∙ head.of_kind;
    of_job = ap (λ b. number_at b (field 2 2)) is ∙ head.of_job;
  }

  -- a record of no cards
  pub without_status : (kind : ℕ) → kind ≢ card_record → IsOf l job kind r → HasNoStatus r → IsFresh l (later.at here)
  without_status kind other head h = record {
    unmarked = λ _. subst HasNoStatus (sym is) h;
    packed = λ of_cards more. absurd (other (sym (ap (λ b. byte_at b 0) is ∙ head.of_kind) ∙ of_cards));
  }

  pub behind_it : (kind : ℕ) (numbers : List ℕ) → kind ≢ card_record → IsOf l job kind r → HasNoStatus r → AreFresh l later numbers →
      AreFresh l later (here ∷ numbers)
  behind_it kind numbers other head h rest = All-cons (λ n. IsFresh l (later.at n)) here numbers (without_status kind other head h) rest

  -- a record of cards, two where more follow
  with_cards : (next : ℕ) (cards : List (List ℕ)) → IsCards l job cards next r → (next ≢ 0 → length cards ≡ 2) → IsFresh l (later.at here)
  with_cards next cards h full = record {
    unmarked = λ other. absurd (other (ap (λ b. byte_at b 0) is ∙ h.head.of_kind));
    packed = λ of_cards more.
        ap (λ b. byte_at b 10) is ∙ h.spells.count ∙ full (λ none. more (ap (λ b. number_at b l.next_cards) is ∙ h.to_next ∙ none));
  }

  pub card_link : (next : ℕ) (cards rest : List (List ℕ)) (behind : List ℕ) → IsCards l job cards next r → (next ≢ 0 → length cards ≡ 2) →
      CardsFrom l job later next behind rest → CardsFrom l job later here (here ∷ behind) (cards ++ rest)
  card_link next cards rest behind h full chain = (
    (
      cards,
      rest,
      refl,
      refl,
      owned card_record h.head,
      subst (SpellsCards l cards) (sym is) h.spells,
      subst (λ n. CardChain l later job n behind rest) (sym (ap (λ b. number_at b l.next_cards) is ∙ h.to_next)) chain.0,
    ),
    All-cons (λ n. IsFresh l (later.at n)) here behind (with_cards next cards h full) chain.1,
  )

  pub dd_link : (under next : ℕ) (below behind : List ℕ) (dd : DdPlan) (dds : List DdPlan) → IsSiot l job dd under next r →
      OfKind l job dd.kind later under below → DdsFrom l job later next behind dds → DdsFrom l job later here (here ∷ (below ++ behind)) (dd ∷ dds)
  dd_link under next below behind dd dds h down chain = (
    (
      below,
      behind,
      refl,
      owned siot h.head,
      subst (SpellsSiot l dd) (sym is) h.spells,
      subst (λ n. Below l later job n below dd.kind) (sym (ap (λ b. number_at b l.below) is ∙ h.to_below)) down.0,
      subst (λ n. DdChain l later job n behind dds) (sym (ap (λ b. number_at b l.next_dd) is ∙ h.to_next)) chain.0,
    ),
    behind_it siot (below ++ behind) (λ e. absurd (omega arith)) h.head h.status (All-append (λ n. IsFresh l (later.at n)) below behind down.1 chain.1),
  )

  pub step_link : (under next : ℕ) (below behind : List ℕ) (step : StepPlan) (steps : List StepPlan) → IsSct l job step under next r →
      OfDds l job step.dds later under below → StepsFrom l job later next behind steps → StepsFrom l job later here (here ∷ (below ++ behind)) (step ∷ steps)
  step_link under next below behind step steps h down chain = (
    (
      below,
      behind,
      refl,
      owned sct h.head,
      subst (SpellsSct l step) (sym is) h.spells,
      subst (λ n. DdChain l later job n below step.dds) (sym (ap (λ b. number_at b l.first_dd) is ∙ h.to_dd)) down.0,
      subst (λ n. StepChain l later job n behind steps) (sym (ap (λ b. number_at b l.next_step) is ∙ h.to_next)) chain.0,
    ),
    behind_it sct (below ++ behind) (λ e. absurd (omega arith)) h.head h.status (All-append (λ n. IsFresh l (later.at n)) below behind down.1 chain.1),
  )
