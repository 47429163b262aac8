-- A session has one outcome, or its listings part at a RISK.
use Rattle.std.proofs.Common.{◌≡◌, ◌⊎◌, inl, inr, ℕ, true, false, List, [], ◌∷◌, ◌++◌, append_assoc, sym, ap, subst, ◌∙◌}
use Rattle.std.specs.Prelude.{Result, Ok, Err}
use Rattle.std.specs.List.{flat_map}
use Rattle.std.proofs.lemmas.Bool.{cases_Bool}
use Rattle.std.proofs.lemmas.List.{append-nil}
use Rattle.jcl_plan.specs.declared.entry.Entry.{Entry}
use Rattle.jcl_plan.specs.declared.entry.Entry.TheVariants as entry
use Rattle.jcl_plan.specs.declared.entry.JobLine.TheVariants as line
use Rattle.jcl_plan.specs.Lines.{text_of}
use Rattle.run_options.specs.declared.Options.{Options}
use Rattle.session_input.specs.declared.event.Event.{Event}
use Rattle.session_text.specs.declared.statement.Statement.{Statement}
use Rattle.session_text.specs.Statements.{statements_of}
use Rattle.session_core.specs.declared.SessionEnd.{SessionEnd}
use Rattle.session_core.specs.declared.SessionFault.{SessionFault}
use Rattle.session_core.specs.declared.SessionFault.TheVariants.{Memory, Stopped, WriteFailed}
use Rattle.session_core.specs.Listings.{Lists, text_of_all}
use Rattle.session_core.specs.Outcomes.{IsOutcome}
use Rattle.session_core.specs.Sessions.{Session, events_of, session_behind}
use Rattle.machine_laws.specs.Listing.{GoesOn, OneListing, PartSomewhere}
use Rattle.machine_laws.specs.Outcome as spec
use Rattle.machine_laws.specs.Outcome.{IsOneOutcome, PartInText, fault_told, is_whole}
use Rattle.machine_laws.proofs.Chains.{text_goes_on}
use Rattle.machine_laws.proofs.Fronts.{Extends, both_fronts, compared, front_of, two_fronts}
use Rattle.machine_laws.proofs.Outcomes.{IsListed, nothing, outcome_listed, some}

-- the lines from a RISK on
text_from : (lines behind : List Entry) (after : List (List Entry)) (first : Entry) → lines ≡ first ∷ behind →
    text_of_all (lines ∷ after) ≡ text_of first ++ (flat_map text_of behind ++ text_of_all after)
text_from lines behind after first is =
    ap (λ (ls : List Entry). flat_map text_of ls ++ text_of_all after) is ∙ append_assoc (text_of first) (flat_map text_of behind) (text_of_all after)

-- listings that part, of which something is written
part_in_text : (entries others : List (List Entry)) → PartSomewhere entries others → (one other : List ℕ) → GoesOn one (text_of_all entries) →
    GoesOn other (text_of_all others) → PartInText one other
part_in_text entries others p one other a b =
    let r = p.at_risk in
    record {
      before = text_of_all p.before;
      job = r.job;
      step = r.step;
      dd = r.dd;
      fault = r.fault;
      other_fault = r.other_fault;
      path = r.path;
      other_path = r.other_path;
      behind = flat_map text_of r.behind ++ text_of_all p.after;
      other_behind = flat_map text_of r.other_behind ++ text_of_all p.other_after;
      one_so = subst (GoesOn one) (ap text_of_all p.one_so ∙ text_goes_on p.before (p.lines ∷ p.after)
          ∙ ap (λ (t : List ℕ). text_of_all p.before ++ t)
          (text_from p.lines r.behind p.after (entry.Job r.job (line.Risk r.fault r.step r.dd r.path)) r.told)) a;
      other_so = subst (GoesOn other) (ap text_of_all p.other_so ∙ text_goes_on p.before (p.more ∷ p.other_after)
          ∙ ap (λ (t : List ℕ). text_of_all p.before ++ t)
          (text_from p.more r.other_behind p.other_after (entry.Job r.job (line.Risk r.other_fault r.step r.dd r.other_path)) r.told_too)) b;
      differ = r.differ;
    }

flipped : (one other : List ℕ) → PartInText one other → PartInText other one
flipped one other p = record {
  before = p.before;
  job = p.job;
  step = p.step;
  dd = p.dd;
  fault = p.other_fault;
  other_fault = p.fault;
  path = p.other_path;
  other_path = p.path;
  behind = p.other_behind;
  other_behind = p.behind;
  one_so = p.other_so;
  other_so = p.one_so;
  differ = elim p.differ [ inl h ↦ inl (λ e. h (sym e)) | inr h ↦ inr (λ e. h (sym e)) ];
}

nothing_first : (one other : List ℕ) → one ≡ [] → GoesOn one other
nothing_first one other none = record { behind = other; is = ap (λ (t : List ℕ). t ++ other) (sym none) }

module _ (law : OneListing) (o : Options) (stands : List Statement) where
  goes_on : (listing written behind : List ℕ) → listing ≡ written ++ behind → GoesOn written listing
  goes_on listing written behind is = record { behind = behind; is = is }

  -- what is listed of some of the events, and of these and more
  listed_both : (events more : List Event) (listing other_listing one other : List ℕ) (l : Lists o stands events listing)
      (m : Lists o stands (events ++ more) other_listing) → GoesOn one listing → GoesOn other other_listing →
      (GoesOn one other_listing) ⊎ PartInText one other
  listed_both events more listing other_listing one other l m a b =
      elim (law.front o stands events more listing other_listing l m) [
        | inl f ↦ inl (front_of one listing other_listing a f)
        | inr p ↦ inr (part_in_text l.entries m.entries p one other (subst (GoesOn one) l.text a) (subst (GoesOn other) m.text b))
      ]

  longer : (events others : List Event) (listing other_listing one other : List ℕ) → Extends events others → Lists o stands events listing →
      Lists o stands others other_listing → GoesOn one listing → GoesOn other other_listing → (GoesOn one other_listing) ⊎ PartInText one other
  longer events others listing other_listing one other e l m a b =
      listed_both events e.more listing other_listing one other l (subst (λ (es : List Event). Lists o stands es other_listing) e.is m) a b

  -- of two texts that are written the one is the front of the other
  pub cut_both : (one other : List ℕ) → IsListed o stands one → IsListed o stands other → (GoesOn one other ⊎ GoesOn other one) ⊎ PartInText one other
  cut_both one other (nothing none) b = inl (inl (nothing_first one other none))
  cut_both one other (some events more listing behind all l front) (nothing none) = inl (inr (nothing_first other one none))
  cut_both one other (some events more listing behind all l front) (some others further other_listing rest all_too m front_too) =
      let a = goes_on listing one behind front in
      let b = goes_on other_listing other rest front_too in
      elim (two_fronts events others more further (sym all ∙ all_too)) [
        | inl e ↦ elim (longer events others listing other_listing one other e l m a b) [
          | inl f ↦ inl (compared one other other_listing f b)
          | inr p ↦ inr p
        ]
        | inr e ↦ elim (longer others events other_listing listing other one e m l b a) [
          | inl f ↦ inl (compared one other listing a f)
          | inr p ↦ inr (flipped other one p)
        ]
      ]

  -- and of what is listed of all of them
  pub front_both : (one other : List ℕ) → IsListed o stands one → Lists o stands (events_of stands) other → GoesOn one other ⊎ PartInText one other
  front_both one other (nothing none) m = inl (nothing_first one other none)
  front_both one other (some events more listing behind all l front) m =
      longer events (events_of stands) listing other one other (record { more = more; is = all }) l m (goes_on listing one behind front)
      (record { behind = []; is = sym (append-nil other) })

module _ (o : Options) (statements : List Statement) where
  abbrev session : Session
  session = session_behind [] statements

  whole_lists : (result : Result SessionEnd SessionFault) (written : List ℕ) → IsOutcome o session result written → is_whole result ≡ true →
      Lists o session.stands (events_of session.stands) written
  whole_lists (Ok end) written h is = h.1
  whole_lists (Err (Stopped fault line)) written h is = h.1
  whole_lists (Err (WriteFailed line)) written h is = absurd cc
  whole_lists (Err Memory) written h is = absurd cc

  fault_so : (result : Result SessionEnd SessionFault) (written : List ℕ) → IsOutcome o session result written → is_whole result ≡ true →
      fault_told result ≡ session.fault
  fault_so (Ok end) written h is = sym h.0
  fault_so (Err (Stopped fault line)) written h is = sym h.0
  fault_so (Err (WriteFailed line)) written h is = absurd cc
  fault_so (Err Memory) written h is = absurd cc

  module _ (law : OneListing) (r q : Result SessionEnd SessionFault) (one other : List ℕ) (a : IsOutcome o session r one) (b : IsOutcome o session q other) where
    -- where an answer is whole the other text is the front of its own
    front_if : (is_whole q ≡ true → GoesOn one other) ⊎ PartInText one other
    front_if = elim (cases_Bool (is_whole q)) [
      | inl is ↦ elim (front_both law o session.stands one other (outcome_listed o statements r one a) (whole_lists q other b is)) [
        | inl f ↦ inl (λ _. f)
        | inr p ↦ inr p
      ]
      | inr isnt ↦ inl (λ is. let clash : true ≡ false = sym is ∙ isnt in absurd cc)
    ]

    back_if : (is_whole r ≡ true → GoesOn other one) ⊎ PartInText one other
    back_if = elim (cases_Bool (is_whole r)) [
      | inl is ↦ elim (front_both law o session.stands other one (outcome_listed o statements q other b) (whole_lists r one a is)) [
        | inl f ↦ inl (λ _. f)
        | inr p ↦ inr (flipped other one p)
      ]
      | inr isnt ↦ inl (λ is. let clash : true ≡ false = sym is ∙ isnt in absurd cc)
    ]

    together : (GoesOn one other ⊎ GoesOn other one) → (is_whole q ≡ true → GoesOn one other) → (is_whole r ≡ true → GoesOn other one) → IsOneOutcome r q one other
    together cut front back = record {
      told = λ is is_too. fault_so r one a is ∙ sym (fault_so q other b is_too);
      same = λ is is_too. both_fronts one other (front is_too) (back is);
      front = front;
      back = back;
      cut = cut;
    }

    one_of_both : IsOneOutcome r q one other ⊎ PartInText one other
    one_of_both =
        elim (cut_both law o session.stands one other (outcome_listed o statements r one a) (outcome_listed o statements q other b)) [
          | inl cut ↦ elim front_if [
            | inl front ↦ elim back_if [
              | inl back ↦ inl (together cut front back)
              | inr p ↦ inr p
            ]
            | inr p ↦ inr p
          ]
          | inr p ↦ inr p
        ]

pub one_outcome : OneListing → spec.OneOutcome
one_outcome law o ending text r q one other a b = one_of_both o (statements_of ending text) law r q one other a b
