-- An event leads from each of two machines that are alike to the same one, or is past the last in both.
use Rattle.std.proofs.Common.{◌≡◌, ◌≤◌, List, [], ◌∷◌, sym, ap, subst, ◌∙◌}
use Rattle.jcl_plan.specs.declared.entry.Entry.{Entry}
use Rattle.jcl_plan.specs.declared.entry.Entry.TheVariants as entry
use Rattle.jcl_plan.specs.declared.fault.Cause.TheVariants.{A}
use Rattle.jcl_plan.specs.declared.fault.EventFault.TheVariants.{PastLimit}
use Rattle.cb_meaning.specs.Spelled.{Records}
use Rattle.machine_meaning.specs.declared.machine.TheConstants.{MOST_EVENTS}
use Rattle.world_meaning.specs.declared.event.Event.{Event}
use Rattle.world_meaning.specs.Choices.{Choice, Closed, choice_of}
use Rattle.world_meaning.specs.Readings.{Denoting}
use Rattle.world_meaning.specs.Records.{IsQueueLayout, SameRecords}
use Rattle.world_meaning.specs.Transitions.{Happens, Transition, past, taken}
use Rattle.world_meaning.specs.Worlds.{Config, Shared, World, counted}
use Rattle.world_laws.proofs.Effects.{changes}
use Rattle.open_laws.specs.Open.{IsSameButOpen, SamenessIsKept}
use Rattle.alike_laws.specs.Alike.{LeadsAlike}

pub data Reaches (job_of : Denoting) (old : World) (e : Event) (lines : List Entry) (new : World) (choice : Choice) : Type 0 where
  there : (t : Transition job_of old e lines new) → choice_of t ≡ choice → Reaches job_of old e lines new choice
  stays : MOST_EVENTS ≤ old.events → lines ≡ entry.Refused (A PastLimit) ∷ [] → IsSameButOpen old new → choice ≡ Closed → Reaches job_of old e lines new choice

module _ (sameness : SamenessIsKept) (job_of : Denoting) (old : World) (own : IsQueueLayout old.config.layout) (e : Event) (lines : List Entry) (new : World)
    (choice : Choice) where
  -- the records may be opened again to those of the other machine
  opened : (x : World) → IsSameButOpen x new → IsQueueLayout x.config.layout → Happens job_of (counted old) e lines x → Happens job_of (counted old) e lines new
  opened x same layout h = record {
    middle = h.middle;
    does = h.does;
    reopened = record {
      records = new.shared.records;
      same = subst (λ (c : Config). SameRecords c.layout h.middle.shared.records new.shared.records) config
          ((sameness x.config.layout layout).on h.middle.shared.records x.shared.records new.shared.records to_x same.records);
      rest = ap (λ (w : World). w.shared) same.rest ∙ (λ i. record (shared i) { records = new.shared.records });
    };
    rest = same.rest ∙ (λ i. record (h.rest i) { shared = record (h.rest i).shared { records = new.shared.records } })
        ∙ ap (λ (s : Shared). record h.middle { shared = s }) (sym (ap (λ (w : World). w.shared) same.rest));
  }
    where
      config : x.config ≡ h.middle.config
      config = ap (λ (w : World). w.config) h.rest

      shared : x.shared ≡ record h.middle.shared { records = h.reopened.records }
      shared = h.reopened.rest

      to_x : SameRecords x.config.layout h.middle.shared.records x.shared.records
      to_x = subst (λ (q : Records). SameRecords x.config.layout h.middle.shared.records q) (sym (ap (λ (s : Shared). s.records) shared))
          (subst (λ (c : Config). SameRecords c.layout h.middle.shared.records h.reopened.records) (sym config) h.reopened.same)

  pub reach : LeadsAlike job_of old e lines new choice → Reaches job_of old e lines new choice
  unfolding opened
  reach a = by a.transition a.chosen
    where
      by : (t : Transition job_of old e lines a.new) → choice_of t ≡ choice → Reaches job_of old e lines new choice
      by (past many told same) chosen = stays many told (subst (λ (w : World). IsSameButOpen w new) same a.same) (sym chosen)
      by (taken few h) chosen =
          let layout : IsQueueLayout a.new.config.layout =
          subst (λ (c : Config). IsQueueLayout c.layout) (sym (changes job_of old a.new e lines (taken few h)).config) own in
          there (taken few (opened a.new a.same layout h)) chosen
