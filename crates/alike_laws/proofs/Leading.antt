-- Each event that leads from one of two machines that are the same but for what is open leads from the other too.
use Rattle.std.proofs.Common.{◌≡◌, List, refl, sym, ap, ◌∙◌, subst}
use Rattle.jcl_plan.specs.declared.entry.Entry.{Entry}
use Rattle.cb_meaning.specs.Spelled.{Records}
use Rattle.world_meaning.specs.declared.event.Event.{Event}
use Rattle.world_meaning.specs.Choices.{choice_of}
use Rattle.world_meaning.specs.Readings.{Denoting}
use Rattle.world_meaning.specs.Records.{IsQueueLayout, SameRecords}
use Rattle.world_meaning.specs.Transitions.{Transition, past, taken}
use Rattle.world_meaning.specs.Worlds.{Config, World, counted}
use Rattle.world_laws.specs.RecordsKept.{DenotesStill}
use Rattle.open_laws.specs.Open.{SamenessIsKept}
use Rattle.open_laws.specs.Reading.{FirstFaultStays}
use Rattle.alike_laws.specs.Alike.{EventsGoAlike, LeadsAlike}
use Rattle.alike_laws.proofs.Doing.{on_records}
use Rattle.alike_laws.proofs.Events.{does_so}

module _ (faults : FirstFaultStays) (denotes : DenotesStill) (kept : SamenessIsKept) (job_of : Denoting) (old other : World) (e : Event) (lines : List Entry)
    (own : IsQueueLayout old.config.layout) where
  -- The new machine is the other one's: behind an event the records are opened again.
  leads : (r : Records) → SameRecords old.config.layout old.shared.records r → (t : Transition job_of (on_records old r) e lines other) →
      LeadsAlike job_of old e lines other (choice_of t)
  leads r same (past many told is) =
      let records : other.shared.records ≡ r = ap (λ (w : World). w.shared.records) is in
      record {
        new = old;
        transition = past many told refl;
        chosen = refl;
        same = record {
          records = subst (SameRecords old.config.layout old.shared.records) (sym records) same;
          rest = is ∙ ap (on_records old) (sym records);
        };
      }
  leads r same (taken few h) =
      let so = does_so (counted old) own r same faults denotes kept job_of e lines h.middle h.does in
      let there : IsQueueLayout h.middle.config.layout = subst (λ (c : Config). IsQueueLayout c.layout) (sym so.config) own in
      let first : SameRecords h.middle.config.layout so.records h.middle.shared.records =
      subst (λ (c : Config). SameRecords c.layout so.records h.middle.shared.records) (sym so.config) so.same in
      record {
        new = other;
        transition = taken few (record {
          middle = on_records h.middle so.records;
          does = so.does;
          reopened = record {
            records = h.reopened.records;
            same = (kept h.middle.config.layout there).on so.records h.middle.shared.records h.reopened.records first h.reopened.same;
            rest = h.reopened.rest;
          };
          rest = h.rest;
        });
        chosen = so.chosen;
        same = record { records = record { free = refl; used = λ n is. record { size = refl; bytes = λ k out. refl } }; rest = refl };
      }

-- Machines that are the same but for what is open differ in their records alone.
pub goes_alike : FirstFaultStays → DenotesStill → SamenessIsKept → EventsGoAlike
goes_alike faults denotes kept job_of old beside other e lines own same t =
    subst (λ w. (u : Transition job_of w e lines other) → LeadsAlike job_of old e lines other (choice_of u)) (sym same.rest)
    (leads faults denotes kept job_of old other e lines own beside.shared.records same.records) t
