-- A turn does alike where records differ in what is open alone.
use Rattle.std.proofs.Common.{ℕ, List, Option, Some, None, refl, sym, ap, ◌∙◌, subst}
use Rattle.jcl_plan.specs.declared.entry.Entry.{Entry}
use Rattle.cb_meaning.specs.Spelled.{Records}
use Rattle.world_meaning.specs.Choices.{Closed, choice_of_acting, choice_of_turn}
use Rattle.world_meaning.specs.Records.{IsQueueLayout, SameRecords}
use Rattle.world_meaning.specs.Selections.{Selects}
use Rattle.world_meaning.specs.Selections as selection
use Rattle.world_meaning.specs.Transitions.{Acts, Turns, acts, told_with, unknown}
use Rattle.world_meaning.specs.Worlds.{Initiator, Running, World}
use Rattle.world_laws.specs.RecordsKept.{DenotesStill}
use Rattle.open_laws.specs.Open.{SamenessIsKept}
use Rattle.open_laws.specs.Reading.{FirstFaultStays}
use Rattle.alike_laws.proofs.Going.{goes_so}
use Rattle.alike_laws.proofs.Holding.{with_records}
use Rattle.alike_laws.proofs.Doing.{DoesTo, config_in, on_records, records_in, stays}

module _ (old : World) (own : IsQueueLayout old.config.layout) (r : Records) (same : SameRecords old.config.layout old.shared.records r) where
  abbrev q : Records
  q = old.shared.records

  abbrev beside : World
  beside = on_records old r

  abbrev back : World → World
  back w = on_records w q

  -- the selection of a job
  selects_so : (place : ℕ) (x : Initiator) (lines : List Entry) (new : World) → Selects beside place x lines new →
      DoesTo old (Selects old place x lines) (λ w d. Closed) new Closed
  selects_so place x lines new (selection.nothing none told e) =
      stays old r same (Selects old place x lines) new (selection.nothing none told (ap back e)) (ap records_in e) (ap config_in e)
  selects_so place x lines new (selection.selected w is told e) =
      stays old r same (Selects old place x lines) new (selection.selected w is told (ap back e)) (ap records_in e) (ap config_in e)

  -- what an initiator does, with a job or without one
  acts_so : FirstFaultStays → DenotesStill → SamenessIsKept → (place : ℕ) (x : Initiator) (running : Option Running) (lines : List Entry) (new : World)
      (g : Acts beside place x running lines new) →
      DoesTo old (Acts old place x running lines) (choice_of_acting old place x running lines) new (choice_of_acting beside place x running lines new g)
  acts_so faults denotes kept place x None lines new g =
      let so = selects_so place x lines new g in
      record { records = so.records; does = so.does; same = so.same; config = so.config; chosen = refl }
  acts_so faults denotes kept place x (Some run) lines new g =
      let so = goes_so old.config own old.shared r same run faults denotes kept run.stage g.job_lines g.shared g.runs g.goes in
      record {
        records = so.records;
        does = record {
          job_lines = g.job_lines;
          shared = with_records g.shared so.records;
          runs = g.runs;
          goes = so.goes;
          told = g.told ∙ ap (told_with run.job g.job_lines) (sym so.explains);
          leaves = ap (λ w. on_records w so.records) g.leaves;
        };
        same = subst (SameRecords old.config.layout so.records) (sym (ap records_in g.leaves)) so.same;
        config = ap config_in g.leaves;
        chosen = so.chosen;
      }

  -- a turn, of an initiator that is there or not
  pub turns_so : FirstFaultStays → DenotesStill → SamenessIsKept → (number : ℕ) (lines : List Entry) (new : World) (g : Turns beside number lines new) →
      DoesTo old (Turns old number lines) (λ w d. choice_of_turn d) new (choice_of_turn g)
  turns_so faults denotes kept number lines new (unknown none told e) = record {
    records = q;
    does = unknown none told (ap back e);
    same = subst (SameRecords old.config.layout q) (sym (ap records_in e)) same;
    config = ap config_in e;
    chosen = refl;
  }
  turns_so faults denotes kept number lines new (acts place x at numbered g) =
      let so = acts_so faults denotes kept place x x.running lines new g in
      record { records = so.records; does = acts place x at numbered so.does; same = so.same; config = so.config; chosen = so.chosen }
