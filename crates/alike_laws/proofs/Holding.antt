-- A selected job reads and holds alike where records differ in what is open alone.
use Rattle.std.proofs.Common.{◌≡◌, ℕ, List, Option, length, sym, ap, ◌∙◌, subst}
use Rattle.jcl_plan.specs.declared.entry.JobLine.{JobLine}
use Rattle.jcl_plan.specs.declared.plan.JobPlan.{JobPlan}
use Rattle.cb_meaning.specs.Spelled.{Records}
use Rattle.world_meaning.specs.Holdings.{Holds, ReadsRecords}
use Rattle.world_meaning.specs.Holdings as holding
use Rattle.world_meaning.specs.Records.{IsQueueLayout, SameRecords, records_given_back}
use Rattle.world_meaning.specs.Tracks.{Conserves}
use Rattle.world_meaning.specs.Worlds.{Config, Running, Shared}
use Rattle.world_laws.specs.RecordsKept.{DenotesStill}
use Rattle.open_laws.specs.Open.{SamenessIsKept}
use Rattle.open_laws.specs.Reading.{FirstFaultStays}
use Rattle.alike_laws.proofs.Same.{denoted_same, fault_same, given_back}

-- with other records
abbrev pub with_records : Shared → Records → Shared
with_records s q = record s { records = q }

-- tracks are no matter of records
pub still : (old new : Shared) (q r p : Records) → Conserves (with_records old q) new → Conserves (with_records old r) (with_records new p)
still old new q r p h serial =
    record { touched = (h serial).touched; once = (h serial).once; others = (h serial).others; sum = (h serial).sum }

-- It leads to the same but for the records, and these are the same but for what is open.
pub record LeadsTo (c : Config) (D : Shared → Type 0) (new : Shared) : Type 0 where
  pub records : Records
  pub does : D (with_records new records)
  pub same : SameRecords c.layout records new.records

module _ (c : Config) (own : IsQueueLayout c.layout) (old : Shared) (r : Records) (same : SameRecords c.layout old.records r) (run : Running) where
  abbrev pub beside : Shared
  beside = with_records old r

  abbrev pub given : Records
  given = records_given_back c.layout old.records run.job

  -- the records stay as they are, or those of the job are given back
  pub stays : (new : Shared) → new.records ≡ r → SameRecords c.layout old.records new.records
  stays new e = subst (SameRecords c.layout old.records) (sym e) same

  pub gives : (new : Shared) → new.records ≡ records_given_back c.layout r run.job → SameRecords c.layout given new.records
  gives new e = subst (SameRecords c.layout given) (sym e) (given_back c own old.records r same run.job)

  -- the names of a job are held, or it waits for them
  pub holds_so : (plan : JobPlan) (lines : List JobLine) (new : Shared) (runs : Option Running) → Holds beside run plan lines new runs →
      LeadsTo c (λ s. Holds old run plan lines s runs) new
  holds_so plan lines new runs (holding.held free told e goes) = record {
    records = old.records;
    does = holding.held free told (ap (λ s. with_records s old.records) e) goes;
    same = stays new (ap (λ (s : Shared). s.records) e);
  }
  holds_so plan lines new runs (holding.blocked by first told e goes) = record {
    records = old.records;
    does = holding.blocked by first told (ap (λ s. with_records s old.records) e) goes;
    same = stays new (ap (λ (s : Shared). s.records) e);
  }

  -- the records of a job are broken, or they are read
  pub reads_so : FirstFaultStays → DenotesStill → SamenessIsKept → (first : ℕ) (lines : List JobLine) (new : Shared) (runs : Option Running) →
      ReadsRecords c beside run first lines new runs → LeadsTo c (λ s. ReadsRecords c old run first lines s runs) new
  reads_so faults denotes kept first lines new runs (holding.broken n free fault told e conserves none) = record {
    records = given;
    does = holding.broken n free (sym (fault_same c own old.records r same faults (length c.units) run.job first) ∙ fault) told
        (ap (λ s. with_records s given) e) (still old new r old.records given conserves) none;
    same = gives new (ap (λ (s : Shared). s.records) e);
  }
  reads_so faults denotes kept first lines new runs (holding.read plan behind denoted holds) =
      let so = holds_so plan lines new runs holds in
      record {
        records = so.records;
        does = holding.read plan behind (denoted_same c own old.records r same denotes kept (length c.units) run.job _ plan denoted) so.does;
        same = so.same;
      }
