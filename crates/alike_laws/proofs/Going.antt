-- A turn of a job goes on alike where records differ in what is open alone.
use Rattle.std.proofs.Common.{◌≡◌, ℕ, List, Option, refl, ap}
use Rattle.jcl_plan.specs.declared.entry.JobLine.{JobLine}
use Rattle.jcl_plan.specs.declared.plan.JobPlan.{JobPlan}
use Rattle.jcl_meaning.specs.declared.state.Own.{Own}
use Rattle.jcl_meaning.specs.States.{Fixed}
use Rattle.cb_meaning.specs.Spelled.{Records}
use Rattle.world_meaning.specs.Admissions.{Answered, MayFail, assured, no_space, refused, risk, risky, too_many}
use Rattle.world_meaning.specs.Choices.{Choice, choice_of_advance, choice_of_going}
use Rattle.world_meaning.specs.Records.{IsQueueLayout, SameRecords, records_given_back}
use Rattle.world_meaning.specs.Transitions.{GoesOn, explained_by}
use Rattle.world_meaning.specs.Turns.{Advances}
use Rattle.world_meaning.specs.Worlds.{Admission, Admitted, Config, Named, Running, Selected, Shared, Stage, Wanting}
use Rattle.world_laws.specs.RecordsKept.{DenotesStill}
use Rattle.open_laws.specs.Open.{SamenessIsKept}
use Rattle.open_laws.specs.Reading.{FirstFaultStays}
use Rattle.alike_laws.proofs.Holding.{LeadsTo, gives, holds_so, reads_so, stays, still, with_records}

-- a turn of an admitted job, which leaves as much open
record AdvancesTo (c : Config) (old : Shared) (run : Running) (plan : JobPlan) (a : Admission) (count : ℕ) (mine : Own) (lines : List JobLine)
    (new : Shared) (runs : Option Running) (choice : Choice) : Type 0 where
  records : Records
  does : Advances c old run plan a count mine lines (with_records new records) runs
  same : SameRecords c.layout records new.records
  chosen : choice_of_advance does ≡ choice

-- any turn of a job, which leaves as much open and explains as much
pub record GoesTo (c : Config) (old : Shared) (run : Running) (stage : Stage) (lines : List JobLine) (new : Shared) (runs : Option Running)
    (choice : Choice) (explained : List JobLine) : Type 0 where
  pub records : Records
  pub goes : GoesOn c old run stage lines (with_records new records) runs
  pub same : SameRecords c.layout records new.records
  pub chosen : choice_of_going c old run stage lines (with_records new records) runs goes ≡ choice
  pub explains : explained_by c old run stage lines (with_records new records) runs goes ≡ explained

module _ (c : Config) (own : IsQueueLayout c.layout) (old : Shared) (r : Records) (same : SameRecords c.layout old.records r) (run : Running) where
  abbrev beside : Shared
  beside = with_records old r

  abbrev given : Records
  given = records_given_back c.layout old.records run.job

  -- a job that may fail runs, or is refused
  may_fail_so : (plan : JobPlan) (fixed : Fixed) (line : JobLine) (lines : List JobLine) (new : Shared) (runs : Option Running) →
      MayFail c beside run plan fixed line lines new runs → LeadsTo c (λ s. MayFail c old run plan fixed line lines s runs) new
  may_fail_so plan fixed line lines new runs (risky allowed told e goes) = record {
    records = old.records;
    does = risky allowed told (ap (λ s. with_records s old.records) e) goes;
    same = stays c own old r same run new (ap (λ (s : Shared). s.records) e);
  }
  may_fail_so plan fixed line lines new runs (refused free refuses told e conserves none) = record {
    records = given;
    does = refused free refuses told (ap (λ s. with_records s given) e) (still old new r old.records given conserves) none;
    same = gives c own old r same run new (ap (λ (s : Shared). s.records) e);
  }

  -- the answer of an admission
  answers_so : (plan : JobPlan) (fixed : Fixed) (lines : List JobLine) (new : Shared) (runs : Option Running) →
      Answered c beside run plan fixed lines new runs → LeadsTo c (λ s. Answered c old run plan fixed lines s runs) new
  answers_so plan fixed lines new runs (assured made keeps free safe made_by are_kept without told e conserves goes) = record {
    records = old.records;
    does = assured made keeps free safe made_by are_kept without told (ap (λ s. with_records s old.records) e)
        (still old new r old.records old.records conserves) goes;
    same = stays c own old r same run new (ap (λ (s : Shared). s.records) e);
  }
  answers_so plan fixed lines new runs (no_space serial there told e goes) = record {
    records = old.records;
    does = no_space serial there told (ap (λ s. with_records s old.records) e) goes;
    same = stays c own old r same run new (ap (λ (s : Shared). s.records) e);
  }
  answers_so plan fixed lines new runs (risk fault step dd path meets fails) =
      let so = may_fail_so plan fixed _ lines new runs fails in
      record { records = so.records; does = risk fault step dd path meets so.does; same = so.same }
  answers_so plan fixed lines new runs (too_many step low high more fails) =
      let so = may_fail_so plan fixed _ lines new runs fails in
      record { records = so.records; does = too_many step low high more so.does; same = so.same }

  -- a turn of an admitted job
  advances_so : (plan : JobPlan) (a : Admission) (count : ℕ) (mine : Own) (lines : List JobLine) (new : Shared) (runs : Option Running)
      (d : Advances c beside run plan a count mine lines new runs) →
      AdvancesTo c old run plan a count mine lines new runs (choice_of_advance d)
  advances_so plan a count mine lines new runs (Advances.waits x growth primary is must told e goes) = record {
    records = old.records;
    does = Advances.waits x growth primary is must told (ap (λ s. with_records s old.records) e) goes;
    same = stays c own old r same run new (ap (λ (s : Shared). s.records) e);
    chosen = refl;
  }
  advances_so plan a count mine lines new runs (Advances.acts x growth primary free is granted goes on told e conserves after) = record {
    records = old.records;
    does = Advances.acts x growth primary free is granted goes on told (ap (λ s. with_records s old.records) e)
        (still old new r old.records old.records conserves) after;
    same = stays c own old r same run new (ap (λ (s : Shared). s.records) e);
    chosen = refl;
  }
  advances_so plan a count mine lines new runs (Advances.ends x growth primary free is granted goes over told e conserves none) = record {
    records = given;
    does = Advances.ends x growth primary free is granted goes over told (ap (λ s. with_records s given) e)
        (still old new r old.records given conserves) none;
    same = gives c own old r same run new (ap (λ (s : Shared). s.records) e);
    chosen = refl;
  }

  -- a turn of any job
  pub goes_so : FirstFaultStays → DenotesStill → SamenessIsKept → (stage : Stage) (lines : List JobLine) (new : Shared) (runs : Option Running)
      (g : GoesOn c beside run stage lines new runs) →
      GoesTo c old run stage lines new runs (choice_of_going c beside run stage lines new runs g) (explained_by c beside run stage lines new runs g)
  goes_so faults denotes kept (Selected first) lines new runs g =
      let so = reads_so c own old r same run faults denotes kept first lines new runs g in
      record { records = so.records; goes = so.does; same = so.same; chosen = refl; explains = refl }
  goes_so faults denotes kept (Wanting plan) lines new runs g =
      let so = holds_so c own old r same run plan lines new runs g in
      record { records = so.records; goes = so.does; same = so.same; chosen = refl; explains = refl }
  goes_so faults denotes kept (Named plan) lines new runs g =
      let so = answers_so plan _ lines new runs g.answers in
      record {
        records = so.records;
        goes = record { places = g.places; placed = g.placed; answers = so.does };
        same = so.same;
        chosen = refl;
        explains = refl;
      }
  goes_so faults denotes kept (Admitted plan a count mine) lines new runs g =
      let so = advances_so plan a count mine lines new runs g in
      record { records = so.records; goes = so.does; same = so.same; chosen = so.chosen; explains = refl }
