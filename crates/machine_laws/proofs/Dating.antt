-- What goes on without a look at the date goes on so on any date.
use Rattle.std.proofs.Common.{◌≡◌, ℕ, suc, ◌+◌, ◌<◌, ◌≤◌, Bool, true, false, List, [], ◌∷◌, ◌++◌, length, Option, Some, None, refl, sym, ap, subst, ◌∙◌, arith}
use Rattle.std.specs.Prelude.{if◌then◌else◌}
use Rattle.date_core.specs.Dates.{IsDate}
use Rattle.jcl_plan.specs.declared.entry.Entry.{Entry}
use Rattle.jcl_plan.specs.declared.entry.Entry.TheVariants as entry
use Rattle.jcl_plan.specs.declared.entry.JobLine.{JobLine}
use Rattle.jcl_plan.specs.declared.plan.JobPlan.{JobPlan}
use Rattle.machine_meaning.specs.declared.machine.TheConstants.{MOST_EVENTS}
use Rattle.world_meaning.specs.declared.event.Event.{Event}
use Rattle.world_meaning.specs.declared.event.Event.TheVariants as event
use Rattle.world_meaning.specs.Cancels.{CancelsJob, admitted, no_job, selected, waiting, with_cancel}
use Rattle.world_meaning.specs.Choices.{choice_of_acting, choice_of_event, choice_of_going, choice_of_turn}
use Rattle.world_meaning.specs.Devices.{EndsDevice, Writes, ended, idle, no_volume, nothing_written, wrote}
use Rattle.world_meaning.specs.Displays.{SetsDate, set}
use Rattle.world_meaning.specs.Holdings.{Holds, ReadsRecords}
use Rattle.world_meaning.specs.Holdings as holding
use Rattle.world_meaning.specs.Readings.{Denoting, Reads}
use Rattle.world_meaning.specs.Readings as reading
use Rattle.world_meaning.specs.Selections.{Selects}
use Rattle.world_meaning.specs.Selections as selection
use Rattle.world_meaning.specs.Tracks.{Conserves}
use Rattle.world_meaning.specs.Transitions.{Acts, Does, GoesOn, Runs, Shows, Transition, Turns, acts, explained_by, past, shown, taken, told_with, unknown}
use Rattle.world_meaning.specs.Turns.{Advances, has_cancel}
use Rattle.world_meaning.specs.Worlds.{Admitted, Config, Initiator, Named, Running, Selected, Shared, Stage, Wanting, World, counted}
use Rattle.world_meaning.specs.Zaps.{ZapsRecord}
use Rattle.world_meaning.specs.Zaps as zap
use Rattle.machine_laws.specs.Dates.{AsksForNone, DatesChangeNoLine, LookAtNoDate, LooksAtNoDate, RunsIgnoreTheDate, TurnsIgnoreTheDate, moved, on_date}

still : (old new : Shared) (day : ℕ) → Conserves old new → Conserves (on_date old day) (on_date new day)
still old new day h = λ serial. record { touched = (h serial).touched; once = (h serial).once; others = (h serial).others; sum = (h serial).sum }

pub ignores : TurnsIgnoreTheDate
ignores c old new r plan a count own lines runs day (Advances.waits x growth primary is waits none same stays) =
    Advances.waits x growth primary is waits none (ap (λ s. on_date s day) same) stays
ignores c old new r plan a count own lines runs day (Advances.acts x growth primary free is granted goes goes_on told left conserves stays) =
    Advances.acts x growth primary free is granted goes goes_on told (ap (λ s. on_date s day) left) (still old new day conserves) stays
ignores c old new r plan a count own lines runs day (Advances.ends x growth primary free is granted goes over told left conserves none) =
    Advances.ends x growth primary free is granted goes over told (ap (λ s. on_date s day) left) (still old new day conserves) none

-- a turn of a job
holds_so : (old new : Shared) (r : Running) (plan : JobPlan) (lines : List JobLine) (runs : Option Running) (day : ℕ) → Holds old r plan lines new runs →
    Holds (on_date old day) r plan lines (on_date new day) runs
holds_so old new r plan lines runs day (holding.held free told same goes) = holding.held free told (ap (λ s. on_date s day) same) goes
holds_so old new r plan lines runs day (holding.blocked by first told same goes) = holding.blocked by first told (ap (λ s. on_date s day) same) goes

reads_so : (c : Config) (old new : Shared) (r : Running) (first : ℕ) (lines : List JobLine) (runs : Option Running) (day : ℕ) →
    ReadsRecords c old r first lines new runs → ReadsRecords c (on_date old day) r first lines (on_date new day) runs
reads_so c old new r first lines runs day (holding.broken n free fault told same conserves none) =
    holding.broken n free fault told (ap (λ s. on_date s day) same) (still old new day conserves) none
reads_so c old new r first lines runs day (holding.read plan behind denoted holds) = holding.read plan behind denoted (holds_so old new r plan lines runs day holds)

-- it goes on, and explains as much
record GoesSo (c : Config) (old : Shared) (r : Running) (stage : Stage) (lines : List JobLine) (new : Shared) (runs : Option Running)
    (g : GoesOn c old r stage lines new runs) (day : ℕ) : Type 0 where
  goes : GoesOn c (on_date old day) r stage lines (on_date new day) runs
  explains : explained_by c (on_date old day) r stage lines (on_date new day) runs goes ≡ explained_by c old r stage lines new runs g

goes_so : (c : Config) (old new : Shared) (r : Running) (stage : Stage) (lines : List JobLine) (runs : Option Running) (day : ℕ)
    (g : GoesOn c old r stage lines new runs) → AsksForNone (choice_of_going c old r stage lines new runs g) → GoesSo c old r stage lines new runs g day
goes_so c old new r (Selected first) lines runs day g asks = record { goes = reads_so c old new r first lines runs day g; explains = refl }
goes_so c old new r (Wanting plan) lines runs day g asks = record { goes = holds_so old new r plan lines runs day g; explains = refl }
goes_so c old new r (Named plan) lines runs day g asks = absurd asks
goes_so c old new r (Admitted plan a count own) lines runs day g asks = record { goes = ignores c old new r plan a count own lines runs day g; explains = refl }

module _ (day count : ℕ) where
  abbrev there : World → World
  there w = moved w day count

  selects_so : (old new : World) (place : ℕ) (x : Initiator) (lines : List Entry) → Selects old place x lines new → Selects (there old) place x lines (there new)
  selects_so old new place x lines (selection.nothing none told same) = selection.nothing none told (ap (λ w. moved w day count) same)
  selects_so old new place x lines (selection.selected w is told same) = selection.selected w is told (ap (λ v. moved v day count) same)

  acts_so : (old new : World) (place : ℕ) (x : Initiator) (running : Option Running) (lines : List Entry) (g : Acts old place x running lines new) →
      AsksForNone (choice_of_acting old place x running lines new g) → Acts (there old) place x running lines (there new)
  acts_so old new place x None lines g asks = selects_so old new place x lines g
  acts_so old new place x (Some r) lines g asks =
      let so = goes_so old.config old.shared g.shared r r.stage g.job_lines g.runs day g.goes asks in
      record {
        job_lines = g.job_lines;
        shared = on_date g.shared day;
        runs = g.runs;
        goes = so.goes;
        told = g.told ∙ ap (told_with r.job g.job_lines) (sym so.explains);
        leaves = ap (λ w. moved w day count) g.leaves;
      }

  turns_so : (old new : World) (number : ℕ) (lines : List Entry) (g : Turns old number lines new) → AsksForNone (choice_of_turn g) →
      Turns (there old) number lines (there new)
  turns_so old new number lines (unknown none told same) asks = unknown none told (ap (λ w. moved w day count) same)
  turns_so old new number lines (acts place x at numbered g) asks = acts place x at numbered (acts_so old new place x x.running lines g asks)

  -- the other events
  read_so : (job_of : Denoting) (old new : World) (deck : List (List ℕ)) (lines : List Entry) → Reads job_of old deck lines new →
      Reads job_of (there old) deck lines (there new)
  read_so job_of old new deck lines (reading.no_number many told same) = reading.no_number many told (ap (λ w. moved w day count) same)
  read_so job_of old new deck lines (reading.rejected cause few is told same) = reading.rejected cause few is told (ap (λ w. moved w day count) same)
  read_so job_of old new deck lines (reading.full plan few is none told same) = reading.full plan few is none told (ap (λ w. moved w day count) same)
  read_so job_of old new deck lines (reading.read plan first records few is written told same) =
      reading.read plan first records few is written told (ap (λ w. moved w day count) same)

  ends_so : (old new : World) (serial : List ℕ) (lines : List Entry) → EndsDevice old serial lines new → EndsDevice (there old) serial lines (there new)
  ends_so old new serial lines (no_volume none told same) = no_volume none told (ap (λ w. moved w day count) same)
  ends_so old new serial lines (idle there_is is told same) = idle there_is is told (ap (λ w. moved w day count) same)
  ends_so old new serial lines (ended there_is is told same) = ended there_is is told (ap (λ w. moved w day count) same)

  writes_so : (old new : World) (class : ℕ) (lines : List Entry) → Writes old class lines new → Writes (there old) class lines (there new)
  writes_so old new class lines (nothing_written none told same) = nothing_written none told (ap (λ w. moved w day count) same)
  writes_so old new class lines (wrote job line left takes told same) = wrote job line left takes told (ap (λ w. moved w day count) same)

  cancel_noted : (s : Shared) (job : ℕ) → on_date (with_cancel s job) day ≡ with_cancel (on_date s day) job
  cancel_noted s job = by (has_cancel s.cancels job)
    where
      by : (b : Bool) → on_date (if b then s else record s { cancels = s.cancels ++ job ∷ [] }) day
          ≡ (if b then on_date s day else record (on_date s day) { cancels = s.cancels ++ job ∷ [] })
      by true = refl
      by false = refl

  cancels_so : (old new : World) (job : ℕ) (lines : List Entry) → CancelsJob old job lines new → CancelsJob (there old) job lines (there new)
  cancels_so old new job lines (no_job none told same) =
      no_job (record { waits_not = none.waits_not; runs_not = none.runs_not }) told (ap (λ w. moved w day count) same)
  cancels_so old new job lines (waiting w free waits its told same conserves) =
      waiting w free waits its told (ap (λ v. moved v day count) same) (still old.shared new.shared day conserves)
  cancels_so old new job lines (selected place x r free at running its is told same conserves) =
      selected place x r free at running its is told (ap (λ w. moved w day count) same) (still old.shared new.shared day conserves)
  cancels_so old new job lines (admitted place x r at running its is told same) =
      admitted place x r at running its is told
      (ap (λ w. moved w day count) same ∙ ap (λ s. record (there old) { shared = s }) (cancel_noted old.shared job))

  zaps_so : (old new : World) (n offset : ℕ) (bytes : List ℕ) (lines : List Entry) → ZapsRecord old n offset bytes lines new →
      ZapsRecord (there old) n offset bytes lines (there new)
  zaps_so old new n offset bytes lines (zap.not_owned is told same) = zap.not_owned is told (ap (λ w. moved w day count) same)
  zaps_so old new n offset bytes lines (zap.selected is has told same) = zap.selected is has told (ap (λ w. moved w day count) same)
  zaps_so old new n offset bytes lines (zap.zapped is has told same) = zap.zapped is has told (ap (λ w. moved w day count) same)

  shows_so : (old new : World) (lines : List Entry) → Shows old lines new → Shows (there old) lines (there new)
  shows_so old new lines (shown told same) = shown told (ap (λ w. moved w day count) same)

-- an event does the same; a new date is the same on any other
sets_so : (day count : ℕ) (old new : World) (to : ℕ) (lines : List Entry) → SetsDate old to lines new → SetsDate (moved old day count) to lines (moved new to count)
sets_so day count old new to lines (set years of_year is told same) = set years of_year is told (ap (λ w. moved w to count) same)

record DoesOn (job_of : Denoting) (day count : ℕ) (old : World) (e : Event) (lines : List Entry) (new : World) : Type 0 where
  after : ℕ
  does : Does job_of (moved old day count) e lines (moved new after count)

does_so : (day count : ℕ) (job_of : Denoting) (old new : World) (e : Event) (lines : List Entry) (d : Does job_of old e lines new) →
    AsksForNone (choice_of_event job_of old e lines new d) → DoesOn job_of day count old e lines new
does_so day count job_of old new (event.Read deck) lines d asks = record { after = day; does = read_so day count job_of old new deck lines d }
does_so day count job_of old new (event.Turn number) lines d asks = record { after = day; does = turns_so day count old new number lines d asks }
does_so day count job_of old new (event.DeviceEnd serial) lines d asks = record { after = day; does = ends_so day count old new serial lines d }
does_so day count job_of old new (event.Write class) lines d asks = record { after = day; does = writes_so day count old new class lines d }
does_so day count job_of old new (event.Cancel job) lines d asks = record { after = day; does = cancels_so day count old new job lines d }
does_so day count job_of old new (event.Zap n offset bytes) lines d asks =
    record { after = day; does = zaps_so day count old new n offset bytes lines d }
does_so day count job_of old new event.Display lines d asks = record { after = day; does = shows_so day count old new lines d }
does_so day count job_of old new (event.Date to) lines d asks = record { after = to; does = sets_so day count old new to lines d }

record StepsOn (job_of : Denoting) (day count : ℕ) (old : World) (e : Event) (lines : List Entry) (new : World) : Type 0 where
  after : ℕ
  steps : Transition job_of (moved old day count) e lines (moved new after (count + 1))

step_so : (day count : ℕ) (job_of : Denoting) (old new : World) (e : Event) (lines : List Entry) (t : Transition job_of old e lines new) → LooksAtNoDate t →
    count < MOST_EVENTS → StepsOn job_of day count old e lines new
step_so day count job_of old new e lines (past many told same) looks below = absurd looks
step_so day count job_of old new e lines (taken few h) looks below =
    let so = does_so day (count + 1) job_of (counted old) h.middle e lines h.does looks in
    record {
      after = so.after;
      steps = taken below (record {
        middle = moved h.middle so.after (count + 1);
        does = so.does;
        reopened = record {
          records = h.reopened.records;
          same = h.reopened.same;
          rest = ap (λ s. on_date s so.after) h.reopened.rest;
        };
        rest = ap (λ w. moved w so.after (count + 1)) h.rest;
      });
    }

record RunsOn (job_of : Denoting) (day count : ℕ) (old : World) (events : List Event) (told : List (List Entry)) (new : World) : Type 0 where
  after : ℕ
  runs : Runs job_of (moved old day count) events told (moved new after (count + length events))

runs_so : (job_of : Denoting) (events : List Event) (told : List (List Entry)) (old new : World) (runs : Runs job_of old events told new) →
    LookAtNoDate job_of old events told new runs → (day count : ℕ) → count + length events ≤ MOST_EVENTS → RunsOn job_of day count old events told new
runs_so job_of [] [] old new runs looks day count few =
    let none : count + 0 ≡ count = omega arith in
    record { after = day; runs = ap (λ n. moved new day n) none ∙ ap (λ w. moved w day count) runs }
runs_so job_of [] (lines ∷ more) old new runs looks day count few = absurd runs
runs_so job_of (e ∷ es) [] old new runs looks day count few = absurd runs
runs_so job_of (e ∷ es) (lines ∷ more) old new runs looks day count few =
    let below : count < MOST_EVENTS = omega arith in
    let one = step_so day count job_of old runs.0 e lines runs.1 looks.0 below in
    let rest = runs_so job_of es more runs.0 new runs.2 looks.1 one.after (count + 1) (omega arith) in
    let many : (count + 1) + length es ≡ count + suc (length es) = omega arith in
    record {
      after = rest.after;
      runs = (moved runs.0 one.after (count + 1), one.steps, subst (λ n. Runs job_of (moved runs.0 one.after (count + 1)) es more (moved new rest.after n)) many rest.runs);
    }

pub run_ignores : RunsIgnoreTheDate
run_ignores job_of old new events told runs looks day count few =
    let so = runs_so job_of events told old new runs looks day count few in
    (so.after, so.runs)

-- a new date, between two events
dated : (job_of : Denoting) (old : World) (day years of_year : ℕ) → old.events < MOST_EVENTS → IsDate day years of_year →
    Transition job_of old (event.Date day) (entry.Date (1900 + years) of_year ∷ []) (moved old day (old.events + 1))
dated job_of old day years of_year below is = taken below (record {
  middle = moved old day (old.events + 1);
  does = set years of_year is refl refl;
  reopened = record {
    records = old.shared.records;
    same = record { free = refl; used = λ n used. record { size = refl; bytes = λ k out. refl } };
    rest = refl;
  };
  rest = refl;
})

pub date_changes_none : DatesChangeNoLine
date_changes_none job_of old new events told runs looks few day years of_year is =
    let below : old.events < MOST_EVENTS = omega arith in
    let so = runs_so job_of events told old new runs looks day (old.events + 1) few in
    record {
      after = so.after;
      runs = (moved old day (old.events + 1), dated job_of old day years of_year below is, so.runs);
      same = λ job. refl;
    }
