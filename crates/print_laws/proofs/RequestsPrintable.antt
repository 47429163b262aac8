-- A program's requests write printable lines, and leave what is printable.
use Rattle.std.proofs.Common.{◌||◌, ℕ, List, Option, Some, None, drop}
use Rattle.std.specs.Prelude.{IfSome, slice_get}
use Rattle.std.proofs.lemmas.List.Elements.{All-push}
use Rattle.jcl_plan.specs.declared.entry.JobLine.TheVariants as line
use Rattle.jcl_plan.specs.declared.outcome.Abend.TheVariants as abend
use Rattle.jcl_plan.specs.declared.plan.DdPlan.{DdPlan}
use Rattle.jcl_plan.specs.declared.plan.StepPlan.{StepPlan}
use Rattle.jcl_meaning.specs.declared.program.Move.{Move}
use Rattle.jcl_meaning.specs.declared.program.Move.TheVariants.{From, To}
use Rattle.jcl_meaning.specs.declared.source.FoundRecord.{FoundRecord}
use Rattle.jcl_meaning.specs.declared.state.DdState.{DdState}
use Rattle.jcl_meaning.specs.declared.state.Due.{Due}
use Rattle.jcl_meaning.specs.declared.state.Due.TheVariants as due
use Rattle.jcl_meaning.specs.declared.state.TakenSet.{TakenSet}
use Rattle.jcl_meaning.specs.declared.store.DataSet.{DataSet}
use Rattle.jcl_meaning.specs.Programs.{appended, dd_of, is_concatenated, is_read_only, or_nothing}
use Rattle.jcl_meaning.specs.RequestActs.{appended_at, asked, asks_at, asks_dd, asks_of, dd_name, reads, received, received_due, received_now, store_appended}
use Rattle.jcl_meaning.specs.States.{State, asks_open, unless_cancelled, wrote}
use Rattle.jcl_meaning.specs.Stores.{Store}
use Rattle.line_laws.specs.Printable.{IsPrintable}
use Rattle.print_laws.specs.Printable.{IsPrintableDone, IsPrintableDue, IsPrintableMove, IsPrintableState, IsPrintableStep, IsPrintableStore}
use Rattle.print_laws.proofs.OwnPrintable.{IsPrintableAt, abended_printable, got, one_line, own_printable, runs_printable, silent_printable, uncancelled_printable, wrote_printable}
use Rattle.print_laws.proofs.PutsPrintable.{got_printable, nothing_or_printable, unless_printable}
use Rattle.print_laws.proofs.ReadsPrintable.{IsPrintableFound, reads_printable}
use Rattle.print_laws.proofs.StoresPrintable.{there_printable}

-- a request
of_dd_printable : (step : StepPlan) (m : Move) (d : ℕ) (x : DdState) (dd : DdPlan) (s : State) → IsPrintableStep step → IsPrintableMove m →
    IsPrintableState x → IsPrintableAt s → IsPrintableDone (asks_of step m d x dd s)
of_dd_printable step (From name) d x dd s p q k h =
    let found : IsPrintableFound (reads step d x s) = reads_printable step d x s p h in
    let r : FoundRecord = reads step d x s in
    got_printable name d x s r.member r.position r.text r.serial q k h found.text found.serial
of_dd_printable step (To name text) d x dd s p q k h =
    unless_printable name text d x q.0 q.1 k (is_read_only dd.kind || is_concatenated (drop d step.dds)) dd.kind s h

at_dd_printable : (x : Option DdState) (dd : Option DdPlan) (step : StepPlan) (m : Move) (d : ℕ) (s : State) → IsPrintableStep step →
    IsPrintableMove m → IfSome x IsPrintableState → IsPrintableAt s → IsPrintableDone (asks_dd x dd step m d s)
at_dd_printable None dd step m d s p q k h = abended_printable abend.SFF0 s h
at_dd_printable (Some x) None step m d s p q k h = abended_printable abend.SFF0 s h
at_dd_printable (Some x) (Some dd) step m d s p q k h = of_dd_printable step m d x dd s p q k h

at_printable : (d : Option ℕ) (step : StepPlan) (m : Move) (s : State) → IsPrintableStep step → IsPrintableMove m → IsPrintableAt s →
    IsPrintableDone (asks_at d step m s)
at_printable None step m s p q h = abended_printable abend.SFF0 s h
at_printable (Some d) step m s p q h =
    at_dd_printable (slice_get s.own.dds d) (slice_get step.dds d) step m d s p q (got IsPrintableState s.own.dds d h.own.dds) h

pub asked_printable : (step : StepPlan) (m : Move) (s : State) → IsPrintableStep step → IsPrintableMove m → IsPrintableAt s →
    IsPrintableDone (asked step m s)
asked_printable step m s p q h =
    let d : Option ℕ = dd_of step.dds (dd_name m) in
    runs_printable (asks_open s.own) s (unless_cancelled s (asks_at d step m s)) h
    (uncancelled_printable s (asks_at d step m s) h (at_printable d step m s p q h))

-- what is due
appended_printable : (t : Option TakenSet) (text : List ℕ) (s : Store) → IsPrintable text → IsPrintableStore s → IsPrintableStore (appended_at t text s)
appended_printable None text s p h = h
appended_printable (Some t) text s p h =
    let there : Option DataSet = s.set t.key t.serial in
    there_printable s t.key t.serial there (appended text (or_nothing there)) h
    (All-push IsPrintable (or_nothing there).records text (nothing_or_printable there (h.sets t.key t.serial)) p)

more_printable : (x : Option DdState) (text : List ℕ) (s : Store) → IsPrintable text → IsPrintableStore s → IsPrintableStore (store_appended x text s)
more_printable None text s p h = h
more_printable (Some x) text s p h = appended_printable x.taken text s p h

now_printable : (d : Due) (s : State) → IsPrintableDue d → IsPrintableAt s → IsPrintableDone (received_now d s)
now_printable (due.Data name text) s p h = own_printable (line.GetData name text) s (wrote s.own) p h (wrote_printable s.own h.own)
now_printable (due.Put name d text) s p h = record {
  lines = one_line (line.PutDone name) p.0;
  store = more_printable (slice_get s.own.dds d) text s.store p.1 h.store;
  own = wrote_printable s.own h.own;
}

due_printable : (d : Option Due) (s : State) → IfSome d IsPrintableDue → IsPrintableAt s → IsPrintableDone (received_due d s)
due_printable None s p h = silent_printable s h
due_printable (Some d) s p h = uncancelled_printable s (received_now d s) h (now_printable d s p h)

pub received_printable : (s : State) → IsPrintableAt s → IsPrintableDone (received s)
received_printable s h = runs_printable (asks_open s.own) s (received_due s.own.due s) h (due_printable s.own.due s h.own.due_now h)
