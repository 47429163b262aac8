-- Dispositions write printable lines, and leave what is printable.
use Rattle.std.proofs.Common.{ℕ, Bool, true, false, List, [], ◌∷◌, Option, Some, None, All, length}
use Rattle.std.specs.Prelude.{IfSome}
use Rattle.std.proofs.lemmas.List.Elements.{All-push}
use Rattle.jname_core.specs.declared.key.Key.{Key}
use Rattle.jcl_plan.specs.declared.entry.JobLine.TheVariants as line
use Rattle.jcl_plan.specs.declared.plan.DdKind.{DdKind}
use Rattle.jcl_plan.specs.declared.plan.DdKind.TheVariants.{Cards, Dummy, Set, Sysout}
use Rattle.jcl_plan.specs.declared.plan.SetPlan.{SetPlan}
use Rattle.jcl_plan.specs.declared.words.DispWord.TheVariants as disp
use Rattle.jcl_meaning.specs.declared.state.DdState.{DdState}
use Rattle.jcl_meaning.specs.declared.state.Disposed.{Disposed}
use Rattle.jcl_meaning.specs.declared.state.Passed.{Passed}
use Rattle.jcl_meaning.specs.declared.state.TakenSet.{TakenSet}
use Rattle.jcl_meaning.specs.Dispositions.{changed, disposed_by}
use Rattle.jcl_meaning.specs.EndActs.{after_abend, disposes, disposes_at, passed_with, set_disposed, set_disposes, tracks_released}
use Rattle.jcl_meaning.specs.Names.{is_temporary}
use Rattle.jcl_meaning.specs.Plans.{conditional_meaning, normal_meaning, word_done}
use Rattle.jcl_meaning.specs.States.{Fixed, State}
use Rattle.jcl_meaning.specs.Stores.{Store}
use Rattle.jcl_meaning.specs.Takes.{releases}
use Rattle.line_laws.specs.Printable.{IsPrintableName}
use Rattle.print_laws.specs.Printable.{IsPrintableDone, IsPrintableKind, IsPrintableOutput, IsPrintableState, IsPrintableStore}
use Rattle.print_laws.proofs.OwnPrintable.{IsPrintableAt, IsPrintablePassed, IsPrintableTaken, goes_printable, one_line, silent_printable}
use Rattle.print_laws.proofs.StoresPrintable.{changed_printable, cut_printable}

-- dispositions
passed_more_printable : (b : Bool) (n dd : ℕ) (t : TakenSet) (ps : List Passed) → IsPrintableTaken t → All IsPrintablePassed ps →
    All IsPrintablePassed (passed_with b n dd t ps)
passed_more_printable false n dd t ps p h = h
passed_more_printable true n dd t ps p h = All-push IsPrintablePassed ps _ h p

released_printable : (b : Bool) (key : Key) (serial : List ℕ) (s : Store) → IsPrintableStore s → IsPrintableStore (tracks_released b key serial s)
released_printable false key serial s h = h
released_printable true key serial s h = cut_printable s key serial (s.set key serial) h (h.sets key serial)

set_printable : (fixed : Fixed) (n dd : ℕ) (name : Option (List ℕ)) (p : SetPlan) (t : TakenSet) (s : State) (disposed : Disposed) →
    IsPrintableName name → IsPrintableTaken t → IsPrintableAt s → IsPrintableDone (set_disposed fixed n dd name p t s disposed)
set_printable fixed n dd name p t s disposed named q h = record {
  lines = one_line (line.Disp dd name disposed.word) named;
  store = released_printable (releases p.space) t.key t.serial (changed disposed.change s.store t.key t.serial fixed.date)
      (changed_printable disposed.change s.store t.key t.serial fixed.date h.store q);
  own = record {
    passed = passed_more_printable disposed.passes n dd t s.own.passed q h.own.passed;
    volumes = h.own.volumes;
    outputs = h.own.outputs;
    dds = h.own.dds;
    due_now = h.own.due_now;
  };
}

of_set_printable : (fixed : Fixed) (n dd : ℕ) (name : Option (List ℕ)) (p : SetPlan) (t : Option TakenSet) (s : State) → IsPrintableName name →
    IfSome t IsPrintableTaken → IsPrintableAt s → IsPrintableDone (set_disposes fixed n dd name p t s)
of_set_printable fixed n dd name p None s named q h =
    goes_printable (line.Disp dd name disp.Nothing ∷ []) s (one_line (line.Disp dd name disp.Nothing) named) h
of_set_printable fixed n dd name p (Some t) s named q h =
    set_printable fixed n dd name p t s
    (disposed_by (word_done (normal_meaning (is_temporary t.key) p.normal) (conditional_meaning (is_temporary t.key) p.conditional)
    (after_abend s.own.over) t.made) s.store t fixed.date) named q h

at_printable : (fixed : Fixed) (n dd : ℕ) (name : Option (List ℕ)) (kind : DdKind) (x : DdState) (s : State) → IsPrintableName name →
    IsPrintableKind kind → IsPrintableState x → IsPrintableAt s → IsPrintableDone (disposes_at fixed n dd name kind x s)
at_printable fixed n dd name (Sysout class) x s named k p h = record {
  lines = one_line (line.Disp dd name (disp.Spooled (length x.spooled))) named;
  store = h.store;
  own = record {
    passed = h.own.passed;
    volumes = h.own.volumes;
    outputs = All-push IsPrintableOutput s.own.outputs (record { step = n; dd = dd; class = class; records = x.spooled }) h.own.outputs
        (record { class = k; records = p.spooled });
    dds = h.own.dds;
    due_now = h.own.due_now;
  };
}
at_printable fixed n dd name Dummy x s named k p h =
    goes_printable (line.Disp dd name disp.Nothing ∷ []) s (one_line (line.Disp dd name disp.Nothing) named) h
at_printable fixed n dd name (Cards cards) x s named k p h =
    goes_printable (line.Disp dd name disp.Nothing ∷ []) s (one_line (line.Disp dd name disp.Nothing) named) h
at_printable fixed n dd name (Set plan) x s named k p h = of_set_printable fixed n dd name plan x.taken s named p.taken h

pub disposes_printable : (x : Option DdState) (fixed : Fixed) (n dd : ℕ) (name : Option (List ℕ)) (kind : DdKind) (s : State) → IsPrintableName name →
    IsPrintableKind kind → IfSome x IsPrintableState → IsPrintableAt s → IsPrintableDone (disposes x fixed n dd name kind s)
disposes_printable None fixed n dd name kind s named k p h = silent_printable s h
disposes_printable (Some x) fixed n dd name kind s named k p h = at_printable fixed n dd name kind x s named k p h
