-- Any action writes printable lines, and leaves what is printable.
use Rattle.std.proofs.Common.{◌-◌, [], ◌∷◌, Option}
use Rattle.std.specs.Prelude.{slice_get}
use Rattle.jcl_plan.specs.declared.entry.JobLine.TheVariants as line
use Rattle.jcl_meaning.specs.declared.state.DdState.{DdState}
use Rattle.jcl_meaning.specs.Acts.{act}
use Rattle.jcl_meaning.specs.Agendas.{Action, Ask, Dispose, Finish, Left, Over, Receive, Start, Take}
use Rattle.jcl_meaning.specs.EndActs.{disposes}
use Rattle.jcl_meaning.specs.States.{Fixed, State}
use Rattle.jcl_meaning.specs.TakeActs.{takes}
use Rattle.print_laws.specs.Printable.{IsPrintableAction, IsPrintableDone, IsPrintableFixed, IsPrintableState}
use Rattle.print_laws.specs.PrintLaws.{ActIsPrintable}
use Rattle.print_laws.proofs.DispositionsPrintable.{disposes_printable}
use Rattle.print_laws.proofs.EndsPrintable.{finished_printable, left_printable}
use Rattle.print_laws.proofs.OwnPrintable.{IsPrintableAt, goes_printable, got, one_line, runs_printable}
use Rattle.print_laws.proofs.RequestsPrintable.{asked_printable, received_printable}
use Rattle.print_laws.proofs.TakesPrintable.{start_printable, take_printable}

action_printable : (fixed : Fixed) (a : Action) (s : State) → IsPrintableFixed fixed → IsPrintableAction a → IsPrintableAt s →
    IsPrintableDone (act fixed a s)
unfolding act
action_printable fixed (Start n step) s f p h = start_printable fixed n step s p h
action_printable fixed (Take n dd d) s f p h =
    runs_printable s.own.runs s (takes fixed n dd d.name d.kind s) h (take_printable fixed n dd d.name d.kind s f p.0 p.1 h)
action_printable fixed (Ask step m) s f p h = asked_printable step m s p.0 p.1 h
action_printable fixed Receive s f p h = received_printable s h
action_printable fixed (Finish n) s f p h = finished_printable n s h
action_printable fixed (Dispose n dd d) s f p h =
    let x : Option DdState = slice_get s.own.dds (dd - 1) in
    runs_printable s.own.runs s (disposes x fixed n dd d.name d.kind s) h
    (disposes_printable x fixed n dd d.name d.kind s p.0 p.1 (got IsPrintableState s.own.dds (dd - 1) h.own.dds) h)
action_printable fixed (Left n dd d) s f p h = left_printable fixed n dd d.name d.kind s p.0 h
action_printable fixed Over s f p h = goes_printable (line.End ∷ []) s (one_line line.End tt) h

pub act_printable : ActIsPrintable
act_printable fixed a s f p store own = action_printable fixed a s f p (record { store = store; own = own })
