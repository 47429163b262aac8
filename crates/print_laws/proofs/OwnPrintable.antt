-- What is a job's own, printable, and what an action that changes little leaves.
use Rattle.std.proofs.Common.{ℕ, zero, suc, Bool, true, false, cond, List, [], ◌∷◌, All}
use Rattle.std.specs.Prelude.{IfSome, slice_get, slice_set}
use Rattle.std.proofs.lemmas.List.Elements.{All-cons, All-head, All-nil, All-set, All-tail}
use Rattle.jcl_plan.specs.declared.entry.JobLine.{JobLine}
use Rattle.jcl_plan.specs.declared.entry.JobLine.TheVariants as line
use Rattle.jcl_plan.specs.declared.outcome.Abend.{Abend}
use Rattle.jcl_plan.specs.declared.outcome.Abend.TheVariants as abend
use Rattle.jcl_meaning.specs.declared.state.DdState.{DdState}
use Rattle.jcl_meaning.specs.declared.state.DdVolume.{DdVolume}
use Rattle.jcl_meaning.specs.declared.state.Own.{Own}
use Rattle.jcl_meaning.specs.declared.state.Passed.{Passed}
use Rattle.jcl_meaning.specs.declared.state.Place.{Place}
use Rattle.jcl_meaning.specs.declared.state.TakenSet.{TakenSet}
use Rattle.jcl_meaning.specs.States.{Done, State, abended_by, cancel_due, goes, if_runs, silent, unless_cancelled, with_own, wrote}
use Rattle.line_laws.specs.Printable.{IsPrintable, IsPrintableLine}
use Rattle.print_laws.specs.Printable.{IsPrintableDone, IsPrintableOwn, IsPrintableState, IsPrintableStore}

abbrev pub IsPrintableTaken : TakenSet → Type 0
IsPrintableTaken t = IsPrintable t.serial

abbrev pub IsPrintablePassed : Passed → Type 0
IsPrintablePassed p = IsPrintable p.serial

abbrev pub IsPrintableOnVolume : DdVolume → Type 0
IsPrintableOnVolume v = IsPrintable v.serial

abbrev pub IsPrintablePlace : Place → Type 0
IsPrintablePlace p = IsPrintable p.serial

-- a state: its store and the job's own
pub record IsPrintableAt (s : State) : Type 0 where
  pub store : IsPrintableStore s.store
  pub own : IsPrintableOwn s.own

-- one of a list
pub got : {X : Type 0} (P : X → Type 0) (xs : List X) (i : ℕ) → All P xs → IfSome (slice_get xs i) P
got P [] i h = tt
got P (x ∷ xs) zero h = All-head P x xs h
got P (x ∷ xs) (suc i) h = got P xs i (All-tail P x xs h)

pub one_line : (l : JobLine) → IsPrintableLine l → All IsPrintableLine (l ∷ [])
one_line l p = All-cons IsPrintableLine l [] p (All-nil IsPrintableLine)

-- a DD's state changed
pub put_printable : (dds : List DdState) (d : ℕ) (x : DdState) → All IsPrintableState dds → IsPrintableState x → All IsPrintableState (slice_set dds d x)
put_printable dds d x h p = All-set IsPrintableState dds d x p h

-- nothing is due any more
pub wrote_printable : (own : Own) → IsPrintableOwn own → IsPrintableOwn (wrote own)
wrote_printable own h = record { passed = h.passed; volumes = h.volumes; outputs = h.outputs; dds = h.dds; due_now = tt }

-- what an action did
pub goes_printable : (lines : List JobLine) (s : State) → All IsPrintableLine lines → IsPrintableAt s → IsPrintableDone (goes lines s)
goes_printable lines s p h = record { lines = p; store = h.store; own = h.own }

pub silent_printable : (s : State) → IsPrintableAt s → IsPrintableDone (silent s)
silent_printable s h = goes_printable [] s (All-nil IsPrintableLine) h

pub own_printable : (l : JobLine) (s : State) (own : Own) → IsPrintableLine l → IsPrintableAt s → IsPrintableOwn own →
    IsPrintableDone (goes (l ∷ []) (with_own s own))
own_printable l s own p h k = record { lines = one_line l p; store = h.store; own = k }

pub abended_printable : (a : Abend) (s : State) → IsPrintableAt s → IsPrintableDone (abended_by a s)
abended_printable a s h = record {
  lines = one_line (line.Abend a) tt;
  store = h.store;
  own = record { passed = h.own.passed; volumes = h.own.volumes; outputs = h.own.outputs; dds = h.own.dds; due_now = tt };
}

pub runs_printable : (b : Bool) (s : State) (d : Done) → IsPrintableAt s → IsPrintableDone d → IsPrintableDone (if_runs b s d)
runs_printable true s d h k = k
runs_printable false s d h k = silent_printable s h

pub done_either : (b : Bool) (d e : Done) → IsPrintableDone d → IsPrintableDone e → IsPrintableDone (cond b d e)
done_either true d e h k = h
done_either false d e h k = k

pub uncancelled_printable : (s : State) (d : Done) → IsPrintableAt s → IsPrintableDone d → IsPrintableDone (unless_cancelled s d)
uncancelled_printable s d h k =
    done_either (cancel_due s.answers.cancels s.own.lines) (abended_by abend.S222 s) d (abended_printable abend.S222 s h) k
