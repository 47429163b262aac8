-- A fault writes printable lines, and what is given back leaves what is printable.
use Rattle.std.proofs.Common.{ℕ, Bool, true, false, cond, List, [], ◌∷◌, Option, Some, None, All}
use Rattle.std.proofs.lemmas.List.Elements.{All-append, All-cons, All-head, All-nil, All-tail}
use Rattle.jcl_plan.specs.declared.entry.JobLine.TheVariants as line
use Rattle.jcl_plan.specs.declared.fault.Fault.{Fault}
use Rattle.jcl_meaning.specs.declared.state.DdState.{DdState}
use Rattle.jcl_meaning.specs.declared.state.TakenSet.{TakenSet}
use Rattle.jcl_meaning.specs.Dispositions.{back_word, is_deleted_back}
use Rattle.jcl_meaning.specs.States.{State}
use Rattle.jcl_meaning.specs.Stores.{Store, with_set}
use Rattle.jcl_meaning.specs.TakeActs.{all_given_back, back_line, back_lines, refused, set_given_back}
use Rattle.line_laws.specs.Printable.{IsPrintableLine, IsPrintableName}
use Rattle.print_laws.specs.Printable.{IsPrintableDone, IsPrintableState, IsPrintableStore}
use Rattle.print_laws.proofs.OwnPrintable.{IsPrintableAt, one_line}
use Rattle.print_laws.proofs.StoresPrintable.{set_printable}

-- a fault: what is given back
deleted_printable : (b : Bool) (t : TakenSet) (s : Store) → IsPrintableStore s → IsPrintableStore (cond b (with_set s t.key t.serial None) s)
deleted_printable true t s h = set_printable s t.key t.serial None h tt
deleted_printable false t s h = h

one_back_printable : (t : Option TakenSet) (s : Store) → IsPrintableStore s → IsPrintableStore (set_given_back t s)
one_back_printable None s h = h
one_back_printable (Some t) s h = deleted_printable (is_deleted_back t) t s h

all_back_printable : (xs : List DdState) (s : Store) → IsPrintableStore s → IsPrintableStore (all_given_back xs s)
all_back_printable [] s h = h
all_back_printable (x ∷ xs) s h = all_back_printable xs (set_given_back x.taken s) (one_back_printable x.taken s h)

back_printable : (x : DdState) (t : Option TakenSet) → IsPrintableName x.name → All IsPrintableLine (back_line (record x { taken = t }))
back_printable x None p = All-nil IsPrintableLine
back_printable x (Some t) p = one_line (line.Back x.number x.name (back_word (is_deleted_back t))) p

backs_printable : (xs : List DdState) → All IsPrintableState xs → All IsPrintableLine (back_lines xs)
backs_printable [] h = All-nil IsPrintableLine
backs_printable (x ∷ xs) h =
    All-append IsPrintableLine (back_line x) (back_lines xs) (back_printable x x.taken (All-head IsPrintableState x xs h).name)
    (backs_printable xs (All-tail IsPrintableState x xs h))

pub refused_printable : (n dd : ℕ) (fault : Fault) (s : State) → IsPrintableAt s → IsPrintableDone (refused n dd fault s)
refused_printable n dd fault s h = record {
  lines = All-cons IsPrintableLine (line.Fault fault n dd) (back_lines s.own.dds) tt (backs_printable s.own.dds h.own.dds);
  store = all_back_printable s.own.dds s.store h.store;
  own = record { passed = h.own.passed; volumes = h.own.volumes; outputs = h.own.outputs; dds = All-nil IsPrintableState; due_now = h.own.due_now };
}
