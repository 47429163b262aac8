-- A GET, and a PUT, write printable lines, and leave what is printable.
use Rattle.std.proofs.Common.{◌==◌, ◌+◌, ◌++◌, ℕ, Bool, true, false, List, [], ◌∷◌, Option, Some, None, All}
use Rattle.std.specs.Prelude.{IfSome, slice_set}
use Rattle.std.proofs.lemmas.List.Elements.{All-nil, All-push}
use Rattle.jcl_plan.specs.declared.entry.JobLine.TheVariants as line
use Rattle.jcl_plan.specs.declared.outcome.Abend.TheVariants as abend
use Rattle.jcl_plan.specs.declared.plan.DdKind.{DdKind}
use Rattle.jcl_plan.specs.declared.plan.DdKind.TheVariants.{Cards, Dummy, Set, Sysout}
use Rattle.jcl_plan.specs.declared.plan.SetPlan.{SetPlan}
use Rattle.jcl_meaning.specs.declared.state.DdState.{DdState}
use Rattle.jcl_meaning.specs.declared.state.TakenSet.{TakenSet}
use Rattle.jcl_meaning.specs.declared.store.DataSet.{DataSet}
use Rattle.jcl_meaning.specs.Programs.{emptied, empties, grown_by, is_full, or_nothing}
use Rattle.jcl_meaning.specs.RequestActs.{gets_by, grant_used, head_or, put_grows, put_starts, put_to_set, puts, puts_in, puts_unless, with_set_at}
use Rattle.jcl_meaning.specs.States.{State, wrote}
use Rattle.jcl_meaning.specs.Takes.{secondary_of}
use Rattle.line_laws.specs.Printable.{IsPrintable, IsPrintableName}
use Rattle.print_laws.specs.Printable.{IsPrintableDone, IsPrintableSet, IsPrintableState}
use Rattle.print_laws.proofs.OwnPrintable.{IsPrintableAt, IsPrintableTaken, abended_printable, done_either, one_line, own_printable, put_printable, wrote_printable}
use Rattle.print_laws.proofs.StoresPrintable.{IsPrintableThere, there_printable}

-- GET
pub got_printable : (name : List ℕ) (d : ℕ) (x : DdState) (s : State) (member position : ℕ) (text serial : Option (List ℕ)) → IsPrintable name →
    IsPrintableState x → IsPrintableAt s → IsPrintableName text → IsPrintableName serial → IsPrintableDone (gets_by name d x s member position text serial)
got_printable name d x s member position text serial p q h = by_record text serial
  where
    put : (m n : ℕ) → All IsPrintableState (slice_set s.own.dds d (record x { member = m; position = n }))
    put m n = put_printable s.own.dds d (record x { member = m; position = n }) h.own.dds (record { name = q.name; taken = q.taken; spooled = q.spooled })

    by_record : (t v : Option (List ℕ)) → IsPrintableName t → IsPrintableName v → IsPrintableDone (gets_by name d x s member position t v)
    by_record None v k l = record {
      lines = one_line (line.GetEnd name) p;
      store = h.store;
      own = record { passed = h.own.passed; volumes = h.own.volumes; outputs = h.own.outputs; dds = put member position; due_now = tt };
    }
    by_record (Some t) None k l = record {
      lines = one_line (line.GetData name t) (p, k);
      store = h.store;
      own = record { passed = h.own.passed; volumes = h.own.volumes; outputs = h.own.outputs; dds = put member (position + 1); due_now = tt };
    }
    by_record (Some t) (Some v) k l = record {
      lines = one_line (line.GetStart name v) (p, l);
      store = h.store;
      own = record { passed = h.own.passed; volumes = h.own.volumes; outputs = h.own.outputs; dds = put member (position + 1); due_now = (p, k) };
    }

-- sets that a PUT changes
pub nothing_or_printable : (there : Option DataSet) → IsPrintableThere there → IsPrintableSet (or_nothing there)
nothing_or_printable None h = All-nil IsPrintable
nothing_or_printable (Some set) h = h

emptied_printable : (b : Bool) (set : DataSet) → IsPrintableSet set → IsPrintableSet (emptied b set)
emptied_printable true set h = All-nil IsPrintable
emptied_printable false set h = h

written_printable : (s : State) (t : TakenSet) (set : DataSet) → IsPrintableAt s → IsPrintableSet set → IsPrintableAt (with_set_at s t set)
written_printable s t set h p =
    record { store = there_printable s.store t.key t.serial (s.store.set t.key t.serial) set h.store p; own = h.own }

granted_printable : (s : State) → IsPrintableAt s → IsPrintableAt (grant_used s)
granted_printable s h = record { store = h.store; own = h.own }

-- PUT
module _ (name text : List ℕ) (d : ℕ) (x : DdState) (named : IsPrintable name) (told : IsPrintable text) (known : IsPrintableState x) where
  starts_printable : (t : TakenSet) (grown : Option ℕ) (s : State) → IsPrintableTaken t → IsPrintableAt s →
      IsPrintableDone (put_starts name text d x t grown s)
  starts_printable t grown s p h = record {
    lines = one_line (line.PutStart name t.serial grown) (named, p);
    store = h.store;
    own = record {
      passed = h.own.passed;
      volumes = h.own.volumes;
      outputs = h.own.outputs;
      dds = put_printable s.own.dds d (record x { written = true }) h.own.dds (record { name = known.name; taken = known.taken; spooled = known.spooled });
      due_now = (named, told);
    };
  }

  grows_printable : (b : Bool) (t : TakenSet) (secondary : ℕ) (set : DataSet) (s : State) → IsPrintableTaken t → IsPrintableSet set → IsPrintableAt s →
      IsPrintableDone (put_grows b name text d x t secondary set s)
  grows_printable true t secondary set s p q h =
      starts_printable t (Some secondary) (with_set_at (grant_used s) t (grown_by secondary set)) p
      (written_printable (grant_used s) t (grown_by secondary set) (granted_printable s h) q)
  grows_printable false t secondary set s p q h =
      abended_printable abend.SB37 (with_set_at (grant_used s) t set) (written_printable (grant_used s) t set (granted_printable s h) q)

  to_set_printable : (t : TakenSet) (secondary : ℕ) (set : DataSet) (s : State) → IsPrintableTaken t → IsPrintableSet set → IsPrintableAt s →
      IsPrintableDone (put_to_set name text d x t secondary set s)
  to_set_printable t secondary set s p q h =
      done_either (is_full set) _ _
      (done_either (secondary == 0) _ _ (abended_printable abend.SD37 (with_set_at s t set) (written_printable s t set h q))
      (grows_printable (head_or true s.answers.grants) t secondary set s p q h))
      (starts_printable t None (with_set_at s t set) p (written_printable s t set h q))

  in_set_printable : (p : SetPlan) (t : Option TakenSet) (s : State) → IfSome t IsPrintableTaken → IsPrintableAt s →
      IsPrintableDone (puts_in name text d x p t s)
  in_set_printable p None s q h = abended_printable abend.SFF1 s h
  in_set_printable p (Some t) s q h =
      let there : Option DataSet = s.store.set t.key t.serial in
      to_set_printable t (secondary_of p.space) (emptied (empties p.status x.written) (or_nothing there)) s q
      (emptied_printable (empties p.status x.written) (or_nothing there) (nothing_or_printable there (h.store.sets t.key t.serial))) h

  puts_printable : (kind : DdKind) (s : State) → IsPrintableAt s → IsPrintableDone (puts name text d x kind s)
  puts_printable (Sysout class) s h = record {
    lines = one_line (line.PutDone name) named;
    store = h.store;
    own = record {
      passed = h.own.passed;
      volumes = h.own.volumes;
      outputs = h.own.outputs;
      dds = put_printable s.own.dds d (record x { spooled = x.spooled ++ text ∷ [] }) h.own.dds
          (record { name = known.name; taken = known.taken; spooled = All-push IsPrintable x.spooled text known.spooled told });
      due_now = tt;
    };
  }
  puts_printable Dummy s h = own_printable (line.PutDone name) s (wrote s.own) named h (wrote_printable s.own h.own)
  puts_printable (Cards cards) s h = abended_printable abend.SFF1 s h
  puts_printable (Set p) s h = in_set_printable p x.taken s known.taken h

  pub unless_printable : (b : Bool) (kind : DdKind) (s : State) → IsPrintableAt s → IsPrintableDone (puts_unless b name text d x kind s)
  unless_printable true kind s h = abended_printable abend.SFF1 s h
  unless_printable false kind s h = puts_printable kind s h
