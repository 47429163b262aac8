-- What a GET finds is printable.
use Rattle.std.proofs.Common.{◌+◌, ℕ, List, [], ◌∷◌, Option, Some, None, All, drop}
use Rattle.std.specs.Prelude.{IfSome, length, nat_lt, slice_get}
use Rattle.std.specs.List.{prefix_len}
use Rattle.std.proofs.lemmas.List.Elements.{All-cons, All-drop, All-head, All-nil, All-tail, All-take}
use Rattle.jcl_plan.specs.declared.plan.DdKind.{DdKind}
use Rattle.jcl_plan.specs.declared.plan.DdKind.TheVariants.{Cards, Dummy, Set, Sysout}
use Rattle.jcl_plan.specs.declared.plan.DdPlan.{DdPlan}
use Rattle.jcl_plan.specs.declared.plan.StepPlan.{StepPlan}
use Rattle.jcl_meaning.specs.declared.source.FoundRecord.{FoundRecord}
use Rattle.jcl_meaning.specs.declared.source.Source.{Source}
use Rattle.jcl_meaning.specs.declared.state.DdState.{DdState}
use Rattle.jcl_meaning.specs.declared.state.TakenSet.{TakenSet}
use Rattle.jcl_meaning.specs.declared.store.DataSet.{DataSet}
use Rattle.jcl_meaning.specs.Programs.{at_source, continuing, is_continued, located, members_at, no_source, records_of, set_source, source_of, sources_from, taken_at, taken_by}
use Rattle.jcl_meaning.specs.RequestActs.{reads}
use Rattle.jcl_meaning.specs.States.{State}
use Rattle.jcl_meaning.specs.Stores.{Store}
use Rattle.line_laws.specs.Printable.{IsPrintable, IsPrintableName}
use Rattle.print_laws.specs.Printable.{IsPrintableDd, IsPrintableKind, IsPrintableState, IsPrintableStep, IsPrintableStore}
use Rattle.print_laws.proofs.GroupsPrintable.{either}
use Rattle.print_laws.proofs.OwnPrintable.{IsPrintableAt, IsPrintableTaken, got}
use Rattle.print_laws.proofs.StoresPrintable.{IsPrintableThere}

-- what a member has to read, and what is found there
record IsPrintableSource (x : Source) : Type 0 where
  records : All IsPrintable x.records
  serial : IsPrintableName x.serial

pub record IsPrintableFound (x : FoundRecord) : Type 0 where
  pub text : IsPrintableName x.text
  pub serial : IsPrintableName x.serial

nothing_printable : IsPrintableSource no_source
nothing_printable = record { records = All-nil IsPrintable; serial = tt }

records_printable : (there : Option DataSet) → IsPrintableThere there → All IsPrintable (records_of there)
records_printable None h = All-nil IsPrintable
records_printable (Some set) h = h

set_source_printable : (s : Store) (t : Option TakenSet) → IsPrintableStore s → IfSome t IsPrintableTaken → IsPrintableSource (set_source s t)
set_source_printable s None h p = nothing_printable
set_source_printable s (Some t) h p = record { records = records_printable (s.set t.key t.serial) (h.sets t.key t.serial); serial = p }

source_printable : (s : Store) (kind : DdKind) (t : Option TakenSet) → IsPrintableStore s → IsPrintableKind kind → IfSome t IsPrintableTaken →
    IsPrintableSource (source_of s kind t)
source_printable s (Sysout class) t h k p = nothing_printable
source_printable s Dummy t h k p = nothing_printable
source_printable s (Cards cards) t h k p = record { records = k; serial = tt }
source_printable s (Set plan) t h k p = set_source_printable s t h p

of_state_printable : (x : Option DdState) → IfSome x IsPrintableState → IfSome (taken_by x) IsPrintableTaken
of_state_printable None h = tt
of_state_printable (Some x) h = h.taken

taken_at_printable : (states : List DdState) (n : ℕ) → All IsPrintableState states → IfSome (taken_at states n) IsPrintableTaken
taken_at_printable states n h = of_state_printable (slice_get states n) (got IsPrintableState states n h)

sources_printable : (s : Store) (dds : List DdPlan) (states : List DdState) (n : ℕ) → IsPrintableStore s → All IsPrintableDd dds →
    All IsPrintableState states → All IsPrintableSource (sources_from s dds states n)
sources_printable s [] states n h p k = All-nil IsPrintableSource
sources_printable s (d ∷ ds) states n h p k =
    All-cons IsPrintableSource (source_of s d.kind (taken_at states n)) (sources_from s ds states (n + 1))
    (source_printable s d.kind (taken_at states n) h (All-head IsPrintableDd d ds p).1 (taken_at_printable states n k))
    (sources_printable s ds states (n + 1) h (All-tail IsPrintableDd d ds p) k)

-- the members of a concatenation
members_printable : (ds : List DdPlan) → All IsPrintableDd ds → All IsPrintableDd (members_at ds)
members_printable [] h = All-nil IsPrintableDd
members_printable (d ∷ ds) h =
    All-cons IsPrintableDd d (continuing ds) (All-head IsPrintableDd d ds h)
    (All-take IsPrintableDd (prefix_len (λ x. is_continued x.name) ds) ds (All-tail IsPrintableDd d ds h))

-- the record that is found
at_source_printable : (x : Source) (member position : ℕ) → IsPrintableSource x → IsPrintableFound (at_source x member position)
at_source_printable x member position h = record { text = got IsPrintable x.records position h.records; serial = h.serial }

located_printable : (xs : List Source) (member position : ℕ) → All IsPrintableSource xs → IsPrintableFound (located xs member position)
located_printable [] member position h = record { text = tt; serial = tt }
located_printable (x ∷ []) member position h = at_source_printable x member position (All-head IsPrintableSource x [] h)
located_printable (x ∷ y ∷ rest) member position h =
    either IsPrintableFound (nat_lt position (length x.records)) (at_source x member position) _ here
    (either IsPrintableFound x.read_past (located (y ∷ rest) (member + 1) 0) (at_source x member position)
    (located_printable (y ∷ rest) (member + 1) 0 (All-tail IsPrintableSource x (y ∷ rest) h)) here)
  where
    here : IsPrintableFound (at_source x member position)
    here = at_source_printable x member position (All-head IsPrintableSource x (y ∷ rest) h)

pub reads_printable : (step : StepPlan) (d : ℕ) (x : DdState) (s : State) → IsPrintableStep step → IsPrintableAt s → IsPrintableFound (reads step d x s)
reads_printable step d x s p h =
    let members : List DdPlan = members_at (drop d step.dds) in
    located_printable (drop x.member (sources_from s.store members s.own.dds d)) x.member x.position
    (All-drop IsPrintableSource x.member (sources_from s.store members s.own.dds d)
    (sources_printable s.store members s.own.dds d h.store (members_printable (drop d step.dds) (All-drop IsPrintableDd d step.dds p.dds)) h.own.dds))
