-- What a program's requests do. (This profile)
use Rattle.std.specs.Prelude.{ℕ, ◌+◌, Bool, true, false, ◌||◌, ◌==◌, List, [], ◌∷◌, ◌++◌, drop, slice_get, slice_set, Option, Some, None, if◌then◌else◌}
use Rattle.jcl_plan.specs.declared.entry.JobLine.TheVariants as line
use Rattle.jcl_plan.specs.declared.outcome.Abend.TheVariants as abend
use Rattle.jcl_plan.specs.declared.plan.DdKind.{DdKind}
use Rattle.jcl_plan.specs.declared.plan.DdKind.TheVariants.{Sysout, Dummy, Cards, Set}
use Rattle.jcl_plan.specs.declared.plan.DdPlan.{DdPlan}
use Rattle.jcl_plan.specs.declared.plan.SetPlan.{SetPlan}
use Rattle.jcl_plan.specs.declared.plan.StepPlan.{StepPlan}
use Rattle.jcl_meaning.specs.declared.program.Move.{Move}
use Rattle.jcl_meaning.specs.declared.program.Move.TheVariants.{From, To}
use Rattle.jcl_meaning.specs.declared.state.DdState.{DdState}
use Rattle.jcl_meaning.specs.declared.state.Due.{Due}
use Rattle.jcl_meaning.specs.declared.state.Due.TheVariants as due
use Rattle.jcl_meaning.specs.declared.state.Own.{Own}
use Rattle.jcl_meaning.specs.declared.state.TakenSet.{TakenSet}
use Rattle.jcl_meaning.specs.declared.store.DataSet.{DataSet}
use Rattle.jcl_meaning.specs.States.{Done, State, abended_by, asks_open, goes, if_runs, silent, others, unless_cancelled, with_own, wrote}
use Rattle.jcl_meaning.specs.declared.source.FoundRecord.{FoundRecord}
use Rattle.jcl_meaning.specs.Programs.{members_at, is_concatenated, appended, dd_of, emptied, empties, grown_by, is_full, is_read_only, located, or_nothing, sources_from}
use Rattle.jcl_meaning.specs.Stores.{Store, with_set_there}
use Rattle.jcl_meaning.specs.Takes.{secondary_of}

-- GET: from cards the record comes at once, from a set at the device's end; behind the last record END
abbrev pub moved_to : ℕ → DdState → ℕ → ℕ → Own → Own
moved_to d x member position own = record own {
  dds = slice_set own.dds d (record x { member = member; position = position });
  due = None;
  lines = own.lines + 1;
}

abbrev pub gets_by : List ℕ → ℕ → DdState → State → ℕ → ℕ → Option (List ℕ) → Option (List ℕ) → Done
gets_by name d x s member position None serial =
    goes (line.GetEnd name ∷ []) (with_own s (moved_to d x member position s.own))
gets_by name d x s member position (Some text) None =
    goes (line.GetData name text ∷ []) (with_own s (moved_to d x member (position + 1) s.own))
gets_by name d x s member position (Some text) (Some serial) =
    goes (line.GetStart name serial ∷ [])
    (with_own s (record (moved_to d x member (position + 1) s.own) { due = Some (due.Data name text) }))

abbrev pub gets : List ℕ → ℕ → DdState → State → FoundRecord → Done
gets name d x s found = gets_by name d x s found.member found.position found.text found.serial

abbrev pub reads : StepPlan → ℕ → DdState → State → FoundRecord
reads step d x s = located (drop x.member (sources_from s.store (members_at (drop d step.dds)) s.own.dds d)) x.member x.position

-- PUT: to a set at the device's end; a full set grows at the start, if it asks for more and that is to be had
abbrev pub head_or : {X : Type 0} → X → List X → X
head_or x [] = x
head_or x (y ∷ ys) = y

-- a set that its DD took, changed
abbrev pub with_set_at : State → TakenSet → DataSet → State
with_set_at s t set = record { store = with_set_there (s.store.set t.key t.serial) set s.store t.key t.serial; own = s.own; answers = s.answers }

abbrev pub grant_used : State → State
grant_used s = record { store = s.store; own = s.own; answers = record { outcomes = s.answers.outcomes; cancels = s.answers.cancels; grants = others s.answers.grants; primary = s.answers.primary } }

abbrev pub put_starts : List ℕ → List ℕ → ℕ → DdState → TakenSet → Option ℕ → State → Done
put_starts name text d x t grown s = goes (line.PutStart name t.serial grown ∷ []) (with_own s (record s.own {
  dds = slice_set s.own.dds d (record x { written = true });
  due = Some (due.Put name d text);
  lines = s.own.lines + 1;
}))

abbrev pub put_grows : Bool → List ℕ → List ℕ → ℕ → DdState → TakenSet → ℕ → DataSet → State → Done
put_grows true name text d x t secondary set s = put_starts name text d x t (Some secondary) (with_set_at (grant_used s) t (grown_by secondary set))
put_grows false name text d x t secondary set s = abended_by abend.SB37 (with_set_at (grant_used s) t set)

abbrev pub put_to_set : List ℕ → List ℕ → ℕ → DdState → TakenSet → ℕ → DataSet → State → Done
put_to_set name text d x t secondary set s =
    if is_full set
    then (if secondary == 0 then abended_by abend.SD37 (with_set_at s t set)
    else put_grows (head_or true s.answers.grants) name text d x t secondary set s)
    else put_starts name text d x t None (with_set_at s t set)

abbrev pub puts_in : List ℕ → List ℕ → ℕ → DdState → SetPlan → Option TakenSet → State → Done
puts_in name text d x p None s = abended_by abend.SFF1 s
puts_in name text d x p (Some t) s =
    put_to_set name text d x t (secondary_of p.space) (emptied (empties p.status x.written) (or_nothing (s.store.set t.key t.serial))) s

abbrev pub spools : List ℕ → ℕ → DdState → Own → Own
spools text d x own = record own { dds = slice_set own.dds d (record x { spooled = x.spooled ++ text ∷ [] }); due = None; lines = own.lines + 1 }

abbrev pub puts : List ℕ → List ℕ → ℕ → DdState → DdKind → State → Done
puts name text d x (Sysout class) s = goes (line.PutDone name ∷ []) (with_own s (spools text d x s.own))
puts name text d x Dummy s = goes (line.PutDone name ∷ []) (with_own s (wrote s.own))
puts name text d x (Cards cards) s = abended_by abend.SFF1 s
puts name text d x (Set p) s = puts_in name text d x p x.taken s

abbrev pub puts_unless : Bool → List ℕ → List ℕ → ℕ → DdState → DdKind → State → Done
puts_unless true name text d x kind s = abended_by abend.SFF1 s
puts_unless false name text d x kind s = puts name text d x kind s

-- a request, at the first DD of its name, which is the d-th from 0
abbrev pub asks_of : StepPlan → Move → ℕ → DdState → DdPlan → State → Done
asks_of step (From name) d x dd s = gets name d x s (reads step d x s)
asks_of step (To name text) d x dd s =
    puts_unless (is_read_only dd.kind || is_concatenated (drop d step.dds)) name text d x dd.kind s

abbrev pub asks_dd : Option DdState → Option DdPlan → StepPlan → Move → ℕ → State → Done
asks_dd None dd step move d s = abended_by abend.SFF0 s
asks_dd (Some x) None step move d s = abended_by abend.SFF0 s
asks_dd (Some x) (Some dd) step move d s = asks_of step move d x dd s

abbrev pub asks_at : Option ℕ → StepPlan → Move → State → Done
asks_at None step move s = abended_by abend.SFF0 s
asks_at (Some d) step move s = asks_dd (slice_get s.own.dds d) (slice_get step.dds d) step move d s

abbrev pub dd_name : Move → List ℕ
dd_name (From name) = name
dd_name (To name text) = name

abbrev pub asked : StepPlan → Move → State → Done
asked step move s = if_runs (asks_open s.own) s (unless_cancelled s (asks_at (dd_of step.dds (dd_name move)) step move s))

-- what is due at the device's end
abbrev pub appended_at : Option TakenSet → List ℕ → Store → Store
appended_at None text s = s
appended_at (Some t) text s = with_set_there (s.set t.key t.serial) (appended text (or_nothing (s.set t.key t.serial))) s t.key t.serial

abbrev pub store_appended : Option DdState → List ℕ → Store → Store
store_appended None text s = s
store_appended (Some x) text s = appended_at x.taken text s

abbrev pub received_now : Due → State → Done
received_now (due.Data name text) s = goes (line.GetData name text ∷ []) (with_own s (wrote s.own))
received_now (due.Put name d text) s = goes (line.PutDone name ∷ []) (record {
  store = store_appended (slice_get s.own.dds d) text s.store;
  own = wrote s.own;
  answers = s.answers;
})

abbrev pub received_due : Option Due → State → Done
received_due None s = silent s
received_due (Some d) s = unless_cancelled s (received_now d s)

abbrev pub received : State → Done
received s = if_runs (asks_open s.own) s (received_due s.own.due s)
