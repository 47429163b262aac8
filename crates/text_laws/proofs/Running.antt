-- A job's actions, one after another, write printable lines.
use Rattle.std.proofs.Common.{◌≡◌, ℕ, suc, Bool, true, false, cond, List, [], ◌∷◌, Option, Some, All, subst}
use Rattle.std.proofs.lemmas.List.Elements.{All-append, All-cons, All-head, All-nil, All-tail}
use Rattle.jname_core.specs.declared.key.Key.{Key}
use Rattle.jname_core.specs.declared.key.Key.TheVariants as key
use Rattle.vtoc_core.specs.declared.entry.SetKey.{SetKey}
use Rattle.vtoc_core.specs.declared.entry.SetKey.TheVariants as world
use Rattle.jcl_plan.specs.declared.entry.JobLine.{JobLine}
use Rattle.jcl_plan.specs.declared.outcome.Outcome.{Outcome}
use Rattle.jcl_plan.specs.declared.plan.JobPlan.{JobPlan}
use Rattle.jcl_meaning.specs.declared.state.Own.{Own}
use Rattle.jcl_meaning.specs.declared.store.DataSet.{DataSet}
use Rattle.jcl_meaning.specs.Acts.{act}
use Rattle.jcl_meaning.specs.Agendas.{Action, path_agenda}
use Rattle.jcl_meaning.specs.Solo.{at_start, given, nothing_own, run}
use Rattle.jcl_meaning.specs.States.{Answers, Fixed, State}
use Rattle.jcl_meaning.specs.Stores.{Store}
use Rattle.path_meaning.specs.Explanations.{path_lines, tells_fault, up_to_fault}
use Rattle.world_meaning.specs.Lenses.{WorldStore, put_back, seen, seen_set, written_set}
use Rattle.world_meaning.specs.Turns.{Advanced, advance, unless_silent}
use Rattle.line_laws.specs.Printable.{IsPrintableLine}
use Rattle.print_laws.specs.Printable.{IsPrintableAction, IsPrintableDone, IsPrintableFixed, IsPrintableOwn, IsPrintableSet, IsPrintableStore}
use Rattle.print_laws.specs.PrintLaws.{ActIsPrintable}
use Rattle.print_laws.specs.Texts.{IsPrintableWorldStore}
use Rattle.std.specs.Prelude.{IfSome}

-- what a job sees of a printable store, and such a store with what a job did
pub seen_printable : (job : ℕ) (w : WorldStore) → IsPrintableWorldStore w → IsPrintableStore (seen job w)
seen_printable job w h = record { sets = by; entries = h.entries }
  where
    by : (k : Key) (serial : List ℕ) → IfSome (seen_set job w k serial) IsPrintableSet
    by (key.Named name) serial = h.sets (world.Named name) serial
    by (key.Relative base sign amount) serial = tt
    by (key.Temporary name) serial = h.sets (world.Temporary job name) serial
    by (key.Unnamed step dd) serial = h.sets (world.Unnamed job step dd) serial

either_set : (b : Bool) (here there : Option DataSet) → IfSome here IsPrintableSet → IfSome there IsPrintableSet → IfSome (cond b here there) IsPrintableSet
either_set true here there a b = a
either_set false here there a b = b

pub back_printable : (job : ℕ) (w : WorldStore) (s : Store) → IsPrintableWorldStore w → IsPrintableStore s → IsPrintableWorldStore (put_back job w s)
back_printable job w s old h = record { sets = by; entries = h.entries }
  where
    by : (k : SetKey) (serial : List ℕ) → IfSome (written_set job w s k serial) IsPrintableSet
    by (world.Named name) serial = h.sets (key.Named name) serial
    by (world.Temporary owner name) serial = either_set _ _ _ (h.sets (key.Temporary name) serial) (old.sets (world.Temporary owner name) serial)
    by (world.Unnamed owner step dd) serial = either_set _ _ _ (h.sets (key.Unnamed step dd) serial) (old.sets (world.Unnamed owner step dd) serial)

-- a job that did nothing yet
pub nothing_printable : IsPrintableOwn nothing_own
nothing_printable = record {
  passed = All-nil _;
  volumes = All-nil _;
  outputs = All-nil _;
  dds = All-nil _;
  due_now = tt;
}

-- the lines up to a fault are some of the lines
up_to_printable : (lines : List JobLine) → All IsPrintableLine lines → All IsPrintableLine (up_to_fault lines)
up_to_printable [] all = all
up_to_printable (l ∷ lines) all =
    either (tells_fault l)
    (All-cons IsPrintableLine l [] (All-head IsPrintableLine l lines all) (All-nil IsPrintableLine))
    (All-cons IsPrintableLine l (up_to_fault lines) (All-head IsPrintableLine l lines all) (up_to_printable lines (All-tail IsPrintableLine l lines all)))
  where
    either : (b : Bool) → All IsPrintableLine (l ∷ []) → All IsPrintableLine (l ∷ up_to_fault lines) →
        All IsPrintableLine (cond b (l ∷ []) (l ∷ up_to_fault lines))
    either true a b = a
    either false a b = b

module _ (acts : ActIsPrintable) (fixed : Fixed) (is : IsPrintableFixed fixed) where
  -- what a list of actions writes
  runs_printable : (actions : List Action) (s : State) → All IsPrintableAction actions → IsPrintableStore s.store → IsPrintableOwn s.own →
      All IsPrintableLine (run fixed actions s).lines
  unfolding run
  runs_printable [] s all store own = All-nil IsPrintableLine
  runs_printable (a ∷ actions) s all store own =
      let d : IsPrintableDone (act fixed a s) = acts fixed a s is (All-head IsPrintableAction a actions all) store own in
      All-append IsPrintableLine (act fixed a s).lines (run fixed actions (act fixed a s).state).lines d.lines
      (runs_printable actions (act fixed a s).state (All-tail IsPrintableAction a actions all) d.store d.own)

  pub path_printable : (plan : JobPlan) (store : Store) (path : List Outcome) → All IsPrintableAction (path_agenda plan) → IsPrintableStore store →
      All IsPrintableLine (path_lines fixed plan store path)
  path_printable plan store path all h =
      up_to_printable (run fixed (path_agenda plan) (at_start store (given path))).lines
      (runs_printable (path_agenda plan) (at_start store (given path)) all h nothing_printable)

  -- the action that writes, or one behind it
  chosen : (lines : List JobLine) (here x : Advanced) (further : Option Advanced) → IsPrintableDone here.done →
      (further ≡ Some x → IsPrintableDone x.done) → unless_silent lines here further ≡ Some x → IsPrintableDone x.done
  chosen [] here x further h rest e = rest e
  chosen (l ∷ lines) here x further h rest e =
      let same : here ≡ x = cc in
      subst (λ (y : Advanced). IsPrintableDone y.done) same h

  pub advance_printable : (answers : Action → Own → Answers) (actions : List Action) (s : State) (count : ℕ) (x : Advanced) →
      All IsPrintableAction actions → IsPrintableStore s.store → IsPrintableOwn s.own → advance answers fixed actions s count ≡ Some x → IsPrintableDone x.done
  unfolding advance
  advance_printable answers [] s count x all store own e = absurd cc
  advance_printable answers (a ∷ actions) s count x all store own e =
      let t : State = record s { answers = answers a s.own } in
      let d : IsPrintableDone (act fixed a t) = acts fixed a t is (All-head IsPrintableAction a actions all) store own in
      chosen (act fixed a t).lines (record { action = a; before = t; done = act fixed a t; count = suc count }) x
      (advance answers fixed actions (act fixed a t).state (suc count)) d
      (advance_printable answers actions (act fixed a t).state (suc count) x (All-tail IsPrintableAction a actions all) d.store d.own) e
