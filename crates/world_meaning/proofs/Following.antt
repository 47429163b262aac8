-- Steps of the machine, put together: what a case of the table needs beside the case itself.
use Rattle.std.proofs.Common.{◌≡◌, ℕ, ◌+◌, ◌<◌, Bool, true, false, List, [], Option, Some, None, refl, sym, ap, ◌∙◌, subst}
use Rattle.std.specs.Prelude.{slice_get}
use Rattle.std.specs.Str.{bytes_eq}
use Rattle.jcl_plan.specs.declared.entry.Entry.{Entry}
use Rattle.jcl_plan.specs.declared.entry.JobLine.{JobLine}
use Rattle.jcl_plan.specs.declared.plan.JobPlan.{JobPlan}
use Rattle.jname_core.specs.declared.key.Key.TheVariants as key
use Rattle.vtoc_core.specs.declared.entry.SetKey.TheVariants as world
use Rattle.jcl_meaning.specs.declared.state.Own.{Own}
use Rattle.jcl_meaning.specs.declared.store.DataSet.{DataSet}
use Rattle.jcl_meaning.specs.Stores.{with_set}
use Rattle.machine_meaning.specs.declared.machine.TheConstants.{MOST_EVENTS}
use Rattle.cb_meaning.specs.declared.layout.Layout.{Layout}
use Rattle.world_meaning.specs.declared.event.Event.{Event}
use Rattle.world_meaning.specs.declared.event.Event.TheVariants as event
use Rattle.world_meaning.specs.Holdings.{released}
use Rattle.world_meaning.specs.Lenses.{put_back, seen, with_world_set}
use Rattle.world_meaning.specs.Readings.{Denoting}
use Rattle.world_meaning.specs.Records.{Reopened}
use Rattle.world_meaning.specs.Tracks.{kept_unless_made, kept_without, tracks_of}
use Rattle.world_meaning.specs.Transitions.{Acts, Does, GoesOn, acts, Transition, explained_by, taken, told_with}
use Rattle.world_meaning.specs.Turns.{Advanced, Advances, acts as does_act, ends, advanced, with_output, is_over, must_wait, cancels_after, operations_after}
use Rattle.world_meaning.specs.Worlds.{Admission, Admitted, Config, Initiator, Running, Shared, World, counted, going_on, of_job, with_running}
use Rattle.world_meaning.proofs.Conserved.{conserved_same, conserved_there, with_free}
use Rattle.world_meaning.proofs.JobLens.{put_named, put_same}

-- what is open need not change
pub unopened : (l : Layout) (s : Shared) → Reopened l s s
unopened l s = record { records = s.records; same = record { free = refl; used = λ n h. record { size = refl; bytes = λ k out. refl } }; rest = refl }

-- an event, and its case
pub happened : (job_of : Denoting) (w new : World) (e : Event) (lines : List Entry) → w.events < MOST_EVENTS → Does job_of (counted w) e lines new →
    Transition job_of w e lines new
happened job_of w new e lines few does = taken few (record { middle = new; does = does; reopened = unopened new.config.layout new.shared; rest = refl })

-- a turn of a job, and its case
pub turned : (job_of : Denoting) (w : World) (place : ℕ) (x : Initiator) (r : Running) (lines : List JobLine) (shared : Shared) (runs : Option Running) →
    w.events < MOST_EVENTS → slice_get w.initiators place ≡ Some x → x.running ≡ Some r → (goes : GoesOn w.config w.shared r r.stage lines shared runs) →
    explained_by w.config w.shared r r.stage lines shared runs goes ≡ [] →
    Transition job_of w (event.Turn x.number) (of_job r.job lines) (record (counted w) { shared = shared; initiators = with_running w.initiators place x runs })
turned job_of w place x r lines shared runs few at running goes unexplained =
    let new : World = record (counted w) { shared = shared; initiators = with_running w.initiators place x runs } in
    happened job_of w new (event.Turn x.number) (of_job r.job lines) few
    (acts place x at refl
    (subst (λ now. Acts (counted w) place x now (of_job r.job lines) new) (sym running)
    (record { job_lines = lines; shared = shared; runs = runs; goes = goes; told = ap (told_with r.job lines) (sym unexplained); leaves = refl })))

-- an action that leaves the store as it is
abbrev pub store_kept : Shared → ℕ → Advanced → Shared
store_kept s job x = record s {
  kept = kept_unless_made s.kept job x.done.made;
  operations = operations_after s.operations job x.done.lines;
  cancels = cancels_after s.cancels job x.done.lines;
}

pub acted : (c : Config) (s : Shared) (r : Running) (plan : JobPlan) (a : Admission) (count : ℕ) (own : Own) (x : Advanced) (growth primary : Bool) →
    advanced c s r.job plan a count own growth primary ≡ Some x → (a.assured ≡ true → primary ≡ true) → must_wait s.operations r.job x ≡ false →
    is_over c plan x ≡ false → x.done.state.store ≡ seen r.job s.store → kept_unless_made s.kept r.job x.done.made ≡ s.kept →
    Advances c s r plan a count own x.done.lines (store_kept s r.job x) (going_on r x.done.lines (Admitted plan a x.count x.done.state.own))
acted c s r plan a count own x growth primary is grants goes further same kept =
    does_act x growth primary s.free is grants goes further refl
    (λ i. record (store_kept s r.job x) { store = (sym (put_same r.job s.store) ∙ ap (λ t. put_back r.job s.store t) (sym same)) i })
    (conserved_same s (store_kept s r.job x) refl refl kept)
    refl

-- the last action, which leaves the store as it is
abbrev over_now : Config → Shared → Running → JobPlan → Advanced → Shared
over_now c s r plan x = released c (with_output (store_kept s r.job x) r plan x) r.job s.free

pub ended : (c : Config) (s : Shared) (r : Running) (plan : JobPlan) (a : Admission) (count : ℕ) (own : Own) (x : Advanced) (growth primary : Bool) →
    advanced c s r.job plan a count own growth primary ≡ Some x → (a.assured ≡ true → primary ≡ true) → must_wait s.operations r.job x ≡ false →
    is_over c plan x ≡ true → x.done.state.store ≡ seen r.job s.store → kept_without (kept_unless_made s.kept r.job x.done.made) r.job ≡ s.kept →
    Advances c s r plan a count own x.done.lines (over_now c s r plan x) None
ended c s r plan a count own x growth primary is grants goes last same kept =
    ends x growth primary s.free is grants goes last refl
    (λ i. record (over_now c s r plan x) { store = (sym (put_same r.job s.store) ∙ ap (λ t. put_back r.job s.store t) (sym same)) i })
    (conserved_same s (over_now c s r plan x) refl refl kept)
    refl

-- an action that changes a set of a name, and leaves so many tracks of its volume free
abbrev set_changed : Shared → ℕ → Advanced → List ℕ → List ℕ → Option DataSet → ℕ → Shared
set_changed s job x name v there n = record (store_kept s job x) { store = with_world_set s.store (world.Named name) v there; free = with_free s.free v n }

pub acted_on : (c : Config) (s : Shared) (r : Running) (plan : JobPlan) (a : Admission) (count : ℕ) (own : Own) (x : Advanced) (growth primary : Bool)
    (name v : List ℕ) (there : Option DataSet) (n : ℕ) →
    advanced c s r.job plan a count own growth primary ≡ Some x → (a.assured ≡ true → primary ≡ true) → must_wait s.operations r.job x ≡ false →
    is_over c plan x ≡ false → x.done.state.store ≡ with_set (seen r.job s.store) (key.Named name) v there →
    bytes_eq name name ≡ true → kept_unless_made s.kept r.job x.done.made ≡ s.kept →
    n + tracks_of there ≡ s.free v + tracks_of (s.store.set (world.Named name) v) →
    Advances c s r plan a count own x.done.lines (set_changed s r.job x name v there n) (going_on r x.done.lines (Admitted plan a x.count x.done.state.own))
acted_on c s r plan a count own x growth primary name v there n is grants goes further changed itself kept sum =
    does_act x growth primary (with_free s.free v n) is grants goes further refl
    (λ i. record (set_changed s r.job x name v there n) {
      store = (sym (put_named r.job s.store name v there) ∙ ap (λ t. put_back r.job s.store t) (sym changed)) i;
    })
    (conserved_there s (set_changed s r.job x name v there n) (world.Named name) v there n itself refl refl kept sum)
    refl
