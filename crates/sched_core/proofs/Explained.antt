-- The lines of a turn with those that explain the first, and how many there are.
use Rattle.std.proofs.Common.{◌≡◌, ◌≤◌, ◌++◌, ◌∙◌, ℕ, Bool, true, false, List, [], ◌∷◌, length, map, Option, arith, refl, sym, ap, subst}
use Rattle.std.specs.Option.{option_map}
use Rattle.std.proofs.lemmas.List.{append-nil}
use Rattle.std.specs.Prelude.{if◌then◌else◌}
use Rattle.jcl_plan.specs.declared.entry.Entry.{Entry}
use Rattle.jcl_plan.specs.declared.entry.Entry.TheVariants as entry
use Rattle.jcl_plan.specs.declared.entry.JobLine.{JobLine}
use Rattle.jcl_plan.specs.declared.entry.JobLine.TheVariants as line
use Rattle.jcl_plan.specs.declared.plan.JobPlan.{JobPlan}
use Rattle.jcl_meaning.specs.Agendas.{budget_of}
use Rattle.jcl_meaning.specs.States.{Fixed}
use Rattle.jcl_meaning.specs.Stores.{Store}
use Rattle.cb_queue.specs.RecordQueues.{RecordQueue}
use Rattle.start_laws.specs.Starts.{ExplanationIsFew}
use Rattle.world_meaning.specs.Admissions.{explained, fixed_at}
use Rattle.world_meaning.specs.Lenses.{seen}
use Rattle.world_meaning.specs.Transitions.{GoesOn, explained_by, told_with}
use Rattle.world_meaning.specs.Worlds as world
use Rattle.world_meaning.specs.Worlds.{Config, Shared, of_job}
use Rattle.machine_core.specs.Shown.{shown}
use Rattle.machine_core.specs.declared.parts.Parts.{Parts}
use Rattle.init_core.specs.Going.{Went}
use Rattle.init_core.specs.Running.{config_of, lines_told, path_told, runs_after, shown_running, shown_stage}
use Rattle.init_core.specs.declared.running.Profile.{Profile}
use Rattle.init_core.specs.declared.running.Progress.{Progress}
use Rattle.init_core.specs.declared.running.Running.{Running}
use Rattle.init_core.specs.declared.running.Stage.{Stage}
use Rattle.init_core.specs.declared.running.Stage.TheVariants.{Admitted, Named, Selected, Wanting}
use Rattle.cb_meaning.specs.declared.layout.Layout.{Layout}
use Rattle.turn_core.specs.declared.walk.Walk.{Walk}
use Rattle.sched_core.specs.Explaining.{most_explained, most_explained_at}

-- the first line, what explains it, and the others
pub told_first : (job : ℕ) (first : JobLine) (lines path : List JobLine) →
    told_with job (first ∷ lines) path ≡ entry.Job job first ∷ (map (entry.Path job) path ++ of_job job lines)
told_first job first lines [] = refl
told_first job first lines (p ∷ path) = refl

-- with nothing behind them, and with a last line
pub told_alone : (job : ℕ) (first : JobLine) (path : List JobLine) → entry.Job job first ∷ map (entry.Path job) path ≡ told_with job (first ∷ []) path
told_alone job first path =
    ap (λ (es : List Entry). entry.Job job first ∷ es) (sym (append-nil (map (entry.Path job) path))) ∙ sym (told_first job first [] path)

pub told_last : (job : ℕ) (first last : JobLine) (path : List JobLine) →
    told_with job (first ∷ []) path ++ entry.Job job last ∷ [] ≡ told_with job (first ∷ last ∷ []) path
told_last job first last path =
    (λ i. sym (told_alone job first path) i ++ entry.Job job last ∷ []) ∙ sym (told_first job first (last ∷ []) path)

module _ (few : ExplanationIsFew) (fixed : Fixed) (plan : JobPlan) (store : Store) (p : Profile) where
  -- a RISK line alone is explained
  by_line : (lines : List JobLine) → length (explained true fixed plan store lines) ≤ budget_of plan p.programs.now
  by_line (line.Risk fault step dd path ∷ lines) = few fixed plan store path p.programs.now
  by_line other = omega arith

  by_choice : (b : Bool) (lines : List JobLine) → length (explained b fixed plan store lines) ≤ (if b then budget_of plan p.programs.now else 0)
  by_choice true lines = by_line lines
  by_choice false lines = omega arith

none_explained : (b : Bool) → 0 ≤ (if b then 0 else 0)
none_explained b = omega arith

-- so there is room for it
module _ (few : ExplanationIsFew) (p : Profile) (l : Layout) (old : Shared) (q : world.Running) (lines : List JobLine) (new : Shared)
    (runs : Option world.Running) (walk : Walk) where
  abbrev c : Config
  c = config_of p l

  by_stage : (stage : Stage) (g : GoesOn c old q (shown_stage c walk stage) lines new runs) →
      length (explained_by c old q (shown_stage c walk stage) lines new runs g) ≤ (if p.explains then most_explained_at p stage else 0)
  by_stage (Selected first) g = omega arith
  by_stage (Wanting plan wants) g = omega arith
  by_stage (Named named) g = by_choice few (fixed_at c old q.job named.plan g.places) named.plan (seen q.job old.store) p p.explains lines
  by_stage (Admitted a) g = omega arith

pub few_paths : ExplanationIsFew → {Q : Type 0} (queue_of : Q → RecordQueue) (p : Profile) (l : Layout) (old : Parts Q) (r : Running) (new : Parts Q)
    (came : Progress) → Went queue_of (config_of p l) old r new came → length (path_told came) ≤ most_explained p r
few_paths few queue_of p l old r new came went =
    subst (λ (path : List JobLine). length path ≤ most_explained p r) (sym went.explained)
    (by_stage few p l (shown queue_of old) (shown_running (config_of p l) (queue_of old.queue) r) (lines_told came) went.middle
    (option_map (shown_running (config_of p l) (queue_of new.queue)) (runs_after came)) r.walk r.stage went.goes)
