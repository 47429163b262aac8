-- A job's names held, or none of them, is the machine's case.
use Rattle.std.proofs.Common.{◌≡◌, ◌≢◌, ℕ, suc, ◌≤◌, Bool, true, false, not, cond, List, [], ◌∷◌, ◌++◌, All, Option, Some, None, arith, drop, length, refl, sym, ap, ◌∙◌, subst, inl}
use Rattle.std.specs.Prelude.{◌==◌}
use Rattle.std.proofs.lemmas.Bool.{eq-eqb}
use Rattle.std.proofs.lemmas.List.{drop_at}
use Rattle.enq_core.specs.declared.table.Hold.{Hold}
use Rattle.enq_core.specs.declared.table.Want.{Want}
use Rattle.enq_core.specs.Holds.{HoldsNone, holds_of, is_blocked, without_job, IsFirstBlock}
use Rattle.jcl_plan.specs.declared.entry.JobLine.{JobLine}
use Rattle.jcl_plan.specs.declared.entry.JobLine.TheVariants as line
use Rattle.jcl_plan.specs.declared.plan.JobPlan.{JobPlan}
use Rattle.cb_queue.specs.RecordQueues.{RecordQueue}
use Rattle.world_meaning.specs.Holdings.{blocked, held as holding, wants_of}
use Rattle.world_meaning.specs.Worlds as world
use Rattle.world_meaning.specs.Worlds.{Config, Shared, going_on}
use Rattle.world_meaning.proofs.Following.{unopened}
use Rattle.turn_core.specs.declared.walk.Walk.{Walk}
use Rattle.queued_job.proofs.Wanted.{holding_leaves}
use Rattle.machine_core.specs.declared.parts.Parts.{Parts}
use Rattle.machine_core.specs.Shown.{shown}
use Rattle.machine_core.proofs.Unnamed.{none_given_free}
use Rattle.shared_core.proofs.Following.{stays_follow}
use Rattle.init_core.specs.declared.running.Progress.{Progress}
use Rattle.init_core.specs.declared.running.Progress.TheVariants.{GoesOn}
use Rattle.init_core.specs.declared.running.Running.{Running}
use Rattle.init_core.specs.declared.running.Stage.{Stage}
use Rattle.init_core.specs.declared.running.Stage.TheVariants as stage
use Rattle.init_core.specs.Going.{Went}
use Rattle.init_core.specs.Naming.{Wishes, stage_behind}
use Rattle.init_core.specs.Running.{IsGood, shown_running}

-- the names that a job holds are given free again
none_of : (job : ℕ) (wants : List Want) → without_job job (holds_of job wants) ≡ []
none_of job [] = refl
none_of job (want ∷ wants) =
    ap (λ b. cond (not b) (record { job = job; name = want.name; exclusive = want.exclusive } ∷ without_job job (holds_of job wants)) (without_job job (holds_of job wants)))
    (eq-eqb job job refl)
    ∙ none_of job wants

kept_first : (b : Bool) (hold : Hold) (all rest behind : List Hold) → all ≡ rest ++ behind → cond b (hold ∷ all) all ≡ cond b (hold ∷ rest) rest ++ behind
kept_first true hold all rest behind e = ap (λ hs. hold ∷ hs) e
kept_first false hold all rest behind e = e

apart : (job : ℕ) (xs ys : List Hold) → without_job job (xs ++ ys) ≡ without_job job xs ++ without_job job ys
apart job [] ys = refl
apart job (x ∷ xs) ys = kept_first (not (x.job == job)) x (without_job job (xs ++ ys)) (without_job job xs) (without_job job ys) (apart job xs ys)

pub nothing_behind : {X : Type 0} (xs : List X) → xs ++ [] ≡ xs
nothing_behind [] = refl
nothing_behind (x ∷ xs) = ap (λ ys. x ∷ ys) (nothing_behind xs)

pub released_again : (holds : List Hold) (job : ℕ) (wants : List Want) → HoldsNone holds job → without_job job (holds ++ holds_of job wants) ≡ holds
released_again holds job wants none =
    apart job holds (holds_of job wants)
    ∙ ap (λ hs. without_job job holds ++ hs) (none_of job wants)
    ∙ nothing_behind (without_job job holds)
    ∙ none_given_free holds job none

-- the lines behind a listing
pub lines_behind : (before after more : List JobLine) → after ≡ before ++ more → drop (length before) after ≡ more
lines_behind before after more e = ap (drop (length before)) e ∙ drop_at before more (length before) refl

pub listing_told : (before after more : List JobLine) → after ≡ before ++ more → after ≡ before ++ drop (length before) after
listing_told before after more e = e ∙ ap (λ xs. before ++ xs) (sym (lines_behind before after more e))

-- one line at most
pub one_at_most : (lines : List JobLine) (n : ℕ) → length lines ≤ 1 → length lines ≤ suc (suc n)
one_at_most lines n one = omega arith

pub one_told : (lines : List JobLine) (line : JobLine) (n : ℕ) → lines ≡ line ∷ [] → length lines ≤ suc (suc n)
one_told lines line n e = one_at_most lines n (subst (λ (ls : List JobLine). length ls ≤ 1) (sym e) (omega arith))

pub none_told : (lines : List JobLine) (n : ℕ) → lines ≡ [] → length lines ≤ suc (suc n)
none_told lines n e = one_at_most lines n (subst (λ (ls : List JobLine). length ls ≤ 1) (sym e) (omega arith))

abbrev pub with_lines : Walk → List JobLine → Walk
with_lines walk lines = record { todo = walk.todo; course = record { own = walk.course.own; lines = lines } }

pub still_good : {Q : Type 0} (queue_of : Q → RecordQueue) (c : Config) (p : Parts Q) (names : List Hold) → IsGood queue_of c p → IsGood queue_of c (record p { names = names })
still_good queue_of c p names g = record { volumes = g.volumes; layout = g.layout; fields = g.fields; operations = g.operations; few = g.few }

module _ {Q : Type 0} (queue_of : Q → RecordQueue) (c : Config) (p : Parts Q) (names : List Hold) (job : ℕ) (walk : Walk) (lines : List JobLine) (plan : JobPlan) (wants : List Want)
    (some : job ≢ 0) (none : HoldsNone p.names job) (are : wants ≡ wants_of plan) (g : IsGood queue_of c p) where
  abbrev pub its : Running
  its = record { job = job; walk = walk; stage = stage.Wanting plan wants }

  abbrev pub new : Parts Q
  new = record p { names = names }

  abbrev pub told : List JobLine
  told = drop (length walk.course.lines) lines

  abbrev pub goes_to : world.Stage → Option world.Running
  goes_to s = Some (record { job = job; listing = lines; stage = s })

  same_listing : (more : List JobLine) → lines ≡ walk.course.lines ++ more → (s : world.Stage) → goes_to s ≡ going_on (shown_running c (queue_of p.queue) its) told s
  same_listing more e s = ap (λ l. Some (record { job = job; listing = l; stage = s })) (listing_told walk.course.lines lines more e)

  pub wanted : (held : Option ℕ) → Wishes p.names job wants walk.course.lines held names lines →
      Went queue_of c p its new (GoesOn (record { job = job; walk = with_lines walk lines; stage = stage_behind plan wants held }) (length walk.course.lines))
  wanted (Some holder) w = record {
    middle = shown queue_of new;
    goes = holding
        (subst (λ ws. All (λ want. is_blocked p.names want ≡ false) ws) are w.free)
        (lines_behind walk.course.lines lines _ w.told ∙ ap (λ (ws : List Want). line.Names (length ws) ∷ []) are)
        (ap (λ (hs : List Hold). record (shown queue_of p) { holds = hs }) (w.holds ∙ ap (λ ws. p.names ++ holds_of job ws) are))
        (same_listing _ w.told (world.Named plan));
    reopened = unopened c.layout (shown queue_of new);
    chosen = tt;
    explained = refl;
    few = one_told told _ (length walk.course.own.dds) (lines_behind walk.course.lines lines _ w.told);
    once = tt;
    good = still_good queue_of c p names g;
    left = record { same = refl; ready = record { some = some; at = w.for_job } };
    extents = inl (stays_follow p.store);
    rest = record {
      waiting = refl;
      others = λ other apart none. subst (λ hs. HoldsNone hs other) (sym w.holds) (holding_leaves p.names job other wants apart none);
    };
  }
  wanted None w = record {
    middle = shown queue_of new;
    goes = blocked w.by
        (subst (λ ws. IsFirstBlock p.names ws w.by) are w.first)
        (lines_behind walk.course.lines lines _ w.told)
        (ap (λ (hs : List Hold). record (shown queue_of p) { holds = hs }) w.same)
        (same_listing _ w.told (world.Wanting plan));
    reopened = unopened c.layout (shown queue_of new);
    chosen = tt;
    explained = refl;
    few = one_told told _ (length walk.course.own.dds) (lines_behind walk.course.lines lines _ w.told);
    once = tt;
    good = still_good queue_of c p names g;
    left = record { same = refl; ready = record { some = some; at = (subst (λ hs. HoldsNone hs job) (sym w.same) none, are) } };
    extents = inl (stays_follow p.store);
    rest = record {
      waiting = refl;
      others = λ other apart none. subst (λ hs. HoldsNone hs other) (sym w.same) none;
    };
  }

-- the same of the names as they were read
pub so_wanted : {Q : Type 0} (queue_of : Q → RecordQueue) (c : Config) (p new : Parts Q) (job : ℕ) (walk after : Walk) (plan : JobPlan) (read wants : List Want)
    (held : Option ℕ) (from : ℕ) (came : Progress) → read ≡ wants → from ≡ length walk.course.lines →
    came ≡ GoesOn (record { job = job; walk = after; stage = stage_behind plan wants held }) from →
    Went queue_of c p (record { job = job; walk = walk; stage = stage.Wanting plan read }) new
    (GoesOn (record { job = job; walk = after; stage = stage_behind plan read held }) (length walk.course.lines)) →
    Went queue_of c p (record { job = job; walk = walk; stage = stage.Wanting plan wants }) new came
so_wanted queue_of c p new job walk after plan read wants held from came same at is w =
    subst (Went queue_of c p (record { job = job; walk = walk; stage = stage.Wanting plan wants }) new) (sym is)
    (subst (λ n. Went queue_of c p (record { job = job; walk = walk; stage = stage.Wanting plan wants }) new
    (GoesOn (record { job = job; walk = after; stage = stage_behind plan wants held }) n)) (sym at)
    (subst (λ (ws : List Want). Went queue_of c p (record { job = job; walk = walk; stage = stage.Wanting plan ws }) new
    (GoesOn (record { job = job; walk = after; stage = stage_behind plan ws held }) (length walk.course.lines))) same w))

-- the same of a job that waited so
pub waited : {Q : Type 0} (queue_of : Q → RecordQueue) (c : Config) (p new : Parts Q) (job : ℕ) (walk after : Walk) (plan : JobPlan) (wants : List Want)
    (before behind : Stage) (held : Option ℕ) (from : ℕ) → before ≡ stage.Wanting plan wants → behind ≡ stage_behind plan wants held →
    from ≡ length walk.course.lines →
    Went queue_of c p (record { job = job; walk = walk; stage = stage.Wanting plan wants }) new
    (GoesOn (record { job = job; walk = after; stage = stage_behind plan wants held }) (length walk.course.lines)) →
    Went queue_of c p (record { job = job; walk = walk; stage = before }) new (GoesOn (record { job = job; walk = after; stage = behind }) from)
waited queue_of c p new job walk after plan wants before behind held from was is at w =
    subst (λ n. Went queue_of c p (record { job = job; walk = walk; stage = before }) new (GoesOn (record { job = job; walk = after; stage = behind }) n)) (sym at)
    (subst (λ s. Went queue_of c p (record { job = job; walk = walk; stage = before }) new
    (GoesOn (record { job = job; walk = after; stage = s }) (length walk.course.lines))) (sym is)
    (subst (λ s. Went queue_of c p (record { job = job; walk = walk; stage = s }) new
    (GoesOn (record { job = job; walk = after; stage = stage_behind plan wants held }) (length walk.course.lines))) (sym was) w))
