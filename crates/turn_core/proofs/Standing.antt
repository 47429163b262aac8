-- A turn, by how many actions of the job's agenda are done.
use Rattle.std.proofs.Common.{◌≡◌, ◌+◌, ◌-◌, ◌<◌, ◌≤◌, ◌++◌, ℕ, true, false, List, [], ◌∷◌, Option, Some, None, nat_le, drop, length, slice_get, length-append, length-drop, sym, ap, subst, ◌∙◌, arith}
use Rattle.jcl_plan.specs.declared.plan.JobPlan.{JobPlan}
use Rattle.jcl_plan.specs.declared.plan.StepPlan.{StepPlan}
use Rattle.jcl_meaning.specs.declared.program.Move.{Move}
use Rattle.jcl_meaning.specs.declared.program.SoloProgram.{SoloProgram}
use Rattle.jcl_meaning.specs.Agendas.{Action, Finish, Over, agenda, disposes_from, lefts_from, moves_from, steps_from, takes_from}
use Rattle.jcl_meaning.specs.Programs.{moves_of}
use Rattle.jcl_meaning.specs.Stores.{Store}
use Rattle.turn_core.specs.Places.{agenda_at, disposes_left, in_step, lefts_left, requests_left, steps_left, takes_left}
use Rattle.turn_core.specs.Standing.{Stands, TellsJob, count_at, undone}
use Rattle.turn_core.specs.Turning.{Acts, Around, Ends, Tells, Waits}
use Rattle.turn_core.specs.declared.todo.Todo.{Todo}
use Rattle.turn_core.specs.declared.todo.Todo.TheVariants as todo
use Rattle.turn_core.specs.declared.walk.Turned.{Turned}
use Rattle.turn_core.specs.declared.walk.Turned.TheVariants as turned
use Rattle.turn_core.specs.declared.walk.Walk.{Walk}
use Rattle.turn_core.proofs.Turning.{drop_more}

-- some action is left at each place
some_behind : (xs ys : List Action) → 0 < length ys → 0 < length (xs ++ ys)
some_behind xs ys h = rw length-append (omega arith)

module _ (moves : List ℕ → List Move) (steps : List StepPlan) where
  some_steps : (k : ℕ) → 0 < length (steps_left moves steps k)
  some_steps k = some_behind (steps_from moves (k + 1) (drop k steps)) (lefts_from 1 steps ++ (Over ∷ [])) (some_behind (lefts_from 1 steps) (Over ∷ []) (omega arith))

  some_disposes : (k d : ℕ) (step : StepPlan) → 0 < length (disposes_left moves steps k d step)
  some_disposes k d step = some_behind (disposes_from (k + 1) (d + 1) (drop d step.dds)) (steps_left moves steps (k + 1)) (some_steps (k + 1))

  some_requests : (k r : ℕ) (step : StepPlan) → 0 < length (requests_left moves steps k r step)
  some_requests k r step = some_behind (moves_from step (drop r (moves step.program))) (Finish (k + 1) ∷ disposes_left moves steps k 0 step) (omega arith)

  some_takes : (k d : ℕ) (step : StepPlan) → 0 < length (takes_left moves steps k d step)
  some_takes k d step = some_behind (takes_from (k + 1) (d + 1) (drop d step.dds)) (requests_left moves steps k 0 step) (some_requests k 0 step)

  some_in : (o : Option StepPlan) (rest : StepPlan → List Action) → ((step : StepPlan) → 0 < length (rest step)) → 0 < length (in_step o rest)
  some_in None rest h = omega arith
  some_in (Some step) rest h = h step

  pub some_left : (place : Todo) → 0 < length (agenda_at moves steps place)
  some_left (todo.Start k) = some_steps k
  some_left (todo.Take k d) = some_in (slice_get steps k) _ (some_takes k d)
  some_left (todo.Ask k r) = some_in (slice_get steps k) _ (some_requests k r)
  some_left (todo.Receive k r) = omega arith
  some_left (todo.Dispose k d) = some_in (slice_get steps k) _ (some_disposes k d)
  some_left (todo.Left k d) = some_behind (lefts_left (slice_get steps k) (drop (k + 1) steps) k d) (Over ∷ []) (omega arith)

-- a rest that is not empty tells how many are before it
count_by : {X : Type 0} (whole rest : List X) (n : ℕ) → drop n whole ≡ rest → 0 < length rest → (length whole - length rest ≡ n) × (n < length whole)
count_by whole rest n e h =
    let l : length rest ≡ length whole - n = sym (ap length e) ∙ length-drop n whole in
    (omega arith, omega arith)

le_false : (a b : ℕ) → b < a → nat_le a b ≡ false
le_false a b h = grind arith

le_true : (a b : ℕ) → a ≤ b → nat_le a b ≡ true
le_true a b h = grind arith

past_end : {X : Type 0} (whole : List X) (n : ℕ) → drop n whole ≡ [] → length whole ≤ n
past_end whole n e =
    let l : 0 ≡ length whole - n = sym (ap length e) ∙ length-drop n whole in
    omega arith

-- the first place
same_less : (n : ℕ) → n - n ≡ 0
same_less n = omega arith

pub stands_first : (plan : JobPlan) (programs : List SoloProgram) → Stands plan programs (todo.Start 0)
stands_first plan programs = ap (λ n. drop n (agenda plan programs)) (same_less (length (agenda plan programs)))

pub none_done : (plan : JobPlan) (programs : List SoloProgram) → count_at plan programs (todo.Start 0) ≡ 0
none_done plan programs = same_less (length (agenda plan programs))

less : (c m n : ℕ) → c ≡ m → m < n → c < n
less c m n e h = omega arith

most : (c m n : ℕ) → c ≡ m → n ≤ m → n ≤ c
most c m n e h = omega arith

-- the actions left at a place, and behind it
pub tells_job : (told : Turned) (w : Around) (plan : JobPlan) (old new : Store) (before after : Walk) → Stands plan w.programs before.todo →
    Tells w (agenda_at (moves_of w.programs) plan.steps before.todo) old before.course new after.course (agenda_at (moves_of w.programs) plan.steps after.todo) told →
    TellsJob w plan old before new after told
tells_job turned.Waits w plan old new before after stands t =
    subst (λ (l : List Action). Waits w l old before.course.own (count_at plan w.programs before.todo)) (sym stands) (t (count_at plan w.programs before.todo))
tells_job (turned.Acts told) w plan old new before after stands t =
    let whole : List Action = agenda plan w.programs in
    let left : List Action = agenda_at (moves_of w.programs) plan.steps after.todo in
    let n : ℕ = count_at plan w.programs before.todo in
    let q : Acts w (agenda_at (moves_of w.programs) plan.steps before.todo) old before.course new after.course left n told = t n in
    let behind : drop (n + q.passed) whole ≡ left = drop_more n q.passed whole ∙ ap (drop q.passed) stands ∙ q.left in
    let counts = count_by whole left (n + q.passed) behind (some_left (moves_of w.programs) plan.steps after.todo) in
    let again : Stands plan w.programs after.todo = ap (λ m. drop m whole) counts.0 ∙ behind in
    let moved : Acts w (undone plan w.programs before.todo) old before.course new after.course (undone plan w.programs after.todo) n told =
    subst (λ (l : List Action). Acts w (undone plan w.programs before.todo) old before.course new after.course l n told) (sym again)
    (subst (λ (l : List Action). Acts w l old before.course new after.course left n told) (sym stands) q) in
    let on : drop (n + moved.passed) whole ≡ left = drop_more n moved.passed whole ∙ moved.left ∙ again in
    let count = count_by whole left (n + moved.passed) on (some_left (moves_of w.programs) plan.steps after.todo) in
    record {
      acts = moved;
      counted = moved.counted ∙ sym count.0;
      stands = again;
      goes_on = le_false (length whole) moved.its_turn.count (less moved.its_turn.count (n + moved.passed) (length whole) moved.counted count.1);
    }
tells_job turned.Ends w plan old new before after stands t =
    let whole : List Action = agenda plan w.programs in
    let n : ℕ = count_at plan w.programs before.todo in
    let moved : Ends w (undone plan w.programs before.todo) old before.course.own n =
    subst (λ (l : List Action). Ends w l old before.course.own n) (sym stands) (t n) in
    let past : length whole ≤ n + moved.passed = past_end whole (n + moved.passed) (drop_more n moved.passed whole ∙ moved.left) in
    record { ends = moved; is_over = le_true (length whole) moved.its_turn.count (most moved.its_turn.count (n + moved.passed) (length whole) moved.counted past) }
