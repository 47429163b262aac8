-- What a turn comes to, from what its actions do.
use Rattle.std.proofs.Common.{◌≡◌, ◌+◌, ◌-◌, ◌<◌, ℕ, zero, suc, Bool, true, false, not, ◌||◌, List, [], ◌∷◌, Option, Some, None, is_some, Result, Ok, Err, IfOk, slice_get, drop, length, length-drop, if◌then◌else◌, refl, sym, ap, subst, ◌∙◌, arith}
use Rattle.std.proofs.Math.Seq.{drop-nil}
use Rattle.jcl_plan.specs.declared.entry.JobLine.{JobLine}
use Rattle.jcl_plan.specs.declared.entry.JobLine.TheVariants as line
use Rattle.jcl_plan.specs.declared.outcome.Abend.TheVariants as abend
use Rattle.jcl_plan.specs.declared.outcome.Outcome.{Outcome}
use Rattle.jcl_meaning.specs.declared.state.Own.{Own}
use Rattle.jcl_meaning.specs.Acts.{act}
use Rattle.jcl_meaning.specs.Agendas.{Action, Start, Take, Ask, Receive, Finish, Dispose, Left, Over}
use Rattle.jcl_meaning.specs.EndActs.{finished, finishes}
use Rattle.jcl_meaning.specs.States.{Answers, Done, Fixed, State, goes, with_answers_used}
use Rattle.jcl_meaning.specs.Stores.{Store}
use Rattle.prog_core.specs.declared.units.Operation.{Operation}
use Rattle.prog_core.specs.Operations.{is_busy}
use Rattle.disp_core.specs.declared.course.Course.{Course}
use Rattle.world_meaning.specs.Turns.{Advanced, advance, is_cancelled, must_wait, operations_after, state_in, unless_silent, volume_needed}
use Rattle.turn_core.specs.Ending.{course_ended, ended_at, ended_by, number_over}
use Rattle.turn_core.specs.Passing.{Passes, is_idle}
use Rattle.turn_core.specs.Performing.{Performs, growth_by, primary_by, volume_started}
use Rattle.turn_core.specs.Turning.{Acts, Around, Ends, Tells, Waits, acts, answers_in, operations_by, turn_in}
use Rattle.turn_core.specs.Waiting.{volume_due, waits_at}
use Rattle.turn_core.specs.declared.todo.Todo.{Todo}
use Rattle.turn_core.specs.declared.walk.Acted.{Acted}
use Rattle.turn_core.specs.declared.walk.Turned.{Turned}
use Rattle.turn_core.specs.declared.walk.Turned.TheVariants as turned
use Rattle.turn_core.proofs.Passing.{advance_silent, drop_next}
use Rattle.turn_core.proofs.Performing.{cancelled_now}
use Rattle.turn_core.proofs.Saying.{Says, cancels_at, says, waits_as_told}

-- an action that writes is where a turn ends
abbrev pub stopped : (Action → Own → Answers) → Fixed → Action → Store → Own → ℕ → Advanced
stopped answers fixed a seen own count = record {
  action = a;
  before = record { store = seen; own = own; answers = answers a own };
  done = act fixed a (record { store = seen; own = own; answers = answers a own });
  count = suc count;
}

advance_says : (answers : Action → Own → Answers) (fixed : Fixed) (a : Action) (actions : List Action) (seen : Store) (own : Own) (count : ℕ) (first : JobLine) (others : List JobLine) →
    (act fixed a (record { store = seen; own = own; answers = answers a own })).lines ≡ first ∷ others →
    advance answers fixed (a ∷ actions) (state_in seen own) count ≡ Some (stopped answers fixed a seen own count)
unfolding advance
advance_says answers fixed a actions seen own count first others e =
    ap (λ (lines : List JobLine). unless_silent lines (stopped answers fixed a seen own count)
    (advance answers fixed actions (act fixed a (record { store = seen; own = own; answers = answers a own })).state (suc count))) e

module _ (w : Around) (a : Action) (actions : List Action) (seen : Store) (own : Own) (count : ℕ) (growth primary : Bool) (h : is_idle a own ≡ false) (k : ended_at a own ≡ None) where
  abbrev here : State
  here = record { store = seen; own = own; answers = answers_in w growth primary a own }

  said : Says (act w.fixed a here).lines a own (volume_due w.cancel a seen own) (cancels_at w.cancel a here)
  said = says w.fixed a here w.cancel h k (cancelled_now w.cancel own.lines)

  stops : turn_in w (a ∷ actions) seen own count growth primary ≡ Some (stopped (answers_in w growth primary) w.fixed a seen own count)
  stops = advance_says (answers_in w growth primary) w.fixed a actions seen own count said.first said.others said.are

  waits_told : must_wait w.operations w.job (stopped (answers_in w growth primary) w.fixed a seen own count) ≡ waits_at w.operations w.job w.cancel a seen own
  waits_told = waits_as_told w.operations w.job w.fixed a here w.cancel (suc count) h k (cancelled_now w.cancel own.lines)

-- it waits
pub waits_here : (w : Around) (a : Action) (actions : List Action) (seen : Store) (own : Own) (count : ℕ) → is_idle a own ≡ false → ended_at a own ≡ None →
    waits_at w.operations w.job w.cancel a seen own ≡ true → Waits w (a ∷ actions) seen own count
waits_here w a actions seen own count h k e = record {
  its_turn = stopped (answers_in w true true) w.fixed a seen own count;
  advances = stops w a actions seen own count true true h k;
  waits = waits_told w a actions seen own count true true h k ∙ e;
}

-- which operations are under way behind lines, by their first
operations_told : (operations : List Operation) (job : ℕ) (lines : List JobLine) → operations_after operations job lines ≡ operations_by operations job (volume_started lines) (is_cancelled lines)
operations_told operations job [] = refl
operations_told operations job (line.GetStart name serial ∷ lines) = refl
operations_told operations job (line.PutStart name serial grown ∷ lines) = refl
operations_told operations job (line.Abend abend.S222 ∷ lines) = refl
operations_told operations job (l ∷ lines) = refl

-- no operation is under way where one starts
needs_idle : (operations : List Operation) (lines : List JobLine) (a : Action) (own : Own) → is_busy operations (volume_needed lines a own) ≡ false → is_busy operations (volume_started lines) ≡ false
needs_idle operations [] a own h = refl
needs_idle operations (line.GetStart name serial ∷ lines) a own h = h
needs_idle operations (line.PutStart name serial grown ∷ lines) a own h = h
needs_idle operations (l ∷ lines) a own h = refl

neither : (a b : Bool) → (a || b) ≡ false → a ≡ false
neither true b h = h
neither false b h = refl

-- it acts
pub acts_here : (w : Around) (a : Action) (actions : List Action) (seen new : Store) (before after : Course) (count : ℕ) (told : Acted) →
    is_idle a before.own ≡ false → ended_at a before.own ≡ None → waits_at w.operations w.job w.cancel a seen before.own ≡ false →
    Performs w.programs w.steps w.grants w.cancel w.fixed a seen before new after told → Acts w (a ∷ actions) seen before new after actions count told
acts_here w a actions seen new before after count told h k e p =
    let growth : Bool = growth_by w.grants.growth w.cancel a seen before.own in
    let primary : Bool = primary_by w.grants.new w.fixed a seen before.own in
    let new_lines : List JobLine = (act w.fixed a (record { store = seen; own = before.own; answers = answers_in w growth primary a before.own })).lines in
    let goes : must_wait w.operations w.job (stopped (answers_in w growth primary) w.fixed a seen before.own count) ≡ false =
    waits_told w a actions seen before.own count growth primary h k ∙ e in
    record {
      its_turn = stopped (answers_in w growth primary) w.fixed a seen before.own count;
      growth = growth;
      primary = primary;
      advances = stops w a actions seen before.own count growth primary h k;
      growth_answered = refl;
      primary_answered = refl;
      goes = goes;
      writes = h;
      goes_on = k;
      seen_before = refl;
      dds_before = refl;
      answers = refl;
      did = refl;
      place = 0;
      stood = refl;
      store = p.its_store;
      own = p.its_own;
      lines = p.its_lines;
      made = p.its_made;
      starts = p.its_start;
      cancelled = p.its_cancel;
      idle = ap (is_busy w.operations) p.its_start ∙ needs_idle w.operations new_lines a before.own (neither _ _ goes);
      operations = operations_told w.operations w.job new_lines
          ∙ (λ i. operations_by w.operations w.job (sym p.its_start i) (sym p.its_cancel i));
      passed = 1;
      left = refl;
      counted = one_more count;
    }
  where
    one_more : (n : ℕ) → suc n ≡ n + 1
    one_more n = omega arith

-- the job's end is due
pub ends_here : (w : Around) (from : List Action) (seen : Store) (own : Own) (count : ℕ) → Passes own from (Over ∷ []) → Ends w from seen own count
unfolding act
ends_here w from seen own count p = record {
  its_turn = stopped (answers_in w true true) w.fixed Over seen own (count + p.passed);
  advances = p.same (answers_in w true true) w.fixed seen count ∙ advance_says (answers_in w true true) w.fixed Over [] seen own (count + p.passed) line.End [] refl;
  goes = refl;
  lines = refl;
  store = refl;
  outputs = refl;
  made = refl;
  passed = p.passed + 1;
  left = drop_next p.passed from [] Over p.left;
  counted = next count p.passed;
}
  where
    next : (n p : ℕ) → suc (n + p) ≡ n + (p + 1)
    next n p = omega arith

-- so many elements further on
pub drop_more : {X : Type 0} (n m : ℕ) (xs : List X) → drop (n + m) xs ≡ drop m (drop n xs)
drop_more zero m xs = ap (λ k. drop k xs) (none m)
  where
    none : (m : ℕ) → 0 + m ≡ m
    none m = omega arith
drop_more (suc n) m [] = drop-nil (suc n + m) ∙ sym (drop-nil m)
drop_more (suc n) m (x ∷ xs) = ap (λ k. drop k (x ∷ xs)) (next n m) ∙ drop_more n m xs
  where
    next : (n m : ℕ) → suc n + m ≡ suc (n + m)
    next n m = omega arith

pub get_from : {X : Type 0} (n m : ℕ) (xs : List X) → slice_get xs (n + m) ≡ slice_get (drop n xs) m
get_from zero m xs = ap (slice_get xs) (none m)
  where
    none : (m : ℕ) → 0 + m ≡ m
    none m = omega arith
get_from (suc n) m [] = refl
get_from (suc n) m (x ∷ xs) = ap (slice_get (x ∷ xs)) (next n m) ∙ get_from n m xs
  where
    next : (n m : ℕ) → suc n + m ≡ suc (n + m)
    next n m = omega arith

next_count : (n p : ℕ) → suc n + p ≡ n + suc p
next_count n p = omega arith

sum_assoc : (a b c : ℕ) → a + b + c ≡ a + (b + c)
sum_assoc a b c = omega arith

-- behind actions that are passed over
pub tells_on : (told : Turned) (w : Around) (from to behind : List Action) (seen new : Store) (before after : Course) → Passes before.own from to →
    Tells w to seen before new after behind told → Tells w from seen before new after behind told
tells_on turned.Waits w from to behind seen new before after p h = λ count.
    let q = h (count + p.passed) in record {
      its_turn = q.its_turn;
      advances = p.same (answers_in w true true) w.fixed seen count ∙ q.advances;
      waits = q.waits;
    }
tells_on (turned.Acts told) w from to behind seen new before after p h = λ count.
    let q = h (count + p.passed) in record {
      its_turn = q.its_turn;
      growth = q.growth;
      primary = q.primary;
      advances = p.same (answers_in w q.growth q.primary) w.fixed seen count ∙ q.advances;
      growth_answered = q.growth_answered;
      primary_answered = q.primary_answered;
      goes = q.goes;
      writes = q.writes;
      goes_on = q.goes_on;
      seen_before = q.seen_before;
      dds_before = q.dds_before;
      answers = q.answers;
      did = q.did;
      place = p.passed + q.place;
      stood = get_from p.passed q.place from ∙ ap (λ (l : List Action). slice_get l q.place) p.left ∙ q.stood;
      store = q.store;
      own = q.own;
      lines = q.lines;
      made = q.made;
      starts = q.starts;
      cancelled = q.cancelled;
      idle = q.idle;
      operations = q.operations;
      passed = p.passed + q.passed;
      left = drop_more p.passed q.passed from ∙ ap (drop q.passed) p.left ∙ q.left;
      counted = q.counted ∙ sum_assoc count p.passed q.passed;
    }
tells_on turned.Ends w from to behind seen new before after p h = λ count.
    let q = h (count + p.passed) in record {
      its_turn = q.its_turn;
      advances = p.same (answers_in w true true) w.fixed seen count ∙ q.advances;
      goes = q.goes;
      lines = q.lines;
      store = q.store;
      outputs = q.outputs;
      made = q.made;
      passed = p.passed + q.passed;
      left = drop_more p.passed q.passed from ∙ ap (drop q.passed) p.left ∙ q.left;
      counted = q.counted ∙ sum_assoc count p.passed q.passed;
    }

-- the end of a step whose program was over
pub record EndsSilently (done : Done) (s : State) (after : Own) : Type 0 where
  pub lines : done.lines ≡ []
  pub store : done.state.store ≡ s.store
  pub own : done.state.own ≡ after

pub finished_over : (runs : Bool) (o : Option Outcome) (n : ℕ) (s : State) → runs ≡ true → is_some o ≡ true →
    EndsSilently (if runs then finishes n o s else goes [] (record { store = s.store; own = s.own; answers = with_answers_used s.answers })) s (ended_by o n s.own)
finished_over false o n s h k = absurd cc
finished_over true None n s h k = absurd cc
finished_over true (Some o) n s h k = record { lines = refl; store = refl; own = refl }

-- the step runs, and its program is over
runs_over : (runs : Bool) (o : Option Outcome) (m n : ℕ) → not runs ≡ false → number_over o m ≡ Some n → (runs ≡ true) × (is_some o ≡ true) × (m ≡ n)
runs_over false o m n h k = absurd cc
runs_over true None m n h k = absurd cc
runs_over true (Some o) m n h k = (refl, refl, cc)

pub ends_silently : (fixed : Fixed) (a : Action) (s : State) (n : ℕ) → is_idle a s.own ≡ false → ended_at a s.own ≡ Some n →
    EndsSilently (act fixed a s) s (ended_by s.own.over n s.own)
unfolding act
ends_silently fixed (Start m step) s n h k = absurd cc
ends_silently fixed (Take m dd d) s n h k = absurd cc
ends_silently fixed (Ask step wants) s n h k = absurd cc
ends_silently fixed Receive s n h k = absurd cc
ends_silently fixed (Finish m) s n h k =
    let q = runs_over s.own.runs s.own.over m n h k in
    subst (λ i. EndsSilently (finished m s) s (ended_by s.own.over i s.own)) q.2 (finished_over s.own.runs s.own.over m s q.0 q.1)
ends_silently fixed (Dispose m dd d) s n h k = absurd cc
ends_silently fixed (Left m dd d) s n h k = absurd cc
ends_silently fixed Over s n h k = absurd cc

outputs_stay : (o : Option Outcome) (n : ℕ) (own : Own) → (ended_by o n own).outputs ≡ own.outputs
outputs_stay None n own = refl
outputs_stay (Some o) n own = refl

dds_stay : (o : Option Outcome) (n : ℕ) (own : Own) → (ended_by o n own).dds ≡ own.dds
dds_stay None n own = refl
dds_stay (Some o) n own = refl

-- behind such an end
pub tells_behind : (told : Turned) (w : Around) (a : Action) (rest behind : List Action) (seen new : Store) (before after : Course) (n : ℕ) →
    is_idle a before.own ≡ false → ended_at a before.own ≡ Some n →
    Tells w rest seen (course_ended n before) new after behind told → Tells w (a ∷ rest) seen before new after behind told
tells_behind turned.Waits w a rest behind seen new before after n h k t = λ count.
    let q = t (suc count) in
    let e = ends_silently w.fixed a (record { store = seen; own = before.own; answers = answers_in w true true a before.own }) n h k in
    record {
      its_turn = q.its_turn;
      advances = advance_silent (answers_in w true true) w.fixed a rest seen before.own (course_ended n before).own count e.lines e.store e.own ∙ q.advances;
      waits = q.waits;
    }
tells_behind (turned.Acts told) w a rest behind seen new before after n h k t = λ count.
    let q = t (suc count) in
    let e = ends_silently w.fixed a (record { store = seen; own = before.own; answers = answers_in w q.growth q.primary a before.own }) n h k in
    record {
      its_turn = q.its_turn;
      growth = q.growth;
      primary = q.primary;
      advances = advance_silent (answers_in w q.growth q.primary) w.fixed a rest seen before.own (course_ended n before).own count e.lines e.store e.own ∙ q.advances;
      growth_answered = q.growth_answered;
      primary_answered = q.primary_answered;
      goes = q.goes;
      writes = q.writes;
      goes_on = q.goes_on;
      seen_before = q.seen_before;
      dds_before = q.dds_before ∙ dds_stay before.own.over n before.own;
      answers = q.answers;
      did = q.did;
      place = suc q.place;
      stood = q.stood;
      store = q.store;
      own = q.own;
      lines = q.lines;
      made = q.made;
      starts = q.starts;
      cancelled = q.cancelled;
      idle = q.idle;
      operations = q.operations;
      passed = suc q.passed;
      left = q.left;
      counted = q.counted ∙ next_count count q.passed;
    }
tells_behind turned.Ends w a rest behind seen new before after n h k t = λ count.
    let q = t (suc count) in
    let e = ends_silently w.fixed a (record { store = seen; own = before.own; answers = answers_in w true true a before.own }) n h k in
    record {
      its_turn = q.its_turn;
      advances = advance_silent (answers_in w true true) w.fixed a rest seen before.own (course_ended n before).own count e.lines e.store e.own ∙ q.advances;
      goes = q.goes;
      lines = q.lines;
      store = q.store;
      outputs = q.outputs ∙ outputs_stay before.own.over n before.own;
      made = q.made;
      passed = suc q.passed;
      left = q.left;
      counted = q.counted ∙ next_count count q.passed;
    }

-- fewer actions are left
pub fewer : {X : Type 0} (n : ℕ) (xs rest : List X) (x : X) → drop n xs ≡ x ∷ rest → length rest < length xs
fewer n xs rest x e =
    let l : suc (length rest) ≡ length xs - n = sym (ap length e) ∙ length-drop n xs in
    omega arith

pub below : (a b t : ℕ) → a < b → b ≡ t → a < t
below a b t h e = omega arith

pub if_ok : {X E : Type 0} {P Q : X → Type 0} (r : Result X E) → ((x : X) → P x → Q x) → IfOk r P → IfOk r Q
if_ok (Ok x) f p = f x p
if_ok (Err e) f p = tt

pub if_ok_both : {X E : Type 0} {P Q R : X → Type 0} (r : Result X E) → ((x : X) → P x → Q x → R x) → IfOk r P → IfOk r Q → IfOk r R
if_ok_both (Ok x) f p q = f x p q
if_ok_both (Err e) f p q = tt

-- where the same is left behind
pub tells_to : (told : Turned) (w : Around) (from : List Action) (left : Todo → List Action) (seen new : Store) (before after : Course) (place behind : Todo) →
    (acts told ≡ true → place ≡ behind) → Tells w from seen before new after (left behind) told → Tells w from seen before new after (left place) told
tells_to turned.Waits w from left seen new before after place behind e h = h
tells_to (turned.Acts told) w from left seen new before after place behind e h =
    subst (λ (p : Todo). Tells w from seen before new after (left p) (turned.Acts told)) (sym (e refl)) h
tells_to turned.Ends w from left seen new before after place behind e h = h
