-- Actions that a turn passes over.
use Rattle.std.proofs.Common.{◌≡◌, ◌+◌, ◌-◌, ℕ, zero, suc, Bool, true, false, not, ◌&&◌, List, [], ◌∷◌, drop, if◌then◌else◌, Option, Some, None, is_some, slice_get, refl, ap, subst, ◌∙◌, arith, add-one}
use Rattle.jcl_plan.specs.declared.entry.JobLine.{JobLine}
use Rattle.jcl_plan.specs.declared.plan.DdKind.{DdKind}
use Rattle.jcl_plan.specs.declared.plan.DdKind.TheVariants.{Sysout, Dummy, Cards, Set}
use Rattle.jcl_plan.specs.declared.plan.SetPlan.{SetPlan}
use Rattle.jcl_meaning.specs.declared.state.DdState.{DdState}
use Rattle.jcl_meaning.specs.declared.state.Due.{Due}
use Rattle.jcl_meaning.specs.declared.state.Own.{Own}
use Rattle.jcl_meaning.specs.declared.state.Passed.{Passed}
use Rattle.jcl_meaning.specs.Acts.{act}
use Rattle.jcl_meaning.specs.Agendas.{Action, Start, Take, Ask, Receive, Finish, Dispose, Left, Over}
use Rattle.jcl_meaning.specs.EndActs.{disposes, finishes, left_at, leaves, passed_by}
use Rattle.jcl_meaning.specs.RequestActs.{received_due}
use Rattle.jcl_meaning.specs.States.{Answers, Done, Fixed, State, asks_open, goes, if_runs, with_answers_used}
use Rattle.jcl_meaning.specs.Stores.{Store}
use Rattle.world_meaning.specs.Turns.{Advanced, advance, state_in, unless_silent}
use Rattle.turn_core.specs.Passing.{Passes, is_idle, is_left}

-- an action that said nothing and changed nothing
pub record Idles (done : Done) (s : State) : Type 0 where
  pub lines : done.lines ≡ []
  pub store : done.state.store ≡ s.store
  pub own : done.state.own ≡ s.own

idles_unless : (runs : Bool) (s : State) (done : Done) → not runs ≡ true → Idles (if_runs runs s done) s
idles_unless true s done h = absurd cc
idles_unless false s done h = record { lines = refl; store = refl; own = refl }

idles_at_receive : (goes_on : Bool) (due : Option Due) (s : State) → not (goes_on && is_some due) ≡ true → Idles (if_runs goes_on s (received_due due s)) s
idles_at_receive false due s h = record { lines = refl; store = refl; own = refl }
idles_at_receive true None s h = record { lines = refl; store = refl; own = refl }
idles_at_receive true (Some due) s h = absurd cc

idles_at_end : (runs : Bool) (done : Done) (s : State) → not runs ≡ true → Idles (if runs then done else goes [] (record { store = s.store; own = s.own; answers = with_answers_used s.answers })) s
idles_at_end true done s h = absurd cc
idles_at_end false done s h = record { lines = refl; store = refl; own = refl }

idles_at_dispose : (runs : Bool) (x : Option DdState) (fixed : Fixed) (n dd : ℕ) (name : Option (List ℕ)) (kind : DdKind) (s : State) →
    not (runs && is_some x) ≡ true → Idles (if_runs runs s (disposes x fixed n dd name kind s)) s
idles_at_dispose false x fixed n dd name kind s h = record { lines = refl; store = refl; own = refl }
idles_at_dispose true None fixed n dd name kind s h = record { lines = refl; store = refl; own = refl }
idles_at_dispose true (Some x) fixed n dd name kind s h = absurd cc

idles_at_set : (p : Option Passed) (fixed : Fixed) (n dd : ℕ) (name : Option (List ℕ)) (set : SetPlan) (s : State) →
    not (is_some p) ≡ true → Idles (leaves fixed n dd name set p s) s
idles_at_set None fixed n dd name set s h = record { lines = refl; store = refl; own = refl }
idles_at_set (Some q) fixed n dd name set s h = absurd cc

idles_at_left : (kind : DdKind) (fixed : Fixed) (n dd : ℕ) (name : Option (List ℕ)) (s : State) →
    not (is_left kind (passed_by s.own.passed n dd)) ≡ true → Idles (left_at fixed n dd name kind s) s
idles_at_left (Sysout class) fixed n dd name s h = record { lines = refl; store = refl; own = refl }
idles_at_left Dummy fixed n dd name s h = record { lines = refl; store = refl; own = refl }
idles_at_left (Cards cards) fixed n dd name s h = record { lines = refl; store = refl; own = refl }
idles_at_left (Set set) fixed n dd name s h = idles_at_set (passed_by s.own.passed n dd) fixed n dd name set s h

pub idles : (fixed : Fixed) (a : Action) (s : State) → is_idle a s.own ≡ true → Idles (act fixed a s) s
unfolding act
idles fixed (Start n step) s h = absurd cc
idles fixed (Take n dd d) s h = idles_unless s.own.runs s _ h
idles fixed (Ask step move) s h = idles_unless (asks_open s.own) s _ h
idles fixed Receive s h = idles_at_receive (asks_open s.own) s.own.due s h
idles fixed (Finish n) s h = idles_at_end s.own.runs (finishes n s.own.over s) s h
idles fixed (Dispose n dd d) s h = idles_at_dispose s.own.runs (slice_get s.own.dds (dd - 1)) fixed n dd d.name d.kind s h
idles fixed (Left n dd d) s h = idles_at_left d.kind fixed n dd d.name s h
idles fixed Over s h = absurd cc

-- each action has its own answers, whatever were left before
pub advance_anyhow : (answers : Action → Own → Answers) (fixed : Fixed) (actions : List Action) (s : State) (others : Answers) (count : ℕ) →
    advance answers fixed actions s count ≡ advance answers fixed actions (record { store = s.store; own = s.own; answers = others }) count
unfolding advance
advance_anyhow answers fixed [] s others count = refl
advance_anyhow answers fixed (a ∷ actions) s others count = refl

-- a turn goes on from what an action left that said nothing
pub advance_silent : (answers : Action → Own → Answers) (fixed : Fixed) (a : Action) (actions : List Action) (seen : Store) (own after : Own) (count : ℕ) →
    (act fixed a (record { store = seen; own = own; answers = answers a own })).lines ≡ [] →
    (act fixed a (record { store = seen; own = own; answers = answers a own })).state.store ≡ seen →
    (act fixed a (record { store = seen; own = own; answers = answers a own })).state.own ≡ after →
    advance answers fixed (a ∷ actions) (state_in seen own) count ≡ advance answers fixed actions (state_in seen after) (suc count)
unfolding advance
advance_silent answers fixed a actions seen own after count l s o =
    let done : Done = act fixed a (record { store = seen; own = own; answers = answers a own }) in
    let here : Advanced = record { action = a; before = record { store = seen; own = own; answers = answers a own }; done = done; count = suc count } in
    ap (λ (lines : List JobLine). unless_silent lines here (advance answers fixed actions done.state (suc count))) l
    ∙ advance_anyhow answers fixed actions done.state (state_in seen own).answers (suc count)
    ∙ (λ i. advance answers fixed actions (state_in (s i) (o i)) (suc count))

-- what is left behind the next
pub drop_next : {X : Type 0} (n : ℕ) (xs rest : List X) (x : X) → drop n xs ≡ x ∷ rest → drop (n + 1) xs ≡ rest
drop_next n xs rest x e = rw add-one (drop_suc n xs rest x e)
  where
    drop_suc : {X : Type 0} (n : ℕ) (xs rest : List X) (x : X) → drop n xs ≡ x ∷ rest → drop (suc n) xs ≡ rest
    drop_suc zero xs rest x e = ap (drop 1) e
    drop_suc (suc n) [] rest x e = absurd cc
    drop_suc (suc n) (y ∷ xs) rest x e = drop_suc n xs rest x e

-- one more is
pub passes_more : (own : Own) (from to : List Action) (a : Action) → Passes own from (a ∷ to) → is_idle a own ≡ true → Passes own from to
passes_more own from to a p h = record {
  passed = p.passed + 1;
  left = drop_next p.passed from to a p.left;
  same = λ answers fixed seen count.
      let q = idles fixed a (record { store = seen; own = own; answers = answers a own }) h in
      p.same answers fixed seen count ∙ advance_silent answers fixed a to seen own own (count + p.passed) q.lines q.store q.own
      ∙ ap (advance answers fixed to (state_in seen own)) (next count p.passed);
}
  where
    next : (n p : ℕ) → suc (n + p) ≡ n + (p + 1)
    next n p = omega arith

pub passes_along : (own : Own) (from to others : List Action) → to ≡ others → Passes own from to → Passes own from others
passes_along own from to others e p = subst (Passes own from) e p
