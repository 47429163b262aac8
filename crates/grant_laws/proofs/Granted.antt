-- A turn whose primaries the store grants is one with all primaries granted.
use Rattle.std.proofs.Common.{◌≡◌, ◌⊎◌, inl, inr, ℕ, Bool, true, false, List, Option, Some, None, refl, sym, ap, ◌∙◌, subst}
use Rattle.std.specs.Prelude.{◌+◌, ◌++◌, length, nat_le, slice_get}
use Rattle.std.proofs.lemmas.Bool.{both_ways, cases_Bool}
use Rattle.std.proofs.lemmas.List.Elements.{All-drop}
use Rattle.jname_core.specs.declared.key.Key.{Key}
use Rattle.jcl_plan.specs.declared.plan.DdKind.{DdKind}
use Rattle.jcl_plan.specs.declared.plan.DdKind.TheVariants.{Cards, Dummy, Set, Sysout}
use Rattle.jcl_plan.specs.declared.plan.JobPlan.{JobPlan}
use Rattle.jcl_plan.specs.declared.plan.SetPlan.{SetPlan}
use Rattle.jcl_meaning.specs.declared.state.Own.{Own}
use Rattle.jcl_meaning.specs.declared.state.Place.{Place}
use Rattle.jcl_meaning.specs.declared.state.Resolution.{Resolution}
use Rattle.jcl_meaning.specs.declared.state.Resolution.TheVariants.{Fails, Means}
use Rattle.jcl_meaning.specs.Agendas.{Action, Ask, Dispose, Finish, Left, Over, Receive, Start, Take, agenda}
use Rattle.jcl_meaning.specs.Names.{names_of}
use Rattle.jcl_meaning.specs.Resolutions.{meaning_at}
use Rattle.jcl_meaning.specs.States.{Fixed}
use Rattle.jcl_meaning.specs.Stores.{Store}
use Rattle.jcl_meaning.specs.Takes.{looked_at}
use Rattle.jcl_meaning.specs.WellFormed.{AreWellFormedPrograms}
use Rattle.part_laws.specs.Fits.{Fits}
use Rattle.world_meaning.specs.Turns.{Advanced, is_cancelled, must_wait, operations_after, state_in}
use Rattle.disp_core.specs.Grants.{granted_by, granted_on, made_of, primary_granted}
use Rattle.disp_core.specs.Takings.{target_in}
use Rattle.turn_core.specs.Ending.{ended_at}
use Rattle.turn_core.specs.Passing.{is_idle}
use Rattle.turn_core.specs.Performing.{growth_by, primary_by, volume_started}
use Rattle.turn_core.specs.Standing.{JobActs, count_at, undone}
use Rattle.turn_core.specs.Turning.{Acts, Around, answers_in, operations_by, turn_in}
use Rattle.turn_core.specs.declared.walk.Acted.{Acted}
use Rattle.turn_core.specs.declared.walk.Walk.{Walk}
use Rattle.case_laws.proofs.Known.{IsKnown, all_known}
use Rattle.grant_laws.specs.Granted.{GrantedTurns, GrantsAll, with_primaries}
use Rattle.grant_laws.proofs.SameTurns.{IsGranted, MakesOne, granted, turn_shown}

-- what grants each primary grants that of an action
abbrev all_primaries : Key → Place → ℕ → Bool
all_primaries key place tracks = true

module _ (fixed : Fixed) (seen : Store) (own : Own) where
  granted_at : (n dd : ℕ) (p : SetPlan) (at : Option (List ℕ)) (key : Key) → granted_on (all_primaries key) n dd p at ≡ true
  granted_at n dd p None key = refl
  granted_at n dd p (Some serial) key = refl

  granted_to : (n dd : ℕ) (p : SetPlan) (r : Resolution) → granted_by all_primaries fixed n dd p seen own r ≡ true
  granted_to n dd p (Fails fault) = refl
  granted_to n dd p (Means key) = granted_at n dd p (looked_at (target_in fixed n dd p key seen own)) key

  granted_dd : (n dd : ℕ) (kind : DdKind) → primary_granted all_primaries fixed n dd kind seen own ≡ true
  granted_dd n dd (Sysout class) = refl
  granted_dd n dd Dummy = refl
  granted_dd n dd (Cards cards) = refl
  granted_dd n dd (Set p) = granted_to n dd p (meaning_at fixed.meanings n dd)

  granted_action : (a : Action) → primary_by all_primaries fixed a seen own ≡ true
  granted_action (Start n step) = refl
  granted_action (Take n dd d) = granted_dd n dd d.kind
  granted_action (Ask step wants) = refl
  granted_action Receive = refl
  granted_action (Finish n) = refl
  granted_action (Dispose n dd d) = refl
  granted_action (Left n dd d) = refl
  granted_action Over = refl

module _ (w : Around) (plan : JobPlan) (old new : Store) (before after : Walk) (told : Acted) (formed : AreWellFormedPrograms w.programs)
    (fits : Fits (names_of plan) w.fixed.meanings (undone plan w.programs before.todo) before.course.own) (grants : GrantsAll w plan old before)
    (h : JobActs w plan old new before after told) where
  abbrev this : Advanced
  this = h.acts.its_turn

  -- the same turn with its primary
  abbrev HasPrimary : Type 0
  HasPrimary = IsGranted w.programs w.steps plan.steps w.fixed w.cancel h.acts.growth (names_of plan) (undone plan w.programs before.todo)
      (state_in old before.course.own) (count_at plan w.programs before.todo) this

  acts_granted : HasPrimary → Acts (with_primaries w) (undone plan w.programs before.todo) old before.course new after.course
      (undone plan w.programs after.todo) (count_at plan w.programs before.todo) told
  acts_granted g = record {
    its_turn = g.turn;
    growth = h.acts.growth;
    primary = true;
    advances = g.advances;
    growth_answered = along (λ x. h.acts.growth ≡ growth_by w.grants.growth w.cancel x.action x.before.store x.before.own) h.acts.growth_answered;
    primary_answered = sym (granted_action w.fixed g.turn.before.store g.turn.before.own g.turn.action);
    goes = along (λ x. must_wait w.operations w.job x ≡ false) h.acts.goes;
    writes = along (λ x. is_idle x.action x.before.own ≡ false) h.acts.writes;
    goes_on = along (λ x. ended_at x.action x.before.own ≡ None) h.acts.goes_on;
    seen_before = along (λ x. x.before.store ≡ old) h.acts.seen_before;
    dds_before = along (λ x. x.before.own.dds ≡ before.course.own.dds) h.acts.dds_before;
    answers = g.answered;
    did = g.does;
    place = h.acts.place;
    stood = along (λ x. slice_get (undone plan w.programs before.todo) h.acts.place ≡ Some x.action) h.acts.stood;
    store = along (λ x. x.done.state.store ≡ new) h.acts.store;
    own = along (λ x. x.done.state.own ≡ after.course.own) h.acts.own;
    lines = along (λ x. after.course.lines ≡ before.course.lines ++ x.done.lines) h.acts.lines;
    made = along (λ x. x.done.made ≡ made_of told.made) h.acts.made;
    starts = along (λ x. told.starts ≡ volume_started x.done.lines) h.acts.starts;
    cancelled = along (λ x. told.cancelled ≡ is_cancelled x.done.lines) h.acts.cancelled;
    idle = h.acts.idle;
    operations = along (λ x. operations_after w.operations w.job x.done.lines ≡ operations_by w.operations w.job told.starts told.cancelled)
        h.acts.operations;
    passed = h.acts.passed;
    left = h.acts.left;
    counted = along (λ x. x.count ≡ count_at plan w.programs before.todo + h.acts.passed) h.acts.counted;
  }
    where
      along : (P : Advanced → Type 0) → P (turn_shown this) → P (turn_shown g.turn)
      along P p = subst P g.alike p

  job_granted : HasPrimary → (g : JobActs (with_primaries w) plan old new before after told) × (g.acts.primary ≡ true)
  unfolding acts_granted
  job_granted g = (
    record {
      acts = acts_granted g;
      counted = subst (λ (x : Advanced). x.count ≡ count_at plan w.programs after.todo) g.alike h.counted;
      stands = h.stands;
      goes_on = subst (λ (x : Advanced). nat_le (length (agenda plan w.programs)) x.count ≡ false) g.alike h.goes_on;
    },
    refl,
  )

  -- what the job may yet make is granted
  none_refused : h.acts.primary ≡ false → MakesOne w.programs w.steps plan.steps w.fixed w.cancel h.acts.growth (names_of plan)
      (undone plan w.programs before.todo) old before.course.own this → ⊥
  none_refused refused m =
      both_ways h.acts.primary refused (h.acts.primary_answered ∙ m.asked w.grants.new ∙ grants m.place m.key m.may m.seen)

  has_primary : (h.acts.primary ≡ true) ⊎ (h.acts.primary ≡ false) → HasPrimary
  has_primary (inl is) = record {
    turn = this;
    advances = subst (λ (b : Bool). turn_in w (undone plan w.programs before.todo) old before.course.own (count_at plan w.programs before.todo)
        h.acts.growth b ≡ Some this) is h.acts.advances;
    alike = refl;
    answered = h.acts.answers ∙ ap (λ (b : Bool). answers_in w h.acts.growth b this.action this.before.own) is;
    does = h.acts.did;
  }
  has_primary (inr refused) =
      by_turn (granted w.programs w.steps plan.steps w.fixed w.cancel h.acts.growth (names_of plan) formed (undone plan w.programs before.todo) old
      before.course.own (state_in old before.course.own).answers (state_in old before.course.own).answers (count_at plan w.programs before.todo) this fits
      (All-drop (IsKnown plan.steps) (count_at plan w.programs before.todo) (agenda plan w.programs) (all_known plan w.programs))
      (subst (λ (b : Bool). turn_in w (undone plan w.programs before.todo) old before.course.own (count_at plan w.programs before.todo)
      h.acts.growth b ≡ Some this) refused h.acts.advances))
    where
      by_turn : MakesOne w.programs w.steps plan.steps w.fixed w.cancel h.acts.growth (names_of plan)
          (undone plan w.programs before.todo) old before.course.own this ⊎ HasPrimary → HasPrimary
      by_turn (inl m) = absurd (none_refused refused m)
      by_turn (inr g) = g

pub granted_turns : GrantedTurns
granted_turns w plan old new before after told formed fits grants h =
    job_granted w plan old new before after told formed fits grants h
    (has_primary w plan old new before after told formed fits grants h (cases_Bool h.acts.primary))
