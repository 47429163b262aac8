-- What the volumes decide, from what is known of an action and what is chosen.
use Rattle.std.proofs.Common.{◌≡◌, ℕ, cond, Bool, true, false, List, Some, ap, sym, subst, ◌∙◌}
use Rattle.jcl_plan.specs.declared.entry.Entry.{Entry}
use Rattle.jcl_plan.specs.declared.plan.StepPlan.{StepPlan}
use Rattle.jcl_meaning.specs.declared.program.Move.{Move}
use Rattle.jcl_meaning.specs.Acts.{act}
use Rattle.jcl_meaning.specs.Agendas.{Action, Ask, Take}
use Rattle.jcl_meaning.specs.RequestActs.{asked, head_or}
use Rattle.jcl_meaning.specs.States.{Done}
use Rattle.request_core.specs.Requests.{growth_asked}
use Rattle.session_input.specs.declared.event.Event.{Event}
use Rattle.world_meaning.specs.Choices.{AtAction, Choice}
use Rattle.world_meaning.specs.Turns.{Advanced}
use Rattle.world_meaning.specs.Worlds.{Admission, World}
use Rattle.turn_core.specs.Performing.{growth_by, growth_granted, primary_by}
use Rattle.sched_core.specs.Choosing.{IsChosenByVolumes}
use Rattle.sched_core.specs.Turning.{answers_of}
use Rattle.machine_laws.specs.Deciding.{ActionsAreTold, GrowthIsRefused, IsAction, PrimaryIsRefused, SetsArePlaced}
use Rattle.sched_core.specs.Systems.{Machine, Steps, denoting, meant_by, world_of}
use Rattle.machine_laws.proofs.ActionFacts.{ToldOf, at_step}
use Rattle.machine_laws.proofs.RefusedGrowth.{growth_refused}
use Rattle.machine_laws.proofs.RefusedPrimary.{primary_refused, volume_refused}

-- a primary that is refused is none of an assured job
unless_assured : (b primary asked_so : Bool) → primary ≡ cond b true asked_so → primary ≡ false → asked_so ≡ false
unless_assured true primary asked_so e refused = absurd (clash (sym refused ∙ e))
  where
    clash : false ≡ true → ⊥
    clash c = absurd cc
unless_assured false primary asked_so e refused = sym e ∙ refused

module _ (old : Machine) (e : Event) (lines : List Entry) (new : World) (s : Steps old e lines new) (job : ℕ) (cancel : Bool) (admission : Admission) (x : Advanced)
    (is : IsAction old e lines new s job cancel admission x) where
  known : ToldOf (AtAction job cancel admission x is.growth is.primary) lines
  known = subst (λ (c : Choice). ToldOf c lines) is.chosen (at_step (denoting old) (world_of old) (meant_by e) lines new s.0)

  chosen : IsChosenByVolumes (world_of old).config old.parts.store old.parts.date (AtAction job cancel admission x is.growth is.primary)
  chosen = subst (IsChosenByVolumes (world_of old).config old.parts.store old.parts.date) is.chosen s.1

  did : (a : Action) → x.action ≡ a → x.done ≡ act admission.fixed a x.before
  did a at = known.1.done ∙ ap (λ (b : Action). act admission.fixed b x.before) at

  asks_lines : (step : StepPlan) (move : Move) → x.action ≡ Ask step move → x.done ≡ asked step move x.before
  unfolding act
  asks_lines step move at = did (Ask step move) at

  growth_is : (step : StepPlan) (move : Move) → x.action ≡ Ask step move →
      is.growth ≡ growth_granted (answers_of job old.parts.store).growth (growth_asked cancel step move x.before.own x.before.store)
  growth_is step move at =
      chosen.growth_answered ∙ ap (λ (a : Action). growth_by (answers_of job old.parts.store).growth cancel a x.before.store x.before.own) at

  primary_is : (a : Action) → x.action ≡ a → is.primary ≡ false → primary_by (answers_of job old.parts.store).new admission.fixed a x.before.store x.before.own ≡ false
  primary_is a at refused =
      sym (by_action at)
      ∙ unless_assured admission.assured is.primary (primary_by (answers_of job old.parts.store).new admission.fixed x.action x.before.store x.before.own)
      chosen.primary_answered refused
    where
      by_action : x.action ≡ a → primary_by (answers_of job old.parts.store).new admission.fixed x.action x.before.store x.before.own
          ≡ primary_by (answers_of job old.parts.store).new admission.fixed a x.before.store x.before.own
      by_action at = ap (λ (b : Action). primary_by (answers_of job old.parts.store).new admission.fixed b x.before.store x.before.own) at

pub actions_are_told : ActionsAreTold
actions_are_told old e lines new s job cancel admission x is = (known old e lines new s job cancel admission x is).0

pub growth_is_refused : GrowthIsRefused
growth_is_refused old e lines new s job cancel admission x step move is at told =
    let facts = (known old e lines new s job cancel admission x is).1 in
    let asks : x.done ≡ asked step move x.before = asks_lines old e lines new s job cancel admission x is step move at in
    let r = growth_refused step move x.before (ap (λ (d : Done). d.lines) (sym asks) ∙ told) in
    let asked_so : growth_asked cancel step move x.before.own x.before.store ≡ Some r.0 =
    subst (λ (b : Bool). growth_asked b step move x.before.own x.before.store ≡ Some r.0) facts.its_cancel r.1 in
    let no : is.growth ≡ false = ap (head_or true) (sym facts.grants) ∙ r.2 in (
      r.0,
      asked_so,
      ap (growth_granted (answers_of job old.parts.store).growth) (sym asked_so)
          ∙ sym (growth_is old e lines new s job cancel admission x is step move at) ∙ no,
    )

pub primary_is_refused : PrimaryIsRefused
primary_is_refused old e lines new s job cancel admission x n dd d p key backs is at kind means told =
    let facts = (known old e lines new s job cancel admission x is).1 in
    let does : x.done ≡ act admission.fixed (Take n dd d) x.before = did old e lines new s job cancel admission x is (Take n dd d) at in
    let r = primary_refused admission.fixed n dd d p key x.before backs kind means (ap (λ (z : Done). z.lines) (sym does) ∙ told) in
    let no : is.primary ≡ false = sym facts.its_primary ∙ r.1 in
    volume_refused (answers_of job old.parts.store).new admission.fixed n dd d p key x.before kind means r.0
    (primary_is old e lines new s job cancel admission x is (Take n dd d) at no)

pub sets_are_placed : SetsArePlaced
sets_are_placed old e lines new s job plan places told is =
    (subst (IsChosenByVolumes (world_of old).config old.parts.store old.parts.date) is s.1).by_room
