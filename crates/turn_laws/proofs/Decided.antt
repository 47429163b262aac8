-- Two turns of a job from one machine, each with what the store grants, are one turn, but for the free tracks.
use Rattle.std.proofs.Common.{◌≡◌, ℕ, Bool, true, not, ◌&&◌, ◌||◌, cond, List, [], ◌∷◌, drop, Option, Some, None, refl, sym, ap, ◌∙◌}
use Rattle.std.proofs.lemmas.Bool.{both_ways}
use Rattle.jcl_plan.specs.declared.entry.JobLine.{JobLine}
use Rattle.jcl_plan.specs.declared.plan.JobPlan.{JobPlan}
use Rattle.jcl_meaning.specs.declared.state.Own.{Own}
use Rattle.jcl_meaning.specs.Acts.{act}
use Rattle.jcl_meaning.specs.Agendas.{Action, Over, agenda}
use Rattle.jcl_meaning.specs.Stores.{Store}
use Rattle.prog_core.specs.Operations.{has_operation, is_busy}
use Rattle.turn_core.specs.Performing.{StoreAnswers, growth_by, primary_by}
use Rattle.world_meaning.specs.Choices.{choice_of_advance}
use Rattle.world_meaning.specs.Holdings.{released}
use Rattle.world_meaning.specs.Lenses.{seen}
use Rattle.world_meaning.specs.Turns.{Advanced, Advances, acts, advanced, ends, has_cancel, is_over, is_result, must_wait, outcomes_due, shared_after, state_in, waits, with_output}
use Rattle.world_meaning.specs.Worlds.{Admission, Admitted, Config, Running, Shared, going_on}
use Rattle.turn_laws.specs.Decided.{IsDecidedBy, IsGrantedBy, IsSameTurn, TurnsAreDecided}
use Rattle.turn_laws.proofs.Alike.{acts_alike}
use Rattle.turn_laws.proofs.Ends.{jobs_end_with_over}
use Rattle.turn_laws.proofs.OneTurn.{IsOneTurn, one_turn, turn_at}

-- machines are the same but for the free tracks where what they equal is
but_free : (one other u v : Shared) → one ≡ u → other ≡ v → v ≡ record u { free = v.free } → other ≡ record one { free = other.free }
but_free one other u v p q is = q ∙ is ∙ sym (λ i. record (p i) { free = (q i).free })

module _ (c : Config) (grants : ℕ → StoreAnswers) (old : Shared) (r : Running) (plan : JobPlan) (a : Admission) (count : ℕ) (own : Own) where
  abbrev cancel : Bool
  cancel = has_cancel old.cancels r.job

  abbrev waiting : Advanced → Bool
  waiting x = must_wait old.operations r.job x

  abbrev turn_with : Action → Store → Own → ℕ → Bool → Bool → Advanced
  turn_with = turn_at c.programs plan.steps a.fixed cancel

  abbrev ended : Advanced → (List ℕ → ℕ) → Shared
  ended x free = released c (with_output (shared_after old r.job x free) r plan x) r.job free

  module _ (growth primary other another : Bool) (x y : Advanced) (e : advanced c old r.job plan a count own growth primary ≡ Some x)
      (f : advanced c old r.job plan a count own other another ≡ Some y) where
    one : IsOneTurn c.programs plan.steps a.fixed cancel growth primary other another x y
    one = one_turn c.programs plan.steps a.fixed cancel growth primary other another (drop count (agenda plan c.programs)) (seen r.job old.store) own
        (state_in (seen r.job old.store) own).answers (state_in (seen r.job old.store) own).answers count x y e f

    same_wait : waiting x ≡ waiting y
    same_wait =
        let b = acts_alike one.action one.own a.fixed one.store (outcomes_due c.programs plan.steps one.action) (cond cancel (Some one.own.lines) None ∷ [])
        growth primary other another in
        ap waiting one.first
        ∙ (λ i. is_busy old.operations (b.needs i) || (is_result one.action && not (b.stops i) && has_operation old.operations r.job))
        ∙ sym (ap waiting one.second)

    same_place : is_over c plan x ≡ is_over c plan y
    same_place = ap (is_over c plan) one.first ∙ sym (ap (is_over c plan) one.second)

    -- what the store grants is the same, and so the turn is
    same_grants : IsGrantedBy (grants r.job) cancel a x growth primary → IsGrantedBy (grants r.job) cancel a y other another → x ≡ y
    same_grants g h = one.first ∙ (λ i. turn_with one.action one.store one.own one.count (grown i) (made i)) ∙ sym one.second
      where
        growth_of : Advanced → Bool
        growth_of z = growth_by (grants r.job).growth cancel z.action z.before.store z.before.own

        primary_of : Advanced → Bool
        primary_of z = cond a.assured true (primary_by (grants r.job).new a.fixed z.action z.before.store z.before.own)

        grown : growth ≡ other
        grown = g.growth_answered ∙ ap growth_of one.first ∙ sym (ap growth_of one.second) ∙ sym h.growth_answered

        made : primary ≡ another
        made = g.primary_answered ∙ ap primary_of one.first ∙ sym (ap primary_of one.second) ∙ sym h.primary_answered

    -- the job's end looks at no grant
    same_end : (free : List ℕ → ℕ) → x.action ≡ Over → (x.done.lines ≡ y.done.lines) × (ended x free ≡ ended y free)
    unfolding act
    same_end free is =
        let at : one.action ≡ Over = sym (ap (λ (z : Advanced). z.action) one.first) ∙ is in
        let first : x ≡ turn_with Over one.store one.own one.count growth primary =
        one.first ∙ ap (λ (b : Action). turn_with b one.store one.own one.count growth primary) at in
        let second : y ≡ turn_with Over one.store one.own one.count other another =
        one.second ∙ ap (λ (b : Action). turn_with b one.store one.own one.count other another) at in (
          ap (λ (z : Advanced). z.done.lines) first ∙ sym (ap (λ (z : Advanced). z.done.lines) second),
          ap (λ (z : Advanced). ended z free) first ∙ sym (ap (λ (z : Advanced). ended z free) second),
        )

  same_turn : (lines more : List JobLine) (new after : Shared) (runs behind : Option Running) (g : Advances c old r plan a count own lines new runs)
      (h : Advances c old r plan a count own more after behind) → IsDecidedBy grants (choice_of_advance g) → IsDecidedBy grants (choice_of_advance h) →
      IsSameTurn lines more new after runs behind
  same_turn lines more new after runs behind (waits x gx px ex wx lx nx rx) (waits y gy py ey wy ly ny ry) g h =
      record { lines = ly ∙ sym lx; runs = ry ∙ sym rx; shared = but_free new after old old nx ny refl }
  same_turn lines more new after runs behind (waits x gx px ex wx lx nx rx) (acts y gy py fy ey ay wy oy ly ny cy ry) g h =
      absurd (both_ways (waiting x) (same_wait gx px gy py x y ex ey ∙ wy) wx)
  same_turn lines more new after runs behind (waits x gx px ex wx lx nx rx) (ends y gy py fy ey ay wy oy ly ny cy ry) g h =
      absurd (both_ways (waiting x) (same_wait gx px gy py x y ex ey ∙ wy) wx)
  same_turn lines more new after runs behind (acts x gx px fx ex ax wx ox lx nx cx rx) (waits y gy py ey wy ly ny ry) g h =
      absurd (both_ways (waiting x) wx (same_wait gx px gy py x y ex ey ∙ wy))
  same_turn lines more new after runs behind (acts x gx px fx ex ax wx ox lx nx cx rx) (acts y gy py fy ey ay wy oy ly ny cy ry) g h =
      let is : y ≡ x = sym (same_grants gx px gy py x y ex ey g h) in
      let told : more ≡ lines = ly ∙ ap (λ (z : Advanced). z.done.lines) is ∙ sym lx in
      record {
        lines = told;
        runs = ry ∙ (λ i. going_on r (told i) (Admitted plan a (is i).count (is i).done.state.own)) ∙ sym rx;
        shared = but_free new after (shared_after old r.job x fx) (shared_after old r.job y fy) nx ny (ap (λ (z : Advanced). shared_after old r.job z fy) is);
      }
  same_turn lines more new after runs behind (acts x gx px fx ex ax wx ox lx nx cx rx) (ends y gy py fy ey ay wy oy ly ny cy ry) g h =
      absurd (both_ways (is_over c plan x) ox (same_place gx px gy py x y ex ey ∙ oy))
  same_turn lines more new after runs behind (ends x gx px fx ex ax wx ox lx nx cx rx) (waits y gy py ey wy ly ny ry) g h =
      absurd (both_ways (waiting x) wx (same_wait gx px gy py x y ex ey ∙ wy))
  same_turn lines more new after runs behind (ends x gx px fx ex ax wx ox lx nx cx rx) (acts y gy py fy ey ay wy oy ly ny cy ry) g h =
      absurd (both_ways (is_over c plan x) (same_place gx px gy py x y ex ey ∙ oy) ox)
  same_turn lines more new after runs behind (ends x gx px fx ex ax wx ox lx nx cx rx) (ends y gy py fy ey ay wy oy ly ny cy ry) g h =
      let last : x.action ≡ Over = jobs_end_with_over c old r.job plan a count own gx px x ex ox in
      let alike = same_end gx px gy py x y ex ey fy last in
      record {
        lines = ly ∙ sym alike.0 ∙ sym lx;
        runs = ry ∙ sym rx;
        shared = but_free new after (ended x fx) (ended y fy) nx ny (sym alike.1);
      }

pub turns_are_decided : TurnsAreDecided
turns_are_decided c grants old r plan a count own lines more one other runs behind g h by by_too =
    same_turn c grants old r plan a count own lines more one other runs behind g h by by_too
