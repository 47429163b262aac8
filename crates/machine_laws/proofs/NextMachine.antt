-- From two machines that are alike an event leads to two that are alike.
use Rattle.std.proofs.Common.{◌≡◌, ◌⊎◌, inl, inr, ◌≤◌, ℕ, List, [], ◌∷◌, arith, refl, sym, ap, subst, ◌∙◌}
use Rattle.std.proofs.lemmas.Bool.{cases_Bool}
use Rattle.plain.specs.Lists.{Differ}
use Rattle.jcl_plan.specs.declared.entry.Entry.{Entry}
use Rattle.jcl_plan.specs.declared.entry.Entry.TheVariants as entry
use Rattle.jcl_plan.specs.declared.fault.Cause.TheVariants.{A}
use Rattle.jcl_plan.specs.declared.fault.EventFault.TheVariants.{PastLimit}
use Rattle.jcl_job.specs.Jobs.{job_of}
use Rattle.machine_meaning.specs.declared.machine.TheConstants.{MOST_EVENTS}
use Rattle.path_meaning.specs.Verdicts.{IsNeverTwo}
use Rattle.path_laws.specs.OneAnswer.{IsOneAnswer}
use Rattle.turn_core.specs.Performing.{StoreAnswers}
use Rattle.world_meaning.specs.Choices.{AtAction, AtAdmission, Choice, Closed, choice_of}
use Rattle.world_meaning.specs.Readings.{Denoting}
use Rattle.world_meaning.specs.Transitions.{Transition, past, taken}
use Rattle.world_meaning.specs.Worlds.{Config, World, counted}
use Rattle.law_core.specs.Soundness.{IsSound}
use Rattle.shared_core.specs.declared.store.SharedStore.{SharedStore}
use Rattle.open_laws.specs.Open.{IsSameButOpen, SamenessIsKept}
use Rattle.alike_laws.specs.Alike.{EventsGoAlike}
use Rattle.turn_laws.specs.Decided.{IsDecidedBy}
use Rattle.event_laws.specs.Decided.{EventsAreDecided, IsSameEvent}
use Rattle.event_laws.specs.Named.{AnswersMeet, BothAnswer}
use Rattle.place_core.specs.Placings.{serials_of}
use Rattle.keep_laws.specs.Extents.{ExtentsFollow}
use Rattle.keep_laws.specs.Keeping.{AssuresNone, EventsKeepNoMore, IsNextOf, KeepingIsDecided, NextOfIsDecided, begins_assured}
use Rattle.session_input.specs.declared.event.Event.{Event}
use Rattle.sched_core.specs.Choosing.{IsChosenByVolumes}
use Rattle.sched_core.specs.Turning.{answers_of}
use Rattle.sched_core.specs.Systems.{IsNext, IsWhole, Machine, Steps, denoting, meant_by, world_of}
use Rattle.machine_laws.specs.Alike.{AreAlike, NextIsDecided, PartAtRisk}
use Rattle.machine_laws.proofs.Admitted.{both_answered}
use Rattle.machine_laws.proofs.Reaching.{Reaches, reach, stays, there}
use Rattle.machine_laws.proofs.Sides.{IsSameOutside, same_inside}

-- a choice at which no job is answered
abbrev IsPlain : Choice → Type 0
IsPlain Closed = Unit {0}
IsPlain (AtAdmission job plan places lines) = ⊥
IsPlain (AtAction job cancel a x growth primary) = Unit {0}

plain_keeps : (c : Choice) → IsPlain c → AssuresNone c
plain_keeps Closed h = tt
plain_keeps (AtAdmission job plan places lines) h = absurd h
plain_keeps (AtAction job cancel a x growth primary) h = tt

abbrev answered_by : SharedStore → ℕ → StoreAnswers
answered_by store job = answers_of job store

plain_decided : (config : Config) (store : SharedStore) (date : ℕ) (c : Choice) → IsPlain c → IsChosenByVolumes config store date c →
    IsDecidedBy (answered_by store) c
plain_decided config store date Closed h by = tt
plain_decided config store date (AtAdmission job plan places lines) h by = absurd h
plain_decided config store date (AtAction job cancel a x growth primary) h by =
    record { growth_answered = by.growth_answered; primary_answered = by.primary_answered }

record Laws : Type 0 where
  go : EventsGoAlike
  decided : EventsAreDecided
  meet : AnswersMeet
  never : IsNeverTwo
  only : IsOneAnswer
  keeping : KeepingIsDecided
  next_of : NextOfIsDecided
  no_more : EventsKeepNoMore
  sameness : SamenessIsKept

module _ (law : Laws) (old beside new newer : Machine) (e : Event) (lines more : List Entry) (sound : IsSound (world_of old))
    (differ : Differ old.config.volumes) (whole : IsWhole old) (alike : AreAlike old beside) (step : Steps old e lines (world_of new)) (next : IsNext old new)
    (step_too : Steps beside e more (world_of newer)) (next_too : IsNext beside newer) where
  abbrev w : World
  w = world_of old

  abbrev store : SharedStore
  store = old.parts.store

  abbrev Done : Type 0
  Done = ((lines ≡ more) × AreAlike new newer) ⊎ PartAtRisk lines more

  abbrev Chosen : Choice → Type 0
  Chosen = IsChosenByVolumes w.config store w.shared.date

  -- what the machine beside has in common
  chosen_too : Chosen (choice_of step_too.0)
  chosen_too =
      subst (λ (c : Config). IsChosenByVolumes c store w.shared.date (choice_of step_too.0)) alike.fixed.config
      (subst (λ (s : SharedStore). IsChosenByVolumes beside.config s w.shared.date (choice_of step_too.0)) alike.store
      (subst (λ (day : ℕ). IsChosenByVolumes beside.config beside.parts.store day (choice_of step_too.0))
      (ap (λ (x : World). x.shared.date) alike.world.rest) step_too.1))

  reaches : Reaches (denoting old) w (meant_by e) more (world_of newer) (choice_of step_too.0)
  reaches =
      subst (λ (d : Denoting). Reaches d w (meant_by e) more (world_of newer) (choice_of step_too.0))
      (λ i. job_of (alike.fixed.unit_names i) (alike.fixed.library i))
      (reach law.sameness (denoting beside) w sound.layout (meant_by e) more (world_of newer) (choice_of step_too.0)
      (law.go (denoting beside) w (world_of beside) (world_of newer) (meant_by e) more sound.layout alike.world step_too.0))

  -- the stores behind
  serials_differ : Differ (serials_of store.volumes)
  serials_differ = subst Differ (sym whole.serials) differ

  next_store : IsNextOf store new.parts.store
  next_store = record {
    serials = next.whole.serials ∙ ap (λ (c : Config). c.volumes) next.fixed.config ∙ sym whole.serials;
    extents = next.extents;
    laid_out = next.whole.laid_out;
  }

  next_store_too : IsNextOf store newer.parts.store
  next_store_too = record {
    serials = next_too.whole.serials ∙ ap (λ (c : Config). c.volumes) (next_too.fixed.config ∙ alike.fixed.config) ∙ sym whole.serials;
    extents = subst (λ (s : SharedStore). ExtentsFollow s newer.parts.store) alike.store next_too.extents;
    laid_out = next_too.whole.laid_out;
  }

  done : lines ≡ more → newer.parts.store ≡ new.parts.store → IsSameOutside (world_of new) (world_of newer) → Done
  done same stores outside = inl (
    same,
    record {
      store = stores;
      fixed = record {
        config = next_too.fixed.config ∙ alike.fixed.config ∙ sym next.fixed.config;
        unit_names = next_too.fixed.unit_names ∙ alike.fixed.unit_names ∙ sym next.fixed.unit_names;
        library = next_too.fixed.library ∙ alike.fixed.library ∙ sym next.fixed.library;
      };
      world = same_inside new newer stores outside;
    },
  )

  -- where no job is assured they are the same by what is shown of them
  stores_so : AssuresNone (choice_of step.0) → IsSameOutside (world_of new) (world_of newer) → (world_of newer).shared.kept ≡ (world_of new).shared.kept →
      newer.parts.store ≡ new.parts.store
  stores_so none outside kept =
      sym (law.next_of store new.parts.store newer.parts.store serials_differ whole.laid_out next_store next_store_too
      (law.no_more (denoting old) w (world_of new) (meant_by e) lines step.0 none) (sym (ap (λ (x : World). x.shared.store) outside.rest)) (sym kept))

  unkept : lines ≡ more → AssuresNone (choice_of step.0) → IsSameOutside (world_of new) (world_of newer) →
      (world_of newer).shared.kept ≡ (world_of new).shared.kept → Done
  unkept same none outside kept = done same (stores_so none outside kept) outside

  -- past the last event
  past_both : MOST_EVENTS ≤ w.events → more ≡ entry.Refused (A PastLimit) ∷ [] → IsSameButOpen w (world_of newer) → Done
  past_both many told same = by step.0 refl
    where
      by : (t : Transition (denoting old) w (meant_by e) lines (world_of new)) → step.0 ≡ t → Done
      by (past many_too told_too is) so =
          let here : IsSameButOpen (world_of new) (world_of newer) = subst (λ (x : World). IsSameButOpen x (world_of newer)) (sym is) same in
          let kept : (world_of newer).shared.kept ≡ (world_of new).shared.kept = ap (λ (x : World). x.shared.kept) here.rest in
          let free : (world_of newer).shared.free ≡ (world_of new).shared.free = ap (λ (x : World). x.shared.free) here.rest in
          unkept (told_too ∙ sym told)
          (subst (λ (t : Transition (denoting old) w (meant_by e) lines (world_of new)). AssuresNone (choice_of t)) (sym so) tt)
          (record {
            records = here.records;
            rest = here.rest ∙ sym (λ i. record (world_of new) {
              shared = record (world_of new).shared { records = (world_of newer).shared.records; free = free i; kept = kept i };
            });
          }) kept
      by (taken few h) so = absurd (omega arith)

  module _ (u : Transition (denoting old) w (meant_by e) more (world_of newer)) (by_volumes : Chosen (choice_of u)) where
    -- no job is answered
    plain_both : IsPlain (choice_of step.0) → IsPlain (choice_of u) → Done
    plain_both p q = behind_both
        (law.decided (denoting old) (answered_by store) w (world_of new) (world_of newer) (meant_by e) lines more sound next.whole.records next_too.whole.records
        step.0 u (plain_decided w.config store w.shared.date (choice_of step.0) p step.1) (plain_decided w.config store w.shared.date (choice_of u) q by_volumes))
      where
        behind_both : IsSameEvent lines more (world_of new) (world_of newer) → Done
        behind_both s =
            let kept : (world_of newer).shared.kept ≡ (world_of new).shared.kept = ap (λ (x : World). x.shared.kept) s.alike.rest in
            unkept (sym s.lines) (plain_keeps (choice_of step.0) p)
            (record {
              records = s.alike.records;
              rest = s.alike.rest ∙ sym (λ i. record (world_of new) {
                shared = record (world_of new).shared {
                  records = (world_of newer).shared.records;
                  free = (world_of newer).shared.free;
                  kept = kept i;
                };
              });
            }) kept

    -- a job is
    answered_both : BothAnswer (counted w) lines more (world_of new) (world_of newer) (choice_of step.0) (choice_of u) → Done
    answered_both b =
        elim (both_answered law.sameness law.never law.only law.keeping (counted w) sound.layout b.at lines more (world_of new) (world_of newer)
        (choice_of step.0) (choice_of u) b.first b.second store new.parts.store newer.parts.store refl refl step.1 by_volumes serials_differ whole.laid_out
        next_store next_store_too refl refl refl refl) [
          | inl same ↦ elim (cases_Bool (begins_assured b.first.told)) [
            | inl some ↦ done same.lines_so (same.volumes_so some) same.outside
            | inr none ↦ unkept same.lines_so (subst AssuresNone (sym b.first.chosen) none) same.outside (same.kept_so none)
          ]
          | inr risk ↦ inr risk
        ]

    by_choices : (c d : Choice) → choice_of step.0 ≡ c → choice_of u ≡ d → Done
    by_choices (AtAdmission job plan places told) d p q =
        answered_both (law.meet (denoting old) w (world_of new) (world_of newer) (meant_by e) lines more sound step.0 u job plan places told p)
    by_choices Closed (AtAdmission job plan places told) p q =
        let b = law.meet (denoting old) w (world_of newer) (world_of new) (meant_by e) more lines sound u step.0 job plan places told q in
        let clash : Closed ≡ AtAdmission b.at.running.job b.at.plan b.second.admits.places b.second.told = sym p ∙ b.second.chosen in absurd cc
    by_choices (AtAction j cancel a x growth primary) (AtAdmission job plan places told) p q =
        let b = law.meet (denoting old) w (world_of newer) (world_of new) (meant_by e) more lines sound u step.0 job plan places told q in
        let clash : AtAction j cancel a x growth primary ≡ AtAdmission b.at.running.job b.at.plan b.second.admits.places b.second.told =
        sym p ∙ b.second.chosen in absurd cc
    by_choices Closed Closed p q = plain_both (subst IsPlain (sym p) tt) (subst IsPlain (sym q) tt)
    by_choices Closed (AtAction j cancel a x growth primary) p q = plain_both (subst IsPlain (sym p) tt) (subst IsPlain (sym q) tt)
    by_choices (AtAction j cancel a x growth primary) Closed p q = plain_both (subst IsPlain (sym p) tt) (subst IsPlain (sym q) tt)
    by_choices (AtAction j cancel a x growth primary) (AtAction k cancels b y grows primaries) p q =
        plain_both (subst IsPlain (sym p) tt) (subst IsPlain (sym q) tt)

  next_decided : Done
  next_decided = by reaches
    where
      by : Reaches (denoting old) w (meant_by e) more (world_of newer) (choice_of step_too.0) → Done
      by (stays many told same closed) = past_both many told same
      by (there u chosen) = by_choices u (subst Chosen (sym chosen) chosen_too) (choice_of step.0) (choice_of u) refl refl

pub decides : EventsGoAlike → EventsAreDecided → AnswersMeet → IsNeverTwo → IsOneAnswer → KeepingIsDecided → NextOfIsDecided → EventsKeepNoMore →
    SamenessIsKept → NextIsDecided
decides go decided meet never only keeping next_of no_more sameness old beside new newer e lines more sound differ whole alike step next step_too next_too =
    next_decided (record {
      go = go;
      decided = decided;
      meet = meet;
      never = never;
      only = only;
      keeping = keeping;
      next_of = next_of;
      no_more = no_more;
      sameness = sameness;
    }) old beside new newer e lines more sound differ whole alike step next step_too next_too
