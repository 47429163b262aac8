-- Behind a turn at which a job is answered: the same lines and volumes, or the answers part at a RISK.
use Rattle.std.proofs.Common.{◌≡◌, ◌⊎◌, inl, inr, ℕ, true, false, List, Option, sym, ap, subst, ◌∙◌}
use Rattle.std.proofs.lemmas.Bool.{cases_Bool}
use Rattle.plain.specs.Lists.{Differ}
use Rattle.jcl_plan.specs.declared.entry.Entry.{Entry}
use Rattle.jcl_plan.specs.declared.entry.JobLine.{JobLine}
use Rattle.jcl_plan.specs.declared.plan.JobPlan.{JobPlan}
use Rattle.jcl_meaning.specs.declared.state.Place.{Place}
use Rattle.jcl_meaning.specs.States.{Fixed}
use Rattle.path_meaning.specs.Verdicts.{AreRising, IsNeverTwo}
use Rattle.path_laws.specs.OneAnswer.{IsOneAnswer}
use Rattle.world_meaning.specs.Admissions.{AreKept, Answered, explained, fixed_at}
use Rattle.world_meaning.specs.Choices.{Choice}
use Rattle.world_meaning.specs.Lenses.{seen}
use Rattle.world_meaning.specs.Records.{IsQueueLayout}
use Rattle.world_meaning.specs.Tracks.{kept_without}
use Rattle.world_meaning.specs.Transitions.{told_with}
use Rattle.world_meaning.specs.Worlds.{Kept, Running, Shared, World}
use Rattle.shared_core.specs.LaidOut.{VolumesAreLaidOut}
use Rattle.shared_core.specs.Shown.{world_store_of}
use Rattle.shared_core.specs.Tracks.{kept_shown}
use Rattle.shared_core.specs.declared.store.SharedStore.{SharedStore}
use Rattle.place_core.specs.Keepings.{kept_in}
use Rattle.place_core.specs.Placings.{serials_of}
use Rattle.open_laws.specs.Open.{SamenessIsKept}
use Rattle.event_laws.specs.Named.{AsksAt, IsAnsweredAt}
use Rattle.keep_laws.specs.Keeping.{IsNextOf, KeepingIsDecided, begins_assured}
use Rattle.sched_core.specs.Choosing.{IsAdmittedByVolumes, IsChosenByVolumes, lines_answered}
use Rattle.machine_laws.specs.Alike.{PartAtRisk}
use Rattle.machine_laws.proofs.Answering.{IsOtherRisk, answers_meet, parts}
use Rattle.machine_laws.proofs.Settled.{IsAssured, assured_so, settled_alike}
use Rattle.machine_laws.proofs.Sides.{IsSameOutside, sides_alike}

-- the same lines, and the same machine outside of the volumes; which are the same too where a job is assured
pub record IsSameAnswered (told : List JobLine) (lines more : List Entry) (one other : World) (store after after_too : SharedStore) : Type 0 where
  pub lines_so : lines ≡ more
  pub outside : IsSameOutside one other
  pub volumes_so : begins_assured told ≡ true → after_too ≡ after
  pub kept_so : begins_assured told ≡ false → other.shared.kept ≡ one.shared.kept

module _ (sameness : SamenessIsKept) (never : IsNeverTwo) (only : IsOneAnswer) (keeping : KeepingIsDecided) (old : World)
    (own : IsQueueLayout old.config.layout) (at : AsksAt old) (lines more : List Entry) (one other : World) (choice choice_too : Choice)
    (a : IsAnsweredAt old at lines one choice) (b : IsAnsweredAt old at more other choice_too) (store after after_too : SharedStore)
    (shown : old.shared.store ≡ world_store_of store) (kept_now : old.shared.kept ≡ kept_shown store.volumes)
    (by_volumes : IsChosenByVolumes old.config store old.shared.date choice)
    (by_volumes_too : IsChosenByVolumes old.config store old.shared.date choice_too) where
  abbrev job : ℕ
  job = at.running.job

  abbrev plan : JobPlan
  plan = at.plan

  abbrev Chosen : Choice → Type 0
  Chosen = IsChosenByVolumes old.config store old.shared.date

  x : IsAdmittedByVolumes old.config store old.shared.date job plan a.admits.places a.told
  x = subst Chosen a.chosen by_volumes

  y : IsAdmittedByVolumes old.config store old.shared.date job plan b.admits.places b.told
  y = subst Chosen b.chosen by_volumes_too

  places : b.admits.places ≡ a.admits.places
  places = y.by_room ∙ sym x.by_room

  abbrev fixed : Fixed
  fixed = fixed_at old.config old.shared job plan a.admits.places

  -- the other answer with the places of the first
  moved : b.told ≡ a.told → Answered old.config old.shared at.running plan fixed a.told b.shared b.runs
  moved same =
      subst (λ (t : List JobLine). Answered old.config old.shared at.running plan fixed t b.shared b.runs) same
      (subst (λ (ps : List Place). Answered old.config old.shared at.running plan (fixed_at old.config old.shared job plan ps) b.told b.shared b.runs) places
      b.admits.answers)

  same_lines : b.told ≡ a.told → lines ≡ more
  same_lines same =
      a.lines_so
      ∙ sym (λ i. told_with job (same i)
      (explained old.config.explains (fixed_at old.config old.shared job plan (places i)) plan (seen job old.shared.store) (same i)))
      ∙ sym b.lines_so

  -- where no job is assured
  unassured : b.told ≡ a.told → begins_assured a.told ≡ false → IsSameAnswered a.told lines more one other store after after_too
  unassured same none =
      let is = settled_alike old.config old.shared at.running plan fixed a.told a.shared b.shared a.runs b.runs a.admits.answers (moved same) none in
      record {
        lines_so = same_lines same;
        outside = sides_alike sameness old own at lines more one other choice choice_too a b
            (is.0 ∙ sym (λ i. record a.shared { free = b.shared.free; kept = kept_is is.0 i })) is.1;
        volumes_so = λ some. let clash : true ≡ false = sym some ∙ none in absurd cc;
        kept_so = λ so. ap (λ (s : Shared). s.kept) b.reopened.rest ∙ kept_is is.0 ∙ sym (ap (λ (s : Shared). s.kept) a.reopened.rest);
      }
    where
      kept_is : b.shared ≡ record a.shared { free = b.shared.free } → b.shared.kept ≡ a.shared.kept
      kept_is is = ap (λ (s : Shared). s.kept) is

  -- where one is
  module _ (differ : Differ (serials_of store.volumes)) (laid : VolumesAreLaidOut store.volumes) (next : IsNextOf store after) (next_too : IsNextOf store after_too)
      (store_so : one.shared.store ≡ world_store_of after) (store_so_too : other.shared.store ≡ world_store_of after_too)
      (kept_one : one.shared.kept ≡ kept_shown after.volumes) (kept_other : other.shared.kept ≡ kept_shown after_too.volumes) where
    -- the volumes behind it
    behind_so : (side : World) (behind : SharedStore) (shared : Shared) (runs : Option Running) → IsNextOf store behind →
        side.shared.store ≡ world_store_of behind → side.shared.kept ≡ kept_shown behind.volumes → side.shared.store ≡ shared.store →
        side.shared.kept ≡ shared.kept → (s : IsAssured old.config old.shared at.running plan fixed a.told shared runs) →
        behind ≡ record store { volumes = (kept_in job plan s.made store.volumes).volumes }
    behind_so side behind shared runs follows shown_so kept_so its_store its_kept s =
        let kept_is : shared.kept ≡ kept_shown behind.volumes = sym its_kept ∙ kept_so in
        keeping job plan s.made store behind differ laid follows
        (subst (λ (vs : List (List ℕ)). AreRising vs s.made) (sym x.configured) s.are_made.rising)
        (sym shown_so ∙ its_store ∙ ap (λ (z : Shared). z.store) s.left ∙ shown)
        (subst (AreKept plan job s.made) kept_is s.are_kept)
        (ap (λ (k : List ℕ → List Kept). kept_without k job) (sym kept_is) ∙ s.without ∙ kept_now)

    assured_both : b.told ≡ a.told → begins_assured a.told ≡ true → IsSameAnswered a.told lines more one other store after after_too
    assured_both same some =
        let s = assured_so old.config old.shared at.running plan fixed a.told a.shared a.runs a.admits.answers some in
        let t = assured_so old.config old.shared at.running plan fixed a.told b.shared b.runs (moved same) some in
        record {
          lines_so = same_lines same;
          outside = sides_alike sameness old own at lines more one other choice choice_too a b
              (t.left ∙ sym (λ i. record (s.left i) { free = b.shared.free; kept = b.shared.kept })) (t.goes ∙ sym s.goes);
          kept_so = λ none. let clash : true ≡ false = sym some ∙ none in absurd cc;
          volumes_so = λ is.
              behind_so other after_too b.shared b.runs next_too store_so_too kept_other
              (ap (λ (z : Shared). z.store) b.reopened.rest) (ap (λ (z : Shared). z.kept) b.reopened.rest) t
              ∙ ap (λ (ps : List Place). record store { volumes = (kept_in job plan ps store.volumes).volumes })
              (only.places fixed plan (seen job old.shared.store) t.made s.made t.are_made s.are_made)
              ∙ sym (behind_so one after a.shared a.runs next store_so kept_one
              (ap (λ (z : Shared). z.store) a.reopened.rest) (ap (λ (z : Shared). z.kept) a.reopened.rest) s);
        }

    -- what is told is the same, or the answers part
    pub both_answered : IsSameAnswered a.told lines more one other store after after_too ⊎ PartAtRisk lines more
    both_answered = by_answers (answers_meet never only store old.config.programs old.config.most_views job plan _ x.answer y.answer x.told y.told)
      where
        by_answers : (y.answer ≡ x.answer) ⊎ IsOtherRisk x.answer y.answer → IsSameAnswered a.told lines more one other store after after_too ⊎ PartAtRisk lines more
        by_answers (inl is) =
            let same : b.told ≡ a.told = y.answered ∙ ap (lines_answered old.config.refuses) is ∙ sym x.answered in
            elim (cases_Bool (begins_assured a.told)) [
              | inl some ↦ inl (assured_both same some)
              | inr none ↦ inl (unassured same none)
            ]
        by_answers (inr r) = inr (parts old.config.refuses job x.answer y.answer a.told b.told _ _ lines more r x.answered y.answered a.lines_so b.lines_so)
