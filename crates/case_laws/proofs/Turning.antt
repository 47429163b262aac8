-- A case for a turn of a job, by how far its initiator is with it.
use Rattle.std.proofs.Common.{◌≡◌, ◌⊎◌, inl, inr, ℕ, Bool, true, false, List, [], ◌∷◌, Option, Some, None, All, length, refl, sym, ◌∙◌, subst}
use Rattle.jcl_plan.specs.declared.entry.JobLine.{JobLine}
use Rattle.jcl_plan.specs.declared.entry.JobLine.TheVariants as line
use Rattle.jcl_plan.specs.declared.plan.JobPlan.{JobPlan}
use Rattle.jcl_meaning.specs.declared.state.Place.{Place}
use Rattle.jcl_meaning.specs.Solo.{at_start, given}
use Rattle.jcl_meaning.specs.States.{Fixed}
use Rattle.jcl_meaning.specs.WellFormed.{IsWellFormedPlan}
use Rattle.part_laws.specs.Keeping.{HasSoundGroups}
use Rattle.part_laws.proofs.PlansFit.{start_fits}
use Rattle.path_meaning.specs.Paths.{IsSafe, Makes}
use Rattle.std.specs.List.{Contains}
use Rattle.enq_core.specs.declared.table.Blocked.{Blocked}
use Rattle.enq_core.specs.Holds.{IsFirstBlock, is_blocked}
use Rattle.cb_meaning.specs.Layouts.{HasOwnFields}
use Rattle.cb_meaning.specs.Readings.{plan_read}
use Rattle.cb_meaning.specs.Walks.{first_fault}
use Rattle.walk_laws.specs.WalkLaws.{AreRecords}
use Rattle.walk_laws.proofs.faultless.Whole.{faultless_denotes}
use Rattle.world_meaning.specs.Admissions.{MayFail, assured, fixed_at, no_space, refused, risk, risky}
use Rattle.world_meaning.specs.Holdings.{blocked, broken, held, read, wants_of}
use Rattle.world_meaning.specs.Lenses.{seen}
use Rattle.world_meaning.specs.Placements.{ArePlaces}
use Rattle.world_meaning.specs.Tracks.{kept_of}
use Rattle.world_meaning.specs.Transitions.{GoesOn}
use Rattle.world_meaning.specs.Worlds.{Config, Named, Running, Selected, Shared, Stage, Wanting}
use Rattle.world_meaning.proofs.Conserved.{conserved_same}
use Rattle.case_laws.proofs.Blocks.{free_or_blocked}
use Rattle.case_laws.proofs.Freed.{freed, released_conserves}
use Rattle.case_laws.proofs.KeptAlone.{without_none}
use Rattle.case_laws.proofs.Placing.{placed}
use Rattle.case_laws.proofs.Unmade.{in_none, no_places, none_kept}
use Rattle.law_core.proofs.Elements.{contains_first}
use Rattle.path_laws.specs.Deciding.{SomeFault}
use Rattle.path_laws.proofs.Deciding.{decided}
use Rattle.path_laws.proofs.Before.{stands_before}
use Rattle.path_laws.proofs.Making.{made_configured}
use Rattle.path_laws.proofs.Parts.{path_ends}
use Rattle.path_laws.proofs.PartsLeave.{part_leaves}
use Rattle.path_laws.proofs.PartsSee.{part_sees}

-- some lines, with what they leave to all jobs and to the initiator
abbrev pub WentOn : Config → Shared → Running → Stage → Type 0
WentOn c old r stage = (lines : List JobLine) × (new : Shared) × (runs : Option Running) × GoesOn c old r stage lines new runs

module _ (c : Config) (old : Shared) (r : Running) where
  by_names : (plan : JobPlan) →
      (All (λ want. is_blocked old.holds want ≡ false) (wants_of plan)) ⊎ ((by : Blocked) × IsFirstBlock old.holds (wants_of plan) by) →
      WentOn c old r (Wanting plan)
  by_names plan (inl free) = (_, _, _, held free refl refl refl)
  by_names plan (inr (by, b)) = (_, _, _, blocked by b refl refl refl)

  pub holds : (plan : JobPlan) → WentOn c old r (Wanting plan)
  holds plan = by_names plan (free_or_blocked old.holds (wants_of plan))

  by_fault : (first : ℕ) → HasOwnFields c.layout → AreRecords old.records → (fault : Option ℕ) →
      first_fault c.layout (length c.units) old.records r.job first ≡ fault → WentOn c old r (Selected first)
  by_fault first fields records (Some n) e = (_, _, _, broken n (freed old r.job) e refl refl (released_conserves c old r.job) refl)
  by_fault first fields records None e =
      let d = faultless_denotes c.layout (length c.units) old.records r.job first fields records e in
      let h : WentOn c old r (Wanting (plan_read c.layout old.records first)) = holds (plan_read c.layout old.records first) in
      (h.0, h.1, h.2, read (plan_read c.layout old.records first) d.0 d.1 h.3)

  pub reads_records : (first : ℕ) → HasOwnFields c.layout → AreRecords old.records → WentOn c old r (Selected first)
  reads_records first fields records = by_fault first fields records (first_fault c.layout (length c.units) old.records r.job first) refl

  -- A job that may fail runs with checks, or is refused.
  may_fail : (plan : JobPlan) (fixed : Fixed) (told : JobLine) (refuses : Bool) → c.refuses ≡ refuses →
      (lines : List JobLine) × (new : Shared) × (runs : Option Running) × MayFail c old r plan fixed told lines new runs
  may_fail plan fixed told false e = (_, _, _, risky e refl refl refl)
  may_fail plan fixed told true e = (_, _, _, refused (freed old r.job) e refl refl (released_conserves c old r.job) refl)

  -- Where a volume is configured the job may be told to wait for it.
  by_volume : (plan : JobPlan) (first : List ℕ) (more : List (List ℕ)) → c.volumes ≡ first ∷ more → WentOn c old r (Named plan)
  by_volume plan first more e =
      let p = placed c plan in
      let there : Contains c.volumes first = subst (λ (volumes : List (List ℕ)). Contains volumes first) (sym e) (contains_first first more) in
      (_, _, _, record { places = p.0; placed = p.1; answers = no_space first there refl refl refl })

  -- Where none is, a job makes no set: it is safe, or may fail.
  none_made : (plan : JobPlan) (fixed : Fixed) → c.volumes ≡ [] → fixed.volumes ≡ c.volumes → (p : Place) → Makes fixed plan (seen r.job old.store) p → ⊥
  none_made plan fixed none same p m =
      in_none p.serial (subst (λ (volumes : List (List ℕ)). Contains volumes p.serial) (same ∙ none)
      (made_configured plan fixed (at_start (seen r.job old.store) (given m.outcomes)) p m.made))

  by_answer : (plan : JobPlan) → c.volumes ≡ [] → ((serial : List ℕ) → kept_of r.job old.kept serial ≡ []) → (places : List Place) → ArePlaces c plan places →
      IsSafe (fixed_at c old r.job plan places) plan (seen r.job old.store) ⊎ SomeFault (fixed_at c old r.job plan places) plan (seen r.job old.store) →
      WentOn c old r (Named plan)
  by_answer plan none nothing places placed (inl safe) = (
    _,
    _,
    _,
    record {
      places = places;
      placed = placed;
      answers = assured [] old.kept old.free safe
          (no_places (fixed_at c old r.job plan places) plan (seen r.job old.store) (none_made plan (fixed_at c old r.job plan places) none refl))
          (none_kept plan r.job old.kept nothing) (without_none r.job old.kept nothing) refl refl (conserved_same old _ refl refl refl) refl;
    },
  )
  by_answer plan none nothing places placed (inr f) =
      let told = may_fail plan (fixed_at c old r.job plan places) (line.Risk f.fault f.step f.dd f.path) c.refuses refl in
      (told.0, told.1, told.2, record { places = places; placed = placed; answers = risk f.fault f.step f.dd f.path f.meets told.3 })

  by_volumes : (plan : JobPlan) → IsWellFormedPlan plan → HasSoundGroups (seen r.job old.store) →
      ((serial : List ℕ) → kept_of r.job old.kept serial ≡ []) → (volumes : List (List ℕ)) → c.volumes ≡ volumes → WentOn c old r (Named plan)
  by_volumes plan formed groups nothing (first ∷ more) e = by_volume plan first more e
  by_volumes plan formed groups nothing [] e =
      let p = placed c plan in
      by_answer plan e nothing p.0 p.1
      (decided part_sees (stands_before part_leaves) path_ends (fixed_at c old r.job plan p.0) plan (seen r.job old.store) refl (start_fits plan [] (seen r.job old.store) formed groups))

  -- nothing is kept for a job that is to be admitted
  pub admits : (plan : JobPlan) → IsWellFormedPlan plan → HasSoundGroups (seen r.job old.store) →
      ((serial : List ℕ) → kept_of r.job old.kept serial ≡ []) → WentOn c old r (Named plan)
  admits plan formed groups nothing = by_volumes plan formed groups nothing c.volumes refl
