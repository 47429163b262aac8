-- A view led over a part, by what rows tell.
use Rattle.std.proofs.Common.{◌≡◌, ◌∷◌, ◌∙◌, ◌+◌, Global, ℕ, Bool, List, [], Option, Vec, ap, drop, get_or, length, map, subst, sym}
use Rattle.std.specs.Prelude.{Err, Ok, Result}
use Rattle.cond_core.specs.Classes.{AreClasses}
use Rattle.jcl_plan.specs.declared.outcome.Abend.TheVariants.{User}
use Rattle.jcl_plan.specs.declared.outcome.Fate.{Fate}
use Rattle.jcl_plan.specs.declared.outcome.Fate.TheVariants as fate
use Rattle.jcl_plan.specs.declared.outcome.Outcome.TheVariants as outcome
use Rattle.jcl_plan.specs.declared.plan.JobPlan.{JobPlan}
use Rattle.jcl_plan.specs.declared.plan.StepPlan.{StepPlan}
use Rattle.jcl_plan.specs.declared.plan.Test.{Test}
use Rattle.jcl_meaning.specs.declared.state.Place.{Place}
use Rattle.jcl_meaning.specs.States.{Fixed}
use Rattle.jcl_meaning.specs.Views.{View}
use Rattle.view_domain.specs.declared.crossed.Branch.{Branch}
use Rattle.view_domain.specs.declared.crossed.Branch.TheVariants as branch
use Rattle.view_domain.specs.declared.crossed.Crossed.TheVariants as crossed
use Rattle.view_domain.specs.declared.crossed.Move.{Move}
use Rattle.view_domain.specs.declared.crossed.Stop.{Stop}
use Rattle.view_core.specs.declared.scene.Scene.{Scene}
use Rattle.view_core.specs.Bits.{bits_kept, fate_shown, kept_tests, looking}
use Rattle.view_core.specs.Legs.{EndsJob, HasEnded, HasMade, HasStopped}
use Rattle.view_core.specs.Moves.{AreTold, TellsByAbend, TellsByCode, told_abend, told_code}
use Rattle.view_core.specs.PlainViews.{shown_parts}
use Rattle.view_core.specs.Shows.{Shows}
use Rattle.view_core.proofs.Leaving.{crossed_at_end, end_told}
use Rattle.view_core.proofs.Told.{crossed_ended, crossed_passed, crossed_refused}
use Rattle.packed_core.specs.Classes.{tests_before}
use Rattle.packed_core.specs.Crossing.{HasSameBits, IsLedTo, IsPassed, IsPlaced, LeadsByAbend, LeadsByCode}
use Rattle.packed_core.specs.Moving.{AreMovesByAbend, AreMovesByCode, all_shown, shown_among, told_shown}
use Rattle.packed_core.specs.Rooms.{room_at}
use Rattle.packed_core.specs.Scenes.{HasScene}
use Rattle.packed_core.specs.Views.{HasMoreScenes, Views}
use Rattle.packed_core.specs.Words.{bit, met_of}
use Rattle.packed_core.proofs.Passing.{after_is}
use Rattle.packed_core.proofs.Rows.{same_met}
use Rattle.packed_core.proofs.ShownRows.{scene_stays, shown_like}

-- an end keeps its place where scenes came behind the others
pub placed_still : (plan : JobPlan) (date : ℕ) (old new : Views) (end : Result Scene Stop) (number : Result ℕ Stop) → HasMoreScenes old new →
    IsPlaced plan date old end number → IsPlaced plan date new end number
placed_still plan date old new (Ok scene) (Ok n) more h =
    subst (λ (k : ℕ). HasScene plan date k new.scenes scene n) (sym more.part)
    (subst (λ (l : List Scene). HasScene plan date old.part l scene n) (sym more.scenes) (scene_stays plan date old.part old.scenes more.more scene n h))
placed_still plan date old new (Ok scene) (Err stop) more h = absurd h
placed_still plan date old new (Err stop) (Ok n) more h = absurd h
placed_still plan date old new (Err stop) (Err other) more h = h

-- what branches tell
module _ {V : Type 0} (row_of : V → List ℕ) (plan : JobPlan) (date : ℕ) (behind : Views) (row : List ℕ) where
  abbrev meaning : V → View
  meaning v = shown_among plan date behind (row_of v)

  abbrev met_in : List ℕ → List Bool
  met_in r = met_of (room_at plan behind.part) r

  pub code_stops : (left : Result Scene Stop) (stop : Stop) → IsPlaced plan date behind left (Err stop) →
      LeadsByCode row_of plan date behind row left (branch.Stops stop)
  code_stops (Ok scene) stop h = absurd h
  code_stops (Err other) stop h = h

  pub abend_stops : (left : Result Scene Stop) (stop : Stop) → IsPlaced plan date behind left (Err stop) →
      LeadsByAbend row_of plan date behind row left (branch.Stops stop)
  abend_stops (Ok scene) stop h = absurd h
  abend_stops (Err other) stop h = h

  -- by a row with the number and the same bits
  module _ (new : List ℕ) (same : HasSameBits row new) (n : ℕ) (first : get_or new 0 0 ≡ n) where
    names : (scene : Scene) → HasScene plan date behind.part behind.scenes scene n → HasScene plan date behind.part behind.scenes scene (get_or new 0 0)
    names scene h = subst (λ (m : ℕ). HasScene plan date behind.part behind.scenes scene m) (sym first) h

    met_so : met_in new ≡ met_in row
    met_so = same_met (room_at plan behind.part) new row (λ i above. same i)

    pub code_leads : (codes : List ℕ) (moves : Vec (Move V) Global) → AreClasses (looking behind.part (tests_before plan behind.part)) codes →
        AreMovesByCode row_of plan date behind new codes moves.items → (left : Result Scene Stop) → IsPlaced plan date behind left (Ok n) →
        LeadsByCode row_of plan date behind row left (branch.Leads moves)
    code_leads codes moves classes told (Err stop) h = absurd h
    code_leads codes moves classes told (Ok scene) h = (
      codes,
      classes,
      subst (λ (b : Bool). AreTold meaning (told_shown plan date behind.part) (all_shown plan date behind)
          (map (told_code behind.part (tests_before plan behind.part) (met_in row) b scene) codes) moves.items) (same 0)
          (subst (λ (met : List Bool). AreTold meaning (told_shown plan date behind.part) (all_shown plan date behind)
          (map (told_code behind.part (tests_before plan behind.part) met (bit new 0) scene) codes) moves.items) met_so
          (told scene (names scene h))),
    )

    pub abend_leads : (moves : Vec (Move V) Global) → AreMovesByAbend row_of plan date behind new moves.items → (left : Result Scene Stop) →
        IsPlaced plan date behind left (Ok n) → LeadsByAbend row_of plan date behind row left (branch.Leads moves)
    abend_leads moves told (Err stop) h = absurd h
    abend_leads moves told (Ok scene) h =
        subst (λ (met : List Bool). AreTold meaning (told_shown plan date behind.part) (all_shown plan date behind)
        (told_abend met scene ∷ []) moves.items) met_so
        (told scene (names scene h))

  -- a row with the same bits leads the same way
  pub abend_as : (new : List ℕ) → HasSameBits row new → (left : Result Scene Stop) (told : Branch V) → LeadsByAbend row_of plan date behind new left told →
      LeadsByAbend row_of plan date behind row left told
  abend_as new same left told h =
      subst (λ (met : List Bool). TellsByAbend meaning (told_shown plan date behind.part) (all_shown plan date behind) met left told)
      (same_met (room_at plan behind.part) new row (λ i above. same i)) h

-- a part of which a step is there
module _ {V : Type 0} (row_of : V → List ℕ) (plan : JobPlan) (fixed : Fixed) (k : ℕ) (step : StepPlan) (after : List StepPlan)
    (is : drop k plan.steps ≡ step ∷ after) (job_tests : fixed.job_tests ≡ plan.tests.items) (v : Shows) (behind : Views) (at : behind.part ≡ k + 1) where
  abbrev shows : V → View
  shows w = shown_among plan fixed.date behind (row_of w)

  abbrev there : List View
  there = all_shown plan fixed.date behind

  abbrev kept_bits : List Bool
  kept_bits = bits_kept (length plan.tests.items) (length step.tests.items) v.met

  pub led_refused : fate_shown (length plan.tests.items) step v ≡ fate.Run → (stop : Stop) → HasStopped fixed (k + 1) step v.scene v.abended stop →
      IsLedTo row_of plan fixed k v behind (crossed.Stops stop)
  led_refused runs stop h = crossed_refused shows plan fixed k step after is job_tests v runs stop there h

  module _ (row : List ℕ) (passed : IsPassed plan step k v row) where
    by_code_here : (end : Result Scene Stop) (b : Branch V) → LeadsByCode row_of plan fixed.date behind row end b →
        TellsByCode shows (told_shown plan fixed.date (k + 1)) there (k + 1) (kept_tests plan.tests.items after) kept_bits v.abended end b
    by_code_here end b h =
        subst (λ (tests : List Test). TellsByCode shows (told_shown plan fixed.date (k + 1)) there (k + 1) tests kept_bits v.abended end b)
        (ap (kept_tests plan.tests.items) (after_is plan k step after is))
        (subst (λ (abended : Bool). TellsByCode shows (told_shown plan fixed.date (k + 1)) there (k + 1) (tests_before plan (k + 1)) kept_bits abended end b)
        passed.abended
        (subst (λ (met : List Bool). TellsByCode shows (told_shown plan fixed.date (k + 1)) there (k + 1) (tests_before plan (k + 1)) met (bit row 0) end b)
        passed.met
        (subst (λ (n : ℕ). TellsByCode shows (told_shown plan fixed.date n) there n (tests_before plan n) (met_of (room_at plan n) row) (bit row 0) end b)
        at h)))

    by_abend_here : (end : Result Scene Stop) (b : Branch V) → LeadsByAbend row_of plan fixed.date behind row end b →
        TellsByAbend shows (told_shown plan fixed.date (k + 1)) there kept_bits end b
    by_abend_here end b h =
        subst (λ (met : List Bool). TellsByAbend shows (told_shown plan fixed.date (k + 1)) there met end b) passed.met
        (subst (λ (n : ℕ). TellsByAbend shows (told_shown plan fixed.date n) there (met_of (room_at plan n) row) end b) at h)

    pub led_ended : fate_shown (length plan.tests.items) step v ≡ fate.Run →
        (places : List Place) (end abend_end : Result Scene Stop) (by_code by_abend : Branch V) →
        HasMade fixed (k + 1) step v.scene v.abended places →
        HasEnded fixed (k + 1) step v.scene v.abended (outcome.Code 0) end →
        HasEnded fixed (k + 1) step v.scene v.abended (outcome.Abend (User 0)) abend_end →
        LeadsByCode row_of plan fixed.date behind row end by_code → LeadsByAbend row_of plan fixed.date behind row abend_end by_abend →
        IsLedTo row_of plan fixed k v behind (crossed.Runs places by_code by_abend)
    led_ended runs places end abend_end by_code by_abend made ended abend_ended code abend =
        crossed_ended shows plan fixed k step after is job_tests v runs places end abend_end by_code by_abend there made
        ended (by_code_here end by_code code) abend_ended (by_abend_here abend_end by_abend abend)

    pub led_passed : (f : Fate) (w : V) → f ≡ fate_shown (length plan.tests.items) step v → (f ≡ fate.Run → ⊥) → (n : ℕ) →
        HasScene plan fixed.date behind.part behind.scenes v.scene n → get_or (row_of w) 0 0 ≡ n → HasSameBits row (row_of w) →
        IsLedTo row_of plan fixed k v behind (crossed.Passes f w)
    led_passed f w tells idle n has first same =
        let met : met_of (room_at plan behind.part) (row_of w) ≡ kept_bits =
        same_met (room_at plan behind.part) (row_of w) row (λ i above. same i) ∙ ap (λ (m : ℕ). met_of (room_at plan m) row) at ∙ passed.met in
        let shown : shows w ≡ shown_parts plan fixed.date (k + 1) v.scene v.abended kept_bits =
        shown_like plan fixed.date behind.part behind.scenes (row_of w) v.scene v.abended kept_bits (same 0 ∙ passed.abended) met n first has
        ∙ ap (λ (m : ℕ). shown_parts plan fixed.date m v.scene v.abended kept_bits) at in
        crossed_passed shows plan fixed k step after is job_tests v f w tells (λ runs. idle (tells ∙ runs)) shown there

-- the job's end
pub led_end : {V : Type 0} (row_of : V → List ℕ) (plan : JobPlan) (fixed : Fixed) (k : ℕ) → drop k plan.steps ≡ [] → (v : Shows) (behind : Views)
    (stop : Option Stop) → EndsJob fixed plan v.scene v.abended stop → IsLedTo row_of plan fixed k v behind (end_told stop)
led_end row_of plan fixed k none v behind stop h =
    crossed_at_end (λ w. shown_among plan fixed.date behind (row_of w)) plan fixed k none v stop h (all_shown plan fixed.date behind)
