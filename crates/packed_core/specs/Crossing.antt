-- A view led over a part.
use Rattle.std.specs.Prelude.{◌≡◌, ℕ, ◌+◌, List, ◌∷◌, Result, Some, drop, length, slice_get, slice_index_or}
use Rattle.jcl_plan.specs.declared.outcome.Fate.{Fate}
use Rattle.jcl_plan.specs.declared.outcome.Fate.TheVariants as fates
use Rattle.jcl_plan.specs.declared.plan.JobPlan.{JobPlan}
use Rattle.jcl_plan.specs.declared.plan.StepPlan.{StepPlan}
use Rattle.jcl_meaning.specs.States.{Fixed}
use Rattle.view_domain.specs.declared.crossed.Branch.{Branch}
use Rattle.view_domain.specs.declared.crossed.Crossed.{Crossed}
use Rattle.view_domain.specs.declared.crossed.Stop.{Stop}
use Rattle.view_domain.specs.Crossings.{IsCrossed}
use Rattle.view_core.specs.declared.scene.Scene.{Scene}
use Rattle.view_core.specs.Bits.{bits_kept, fate_shown}
use Rattle.view_core.specs.Moves.{TellsByAbend, TellsByCode}
use Rattle.view_core.specs.PlainViews.{shown_so}
use Rattle.view_core.specs.Shows.{Shows}
use Rattle.packed_core.specs.Classes.{tests_before}
use Rattle.packed_core.specs.Moving.{all_shown, shown_among, told_shown}
use Rattle.packed_core.specs.Placed.{StandsIn}
use Rattle.packed_core.specs.Rooms.{room_at}
use Rattle.packed_core.specs.Views.{Views}
use Rattle.packed_core.specs.Words.{AreWords, bit, met_of}

-- the step of a part
abbrev pub IsStep : JobPlan → ℕ → StepPlan → Type 0
IsStep plan k step = (later : List StepPlan) × (drop k plan.steps ≡ step ∷ later)

-- another scene's number, and the same bits
pub record IsRenumbered (row : List ℕ) (number : ℕ) (new : List ℕ) : Type 0 where
  pub size : length new ≡ length row
  pub first : slice_index_or new 0 0 ≡ number
  pub bits : (i : ℕ) → bit new i ≡ bit row i
  pub within : AreWords row → AreWords new

abbrev pub HasSameBits : List ℕ → List ℕ → Type 0
HasSameBits row new = (i : ℕ) → bit new i ≡ bit row i

-- what a row before a part is made of, where it names this scene
abbrev pub row_shows : JobPlan → ℕ → Scene → List ℕ → Shows
row_shows plan k scene row = record { scene = scene; abended = bit row 0; met = met_of (room_at plan k) row }

abbrev pub NamesScene : Views → List ℕ → Scene → Type 0
NamesScene views row scene = slice_get views.scenes (slice_index_or row 0 0) ≡ Some scene

-- a row has the bits of this view behind the part's step, which meets no test
pub record IsPassed (plan : JobPlan) (step : StepPlan) (k : ℕ) (v : Shows) (row : List ℕ) : Type 0 where
  pub abended : bit row 0 ≡ v.abended
  pub met : met_of (room_at plan (k + 1)) row ≡ bits_kept (length plan.tests.items) (length step.tests.items) v.met

-- the number of a scene that shows the same as the one that a step leaves, or the fault that it meets
abbrev pub IsPlaced : JobPlan → ℕ → Views → Result Scene Stop → Result ℕ Stop → Type 0
IsPlaced plan date views end number = StandsIn plan date views.part views.scenes end number

-- what is told of a step that left this scene or met this fault, where a row has the bits
abbrev pub LeadsByCode : {V : Type 0} → (V → List ℕ) → JobPlan → ℕ → Views → List ℕ → Result Scene Stop → Branch V → Type 0
LeadsByCode row_of plan date behind row left told =
    TellsByCode (λ v. shown_among plan date behind (row_of v)) (told_shown plan date behind.part) (all_shown plan date behind)
    behind.part (tests_before plan behind.part) (met_of (room_at plan behind.part) row) (bit row 0) left told

abbrev pub LeadsByAbend : {V : Type 0} → (V → List ℕ) → JobPlan → ℕ → Views → List ℕ → Result Scene Stop → Branch V → Type 0
LeadsByAbend row_of plan date behind row left told =
    TellsByAbend (λ v. shown_among plan date behind (row_of v)) (told_shown plan date behind.part) (all_shown plan date behind)
    (met_of (room_at plan behind.part) row) left told

-- what is told by a code of a step that left a scene which stands there under this number, or met this fault
abbrev pub LeadsPlacedByCode : {V : Type 0} → (V → List ℕ) → JobPlan → ℕ → Views → List ℕ → Result ℕ Stop → Branch V → Type 0
LeadsPlacedByCode row_of plan date behind row end told = (left : Result Scene Stop) → IsPlaced plan date behind left end →
    LeadsByCode row_of plan date behind row left told

-- the same by an ABEND
abbrev pub LeadsPlacedByAbend : {V : Type 0} → (V → List ℕ) → JobPlan → ℕ → Views → List ℕ → Result ℕ Stop → Branch V → Type 0
LeadsPlacedByAbend row_of plan date behind row end told = (left : Result Scene Stop) → IsPlaced plan date behind left end →
    LeadsByAbend row_of plan date behind row left told

-- where the part leads from a view
abbrev pub IsLedTo : {V : Type 0} → (V → List ℕ) → JobPlan → Fixed → ℕ → Shows → Views → Crossed V → Type 0
IsLedTo row_of plan fixed k v behind crossed =
    IsCrossed (λ w. shown_among plan fixed.date behind (row_of w)) plan fixed k (all_shown plan fixed.date behind) (shown_so plan fixed.date k v) crossed

-- where a part leads whose step runs, from each view of which this row has the bits behind the step
abbrev pub LeadsRunning : {V : Type 0} → (V → List ℕ) → JobPlan → Fixed → Views → StepPlan → List ℕ → Views → Crossed V → Type 0
LeadsRunning row_of plan fixed before step row behind crossed = (v : Shows) → NamesScene before row v.scene → IsPassed plan step before.part v row →
    fate_shown (length plan.tests.items) step v ≡ fates.Run → IsLedTo row_of plan fixed before.part v behind crossed

-- the same where its step has this fate
abbrev pub LeadsByFate : {V : Type 0} → (V → List ℕ) → JobPlan → Fixed → Views → Fate → List ℕ → Views → Crossed V → Type 0
LeadsByFate row_of plan fixed before fate row behind crossed = (step : StepPlan) → IsStep plan before.part step → (v : Shows) →
    NamesScene before row v.scene → IsPassed plan step before.part v row → fate ≡ fate_shown (length plan.tests.items) step v →
    IsLedTo row_of plan fixed before.part v behind crossed

-- where it leads from what a row before it is made of
abbrev pub LeadsFromRow : {V : Type 0} → (V → List ℕ) → JobPlan → Fixed → Views → List ℕ → Views → Crossed V → Type 0
LeadsFromRow row_of plan fixed before row behind crossed = (scene : Scene) → NamesScene before row scene →
    IsLedTo row_of plan fixed before.part (row_shows plan before.part scene row) behind crossed

-- the part is led over from the view that a row shows
abbrev pub IsRowCrossed : {V : Type 0} → (V → List ℕ) → JobPlan → Fixed → Views → List ℕ → Views → Crossed V → Type 0
IsRowCrossed row_of plan fixed before row behind =
    IsCrossed (λ w. shown_among plan fixed.date behind (row_of w)) plan fixed before.part (all_shown plan fixed.date behind)
    (shown_among plan fixed.date before row)
