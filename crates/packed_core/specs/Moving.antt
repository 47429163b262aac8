-- What is told of rows.
use Rattle.std.specs.Prelude.{◌≡◌, ℕ, Bool, true, Contains, List, [], ◌∷◌, Option, None, Some, map, slice_index_or}
use Rattle.jcl_plan.specs.declared.outcome.Outcome.{Outcome}
use Rattle.jcl_plan.specs.declared.plan.JobPlan.{JobPlan}
use Rattle.jcl_meaning.specs.Views.{View}
use Rattle.view_domain.specs.declared.crossed.Move.{Move}
use Rattle.view_domain.specs.Crossings.{IsPut}
use Rattle.view_core.specs.declared.scene.Scene.{Scene}
use Rattle.view_core.specs.Moves.{AreTold, Told, told_abend, told_code}
use Rattle.view_core.specs.PlainViews.{shown_parts}
use Rattle.packed_core.specs.Classes.{tests_before}
use Rattle.packed_core.specs.Rooms.{room_at}
use Rattle.packed_core.specs.Rows.{has_row}
use Rattle.packed_core.specs.Scenes.{HasScene}
use Rattle.packed_core.specs.Shown.{row_shown}
use Rattle.packed_core.specs.Views.{Views}
use Rattle.packed_core.specs.Words.{bit, met_of}

-- what a row shows among these views
abbrev pub shown_among : JobPlan → ℕ → Views → List ℕ → View
shown_among plan date views row = row_shown plan date views.part views.scenes row

abbrev pub all_shown : JobPlan → ℕ → Views → List View
all_shown plan date views = map (shown_among plan date views) views.rows

-- a row is put among these views
abbrev pub IsRowPut : JobPlan → ℕ → Views → List ℕ → Bool → Views → Type 0
IsRowPut plan date old row stood new = IsPut (all_shown plan date old) (shown_among plan date old row) stood (all_shown plan date new)

abbrev pub told_shown : JobPlan → ℕ → ℕ → Told → View
told_shown plan date k t = shown_parts plan date k t.scene t.abended t.met

-- a row stands among these, or a move leads to it by this outcome
abbrev pub LeadsTo : {V : Type 0} → (V → List ℕ) → List (List ℕ) → Outcome → List ℕ → Option (Move V) → Type 0
LeadsTo row_of rows outcome row None = has_row row rows ≡ true
LeadsTo row_of rows outcome row (Some m) = (m.outcome ≡ outcome) × (row_of m.view ≡ row)

-- a move that is told, or none, as a list
abbrev pub listed : {V : Type 0} → Option (Move V) → List (Move V)
listed None = []
listed (Some m) = m ∷ []

-- the view of what is to be told stands there, or a move leads to it
abbrev pub TellsOne : {V : Type 0} → (V → View) → (Told → View) → List View → Told → Option (Move V) → Type 0
TellsOne meaning view_of there t None = Contains there (view_of t)
TellsOne meaning view_of there t (Some m) = (m.outcome ≡ t.outcome) × (meaning m.view ≡ view_of t)

-- Behind a step that left a scene which this row names, with its bits: what is told of a code, and of an ABEND.
abbrev pub code_behind : JobPlan → ℕ → List ℕ → Scene → ℕ → Told
code_behind plan k base scene code = told_code k (tests_before plan k) (met_of (room_at plan k) base) (bit base 0) scene code

abbrev pub abend_behind : JobPlan → ℕ → List ℕ → Scene → Told
abend_behind plan k base scene = told_abend (met_of (room_at plan k) base) scene

-- the scene is one that shows the same as that which the row names
abbrev pub Names : JobPlan → ℕ → Views → List ℕ → Scene → Type 0
Names plan date views row scene = HasScene plan date views.part views.scenes scene (slice_index_or row 0 0)

-- a view for one code
abbrev pub TellsOneCode : {V : Type 0} → (V → List ℕ) → JobPlan → ℕ → Views → List ℕ → ℕ → Option (Move V) → Type 0
TellsOneCode row_of plan date behind base code told = (scene : Scene) → Names plan date behind base scene →
    TellsOne (λ v. shown_among plan date behind (row_of v)) (told_shown plan date behind.part) (all_shown plan date behind)
    (code_behind plan behind.part base scene code) told

-- for each of these codes
abbrev pub AreMovesByCode : {V : Type 0} → (V → List ℕ) → JobPlan → ℕ → Views → List ℕ → List ℕ → List (Move V) → Type 0
AreMovesByCode row_of plan date behind base codes moves = (scene : Scene) → Names plan date behind base scene →
    AreTold (λ v. shown_among plan date behind (row_of v)) (told_shown plan date behind.part) (all_shown plan date behind)
    (map (code_behind plan behind.part base scene) codes) moves

-- and for an ABEND
abbrev pub AreMovesByAbend : {V : Type 0} → (V → List ℕ) → JobPlan → ℕ → Views → List ℕ → List (Move V) → Type 0
AreMovesByAbend row_of plan date behind base moves = (scene : Scene) → Names plan date behind base scene →
    AreTold (λ v. shown_among plan date behind (row_of v)) (told_shown plan date behind.part) (all_shown plan date behind)
    (abend_behind plan behind.part base scene ∷ []) moves
