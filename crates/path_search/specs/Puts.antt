-- Views are put behind a part, each once, with a link each, until more than the limit stand there.
use Rattle.std.specs.Prelude.{◌≡◌, ℕ, ◌<◌, ◌≤◌, List, [], ◌∷◌, ◌++◌, length, map, Contains}
use Rattle.jcl_plan.specs.declared.outcome.Fate.{Fate}
use Rattle.jcl_plan.specs.declared.outcome.Outcome.{Outcome}
use Rattle.jcl_plan.specs.declared.outcome.Outcome.TheVariants as outcome
use Rattle.jcl_meaning.specs.Views.{View}
use Rattle.path_meaning.specs.Paths.{shown_code, shown_of}
use Rattle.view_domain.specs.declared.crossed.Branch.{Branch}
use Rattle.view_domain.specs.declared.crossed.Branch.TheVariants as branch
use Rattle.view_domain.specs.declared.crossed.Crossed.{Crossed}
use Rattle.view_domain.specs.declared.crossed.Crossed.TheVariants as crossed
use Rattle.view_domain.specs.declared.crossed.Move.{Move}
use Rattle.path_search.specs.declared.trail.Link.{Link}

pub data IsPutIn (limit : ℕ) (views : List View) (links : List Link) (view : View) (link : Link) : List View → List Link → Type 0 where
  Past : limit < length links → IsPutIn limit views links view link views links
  Stood : Contains views view → IsPutIn limit views links view link views links
  New : (Contains views view → ⊥) → IsPutIn limit views links view link (views ++ view ∷ []) (links ++ link ∷ [])

-- a domain's view is put among its views
abbrev pub IsViewPut : {X V : Type 0} → (X → List View) → (X → V → View) → ℕ → X → List Link → V → Link → X → List Link → Type 0
IsViewPut members meaning limit views links view link views_after links_after =
    IsPutIn limit (members views) links (meaning views view) link (members views_after) links_after

-- a view that is told, and its link
pub record Told : Type 0 where
  pub view : View
  pub link : Link

abbrev pub ArePut : ℕ → List View → List Link → List Told → List View → List Link → Type 0
ArePut limit views links [] views_after links_after = (views_after ≡ views) × (links_after ≡ links)
ArePut limit views links (t ∷ told) views_after links_after =
    (vs : List View) × (ls : List Link) × IsPutIn limit views links t.view t.link vs ls × ArePut limit vs ls told views_after links_after

-- the views that are told in what a part comes to, in order, each with its link
abbrev pub told_as : {V : Type 0} → (V → View) → ℕ → Outcome → V → Told
told_as meaning parent o view = record { view = meaning view; link = record { parent = parent; outcome = o } }

abbrev pub told_moves : {V : Type 0} → (V → View) → ℕ → List (Move V) → List Told
told_moves meaning parent moves = map (λ m. told_as meaning parent (shown_code m.outcome) m.view) moves

abbrev pub told_branch : {V : Type 0} → (V → View) → ℕ → Branch V → List Told
told_branch meaning parent (branch.Stops stop) = []
told_branch meaning parent (branch.Leads moves) = told_moves meaning parent moves.items

abbrev pub told_of : {V : Type 0} → (V → View) → ℕ → Crossed V → List Told
told_of meaning parent (crossed.Stops stop) = []
told_of meaning parent crossed.Ends = []
told_of meaning parent (crossed.Passes fate view) = told_as meaning parent (shown_of fate (outcome.Code 0)) view ∷ []
told_of meaning parent (crossed.Runs made by_code by_abend) = told_branch meaning parent by_code ++ told_branch meaning parent by_abend

-- Views that are told are put among a domain's views: those of moves,
abbrev pub AreMovesPut : {X V : Type 0} → (X → List View) → (X → V → View) → ℕ → X → List Link → ℕ → List (Move V) → X → List Link → Type 0
AreMovesPut members meaning limit views links parent moves views_after links_after =
    ArePut limit (members views) links (told_moves (meaning views) parent moves) (members views_after) links_after

-- those of a step's end,
abbrev pub IsBranchPut : {X V : Type 0} → (X → List View) → (X → V → View) → ℕ → X → List Link → ℕ → Branch V → X → List Link → Type 0
IsBranchPut members meaning limit views links parent branch views_after links_after =
    ArePut limit (members views) links (told_branch (meaning views) parent branch) (members views_after) links_after

-- and those of what a part comes to.
abbrev pub IsCrossedPut : {X V : Type 0} → (X → List View) → (X → V → View) → ℕ → X → List Link → ℕ → Crossed V → X → List Link → Type 0
IsCrossedPut members meaning limit views links parent crossed views_after links_after =
    ArePut limit (members views) links (told_of (meaning views) parent crossed) (members views_after) links_after
