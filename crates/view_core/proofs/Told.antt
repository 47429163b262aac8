-- The views that a step's moves tell, and the ends of the step that they tell them for.
use Rattle.std.proofs.Common.{◌≡◌, ◌++◌, ◌∷◌, ◌∙◌, ◌+◌, ◌≤◌, ◌<◌, ℕ, zero, suc, Bool, List, [], drop, length, refl, sym, ap, subst, map, get_or, arith}
use Rattle.std.specs.Prelude.{All, Contains, Result, Ok, Err, slice_index_or}
use Rattle.std.specs.List.{AllByRecursion}
use Rattle.std.proofs.lemmas.List.Elements.{All-contains, All-from_recursion, Contains-append_right}
use Rattle.cond_core.specs.Classes.{IsInClass, IsInOneClass}
use Rattle.jcl_plan.specs.declared.outcome.Abend.{Abend}
use Rattle.jcl_plan.specs.declared.outcome.Abend.TheVariants.{User}
use Rattle.jcl_plan.specs.declared.outcome.Fate.{Fate}
use Rattle.jcl_plan.specs.declared.outcome.Fate.TheVariants as fate
use Rattle.jcl_plan.specs.declared.outcome.Outcome.{Outcome}
use Rattle.jcl_plan.specs.declared.outcome.Outcome.TheVariants as outcome
use Rattle.jcl_plan.specs.declared.plan.JobPlan.{JobPlan}
use Rattle.jcl_plan.specs.declared.plan.StepPlan.{StepPlan}
use Rattle.jcl_plan.specs.declared.plan.Test.{Test}
use Rattle.jcl_meaning.specs.declared.state.Own.{Own}
use Rattle.jcl_meaning.specs.declared.state.Place.{Place}
use Rattle.jcl_meaning.specs.Agendas.{Action}
use Rattle.jcl_meaning.specs.EndActs.{as_ending}
use Rattle.jcl_meaning.specs.History.{IsStepOutcome, is_abend}
use Rattle.jcl_meaning.specs.Names.{names_of}
use Rattle.jcl_meaning.specs.RequestActs.{head_or}
use Rattle.jcl_meaning.specs.Solo.{Ran, run}
use Rattle.jcl_meaning.specs.States.{Fixed, State}
use Rattle.jcl_meaning.specs.Views.{View, view_at}
use Rattle.part_laws.specs.Fits.{Fits}
use Rattle.path_laws.specs.Steps.{behind_start}
use Rattle.path_laws.specs.PathParts.{IsBefore, next_outcome, path_part}
use Rattle.view_domain.specs.declared.crossed.Branch.{Branch}
use Rattle.view_domain.specs.declared.crossed.Branch.TheVariants as branch
use Rattle.view_domain.specs.declared.crossed.Crossed.TheVariants as crossed
use Rattle.view_domain.specs.declared.crossed.Move.{Move}
use Rattle.view_domain.specs.declared.crossed.Stop.{Stop}
use Rattle.view_domain.specs.Crossings.{AreFounded, ComesFrom, IsBehindEnd, IsByAbend, IsByCode, IsCrossed, branch_of, views_of}
use Rattle.view_core.specs.declared.legs.Legs.{Legs}
use Rattle.view_core.specs.declared.scene.PlainView.{PlainView}
use Rattle.view_core.specs.declared.scene.Scene.{Scene}
use Rattle.view_core.specs.Bits.{fate_shown}
use Rattle.view_core.specs.Legs.{AreLegs, HasEnded, HasMade, HasStopped}
use Rattle.view_core.specs.Moves.{AreTold, BranchesByAbend, BranchesByCode, TellsByAbend, TellsByCode, Told, told, told_abend, told_code}
use Rattle.view_core.specs.PlainViews.{shown_by, shown_parts, shown_so}
use Rattle.view_core.specs.Shows.{Shows}
use Rattle.view_core.specs.Scenes.{IsBegun, state_on}
use Rattle.view_core.specs.Walks.{EndsIn, StopsIn}
use Rattle.view_core.proofs.Crossing.{bits, fates_are, kept, made_are, none_met, passes, stop_is, tests, view_by_abend, view_by_code}
use Rattle.view_core.proofs.TestBits.{class_bits}

-- a step ends by a code or by an ABEND
by_ending : (P : Outcome → Type 0) (x : Outcome) → ((c : ℕ) → as_ending x ≡ outcome.Code c → P (outcome.Code c)) →
    ((a : Abend) → as_ending x ≡ outcome.Abend a → P (outcome.Abend a)) → P (as_ending x)
by_ending P (outcome.Code c) p q = p c refl
by_ending P (outcome.Abend a) p q = q a refl
by_ending P outcome.Bypassed p q = p 0 refl
by_ending P outcome.Flushed p q = p 0 refl

-- what stands in a list stands in its image
get_map : {X Y : Type 0} (f : X → Y) (xs : List X) (k : ℕ) (d : X) → slice_index_or (map f xs) k (f d) ≡ f (slice_index_or xs k d)
get_map f [] k d = refl
get_map f (x ∷ xs) zero d = refl
get_map f (x ∷ xs) (suc k) d = get_map f xs k d

length_image : {X Y : Type 0} (f : X → Y) (xs : List X) → length (map f xs) ≡ length xs
length_image f [] = refl
length_image f (x ∷ xs) = ap suc (length_image f xs)

image_contains : {X Y : Type 0} (f : X → Y) (xs : List X) (x : X) → Contains xs x → Contains (map f xs) (f x)
image_contains f xs x h = (
  h.0,
  subst (λ (n : ℕ). h.0 < n) (sym (length_image f xs)) h.1,
  get_map f xs h.0 x ∙ ap f h.2,
)

map_twice : {X Y Z : Type 0} (f : Y → Z) (g : X → Y) (xs : List X) → map (λ x. f (g x)) xs ≡ map f (map g xs)
map_twice f g [] = refl
map_twice f g (x ∷ xs) = ap (λ l. f (g x) ∷ l) (map_twice f g xs)

first_of : {X : Type 0} (x : X) (xs : List X) → Contains (x ∷ xs) x
first_of x xs = (0, omega arith, refl)

each_of : {X : Type 0} (P : X → Type 0) (xs : List X) → ((x : X) → Contains xs x → P x) → AllByRecursion P xs
each_of P [] f = tt
each_of P (x ∷ xs) f = (f x (first_of x xs), each_of P xs (λ y there. f y (Contains-append_right (x ∷ []) xs y there)))

pub all_of : {X : Type 0} (P : X → Type 0) (xs : List X) → ((x : X) → Contains xs x → P x) → All P xs
all_of P xs f = All-from_recursion P xs (each_of P xs f)

-- what stands in an image is the image of something
pub from_image : {X Y : Type 0} (f : X → Y) (xs : List X) (y : Y) → Contains (map f xs) y → (x : X) × Contains xs x × (f x ≡ y)
from_image {X} {Y} f xs y c = at xs c.0 c.1 c.2
  where
    at : (zs : List X) (k : ℕ) → k < length (map f zs) → slice_index_or (map f zs) k y ≡ y → (x : X) × Contains zs x × (f x ≡ y)
    at [] k h e = absurd (omega arith)
    at (z ∷ zs) zero h e = (z, first_of z zs, e)
    at (z ∷ zs) (suc k) h e = let g : (x : X) × Contains zs x × (f x ≡ y) = at zs k (omega arith) e in (g.0, Contains-append_right (z ∷ []) zs g.0 g.1, g.2)

-- moves of plain views that tell all, one by one
module _ (plan : JobPlan) (date k : ℕ) where
  abbrev pub view_told : Told → View
  view_told t = shown_parts plan date k t.scene t.abended t.met

  pub all_told : (there : List View) (tolds : List Told) (moves : List (Move PlainView)) → map told moves ≡ tolds →
      AreTold (shown_by plan date k) view_told there tolds moves
  all_told there tolds moves e = record {
    covers = λ t c.
        Contains-append_right there (views_of (shown_by plan date k) moves) (view_told t)
        (subst (λ (views : List View). Contains views (view_told t)) (sym (map_twice view_told told moves))
        (image_contains view_told (map told moves) t (subst (λ (ts : List Told). Contains ts t) (sym e) c)));
    founded = λ m c. (told m, subst (λ (ts : List Told). Contains ts (told m)) e (image_contains told moves m c), refl, refl);
  }

  pub code_told : (there : List View) (n : ℕ) (tests : List Test) (bits : List Bool) (abended : Bool) (end : Result Scene Stop) (b : Branch PlainView) →
      BranchesByCode n tests bits abended end b → TellsByCode (shown_by plan date k) view_told there n tests bits abended end b
  code_told there n tests bits abended (Err stop) (branch.Stops other) h = h
  code_told there n tests bits abended (Err stop) (branch.Leads moves) h = absurd h
  code_told there n tests bits abended (Ok scene) (branch.Stops other) h = absurd h
  code_told there n tests bits abended (Ok scene) (branch.Leads moves) h =
      (h.0, h.1, all_told there (map (told_code n tests bits abended scene) h.0) moves.items h.2)

  pub abend_told : (there : List View) (bits : List Bool) (end : Result Scene Stop) (b : Branch PlainView) →
      BranchesByAbend bits end b → TellsByAbend (shown_by plan date k) view_told there bits end b
  abend_told there bits (Err stop) (branch.Stops other) h = h
  abend_told there bits (Err stop) (branch.Leads moves) h = absurd h
  abend_told there bits (Ok scene) (branch.Stops other) h = absurd h
  abend_told there bits (Ok scene) (branch.Leads moves) h = all_told there (told_abend bits scene ∷ []) moves.items h

-- the same of what is known to be the same
pub legs_as : (fixed : Fixed) (n : ℕ) (step : StepPlan) (abend : Bool) (a b : Scene) (x y : Legs) → a ≡ b → x ≡ y → AreLegs fixed n step a abend x →
    AreLegs fixed n step b abend y
legs_as fixed n step abend a b x y p q h = subst (λ (l : Legs). AreLegs fixed n step b abend l) q (subst (λ (s : Scene). AreLegs fixed n step s abend x) p h)

module _ {V : Type 0} (meaning : V → View) (plan : JobPlan) (fixed : Fixed) (k : ℕ) (step : StepPlan) (after : List StepPlan)
    (is : drop k plan.steps ≡ step ∷ after) (job_tests : fixed.job_tests ≡ plan.tests.items) (v : Shows) where
  abbrev here : View
  here = shown_so plan fixed.date k v

  abbrev told_view : Told → View
  told_view = view_told plan fixed.date (k + 1)

  abbrev from_part : State → Ran
  from_part s = run fixed (path_part plan k) s

  abbrev StartsOn : Own → List Outcome → State
  StartsOn own os = state_on v.scene own os

  module _ (runs : fate_shown (tests plan fixed k step after is job_tests v) step v ≡ fate.Run) where
    abbrev kept_here : List Test
    kept_here = kept plan fixed k step after is job_tests v

    abbrev bits_here : List Bool
    bits_here = bits plan fixed k step after is job_tests v

    -- by a code
    module _ (own : Own) (begun : IsBegun v.scene v.abended own) where
      pub behind_code : (end : Result Scene Stop) (b : Branch V) (there : List View) →
          EndsIn fixed (k + 1) step (StartsOn own (outcome.Code 0 ∷ [])) end → TellsByCode meaning told_view there (k + 1) kept_here bits_here v.abended end b →
          (s : State) (outcomes : List Outcome) (rest : List Action) → here ≡ view_at plan k fixed.date s → IsBefore s outcomes →
          Fits (names_of plan) fixed.meanings (path_part plan k ++ rest) s.own → (c : ℕ) → next_outcome outcomes ≡ outcome.Code c → c ≤ 4095 →
          IsBehindEnd meaning plan fixed.date k there (from_part s) b
      behind_code (Err stop) (branch.Stops other) there ends branches s outcomes rest seen before fits c by_c most =
          stop_is plan fixed k step after is job_tests v runs s outcomes rest seen before fits own begun (outcome.Code 0 ∷ []) (ap is_abend by_c) other
          (subst (StopsIn fixed (k + 1) step (StartsOn own (outcome.Code 0 ∷ []))) (sym branches) ends)
      behind_code (Err stop) (branch.Leads moves) there ends branches s outcomes rest seen before fits c by_c most = absurd branches
      behind_code (Ok scene) (branch.Stops other) there ends branches s outcomes rest seen before fits c by_c most = absurd branches
      behind_code (Ok scene) (branch.Leads moves) there ends branches s outcomes rest seen before fits c by_c most =
          let one : IsInOneClass branches.0 c = branches.1.in_one_class c most in
          let least : IsInClass branches.0 one.least one.least =
          All-contains (λ r. IsInClass branches.0 r r) branches.0 one.least branches.1.represent_themselves one.there.begun in
          let image : ℕ → View = λ code. told_view (told_code (k + 1) kept_here bits_here v.abended scene code) in
          let shown : view_at plan (k + 1) fixed.date (from_part s).state ≡ image one.least =
          view_by_code plan fixed k step after is job_tests v runs s outcomes rest seen before fits own begun scene c by_c ends
          ∙ ap (λ met. shown_parts plan fixed.date (k + 1) scene v.abended met)
          (class_bits (k + 1) c one.least kept_here bits_here (branches.1.agree one.least c one.least one.there least)) in (
            none_met plan fixed k step after is job_tests v runs s outcomes rest seen before fits own begun (outcome.Code 0 ∷ []) (ap is_abend by_c) scene ends,
            subst (λ (view : View). Contains (there ++ views_of meaning moves.items) view) (sym shown)
                (branches.2.covers (told_code (k + 1) kept_here bits_here v.abended scene one.least)
                (image_contains (told_code (k + 1) kept_here bits_here v.abended scene) branches.0 one.least one.there.begun)),
          )

      pub founded_code : (end : Result Scene Stop) (b : Branch V) (there : List View) →
          EndsIn fixed (k + 1) step (StartsOn own (outcome.Code 0 ∷ [])) end → TellsByCode meaning told_view there (k + 1) kept_here bits_here v.abended end b →
          AreFounded meaning plan fixed k here IsByCode b
      founded_code end (branch.Stops other) there ends branches = tt
      founded_code (Err stop) (branch.Leads moves) there ends branches = absurd branches
      founded_code (Ok scene) (branch.Leads moves) there ends branches =
          all_of (λ m. IsByCode m.outcome × ComesFrom meaning plan fixed k here m) moves.items (λ m c.
          let told : (t : Told) × Contains (map (told_code (k + 1) kept_here bits_here v.abended scene) branches.0) t × (m.outcome ≡ t.outcome)
          × (meaning m.view ≡ told_view t) = branches.2.founded m c in
          let f : (code : ℕ) × Contains branches.0 code × (told_code (k + 1) kept_here bits_here v.abended scene code ≡ told.0) =
          from_image (told_code (k + 1) kept_here bits_here v.abended scene) branches.0 told.0 told.1 in
          let by_f : m.outcome ≡ outcome.Code f.0 = told.2 ∙ ap (λ (t : Told). t.outcome) (sym f.2) in (
            subst IsByCode (sym by_f) (All-contains (λ r. r ≤ 4095) branches.0 f.0 branches.1.are_codes f.1),
            λ s outcomes rest seen before fits next.
                told.3 ∙ ap told_view (sym f.2)
                ∙ sym (view_by_code plan fixed k step after is job_tests v runs s outcomes rest seen before fits own begun scene f.0 (next ∙ by_f) ends),
          ))

    -- by an ABEND
    module _ (own : Own) (begun : IsBegun v.scene v.abended own) where
      pub behind_abend : (end : Result Scene Stop) (b : Branch V) (there : List View) →
          EndsIn fixed (k + 1) step (StartsOn own (outcome.Abend (User 0) ∷ [])) end → TellsByAbend meaning told_view there bits_here end b →
          (s : State) (outcomes : List Outcome) (rest : List Action) → here ≡ view_at plan k fixed.date s → IsBefore s outcomes →
          Fits (names_of plan) fixed.meanings (path_part plan k ++ rest) s.own → (a : Abend) → next_outcome outcomes ≡ outcome.Abend a →
          IsBehindEnd meaning plan fixed.date k there (from_part s) b
      behind_abend (Err stop) (branch.Stops other) there ends branches s outcomes rest seen before fits a by_a =
          stop_is plan fixed k step after is job_tests v runs s outcomes rest seen before fits own begun (outcome.Abend (User 0) ∷ []) (ap is_abend by_a) other
          (subst (StopsIn fixed (k + 1) step (StartsOn own (outcome.Abend (User 0) ∷ []))) (sym branches) ends)
      behind_abend (Err stop) (branch.Leads moves) there ends branches s outcomes rest seen before fits a by_a = absurd branches
      behind_abend (Ok scene) (branch.Stops other) there ends branches s outcomes rest seen before fits a by_a = absurd branches
      behind_abend (Ok scene) (branch.Leads moves) there ends branches s outcomes rest seen before fits a by_a =
          let shown : view_at plan (k + 1) fixed.date (from_part s).state ≡ told_view (told_abend bits_here scene) =
          view_by_abend plan fixed k step after is job_tests v runs s outcomes rest seen before fits own begun scene a by_a ends in (
            none_met plan fixed k step after is job_tests v runs s outcomes rest seen before fits own begun (outcome.Abend (User 0) ∷ []) (ap is_abend by_a) scene ends,
            subst (λ (view : View). Contains (there ++ views_of meaning moves.items) view) (sym shown)
                (branches.covers (told_abend bits_here scene) (first_of (told_abend bits_here scene) [])),
          )

      pub founded_abend : (end : Result Scene Stop) (b : Branch V) (there : List View) →
          EndsIn fixed (k + 1) step (StartsOn own (outcome.Abend (User 0) ∷ [])) end → TellsByAbend meaning told_view there bits_here end b →
          AreFounded meaning plan fixed k here IsByAbend b
      founded_abend end (branch.Stops other) there ends branches = tt
      founded_abend (Err stop) (branch.Leads moves) there ends branches = absurd branches
      founded_abend (Ok scene) (branch.Leads moves) there ends branches =
          all_of (λ m. IsByAbend m.outcome × ComesFrom meaning plan fixed k here m) moves.items (λ m c.
          let told : (t : Told) × Contains (told_abend bits_here scene ∷ []) t × (m.outcome ≡ t.outcome) × (meaning m.view ≡ told_view t) =
          branches.founded m c in
          let f : (code : ℕ) × Contains (0 ∷ []) code × (told_abend bits_here scene ≡ told.0) =
          from_image (λ n. told_abend bits_here scene) (0 ∷ []) told.0 told.1 in
          let by_f : m.outcome ≡ outcome.Abend (User 0) = told.2 ∙ ap (λ (t : Told). t.outcome) (sym f.2) in (
            subst IsByAbend (sym by_f) tt,
            λ s outcomes rest seen before fits next.
                told.3 ∙ ap told_view (sym f.2)
                ∙ sym (view_by_abend plan fixed k step after is job_tests v runs s outcomes rest seen before fits own begun scene (User 0) (next ∙ by_f) ends),
          ))

    -- put together: a take meets a fault
    pub crossed_refused : (stop : Stop) (there : List View) → HasStopped fixed (k + 1) step v.scene v.abended stop →
        IsCrossed meaning plan fixed k there here (crossed.Stops stop)
    crossed_refused stop there h = record {
      covered = λ s outcomes rest seen before within fits.
          stop_is plan fixed k step after is job_tests v runs s outcomes rest seen before fits h.own h.begun outcomes refl stop (h.stops outcomes);
      founded = tt;
    }

    -- or the step ends
    pub crossed_ended : (places : List Place) (end abend_end : Result Scene Stop) (by_code by_abend : Branch V) (there : List View) →
        HasMade fixed (k + 1) step v.scene v.abended places →
        HasEnded fixed (k + 1) step v.scene v.abended (outcome.Code 0) end → TellsByCode meaning told_view there (k + 1) kept_here bits_here v.abended end by_code →
        HasEnded fixed (k + 1) step v.scene v.abended (outcome.Abend (User 0)) abend_end → TellsByAbend meaning told_view there bits_here abend_end by_abend →
        IsCrossed meaning plan fixed k there here (crossed.Runs places by_code by_abend)
    crossed_ended places end abend_end by_code by_abend there made code branches abend abend_branches = record {
      covered = λ s outcomes rest seen before within fits. (
        fates_are plan fixed k step after is job_tests v runs s outcomes rest seen before fits,
        made_are plan fixed k step after is job_tests v runs s outcomes rest seen before fits made.own made.begun outcomes refl ∙ made.makes outcomes,
        by_ending (λ o. IsBehindEnd meaning plan fixed.date k there (from_part s) (branch_of o by_code by_abend)) (head_or (outcome.Code 0) outcomes)
            (λ c by_c. behind_code code.own code.begun end by_code there code.ends branches s outcomes rest seen before fits c by_c (subst IsStepOutcome by_c within))
            (λ a by_a. behind_abend abend.own abend.begun abend_end by_abend there abend.ends abend_branches s outcomes rest seen before fits a by_a),
      );
      founded = (
        founded_code code.own code.begun end by_code there code.ends branches,
        founded_abend abend.own abend.begun abend_end by_abend there abend.ends abend_branches,
      );
    }

  -- a step that does not run
  pub crossed_passed : (f : Fate) (w : V) → f ≡ fate_shown (tests plan fixed k step after is job_tests v) step v →
      (fate_shown (tests plan fixed k step after is job_tests v) step v ≡ fate.Run → ⊥) →
      meaning w ≡ shown_parts plan fixed.date (k + 1) v.scene v.abended (bits plan fixed k step after is job_tests v) →
      (there : List View) → IsCrossed meaning plan fixed k there here (crossed.Passes f w)
  crossed_passed f w tells idle same there = record {
    covered = λ s outcomes rest seen before within fits.
        passes plan fixed k step after is job_tests v s outcomes seen before idle f (meaning w) tells same;
    founded = tt;
  }
