-- What an answer leaves: all but the free tracks, and for an assured job what is kept, follows from the lines.
use Rattle.std.proofs.Common.{◌≡◌, ℕ, true, false, List, [], ◌∷◌, Option, None, refl, sym, ap, subst, ◌∙◌}
use Rattle.jcl_plan.specs.declared.entry.JobLine.{JobLine}
use Rattle.jcl_plan.specs.declared.entry.JobLine.TheVariants as line
use Rattle.jcl_plan.specs.declared.plan.JobPlan.{JobPlan}
use Rattle.jcl_meaning.specs.declared.state.Place.{Place}
use Rattle.jcl_meaning.specs.States.{Fixed}
use Rattle.path_meaning.specs.Verdicts.{AreMade}
use Rattle.world_meaning.specs.Admissions.{Answered, AreKept, MayFail, admitted, assured, no_space, refused, risk, risky, too_many}
use Rattle.world_meaning.specs.Holdings.{released}
use Rattle.world_meaning.specs.Lenses.{seen}
use Rattle.world_meaning.specs.Tracks.{kept_without}
use Rattle.world_meaning.specs.Worlds.{Config, Kept, Named, Running, Shared, going_on}
use Rattle.keep_laws.specs.Keeping.{begins_assured}

module _ (c : Config) (old : Shared) (r : Running) (plan : JobPlan) (fixed : Fixed) where
  -- a job that is answered by two lines is over; one that is answered by one goes on
  abbrev left_by : List JobLine → (List ℕ → ℕ) → Shared
  left_by [] free = old
  left_by (first ∷ []) free = old
  left_by (first ∷ second ∷ told) free = released c old r.job free

  abbrev waits_or_runs : JobLine → List JobLine → Option Running
  waits_or_runs (line.WaitSpace serial) told = going_on r told (Named plan)
  waits_or_runs other told = admitted r told plan fixed false

  abbrev runs_by : List JobLine → Option Running
  runs_by [] = None
  runs_by (first ∷ []) = waits_or_runs first (first ∷ [])
  runs_by (first ∷ second ∷ told) = None

  record IsSettled (told : List JobLine) (new : Shared) (runs : Option Running) : Type 0 where
    free : List ℕ → ℕ
    left : new ≡ left_by told free
    goes : runs ≡ runs_by told

  settled_if : (risk_line : JobLine) → ((told : List JobLine) → waits_or_runs risk_line told ≡ admitted r told plan fixed false) → (told : List JobLine)
      (new : Shared) (runs : Option Running) → MayFail c old r plan fixed risk_line told new runs → IsSettled told new runs
  settled_if risk_line runs_on told new runs (risky runs_so t n g) = record {
    free = old.free;
    left = n ∙ sym (ap (λ (l : List JobLine). left_by l old.free) t);
    goes = g ∙ ap (λ (l : List JobLine). admitted r l plan fixed false) t ∙ sym (runs_on (risk_line ∷ [])) ∙ sym (ap runs_by t);
  }
  settled_if risk_line runs_on told new runs (refused free refuses t n conserved g) = record {
    free = free;
    left = n ∙ sym (ap (λ (l : List JobLine). left_by l free) t);
    goes = g ∙ sym (ap runs_by t);
  }

  settled : (told : List JobLine) (new : Shared) (runs : Option Running) → Answered c old r plan fixed told new runs → begins_assured told ≡ false →
      IsSettled told new runs
  settled told new runs (assured made kept free safe are_made are_kept without t n conserved g) none =
      let clash : true ≡ false = sym (ap begins_assured t) ∙ none in absurd cc
  settled told new runs (no_space serial there t n g) none = record {
    free = old.free;
    left = n ∙ sym (ap (λ (l : List JobLine). left_by l old.free) t);
    goes = g ∙ ap (λ (l : List JobLine). going_on r l (Named plan)) t ∙ sym (ap runs_by t);
  }
  settled told new runs (risk fault step dd path meets may) none = settled_if (line.Risk fault step dd path) (λ l. refl) told new runs may
  settled told new runs (too_many step from to more may) none = settled_if (line.TooMany step) (λ l. refl) told new runs may

  -- the same but for the free tracks
  freed : (told : List JobLine) (f g : List ℕ → ℕ) → left_by told g ≡ record (left_by told f) { free = (left_by told g).free }
  freed [] f g = refl
  freed (first ∷ []) f g = refl
  freed (first ∷ second ∷ told) f g = refl

  pub settled_alike : (told : List JobLine) (one other : Shared) (runs others : Option Running) → Answered c old r plan fixed told one runs →
      Answered c old r plan fixed told other others → begins_assured told ≡ false → (other ≡ record one { free = other.free }) × (others ≡ runs)
  settled_alike told one other runs others a b none =
      let x : IsSettled told one runs = settled told one runs a none in
      let y : IsSettled told other others = settled told other others b none in (
        y.left ∙ freed told x.free y.free ∙ sym (λ i. record (x.left i) { free = (y.left i).free }),
        y.goes ∙ sym x.goes,
      )

  -- of an assured job
  pub record IsAssured (told : List JobLine) (new : Shared) (runs : Option Running) : Type 0 where
    pub made : List Place
    pub are_made : AreMade fixed plan (seen r.job old.store) made
    pub are_kept : AreKept plan r.job made new.kept
    pub without : kept_without new.kept r.job ≡ old.kept
    pub left : new ≡ record old { kept = new.kept; free = new.free }
    pub goes : runs ≡ admitted r told plan fixed true

  assured_if : (risk_line : JobLine) → begins_assured (risk_line ∷ []) ≡ false → ((told : List JobLine) → begins_assured (risk_line ∷ told) ≡ false) →
      (told : List JobLine) (new : Shared) (runs : Option Running) → MayFail c old r plan fixed risk_line told new runs → begins_assured told ≡ true → ⊥
  assured_if risk_line one more told new runs (risky runs_so t n g) is =
      let clash : false ≡ true = sym (ap begins_assured t ∙ one) ∙ is in cc
  assured_if risk_line one more told new runs (refused free refuses t n conserved g) is =
      let clash : false ≡ true = sym (ap begins_assured t ∙ more (line.Refused ∷ [])) ∙ is in cc

  pub assured_so : (told : List JobLine) (new : Shared) (runs : Option Running) → Answered c old r plan fixed told new runs → begins_assured told ≡ true →
      IsAssured told new runs
  assured_so told new runs (assured made kept free safe are_made are_kept without t n conserved g) is =
      let same : new.kept ≡ kept = ap (λ (s : Shared). s.kept) n in
      record {
        made = made;
        are_made = are_made;
        are_kept = subst (AreKept plan r.job made) (sym same) are_kept;
        without = ap (λ (k : List ℕ → List Kept). kept_without k r.job) same ∙ without;
        left = n ∙ sym (λ i. record old { kept = same i; free = (n i).free });
        goes = g;
      }
  assured_so told new runs (no_space serial there t n g) is = let clash : false ≡ true = sym (ap begins_assured t) ∙ is in absurd cc
  assured_so told new runs (risk fault step dd path meets may) is =
      absurd (assured_if (line.Risk fault step dd path) refl (λ l. refl) told new runs may is)
  assured_so told new runs (too_many step from to more may) is = absurd (assured_if (line.TooMany step) refl (λ l. refl) told new runs may is)
