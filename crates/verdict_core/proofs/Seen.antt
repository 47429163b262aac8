-- What may become of a job on a copy of what it sees may become of it in the store.
use Rattle.std.proofs.Common.{◌≡◌, ℕ, Bool, true, false, List, [], refl, subst, sym, ap, ◌∙◌}
use Rattle.std.specs.Prelude.{Err, IfOk, Ok, Result}
use Rattle.jcl_plan.specs.declared.plan.JobPlan.{JobPlan}
use Rattle.jcl_meaning.specs.declared.names.HeldName.{HeldName}
use Rattle.jcl_meaning.specs.declared.state.KeyMeaning.{KeyMeaning}
use Rattle.jcl_meaning.specs.declared.state.Place.{Place}
use Rattle.jcl_meaning.specs.Names.{names_of}
use Rattle.jcl_meaning.specs.Resolutions.{meanings_of}
use Rattle.jcl_meaning.specs.Solo.{fixed_in, fixed_with}
use Rattle.jcl_meaning.specs.Stores.{Store}
use Rattle.jcl_meaning.specs.WellFormed.{IsWellFormedPlan}
use Rattle.part_copy.specs.Parts.{ShowsEntries, ShowsSets}
use Rattle.part_laws.specs.Keeping.{HasSoundGroups}
use Rattle.part_laws.specs.PartLaws.{StartFits}
use Rattle.path_meaning.specs.Explanations.{path_lines, up_to_fault}
use Rattle.path_search.specs.Verdicts.{IsVerdict}
use Rattle.path_search.specs.declared.verdict.Verdict.{Verdict}
use Rattle.path_search.specs.declared.verdict.Verdict.TheVariants.{Risk, Safe, TooMany}
use Rattle.verdict_core.specs.Judging.{IsFound, path_of}
use Rattle.verdict_core.specs.declared.verdict.Finding.{Finding}
use Rattle.start_laws.specs.Starts.{EarliestIsSeen, FirstWithMoreIsSeen, FreeIsSeen, IsAnalysed, MeaningsAreSeen, PathIsSeen, SeesSame}

module _ (means : MeaningsAreSeen) (free : FreeIsSeen) (earliest : EarliestIsSeen) (first : FirstWithMoreIsSeen) (path : PathIsSeen) (starts : StartFits) (plan : JobPlan)
    (s t : Store) (date limit : ℕ) (formed : IsWellFormedPlan plan) (groups : HasSoundGroups s) where
  module _ (volumes : List (List ℕ)) (places : List Place) (sets : ShowsSets (names_of plan) s t) (entries : ShowsEntries (names_of plan) s t) where
    same : SeesSame plan date t s
    same = record { sets = λ key serial. sym (sets key serial date); catalog = λ name. sym (entries name) }

    analysed : IsAnalysed (fixed_in volumes s plan places date) plan
    analysed = record { tests = refl; fits = starts plan [] s formed groups }

    in_store : (v : Verdict) → IsVerdict (fixed_in volumes s plan places date) plan t limit v → IsVerdict (fixed_in volumes s plan places date) plan s limit v
    in_store (Safe made) h = free (fixed_in volumes s plan places date) plan t s limit made.items analysed same h
    in_store (Risk report) h =
        earliest (fixed_in volumes s plan places date) plan t s limit report.fault report.step report.dd report.path.items analysed same h
    in_store (TooMany step) h = first (fixed_in volumes s plan places date) plan t s limit step analysed same h

    seen_so : (v : Verdict) → IsVerdict (fixed_in volumes t plan places date) plan t limit v → IsVerdict (fixed_in volumes s plan places date) plan s limit v
    seen_so v h =
        in_store v (subst (λ (meanings : List KeyMeaning). IsVerdict (fixed_with volumes plan places meanings date) plan t limit v) (means plan date t s same) h)

    -- a path has the same lines
    same_meant : fixed_in volumes t plan places date ≡ fixed_in volumes s plan places date
    same_meant = ap (λ (meanings : List KeyMeaning). fixed_with volumes plan places meanings date) (means plan date t s same)

    same_path : (explains : Bool) (v : Verdict) → path_of explains (fixed_in volumes t plan places date) plan t v
        ≡ path_of explains (fixed_in volumes s plan places date) plan s v
    same_path true (Risk report) =
        ap (λ f. path_lines f plan t report.path.items) same_meant
        ∙ ap up_to_fault (path (fixed_in volumes s plan places date) plan t s report.path.items analysed same)
    same_path true (Safe made) = refl
    same_path true (TooMany step) = refl
    same_path false (Risk report) = refl
    same_path false (Safe made) = refl
    same_path false (TooMany step) = refl

    found_so : (explains : Bool) (f : Finding) → IsFound (fixed_in volumes t plan places date) plan t limit explains f →
        IsFound (fixed_in volumes s plan places date) plan s limit explains f
    found_so explains f h = record { verdict = seen_so f.verdict h.verdict; path = h.path ∙ same_path explains f.verdict }

  -- its keys mean the same on the copy
  pub meant : (names : List HeldName) (meanings : List KeyMeaning) → names ≡ names_of plan → ShowsSets names s t → ShowsEntries names s t →
      meanings ≡ meanings_of s plan → meanings ≡ meanings_of t plan
  meant names meanings of_plan sets entries is = is ∙ sym (means plan date t s
      (same [] [] (subst (λ ns. ShowsSets ns s t) of_plan sets) (subst (λ ns. ShowsEntries ns s t) of_plan entries)))

  -- with what the code found: these names, and the volumes of the copy
  pub judged : {E : Type 0} (names : List HeldName) (volumes its_volumes : List (List ℕ)) (places : List Place) (explains : Bool) →
      names ≡ names_of plan → its_volumes ≡ volumes → ShowsSets names s t → ShowsEntries names s t → (r : Result (Finding × List Place) E) →
      IfOk r (λ f. IsFound (fixed_in its_volumes t plan places date) plan t limit explains f.0) →
      IfOk r (λ f. IsFound (fixed_in volumes s plan places date) plan s limit explains f.0)
  judged names volumes its_volumes places explains of_plan on sets entries (Ok f) h =
      found_so volumes places (subst (λ ns. ShowsSets ns s t) of_plan sets) (subst (λ ns. ShowsEntries ns s t) of_plan entries) explains f.0
      (subst (λ vs. IsFound (fixed_in vs t plan places date) plan t limit explains f.0) on h)
  judged names volumes its_volumes places explains of_plan on sets entries (Err e) h = h
