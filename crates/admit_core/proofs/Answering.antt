-- What is answered, put together.
use Rattle.std.proofs.Common.{◌≡◌, ℕ, Bool, true, false, List, [], ◌∷◌, Some, Vec, Global, refl, sym, subst, ◌∙◌}
use Rattle.std.specs.List.{Contains}
use Rattle.std.proofs.lemmas.List.Elements.{All-contains}
use Rattle.jcl_plan.specs.declared.entry.JobLine.TheVariants as line
use Rattle.jcl_plan.specs.declared.plan.JobPlan.{JobPlan}
use Rattle.jcl_meaning.specs.declared.state.Place.{Place}
use Rattle.jcl_meaning.specs.Solo.{fixed_in}
use Rattle.jcl_meaning.specs.States.{Fixed}
use Rattle.jcl_meaning.specs.Stores.{Store}
use Rattle.path_meaning.specs.Paths.{Makes}
use Rattle.path_meaning.specs.Verdicts.{IsEarliest, IsFirstWithMore, IsFree}
use Rattle.path_search.specs.declared.verdict.RiskReport.{RiskReport}
use Rattle.path_search.specs.declared.verdict.Verdict.{Verdict}
use Rattle.path_search.specs.declared.verdict.Verdict.TheVariants as verdict
use Rattle.path_laws.specs.Paths.{MadeIsConfigured}
use Rattle.world_meaning.specs.Admissions.{explained}
use Rattle.world_meaning.specs.Lenses.{seen}
use Rattle.shared_core.specs.Shown.{world_store_of}
use Rattle.shared_core.specs.declared.store.SharedStore.{SharedStore}
use Rattle.place_core.specs.Keepings.{AreApart}
use Rattle.place_core.specs.Placings.{serials_of}
use Rattle.verdict_core.specs.Judging.{IsJudged, path_of}
use Rattle.verdict_core.specs.declared.judge.Judged.{Judged}
use Rattle.admit_core.specs.Admissions.{line_of}
use Rattle.admit_core.specs.Admitted.{IsAdmission, IsAnswered, IsAssurance, IsProvision, admission_of, line_assured}
use Rattle.admit_core.specs.Told.{fixed_by_room, refused_by}
use Rattle.admit_core.specs.declared.admission.Admission.{Admission}
use Rattle.admit_core.specs.declared.admission.Admission.TheVariants.{Assured, Risky, SpaceWait, TooMany}
use Rattle.admit_core.specs.declared.admission.NamedJob.{NamedJob}
use Rattle.admit_core.specs.declared.admission.Provision.{Provision}
use Rattle.admit_core.specs.declared.admit.Assurance.{Assurance}
use Rattle.admit_core.specs.declared.admit.Assurance.TheVariants.{Given, Refused}
use Rattle.admit_core.specs.declared.admit.Terms.{Terms}
use Rattle.admit_core.proofs.Apart.{rising_apart}
use Rattle.admit_core.proofs.Refused.{IsPlaceOn, refused_place}

-- only a risk is explained
module _ (plan : JobPlan) (store : Store) where
  safe_so : (b : Bool) (fixed : Fixed) (made : Vec Place Global) → path_of b fixed plan store (verdict.Safe made) ≡ []
  safe_so true fixed made = refl
  safe_so false fixed made = refl

  many_so : (b : Bool) (fixed : Fixed) (step : ℕ) → path_of b fixed plan store (verdict.TooMany step) ≡ []
  many_so true fixed step = refl
  many_so false fixed step = refl

  risk_told : (b : Bool) (fixed : Fixed) (report : RiskReport) → path_of b fixed plan store (verdict.Risk report)
      ≡ explained b fixed plan store (line.Risk report.fault report.step report.dd report.path.items ∷ [])
  risk_told true fixed report = refl
  risk_told false fixed report = refl

  assured_told : (b : Bool) (fixed : Fixed) (tracks actions : ℕ) → explained b fixed plan store (line.Assured tracks actions ∷ []) ≡ []
  assured_told true fixed tracks actions = refl
  assured_told false fixed tracks actions = refl

  wait_told : (b : Bool) (fixed : Fixed) (serial : List ℕ) → explained b fixed plan store (line.WaitSpace serial ∷ []) ≡ []
  wait_told true fixed serial = refl
  wait_told false fixed serial = refl

  many_told : (b : Bool) (fixed : Fixed) (step : ℕ) → explained b fixed plan store (line.TooMany step ∷ []) ≡ []
  many_told true fixed step = refl
  many_told false fixed step = refl

-- one of the volumes refuses, since the places are on configured ones
there_on : MadeIsConfigured → (store : SharedStore) (number most_views : ℕ) (plan : JobPlan) (fixed : Fixed) (made : List Place) (serial : List ℕ) →
    fixed.volumes ≡ serials_of store.volumes → IsFree fixed plan (seen number (world_store_of store)) most_views made →
    refused_by store number plan made ≡ Some serial → Contains (serials_of store.volumes) serial
there_on law store number most_views plan fixed made serial volumes free room =
    let p : IsPlaceOn made serial = refused_place number plan made store.volumes serial room in
    let makes : Makes fixed plan (seen number (world_store_of store)) p.place =
    All-contains (Makes fixed plan (seen number (world_store_of store))) made p.place free.made.made p.among in
    subst (Contains (serials_of store.volumes)) p.there
    (subst (λ vs. Contains vs p.place.serial) volumes (law fixed plan (seen number (world_store_of store)) p.place makes))

-- its line
pub line_safe : (job : NamedJob) (its : Provision) (assurance : Assurance) → line_of (admission_of job its assurance) ≡ line_assured assurance
line_safe job its (Given tracks actions) = refl
line_safe job its (Refused serial) = refl

-- from what was judged
module _ (law : MadeIsConfigured) (old : SharedStore) (t : Terms) (number : ℕ) (job : NamedJob) (date : ℕ) (j : Judged)
    (jd : IsJudged old t.units.now number job.plan date t.most_views t.explains j) where
  abbrev its_view : Store
  its_view = seen number (world_store_of old)

  abbrev by_room : Fixed
  by_room = fixed_by_room old t.units.now number job.plan date

  abbrev pub judged_by : Fixed
  judged_by = fixed_in (serials_of old.volumes) its_view job.plan j.places date

  same_fixed : judged_by ≡ by_room
  same_fixed = λ i. fixed_in (serials_of old.volumes) its_view job.plan (jd.placed_so i) date

  abbrev pub its : Provision
  its = record { places = j.places; meanings = j.meanings; date = date }

  provides : IsProvision old t.units.now number job.plan date its
  provides = record { placed_so = jd.placed_so; configured = jd.configured; meant = jd.meanings; dated = refl }

  found_path : (v : Verdict) → j.finding.verdict ≡ v → j.finding.path ≡ path_of t.explains by_room job.plan its_view v
  found_path v found = jd.found.path ∙ (λ i. path_of t.explains (same_fixed i) job.plan its_view (found i))

  answered : (new : SharedStore) (a : Admission) → IsAdmission old t number job by_room its new a →
      j.finding.path ≡ explained t.explains by_room job.plan its_view (line_of a ∷ []) →
      IsAnswered old t number job date new (record { admission = a; path = j.finding.path })
  answered new a is path = record { its = its; provides = provides; admission = is; path = path }

  pub apart : (made : List Place) → IsFree judged_by job.plan its_view t.most_views made → AreApart made
  apart made free = rising_apart judged_by.volumes made free.made.rising

  module _ (made : Vec Place Global) (found : j.finding.verdict ≡ verdict.Safe made) (free : IsFree judged_by job.plan its_view t.most_views made.items)
      (there new : SharedStore) (same : there ≡ old) where
    free_by_room : IsFree by_room job.plan its_view t.most_views made.items
    free_by_room = subst (λ f. IsFree f job.plan its_view t.most_views made.items) same_fixed free

    assured : (tracks actions : ℕ) → IsAssurance there t.programs.now number job.plan made.items new (Given tracks actions) →
        IsAnswered old t number job date new (record {
          admission = Assured (record { named = job; given = its; tracks = tracks; actions = actions });
          path = j.finding.path;
        })
    assured tracks actions kept =
        let here : IsAssurance old t.programs.now number job.plan made.items new (Given tracks actions) =
        subst (λ s. IsAssurance s t.programs.now number job.plan made.items new (Given tracks actions)) same kept in
        answered new (Assured (record { named = job; given = its; tracks = tracks; actions = actions })) (record {
          made = made.items;
          free = free_by_room;
          room = here.0;
          keeps = here.1;
          conserves = here.2;
          is = λ i. record { named = job; given = its; tracks = here.3 i; actions = here.4 i };
        })
        (found_path (verdict.Safe made) found ∙ safe_so job.plan its_view t.explains by_room made
        ∙ sym (assured_told job.plan its_view t.explains by_room tracks actions))

    waits : (serial : List ℕ) → IsAssurance there t.programs.now number job.plan made.items new (Refused serial) →
        IsAnswered old t number job date new (record { admission = SpaceWait job serial; path = j.finding.path })
    waits serial refused =
        let here : IsAssurance old t.programs.now number job.plan made.items new (Refused serial) =
        subst (λ s. IsAssurance s t.programs.now number job.plan made.items new (Refused serial)) same refused in
        answered new (SpaceWait job serial) (record {
          made = made.items;
          free = free_by_room;
          room = here.0;
          there = there_on law old number t.most_views job.plan by_room made.items serial refl free_by_room here.0;
          is = refl;
          same = here.1;
        })
        (found_path (verdict.Safe made) found ∙ safe_so job.plan its_view t.explains by_room made
        ∙ sym (wait_told job.plan its_view t.explains by_room serial))

    pub safe : (assurance : Assurance) → IsAssurance there t.programs.now number job.plan made.items new assurance →
        IsAnswered old t number job date new (record { admission = admission_of job its assurance; path = j.finding.path })
    safe (Given tracks actions) kept = assured tracks actions kept
    safe (Refused serial) refused = waits serial refused

  pub risky : (report : RiskReport) → j.finding.verdict ≡ verdict.Risk report →
      IsEarliest judged_by job.plan its_view t.most_views report.fault report.step report.dd report.path.items → (new : SharedStore) → new ≡ old →
      IsAnswered old t number job date new (record { admission = Risky (record { named = job; given = its }) report; path = j.finding.path })
  risky report found earliest new same =
      answered new (Risky (record { named = job; given = its }) report) (record {
        earliest = subst (λ f. IsEarliest f job.plan its_view t.most_views report.fault report.step report.dd report.path.items) same_fixed earliest;
        is = refl;
        same = same;
      })
      (found_path (verdict.Risk report) found ∙ risk_told job.plan its_view t.explains by_room report)

  pub many : (step : ℕ) → j.finding.verdict ≡ verdict.TooMany step → IsFirstWithMore judged_by job.plan its_view t.most_views step →
      (new : SharedStore) → new ≡ old →
      IsAnswered old t number job date new (record { admission = TooMany (record { named = job; given = its }) step; path = j.finding.path })
  many step found more new same =
      answered new (TooMany (record { named = job; given = its }) step) (record {
        more = subst (λ f. IsFirstWithMore f job.plan its_view t.most_views step) same_fixed more;
        is = refl;
        same = same;
      })
      (found_path (verdict.TooMany step) found ∙ many_so job.plan its_view t.explains by_room step
      ∙ sym (many_told job.plan its_view t.explains by_room step))
