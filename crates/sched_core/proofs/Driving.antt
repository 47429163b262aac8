-- Events one after another.
use Rattle.std.proofs.Common.{◌≡◌, ◌+◌, ◌<◌, ◌≤◌, ◌++◌, ◌∷◌, ℕ, List, [], length, map, take, refl, sym, ap, ◌∙◌, subst, arith, inl}
use Rattle.std.specs.Prelude.{get_or}
use Rattle.std.proofs.lemmas.List.{take_more}
use Rattle.jcl_job.specs.Jobs.{job_of}
use Rattle.jcl_plan.specs.declared.entry.Entry.{Entry}
use Rattle.session_input.specs.declared.event.Event.{Event}
use Rattle.shared_core.proofs.Following.{stays_follow}
use Rattle.world_meaning.specs.declared.event.Event as meant
use Rattle.world_meaning.specs.Headlines.{IsPromised}
use Rattle.world_meaning.specs.Readings.{Denoting}
use Rattle.world_meaning.specs.Transitions.{Runs, Transition}
use Rattle.world_meaning.specs.Worlds.{World}
use Rattle.sched_core.specs.Promised.{ArePromised, ChainsKeepPromises}
use Rattle.sched_core.specs.Systems.{Along, Drives, IsDriven, IsNext, IsSameFixed, IsWhole, Machine, Steps, denoting, meant_by, world_of}
use Rattle.law_core.specs.Promises.{PromisesAreKept}
use Rattle.world_meaning.specs.Starts.{IsStart}

-- what is fixed stays
pub IsSameFixed-none : (m : Machine) → IsSameFixed m m
IsSameFixed-none m = record { config = refl; unit_names = refl; library = refl }

pub IsNext-none : (m : Machine) → IsWhole m → IsNext m m
IsNext-none m whole = record { fixed = IsSameFixed-none m; extents = inl (stays_follow m.parts.store); whole = whole }

IsSameFixed-twice : (a b c : Machine) → IsSameFixed a b → IsSameFixed b c → IsSameFixed a c
IsSameFixed-twice a b c first then = record {
  config = then.config ∙ first.config;
  unit_names = then.unit_names ∙ first.unit_names;
  library = then.library ∙ first.library;
}

same_denoting : (a b : Machine) → IsSameFixed a b → denoting b ≡ denoting a
same_denoting a b same = ap (λ names. job_of names b.library) same.unit_names ∙ ap (job_of a.unit_names) same.library

-- steps of machine after machine are a run
pub drives_run : (old new : Machine) (events : List Event) (entries : List (List Entry)) → Drives old events entries new →
    Runs (denoting old) (world_of old) (map meant_by events) entries (world_of new)
drives_run old new [] [] d = ap world_of d
drives_run old new (e ∷ es) (lines ∷ more) d =
    (world_of d.0, d.1.0, subst (λ job. Runs job (world_of d.0) (map meant_by es) more (world_of new)) (same_denoting old d.0 d.2.fixed) (drives_run d.0 new es more d.3))
drives_run old new [] (lines ∷ more) d = absurd d
drives_run old new (e ∷ es) [] d = absurd d

drives_fixed : (old new : Machine) (events : List Event) (entries : List (List Entry)) → Drives old events entries new → IsSameFixed old new
drives_fixed old new [] [] d = subst (IsSameFixed old) (sym d) (IsSameFixed-none old)
drives_fixed old new (e ∷ es) (lines ∷ more) d = IsSameFixed-twice old d.0 new d.2.fixed (drives_fixed d.0 new es more d.3)
drives_fixed old new [] (lines ∷ more) d = absurd d
drives_fixed old new (e ∷ es) [] d = absurd d

-- one step more
drives_on : (old mid new : Machine) (events : List Event) (entries : List (List Entry)) (e : Event) (lines : List Entry) → Drives old events entries mid →
    Steps mid e lines (world_of new) → IsNext mid new → Drives old (events ++ e ∷ []) (entries ++ lines ∷ []) new
drives_on old mid new [] [] e lines d step next =
    (new, subst (λ m. Steps m e lines (world_of new)) d step, subst (λ m. IsNext m new) d next, refl)
drives_on old mid new (x ∷ events) (y ∷ entries) e lines d step next = (d.0, d.1, d.2, drives_on d.0 mid new events entries e lines d.3 step next)
drives_on old mid new [] (y ∷ entries) e lines d step next = absurd d
drives_on old mid new (x ∷ events) [] e lines d step next = absurd d

-- the events so far
pub record DrivenTo (old : Machine) (events : List Event) (entries : List (List Entry)) (done : ℕ) (reached : Machine) : Type 0 where
  pub within : done ≤ length events
  pub drives : Drives old (take done events) entries reached

-- no event
pub driven_none : (m : Machine) (events : List Event) → DrivenTo m events [] 0 m
driven_none m events = record { within = omega arith; drives = refl }

-- that is what was done
pub driven_now : (old new : Machine) (events : List Event) (entries : List (List Entry)) (done : ℕ) →
    DrivenTo old events entries done new → IsDriven old events entries done new
driven_now old new events entries done d = record {
  within = d.within;
  drives = d.drives;
  fixed = drives_fixed old new (take done events) entries d.drives;
}

-- the next event of a list
pub driven_more : (old mid new : Machine) (events : List Event) (entries : List (List Entry)) (done : ℕ) (e : Event) (lines : List Entry) →
    DrivenTo old events entries done mid → done < length events → e ≡ get_or events done e →
    Steps mid e lines (world_of new) → IsNext mid new → DrivenTo old events (entries ++ lines ∷ []) (done + 1) new
driven_more old mid new events entries done e lines d less is step next = record {
  within = omega (arith, less);
  drives = subst (λ es. Drives old es (entries ++ lines ∷ []) new) (sym taken) (drives_on old mid new (take done events) entries e lines d.drives step next);
}
  where
    taken : take (done + 1) events ≡ take done events ++ e ∷ []
    taken = take_more events done e less ∙ ap (λ x. take done events ++ x ∷ []) (sym is)

-- a run and one step more
run_on : (job_of : Denoting) (start w v : World) (before : List meant.Event) (told : List (List Entry)) (e : meant.Event) (lines : List Entry) →
    Runs job_of start before told w → Transition job_of w e lines v → Runs job_of start (before ++ e ∷ []) (told ++ lines ∷ []) v
run_on job_of start w v [] [] e lines r t = (v, subst (λ s. Transition job_of s e lines v) r t, refl)
run_on job_of start w v (x ∷ before) (y ∷ told) e lines r t = (r.0, r.1, run_on job_of r.0 w v before told e lines r.2 t)
run_on job_of start w v [] (y ∷ told) e lines r t = absurd r
run_on job_of start w v (x ∷ before) [] e lines r t = absurd r

abbrev Promised : (old : Machine) (e : Event) (lines : List Entry) (new : Machine) → Steps old e lines (world_of new) → Type 0
Promised old e lines new s = ArePromised old lines new

-- what is promised behind a run from a start
module _ (law : PromisesAreKept) (job_of : Denoting) (start : World) (is_start : IsStart start) where
  promised_on : (old new : Machine) (before : List meant.Event) (told : List (List Entry)) (events : List Event) (entries : List (List Entry)) →
      denoting old ≡ job_of → Runs job_of start before told (world_of old) → (chain : Drives old events entries new) →
      Along Promised old events entries new chain
  promised_on old new before told [] [] same runs chain = tt
  promised_on old new before told (e ∷ es) (lines ∷ more) same runs chain =
      let t : Transition job_of (world_of old) (meant_by e) lines (world_of chain.0) =
      subst (λ j. Transition j (world_of old) (meant_by e) lines (world_of chain.0)) same chain.1.0 in (
        (λ job tracks stated there. subst (λ j. IsPromised j (world_of old) (world_of chain.0) job stated) (sym same)
            (law job_of start (world_of old) (world_of chain.0) before told (meant_by e) lines job tracks stated is_start runs t there)),
        promised_on chain.0 new (before ++ meant_by e ∷ []) (told ++ lines ∷ []) es more (same_denoting old chain.0 chain.2.fixed ∙ same)
            (run_on job_of start (world_of old) (world_of chain.0) before told (meant_by e) lines runs t) chain.3,
      )
  promised_on old new before told [] (lines ∷ more) same runs chain = tt
  promised_on old new before told (e ∷ es) [] same runs chain = tt

-- what a chain promises from a start on
pub chains_keep_promises : PromisesAreKept → ChainsKeepPromises
chains_keep_promises law old events entries new is_start chain = record {
  along = promised_on law (denoting old) (world_of old) is_start old new [] [] events entries refl refl chain;
}

-- what holds of each step holds of those of a chain
pub along : (P : (old : Machine) (e : Event) (lines : List Entry) (new : Machine) → Steps old e lines (world_of new) → Type 0) →
    ((old : Machine) (e : Event) (lines : List Entry) (new : Machine) (s : Steps old e lines (world_of new)) → P old e lines new s) →
    (old new : Machine) (events : List Event) (entries : List (List Entry)) (chain : Drives old events entries new) → Along P old events entries new chain
along P law old new [] [] chain = tt
along P law old new (e ∷ es) (lines ∷ more) chain = (law old e lines chain.0 chain.1, along P law chain.0 new es more chain.3)
along P law old new [] (lines ∷ more) chain = tt
along P law old new (e ∷ es) [] chain = tt
