-- The machine is supplied for its next events, at the start and behind each event.
use Rattle.std.proofs.Common.{◌≡◌, ◌≢◌, ℕ, zero, suc, false, List, [], ◌∷◌, map, Option, Some, None, All, drop, length, ◌<◌, arith, refl, sym, ap, ◌∙◌, subst}
use Rattle.std.specs.Prelude.{slice_get}
use Rattle.std.proofs.lemmas.List.Elements.{All-head, All-nil, All-tail}
use Rattle.jcl_plan.specs.declared.entry.Entry.{Entry}
use Rattle.jcl_plan.specs.declared.plan.JobPlan.{JobPlan}
use Rattle.jcl_meaning.specs.declared.state.Own.{Own}
use Rattle.jcl_meaning.specs.Agendas.{agenda}
use Rattle.jcl_meaning.specs.Names.{names_of}
use Rattle.jcl_meaning.specs.Parts.{SamePart}
use Rattle.meaning_laws.proofs.Parts.{part_back}
use Rattle.world_meaning.specs.declared.event.Event.{Event}
use Rattle.world_meaning.specs.declared.event.Event.TheVariants as event
use Rattle.world_meaning.specs.Cancels.{RunsNot, is_admitted}
use Rattle.world_meaning.specs.Lenses.{WorldStore, seen}
use Rattle.world_meaning.specs.Readings.{Denoting}
use Rattle.world_meaning.specs.Starts.{IsStart}
use Rattle.world_meaning.specs.Tracks.{kept_of}
use Rattle.world_meaning.specs.Transitions.{Transition}
use Rattle.world_meaning.specs.Worlds.{Admission, Admitted, Config, Initiator, IsAt, Kept, Named, Running, Selected, Shared, Stage, Wanting, World}
use Rattle.world_laws.specs.Beside.{FitsAt, IsBesideAt, IsCancelOf, IsTurnOf, RunsBeside, RunsFit, TurnsBeside}
use Rattle.world_laws.specs.KeptTracks.{StaysOn}
use Rattle.world_laws.proofs.Beside.{one_there, parts_stay}
use Rattle.world_laws.proofs.Effects.{Effect, changes, ended_early, goes, picks, still, unqueued}
use Rattle.world_laws.proofs.TracksKept.{kept_stays}
use Rattle.law_core.specs.Soundness.{IsSound, RunsAt, named_plan}
use Rattle.law_core.proofs.Places.{WasAt, here, one_running, runs_cases, runs_same, there}
use Rattle.case_laws.specs.Cases.{CanGoOn, HasTracks, IsSupplied, MayMake}
use Rattle.case_laws.proofs.Going.{RunsOn, goes_on}
use Rattle.case_laws.proofs.KeptAlone.{kept_founded}
use Rattle.case_laws.proofs.Making.{may_make_alike}
use Rattle.case_laws.proofs.Spooled.{HasLines, spooled_kept}
use Rattle.case_laws.proofs.StillKept.{has_for_job}
use Rattle.plain.specs.Lists.{Differ}

-- an initiator has one place
no_other : (ns : List ℕ) (n k : ℕ) → All (λ m. n ≢ m) ns → slice_get ns k ≡ Some n → ⊥
no_other [] n k all e = absurd cc
no_other (m ∷ ns) n zero all e = let is : m ≡ n = cc in All-head (λ m. n ≢ m) m ns all (sym is)
no_other (m ∷ ns) n (suc k) all e = no_other ns n k (All-tail (λ m. n ≢ m) m ns all) e

pub same_place : (ns : List ℕ) (j k n : ℕ) → Differ ns → slice_get ns j ≡ Some n → slice_get ns k ≡ Some n → j ≡ k
same_place [] j k n d e f = absurd cc
same_place (m ∷ ns) zero zero n d e f = refl
same_place (m ∷ ns) zero (suc k) n d e f = let is : m ≡ n = cc in absurd (no_other ns m k d.0 (f ∙ ap Some (sym is)))
same_place (m ∷ ns) (suc j) zero n d e f = let is : m ≡ n = cc in absurd (no_other ns m j d.0 (e ∙ ap Some (sym is)))
same_place (m ∷ ns) (suc j) (suc k) n d e f = ap suc (same_place ns j k n d.1 e f)

pub get_number : (xs : List Initiator) (k : ℕ) (x : Initiator) → slice_get xs k ≡ Some x → slice_get (map (λ (y : Initiator). y.number) xs) k ≡ Some x.number
get_number [] k x e = absurd cc
get_number (y ∷ xs) zero x e = let is : y ≡ x = cc in ap (λ (z : Initiator). Some z.number) is
get_number (y ∷ xs) (suc k) x e = get_number xs k x e

same_number : (e : Event) (x y : Initiator) → IsTurnOf e x → IsTurnOf e y → x.number ≡ y.number
same_number (event.Turn number) x y h g = h ∙ sym g
same_number (event.Read deck) x y h g = absurd h
same_number (event.DeviceEnd serial) x y h g = absurd h
same_number (event.Write class) x y h g = absurd h
same_number (event.Cancel job) x y h g = absurd h
same_number (event.Zap n offset bytes) x y h g = absurd h
same_number event.Display x y h g = absurd h
same_number (event.Date day) x y h g = absurd h

cancel_no_turn : (e : Event) (job : ℕ) (x : Initiator) → IsCancelOf e job → IsTurnOf e x → ⊥
cancel_no_turn (event.Cancel other) job x h turn = turn
cancel_no_turn (event.Turn number) job x h turn = h
cancel_no_turn (event.Read deck) job x h turn = h
cancel_no_turn (event.DeviceEnd serial) job x h turn = h
cancel_no_turn (event.Write class) job x h turn = h
cancel_no_turn (event.Zap n offset bytes) job x h turn = h
cancel_no_turn event.Display job x h turn = h
cancel_no_turn (event.Date day) job x h turn = h

not_admitted : (c : Config) (s : Shared) (job : ℕ) (stage : Stage) → is_admitted stage ≡ false → CanGoOn c s job stage
not_admitted c s job (Selected first) e = tt
not_admitted c s job (Wanting plan) e = tt
not_admitted c s job (Named plan) e = tt
not_admitted c s job (Admitted plan a count own) e = absurd cc

-- with the same sets, and the same tracks kept
same_supply : (c : Config) (x y : Shared) (job : ℕ) (stage : Stage) → y.store ≡ x.store → y.kept ≡ x.kept → CanGoOn c x job stage → CanGoOn c y job stage
same_supply c x y job (Selected first) e f can = tt
same_supply c x y job (Wanting plan) e f can = tt
same_supply c x y job (Named plan) e f can = tt
same_supply c x y job (Admitted plan a count own) e f can = (
  can.0,
  λ is p m. subst (λ (kept : List ℕ → List Kept). HasTracks (kept p.serial) plan job p) (sym f)
      (can.1 is p (subst (λ (w : WorldStore). MayMake a.fixed (drop count (agenda plan c.programs)) (seen job w) own p) e m)),
)

-- with an equal part of the sets, and the same tracks kept for the job
part_supply : (c : Config) (x y : Shared) (job : ℕ) (plan : JobPlan) (a : Admission) (count : ℕ) (own : Own) → FitsAt c (Admitted plan a count own) →
    SamePart (names_of plan) (seen job x.store) (seen job y.store) → ((serial : List ℕ) → kept_of job y.kept serial ≡ kept_of job x.kept serial) →
    CanGoOn c x job (Admitted plan a count own) → CanGoOn c y job (Admitted plan a count own)
part_supply c x y job plan a count own fits part kept can = (
  can.0,
  λ is p m. has_for_job plan job p (x.kept p.serial) (y.kept p.serial) (kept p.serial)
      (can.1 is p (may_make_alike (names_of plan) a.fixed (drop count (agenda plan c.programs)) (seen job y.store) (seen job x.store) own p
      (part_back (names_of plan) (seen job x.store) (seen job y.store) part) fits m)),
)

module _ (job_of : Denoting) (old new : World) (e : Event) (lines : List Entry) (s : IsSound old) (h : IsSupplied old)
    (t : Transition job_of old e lines new) where
  fits_there : (place : ℕ) (r : Running) → RunsAt old place r → FitsAt old.config r.stage
  fits_there place r run = subst (RunsFit old.config) run.running (s.fits place run.it run.at)

  -- a job whose turn it is not
  module _ (place : ℕ) (r : Running) (run : RunsAt old place r) (other_turn : IsTurnOf e run.it → ⊥) where
    not_its_turn : (other : ℕ) (x : Initiator) → IsAt old other x → IsTurnOf e x → other ≡ place → ⊥
    not_its_turn other x at turn same = other_turn (subst (IsTurnOf e) (one_there old.initiators other place x run.it same at run.at) turn)

    not_running : (other : ℕ) (x : Initiator) (o : Option Running) → IsAt old other x → x.running ≡ o → (other ≡ place → ⊥) → RunsNot o r.job
    not_running other x None at runs apart = tt
    not_running other x (Some q) at runs apart = λ same. apart ((s.alone place r run).alone other q (record { it = x; at = at; running = runs }) same)

    module _ (plan : JobPlan) (a : Admission) (count : ℕ) (own : Own) (stage : r.stage ≡ Admitted plan a count own) where
      on : StaysOn old e r.job
      on = record {
        no_turn = λ other x at turn. not_running other x x.running at refl (not_its_turn other x at turn);
        not_waiting = λ cancel. (s.alone place r run).not_waiting;
        admitted = λ cancel other x q at runs same.
            let at_place : other ≡ place = (s.alone place r run).alone other q (record { it = x; at = at; running = runs }) same in
            let one : q ≡ r = one_running old place q r (subst (λ k. RunsAt old k q) at_place (record { it = x; at = at; running = runs })) run in
            ap (λ (z : Running). is_admitted z.stage) one ∙ ap is_admitted stage;
      }

      is_beside : (other : ℕ) (x : Initiator) (o : Option Running) → IsAt old other x → x.running ≡ o → (other ≡ place → ⊥) → RunsBeside r.job (names_of plan) o
      is_beside other x None at runs apart = tt
      is_beside other x (Some q) at runs apart = by_stage q.stage refl
        where
          by_stage : (z : Stage) → q.stage ≡ z → IsBesideAt r.job (names_of plan) q.job z
          by_stage (Selected first) is = tt
          by_stage (Wanting p) is = tt
          by_stage (Named p) is = tt
          by_stage (Admitted p b n o) is = (
            λ same. apart ((s.alone place r run).alone other q (record { it = x; at = at; running = runs }) same),
            s.compatible other place q r p plan (record { it = x; at = at; running = runs }) run apart (ap named_plan is) (ap named_plan stage),
          )

      beside : TurnsBeside old e r.job (names_of plan)
      beside = record {
        beside = λ other x at turn. is_beside other x x.running at refl (not_its_turn other x at turn);
        fits = λ other x at turn. s.fits other x at;
      }

      admitted_stays : CanGoOn old.config new.shared r.job (Admitted plan a count own)
      admitted_stays =
          part_supply old.config old.shared new.shared r.job plan a count own (subst (FitsAt old.config) stage (fits_there place r run))
          (parts_stay job_of old new e lines r.job (names_of plan) beside t)
          (λ serial. kept_stays r.job serial old new e on (changes job_of old new e lines t).effect)
          (subst (CanGoOn old.config old.shared r.job) stage (h.running place r run))

    stays_supplied : (stage : Stage) → r.stage ≡ stage → CanGoOn old.config new.shared r.job stage
    stays_supplied (Selected first) is = tt
    stays_supplied (Wanting plan) is = tt
    stays_supplied (Named plan) is = tt
    stays_supplied (Admitted plan a count own) is = admitted_stays plan a count own is

  by_effect : Effect old e new → (place : ℕ) (r : Running) → RunsAt new place r → CanGoOn old.config new.shared r.job r.stage
  by_effect (still i k l) place r run =
      same_supply old.config old.shared new.shared r.job r.stage k l (h.running place r (runs_same old new i place r run))
  by_effect (picks at x first q is_at turn was_idle stage i k l) place r run = by_place (runs_cases old new at x (Some q) is_at i place r run)
    where
      by_place : WasAt old at (Some q) place r → CanGoOn old.config new.shared r.job r.stage
      by_place (here same is) =
          let one : q ≡ r = cc in not_admitted old.config new.shared r.job r.stage (subst (λ (z : Running). is_admitted z.stage ≡ false) one stage)
      by_place (there apart was) = same_supply old.config old.shared new.shared r.job r.stage k l (h.running place r was)
  by_effect (goes at x q turn_lines shared runs is_at turn running g i k l) place r run = by_place (runs_cases old new at x runs is_at i place r run)
    where
      it : RunsAt old at q
      it = record { it = x; at = is_at; running = running }

      by_place : WasAt old at runs place r → CanGoOn old.config new.shared r.job r.stage
      by_place (here same is) =
          same_supply old.config shared new.shared r.job r.stage k l
          (subst (RunsOn old.config shared) is
          (goes_on old.config old.shared q s.programs q.stage turn_lines shared runs refl (fits_there at q it) (h.running at q it) g))
      by_place (there apart was) =
          stays_supplied place r was
          (λ its. apart (same_place (map (λ (y : Initiator). y.number) old.initiators) place at x.number s.initiators
          (get_number old.initiators place was.it was.at ∙ ap Some (same_number e was.it x its turn)) (get_number old.initiators at x is_at)))
          r.stage refl
  by_effect (unqueued w contained cancel i k l) place r run =
      let was : RunsAt old place r = runs_same old new i place r run in
      stays_supplied place r was (cancel_no_turn e w.job was.it cancel) r.stage refl
  by_effect (ended_early at x q is_at running cancel stage i k l) place r run = by_place (runs_cases old new at x None is_at i place r run)
    where
      by_place : WasAt old at None place r → CanGoOn old.config new.shared r.job r.stage
      by_place (here same is) = absurd cc
      by_place (there apart was) = stays_supplied place r was (cancel_no_turn e q.job was.it cancel) r.stage refl

  pub supplied_behind : IsSupplied new
  supplied_behind = record {
    spooled = spooled_kept job_of old new e lines h.spooled t;
    running = λ place r run.
        subst (λ (c : Config). CanGoOn c new.shared r.job r.stage) (sym (changes job_of old new e lines t).config)
        (by_effect (changes job_of old new e lines t).effect place r run);
    kept = λ serial k here_now. kept_founded old new s h.kept e serial k (changes job_of old new e lines t).effect here_now;
  }

-- at the start no initiator has a job
idle_at : (xs : List Initiator) (place : ℕ) (x : Initiator) → All (λ y. y.running ≡ None) xs → slice_get xs place ≡ Some x → x.running ≡ None
idle_at [] place x all e = absurd cc
idle_at (y ∷ xs) zero x all e = let is : y ≡ x = cc in ap (λ (z : Initiator). z.running) (sym is) ∙ All-head (λ z. z.running ≡ None) y xs all
idle_at (y ∷ xs) (suc place) x all e = idle_at xs place x (All-tail (λ z. z.running ≡ None) y xs all) e

pub starts_supplied : (w : World) → IsStart w → IsSupplied w
starts_supplied w s = record {
  spooled = subst (All HasLines) (sym s.unused.spool) (All-nil HasLines);
  running = λ place r run. absurd (nobody place r run);
  kept = λ serial k (n, less, is). absurd (none_at n (subst (λ (kept : List Kept). n < length kept) (s.unused.kept serial) less));
}
  where
    none_at : (n : ℕ) → n < 0 → ⊥
    none_at n less = omega (arith, less)

    nobody : (place : ℕ) (r : Running) → RunsAt w place r → ⊥
    nobody place r run = let no : None ≡ Some r = sym (idle_at w.initiators place run.it s.idle run.at) ∙ run.running in absurd cc
