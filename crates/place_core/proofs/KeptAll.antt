-- What is kept once the primaries of all places are.
use Rattle.std.proofs.Common.{◌≡◌, ◌≢◌, ℕ, zero, suc, ◌==◌, ◌&&◌, not, Bool, true, false, cond, List, [], ◌∷◌, Option, Some, None, IsSome, Result, Ok, Err, IfOk, map, ◌⊎◌, inl, inr, ⊎_elim, refl, sym, ap, subst, ◌∙◌, arith}
use Rattle.std.specs.FinMap.{get}
use Rattle.std.specs.List.{Contains}
use Rattle.std.specs.Str.{bytes_eq}
use Rattle.std.proofs.lemmas.Bool.{and_from, and_parts, eqb-false, eqb-true, false_from_ne_true}
use Rattle.std.proofs.lemmas.Option.{same_Some}
use Rattle.std.proofs.lemmas.Slice.Eq.{bytes_eq-Decides}
use Rattle.extent_core.specs.declared.extent.Extent.{Extent}
use Rattle.cb_meaning.specs.Writable.{kind_at}
use Rattle.jcl_plan.specs.declared.plan.JobPlan.{JobPlan}
use Rattle.jcl_meaning.specs.declared.state.Place.{Place}
use Rattle.vtoc_core.specs.declared.entry.SetKey.{SetKey}
use Rattle.vtoc_core.specs.Extents.{tracks_in}
use Rattle.world_meaning.specs.Admissions.{IsKeptAt, asked_at, primary_asked}
use Rattle.world_meaning.specs.Tracks.{is_kept_for}
use Rattle.mount_core.specs.declared.place.KeptPlace.{KeptPlace}
use Rattle.mount_core.specs.Mounts.{MountedState}
use Rattle.shared_core.specs.declared.store.SharedStore.{SharedStore}
use Rattle.shared_core.specs.Rooms.{is_same_place, kept_place, room_of}
use Rattle.shared_core.specs.Shown.{kept_extents, mounted_in, set_on}
use Rattle.shared_core.proofs.Making.{same_place-refl, same_place-true}
use Rattle.shared_core.proofs.Showing.{part_shown}
use Rattle.shared_core.proofs.ShownLists.{any_shown, each_shown, once_shown}
use Rattle.place_core.specs.Keepings.{KeepsAll, keep_on, kept_in}
use Rattle.place_core.specs.Placings.{NothingKeptFor}
use Rattle.place_core.specs.Volumes.{changed_on, has_room}
use Rattle.place_core.proofs.KeptOn.{KeepsOne, keeps_one}

module _ (job : ℕ) (plan : JobPlan) where
  abbrev kept_at : List MountedState → List ℕ → KeptPlace → Option (List Extent)
  kept_at volumes v at = kept_extents (mounted_in volumes v) at

  -- what is kept at a place is the primary of its DD, and the place is one of these
  abbrev IsPrimary : List Place → List ℕ → KeptPlace → List Extent → Type 0
  IsPrimary places v at list = (tracks_in list ≡ primary_asked (kind_at plan.steps at.step at.dd)) × Contains places (record { step = at.step; dd = at.dd; serial = v })

  pub record KeepsEach (places : List Place) (old new : List MountedState) : Type 0 where
    pub others : (v : List ℕ) (at : KeptPlace) → at.job ≢ job → kept_at new v at ≡ kept_at old v at
    pub founded : (v : List ℕ) (at : KeptPlace) (list : List Extent) → kept_at new v at ≡ Some list → (kept_at old v at ≡ Some list) ⊎ IsPrimary places v at list
    pub stays : (v : List ℕ) (at : KeptPlace) → IsSome (kept_at old v at) → IsSome (kept_at new v at)
    pub all : (p : Place) → Contains places p → IsSome (kept_at new p.serial (kept_place job p))
    pub sets : (v : List ℕ) (k : SetKey) → set_on (mounted_in new v) k ≡ set_on (mounted_in old v) k
    pub rooms : map room_of new ≡ map room_of old

  none_kept : (volumes : List MountedState) → KeepsEach [] volumes volumes
  none_kept volumes = record {
    others = λ v at n. refl;
    founded = λ v at list e. inl e;
    stays = λ v at s. s;
    all = λ p c. absurd (omega (arith, c.1));
    sets = λ v k. refl;
    rooms = refl;
  }

  some_if : (b : Bool) (list : List Extent) (o : Option (List Extent)) → IsSome o → IsSome (cond b (Some list) o)
  some_if true list o s = refl
  some_if false list o s = s

  module _ (p : Place) (places : List Place) (old mid new : List MountedState) (one : KeepsOne old mid (kept_place job p) p.serial (asked_at plan p))
      (h : KeepsEach places mid new) where
    abbrev is_here : List ℕ → KeptPlace → Bool
    is_here v at = is_same_place at (kept_place job p) && bytes_eq v p.serial

    here_both : (v : List ℕ) (at : KeptPlace) → is_here v at ≡ true → (at ≡ kept_place job p) × (v ≡ p.serial)
    here_both v at e =
        let both = and_parts (is_same_place at (kept_place job p)) (bytes_eq v p.serial) e in
        (same_place-true at (kept_place job p) both.0, (bytes_eq-Decides v p.serial).0 both.1)

    not_here : (v : List ℕ) (at : KeptPlace) → at.job ≢ job → is_here v at ≡ false
    not_here v at n = false_from_ne_true (is_here v at) (λ e. n (ap (λ (k : KeptPlace). k.job) (here_both v at e).0))

    more : (x : Place) → Contains places x → Contains (p ∷ places) x
    more x c = (suc c.0, omega (arith, c.1), c.2)

    its_primary : (v : List ℕ) (at : KeptPlace) → is_here v at ≡ true → IsPrimary (p ∷ places) v at one.list
    its_primary v at e =
        let both = here_both v at e in
        subst (λ (q : KeptPlace × List ℕ). IsPrimary (p ∷ places) q.1 q.0 one.list) (λ i. (sym both.0 i, sym both.1 i))
        (one.tracks, (0, omega arith, refl))

    founded_by : (v : List ℕ) (at : KeptPlace) (list : List Extent) (b : Bool) → is_here v at ≡ b → cond b (Some one.list) (kept_at old v at) ≡ Some list →
        (kept_at old v at ≡ Some list) ⊎ IsPrimary (p ∷ places) v at list
    founded_by v at list true t e = inr (subst (IsPrimary (p ∷ places) v at) (same_Some one.list list e) (its_primary v at t))
    founded_by v at list false t e = inl e

    all_by : (q : Place) (c : Contains (p ∷ places) q) → IsSome (kept_at new q.serial (kept_place job q))
    all_by q (zero, l, e) =
        subst (λ (x : Place). IsSome (kept_at new x.serial (kept_place job x))) e
        (h.stays p.serial (kept_place job p) (subst IsSome (sym (one.kept p.serial (kept_place job p)))
        (subst (λ b. IsSome (cond b (Some one.list) (kept_at old p.serial (kept_place job p))))
        (sym (and_from (is_same_place (kept_place job p) (kept_place job p)) (bytes_eq p.serial p.serial)
        (same_place-refl (kept_place job p)) ((bytes_eq-Decides p.serial p.serial).1 refl))) refl)))
    all_by q (suc k, l, e) = h.all q (k, omega (arith, l), e)

    joined : KeepsEach (p ∷ places) old new
    joined = record {
      others = λ v at n. h.others v at n ∙ one.kept v at ∙ ap (λ b. cond b (Some one.list) (kept_at old v at)) (not_here v at n);
      founded = λ v at list e.
          ⊎_elim
          (λ (f : kept_at mid v at ≡ Some list). founded_by v at list (is_here v at) refl (sym (one.kept v at) ∙ f))
          (λ (f : IsPrimary places v at list). inr (f.0, more (record { step = at.step; dd = at.dd; serial = v }) f.1))
          (h.founded v at list e);
      stays = λ v at s. h.stays v at (subst IsSome (sym (one.kept v at)) (some_if (is_here v at) one.list (kept_at old v at) s));
      all = all_by;
      sets = λ v k. h.sets v k ∙ one.sets v k;
      rooms = h.rooms ∙ one.rooms;
    }

  run_step : (p : Place) (places : List Place) (old : List MountedState) (b : Bool) → has_room (asked_at plan p) (mounted_in old p.serial) ≡ b →
      ((kept_in job plan places (changed_on (keep_on (kept_place job p) (asked_at plan p)) p.serial old)).refused ≡ None →
      KeepsEach places (changed_on (keep_on (kept_place job p) (asked_at plan p)) p.serial old)
      (kept_in job plan places (changed_on (keep_on (kept_place job p) (asked_at plan p)) p.serial old)).volumes) →
      (◌≡◌ {A = Option (List ℕ)} (cond b (kept_in job plan places (changed_on (keep_on (kept_place job p) (asked_at plan p)) p.serial old))
      (record { volumes = old; refused = Some p.serial })).refused None) →
      KeepsEach (p ∷ places) old (cond b (kept_in job plan places (changed_on (keep_on (kept_place job p) (asked_at plan p)) p.serial old))
      (record { volumes = old; refused = Some p.serial })).volumes
  run_step p places old true e ih r =
      joined p places old (changed_on (keep_on (kept_place job p) (asked_at plan p)) p.serial old)
      (kept_in job plan places (changed_on (keep_on (kept_place job p) (asked_at plan p)) p.serial old)).volumes
      (keeps_one (kept_place job p) (asked_at plan p) old p.serial e) (ih r)
  run_step p places old false e ih r = absurd cc

  pub run_keeps : (places : List Place) (old : List MountedState) → (kept_in job plan places old).refused ≡ None → KeepsEach places old (kept_in job plan places old).volumes
  run_keeps [] old r = none_kept old
  run_keeps (p ∷ places) old r =
      run_step p places old (has_room (asked_at plan p) (mounted_in old p.serial)) refl
      (run_keeps places (changed_on (keep_on (kept_place job p) (asked_at plan p)) p.serial old)) r

  module _ (places : List Place) (old new : SharedStore) (none : NothingKeptFor job old) (volumes : new ≡ record old { volumes = (kept_in job plan places old.volumes).volumes })
      (h : KeepsEach places old.volumes new.volumes) where
    without : (v : List ℕ) (at : KeptPlace) → kept_at old.volumes v at ≡ cond (not (at.job == job)) (kept_at new.volumes v at) None
    without v at = by (at.job == job) refl
      where
        by : (b : Bool) → (at.job == job) ≡ b → kept_at old.volumes v at ≡ cond (not b) (kept_at new.volumes v at) None
        by true e = none v at (eqb-true at.job job e)
        by false e = sym (h.others v at (eqb-false at.job job e))

    not_before : (v : List ℕ) (at : KeptPlace) (list : List Extent) → at.job ≡ job → kept_at old.volumes v at ≡ Some list → ⊥
    not_before v at list j e = let n : kept_at old.volumes v at ≡ None = none v at j in absurd cc

    founded_at : (v : List ℕ) (at : KeptPlace) (list : List Extent) → kept_at new.volumes v at ≡ Some list → (at.job == job) ≡ true →
        IsKeptAt plan places v (record { job = at.job; step = at.step; dd = at.dd; tracks = tracks_in list })
    founded_at v at list e j =
        ⊎_elim
        (λ (f : kept_at old.volumes v at ≡ Some list). absurd (not_before v at list (eqb-true at.job job j) f))
        (λ (f : IsPrimary places v at list). record { tracks = f.0; place = f.1 })
        (h.founded v at list e)

    its_list : (o : Option (List Extent)) → IsSome o → (list : List Extent) × (o ≡ Some list)
    its_list None s = absurd cc
    its_list (Some list) s = (list, refl)

    its_test : (p : Place) (n : ℕ) → is_kept_for job p p.serial (record { job = job; step = p.step; dd = p.dd; tracks = n }) ≡ true
    its_test p n =
        and_from (is_same_place (kept_place job p) (kept_place job p)) (bytes_eq p.serial p.serial) (same_place-refl (kept_place job p)) ((bytes_eq-Decides p.serial p.serial).1 refl)

    pub keeps_all : KeepsAll job plan places old new
    keeps_all = record {
      others = λ i v. sym (part_shown (λ at. not (at.job == job)) (λ k. not (k.job == job)) (λ e. refl) (mounted_in new.volumes v) (mounted_in old.volumes v) (without v)) i;
      kept = record {
        founded = λ v. each_shown (IsKeptAt plan places v) (λ k. k.job == job) (mounted_in new.volumes v) (founded_at v);
        all = λ p c.
            let l : (list : List Extent) × (kept_at new.volumes p.serial (kept_place job p) ≡ Some list) = its_list (kept_at new.volumes p.serial (kept_place job p)) (h.all p c) in
            any_shown (is_kept_for job p p.serial) (mounted_in new.volumes p.serial) (kept_place job p) l.0 l.1 (its_test p (tracks_in l.0));
        once = λ v. once_shown job (mounted_in new.volumes v);
      };
      store = λ i. record { set = λ k v. h.sets v k i; catalog = λ name. get (volumes i).catalog name };
      rooms = h.rooms;
      volumes = volumes;
    }

-- where none is told to have no room, none is refused
pub none_refused : {E : Type 0} (r : Result (Option (List ℕ)) E) (x : Option (List ℕ)) → IfOk r (λ serial. serial ≡ x) → r ≡ Ok None → x ≡ None
none_refused (Ok serial) x h e = cc
none_refused (Err fault) x h e = absurd cc
