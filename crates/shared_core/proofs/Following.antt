-- What becomes of the extents of a volume where a job takes tracks.
use Rattle.std.proofs.Common.{◌≡◌, ◌≤◌, ℕ, ◌&&◌, Bool, true, false, cond, List, [], ◌∷◌, length, Option, Some, None, refl, sym, ap, subst, ◌∙◌, arith, inl, inr}
use Rattle.std.specs.Str.{bytes_eq}
use Rattle.std.proofs.lemmas.Bool.{and_from, and_parts}
use Rattle.extent_core.specs.declared.extent.Extent.{Extent}
use Rattle.jcl_meaning.specs.declared.state.Place.{Place}
use Rattle.vtoc_core.specs.Extents.{free_extents, planned, tracks_in}
use Rattle.mount_core.specs.declared.place.KeptPlace.{KeptPlace}
use Rattle.mount_core.specs.Mounts.{MountedState}
use Rattle.shared_core.specs.Extents.{FollowOn, Follows, IsMade, IsMadeOf, StaysKept, Takes, extents_on, tracks_on}
use Rattle.shared_core.specs.Giving.{whole_front}
use Rattle.shared_core.specs.Laws.{Follow}
use Rattle.shared_core.specs.Rooms.{Take, is_same_place, kept_at, kept_place, others_of, without_kept}
use Rattle.shared_core.specs.Shown.{kept_extents, mounted_in}
use Rattle.shared_core.specs.declared.store.SharedStore.{SharedStore}
use Rattle.shared_core.proofs.Making.{same_place-refl, same_place-true}

clash : {X : Type 0} (x : X) → None ≡ Some x → ⊥
clash x e = absurd cc

module _ (job : ℕ) (old new : SharedStore) (v : List ℕ) where
  abbrev o : Option MountedState
  o = mounted_in old.volumes v

  abbrev n : Option MountedState
  n = mounted_in new.volumes v

  abbrev was : KeptPlace → Option (List Extent)
  was at = kept_extents o at

  abbrev is_it : KeptPlace → Place → Bool
  is_it at p = is_same_place at (kept_place job p) && bytes_eq v p.serial

  stays_if : (b : Bool) (x : Option (List Extent)) (y : Option (List Extent)) → y ≡ cond b None x → StaysKept x y
  stays_if true x y e = inr e
  stays_if false x y e = inl e

  -- nothing is made
  none_made : (list : List Extent) → ((at : KeptPlace) → kept_extents n at ≡ was at) → IsMade None (free_extents (tracks_on o)) list → IsMadeOf o n list
  none_made list same made = record {
    kept = λ at extents e gone. absurd (clash extents (sym gone ∙ same at ∙ e));
    free = λ h. made;
  }

  -- one is made at a place
  module _ (p : Place) (kept : (at : KeptPlace) → kept_extents n at ≡ cond (is_it at p) None (was at)) where
    gone_there : bytes_eq v p.serial ≡ true → kept_extents n (kept_place job p) ≡ None
    gone_there e =
        kept (kept_place job p)
        ∙ ap (λ b. cond b None (was (kept_place job p)))
        (and_from (is_same_place (kept_place job p) (kept_place job p)) (bytes_eq v p.serial) (same_place-refl (kept_place job p)) e)

    from_kept : (b : Bool) → bytes_eq v p.serial ≡ b → (list : List Extent) (at : KeptPlace) (extents : List Extent) (c : Bool) → is_it at p ≡ c →
        was at ≡ Some extents → kept_extents n at ≡ None → IsMade (cond b (was (kept_place job p)) None) (free_extents (tracks_on o)) list → list ≡ extents
    from_kept b h list at extents false c e gone made = absurd (clash extents (sym gone ∙ kept at ∙ ap (λ d. cond d None (was at)) c ∙ e))
    from_kept true h list at extents true c e gone made =
        let here = and_parts (is_same_place at (kept_place job p)) (bytes_eq v p.serial) c in
        subst (λ k. IsMade k (free_extents (tracks_on o)) list) (ap was (sym (same_place-true at (kept_place job p) here.0)) ∙ e) made
    from_kept false h list at extents true c e gone made =
        let here = and_parts (is_same_place at (kept_place job p)) (bytes_eq v p.serial) c in
        absurd (let t : true ≡ false = sym here.1 ∙ h in cc)

    from_free : (b : Bool) → bytes_eq v p.serial ≡ b → (list : List Extent) (k : Option (List Extent)) → was (kept_place job p) ≡ k →
        ((at : KeptPlace) → kept_extents n at ≡ was at) → IsMade (cond b k None) (free_extents (tracks_on o)) list →
        planned (free_extents (tracks_on o)) (tracks_in list) ≡ Some list
    from_free false h list k e same made = made
    from_free true h list None e same made = made
    from_free true h list (Some extents) e same made = absurd (clash extents (sym (gone_there h) ∙ same (kept_place job p) ∙ e))

    one_made : (list : List Extent) → IsMade (cond (bytes_eq v p.serial) (was (kept_place job p)) None) (free_extents (tracks_on o)) list → IsMadeOf o n list
    one_made list made = record {
      kept = λ at extents e gone. from_kept (bytes_eq v p.serial) refl list at extents (is_it at p) refl e gone made;
      free = λ same. from_free (bytes_eq v p.serial) refl list (was (kept_place job p)) refl same made;
    }

  followed : (kept : Option (List Extent)) (before behind : Option (List Extent)) →
      ((list : List Extent) → IsMade kept (free_extents (tracks_on o)) list → IsMadeOf o n list) →
      Takes kept (free_extents (tracks_on o)) before behind → Follows o n before behind
  followed kept None None h t = tt
  followed kept None (Some list) h t = h list t
  followed kept (Some before) None h t = tt
  followed kept (Some before) (Some list) h t = t

  pub follow_on : (places : List Place) → length places ≤ 1 → Take job places (others_of job old) (others_of job new) → FollowOn o n
  follow_on [] few t =
      let same : (at : KeptPlace) → kept_extents n at ≡ was at = λ at. ap (λ (kept : List ℕ → KeptPlace → Option (List Extent)). kept v at) t.kept in
      record {
        sets = λ k. followed None (extents_on o k) (extents_on n k) (λ list made. none_made list same made) (t.extents v k);
        kept = λ at. inl (same at);
        unusable = t.unusable v;
      }
  follow_on (p ∷ []) few t =
      let kept : (at : KeptPlace) → kept_extents n at ≡ cond (is_it at p) None (was at) =
      λ at. ap (λ (kept : List ℕ → KeptPlace → Option (List Extent)). kept v at) t.kept in
      record {
        sets = λ k. followed (cond (bytes_eq v p.serial) (was (kept_place job p)) None) (extents_on o k) (extents_on n k) (one_made p kept) (t.extents v k);
        kept = λ at. stays_if (is_it at p) (was at) (kept_extents n at) (kept at);
        unusable = t.unusable v;
      }
  follow_on (p ∷ q ∷ places) few t = absurd (omega (arith, few))

-- where nothing is done
set_follows : (o : Option MountedState) (x : Option (List Extent)) → Follows o o x x
set_follows o None = tt
set_follows o (Some list) = inl (whole_front list)

pub stays_follow : (s : SharedStore) → Follow s s
stays_follow s v = record {
  sets = λ k. set_follows (mounted_in s.volumes v) (extents_on (mounted_in s.volumes v) k);
  kept = λ at. inl refl;
  unusable = λ n. refl;
}
