-- All volumes of a store, and its catalog.
use Rattle.std.proofs.Common.{◌≡◌, ◌≢◌, ℕ, Bool, cond, List, [], ◌∷◌, Option, Some, All, refl, sym, ap, ◌∙◌, subst, inl, inr}
use Rattle.std.specs.FinMap.{same_map, nat_cmp-IsAntisymmetric, slice_cmp-IsAntisymmetric}
use Rattle.std.specs.Str.{bytes_eq}
use Rattle.std.specs.Cmp.Lexicographic.{nat_list_cmp_total}
use Rattle.std.proofs.lemmas.Bool.{cases_Bool, false_from_ne_true}
use Rattle.std.proofs.lemmas.List.Elements.{All-head, All-tail}
use Rattle.std.proofs.lemmas.Slice.Eq.{bytes_eq-Decides}
use Rattle.plain.specs.Lists.{Differ}
use Rattle.mount_core.specs.Mounts.{MountedState}
use Rattle.shared_core.specs.Extents.{FollowOn}
use Rattle.shared_core.specs.LaidOut.{IsLaidOut}
use Rattle.shared_core.specs.Shown.{mounted_in, set_on, world_store_of}
use Rattle.shared_core.specs.Tracks.{kept_shown, kept_tracks}
use Rattle.shared_core.specs.declared.store.SharedStore.{SharedStore}
use Rattle.world_meaning.specs.Lenses.{WorldStore}
use Rattle.place_core.specs.Placings.{serials_of}
use Rattle.next_laws.specs.Next.{AreShownAlike, IsNextStore, NextStoreIsDecided}
use Rattle.next_laws.proofs.Volumes.{next_volume_is_decided}

abbrev at : List ℕ → MountedState → List MountedState → Bool → Option MountedState
at serial m ms same = cond same (Some m) (mounted_in ms serial)

-- the first volume is found by its serial, and the others by theirs
at_first : (m : MountedState) (ms : List MountedState) → mounted_in (m ∷ ms) m.serial ≡ Some m
at_first m ms = ap (at m.serial m ms) ((bytes_eq-Decides m.serial m.serial).1 refl)

at_others : (m : MountedState) (ms : List MountedState) (serial : List ℕ) → m.serial ≢ serial → mounted_in (m ∷ ms) serial ≡ mounted_in ms serial
at_others m ms serial apart = ap (at serial m ms) (false_from_ne_true (bytes_eq m.serial serial) (λ e. apart ((bytes_eq-Decides m.serial serial).0 e)))

-- Lists of volumes with the same serials, which differ, are one where the volumes of each serial are.
each_decided : (olds ones others : List MountedState) → Differ (serials_of olds) → serials_of ones ≡ serials_of olds → serials_of others ≡ serials_of olds →
    ((old one other : MountedState) → mounted_in olds old.serial ≡ Some old → mounted_in ones old.serial ≡ Some one →
    mounted_in others old.serial ≡ Some other → one.serial ≡ old.serial → other.serial ≡ old.serial → one ≡ other) → ones ≡ others
each_decided [] [] [] differ same same_too next = refl
each_decided [] (x ∷ xs) others differ same same_too next = absurd cc
each_decided [] [] (y ∷ ys) differ same same_too next = absurd cc
each_decided (o ∷ os) [] others differ same same_too next = absurd cc
each_decided (o ∷ os) (x ∷ xs) [] differ same same_too next = absurd cc
each_decided (o ∷ os) (x ∷ xs) (y ∷ ys) differ same same_too next =
    let of_x : x.serial ≡ o.serial = cc in
    let of_y : y.serial ≡ o.serial = cc in
    let of_xs : serials_of xs ≡ serials_of os = cc in
    let of_ys : serials_of ys ≡ serials_of os = cc in
    let first : x ≡ y = next o x y (at_first o os) (subst (λ s. mounted_in (x ∷ xs) s ≡ Some x) of_x (at_first x xs))
    (subst (λ s. mounted_in (y ∷ ys) s ≡ Some y) of_y (at_first y ys)) of_x of_y in
    let rest : xs ≡ ys = each_decided os xs ys differ.1 of_xs of_ys (λ old one other here here_one here_other one_so other_so.
    let apart : o.serial ≢ old.serial = is_apart os old differ.0 here in
    next old one other (at_others o os old.serial apart ∙ here) (at_others x xs old.serial (λ e. apart (sym of_x ∙ e)) ∙ here_one)
    (at_others y ys old.serial (λ e. apart (sym of_y ∙ e)) ∙ here_other) one_so other_so) in
    λ i. first i ∷ rest i
  where
    is_apart : (ms : List MountedState) (old : MountedState) → All (λ s. o.serial ≢ s) (serials_of ms) → mounted_in ms old.serial ≡ Some old →
        o.serial ≢ old.serial
    is_apart [] old differ here = absurd cc
    is_apart (m ∷ ms) old differ here =
        elim (cases_Bool (bytes_eq m.serial old.serial)) [
          | inl same ↦ λ e. All-head (λ s. o.serial ≢ s) m.serial (serials_of ms) differ (e ∙ sym ((bytes_eq-Decides m.serial old.serial).0 same))
          | inr other ↦ is_apart ms old (All-tail (λ s. o.serial ≢ s) m.serial (serials_of ms) differ) (sym (ap (at old.serial m ms) other) ∙ here)
        ]

-- a volume that is found is one of them
found : (P : MountedState → Type 0) (ms : List MountedState) (serial : List ℕ) (m : MountedState) → All P ms → mounted_in ms serial ≡ Some m → P m
found P [] serial m all here = absurd cc
found P (x ∷ ms) serial m all here =
    elim (cases_Bool (bytes_eq x.serial serial)) [
      | inl same ↦ let first : Some x ≡ Some m = sym (ap (at serial x ms) same) ∙ here in
          let is : x ≡ m = cc in
          subst P is (All-head P x ms all)
      | inr other ↦ found P ms serial m (All-tail P x ms all) (sym (ap (at serial x ms) other) ∙ here)
    ]

module _ (old one other : SharedStore) (laid_out : All IsLaidOut old.volumes) (first : IsNextStore old one) (second : IsNextStore old other)
    (store : world_store_of one ≡ world_store_of other) (kept : kept_shown one.volumes ≡ kept_shown other.volumes) where
  follow_so : (new : SharedStore) → IsNextStore old new → (m n : MountedState) → mounted_in old.volumes m.serial ≡ Some m →
      mounted_in new.volumes m.serial ≡ Some n → FollowOn (Some m) (Some n)
  follow_so new is m n here there =
      subst (λ o. FollowOn (Some m) o) there (subst (λ o. FollowOn o (mounted_in new.volumes m.serial)) here (is.follow m.serial))

  alike : (m a b : MountedState) → mounted_in one.volumes m.serial ≡ Some a → mounted_in other.volumes m.serial ≡ Some b → a.serial ≡ m.serial →
      b.serial ≡ m.serial → AreShownAlike a b
  alike m a b here_one here_other of_one of_other = record {
    serial = of_one ∙ sym of_other;
    sets = λ key.
        sym (ap (λ o. set_on o key) here_one) ∙ ap (λ (w : WorldStore). w.set key m.serial) store ∙ ap (λ o. set_on o key) here_other;
    kept = sym (ap kept_tracks here_one) ∙ ap (λ shown. shown m.serial) kept ∙ ap kept_tracks here_other;
  }

  volumes : Differ (serials_of old.volumes) → one.volumes ≡ other.volumes
  volumes differ =
      each_decided old.volumes one.volumes other.volumes differ first.serials second.serials
      (λ m a b here here_one here_other of_one of_other.
      next_volume_is_decided m a b (found IsLaidOut old.volumes m.serial m laid_out here)
      (record {
        follows = follow_so one first m a here here_one;
        laid_out = found IsLaidOut one.volumes m.serial a first.laid_out here_one;
      })
      (record {
        follows = follow_so other second m b here here_other;
        laid_out = found IsLaidOut other.volumes m.serial b second.laid_out here_other;
      })
      (alike m a b here_one here_other of_one of_other))

  catalog : one.catalog ≡ other.catalog
  catalog =
      same_map nat_list_cmp_total (slice_cmp-IsAntisymmetric nat_cmp-IsAntisymmetric) one.catalog other.catalog
      (λ name. ap (λ (w : WorldStore). w.catalog name) store)

pub next_store_is_decided : NextStoreIsDecided
next_store_is_decided old one other differ laid_out first second store kept =
    λ i. record {
      alloc = one.alloc;
      catalog = catalog old one other laid_out first second store kept i;
      volumes = volumes old one other laid_out first second store kept differ i;
    }
