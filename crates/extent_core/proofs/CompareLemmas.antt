-- Tracks that are marked one after another, and extents that are found.
use Rattle.std.proofs.Common.{◌≡◌, ◌≢◌, ℕ, suc, zero, ◌+◌, ◌<◌, ◌≤◌, Bool, true, cond, List, [], ◌∷◌, length, get_or, set, Some, ap, sym, ◌∙◌, subst, arith, ⊎_elim, get_or-set_same, get_or-set_other, length-set}
use Rattle.std.specs.List.{Contains}
use Rattle.std.proofs.lemmas.Bool.{cases_eq}
use Rattle.std.proofs.lemmas.List.{same_lists}
use Rattle.extent_core.specs.declared.extent.Extent.{Extent}
use Rattle.extent_core.specs.ExtentLaws.{AnswersFirst}
use Rattle.extent_core.specs.Extents.{AreApart, extent, first_of, free_extents, is_in, marked}
use Rattle.extent_core.proofs.LawLemmas.{first_is_first, free_extents_are_apart}
use Rattle.extent_core.proofs.Marking.{get_or-marked, is_in_as, is_in_within, length-marked_from}

pub marked_more : (free : Bool) (s n at m : ℕ) (tracks : List Bool) → at ≡ s + n → m ≡ n + 1 → at < length tracks → set (marked free (extent s n) tracks) at free ≡ marked free (extent s m) tracks
marked_more free s n at m tracks p q l =
    let old = marked free (extent s n) tracks in
    let new = marked free (extent s m) tracks in
    let size : length old ≡ length tracks = length-marked_from 0 free (extent s n) tracks in
    same_lists (set old at free) new (length-set old at free ∙ size ∙ sym (length-marked_from 0 free (extent s m) tracks))
    (λ k d w.
    let within : k < length tracks = omega (arith, length-set old at free) in
    ⊎_elim
    (λ (t : k ≡ at).
    let here : is_in k (extent s m) ≡ true = is_in_within k (extent s m) (omega arith) (omega arith) in
    ap (λ j. get_or (set old at free) j d) t ∙ get_or-set_same old at free d (omega arith)
    ∙ sym (get_or-marked free (extent s m) tracks k d within ∙ ap (λ b. cond b free (get_or tracks k d)) here))
    (λ (t : k ≢ at).
    let same : is_in k (extent s n) ≡ is_in k (extent s m) = is_in_as k (extent s n) (extent s m) (λ i. (omega (arith, i.0), omega (arith, i.1))) (λ i. (omega (arith, i.0), omega (arith, i.1))) in
    get_or-set_other old at k free d t
    ∙ get_or-marked free (extent s n) tracks k d within
    ∙ ap (λ b. cond b free (get_or tracks k d)) same
    ∙ sym (get_or-marked free (extent s m) tracks k d within))
    (cases_eq k at))

-- what is found first is one of the extents
pub first_contained : (n : ℕ) (es : List Extent) (e : Extent) → Some e ≡ first_of n es → Contains es e × (n ≤ e.tracks)
first_contained n es e q =
    let h : AnswersFirst n es (Some e) = subst (λ o. AnswersFirst n es o) (sym q) (first_is_first n es) in
    ((h.0, h.1, h.2), h.3)

apart_within : (from end : ℕ) (es : List Extent) (e : Extent) → AreApart from end es → Contains es e → e.start + e.tracks ≤ end
apart_within from end [] e h (k, l, q) = absurd (omega arith)
apart_within from end (f ∷ fs) e h (zero, l, q) = rw (← q) h.2
apart_within from end (f ∷ fs) e h (suc k, l, q) = apart_within (f.start + f.tracks + 1) end fs e h.3 (k, omega arith, q)

pub contained_within : (tracks : List Bool) (e : Extent) → Contains (free_extents tracks) e → e.start + e.tracks ≤ length tracks
contained_within tracks e h = apart_within 0 (length tracks) (free_extents tracks) e (free_extents_are_apart tracks) h
