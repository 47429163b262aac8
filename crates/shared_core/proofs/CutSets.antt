-- The tracks that stay of a set that is cut.
use Rattle.std.proofs.Common.{◌≡◌, ℕ, ◌+◌, ◌-◌, ◌==◌, min, nat_le, Bool, true, false, cond, List, [], ◌∷◌, refl, sym, ap, ◌∙◌, arith}
use Rattle.std.proofs.lemmas.Bool.{eqb-true, leb-true, leb-false}
use Rattle.extent_core.specs.declared.extent.Extent.{Extent}
use Rattle.extent_core.specs.Extents.{extent}
use Rattle.vtoc_core.specs.Extents.{kept_front, tracks_in}
use Rattle.vtoc_core.proofs.PlanLemmas.{tracks_in-cons}

kept_test : (a b : Bool) (n : ℕ) (e : Extent) (es fs : List Extent) → (n == 0) ≡ a → nat_le e.tracks n ≡ b →
    tracks_in fs ≡ min (n - e.tracks) (tracks_in es) →
    tracks_in (cond a [] (cond b (e ∷ fs) (extent e.start n ∷ []))) ≡ min n (e.tracks + tracks_in es)
kept_test true b n e es fs z t ih = omega (arith, eqb-true n 0 z)
kept_test false true n e es fs z t ih = omega (arith, leb-true e.tracks n t, tracks_in-cons e fs)
kept_test false false n e es fs z t ih = omega (arith, leb-false e.tracks n t, tracks_in-cons (extent e.start n) [])

pub kept_size : (n : ℕ) (es : List Extent) → tracks_in (kept_front n es) ≡ min n (tracks_in es)
kept_size n [] = omega (arith)
kept_size n (e ∷ es) = kept_test (n == 0) (nat_le e.tracks n) n e es (kept_front (n - e.tracks) es) refl refl (kept_size (n - e.tracks) es)
    ∙ ap (min n) (sym (tracks_in-cons e es))
