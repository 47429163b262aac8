-- Tracks that are given up, one after another.
use Rattle.std.proofs.Common.{◌≡◌, ◌≢◌, ◌<◌, ◌≤◌, ℕ, suc, ◌+◌, ◌-◌, min, List, [], ◌∷◌, length, Option, Some, None, refl, sym, subst, ap, ◌∙◌, arith, ⊎_elim, inl}
use Rattle.std.proofs.lemmas.Bool.{cases_eq, cases_lt, eq-eqb, ne_eqb, le-leb, lt-leb}
use Rattle.extent_core.specs.declared.extent.Extent.{Extent}
use Rattle.extent_core.specs.Extents.{extent}
use Rattle.vtoc_core.specs.Extents.{kept_front, tracks_in}
use Rattle.vtoc_core.proofs.PlanLemmas.{tracks_in-cons}
use Rattle.shared_core.specs.Extents.{GivesUp, IsFront, Takes}
use Rattle.shared_core.specs.Rooms.{GiveUp, Others, Take}

none_left : (n : ℕ) (es : List Extent) → n ≡ 0 → kept_front n es ≡ []
none_left n [] h = refl
none_left n (e ∷ es) h = simp (eq-eqb n 0 h)

whole_left : (es : List Extent) (e : Extent) (n : ℕ) → n ≢ 0 → e.tracks ≤ n → kept_front n (e ∷ es) ≡ e ∷ kept_front (n - e.tracks) es
whole_left es e n h l = simp (ne_eqb n 0 h, le-leb e.tracks n l)

part_left : (es : List Extent) (e : Extent) (n : ℕ) → n ≢ 0 → n < e.tracks → kept_front n (e ∷ es) ≡ extent e.start n ∷ []
part_left es e n h l = simp (ne_eqb n 0 h, lt-leb e.tracks n l)

-- more tracks than there are: all stay
pub all_left : (n : ℕ) (es : List Extent) → tracks_in es < n → kept_front n es ≡ es
all_left n [] h = refl
all_left n (e ∷ es) h =
    let t : tracks_in (e ∷ es) ≡ e.tracks + tracks_in es = tracks_in-cons e es in
    whole_left es e n (λ z. absurd (omega (arith, h, z))) (omega (arith, h, t)) ∙ ap (λ fs. e ∷ fs) (all_left (n - e.tracks) es (omega (arith, h, t)))

pub whole_front : (es : List Extent) → IsFront es es
whole_front es = (suc (tracks_in es), sym (all_left (suc (tracks_in es)) es (omega arith)))

-- the front of a front
front_twice : (a b : ℕ) (es : List Extent) → kept_front a (kept_front b es) ≡ kept_front (min a b) es
front_twice a b [] = refl
front_twice a b (e ∷ es) =
    ⊎_elim
    (λ (z : b ≡ 0). ap (kept_front a) (none_left b (e ∷ es) z) ∙ sym (none_left (min a b) (e ∷ es) (omega (arith, z))))
    (λ (z : b ≢ 0).
    ⊎_elim
    (λ (y : a ≡ 0). none_left a (kept_front b (e ∷ es)) y ∙ sym (none_left (min a b) (e ∷ es) (omega (arith, y))))
    (λ (y : a ≢ 0).
    ⊎_elim
    (λ (p : b < e.tracks).
    ap (kept_front a) (part_left es e b z p)
    ∙ ⊎_elim
    (λ (q : a < b). part_left [] (extent e.start b) a y q ∙ sym (part_left es e (min a b) (λ m. y (omega (arith, m, q))) (omega (arith, p, q)) ∙ ap (λ n. extent e.start n ∷ []) (omega (arith, q))))
    (λ (q : b ≤ a). whole_left [] (extent e.start b) a y q ∙ sym (part_left es e (min a b) (λ m. z (omega (arith, m, q))) (omega (arith, p, q)) ∙ ap (λ n. extent e.start n ∷ []) (omega (arith, q))))
    (cases_lt a b))
    (λ (p : e.tracks ≤ b).
    ap (kept_front a) (whole_left es e b z p)
    ∙ ⊎_elim
    (λ (q : a < e.tracks).
    part_left (kept_front (b - e.tracks) es) e a y q
    ∙ sym (part_left es e (min a b) (λ m. y (omega (arith, m, q, p))) (omega (arith, p, q)) ∙ ap (λ n. extent e.start n ∷ []) (omega (arith, p, q))))
    (λ (q : e.tracks ≤ a).
    whole_left (kept_front (b - e.tracks) es) e a y q
    ∙ ap (λ fs. e ∷ fs) (front_twice (a - e.tracks) (b - e.tracks) es ∙ ap (λ n. kept_front n es) (omega (arith, p, q)))
    ∙ sym (whole_left es e (min a b) (λ m. y (omega (arith, m, z))) (omega (arith, p, q))))
    (cases_lt a e.tracks))
    (cases_lt b e.tracks))
    (cases_eq a 0))
    (cases_eq b 0)

front_of_front : (first second third : List Extent) → IsFront first second → IsFront second third → IsFront first third
front_of_front first second third f g = (min g.0 f.0, g.1 ∙ ap (kept_front g.0) f.1 ∙ front_twice g.0 f.0 first)

pub set_stays : (o : Option (List Extent)) → GivesUp o o
set_stays None = tt
set_stays (Some es) = whole_front es

set_gives_both : (first second third : Option (List Extent)) → GivesUp first second → GivesUp second third → GivesUp first third
set_gives_both None None None f g = tt
set_gives_both None None (Some third) f g = absurd g
set_gives_both None (Some second) third f g = absurd f
set_gives_both (Some first) second None f g = tt
set_gives_both (Some first) None (Some third) f g = absurd g
set_gives_both (Some first) (Some second) (Some third) f g = front_of_front first second third f g

pub set_takes_none : (kept : Option (List Extent)) (free : List Extent) (old new : Option (List Extent)) → GivesUp old new → Takes kept free old new
set_takes_none kept free None None g = tt
set_takes_none kept free None (Some new) g = absurd g
set_takes_none kept free (Some old) None g = tt
set_takes_none kept free (Some old) (Some new) g = inl g

pub nothing_given : (rest : Others) → GiveUp rest rest
nothing_given rest = record {
  set = refl;
  rooms = refl;
  kept = refl;
  extents = λ serial k. set_stays (rest.extents serial k);
  unusable = λ serial n. refl;
}

pub both_given : (first second third : Others) → GiveUp first second → GiveUp second third → GiveUp first third
both_given first second third f g = record {
  set = g.set ∙ f.set;
  rooms = g.rooms ∙ f.rooms;
  kept = g.kept ∙ f.kept;
  extents = λ serial k. set_gives_both (first.extents serial k) (second.extents serial k) (third.extents serial k) (f.extents serial k) (g.extents serial k);
  unusable = λ serial n. g.unusable serial n ∙ f.unusable serial n;
}

pub none_taken : (job : ℕ) (old new : Others) → GiveUp old new → Take job [] old new
none_taken job old new g = record {
  set = g.set;
  rooms = g.rooms;
  kept = g.kept;
  extents = λ serial k. set_takes_none None _ (old.extents serial k) (new.extents serial k) (g.extents serial k);
  unusable = g.unusable;
}
