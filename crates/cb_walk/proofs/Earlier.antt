-- Which earlier DDs are sets.
use Rattle.std.proofs.Common.{◌≡◌, ℕ, zero, suc, ◌+◌, ◌-◌, ◌<◌, ◌≤◌, Bool, false, ◌&&◌, List, [], ◌∷◌, length, get_or, refl, sym, ap, arith, inl, inr, eq-eqb}
use Rattle.std.specs.Prelude.{nat_lt}
use Rattle.std.proofs.lemmas.Bool.{cases_Bool, le-leb, le-ltb, lt-leb, lt-ltb, ltb-false, ne_eqb}
use Rattle.std.proofs.lemmas.List.{get_or_append_left}
use Rattle.std.proofs.Math.Seq.{get_or-append_seam}
use Rattle.cb_meaning.specs.Walks.{is_earlier_set, is_set_at, with_dds}

pub no_step : (steps : List (List Bool)) (dds : List Bool) (step dd : ℕ) → step < 1 →
    is_earlier_set (with_dds steps dds) (length steps + 1) (length dds + 1) step dd ≡ false
no_step steps dds step dd h = rw (lt-leb 1 step h) refl

pub no_dd : (steps : List (List Bool)) (dds : List Bool) (step dd : ℕ) → 1 ≤ step → dd < 1 →
    is_earlier_set (with_dds steps dds) (length steps + 1) (length dds + 1) step dd ≡ false
no_dd steps dds step dd h k = rw (le-leb 1 step h) (rw (lt-leb 1 dd k) refl)

pub in_earlier_step : (steps : List (List Bool)) (dds : List Bool) (step dd : ℕ) → 1 ≤ step → 1 ≤ dd → step - 1 < length steps →
    is_earlier_set (with_dds steps dds) (length steps + 1) (length dds + 1) step dd ≡ get_or (get_or steps (step - 1) []) (dd - 1) false
in_earlier_step steps dds step dd h k e =
    rw (le-leb 1 step h) (rw (le-leb 1 dd k) (rw (lt-ltb step (length steps + 1) (omega arith))
    (ap (λ xs. get_or xs (dd - 1) false) (get_or_append_left steps (dds ∷ []) [] (step - 1) e))))

past : (dds : List Bool) (n : ℕ) → length dds ≤ n → get_or dds n false ≡ false
past [] n h = refl
past (b ∷ dds) zero h = absurd (omega arith)
past (b ∷ dds) (suc n) h = past dds n (omega arith)

of_last : (steps : List (List Bool)) (dds : List Bool) (step dd : ℕ) → step - 1 ≡ length steps → 1 ≤ dd →
    (nat_lt dd (length dds + 1) && is_set_at (with_dds steps dds) step dd) ≡ get_or dds (dd - 1) false
of_last steps dds step dd e k =
    elim (cases_Bool (nat_lt dd (length dds + 1))) [
      | inl within ↦ rw within (rw e (ap (λ xs. get_or xs (dd - 1) false) (get_or-append_seam steps dds [] [])))
      | inr behind ↦ rw behind (sym (past dds (dd - 1) (let low = ltb-false dd (length dds + 1) behind in omega arith)))
    ]

pub in_this_step : (steps : List (List Bool)) (dds : List Bool) (step dd : ℕ) → 1 ≤ step → 1 ≤ dd → step - 1 ≡ length steps →
    is_earlier_set (with_dds steps dds) (length steps + 1) (length dds + 1) step dd ≡ get_or dds (dd - 1) false
in_this_step steps dds step dd h k e =
    rw (le-leb 1 step h) (rw (le-leb 1 dd k) (rw (le-ltb step (length steps + 1) (omega arith)) (rw (eq-eqb step (length steps + 1) (omega arith))
    (of_last steps dds step dd e k))))

pub in_no_step : (steps : List (List Bool)) (dds : List Bool) (step dd : ℕ) → 1 ≤ step → 1 ≤ dd → length steps < step - 1 →
    is_earlier_set (with_dds steps dds) (length steps + 1) (length dds + 1) step dd ≡ false
in_no_step steps dds step dd h k e =
    rw (le-leb 1 step h) (rw (le-leb 1 dd k) (rw (le-ltb step (length steps + 1) (omega arith)) (rw (ne_eqb step (length steps + 1) (λ is. omega (arith, is)))
    refl)))
