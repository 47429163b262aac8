-- The classes that are marked, as one chain is another.
use Rattle.std.proofs.Common.{◌≡◌, ℕ, ◌+◌, ◌*◌, ◌/◌, ◌<◌, Bool, true, false, List, get_or, length, replicate, arith, ◌∙◌, ap, sym, refl, subst, inl, inr, get_or-set_other, get_or-set_same}
use Rattle.std.specs.Prelude.{slice_set}
use Rattle.std.proofs.lemmas.Bool.{cases_eq, true≢false}
use Rattle.chain_store.specs.declared.chains.Chain.{Chain}
use Rattle.chain_store.specs.Chains.{AreEmpty, AreMarked, chain_of, no_chain}
use Rattle.chain_store.proofs.Starting.{no_chain_at}

-- a mark that is only cleared where no chain of the class has a record
marked_set : (occupied : List Bool) (chains : List Chain) (place : ℕ) (c : Chain) (mark : Bool) → place / 14 < length occupied →
    (mark ≡ false → AreEmpty (slice_set chains place c) (place / 14 * 14) (place / 14 * 14 + 14)) → AreMarked occupied chains →
    AreMarked (slice_set occupied (place / 14) mark) (slice_set chains place c)
marked_set occupied chains place c mark fits empty marked p some =
    elim (cases_eq (p / 14) (place / 14)) [
      | inl same ↦
          ap (λ k. get_or (slice_set occupied (place / 14) mark) k false) same ∙ get_or-set_same occupied (place / 14) mark false fits
          ∙ by mark refl same
      | inr other ↦
          get_or-set_other occupied (place / 14) (p / 14) mark false other
          ∙ marked p (λ none. some (ap (λ (x : Chain). x.count) (get_or-set_other chains place p c no_chain (λ is. other (ap (λ k. k / 14) is))) ∙ none))
    ]
  where
    by : (b : Bool) → mark ≡ b → p / 14 ≡ place / 14 → mark ≡ true
    by true is same = is
    by false is same = absurd (some (empty is p (omega (arith, same)) (omega (arith, same))))

-- a class that a job leaves: its chains, as they are lent, tell the mark
pub marked_left : (occupied : List Bool) (chains lent : List Chain) (place : ℕ) (c : Chain) (mark : Bool) → lent ≡ slice_set chains place c → place < 14 * length occupied →
    (mark ≡ false → AreEmpty lent (place / 14 * 14) (place / 14 * 14 + 14)) → AreMarked occupied chains → AreMarked (slice_set occupied (place / 14) mark) (slice_set chains place c)
marked_left occupied chains lent place c mark is here empty marked =
    marked_set occupied chains place c mark (omega (arith, here)) (λ none. subst (λ cs. AreEmpty cs (place / 14 * 14) (place / 14 * 14 + 14)) is (empty none)) marked

-- a class that a job enters
pub marked_entered : (occupied : List Bool) (chains : List Chain) (place : ℕ) (c : Chain) → place / 14 < length occupied → AreMarked occupied chains →
    AreMarked (slice_set occupied (place / 14) true) (slice_set chains place c)
marked_entered occupied chains place c fits marked = marked_set occupied chains place c true fits (λ is. absurd (true≢false is)) marked

-- none of the chains of a class that is not marked has a record
pub not_marked : (occupied : List Bool) (chains : List Chain) (from : ℕ) → from / 14 * 14 ≡ from → AreMarked occupied chains → get_or occupied (from / 14) false ≡ false →
    AreEmpty chains from (from + 14)
not_marked occupied chains from begins marked none place after within =
    elim (cases_eq (chain_of chains place).count 0) [
      | inl is ↦ is
      | inr some ↦
          (let same : place / 14 ≡ from / 14 = omega (arith, begins, after, within) in
          absurd (true≢false (sym (marked place some) ∙ ap (λ k. get_or occupied k false) same ∙ none)))
    ]

pub marked_first : (occupied : List Bool) (chains : List Chain) (count : ℕ) → chains ≡ replicate count no_chain → AreMarked occupied chains
marked_first occupied chains count is place some =
    absurd (some (ap (λ cs. (chain_of cs place).count) is ∙ ap (λ (c : Chain). c.count) (no_chain_at count place)))
