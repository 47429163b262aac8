-- One line is the first of a writer's class, and one spool is left without it.
use Rattle.std.proofs.Common.{◌≡◌, ◌≢◌, ◌++◌, ℕ, List, ◌∷◌, sym, ap, ◌∙◌}
use Rattle.jcl_plan.specs.declared.entry.Written.{Written}
use Rattle.machine_meaning.specs.declared.machine.SpoolSet.{SpoolSet}
use Rattle.machine_meaning.specs.Spools.{HasNoSet, Takes, left_of}
use Rattle.event_laws.proofs.Splits.{none_split, one_split}

module _ (spool : List SpoolSet) (class : ℕ) where
  abbrev OfOther : SpoolSet → Type 0
  OfOther set = set.class ≢ class

  abbrev OfIt : SpoolSet → Type 0
  OfIt set = set.class ≡ class

  clash : (set : SpoolSet) → OfOther set → OfIt set → ⊥
  clash set other it = other it

  pub none_taken : (job : ℕ) (line : Written) (left : List SpoolSet) → HasNoSet spool class → Takes spool class job line left → ⊥
  none_taken job line left none t = none_split OfOther OfIt clash spool t.before t.after t.set t.stands none t.of_class

  pub one_taken : (job other : ℕ) (line that : Written) (left rest : List SpoolSet) → Takes spool class job line left → Takes spool class other that rest →
      (other ≡ job) × (that ≡ line) × (rest ≡ left)
  one_taken job other line that left rest t u =
      let one = one_split OfOther OfIt clash u.before t.before u.after t.after u.set t.set (sym u.stands ∙ t.stands) u.none_before t.none_before
      u.of_class t.of_class in
      let lines : that ∷ u.lines ≡ line ∷ t.lines = sym u.is_first ∙ ap (λ (set : SpoolSet). set.lines) one.1 ∙ t.is_first in
      let head : that ≡ line = cc in
      let behind : u.lines ≡ t.lines = cc in (
        sym u.of_job ∙ ap (λ (set : SpoolSet). set.job) one.1 ∙ t.of_job,
        head,
        u.is_left ∙ (λ i. one.0 i ++ (left_of (one.1 i) (behind i) ++ one.2 i)) ∙ sym t.is_left,
      )
