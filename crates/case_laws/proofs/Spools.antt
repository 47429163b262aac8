-- The first set of a class on the spool.
use Rattle.std.proofs.Common.{◌≡◌, ◌≢◌, ◌⊎◌, inl, inr, ◌++◌, ℕ, List, [], ◌∷◌, All, refl, sym, ap, ◌∙◌, subst}
use Rattle.std.proofs.lemmas.Bool.{cases_eq}
use Rattle.std.proofs.lemmas.List.Elements.{All-head, All-tail}
use Rattle.jcl_plan.specs.declared.entry.Written.{Written}
use Rattle.machine_meaning.specs.declared.machine.SpoolSet.{SpoolSet}
use Rattle.machine_meaning.specs.Spools.{HasNoSet, Takes, left_of}
use Rattle.case_laws.proofs.Firsts.{First, first_or_none, none_and_one, same_first}

abbrev Other : ℕ → SpoolSet → Type 0
Other class set = set.class ≢ class

abbrev Of : ℕ → SpoolSet → Type 0
Of class set = set.class ≡ class

known : (class : ℕ) (set : SpoolSet) → (set.class ≡ class) ⊎ (set.class ≡ class → ⊥) → Other class set ⊎ Of class set
known class set (inl e) = inr e
known class set (inr isnt) = inl isnt

-- what is left, and what is written
pub record Given (spool : List SpoolSet) (class : ℕ) : Type 0 where
  pub job : ℕ
  pub line : Written
  pub left : List SpoolSet
  pub takes : Takes spool class job line left

at : {X : Type 0} (P : X → Type 0) (before after : List X) (x : X) → All P (before ++ x ∷ after) → P x
at P [] after x all = All-head P x after all
at P (y ∷ ys) after x all = at P ys after x (All-tail P y (ys ++ x ∷ after) all)

with_lines : (spool : List SpoolSet) (class : ℕ) (f : First (Other class) (Of class) spool) (lines : List Written) → f.it.lines ≡ lines → lines ≢ [] →
    Given spool class
with_lines spool class f [] e some = absurd (some refl)
with_lines spool class f (line ∷ lines) e some = record {
  job = f.it.job;
  line = line;
  left = f.before ++ (left_of f.it lines ++ f.after);
  takes = record {
    before = f.before;
    set = f.it;
    after = f.after;
    lines = lines;
    stands = f.stands;
    none_before = f.none_before;
    of_class = f.is_it;
    of_job = refl;
    is_first = e;
    is_left = refl;
  };
}

by_first : (spool : List SpoolSet) (class : ℕ) → All (λ set. set.lines ≢ []) spool → (All (Other class) spool) ⊎ First (Other class) (Of class) spool →
    HasNoSet spool class ⊎ Given spool class
by_first spool class some (inl none) = inl none
by_first spool class some (inr f) =
    inr (with_lines spool class f f.it.lines refl (at (λ set. set.lines ≢ []) f.before f.after f.it (subst (All (λ set. set.lines ≢ [])) f.stands some)))

pub given_or_none : (spool : List SpoolSet) (class : ℕ) → All (λ set. set.lines ≢ []) spool → HasNoSet spool class ⊎ Given spool class
given_or_none spool class some = by_first spool class some (first_or_none (Other class) (Of class) (λ set. known class set (cases_eq set.class class)) spool)

pub not_both : (spool : List SpoolSet) (class job : ℕ) (line : Written) (left : List SpoolSet) → HasNoSet spool class → Takes spool class job line left → ⊥
not_both spool class job line left none t =
    none_and_one (Other class) (Of class) (λ set isnt is_so. isnt is_so) t.before t.after t.set (subst (All (Other class)) t.stands none) t.of_class

same_set : (spool : List SpoolSet) (class i j : ℕ) (line other : Written) (left rest : List SpoolSet) →
    (t : Takes spool class i line left) (u : Takes spool class j other rest) → t.set ≡ u.set
same_set spool class i j line other left rest t u =
    same_first (Other class) (Of class) (λ set isnt is_so. isnt is_so) t.before u.before t.after u.after t.set u.set (sym t.stands ∙ u.stands)
    t.none_before u.none_before t.of_class u.of_class

pub same_taken_job : (spool : List SpoolSet) (class i j : ℕ) (line other : Written) (left rest : List SpoolSet) → Takes spool class i line left →
    Takes spool class j other rest → i ≡ j
same_taken_job spool class i j line other left rest t u =
    sym t.of_job ∙ ap (λ (set : SpoolSet). set.job) (same_set spool class i j line other left rest t u) ∙ u.of_job

pub same_line : (spool : List SpoolSet) (class i j : ℕ) (line other : Written) (left rest : List SpoolSet) → Takes spool class i line left →
    Takes spool class j other rest → line ≡ other
same_line spool class i j line other left rest t u =
    let heads : line ∷ t.lines ≡ other ∷ u.lines = sym t.is_first ∙ ap (λ (set : SpoolSet). set.lines) (same_set spool class i j line other left rest t u)
    ∙ u.is_first in
    cc
