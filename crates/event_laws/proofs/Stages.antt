-- A turn of a job leaves one thing, but for the free tracks, at each stage but that of its admission.
use Rattle.std.proofs.Common.{◌≡◌, ℕ, List, [], ◌∷◌, Option, Some, None, length, refl, sym, ap, ◌∙◌, subst}
use Rattle.enq_core.specs.declared.table.Blocked.{Blocked}
use Rattle.jcl_plan.specs.declared.entry.JobLine.{JobLine}
use Rattle.jcl_plan.specs.declared.entry.JobLine.TheVariants as line
use Rattle.jcl_plan.specs.declared.plan.JobPlan.{JobPlan}
use Rattle.cb_meaning.specs.Spelled.{Denotes}
use Rattle.cb_meaning.specs.Walks.{first_fault}
use Rattle.turn_core.specs.Performing.{StoreAnswers}
use Rattle.world_meaning.specs.Choices.{choice_of_going}
use Rattle.world_meaning.specs.Holdings.{Holds, ReadsRecords, blocked, broken, held, read, released, wants_of}
use Rattle.world_meaning.specs.Transitions.{GoesOn, explained_by}
use Rattle.world_meaning.specs.Worlds.{Admitted, Config, Named, Running, Selected, Shared, Stage, Wanting, going_on}
use Rattle.record_laws.proofs.Chains.{one_job}
use Rattle.walk_laws.proofs.Denoted.Jobs.{denoted_has_no_fault}
use Rattle.turn_laws.specs.Decided.{IsDecidedBy, IsSameTurn, TurnsAreDecided}
use Rattle.event_laws.proofs.Conflicts.{none_blocked, one_block}

-- what all jobs change is the same but for the free tracks
abbrev pub SameButFree : Shared → Shared → Type 0
SameButFree one other = other ≡ record one { free = other.free }

-- where they are equal to what is
pub same_but_free : (one other u v : Shared) → one ≡ u → other ≡ v → SameButFree u v → SameButFree one other
same_but_free one other u v p q is = subst (SameButFree one) (sym q) (subst (λ (s : Shared). SameButFree s v) (sym p) is)

module _ (c : Config) (old : Shared) (r : Running) (l m : List JobLine) (a b : Shared) (on off : Option Running) where
  -- the job goes on with the same lines
  goes_same : (told : List JobLine) (x : Shared) (stage : Stage) → l ≡ told → m ≡ told → a ≡ x → b ≡ x → on ≡ going_on r l stage → off ≡ going_on r m stage →
      IsSameTurn l m a b on off
  goes_same told x stage t u n o g h = record {
    lines = u ∙ sym t;
    runs = h ∙ ap (λ (lines : List JobLine). going_on r lines stage) (u ∙ sym t) ∙ sym g;
    shared = same_but_free a b x x n o refl;
  }

  holds_alike : (plan : JobPlan) → Holds old r plan l a on → Holds old r plan m b off → IsSameTurn l m a b on off
  holds_alike plan (held free t n g) (held free_too u o h) = goes_same _ _ (Named plan) t u n o g h
  holds_alike plan (held free t n g) (blocked by d u o h) = absurd (none_blocked old.holds (wants_of plan) by free d)
  holds_alike plan (blocked by d t n g) (held free u o h) = absurd (none_blocked old.holds (wants_of plan) by free d)
  holds_alike plan (blocked by d t n g) (blocked other e u o h) =
      let one : other ≡ by = one_block old.holds (wants_of plan) other by e d in
      goes_same _ old (Wanting plan) t (u ∙ ap (λ (z : Blocked). line.WaitNames z.job z.name ∷ []) one) n o g h

  whole : (first n : ℕ) (behind : List ℕ) (plan : JobPlan) → first_fault c.layout (length c.units) old.records r.job first ≡ Some n →
      Denotes c.layout (length c.units) old.records r.job (first ∷ behind) plan → ⊥
  whole first n behind plan e d =
      let none : first_fault c.layout (length c.units) old.records r.job first ≡ None =
      denoted_has_no_fault c.layout (length c.units) old.records r.job first behind plan d in
      cc

  reads_alike : (first : ℕ) → ReadsRecords c old r first l a on → ReadsRecords c old r first m b off → IsSameTurn l m a b on off
  reads_alike first (broken n free f t e conserved gone) (broken k free_too g u o conserved_too gone_too) =
      let is : k ≡ n = cc in record {
        lines = u ∙ ap (λ (i : ℕ). line.Broken i ∷ []) is ∙ sym t;
        runs = gone_too ∙ sym gone;
        shared = same_but_free a b (released c old r.job free) (released c old r.job free_too) e o refl;
      }
  reads_alike first (broken n free f t e conserved gone) (read plan behind d h) = absurd (whole first n behind plan f d)
  reads_alike first (read plan behind d h) (broken n free f t e conserved gone) = absurd (whole first n behind plan f d)
  reads_alike first (read plan behind d h) (read other others e k) =
      let is : other ≡ plan = (one_job c.layout (length c.units) old.records r.job first others behind other plan e d).0 in
      holds_alike plan h (subst (λ (p : JobPlan). Holds old r p m b off) is k)

  pub goes_alike : TurnsAreDecided → (grants : ℕ → StoreAnswers) (stage : Stage) (p : GoesOn c old r stage l a on) (q : GoesOn c old r stage m b off) →
      IsDecidedBy grants (choice_of_going c old r stage l a on p) → IsDecidedBy grants (choice_of_going c old r stage m b off q) → IsSameTurn l m a b on off
  goes_alike law grants (Selected first) p q by by_too = reads_alike first p q
  goes_alike law grants (Wanting plan) p q by by_too = holds_alike plan p q
  goes_alike law grants (Named plan) p q by by_too = absurd by
  goes_alike law grants (Admitted plan x count own) p q by by_too = law c grants old r plan x count own l m a b on off p q by by_too

-- only an admission is explained
pub unexplained : (c : Config) (old : Shared) (r : Running) (l : List JobLine) (a : Shared) (on : Option Running) (grants : ℕ → StoreAnswers) (stage : Stage)
    (p : GoesOn c old r stage l a on) → IsDecidedBy grants (choice_of_going c old r stage l a on p) → explained_by c old r stage l a on p ≡ []
unexplained c old r l a on grants (Selected first) p by = refl
unexplained c old r l a on grants (Wanting plan) p by = refl
unexplained c old r l a on grants (Named plan) p by = absurd by
unexplained c old r l a on grants (Admitted plan x count own) p by = refl
