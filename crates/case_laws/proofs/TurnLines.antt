-- One list of lines for a turn of a job for which nothing is open.
use Rattle.std.proofs.Common.{◌≡◌, ℕ, true, false, not, ◌&&◌, ◌||◌, List, [], ◌∷◌, Option, Some, None, length, sym, ap, ◌∙◌, subst}
use Rattle.std.proofs.lemmas.Bool.{both_ways}
use Rattle.enq_core.specs.declared.table.Blocked.{Blocked}
use Rattle.jcl_plan.specs.declared.entry.JobLine.{JobLine}
use Rattle.jcl_plan.specs.declared.entry.JobLine.TheVariants as line
use Rattle.jcl_plan.specs.declared.plan.JobPlan.{JobPlan}
use Rattle.jcl_meaning.specs.declared.state.Own.{Own}
use Rattle.cb_meaning.specs.Spelled.{Denotes}
use Rattle.cb_meaning.specs.Walks.{first_fault}
use Rattle.prog_core.specs.Operations.{has_operation, is_busy}
use Rattle.record_laws.proofs.Chains.{one_job}
use Rattle.walk_laws.proofs.Denoted.Jobs.{denoted_has_no_fault}
use Rattle.world_meaning.specs.Holdings.{Holds, ReadsRecords, blocked, broken, held, read as reads_plan, wants_of}
use Rattle.world_meaning.specs.Transitions.{GoesOn}
use Rattle.world_meaning.specs.Turns.{Advanced, Advances, acts as does_act, ends, is_cancelled, is_result, must_wait, volume_needed, waits}
use Rattle.world_meaning.specs.Worlds.{Admission, Admitted, Config, Named, Running, Selected, Shared, Stage, Wanting}
use Rattle.case_laws.specs.Lines.{HasNoChoice}
use Rattle.case_laws.proofs.Blocks.{not_both as not_both_held, same_block}
use Rattle.case_laws.proofs.SameTurns.{IsSameTurn, turn_same}

module _ (c : Config) (old : Shared) (r : Running) (a b : Shared) (on off : Option Running) (l m : List JobLine) where
  holds_same : (plan : JobPlan) → Holds old r plan l a on → Holds old r plan m b off → l ≡ m
  holds_same plan (held free t n g) (held free_too u o h) = t ∙ sym u
  holds_same plan (held free t n g) (blocked by d u o h) = absurd (not_both_held old.holds (wants_of plan) by free d)
  holds_same plan (blocked by d t n g) (held free u o h) = absurd (not_both_held old.holds (wants_of plan) by free d)
  holds_same plan (blocked by d t n g) (blocked other e u o h) =
      t ∙ ap (λ (z : Blocked). line.WaitNames z.job z.name ∷ []) (same_block old.holds (wants_of plan) by other d e) ∙ sym u

  no_fault : (first n : ℕ) (behind : List ℕ) (plan : JobPlan) → first_fault c.layout (length c.units) old.records r.job first ≡ Some n →
      Denotes c.layout (length c.units) old.records r.job (first ∷ behind) plan → ⊥
  no_fault first n behind plan e d =
      let none : first_fault c.layout (length c.units) old.records r.job first ≡ None =
      denoted_has_no_fault c.layout (length c.units) old.records r.job first behind plan d in
      cc

  records_same : (first : ℕ) → ReadsRecords c old r first l a on → ReadsRecords c old r first m b off → l ≡ m
  records_same first (broken n free f t e conserved gone) (broken k free_too g u o conserved_too gone_too) =
      let same : n ≡ k = cc in t ∙ ap (λ (i : ℕ). line.Broken i ∷ []) same ∙ sym u
  records_same first (broken n free f t e conserved gone) (reads_plan plan behind d h) = absurd (no_fault first n behind plan f d)
  records_same first (reads_plan plan behind d h) (broken n free f t e conserved gone) = absurd (no_fault first n behind plan f d)
  records_same first (reads_plan plan behind d h) (reads_plan other others e k) =
      let same : other ≡ plan = (one_job c.layout (length c.units) old.records r.job first others behind other plan e d).0 in
      holds_same plan h (subst (λ (p : JobPlan). Holds old r p m b off) same k)

  -- turns that do the same wait alike
  same_wait : (x y : Advanced) → IsSameTurn x y → must_wait old.operations r.job x ≡ must_wait old.operations r.job y
  same_wait x y s = λ i. is_busy old.operations (volume_needed (s.lines i) (s.action i) (s.own i))
      || (is_result (s.action i) && not (is_cancelled (s.lines i)) && has_operation old.operations r.job)

  one_waits : (x y : Advanced) → IsSameTurn x y → must_wait old.operations r.job x ≡ true → must_wait old.operations r.job y ≡ false → ⊥
  one_waits x y s e f = both_ways (must_wait old.operations r.job y) f (sym (same_wait x y s) ∙ e)

  other_waits : (x y : Advanced) → IsSameTurn x y → must_wait old.operations r.job x ≡ false → must_wait old.operations r.job y ≡ true → ⊥
  other_waits x y s e f = both_ways (must_wait old.operations r.job x) e (same_wait x y s ∙ f)

  advances_same : (plan : JobPlan) (q : Admission) (count : ℕ) (own : Own) → HasNoChoice c old r.job (Admitted plan q count own) →
      Advances c old r plan q count own l a on → Advances c old r plan q count own m b off → l ≡ m
  advances_same plan q count own d (waits x g p e must t n k) (waits y h o f must_too u v j) = t ∙ sym u
  advances_same plan q count own d (waits x g p e must t n k) (does_act y h o free f grants goes more u v conserved j) =
      absurd (one_waits x y (turn_same c old r.job plan q count own d g p h o x y e f) must goes)
  advances_same plan q count own d (waits x g p e must t n k) (ends y h o free f grants goes last u v conserved j) =
      absurd (one_waits x y (turn_same c old r.job plan q count own d g p h o x y e f) must goes)
  advances_same plan q count own d (does_act x g p free e grants goes more t n conserved k) (waits y h o f must u v j) =
      absurd (other_waits x y (turn_same c old r.job plan q count own d g p h o x y e f) goes must)
  advances_same plan q count own d (does_act x g p free e grants goes more t n conserved k)
      (does_act y h o free_too f grants_too goes_too more_too u v conserved_too j) =
      t ∙ (turn_same c old r.job plan q count own d g p h o x y e f).lines ∙ sym u
  advances_same plan q count own d (does_act x g p free e grants goes more t n conserved k)
      (ends y h o free_too f grants_too goes_too last u v conserved_too j) =
      t ∙ (turn_same c old r.job plan q count own d g p h o x y e f).lines ∙ sym u
  advances_same plan q count own d (ends x g p free e grants goes last t n conserved k) (waits y h o f must u v j) =
      absurd (other_waits x y (turn_same c old r.job plan q count own d g p h o x y e f) goes must)
  advances_same plan q count own d (ends x g p free e grants goes last t n conserved k)
      (does_act y h o free_too f grants_too goes_too more u v conserved_too j) =
      t ∙ (turn_same c old r.job plan q count own d g p h o x y e f).lines ∙ sym u
  advances_same plan q count own d (ends x g p free e grants goes last t n conserved k)
      (ends y h o free_too f grants_too goes_too last_too u v conserved_too j) =
      t ∙ (turn_same c old r.job plan q count own d g p h o x y e f).lines ∙ sym u

  pub goes_same : (stage : Stage) → HasNoChoice c old r.job stage → GoesOn c old r stage l a on → GoesOn c old r stage m b off → l ≡ m
  goes_same (Selected first) d p q = records_same first p q
  goes_same (Wanting plan) d p q = holds_same plan p q
  goes_same (Named plan) d p q = absurd d
  goes_same (Admitted plan q count own) d p k = advances_same plan q count own d p k
