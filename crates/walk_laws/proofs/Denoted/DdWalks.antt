-- The walk over the DDs of a step.
use Rattle.std.proofs.Common.{◌≡◌, ◌==◌, ◌+◌, ◌≤◌, ◌<◌, ◌++◌, arith, ℕ, zero, suc, false, List, [], ◌∷◌, length, Option, None, Ok, sym, ap, ◌∙◌, subst, length-append}
use Rattle.std.proofs.lemmas.Bool.{cond-false, cond-true, eq-eqb, ne_eqb}
use Rattle.std.proofs.lemmas.List.{append-nil, append_assoc}
use Rattle.jcl_plan.specs.declared.plan.DdPlan.{DdPlan}
use Rattle.jcl_plan.specs.declared.plan.StepPlan.{StepPlan}
use Rattle.cb_meaning.specs.declared.layout.Layout.{Layout}
use Rattle.cb_meaning.specs.Fields.{number_at}
use Rattle.cb_meaning.specs.Spelled.{Below, DdChain, IsOwned, Records, SpellsSiot, siot}
use Rattle.cb_meaning.specs.Walks.{is_set, walk_dds, with_dds}
use Rattle.cb_meaning.specs.Writable.{AreDds, BeginsNamed, IsKindAt, IsName, most_dds}
use Rattle.walk_laws.proofs.Denoted.Arrivals.{arrived, no_end, passes, passes_on}
use Rattle.walk_laws.proofs.Denoted.DdRecords.{below_walk, set_is, siot_none}
use Rattle.walk_laws.proofs.Denoted.Earlier.{all_sets, earlier_is, length_sets, sets_more, sets_of}
use Rattle.walk_laws.proofs.Denoted.Seen.{AreNew, is_among, met, met_both, new_behind, new_front}

-- a DD without a name is not the first
unnamed_behind : (done : List DdPlan) (dd : DdPlan) (rest : List DdPlan) → BeginsNamed (done ++ dd ∷ rest) → dd.name ≡ None →
    (length (sets_of done) + 1 == 1) ≡ false
unnamed_behind [] dd rest h e = let no : BeginsNamed (record { name = None; kind = dd.kind } ∷ rest) =
    subst (λ (o : Option (List ℕ)). BeginsNamed (record { name = o; kind = dd.kind } ∷ rest)) e h in absurd no
unnamed_behind (x ∷ done) dd rest h e = ne_eqb (length (sets_of (x ∷ done)) + 1) 1 (λ is. let no : ⊥ = omega (arith, is) in no)

module _ (l : Layout) (units : ℕ) (q : Records) (job : ℕ) (all prior : List StepPlan) (here : StepPlan) (later : List StepPlan)
    (whole : all ≡ prior ++ here ∷ later) (begins : BeginsNamed here.dds) (most : length here.dds ≤ most_dds)
    (stated : ℕ) (count : stated ≡ length here.dds) where
  -- where the walk stands in the step
  abbrev k : ℕ
  k = length (all_sets prior) + 1

  abbrev d : List DdPlan → ℕ
  d done = length (sets_of done) + 1

  module _ (done : List DdPlan) (dd : DdPlan) (rest : List DdPlan) (split : here.dds ≡ done ++ dd ∷ rest) (named : IsName dd.name)
      (kind : IsKindAt units all k (d done) dd.kind) where
    few_before : (length (sets_of done) == most_dds) ≡ false
    few_before =
        let long : length here.dds ≡ length done + suc (length rest) = ap length split ∙ length-append done (dd ∷ rest) in
        let same = length_sets done in
        ne_eqb (length (sets_of done)) most_dds (λ is. let no : ⊥ = omega (arith, is, long, same, most) in no)

    one_dd : (fuel n : ℕ) (seen below : List ℕ) → IsOwned l q job siot n → SpellsSiot l dd (q.at n) →
        Below l q job (number_at (q.at n) l.below) below dd.kind → length below < suc fuel → is_among n seen ≡ false → AreNew (n ∷ seen) below →
        walk_dds l units q job (suc fuel) stated (all_sets prior) (sets_of done) seen n
        ≡ walk_dds l units q job fuel stated (all_sets prior) (sets_of done ++ is_set (q.at n) ∷ []) (met (n ∷ seen) below) (number_at (q.at n) l.next_dd)
    unfolding walk_dds
    one_dd fuel n seen below owned spells down few new new_below =
        let look = earlier_is all prior here later done (dd ∷ rest) whole split in
        cond-false (n == 0) _ _ (no_end l q job siot n owned)
        ∙ (passes _ _ (arrived l q job siot n owned seen new)
        ∙ (cond-false (length (sets_of done) == most_dds) _ _ few_before
        ∙ (passes _ _ (siot_none l units q job all (with_dds (all_sets prior) (sets_of done)) k (d done) look dd.name dd.kind (q.at n) below spells named
        (unnamed_behind done dd rest (subst BeginsNamed split begins)) kind down)
        ∙ passes_on _ (met (n ∷ seen) below) _
        (below_walk l units q job all (with_dds (all_sets prior) (sets_of done)) k (d done) look (suc fuel) dd.name dd.kind (q.at n) (n ∷ seen)
        below spells kind
        down few new_below))))

  at_end : (fuel first : ℕ) (seen : List ℕ) (done : List DdPlan) → first ≡ 0 → here.dds ≡ done →
      walk_dds l units q job (suc fuel) stated (all_sets prior) (sets_of done) seen first ≡ Ok (sets_of here.dds, seen)
  unfolding walk_dds
  at_end fuel first seen done e f =
      let long : length (sets_of done) ≡ stated = length_sets done ∙ (ap length (sym f) ∙ sym count) in
      cond-true (first == 0) _ _ (eq-eqb first 0 e)
      ∙ (cond-true (length (sets_of done) == stated) _ _ (eq-eqb (length (sets_of done)) stated long)
      ∙ ap (λ (dds : List DdPlan). Ok (sets_of dds, seen)) (sym f))

  pub dds_walk : (fuel : ℕ) (done rest : List DdPlan) (first : ℕ) (seen numbers : List ℕ) → here.dds ≡ done ++ rest → DdChain l q job first numbers rest →
      AreDds units all k (d done) rest → length numbers < fuel → AreNew seen numbers →
      walk_dds l units q job fuel stated (all_sets prior) (sets_of done) seen first ≡ Ok (sets_of here.dds, met seen numbers)
  dds_walk zero done rest first seen numbers split c h few new = absurd (omega (arith, few))
  dds_walk (suc fuel) done [] first seen numbers split c h few new =
      at_end fuel first seen done c.0 (split ∙ append-nil done) ∙ ap (λ (ns : List ℕ). Ok (sets_of here.dds, met seen ns)) (sym c.1)
  dds_walk (suc fuel) done (dd ∷ rest) first seen numbers split c h few new =
      let fresh : AreNew seen (first ∷ (c.0 ++ c.1)) = subst (AreNew seen) c.2 new in
      let long : length numbers ≡ suc (length c.0 + length c.1) = ap length c.2 ∙ ap suc (length-append c.0 c.1) in
      let dds : sets_of done ++ is_set (q.at first) ∷ [] ≡ sets_of (done ++ dd ∷ []) =
      ap (λ b. sets_of done ++ b ∷ []) (set_is l dd (q.at first) c.4) ∙ sets_more done dd in
      let next_d : d done + 1 ≡ d (done ++ dd ∷ []) =
      (let a = length_sets (done ++ dd ∷ []) in let b = length_sets done in let both = length-append done (dd ∷ []) in omega (arith, a, b, both)) in
      let next = number_at (q.at first) l.next_dd in
      one_dd done dd rest split h.0 h.1 fuel first seen c.0 c.3 c.4 c.5 (omega (arith, few, long)) fresh.0 (new_front (first ∷ seen) c.0 c.1 fresh.1)
      ∙ (ap (λ bs. walk_dds l units q job fuel stated (all_sets prior) bs (met (first ∷ seen) c.0) next) dds
      ∙ (dds_walk fuel (done ++ dd ∷ []) rest next (met (first ∷ seen) c.0) c.1 (split ∙ sym (append_assoc done (dd ∷ []) rest)) c.6
      (subst (λ (n : ℕ). AreDds units all k n rest) next_d h.2) (omega (arith, few, long)) (new_behind (first ∷ seen) c.0 c.1 fresh.1)
      ∙ (ap (λ (ns : List ℕ). Ok (sets_of here.dds, ns)) (sym (met_both (first ∷ seen) c.0 c.1))
      ∙ ap (λ (ns : List ℕ). Ok (sets_of here.dds, met seen ns)) (sym c.2))))
