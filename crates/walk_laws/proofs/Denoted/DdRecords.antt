-- A DD: its SIOT has no fault, and the walk below it ends.
use Rattle.std.proofs.Common.{◌≡◌, ◌==◌, ◌<◌, arith, ℕ, Bool, true, false, List, [], ◌∷◌, length, Option, None, Ok, refl, sym, ap, ◌∙◌, subst}
use Rattle.std.proofs.lemmas.Bool.{cond-false, cond-true}
use Rattle.jcl_plan.specs.declared.plan.DdKind.{DdKind}
use Rattle.jcl_plan.specs.declared.plan.DdKind.TheVariants.{Cards, Dummy, Set, Sysout}
use Rattle.jcl_plan.specs.declared.plan.DdPlan.{DdPlan}
use Rattle.jcl_plan.specs.declared.plan.StepPlan.{StepPlan}
use Rattle.cb_meaning.specs.declared.layout.Layout.{Layout}
use Rattle.cb_meaning.specs.Fields.{number_at}
use Rattle.cb_meaning.specs.Spelled.{Below, Records, SpellsSiot, jfcb, kind_code}
use Rattle.cb_meaning.specs.Walks.{has_cards, is_earlier_set, is_set, lowest, siot_faults, walk_below}
use Rattle.cb_meaning.specs.Writable.{IsEarlierSet, IsKindAt, IsName}
use Rattle.walk_laws.proofs.Denoted.Arrivals.{arrived, passes}
use Rattle.walk_laws.proofs.Denoted.CardWalks.{cards_walk}
use Rattle.walk_laws.proofs.Denoted.Earlier.{set_kind}
use Rattle.walk_laws.proofs.Denoted.OtherDds.{cards_dd_none, dummy_none, kind_is, sysout_none}
use Rattle.walk_laws.proofs.Denoted.Seen.{AreNew, met}
use Rattle.walk_laws.proofs.Denoted.SetDds.{set_none}
use Rattle.walk_laws.proofs.Denoted.SetRecords.{jfcb_none}

code_is : (kind : DdKind) → (kind_code kind == 1) ≡ set_kind kind
code_is (Set p) = refl
code_is Dummy = refl
code_is (Sysout class) = refl
code_is (Cards cards) = refl

pub set_is : (l : Layout) (dd : DdPlan) (r : List ℕ) → SpellsSiot l dd r → is_set r ≡ set_kind dd.kind
set_is l dd r s = kind_is r (kind_code dd.kind) s.kind 1 ∙ code_is dd.kind

module _ (l : Layout) (units : ℕ) (q : Records) (job : ℕ) (all : List StepPlan) (steps : List (List Bool)) (k d : ℕ)
    (look : (s e : ℕ) → IsEarlierSet all k d s e → is_earlier_set steps k d s e ≡ true) where
  pub siot_none : (name : Option (List ℕ)) (kind : DdKind) (r numbers : List ℕ) → SpellsSiot l (record { name = name; kind = kind }) r → IsName name →
      (name ≡ None → (d == 1) ≡ false) → IsKindAt units all k d kind → Below l q job (number_at r l.below) numbers kind →
      lowest (siot_faults l units steps k d r) ≡ None
  siot_none name Dummy r numbers s named first h b = dummy_none l units steps k d name r named first s b.0
  siot_none name (Sysout class) r numbers s named first h b = sysout_none l units steps k d name r named first class h s b.0
  siot_none name (Cards cards) r numbers s named first h b = cards_dd_none l units steps k d name r named first cards s
  siot_none name (Set p) r numbers s named first h b = set_none l units all steps k d look name p r s named first h

  pub below_walk : (fuel : ℕ) (name : Option (List ℕ)) (kind : DdKind) (r seen numbers : List ℕ) → SpellsSiot l (record { name = name; kind = kind }) r →
      IsKindAt units all k d kind → Below l q job (number_at r l.below) numbers kind → length numbers < fuel → AreNew seen numbers →
      walk_below l q job fuel steps k d r seen ≡ Ok (met seen numbers)
  below_walk fuel name Dummy r seen numbers s h b few new =
      cond-false (is_set r) _ _ (kind_is r 2 s.kind 1) ∙ (cond-false (has_cards r) _ _ (kind_is r 2 s.kind 4)
      ∙ ap (λ (ns : List ℕ). Ok (met seen ns)) (sym b.1))
  below_walk fuel name (Sysout class) r seen numbers s h b few new =
      cond-false (is_set r) _ _ (kind_is r 3 s.kind 1) ∙ (cond-false (has_cards r) _ _ (kind_is r 3 s.kind 4)
      ∙ ap (λ (ns : List ℕ). Ok (met seen ns)) (sym b.1))
  below_walk fuel name (Cards cards) r seen numbers s h b few new =
      let count : number_at r l.cards ≡ length cards = s.cards in
      cond-false (is_set r) _ _ (kind_is r 4 s.kind 1)
      ∙ (cond-true (has_cards r) _ _ (kind_is r 4 s.kind 4)
      ∙ cards_walk l q job (number_at r l.cards) fuel 0 (number_at r l.below) seen numbers cards b h few (omega (arith, count)) new)
  below_walk fuel name (Set p) r seen numbers s h b few new =
      let one : AreNew seen (number_at r l.below ∷ []) = subst (AreNew seen) b.0 new in
      cond-true (is_set r) _ _ (kind_is r 1 s.kind 1)
      ∙ (passes _ _ (arrived l q job jfcb (number_at r l.below) b.1 seen one.0)
      ∙ (passes _ _ (jfcb_none all steps k d look (q.at (number_at r l.below)) l units p r h s.volume b.2)
      ∙ ap (λ (ns : List ℕ). Ok (met seen ns)) (sym b.0)))
