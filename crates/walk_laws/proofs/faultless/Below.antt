-- An SIOT and what stands below it, walked through, spell the DD that is read of them.
use Rattle.std.proofs.Common.{◌≡◌, ℕ, zero, suc, ◌+◌, ◌≤◌, ◌==◌, Bool, true, false, List, [], ◌∷◌, refl, sym, ap, ◌∙◌, subst, arith, inl, inr}
use Rattle.std.specs.Prelude.{Result, Ok, Err, if◌then◌else◌, ◌⊎◌}
use Rattle.jcl_plan.specs.declared.plan.DdKind.{DdKind}
use Rattle.jcl_plan.specs.declared.plan.DdKind.TheVariants.{Cards, Dummy, Set, Sysout}
use Rattle.jcl_plan.specs.declared.plan.StepPlan.{StepPlan}
use Rattle.cb_meaning.specs.declared.layout.Layout.{Layout}
use Rattle.cb_meaning.specs.Fields.{byte_at, number_at, part}
use Rattle.cb_meaning.specs.Layouts.{all_apart, siot_places}
use Rattle.cb_meaning.specs.Readings.{cards_read, kind_read, name_read, set_read}
use Rattle.cb_meaning.specs.Spelled.{Below, Records, SpellsSiot, jfcb}
use Rattle.cb_meaning.specs.Walks.{arrival_fault, is_set, jfcb_faults, lowest, unless_fault, walk_below, walk_cards, walk_jfcb}
use Rattle.cb_meaning.specs.Writable.{IsKindAt}
use Rattle.walk_laws.specs.WalkLaws.{AreRecords, IsRecord}
use Rattle.walk_laws.proofs.faultless.CardChains.{CardsWalked, cards_walked}
use Rattle.walk_laws.proofs.faultless.Earlier.{Agrees, for_set}
use Rattle.walk_laws.proofs.faultless.Passing.{Passes, passes_first, passes_none}
use Rattle.walk_laws.proofs.faultless.Sets.{jfcb_fine}
use Rattle.walk_laws.proofs.faultless.SetsSpelled.{jfcb_spelled, set_fits, volume_is}
use Rattle.walk_laws.proofs.faultless.Siots.{SiotFine}
use Rattle.walk_laws.proofs.faultless.SiotsSpelled.{cards_siot, dummy_siot, set_siot, sysout_siot}
use Rattle.walk_laws.proofs.faultless.Told.{arrives, unless_parts}
use Rattle.walk_laws.proofs.faultless.UsedFields.{no_below, used_of}

abbrev kind_by : Layout → Records → List ℕ → ℕ → DdKind
kind_by l q s n =
    if n == 1 then Set (set_read l s (q.at (number_at s l.below)))
    else (if n == 3 then Sysout (byte_at s 25)
    else (if n == 4 then Cards (cards_read l q (l.most_records + 1) (number_at s l.below))
    else Dummy))

four_kinds : (n : ℕ) → 1 ≤ n → n ≤ 4 → (n ≡ 1) ⊎ ((n ≡ 2) ⊎ ((n ≡ 3) ⊎ (n ≡ 4)))
four_kinds zero h g = absurd (omega (arith, h))
four_kinds (suc zero) h g = inl refl
four_kinds (suc (suc zero)) h g = inr (inl refl)
four_kinds (suc (suc (suc zero))) h g = inr (inr (inl refl))
four_kinds (suc (suc (suc (suc zero)))) h g = inr (inr (inr refl))
four_kinds (suc (suc (suc (suc (suc n))))) h g = absurd (omega (arith, g))

same_list : (xs ys : List ℕ) (r : Result (List ℕ) ℕ) → r ≡ Ok xs → r ≡ Ok ys → ys ≡ xs
same_list xs ys (Ok zs) e f = (let a : zs ≡ xs = cc in let b : zs ≡ ys = cc in sym b ∙ a)
same_list xs ys (Err fault) e f = absurd cc

pub record DdWalked (l : Layout) (units : ℕ) (q : Records) (job : ℕ) (all : List StepPlan) (k d : ℕ) (s seen met : List ℕ) (kind : DdKind) : Type 0 where
  pub numbers : List ℕ
  pub spells : SpellsSiot l (record { name = name_read (part s 16 8); kind = kind }) s
  pub below : Below l q job (number_at s l.below) numbers kind
  pub fits : IsKindAt units all k d kind
  pub passes : Passes seen numbers met
  pub mark : for_set kind ≡ is_set s

module _ (l : Layout) (own : all_apart (siot_places l) ≡ true) (units : ℕ) (q : Records) (job : ℕ) (known : AreRecords q) (marks : List (List Bool))
    (all : List StepPlan) (agrees : Agrees marks all) (k d : ℕ) (s : List ℕ) (is : IsRecord s) (fine : SiotFine l units marks k d s) (seen met : List ℕ) where
  abbrev Walked : DdKind → Type 0
  Walked kind = DdWalked l units q job all k d s seen met kind

  set_walked : byte_at s 12 ≡ 1 → walk_jfcb l q job marks k d s seen (number_at s l.below) ≡ Ok met →
      Walked (Set (set_read l s (q.at (number_at s l.below))))
  set_walked e h =
      let n = number_at s l.below in
      let r = q.at n in
      let a = unless_parts (arrival_fault l q job jfcb seen n) (λ _. unless_fault (lowest (jfcb_faults l marks k d s r)) (λ _. Ok (n ∷ seen))) met h in
      let b = unless_parts (lowest (jfcb_faults l marks k d s r)) (λ _. Ok (n ∷ seen)) met a.1 in
      let came = arrives l q job jfcb seen n refl known a.0 in
      let whole = known n came.in_use in
      let good = jfcb_fine l marks k d s r b.0 in
      record {
        numbers = n ∷ [];
        spells = set_siot l own units marks k d s is fine r e all (volume_is l own units marks all agrees k d s r is whole e fine good);
        below = (refl, came.owned, jfcb_spelled l own units marks all agrees k d s r is whole e fine good);
        fits = set_fits l own units marks all agrees k d s r is whole e fine good;
        passes = passes_first n seen [] met came.new (passes_none (n ∷ seen) met (same_list (n ∷ seen) met (Ok (n ∷ seen)) refl b.1));
        mark = sym (ap (λ b. b == 1) e);
      }

  sysout_walked : byte_at s 12 ≡ 3 → met ≡ seen → Walked (Sysout (byte_at s 25))
  sysout_walked e stay = record {
    numbers = [];
    spells = sysout_siot l own units marks k d s is fine e;
    below = (no_below l own s is true (used_of l 3 s e fine.unused), refl);
    fits = fine.class e;
    passes = passes_none seen met stay;
    mark = sym (ap (λ b. b == 1) e);
  }

  dummy_walked : byte_at s 12 ≡ 2 → met ≡ seen → Walked Dummy
  dummy_walked e stay = record {
    numbers = [];
    spells = dummy_siot l own units marks k d s is fine e;
    below = (no_below l own s is false (used_of l 2 s e fine.unused), refl);
    fits = tt;
    passes = passes_none seen met stay;
    mark = sym (ap (λ b. b == 1) e);
  }

  some_cards : (cards : List (List ℕ)) → byte_at s 12 ≡ 4 → CardsWalked l q job (number_at s l.cards) 0 (number_at s l.below) seen met cards →
      Walked (Cards cards)
  some_cards cards e walked =
      let count = walked.count in
      record {
        numbers = walked.numbers;
        spells = cards_siot l own units marks k d s is fine e cards (omega (arith, count));
        below = walked.chain;
        fits = walked.fit;
        passes = walked.passes;
        mark = sym (ap (λ b. b == 1) e);
      }

  abbrev below_by : ℕ → ℕ → Result (List ℕ) ℕ
  below_by fuel n =
      if n == 1 then walk_jfcb l q job marks k d s seen (number_at s l.below)
      else (if n == 4 then walk_cards l q job fuel (number_at s l.cards) 0 seen (number_at s l.below) else Ok seen)

  -- its kind decides what is walked
  pub dd_walked : (fuel : ℕ) → fuel ≤ l.most_records + 1 → walk_below l q job fuel marks k d s seen ≡ Ok met → Walked (kind_read l q s)
  dd_walked fuel few h =
      let By : ℕ → Type 0 = λ n. Walked (kind_by l q s n) in
      let walks : (n : ℕ) → byte_at s 12 ≡ n → below_by fuel n ≡ Ok met = λ n e. ap (below_by fuel) (sym e) ∙ h in
      elim (four_kinds (byte_at s 12) fine.low fine.high) [
        | inl set ↦ subst By (sym set) (set_walked set (walks 1 set))
        | inr (inl dummy) ↦ subst By (sym dummy) (dummy_walked dummy (same_list seen met (Ok seen) refl (walks 2 dummy)))
        | inr (inr (inl sysout)) ↦ subst By (sym sysout) (sysout_walked sysout (same_list seen met (Ok seen) refl (walks 3 sysout)))
        | inr (inr (inr cards)) ↦ subst By (sym cards) (some_cards (cards_read l q (l.most_records + 1) (number_at s l.below)) cards
            (cards_walked l q job known fuel (number_at s l.cards) 0 (number_at s l.below) seen met (l.most_records + 1) few (walks 4 cards)))
      ]
