-- What stands below a DD by the same numbers agrees in both queues.
use Rattle.std.proofs.Common.{◌≡◌, ◌≤◌, ◌+◌, ◌*◌, ◌++◌, arith, ℕ, List, [], ◌∷◌, length, refl, sym, ap, ◌∙◌, subst}
use Rattle.std.specs.Prelude.{All}
use Rattle.std.proofs.lemmas.List.{length-append}
use Rattle.std.proofs.lemmas.List.Elements.{All-cons, All-head, All-nil, All-tail}
use Rattle.cb_meaning.specs.declared.layout.Layout.{Layout}
use Rattle.cb_meaning.specs.Fields.{number_at}
use Rattle.cb_meaning.specs.Needs.{IsPacked}
use Rattle.cb_meaning.specs.Spelled.{CardChain, IsOwned, Records, SpellsCards, card_record}
use Rattle.walk_laws.specs.WalkLaws.{IsRecord}
use Rattle.world_meaning.specs.Records.{AgreeBut, has_status, open_fields}
use Rattle.world_laws.proofs.Bytes.{opened}
use Rattle.spelled_laws.proofs.Spellings.{cards_agree}

-- lists of one length in front
pub front_same : {X : Type 0} (x y a b : List X) → length x ≡ length y → x ++ a ≡ y ++ b → (x ≡ y) × (a ≡ b)
front_same [] [] a b l e = (refl, e)
front_same [] (d ∷ y) a b l e = absurd cc
front_same (c ∷ x) [] a b l e = absurd cc
front_same (c ∷ x) (d ∷ y) a b l e =
    let first : c ≡ d = cc in
    let shorter : length x ≡ length y = cc in
    let behind : x ++ a ≡ y ++ b = cc in
    let rest = front_same x y a b shorter behind in
    ((λ i. first i ∷ rest.0 i), rest.1)

-- what holds of each in a list holds of each in its front, and in what stands behind that
pub all_front : {X : Type 0} (P : X → Type 0) (xs ys : List X) → All P (xs ++ ys) → All P xs
all_front P [] ys h = All-nil P
all_front P (x ∷ xs) ys h = All-cons P x xs (All-head P x (xs ++ ys) h) (all_front P xs ys (All-tail P x (xs ++ ys) h))

pub all_back : {X : Type 0} (P : X → Type 0) (xs ys : List X) → All P (xs ++ ys) → All P ys
all_back P [] ys h = h
all_back P (x ∷ xs) ys h = all_back P xs ys (All-tail P x (xs ++ ys) h)

module _ (l : Layout) (q : Records) (job : ℕ) where
  -- a record that more cards follow has two
  two_here : (n m : ℕ) (numbers : List ℕ) (here behind : List (List ℕ)) → IsOwned l q job card_record n → SpellsCards l here (q.at n) → IsPacked l (q.at n) →
      CardChain l q job (number_at (q.at n) l.next_cards) (m ∷ numbers) behind → length here ≡ 2
  two_here n m numbers here behind o s packed c =
      let low : 1 ≤ m = c.4.from_one in
      sym s.count ∙ packed o.of_kind (λ none. let no : ⊥ = omega (arith, low, none, c.2) in no)

  -- so the records are half as many as the cards
  pub count_of : (first : ℕ) (numbers : List ℕ) (cards : List (List ℕ)) → CardChain l q job first numbers cards → All (λ n. IsPacked l (q.at n)) numbers →
      (length cards ≤ 2 * length numbers) × (2 * length numbers ≤ length cards + 1)
  count_of first [] cards c p = let none : length cards ≡ 0 = ap length c.1 in (omega (arith, none), omega (arith, none))
  count_of first (n ∷ []) cards c p =
      let all : length cards ≡ length c.0 + length c.1 = ap length c.3 ∙ length-append c.0 c.1 in
      let none : length c.1 ≡ 0 = ap length c.6.1 in
      let some : 1 ≤ length c.0 = c.5.some in
      let most : length c.0 ≤ 2 = c.5.most in
      (omega (arith, all, none, some, most), omega (arith, all, none, some, most))
  count_of first (n ∷ m ∷ numbers) cards c p =
      let all : length cards ≡ length c.0 + length c.1 = ap length c.3 ∙ length-append c.0 c.1 in
      let here : length c.0 ≡ 2 = two_here n m numbers c.0 c.1 c.4 c.5 (All-head (λ k. IsPacked l (q.at k)) n (m ∷ numbers) p) c.6 in
      let rest = count_of (number_at (q.at n) l.next_cards) (m ∷ numbers) c.1 c.6 (All-tail (λ k. IsPacked l (q.at k)) n (m ∷ numbers) p) in
      let low : length c.1 ≤ 2 * length (m ∷ numbers) = rest.0 in
      let high : 2 * length (m ∷ numbers) ≤ length c.1 + 1 = rest.1 in
      (omega (arith, all, here, low, high), omega (arith, all, here, low, high))

module _ (l : Layout) (one other : Records) (job : ℕ) where
  -- a record that is whole and packed in both
  abbrev pub Fits : ℕ → Type 0
  Fits n = IsRecord (one.at n) × IsRecord (other.at n) × IsPacked l (one.at n) × IsPacked l (other.at n)

  -- the same there but for what is open
  abbrev pub Agrees : ℕ → Type 0
  Agrees n = AgreeBut (open_fields l (one.at n)) (one.at n) (other.at n)

  -- one that agrees but for what is open in its kind
  pub settled : (kind n m : ℕ) → m ≡ n → IsOwned l one job kind n → AgreeBut (opened l (has_status kind)) (one.at n) (other.at m) → Agrees n
  settled kind n m same o a =
      subst (λ k. AgreeBut (opened l (has_status k)) (one.at n) (other.at n)) (sym o.of_kind)
      (subst (λ (k : ℕ). AgreeBut (opened l (has_status kind)) (one.at n) (other.at k)) same a)

  -- the other's record by a number that is the same
  pub whole_at : (n m : ℕ) → m ≡ n → Fits n → IsRecord (other.at m)
  whole_at n m same fits = subst (λ (k : ℕ). IsRecord (other.at k)) (sym same) fits.1

  -- two records by one number have as many cards
  same_length : (next again : ℕ) (numbers : List ℕ) (here there behind rest : List (List ℕ)) → here ++ behind ≡ there ++ rest →
      ((m : ℕ) (ms : List ℕ) → numbers ≡ m ∷ ms → length here ≡ length there) →
      CardChain l one job next numbers behind → CardChain l other job again numbers rest → length here ≡ length there
  same_length next again [] here there behind rest e two a b =
      let none : length behind ≡ 0 = ap length a.1 in
      let no_more : length rest ≡ 0 = ap length b.1 in
      let all : length here + length behind ≡ length there + length rest = sym (length-append here behind) ∙ (ap length e ∙ length-append there rest) in
      omega (arith, none, no_more, all)
  same_length next again (m ∷ ms) here there behind rest e two a b = two m ms refl

  -- Chains of the same cards by the same numbers begin alike, and agree.
  pub chains_agree : (first again : ℕ) (numbers : List ℕ) (cards more : List (List ℕ)) → cards ≡ more → CardChain l one job first numbers cards →
      CardChain l other job again numbers more → All Fits numbers → (again ≡ first) × All Agrees numbers
  chains_agree first again [] cards more e a b fit = (b.0 ∙ sym a.0, All-nil Agrees)
  chains_agree first again (n ∷ numbers) cards more e a b fit =
      let fits : Fits n = All-head Fits n numbers fit in
      let parts = front_same a.0 b.0 a.1 b.1 (same_length (number_at (one.at n) l.next_cards) (number_at (other.at n) l.next_cards) numbers
      a.0 b.0 a.1 b.1 (sym a.3 ∙ (e ∙ b.3)) (λ m ms is.
      two_here l one job n m ms a.0 a.1 a.4 a.5 fits.2 (subst (λ ns. CardChain l one job (number_at (one.at n) l.next_cards) ns a.1) is a.6)
      ∙ sym (two_here l other job n m ms b.0 b.1 b.4 b.5 fits.3 (subst (λ ns. CardChain l other job (number_at (other.at n) l.next_cards) ns b.1) is b.6)))
      a.6 b.6) (sym a.3 ∙ (e ∙ b.3)) in
      let rest = chains_agree (number_at (one.at n) l.next_cards) (number_at (other.at n) l.next_cards) numbers a.1 b.1 parts.1 a.6 b.6
      (All-tail Fits n numbers fit) in (
        b.2 ∙ sym a.2,
        All-cons Agrees n numbers (settled card_record n n refl a.4 (cards_agree l (one.at n) (other.at n) fits.0 fits.1 (b.4.of_kind ∙ sym a.4.of_kind)
            (b.4.of_job ∙ sym a.4.of_job) a.0 a.5 (subst (λ h. SpellsCards l h (other.at n)) (sym parts.0) b.5) rest.0)) rest.1,
      )
