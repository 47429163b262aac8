-- What is read along the links of records, one after another.
use Rattle.std.proofs.Common.{◌≡◌, ◌≢◌, ℕ, suc, ◌-◌, ◌<◌, ◌≤◌, cond, List, [], ◌∷◌, ◌++◌, All, refl, sym, ap, ◌∙◌, arith}
use Rattle.std.proofs.lemmas.Bool.{ne_eqb}
use Rattle.std.proofs.lemmas.List.{append-nil, append_assoc}
use Rattle.std.proofs.lemmas.List.Elements.{All-head, All-same, All-tail}
use Rattle.cb_meaning.specs.declared.layout.Layout.{Layout}
use Rattle.cb_meaning.specs.Fields.{number_at}
use Rattle.cb_meaning.specs.Readings.{cards_of_record, cards_read, dd_read, dds_read, step_read, steps_read}
use Rattle.cb_meaning.specs.Spelled.{Records}

-- A list that is read from a record on, over so many records at most: of each what it has, and then of the one that it leads to.
pub record IsChain {A : Type 0} (read : ℕ → ℕ → List A) (here : ℕ → List A) (next : ℕ → ℕ) : Type 0 where
  pub spent : (n : ℕ) → read 0 n ≡ []
  pub end : (fuel : ℕ) → read (suc fuel) 0 ≡ []
  pub more : (fuel n : ℕ) → n ≢ 0 → read (suc fuel) n ≡ here n ++ read fuel (next n)

one_here : {A : Type 0} (read : ℕ → ℕ → List A) (here : ℕ → List A) (next : ℕ → ℕ) → IsChain read here next → (left n : ℕ) → 0 < left → n ≢ 0 →
    read left n ≡ here n ++ read (left - 1) (next n)
one_here read here next chain left n some there =
    let one : left ≡ suc (left - 1) = omega (arith, some) in
    ap (λ x. read x n) one ∙ chain.more (left - 1) n there

-- It was read so far, and so many records are left.
module _ {A : Type 0} (read : ℕ → ℕ → List A) (here : ℕ → List A) (next : ℕ → ℕ) (chain : IsChain read here next) (whole items : List A) (left n : ℕ)
    (is : whole ≡ items ++ read left n) where
  at_end : read left n ≡ [] → items ≡ whole
  at_end none = sym (is ∙ ap (λ xs. items ++ xs) none ∙ append-nil items)

  pub all_read : left ≤ 0 → items ≡ whole
  all_read none =
      let spent : left ≡ 0 = omega (arith, none) in
      at_end (ap (λ x. read x n) spent ∙ chain.spent n)

  pub none_follows : 0 < left → n ≡ 0 → items ≡ whole
  none_follows some last =
      let one : left ≡ suc (left - 1) = omega (arith, some) in
      at_end ((λ i. read (one i) (last i)) ∙ chain.end (left - 1))

  pub more_read : (new : List A) (m : ℕ) → 0 < left → n ≢ 0 → new ≡ items ++ here n → m ≡ next n → whole ≡ new ++ read (left - 1) m
  more_read new m some there added on =
      is ∙ ap (λ xs. items ++ xs) (one_here read here next chain left n some there) ∙ sym (append_assoc items (here n) (read (left - 1) (next n)))
      ∙ (λ i. sym added i ++ read (left - 1) (sym on i))

-- Each record has one item, and what is left to read is in range.
module _ {A : Type 0} (read : ℕ → ℕ → List A) (item : ℕ → A) (next : ℕ → ℕ) (chain : IsChain read (λ n. item n ∷ []) next) (left n : ℕ) (some : 0 < left)
    (there : n ≢ 0) (P : A → Type 0) (range : All P (read left n)) where
  in_range : All P (item n ∷ read (left - 1) (next n))
  in_range =
      All-same P (item n ∷ read (left - 1) (next n)) (read left n) (sym (one_here read (λ m. item m ∷ []) next chain left n some there)) range

  pub item_in_range : P (item n)
  item_in_range = All-head P (item n) (read (left - 1) (next n)) in_range

  pub rest_in_range : (m : ℕ) → m ≡ next n → All P (read (left - 1) m)
  rest_in_range m on =
      All-same P (read (left - 1) m) (read (left - 1) (next n)) (ap (read (left - 1)) on) (All-tail P (item n) (read (left - 1) (next n)) in_range)

module _ (l : Layout) (q : Records) where
  pub cards_chain : IsChain (cards_read l q) (λ n. cards_of_record (q.at n)) (λ n. number_at (q.at n) l.next_cards)
  unfolding cards_read
  cards_chain = record {
    spent = λ n. refl;
    end = λ fuel. refl;
    more = λ fuel n there. ap (λ b. cond b [] (cards_of_record (q.at n) ++ cards_read l q fuel (number_at (q.at n) l.next_cards))) (ne_eqb n 0 there);
  }

  pub dds_chain : IsChain (dds_read l q) (λ n. dd_read l q (q.at n) ∷ []) (λ n. number_at (q.at n) l.next_dd)
  unfolding dds_read
  dds_chain = record {
    spent = λ n. refl;
    end = λ fuel. refl;
    more = λ fuel n there. ap (λ b. cond b [] (dd_read l q (q.at n) ∷ dds_read l q fuel (number_at (q.at n) l.next_dd))) (ne_eqb n 0 there);
  }

  pub steps_chain : IsChain (steps_read l q) (λ n. step_read l q (q.at n) ∷ []) (λ n. number_at (q.at n) l.next_step)
  unfolding steps_read
  steps_chain = record {
    spent = λ n. refl;
    end = λ fuel. refl;
    more = λ fuel n there. ap (λ b. cond b [] (step_read l q (q.at n) ∷ steps_read l q fuel (number_at (q.at n) l.next_step))) (ne_eqb n 0 there);
  }
