-- Copies that are added one after another.
use Rattle.std.proofs.Common.{◌≡◌, ◌⊎◌, ◌<◌, ℕ, ◌+◌, ◌||◌, length, take, get_or, inl, inr, ⊎_elim, Bool, true, false, List, [], ◌∷◌, ◌++◌, Option, Some, None, IfSome, refl, ap, subst, sym, ◌∙◌, append-nil, append_assoc}
use Rattle.std.specs.List.{list_any}
use Rattle.std.specs.Option.{option_or}
use Rattle.std.proofs.lemmas.List.{take_more}
use Rattle.std.proofs.lemmas.List.Folds.{list_any-append}
use Rattle.part_copy.specs.Copies.{Adds}

-- what is found in the first or else in the second of two parts
either : {Y : Type 0} (o p s : Option Y) → IfSome o (λ y. s ≡ Some y) → IfSome p (λ y. s ≡ Some y) → IfSome (option_or o p) (λ y. s ≡ Some y)
either None p s h k = k
either (Some x) p s h k = h

in_first : {Y : Type 0} (o p s : Option Y) → o ≡ s → IfSome p (λ y. s ≡ Some y) → option_or o p ≡ s
in_first None None s h k = h
in_first None (Some x) s h k = sym k
in_first (Some x) p s h k = h

in_second : {Y : Type 0} (o p s : Option Y) → IfSome o (λ y. s ≡ Some y) → p ≡ s → option_or o p ≡ s
in_second None p s h k = k
in_second (Some x) p s h k = sym h

either_true : (a b : Bool) → (a || b) ≡ true → (a ≡ true) ⊎ (b ≡ true)
either_true true b h = inl refl
either_true false b h = inr h

alone : (b : Bool) → (b || false) ≡ true → b ≡ true
alone true h = refl
alone false h = h

one_more : {H : Type 0} (f : H → Bool) (hs : List H) (i : ℕ) (h : H) → i < length hs → get_or hs i h ≡ h →
    list_any f (take (i + 1) hs) ≡ true → (list_any f (take i hs) ≡ true) ⊎ (f h ≡ true)
one_more f hs i h l is e =
    let more = take_more hs i h l ∙ ap (λ x. take i hs ++ x ∷ []) is in
    ⊎_elim inl (λ a. inr (alone (f h) a))
    (either_true (list_any f (take i hs)) (f h || false) (sym (list_any-append f (take i hs) (h ∷ [])) ∙ sym (ap (list_any f) more) ∙ e))

module _ {X Q Y : Type 0} (found : List X → Q → Option Y) (stands : Q → Option Y) where
  pub nothing : (xs : List X) → ((q : Q) → found [] q ≡ None) → Adds found stands (λ _. false) xs xs
  nothing xs none = record {
    more = [];
    behind = sym (append-nil xs);
    copied = λ q. subst (λ (o : Option Y). IfSome o (λ y. stands q ≡ Some y)) (sym (none q)) tt;
    whole = λ q h. absurd (cc);
  }

  -- to be complete where less is asked
  pub weaker : (c e : Q → Bool) (old new : List X) → ((q : Q) → e q ≡ true → c q ≡ true) → Adds found stands c old new → Adds found stands e old new
  weaker c e old new within a = record { more = a.more; behind = a.behind; copied = a.copied; whole = λ q h. a.whole q (within q h) }

  pub join : (parts : (xs ys : List X) (q : Q) → found (xs ++ ys) q ≡ option_or (found xs q) (found ys q)) (c d e : Q → Bool) (old between new : List X) →
      ((q : Q) → e q ≡ true → (c q ≡ true) ⊎ (d q ≡ true)) → Adds found stands c old between → Adds found stands d between new → Adds found stands e old new
  join parts c d e old between new within a b = record {
    more = a.more ++ b.more;
    behind = b.behind ∙ ap (λ xs. xs ++ b.more) a.behind ∙ append_assoc old a.more b.more;
    copied = λ q. subst (λ (o : Option Y). IfSome o (λ y. stands q ≡ Some y)) (sym (parts a.more b.more q))
        (either (found a.more q) (found b.more q) (stands q) (a.copied q) (b.copied q));
    whole = λ q h. parts a.more b.more q ∙ ⊎_elim
        (λ f. in_first (found a.more q) (found b.more q) (stands q) (a.whole q f) (b.copied q))
        (λ s. in_second (found a.more q) (found b.more q) (stands q) (a.copied q) (b.whole q s))
        (within q h);
  }

  -- the next of a list in turn
  pub next : (parts : (xs ys : List X) (q : Q) → found (xs ++ ys) q ≡ option_or (found xs q) (found ys q)) {H : Type 0} (p : H → Q → Bool) (hs : List H) (i : ℕ) (h : H)
      (old between new : List X) → i < length hs → get_or hs i h ≡ h → Adds found stands (λ q. list_any (λ x. p x q) (take i hs)) old between →
      Adds found stands (p h) between new → Adds found stands (λ q. list_any (λ x. p x q) (take (i + 1) hs)) old new
  next parts p hs i h old between new l is a b =
      join parts (λ q. list_any (λ x. p x q) (take i hs)) (p h) (λ q. list_any (λ x. p x q) (take (i + 1) hs)) old between new
      (λ q e. one_more (λ x. p x q) hs i h l is e) a b
