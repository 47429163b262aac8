-- What the fields of records say is what the plan says that is read from them.
use Rattle.std.proofs.Common.{◌≡◌, ◌∙◌, ℕ, zero, suc, ◌+◌, ◌*◌, ◌<◌, ◌==◌, ◌||◌, Bool, true, false, cond, List, [], None, Some, ap, arith, drop, eqb-true, get_or, inl, inr, length, map, refl, subst, sym, take}
use Rattle.std.specs.Prelude.{nat_lt}
use Rattle.std.specs.List.{position}
use Rattle.std.proofs.lemmas.Bool.{cases_Bool, le-ltb, lt-ltb}
use Rattle.std.proofs.lemmas.List.{drop-drop}
use Rattle.std.proofs.lemmas.List.Sums.{position_or_len_is}
use Rattle.jname_core.specs.declared.key.Key.{Key}
use Rattle.jname_core.specs.declared.key.Key.TheVariants.{Named, Relative, Temporary, Unnamed}
use Rattle.jcl_plan.specs.Texts.{trimmed}
use Rattle.jcl_plan.specs.declared.plan.DdKind.{DdKind}
use Rattle.jcl_plan.specs.declared.plan.DdKind.TheVariants.{Cards, Dummy, Set, Sysout}
use Rattle.jcl_plan.specs.declared.plan.Space.{Space}
use Rattle.jcl_meaning.specs.Names.{is_temporary}
use Rattle.jcl_meaning.specs.Plans.{is_pass, normal_meaning, passes}
use Rattle.jcl_meaning.specs.Takes.{releases, secondary_of}
use Rattle.cb_meaning.specs.declared.layout.Layout.{Layout}
use Rattle.cb_meaning.specs.Fields.{byte_at, field, number_at, part}
use Rattle.cb_meaning.specs.Readings.{cards_read, conditional_read, key_read, kind_read, normal_read, set_read, sign_read, space_read, status_read, volume_read}
use Rattle.cb_meaning.specs.Spelled.{Records, cards_of}
use Rattle.cb_meaning.specs.Writable.{IsExpiry}
use Rattle.cb_meaning.specs.Walks.{has_space, in_parts, releases as has_release}
use Rattle.cb_read.specs.Ranges.{IsKindInRange, IsVolumeInRange}
use Rattle.job_text.specs.Texts.{cards_in, disp_text, primary_in, put_text, source_text, take_text}
use Rattle.job_text.specs.declared.texts.DispText.TheVariants as disp
use Rattle.job_text.specs.declared.texts.PutText.TheVariants as put
use Rattle.job_text.specs.declared.texts.SourceText.TheVariants as source
use Rattle.job_text.specs.declared.texts.TakeText.TheVariants as taking
use Rattle.job_records.specs.Fields.{fields_of_jfcb, fields_of_siot}
use Rattle.job_records.specs.Said.{disp_said, expiry_said, passes_said, primary_said, put_said, set_passes, source_said, take_other_said, take_said, take_set_said, temporary_said, volume_said}

-- a question to what is chosen is a choice of its answers
choice : {A B : Type 0} (f : A → B) (b : Bool) (x y : A) → f (cond b x y) ≡ cond b (f x) (f y)
choice f true x y = refl
choice f false x y = refl

of_kinds : {B : Type 0} (f : DdKind → B) (a b c : Bool) (x y z w : DdKind) → f (cond a x (cond b y (cond c z w))) ≡ cond a (f x) (cond b (f y) (cond c (f z) (f w)))
of_kinds f true b c x y z w = refl
of_kinds f false true c x y z w = refl
of_kinds f false false true x y z w = refl
of_kinds f false false false x y z w = refl

of_keys : (a b c : Bool) (x y z w : Key) →
    is_temporary (cond a x (cond b y (cond c z w))) ≡ cond a (is_temporary x) (cond b (is_temporary y) (cond c (is_temporary z) (is_temporary w)))
of_keys true b c x y z w = refl
of_keys false true c x y z w = refl
of_keys false false true x y z w = refl
of_keys false false false x y z w = refl

same_both : {B : Type 0} (b : Bool) (x : B) → cond b x x ≡ x
same_both true x = refl
same_both false x = refl

same_where : {B : Type 0} (b : Bool) (P : ℕ → B) (m n : ℕ) (z : B) → (b ≡ true → m ≡ n) → cond b (P m) z ≡ cond b (P n) z
same_where true P m n z h = ap P (h refl)
same_where false P m n z h = refl

either : (b c : Bool) → cond b true (cond c true false) ≡ (b || c)
either true c = refl
either false true = refl
either false false = refl

temporary_by : (k : ℕ) → cond (k == 3) false (cond (k == 4) true (cond (k == 5) true false)) ≡ (k == 4 || k == 5)
temporary_by k =
    elim (cases_Bool (k == 3)) [
      | inl is ↦ ap (λ n. cond (n == 3) false (cond (n == 4) true (cond (n == 5) true false))) (eqb-true k 3 is) ∙ sym (ap (λ n. n == 4 || n == 5) (eqb-true k 3 is))
      | inr not_so ↦ ap (λ b. cond b false (cond (k == 4) true (cond (k == 5) true false))) not_so ∙ either (k == 4) (k == 5)
    ]

pub temporary_is : (l : Layout) (r : List ℕ) → is_temporary (key_read r) ≡ temporary_said (fields_of_jfcb l r)
temporary_is l r =
    of_keys (byte_at r 8 == 3) (byte_at r 8 == 4) (byte_at r 8 == 5) (Relative (trimmed (part r 12 44)) (sign_read (byte_at r 9)) (number_at r (field 10 2)))
    (Temporary (trimmed (part r 12 44))) (Unnamed (number_at r (field 12 2)) (number_at r (field 14 2))) (Named (trimmed (part r 12 44)))
    ∙ temporary_by (byte_at r 8)

module _ (l : Layout) (q : Records) (s : List ℕ) where
  abbrev k : ℕ
  k = byte_at s 12

  abbrev jfcb : List ℕ
  jfcb = q.at (number_at s l.below)

  abbrev its_cards : List (List ℕ)
  its_cards = cards_read l q (l.most_records + 1) (number_at s l.below)

  abbrev the_space : Space
  the_space = record { primary = number_at s (field 34 2); secondary = number_at s (field 36 2); release = has_release s }

  abbrev chosen : {B : Type 0} → ℕ → B → B → B → B → B
  chosen n x y z w = cond (n == 1) x (cond (n == 3) y (cond (n == 4) z w))

  by_kind : {B : Type 0} (f : DdKind → B) →
      f (kind_read l q s) ≡ chosen k (f (Set (set_read l s jfcb))) (f (Sysout (byte_at s 25))) (f (Cards its_cards)) (f Dummy)
  by_kind f = of_kinds f (k == 1) (k == 3) (k == 4) (Set (set_read l s jfcb)) (Sysout (byte_at s 25)) (Cards its_cards) Dummy

  pub set_there : k ≡ 1 → kind_read l q s ≡ Set (set_read l s jfcb)
  set_there e = ap (λ n. chosen n (Set (set_read l s jfcb)) (Sysout (byte_at s 25)) (Cards its_cards) Dummy) e

  pub cards_there : k ≡ 4 → kind_read l q s ≡ Cards its_cards
  cards_there e = ap (λ n. chosen n (Set (set_read l s jfcb)) (Sysout (byte_at s 25)) (Cards its_cards) Dummy) e

  pub volume_in_range : k ≡ 1 → IsKindInRange (kind_read l q s) → IsVolumeInRange (volume_said (fields_of_siot l s) (fields_of_jfcb l jfcb))
  volume_in_range e range = (subst IsKindInRange (set_there e) range).volume

  pub expiry_in_range : k ≡ 1 → IsKindInRange (kind_read l q s) → IsExpiry (expiry_said (fields_of_jfcb l jfcb))
  expiry_in_range e range = (subst IsKindInRange (set_there e) range).expiry

  -- what has a card is cards
  pub cards_here : (i : ℕ) → i < length (cards_in (kind_read l q s)) → k ≡ 4
  cards_here i h =
      elim (cases_Bool (k == 4)) [
        | inl is ↦ eqb-true k 4 is
        | inr not_so ↦
            (let none : cards_in (kind_read l q s) ≡ [] = by_kind cards_in ∙ ap (λ b. cond (k == 1) [] (cond (k == 3) [] (cond b its_cards []))) not_so
            ∙ ap (λ x. cond (k == 1) [] x) (same_both (k == 3) []) ∙ same_both (k == 1) [] in
            let size = ap length none in
            absurd (omega (arith, h, size)))
      ]

  -- the cards that the SIOT counts
  module _ (counted : number_at s l.cards ≡ length (cards_of (kind_read l q s))) where
    so_many : (k == 4) ≡ true → length its_cards ≡ number_at s l.cards
    so_many e = sym (counted ∙ ap (λ kind. length (cards_of kind)) (cards_there (eqb-true k 4 e)))

    pub source_is : source_text (kind_read l q s) ≡ source_said (fields_of_siot l s)
    source_is =
        by_kind source_text
        ∙ ap (λ x. cond (k == 1) source.Set (cond (k == 3) source.Nothing x))
        (same_where (k == 4) source.Cards (length its_cards) (number_at s l.cards) source.Nothing so_many)

    pub take_is : take_text (kind_read l q s) ≡ take_said (fields_of_siot l s) (fields_of_jfcb l jfcb)
    take_is =
        by_kind take_text
        ∙ ap (λ p. chosen k (taking.Set (record { status = status_read (byte_at s 13); volume = volume_read s jfcb; primary = p; expiry = expiry_said (fields_of_jfcb l jfcb) }))
        (taking.Sysout (byte_at s 25)) (taking.Cards (length its_cards)) taking.Dummy) (choice primary_in (has_space s) (Some the_space) None)
        ∙ ap (λ x. cond (k == 1) (taking.Set (record {
          status = status_read (byte_at s 13);
          volume = volume_read s jfcb;
          primary = primary_said (fields_of_siot l s);
          expiry = expiry_said (fields_of_jfcb l jfcb);
        })) (cond (k == 3) (taking.Sysout (byte_at s 25)) x))
        (same_where (k == 4) taking.Cards (length its_cards) (number_at s l.cards) taking.Dummy so_many)

    pub take_set_is : k ≡ 1 → take_text (kind_read l q s) ≡ taking.Set (take_set_said (fields_of_siot l s) (fields_of_jfcb l jfcb))
    take_set_is e =
        take_is
        ∙ ap (λ n. cond (n == 1) (taking.Set (take_set_said (fields_of_siot l s) (fields_of_jfcb l jfcb))) (take_other_said (fields_of_siot l s))) e

    pub take_other_is : (k == 1) ≡ false → take_text (kind_read l q s) ≡ take_other_said (fields_of_siot l s)
    take_other_is e =
        take_is
        ∙ ap (λ b. cond b (taking.Set (take_set_said (fields_of_siot l s) (fields_of_jfcb l jfcb))) (take_other_said (fields_of_siot l s))) e

  pub put_is : put_text (kind_read l q s) ≡ put_said (fields_of_siot l s)
  put_is =
      by_kind put_text
      ∙ ap (λ n. chosen k (put.Set (record { status = status_read (byte_at s 13); secondary = n })) put.Sysout put.Cards put.Dummy)
      (choice secondary_of (has_space s) (Some the_space) None)

  pub disp_is : disp_text (kind_read l q s) ≡ disp_said (fields_of_siot l s)
  disp_is =
      by_kind disp_text
      ∙ ap (λ x. cond (k == 1) (disp.Set (record {
        normal = normal_read (byte_at s 14);
        conditional = conditional_read (byte_at s 15);
        release = releases (space_read s);
      })) (cond (k == 3) (disp.Sysout (byte_at s 25)) x)) (same_both (k == 4) disp.Nothing)
      ∙ ap (λ b. cond (k == 1) (disp.Set (record { normal = normal_read (byte_at s 14); conditional = conditional_read (byte_at s 15); release = b }))
      (cond (k == 3) (disp.Sysout (byte_at s 25)) disp.Nothing)) (choice releases (has_space s) (Some the_space) None)

  pub passes_is : passes (kind_read l q s) ≡ passes_said (fields_of_siot l s) (fields_of_jfcb l jfcb)
  passes_is =
      by_kind passes
      ∙ ap (λ b. chosen k (is_pass (normal_meaning b (normal_read (byte_at s 14)))) false false false) (temporary_is l jfcb)
      ∙ ap (λ x. cond (k == 1) (is_pass (normal_meaning (temporary_said (fields_of_jfcb l jfcb)) (normal_read (byte_at s 14)))) x)
      (ap (λ x. cond (k == 3) false x) (same_both (k == 4) false) ∙ same_both (k == 3) false)

  pub set_passes_is : k ≡ 1 → passes (kind_read l q s) ≡ set_passes (fields_of_siot l s) (fields_of_jfcb l jfcb)
  set_passes_is e = passes_is ∙ ap (λ n. cond (n == 1) (set_passes (fields_of_siot l s) (fields_of_jfcb l jfcb)) false) e

  pub none_passes : (k == 1) ≡ false → passes (kind_read l q s) ≡ false
  none_passes e = passes_is ∙ ap (λ b. cond b (set_passes (fields_of_siot l s) (fields_of_jfcb l jfcb)) false) e

-- a test by its number, of those that lie one behind the other
test_behind : (bytes : List ℕ) (i : ℕ) → take 5 (drop (5 * i) (drop 5 bytes)) ≡ take 5 (drop (5 * suc i) bytes)
test_behind bytes i =
    let on : 5 + 5 * i ≡ 5 * suc i = omega arith in
    ap (take 5) (drop-drop (5 * i) 5 bytes ∙ ap (λ n. drop n bytes) on)

module _ {A : Type 0} (read : List ℕ → A) (d : A) where
  pub test_at_is : (count n i : ℕ) (bytes : List ℕ) → i < length (map read (take count (in_parts n 5 bytes))) →
      get_or (map read (take count (in_parts n 5 bytes))) i d ≡ read (take 5 (drop (5 * i) bytes))
  test_at_is zero n i bytes h = absurd (omega (arith, h))
  test_at_is (suc count) zero i bytes h = absurd (omega (arith, h))
  test_at_is (suc count) (suc n) zero bytes h = refl
  test_at_is (suc count) (suc n) (suc i) bytes h =
      test_at_is count n i (drop 5 bytes) (omega (arith, h)) ∙ ap read (test_behind bytes i)

  pub few_tests : (count n i : ℕ) (bytes : List ℕ) → i < length (map read (take count (in_parts n 5 bytes))) → i < n
  few_tests zero n i bytes h = absurd (omega (arith, h))
  few_tests (suc count) zero i bytes h = absurd (omega (arith, h))
  few_tests (suc count) (suc n) zero bytes h = omega arith
  few_tests (suc count) (suc n) (suc i) bytes h = let less = few_tests count n i (drop 5 bytes) (omega (arith, h)) in omega (arith, less)

-- the first that passes
module _ {A : Type 0} (p : A → Bool) (xs : List A) (d : A) where
  pub found_at : (i : ℕ) → i < length xs → ((j : ℕ) → j < i → p (get_or xs j d) ≡ false) → p (get_or xs i d) ≡ true → position p xs ≡ Some i
  found_at i there before passes =
      let is = position_or_len_is p xs i d (omega (arith, there)) before (λ _. passes) in
      (λ j. cond (nat_lt (is j) (length xs)) (Some (is j)) None) ∙ ap (λ b. cond b (Some i) None) (lt-ltb i (length xs) there)

  pub found_nowhere : ((j : ℕ) → j < length xs → p (get_or xs j d) ≡ false) → position p xs ≡ None
  found_nowhere none =
      let is = position_or_len_is p xs (length xs) d (omega arith) none (λ past. absurd (omega (arith, past))) in
      (λ j. cond (nat_lt (is j) (length xs)) (Some (is j)) None) ∙ ap (λ b. cond b (Some (length xs)) None) (le-ltb (length xs) (length xs) (omega arith))
