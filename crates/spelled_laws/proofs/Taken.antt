-- Two writings of a job in the same free records leave the same records, but for what is open.
use Rattle.std.proofs.Common.{◌≡◌, ◌++◌, ◌==◌, ◌||◌, inl, inr, arith, ℕ, true, false, List, [], ◌∷◌, refl, sym, ap, ◌∙◌, subst, eqb-true}
use Rattle.std.specs.Prelude.{All}
use Rattle.std.specs.List.{list_any}
use Rattle.std.proofs.lemmas.Bool.{cases_Bool, or_cases}
use Rattle.std.proofs.lemmas.List.Elements.{All-head, All-tail}
use Rattle.std.proofs.lemmas.List.Folds.{list_any-append}
use Rattle.jcl_plan.specs.declared.plan.JobPlan.{JobPlan}
use Rattle.cb_meaning.specs.declared.layout.Layout.{Layout}
use Rattle.cb_meaning.specs.Fields.{byte_at}
use Rattle.cb_meaning.specs.Needs.{IsPacked}
use Rattle.cb_meaning.specs.Spelled.{Denotes, Records}
use Rattle.cb_meaning.specs.Walks.{is_free}
use Rattle.record_laws.proofs.Owners.{job_owned}
use Rattle.walk_laws.specs.WalkLaws.{AreRecords, IsRecord}
use Rattle.world_meaning.specs.Records.{AgreeBut, IsQueueLayout, SameRecords, has_status, open_fields}
use Rattle.world_laws.proofs.Bytes.{low_byte, told_byte, told_number}
use Rattle.world_laws.proofs.Denoting.{denotes_still}
use Rattle.open_laws.specs.Open.{IsSameness}
use Rattle.spelled_laws.specs.Once.{ArePacked}
use Rattle.spelled_laws.proofs.Once.{job_is_spelled_once}

-- what holds of each number of a list holds of one that stands there
at_one : (P : ℕ → Type 0) (numbers : List ℕ) (n : ℕ) → All P numbers → list_any (λ f. f == n) numbers ≡ true → P n
at_one P [] n all e = absurd cc
at_one P (x ∷ numbers) n all e =
    elim (or_cases (x == n) (list_any (λ f. f == n) numbers) e) [
      | inl here ↦ subst P (eqb-true x n here) (All-head P x numbers all)
      | inr later ↦ at_one P numbers n (All-tail P x numbers all) later
    ]

module _ (l : Layout) (own : IsQueueLayout l) (kept : IsSameness l) where
  -- single records that agree do so both ways, and one after another
  abbrev alone : List ℕ → Records
  alone r = record { at = λ n. r; free = [] }

  alone_same : (r s : List ℕ) → AgreeBut (open_fields l r) r s → SameRecords l (alone r) (alone s)
  alone_same r s x = record { free = refl; used = λ n is. x }

  agree_back : (r s : List ℕ) → AgreeBut (open_fields l r) r s → AgreeBut (open_fields l s) s r
  agree_back r s x = (kept.back (alone r) (alone s) (alone_same r s x)).used 0 refl

  agree_on : (r s t : List ℕ) → AgreeBut (open_fields l r) r s → AgreeBut (open_fields l s) s t → AgreeBut (open_fields l r) r t
  agree_on r s t x y = (kept.on (alone r) (alone s) (alone t) (alone_same r s x) (alone_same s t y)).used 0 refl

  -- what is open says nothing of packing
  packed_still : (r s : List ℕ) → AgreeBut (open_fields l r) r s → IsPacked l r → IsPacked l s
  packed_still r s x packed = λ kind next.
      told_byte l own (has_status (byte_at r 0)) r s x 10 (omega arith) (λ e. omega arith)
      ∙ packed (sym (low_byte l own (has_status (byte_at r 0)) r s x 0 (omega arith)) ∙ kind)
      (λ none. next (told_number l own (has_status (byte_at r 0)) r s x l.next_cards own.next_cards ∙ none))

  -- a job that was written is whole, packed and denoted where what is open was opened again
  module _ (units job : ℕ) (plan : JobPlan) (numbers : List ℕ) (one new : Records) (same : SameRecords l one new) (records : AreRecords new)
      (denoted : Denotes l units one job numbers plan) (packed : All (λ n. IsPacked l (one.at n)) numbers) where
    pub denoted_again : Denotes l units new job numbers plan
    denoted_again =
        denotes_still l own job one new (λ n used owner. (ap (list_any (λ f. f == n)) same.free ∙ used, same.used n used)) units numbers plan denoted

    -- its records were in use
    used_all : All (λ n. is_free one n ≡ false) numbers
    used_all = job_owned l one job (λ n. is_free one n ≡ false) (λ kind n o. o.in_use) numbers plan denoted.spelled

    one_packed : (n : ℕ) → is_free one n ≡ false → IsPacked l (one.at n) → IsPacked l (new.at n)
    one_packed n used p = packed_still (one.at n) (new.at n) (same.used n used) p

    pub packed_again : ArePacked l new numbers
    packed_again = record {
      whole = job_owned l new job (λ n. IsRecord (new.at n)) (λ kind n o. records n o.in_use) numbers plan denoted_again.spelled;
      packed = λ k d within. one_packed _ (used_all k d within) (packed k d within);
    }

  -- two machines that wrote it by the same numbers, each opened again
  module _ (units job : ℕ) (plan : JobPlan) (numbers : List ℕ) (old one new other again : Records) (same : SameRecords l one new)
      (same_too : SameRecords l other again) (records : AreRecords new) (records_too : AreRecords again)
      (denoted : Denotes l units one job numbers plan) (denoted_too : Denotes l units other job numbers plan)
      (packed : All (λ n. IsPacked l (one.at n)) numbers) (packed_too : All (λ n. IsPacked l (other.at n)) numbers)
      (taken : old.free ≡ numbers ++ one.free) (free : other.free ≡ one.free)
      (others : (n : ℕ) → is_free old n ≡ false → AgreeBut (open_fields l (old.at n)) (old.at n) (one.at n))
      (others_too : (n : ℕ) → is_free old n ≡ false → AgreeBut (open_fields l (old.at n)) (old.at n) (other.at n)) where
    -- its own records
    of_the_job : (n : ℕ) → list_any (λ f. f == n) numbers ≡ true → AgreeBut (open_fields l (new.at n)) (new.at n) (again.at n)
    of_the_job n among = at_one (λ m. AgreeBut (open_fields l (new.at m)) (new.at m) (again.at m)) numbers n
        (job_is_spelled_once l units job numbers plan new again (packed_again units job plan numbers one new same records denoted packed)
        (packed_again units job plan numbers other again same_too records_too denoted_too packed_too)
        (denoted_again units job plan numbers one new same records denoted packed)
        (denoted_again units job plan numbers other again same_too records_too denoted_too packed_too)) among

    -- those of other jobs
    of_others : (n : ℕ) → is_free one n ≡ false → is_free other n ≡ false → is_free old n ≡ false → AgreeBut (open_fields l (new.at n)) (new.at n) (again.at n)
    of_others n used used_too used_before =
        agree_on (new.at n) (one.at n) (again.at n) (agree_back (one.at n) (new.at n) (same.used n used))
        (agree_on (one.at n) (old.at n) (again.at n) (agree_back (old.at n) (one.at n) (others n used_before))
        (agree_on (old.at n) (other.at n) (again.at n) (others_too n used_before) (same_too.used n used_too)))

    pub written_twice : SameRecords l new again
    written_twice = record {
      free = same_too.free ∙ (free ∙ sym same.free);
      used = λ n is.
          let used : is_free one n ≡ false = ap (list_any (λ f. f == n)) (sym same.free) ∙ is in
          let used_too : is_free other n ≡ false = ap (list_any (λ f. f == n)) free ∙ used in
          elim (cases_Bool (is_free old n)) [
            | inr before ↦ of_others n used used_too before
            | inl before ↦
                let split : (list_any (λ f. f == n) numbers || list_any (λ f. f == n) one.free) ≡ true =
                sym (list_any-append (λ f. f == n) numbers one.free) ∙ (ap (list_any (λ f. f == n)) (sym taken) ∙ before) in
                elim (or_cases (list_any (λ f. f == n) numbers) (list_any (λ f. f == n) one.free) split) [
                  | inl among ↦ of_the_job n among
                  | inr left ↦ let clash : true ≡ false = sym left ∙ used in absurd cc
                ]
          ];
    }
