-- What an event looks at in records tells the same where they differ in what is open alone.
use Rattle.std.proofs.Common.{◌≡◌, ◌≤◌, ◌++◌, ◌==◌, arith, ℕ, Bool, true, false, cond, List, [], ◌∷◌, refl, sym, ap, ◌∙◌, subst}
use Rattle.std.specs.Prelude.{filter}
use Rattle.std.specs.List.{list_any}
use Rattle.std.proofs.lemmas.Bool.{eqb-true, or_parts}
use Rattle.jcl_plan.specs.declared.plan.JobPlan.{JobPlan}
use Rattle.cb_meaning.specs.Fields.{byte_at, field, is_in, number_at, number_of, with_part}
use Rattle.cb_meaning.specs.Spelled.{Denotes, Records}
use Rattle.cb_meaning.specs.Walks.{first_fault, is_free, owner_of}
use Rattle.plain.specs.Lists.{numbers_from}
use Rattle.world_meaning.specs.Readings.{IsWritten}
use Rattle.world_meaning.specs.Records.{AgreeBut, IsQueueLayout, SameRecords, has_status, open_fields, owned_by, records_given_back, with_record}
use Rattle.world_meaning.specs.Worlds.{Config}
use Rattle.world_laws.specs.RecordsKept.{DenotesStill}
use Rattle.world_laws.proofs.Bytes.{low_part}
use Rattle.open_laws.specs.Open.{SamenessIsKept}
use Rattle.open_laws.specs.Reading.{AreAlikeFor, FirstFaultStays}
use Rattle.alike_laws.proofs.Bytes.{part_same}

-- Where none of all numbers is so none of the last ones is.
any_behind : (p : ℕ → Bool) (xs ys : List ℕ) → list_any p (xs ++ ys) ≡ false → list_any p ys ≡ false
any_behind p [] ys h = h
any_behind p (x ∷ xs) ys h = any_behind p xs ys (or_parts (p x) (list_any p (xs ++ ys)) h).1

module _ (c : Config) (own : IsQueueLayout c.layout) (q r : Records) (same : SameRecords c.layout q r) where
  -- which records are free
  pub free_same : (n : ℕ) → is_free r n ≡ is_free q n
  free_same n = ap (list_any (λ f. f == n)) same.free

  -- the owner in a record's bytes
  number_same : (n : ℕ) → is_free q n ≡ false → number_at (r.at n) (field 2 2) ≡ number_at (q.at n) (field 2 2)
  number_same n used =
      ap number_of (low_part c.layout own (has_status (byte_at (q.at n) 0)) (q.at n) (r.at n) (same.used n used) 2 2 (omega arith))

  -- the owner of a record; a free one has none
  pub owner_same : (n : ℕ) → owner_of r n ≡ owner_of q n
  owner_same n = by (is_free q n) refl
    where
      by : (b : Bool) → is_free q n ≡ b → owner_of r n ≡ owner_of q n
      by true e =
          ap (λ t. cond t 0 (number_at (r.at n) (field 2 2))) (free_same n ∙ e) ∙ sym (ap (λ t. cond t 0 (number_at (q.at n) (field 2 2))) e)
      by false e =
          ap (λ t. cond t 0 (number_at (r.at n) (field 2 2))) (free_same n ∙ e) ∙ number_same n e
          ∙ sym (ap (λ t. cond t 0 (number_at (q.at n) (field 2 2))) e)

  -- strict reading tells the same of them
  alike : (job : ℕ) → AreAlikeFor c.layout job q r
  alike job = record {
    free = λ n low high. free_same n;
    used = λ n low high is. record {
      bytes = record {
        size = (same.used n is).size;
        bytes = λ k out. (same.used n is).bytes k (or_parts (is_in (field 2 2) k) (list_any (λ f. is_in f k) (open_fields c.layout (q.at n))) out).1;
      };
      owner = ap (λ o. o == job) (number_same n is);
    };
  }

  -- the first fault of a job
  pub fault_same : FirstFaultStays → (units job n : ℕ) → first_fault c.layout units r job n ≡ first_fault c.layout units q job n
  fault_same stays units job n = stays c.layout units job n q r own (alike job)

  -- what records denote
  pub denoted_same : DenotesStill → SamenessIsKept → (units job : ℕ) (numbers : List ℕ) (plan : JobPlan) → Denotes c.layout units r job numbers plan →
      Denotes c.layout units q job numbers plan
  denoted_same still kept units job numbers plan =
      still c.layout units r q job numbers plan own (λ n used owner. (sym (free_same n) ∙ used, ((kept c.layout own).back q r same).used n used))

  -- records given back
  pub given_back : (job : ℕ) → SameRecords c.layout (records_given_back c.layout q job) (records_given_back c.layout r job)
  given_back job = record {
    free = λ i. filter (λ n. owner_same n i == job) (numbers_from 1 c.layout.most_records) ++ same.free i;
    used = λ n is. same.used n (any_behind (λ f. f == n) (owned_by c.layout q job) q.free is);
  }

  -- bytes of a record changed
  pub zapped_same : (n at : ℕ) (bytes : List ℕ) → 8 ≤ at →
      SameRecords c.layout (with_record q n (with_part (q.at n) at bytes)) (with_record r n (with_part (r.at n) at bytes))
  zapped_same n at bytes from = record { free = same.free; used = λ m used. by m used (m == n) refl }
    where
      by : (m : ℕ) → is_free q m ≡ false → (b : Bool) → (m == n) ≡ b →
          AgreeBut (open_fields c.layout (cond b (with_part (q.at n) at bytes) (q.at m))) (cond b (with_part (q.at n) at bytes) (q.at m))
          (cond b (with_part (r.at n) at bytes) (r.at m))
      by m used true e =
          part_same c.layout (q.at n) (r.at n) at bytes from (same.used n (subst (λ k. is_free q k ≡ false) (eqb-true m n e) used))
      by m used false e = same.used m used

  -- a job is written in the same records
  pub written_same : SamenessIsKept → (new : Records) (job : ℕ) (plan : JobPlan) (first : ℕ) → IsWritten c r new job plan first →
      IsWritten c q new job plan first
  written_same kept new job plan first w = record {
    behind = w.behind;
    taken = sym same.free ∙ w.taken;
    needed = w.needed;
    packed = w.packed;
    denoted = w.denoted;
    others = λ n used. ((kept c.layout own).on q r (record { at = new.at; free = r.free }) same
        (record { free = refl; used = w.others })).used n used;
  }
