-- Wants and holds in byte order of their names.
use Rattle.std.proofs.Common.{◌≡◌, ◌≢◌, ℕ, zero, suc, ◌+◌, ◌<◌, Bool, true, false, cond, List, [], ◌∷◌, ◌++◌, length, get_or, arith}
use Rattle.std.specs.List.{All, filter}
use Rattle.std.proofs.lemmas.Cmp.{nat_list_cmp_total}
use Rattle.std.proofs.lemmas.List.Elements.{All-append, All-cons, All-filter, All-head, All-map, All-nil, All-tail, All-weaker}
use Rattle.enq_core.specs.declared.table.Hold.{Hold}
use Rattle.enq_core.specs.declared.table.Want.{Want}
use Rattle.enq_core.specs.Holds.{AreWants, HoldsNone, holds_of}
use Rattle.enq_core.specs.Order.{AreInOrder, IsBefore}

pub before_trans : (x y z : List ℕ) → IsBefore x y → IsBefore y z → IsBefore x z
before_trans x y z p q = nat_list_cmp_total.trans x y z p q

-- of two wants the one at the lesser place has the lesser name
pub wants_rise : (wants : List Want) (i j : ℕ) (d e : Want) → AreWants wants → i < j → j < length wants → IsBefore (get_or wants i d).name (get_or wants j e).name
wants_rise [] i j d e a l h = absurd (omega arith)
wants_rise (want ∷ wants) zero zero d e a l h = absurd (omega arith)
wants_rise (want ∷ wants) zero (suc j) d e a l h = a.0 j e (omega arith)
wants_rise (want ∷ wants) (suc i) zero d e a l h = absurd (omega arith)
wants_rise (want ∷ wants) (suc i) (suc j) d e a l h = wants_rise wants i j d e a.1 (omega arith) (omega arith)

-- and of two holds of one job
pub holds_rise : (holds : List Hold) (i j : ℕ) (d e : Hold) → AreInOrder holds → i < j → j < length holds → (get_or holds i d).job ≡ (get_or holds j e).job → IsBefore (get_or holds i d).name (get_or holds j e).name
holds_rise [] i j d e a l h = absurd (omega arith)
holds_rise (hold ∷ holds) zero zero d e a l h = absurd (omega arith)
holds_rise (hold ∷ holds) zero (suc j) d e a l h = a.0 j e (omega arith)
holds_rise (hold ∷ holds) (suc i) zero d e a l h = absurd (omega arith)
holds_rise (hold ∷ holds) (suc i) (suc j) d e a l h = holds_rise holds i j d e a.1 (omega arith) (omega arith)

-- each want stands before its neighbour
abbrev pub RiseByOne : List Want → Type 0
RiseByOne wants = (i j : ℕ) (d : Want) → j ≡ i + 1 → j < length wants → IsBefore (get_or wants i d).name (get_or wants j d).name

rest_rises : (want : Want) (wants : List Want) → RiseByOne (want ∷ wants) → RiseByOne wants
rest_rises want wants r = λ i j d e h. r (suc i) (suc j) d (omega arith) (omega arith)

first_is_least : (want : Want) (wants : List Want) → RiseByOne (want ∷ wants) → All (λ other. IsBefore want.name other.name) wants
first_is_least want [] r = All-nil (λ other. IsBefore want.name other.name)
first_is_least want (next ∷ wants) r =
    let first : IsBefore want.name next.name = r 0 1 want (omega arith) (omega arith) in
    All-cons (λ other. IsBefore want.name other.name) next wants first
    (All-weaker (λ other. IsBefore next.name other.name) (λ other. IsBefore want.name other.name) (λ other b. before_trans want.name next.name other.name first b) wants
    (first_is_least next wants (rest_rises want (next ∷ wants) r)))

pub wants_from_neighbours : (wants : List Want) → RiseByOne wants → AreWants wants
wants_from_neighbours [] r = tt
wants_from_neighbours (want ∷ wants) r = (first_is_least want wants r, wants_from_neighbours wants (rest_rises want wants r))

-- one hold of a job, and those of its further wants
abbrev hold_of : ℕ → Want → Hold
hold_of job want = record { job = job; name = want.name; exclusive = want.exclusive }

holds_of_in_order : (job : ℕ) (wants : List Want) → AreWants wants → AreInOrder (holds_of job wants)
holds_of_in_order job [] a = tt
holds_of_in_order job (want ∷ wants) a = (
  All-map (λ other. job ≡ other.job → IsBefore want.name other.name) (hold_of job) wants
      (All-weaker (λ other. IsBefore want.name other.name) (λ other. job ≡ job → IsBefore want.name other.name) (λ other b e. b) wants a.0),
  holds_of_in_order job wants a.1,
)

-- the holds of a job that held none come behind those of the others
pub more_in_order : (holds : List Hold) (job : ℕ) (wants : List Want) → AreInOrder holds → HoldsNone holds job → AreWants wants → AreInOrder (holds ++ holds_of job wants)
more_in_order [] job wants o none a = holds_of_in_order job wants a
more_in_order (hold ∷ holds) job wants o none a = (
  All-append (λ other. hold.job ≡ other.job → IsBefore hold.name other.name) holds (holds_of job wants) o.0
      (All-map (λ other. hold.job ≡ other.job → IsBefore hold.name other.name) (hold_of job) wants
      (λ k d h e. absurd (All-head (λ other. other.job ≢ job) hold holds none e))),
  more_in_order holds job wants o.1 (All-tail (λ other. other.job ≢ job) hold holds none) a,
)

kept_first : (b : Bool) (hold : Hold) (holds : List Hold) → All (λ other. hold.job ≡ other.job → IsBefore hold.name other.name) holds → AreInOrder holds → AreInOrder (cond b (hold ∷ holds) holds)
kept_first true hold holds first o = (first, o)
kept_first false hold holds first o = o

-- holds that are taken out leave the others in order
pub kept_in_order : (keeps : Hold → Bool) (holds : List Hold) → AreInOrder holds → AreInOrder (filter keeps holds)
kept_in_order keeps [] o = tt
kept_in_order keeps (hold ∷ holds) o =
    kept_first (keeps hold) hold (filter keeps holds)
    (All-filter keeps (λ other. hold.job ≡ other.job → IsBefore hold.name other.name) holds o.0) (kept_in_order keeps holds o.1)
