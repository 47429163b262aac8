-- On each volume one operation at most, through each change.
use Rattle.std.proofs.Common.{◌≡◌, ℕ, ◌+◌, ◌<◌, Bool, true, false, ◌||◌, cond, List, [], ◌∷◌, ◌++◌, length, filter, map, Some, None, arith, refl, ap, rules, zero, suc, slice_index_or, slice_set, ◌∙◌}
use Rattle.std.specs.Str.{bytes_eq}
use Rattle.std.proofs.lemmas.Slice.Eq.{bytes_eq-Decides}
use Rattle.prog_core.specs.declared.units.Operation.{Operation}
use Rattle.prog_core.specs.Operations.{is_busy, is_owner, without_owner, OneEach}

-- neither of two
neither : (a b : Bool) → (a || b) ≡ false → (a ≡ false) × (b ≡ false)
neither true b is = absurd (cc)
neither false b is = (refl, is)

both_not : (a b : Bool) → a ≡ false → b ≡ false → (a || b) ≡ false
both_not a b first second = ap (λ a. a || b) first ∙ second

bytes_eq_turned : (xs ys : List ℕ) → bytes_eq xs ys ≡ bytes_eq ys xs
bytes_eq_turned xs ys = grind (rules, bytes_eq-Decides xs ys, bytes_eq-Decides ys xs)

-- one more operation on another volume
busy_more : (operations : List Operation) (o : Operation) (serial : List ℕ) → is_busy operations (Some serial) ≡ false → bytes_eq o.serial serial ≡ false →
    is_busy (operations ++ o ∷ []) (Some serial) ≡ false
busy_more [] o serial none other = ap (λ b. b || false) other
busy_more (x ∷ operations) o serial none other =
    let both = neither (bytes_eq x.serial serial) (is_busy operations (Some serial)) none in
    both_not (bytes_eq x.serial serial) (is_busy (operations ++ o ∷ []) (Some serial)) both.0 (busy_more operations o serial both.1 other)

pub one_more : (operations : List Operation) (o : Operation) → OneEach operations → is_busy operations (Some o.serial) ≡ false → OneEach (operations ++ o ∷ [])
one_more [] o each none = (refl, tt)
one_more (x ∷ operations) o each none =
    let both = neither (bytes_eq x.serial o.serial) (is_busy operations (Some o.serial)) none in
    (busy_more operations o x.serial each.0 (bytes_eq_turned o.serial x.serial ∙ both.0), one_more operations o each.1 both.1)

-- fewer operations
busy_kept : (test : Operation → Bool) (here : Bool) (o : Operation) (operations : List Operation) (serial : List ℕ) → bytes_eq o.serial serial ≡ false →
    is_busy (filter test operations) (Some serial) ≡ false → is_busy (cond here (o ∷ filter test operations) (filter test operations)) (Some serial) ≡ false
busy_kept test true o operations serial other none = both_not (bytes_eq o.serial serial) (is_busy (filter test operations) (Some serial)) other none
busy_kept test false o operations serial other none = none

busy_fewer : (test : Operation → Bool) (operations : List Operation) (serial : List ℕ) → is_busy operations (Some serial) ≡ false →
    is_busy (filter test operations) (Some serial) ≡ false
busy_fewer test [] serial none = refl
busy_fewer test (o ∷ operations) serial none =
    let both = neither (bytes_eq o.serial serial) (is_busy operations (Some serial)) none in
    busy_kept test (test o) o operations serial both.0 (busy_fewer test operations serial both.1)

each_kept : (test : Operation → Bool) (here : Bool) (o : Operation) (operations : List Operation) → is_busy (filter test operations) (Some o.serial) ≡ false →
    OneEach (filter test operations) → OneEach (cond here (o ∷ filter test operations) (filter test operations))
each_kept test true o operations none each = (none, each)
each_kept test false o operations none each = each

pub each_fewer : (test : Operation → Bool) (operations : List Operation) → OneEach operations → OneEach (filter test operations)
each_fewer test [] each = tt
each_fewer test (o ∷ operations) each =
    each_kept test (test o) o operations (busy_fewer test operations o.serial each.0) (each_fewer test operations each.1)

-- operations without their owner
same_volume : (o : Operation) (here : Bool) → (cond here (record o { owner = None }) o).serial ≡ o.serial
same_volume o true = refl
same_volume o false = refl

busy_without_owner : (job : ℕ) (operations : List Operation) (serial : List ℕ) → is_busy (map (without_owner job) operations) (Some serial) ≡ is_busy operations (Some serial)
busy_without_owner job [] serial = refl
busy_without_owner job (o ∷ operations) serial =
    ap (λ own. bytes_eq own serial || is_busy (map (without_owner job) operations) (Some serial)) (same_volume o (is_owner job o.owner))
    ∙ ap (λ busy. bytes_eq o.serial serial || busy) (busy_without_owner job operations serial)

pub each_without_owner : (job : ℕ) (operations : List Operation) → OneEach operations → OneEach (map (without_owner job) operations)
each_without_owner job [] each = tt
each_without_owner job (o ∷ operations) each = (
  ap (λ own. is_busy (map (without_owner job) operations) (Some own)) (same_volume o (is_owner job o.owner))
      ∙ busy_without_owner job operations o.serial ∙ each.0,
  each_without_owner job operations each.1,
)

-- the first n without their owner
abbrev pub without_first : ℕ → ℕ → List Operation → List Operation
without_first job zero operations = operations
without_first job (suc n) [] = []
without_first job (suc n) (o ∷ operations) = without_owner job o ∷ without_first job n operations

pub all_without : (job : ℕ) (operations : List Operation) → without_first job (length operations) operations ≡ map (without_owner job) operations
all_without job [] = refl
all_without job (o ∷ operations) = ap (λ left. without_owner job o ∷ left) (all_without job operations)

-- one further operation
one_without : (job n : ℕ) (operations : List Operation) (d : Operation) → n < length operations →
    slice_set (without_first job n operations) n (without_owner job (slice_index_or (without_first job n operations) n d)) ≡ without_first job (suc n) operations
one_without job n [] d lt = absurd (omega (arith, lt))
one_without job zero (o ∷ operations) d lt = refl
one_without job (suc n) (o ∷ operations) d lt = ap (λ left. without_owner job o ∷ left) (one_without job n operations d (omega (arith, lt)))

pub put_without : (job n : ℕ) (operations left : List Operation) (d put : Operation) → n < length operations → left ≡ without_first job n operations →
    put ≡ without_owner job (slice_index_or left n d) → slice_set left n put ≡ without_first job (n + 1) operations
put_without job n operations left d put lt is same =
    let more : suc n ≡ n + 1 = omega arith in
    ap (slice_set left n) same
    ∙ ap (λ left. slice_set left n (without_owner job (slice_index_or left n d))) is
    ∙ one_without job n operations d lt
    ∙ ap (λ n. without_first job n operations) more
