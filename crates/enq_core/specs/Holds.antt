-- Held names: who holds what, and who conflicts.
use Rattle.std.specs.Prelude.{◌≡◌, ◌≢◌, ℕ, ◌≤◌, Bool, false, not, ◌&&◌, ◌||◌, ◌==◌, List, [], ◌∷◌, ◌++◌, map, filter, All, Result, Ok, Err, IsTrue}
use Rattle.std.specs.List.{list_any}
use Rattle.std.specs.Str.{bytes_eq}
use Rattle.std.specs.Ordering.{nat_cmp}
use Rattle.std.specs.Cmp.Lexicographic.{slice_cmp}
use Rattle.std.specs.declared.cmp.Ordering.TheVariants.{Less}
use Rattle.enq_core.specs.declared.table.Blocked.{Blocked}
use Rattle.enq_core.specs.declared.table.Hold.{Hold}
use Rattle.enq_core.specs.declared.table.HoldFault.{HoldFault}
use Rattle.enq_core.specs.declared.table.HoldFault.TheVariants as fault
use Rattle.enq_core.specs.declared.table.Want.{Want}

-- a hold and a want conflict: of one name, unless both share it
abbrev pub conflicts : Want → Hold → Bool
conflicts want hold = bytes_eq hold.name want.name && (hold.exclusive || want.exclusive)

-- some holder conflicts with a want
abbrev pub is_blocked : List Hold → Want → Bool
is_blocked holds want = list_any (conflicts want) holds

-- wants in byte order of their names, each name once
abbrev pub AreWants : List Want → Type 0
AreWants [] = Unit {0}
AreWants (want ∷ wants) = All (λ other. slice_cmp nat_cmp want.name other.name ≡ Less) wants × AreWants wants

-- a job holds no name
abbrev pub HoldsNone : List Hold → ℕ → Type 0
HoldsNone holds job = All (λ hold. hold.job ≢ job) holds

abbrev pub holds_of : ℕ → List Want → List Hold
holds_of job wants = map (λ want. record { job = job; name = want.name; exclusive = want.exclusive }) wants

abbrev pub without_job : ℕ → List Hold → List Hold
without_job job holds = filter (λ hold. not (hold.job == job)) holds

-- the first want in conflict, and the lowest job whose hold conflicts with it
pub record IsFirstBlock (holds : List Hold) (wants : List Want) (blocked : Blocked) : Type 0 where
  pub before : List Want
  pub want : Want
  pub behind : List Want
  pub stands : wants ≡ before ++ want ∷ behind
  pub free : All (λ w. is_blocked holds w ≡ false) before
  pub name : want.name ≡ blocked.name
  pub holder : IsTrue (list_any (λ hold. conflicts want hold && hold.job == blocked.job) holds)
  pub lowest : All (λ hold. IsTrue (conflicts want hold) → blocked.job ≤ hold.job) holds

-- held only where no holder conflicts; blocked only by the named holder at the named name
abbrev pub AnswersHold : {A : Type 0} → Result A HoldFault → List Hold → ℕ → List Want → Type 0
AnswersHold (Ok _) holds job wants = All (λ want. is_blocked holds want ≡ false) wants
AnswersHold (Err (fault.Blocked blocked)) holds job wants = IsFirstBlock holds wants blocked
AnswersHold (Err fault.Memory) holds job wants = All (λ want. is_blocked holds want ≡ false) wants
