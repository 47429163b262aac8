-- A want that is looked at alone: the lowest job that stands in its way, hold by hold.
use Rattle.std.proofs.Common.{◌≡◌, ℕ, ◌+◌, ◌<◌, ◌≤◌, ◌⊎◌, ◌&&◌, ◌||◌, ◌==◌, Bool, true, false, List, [], ◌∷◌, ◌++◌, length, take, drop, get_or, Option, Some, None, IfSome, refl, ap, sym, ◌∙◌, subst, ⊎_elim, arith, eq-eqb}
use Rattle.std.specs.Prelude.{IsTrue}
use Rattle.std.specs.List.{All, list_any}
use Rattle.std.specs.Option.{IfNone}
use Rattle.std.specs.Str.{bytes_eq}
use Rattle.std.proofs.Math.Seq.{take-length}
use Rattle.std.proofs.lemmas.Bool.{and_from, and_parts, false_from_ne_true, true≢false}
use Rattle.std.proofs.lemmas.List.{append_assoc, get_or-take, length-take-le, take-append-drop}
use Rattle.std.proofs.lemmas.List.Elements.{All-cons, All-more}
use Rattle.std.proofs.lemmas.List.Folds.{list_any_at, list_any_kept, list_any_none}
use Rattle.std.proofs.lemmas.Option.{none-some}
use Rattle.std.proofs.lemmas.Slice.Eq.{bytes_eq-Decides}
use Rattle.enq_core.specs.declared.table.Blocked.{Blocked}
use Rattle.enq_core.specs.declared.table.Hold.{Hold}
use Rattle.enq_core.specs.declared.table.Want.{Want}
use Rattle.enq_core.specs.Holds.{IsFirstBlock, conflicts, is_blocked}
use Rattle.enq_core.specs.Lowest.{IsLowestHolder}
use Rattle.enq_core.specs.Marks.{mark_of}

-- of these holds none stands in the way, or the lowest that does is of this job
abbrev pub IsLowestIn : List Hold → Want → Option ℕ → Type 0
IsLowestIn holds want None = All (λ hold. conflicts want hold ≡ false) holds
IsLowestIn holds want (Some job) = IsLowestHolder holds want job

abbrev is_of : Want → ℕ → Hold → Bool
is_of want job hold = conflicts want hold && hold.job == job

-- names with different marks differ
pub other_mark : (want : Want) (hold : Hold) → (mark_of hold.name ≡ mark_of want.name → ⊥) → conflicts want hold ≡ false
other_mark want hold differ =
    false_from_ne_true (conflicts want hold)
    (λ t. differ (ap mark_of ((bytes_eq-Decides hold.name want.name).0 (and_parts (bytes_eq hold.name want.name) (hold.exclusive || want.exclusive) t).0)))

-- one hold more, which is in nobody's way
pub lowest_kept : (holds : List Hold) (want : Want) (n : ℕ) (hold : Hold) (lowest : Option ℕ) → n < length holds → hold ≡ get_or holds n hold →
    conflicts want hold ≡ false → IsLowestIn (take n holds) want lowest → IsLowestIn (take (n + 1) holds) want lowest
lowest_kept holds want n hold None l is free none =
    All-more (λ h. conflicts want h ≡ false) holds n hold l none (subst (λ h. conflicts want h ≡ false) is free)
lowest_kept holds want n hold (Some job) l is free low = record {
  holder = list_any_kept (is_of want job) holds n low.holder;
  lowest = All-more (λ h. IsTrue (conflicts want h) → job ≤ h.job) holds n hold l low.lowest
      (subst (λ (h : Hold). IsTrue (conflicts want h) → job ≤ h.job) is (λ t. absurd (true≢false (sym t ∙ free))));
}

-- the last of so many holds
here : (holds : List Hold) (want : Want) (n : ℕ) (hold : Hold) → n < length holds → hold ≡ get_or holds n hold → conflicts want hold ≡ true →
    list_any (is_of want hold.job) (take (n + 1) holds) ≡ true
here holds want n hold l is t =
    let last : get_or (take (n + 1) holds) n hold ≡ hold = get_or-take (n + 1) holds n hold (omega arith) ∙ sym is in
    list_any_at (is_of want hold.job) (take (n + 1) holds) n hold (omega (arith, length-take-le (n + 1) holds (omega (arith, l))))
    (subst (λ (h : Hold). is_of want hold.job h ≡ true) (sym last) (and_from (conflicts want hold) (hold.job == hold.job) t (eq-eqb hold.job hold.job refl)))

-- one that stands in the way
pub lowest_taken : (holds : List Hold) (want : Want) (n : ℕ) (hold : Hold) (lowest : Option ℕ) (job : ℕ) → n < length holds → hold ≡ get_or holds n hold →
    conflicts want hold ≡ true → (job ≡ hold.job) ⊎ (Some job ≡ lowest) → job ≤ hold.job → IfSome lowest (λ other. job ≤ other) →
    IsLowestIn (take n holds) want lowest → IsLowestIn (take (n + 1) holds) want (Some job)
lowest_taken holds want n hold None job l is t which below other none = record {
  holder = ⊎_elim (λ (e : job ≡ hold.job). subst (λ j. list_any (is_of want j) (take (n + 1) holds) ≡ true) (sym e) (here holds want n hold l is t))
      (λ (e : Some job ≡ None). absurd (none-some job (sym e))) which;
  lowest = All-more (λ h. IsTrue (conflicts want h) → job ≤ h.job) holds n hold l (λ k d m c. absurd (true≢false (sym c ∙ none k d m)))
      (subst (λ (h : Hold). IsTrue (conflicts want h) → job ≤ h.job) is (λ c. below));
}
lowest_taken holds want n hold (Some old) job l is t which below other low = record {
  holder = ⊎_elim (λ (e : job ≡ hold.job). subst (λ j. list_any (is_of want j) (take (n + 1) holds) ≡ true) (sym e) (here holds want n hold l is t))
      (λ (e : Some job ≡ Some old). list_any_kept (is_of want job) holds n
      (subst (λ (o : Option ℕ). IsLowestIn (take n holds) want o) (sym e) low).holder) which;
  lowest = All-more (λ h. IsTrue (conflicts want h) → job ≤ h.job) holds n hold l
      (λ k d m c. let first : old ≤ (get_or (take n holds) k d).job = low.lowest k d m c in omega (arith, first, other))
      (subst (λ (h : Hold). IsTrue (conflicts want h) → job ≤ h.job) is (λ c. below));
}

-- all holds were looked at
pub all_looked_at : (holds : List Hold) (want : Want) (n : ℕ) (lowest : Option ℕ) → n ≡ length holds → IsLowestIn (take n holds) want lowest → IsLowestIn holds want lowest
all_looked_at holds want n lowest all low =
    subst (λ hs. IsLowestIn hs want lowest) (ap (λ m. take m holds) all ∙ take-length holds) low

pub none_is_free : (holds : List Hold) (want : Want) (lowest : Option ℕ) → IsLowestIn holds want lowest → IfNone lowest (is_blocked holds want ≡ false)
none_is_free holds want None none = list_any_none (conflicts want) holds none
none_is_free holds want (Some job) low = record {}

-- the first want is blocked
pub first_blocked : (holds : List Hold) (first : Want) (others : List Want) (job : ℕ) → IsLowestHolder holds first job →
    IsFirstBlock holds (first ∷ others) (record { job = job; name = first.name })
first_blocked holds first others job low = record {
  before = [];
  want = first;
  behind = others;
  stands = refl;
  free = λ k d l. absurd (omega (arith, l));
  name = refl;
  holder = low.holder;
  lowest = low.lowest;
}

-- it is free, and another is blocked
pub other_blocked : (holds : List Hold) (first : Want) (others : List Want) (blocked : Blocked) → is_blocked holds first ≡ false →
    IsFirstBlock holds others blocked → IsFirstBlock holds (first ∷ others) blocked
other_blocked holds first others blocked free b = record {
  before = first ∷ b.before;
  want = b.want;
  behind = b.behind;
  stands = ap (λ ws. first ∷ ws) b.stands;
  free = All-cons (λ w. is_blocked holds w ≡ false) first b.before free b.free;
  name = b.name;
  holder = b.holder;
  lowest = b.lowest;
}

-- what blocks the first wants blocks them all
pub blocked_at_start : (holds : List Hold) (wants : List Want) (n : ℕ) (blocked : Blocked) → IsFirstBlock holds (take n wants) blocked → IsFirstBlock holds wants blocked
blocked_at_start holds wants n blocked b = record {
  before = b.before;
  want = b.want;
  behind = b.behind ++ drop n wants;
  stands = sym (take-append-drop n wants) ∙ ap (λ ws. ws ++ drop n wants) b.stands ∙ append_assoc b.before (b.want ∷ b.behind) (drop n wants);
  free = b.free;
  name = b.name;
  holder = b.holder;
  lowest = b.lowest;
}
