-- A want and a hold in conflict, and the first of many conflicts.
use Rattle.std.proofs.Common.{◌≡◌, ◌≢◌, ℕ, ◌+◌, ◌<◌, ◌≤◌, ◌⊎◌, Bool, true, false, ◌&&◌, ◌||◌, List, [], length, get_or, Option, Some, None, IfSome, refl, ap, sym, ◌∙◌, subst, inl, inr, ⊎_elim, arith}
use Rattle.std.specs.List.{All, HoldsAt}
use Rattle.std.specs.Ordering.{nat_cmp, is_eq, ordering_reverse}
use Rattle.std.specs.Cmp.Lexicographic.{slice_cmp}
use Rattle.std.specs.Str.{bytes_eq}
use Rattle.std.specs.declared.cmp.Ordering.TheVariants.{Equal, Greater}
use Rattle.std.proofs.lemmas.Bool.{and_parts, cases_lt, cases_eq, false_from_ne_true, true≢false}
use Rattle.std.proofs.lemmas.Cmp.{nat_list_cmp_total, tied_back}
use Rattle.std.proofs.lemmas.List.Elements.{at_read}
use Rattle.std.proofs.lemmas.Map.Text.{is_eq-slice_cmp}
use Rattle.std.proofs.lemmas.Slice.Eq.{bytes_eq-Decides}
use Rattle.enq_core.specs.declared.conflict.Conflict.{Conflict}
use Rattle.enq_core.specs.declared.table.Hold.{Hold}
use Rattle.enq_core.specs.declared.table.Want.{Want}
use Rattle.enq_core.specs.Holds.{AreWants, conflicts}
use Rattle.enq_core.specs.Marks.{mark_of}
use Rattle.enq_core.specs.Order.{AreBehind, AreInOrder, ArePassed, ComesFirst, IsBefore, IsFirst, IsNamed, Meets}
use Rattle.enq_core.proofs.Rising.{before_trans, holds_rise, wants_rise}

pub conflicts_of_a_name : (want : Want) (hold : Hold) → slice_cmp nat_cmp want.name hold.name ≡ Equal → conflicts want hold ≡ (hold.exclusive || want.exclusive)
conflicts_of_a_name want hold e =
    let same : bytes_eq hold.name want.name ≡ true = sym (is_eq-slice_cmp hold.name want.name) ∙ ap is_eq (tied_back nat_list_cmp_total want.name hold.name e) in
    ap (λ b. b && (hold.exclusive || want.exclusive)) same

-- a hold of a name behind a want's, or before it
pub no_conflict_behind : (want : Want) (hold : Hold) → IsBefore want.name hold.name → conflicts want hold ≡ false
no_conflict_behind want hold b =
    let other : bytes_eq hold.name want.name ≡ false = sym (is_eq-slice_cmp hold.name want.name) ∙ ap is_eq (nat_list_cmp_total.antisymm hold.name want.name ∙ ap ordering_reverse b) in
    ap (λ b. b && (hold.exclusive || want.exclusive)) other

pub no_conflict_before : (want : Want) (hold : Hold) → IsBefore hold.name want.name → conflicts want hold ≡ false
no_conflict_before want hold b =
    let other : bytes_eq hold.name want.name ≡ false = sym (is_eq-slice_cmp hold.name want.name) ∙ ap is_eq b in
    ap (λ b. b && (hold.exclusive || want.exclusive)) other

pub before_from_greater : (x y : List ℕ) → slice_cmp nat_cmp x y ≡ Greater → IsBefore y x
before_from_greater x y g = nat_list_cmp_total.antisymm y x ∙ ap ordering_reverse g

-- beside the want of a hold's name no want is in conflict with it
pub others_free : (wants : List Want) (hold : Hold) (place : ℕ) → AreWants wants → place < length wants →
    ArePassed wants hold.name place → IsNamed wants hold.name place →
    (u : ℕ) (d : Want) → u < length wants → u ≢ place → conflicts (get_or wants u d) hold ≡ false
others_free wants hold place a lt passed named u d l other =
    ⊎_elim (λ (b : u < place). no_conflict_behind (get_or wants u d) hold (passed u d (omega arith) b))
    (λ (b : place ≤ u). no_conflict_before (get_or wants u d) hold
    (sym (nat_list_cmp_total.congr (get_or wants place d).name hold.name (get_or wants u d).name (named d))
    ∙ wants_rise wants place u d d a (⊎_elim (λ (s : place < u). s) (λ (s : u ≤ place). absurd (other (omega arith))) (cases_lt place u)) l))
    (cases_lt u place)

-- and where no want has its name none is
pub all_free : (wants : List Want) (hold : Hold) (place : ℕ) → ArePassed wants hold.name place →
    AreBehind wants hold.name place → (u : ℕ) (d : Want) → u < length wants → conflicts (get_or wants u d) hold ≡ false
all_free wants hold place passed behind u d l =
    ⊎_elim (λ (b : u < place). no_conflict_behind (get_or wants u d) hold (passed u d (omega arith) b))
    (λ (b : place ≤ u). no_conflict_before (get_or wants u d) hold (behind u d b l))
    (cases_lt u place)

pub named_free : (wants : List Want) (hold : Hold) (place : ℕ) → ((d : Want) → conflicts (get_or wants place d) hold ≡ false) →
    ((u : ℕ) (d : Want) → u < length wants → u ≢ place → conflicts (get_or wants u d) hold ≡ false) →
    (u : ℕ) (d : Want) → u < length wants → conflicts (get_or wants u d) hold ≡ false
named_free wants hold place named others u d l =
    ⊎_elim (λ (e : u ≡ place). subst (λ (v : ℕ). conflicts (get_or wants v d) hold ≡ false) (sym e) (named d)) (λ (n : u ≢ place). others u d l n) (cases_eq u place)

-- where no want has a hold's mark none is in conflict with it
pub unmarked_free : (wants : List Want) (hold : Hold) (marks : List Bool) → All (λ want. get_or marks (mark_of want.name) false ≡ true) wants → get_or marks (mark_of hold.name) false ≡ false →
    (u : ℕ) (d : Want) → u < length wants → conflicts (get_or wants u d) hold ≡ false
unmarked_free wants hold marks all none u d l =
    let want : Want = get_or wants u d in
    false_from_ne_true (conflicts want hold)
    (λ t. let same : hold.name ≡ want.name = (bytes_eq-Decides hold.name want.name).0 (and_parts (bytes_eq hold.name want.name) (hold.exclusive || want.exclusive) t).0 in
    true≢false (sym (all u d l) ∙ ap (λ (name : List ℕ). get_or marks (mark_of name) false) (sym same) ∙ none))

-- the wants before a hold's name stand before the names of the job's further holds
pub passed_on : (holds : List Hold) (wants : List Want) (n : ℕ) (hold : Hold) (place : ℕ) → AreInOrder holds → hold ≡ get_or holds n hold →
    ArePassed wants hold.name place → (k : ℕ) (d : Hold) → n + 1 ≤ k → k < length holds → (get_or holds k d).job ≡ hold.job →
    ArePassed wants (get_or holds k d).name place
passed_on holds wants n hold place o is passed k d l h e = λ u w low high.
    let rises : IsBefore (get_or holds n hold).name (get_or holds k d).name = holds_rise holds n k hold d o (omega arith) h (ap (λ (x : Hold). x.job) (sym is) ∙ sym e) in
    before_trans (get_or wants u w).name hold.name (get_or holds k d).name (passed u w low high) (subst (λ (x : Hold). IsBefore x.name (get_or holds k d).name) (sym is) rises)

-- a hold meets the want at a place
abbrev pub MeetsAt : List Want → Hold → ℕ → ℕ → Type 0
MeetsAt wants hold place job = (place < length wants) × ((d : Want) → conflicts (get_or wants place d) hold ≡ true) × (hold.job ≡ job)

meets_before : (holds : List Hold) (wants : List Want) (n place job : ℕ) → Meets holds wants n place job → Meets holds wants (n + 1) place job
meets_before holds wants n place job m = (m.0, omega (arith, m.1), m.2, m.3, m.4)

meets_last : (holds : List Hold) (wants : List Want) (n : ℕ) (hold : Hold) (place job : ℕ) → n < length holds → hold ≡ get_or holds n hold → MeetsAt wants hold place job → Meets holds wants (n + 1) place job
meets_last holds wants n hold place job l is m =
    let here : HoldsAt (λ h. h ≡ hold) holds n = at_read holds (λ h. h ≡ hold) n hold l is refl in
    (n, omega arith, m.0, λ d e. subst (λ (h : Hold). conflicts (get_or wants place d) h ≡ true) (sym (here e)) (m.1 d), λ e. ap (λ (h : Hold). h.job) (here e) ∙ m.2)

meets_cases : (holds : List Hold) (wants : List Want) (n : ℕ) (hold : Hold) (place job : ℕ) → hold ≡ get_or holds n hold → Meets holds wants (n + 1) place job → Meets holds wants n place job ⊎ MeetsAt wants hold place job
meets_cases holds wants n hold place job is m =
    ⊎_elim (λ (l : m.0 < n). inl (m.0, l, m.2, m.3, m.4))
    (λ (l : n ≤ m.0). let k : m.0 ≡ n = omega (arith, m.1) in
    let here : get_or holds m.0 hold ≡ hold = ap (λ i. get_or holds i hold) k ∙ sym is in
    inr (m.2, λ d. subst (λ (h : Hold). conflicts (get_or wants place d) h ≡ true) here (m.3 d hold), sym (ap (λ (h : Hold). h.job) here) ∙ m.4 hold))
    (cases_lt m.0 n)

-- a hold that meets no want leaves the first conflict as it was
pub first_kept : (holds : List Hold) (wants : List Want) (n : ℕ) (hold : Hold) (found : Option Conflict) → hold ≡ get_or holds n hold →
    ((u : ℕ) (d : Want) → u < length wants → conflicts (get_or wants u d) hold ≡ false) → IsFirst (Meets holds wants n) found → IsFirst (Meets holds wants (n + 1)) found
first_kept holds wants n hold None is free f =
    λ place job m. ⊎_elim (λ (b : Meets holds wants n place job). f place job b)
    (λ (b : MeetsAt wants hold place job). let d : Want = record { name = []; exclusive = false } in true≢false (sym (b.1 d) ∙ free place d b.0))
    (meets_cases holds wants n hold place job is m)
first_kept holds wants n hold (Some conflict) is free f = (
  meets_before holds wants n conflict.place conflict.job f.0,
  λ place job m. ⊎_elim (λ (b : Meets holds wants n place job). f.1 place job b)
      (λ (b : MeetsAt wants hold place job). let d : Want = record { name = []; exclusive = false } in absurd (true≢false (sym (b.1 d) ∙ free place d b.0)))
      (meets_cases holds wants n hold place job is m),
)

comes_trans : (conflict then' : Conflict) (place job : ℕ) → ComesFirst conflict then'.place then'.job → ComesFirst then' place job → ComesFirst conflict place job
comes_trans conflict then' place job p q =
    ⊎_elim (λ (a : conflict.place < then'.place). ⊎_elim (λ (b : then'.place < place). inl (omega arith)) (λ b. inl (omega (arith, b.0))) q)
    (λ a. ⊎_elim (λ (b : then'.place < place). inl (omega (arith, a.0))) (λ b. inr (omega (arith, a.0, b.0), omega (arith, a.1, b.1))) q) p

-- no conflict yet, or one that the result comes before
comes_before_old : (P : ℕ → ℕ → Type 0) (found : Option Conflict) (result : Conflict) → IsFirst P found → IfSome found (λ old. ComesFirst result old.place old.job) → (place job : ℕ) → P place job → ComesFirst result place job
comes_before_old P None result f r place job m = absurd (f place job m)
comes_before_old P (Some old) result f r place job m = comes_trans result old place job r (f.1 place job m)

old_meets : (P : ℕ → ℕ → Type 0) (found : Option Conflict) (result : Conflict) → IsFirst P found → Some result ≡ found → P result.place result.job
old_meets P found result f e = let g : IsFirst P (Some result) = subst (IsFirst P) (sym e) f in g.0

-- a hold that meets one want
pub first_taken : (holds : List Hold) (wants : List Want) (n : ℕ) (hold : Hold) (found : Option Conflict) (met result : Conflict) → n < length holds → hold ≡ get_or holds n hold →
    MeetsAt wants hold met.place met.job → ((u : ℕ) (d : Want) → u < length wants → u ≢ met.place → conflicts (get_or wants u d) hold ≡ false) →
    (result ≡ met) ⊎ (Some result ≡ found) → ComesFirst result met.place met.job → IfSome found (λ old. ComesFirst result old.place old.job) →
    IsFirst (Meets holds wants n) found → IsFirst (Meets holds wants (n + 1)) (Some result)
first_taken holds wants n hold found met result l is m others which first before f = (
  ⊎_elim (λ (e : result ≡ met). subst (λ (c : Conflict). Meets holds wants (n + 1) c.place c.job) (sym e) (meets_last holds wants n hold met.place met.job l is m))
      (λ (e : Some result ≡ found). meets_before holds wants n result.place result.job (old_meets (Meets holds wants n) found result f e)) which,
  λ place job k. ⊎_elim (λ (b : Meets holds wants n place job). comes_before_old (Meets holds wants n) found result f before place job b)
      (λ (b : MeetsAt wants hold place job).
      let here : place ≡ met.place = ⊎_elim (λ (e : place ≡ met.place). e)
      (λ (o : place ≢ met.place). let d : Want = record { name = []; exclusive = false } in absurd (true≢false (sym (b.1 d) ∙ others place d b.0 o))) (cases_eq place met.place) in
      let same : job ≡ met.job = sym b.2 ∙ m.2 in
      subst (λ (j : ℕ). ComesFirst result place j) (sym same) (subst (λ (p : ℕ). ComesFirst result p met.job) (sym here) first))
      (meets_cases holds wants n hold place job is k),
)
