-- The first want in conflict and its lowest holder, from the first of all conflicts.
use Rattle.std.proofs.Common.{◌≡◌, ℕ, ◌+◌, ◌<◌, ◌≤◌, ◌==◌, ◌&&◌, true, false, List, ◌∷◌, ◌++◌, length, take, drop, get_or, Some, None, refl, ap, ◌∙◌, sym, subst, ⊎_elim, arith, eq-eqb, take-append-drop, length-take, []}
use Rattle.std.specs.List.{All}
use Rattle.std.proofs.lemmas.Bool.{and_from, false_from_ne_true}
use Rattle.std.proofs.lemmas.List.{drop_more, get_or-take, get_or_default}
use Rattle.std.proofs.lemmas.List.Folds.{list_any_at, list_any_none}
use Rattle.enq_core.specs.declared.conflict.Conflict.{Conflict}
use Rattle.enq_core.specs.declared.table.Hold.{Hold}
use Rattle.enq_core.specs.declared.table.Want.{Want}
use Rattle.enq_core.specs.Holds.{IsFirstBlock, conflicts, is_blocked}
use Rattle.enq_core.specs.Order.{ComesFirst, IsFirst, Meets}

-- a want and a hold in conflict, wherever they stand
meets : (holds : List Hold) (wants : List Want) (u k : ℕ) (d : Want) (e : Hold) → u < length wants → k < length holds → conflicts (get_or wants u d) (get_or holds k e) ≡ true →
    Meets holds wants (length holds) u (get_or holds k e).job
meets holds wants u k d e l h t = (
  k,
  h,
  l,
  λ want hold. subst (λ (w : Want). conflicts w (get_or holds k hold) ≡ true) (get_or_default wants u d want l)
      (subst (λ (x : Hold). conflicts (get_or wants u d) x ≡ true) (get_or_default holds k e hold h) t),
  λ hold. ap (λ (x : Hold). x.job) (get_or_default holds k hold e h),
)

free_at : (holds : List Hold) (wants : List Want) (u : ℕ) (d : Want) → u < length wants → ((job : ℕ) → Meets holds wants (length holds) u job → ⊥) → is_blocked holds (get_or wants u d) ≡ false
free_at holds wants u d l none =
    list_any_none (conflicts (get_or wants u d)) holds
    (λ k e h. false_from_ne_true (conflicts (get_or wants u d) (get_or holds k e)) (λ t. none (get_or holds k e).job (meets holds wants u k d e l h t)))

-- without a conflict all wants are free
pub all_free_from_none : (holds : List Hold) (wants : List Want) → IsFirst (Meets holds wants (length holds)) None → All (λ want. is_blocked holds want ≡ false) wants
all_free_from_none holds wants f = λ u d l. free_at holds wants u d l (λ job m. f u job m)

split_at : (wants : List Want) (i : ℕ) (d : Want) → i < length wants → wants ≡ take i wants ++ get_or wants i d ∷ drop (i + 1) wants
split_at wants i d h = sym (take-append-drop i wants) ∙ ap (λ (rest : List Want). take i wants ++ rest) (drop_more wants i d h)

earlier_free : (holds : List Hold) (wants : List Want) (conflict : Conflict) → ((place job : ℕ) → Meets holds wants (length holds) place job → ComesFirst conflict place job) →
    (u : ℕ) (d : Want) → u < conflict.place → u < length wants → is_blocked holds (get_or wants u d) ≡ false
earlier_free holds wants conflict first u d b l =
    free_at holds wants u d l (λ job m. ⊎_elim (λ (h : conflict.place < u). omega arith) (λ (h : (conflict.place ≡ u) × (conflict.job ≤ job)). let e : conflict.place ≡ u = h.0 in omega arith) (first u job m))

pub first_block_from : (holds : List Hold) (wants : List Want) (conflict : Conflict) (d : Want) → IsFirst (Meets holds wants (length holds)) (Some conflict) →
    IsFirstBlock holds wants (record { job = conflict.job; name = (get_or wants conflict.place d).name })
first_block_from holds wants conflict d f =
    let m : Meets holds wants (length holds) conflict.place conflict.job = f.0 in
    let e : Hold = record { job = 0; name = []; exclusive = false } in
    let want : Want = get_or wants conflict.place d in
    record {
      before = take conflict.place wants;
      want = want;
      behind = drop (conflict.place + 1) wants;
      stands = split_at wants conflict.place d m.2;
      free = λ u w l. let b : u < conflict.place = omega (arith, length-take conflict.place wants) in
          subst (λ (x : Want). is_blocked holds x ≡ false) (sym (get_or-take conflict.place wants u w b)) (earlier_free holds wants conflict f.1 u w b (omega (arith, m.2)));
      name = refl;
      holder = list_any_at (λ hold. conflicts want hold && hold.job == conflict.job) holds m.0 e m.1
          (and_from (conflicts want (get_or holds m.0 e)) ((get_or holds m.0 e).job == conflict.job) (m.3 d e) (eq-eqb (get_or holds m.0 e).job conflict.job (m.4 e)));
      lowest = λ k h l t. ⊎_elim (λ (b : conflict.place < conflict.place). absurd (omega arith)) (λ (b : (conflict.place ≡ conflict.place) × (conflict.job ≤ (get_or holds k h).job)). b.1)
          (f.1 conflict.place (get_or holds k h).job (meets holds wants conflict.place k d h m.2 l t));
    }
