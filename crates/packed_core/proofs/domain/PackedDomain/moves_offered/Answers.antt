use Rattle.std.proofs.Common.{◌≡◌, inl, inr, ◌++◌, ◌∷◌, ◌∙◌, ◌+◌, ◌<◌, ℕ, Bool, List, [], ap, arith, get_or, length, map, refl, subst, sym, take}
use Rattle.std.specs.Prelude.{Contains, slice_get}
use Rattle.std.proofs.lemmas.List.{map-append, take_all, take_more}
use Rattle.std.proofs.lemmas.List.Elements.{Contains-append_left, Contains-push, Contains-push_cases}
use Rattle.std.proofs.lemmas.Option.{same_Some}
use Rattle.packed_core.specs.declared.classes.Class.{Class}
use Rattle.packed_core.specs.declared.ways.Looked.{Looked}
use Rattle.packed_core.specs.Ways.{IsLookedAt, Stands}
use Rattle.packed_core.proofs.Moves.{code_at, moves_as, moves_more, moves_whole, no_moves}
use Rattle.packed_core.proofs.Places.{got_from, got_read}
use Rattle.packed_core.proofs.domain.PackedDomain.moves_offered.Goals as goal

none_taken : (l : List ℕ) → length (take 0 l) ≡ 0
none_taken [] = refl
none_taken (x ∷ l) = refl

seen_before : (old new : List Looked) (one : Looked) (j : ℕ) (told : Bool) → IsLookedAt old new one told → Contains (map (λ x. x.class) old) j →
    Contains (map (λ x. x.class) new) j
seen_before old new one j told (inl p) h =
    subst (λ (l : List Looked). Contains (map (λ x. x.class) l) j) (sym p)
    (subst (λ (l : List ℕ). Contains l j) (sym (map-append (λ (x : Looked). x.class) old (one ∷ [])))
    (Contains-append_left (map (λ (x : Looked). x.class) old) (one.class ∷ []) j h))
seen_before old new one j told (inr p) h = subst (λ (l : List Looked). Contains (map (λ x. x.class) l) j) (sym p.1) h

seen_now : (old new : List Looked) (one : Looked) → new ≡ old ++ one ∷ [] → Contains (map (λ x. x.class) new) one.class
seen_now old new one p =
    subst (λ (l : List Looked). Contains (map (λ x. x.class) l) one.class) (sym p)
    (subst (λ (l : List ℕ). Contains l one.class) (sym (map-append (λ (x : Looked). x.class) old (one ∷ [])))
    (Contains-push (map (λ (x : Looked). x.class) old) one.class))

pub loop-number-init : goal.loop-number-init
loop-number-init g c = record {
  told = no_moves _ g.J.Job.plan g.J.Job.fixed.date c.args.behind.now c.args.base.now c.new-moves.result.items c.new-moves.ensures.items;
  seen = λ j class h at. absurd (omega (arith, h.1, none_taken c.args.numbers.now));
}

pub loop-number-preserved : goal.loop-number-preserved
loop-number-preserved g c =
    let classes : List Class = c.args.classes.now in
    let numbers : List ℕ = c.args.numbers.now in
    let i : ℕ = c.loop-number.number-index in
    let n : ℕ = get_or numbers i 0 in
    let class : Class = c.index-classes-number.result in
    let within : i < length numbers = omega (arith, c.loop-number-test.true) in
    let below : n < length classes = c.requires.offered.below i 0 within in
    let codes : List ℕ → List ℕ = map (code_at classes) in
    let more : take (i + 1) numbers ≡ take i numbers ++ n ∷ [] = take_more numbers i 0 within in
    let coded : code_at classes n ≡ class.code =
    got_from (λ (k : Class). k.code) classes n class 0 (got_read classes n class below c.index-classes-number.is) in
    let longer : codes (take (i + 1) numbers) ≡ codes (take i numbers) ++ class.code ∷ [] =
    ap codes more ∙ map-append (code_at classes) (take i numbers) (n ∷ []) ∙ ap (λ (k : ℕ). codes (take i numbers) ++ k ∷ []) coded in
    let old : List Looked = c.loop-number.looked.items in
    let new : List Looked = c.push_looked.new.looked.items in
    let one : Looked = record { class = n; row = c.in_ok-told.row } in
    let at_one : IsLookedAt old new one c.is_some.result = c.in_ok-push_looked.ensures in
    record {
      told = moves_more _ g.J.Job.plan g.J.Job.fixed.date c.args.behind.now c.args.base.now (codes (take i numbers)) (codes (take (i + 1) numbers)) class.code
          c.loop-number.moves.items c.push_told.new.moves.items c.in_ok-told.told longer c.in_ok-push_told.ensures.pushed c.loop-number.invariant.told
          c.in_ok-told.ensures.tells;
      seen = λ j other h at. elim (Contains-push_cases (take i numbers) n j (subst (λ (l : List ℕ). Contains l j) more h)) [
        | inl f ↦ elim (c.loop-number.invariant.seen j other f at) [
          | inl k ↦ inl (seen_before old new one j c.is_some.result at_one k)
          | inr k ↦ inr k
        ]
        | inr e ↦
            let own : class ≡ other =
            same_Some class other (sym (got_read classes n class below c.index-classes-number.is) ∙ ap (slice_get classes) e ∙ at) in
            elim at_one [
              | inl p ↦ inl (subst (Contains (map (λ (x : Looked). x.class) new)) e (seen_now old new one p))
              | inr p ↦ inr (subst (Stands c.args.behind.now.rows c.args.base.now) own (c.in_ok-told.ensures.stands (sym c.is_some.ensures ∙ p.0)))
            ]
      ];
    }

pub returns-clause-moves : goal.returns-clause-moves
returns-clause-moves g c =
    let classes : List Class = c.args.classes.now in
    let numbers : List ℕ = c.args.numbers.now in
    let codes : List ℕ → List ℕ = map (code_at classes) in
    moves_whole _ g.J.Job.plan g.J.Job.fixed.date c.args.behind.now c.args.base.now classes numbers c.loop-number.moves.items c.requires.base
    c.requires.classes c.requires.offered
    (moves_as _ g.J.Job.plan g.J.Job.fixed.date c.args.behind.now c.args.base.now (codes (take c.loop-number.number-index numbers)) (codes numbers)
    c.loop-number.moves.items (ap codes (take_all c.loop-number.number-index numbers (omega (arith, c.loop-number-test.false)))) c.loop-number.invariant.told)

pub returns-clause-looked : goal.returns-clause-looked
returns-clause-looked g c j class at =
    let numbers : List ℕ = c.args.numbers.now in
    let all : take c.loop-number.number-index numbers ≡ numbers = take_all c.loop-number.number-index numbers (omega (arith, c.loop-number-test.false)) in
    elim (c.requires.offered.others j class at) [
      | inl h ↦ c.loop-number.invariant.seen j class (subst (λ (l : List ℕ). Contains l j) (sym all) h) at
      | inr h ↦ inr h
    ]
