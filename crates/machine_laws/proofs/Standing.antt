-- Behind the first event of a session nothing configures.
use Rattle.std.proofs.Common.{◌≡◌, ◌+◌, Bool, true, false, List, [], ◌∷◌, ◌++◌, append_assoc, length, length-append, Option, Some, None, arith, refl, sym, ap, ◌∙◌}
use Rattle.std.proofs.lemmas.Bool.{or_left}
use Rattle.std.proofs.lemmas.List.{append-nil}
use Rattle.config_core.specs.Configs.{config_fault}
use Rattle.machine_meaning.specs.declared.config.ConfigFault.{ConfigFault}
use Rattle.session_text.specs.declared.fault.Fault.{Fault}
use Rattle.session_text.specs.declared.statement.Says.{Says}
use Rattle.session_text.specs.declared.statement.Says.TheVariants.{Config, Events, Refused}
use Rattle.session_text.specs.declared.statement.Statement.{Statement}
use Rattle.session_core.specs.Sessions.{Session, configuration_of, configured_by, fault_behind, has_begun, has_events, session_behind, unless_late}
use Rattle.session_core.proofs.Standing.{config_of-more, front, goes_on, has_begun-more, stops_at}

-- a list does not go on behind itself
too_long : {X : Type 0} {R : Type 0} (xs ys zs : List X) (x : X) → xs ≡ (xs ++ ys) ++ x ∷ zs → R
too_long xs ys zs x is =
    let size : length xs ≡ length ((xs ++ ys) ++ x ∷ zs) = ap length is in
    let no : ⊥ = omega (arith, size, length-append (xs ++ ys) (x ∷ zs), length-append xs ys) in absurd no

tail_same : {X : Type 0} (xs ys zs : List X) → xs ++ ys ≡ xs ++ zs → ys ≡ zs
tail_same [] ys zs is = is
tail_same (x ∷ xs) ys zs is = let rest : xs ++ ys ≡ xs ++ zs = cc in tail_same xs ys zs rest

module _ (before after : List Statement) (s : Statement) where
  -- what stands is refused by nothing
  abbrev StandsFrom : List Statement → List Statement → Type 0
  StandsFrom first statements = (session_behind first statements).stands ≡ before ++ s ∷ after → (x : List Statement) → before ≡ first ++ x →
      fault_behind before s.says ≡ None

  stand_from : (first statements : List Statement) → StandsFrom first statements
  stand_from first [] stands x is = too_long first x after s (stands ∙ ap (λ (b : List Statement). b ++ s ∷ after) is)
  stand_from first (t ∷ statements) stands x is =
      by (λ there ys so. stand_from (first ++ t ∷ []) statements there ys so) (fault_behind first t.says) refl
    where
      by_rest : StandsFrom (first ++ t ∷ []) statements → fault_behind first t.says ≡ None → (xs : List Statement) → before ≡ first ++ xs → fault_behind before s.says ≡ None
      by_rest again none [] so =
          let here : before ≡ first = so ∙ append-nil first in
          let f = front (first ++ t ∷ []) statements in
          let all : (first ++ t ∷ []) ++ f.0 ≡ before ++ s ∷ after =
          sym f.1 ∙ sym (ap (λ (z : Session). z.stands) (goes_on first statements t none)) ∙ stands in
          let behind : t ∷ f.0 ≡ s ∷ after =
          tail_same first (t ∷ f.0) (s ∷ after) (sym (append_assoc first (t ∷ []) f.0) ∙ all ∙ ap (λ (b : List Statement). b ++ s ∷ after) here) in
          let same : t ≡ s = cc in
          ap (λ (b : List Statement). fault_behind b s.says) here ∙ ap (λ (z : Statement). fault_behind first z.says) (sym same) ∙ none
      by_rest again none (y ∷ ys) so =
          let f = front (first ++ t ∷ []) statements in
          let all : (first ++ t ∷ []) ++ f.0 ≡ before ++ s ∷ after =
          sym f.1 ∙ sym (ap (λ (z : Session). z.stands) (goes_on first statements t none)) ∙ stands in
          let behind : t ∷ f.0 ≡ y ∷ (ys ++ s ∷ after) =
          tail_same first (t ∷ f.0) (y ∷ (ys ++ s ∷ after)) (sym (append_assoc first (t ∷ []) f.0) ∙ all
          ∙ ap (λ (b : List Statement). b ++ s ∷ after) so ∙ append_assoc first (y ∷ ys) (s ∷ after)) in
          let same : y ≡ t = cc in
          again (sym (ap (λ (z : Session). z.stands) (goes_on first statements t none)) ∙ stands) ys
          (so ∙ ap (λ (z : Statement). first ++ z ∷ ys) same ∙ sym (append_assoc first (t ∷ []) ys))

      by : StandsFrom (first ++ t ∷ []) statements → (f : Option Fault) → fault_behind first t.says ≡ f → fault_behind before s.says ≡ None
      by again None none = by_rest again none x is
      by again (Some f) some =
          too_long first x after s (sym (ap (λ (z : Session). z.stands) (stops_at first statements t f some)) ∙ stands ∙ ap (λ (b : List Statement). b ++ s ∷ after) is)

  pub stands_at : (statements : List Statement) → (session_behind [] statements).stands ≡ before ++ s ∷ after → fault_behind before s.says ≡ None
  stands_at statements stands = stand_from [] statements stands before refl

-- a configuration stands before the first event
pub unbegun : (own : Option ConfigFault) (has_end begun : Bool) → unless_late own has_end begun ≡ None → begun ≡ false
unbegun (Some own) has_end begun none = absurd cc
unbegun None false begun none = absurd cc
unbegun None true true none = absurd cc
unbegun None true false none = refl

configured_so : (before : List Statement) (says : Says) → fault_behind before says ≡ None → has_begun before ≡ true →
    configured_by (configuration_of before) says ≡ configuration_of before
configured_so before (Config statement has_end) none begun =
    let not_yet : has_begun before ≡ false = unbegun (config_fault (configuration_of before) statement) has_end (has_begun before) none in
    let clash : true ≡ false = sym begun ∙ not_yet in absurd cc
configured_so before (Events e times) none begun = refl
configured_so before (Refused f) none begun = refl

-- it stays
module _ (statements : List Statement) where
  pub configuration_stays : (before rest : List Statement) → (session_behind [] statements).stands ≡ before ++ rest → has_begun before ≡ true →
      configuration_of (before ++ rest) ≡ configuration_of before
  configuration_stays before [] stands begun = ap configuration_of (append-nil before)
  configuration_stays before (s ∷ rest) stands begun =
      let assoc : (before ++ s ∷ []) ++ rest ≡ before ++ s ∷ rest = append_assoc before (s ∷ []) rest in
      ap configuration_of (sym assoc)
      ∙ configuration_stays (before ++ s ∷ []) rest (stands ∙ sym assoc) (has_begun-more before s ∙ or_left (has_begun before) (has_events s.says) begun)
      ∙ config_of-more before s
      ∙ configured_so before s.says (stands_at before rest s statements stands) begun
