-- Requests of a program, one after another.
use Rattle.std.proofs.Common.{◌≡◌, ◌∙◌, ◌+◌, ℕ, true, false, List, ◌∷◌, Option, Some, None, ap, sym, drop, refl}
use Rattle.std.specs.Prelude.{is_some, slice_get}
use Rattle.std.proofs.lemmas.List.{drop_more}
use Rattle.std.proofs.lemmas.Option.{get_or_from_slice_get, slice_get_within}
use Rattle.jcl_plan.specs.declared.plan.DdPlan.{DdPlan}
use Rattle.jcl_meaning.specs.declared.program.Move.{Move}
use Rattle.job_warnings.specs.Requests.{first_denied, is_denied, or_later}
use Rattle.job_warnings.specs.declared.requests.Denied.{Denied}

none_later : (own later : Option Denied) → is_some own ≡ false → or_later own later ≡ later
none_later None later is = refl
none_later (Some denied) later is = absurd (cc)

some_later : (own later : Option Denied) → is_some own ≡ true → or_later own later ≡ own
some_later None later is = absurd (cc)
some_later (Some denied) later is = refl

module _ (dds : List DdPlan) (moves : List Move) (k : ℕ) where
  at_request : (wants : Move) → slice_get moves k ≡ Some wants →
      first_denied dds (drop k moves) ≡ or_later (is_denied dds wants) (first_denied dds (drop (k + 1) moves))
  at_request wants is =
      ap (first_denied dds) (drop_more moves k wants (slice_get_within moves k wants is)
      ∙ ap (λ (m : Move). m ∷ drop (k + 1) moves) (get_or_from_slice_get moves k wants wants is))

  pub none_more : (wants : Move) (own : Option Denied) → slice_get moves k ≡ Some wants → own ≡ is_denied dds wants → is_some own ≡ false →
      first_denied dds moves ≡ first_denied dds (drop k moves) → first_denied dds moves ≡ first_denied dds (drop (k + 1) moves)
  none_more wants own at is none before =
      before ∙ at_request wants at ∙ ap (λ o. or_later o (first_denied dds (drop (k + 1) moves))) (sym is)
      ∙ none_later own (first_denied dds (drop (k + 1) moves)) none

  pub some_here : (wants : Move) (own : Option Denied) → slice_get moves k ≡ Some wants → own ≡ is_denied dds wants → is_some own ≡ true →
      first_denied dds moves ≡ first_denied dds (drop k moves) → own ≡ first_denied dds moves
  some_here wants own at is some before =
      sym (before ∙ at_request wants at ∙ ap (λ o. or_later o (first_denied dds (drop (k + 1) moves))) (sym is)
      ∙ some_later own (first_denied dds (drop (k + 1) moves)) some)
