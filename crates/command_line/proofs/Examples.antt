-- Worked command lines, wherever the choices stand in memory.
use Rattle.std.proofs.Common.{◌≡◌, ℕ, List, [], ◌∷◌, codes, map, refl, subst}
use Rattle.std.specs.Borrow.{Bor}
use Rattle.clap.specs.Words.{Text}
use Rattle.clap.proofs.OnLiterals.{clap_on_literals}
use Rattle.command_line.specs.CommandLines.{AreChoices, Choices, program_with}
use Rattle.command_line.specs.Examples.{AreExamples, AreOwnExamples, own_flags}

abbrev pub choices_at : (whole first second : ℕ × ℕ) → Choices
choices_at whole first second =
    record { ref_ptr = whole; now = record { ref_ptr = first; now = codes "run" } ∷ record { ref_ptr = second; now = codes "refuse" } ∷ [] }

pub at_places : (P : Choices → Type 0) → ((whole first second : ℕ × ℕ) → P (choices_at whole first second)) → (choices : Choices)
    → AreChoices choices → P choices
at_places P each choices so = by choices.ref_ptr choices.now so
  where
    by : (whole : ℕ × ℕ) (words : List (Bor Text)) → map (λ word. word.now) words ≡ codes "run" ∷ codes "refuse" ∷ []
        → P (record { ref_ptr = whole; now = words })
    by whole [] e = cc
    by whole (a ∷ []) e = cc
    by whole (a ∷ b ∷ []) e =
        let first : codes "run" ≡ a.now = cc in
        let second : codes "refuse" ≡ b.now = cc in
        subst (λ (w : Text). P (record { ref_ptr = whole; now = record { ref_ptr = a.ref_ptr; now = w } ∷ b ∷ [] })) first
        (subst (λ (w : Text). P (record {
          ref_ptr = whole;
          now = record { ref_ptr = a.ref_ptr; now = codes "run" }
              ∷ record { ref_ptr = b.ref_ptr; now = w } ∷ [];
        })) second
        (each whole a.ref_ptr b.ref_ptr))
    by whole (a ∷ b ∷ x ∷ more) e = cc

pub examples : (whole first second : ℕ × ℕ) → AreExamples (program_with (codes "mvt") [] (choices_at whole first second))
unfolding clap_on_literals
examples whole first second = record { takes = refl; refuses = refl }

pub own_examples : (whole first second : ℕ × ℕ) → AreOwnExamples (program_with (codes "mvt-play") own_flags (choices_at whole first second))
unfolding clap_on_literals
own_examples whole first second = record { takes = refl; refuses = refl }
