-- The names of jobs after one more was read.
use Rattle.std.proofs.Common.{◌≡◌, ◌∙◌, ℕ, ◌<◌, List, [], ◌∷◌, ◌++◌, length, get_or, sym, ap, arith}
use Rattle.std.specs.Prelude.{Option, Some, None}
use Rattle.std.proofs.lemmas.List.{get_or_append_left, length-append}
use Rattle.std.proofs.lemmas.Option.{slice_get-get_or}
use Rattle.std.proofs.Math.Seq.{get_or-append_seam}
use Rattle.history_core.specs.Jobs.{name_at, name_or_none}

pub read_last : (names : List (Option (List ℕ))) (name : List ℕ) (job : ℕ) → length names ≡ job → name_at (names ++ Some name ∷ []) job ≡ name
read_last names name job e =
    let longer = length-append names (Some name ∷ []) in
    let seam = ap (λ k. get_or (names ++ Some name ∷ []) k None) (sym e) ∙ get_or-append_seam names (Some name) [] None in
    ap name_or_none (slice_get-get_or (names ++ Some name ∷ []) job None (omega (arith, e, longer)) ∙ ap (λ x. Some x) seam)

pub read_before : (names : List (Option (List ℕ))) (x : Option (List ℕ)) (k : ℕ) → k < length names → name_at (names ++ x ∷ []) k ≡ name_at names k
read_before names x k h =
    let longer = length-append names (x ∷ []) in
    let there = slice_get-get_or (names ++ x ∷ []) k None (omega (arith, h, longer)) in
    let same = ap (λ y. Some y) (get_or_append_left names (x ∷ []) None k h) in
    ap name_or_none (there ∙ same ∙ sym (slice_get-get_or names k None h))
