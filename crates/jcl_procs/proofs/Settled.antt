-- DDs of a step, each made one of its own, one after another
use Rattle.std.proofs.Common.{◌≡◌, refl, sym, ap, ◌∙◌, ℕ, zero, suc, ◌+◌, ◌<◌, List, [], ◌∷◌, length, map, slice_index_or, slice_set, add-one, arith}
use Rattle.jcl_dds.specs.declared.dd.DdCard.{DdCard}
use Rattle.jcl_dds.specs.Merging.{by_itself}

-- the first n of them
abbrev pub settled : ℕ → List DdCard → List DdCard
settled zero dds = dds
settled (suc n) [] = []
settled (suc n) (dd ∷ dds) = by_itself dd ∷ settled n dds

one_more : (dds : List DdCard) (n : ℕ) (d : DdCard) → n < length dds →
    slice_set (settled n dds) n (by_itself (slice_index_or (settled n dds) n d)) ≡ settled (suc n) dds
one_more [] n d lt = absurd (omega (arith, lt))
one_more (dd ∷ dds) zero d lt = refl
one_more (dd ∷ dds) (suc n) d lt = ap (λ left. by_itself dd ∷ left) (one_more dds n d (omega (arith, lt)))

pub settled_more : (dds left : List DdCard) (n : ℕ) (d new : DdCard) → n < length dds → left ≡ settled n dds →
    new ≡ by_itself (slice_index_or left n d) → slice_set left n new ≡ settled (n + 1) dds
settled_more dds left n d new lt is put =
    ap (λ (dd : DdCard). slice_set left n dd) put
    ∙ ap (λ (ds : List DdCard). slice_set ds n (by_itself (slice_index_or ds n d))) is
    ∙ one_more dds n d lt
    ∙ ap (λ m. settled m dds) (sym (add-one n))

pub all_settled : (dds : List DdCard) → settled (length dds) dds ≡ map by_itself dds
all_settled [] = refl
all_settled (dd ∷ dds) = ap (λ left. by_itself dd ∷ left) (all_settled dds)
