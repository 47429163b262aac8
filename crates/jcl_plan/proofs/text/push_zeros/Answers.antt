use Rattle.std.proofs.Common.{◌≡◌, ◌+◌, ◌++◌, ◌∷◌, [], List, ℕ, replicate, refl, sym, ap, ◌∙◌, append_assoc}
use Rattle.std.proofs.lemmas.List.{append-nil, replicate-append-replicate}
use Rattle.jcl_plan.proofs.text.push_zeros.Goals as goal

one_more : (front out : List ℕ) (n : ℕ) → out ≡ front ++ replicate n 48 → out ++ 48 ∷ [] ≡ front ++ replicate (n + 1) 48
one_more front out n h = ap (λ xs. xs ++ 48 ∷ []) h ∙ append_assoc front (replicate n 48) (48 ∷ []) ∙ ap (λ xs. front ++ xs) (replicate-append-replicate n 1 48)

pub loop-init : goal.loop-init
loop-init c = record { kept = refl; zeros = sym (append-nil c.args.out.now.begun) }

pub loop-preserved : goal.loop-preserved
loop-preserved c = record {
  kept = c.push_byte.ensures.kept ∙ c.loop.invariant.kept;
  zeros = c.in_ok-push_byte.ensures.ok ∙ one_more c.args.out.now.begun c.loop.out.begun c.loop.counter c.loop.invariant.zeros;
}
