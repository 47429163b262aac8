-- Places in order: no two tie.
use Rattle.std.proofs.Common.{◌≡◌, refl, ap, sym, ◌∙◌}
use Rattle.std.specs.Cmp.{IsTotalOrder}
use Rattle.std.specs.FinMap.{IsAntisymmetric, nat_cmp-IsAntisymmetric}
use Rattle.std.specs.Ordering.{nat_cmp, ordering_reverse, ordering_then}
use Rattle.std.specs.declared.cmp.Ordering.{Ordering}
use Rattle.std.specs.declared.cmp.Ordering.TheVariants.{Less, Equal, Greater}
use Rattle.mount_core.specs.contracts.place.KeptPlaceOrd.TheImpl as ord
use Rattle.mount_core.specs.contracts.place.KeptPlaceOrd.TheImpl.Laws as law
use Rattle.mount_core.specs.declared.place.KeptPlace.{KeptPlace}
use Rattle.mount_core.specs.Kept.{place_cmp}

then_equal : (x y : Ordering) → ordering_then x y ≡ Equal → (x ≡ Equal) × (y ≡ Equal)
then_equal Less y h = absurd cc
then_equal Equal y h = (refl, h)
then_equal Greater y h = absurd cc

pub places_tie : IsAntisymmetric place_cmp
places_tie a b h =
    let p = then_equal (nat_cmp a.job b.job) (ordering_then (nat_cmp a.step b.step) (nat_cmp a.dd b.dd)) h in
    let q = then_equal (nat_cmp a.step b.step) (nat_cmp a.dd b.dd) p.1 in
    let i : a.job ≡ b.job = nat_cmp-IsAntisymmetric a.job b.job p.0 in
    let s : a.step ≡ b.step = nat_cmp-IsAntisymmetric a.step b.step q.0 in
    let d : a.dd ≡ b.dd = nat_cmp-IsAntisymmetric a.dd b.dd q.1 in
    λ k. record { job = i k; step = s k; dd = d k }

-- the order that is derived is the one defined
pub order_is : (a b : KeptPlace) → ord.ghosts.cmp a b ≡ place_cmp a b
order_is a b = refl

pub place_total : IsTotalOrder place_cmp
place_total = record {
  antisymm = λ a b. sym (order_is a b) ∙ law.total-law.antisymm a b ∙ ap ordering_reverse (order_is b a);
  trans = λ a b c p q. sym (order_is a c) ∙ law.total-law.trans a b c (order_is a b ∙ p) (order_is b c ∙ q);
  congr = λ a b c p. sym (order_is a c) ∙ law.total-law.congr a b c (order_is a b ∙ p) ∙ order_is b c;
}
