use Rattle.std.proofs.Common.{◌≡◌, inl, inr, ◌∙◌, ◌-◌, ◌<◌, ◌≤◌, ℕ, Bool, List, Some, ap, arith, length, subst, sym}
use Rattle.std.specs.Prelude.{slice_get}
use Rattle.std.proofs.lemmas.Bool.{cases_lt}
use Rattle.std.proofs.lemmas.Option.{same_Some}
use Rattle.packed_core.specs.declared.classes.Class.{Class}
use Rattle.packed_core.specs.Ways.{Leads}
use Rattle.packed_core.proofs.Chains.{leads_itself, leads_on, nested_by, nested_so}
use Rattle.packed_core.proofs.Places.{got_below, got_there}
use Rattle.packed_core.proofs.apart.is_chain.Goals as goal

itself : (list : List Class) (rising : Bool) (j k : ℕ) (a b : Class) → j ≡ k → slice_get list j ≡ Some a → slice_get list k ≡ Some b →
    Leads rising a.mask.items b.mask.items
itself list rising j k a b e at to =
    let one : a ≡ b = same_Some a b (sym at ∙ ap (slice_get list) e ∙ to) in
    subst (λ (x : Class). Leads rising a.mask.items x.mask.items) one (leads_itself rising a.mask.items)

pub loop-i-init : goal.loop-i-init
loop-i-init c j k a b h l at to = itself c.args.list.now c.args.rising j k a b (omega arith) at to

pub loop-i-preserved : goal.loop-i-preserved
loop-i-preserved c j k a b h l at to =
    let list : List Class = c.args.list.now in
    let rising : Bool = c.args.rising in
    let i : ℕ = c.loop-i.i in
    let low : 1 ≤ i = c.loop-i.auto.i in
    let high : i < length list = omega (arith, c.loop-i-test.true) in
    let before : (x : Class) × (slice_get list (i - 1) ≡ Some x) = got_there list (i - 1) (omega (arith, low, high)) in
    elim (cases_lt k i) [
      | inl g ↦ c.loop-i.invariant j k a b h g at to
      | inr g ↦
          let last : k ≡ i = omega (arith, g, l) in
          elim (cases_lt j i) [
            | inl f ↦
                let so_far : Leads rising a.mask.items before.0.mask.items =
                c.loop-i.invariant j (i - 1) a before.0 (omega (arith, f, low)) (omega (arith, low)) at before.1 in
                let next : Leads rising before.0.mask.items b.mask.items =
                subst (λ (x : List ℕ). Leads rising x b.mask.items) (c.mask_at.ensures before.0 before.1)
                (subst (Leads rising c.mask_at.result.now) (c.mask_at-in-loop-i.ensures b (ap (slice_get list) (sym last) ∙ to))
                (c.leads.ensures c.if-not-leads.false)) in
                leads_on rising a.mask.items before.0.mask.items b.mask.items so_far next
            | inr f ↦ itself list rising j k a b (omega (arith, f, h, last)) at to
          ]
    ]

pub returns : goal.returns
returns c e j k a b at to =
    let below_j : j < length c.args.list.now = got_below c.args.list.now j a at in
    let below_k : k < length c.args.list.now = got_below c.args.list.now k b to in
    elim (cases_lt k j) [
      | inl h ↦ nested_by c.args.rising b.mask.items a.mask.items (c.loop-i.invariant k j b a (omega arith) (omega (arith, below_j, c.loop-i-test.false)) to at)
      | inr h ↦ nested_so c.args.rising a.mask.items b.mask.items (c.loop-i.invariant j k a b (omega arith) (omega (arith, below_k, c.loop-i-test.false)) at to)
    ]
