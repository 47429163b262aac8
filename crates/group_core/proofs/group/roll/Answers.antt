use Rattle.std.proofs.Common.{◌≡◌, ◌-◌, ℕ, List, [], ◌∷◌, ◌++◌, Option, Some, None, IsSome, take, length, ap, sym, subst, arith, ◌∙◌, length-append}
use Rattle.std.proofs.Math.Seq.{take-append_seam}
use Rattle.std.specs.Option.{option_to_list}
use Rattle.group_core.specs.declared.group.Generation.{Generation}
use Rattle.group_core.specs.Groups.{IsFalling, inserted, serial_of}
use Rattle.group_core.proofs.Falls.{falling_take, missing_take, all_but_lowest}
use Rattle.group_core.proofs.group.roll.Goals as goal

all_but_last : (rest : List Generation) (g : Generation) → rest ≡ take (length (rest ++ g ∷ []) - 1) (rest ++ g ∷ [])
all_but_last rest g =
    let n : length (rest ++ g ∷ []) - 1 ≡ length rest = omega (arith, length-append rest (g ∷ [])) in
    sym (ap (λ (k : ℕ). take k (rest ++ g ∷ [])) n ∙ take-append_seam rest (g ∷ []))

-- what is left without the lowest: all but the last
front_by : (gs rest : List Generation) (o : Option Generation) → IsSome o → gs ≡ rest ++ option_to_list o → rest ≡ take (length gs - 1) gs
front_by gs rest None some e = absurd cc
front_by gs rest (Some g) some e = subst (λ (xs : List Generation). rest ≡ take (length xs - 1) xs) (sym e) (all_but_last rest g)

pub add-requires-clause-falling : goal.add-requires-clause-falling
add-requires-clause-falling c =
    let gs : List Generation = c.args.generations.now.items in
    let front : c.pop.new.self.items ≡ take (length gs - 1) gs = front_by c.args.generations.now.items c.pop.new.self.items c.pop.result (c.pop.ensures.variant.1 c.requires.some) c.pop.ensures.items in
    subst (IsFalling 10000) (sym front) (falling_take 10000 gs (length gs - 1) c.requires.falling)

pub add-requires-clause-other : goal.add-requires-clause-other
add-requires-clause-other c =
    let gs : List Generation = c.args.generations.now.items in
    let front : c.pop.new.self.items ≡ take (length gs - 1) gs = front_by c.args.generations.now.items c.pop.new.self.items c.pop.result (c.pop.ensures.variant.1 c.requires.some) c.pop.ensures.items in
    subst (λ (xs : List Generation). serial_of xs c.args.new.number ≡ None) (sym front) (missing_take gs c.args.new.number (length gs - 1) c.requires.other)

pub returns-clause-rolled : goal.returns-clause-rolled
returns-clause-rolled c = λ low h.
    let gs : List Generation = c.args.generations.now.items in
    let front : c.pop.new.self.items ≡ take (length gs - 1) gs = front_by c.args.generations.now.items c.pop.new.self.items c.pop.result (c.pop.ensures.variant.1 c.requires.some) c.pop.ensures.items in
    c.add.ensures.value ∙ ap (inserted c.args.new) (front ∙ all_but_lowest 10000 gs low c.requires.falling h)
