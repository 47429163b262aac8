-- A job holds no more names than its DDs ask for.
use Rattle.std.proofs.Common.{◌≡◌, ◌∷◌, ℕ, ◌+◌, ◌≤◌, false, List, [], arith, length, nat_lt, sym}
use Rattle.std.specs.Ordering.{nat_cmp}
use Rattle.std.specs.Cmp.Lexicographic.{slice_cmp}
use Rattle.std.specs.declared.cmp.Ordering.{Ordering}
use Rattle.std.specs.declared.cmp.Ordering.TheVariants.{Less, Equal, Greater}
use Rattle.jcl_meaning.specs.declared.names.HeldName.{HeldName}
use Rattle.jcl_meaning.specs.Names.{entered_at, names_of, wanted_by, with_name, with_names}
use Rattle.jcl_plan.specs.declared.plan.JobPlan.{JobPlan}
use Rattle.jcl_refs.specs.Plans.{most_names}

-- a name that is entered is one more at most
entered : (order : Ordering) (h there : HeldName) (rest more : List HeldName) → length more ≤ length rest + 1 →
    length (entered_at order h there rest more) ≤ length (there ∷ rest) + 1
entered Less h there rest more le = grind arith
entered Equal h there rest more le = grind arith
entered Greater h there rest more le = grind arith

one_more : (names : List HeldName) (h : HeldName) → length (with_name names h) ≤ length names + 1
one_more [] h = grind arith
one_more (there ∷ rest) h = entered (slice_cmp nat_cmp h.name there.name) h there rest (with_name rest h) (one_more rest h)

no_longer : (names wanted : List HeldName) → length (with_names names wanted) ≤ length names + length wanted
no_longer names [] = omega arith
no_longer names (h ∷ hs) =
    let one : length (with_name names h) ≤ length names + 1 = one_more names h in
    let all : length (with_names (with_name names h) hs) ≤ length (with_name names h) + length hs = no_longer (with_name names h) hs in
    omega (arith, one, all)

few_by : (n : ℕ) → n ≤ most_names → nat_lt most_names n ≡ false
few_by n le = grind arith

pub holds_few : (plan : JobPlan) → length (wanted_by plan.steps) ≤ most_names → false ≡ nat_lt most_names (length (names_of plan))
holds_few plan le =
    let all = no_longer [] (wanted_by plan.steps) in
    sym (few_by (length (with_names [] (wanted_by plan.steps))) (omega (arith, all, le)))
