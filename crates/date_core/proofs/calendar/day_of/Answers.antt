use Rattle.std.proofs.Common.{rules, arith, ◌≡◌, ℕ, ◌+◌, ◌-◌, ◌≤◌, ℤ, pos, ◌+ℤ◌, ◌≤ℤ◌, sym, ap, ◌∙◌}
use Rattle.std.proofs.lemmas.Int.{ints}
use Rattle.jiff_core.specs.Calendar.{days_in_year}
use Rattle.jiff_core.specs.Date.{ordinal}
use Rattle.jiff_core.proofs.SignedLemmas.{signed_arith}
use Rattle.date_core.specs.Dates.{days_before, days_in}
use Rattle.date_core.proofs.Bridge.{counts, first, within}
use Rattle.date_core.proofs.Numbered.{answered}
use Rattle.date_core.proofs.calendar.day_of.Goals as goal

pub overflow_sub-days_since_min : goal.overflow_sub-days_since_min
overflow_sub-days_since_min c =
    let years : ℕ = c.args.year - 1900 in
    let from : 1900 ≤ c.args.year = omega (arith, c.if-year-lt-FIRST_YEAR.false) in
    let to : c.args.year ≤ 2155 = omega (arith, c.if-year-gt-LAST_YEAR.false) in
    let year : c.in-Ok.date.year ≡ pos (1900 + years) = omega (arith, ints, c.in-Ok.ensures.value.0, from, to) in
    omega (arith, counts c.in-Ok.date years c.days_since_min.result year c.days_since_min.ensures.value, c.in-Ok.ensures.value.1, c.if-of_year-gt366.false)

pub returns-in-Ok : goal.returns-in-Ok
returns-in-Ok c =
    let years : ℕ = c.args.year - 1900 in
    let from : 1900 ≤ c.args.year = omega (arith, c.if-year-lt-FIRST_YEAR.false) in
    let to : c.args.year ≤ 2155 = omega (arith, c.if-year-gt-LAST_YEAR.false) in
    let year : c.in-Ok.date.year ≡ pos (1900 + years) = omega (arith, ints, c.in-Ok.ensures.value.0, from, to) in
    let place : ordinal c.in-Ok.date ≡ c.args.of_year = omega (arith, ints, c.in-Ok.ensures.value.1, c.if-of_year-gt366.false) in
    let there : c.in-Ok.date.year ≡ pos c.args.year = omega (arith, ints, year, from) in
    let last : ordinal c.in-Ok.date ≤ days_in c.args.year = within c.in-Ok.date c.args.year there in
    let counted = counts c.in-Ok.date years c.days_since_min.result year c.days_since_min.ensures.value in
    answered c.args.year c.args.of_year _ c.new.result from to (omega (arith, place, first c.in-Ok.date)) (omega (arith, place, last)) (omega (arith, counted, place, first c.in-Ok.date)) c.new.ensures
