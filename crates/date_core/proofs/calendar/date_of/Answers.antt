use Rattle.std.proofs.Common.{rules, arith, ◌≡◌, ℕ, ◌+◌, ◌-◌, ◌≤◌, ℤ, pos, ◌+ℤ◌, ◌≤ℤ◌, sym, ap, ◌∙◌, subst}
use Rattle.std.proofs.lemmas.Int.{ints}
use Rattle.jiff_core.specs.declared.civil.date.Date.{Date}
use Rattle.jiff_core.specs.Date.{ordinal}
use Rattle.jiff_core.proofs.SignedLemmas.{signed_arith}
use Rattle.date_core.specs.Dates.{IsDate, days_before, days_in}
use Rattle.date_core.proofs.Bridge.{counts, first, not_before, within}
use Rattle.date_core.proofs.calendar.date_of.Goals as goal

pub returns : goal.returns
returns c =
    let date : Date = c.from_days_since_min-date.result in
    let from : pos 1900 ≤ℤ date.year = not_before date _ c.from_days_since_min-date.ensures (omega arith) in
    let year : date.year ≡ pos c.unsigned_abs.result = omega (arith, ints, signed_arith, from, c.unsigned_abs.ensures.value) in
    let least : 1900 ≤ c.unsigned_abs.result = omega (arith, ints, signed_arith, from, year) in
    let back : 1900 + (c.unsigned_abs.result - 1900) ≡ c.unsigned_abs.result = omega (arith, least) in
    let there : date.year ≡ pos (1900 + (c.unsigned_abs.result - 1900)) = year ∙ ap pos (sym back) in
    let counted = counts date (c.unsigned_abs.result - 1900) _ there c.from_days_since_min-date.ensures in
    record {
      from_first = least;
      is = record {
        within = (omega (arith, c.day_of_year.ensures.value, first date), omega (arith, c.day_of_year.ensures.value, within date _ there));
        counts = omega (arith, counted, c.day_of_year.ensures.value, c.number.ensures.value);
      };
    }
