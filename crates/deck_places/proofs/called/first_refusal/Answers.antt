use Rattle.std.proofs.Common.{◌≡◌, ◌<◌, ◌≤◌, ◌+◌, ◌-◌, ◌/◌, ◌++◌, List, Err, arith, drop, length, subst, sym, take}
use Rattle.card_core.specs.declared.statement.Statement.{Statement}
use Rattle.jcl_procs.specs.Calling.{call_of}
use Rattle.jcl_procs.specs.Calls.{steps_of}
use Rattle.deck_places.specs.Called.{IsRefusedTo}
use Rattle.deck_places.specs.Short.{StandFor}
use Rattle.deck_places.proofs.Refused.{first_at}
use Rattle.deck_places.proofs.Shortened.{more_refused, more_stand, refused_more}
use Rattle.deck_places.proofs.called.first_refusal.Goals as goal

pub loop-low-preserved-in-Taken : goal.loop-low-preserved-in-Taken
loop-low-preserved-in-Taken c =
    let call = call_of c.args.caller.now in
    let statements = c.args.statements.now in
    let short = c.loop-low.short.items in
    let low = c.loop-low.low in
    let high = c.loop-low.high in
    let middle = low + (high - low) / 2 in
    let test = c.loop-low-test.true in
    let stands = c.loop-low.invariant.stands in
    let order : low ≤ middle = omega arith in
    let more : c.in_ok-more.more.items ≡ short ++ take (middle - low) (drop low statements) =
    (let h = c.in_ok-more.ensures in let is = c.as_slice.ensures.value in cc) in
    let tried = rw c.in-Taken.is at c.in_ok-next.ensures in
    record {
      stands = more_stand call statements short low middle order stands c.in-Taken.next.items
          (subst (λ (l : List Statement). StandFor call c.in-Taken.next.items l) more tried.1);
      taken = λ cause refused. tried.0 cause (subst (λ (l : List Statement). steps_of call l ≡ Err cause) (sym more)
          (refused_more call statements short low middle order stands cause refused));
      behind = c.loop-low.invariant.behind;
      order = (let less : middle < high = omega arith in less);
      within = c.loop-low.invariant.within;
    }

pub loop-low-preserved : goal.loop-low-preserved
loop-low-preserved c =
    let call = call_of c.args.caller.now in
    let statements = c.args.statements.now in
    let short = c.loop-low.short.items in
    let low = c.loop-low.low in
    let high = c.loop-low.high in
    let middle = low + (high - low) / 2 in
    let test = c.loop-low-test.true in
    let within = c.loop-low.invariant.within in
    let stands = c.loop-low.invariant.stands in
    let order : low ≤ middle = omega arith in
    let cause = c.in-Refused.cause in
    let more : c.in_ok-more.more.items ≡ short ++ take (middle - low) (drop low statements) =
    (let h = c.in_ok-more.ensures in let is = c.as_slice.ensures.value in cc) in
    let tried = rw c.in-Refused.is at c.in_ok-next.ensures in
    let there : middle ≤ length statements = omega arith in
    record {
      stands = stands;
      taken = c.loop-low.invariant.taken;
      behind = (
        there,
        more_refused call statements short low middle order stands cause
            (subst (λ (l : List Statement). steps_of call l ≡ Err cause) more tried.0),
        tried.1,
      );
      order = (let less : low < middle = omega arith in less);
      within = (let less : middle ≤ length statements + 1 = omega arith in less);
    }

pub returns-in-Some : goal.returns-in-Some
returns-in-Some c =
    let call = call_of c.args.caller.now in
    let statements = c.args.statements.now in
    let cause = c.in-Some.cause in
    let low = c.loop-low.low in
    let order = c.loop-low.invariant.order in
    let test = c.loop-low-test.false in
    let behind = rw c.in-Some.is at c.loop-low.invariant.behind in
    let next : c.loop-low.high ≡ low + 1 = omega arith in
    let high : c.loop-low.high ≤ length statements = behind.0 in
    let there : low < length statements = omega arith in (
      first_at call statements cause low behind.2 there (c.loop-low.invariant.taken cause)
          (subst (λ n. IsRefusedTo call statements cause n) next behind.1),
      behind.2,
    )
