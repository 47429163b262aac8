use Rattle.std.proofs.Common.{◌≡◌, ◌+◌, ◌≤◌, ◌++◌, ◌∙◌, ap, arith, drop, length, map, min, subst, sym, take, [], ◌∷◌}
use Rattle.std.proofs.lemmas.List.Elements.{All-same}
use Rattle.cb_meaning.specs.Walks.{in_parts}
use Rattle.cb_read.specs.Ranges.{IsTestInRange}
use Rattle.cb_read.specs.Tests.{test_read, width_of}
use Rattle.cb_read.proofs.Parts.{first_parts, one_added, part_in_range, parts_read, rest_in_range}
use Rattle.cb_read.proofs.Widths.{fewer_within, one_within, others_within}
use Rattle.cb_read.proofs.tests_read.tests_read.Goals as goal

pub loop-left-init : goal.loop-left-init
loop-left-init c =
    let none = ap length c.no_tests-tests.ensures in
    let few : c.min-left.result ≡ min c.args.count 8 = c.min-left.ensures in
    let within : c.min-left.result ≤ 8 = omega (arith, few) in
    let read = test_read c.args.kind in
    let width = width_of c.args.kind in
    let first = first_parts read width c.args.count 8 c.min-left.result c.args.bytes.now few in
    record {
      room = omega (arith, none, few);
      size = fewer_within c.args.kind c.min-left.result 8 (length c.args.bytes.now) within c.requires.size;
      range = All-same IsTestInRange (parts_read read width c.min-left.result c.args.bytes.now)
          (map read (take c.args.count (in_parts 8 width c.args.bytes.now))) (sym first) c.requires.range;
      whole = first ∙ sym (ap (λ xs. xs ++ parts_read read width c.min-left.result c.args.bytes.now) c.no_tests-tests.ensures);
    }

pub split_at-requires : goal.split_at-requires
split_at-requires c =
    subst (λ w. w ≤ length c.loop-left.rest.now) (sym c.width_of-width.ensures)
    (one_within c.args.kind c.loop-left.left (length c.loop-left.rest.now) c.loop-left-test.true c.loop-left.invariant.size)

pub test_read-requires-clause-size : goal.test_read-requires-clause-size
test_read-requires-clause-size c =
    let so = c.width_of-width.ensures in
    let front_len = c.split_at.ensures.front_len in
    omega (arith, so, front_len)

pub test_read-requires-clause-range : goal.test_read-requires-clause-range
test_read-requires-clause-range c =
    subst (λ t. IsTestInRange (test_read c.args.kind t)) (sym (c.split_at.ensures.front ∙ ap (λ w. take w c.loop-left.rest.now) c.width_of-width.ensures))
    (part_in_range (test_read c.args.kind) (width_of c.args.kind) c.loop-left.left c.loop-left.rest.now c.loop-left-test.true IsTestInRange
    c.loop-left.invariant.range)

pub loop-left-preserved : goal.loop-left-preserved
loop-left-preserved c =
    let read = test_read c.args.kind in
    let width = width_of c.args.kind in
    let added = c.push.ensures.len in
    let room = c.loop-left.invariant.room in
    let some = c.loop-left-test.true in
    let back_len = c.split_at.ensures.back_len in
    let so = c.width_of-width.ensures in
    let whole : length c.split_at.result.1.now + width_of c.args.kind ≡ length c.loop-left.rest.now = omega (arith, back_len, so) in
    let front : c.split_at.result.0.now ≡ take width c.loop-left.rest.now = c.split_at.ensures.front ∙ ap (λ w. take w c.loop-left.rest.now) so in
    let back : c.split_at.result.1.now ≡ drop width c.loop-left.rest.now = c.split_at.ensures.back ∙ ap (λ w. drop w c.loop-left.rest.now) so in
    record {
      room = omega (arith, added, room, some);
      size = others_within c.args.kind c.loop-left.left (length c.loop-left.rest.now) (length c.split_at.result.1.now) some c.loop-left.invariant.size whole;
      range = rest_in_range read width c.loop-left.left c.loop-left.rest.now some IsTestInRange c.loop-left.invariant.range c.split_at.result.1.now back;
      whole = one_added read width c.loop-left.left c.loop-left.rest.now some
          (map read (take c.args.count (in_parts 8 width c.args.bytes.now))) c.loop-left.tests.items c.loop-left.invariant.whole c.push.new.self.items
          c.split_at.result.1.now (c.push.ensures.items ∙ ap (λ t. c.loop-left.tests.items ++ t ∷ []) (c.test_read.ensures ∙ ap read front)) back;
    }
