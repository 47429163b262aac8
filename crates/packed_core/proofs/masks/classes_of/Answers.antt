use Rattle.std.proofs.Common.{◌≡◌, ◌∙◌, ◌++◌, ◌∷◌, List, [], ap, arith, length, map, sym, subst, take}
use Rattle.std.specs.Prelude.{All}
use Rattle.std.proofs.lemmas.List.{map-append, take_all, take_more}
use Rattle.std.proofs.lemmas.List.Elements.{All-push}
use Rattle.jcl_plan.specs.declared.outcome.Code.{Code}
use Rattle.cond_core.specs.Classes.{AreClasses}
use Rattle.view_core.specs.Bits.{looking}
use Rattle.packed_core.specs.Classes.{IsMask}
use Rattle.packed_core.specs.declared.classes.Class.{Class}
use Rattle.packed_core.proofs.masks.classes_of.Goals as goal

pub loop-code-init : goal.loop-code-init
loop-code-init c = record {
  codes = ap (map (λ (k : Class). k.code)) c.new-classes.ensures.items;
  masks = λ k d h. absurd (omega (arith, ap length c.new-classes.ensures.items));
}

pub loop-code-preserved : goal.loop-code-preserved
loop-code-preserved c =
    let old : List Class = c.loop-code.classes.items in
    let codes : List Code = c.representatives-code-items.result.now in
    let code : Code = c.code-item.result in
    let class : Class = record { code = code; mask = c.in_ok-mask.mask } in
    let pushed : c.push.new.self.items ≡ old ++ class ∷ [] = c.in_ok-push.ensures.items in
    record {
      codes = ap (map (λ (k : Class). k.code)) pushed ∙ map-append (λ (k : Class). k.code) old (class ∷ [])
          ∙ ap (λ xs. xs ++ code ∷ []) c.loop-code.invariant.codes
          ∙ ap (λ x. take c.loop-code.code-index codes ++ x ∷ []) c.code-item.is
          ∙ sym (take_more codes c.loop-code.code-index code (omega (arith, c.loop-code-test.true)));
      masks = subst (All (λ (k : Class). IsMask c.args.n c.args.tests.now c.args.room k.code k.mask.items)) (sym pushed)
          (All-push (λ (k : Class). IsMask c.args.n c.args.tests.now c.args.room k.code k.mask.items) old class c.loop-code.invariant.masks
          c.in_ok-mask.ensures);
    }

pub returns : goal.returns
returns c =
    let codes : List Code = c.representatives-code-items.result.now in
    record {
      codes = subst (AreClasses (looking c.args.n c.args.tests.now))
          (sym (c.loop-code.invariant.codes ∙ take_all c.loop-code.code-index codes (omega (arith, c.loop-code-test.false))
          ∙ c.representatives-code-items.ensures))
          c.in_ok-codes.ensures;
      masks = c.loop-code.invariant.masks;
    }
