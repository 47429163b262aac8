use Rattle.std.proofs.Common.{◌<◌, refl, ap, ◌∙◌, length, arith}
use Rattle.std.specs.Vec.{with_item}
use Rattle.jcl_refs.specs.declared.waiting.Named.{Named}
use Rattle.jcl_refs.specs.declared.waiting.Waiting.{Waiting}
use Rattle.jcl_refs.proofs.WaitingDds.{place_in, taking, takes_nothing}
use Rattle.jcl_refs.proofs.waiting.Waiting.take.Goals as goal

pub returns-in_default-clause-takes : goal.returns-in_default-clause-takes
returns-in_default-clause-takes c = (takes_nothing c.args.self.now c.args.name c.requires c.in_default.ensures.none, refl)

pub index_mut-requires : goal.index_mut-requires
index_mut-requires c =
    let within : c.in-Some.place < length c.args.self.now.named.items =
    place_in c.args.self.now c.pop.new.self c.args.name c.in-Some.place c.requires c.in-Some.ensures.none in
    omega (arith, within, c.args.self.now.named.ok.0)

pub returns-clause-is : goal.returns-clause-is
returns-clause-is c =
    let new : Waiting = record {
      next = c.append.new.self;
      named = with_item c.args.self.now.named c.in-Some.place c.replace-first.new.dest;
      places = c.pop.new.self;
    } in
    (taking c.args.self.now new c.args.name c.in-Some.place c.replace-first.result c.replace-first.new.dest c.index_mut.result.now c.requires
    c.in-Some.ensures.aligned c.in-Some.ensures.none (c.replace-first.ensures.value ∙ c.index_mut.ensures.value)
    (ap (λ (g : Named). g.first) c.replace-first.ensures.after) (ap (λ (g : Named). g.continued.items) c.replace-first.ensures.after ∙ c.new.ensures.items)
    c.in_ok-append.ensures.items (λ i. new.named.items)).0

pub returns-clause-takes : goal.returns-clause-takes
returns-clause-takes c =
    let new : Waiting = record {
      next = c.append.new.self;
      named = with_item c.args.self.now.named c.in-Some.place c.replace-first.new.dest;
      places = c.pop.new.self;
    } in
    (taking c.args.self.now new c.args.name c.in-Some.place c.replace-first.result c.replace-first.new.dest c.index_mut.result.now c.requires
    c.in-Some.ensures.aligned c.in-Some.ensures.none (c.replace-first.ensures.value ∙ c.index_mut.ensures.value)
    (ap (λ (g : Named). g.first) c.replace-first.ensures.after) (ap (λ (g : Named). g.continued.items) c.replace-first.ensures.after ∙ c.new.ensures.items)
    c.in_ok-append.ensures.items (λ i. new.named.items)).1
