use Rattle.std.proofs.Common.{◌||◌, Bool, List, ℕ, inl, subst}
use Rattle.session_core.specs.Streams.{sink_state}
use Rattle.mvt_check.specs.Checking.{IsTold}
use Rattle.mvt_check.proofs.program.run_program.Goals as goal

pub returns : goal.returns
returns g c =
    let before = sink_state g.W.Write.contents c.args.sink.now in
    let after = sink_state g.W.Write.contents c.tell.new.sink in
    inl (record {
      text = c.in-Ok.input.text.items;
      ending = c.in-Ok.input.ending;
      read = c.in-Ok.ensures.ok;
      found = c.in-Ok-found_in.found;
      is = c.in-Ok-found_in.ensures;
      written = c.in-Ok-shown.text.items;
      whole = c.in-Ok-shown.ensures;
      told = subst (λ (t : List ℕ). IsTold before after t (c.in-Ok-found_in.found.refused || c.in-Ok-found_in.found.at_risk) c.tell.result.status)
          c.as_slice.ensures.value
          (subst (λ (b : Bool). IsTold before after c.as_slice.result.now b c.tell.result.status) c.fails-fails.ensures c.tell.ensures);
    })
