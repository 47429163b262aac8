use Rattle.std.proofs.Common.{◌∙◌, ap}
use Rattle.std.specs.List.{list_any}
use Rattle.std.specs.Str.{bytes_eq}
use Rattle.command_line.proofs.Reading.{has_named}
use Rattle.command_line.proofs.options.Asked.has.Goals as goal

pub returns : goal.returns
returns c = c.contains.ensures.value ∙ ap (list_any (λ word. bytes_eq word.now c.args.name.now)) c.deref.ensures.value
    ∙ has_named c.args.name.now c.args.self.now.given.items
