use Rattle.std.proofs.Common.{◌≡◌, rules}
use Rattle.std.specs.Ordering.{nat_cmp}
use Rattle.std.specs.Cmp.Lexicographic.{slice_cmp}
use Rattle.std.proofs.lemmas.Fn.{always_returns_same}
use Rattle.jcl_meaning.specs.declared.names.HeldName.{HeldName}
use Rattle.jcl_meaning.proofs.SortedNames.{searched}
use Rattle.jcl_meaning.proofs.names.place_of.Goals as goal

pub returns-clause-there : goal.returns-clause-there
returns-clause-there c =
    (searched c.args.names.now c.args.wanted.now c.requires c.binary_search_by.result c.binary_search_by.ensures.bound
    (c.binary_search_by.ensures.position (λ (x : HeldName). slice_cmp nat_cmp x.name c.args.wanted.now.name)
    (always_returns_same _ (λ a r. r ≡ slice_cmp nat_cmp a.0.now.name c.args.wanted.now.name) _ (λ a r q k. search rules)))).0

pub returns-clause-missing : goal.returns-clause-missing
returns-clause-missing c =
    (searched c.args.names.now c.args.wanted.now c.requires c.binary_search_by.result c.binary_search_by.ensures.bound
    (c.binary_search_by.ensures.position (λ (x : HeldName). slice_cmp nat_cmp x.name c.args.wanted.now.name)
    (always_returns_same _ (λ a r. r ≡ slice_cmp nat_cmp a.0.now.name c.args.wanted.now.name) _ (λ a r q k. search rules)))).1
