use Rattle.std.proofs.Common.{◌≡◌, map, take}
use Rattle.view_core.specs.Moves.{told, told_code}
use Rattle.view_core.proofs.moves.moves_by_code.Given as goal

abbrev pub invariant-loop-code : goal.invariant-loop-code
invariant-loop-code l = map told l.moves.items ≡ map (told_code l.n l.tests l.bits l.abended l.scene.value) (take l.code-index l.codes)
