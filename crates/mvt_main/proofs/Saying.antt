-- What is said in two parts, and by which program.
use Rattle.std.proofs.Common.{◌≡◌, ◌∙◌, ◌++◌, ℕ, Bool, true, false, List, [], Option, Some, None, ap, codes, subst}
use Rattle.std.specs.Prelude.{Result}
use Rattle.std.specs.Bool.{OnTrue}
use Rattle.std.specs.Io.KnownBytes.{Appends}
use Rattle.std.proofs.lemmas.List.{append_assoc}
use Rattle.clap.specs.Words.{Text}
use Rattle.clap.specs.declared.error.Error.{Error}
use Rattle.command_line.specs.CommandLines.{IsRead, names_of}
use Rattle.command_line.specs.declared.options.Asked.{Asked}
use Rattle.command_line.specs.declared.program.Program.{Program}

appends_both : (old between new : Option (List ℕ)) (first second : List ℕ) → Appends old between first → Appends between new second
    → Appends old new (first ++ second)
appends_both None between new first second p q = tt
appends_both (Some xs) None new first second p q = absurd p
appends_both (Some xs) (Some ys) None first second p q = absurd q
appends_both (Some xs) (Some ys) (Some zs) first second p q = q ∙ ap (λ bs. bs ++ second) p ∙ append_assoc xs first second

pub said_both : (old between new : Option (List ℕ)) (first second : List ℕ) (said : Bool) → Appends old between first
    → OnTrue said (Appends between new second) → OnTrue said (Appends old new (first ++ second))
said_both old between new first second true p q = appends_both old between new first second p q
said_both old between new first second false p q = tt

-- the words are those of the program `mvt`
pub read_as_mvt : (program : Program) (words : List Text) (answer : Result Asked Error) → program.name.now ≡ codes "mvt" → program.flags.now ≡ []
    → IsRead program.name.now (names_of program.flags.now) words answer → IsRead (codes "mvt") [] words answer
read_as_mvt program words answer name flags read =
    subst (λ (n : Text). IsRead n [] words answer) name
    (subst (λ (fs : List Text). IsRead program.name.now fs words answer) (ap names_of flags) read)
