-- A name in the group of its base: what each call means of it.
use Rattle.std.proofs.Common.{◌≡◌, ◌≢◌, ◌<◌, ℕ, zero, suc, List, false, Option, Some, None, Result, Ok, Err, refl, ap, ◌∙◌, sym, arith}
use Rattle.std.proofs.lemmas.Bool.{cond-false}
use Rattle.std.proofs.lemmas.Option.{same_Some}
use Rattle.jname_core.specs.Generations.{base_of, generation_of}
use Rattle.group_core.specs.Entries.{Member, member_by}
use Rattle.group_core.specs.Groups.{GroupState}
use Rattle.group_core.specs.declared.group.Rolled.{Rolled}
use Rattle.cat_core.specs.declared.fault.CatFault.{CatFault}
use Rattle.cat_core.specs.declared.fault.CatFault.TheVariants as fault
use Rattle.cat_core.specs.Catalogs.{Contents, Gives, entered_name, entered_name_by, generation_entered, generation_entered_by, group_of, is_entered, member_of, with_generation, with_generation_by, with_name, with_name_by, without_name, without_name_by, without_number, without_number_by}

pub member_some : (n : ℕ) (g : GroupState) → 0 < n → Some (n, g) ≡ member_by (Some n) (Some g)
member_some zero g h = absurd (omega arith)
member_some (suc n) g h = refl

pub member_none : (n : ℕ) → None ≡ member_by (Some n) None
member_none zero = refl
member_none (suc n) = refl

member_parts : (n : Option ℕ) (o : Option GroupState) (number : ℕ) (g : GroupState) → Some (number, g) ≡ member_by n o → o ≡ Some g
member_parts (Some (suc n)) (Some h) number g e = ap (λ (m : Member). Some m.1) (same_Some (suc n, h) (number, g) (sym e))
member_parts (Some (suc n)) None number g e = cc
member_parts (Some zero) o number g e = cc
member_parts None o number g e = cc

-- an answer is given where it is the one denoted
pub gives_itself : (r : Result Rolled CatFault) → (r ≢ Err fault.Memory) → Gives r r
gives_itself (Ok x) h = refl
gives_itself (Err fault.There) h = refl
gives_itself (Err fault.NotThere) h = refl
gives_itself (Err fault.NoGroup) h = refl
gives_itself (Err fault.NoGeneration) h = refl
gives_itself (Err fault.TooHigh) h = refl
gives_itself (Err fault.Memory) h = absurd (h refl)

-- the base of a member is a group
pub group_of_member : (c : Contents) (name base : List ℕ) (number : ℕ) (g : GroupState) → Some (number, g) ≡ member_of c name → base ≡ base_of name → group_of c base ≡ Some g
group_of_member c name base number g m b = ap (group_of c) b ∙ member_parts (generation_of name) (group_of c (base_of name)) number g m

pub entered_member : (c : Contents) (name base serial : List ℕ) (number : ℕ) (g : GroupState) → false ≡ is_entered c name → Some (number, g) ≡ member_of c name → base ≡ base_of name →
    generation_entered c base number serial ≡ entered_name c name serial
entered_member c name base serial number g free m b =
    ap (λ (o : Option GroupState). generation_entered_by o number serial) (group_of_member c name base number g m b)
    ∙ ap (λ (o : Option Member). entered_name_by o serial) m
    ∙ sym (cond-false (is_entered c name) (Err fault.There) (entered_name_by (member_of c name) serial) (sym free))

pub with_member : (c : Contents) (name base serial : List ℕ) (number : ℕ) (g : GroupState) → Some (number, g) ≡ member_of c name → base ≡ base_of name →
    with_generation c base number serial ≡ with_name c name serial
with_member c name base serial number g m b =
    ap (λ (o : Option GroupState). with_generation_by o c base number serial) (group_of_member c name base number g m b)
    ∙ ap (λ (d : List ℕ). with_generation_by (Some g) c d number serial) b
    ∙ ap (λ (o : Option Member). with_name_by o c name serial) m

pub without_member : (c : Contents) (name base : List ℕ) (number : ℕ) (g : GroupState) → Some (number, g) ≡ member_of c name → base ≡ base_of name →
    without_number c base number ≡ without_name c name
without_member c name base number g m b =
    ap (λ (o : Option GroupState). without_number_by o c base number) (group_of_member c name base number g m b)
    ∙ ap (λ (d : List ℕ). without_number_by (Some g) c d number) b
    ∙ ap (λ (o : Option Member). without_name_by o c name) m
