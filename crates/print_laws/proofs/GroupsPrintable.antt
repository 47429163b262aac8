-- Printable serials in groups of generations and in what a catalog tells.
use Rattle.std.proofs.Common.{◌==◌, ℕ, zero, suc, Bool, true, false, cond, nat_lt, List, [], ◌∷◌, Option, Some, None, All, Result, Ok, Err}
use Rattle.std.specs.Prelude.{IfSome}
use Rattle.std.proofs.lemmas.List.Elements.{All-cons, All-head, All-nil, All-tail}
use Rattle.group_core.specs.declared.entry.CatEntry.{CatEntry}
use Rattle.group_core.specs.declared.entry.CatEntry.TheVariants.{Group, Volume}
use Rattle.group_core.specs.declared.group.Generation.{Generation}
use Rattle.group_core.specs.declared.group.GroupFault.{GroupFault}
use Rattle.group_core.specs.declared.group.Rolled.{Rolled}
use Rattle.group_core.specs.declared.group.Rolled.TheVariants.{Entered, Lowest, Removed, Same}
use Rattle.group_core.specs.Entries.{Member, found_by, group_in, member_by, volume_in}
use Rattle.group_core.specs.Groups.{GroupState, entered, inserted, left_by, serial_of, with_entered, without}
use Rattle.line_laws.specs.Printable.{IsPrintable, IsPrintableName}
use Rattle.print_laws.specs.Printable.{IsPrintableCatEntry}

-- what holds of both holds of either
pub either : {X : Type 0} (P : X → Type 0) (b : Bool) (x y : X) → P x → P y → P (cond b x y)
either P true x y p q = p
either P false x y p q = q

abbrev pub IsPrintableGeneration : Generation → Type 0
IsPrintableGeneration g = IsPrintable g.serial

abbrev pub ArePrintable : List Generation → Type 0
ArePrintable gs = All IsPrintableGeneration gs

abbrev pub IsPrintableGroup : GroupState → Type 0
IsPrintableGroup g = ArePrintable g.generations

abbrev pub IsPrintableMember : Member → Type 0
IsPrintableMember m = IsPrintableGroup m.1

-- generations
of_number_printable : (gs : List Generation) (number : ℕ) → ArePrintable gs → IsPrintableName (serial_of gs number)
of_number_printable [] number h = tt
of_number_printable (g ∷ gs) number h =
    either IsPrintableName (g.number == number) (Some g.serial) (serial_of gs number) (All-head IsPrintableGeneration g gs h)
    (of_number_printable gs number (All-tail IsPrintableGeneration g gs h))

pub without_printable : (gs : List Generation) (number : ℕ) → ArePrintable gs → ArePrintable (without gs number)
without_printable [] number h = All-nil IsPrintableGeneration
without_printable (g ∷ gs) number h =
    either ArePrintable (g.number == number) gs (g ∷ without gs number) (All-tail IsPrintableGeneration g gs h)
    (All-cons IsPrintableGeneration g (without gs number) (All-head IsPrintableGeneration g gs h)
    (without_printable gs number (All-tail IsPrintableGeneration g gs h)))

inserted_printable : (g : Generation) (gs : List Generation) → IsPrintableGeneration g → ArePrintable gs → ArePrintable (inserted g gs)
inserted_printable g [] p h = All-cons IsPrintableGeneration g [] p (All-nil IsPrintableGeneration)
inserted_printable g (k ∷ ks) p h =
    either ArePrintable (nat_lt k.number g.number) (g ∷ k ∷ ks) (k ∷ inserted g ks) (All-cons IsPrintableGeneration g (k ∷ ks) p h)
    (All-cons IsPrintableGeneration k (inserted g ks) (All-head IsPrintableGeneration k ks h)
    (inserted_printable g ks p (All-tail IsPrintableGeneration k ks h)))

-- what entering a generation leaves
left_printable : (answer : Result Rolled GroupFault) (g : GroupState) (new : Generation) → IsPrintableGroup g → IsPrintableGeneration new →
    IsPrintableGroup (left_by answer g new)
left_printable (Ok Entered) g new h p = inserted_printable new g.generations p h
left_printable (Ok (Removed low serial)) g new h p = inserted_printable new (without g.generations low) p (without_printable g.generations low h)
left_printable (Ok Lowest) g new h p = h
left_printable (Ok Same) g new h p = h
left_printable (Err f) g new h p = h

pub with_entered_printable : (g : GroupState) (number : ℕ) (serial : List ℕ) → IsPrintableGroup g → IsPrintable serial →
    IsPrintableGroup (with_entered g number serial)
with_entered_printable g number serial h p = left_printable (entered g number serial) g (record { number = number; serial = serial }) h p

-- entries
pub group_printable : (entry : Option CatEntry) → IfSome entry IsPrintableCatEntry → IfSome (group_in entry) IsPrintableGroup
group_printable None h = tt
group_printable (Some (Volume serial)) h = tt
group_printable (Some (Group g)) h = h

volume_printable : (entry : Option CatEntry) → IfSome entry IsPrintableCatEntry → IsPrintableName (volume_in entry)
volume_printable None h = tt
volume_printable (Some (Volume serial)) h = h
volume_printable (Some (Group g)) h = tt

pub member_printable : (number : Option ℕ) (g : Option GroupState) → IfSome g IsPrintableGroup → IfSome (member_by number g) IsPrintableMember
member_printable (Some (suc n)) (Some g) h = h
member_printable (Some (suc n)) None h = tt
member_printable (Some zero) g h = tt
member_printable None g h = tt

pub found_printable : (m : Option Member) (entry : Option CatEntry) → IfSome m IsPrintableMember → IfSome entry IsPrintableCatEntry →
    IsPrintableName (found_by m entry)
found_printable (Some m) entry h k = of_number_printable m.1.generations m.0 h
found_printable None entry h k = volume_printable entry k
