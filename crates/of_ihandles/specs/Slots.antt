-- Slots: what each instance of a package has of its own, and how it begins (IEEE 1275-1994, annex A, `instance`).
use Rattle.std.specs.Prelude.{ℕ, ◌==◌, Bool, List, [], ◌∷◌, ◌++◌, length, filter}
use Rattle.byteorder.specs.Endian.{big_bytes}
use Rattle.of_cells.specs.declared.cells.Cell.{Cell}
use Rattle.of_nodes.specs.declared.phandles.Phandle.{Phandle}
use Rattle.of_ihandles.specs.declared.slots.Slot.{Slot}
use Rattle.of_ihandles.specs.declared.slots.Template.{Template}
use Rattle.of_ihandles.specs.declared.slots.Template.TheVariants.{Value, Zeros}

-- how many bytes it has
abbrev pub size_of : Template → Cell
size_of (Value x) = record { 0 = 4 }
size_of (Zeros n) = n

-- the bytes that it begins with, if not with zeros
abbrev pub template_bytes : Template → List ℕ
template_bytes (Value x) = big_bytes 4 x.0
template_bytes (Zeros n) = []

-- they are the phandles of one package
abbrev pub is_same : Phandle → Phandle → Bool
is_same a b = a.0.0 == b.0.0

-- the slots of a package, in the order of making
abbrev pub slots_of : Phandle → List Slot → List Slot
slots_of ph slots = filter (λ s. is_same s.«package» ph) slots

-- the slots with one more, of a package
abbrev pub with_slot : List Slot → Phandle → Template → List Slot
with_slot slots ph t =
    slots ++ record { «package» = ph; place = length (slots_of ph slots); template = t } ∷ []
