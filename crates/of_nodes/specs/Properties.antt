-- Properties in the order of insertion, each with the place of its value (IEEE 1275-1994, 3.2.2.1).
use Rattle.std.specs.Prelude.{ℕ, zero, suc, ◌==◌, Bool, List, [], ◌∷◌, length, Option, Some, None, Result, Ok, Err}
use Rattle.std.specs.Prelude.{if◌then◌else◌, nat_eq}
use Rattle.std.specs.Cmp.Lexicographic.{pointwise}
use Rattle.std.specs.Global.{Vec}
use Rattle.of_memory.specs.Access.{read_bytes}
use Rattle.of_memory.specs.DataSpace.{DataSpace}
use Rattle.of_memory.specs.Growth.{named_put, property_put}
use Rattle.of_memory.specs.declared.fault.MemFault.{MemFault}
use Rattle.of_nodes.specs.declared.properties.Property.{Property}
use Rattle.of_nodes.specs.declared.properties.Span.{Span}
use Rattle.of_nodes.specs.declared.fault.NodeFault.{NodeFault}
use Rattle.of_nodes.specs.declared.fault.NodeFault.TheVariants.{PropertyFull}

-- two names are one, byte by byte
abbrev pub same_name : List ℕ → List ℕ → Bool
same_name a b = pointwise nat_eq a b

-- an entry under its name as bytes
abbrev pub named : {V : Type 0} → Vec ℕ × V → List ℕ × V
named e = (e.0.items, e.1)

-- a property that is there takes the value and keeps its place, and a new one goes last
abbrev pub with_entry : {V : Type 0} → List (List ℕ × V) → List ℕ → V → List (List ℕ × V)
with_entry [] name v = (name, v) ∷ []
with_entry (e ∷ es) name v = if same_name name e.0 then (e.0, v) ∷ es else e ∷ with_entry es name v

-- the entries with another value under a name, if it is there
abbrev pub replaced : {V : Type 0} → List (List ℕ × V) → List ℕ → V → List (List ℕ × V)
replaced [] name v = []
replaced (e ∷ es) name v = if same_name name e.0 then (e.0, v) ∷ es else e ∷ replaced es name v

-- the value under a name
abbrev pub value_in : {V : Type 0} → List (List ℕ × V) → List ℕ → Option V
value_in [] name = None
value_in (e ∷ es) name = if same_name name e.0 then Some e.1 else value_in es name

-- the bytes that were read, or none
abbrev pub bytes_read : Result (List ℕ) MemFault → List ℕ
bytes_read (Ok bytes) = bytes
bytes_read (Err fault) = []

-- the bytes that lie at a span; none where they can't be read
abbrev pub bytes_at : DataSpace → Span → List ℕ
bytes_at m s = bytes_read (read_bytes m s.address.0 s.length.0)

-- n bytes from an address on
abbrev pub span : ℕ → ℕ → Span
span a n = record { address = record { 0 = a }; length = record { 0 = n } }

-- the places of a new property's name of k bytes and of its value of n, and what putting them left
abbrev pub new_property : ℕ → ℕ → Result (ℕ × ℕ × DataSpace) MemFault → Result (Property × DataSpace) NodeFault
new_property k n (Ok x) = Ok (record { name = span x.0 k; value = span x.1 n }, x.2)
new_property k n (Err fault) = Err PropertyFull

-- a property with another value of n bytes, and what putting that left
abbrev pub with_value : Property → ℕ → Result (ℕ × DataSpace) MemFault → Result (Property × DataSpace) NodeFault
with_value p n (Ok x) = Ok (record p { value = span x.0 n }, x.1)
with_value p n (Err fault) = Err PropertyFull

-- what putting a value, and before it the name of a property that isn't there, gives and leaves
abbrev pub stored : DataSpace → Option Property → List ℕ → List ℕ → Result (Property × DataSpace) NodeFault
stored m None name value = new_property (length name) (length value) (named_put m name value)
stored m (Some p) name value = with_value p (length value) (property_put m value)

-- the properties with one that was put, and what that left
abbrev pub set_to :
    List (List ℕ × Property) → List ℕ → Result (Property × DataSpace) NodeFault
    → Result (List (List ℕ × Property) × DataSpace) NodeFault
set_to ps name (Ok x) = Ok (with_entry ps name x.0, x.1)
set_to ps name (Err fault) = Err fault

-- what setting a property leaves
abbrev pub property_set :
    DataSpace → List (List ℕ × Property) → List ℕ → List ℕ → Result (List (List ℕ × Property) × DataSpace) NodeFault
property_set m ps name value = set_to ps name (stored m (value_in ps name) name value)

-- the entries without the one of the name
abbrev pub without : {V : Type 0} → List (List ℕ × V) → List ℕ → List (List ℕ × V)
without [] name = []
without (e ∷ es) name = if same_name name e.0 then es else e ∷ without es name

-- the value of the i-th entry, if there are so many
abbrev pub value_at : {V : Type 0} → List (List ℕ × V) → ℕ → Option V
value_at [] i = None
value_at (e ∷ es) zero = Some e.1
value_at (e ∷ es) (suc i) = value_at es i

-- the value of the entry behind the one of the name
abbrev pub value_behind : {V : Type 0} → List (List ℕ × V) → List ℕ → Option V
value_behind [] name = None
value_behind (e ∷ es) name = if same_name name e.0 then value_at es 0 else value_behind es name

-- the value of the first entry where the name is empty, else of the entry behind the one of the name
abbrev pub value_next : {V : Type 0} → List (List ℕ × V) → List ℕ → Option V
value_next es name = if length name == 0 then value_at es 0 else value_behind es name
