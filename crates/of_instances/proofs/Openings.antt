-- The law `instances_open`: what an opening makes.
use Rattle.std.proofs.Common.{◌≡◌, ℕ, List, Result, Ok, Err, refl, subst}
use Rattle.of_cells.specs.declared.cells.Cell.{Cell}
use Rattle.of_stacks.specs.declared.throws.Throw.{Throw}
use Rattle.of_memory.specs.Access.{read_bytes}
use Rattle.of_memory.specs.DataSpace.{DataSpace, IsSound}
use Rattle.of_memory.specs.declared.fault.MemFault.{MemFault}
use Rattle.of_nodes.specs.declared.phandles.Phandle.{Phandle}
use Rattle.of_nodes.specs.declared.properties.Span.{Span}
use Rattle.of_ihandles.specs.Beginnings.{InstancesBegin}
use Rattle.of_ihandles.specs.Ihandles.{IhandlesAreNew, IsOpened}
use Rattle.of_ihandles.specs.Instances.{argument_span, opened}
use Rattle.of_ihandles.specs.OwnedBlocks.{OwnBlocks}
use Rattle.of_ihandles.specs.OwnSlots.{HasSlots}
use Rattle.of_ihandles.specs.Table.{InstanceTable}
use Rattle.of_ihandles.specs.declared.instance_fault.InstanceFault.{InstanceFault}
use Rattle.of_board.specs.declared.board.Board.{Board}
use Rattle.of_instances.specs.Calling.{opened_with}
use Rattle.of_instances.specs.Faults.{of_instance}
use Rattle.of_instances.specs.Openings.{InstancesOpen}
use Rattle.of_instances.specs.Reading.{text_at, text_read}
use Rattle.of_instances.specs.SpaceKept.{WordsKeepTheSpace}

abbrev Answer : Type 0 → Type 0
Answer E = Result (Cell × (InstanceTable × DataSpace)) E

-- ---- below the current instance

abbrev IsBelow : Board → Phandle → {E : Type 0} → Answer E → Type 0
IsBelow w ph (Ok x) = IsOpened w.instances x.1.0 ph w.active.my_self x.0
IsBelow w ph (Err e) = Unit {0}

below_of : (w : Board) (ph : Phandle) (r : Answer InstanceFault) → IsBelow w ph r → IsBelow w ph (of_instance r)
below_of w ph (Ok x) h = h
below_of w ph (Err e) h = tt

below_by : IhandlesAreNew → (w : Board) (ph : Phandle) (xs : List ℕ) (r : Answer InstanceFault)
    → opened w.instances w.memory ph w.active.my_self xs ≡ r → IsBelow w ph r
below_by l w ph xs (Ok x) e = l.by_open w.instances x.1.0 w.memory x.1.1 ph w.active.my_self x.0 xs e
below_by l w ph xs (Err e) h = tt

below_with : IhandlesAreNew → (w : Board) (ph : Phandle) (r : Result (List ℕ) Throw) → IsBelow w ph (opened_with w ph r)
below_with l w ph (Ok xs) =
    let r = opened w.instances w.memory ph w.active.my_self xs in below_of w ph r (below_by l w ph xs r refl)
below_with l w ph (Err t) = tt

-- ---- with the text

abbrev HasText : Board → {E : Type 0} → List ℕ → Answer E → Type 0
HasText w xs (Ok x) =
    (a : Span) → IsSound x.1.1 → argument_span x.1.0 x.0 ≡ Ok a → read_bytes x.1.1 a.address.0 a.length.0 ≡ Ok xs
HasText w xs (Err e) = Unit {0}

text_of : (w : Board) (xs : List ℕ) (r : Answer InstanceFault) → HasText w xs r → HasText w xs (of_instance r)
text_of w xs (Ok x) h = h
text_of w xs (Err e) h = tt

text_by : InstancesBegin → (w : Board) (ph : Phandle) (xs : List ℕ) (r : Answer InstanceFault)
    → OwnBlocks w.instances w.memory → HasSlots w.instances
    → opened w.instances w.memory ph w.active.my_self xs ≡ r → HasText w xs r
text_by l w ph xs (Ok x) owns slots e = λ a sound found.
    (l w.instances x.1.0 w.memory x.1.1 ph w.active.my_self x.0 xs sound owns slots e).text a found
text_by l w ph xs (Err e) owns slots h = tt

abbrev ReadsSame : Board → Result (List ℕ) MemFault → Answer Throw → Type 0
ReadsSame w read (Ok x) =
    (a : Span) → IsSound x.1.1 → argument_span x.1.0 x.0 ≡ Ok a → read_bytes x.1.1 a.address.0 a.length.0 ≡ read
ReadsSame w read (Err t) = Unit {0}

text_with : InstancesBegin → (w : Board) (ph : Phandle) (read : Result (List ℕ) MemFault)
    → OwnBlocks w.instances w.memory → HasSlots w.instances → ReadsSame w read (opened_with w ph (text_read read))
text_with l w ph (Ok xs) owns slots =
    let r = opened w.instances w.memory ph w.active.my_self xs in
    same w xs (of_instance r) (text_of w xs r (text_by l w ph xs r owns slots refl))
  where
    same : (w : Board) (xs : List ℕ) (r : Answer Throw) → HasText w xs r → ReadsSame w (Ok xs) r
    same w xs (Ok x) h = h
    same w xs (Err t) h = tt
text_with l w ph (Err fault) owns slots = tt

pub instances_open : IhandlesAreNew → InstancesBegin → WordsKeepTheSpace → InstancesOpen
instances_open new begin keep = record {
  below = λ w ph a n ih x e. subst (λ r. IsBelow w ph r) e (below_with new w ph (text_at w.memory a n));
  text = λ w ph a n ih x b sound owns slots e found.
      subst (λ r. ReadsSame w (read_bytes w.memory a.0 n.0) r) e
      (text_with begin w ph (read_bytes w.memory a.0 n.0) owns slots) b (keep.opened w ph a n ih x sound e).sound found;
}
