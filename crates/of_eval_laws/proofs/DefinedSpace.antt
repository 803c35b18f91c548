-- What words that define, and stores into slots, leave of the data space: a sound one, with the same images and
-- properties.
use Rattle.std.proofs.Common.{◌≡◌, ℕ, ◌+◌, true, false, List, Option, Some, None, Result, Ok, Err, refl}
use Rattle.std.proofs.Common.{subst, arith, nat_le, nat_lt}
use Rattle.std.proofs.lemmas.Bool.Decides.{nat_tests}
use Rattle.of_cells.specs.declared.cells.Cell.{Cell}
use Rattle.of_stacks.specs.declared.throws.Throw.{Throw}
use Rattle.of_memory.specs.declared.fault.MemFault.{MemFault}
use Rattle.of_memory.specs.declared.width.Width.TheVariants.{Four}
use Rattle.of_memory.specs.Access.{write}
use Rattle.of_memory.specs.DataSpace.{DataSpace, IsSound}
use Rattle.of_memory.specs.Growth.{aligned, with_zeros, zeros_allotted}
use Rattle.of_memory.specs.Regions.{data_limit}
use Rattle.of_nodes.specs.declared.phandles.Phandle.{Phandle}
use Rattle.of_nodes.specs.declared.properties.Span.{Span}
use Rattle.of_prims.specs.Data.{thrown}
use Rattle.of_dict.specs.declared.word.Slot.{Slot}
use Rattle.of_ihandles.specs.declared.instance_fault.InstanceFault.{InstanceFault}
use Rattle.of_ihandles.specs.SpaceKept.{Keeps}
use Rattle.of_ihandles.specs.Table.{InstanceTable}
use Rattle.of_board.specs.declared.board.Board.{Board}
use Rattle.of_compile.specs.declared.words.Pending.{Pending}
use Rattle.of_compile.specs.SlotWords.{SlotMade, SlotMaking, rounded, rounded_to, slot_given, slot_word_made}
use Rattle.of_compile.specs.SlotWords.{slot_word_named}
use Rattle.of_own.specs.Slots.{slot_span}
use Rattle.of_own.specs.Stores.{slot_written, span_written}
use Rattle.of_eval_laws.proofs.FramedSpace.{Laws, Left, by_write, by_zeros, same, then_kept}

-- ---- the data region

fitting : (a b : ℕ) → nat_lt a b ≡ false → nat_le b a ≡ true
fitting a b e = grind (arith, nat_tests)

pub zeros_kept : (l : Laws) (m : DataSpace) (n : ℕ) → IsSound m → nat_lt data_limit (aligned m.here + n) ≡ false
    → Keeps m (with_zeros m n)
zeros_kept l m n sound e =
    let fits = fitting data_limit (aligned m.here + n) e in
    by_zeros l m n (Ok (aligned m.here, with_zeros m n)) sound (rw fits refl)

rounds : (l : Laws) (m : DataSpace) (r : Result (ℕ × DataSpace) MemFault) → IsSound m → zeros_allotted m 0 ≡ r
    → Keeps m (rounded_to m r)
rounds l m (Ok x) sound e = by_zeros l m 0 (Ok x) sound e
rounds l m (Err fault) sound e = same m sound

pub rounded_kept : (l : Laws) (m : DataSpace) → IsSound m → Keeps m (rounded m)
rounded_kept l m sound = rounds l m (zeros_allotted m 0) sound refl

-- ---- words that work on a slot

slot_space : (l : Laws) (home : Option Phandle) (x : Option SlotMade) (g : SlotMaking)
    (r : ℕ × (InstanceTable × DataSpace)) → IsSound g.memory → slot_given home x g ≡ Ok r → Keeps g.memory r.1.1
slot_space l None x g r sound e = absurd cc
slot_space l (Some ph) None g r sound e = absurd cc
slot_space l (Some ph) (Some x) g r sound e =
    l.instances.by_slot g.instances r.1.0 g.memory r.1.1 ph x.template r.0 sound e

pub slot_word_kept : (l : Laws) (k : Slot) (q : Option Pending) (home : Option Phandle) (x : Option SlotMade)
    (r : Result (ℕ × (InstanceTable × DataSpace)) InstanceFault) (g : SlotMaking) → IsSound g.memory
    → slot_given home x g ≡ r → Keeps g.memory (slot_word_made k q x r g).memory
slot_word_kept l k None home x r g sound e = same g.memory sound
slot_word_kept l k (Some q) home None r g sound e = same g.memory sound
slot_word_kept l k (Some q) home (Some x) (Err fault) g sound e = same g.memory sound
slot_word_kept l k (Some q) home (Some x) (Ok r) g sound e =
    let given = slot_space l home (Some x) g r sound e in
    then_kept g.memory r.1.1 (rounded r.1.1) given (rounded_kept l r.1.1 given.sound)

-- a word that a text names
pub slot_named_kept : (l : Laws) (k : Slot) (name : List ℕ) (home : Option Phandle) (x : Option SlotMade)
    (r : Result (ℕ × (InstanceTable × DataSpace)) InstanceFault) (g : SlotMaking) → IsSound g.memory
    → slot_given home x g ≡ r → Keeps g.memory (slot_word_named k name x r g).memory
slot_named_kept l k name home None r g sound e = same g.memory sound
slot_named_kept l k name home (Some x) (Err fault) g sound e = same g.memory sound
slot_named_kept l k name home (Some x) (Ok r) g sound e =
    let given = slot_space l home (Some x) g r sound e in
    then_kept g.memory r.1.1 (rounded r.1.1) given (rounded_kept l r.1.1 given.sound)

-- ---- stores

thrown_kept : (m : DataSpace) (r : Result DataSpace MemFault) (after : DataSpace) → Left m r → thrown r ≡ Ok after
    → Keeps m after
thrown_kept m (Ok x) after h e = (let is : x ≡ after = cc in subst (λ y. Keeps m y) is h)
thrown_kept m (Err fault) after h e = absurd cc

span_kept : (l : Laws) (m after : DataSpace) (x : Cell) (r : Result Span Throw) → IsSound m
    → span_written m x r ≡ Ok after → Keeps m after
span_kept l m after x (Ok s) sound e =
    let r = write Four m s.address.0 x.0 in
    thrown_kept m r after (by_write l Four m s.address.0 x.0 r sound refl) e
span_kept l m after x (Err t) sound e = absurd cc

pub slot_kept : (l : Laws) (b : Board) (n : ℕ) (x : Cell) (after : DataSpace) → IsSound b.memory
    → slot_written b n x ≡ Ok after → Keeps b.memory after
slot_kept l b n x after sound e = span_kept l b.memory after x (slot_span b n) sound e
