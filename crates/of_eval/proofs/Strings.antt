-- Strings that are compiled.
use Rattle.std.proofs.Common.{◌≡◌, ◌<◌, ◌≤◌, ◌+◌, ℕ, Bool, true, false, [], Result, Ok, Err, refl, ap, sym, ◌∙◌}
use Rattle.std.proofs.Common.{arith, length, if◌then◌else◌}
use Rattle.std.proofs.lemmas.Bool.Decides.{leb_tells}
use Rattle.std.specs.Prelude.{nat_le}
use Rattle.of_stacks.specs.declared.throws.Throw.{Throw}
use Rattle.of_stacks.specs.Throws.{dictionary_overflow}
use Rattle.of_memory.specs.DataSpace.{DataSpace}
use Rattle.of_cells.specs.declared.cells.Cell.{Cell}
use Rattle.of_memory.specs.Growth.{append_copied, zeros_allotted}
use Rattle.of_cells.specs.Outcomes.{Answers}
use Rattle.of_memory.specs.Outcomes.{address_of}
use Rattle.of_memory.specs.declared.fault.MemFault.{MemFault}
use Rattle.of_prims.specs.Data.{throw_of}
use Rattle.of_compile.specs.Coding.{Coding, Outcome as CodingOutcome, compiled, compiling}
use Rattle.of_state.specs.State.{State, answer_of, done, failed, flat_calls}
use Rattle.of_eval.specs.Acts.{Copies}
use Rattle.of_compile.specs.SlotWords.{rounded, rounded_to}
use Rattle.of_eval.specs.Defining.{string_element, string_kept}
use Rattle.of_eval.specs.Doing.{acted}

abbrev coded : Bool → Coding → Coding → CodingOutcome
coded room d c =
    if room then record { coding = d; ended = Ok tt } else record { coding = c; ended = Err dictionary_overflow }

-- what compiling a string leaves, where there is room or isn't
string_coded : (a n : ℕ) (c : Coding)
    → compiling (string_element a n) c
    ≡ coded (nat_le (length c.code.cells + 3) 65536) (compiled (string_element a n) c) c
unfolding compiling
string_coded a n c = refl

no_room : (n : ℕ) → 65536 < n + 3 → nat_le (n + 3) 65536 ≡ false
no_room n h = grind (arith, leb_tells (n + 3) 65536)

has_room : (n : ℕ) → n + 3 ≤ 65536 → nat_le (n + 3) 65536 ≡ true
has_room n h = grind (arith, leb_tells (n + 3) 65536)

refused : (r : Result (ℕ × DataSpace) MemFault) (d : Coding) (s : State Coding)
    → string_kept (answer_of (coded false d s.code)) r s ≡ failed dictionary_overflow s
refused (Ok x) d s = refl
refused (Err fault) d s = refl

pub string_full : (s : State Coding) (a n : ℕ) → 65536 < length s.code.code.cells + 3
    → acted flat_calls (Copies a n) s ≡ failed dictionary_overflow s
unfolding acted
string_full s a n h =
    rw (string_coded s.board.memory.here n s.code, no_room (length s.code.code.cells) h)
    (refused (append_copied s.board.memory a n []) (compiled (string_element s.board.memory.here n) s.code) s)

pub string_faulty : (s : State Coding) (a n : ℕ) (fault : MemFault) → length s.code.code.cells + 3 ≤ 65536
    → append_copied s.board.memory a n [] ≡ Err fault → acted flat_calls (Copies a n) s ≡ failed (throw_of fault) s
unfolding acted
string_faulty s a n fault h e =
    rw (string_coded s.board.memory.here n s.code, has_room (length s.code.code.cells) h, e) refl

pub string_done : (s : State Coding) (a n : ℕ) (x : ℕ × DataSpace) (d : Coding) (r : Result (Unit {0}) Throw)
    → length s.code.code.cells + 3 ≤ 65536 → append_copied s.board.memory a n [] ≡ Ok x
    → compiling (string_element s.board.memory.here n) s.code ≡ record { coding = d; ended = r }
    → acted flat_calls (Copies a n) s
    ≡ done (record s { code = d; board = record s.board { memory = rounded x.1 } })
unfolding acted
string_done s a n x d r h e cd =
    let room = has_room (length s.code.code.cells) h in
    let c = compiled (string_element s.board.memory.here n) s.code in
    let left : coded true c s.code ≡ record { coding = d; ended = r }
    = ap (λ b. coded b c s.code) (sym room) ∙ sym (string_coded s.board.memory.here n s.code) ∙ cd in
    let same : c ≡ d = ap (λ (o : CodingOutcome). o.coding) left in
    rw (string_coded s.board.memory.here n s.code, room, e, same) refl

rounded_is : (m n : DataSpace) (r : Result Cell MemFault) → Answers (zeros_allotted m 0) m n (address_of r)
    → n ≡ rounded m
rounded_is m n (Ok a) h = sym (ap (rounded_to m) h)
rounded_is m n (Err fault) h = h.1 ∙ sym (ap (rounded_to m) h.0)

pub string_ends :
    (s new : State Coding) (a n : ℕ) (x : ℕ × DataSpace) (c d : Coding) (m : DataSpace) (r : Result (Unit {0}) Throw)
    (z : Result Cell MemFault)
    → length s.code.code.cells + 3 ≤ 65536 → append_copied s.board.memory a n [] ≡ Ok x → c ≡ s.code
    → compiling (string_element s.board.memory.here n) c ≡ record { coding = d; ended = r }
    → Answers (zeros_allotted x.1 0) x.1 m (address_of z)
    → new ≡ record s { code = d; board = record s.board { memory = m } }
    → acted flat_calls (Copies a n) s ≡ done new
unfolding acted
string_ends s new a n x c d m r z h e same cd zeros en =
    let cd2 = ap (compiling (string_element s.board.memory.here n)) (sym same) ∙ cd in
    string_done s a n x d r h e cd2
    ∙ ap (λ k. done (record s { code = d; board = record s.board { memory = k } })) (sym (rounded_is x.1 m z zeros))
    ∙ ap done (sym en)
