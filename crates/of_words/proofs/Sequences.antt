-- The law `console_words_are_sequences`, word by word.
use Rattle.std.proofs.Common.{◌≡◌, ◌≢◌, ℕ, suc, ◌+◌, ◌-◌, ◌^◌, ◌<◌, ◌≤◌, ℤ, pos, negsuc, ◌+ℤ◌}
use Rattle.std.proofs.Common.{◌*ℤ◌, Bool, true, false, ◌&&◌, List, [], ◌∷◌, ◌++◌, length, eqb, nat_lt, Option, Some}
use Rattle.std.proofs.Common.{None, Result, Ok, Err, ◌⊎◌, inl, inr, append_assoc, if◌then◌else◌, refl, sym, ap}
use Rattle.std.proofs.Common.{subst, ◌∙◌, arith}
use Rattle.std.proofs.lemmas.Bool.{leb-true, lt-ltb, ltb-true}
use Rattle.std.proofs.lemmas.Bool.Decides.{nat_tests}
use Rattle.std.proofs.lemmas.Int.{ints}
use Rattle.std.specs.Int.{bytes_high_first}
use Rattle.std.specs.Prelude.{cond, int_lt, nat_le, replicate}
use Rattle.of_cells.specs.declared.cells.Cell.{Cell}
use Rattle.of_cells.specs.Comparing.{is_less}
use Rattle.of_cells.specs.Division.{DividesBack, floored, rest, scaled_quotient, scaled_remainder}
use Rattle.of_cells.specs.Doubles.{extended}
use Rattle.of_cells.specs.Numbers.{cell_of, flag, signed}
use Rattle.of_stacks.specs.declared.throws.Throw.{Throw}
use Rattle.of_stacks.specs.Order.{refused_if}
use Rattle.of_stacks.specs.Stacks.{within}
use Rattle.of_stacks.specs.Throws.{division_by_zero, no_node}
use Rattle.of_stacks.specs.Throws.{stack_overflow, stack_underflow}
use Rattle.of_fcodes.specs.declared.console_words.ConsoleWord.{ConsoleWord}
use Rattle.of_fcodes.specs.declared.console_words.ConsoleWord.TheVariants as console
use Rattle.of_fcodes.specs.declared.words.AddressesWord.TheVariants.{Aligned}
use Rattle.of_fcodes.specs.declared.words.ArithmeticWord.TheVariants.{Invert, LeftShift, Minus, Plus, RightShift}
use Rattle.of_fcodes.specs.declared.words.ComparingWord.TheVariants.{IsNegative}
use Rattle.of_fcodes.specs.declared.words.MemoryWord.TheVariants.{Fetch, Fill, Store}
use Rattle.of_fcodes.specs.declared.words.PrimitiveWord.TheVariants as primitive
use Rattle.of_fcodes.specs.declared.words.StacksWord.TheVariants.{Dup, Nip}
use Rattle.of_fcodes.specs.declared.words.Word.TheVariants.{Console, Primitive}
use Rattle.of_calc.specs.Arithmetic.{arithmetic_entry, calculation}
use Rattle.of_calc.specs.Arranging.{arranging_entry}
use Rattle.of_calc.specs.Comparing.{comparison, nought}
use Rattle.of_memory.specs.Access.{filled, number_at, read_fault, unless, write_fault}
use Rattle.of_memory.specs.DataSpace.{DataSpace, IsSound, bytes_from}
use Rattle.of_memory.specs.Growth.{aligned, allotted, moved, with_here}
use Rattle.of_memory.specs.RangeLaws.{ScratchIsOpen, WritesJoin}
use Rattle.of_memory.specs.Regions.{data_limit, data_start, scratch_start}
use Rattle.of_memory.specs.declared.fault.MemFault.{MemFault}
use Rattle.of_memory.specs.declared.fault.MemFault.TheVariants.{Full}
use Rattle.of_memory.specs.declared.width.Width.TheVariants.{Four, One}
use Rattle.of_nodes.specs.declared.fault.NodeFault.{NodeFault}
use Rattle.of_nodes.specs.declared.phandles.Phandle.{Phandle}
use Rattle.of_nodes.specs.declared.tree.Node.{Node}
use Rattle.of_nodes.specs.Nodes.{number_of, numbered as for_number}
use Rattle.of_nodes.specs.Paths.{path_in}
use Rattle.of_console.specs.Children.{ls_text}
use Rattle.of_console.specs.Texts.{properties_text, pwd_text}
use Rattle.of_format.specs.Pictured.{base_in}
use Rattle.of_prims.specs.Addresses.{addresses_entry, addressing_of, rounded_up}
use Rattle.of_prims.specs.Data.{cell_at, number, stored}
use Rattle.of_prims.specs.Memory.{fetched, memory_entry}
use Rattle.of_prims.specs.Numbers.{beside, numbers_entry}
use Rattle.of_prims.specs.Prims.{in_space, on_stack}
use Rattle.of_board.specs.Text.{Printed, printed}
use Rattle.of_board.specs.declared.board.Board.{Board}
use Rattle.of_words.specs.ConsoleWords.{allot_entry, blanks, console_entry, debug_cell, decreased, doubled, erase_entry}
use Rattle.of_words.specs.ConsoleWords.{here_at, increased, on_board, scaled, scaled_parts, space_changed, spaces_entry}
use Rattle.of_words.specs.ConsoleWords.{package_shown, text_shown, with_base}
use Rattle.of_words.specs.Sequences.{ConsoleWordsAreSequences, Divides, LiesBehind, Prints, Run, ShowsPackage}
use Rattle.of_words.specs.Sequences.{TakesCells}
use Rattle.of_words.specs.Sequences.{behind, moved_to, on_top, primitive_left}
use Rattle.of_words.specs.Words.{data_in, grows, with_data}
use Rattle.of_words.proofs.Aligning.{placed}

-- ---- boards that a word leaves

abbrev stack_done : Board → List Cell → Result Board Throw
stack_done m s = Ok (record m { stack = s })

abbrev text_done : Board → Printed → Result Board Throw
text_done m c = Ok (record m { console = c })

abbrev here_done : Board → ℕ → Result Board Throw
here_done m a = Ok (moved_to a m)

-- ---- on the data stack

-- a board with another stack, as both tables say it
alone : (m : Board) (r : Result (List Cell) Throw) → on_board m r ≡ with_data m (on_stack (data_in m) r)
alone m (Ok s) = refl
alone m (Err t) = refl

numbered : (m : Board) (r : Result (List Cell) Throw) → on_board m r ≡ with_data m (beside m.memory m.pictured r)
numbered m (Ok s) = refl
numbered m (Err t) = refl

increases : (n : Cell) (m : Board) (s : List Cell) → on_board m (increased n s)
    ≡ with_data (on_top n m) (on_stack (data_in (on_top n m)) (arithmetic_entry Plus (n ∷ s)))
unfolding calculation
increases n m [] = refl
increases n m (x ∷ s) = refl

decreases : (n : Cell) (m : Board) (s : List Cell) → on_board m (decreased n s)
    ≡ with_data (on_top n m) (on_stack (data_in (on_top n m)) (arithmetic_entry Minus (n ∷ s)))
unfolding calculation
decreases n m [] = refl
decreases n m (x ∷ s) = refl

-- the sign of a cell, as a cell
not_below_zero : (n : ℕ) → nat_lt n 0 ≡ false
not_below_zero n = grind (arith, nat_tests)

sign_if : (b : Bool) (x : ℕ) → cond b (number 0) (number (2 ^ 32 - 1))
    ≡ flag (int_lt (cond b (pos x) (negsuc (2 ^ 32 - suc x))) (pos 0))
sign_if true x = ap flag (sym (not_below_zero x))
sign_if false x = refl

sign_is : (x : Cell) → (extended x).high ≡ flag (is_less x nought)
sign_is x = sign_if (nat_lt x.0 (2 ^ 31)) x.0

extends_if : (b : Bool) (m : Board) (x : Cell) (s : List Cell)
    → on_board m (refused_if b stack_overflow ((extended x).high ∷ x ∷ s))
    ≡ behind (with_data m (on_stack (data_in m) (refused_if b stack_overflow (x ∷ x ∷ s))))
    (Run (Primitive (primitive.Comparing IsNegative)) ∷ [])
unfolding comparison
extends_if true m x s = refl
extends_if false m x s = ap (λ (y : Cell). stack_done m (y ∷ x ∷ s)) (sign_is x)

extends : (m : Board) (s : List Cell) → on_board m (doubled s)
    ≡ behind (with_data m (on_stack (data_in m) (arranging_entry Dup s)))
    (Run (Primitive (primitive.Comparing IsNegative)) ∷ [])
unfolding arranging_entry
extends m [] = refl
extends m (x ∷ s) = extends_if (nat_lt 256 (length (x ∷ x ∷ s))) m x s

-- ---- products that are divided

not_zero : (n : ℕ) → n ≢ 0 → eqb n 0 ≡ false
not_zero n h = grind (arith, nat_tests)

signed_if : (b : Bool) (n : ℕ) → n ≢ 0 → nat_lt n (2 ^ 31) ≡ b → cond b (pos n) (negsuc (2 ^ 32 - suc n)) ≢ pos 0
signed_if true n h e = λ f. h (omega (arith, ints))
signed_if false n h e = λ f. cc

parts_divide : DividesBack → (m : Board) (x y d : Cell) → d.0 ≢ 0
    → (q : ℤ) × (r : ℤ) × Divides (signed x *ℤ signed y) (signed d) q r
    × (on_board (on_top d (on_top y (on_top x m))) (scaled_parts (d ∷ y ∷ x ∷ m.stack))
    ≡ Ok (on_top (cell_of q) (on_top (cell_of r) m)))
parts_divide law m x y d some =
    let n = signed x *ℤ signed y in
    let back = law n (signed d) (signed_if (nat_lt d.0 (2 ^ 31)) d.0 some refl) in
    let after = scaled_quotient x y d ∷ scaled_remainder x y d ∷ m.stack in (
      floored n (signed d),
      rest n (signed d),
      record { whole = back.0; sign = back.1 },
      ap (λ (b : Bool). on_board (on_top d (on_top y (on_top x m))) (refused_if b division_by_zero after))
          (not_zero d.0 some),
    )

zero_divides : (m : Board) (x y d : Cell) → d.0 ≡ 0
    → on_board (on_top d (on_top y (on_top x m))) (scaled_parts (d ∷ y ∷ x ∷ m.stack)) ≡ Err division_by_zero
zero_divides m x y d z =
    let after = scaled_quotient x y d ∷ scaled_remainder x y d ∷ m.stack in
    ap (λ (n : ℕ). on_board (on_top d (on_top y (on_top x m))) (refused_if (eqb n 0) division_by_zero after)) z

few_parts : (m : Board) (s : List Cell) → length s < 3 → on_board m (scaled_parts s) ≡ Err stack_underflow
few_parts m [] l = refl
few_parts m (d ∷ []) l = refl
few_parts m (d ∷ y ∷ []) l = refl
few_parts m (d ∷ y ∷ x ∷ s) l = absurd (omega arith)

scales_if : (b : Bool) (m : Board) (q r : Cell) (s : List Cell)
    → on_board m (refused_if b division_by_zero (q ∷ s))
    ≡ behind (on_board m (refused_if b division_by_zero (q ∷ r ∷ s))) (Run (Primitive (primitive.Stacks Nip)) ∷ [])
unfolding arranging_entry
scales_if true m q r s = refl
scales_if false m q r s = refl

scales : (m : Board) (s : List Cell) → on_board m (scaled s)
    ≡ behind (on_board m (scaled_parts s)) (Run (Primitive (primitive.Stacks Nip)) ∷ [])
scales m [] = refl
scales m (d ∷ []) = refl
scales m (d ∷ y ∷ []) = refl
scales m (d ∷ y ∷ x ∷ s) = scales_if (eqb d.0 0) m (scaled_quotient x y d) (scaled_remainder x y d) s

-- ---- blanks

high_bit : (n : ℕ) → 2 ^ 31 ≤ n → nat_lt n (2 ^ 31) ≡ false
high_bit n l = grind (arith, nat_tests)

none_if : (b : Bool) (n : ℕ) → nat_lt n (2 ^ 31) ≡ b → (n ≡ 0) ⊎ (2 ^ 31 ≤ n)
    → blanks (cond b (pos n) (negsuc (2 ^ 32 - suc n))) ≡ []
none_if true n e (inl z) = ap (λ (k : ℕ). replicate k 32) z
none_if true n e (inr high) = absurd (omega (arith, high, ltb-true n (2 ^ 31) e))
none_if false n e h = refl

more_blanks : (n : ℕ) → suc n < 2 ^ 31 → blanks (signed (number (suc n))) ≡ 32 ∷ blanks (signed (number n))
more_blanks n l = rw (lt-ltb (suc n) (2 ^ 31) l, lt-ltb n (2 ^ 31) (omega arith)) refl

printed_twice : (c : Printed) (xs ys : List ℕ) → printed c (xs ++ ys) ≡ printed (printed c xs) ys
printed_twice c xs ys =
    ap (λ (text : List ℕ). let p : Printed = record { text = text; ready = true } in p)
    (sym (append_assoc c.text xs ys))

-- ---- `here`

moved_if : (b : Bool) (here n a : ℕ) → nat_lt n (2 ^ 31) ≡ b → n < 2 ^ 32
    → pos a ≡ pos here +ℤ cond b (pos n) (negsuc (2 ^ 32 - suc n))
    → cond b (here + n) (here - (2 ^ 32 - n)) ≡ a
moved_if true here n a e l h = omega (arith, ints)
moved_if false here n a e l h = omega (arith, ints)

allots : (m : DataSpace) (n : Cell) (a : ℕ) → n.0 < 2 ^ 32 → LiesBehind m.here n a
    → allotted m n.0 ≡ Ok (here_at a m)
allots m n a l h =
    ap (with_here m) (moved_if (nat_lt n.0 (2 ^ 31)) m.here n.0 a refl l h.at) ∙ placed m a h.from h.to

-- an address that is reached lies there, unless it was cut at 0
reached_if : (b : Bool) (here n : ℕ) → nat_lt n (2 ^ 31) ≡ b → n < 2 ^ 32
    → data_start ≤ cond b (here + n) (here - (2 ^ 32 - n))
    → pos (cond b (here + n) (here - (2 ^ 32 - n))) ≡ pos here +ℤ cond b (pos n) (negsuc (2 ^ 32 - suc n))
reached_if true here n e l h = omega (arith, ints)
reached_if false here n e l h = omega (arith, ints)

full_if : (p q : Bool) (m : DataSpace) (n : Cell) → nat_le data_start (moved m.here n.0) ≡ p
    → nat_le (moved m.here n.0) data_limit ≡ q → n.0 < 2 ^ 32 → ((a : ℕ) → LiesBehind m.here n a → ⊥)
    → ◌≡◌ {A = Result DataSpace MemFault} (if p && q then Ok (here_at (moved m.here n.0) m) else Err Full) (Err Full)
full_if true true m n e f l h =
    let from = leb-true data_start (moved m.here n.0) e in
    absurd (h (moved m.here n.0) (record {
      at = reached_if (nat_lt n.0 (2 ^ 31)) m.here n.0 refl l from;
      from = from;
      to = leb-true (moved m.here n.0) data_limit f;
    }))
full_if true false m n e f l h = refl
full_if false q m n e f l h = refl

leaves : (m : Board) (s : List Cell) (r : Result DataSpace MemFault) (after : DataSpace) → r ≡ Ok after
    → space_changed s r m ≡ Ok (record m { stack = s; memory = after })
leaves m s r after e = ap (λ (x : Result DataSpace MemFault). space_changed s x m) e

rounds : (m : DataSpace) (a : Cell) → IsSound m → addresses_entry Aligned m.here (number m.here ∷ []) ≡ Ok (a ∷ [])
    → aligned m.here ≡ a.0
unfolding addressing_of
rounds m a sound e =
    let both : ◌≡◌ {A = Result (List Cell) Throw} (Ok (rounded_up (number m.here) ∷ [])) (Ok (a ∷ [])) = e in
    let same : rounded_up (number m.here) ≡ a = cc in
    let value : (rounded_up (number m.here)).0 ≡ a.0 = ap (λ (x : Cell). x.0) same in
    omega (arith, sound.here_to, value)

-- ---- the data space

space_stored : (x : Cell) (m : Board) (s : List Cell) (r : Result DataSpace MemFault)
    → space_changed s r m ≡ with_data (on_top x m) (in_space (data_in (on_top x m)) (stored s r))
space_stored x m s (Ok after) = refl
space_stored x m s (Err fault) = refl

erases : (m : Board) (s : List Cell) → erase_entry s m
    ≡ with_data (on_top (number 0) m)
    (in_space (data_in (on_top (number 0) m)) (memory_entry Fill (number 0 ∷ s) m.memory))
unfolding memory_entry
erases m [] = refl
erases m (n ∷ []) = refl
erases m (n ∷ a ∷ s) = space_stored (number 0) m s (filled m.memory a.0 n.0 0)

stores : ScratchIsOpen → (n : ℕ) (m : Board) → ◌≡◌ {A = Result Board Throw}
    (Ok (record m { memory = with_base n m.memory }))
    (primitive_left (primitive.Memory Store) (on_top (number 0x50_0000) (on_top (number n) m)))
unfolding memory_entry
stores open_there n m =
    let over = on_top (number 0x50_0000) (on_top (number n) m) in
    let after = with_base n m.memory in
    let none : write_fault m.memory scratch_start 4 Four ≡ None =
    open_there.writes m.memory scratch_start 4 Four (omega arith) (omega arith) refl in
    ap (λ (f : Option MemFault). with_data over (in_space (data_in over) (stored m.stack (unless f after)))) (sym none)

-- the number that was stored there is the base
abbrev BaseIs : ℕ → Result Board Throw → Type 0
BaseIs n (Ok m) = base_in m.memory ≡ Ok n
BaseIs n (Err t) = Unit {0}

based : ScratchIsOpen → WritesJoin → (n : ℕ) (m : DataSpace) → IsSound m
    → bytes_from (with_base n m) scratch_start 4 ≡ bytes_high_first 4 n
based open_there joins n m sound =
    joins.back m scratch_start (bytes_high_first 4 n) sound
    (open_there.reads m scratch_start 4 One (omega arith) (omega arith) refl)

hex_base : ScratchIsOpen → WritesJoin → (m : DataSpace) → IsSound m → base_in (with_base 16 m) ≡ Ok 16
hex_base open_there joins m sound = rw (based open_there joins 16 m sound) refl

decimal_base : ScratchIsOpen → WritesJoin → (m : DataSpace) → IsSound m → base_in (with_base 10 m) ≡ Ok 10
decimal_base open_there joins m sound = rw (based open_there joins 10 m sound) refl

fetches_if : ScratchIsOpen → (b : Bool) (m : Board)
    → on_board m (refused_if b stack_overflow (cell_at m.memory debug_cell ∷ m.stack))
    ≡ behind (with_data m (on_stack (data_in m) (refused_if b stack_overflow (number 0x50_0004 ∷ m.stack))))
    (Run (Primitive (primitive.Memory Fetch)) ∷ [])
unfolding memory_entry
fetches_if open_there true m = refl
fetches_if open_there false m =
    let over = on_top (number 0x50_0004) m in
    let none : read_fault m.memory debug_cell 4 Four ≡ None =
    open_there.reads m.memory debug_cell 4 Four (omega arith) (omega arith) refl in
    ap (λ (f : Option MemFault). with_data over (in_space (data_in over)
    (fetched m.stack m.memory (unless f (number_at m.memory debug_cell 4))))) (sym none)

-- ---- the empty stack

empties : (w : ConsoleWord) (m : Board) → TakesCells w → m.stack ≡ [] → console_entry w m ≡ Err stack_underflow
unfolding calculation
empties console.OnePlus m h e = ap (λ (s : List Cell). on_board m (increased (number 1) s)) e
empties console.OneMinus m h e = ap (λ (s : List Cell). on_board m (decreased (number 1) s)) e
empties console.TwoPlus m h e = ap (λ (s : List Cell). on_board m (increased (number 2) s)) e
empties console.TwoMinus m h e = ap (λ (s : List Cell). on_board m (decreased (number 2) s)) e
empties console.ShiftLeft m h e = ap (λ (s : List Cell). on_board m (arithmetic_entry LeftShift s)) e
empties console.ShiftRight m h e = ap (λ (s : List Cell). on_board m (arithmetic_entry RightShift s)) e
empties console.Not m h e = ap (λ (s : List Cell). on_board m (arithmetic_entry Invert s)) e
empties console.Spaces m h e = ap (λ (s : List Cell). spaces_entry s m) e
empties console.Allot m h e = ap (λ (s : List Cell). allot_entry s m) e
empties console.Erase m h e = ap (λ (s : List Cell). erase_entry s m) e
empties console.SingleToDouble m h e = ap (λ (s : List Cell). on_board m (doubled s)) e
empties console.TimesSlash m h e = ap (λ (s : List Cell). on_board m (scaled s)) e
empties console.TimesSlashMod m h e = ap (λ (s : List Cell). on_board m (scaled_parts s)) e
empties w m h e = absurd h

growing : (w : ConsoleWord) → Prints w → grows (Console w) ≡ true
growing console.Space h = refl
growing console.Spaces h = refl
growing console.PrintPath h = refl
growing console.PrintChildren h = refl
growing console.PrintProperties h = refl
growing console.ShowDevices h = refl
growing w h = absurd h

others : (w : ConsoleWord) → (Prints w → ⊥) → grows (Console w) ≡ false
others console.Space h = absurd (h tt)
others console.Spaces h = absurd (h tt)
others console.PrintPath h = absurd (h tt)
others console.PrintChildren h = absurd (h tt)
others console.PrintProperties h = absurd (h tt)
others console.ShowDevices h = absurd (h tt)
others w h = refl

-- ---- the device tree

line_of : (ns : List Node) (o : Option ℕ) (m : DataSpace) (path : List ℕ)
    → for_number {A = List ℕ} o (λ i. Ok (path_in m ns i)) ≡ Ok path
    → for_number {A = List ℕ} o (λ i. Ok (path_in m ns i ++ 10 ∷ [])) ≡ Ok (path ++ 10 ∷ [])
line_of ns None m path h = absurd cc
line_of ns (Some i) m path h =
    let same : path_in m ns i ≡ path = cc in
    ap (λ x. Ok (x ++ 10 ∷ [])) same

package_has : (text : Phandle → Result (List ℕ) NodeFault) (node : Phandle) (bytes : List ℕ) (o : Option Phandle)
    (m : Board) → o ≡ Some node → text node ≡ Ok bytes
    → package_shown text o m ≡ Ok (record m { console = printed m.console bytes })
package_has text node bytes o m e h =
    ap (λ p. package_shown text p m) e ∙ ap (λ r. text_shown r m) h

no_package : (w : ConsoleWord) (m : Board) → ShowsPackage w → m.active.package ≡ None
    → console_entry w m ≡ Err no_node
no_package console.PrintPath m h e = ap (λ o. package_shown (pwd_text m.memory m.tree) o m) e
no_package console.PrintChildren m h e = ap (λ o. package_shown (ls_text m.memory m.tree) o m) e
no_package console.PrintProperties m h e = ap (λ o. package_shown (properties_text m.memory m.tree) o m) e
no_package w m h e = absurd h

-- ---- the law

pub console_words_are_sequences : DividesBack → ScratchIsOpen → WritesJoin → ConsoleWordsAreSequences
unfolding numbers_entry
console_words_are_sequences divides open_there joins = record {
  one_plus = λ m. increases (number 1) m m.stack;
  one_minus = λ m. decreases (number 1) m m.stack;
  two_plus = λ m. increases (number 2) m m.stack;
  two_minus = λ m. decreases (number 2) m m.stack;
  truth = λ m. numbered m (within (number (2 ^ 32 - 1) ∷ m.stack));
  falsehood = λ m. numbered m (within (number 0 ∷ m.stack));
  structure = λ m. numbered m (within (number 0 ∷ m.stack));
  shift_left = λ m. alone m (arithmetic_entry LeftShift m.stack);
  shift_right = λ m. alone m (arithmetic_entry RightShift m.stack);
  turned = λ m. alone m (arithmetic_entry Invert m.stack);
  space = λ m. refl;
  no_spaces = λ m n h.
      ap (λ (xs : List ℕ). text_done m (printed m.console xs)) (none_if (nat_lt n.0 (2 ^ 31)) n.0 refl h);
  more_spaces = λ m n l.
      ap (λ (xs : List ℕ). text_done m (printed m.console xs)) (more_blanks n l)
      ∙ ap (λ (c : Printed). text_done m c) (printed_twice m.console (32 ∷ []) (blanks (signed (number n))));
  allot = λ m n a l h.
      leaves (on_top n m) m.stack (allotted m.memory n.0) (here_at a m.memory) (allots m.memory n a l h);
  no_allot = λ m n l h.
      ap (λ (r : Result DataSpace MemFault). space_changed m.stack r (on_top n m))
      (full_if (nat_le data_start (moved m.memory.here n.0)) (nat_le (moved m.memory.here n.0) data_limit) m.memory n
      refl refl l h);
  align = λ m a sound e. ap (λ (h : ℕ). here_done m h) (rounds m.memory a sound e);
  erase = λ m. erases m m.stack;
  hex = λ m. stores open_there 16 m;
  hex_base = λ m after sound e. subst (λ r. BaseIs 16 r) e (hex_base open_there joins m.memory sound);
  decimal = λ m. stores open_there 10 m;
  decimal_base = λ m after sound e. subst (λ r. BaseIs 10 r) e (decimal_base open_there joins m.memory sound);
  fcode_debug = λ m. fetches_if open_there (nat_lt 256 (length (number 0x50_0004 ∷ m.stack))) m;
  single_to_double = λ m. extends m m.stack;
  times_slash_mod = λ m x y d h. parts_divide divides m x y d h;
  no_times_slash_mod = λ m x y d z. zero_divides m x y d z;
  few_times_slash_mod = λ m l. few_parts m m.stack l;
  times_slash = λ m. scales m m.stack;
  empty = empties;
  path = λ m node path e h.
      package_has (pwd_text m.memory m.tree) node (path ++ 10 ∷ []) m.active.package m e
      (line_of m.tree (number_of (length m.tree) node) m.memory path h);
  children = λ m node text e h. package_has (ls_text m.memory m.tree) node text m.active.package m e h;
  properties = λ m node text e h. package_has (properties_text m.memory m.tree) node text m.active.package m e h;
  devices = λ m. refl;
  no_package = no_package;
  device_end = λ m. refl;
  growing = growing;
  others = others;
}
