-- The words that encode property arrays at `here`, join them and decode them, by what they make of the data stack, the
-- top first (IEEE 1275-1994, 5.3.5.1 and 5.3.5.2, and annex A).
use Rattle.std.specs.Prelude.{ℕ, nat_lt, List, [], ◌∷◌, ◌++◌, length, take, drop, Result, Ok, Err, if◌then◌else◌}
use Rattle.of_cells.specs.declared.cells.Cell.{Cell}
use Rattle.of_stacks.specs.declared.throws.Throw.{Throw}
use Rattle.of_stacks.specs.Throws.{stack_underflow}
use Rattle.of_memory.specs.DataSpace.{DataSpace}
use Rattle.of_props.specs.declared.arrays.Array.{Array}
use Rattle.of_props.specs.Arrays.{joined}
use Rattle.of_props.specs.Decoding.{int_decoded, phys_decoded, string_decoded}
use Rattle.of_props.specs.Encoding.{bytes_encoded, int_encoded, phys_encoded, string_encoded}
use Rattle.of_board.specs.declared.board.Board.{Board}
use Rattle.of_instances.specs.Faults.{of_array}
use Rattle.of_instances.specs.Reading.{active_package, cells_in}
use Rattle.of_instances.specs.Left.{with_room, with_stack}

-- the property array of an address and a length
abbrev pub array : Cell → Cell → Array
array p n = record { address = p; length = n }

-- an array goes on a stack, its length on top
abbrev pub pushed : Array → List Cell → List Cell
pushed p s = p.length ∷ p.address ∷ s

-- an array that was encoded goes on the stack
abbrev pub encoded_left : List Cell → Board → Result (Array × DataSpace) Throw → Result Board Throw
encoded_left s w (Ok x) = Ok (record w { stack = pushed x.0 s; memory = x.1 })
encoded_left s w (Err t) = Err t

-- `encode-int` ( x -- p n )
unfoldable pub encode_int_entry : List Cell → Board → Result Board Throw
encode_int_entry [] w = Err stack_underflow
encode_int_entry (x ∷ s) w = with_room (encoded_left s w (of_array (int_encoded w.memory x)))

-- `encode-string` ( s n -- p n )
unfoldable pub encode_string_entry : List Cell → Board → Result Board Throw
encode_string_entry (n ∷ a ∷ s) w = encoded_left s w (of_array (string_encoded w.memory a n))
encode_string_entry _ w = Err stack_underflow

-- `encode-bytes` ( a n -- p n )
unfoldable pub encode_bytes_entry : List Cell → Board → Result Board Throw
encode_bytes_entry (n ∷ a ∷ s) w = encoded_left s w (of_array (bytes_encoded w.memory a n))
encode_bytes_entry _ w = Err stack_underflow

-- `encode-phys` ( lo .. hi -- p n ), with so many cells
abbrev pub phys_left : List Cell → Board → Result ℕ Throw → Result Board Throw
phys_left s w (Err t) = Err t
phys_left s w (Ok count) =
    if nat_lt (length s) count then Err stack_underflow
    else with_room (encoded_left (drop count s) w (of_array (phys_encoded w.memory (take count s))))

unfoldable pub encode_phys_entry : List Cell → Board → Result Board Throw
encode_phys_entry [] w = Err stack_underflow
encode_phys_entry (hi ∷ s) w = phys_left (hi ∷ s) w (cells_in w.memory w.tree (active_package w))

-- two arrays as one on the stack
abbrev pub joined_left : List Cell → Board → Result Array Throw → Result Board Throw
joined_left s w (Ok p) = Ok (with_stack w (pushed p s))
joined_left s w (Err t) = Err t

-- `encode+` ( p n p n -- p n )
unfoldable pub encode_plus_entry : List Cell → Board → Result Board Throw
encode_plus_entry (k ∷ q ∷ n ∷ p ∷ s) w = joined_left s w (of_array (joined (array p n) (array q k)))
encode_plus_entry _ w = Err stack_underflow

-- what follows a number in its array, and the number on top
abbrev pub int_left : List Cell → Board → Result (Cell × Array) Throw → Result Board Throw
int_left s w (Ok x) = Ok (with_stack w (x.0 ∷ pushed x.1 s))
int_left s w (Err t) = Err t

-- `decode-int` ( p n -- p n x )
unfoldable pub decode_int_entry : List Cell → Board → Result Board Throw
decode_int_entry (n ∷ p ∷ s) w = with_room (int_left s w (of_array (int_decoded w.memory (array p n))))
decode_int_entry _ w = Err stack_underflow

-- what follows a string in its array, and the string on top
abbrev pub string_left : List Cell → Board → Result (Array × Array) Throw → Result Board Throw
string_left s w (Ok x) = Ok (with_stack w (pushed x.0 (pushed x.1 s)))
string_left s w (Err t) = Err t

-- `decode-string` ( p n -- p n s n )
unfoldable pub decode_string_entry : List Cell → Board → Result Board Throw
decode_string_entry (n ∷ p ∷ s) w = with_room (string_left s w (of_array (string_decoded w.memory (array p n))))
decode_string_entry _ w = Err stack_underflow

-- what follows a physical address in its array, and the address, the high cell on top
abbrev pub cells_left : List Cell → Board → Result (List Cell × Array) Throw → Result Board Throw
cells_left s w (Ok x) = Ok (with_stack w (x.0 ++ pushed x.1 s))
cells_left s w (Err t) = Err t

-- `decode-phys` ( p n -- p n lo .. hi ), with so many cells
abbrev pub phys_read : List Cell → Board → Array → Result ℕ Throw → Result Board Throw
phys_read s w p (Err t) = Err t
phys_read s w p (Ok count) = with_room (cells_left s w (of_array (phys_decoded w.memory p count)))

unfoldable pub decode_phys_entry : List Cell → Board → Result Board Throw
decode_phys_entry (n ∷ p ∷ s) w = phys_read s w (array p n) (cells_in w.memory w.tree (active_package w))
decode_phys_entry _ w = Err stack_underflow
