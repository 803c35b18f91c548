-- What ordinary words and words that ask print goes behind what was printed.
use Rattle.std.proofs.Common.{◌≡◌, ◌∙◌, ℕ, Bool, true, false, List, [], ◌∷◌, ◌++◌, length, nat_le, Option, Some, None}
use Rattle.std.proofs.Common.{Result, Ok, Err, refl, sym, ap, if◌then◌else◌}
use Rattle.std.proofs.lemmas.List.{append_assoc, append-nil}
use Rattle.of_cells.specs.declared.cells.Cell.{Cell}
use Rattle.of_stacks.specs.declared.throws.Throw.{Throw}
use Rattle.of_stacks.specs.Throws.{misaligned, stack_overflow}
use Rattle.of_fcodes.specs.declared.console_words.ConsoleWord.{ConsoleWord}
use Rattle.of_fcodes.specs.declared.console_words.ConsoleWord.TheVariants as console
use Rattle.of_fcodes.specs.declared.words.DevicesWord.{DevicesWord}
use Rattle.of_fcodes.specs.declared.words.DevicesWord.TheVariants as devices
use Rattle.of_fcodes.specs.declared.words.HeapWord.{HeapWord}
use Rattle.of_fcodes.specs.declared.words.HeapWord.TheVariants.{AllocMem}
use Rattle.of_fcodes.specs.declared.words.KeysWord.{KeysWord}
use Rattle.of_fcodes.specs.declared.words.KeysWord.TheVariants as keys
use Rattle.of_fcodes.specs.declared.words.MemoryWord.{MemoryWord}
use Rattle.of_fcodes.specs.declared.words.PrintingWord.{PrintingWord}
use Rattle.of_fcodes.specs.declared.words.PrintingWord.TheVariants as printing
use Rattle.of_fcodes.specs.declared.words.Word.{Word}
use Rattle.of_fcodes.specs.declared.words.Word.TheVariants as word
use Rattle.of_memory.specs.declared.fault.MemFault.{MemFault}
use Rattle.of_memory.specs.declared.width.Width.{Width}
use Rattle.of_memory.specs.declared.width.Width.TheVariants.{One, Two, Four}
use Rattle.of_memory.specs.Access.{filled, read, read_bytes, write}
use Rattle.of_memory.specs.BlockCalls.{heap_taken}
use Rattle.of_memory.specs.DataSpace.{DataSpace}
use Rattle.of_memory.specs.Growth.{allotted}
use Rattle.of_format.specs.Pictured.{base_in}
use Rattle.of_prims.specs.Data.{Data, Space}
use Rattle.of_prims.specs.Memory.{memory_entry}
use Rattle.of_prims.specs.Prims.{prim_entry}
use Rattle.of_nodes.specs.declared.fault.NodeFault.{NodeFault}
use Rattle.of_nodes.specs.declared.phandles.Phandle.{Phandle}
use Rattle.of_board.specs.Left.{stack_left}
use Rattle.of_board.specs.Text.{Printed}
use Rattle.of_board.specs.declared.board.Board.{Board}
use Rattle.of_asking.specs.declared.query.Answer.{Answer}
use Rattle.of_asking.specs.declared.query.Query.{Query}
use Rattle.of_asking.specs.declared.query.Query.TheVariants as query
use Rattle.of_asking.specs.Devices.{at_device, cut, devices_entry, failed, fetch_of, in_memory, is_aligned, is_device}
use Rattle.of_asking.specs.Devices.{peek_entry, peeked, poke_entry, poked, read_entry, space_left, store_of}
use Rattle.of_asking.specs.Devices.{write_entry}
use Rattle.of_asking.specs.Keys.{keys_entry, one_more, wait_entry}
use Rattle.of_asking.specs.Questions.{Asking, Asks, Gives, answered, asked}
use Rattle.of_console.specs.Children.{ls_text}
use Rattle.of_console.specs.Texts.{properties_text, pwd_text}
use Rattle.of_words.specs.ConsoleWords.{allot_entry, console_entry, erase_entry, on_board, package_shown, space_changed}
use Rattle.of_words.specs.ConsoleWords.{spaces_entry, text_shown}
use Rattle.of_words.specs.Words.{alloc_entry, block_taken, data_in, dot_stack_entry, emit_entry, heap_entry}
use Rattle.of_words.specs.Words.{number_entry, printing_entry, right_entry, type_entry, type_read, with_data}
use Rattle.of_words.specs.Words.{word_entry}
use Rattle.of_words.specs.declared.printing.Signs.{Signs}
use Rattle.of_words.specs.declared.printing.Signs.TheVariants.{Signed, Unsigned}
use Rattle.of_print_laws.specs.Printed.{Begins, output_on}
use Rattle.of_print_laws.proofs.PropertyWords.{IsQuiet, properties}
use Rattle.of_print_laws.proofs.TreeWords.{tree}

-- ---- texts that begin others

pub itself : (text : List ℕ) → Begins text text
itself text = ([], sym (append-nil text))

pub as_it_was : (part whole : List ℕ) → whole ≡ part → Begins part whole
as_it_was part whole e = ([], e ∙ sym (append-nil part))

pub behind : (text more : List ℕ) → Begins text (text ++ more)
behind text more = (more, refl)

pub then_more : (first second third : List ℕ) → Begins first second → Begins second third → Begins first third
then_more first second third (more, e) (rest, f) =
    (more ++ rest, f ∙ ap (λ t. t ++ rest) e ∙ append_assoc first more rest)

-- what was printed on the board begins what is printed then, unless there is a throw
abbrev pub GoesOn : Board → Result Board Throw → Type 0
GoesOn w (Ok after) = Begins (output_on w) (output_on after)
GoesOn w (Err t) = Unit {0}

quiet : (w : Board) (r : Result Board Throw) → IsQuiet w r → GoesOn w r
quiet w (Ok after) h = as_it_was (output_on w) (output_on after) (ap (λ (c : Printed). c.text) h)
quiet w (Err t) h = tt

-- ---- words that print, and those that take a block

numbers : (signs : Signs) (base : Result ℕ Throw) (s : List Cell) (m : Board) → GoesOn m (number_entry signs base s m)
numbers signs base [] m = tt
numbers signs (Ok base) (x ∷ s) m = behind (output_on m) _
numbers signs (Err t) (x ∷ s) m = tt

at_right : (signs : Signs) (base : Result ℕ Throw) (s : List Cell) (m : Board) → GoesOn m (right_entry signs base s m)
at_right signs base [] m = tt
at_right signs base (width ∷ []) m = tt
at_right signs (Ok base) (width ∷ x ∷ s) m = behind (output_on m) _
at_right signs (Err t) (width ∷ x ∷ s) m = tt

dot_stack : (base : Result ℕ Throw) (s : List Cell) (m : Board) → GoesOn m (dot_stack_entry base s m)
dot_stack base [] m = itself (output_on m)
dot_stack (Ok base) (x ∷ s) m = behind (output_on m) _
dot_stack (Err t) (x ∷ s) m = tt

emits : (s : List Cell) (m : Board) → GoesOn m (emit_entry s m)
emits [] m = tt
emits (char ∷ s) m = behind (output_on m) _

types_read : (r : Result (List ℕ) MemFault) (s : List Cell) (m : Board) → GoesOn m (type_read r s m)
types_read (Ok text) s m = behind (output_on m) text
types_read (Err fault) s m = tt

types : (s : List Cell) (m : Board) → GoesOn m (type_entry s m)
types [] m = tt
types (n ∷ []) m = tt
types (n ∷ a ∷ s) m = types_read (read_bytes m.memory a.0 n.0) s m

prints : (w : PrintingWord) (m : Board) → GoesOn m (printing_entry w m)
prints printing.Dot m = numbers Signed (base_in m.memory) m.stack m
prints printing.UnsignedDot m = numbers Unsigned (base_in m.memory) m.stack m
prints printing.DotRight m = at_right Signed (base_in m.memory) m.stack m
prints printing.UnsignedDotRight m = at_right Unsigned (base_in m.memory) m.stack m
prints printing.DotStack m = dot_stack (base_in m.memory) m.stack m
prints printing.Emit m = emits m.stack m
prints printing.«Type» m = types m.stack m
prints printing.CarriageReturn m = behind (output_on m) _

blocks : (r : Result (ℕ × DataSpace) MemFault) (s : List Cell) (m : Board) → GoesOn m (block_taken r s m)
blocks (Ok x) s m = itself (output_on m)
blocks (Err fault) s m = tt

allocates : (s : List Cell) (m : Board) → GoesOn m (alloc_entry s m)
allocates [] m = tt
allocates (n ∷ s) m = blocks (heap_taken m.memory n.0) s m

takes : (w : HeapWord) (m : Board) → GoesOn m (heap_entry w m)
takes AllocMem m = allocates m.stack m

-- ---- the console's words

on_stack : (m : Board) (r : Result (List Cell) Throw) → GoesOn m (on_board m r)
on_stack m (Ok s) = itself (output_on m)
on_stack m (Err t) = tt

spaces : (s : List Cell) (m : Board) → GoesOn m (spaces_entry s m)
spaces [] m = tt
spaces (n ∷ s) m = behind (output_on m) _

changes : (s : List Cell) (r : Result DataSpace MemFault) (m : Board) → GoesOn m (space_changed s r m)
changes s (Ok after) m = itself (output_on m)
changes s (Err fault) m = tt

allots : (s : List Cell) (m : Board) → GoesOn m (allot_entry s m)
allots [] m = tt
allots (n ∷ s) m = changes s (allotted m.memory n.0) m

erases : (s : List Cell) (m : Board) → GoesOn m (erase_entry s m)
erases (n ∷ a ∷ s) m = changes s (filled m.memory a.0 n.0 0) m
erases _ m = tt

texts : (r : Result (List ℕ) NodeFault) (m : Board) → GoesOn m (text_shown r m)
texts (Ok text) m = behind (output_on m) text
texts (Err fault) m = tt

shows : (text : Phandle → Result (List ℕ) NodeFault) (node : Option Phandle) (m : Board)
    → GoesOn m (package_shown text node m)
shows text None m = tt
shows text (Some node) m = texts (text node) m

on_console : (w : ConsoleWord) (m : Board) → GoesOn m (console_entry w m)
on_console console.OnePlus m = on_stack m _
on_console console.OneMinus m = on_stack m _
on_console console.TwoPlus m = on_stack m _
on_console console.TwoMinus m = on_stack m _
on_console console.True m = on_stack m _
on_console console.False m = on_stack m _
on_console console.ShiftLeft m = on_stack m _
on_console console.ShiftRight m = on_stack m _
on_console console.Not m = on_stack m _
on_console console.Struct m = on_stack m _
on_console console.Space m = behind (output_on m) _
on_console console.Spaces m = spaces m.stack m
on_console console.Allot m = allots m.stack m
on_console console.Align m = itself (output_on m)
on_console console.Erase m = erases m.stack m
on_console console.Hex m = itself (output_on m)
on_console console.Decimal m = itself (output_on m)
on_console console.SingleToDouble m = on_stack m _
on_console console.TimesSlash m = on_stack m _
on_console console.TimesSlashMod m = on_stack m _
on_console console.FcodeDebug m = on_stack m _
on_console console.DeviceEnd m = itself (output_on m)
on_console console.PrintPath m = shows (pwd_text m.memory m.tree) m.active.«package» m
on_console console.PrintChildren m = shows (ls_text m.memory m.tree) m.active.«package» m
on_console console.PrintProperties m = shows (properties_text m.memory m.tree) m.active.«package» m
on_console console.ShowDevices m = behind (output_on m) _

-- ---- all ordinary words

on_data : (m : Board) (r : Result Data Throw) → GoesOn m (with_data m r)
on_data m (Ok d) = itself (output_on m)
on_data m (Err t) = tt

pub word_goes_on : (w : Word) (m : Board) → GoesOn m (word_entry w m)
word_goes_on (word.Primitive w) m = on_data m (prim_entry w (data_in m))
word_goes_on (word.Printing w) m = prints w m
word_goes_on (word.Heap w) m = takes w m
word_goes_on (word.Stream w) m = tt
word_goes_on (word.Keys w) m = tt
word_goes_on (word.Returns w) m = tt
word_goes_on (word.Dictionary w) m = tt
word_goes_on (word.Throws w) m = tt
word_goes_on (word.Properties w) m = quiet m _ (properties w m)
word_goes_on (word.Tree w) m = quiet m _ (tree w m)
word_goes_on (word.Devices w) m = tt
word_goes_on (word.Console w) m = on_console w m
word_goes_on (word.Parsing w) m = tt
word_goes_on (word.Compiling w) m = tt

-- ---- words that ask

-- the console is as it was, unless there is a throw or a question
abbrev pub IsStill : Board → Asking Board → Type 0
IsStill b (Gives r) = IsQuiet b r
IsStill b (Asks q) = Unit {0}

either : (c : Bool) (b : Board) (x y : Asking Board) → IsStill b x → IsStill b y → IsStill b (if c then x else y)
either true b x y h k = h
either false b x y h k = k

stacks : (b : Board) (r : Result (List Cell) Throw) → IsQuiet b (stack_left b r)
stacks b (Ok s) = refl
stacks b (Err t) = tt

asks : (q : Query) (reply : Option Answer) (b : Board) → IsStill b (asked q reply b)
asks q None b = tt
asks q (Some answer) b = stacks b (answered q answer b.stack)

one_asks : (q : Query) (reply : Option Answer) (b : Board) → IsStill b (one_more q reply b)
one_asks q reply b = either (nat_le 256 (length b.stack)) b (Gives (Err stack_overflow)) _ tt (asks q reply b)

waits : (s : List Cell) (reply : Option Answer) (b : Board) → IsStill b (wait_entry s reply b)
waits [] reply b = tt
waits (n ∷ s) reply b = asks (query.Wait n) reply b

pub key_is_still : (w : KeysWord) (reply : Option Answer) (b : Board) → IsStill b (keys_entry w reply b)
unfolding keys_entry
key_is_still keys.KeyReady reply b = one_asks query.KeyReady reply b
key_is_still keys.Key reply b = one_asks query.Key reply b

at_a_device : (a : ℕ) (w : Width) (x : Asking Board) (b : Board) → IsStill b x → IsStill b (at_device a w x)
at_a_device a w x b h = either (is_aligned a w) b x (Gives (Err misaligned)) h tt

spaces_left : (b : Board) (r : Result Space Throw) → IsQuiet b (space_left b r)
spaces_left b (Ok left) = refl
spaces_left b (Err t) = tt

within_memory : (w : MemoryWord) (b : Board) → IsStill b (in_memory w b)
within_memory w b = spaces_left b (memory_entry w b.stack b.memory)

reads : (w : Width) (s : List Cell) (reply : Option Answer) (b : Board) → IsStill b (read_entry w s reply b)
reads w [] reply b = tt
reads w (a ∷ s) reply b =
    either (is_device a.0 w) b (at_device a.0 w (asked (query.Read w a) reply b)) (in_memory (fetch_of w) b)
    (at_a_device a.0 w (asked (query.Read w a) reply b) b (asks (query.Read w a) reply b))
    (within_memory (fetch_of w) b)

writes : (w : Width) (s : List Cell) (reply : Option Answer) (b : Board) → IsStill b (write_entry w s reply b)
writes w [] reply b = tt
writes w (a ∷ []) reply b = tt
writes w (a ∷ x ∷ s) reply b =
    let q = query.Write w a (cut w x) in
    either (is_device a.0 w) b (at_device a.0 w (asked q reply b)) (in_memory (store_of w) b)
    (at_a_device a.0 w (asked q reply b) b (asks q reply b)) (within_memory (store_of w) b)

peeks : (w : Width) (s : List Cell) (reply : Option Answer) (b : Board) → IsStill b (peek_entry w s reply b)
peeks w [] reply b = tt
peeks w (a ∷ s) reply b =
    let q = query.Peek w a in
    let r = peeked s (read w b.memory a.0) in
    either (is_device a.0 w) b (at_device a.0 w (asked q reply b)) (Gives (stack_left b r))
    (at_a_device a.0 w (asked q reply b) b (asks q reply b)) (stacks b r)

pokes_read : (s : List Cell) (b : Board) (r : Result DataSpace MemFault) → IsQuiet b (poked s b r)
pokes_read s b (Ok m) = refl
pokes_read s b (Err fault) = stacks b (failed s fault)

pokes : (w : Width) (s : List Cell) (reply : Option Answer) (b : Board) → IsStill b (poke_entry w s reply b)
pokes w [] reply b = tt
pokes w (a ∷ []) reply b = tt
pokes w (a ∷ x ∷ s) reply b =
    let q = query.Poke w a (cut w x) in
    let r = write w b.memory a.0 (cut w x).0 in
    either (is_device a.0 w) b (at_device a.0 w (asked q reply b)) (Gives (poked s b r))
    (at_a_device a.0 w (asked q reply b) b (asks q reply b)) (pokes_read s b r)

pub device_is_still : (w : DevicesWord) (reply : Option Answer) (b : Board) → IsStill b (devices_entry w reply b)
unfolding devices_entry
device_is_still devices.PeekByte reply b = peeks One b.stack reply b
device_is_still devices.PeekWord reply b = peeks Two b.stack reply b
device_is_still devices.PeekLong reply b = peeks Four b.stack reply b
device_is_still devices.PokeByte reply b = pokes One b.stack reply b
device_is_still devices.PokeWord reply b = pokes Two b.stack reply b
device_is_still devices.PokeLong reply b = pokes Four b.stack reply b
device_is_still devices.ReadByte reply b = reads One b.stack reply b
device_is_still devices.ReadWord reply b = reads Two b.stack reply b
device_is_still devices.ReadLong reply b = reads Four b.stack reply b
device_is_still devices.WriteByte reply b = writes One b.stack reply b
device_is_still devices.WriteWord reply b = writes Two b.stack reply b
device_is_still devices.WriteLong reply b = writes Four b.stack reply b
device_is_still devices.Milliseconds reply b = one_asks query.Milliseconds reply b
device_is_still devices.Wait reply b = waits b.stack reply b
