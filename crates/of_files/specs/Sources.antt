-- The images that files of sources have.
use Rattle.std.specs.Prelude.{◌≡◌, ◌≤◌, ◌⊎◌, ◌+◌, ◌%◌, ◌^◌, ℕ, true, false, List, [], ◌∷◌, ◌++◌}
use Rattle.std.specs.Prelude.{length, Option, Result}
use Rattle.std.specs.Prelude.{Ok, Err}
use Rattle.std.specs.Int.{to_be_bytes, w16}
use Rattle.std.specs.List.{flat_map}
use Rattle.std.specs.Io.KnownBytes.{Keeps, Appends}
use Rattle.hex.specs.Hex.{encode_lower}
use Rattle.of_arguments.specs.declared.status.Status.{Status}
use Rattle.of_detok.specs.declared.notes.Extras.{Extras}
use Rattle.of_detok.specs.Listing.{listed_so_far}
use Rattle.of_margin.specs.Margin.{beside_lines}
use Rattle.of_arguments.specs.declared.status.Status.TheVariants as status
use Rattle.of_source.specs.declared.fault.SourceFault.{SourceFault}
use Rattle.of_source.specs.Items.{Item, Made, Source}
use Rattle.of_source.specs.Items as item
use Rattle.of_source.specs.Parsing.{parsed}
use Rattle.of_source.specs.Parsing.{IsRefused as IsUnsaid}
use Rattle.of_source.specs.Positions.{item_places}
use Rattle.of_tok.specs.declared.fault.TokFault.{TokFault}
use Rattle.of_tok.specs.Image.{tokenized}
use Rattle.of_tok.specs.Image.{IsRefused as HasNoImage}
use Rattle.of_tok.specs.Origins.{image_origins}
use Rattle.of_files.specs.Faults.{IsUnwritten, no_image, no_source, status_of}
use Rattle.of_files.specs.Files.{IsUnread}
use Rattle.of_files.specs.Messages.{AppendsPart}
use Rattle.of_files.specs.declared.fault.Fault.{Fault}
use Rattle.of_files.specs.declared.fault.Fault.TheVariants as fault
use Rattle.of_files.specs.declared.source_lists.SourceList.{SourceList}
use Rattle.of_files.specs.declared.source_lists.SourceList.TheVariants as list

-- the image of the source that a file has
abbrev pub HasImage : List ℕ → List ℕ → Type 0
HasImage file image = (s : Source) × (parsed file ≡ Ok s) × (tokenized s ≡ Ok image)

-- the same, in hexadecimal digits and a newline
abbrev pub TokenizesFile : List ℕ → List ℕ → Type 0
TokenizesFile file digits = (image : List ℕ) × HasImage file image × (digits ≡ encode_lower image ++ 10 ∷ [])

-- nothing was printed, or the first digits of the image
abbrev pub TokenizesPart : List ℕ → Option (List ℕ) → Option (List ℕ) → Type 0
TokenizesPart file old new =
    Keeps old new ⊎ ((digits : List ℕ) × TokenizesFile file digits × AppendsPart old new digits)

-- the image was printed
abbrev pub TokenizesAll : List ℕ → Option (List ℕ) → Option (List ℕ) → Type 0
TokenizesAll file old new = (digits : List ℕ) × TokenizesFile file digits × Appends old new digits

-- a source's faults: what is wrong with its text, or why it has no image, or for memory
abbrev pub FaultsSource : List ℕ → Fault → Type 0
FaultsSource text f =
    (f ≡ fault.NoMemory)
    ⊎ ((p : SourceFault) × (f ≡ no_source text p) × IsUnsaid (parsed text) p)
    ⊎ ((s : Source) × (parsed text ≡ Ok s) × ((t : TokFault) × (f ≡ no_image text t) × HasNoImage (tokenized s) t))

-- the faults of a source's file: of a read, of its end, of a write or of the source
abbrev pub FaultsSourceFile : List ℕ → Fault → Type 0
FaultsSourceFile file f =
    IsUnread f
    ⊎ ((f ≡ fault.Endless) × (16777216 ≤ length file))
    ⊎ IsUnwritten f
    ⊎ FaultsSource file f

-- what was printed of the image of a source: all of it, or nothing or its first digits beside a fault
abbrev pub Tokenizes : List ℕ → Option (List ℕ) → Option (List ℕ) → Result Status Fault → Type 0
Tokenizes file old new (Ok s) = (s ≡ status.Done) × TokenizesAll file old new
Tokenizes file old new (Err f) = TokenizesPart file old new × FaultsSourceFile file f

-- ---- symbols

-- the line of a word that a source makes: its FCode, from 0x800 on, of 16 bits in hexadecimal digits, and its name
abbrev pub symbol_line : Made → List ℕ
symbol_line d = encode_lower (to_be_bytes w16 ((d.number % 2 ^ 16 + 2048) % 2 ^ 16)) ++ 32 ∷ d.name ++ 10 ∷ []

-- the line of an item that makes a word; of another one nothing
abbrev pub item_line : Item → List ℕ
item_line (item.Colon d) = symbol_line d
item_line (item.Defining d code) = symbol_line d
item_line _ = []

-- the lines of the words that the source of a text makes
abbrev pub HasSymbols : List ℕ → List ℕ → Type 0
HasSymbols text lines = (s : Source) × (parsed text ≡ Ok s) × (lines ≡ flat_map item_line s.items)

-- ---- the listing of its image

-- what an image is listed with: the names that it gives to its words
abbrev pub with_names : Extras
with_names = record { names = true; indents = false }

-- the listing of a source's image, with the line of the text beside each line from which that comes
abbrev pub HasListing : List ℕ → List ℕ → Type 0
HasListing text lines =
    (s : Source) × (parsed text ≡ Ok s) × ((image : List ℕ) × (tokenized s ≡ Ok image)
    × (lines ≡ beside_lines text (image_origins s.items (item_places text)) (listed_so_far with_names image).0))

-- ---- what is listed of a source

abbrev pub HasLines : SourceList → List ℕ → List ℕ → Type 0
HasLines list.Symbols text lines = HasSymbols text lines
HasLines list.Tokens text lines = HasListing text lines

-- what was printed of it: all of it, or nothing or the first of it beside a fault
abbrev pub Lists : SourceList → List ℕ → Option (List ℕ) → Option (List ℕ) → Result Status Fault → Type 0
Lists list file old new (Ok s) =
    (s ≡ status.Done) × ((lines : List ℕ) × HasLines list file lines × Appends old new lines)
Lists list file old new (Err f) =
    (Keeps old new ⊎ ((lines : List ℕ) × HasLines list file lines × AppendsPart old new lines))
    × FaultsSourceFile file f

-- the status of a fault of a source's file
abbrev pub FaultsWith : List ℕ → Status → Type 0
FaultsWith file s = (f : Fault) × (status_of f ≡ s) × FaultsSourceFile file f

-- the bytes were written, or the first of them, and the status says which
abbrev pub Writes : List ℕ → Option (List ℕ) → Option (List ℕ) → Status → Type 0
Writes bytes old new status.Done = Appends old new bytes
Writes bytes old new status.Fault = AppendsPart old new bytes
Writes bytes old new _ = ⊥
