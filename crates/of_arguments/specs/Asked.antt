-- What a command line asks for, whatever its words.
use Rattle.std.specs.Prelude.{Bool, ℕ, List, Option, None, false}
use Rattle.std.specs.Borrow.{Bor}
use Rattle.std.specs.Option.{option_map}
use Rattle.of_arguments.specs.declared.request.Guide.{Guide}
use Rattle.of_arguments.specs.declared.request.Guide.TheVariants as guide
use Rattle.of_arguments.specs.declared.request.Listing.{Listing}
use Rattle.of_arguments.specs.declared.request.Listings.{Listings}
use Rattle.of_arguments.specs.declared.request.Outside.{Outside}
use Rattle.of_arguments.specs.declared.request.Product.{Product}
use Rattle.of_arguments.specs.declared.request.Product.TheVariants as product
use Rattle.of_arguments.specs.declared.request.Outside.TheVariants as outside
use Rattle.of_arguments.specs.declared.request.Request.{Request}
use Rattle.of_arguments.specs.declared.request.Request.TheVariants as request

-- what is to answer the questions of a run: the standard board, the answers of the file at a path, or the devices of
-- one
pub data Outsiders : Type 0 where
  standard : Outsiders
  answers_of : List ℕ → Outsiders
  board_of : List ℕ → Outsiders

-- what leads a debugger: the script of the file at a path, or the commands on the standard input
pub data Guides : Type 0 where
  script_of : List ℕ → Guides
  terminal : Guides

-- what is made of a source: its image, in hexadecimal digits or in the file at a path; the names and FCodes of its own
-- words; or the listing of its image, with its own lines beside
pub data Products : Type 0 where
  digits : Products
  kept_at : List ℕ → Products
  symbols : Products
  beside : Products

-- what is printed behind what a run prints: the device tree, the words, the word of this name, and the state
pub record Appendix : Type 0 where
  pub tree : Bool
  pub words : Bool
  pub see : Option (List ℕ)
  pub state : Bool

-- nothing of these
abbrev pub no_appendix : Appendix
no_appendix = record { tree = false; words = false; see = None; state = false }

-- the run of the image at a path, and of the console lines of a file, if there is one, with what answers its questions,
-- for so many steps at most, what is printed then, and whether its end is explained; the same with nothing printed
-- then, but the calls of a client that a further file has; a console behind the image at a path, if there is one, with
-- the devices of a file, if there is one, for so many steps a line; the run of the image at a path under a debugger,
-- and of the console lines of a file, if there is one, with the answers of a file, if there is one, for so many steps
-- at most; what is made of the source at a path; the listing of the image at a path, what is listed, and whether it is
-- up to what is wrong; what is wrong with the image at a path; or the list of the images in the ROM of a PCI card. Of a
-- run, a listing and a look, whether the file is such a ROM, of which the FCode program is meant; of a run the path of
-- the file that is to hold a line for each step, if one is; and of a run and a client's calls, last, whether a throw at
-- the end is a fault
pub data Asked : Type 0 where
  a_run : List ℕ → Option (List ℕ) → Outsiders → ℕ → Appendix → Bool → Bool → Option (List ℕ) → Bool → Asked
  client_calls : List ℕ → List ℕ → Option (List ℕ) → Outsiders → ℕ → Bool → Bool → Asked
  a_console : Option (List ℕ) → Option (List ℕ) → ℕ → Asked
  a_debugging : List ℕ → Guides → Option (List ℕ) → Option (List ℕ) → ℕ → Asked
  an_image : List ℕ → Products → Asked
  a_listing : List ℕ → Listing → Bool → Bool → Asked
  a_look : List ℕ → Bool → Asked
  a_rom : List ℕ → Asked

-- what answers
abbrev pub shown : Outside → Outsiders
shown outside.Standard = standard
shown (outside.Answers path) = answers_of path.now
shown (outside.Board path) = board_of path.now

-- what leads
abbrev pub guide_shown : Guide → Guides
guide_shown (guide.Script path) = script_of path.now
guide_shown guide.Terminal = terminal

-- what is made
abbrev pub product_shown : Product → Products
product_shown product.Digits = digits
product_shown (product.File path) = kept_at path.now
product_shown product.Symbols = symbols
product_shown product.Listing = beside

-- the text of a path or a name, if there is one
abbrev pub path_of : Option (Bor (List ℕ)) → Option (List ℕ)
path_of path = option_map (λ text. text.now) path

-- what is printed behind
abbrev pub appendix_of : Listings → Appendix
appendix_of l = record { tree = l.tree; words = l.words; see = path_of l.see; state = l.state }

-- what a request asks for
abbrev pub asked : Request → Asked
asked (request.Run image lines o limit listings explain pci trace strict) =
    a_run image.now (path_of lines) (shown o) limit (appendix_of listings) explain pci (path_of trace) strict
asked (request.Client image calls lines o limit explain strict) =
    client_calls image.now calls.now (path_of lines) (shown o) limit explain strict
asked (request.Console image board limit) = a_console (path_of image) (path_of board) limit
asked (request.Debug image g lines answers limit) =
    a_debugging image.now (guide_shown g) (path_of lines) (path_of answers) limit
asked (request.Tok source p) = an_image source.now (product_shown p)
asked (request.Detok image listing partial pci) = a_listing image.now listing partial pci
asked (request.Check image pci) = a_look image.now pci
asked (request.Pci rom) = a_rom rom.now
