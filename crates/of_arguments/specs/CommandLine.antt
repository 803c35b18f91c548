-- What a command line asks for, in the terms of the parser of command lines: an application has rules
-- for its words, and a parse gives rows of values that it found.
use Rattle.std.specs.Prelude.{◌≡◌, ◌==◌, ◌∷◌, ◌||◌, ◌*◌, ◌/◌, [], Bool, ℕ, List, false, Option, Some, None, true}
use Rattle.std.specs.Prelude.{codes, option_map, option_and_then, if◌then◌else◌}
use Rattle.std.specs.Str.{bytes_eq}
use Rattle.std.specs.Str.Parse.{digits_value, without_leading_plus}
use Rattle.clap.specs.ValueTests.{is_unsigned_in}
use Rattle.clap.specs.Words.{App, app_of, Rule, Row, Text, first_of, new_app, new_rule, subcommand_of}
use Rattle.clap.specs.Words.{with_rule, with_subcommand}
use Rattle.clap.specs.declared.builder.command.Command.{Command}
use Rattle.clap.specs.declared.builder.command.Command.TheViews.{out-Command}
use Rattle.clap.specs.declared.builder.action.ArgAction.TheVariants.{Set, SetTrue}
use Rattle.of_detok.specs.declared.notes.Extras.{Extras}
use Rattle.of_arguments.specs.declared.request.Listing.{Listing}
use Rattle.of_arguments.specs.declared.request.Listing.TheVariants as listing
use Rattle.of_arguments.specs.Asked.{Appendix, Asked, Guides, Outsiders, a_run, an_image, a_listing, answers_of}
use Rattle.of_arguments.specs.Asked.{a_console, a_debugging, a_look, a_rom, client_calls, script_of}
use Rattle.of_arguments.specs.Asked.{Products, beside, board_of, digits, kept_at, standard, symbols, terminal}

-- ---- the command line

-- the path of a file
abbrev pub path_rule : Text → Rule
path_rule name = record (new_rule name) { value_names = 1; required = true; action = Some Set }

-- `IMAGE`
abbrev pub image_rule : Rule
image_rule = path_rule (codes "image")

-- `SOURCE`
abbrev pub source_rule : Rule
source_rule = path_rule (codes "source")

-- an option with a value, by its name behind two hyphens
abbrev pub option_rule : Text → Rule
option_rule name = record (new_rule name) { long = Some name; value_names = 1; action = Some Set }

-- `--limit N`
abbrev pub limit_rule : Rule
limit_rule = option_rule (codes "limit")

-- `--trace FILE`
abbrev pub trace_rule : Rule
trace_rule = option_rule (codes "trace")

-- a flag, by its name behind two hyphens
abbrev pub flag_rule : Text → Rule
flag_rule name = record (new_rule name) { long = Some name; action = Some SetTrue }

-- `--lines FILE`
abbrev pub lines_rule : Rule
lines_rule = option_rule (codes "lines")

-- `--answers FILE`
abbrev pub answers_rule : Rule
answers_rule = option_rule (codes "answers")

-- `--board FILE`
abbrev pub board_rule : Rule
board_rule = option_rule (codes "board")

-- `--see NAME`
abbrev pub see_rule : Rule
see_rule = option_rule (codes "see")

-- `run IMAGE [--lines FILE] [--answers FILE | --board FILE] [--limit N]`
abbrev pub running_app : App
running_app =
    with_rule (with_rule (with_rule (with_rule (with_rule (new_app (codes "run")) image_rule) lines_rule) answers_rule)
    board_rule) limit_rule

-- `--pci`
abbrev pub pci_rule : Rule
pci_rule = flag_rule (codes "pci")

-- `--strict`
abbrev pub strict_rule : Rule
strict_rule = flag_rule (codes "strict")

-- the same, with `[--tree] [--words] [--see NAME] [--state]`
abbrev pub showing_app : App
showing_app =
    with_rule (with_rule (with_rule (with_rule running_app (flag_rule (codes "tree"))) (flag_rule (codes "words")))
    see_rule) (flag_rule (codes "state"))

-- and with `[--explain] [--pci] [--trace FILE] [--strict]`
abbrev pub run_app : App
run_app =
    with_rule (with_rule (with_rule (with_rule showing_app (flag_rule (codes "explain"))) pci_rule) trace_rule)
    strict_rule

-- `--calls FILE`
abbrev pub calls_rule : Rule
calls_rule = record (path_rule (codes "calls")) { long = Some (codes "calls") }

-- `client IMAGE --calls FILE [--lines FILE] [--answers FILE | --board FILE] [--limit N] [--explain] [--strict]`
abbrev pub client_app : App
client_app =
    with_rule (with_rule (with_rule (with_rule (with_rule (with_rule (with_rule (with_rule (new_app (codes "client"))
    image_rule) calls_rule) lines_rule) answers_rule) board_rule) limit_rule) (flag_rule (codes "explain"))) strict_rule

-- `[IMAGE]`
abbrev pub first_image_rule : Rule
first_image_rule = record (new_rule (codes "image")) { value_names = 1; action = Some Set }

-- `console [IMAGE] [--board FILE] [--limit N]`
abbrev pub console_app : App
console_app =
    with_rule (with_rule (with_rule (new_app (codes "console")) first_image_rule) board_rule) limit_rule

-- `--script FILE`
abbrev pub script_rule : Rule
script_rule = option_rule (codes "script")

-- `debug IMAGE (--script FILE | --interactive) [--lines FILE] [--answers FILE] [--limit N]`
abbrev pub debug_app : App
debug_app =
    with_rule (with_rule (with_rule (with_rule (with_rule (with_rule (new_app (codes "debug")) image_rule) script_rule)
    (flag_rule (codes "interactive"))) lines_rule) answers_rule) limit_rule

-- `--output FILE`, or `-o FILE`
abbrev pub output_rule : Rule
output_rule = record (option_rule (codes "output")) { short = Some 111 }

-- `tok SOURCE [--output FILE | --symbols | --listing]`
abbrev pub tok_app : App
tok_app =
    with_rule (with_rule (with_rule (with_rule (new_app (codes "tok")) source_rule) output_rule)
    (flag_rule (codes "symbols"))) (flag_rule (codes "listing"))

-- `detok IMAGE [[--names] [--indent] | --see] [--partial] [--pci]`
abbrev pub detok_app : App
detok_app =
    with_rule (with_rule (with_rule (with_rule (with_rule (with_rule (new_app (codes "detok")) image_rule)
    (flag_rule (codes "names"))) (flag_rule (codes "indent"))) (flag_rule (codes "see"))) (flag_rule (codes "partial")))
    pci_rule

-- `check IMAGE [--pci]`
abbrev pub check_app : App
check_app = with_rule (with_rule (new_app (codes "check")) image_rule) pci_rule

-- `ROM`
abbrev pub rom_rule : Rule
rom_rule = path_rule (codes "rom")

-- `pci ROM`
abbrev pub pci_app : App
pci_app = with_rule (new_app (codes "pci")) rom_rule

-- the application refuses a line with no subcommand
abbrev pub needing_subcommand : App → App
needing_subcommand a = record a { top = record a.top { subcommand_required = true } }

-- the application says its version
abbrev pub versioned : App → App
versioned a = record a { top = record a.top { has_version = true } }

-- `ofw`, with one of the eight
abbrev pub ofw_app : App
ofw_app =
    with_subcommand (with_subcommand (with_subcommand (with_subcommand (with_subcommand (with_subcommand
    (with_subcommand (with_subcommand (needing_subcommand (versioned (new_app (codes "ofw")))) run_app.top)
    client_app.top) console_app.top) debug_app.top) tok_app.top) detok_app.top) check_app.top) pci_app.top

-- the command has this shape, and no argument that all its subcommands share
abbrev pub IsBuilt : App → Command → Type 0
IsBuilt a c = (app_of c ≡ a) × ((out-Command c).has_globals ≡ false)

-- ---- what is asked

-- the number that a text has in decimal digits, where it is no greater than this
abbrev pub number_upto : ℕ → Text → Option ℕ
number_upto most text =
    if is_unsigned_in 0 most text then Some (digits_value 10 (without_leading_plus text)) else None

-- what stands before the last byte of a text, where that is this byte
abbrev pub before_last : ℕ → Text → Option Text
before_last b [] = None
before_last b (c ∷ []) = if c == b then Some [] else None
before_last b (c ∷ d ∷ rest) = option_map (λ front. c ∷ front) (before_last b (d ∷ rest))

-- the number that a text has before this byte, so many times, where that is no greater than 1,000,000,000
abbrev pub times_before : ℕ → ℕ → Text → Option ℕ
times_before each b text =
    option_and_then (λ front. option_map (λ n. n * each) (number_upto (1000000000 / each) front)) (before_last b text)

-- the first of two that is there
abbrev pub first_found : Option ℕ → Option ℕ → Option ℕ
first_found (Some n) other = Some n
first_found None other = other

-- the limit that a text gives: a number from 0 to 1,000,000,000, or of thousands, behind which `k` stands, or of
-- millions, behind which `M` does
abbrev pub limit_of : Text → Option ℕ
limit_of text =
    first_found (number_upto 1000000000 text)
    (first_found (times_before 1000 107 text) (times_before 1000000 77 text))

-- the limit that is given, or 1,000,000 where none is
abbrev pub limit_given : Option Text → Option ℕ
limit_given None = Some 1000000
limit_given (Some text) = limit_of text

abbrev pub limit_in : List Row → Option ℕ
limit_in rows = limit_given (first_of (codes "limit") rows)

-- the value of a flag
abbrev pub is_true : Option Text → Bool
is_true (Some value) = bytes_eq value (codes "true")
is_true None = false

-- whether a flag is given
abbrev pub has_flag : Text → List Row → Bool
has_flag name rows = is_true (first_of name rows)

-- what a listing is to say beyond names and operands
abbrev pub extras_in : List Row → Extras
extras_in rows = record { names = has_flag (codes "names") rows; indents = has_flag (codes "indent") rows }

-- what is to be listed: the definitions, or the tokens with what is said of them; nothing, where both are asked for
abbrev pub listing_of : Bool → Extras → Option Listing
listing_of false e = Some (listing.Tokens e)
listing_of true e = if e.names || e.indents then None else Some listing.Definitions

abbrev pub listing_in : List Row → Option Listing
listing_in rows = listing_of (has_flag (codes "see") rows) (extras_in rows)

-- what is to be printed behind what a run prints
abbrev pub appendix_in : List Row → Appendix
appendix_in rows = record {
  tree = has_flag (codes "tree") rows;
  words = has_flag (codes "words") rows;
  see = first_of (codes "see") rows;
  state = has_flag (codes "state") rows;
}

-- what is to answer the questions of a run, by the files of answers and of devices that are given: not both
abbrev pub outside_of : Option Text → Option Text → Option Outsiders
outside_of None None = Some standard
outside_of (Some answers) None = Some (answers_of answers)
outside_of None (Some board) = Some (board_of board)
outside_of (Some answers) (Some board) = None

abbrev pub outside_in : List Row → Option Outsiders
outside_in rows = outside_of (first_of (codes "answers") rows) (first_of (codes "board") rows)

-- what `run` asks for with an image
abbrev pub run_asked : List Row → Text → Option Asked
run_asked rows image =
    option_and_then
    (λ o.
    option_map
    (λ limit.
    a_run image (first_of (codes "lines") rows) o limit (appendix_in rows) (has_flag (codes "explain") rows)
    (has_flag (codes "pci") rows) (first_of (codes "trace") rows) (has_flag (codes "strict") rows))
    (limit_in rows))
    (outside_in rows)

-- what `client` asks for with an image: the calls of the file that is given, behind such a run
abbrev pub client_asked : List Row → Text → Option Asked
client_asked rows image =
    option_and_then
    (λ calls.
    option_and_then
    (λ o.
    option_map
    (λ limit.
    client_calls image calls (first_of (codes "lines") rows) o limit (has_flag (codes "explain") rows)
    (has_flag (codes "strict") rows))
    (limit_in rows))
    (outside_in rows))
    (first_of (codes "calls") rows)

-- what `console` asks for
abbrev pub console_asked : List Row → Option Asked
console_asked rows =
    option_map (λ limit. a_console (first_of (codes "image") rows) (first_of (codes "board") rows) limit)
    (limit_in rows)

-- what is to lead a debugger, by the script that is given and whether the terminal is to: one of both
abbrev pub guide_of : Option Text → Bool → Option Guides
guide_of (Some script) false = Some (script_of script)
guide_of None true = Some terminal
guide_of (Some script) true = None
guide_of None false = None

abbrev pub guide_in : List Row → Option Guides
guide_in rows = guide_of (first_of (codes "script") rows) (has_flag (codes "interactive") rows)

-- what `debug` asks for with an image: a run of it under what is to lead the debugger
abbrev pub debug_asked : List Row → Text → Option Asked
debug_asked rows image =
    option_and_then
    (λ guide.
    option_map
    (λ limit. a_debugging image guide (first_of (codes "lines") rows) (first_of (codes "answers") rows) limit)
    (limit_in rows))
    (guide_in rows)

-- what is to be made of a source: its image, to be printed or to be written to the file that is given, its symbols, or
-- the listing of its image; not two of these
abbrev pub product_of : Option Text → Bool → Bool → Option Products
product_of None false false = Some digits
product_of None true false = Some symbols
product_of None false true = Some beside
product_of None true true = None
product_of (Some output) false false = Some (kept_at output)
product_of (Some output) true listing = None
product_of (Some output) false true = None

abbrev pub product_in : List Row → Option Products
product_in rows =
    product_of (first_of (codes "output") rows) (has_flag (codes "symbols") rows) (has_flag (codes "listing") rows)

-- what `tok` asks for with a source
abbrev pub tok_asked : List Row → Text → Option Asked
tok_asked rows source = option_map (an_image source) (product_in rows)

-- what `detok` asks for with an image
abbrev pub detok_asked : List Row → Text → Option Asked
detok_asked rows image =
    option_map (λ l. a_listing image l (has_flag (codes "partial") rows) (has_flag (codes "pci") rows))
    (listing_in rows)

-- what `check` asks for with an image
abbrev pub check_asked : List Row → Text → Asked
check_asked rows image = a_look image (has_flag (codes "pci") rows)

-- what a subcommand of this name asks for with an image
abbrev pub asked_as : Text → List Row → Text → Option Asked
asked_as name rows image =
    if bytes_eq name (codes "run") then run_asked rows image
    else (if bytes_eq name (codes "client") then client_asked rows image
    else (if bytes_eq name (codes "debug") then debug_asked rows image
    else (if bytes_eq name (codes "detok") then detok_asked rows image
    else (if bytes_eq name (codes "check") then Some (check_asked rows image) else None))))

-- what a subcommand asks for, by its name and the rows that were found for it
abbrev pub asked_by : Text × List Row → Option Asked
asked_by p =
    if bytes_eq p.0 (codes "tok")
    then option_and_then (tok_asked p.1) (first_of (codes "source") p.1)
    else (if bytes_eq p.0 (codes "console") then console_asked p.1
    else (if bytes_eq p.0 (codes "pci") then option_map a_rom (first_of (codes "rom") p.1)
    else option_and_then (asked_as p.0 p.1) (first_of (codes "image") p.1)))

-- what a command line asks for, the program's name first
abbrev pub asks : List Text → Option Asked
asks words = option_and_then asked_by (subcommand_of ofw_app words)
