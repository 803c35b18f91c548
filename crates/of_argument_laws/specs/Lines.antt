-- What the lines of the usage text ask for, in plain words: `Asks` is that a line asks for something and has no fault.
use Rattle.std.specs.Prelude.{◌≡◌, ◌==◌, ◌∷◌, [], not, Bool, ℕ, List, false, Some, None, true, codes}
use Rattle.std.specs.Str.Parse.{digits_value, without_leading_plus}
use Rattle.clap.specs.ValueTests.{is_unsigned_in}
use Rattle.clap.specs.Words.{Text, fault_of}
use Rattle.of_arguments.specs.declared.request.Listing.{Listing}
use Rattle.of_arguments.specs.declared.request.Listing.TheVariants as listing
use Rattle.of_arguments.specs.Asked.{Asked, a_run, an_image, a_listing, answers_of}
use Rattle.of_arguments.specs.Asked.{a_console, a_debugging, a_look, a_rom, client_calls, no_appendix, script_of}
use Rattle.of_arguments.specs.Asked.{beside, board_of, digits, kept_at, standard, symbols, terminal}
use Rattle.of_arguments.specs.CommandLine.{asks, limit_of, ofw_app}

-- the tokens, and nothing beyond names and operands
abbrev pub plain_tokens : Listing
plain_tokens = listing.Tokens (record { names = false; indents = false })

-- a word that is no option: it has a first byte, and that is no hyphen
abbrev pub is_plain : Text → Bool
is_plain [] = false
is_plain (b ∷ rest) = not (b == 45)

-- the line asks for this, and has no fault
abbrev pub Asks : List Text → Asked → Type 0
Asks words what = (asks words ≡ Some what) × (fault_of ofw_app words ≡ [])

-- a run of an image with no limit given
abbrev pub AsksToRun : Text → Text → Type 0
AsksToRun program image =
    Asks (program ∷ codes "run" ∷ image ∷ []) (a_run image None standard 1000000 no_appendix false false None false)

-- a run with a limit given, which is so many steps
abbrev pub AsksForLimit : Text → Text → Text → ℕ → Type 0
AsksForLimit program image limit n =
    Asks (program ∷ codes "run" ∷ image ∷ codes "--limit" ∷ limit ∷ [])
    (a_run image None standard n no_appendix false false None false)

-- limits with `k` and `M`
abbrev pub LimitsAreCounted : Type 0
LimitsAreCounted = (limit_of (codes "10k") ≡ Some 10000) × (limit_of (codes "2M") ≡ Some 2000000)
    × (limit_of (codes "1000M") ≡ Some 1000000000) × (limit_of (codes "1001M") ≡ None)
    × (limit_of (codes "1000001k") ≡ None) × (limit_of (codes "1000000001") ≡ None) × (limit_of (codes "k") ≡ None)
    × (limit_of (codes "2m") ≡ None) × (limit_of (codes "1kM") ≡ None)

-- a run of which each step is written to a file
abbrev pub AsksToTrace : Text → Text → Text → Type 0
AsksToTrace program image trace =
    Asks (program ∷ codes "run" ∷ image ∷ codes "--trace" ∷ trace ∷ [])
    (a_run image None standard 1000000 no_appendix false false (Some trace) false)

-- a run at whose end a throw is a fault
abbrev pub AsksToBeStrict : Text → Text → Type 0
AsksToBeStrict program image =
    Asks (program ∷ codes "run" ∷ image ∷ codes "--strict" ∷ [])
    (a_run image None standard 1000000 no_appendix false false None true)

-- the symbols of a source
abbrev pub AsksForSymbols : Text → Text → Type 0
AsksForSymbols program source = Asks (program ∷ codes "tok" ∷ source ∷ codes "--symbols" ∷ []) (an_image source symbols)

-- the listing of the image of a source
abbrev pub AsksForListing : Text → Text → Type 0
AsksForListing program source = Asks (program ∷ codes "tok" ∷ source ∷ codes "--listing" ∷ []) (an_image source beside)

-- a run with the answers of a file
abbrev pub AsksWithAnswers : Text → Text → Text → Type 0
AsksWithAnswers program image answers =
    Asks (program ∷ codes "run" ∷ image ∷ codes "--answers" ∷ answers ∷ [])
    (a_run image None (answers_of answers) 1000000 no_appendix false false None false)

-- a run on the board of a file
abbrev pub AsksWithBoard : Text → Text → Text → Type 0
AsksWithBoard program image board =
    Asks (program ∷ codes "run" ∷ image ∷ codes "--board" ∷ board ∷ [])
    (a_run image None (board_of board) 1000000 no_appendix false false None false)

-- a run with the console lines of a file
abbrev pub AsksWithLines : Text → Text → Text → Type 0
AsksWithLines program image lines =
    Asks (program ∷ codes "run" ∷ image ∷ codes "--lines" ∷ lines ∷ [])
    (a_run image (Some lines) standard 1000000 no_appendix false false None false)

-- a run whose end is explained
abbrev pub AsksToExplain : Text → Text → Type 0
AsksToExplain program image =
    Asks (program ∷ codes "run" ∷ image ∷ codes "--explain" ∷ [])
    (a_run image None standard 1000000 no_appendix true false None false)

-- a run behind which the device tree is printed
abbrev pub AsksForTree : Text → Text → Type 0
AsksForTree program image =
    Asks (program ∷ codes "run" ∷ image ∷ codes "--tree" ∷ [])
    (a_run image None standard 1000000 (record no_appendix { tree = true }) false false None false)

-- a run behind which the words are printed
abbrev pub AsksForWords : Text → Text → Type 0
AsksForWords program image =
    Asks (program ∷ codes "run" ∷ image ∷ codes "--words" ∷ [])
    (a_run image None standard 1000000 (record no_appendix { words = true }) false false None false)

-- a run behind which the state is printed
abbrev pub AsksForState : Text → Text → Type 0
AsksForState program image =
    Asks (program ∷ codes "run" ∷ image ∷ codes "--state" ∷ [])
    (a_run image None standard 1000000 (record no_appendix { state = true }) false false None false)

-- a run behind which the word of a name is printed
abbrev pub AsksToSee : Text → Text → Text → Type 0
AsksToSee program image name =
    Asks (program ∷ codes "run" ∷ image ∷ codes "--see" ∷ name ∷ [])
    (a_run image None standard 1000000 (record no_appendix { see = Some name }) false false None false)

-- a run, and then the calls of a file
abbrev pub AsksForCalls : Text → Text → Text → Type 0
AsksForCalls program image calls =
    Asks (program ∷ codes "client" ∷ image ∷ codes "--calls" ∷ calls ∷ [])
    (client_calls image calls None standard 1000000 false false)

-- a console, alone or behind an image
abbrev pub AsksForConsole : Text → Type 0
AsksForConsole program = Asks (program ∷ codes "console" ∷ []) (a_console None None 1000000)

abbrev pub AsksForConsoleOn : Text → Text → Type 0
AsksForConsoleOn program image =
    Asks (program ∷ codes "console" ∷ image ∷ []) (a_console (Some image) None 1000000)

-- a run under the script of a file
abbrev pub AsksToDebug : Text → Text → Text → Type 0
AsksToDebug program image script =
    Asks (program ∷ codes "debug" ∷ image ∷ codes "--script" ∷ script ∷ [])
    (a_debugging image (script_of script) None None 1000000)

-- a run under the commands of the standard input
abbrev pub AsksForTerminal : Text → Text → Type 0
AsksForTerminal program image =
    Asks (program ∷ codes "debug" ∷ image ∷ codes "--interactive" ∷ []) (a_debugging image terminal None None 1000000)

-- a listing of an image
abbrev pub AsksToList : Text → Text → Type 0
AsksToList program image = Asks (program ∷ codes "detok" ∷ image ∷ []) (a_listing image plain_tokens false false)

-- a listing with a flag
abbrev pub AsksWith : Text → Text → Text → Listing → Bool → Type 0
AsksWith program image flag what partial =
    Asks (program ∷ codes "detok" ∷ image ∷ flag ∷ []) (a_listing image what partial false)

-- with names, with indents, up to what is wrong, or of the definitions
abbrev pub AsksForMore : Text → Text → Type 0
AsksForMore program image =
    AsksWith program image (codes "--names") (listing.Tokens (record { names = true; indents = false })) false
    × AsksWith program image (codes "--indent") (listing.Tokens (record { names = false; indents = true })) false
    × AsksWith program image (codes "--partial") plain_tokens true
    × AsksWith program image (codes "--see") listing.Definitions false

-- of a ROM of a PCI card: a run, a listing or a look at its FCode program, and the list of its images
abbrev pub AsksForPci : Text → Text → Type 0
AsksForPci program image =
    Asks (program ∷ codes "run" ∷ image ∷ codes "--pci" ∷ [])
    (a_run image None standard 1000000 no_appendix false true None false)
    × Asks (program ∷ codes "detok" ∷ image ∷ codes "--pci" ∷ []) (a_listing image plain_tokens false true)
    × Asks (program ∷ codes "check" ∷ image ∷ codes "--pci" ∷ []) (a_look image true)
    × Asks (program ∷ codes "pci" ∷ image ∷ []) (a_rom image)

-- a look at an image
abbrev pub AsksToCheck : Text → Text → Type 0
AsksToCheck program image = Asks (program ∷ codes "check" ∷ image ∷ []) (a_look image false)

-- the image of a source
abbrev pub AsksToTokenize : Text → Text → Type 0
AsksToTokenize program source = Asks (program ∷ codes "tok" ∷ source ∷ []) (an_image source digits)

-- the same, written to a file
abbrev pub AsksToKeep : Text → Text → Text → Type 0
AsksToKeep program source output =
    Asks (program ∷ codes "tok" ∷ source ∷ codes "--output" ∷ output ∷ []) (an_image source (kept_at output))
    × Asks (program ∷ codes "tok" ∷ source ∷ codes "-o" ∷ output ∷ []) (an_image source (kept_at output))

-- what the lines of the usage text ask for
abbrev pub LinesAsk : Type 0
LinesAsk = (program image : Text) → is_plain image ≡ true → AsksToRun program image × AsksToList program image
    × AsksToTokenize program image × AsksToExplain program image × AsksForTree program image
    × AsksForWords program image × AsksForState program image
    × AsksForConsole program × AsksForConsoleOn program image × AsksForMore program image
    × AsksToCheck program image × AsksForTerminal program image × AsksForPci program image
    × AsksToBeStrict program image × AsksForSymbols program image × AsksForListing program image
    × ((output : Text) → is_plain output ≡ true → AsksToKeep program image output)
    × ((calls : Text) → is_plain calls ≡ true → AsksForCalls program image calls)
    × ((script : Text) → is_plain script ≡ true → AsksToDebug program image script)
    × ((answers : Text) → is_plain answers ≡ true → AsksWithAnswers program image answers)
    × ((board : Text) → is_plain board ≡ true → AsksWithBoard program image board)
    × ((lines : Text) → is_plain lines ≡ true → AsksWithLines program image lines)
    × ((name : Text) → is_plain name ≡ true → AsksToSee program image name)
    × ((trace : Text) → is_plain trace ≡ true → AsksToTrace program image trace)
    × ((limit : Text) → is_plain limit ≡ true → is_unsigned_in 0 1000000000 limit ≡ true
    → AsksForLimit program image limit (digits_value 10 (without_leading_plus limit)))
    × ((limit : Text) (n : ℕ) → is_plain limit ≡ true → limit_of limit ≡ Some n → AsksForLimit program image limit n)
    × LimitsAreCounted
