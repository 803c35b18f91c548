-- What the lines of the usage text ask for.
use Rattle.std.proofs.Common.{not, true≢false, cond, ◌==◌, ◌∷◌, [], codes, ◌≡◌, ◌∙◌, ℕ, Bool, List, Option, Some, None}
use Rattle.std.proofs.Common.{true, false, refl, sym, ap, option_map}
use Rattle.std.specs.Str.Parse.{digits_value, without_leading_plus}
use Rattle.std.specs.Str.{bytes_eq}
use Rattle.std.specs.Option.{option_map_or}
use Rattle.clap.specs.Faults.{other_fault, flag_word_fault, bundle_fault, word_fault}
use Rattle.clap.specs.Kinds.{or_else}
use Rattle.clap.specs.Words.{Kinds}
use Rattle.clap.specs.Simple.{Shape, built_leaf, inherited}
use Rattle.clap.specs.Lexer.{long_of, short_of}
use Rattle.clap.specs.Walk.{word_met, option, Rule, Waiting, Held, trailing, Text, plain_word, subcommand_or_other}
use Rattle.clap.specs.Walk.{long_or_other, short_or_plain, idle, nothing_held, value}
use Rattle.clap.specs.declared.parser.matches.ValueSource.TheVariants.{CommandLine}
use Rattle.clap.specs.declared.builder.value_parser.Reading.TheVariants.{AsWritten}
use Rattle.clap.proofs.OnLiterals.{clap_on_literals}
use Rattle.clap.specs.ValueTests.{is_unsigned_in}
use Rattle.clap.specs.Words.{Text}
use Rattle.of_argument_laws.specs.Lines.{LinesAsk, is_plain, AsksToRun, AsksToList, AsksForLimit}
use Rattle.of_arguments.specs.CommandLine.{limit_of}
use Rattle.of_arguments.specs.Asked.{a_listing, a_look, a_rom, a_run, no_appendix, standard}
use Rattle.of_argument_laws.specs.Lines.{Asks, AsksToExplain, AsksWith, plain_tokens, AsksToKeep}
use Rattle.of_arguments.specs.CommandLine.{ofw_app, run_app}
use Rattle.of_argument_laws.specs.Lines.{AsksForCalls, AsksForTree, AsksToTokenize, AsksWithAnswers, AsksWithBoard}
use Rattle.of_argument_laws.specs.Lines.{AsksForConsole, AsksForConsoleOn, AsksForState, AsksForWords, AsksToSee}
use Rattle.of_argument_laws.specs.Lines.{AsksForTerminal, AsksToDebug}
use Rattle.of_arguments.specs.CommandLine.{debug_app}
use Rattle.of_argument_laws.specs.Lines.{AsksForListing, AsksForSymbols, AsksToBeStrict, AsksToTrace, AsksWithLines}
use Rattle.of_argument_laws.specs.Lines.{LimitsAreCounted}
use Rattle.of_argument_laws.specs.Lines.{AsksForPci, AsksToCheck}
use Rattle.of_arguments.specs.CommandLine.{check_app, client_app, pci_app}
use Rattle.of_arguments.specs.CommandLine.{console_app, detok_app, tok_app}
use Rattle.of_arguments.specs.declared.request.Listing.TheVariants as listing

-- ---- a word that begins with no hyphen is no option

no_dashes : (b : ℕ) (rest : Text) → (b == 45) ≡ false → bytes_eq (b ∷ rest) (45 ∷ 45 ∷ []) ≡ false
no_dashes b rest e = rw e refl

no_long : (b : ℕ) (rest : Text) → (b == 45) ≡ false → long_of (b ∷ rest) ≡ None
no_long b rest e = rw e refl

no_short : (b : ℕ) (rest : Text) → (b == 45) ≡ false → short_of (b ∷ rest) ≡ None
no_short b rest e = rw e refl

-- it is what waits for it that takes the word
word_is_plain : (c : List Rule) (w : Waiting) (p : ℕ) (b : ℕ) (rest : Text) (h : Held) → (b == 45) ≡ false
    → subcommand_or_other c None w p (b ∷ rest) h ≡ plain_word c w (b ∷ rest) h
word_is_plain c w p b rest h e =
    let word = b ∷ rest in
    let first : subcommand_or_other c None w p word h ≡ long_or_other c w word (long_of word) h =
    ap (λ (t : Bool). cond t (h, trailing p) (long_or_other c w word (long_of word) h)) (no_dashes b rest e) in
    let second : long_or_other c w word (long_of word) h ≡ short_or_plain c w word (short_of word) h =
    ap (λ (t : Option (Text × Option Text)). long_or_other c w word t h) (no_long b rest e) in
    first ∙ second ∙ ap (λ (t : Option Text). short_or_plain c w word t h) (no_short b rest e)

-- and it has no fault of its own
word_has_no_fault : (s : Shape) (b : ℕ) (rest : Text) (h : Held) → (b == 45) ≡ false
    → other_fault s None (b ∷ rest) h ≡ []
word_has_no_fault s b rest h e =
    let word = b ∷ rest in
    let again = s.args_override_self in
    let first : other_fault s None word h ≡ flag_word_fault s.rules again (long_of word) word h =
    ap (λ (t : Bool). cond t [] (flag_word_fault s.rules again (long_of word) word h)) (no_dashes b rest e) in
    let second = ap (λ (t : Option (Text × Option Text)). flag_word_fault s.rules again t word h) (no_long b rest e) in
    first ∙ second ∙ ap (λ (t : Option Text). option_map_or (λ flags. bundle_fault s.rules again flags h) t [])
    (no_short b rest e)

-- ---- the subcommands

run_shape : Shape
run_shape = built_leaf (inherited ofw_app.top run_app.top)

client_shape : Shape
client_shape = built_leaf (inherited ofw_app.top client_app.top)

console_shape : Shape
console_shape = built_leaf (inherited ofw_app.top console_app.top)

debug_shape : Shape
debug_shape = built_leaf (inherited ofw_app.top debug_app.top)

detok_shape : Shape
detok_shape = built_leaf (inherited ofw_app.top detok_app.top)

tok_shape : Shape
tok_shape = built_leaf (inherited ofw_app.top tok_app.top)

check_shape : Shape
check_shape = built_leaf (inherited ofw_app.top check_app.top)

pci_shape : Shape
pci_shape = built_leaf (inherited ofw_app.top pci_app.top)

-- what is held behind a path and the name of an option
with_path : Text → Text → Text → Held
with_path id name path = record {
  rows = record {
    id = id;
    values = path ∷ [];
    count = None;
    source = Some CommandLine;
    reading = AsWritten;
  } ∷ [];
  pending = Some (name, []);
  skip = 0;
}

-- of a run behind its image and `--limit`
with_image : Text → Held
with_image image = with_path (codes "image") (codes "limit") image

-- of a run behind its image and `--answers`
with_run : Text → Held
with_run image = with_path (codes "image") (codes "answers") image

-- of a run behind its image and `--board`
with_devices : Text → Held
with_devices image = with_path (codes "image") (codes "board") image

-- of a run behind its image and `--lines`
with_text : Text → Held
with_text image = with_path (codes "image") (codes "lines") image

-- of a run behind its image and `--trace`
with_trace : Text → Held
with_trace image = with_path (codes "image") (codes "trace") image

-- of a run behind its image and `--see`
with_name : Text → Held
with_name image = with_path (codes "image") (codes "see") image

-- of a client behind its image and `--calls`
with_client : Text → Held
with_client image = with_path (codes "image") (codes "calls") image

-- of a debugger behind its image and `--script`
with_script : Text → Held
with_script image = with_path (codes "image") (codes "script") image

-- of a source behind its path and `--output`
with_source : Text → Held
with_source source = with_path (codes "source") (codes "output") source

image_met : (s : Shape) (b : ℕ) (rest : Text) → (b == 45) ≡ false
    → word_met s.rules [] false idle 1 (b ∷ rest) nothing_held ≡ (nothing_held, value)
image_met s b rest e = word_is_plain s.rules idle 1 b rest nothing_held e

image_passes : (s : Shape) (b : ℕ) (rest : Text) → (b == 45) ≡ false
    → word_fault s [] false idle (b ∷ rest) nothing_held ≡ []
image_passes s b rest e = word_has_no_fault s b rest nothing_held e

limit_met : (image : Text) (b : ℕ) (rest : Text) → (b == 45) ≡ false
    → word_met run_shape.rules [] false (option (codes "limit")) 2 (b ∷ rest) (with_image image)
    ≡ plain_word run_shape.rules (option (codes "limit")) (b ∷ rest) (with_image image)
limit_met image b rest e = word_is_plain run_shape.rules (option (codes "limit")) 2 b rest (with_image image) e

calls_met : (image : Text) (b : ℕ) (rest : Text) → (b == 45) ≡ false
    → word_met client_shape.rules [] false (option (codes "calls")) 2 (b ∷ rest) (with_client image)
    ≡ plain_word client_shape.rules (option (codes "calls")) (b ∷ rest) (with_client image)
calls_met image b rest e = word_is_plain client_shape.rules (option (codes "calls")) 2 b rest (with_client image) e

calls_pass : (image : Text) (b : ℕ) (rest : Text) → (b == 45) ≡ false
    → word_fault client_shape [] false (option (codes "calls")) (b ∷ rest) (with_client image) ≡ []
calls_pass image b rest e = word_has_no_fault client_shape b rest (with_client image) e

script_met : (image : Text) (b : ℕ) (rest : Text) → (b == 45) ≡ false
    → word_met debug_shape.rules [] false (option (codes "script")) 2 (b ∷ rest) (with_script image)
    ≡ plain_word debug_shape.rules (option (codes "script")) (b ∷ rest) (with_script image)
script_met image b rest e = word_is_plain debug_shape.rules (option (codes "script")) 2 b rest (with_script image) e

script_passes : (image : Text) (b : ℕ) (rest : Text) → (b == 45) ≡ false
    → word_fault debug_shape [] false (option (codes "script")) (b ∷ rest) (with_script image) ≡ []
script_passes image b rest e = word_has_no_fault debug_shape b rest (with_script image) e

output_met : (source : Text) (b : ℕ) (rest : Text) → (b == 45) ≡ false
    → word_met tok_shape.rules [] false (option (codes "output")) 2 (b ∷ rest) (with_source source)
    ≡ plain_word tok_shape.rules (option (codes "output")) (b ∷ rest) (with_source source)
output_met source b rest e = word_is_plain tok_shape.rules (option (codes "output")) 2 b rest (with_source source) e

output_passes : (source : Text) (b : ℕ) (rest : Text) → (b == 45) ≡ false
    → word_fault tok_shape [] false (option (codes "output")) (b ∷ rest) (with_source source) ≡ []
output_passes source b rest e = word_has_no_fault tok_shape b rest (with_source source) e

answers_met : (image : Text) (b : ℕ) (rest : Text) → (b == 45) ≡ false
    → word_met run_shape.rules [] false (option (codes "answers")) 2 (b ∷ rest) (with_run image)
    ≡ plain_word run_shape.rules (option (codes "answers")) (b ∷ rest) (with_run image)
answers_met image b rest e = word_is_plain run_shape.rules (option (codes "answers")) 2 b rest (with_run image) e

answers_pass : (image : Text) (b : ℕ) (rest : Text) → (b == 45) ≡ false
    → word_fault run_shape [] false (option (codes "answers")) (b ∷ rest) (with_run image) ≡ []
answers_pass image b rest e = word_has_no_fault run_shape b rest (with_run image) e

board_met : (image : Text) (b : ℕ) (rest : Text) → (b == 45) ≡ false
    → word_met run_shape.rules [] false (option (codes "board")) 2 (b ∷ rest) (with_devices image)
    ≡ plain_word run_shape.rules (option (codes "board")) (b ∷ rest) (with_devices image)
board_met image b rest e = word_is_plain run_shape.rules (option (codes "board")) 2 b rest (with_devices image) e

board_passes : (image : Text) (b : ℕ) (rest : Text) → (b == 45) ≡ false
    → word_fault run_shape [] false (option (codes "board")) (b ∷ rest) (with_devices image) ≡ []
board_passes image b rest e = word_has_no_fault run_shape b rest (with_devices image) e

lines_met : (image : Text) (b : ℕ) (rest : Text) → (b == 45) ≡ false
    → word_met run_shape.rules [] false (option (codes "lines")) 2 (b ∷ rest) (with_text image)
    ≡ plain_word run_shape.rules (option (codes "lines")) (b ∷ rest) (with_text image)
lines_met image b rest e = word_is_plain run_shape.rules (option (codes "lines")) 2 b rest (with_text image) e

lines_pass : (image : Text) (b : ℕ) (rest : Text) → (b == 45) ≡ false
    → word_fault run_shape [] false (option (codes "lines")) (b ∷ rest) (with_text image) ≡ []
lines_pass image b rest e = word_has_no_fault run_shape b rest (with_text image) e

name_met : (image : Text) (b : ℕ) (rest : Text) → (b == 45) ≡ false
    → word_met run_shape.rules [] false (option (codes "see")) 2 (b ∷ rest) (with_name image)
    ≡ plain_word run_shape.rules (option (codes "see")) (b ∷ rest) (with_name image)
name_met image b rest e = word_is_plain run_shape.rules (option (codes "see")) 2 b rest (with_name image) e

name_passes : (image : Text) (b : ℕ) (rest : Text) → (b == 45) ≡ false
    → word_fault run_shape [] false (option (codes "see")) (b ∷ rest) (with_name image) ≡ []
name_passes image b rest e = word_has_no_fault run_shape b rest (with_name image) e

trace_met : (image : Text) (b : ℕ) (rest : Text) → (b == 45) ≡ false
    → word_met run_shape.rules [] false (option (codes "trace")) 2 (b ∷ rest) (with_trace image)
    ≡ plain_word run_shape.rules (option (codes "trace")) (b ∷ rest) (with_trace image)
trace_met image b rest e = word_is_plain run_shape.rules (option (codes "trace")) 2 b rest (with_trace image) e

trace_passes : (image : Text) (b : ℕ) (rest : Text) → (b == 45) ≡ false
    → word_fault run_shape [] false (option (codes "trace")) (b ∷ rest) (with_trace image) ≡ []
trace_passes image b rest e = word_has_no_fault run_shape b rest (with_trace image) e

limit_passes : (image : Text) (b : ℕ) (rest : Text) → (b == 45) ≡ false
    → word_fault run_shape [] false (option (codes "limit")) (b ∷ rest) (with_image image) ≡ []
limit_passes image b rest e = word_has_no_fault run_shape b rest (with_image image) e

-- ---- the lines

-- behind an image, alone or with a flag, nothing else can be wrong
image_alone : (k : Kinds) → k ≡ [] → or_else (or_else (or_else (or_else k []) []) []) [] ≡ []
image_alone k e = ap (λ (x : Kinds). or_else (or_else (or_else (or_else x []) []) []) []) e

-- nor behind an image, an option and its value
image_and_value : (k l : Kinds) → k ≡ [] → l ≡ []
    → or_else (or_else (or_else (or_else k []) (or_else (or_else l []) [])) []) [] ≡ []
image_and_value k l e f = rw (e, f) refl

runs : (program : Text) (b : ℕ) (rest : Text) → (b == 45) ≡ false → AsksToRun program (b ∷ rest)
unfolding clap_on_literals run_shape
runs program b rest e = (
  rw (image_met run_shape b rest e) refl,
  rw (image_met run_shape b rest e) (image_alone _ (image_passes run_shape b rest e)),
)

lists : (program : Text) (b : ℕ) (rest : Text) → (b == 45) ≡ false → AsksToList program (b ∷ rest)
unfolding clap_on_literals detok_shape
lists program b rest e = (
  rw (image_met detok_shape b rest e) refl,
  rw (image_met detok_shape b rest e, image_passes detok_shape b rest e)
      refl,
)

explained : (program : Text) (b : ℕ) (rest : Text) → (b == 45) ≡ false → AsksToExplain program (b ∷ rest)
unfolding clap_on_literals run_shape
explained program b rest e = (
  rw (image_met run_shape b rest e) refl,
  rw (image_met run_shape b rest e) (image_alone _ (image_passes run_shape b rest e)),
)

treed : (program : Text) (b : ℕ) (rest : Text) → (b == 45) ≡ false → AsksForTree program (b ∷ rest)
unfolding clap_on_literals run_shape
treed program b rest e = (
  rw (image_met run_shape b rest e) refl,
  rw (image_met run_shape b rest e) (image_alone _ (image_passes run_shape b rest e)),
)

worded : (program : Text) (b : ℕ) (rest : Text) → (b == 45) ≡ false → AsksForWords program (b ∷ rest)
unfolding clap_on_literals run_shape
worded program b rest e = (
  rw (image_met run_shape b rest e) refl,
  rw (image_met run_shape b rest e) (image_alone _ (image_passes run_shape b rest e)),
)

stated : (program : Text) (b : ℕ) (rest : Text) → (b == 45) ≡ false → AsksForState program (b ∷ rest)
unfolding clap_on_literals run_shape
stated program b rest e = (
  rw (image_met run_shape b rest e) refl,
  rw (image_met run_shape b rest e) (image_alone _ (image_passes run_shape b rest e)),
)

consoled : (program : Text) → AsksForConsole program
unfolding clap_on_literals console_shape
consoled program = (refl, refl)

consoled_on : (program : Text) (b : ℕ) (rest : Text) → (b == 45) ≡ false → AsksForConsoleOn program (b ∷ rest)
unfolding clap_on_literals console_shape
consoled_on program b rest e = (
  rw (image_met console_shape b rest e) refl,
  rw (image_met console_shape b rest e, image_passes console_shape b rest e) refl,
)

with_names : (program : Text) (b : ℕ) (rest : Text) → (b == 45) ≡ false
    → AsksWith program (b ∷ rest) (codes "--names") (listing.Tokens (record { names = true; indents = false })) false
unfolding clap_on_literals detok_shape
with_names program b rest e = (
  rw (image_met detok_shape b rest e) refl,
  rw (image_met detok_shape b rest e) (image_alone _ (image_passes detok_shape b rest e)),
)

with_indents : (program : Text) (b : ℕ) (rest : Text) → (b == 45) ≡ false
    → AsksWith program (b ∷ rest) (codes "--indent") (listing.Tokens (record { names = false; indents = true })) false
unfolding clap_on_literals detok_shape
with_indents program b rest e = (
  rw (image_met detok_shape b rest e) refl,
  rw (image_met detok_shape b rest e) (image_alone _ (image_passes detok_shape b rest e)),
)

with_part : (program : Text) (b : ℕ) (rest : Text) → (b == 45) ≡ false
    → AsksWith program (b ∷ rest) (codes "--partial") plain_tokens true
unfolding clap_on_literals detok_shape
with_part program b rest e = (
  rw (image_met detok_shape b rest e) refl,
  rw (image_met detok_shape b rest e) (image_alone _ (image_passes detok_shape b rest e)),
)

with_definitions : (program : Text) (b : ℕ) (rest : Text) → (b == 45) ≡ false
    → AsksWith program (b ∷ rest) (codes "--see") listing.Definitions false
unfolding clap_on_literals detok_shape
with_definitions program b rest e = (
  rw (image_met detok_shape b rest e) refl,
  rw (image_met detok_shape b rest e) (image_alone _ (image_passes detok_shape b rest e)),
)

tokenizes : (program : Text) (b : ℕ) (rest : Text) → (b == 45) ≡ false → AsksToTokenize program (b ∷ rest)
unfolding clap_on_literals tok_shape
tokenizes program b rest e =
    (rw (image_met tok_shape b rest e) refl, rw (image_met tok_shape b rest e, image_passes tok_shape b rest e) refl)

keeps : (program : Text) (b : ℕ) (rest : Text) (d : ℕ) (name : Text) → (b == 45) ≡ false → (d == 45) ≡ false
    → AsksToKeep program (b ∷ rest) (d ∷ name)
unfolding clap_on_literals tok_shape with_source with_path
keeps program b rest d name e f = (
  (
    rw (image_met tok_shape b rest e, output_met (b ∷ rest) d name f) refl,
    rw (
      image_met tok_shape b rest e,
      output_met (b ∷ rest) d name f,
      image_passes tok_shape b rest e,
      output_passes (b ∷ rest) d name f,
    ) refl,
  ),
  (
    rw (image_met tok_shape b rest e, output_met (b ∷ rest) d name f) refl,
    rw (
      image_met tok_shape b rest e,
      output_met (b ∷ rest) d name f,
      image_passes tok_shape b rest e,
      output_passes (b ∷ rest) d name f,
    ) refl,
  ),
)

checks : (program : Text) (b : ℕ) (rest : Text) → (b == 45) ≡ false → AsksToCheck program (b ∷ rest)
unfolding clap_on_literals check_shape
checks program b rest e = (
  rw (image_met check_shape b rest e) refl,
  rw (image_met check_shape b rest e, image_passes check_shape b rest e) refl,
)

runs_pci : (program : Text) (b : ℕ) (rest : Text) → (b == 45) ≡ false
    → Asks (program ∷ codes "run" ∷ (b ∷ rest) ∷ codes "--pci" ∷ [])
    (a_run (b ∷ rest) None standard 1000000 no_appendix false true None false)
unfolding clap_on_literals run_shape
runs_pci program b rest e = (
  rw (image_met run_shape b rest e) refl,
  rw (image_met run_shape b rest e) (image_alone _ (image_passes run_shape b rest e)),
)

lists_pci : (program : Text) (b : ℕ) (rest : Text) → (b == 45) ≡ false
    → Asks (program ∷ codes "detok" ∷ (b ∷ rest) ∷ codes "--pci" ∷ []) (a_listing (b ∷ rest) plain_tokens false true)
unfolding clap_on_literals detok_shape
lists_pci program b rest e = (
  rw (image_met detok_shape b rest e) refl,
  rw (image_met detok_shape b rest e) (image_alone _ (image_passes detok_shape b rest e)),
)

checks_pci : (program : Text) (b : ℕ) (rest : Text) → (b == 45) ≡ false
    → Asks (program ∷ codes "check" ∷ (b ∷ rest) ∷ codes "--pci" ∷ []) (a_look (b ∷ rest) true)
unfolding clap_on_literals check_shape
checks_pci program b rest e = (
  rw (image_met check_shape b rest e) refl,
  rw (image_met check_shape b rest e, image_passes check_shape b rest e) refl,
)

lists_roms : (program : Text) (b : ℕ) (rest : Text) → (b == 45) ≡ false
    → Asks (program ∷ codes "pci" ∷ (b ∷ rest) ∷ []) (a_rom (b ∷ rest))
unfolding clap_on_literals pci_shape
lists_roms program b rest e = (
  rw (image_met pci_shape b rest e) refl,
  rw (image_met pci_shape b rest e, image_passes pci_shape b rest e) refl,
)

asked_for_pci : (program : Text) (b : ℕ) (rest : Text) → (b == 45) ≡ false → AsksForPci program (b ∷ rest)
asked_for_pci program b rest e =
    (runs_pci program b rest e, lists_pci program b rest e, checks_pci program b rest e, lists_roms program b rest e)

calls_asked : (program : Text) (b : ℕ) (rest : Text) (d : ℕ) (name : Text) → (b == 45) ≡ false → (d == 45) ≡ false
    → AsksForCalls program (b ∷ rest) (d ∷ name)
unfolding clap_on_literals client_shape with_client with_path
calls_asked program b rest d name e f = (
  rw (image_met client_shape b rest e, calls_met (b ∷ rest) d name f) refl,
  rw (image_met client_shape b rest e, calls_met (b ∷ rest) d name f)
      (image_and_value _ _ (image_passes client_shape b rest e) (calls_pass (b ∷ rest) d name f)),
)

debugged : (program : Text) (b : ℕ) (rest : Text) (d : ℕ) (name : Text) → (b == 45) ≡ false → (d == 45) ≡ false
    → AsksToDebug program (b ∷ rest) (d ∷ name)
unfolding clap_on_literals debug_shape with_script with_path
debugged program b rest d name e f = (
  rw (image_met debug_shape b rest e, script_met (b ∷ rest) d name f) refl,
  rw (image_met debug_shape b rest e, script_met (b ∷ rest) d name f)
      (rw (image_passes debug_shape b rest e) (rw (script_passes (b ∷ rest) d name f) refl)),
)

led : (program : Text) (b : ℕ) (rest : Text) → (b == 45) ≡ false → AsksForTerminal program (b ∷ rest)
unfolding clap_on_literals debug_shape
led program b rest e = (
  rw (image_met debug_shape b rest e) refl,
  rw (image_met debug_shape b rest e) (image_alone _ (image_passes debug_shape b rest e)),
)

answered : (program : Text) (b : ℕ) (rest : Text) (d : ℕ) (name : Text) → (b == 45) ≡ false → (d == 45) ≡ false
    → AsksWithAnswers program (b ∷ rest) (d ∷ name)
unfolding clap_on_literals run_shape with_run with_path
answered program b rest d name e f = (
  rw (image_met run_shape b rest e, answers_met (b ∷ rest) d name f) refl,
  rw (image_met run_shape b rest e, answers_met (b ∷ rest) d name f)
      (image_and_value _ _ (image_passes run_shape b rest e) (answers_pass (b ∷ rest) d name f)),
)

boarded : (program : Text) (b : ℕ) (rest : Text) (d : ℕ) (name : Text) → (b == 45) ≡ false → (d == 45) ≡ false
    → AsksWithBoard program (b ∷ rest) (d ∷ name)
unfolding clap_on_literals run_shape with_devices with_path
boarded program b rest d name e f = (
  rw (image_met run_shape b rest e, board_met (b ∷ rest) d name f) refl,
  rw (image_met run_shape b rest e, board_met (b ∷ rest) d name f)
      (image_and_value _ _ (image_passes run_shape b rest e) (board_passes (b ∷ rest) d name f)),
)

lined : (program : Text) (b : ℕ) (rest : Text) (d : ℕ) (name : Text) → (b == 45) ≡ false → (d == 45) ≡ false
    → AsksWithLines program (b ∷ rest) (d ∷ name)
unfolding clap_on_literals run_shape with_text with_path
lined program b rest d name e f = (
  rw (image_met run_shape b rest e, lines_met (b ∷ rest) d name f) refl,
  rw (image_met run_shape b rest e, lines_met (b ∷ rest) d name f)
      (image_and_value _ _ (image_passes run_shape b rest e) (lines_pass (b ∷ rest) d name f)),
)

seen : (program : Text) (b : ℕ) (rest : Text) (d : ℕ) (name : Text) → (b == 45) ≡ false → (d == 45) ≡ false
    → AsksToSee program (b ∷ rest) (d ∷ name)
unfolding clap_on_literals run_shape with_name with_path
seen program b rest d name e f = (
  rw (image_met run_shape b rest e, name_met (b ∷ rest) d name f) refl,
  rw (image_met run_shape b rest e, name_met (b ∷ rest) d name f)
      (image_and_value _ _ (image_passes run_shape b rest e) (name_passes (b ∷ rest) d name f)),
)

traced : (program : Text) (b : ℕ) (rest : Text) (d : ℕ) (name : Text) → (b == 45) ≡ false → (d == 45) ≡ false
    → AsksToTrace program (b ∷ rest) (d ∷ name)
unfolding clap_on_literals run_shape with_trace with_path
traced program b rest d name e f = (
  rw (image_met run_shape b rest e, trace_met (b ∷ rest) d name f) refl,
  rw (image_met run_shape b rest e, trace_met (b ∷ rest) d name f)
      (image_and_value _ _ (image_passes run_shape b rest e) (trace_passes (b ∷ rest) d name f)),
)

strict : (program : Text) (b : ℕ) (rest : Text) → (b == 45) ≡ false → AsksToBeStrict program (b ∷ rest)
unfolding clap_on_literals run_shape
strict program b rest e = (
  rw (image_met run_shape b rest e) refl,
  rw (image_met run_shape b rest e) (image_alone _ (image_passes run_shape b rest e)),
)

symbols_asked : (program : Text) (b : ℕ) (rest : Text) → (b == 45) ≡ false → AsksForSymbols program (b ∷ rest)
unfolding clap_on_literals tok_shape
symbols_asked program b rest e = (
  rw (image_met tok_shape b rest e) refl,
  rw (image_met tok_shape b rest e) (image_alone _ (image_passes tok_shape b rest e)),
)

listing_asked : (program : Text) (b : ℕ) (rest : Text) → (b == 45) ≡ false → AsksForListing program (b ∷ rest)
unfolding clap_on_literals tok_shape
listing_asked program b rest e = (
  rw (image_met tok_shape b rest e) refl,
  rw (image_met tok_shape b rest e) (image_alone _ (image_passes tok_shape b rest e)),
)

-- a number in the range of limits is one
number_read : (limit : Text) → is_unsigned_in 0 1000000000 limit ≡ true
    → limit_of limit ≡ Some (digits_value 10 (without_leading_plus limit))
number_read limit e = rw e refl

counted : LimitsAreCounted
counted = (refl, refl, refl, refl, refl, refl, refl, refl, refl)

limits : (program : Text) (b : ℕ) (rest : Text) (d : ℕ) (digits : Text) (n : ℕ) → (b == 45) ≡ false
    → (d == 45) ≡ false → limit_of (d ∷ digits) ≡ Some n → AsksForLimit program (b ∷ rest) (d ∷ digits) n
unfolding clap_on_literals run_shape with_image with_path
limits program b rest d digits n e f number = (
  rw (image_met run_shape b rest e, limit_met (b ∷ rest) d digits f)
      (ap (λ (n : Option ℕ). option_map (λ n. a_run (b ∷ rest) None standard n no_appendix false false None false) n)
      number),
  rw (image_met run_shape b rest e, limit_met (b ∷ rest) d digits f)
      (image_and_value _ _ (image_passes run_shape b rest e) (limit_passes (b ∷ rest) d digits f)),
)

hyphenless : (b : ℕ) → not (b == 45) ≡ true → (b == 45) ≡ false
hyphenless b e = go (b == 45) refl e
  where
    go : (t : Bool) → (b == 45) ≡ t → not t ≡ true → (b == 45) ≡ false
    go true is e = absurd (true≢false (sym e))
    go false is e = is

pub lines_ask : LinesAsk
lines_ask program [] e = absurd (true≢false (sym e))
lines_ask program (b ∷ rest) e = (
  runs program b rest (hyphenless b e),
  lists program b rest (hyphenless b e),
  tokenizes program b rest (hyphenless b e),
  explained program b rest (hyphenless b e),
  treed program b rest (hyphenless b e),
  worded program b rest (hyphenless b e),
  stated program b rest (hyphenless b e),
  consoled program,
  consoled_on program b rest (hyphenless b e),
  (
    with_names program b rest (hyphenless b e),
    with_indents program b rest (hyphenless b e),
    with_part program b rest (hyphenless b e),
    with_definitions program b rest (hyphenless b e),
  ),
  checks program b rest (hyphenless b e),
  led program b rest (hyphenless b e),
  asked_for_pci program b rest (hyphenless b e),
  strict program b rest (hyphenless b e),
  symbols_asked program b rest (hyphenless b e),
  listing_asked program b rest (hyphenless b e),
  kept,
  called,
  with_steps,
  with_answers,
  with_board,
  with_lines,
  with_seen,
  with_lines_of_steps,
  numbered,
  limited,
  counted,
)
  where
    kept : (output : Text) → is_plain output ≡ true → AsksToKeep program (b ∷ rest) output
    kept [] f = absurd (true≢false (sym f))
    kept (d ∷ name) f = keeps program b rest d name (hyphenless b e) (hyphenless d f)

    called : (calls : Text) → is_plain calls ≡ true → AsksForCalls program (b ∷ rest) calls
    called [] f = absurd (true≢false (sym f))
    called (d ∷ name) f = calls_asked program b rest d name (hyphenless b e) (hyphenless d f)

    with_steps : (script : Text) → is_plain script ≡ true → AsksToDebug program (b ∷ rest) script
    with_steps [] f = absurd (true≢false (sym f))
    with_steps (d ∷ name) f = debugged program b rest d name (hyphenless b e) (hyphenless d f)

    with_answers : (answers : Text) → is_plain answers ≡ true → AsksWithAnswers program (b ∷ rest) answers
    with_answers [] f = absurd (true≢false (sym f))
    with_answers (d ∷ name) f = answered program b rest d name (hyphenless b e) (hyphenless d f)

    with_board : (board : Text) → is_plain board ≡ true → AsksWithBoard program (b ∷ rest) board
    with_board [] f = absurd (true≢false (sym f))
    with_board (d ∷ name) f = boarded program b rest d name (hyphenless b e) (hyphenless d f)

    with_lines : (lines : Text) → is_plain lines ≡ true → AsksWithLines program (b ∷ rest) lines
    with_lines [] f = absurd (true≢false (sym f))
    with_lines (d ∷ name) f = lined program b rest d name (hyphenless b e) (hyphenless d f)

    with_seen : (name : Text) → is_plain name ≡ true → AsksToSee program (b ∷ rest) name
    with_seen [] f = absurd (true≢false (sym f))
    with_seen (d ∷ name) f = seen program b rest d name (hyphenless b e) (hyphenless d f)

    with_lines_of_steps : (trace : Text) → is_plain trace ≡ true → AsksToTrace program (b ∷ rest) trace
    with_lines_of_steps [] f = absurd (true≢false (sym f))
    with_lines_of_steps (d ∷ name) f = traced program b rest d name (hyphenless b e) (hyphenless d f)

    limited : (limit : Text) (n : ℕ) → is_plain limit ≡ true → limit_of limit ≡ Some n
        → AsksForLimit program (b ∷ rest) limit n
    limited [] n f number = absurd (true≢false (sym f))
    limited (d ∷ digits) n f number =
        limits program b rest d digits n (hyphenless b e) (hyphenless d f) number

    numbered : (limit : Text) → is_plain limit ≡ true → is_unsigned_in 0 1000000000 limit ≡ true
        → AsksForLimit program (b ∷ rest) limit (digits_value 10 (without_leading_plus limit))
    numbered [] f number = absurd (true≢false (sym f))
    numbered (d ∷ digits) f number =
        limits program b rest d digits (digits_value 10 (without_leading_plus (d ∷ digits))) (hyphenless b e)
        (hyphenless d f) (number_read (d ∷ digits) number)
