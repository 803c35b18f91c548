-- The words that `see` prints with, by their names: each stands at its place of the list of written words.
use Rattle.std.proofs.Common.{◌≡◌, ◌++◌, ℕ, map, Some, None, Option, ap}
use Rattle.std.specs.Prelude.{codes, drop, get_or, replicate}
use Rattle.of_fcodes.specs.declared.console_words.CompilingWord.TheVariants as compiling
use Rattle.of_fcodes.specs.declared.console_words.ParsingWord.TheVariants as parsing
use Rattle.of_fcodes.specs.declared.words.DictionaryWord.TheVariants as dictionary
use Rattle.of_fcodes.specs.declared.words.Word.{Word}
use Rattle.of_fcodes.specs.declared.words.Word.TheVariants as word
use Rattle.of_fcodes.specs.Words.{Written, words, first_words, second_words, third_words, fourth_words, fifth_words}
use Rattle.of_fcodes.specs.Words.{sixth_words, seventh_words, eighth_words}
use Rattle.of_text.specs.Laws.{StreamWordsHaveNoName}
use Rattle.of_text.specs.Names.{written_named}

abbrev found : ℕ → Option Word
found k = get_or (map (λ (r : Written). written_named r.name) words) k None

abbrev listed : ℕ → Option Word
listed k = get_or (replicate 32 None ++ map (λ (r : Written). Some r.word) (drop 32 words)) k None

at_place : StreamWordsHaveNoName → (k : ℕ) → found k ≡ listed k
at_place law k = ap (λ l. get_or l k None) law

pub colon_named : StreamWordsHaveNoName → written_named (codes ":") ≡ Some (word.Parsing parsing.Colon)
unfolding words first_words second_words third_words fourth_words fifth_words sixth_words seventh_words eighth_words
colon_named law = at_place law 285

pub semicolon_named : StreamWordsHaveNoName → written_named (codes ";") ≡ Some (word.Compiling compiling.Semicolon)
unfolding words first_words second_words third_words fourth_words fifth_words sixth_words seventh_words eighth_words
semicolon_named law = at_place law 305

pub bracket_named : StreamWordsHaveNoName → written_named (codes "[") ≡ Some (word.Compiling compiling.LeaveCompiling)
unfolding words first_words second_words third_words fourth_words fifth_words sixth_words seventh_words eighth_words
bracket_named law = at_place law 326

pub enter_named : StreamWordsHaveNoName → written_named (codes "]") ≡ Some (word.Dictionary dictionary.EnterCompiling)
unfolding words first_words second_words third_words fourth_words fifth_words sixth_words seventh_words eighth_words
enter_named law = at_place law 278

pub hexadecimal_named : StreamWordsHaveNoName → written_named (codes "h#") ≡ Some (word.Parsing parsing.Hexadecimal)
unfolding words first_words second_words third_words fourth_words fifth_words sixth_words seventh_words eighth_words
hexadecimal_named law = at_place law 300

pub compile_comma_named : StreamWordsHaveNoName
    → written_named (codes "compile,") ≡ Some (word.Dictionary dictionary.CompileComma)
unfolding words first_words second_words third_words fourth_words fifth_words sixth_words seventh_words eighth_words
compile_comma_named law = at_place law 196

pub recurse_named : StreamWordsHaveNoName → written_named (codes "recurse") ≡ Some (word.Compiling compiling.Recurse)
unfolding words first_words second_words third_words fourth_words fifth_words sixth_words seventh_words eighth_words
recurse_named law = at_place law 324

pub to_named : StreamWordsHaveNoName → written_named (codes "to") ≡ Some (word.Parsing parsing.To)
unfolding words first_words second_words third_words fourth_words fifth_words sixth_words seventh_words eighth_words
to_named law = at_place law 296

pub comma_to_named : StreamWordsHaveNoName → written_named (codes "to,") ≡ Some (word.Compiling compiling.CommaTo)
unfolding words first_words second_words third_words fourth_words fifth_words sixth_words seventh_words eighth_words
comma_to_named law = at_place law 330

pub quote_named : StreamWordsHaveNoName → written_named (codes "\"") ≡ Some (word.Parsing parsing.String)
unfolding words first_words second_words third_words fourth_words fifth_words sixth_words seventh_words eighth_words
quote_named law = at_place law 298

pub roll_named : StreamWordsHaveNoName → written_named (codes "cs-roll") ≡ Some (word.Compiling compiling.ControlRoll)
unfolding words first_words second_words third_words fourth_words fifth_words sixth_words seventh_words eighth_words
roll_named law = at_place law 329

pub if_named : StreamWordsHaveNoName → written_named (codes "if") ≡ Some (word.Compiling compiling.If)
unfolding words first_words second_words third_words fourth_words fifth_words sixth_words seventh_words eighth_words
if_named law = at_place law 306

pub ahead_named : StreamWordsHaveNoName → written_named (codes "ahead") ≡ Some (word.Compiling compiling.Ahead)
unfolding words first_words second_words third_words fourth_words fifth_words sixth_words seventh_words eighth_words
ahead_named law = at_place law 309

pub begin_named : StreamWordsHaveNoName → written_named (codes "begin") ≡ Some (word.Compiling compiling.Begin)
unfolding words first_words second_words third_words fourth_words fifth_words sixth_words seventh_words eighth_words
begin_named law = at_place law 310

pub until_named : StreamWordsHaveNoName → written_named (codes "until") ≡ Some (word.Compiling compiling.Until)
unfolding words first_words second_words third_words fourth_words fifth_words sixth_words seventh_words eighth_words
until_named law = at_place law 313

pub again_named : StreamWordsHaveNoName → written_named (codes "again") ≡ Some (word.Compiling compiling.Again)
unfolding words first_words second_words third_words fourth_words fifth_words sixth_words seventh_words eighth_words
again_named law = at_place law 314

pub then_named : StreamWordsHaveNoName → written_named (codes "then") ≡ Some (word.Compiling compiling.Then)
unfolding words first_words second_words third_words fourth_words fifth_words sixth_words seventh_words eighth_words
then_named law = at_place law 308

pub do_named : StreamWordsHaveNoName → written_named (codes "do") ≡ Some (word.Compiling compiling.Do)
unfolding words first_words second_words third_words fourth_words fifth_words sixth_words seventh_words eighth_words
do_named law = at_place law 315

pub question_do_named : StreamWordsHaveNoName → written_named (codes "?do") ≡ Some (word.Compiling compiling.QuestionDo)
unfolding words first_words second_words third_words fourth_words fifth_words sixth_words seventh_words eighth_words
question_do_named law = at_place law 316

pub loop_named : StreamWordsHaveNoName → written_named (codes "loop") ≡ Some (word.Compiling compiling.Loop)
unfolding words first_words second_words third_words fourth_words fifth_words sixth_words seventh_words eighth_words
loop_named law = at_place law 317

pub plus_loop_named : StreamWordsHaveNoName → written_named (codes "+loop") ≡ Some (word.Compiling compiling.PlusLoop)
unfolding words first_words second_words third_words fourth_words fifth_words sixth_words seventh_words eighth_words
plus_loop_named law = at_place law 318

pub leave_named : StreamWordsHaveNoName → written_named (codes "leave") ≡ Some (word.Compiling compiling.Leave)
unfolding words first_words second_words third_words fourth_words fifth_words sixth_words seventh_words eighth_words
leave_named law = at_place law 319

pub case_named : StreamWordsHaveNoName → written_named (codes "case") ≡ Some (word.Compiling compiling.Case)
unfolding words first_words second_words third_words fourth_words fifth_words sixth_words seventh_words eighth_words
case_named law = at_place law 320

pub of_named : StreamWordsHaveNoName → written_named (codes "of") ≡ Some (word.Compiling compiling.Of)
unfolding words first_words second_words third_words fourth_words fifth_words sixth_words seventh_words eighth_words
of_named law = at_place law 321

pub end_of_named : StreamWordsHaveNoName → written_named (codes "endof") ≡ Some (word.Compiling compiling.EndOf)
unfolding words first_words second_words third_words fourth_words fifth_words sixth_words seventh_words eighth_words
end_of_named law = at_place law 322

pub end_case_named : StreamWordsHaveNoName → written_named (codes "endcase") ≡ Some (word.Compiling compiling.EndCase)
unfolding words first_words second_words third_words fourth_words fifth_words sixth_words seventh_words eighth_words
end_case_named law = at_place law 323
