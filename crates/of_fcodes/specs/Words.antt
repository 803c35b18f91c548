-- The written words in their order (own: the tokens of the stream, the ordinary words, and the words of the
-- console without an FCode): name and word. The place of a word is its number.
use Rattle.std.specs.Prelude.{ℕ, List, [], ◌∷◌, ◌++◌, codes}
use Rattle.of_fcodes.specs.declared.words.Word.{Word}
use Rattle.of_fcodes.specs.declared.words.Word.TheVariants.{Stream, Primitive, Printing, Heap, Keys, Returns}
use Rattle.of_fcodes.specs.declared.words.Word.TheVariants.{Dictionary, Throws, Properties, Tree, Devices, Console}
use Rattle.of_fcodes.specs.declared.words.Word.TheVariants.{Parsing, Compiling}
use Rattle.of_fcodes.specs.declared.words.PrimitiveWord.TheVariants.{Arithmetic, Comparing, Stacks, Addresses, Memory}
use Rattle.of_fcodes.specs.declared.words.PrimitiveWord.TheVariants.{Splitting, Text, Numbers}
use Rattle.of_fcodes.specs.declared.words.StreamWord.TheVariants as stream
use Rattle.of_fcodes.specs.declared.words.ArithmeticWord.TheVariants as arithmetic
use Rattle.of_fcodes.specs.declared.words.ComparingWord.TheVariants as comparing
use Rattle.of_fcodes.specs.declared.words.StacksWord.TheVariants as stacks
use Rattle.of_fcodes.specs.declared.words.AddressesWord.TheVariants as addresses
use Rattle.of_fcodes.specs.declared.words.MemoryWord.TheVariants as memory
use Rattle.of_fcodes.specs.declared.words.SplittingWord.TheVariants as splitting
use Rattle.of_fcodes.specs.declared.words.TextWord.TheVariants as text
use Rattle.of_fcodes.specs.declared.words.NumbersWord.TheVariants as numbers
use Rattle.of_fcodes.specs.declared.words.PrintingWord.TheVariants as printing
use Rattle.of_fcodes.specs.declared.words.HeapWord.TheVariants as heap
use Rattle.of_fcodes.specs.declared.words.KeysWord.TheVariants as keys
use Rattle.of_fcodes.specs.declared.words.ReturnsWord.TheVariants as returns
use Rattle.of_fcodes.specs.declared.words.DictionaryWord.TheVariants as dictionary
use Rattle.of_fcodes.specs.declared.words.ThrowsWord.TheVariants as throws
use Rattle.of_fcodes.specs.declared.words.PropertiesWord.TheVariants as properties
use Rattle.of_fcodes.specs.declared.words.TreeWord.TheVariants as tree
use Rattle.of_fcodes.specs.declared.words.DevicesWord.TheVariants as devices
use Rattle.of_fcodes.specs.declared.console_words.ConsoleWord.TheVariants as console
use Rattle.of_fcodes.specs.declared.console_words.ParsingWord.TheVariants as parsing
use Rattle.of_fcodes.specs.declared.console_words.CompilingWord.TheVariants as compiling

pub record Written : Type 0 where
  pub name : List ℕ
  pub word : Word

abbrev pub written : List ℕ → Word → Written
written name word = record { name = name; word = word }

unfoldable pub first_words : List Written
first_words =
    written (codes "end0") (Stream stream.End0) ∷
    written (codes "end1") (Stream stream.End1) ∷
    written (codes "b(lit)") (Stream stream.Literal) ∷
    written (codes "b(')") (Stream stream.Tick) ∷
    written (codes "b(\")") (Stream stream.String) ∷
    written (codes "bbranch") (Stream stream.Branch) ∷
    written (codes "b?branch") (Stream stream.BranchIfZero) ∷
    written (codes "b(loop)") (Stream stream.Loop) ∷
    written (codes "b(+loop)") (Stream stream.PlusLoop) ∷
    written (codes "b(do)") (Stream stream.Do) ∷
    written (codes "b(?do)") (Stream stream.QuestionDo) ∷
    written (codes "b(leave)") (Stream stream.Leave) ∷
    written (codes "b(case)") (Stream stream.Case) ∷
    written (codes "b(of)") (Stream stream.Of) ∷
    written (codes "b(endof)") (Stream stream.EndOf) ∷
    written (codes "b(endcase)") (Stream stream.EndCase) ∷
    written (codes "b(<mark)") (Stream stream.Mark) ∷
    written (codes "b(>resolve)") (Stream stream.Resolve) ∷
    written (codes "new-token") (Stream stream.NewToken) ∷
    written (codes "named-token") (Stream stream.NamedToken) ∷
    written (codes "external-token") (Stream stream.ExternalToken) ∷
    written (codes "b(:)") (Stream stream.Colon) ∷
    written (codes "b(;)") (Stream stream.Semicolon) ∷
    written (codes "b(value)") (Stream stream.Value) ∷
    written (codes "b(constant)") (Stream stream.Constant) ∷
    written (codes "b(variable)") (Stream stream.Variable) ∷
    written (codes "b(create)") (Stream stream.Create) ∷
    written (codes "b(defer)") (Stream stream.Defer) ∷
    written (codes "b(buffer:)") (Stream stream.Buffer) ∷
    written (codes "b(field)") (Stream stream.Field) ∷
    written (codes "b(to)") (Stream stream.To) ∷
    written (codes "offset16") (Stream stream.Offset16) ∷
    written (codes "+") (Primitive (Arithmetic arithmetic.Plus)) ∷
    written (codes "-") (Primitive (Arithmetic arithmetic.Minus)) ∷
    written (codes "*") (Primitive (Arithmetic arithmetic.Times)) ∷
    written (codes "and") (Primitive (Arithmetic arithmetic.And)) ∷
    written (codes "or") (Primitive (Arithmetic arithmetic.Or)) ∷
    written (codes "xor") (Primitive (Arithmetic arithmetic.Xor)) ∷
    written (codes "min") (Primitive (Arithmetic arithmetic.Min)) ∷
    written (codes "max") (Primitive (Arithmetic arithmetic.Max)) ∷
    written (codes "/") (Primitive (Arithmetic arithmetic.Slash)) ∷
    written (codes "mod") (Primitive (Arithmetic arithmetic.Mod)) ∷
    []

unfoldable pub second_words : List Written
second_words =
    written (codes "/mod") (Primitive (Arithmetic arithmetic.SlashMod)) ∷
    written (codes "u/mod") (Primitive (Arithmetic arithmetic.UnsignedSlashMod)) ∷
    written (codes "invert") (Primitive (Arithmetic arithmetic.Invert)) ∷
    written (codes "negate") (Primitive (Arithmetic arithmetic.Negate)) ∷
    written (codes "abs") (Primitive (Arithmetic arithmetic.Abs)) ∷
    written (codes "2/") (Primitive (Arithmetic arithmetic.Half)) ∷
    written (codes "u2/") (Primitive (Arithmetic arithmetic.UnsignedHalf)) ∷
    written (codes "2*") (Primitive (Arithmetic arithmetic.Twice)) ∷
    written (codes "lshift") (Primitive (Arithmetic arithmetic.LeftShift)) ∷
    written (codes "rshift") (Primitive (Arithmetic arithmetic.RightShift)) ∷
    written (codes ">>a") (Primitive (Arithmetic arithmetic.SignedShift)) ∷
    written (codes "um*") (Primitive (Arithmetic arithmetic.WideTimes)) ∷
    written (codes "um/mod") (Primitive (Arithmetic arithmetic.WideSlashMod)) ∷
    written (codes "d+") (Primitive (Arithmetic arithmetic.DoublePlus)) ∷
    written (codes "d-") (Primitive (Arithmetic arithmetic.DoubleMinus)) ∷
    written (codes "0=") (Primitive (Comparing comparing.IsZero)) ∷
    written (codes "0<>") (Primitive (Comparing comparing.IsNotZero)) ∷
    written (codes "0<") (Primitive (Comparing comparing.IsNegative)) ∷
    written (codes "0<=") (Primitive (Comparing comparing.IsNotPositive)) ∷
    written (codes "0>") (Primitive (Comparing comparing.IsPositive)) ∷
    written (codes "0>=") (Primitive (Comparing comparing.IsNotNegative)) ∷
    written (codes "<") (Primitive (Comparing comparing.IsLess)) ∷
    written (codes ">") (Primitive (Comparing comparing.IsGreater)) ∷
    written (codes "=") (Primitive (Comparing comparing.IsEqual)) ∷
    written (codes "<>") (Primitive (Comparing comparing.IsNotEqual)) ∷
    written (codes ">=") (Primitive (Comparing comparing.IsAtLeast)) ∷
    written (codes "<=") (Primitive (Comparing comparing.IsAtMost)) ∷
    written (codes "u>") (Primitive (Comparing comparing.IsAbove)) ∷
    written (codes "u<=") (Primitive (Comparing comparing.IsNotAbove)) ∷
    written (codes "u<") (Primitive (Comparing comparing.IsBelow)) ∷
    written (codes "u>=") (Primitive (Comparing comparing.IsNotBelow)) ∷
    written (codes "between") (Primitive (Comparing comparing.Between)) ∷
    written (codes "within") (Primitive (Comparing comparing.Within)) ∷
    written (codes "drop") (Primitive (Stacks stacks.Drop)) ∷
    written (codes "dup") (Primitive (Stacks stacks.Dup)) ∷
    written (codes "over") (Primitive (Stacks stacks.Over)) ∷
    written (codes "swap") (Primitive (Stacks stacks.Swap)) ∷
    written (codes "rot") (Primitive (Stacks stacks.Rot)) ∷
    written (codes "-rot") (Primitive (Stacks stacks.MinusRot)) ∷
    written (codes "tuck") (Primitive (Stacks stacks.Tuck)) ∷
    written (codes "nip") (Primitive (Stacks stacks.Nip)) ∷
    written (codes "pick") (Primitive (Stacks stacks.Pick)) ∷
    []

unfoldable pub third_words : List Written
third_words =
    written (codes "roll") (Primitive (Stacks stacks.Roll)) ∷
    written (codes "?dup") (Primitive (Stacks stacks.QuestionDup)) ∷
    written (codes "depth") (Primitive (Stacks stacks.Depth)) ∷
    written (codes "2drop") (Primitive (Stacks stacks.TwoDrop)) ∷
    written (codes "2dup") (Primitive (Stacks stacks.TwoDup)) ∷
    written (codes "2over") (Primitive (Stacks stacks.TwoOver)) ∷
    written (codes "2swap") (Primitive (Stacks stacks.TwoSwap)) ∷
    written (codes "2rot") (Primitive (Stacks stacks.TwoRot)) ∷
    written (codes ">r") (Returns returns.ToReturn) ∷
    written (codes "r>") (Returns returns.FromReturn) ∷
    written (codes "r@") (Returns returns.FetchReturn) ∷
    written (codes "unloop") (Returns returns.Unloop) ∷
    written (codes "i") (Returns returns.Index) ∷
    written (codes "j") (Returns returns.OuterIndex) ∷
    written (codes "exit") (Returns returns.Exit) ∷
    written (codes "execute") (Returns returns.Execute) ∷
    written (codes "/c") (Primitive (Addresses addresses.ByteSize)) ∷
    written (codes "/w") (Primitive (Addresses addresses.WordSize)) ∷
    written (codes "/l") (Primitive (Addresses addresses.LongSize)) ∷
    written (codes "/n") (Primitive (Addresses addresses.CellSize)) ∷
    written (codes "ca+") (Primitive (Addresses addresses.ByteIndexed)) ∷
    written (codes "wa+") (Primitive (Addresses addresses.WordIndexed)) ∷
    written (codes "la+") (Primitive (Addresses addresses.LongIndexed)) ∷
    written (codes "na+") (Primitive (Addresses addresses.CellIndexed)) ∷
    written (codes "char+") (Primitive (Addresses addresses.NextByte)) ∷
    written (codes "wa1+") (Primitive (Addresses addresses.NextWord)) ∷
    written (codes "la1+") (Primitive (Addresses addresses.NextLong)) ∷
    written (codes "cell+") (Primitive (Addresses addresses.NextCell)) ∷
    written (codes "chars") (Primitive (Addresses addresses.Bytes)) ∷
    written (codes "/w*") (Primitive (Addresses addresses.Words)) ∷
    written (codes "/l*") (Primitive (Addresses addresses.Longs)) ∷
    written (codes "cells") (Primitive (Addresses addresses.Cells)) ∷
    written (codes "aligned") (Primitive (Addresses addresses.Aligned)) ∷
    written (codes "here") (Primitive (Addresses addresses.Here)) ∷
    written (codes "bounds") (Primitive (Addresses addresses.Bounds)) ∷
    written (codes "on") (Primitive (Memory memory.On)) ∷
    written (codes "off") (Primitive (Memory memory.Off)) ∷
    written (codes "+!") (Primitive (Memory memory.PlusStore)) ∷
    written (codes "@") (Primitive (Memory memory.Fetch)) ∷
    written (codes "l@") (Primitive (Memory memory.FetchLong)) ∷
    written (codes "w@") (Primitive (Memory memory.FetchWord)) ∷
    written (codes "<w@") (Primitive (Memory memory.FetchSignedWord)) ∷
    []

unfoldable pub fourth_words : List Written
fourth_words =
    written (codes "c@") (Primitive (Memory memory.FetchByte)) ∷
    written (codes "!") (Primitive (Memory memory.Store)) ∷
    written (codes "l!") (Primitive (Memory memory.StoreLong)) ∷
    written (codes "w!") (Primitive (Memory memory.StoreWord)) ∷
    written (codes "c!") (Primitive (Memory memory.StoreByte)) ∷
    written (codes "2@") (Primitive (Memory memory.FetchTwo)) ∷
    written (codes "2!") (Primitive (Memory memory.StoreTwo)) ∷
    written (codes "move") (Primitive (Memory memory.Move)) ∷
    written (codes "fill") (Primitive (Memory memory.Fill)) ∷
    written (codes "comp") (Primitive (Memory memory.Compare)) ∷
    written (codes "c,") (Primitive (Memory memory.CommaByte)) ∷
    written (codes "w,") (Primitive (Memory memory.CommaWord)) ∷
    written (codes "l,") (Primitive (Memory memory.CommaLong)) ∷
    written (codes ",") (Primitive (Memory memory.Comma)) ∷
    written (codes "alloc-mem") (Heap heap.AllocMem) ∷
    written (codes "free-mem") (Primitive (Memory memory.FreeMem)) ∷
    written (codes "lwsplit") (Primitive (Splitting splitting.Lwsplit)) ∷
    written (codes "wljoin") (Primitive (Splitting splitting.Wljoin)) ∷
    written (codes "lbsplit") (Primitive (Splitting splitting.Lbsplit)) ∷
    written (codes "bljoin") (Primitive (Splitting splitting.Bljoin)) ∷
    written (codes "wbsplit") (Primitive (Splitting splitting.Wbsplit)) ∷
    written (codes "bwjoin") (Primitive (Splitting splitting.Bwjoin)) ∷
    written (codes "wbflip") (Primitive (Splitting splitting.Wbflip)) ∷
    written (codes "lwflip") (Primitive (Splitting splitting.Lwflip)) ∷
    written (codes "lbflip") (Primitive (Splitting splitting.Lbflip)) ∷
    written (codes "upc") (Primitive (Text text.UpperCase)) ∷
    written (codes "lcc") (Primitive (Text text.LowerCase)) ∷
    written (codes "pack") (Primitive (Text text.Pack)) ∷
    written (codes "count") (Primitive (Text text.Count)) ∷
    written (codes "key?") (Keys keys.KeyReady) ∷
    written (codes "key") (Keys keys.Key) ∷
    written (codes "emit") (Printing printing.Emit) ∷
    written (codes "type") (Printing printing.«Type») ∷
    written (codes "cr") (Printing printing.CarriageReturn) ∷
    written (codes "bl") (Primitive (Text text.Blank)) ∷
    written (codes "bs") (Primitive (Text text.Backspace)) ∷
    written (codes "bell") (Primitive (Text text.Bell)) ∷
    written (codes "left-parse-string") (Primitive (Text text.LeftParseString)) ∷
    written (codes "parse-2int") (Primitive (Text text.ParseTwoInts)) ∷
    written (codes "<#") (Primitive (Numbers numbers.Begin)) ∷
    written (codes "hold") (Primitive (Numbers numbers.Hold)) ∷
    written (codes "sign") (Primitive (Numbers numbers.Sign)) ∷
    []

unfoldable pub fifth_words : List Written
fifth_words =
    written (codes "#") (Primitive (Numbers numbers.NextDigit)) ∷
    written (codes "#s") (Primitive (Numbers numbers.AllDigits)) ∷
    written (codes "#>") (Primitive (Numbers numbers.End)) ∷
    written (codes "u#") (Primitive (Numbers numbers.UnsignedDigit)) ∷
    written (codes "u#s") (Primitive (Numbers numbers.UnsignedDigits)) ∷
    written (codes "u#>") (Primitive (Numbers numbers.UnsignedEnd)) ∷
    written (codes ".") (Printing printing.Dot) ∷
    written (codes "u.") (Printing printing.UnsignedDot) ∷
    written (codes ".r") (Printing printing.DotRight) ∷
    written (codes "u.r") (Printing printing.UnsignedDotRight) ∷
    written (codes ".s") (Printing printing.DotStack) ∷
    written (codes "base") (Primitive (Numbers numbers.Base)) ∷
    written (codes "$number") (Primitive (Numbers numbers.ParseNumber)) ∷
    written (codes "digit") (Primitive (Numbers numbers.Digit)) ∷
    written (codes "-1") (Primitive (Numbers numbers.MinusOne)) ∷
    written (codes "0") (Primitive (Numbers numbers.Zero)) ∷
    written (codes "1") (Primitive (Numbers numbers.One)) ∷
    written (codes "2") (Primitive (Numbers numbers.Two)) ∷
    written (codes "3") (Primitive (Numbers numbers.Three)) ∷
    written (codes "noop") (Primitive (Numbers numbers.Noop)) ∷
    written (codes "fcode-revision") (Primitive (Numbers numbers.FcodeRevision)) ∷
    written (codes "body>") (Dictionary dictionary.FromBody) ∷
    written (codes ">body") (Dictionary dictionary.ToBody) ∷
    written (codes "$find") (Dictionary dictionary.Find) ∷
    written (codes "evaluate") (Dictionary dictionary.Evaluate) ∷
    written (codes "get-token") (Dictionary dictionary.GetToken) ∷
    written (codes "set-token") (Dictionary dictionary.SetToken) ∷
    written (codes "state") (Dictionary dictionary.State) ∷
    written (codes "compile,") (Dictionary dictionary.CompileComma) ∷
    written (codes "behavior") (Dictionary dictionary.Behavior) ∷
    written (codes "instance") (Dictionary dictionary.Instance) ∷
    written (codes "ferror") (Dictionary dictionary.Error) ∷
    written (codes "byte-load") (Dictionary dictionary.ByteLoad) ∷
    written (codes "abort") (Throws throws.Abort) ∷
    written (codes "catch") (Throws throws.Catch) ∷
    written (codes "throw") (Throws throws.Throw) ∷
    written (codes "property") (Properties properties.Property) ∷
    written (codes "encode-int") (Properties properties.EncodeInt) ∷
    written (codes "encode-string") (Properties properties.EncodeString) ∷
    written (codes "encode-bytes") (Properties properties.EncodeBytes) ∷
    written (codes "encode-phys") (Properties properties.EncodePhys) ∷
    written (codes "encode+") (Properties properties.EncodePlus) ∷
    []

unfoldable pub sixth_words : List Written
sixth_words =
    written (codes "decode-int") (Properties properties.DecodeInt) ∷
    written (codes "decode-string") (Properties properties.DecodeString) ∷
    written (codes "decode-phys") (Properties properties.DecodePhys) ∷
    written (codes "reg") (Properties properties.Reg) ∷
    written (codes "model") (Properties properties.Model) ∷
    written (codes "device-type") (Properties properties.DeviceType) ∷
    written (codes "device-name") (Properties properties.DeviceName) ∷
    written (codes "get-my-property") (Properties properties.GetMyProperty) ∷
    written (codes "get-inherited-property") (Properties properties.GetInheritedProperty) ∷
    written (codes "get-package-property") (Properties properties.GetPackageProperty) ∷
    written (codes "delete-property") (Properties properties.DeleteProperty) ∷
    written (codes "next-property") (Properties properties.NextProperty) ∷
    written (codes "new-device") (Tree tree.NewDevice) ∷
    written (codes "finish-device") (Tree tree.FinishDevice) ∷
    written (codes "child") (Tree tree.Child) ∷
    written (codes "peer") (Tree tree.Peer) ∷
    written (codes "find-package") (Tree tree.FindPackage) ∷
    written (codes "open-package") (Tree tree.OpenPackage) ∷
    written (codes "$open-package") (Tree tree.OpenNamedPackage) ∷
    written (codes "close-package") (Tree tree.ClosePackage) ∷
    written (codes "find-method") (Tree tree.FindMethod) ∷
    written (codes "call-package") (Tree tree.CallPackage) ∷
    written (codes "$call-parent") (Tree tree.CallParent) ∷
    written (codes "$call-method") (Tree tree.CallMethod) ∷
    written (codes "my-self") (Tree tree.MySelf) ∷
    written (codes "my-parent") (Tree tree.MyParent) ∷
    written (codes "ihandle>phandle") (Tree tree.PackageOf) ∷
    written (codes "my-args") (Tree tree.MyArgs) ∷
    written (codes "set-args") (Tree tree.SetArgs) ∷
    written (codes "my-unit") (Tree tree.MyUnit) ∷
    written (codes "my-address") (Tree tree.MyAddress) ∷
    written (codes "my-space") (Tree tree.MySpace) ∷
    written (codes "cpeek") (Devices devices.PeekByte) ∷
    written (codes "wpeek") (Devices devices.PeekWord) ∷
    written (codes "lpeek") (Devices devices.PeekLong) ∷
    written (codes "cpoke") (Devices devices.PokeByte) ∷
    written (codes "wpoke") (Devices devices.PokeWord) ∷
    written (codes "lpoke") (Devices devices.PokeLong) ∷
    written (codes "rb@") (Devices devices.ReadByte) ∷
    written (codes "rw@") (Devices devices.ReadWord) ∷
    written (codes "rl@") (Devices devices.ReadLong) ∷
    written (codes "rb!") (Devices devices.WriteByte) ∷
    []

unfoldable pub seventh_words : List Written
seventh_words =
    written (codes "rw!") (Devices devices.WriteWord) ∷
    written (codes "rl!") (Devices devices.WriteLong) ∷
    written (codes "get-msecs") (Devices devices.Milliseconds) ∷
    written (codes "ms") (Devices devices.Wait) ∷
    written (codes "1+") (Console console.OnePlus) ∷
    written (codes "1-") (Console console.OneMinus) ∷
    written (codes "2+") (Console console.TwoPlus) ∷
    written (codes "2-") (Console console.TwoMinus) ∷
    written (codes "true") (Console console.True) ∷
    written (codes "false") (Console console.False) ∷
    written (codes "<<") (Console console.ShiftLeft) ∷
    written (codes ">>") (Console console.ShiftRight) ∷
    written (codes "not") (Console console.Not) ∷
    written (codes "struct") (Console console.Struct) ∷
    written (codes "space") (Console console.Space) ∷
    written (codes "spaces") (Console console.Spaces) ∷
    written (codes "allot") (Console console.Allot) ∷
    written (codes "align") (Console console.Align) ∷
    written (codes "erase") (Console console.Erase) ∷
    written (codes "hex") (Console console.Hex) ∷
    written (codes "decimal") (Console console.Decimal) ∷
    written (codes "s>d") (Console console.SingleToDouble) ∷
    written (codes "*/") (Console console.TimesSlash) ∷
    written (codes "*/mod") (Console console.TimesSlashMod) ∷
    written (codes "fcode-debug?") (Console console.FcodeDebug) ∷
    written (codes "immediate") (Dictionary dictionary.Immediate) ∷
    written (codes "]") (Dictionary dictionary.EnterCompiling) ∷
    written (codes "device-end") (Console console.DeviceEnd) ∷
    written (codes "pwd") (Console console.PrintPath) ∷
    written (codes "ls") (Console console.PrintChildren) ∷
    written (codes ".properties") (Console console.PrintProperties) ∷
    written (codes "show-devs") (Console console.ShowDevices) ∷
    written (codes "words") (Dictionary dictionary.PrintWords) ∷
    written (codes ":") (Parsing parsing.Colon) ∷
    written (codes "constant") (Parsing parsing.Constant) ∷
    written (codes "value") (Parsing parsing.Value) ∷
    written (codes "variable") (Parsing parsing.Variable) ∷
    written (codes "create") (Parsing parsing.Create) ∷
    written (codes "defer") (Parsing parsing.Defer) ∷
    written (codes "buffer:") (Parsing parsing.Buffer) ∷
    written (codes "field") (Parsing parsing.Field) ∷
    written (codes "'") (Parsing parsing.Tick) ∷
    []

unfoldable pub eighth_words : List Written
eighth_words =
    written (codes "dev") (Parsing parsing.Device) ∷
    written (codes "see") (Parsing parsing.See) ∷
    written (codes "to") (Parsing parsing.To) ∷
    written (codes "s\"") (Parsing parsing.SourceString) ∷
    written (codes "\"") (Parsing parsing.String) ∷
    written (codes ".\"") (Parsing parsing.PrintString) ∷
    written (codes "h#") (Parsing parsing.Hexadecimal) ∷
    written (codes "d#") (Parsing parsing.DecimalNumber) ∷
    written (codes "char") (Parsing parsing.Char) ∷
    written (codes "(") (Parsing parsing.Comment) ∷
    written (codes "\\") (Parsing parsing.LineComment) ∷
    written (codes ";") (Compiling compiling.Semicolon) ∷
    written (codes "if") (Compiling compiling.If) ∷
    written (codes "else") (Compiling compiling.Else) ∷
    written (codes "then") (Compiling compiling.Then) ∷
    written (codes "ahead") (Compiling compiling.Ahead) ∷
    written (codes "begin") (Compiling compiling.Begin) ∷
    written (codes "while") (Compiling compiling.While) ∷
    written (codes "repeat") (Compiling compiling.Repeat) ∷
    written (codes "until") (Compiling compiling.Until) ∷
    written (codes "again") (Compiling compiling.Again) ∷
    written (codes "do") (Compiling compiling.Do) ∷
    written (codes "?do") (Compiling compiling.QuestionDo) ∷
    written (codes "loop") (Compiling compiling.Loop) ∷
    written (codes "+loop") (Compiling compiling.PlusLoop) ∷
    written (codes "leave") (Compiling compiling.Leave) ∷
    written (codes "case") (Compiling compiling.Case) ∷
    written (codes "of") (Compiling compiling.Of) ∷
    written (codes "endof") (Compiling compiling.EndOf) ∷
    written (codes "endcase") (Compiling compiling.EndCase) ∷
    written (codes "recurse") (Compiling compiling.Recurse) ∷
    written (codes "literal") (Compiling compiling.Literal) ∷
    written (codes "[") (Compiling compiling.LeaveCompiling) ∷
    written (codes "[']") (Compiling compiling.BracketTick) ∷
    written (codes "[char]") (Compiling compiling.BracketChar) ∷
    written (codes "cs-roll") (Compiling compiling.ControlRoll) ∷
    written (codes "to,") (Compiling compiling.CommaTo) ∷
    []

-- all of them
unfoldable pub words : List Written
words =
    first_words ++ (second_words ++ (third_words ++ (fourth_words
    ++ (fifth_words ++ (sixth_words ++ (seventh_words ++ (eighth_words)))))))
