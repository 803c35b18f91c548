-- The FCodes that the board knows (IEEE 1275-1994, annex A), by rising numbers: number, name, word and operand.
use Rattle.std.specs.Prelude.{ℕ, List, [], ◌∷◌, ◌++◌, codes}
use Rattle.of_fcodes.specs.declared.operand.Operand.{Operand}
use Rattle.of_fcodes.specs.declared.operand.Operand.TheVariants.{Nothing, Literal, String, FCode, Named, Offset}
use Rattle.of_fcodes.specs.declared.words.Word.{Word}
use Rattle.of_fcodes.specs.declared.words.Word.TheVariants.{Stream, Primitive, Printing, Heap, Keys, Returns}
use Rattle.of_fcodes.specs.declared.words.Word.TheVariants.{Dictionary, Throws, Properties, Tree, Devices}
use Rattle.of_fcodes.specs.declared.words.PrimitiveWord.TheVariants.{Arithmetic, Comparing, Stacks, Addresses, Memory}
use Rattle.of_fcodes.specs.declared.words.PrimitiveWord.TheVariants.{Splitting, Text, Numbers}
use Rattle.of_fcodes.specs.declared.words.StreamWord.TheVariants as stream
use Rattle.of_fcodes.specs.declared.words.ArithmeticWord.TheVariants as arithmetic
use Rattle.of_fcodes.specs.declared.words.ComparingWord.TheVariants as comparing
use Rattle.of_fcodes.specs.declared.words.StacksWord.TheVariants as stacks
use Rattle.of_fcodes.specs.declared.words.AddressesWord.TheVariants as addresses
use Rattle.of_fcodes.specs.declared.words.MemoryWord.TheVariants as memory
use Rattle.of_fcodes.specs.declared.words.SplittingWord.TheVariants as splitting
use Rattle.of_fcodes.specs.declared.words.TextWord.TheVariants as text
use Rattle.of_fcodes.specs.declared.words.NumbersWord.TheVariants as numbers
use Rattle.of_fcodes.specs.declared.words.PrintingWord.TheVariants as printing
use Rattle.of_fcodes.specs.declared.words.HeapWord.TheVariants as heap
use Rattle.of_fcodes.specs.declared.words.KeysWord.TheVariants as keys
use Rattle.of_fcodes.specs.declared.words.ReturnsWord.TheVariants as returns
use Rattle.of_fcodes.specs.declared.words.DictionaryWord.TheVariants as dictionary
use Rattle.of_fcodes.specs.declared.words.ThrowsWord.TheVariants as throws
use Rattle.of_fcodes.specs.declared.words.PropertiesWord.TheVariants as properties
use Rattle.of_fcodes.specs.declared.words.TreeWord.TheVariants as tree
use Rattle.of_fcodes.specs.declared.words.DevicesWord.TheVariants as devices

pub record Row : Type 0 where
  pub number : ℕ
  pub name : List ℕ
  pub word : Word
  pub operand : Operand

-- an FCode with its operand
abbrev pub row : ℕ → List ℕ → Word → Operand → Row
row number name word operand = record { number = number; name = name; word = word; operand = operand }

-- an FCode without operands
abbrev pub plain : ℕ → List ℕ → Word → Row
plain number name word = row number name word Nothing

unfoldable pub first_rows : List Row
first_rows =
    plain 0x000 (codes "end0") (Stream stream.End0) ∷
    row 0x010 (codes "b(lit)") (Stream stream.Literal) Literal ∷
    row 0x011 (codes "b(')") (Stream stream.Tick) FCode ∷
    row 0x012 (codes "b(\")") (Stream stream.String) String ∷
    row 0x013 (codes "bbranch") (Stream stream.Branch) Offset ∷
    row 0x014 (codes "b?branch") (Stream stream.BranchIfZero) Offset ∷
    row 0x015 (codes "b(loop)") (Stream stream.Loop) Offset ∷
    row 0x016 (codes "b(+loop)") (Stream stream.PlusLoop) Offset ∷
    row 0x017 (codes "b(do)") (Stream stream.Do) Offset ∷
    row 0x018 (codes "b(?do)") (Stream stream.QuestionDo) Offset ∷
    plain 0x019 (codes "i") (Returns returns.Index) ∷
    plain 0x01a (codes "j") (Returns returns.OuterIndex) ∷
    plain 0x01b (codes "b(leave)") (Stream stream.Leave) ∷
    row 0x01c (codes "b(of)") (Stream stream.Of) Offset ∷
    plain 0x01d (codes "execute") (Returns returns.Execute) ∷
    plain 0x01e (codes "+") (Primitive (Arithmetic arithmetic.Plus)) ∷
    plain 0x01f (codes "-") (Primitive (Arithmetic arithmetic.Minus)) ∷
    plain 0x020 (codes "*") (Primitive (Arithmetic arithmetic.Times)) ∷
    plain 0x021 (codes "/") (Primitive (Arithmetic arithmetic.Slash)) ∷
    plain 0x022 (codes "mod") (Primitive (Arithmetic arithmetic.Mod)) ∷
    plain 0x023 (codes "and") (Primitive (Arithmetic arithmetic.And)) ∷
    plain 0x024 (codes "or") (Primitive (Arithmetic arithmetic.Or)) ∷
    plain 0x025 (codes "xor") (Primitive (Arithmetic arithmetic.Xor)) ∷
    plain 0x026 (codes "invert") (Primitive (Arithmetic arithmetic.Invert)) ∷
    plain 0x027 (codes "lshift") (Primitive (Arithmetic arithmetic.LeftShift)) ∷
    plain 0x028 (codes "rshift") (Primitive (Arithmetic arithmetic.RightShift)) ∷
    plain 0x029 (codes ">>a") (Primitive (Arithmetic arithmetic.SignedShift)) ∷
    plain 0x02a (codes "/mod") (Primitive (Arithmetic arithmetic.SlashMod)) ∷
    plain 0x02b (codes "u/mod") (Primitive (Arithmetic arithmetic.UnsignedSlashMod)) ∷
    plain 0x02c (codes "negate") (Primitive (Arithmetic arithmetic.Negate)) ∷
    plain 0x02d (codes "abs") (Primitive (Arithmetic arithmetic.Abs)) ∷
    plain 0x02e (codes "min") (Primitive (Arithmetic arithmetic.Min)) ∷
    plain 0x02f (codes "max") (Primitive (Arithmetic arithmetic.Max)) ∷
    plain 0x030 (codes ">r") (Returns returns.ToReturn) ∷
    plain 0x031 (codes "r>") (Returns returns.FromReturn) ∷
    plain 0x032 (codes "r@") (Returns returns.FetchReturn) ∷
    plain 0x033 (codes "exit") (Returns returns.Exit) ∷
    plain 0x034 (codes "0=") (Primitive (Comparing comparing.IsZero)) ∷
    plain 0x035 (codes "0<>") (Primitive (Comparing comparing.IsNotZero)) ∷
    plain 0x036 (codes "0<") (Primitive (Comparing comparing.IsNegative)) ∷
    []

unfoldable pub second_rows : List Row
second_rows =
    plain 0x037 (codes "0<=") (Primitive (Comparing comparing.IsNotPositive)) ∷
    plain 0x038 (codes "0>") (Primitive (Comparing comparing.IsPositive)) ∷
    plain 0x039 (codes "0>=") (Primitive (Comparing comparing.IsNotNegative)) ∷
    plain 0x03a (codes "<") (Primitive (Comparing comparing.IsLess)) ∷
    plain 0x03b (codes ">") (Primitive (Comparing comparing.IsGreater)) ∷
    plain 0x03c (codes "=") (Primitive (Comparing comparing.IsEqual)) ∷
    plain 0x03d (codes "<>") (Primitive (Comparing comparing.IsNotEqual)) ∷
    plain 0x03e (codes "u>") (Primitive (Comparing comparing.IsAbove)) ∷
    plain 0x03f (codes "u<=") (Primitive (Comparing comparing.IsNotAbove)) ∷
    plain 0x040 (codes "u<") (Primitive (Comparing comparing.IsBelow)) ∷
    plain 0x041 (codes "u>=") (Primitive (Comparing comparing.IsNotBelow)) ∷
    plain 0x042 (codes ">=") (Primitive (Comparing comparing.IsAtLeast)) ∷
    plain 0x043 (codes "<=") (Primitive (Comparing comparing.IsAtMost)) ∷
    plain 0x044 (codes "between") (Primitive (Comparing comparing.Between)) ∷
    plain 0x045 (codes "within") (Primitive (Comparing comparing.Within)) ∷
    plain 0x046 (codes "drop") (Primitive (Stacks stacks.Drop)) ∷
    plain 0x047 (codes "dup") (Primitive (Stacks stacks.Dup)) ∷
    plain 0x048 (codes "over") (Primitive (Stacks stacks.Over)) ∷
    plain 0x049 (codes "swap") (Primitive (Stacks stacks.Swap)) ∷
    plain 0x04a (codes "rot") (Primitive (Stacks stacks.Rot)) ∷
    plain 0x04b (codes "-rot") (Primitive (Stacks stacks.MinusRot)) ∷
    plain 0x04c (codes "tuck") (Primitive (Stacks stacks.Tuck)) ∷
    plain 0x04d (codes "nip") (Primitive (Stacks stacks.Nip)) ∷
    plain 0x04e (codes "pick") (Primitive (Stacks stacks.Pick)) ∷
    plain 0x04f (codes "roll") (Primitive (Stacks stacks.Roll)) ∷
    plain 0x050 (codes "?dup") (Primitive (Stacks stacks.QuestionDup)) ∷
    plain 0x051 (codes "depth") (Primitive (Stacks stacks.Depth)) ∷
    plain 0x052 (codes "2drop") (Primitive (Stacks stacks.TwoDrop)) ∷
    plain 0x053 (codes "2dup") (Primitive (Stacks stacks.TwoDup)) ∷
    plain 0x054 (codes "2over") (Primitive (Stacks stacks.TwoOver)) ∷
    plain 0x055 (codes "2swap") (Primitive (Stacks stacks.TwoSwap)) ∷
    plain 0x056 (codes "2rot") (Primitive (Stacks stacks.TwoRot)) ∷
    plain 0x057 (codes "2/") (Primitive (Arithmetic arithmetic.Half)) ∷
    plain 0x058 (codes "u2/") (Primitive (Arithmetic arithmetic.UnsignedHalf)) ∷
    plain 0x059 (codes "2*") (Primitive (Arithmetic arithmetic.Twice)) ∷
    plain 0x05a (codes "/c") (Primitive (Addresses addresses.ByteSize)) ∷
    plain 0x05b (codes "/w") (Primitive (Addresses addresses.WordSize)) ∷
    plain 0x05c (codes "/l") (Primitive (Addresses addresses.LongSize)) ∷
    plain 0x05d (codes "/n") (Primitive (Addresses addresses.CellSize)) ∷
    plain 0x05e (codes "ca+") (Primitive (Addresses addresses.ByteIndexed)) ∷
    []

unfoldable pub third_rows : List Row
third_rows =
    plain 0x05f (codes "wa+") (Primitive (Addresses addresses.WordIndexed)) ∷
    plain 0x060 (codes "la+") (Primitive (Addresses addresses.LongIndexed)) ∷
    plain 0x061 (codes "na+") (Primitive (Addresses addresses.CellIndexed)) ∷
    plain 0x062 (codes "char+") (Primitive (Addresses addresses.NextByte)) ∷
    plain 0x063 (codes "wa1+") (Primitive (Addresses addresses.NextWord)) ∷
    plain 0x064 (codes "la1+") (Primitive (Addresses addresses.NextLong)) ∷
    plain 0x065 (codes "cell+") (Primitive (Addresses addresses.NextCell)) ∷
    plain 0x066 (codes "chars") (Primitive (Addresses addresses.Bytes)) ∷
    plain 0x067 (codes "/w*") (Primitive (Addresses addresses.Words)) ∷
    plain 0x068 (codes "/l*") (Primitive (Addresses addresses.Longs)) ∷
    plain 0x069 (codes "cells") (Primitive (Addresses addresses.Cells)) ∷
    plain 0x06a (codes "on") (Primitive (Memory memory.On)) ∷
    plain 0x06b (codes "off") (Primitive (Memory memory.Off)) ∷
    plain 0x06c (codes "+!") (Primitive (Memory memory.PlusStore)) ∷
    plain 0x06d (codes "@") (Primitive (Memory memory.Fetch)) ∷
    plain 0x06e (codes "l@") (Primitive (Memory memory.FetchLong)) ∷
    plain 0x06f (codes "w@") (Primitive (Memory memory.FetchWord)) ∷
    plain 0x070 (codes "<w@") (Primitive (Memory memory.FetchSignedWord)) ∷
    plain 0x071 (codes "c@") (Primitive (Memory memory.FetchByte)) ∷
    plain 0x072 (codes "!") (Primitive (Memory memory.Store)) ∷
    plain 0x073 (codes "l!") (Primitive (Memory memory.StoreLong)) ∷
    plain 0x074 (codes "w!") (Primitive (Memory memory.StoreWord)) ∷
    plain 0x075 (codes "c!") (Primitive (Memory memory.StoreByte)) ∷
    plain 0x076 (codes "2@") (Primitive (Memory memory.FetchTwo)) ∷
    plain 0x077 (codes "2!") (Primitive (Memory memory.StoreTwo)) ∷
    plain 0x078 (codes "move") (Primitive (Memory memory.Move)) ∷
    plain 0x079 (codes "fill") (Primitive (Memory memory.Fill)) ∷
    plain 0x07a (codes "comp") (Primitive (Memory memory.Compare)) ∷
    plain 0x07b (codes "noop") (Primitive (Numbers numbers.Noop)) ∷
    plain 0x07c (codes "lwsplit") (Primitive (Splitting splitting.Lwsplit)) ∷
    plain 0x07d (codes "wljoin") (Primitive (Splitting splitting.Wljoin)) ∷
    plain 0x07e (codes "lbsplit") (Primitive (Splitting splitting.Lbsplit)) ∷
    plain 0x07f (codes "bljoin") (Primitive (Splitting splitting.Bljoin)) ∷
    plain 0x080 (codes "wbflip") (Primitive (Splitting splitting.Wbflip)) ∷
    plain 0x081 (codes "upc") (Primitive (Text text.UpperCase)) ∷
    plain 0x082 (codes "lcc") (Primitive (Text text.LowerCase)) ∷
    plain 0x083 (codes "pack") (Primitive (Text text.Pack)) ∷
    plain 0x084 (codes "count") (Primitive (Text text.Count)) ∷
    plain 0x085 (codes "body>") (Dictionary dictionary.FromBody) ∷
    plain 0x086 (codes ">body") (Dictionary dictionary.ToBody) ∷
    []

unfoldable pub fourth_rows : List Row
fourth_rows =
    plain 0x087 (codes "fcode-revision") (Primitive (Numbers numbers.FcodeRevision)) ∷
    plain 0x089 (codes "unloop") (Returns returns.Unloop) ∷
    plain 0x08b (codes "alloc-mem") (Heap heap.AllocMem) ∷
    plain 0x08c (codes "free-mem") (Primitive (Memory memory.FreeMem)) ∷
    plain 0x08d (codes "key?") (Keys keys.KeyReady) ∷
    plain 0x08e (codes "key") (Keys keys.Key) ∷
    plain 0x08f (codes "emit") (Printing printing.Emit) ∷
    plain 0x090 (codes "type") (Printing printing.«Type») ∷
    plain 0x092 (codes "cr") (Printing printing.CarriageReturn) ∷
    plain 0x095 (codes "hold") (Primitive (Numbers numbers.Hold)) ∷
    plain 0x096 (codes "<#") (Primitive (Numbers numbers.Begin)) ∷
    plain 0x097 (codes "u#>") (Primitive (Numbers numbers.UnsignedEnd)) ∷
    plain 0x098 (codes "sign") (Primitive (Numbers numbers.Sign)) ∷
    plain 0x099 (codes "u#") (Primitive (Numbers numbers.UnsignedDigit)) ∷
    plain 0x09a (codes "u#s") (Primitive (Numbers numbers.UnsignedDigits)) ∷
    plain 0x09b (codes "u.") (Printing printing.UnsignedDot) ∷
    plain 0x09c (codes "u.r") (Printing printing.UnsignedDotRight) ∷
    plain 0x09d (codes ".") (Printing printing.Dot) ∷
    plain 0x09e (codes ".r") (Printing printing.DotRight) ∷
    plain 0x09f (codes ".s") (Printing printing.DotStack) ∷
    plain 0x0a0 (codes "base") (Primitive (Numbers numbers.Base)) ∷
    plain 0x0a2 (codes "$number") (Primitive (Numbers numbers.ParseNumber)) ∷
    plain 0x0a3 (codes "digit") (Primitive (Numbers numbers.Digit)) ∷
    plain 0x0a4 (codes "-1") (Primitive (Numbers numbers.MinusOne)) ∷
    plain 0x0a5 (codes "0") (Primitive (Numbers numbers.Zero)) ∷
    plain 0x0a6 (codes "1") (Primitive (Numbers numbers.One)) ∷
    plain 0x0a7 (codes "2") (Primitive (Numbers numbers.Two)) ∷
    plain 0x0a8 (codes "3") (Primitive (Numbers numbers.Three)) ∷
    plain 0x0a9 (codes "bl") (Primitive (Text text.Blank)) ∷
    plain 0x0aa (codes "bs") (Primitive (Text text.Backspace)) ∷
    plain 0x0ab (codes "bell") (Primitive (Text text.Bell)) ∷
    plain 0x0ac (codes "bounds") (Primitive (Addresses addresses.Bounds)) ∷
    plain 0x0ad (codes "here") (Primitive (Addresses addresses.Here)) ∷
    plain 0x0ae (codes "aligned") (Primitive (Addresses addresses.Aligned)) ∷
    plain 0x0af (codes "wbsplit") (Primitive (Splitting splitting.Wbsplit)) ∷
    plain 0x0b0 (codes "bwjoin") (Primitive (Splitting splitting.Bwjoin)) ∷
    plain 0x0b1 (codes "b(<mark)") (Stream stream.Mark) ∷
    plain 0x0b2 (codes "b(>resolve)") (Stream stream.Resolve) ∷
    row 0x0b5 (codes "new-token") (Stream stream.NewToken) FCode ∷
    row 0x0b6 (codes "named-token") (Stream stream.NamedToken) Named ∷
    []

unfoldable pub fifth_rows : List Row
fifth_rows =
    plain 0x0b7 (codes "b(:)") (Stream stream.Colon) ∷
    plain 0x0b8 (codes "b(value)") (Stream stream.Value) ∷
    plain 0x0b9 (codes "b(variable)") (Stream stream.Variable) ∷
    plain 0x0ba (codes "b(constant)") (Stream stream.Constant) ∷
    plain 0x0bb (codes "b(create)") (Stream stream.Create) ∷
    plain 0x0bc (codes "b(defer)") (Stream stream.Defer) ∷
    plain 0x0bd (codes "b(buffer:)") (Stream stream.Buffer) ∷
    plain 0x0be (codes "b(field)") (Stream stream.Field) ∷
    plain 0x0c0 (codes "instance") (Dictionary dictionary.Instance) ∷
    plain 0x0c2 (codes "b(;)") (Stream stream.Semicolon) ∷
    row 0x0c3 (codes "b(to)") (Stream stream.To) FCode ∷
    plain 0x0c4 (codes "b(case)") (Stream stream.Case) ∷
    plain 0x0c5 (codes "b(endcase)") (Stream stream.EndCase) ∷
    row 0x0c6 (codes "b(endof)") (Stream stream.EndOf) Offset ∷
    plain 0x0c7 (codes "#") (Primitive (Numbers numbers.NextDigit)) ∷
    plain 0x0c8 (codes "#s") (Primitive (Numbers numbers.AllDigits)) ∷
    plain 0x0c9 (codes "#>") (Primitive (Numbers numbers.End)) ∷
    row 0x0ca (codes "external-token") (Stream stream.ExternalToken) Named ∷
    plain 0x0cb (codes "$find") (Dictionary dictionary.Find) ∷
    plain 0x0cc (codes "offset16") (Stream stream.Offset16) ∷
    plain 0x0cd (codes "evaluate") (Dictionary dictionary.Evaluate) ∷
    plain 0x0d0 (codes "c,") (Primitive (Memory memory.CommaByte)) ∷
    plain 0x0d1 (codes "w,") (Primitive (Memory memory.CommaWord)) ∷
    plain 0x0d2 (codes "l,") (Primitive (Memory memory.CommaLong)) ∷
    plain 0x0d3 (codes ",") (Primitive (Memory memory.Comma)) ∷
    plain 0x0d4 (codes "um*") (Primitive (Arithmetic arithmetic.WideTimes)) ∷
    plain 0x0d5 (codes "um/mod") (Primitive (Arithmetic arithmetic.WideSlashMod)) ∷
    plain 0x0d8 (codes "d+") (Primitive (Arithmetic arithmetic.DoublePlus)) ∷
    plain 0x0d9 (codes "d-") (Primitive (Arithmetic arithmetic.DoubleMinus)) ∷
    plain 0x0da (codes "get-token") (Dictionary dictionary.GetToken) ∷
    plain 0x0db (codes "set-token") (Dictionary dictionary.SetToken) ∷
    plain 0x0dc (codes "state") (Dictionary dictionary.State) ∷
    plain 0x0dd (codes "compile,") (Dictionary dictionary.CompileComma) ∷
    plain 0x0de (codes "behavior") (Dictionary dictionary.Behavior) ∷
    plain 0x0fc (codes "ferror") (Dictionary dictionary.Error) ∷
    plain 0x0ff (codes "end1") (Stream stream.End1) ∷
    plain 0x102 (codes "my-address") (Tree tree.MyAddress) ∷
    plain 0x103 (codes "my-space") (Tree tree.MySpace) ∷
    plain 0x110 (codes "property") (Properties properties.Property) ∷
    plain 0x111 (codes "encode-int") (Properties properties.EncodeInt) ∷
    []

unfoldable pub sixth_rows : List Row
sixth_rows =
    plain 0x112 (codes "encode+") (Properties properties.EncodePlus) ∷
    plain 0x113 (codes "encode-phys") (Properties properties.EncodePhys) ∷
    plain 0x114 (codes "encode-string") (Properties properties.EncodeString) ∷
    plain 0x115 (codes "encode-bytes") (Properties properties.EncodeBytes) ∷
    plain 0x116 (codes "reg") (Properties properties.Reg) ∷
    plain 0x119 (codes "model") (Properties properties.Model) ∷
    plain 0x11a (codes "device-type") (Properties properties.DeviceType) ∷
    plain 0x11b (codes "parse-2int") (Primitive (Text text.ParseTwoInts)) ∷
    plain 0x11f (codes "new-device") (Tree tree.NewDevice) ∷
    plain 0x125 (codes "get-msecs") (Devices devices.Milliseconds) ∷
    plain 0x126 (codes "ms") (Devices devices.Wait) ∷
    plain 0x127 (codes "finish-device") (Tree tree.FinishDevice) ∷
    plain 0x128 (codes "decode-phys") (Properties properties.DecodePhys) ∷
    plain 0x201 (codes "device-name") (Properties properties.DeviceName) ∷
    plain 0x202 (codes "my-args") (Tree tree.MyArgs) ∷
    plain 0x203 (codes "my-self") (Tree tree.MySelf) ∷
    plain 0x204 (codes "find-package") (Tree tree.FindPackage) ∷
    plain 0x205 (codes "open-package") (Tree tree.OpenPackage) ∷
    plain 0x206 (codes "close-package") (Tree tree.ClosePackage) ∷
    plain 0x207 (codes "find-method") (Tree tree.FindMethod) ∷
    plain 0x208 (codes "call-package") (Tree tree.CallPackage) ∷
    plain 0x209 (codes "$call-parent") (Tree tree.CallParent) ∷
    plain 0x20a (codes "my-parent") (Tree tree.MyParent) ∷
    plain 0x20b (codes "ihandle>phandle") (Tree tree.PackageOf) ∷
    plain 0x20d (codes "my-unit") (Tree tree.MyUnit) ∷
    plain 0x20e (codes "$call-method") (Tree tree.CallMethod) ∷
    plain 0x20f (codes "$open-package") (Tree tree.OpenNamedPackage) ∷
    plain 0x216 (codes "abort") (Throws throws.Abort) ∷
    plain 0x217 (codes "catch") (Throws throws.Catch) ∷
    plain 0x218 (codes "throw") (Throws throws.Throw) ∷
    plain 0x21a (codes "get-my-property") (Properties properties.GetMyProperty) ∷
    plain 0x21b (codes "decode-int") (Properties properties.DecodeInt) ∷
    plain 0x21c (codes "decode-string") (Properties properties.DecodeString) ∷
    plain 0x21d (codes "get-inherited-property") (Properties properties.GetInheritedProperty) ∷
    plain 0x21e (codes "delete-property") (Properties properties.DeleteProperty) ∷
    plain 0x21f (codes "get-package-property") (Properties properties.GetPackageProperty) ∷
    plain 0x220 (codes "cpeek") (Devices devices.PeekByte) ∷
    plain 0x221 (codes "wpeek") (Devices devices.PeekWord) ∷
    plain 0x222 (codes "lpeek") (Devices devices.PeekLong) ∷
    plain 0x223 (codes "cpoke") (Devices devices.PokeByte) ∷
    []

unfoldable pub seventh_rows : List Row
seventh_rows =
    plain 0x224 (codes "wpoke") (Devices devices.PokeWord) ∷
    plain 0x225 (codes "lpoke") (Devices devices.PokeLong) ∷
    plain 0x226 (codes "lwflip") (Primitive (Splitting splitting.Lwflip)) ∷
    plain 0x227 (codes "lbflip") (Primitive (Splitting splitting.Lbflip)) ∷
    plain 0x230 (codes "rb@") (Devices devices.ReadByte) ∷
    plain 0x231 (codes "rb!") (Devices devices.WriteByte) ∷
    plain 0x232 (codes "rw@") (Devices devices.ReadWord) ∷
    plain 0x233 (codes "rw!") (Devices devices.WriteWord) ∷
    plain 0x234 (codes "rl@") (Devices devices.ReadLong) ∷
    plain 0x235 (codes "rl!") (Devices devices.WriteLong) ∷
    plain 0x23b (codes "child") (Tree tree.Child) ∷
    plain 0x23c (codes "peer") (Tree tree.Peer) ∷
    plain 0x23d (codes "next-property") (Properties properties.NextProperty) ∷
    plain 0x23e (codes "byte-load") (Dictionary dictionary.ByteLoad) ∷
    plain 0x23f (codes "set-args") (Tree tree.SetArgs) ∷
    plain 0x240 (codes "left-parse-string") (Primitive (Text text.LeftParseString)) ∷
    []

-- all of them
unfoldable pub rows : List Row
rows = first_rows ++ (second_rows ++ (third_rows ++ (fourth_rows ++ (fifth_rows ++ (sixth_rows ++ (seventh_rows))))))
