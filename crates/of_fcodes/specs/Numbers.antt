-- The number of each written word: its place in the list.
use Rattle.std.specs.Prelude.{ℕ}
use Rattle.of_fcodes.specs.declared.words.Word.{Word}
use Rattle.of_fcodes.specs.declared.words.Word.TheVariants.{Stream, Primitive, Printing, Heap, Keys, Returns}
use Rattle.of_fcodes.specs.declared.words.Word.TheVariants.{Dictionary, Throws, Properties, Tree, Devices, Console}
use Rattle.of_fcodes.specs.declared.words.Word.TheVariants.{Parsing, Compiling}
use Rattle.of_fcodes.specs.declared.words.PrimitiveWord.{PrimitiveWord}
use Rattle.of_fcodes.specs.declared.words.PrimitiveWord.TheVariants.{Arithmetic, Comparing, Stacks, Addresses, Memory}
use Rattle.of_fcodes.specs.declared.words.PrimitiveWord.TheVariants.{Splitting, Text, Numbers}
use Rattle.of_fcodes.specs.declared.words.StreamWord.{StreamWord}
use Rattle.of_fcodes.specs.declared.words.ArithmeticWord.{ArithmeticWord}
use Rattle.of_fcodes.specs.declared.words.ComparingWord.{ComparingWord}
use Rattle.of_fcodes.specs.declared.words.StacksWord.{StacksWord}
use Rattle.of_fcodes.specs.declared.words.AddressesWord.{AddressesWord}
use Rattle.of_fcodes.specs.declared.words.MemoryWord.{MemoryWord}
use Rattle.of_fcodes.specs.declared.words.SplittingWord.{SplittingWord}
use Rattle.of_fcodes.specs.declared.words.TextWord.{TextWord}
use Rattle.of_fcodes.specs.declared.words.NumbersWord.{NumbersWord}
use Rattle.of_fcodes.specs.declared.words.PrintingWord.{PrintingWord}
use Rattle.of_fcodes.specs.declared.words.HeapWord.{HeapWord}
use Rattle.of_fcodes.specs.declared.words.KeysWord.{KeysWord}
use Rattle.of_fcodes.specs.declared.words.ReturnsWord.{ReturnsWord}
use Rattle.of_fcodes.specs.declared.words.DictionaryWord.{DictionaryWord}
use Rattle.of_fcodes.specs.declared.words.ThrowsWord.{ThrowsWord}
use Rattle.of_fcodes.specs.declared.words.PropertiesWord.{PropertiesWord}
use Rattle.of_fcodes.specs.declared.words.TreeWord.{TreeWord}
use Rattle.of_fcodes.specs.declared.words.DevicesWord.{DevicesWord}
use Rattle.of_fcodes.specs.declared.console_words.ConsoleWord.{ConsoleWord}
use Rattle.of_fcodes.specs.declared.console_words.ParsingWord.{ParsingWord}
use Rattle.of_fcodes.specs.declared.console_words.CompilingWord.{CompilingWord}
use Rattle.of_fcodes.specs.declared.words.StreamWord.TheVariants as stream
use Rattle.of_fcodes.specs.declared.words.ArithmeticWord.TheVariants as arithmetic
use Rattle.of_fcodes.specs.declared.words.ComparingWord.TheVariants as comparing
use Rattle.of_fcodes.specs.declared.words.StacksWord.TheVariants as stacks
use Rattle.of_fcodes.specs.declared.words.AddressesWord.TheVariants as addresses
use Rattle.of_fcodes.specs.declared.words.MemoryWord.TheVariants as memory
use Rattle.of_fcodes.specs.declared.words.SplittingWord.TheVariants as splitting
use Rattle.of_fcodes.specs.declared.words.TextWord.TheVariants as text
use Rattle.of_fcodes.specs.declared.words.NumbersWord.TheVariants as numbers
use Rattle.of_fcodes.specs.declared.words.PrintingWord.TheVariants as printing
use Rattle.of_fcodes.specs.declared.words.HeapWord.TheVariants as heap
use Rattle.of_fcodes.specs.declared.words.KeysWord.TheVariants as keys
use Rattle.of_fcodes.specs.declared.words.ReturnsWord.TheVariants as returns
use Rattle.of_fcodes.specs.declared.words.DictionaryWord.TheVariants as dictionary
use Rattle.of_fcodes.specs.declared.words.ThrowsWord.TheVariants as throws
use Rattle.of_fcodes.specs.declared.words.PropertiesWord.TheVariants as properties
use Rattle.of_fcodes.specs.declared.words.TreeWord.TheVariants as tree
use Rattle.of_fcodes.specs.declared.words.DevicesWord.TheVariants as devices
use Rattle.of_fcodes.specs.declared.console_words.ConsoleWord.TheVariants as console
use Rattle.of_fcodes.specs.declared.console_words.ParsingWord.TheVariants as parsing
use Rattle.of_fcodes.specs.declared.console_words.CompilingWord.TheVariants as compiling

abbrev pub stream_number : StreamWord → ℕ
stream_number stream.End0 = 0
stream_number stream.End1 = 1
stream_number stream.Literal = 2
stream_number stream.Tick = 3
stream_number stream.String = 4
stream_number stream.Branch = 5
stream_number stream.BranchIfZero = 6
stream_number stream.Loop = 7
stream_number stream.PlusLoop = 8
stream_number stream.Do = 9
stream_number stream.QuestionDo = 10
stream_number stream.Leave = 11
stream_number stream.Case = 12
stream_number stream.Of = 13
stream_number stream.EndOf = 14
stream_number stream.EndCase = 15
stream_number stream.Mark = 16
stream_number stream.Resolve = 17
stream_number stream.NewToken = 18
stream_number stream.NamedToken = 19
stream_number stream.ExternalToken = 20
stream_number stream.Colon = 21
stream_number stream.Semicolon = 22
stream_number stream.Value = 23
stream_number stream.Constant = 24
stream_number stream.Variable = 25
stream_number stream.Create = 26
stream_number stream.Defer = 27
stream_number stream.Buffer = 28
stream_number stream.Field = 29
stream_number stream.To = 30
stream_number stream.Offset16 = 31

abbrev pub arithmetic_number : ArithmeticWord → ℕ
arithmetic_number arithmetic.Plus = 32
arithmetic_number arithmetic.Minus = 33
arithmetic_number arithmetic.Times = 34
arithmetic_number arithmetic.And = 35
arithmetic_number arithmetic.Or = 36
arithmetic_number arithmetic.Xor = 37
arithmetic_number arithmetic.Min = 38
arithmetic_number arithmetic.Max = 39
arithmetic_number arithmetic.Slash = 40
arithmetic_number arithmetic.Mod = 41
arithmetic_number arithmetic.SlashMod = 42
arithmetic_number arithmetic.UnsignedSlashMod = 43
arithmetic_number arithmetic.Invert = 44
arithmetic_number arithmetic.Negate = 45
arithmetic_number arithmetic.Abs = 46
arithmetic_number arithmetic.Half = 47
arithmetic_number arithmetic.UnsignedHalf = 48
arithmetic_number arithmetic.Twice = 49
arithmetic_number arithmetic.LeftShift = 50
arithmetic_number arithmetic.RightShift = 51
arithmetic_number arithmetic.SignedShift = 52
arithmetic_number arithmetic.WideTimes = 53
arithmetic_number arithmetic.WideSlashMod = 54
arithmetic_number arithmetic.DoublePlus = 55
arithmetic_number arithmetic.DoubleMinus = 56

abbrev pub comparing_number : ComparingWord → ℕ
comparing_number comparing.IsZero = 57
comparing_number comparing.IsNotZero = 58
comparing_number comparing.IsNegative = 59
comparing_number comparing.IsNotPositive = 60
comparing_number comparing.IsPositive = 61
comparing_number comparing.IsNotNegative = 62
comparing_number comparing.IsLess = 63
comparing_number comparing.IsGreater = 64
comparing_number comparing.IsEqual = 65
comparing_number comparing.IsNotEqual = 66
comparing_number comparing.IsAtLeast = 67
comparing_number comparing.IsAtMost = 68
comparing_number comparing.IsAbove = 69
comparing_number comparing.IsNotAbove = 70
comparing_number comparing.IsBelow = 71
comparing_number comparing.IsNotBelow = 72
comparing_number comparing.Between = 73
comparing_number comparing.Within = 74

abbrev pub stacks_number : StacksWord → ℕ
stacks_number stacks.Drop = 75
stacks_number stacks.Dup = 76
stacks_number stacks.Over = 77
stacks_number stacks.Swap = 78
stacks_number stacks.Rot = 79
stacks_number stacks.MinusRot = 80
stacks_number stacks.Tuck = 81
stacks_number stacks.Nip = 82
stacks_number stacks.Pick = 83
stacks_number stacks.Roll = 84
stacks_number stacks.QuestionDup = 85
stacks_number stacks.Depth = 86
stacks_number stacks.TwoDrop = 87
stacks_number stacks.TwoDup = 88
stacks_number stacks.TwoOver = 89
stacks_number stacks.TwoSwap = 90
stacks_number stacks.TwoRot = 91

abbrev pub addresses_number : AddressesWord → ℕ
addresses_number addresses.ByteSize = 100
addresses_number addresses.WordSize = 101
addresses_number addresses.LongSize = 102
addresses_number addresses.CellSize = 103
addresses_number addresses.ByteIndexed = 104
addresses_number addresses.WordIndexed = 105
addresses_number addresses.LongIndexed = 106
addresses_number addresses.CellIndexed = 107
addresses_number addresses.NextByte = 108
addresses_number addresses.NextWord = 109
addresses_number addresses.NextLong = 110
addresses_number addresses.NextCell = 111
addresses_number addresses.Bytes = 112
addresses_number addresses.Words = 113
addresses_number addresses.Longs = 114
addresses_number addresses.Cells = 115
addresses_number addresses.Aligned = 116
addresses_number addresses.Here = 117
addresses_number addresses.Bounds = 118

abbrev pub memory_number : MemoryWord → ℕ
memory_number memory.On = 119
memory_number memory.Off = 120
memory_number memory.PlusStore = 121
memory_number memory.Fetch = 122
memory_number memory.FetchLong = 123
memory_number memory.FetchWord = 124
memory_number memory.FetchSignedWord = 125
memory_number memory.FetchByte = 126
memory_number memory.Store = 127
memory_number memory.StoreLong = 128
memory_number memory.StoreWord = 129
memory_number memory.StoreByte = 130
memory_number memory.FetchTwo = 131
memory_number memory.StoreTwo = 132
memory_number memory.Move = 133
memory_number memory.Fill = 134
memory_number memory.Compare = 135
memory_number memory.CommaByte = 136
memory_number memory.CommaWord = 137
memory_number memory.CommaLong = 138
memory_number memory.Comma = 139
memory_number memory.FreeMem = 141

abbrev pub splitting_number : SplittingWord → ℕ
splitting_number splitting.Lwsplit = 142
splitting_number splitting.Wljoin = 143
splitting_number splitting.Lbsplit = 144
splitting_number splitting.Bljoin = 145
splitting_number splitting.Wbsplit = 146
splitting_number splitting.Bwjoin = 147
splitting_number splitting.Wbflip = 148
splitting_number splitting.Lwflip = 149
splitting_number splitting.Lbflip = 150

abbrev pub text_number : TextWord → ℕ
text_number text.UpperCase = 151
text_number text.LowerCase = 152
text_number text.Pack = 153
text_number text.Count = 154
text_number text.Blank = 160
text_number text.Backspace = 161
text_number text.Bell = 162
text_number text.LeftParseString = 163
text_number text.ParseTwoInts = 164

abbrev pub numbers_number : NumbersWord → ℕ
numbers_number numbers.Begin = 165
numbers_number numbers.Hold = 166
numbers_number numbers.Sign = 167
numbers_number numbers.NextDigit = 168
numbers_number numbers.AllDigits = 169
numbers_number numbers.End = 170
numbers_number numbers.UnsignedDigit = 171
numbers_number numbers.UnsignedDigits = 172
numbers_number numbers.UnsignedEnd = 173
numbers_number numbers.Base = 179
numbers_number numbers.ParseNumber = 180
numbers_number numbers.Digit = 181
numbers_number numbers.MinusOne = 182
numbers_number numbers.Zero = 183
numbers_number numbers.One = 184
numbers_number numbers.Two = 185
numbers_number numbers.Three = 186
numbers_number numbers.Noop = 187
numbers_number numbers.FcodeRevision = 188

abbrev pub printing_number : PrintingWord → ℕ
printing_number printing.Emit = 157
printing_number printing.«Type» = 158
printing_number printing.CarriageReturn = 159
printing_number printing.Dot = 174
printing_number printing.UnsignedDot = 175
printing_number printing.DotRight = 176
printing_number printing.UnsignedDotRight = 177
printing_number printing.DotStack = 178

abbrev pub heap_number : HeapWord → ℕ
heap_number heap.AllocMem = 140

abbrev pub keys_number : KeysWord → ℕ
keys_number keys.KeyReady = 155
keys_number keys.Key = 156

abbrev pub returns_number : ReturnsWord → ℕ
returns_number returns.ToReturn = 92
returns_number returns.FromReturn = 93
returns_number returns.FetchReturn = 94
returns_number returns.Unloop = 95
returns_number returns.Index = 96
returns_number returns.OuterIndex = 97
returns_number returns.Exit = 98
returns_number returns.Execute = 99

abbrev pub dictionary_number : DictionaryWord → ℕ
dictionary_number dictionary.FromBody = 189
dictionary_number dictionary.ToBody = 190
dictionary_number dictionary.Find = 191
dictionary_number dictionary.Evaluate = 192
dictionary_number dictionary.GetToken = 193
dictionary_number dictionary.SetToken = 194
dictionary_number dictionary.State = 195
dictionary_number dictionary.CompileComma = 196
dictionary_number dictionary.Behavior = 197
dictionary_number dictionary.Instance = 198
dictionary_number dictionary.Error = 199
dictionary_number dictionary.ByteLoad = 200
dictionary_number dictionary.Immediate = 277
dictionary_number dictionary.EnterCompiling = 278
dictionary_number dictionary.PrintWords = 284

abbrev pub throws_number : ThrowsWord → ℕ
throws_number throws.Abort = 201
throws_number throws.Catch = 202
throws_number throws.Throw = 203

abbrev pub properties_number : PropertiesWord → ℕ
properties_number properties.Property = 204
properties_number properties.EncodeInt = 205
properties_number properties.EncodeString = 206
properties_number properties.EncodeBytes = 207
properties_number properties.EncodePhys = 208
properties_number properties.EncodePlus = 209
properties_number properties.DecodeInt = 210
properties_number properties.DecodeString = 211
properties_number properties.DecodePhys = 212
properties_number properties.Reg = 213
properties_number properties.Model = 214
properties_number properties.DeviceType = 215
properties_number properties.DeviceName = 216
properties_number properties.GetMyProperty = 217
properties_number properties.GetInheritedProperty = 218
properties_number properties.GetPackageProperty = 219
properties_number properties.DeleteProperty = 220
properties_number properties.NextProperty = 221

abbrev pub tree_number : TreeWord → ℕ
tree_number tree.NewDevice = 222
tree_number tree.FinishDevice = 223
tree_number tree.Child = 224
tree_number tree.Peer = 225
tree_number tree.FindPackage = 226
tree_number tree.OpenPackage = 227
tree_number tree.OpenNamedPackage = 228
tree_number tree.ClosePackage = 229
tree_number tree.FindMethod = 230
tree_number tree.CallPackage = 231
tree_number tree.CallParent = 232
tree_number tree.CallMethod = 233
tree_number tree.MySelf = 234
tree_number tree.MyParent = 235
tree_number tree.PackageOf = 236
tree_number tree.MyArgs = 237
tree_number tree.SetArgs = 238
tree_number tree.MyUnit = 239
tree_number tree.MyAddress = 240
tree_number tree.MySpace = 241

abbrev pub devices_number : DevicesWord → ℕ
devices_number devices.PeekByte = 242
devices_number devices.PeekWord = 243
devices_number devices.PeekLong = 244
devices_number devices.PokeByte = 245
devices_number devices.PokeWord = 246
devices_number devices.PokeLong = 247
devices_number devices.ReadByte = 248
devices_number devices.ReadWord = 249
devices_number devices.ReadLong = 250
devices_number devices.WriteByte = 251
devices_number devices.WriteWord = 252
devices_number devices.WriteLong = 253
devices_number devices.Milliseconds = 254
devices_number devices.Wait = 255

abbrev pub console_number : ConsoleWord → ℕ
console_number console.OnePlus = 256
console_number console.OneMinus = 257
console_number console.TwoPlus = 258
console_number console.TwoMinus = 259
console_number console.True = 260
console_number console.False = 261
console_number console.ShiftLeft = 262
console_number console.ShiftRight = 263
console_number console.Not = 264
console_number console.Struct = 265
console_number console.Space = 266
console_number console.Spaces = 267
console_number console.Allot = 268
console_number console.Align = 269
console_number console.Erase = 270
console_number console.Hex = 271
console_number console.Decimal = 272
console_number console.SingleToDouble = 273
console_number console.TimesSlash = 274
console_number console.TimesSlashMod = 275
console_number console.FcodeDebug = 276
console_number console.DeviceEnd = 279
console_number console.PrintPath = 280
console_number console.PrintChildren = 281
console_number console.PrintProperties = 282
console_number console.ShowDevices = 283

abbrev pub parsing_number : ParsingWord → ℕ
parsing_number parsing.Colon = 285
parsing_number parsing.Constant = 286
parsing_number parsing.Value = 287
parsing_number parsing.Variable = 288
parsing_number parsing.Create = 289
parsing_number parsing.Defer = 290
parsing_number parsing.Buffer = 291
parsing_number parsing.Field = 292
parsing_number parsing.Tick = 293
parsing_number parsing.Device = 294
parsing_number parsing.See = 295
parsing_number parsing.To = 296
parsing_number parsing.SourceString = 297
parsing_number parsing.String = 298
parsing_number parsing.PrintString = 299
parsing_number parsing.Hexadecimal = 300
parsing_number parsing.DecimalNumber = 301
parsing_number parsing.Char = 302
parsing_number parsing.Comment = 303
parsing_number parsing.LineComment = 304

abbrev pub compiling_number : CompilingWord → ℕ
compiling_number compiling.Semicolon = 305
compiling_number compiling.If = 306
compiling_number compiling.Else = 307
compiling_number compiling.Then = 308
compiling_number compiling.Ahead = 309
compiling_number compiling.Begin = 310
compiling_number compiling.While = 311
compiling_number compiling.Repeat = 312
compiling_number compiling.Until = 313
compiling_number compiling.Again = 314
compiling_number compiling.Do = 315
compiling_number compiling.QuestionDo = 316
compiling_number compiling.Loop = 317
compiling_number compiling.PlusLoop = 318
compiling_number compiling.Leave = 319
compiling_number compiling.Case = 320
compiling_number compiling.Of = 321
compiling_number compiling.EndOf = 322
compiling_number compiling.EndCase = 323
compiling_number compiling.Recurse = 324
compiling_number compiling.Literal = 325
compiling_number compiling.LeaveCompiling = 326
compiling_number compiling.BracketTick = 327
compiling_number compiling.BracketChar = 328
compiling_number compiling.ControlRoll = 329
compiling_number compiling.CommaTo = 330

-- by groups
abbrev pub primitive_number : PrimitiveWord → ℕ
primitive_number (Arithmetic w) = arithmetic_number w
primitive_number (Comparing w) = comparing_number w
primitive_number (Stacks w) = stacks_number w
primitive_number (Addresses w) = addresses_number w
primitive_number (Memory w) = memory_number w
primitive_number (Splitting w) = splitting_number w
primitive_number (Text w) = text_number w
primitive_number (Numbers w) = numbers_number w

abbrev pub number_of : Word → ℕ
number_of (Stream w) = stream_number w
number_of (Primitive w) = primitive_number w
number_of (Printing w) = printing_number w
number_of (Heap w) = heap_number w
number_of (Keys w) = keys_number w
number_of (Returns w) = returns_number w
number_of (Dictionary w) = dictionary_number w
number_of (Throws w) = throws_number w
number_of (Properties w) = properties_number w
number_of (Tree w) = tree_number w
number_of (Devices w) = devices_number w
number_of (Console w) = console_number w
number_of (Parsing w) = parsing_number w
number_of (Compiling w) = compiling_number w
