-- What `see` prints of a definition, read again word by word (Forth 2012, 3.4, 15.6.1.2194; IEEE 1275-1994, 7.3.1 and
-- annex A, `see`).
use Rattle.std.specs.Prelude.{◌≡◌, ◌≢◌, ◌⊎◌, ℕ, ◌+◌, ◌<◌, ◌^◌, false, List, [], ◌∷◌, ◌++◌, length, drop, codes}
use Rattle.std.specs.Prelude.{Some, None, Result, Ok}
use Rattle.std.specs.List.{All}
use Rattle.of_cells.specs.declared.cells.Cell.{Cell}
use Rattle.of_stacks.specs.declared.throws.Throw.{Throw}
use Rattle.of_fcodes.specs.declared.console_words.CompilingWord.{CompilingWord}
use Rattle.of_fcodes.specs.declared.console_words.CompilingWord.TheVariants as compiling
use Rattle.of_fcodes.specs.declared.words.DictionaryWord.TheVariants as dictionary
use Rattle.of_fcodes.specs.declared.words.Word.{Word}
use Rattle.of_fcodes.specs.declared.words.Word.TheVariants as word
use Rattle.of_fcodes.specs.Finding.{xt_of}
use Rattle.of_memory.specs.declared.fault.MemFault.{MemFault}
use Rattle.of_memory.specs.Access.{read_bytes}
use Rattle.of_memory.specs.DataSpace.{DataSpace}
use Rattle.of_scan.specs.Parts.{quoted_part}
use Rattle.of_scan.specs.Words.{IsWord}
use Rattle.of_code.specs.Code.{Code}
use Rattle.of_control.specs.Element.{Back, Branch, Case, Do, Element, EndCase, EndOf, Leave, Loop, Mark, Of, Resolve}
use Rattle.of_compile.specs.declared.defining.DefiningWord.TheVariants as defining
use Rattle.of_compile.specs.declared.element.Element.{Element as Printed}
use Rattle.of_compile.specs.declared.element.Element.TheVariants as E
use Rattle.of_compile.specs.declared.element.PlainItem.{PlainItem}
use Rattle.of_compile.specs.declared.element.PlainItem.TheVariants as P
use Rattle.of_compile.specs.Tokens.{text_elements}
use Rattle.of_text.specs.declared.words.Part.{Part}
use Rattle.of_text.specs.declared.words.TextWord.{TextWord}
use Rattle.of_text.specs.declared.words.TextWord.TheVariants as text
use Rattle.of_text.specs.Names.{Names, own_named}
use Rattle.of_text.specs.Reading.{text_read}
use Rattle.of_see.specs.SeeText.{definition_elements, definition_shown, name_at}

-- ---- words that are read

-- These words stand next in a text from a position on, one behind the other, whatever the base, up to another position.
abbrev pub AreRead : Names → List ℕ → ℕ → List TextWord → ℕ → Type 0
AreRead n shown at [] end = at ≡ end
AreRead n shown at (w ∷ ws) end =
    (next : ℕ) × ((base : Result ℕ Throw) → text_read n base shown at ≡ record { word = w; next = next })
    × AreRead n shown next ws end

-- ---- words that compile an element

-- a written word, which is called
abbrev pub written : Word → TextWord
written w = text.Found (record { 0 = xt_of w }) false

-- `[`, a number, and these words, which take it; the first goes on interpreting
abbrev pub taking : ℕ → List TextWord → List TextWord
taking x ws = text.Compiling compiling.LeaveCompiling ∷ text.Number (Ok (record { 0 = x })) ∷ ws

-- `]`, which goes on compiling
abbrev pub enter : TextWord
enter = written (word.Dictionary dictionary.EnterCompiling)

-- a call: `recurse` where a word calls itself; another word by its name, or by `[ h# xt compile, ]`
abbrev pub CompileCall : ℕ → Cell → List TextWord → Type 0
CompileCall self xt ws =
    ((xt.0 ≡ self) × (ws ≡ text.Compiling compiling.Recurse ∷ []))
    ⊎ ((xt.0 ≢ self)
    × ((ws ≡ text.Found xt false ∷ [])
    ⊎ (ws ≡ taking xt.0 (written (word.Dictionary dictionary.CompileComma) ∷ enter ∷ []))))

-- a store: `to` and the word, by its name; or `[ h# xt ] to,`
abbrev pub CompileStore : Cell → List TextWord → Type 0
CompileStore xt ws =
    (ws ≡ text.To (Ok xt) ∷ []) ⊎ (ws ≡ taking xt.0 (enter ∷ text.Compiling compiling.CommaTo ∷ []))

-- a string: the word `"`, behind which the text says these bytes
abbrev pub CompileString : List ℕ → Result (List ℕ) MemFault → List TextWord → Type 0
CompileString shown bytes ws =
    (at : ℕ) × (ws ≡ text.Quoted at ∷ []) × (bytes ≡ Ok (quoted_part (drop at shown)).0)

-- a word of control, which leaves this element and no other
abbrev pub CompileControl : Element PlainItem → List TextWord → Type 0
CompileControl e ws = (w : CompilingWord) × (ws ≡ text.Compiling w ∷ []) × (text_elements w ≡ e ∷ [])

abbrev pub CompilePlain : List ℕ → DataSpace → ℕ → PlainItem → List TextWord → Type 0
CompilePlain shown m self (P.Operation xt) ws = CompileCall self xt ws
CompilePlain shown m self (P.Literal x) ws = ws ≡ text.Number (Ok x) ∷ []
CompilePlain shown m self (P.String address n) ws = CompileString shown (read_bytes m address.0 n.0) ws
CompilePlain shown m self (P.Call xt) ws = CompileCall self xt ws
CompilePlain shown m self (P.Store xt) ws = CompileStore xt ws

-- These words of a text compile an element of the definition of the word `self`. A text knows no positions, so its
-- branches have no target.
abbrev pub Compile : List ℕ → DataSpace → ℕ → Printed → List TextWord → Type 0
Compile shown m self (E.Plain k) ws = CompilePlain shown m self k ws
Compile shown m self (E.Branch z t) ws = CompileControl (Branch z None) ws
Compile shown m self (E.Resolve p) ws = CompileControl (Resolve None) ws
Compile shown m self (E.Mark p) ws = CompileControl (Mark None) ws
Compile shown m self (E.Back z t) ws = CompileControl (Back z None) ws
Compile shown m self (E.Roll k) ws = ws ≡ taking k (enter ∷ text.Compiling compiling.ControlRoll ∷ [])
Compile shown m self (E.Do q) ws = CompileControl (Do q) ws
Compile shown m self (E.Loop l) ws = CompileControl (Loop l) ws
Compile shown m self E.Leave ws = CompileControl Leave ws
Compile shown m self E.Case ws = CompileControl Case ws
Compile shown m self E.Of ws = CompileControl Of ws
Compile shown m self E.EndOf ws = CompileControl EndOf ws
Compile shown m self E.EndCase ws = CompileControl EndCase ws
Compile shown m self (E.Misfit k) ws = CompilePlain shown m self k ws

-- each element by words of its own, one element behind the other
abbrev pub CompileAll : List ℕ → DataSpace → ℕ → List Printed → List TextWord → Type 0
CompileAll shown m self [] ws = ws ≡ []
CompileAll shown m self (e ∷ es) ws =
    (first : List TextWord) × (rest : List TextWord) × (ws ≡ first ++ rest) × Compile shown m self e first
    × CompileAll shown m self es rest

-- ---- what is asked

-- no own word bears one of these names
abbrev pub AreFree : Names → List (List ℕ) → Type 0
AreFree n [] = Unit {0}
AreFree n (name ∷ names) = (own_named n name ≡ None) × AreFree n names

-- the names of the words that `see` prints with
abbrev pub printing_names : List (List ℕ)
printing_names =
    codes ":" ∷ codes ";" ∷ codes "[" ∷ codes "]" ∷ codes "h#" ∷ codes "compile," ∷ codes "recurse" ∷ codes "to" ∷
    codes "to," ∷ codes "\"" ∷ codes "cs-roll" ∷ codes "if" ∷ codes "ahead" ∷ codes "begin" ∷ codes "until" ∷
    codes "again" ∷ codes "then" ∷ codes "do" ∷ codes "?do" ∷ codes "loop" ∷ codes "+loop" ∷ codes "leave" ∷
    codes "case" ∷ codes "of" ∷ codes "endof" ∷ codes "endcase" ∷ []

-- a number is a cell, and the bytes of a string can be read
abbrev pub IsPlainShown : DataSpace → PlainItem → Type 0
IsPlainShown m (P.Operation xt) = xt.0 < 2 ^ 32
IsPlainShown m (P.Literal x) = x.0 < 2 ^ 32
IsPlainShown m (P.String address n) =
    (bytes : List ℕ) × (read_bytes m address.0 n.0 ≡ Ok bytes) × All (λ b. b < 256) bytes
IsPlainShown m (P.Call xt) = xt.0 < 2 ^ 32
IsPlainShown m (P.Store xt) = xt.0 < 2 ^ 32

abbrev pub IsShown : DataSpace → Printed → Type 0
IsShown m (E.Plain k) = IsPlainShown m k
IsShown m (E.Branch z t) = Unit {0}
IsShown m (E.Resolve p) = Unit {0}
IsShown m (E.Mark p) = Unit {0}
IsShown m (E.Back z t) = Unit {0}
IsShown m (E.Roll k) = k < 2 ^ 32
IsShown m (E.Do q) = Unit {0}
IsShown m (E.Loop l) = Unit {0}
IsShown m E.Leave = Unit {0}
IsShown m E.Case = Unit {0}
IsShown m E.Of = Unit {0}
IsShown m E.EndOf = Unit {0}
IsShown m E.EndCase = Unit {0}
IsShown m (E.Misfit k) = IsPlainShown m k

abbrev pub AreShown : DataSpace → List Printed → Type 0
AreShown m [] = Unit {0}
AreShown m (e ∷ es) = IsShown m e × AreShown m es

-- ---- the law

-- The words of what is printed of a definition are `:` with its name, words that compile its elements one behind the
-- other, and `;`, and then the text ends: where the name is one word, and no own word bears the name of a word that
-- `see` prints with.
abbrev pub TextScansBack : Type 0
TextScansBack =
    (n : Names) (m : DataSpace) (c : Code) (xt start : ℕ) (name : List ℕ)
    → name_at n.words xt ≡ Some name → IsWord name → AreFree n printing_names
    → AreShown m (definition_elements c start)
    → let shown = definition_shown n m c xt start in
    let part : Part = record { begin = 2; end = 2 + length name } in
    (ws : List TextWord) × CompileAll shown m xt (definition_elements c start) ws
    × AreRead n shown 0
    (text.Defining defining.Colon part ∷ (ws ++ text.Compiling compiling.Semicolon ∷ text.End ∷ [])) (length shown)
