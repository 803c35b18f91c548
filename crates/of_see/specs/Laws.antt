-- What `see` prints of plain items is these items, word for word (Forth 2012, 3.4, 15.6.1.2194; IEEE 1275-1994, 7.3.1
-- and annex A, `see`).
use Rattle.std.specs.Prelude.{◌≡◌, ◌≢◌, ◌⊎◌, ℕ, ◌+◌, ◌<◌, ◌^◌, false, List, [], ◌∷◌, ◌++◌, length, map, codes}
use Rattle.std.specs.Prelude.{Option, Result, Ok}
use Rattle.std.specs.List.{All}
use Rattle.of_cells.specs.declared.cells.Cell.{Cell}
use Rattle.of_stacks.specs.declared.throws.Throw.{Throw}
use Rattle.of_memory.specs.Access.{read_bytes}
use Rattle.of_memory.specs.DataSpace.{DataSpace}
use Rattle.of_scan.specs.Parts.{quoted_part}
use Rattle.of_scan.specs.Scan.{rest_at}
use Rattle.of_scan.specs.Words.{IsWord}
use Rattle.of_code.specs.declared.item.Item.{Item}
use Rattle.of_code.specs.Items.{laid_out}
use Rattle.of_compile.specs.declared.element.Element.TheVariants as E
use Rattle.of_compile.specs.declared.element.PlainItem.{PlainItem}
use Rattle.of_compile.specs.declared.element.PlainItem.TheVariants as P
use Rattle.of_compile.specs.Elements.{plain_item}
use Rattle.of_text.specs.declared.words.TextWord.TheVariants as text
use Rattle.of_text.specs.Names.{Names, known_name, number_named}
use Rattle.of_text.specs.Reading.{word_read}
use Rattle.of_see.specs.SeeItems.{see_items}
use Rattle.of_see.specs.SeeText.{count_shown, number_shown, plain_shown}

-- the cells of items that go on at the next one
abbrev pub laid : List PlainItem → List (Option Item)
laid [] = []
laid (k ∷ ks) = laid_out (plain_item k) ++ laid ks

-- Items that go on at the next one are printed one by one, in their order, and nothing else is.
abbrev pub PlainItemsAreListed : Type 0
PlainItemsAreListed = (first : ℕ) (ks : List PlainItem) → see_items first (laid ks) ≡ map (λ k. E.Plain k) ks

-- what is printed, read as the next word of a text in which a space follows, is a word that isn't executed where it is
-- compiled
abbrev pub IsReadAs : Names → Cell → List ℕ → Type 0
IsReadAs n xt shown =
    (base : Result ℕ Throw) (at : ℕ) (more : List ℕ)
    → word_read n base (rest_at at (shown ++ 32 ∷ more))
    ≡ (text.Found xt false, rest_at (at + length shown) (32 ∷ more))

-- what is printed of a number is `h#`, a space and one word, the digits, that say it in base 16
abbrev pub IsReadAsNumber : ℕ → List ℕ → Type 0
IsReadAsNumber x shown =
    (digits : List ℕ) × (shown ≡ codes "h# " ++ digits) × IsWord digits
    × (number_named (Ok 16) digits ≡ Ok (record { 0 = x }))

-- What is printed of a word or a number of a definition is read as that.
pub record WordsReadBack : Type 0 where
  -- a word calls itself by `recurse`
  pub itself : (n : Names) (m : DataSpace) (xt : Cell) → plain_shown n m xt.0 (P.Call xt) ≡ codes "recurse"
  -- and another by a name that stands for it, or by its execution token
  pub call : (n : Names) (m : DataSpace) (self : ℕ) (xt : Cell) → xt.0 ≢ self
      → IsReadAs n xt (plain_shown n m self (P.Call xt))
      ⊎ (plain_shown n m self (P.Call xt) ≡ codes "[ " ++ number_shown xt.0 ++ codes " compile, ]")
  -- it stores into one behind a name that finds it, or by its execution token
  pub store : (n : Names) (m : DataSpace) (self : ℕ) (xt : Cell)
      → ((name : List ℕ) × (plain_shown n m self (P.Store xt) ≡ codes "to " ++ name) × IsWord name
      × (known_name n name ≡ Ok xt))
      ⊎ (plain_shown n m self (P.Store xt) ≡ codes "[ " ++ number_shown xt.0 ++ codes " ] to,")
  -- a literal, an execution token and how far a branch is rolled are numbers behind `h#`
  pub literal : (n : Names) (m : DataSpace) (self : ℕ) (x : Cell) → x.0 < 2 ^ 32
      → IsReadAsNumber x.0 (plain_shown n m self (P.Literal x))
  pub number : (x : ℕ) → x < 2 ^ 32 → IsReadAsNumber x (number_shown x)
  pub count : (x : ℕ) → x < 2 ^ 32 → IsReadAsNumber x (count_shown x)

-- What is printed of a string is `"`, a space and a text that is read as its bytes, up to the space that follows.
abbrev pub StringsReadBack : Type 0
StringsReadBack =
    (n : Names) (m : DataSpace) (self : ℕ) (address count : Cell) (bytes : List ℕ)
    → read_bytes m address.0 count.0 ≡ Ok bytes → All (λ b. b < 256) bytes
    → (text : List ℕ) × (plain_shown n m self (P.String address count) ≡ codes "\" " ++ text)
    × ((more : List ℕ) → quoted_part (text ++ 32 ∷ more) ≡ (bytes, 32 ∷ more))
