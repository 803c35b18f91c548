-- What names, unit addresses and components are, in the words of the standard (IEEE 1275-1994, 3.2.1.1, 3.2.1.2,
-- 3.2.2.1.1 and 4.3.1, annex A, `reg` and `#address-cells`).
use Rattle.std.specs.Prelude.{ℕ, ◌*◌, ◌^◌, ◌<◌, ◌≤◌, ◌≡◌, ◌≢◌, ◌⊎◌, ◌↔◌}
use Rattle.std.specs.Prelude.{true, List, [], ◌∷◌, ◌++◌, length}
use Rattle.std.specs.Prelude.{Some, None}
use Rattle.std.specs.List.{AllByRecursion}
use Rattle.byteorder.specs.Endian.{big_bytes, big_number}
use Rattle.of_format.specs.Digits.{unsigned_text}
use Rattle.of_memory.specs.DataSpace.{DataSpace}
use Rattle.of_nodes.specs.declared.tree.Node.{Node}
use Rattle.of_nodes.specs.Asked.{asked, fits}
use Rattle.of_nodes.specs.Components.{count_in, node_name, unit_in, unit_of}
use Rattle.of_nodes.specs.Methods.{is_method_name}
use Rattle.of_nodes.specs.Names.{is_name}

-- a byte of a name is printable, and none of `/`, `:` and `@`
pub record IsNameByte (b : ℕ) : Type 0 where
  pub from : 0x21 ≤ b
  pub to : b ≤ 0x7e
  pub slash : b ≢ 47
  pub colon : b ≢ 58
  pub at : b ≢ 64

-- a name has 1 to 31 such bytes
pub record IsName (xs : List ℕ) : Type 0 where
  pub some : 1 ≤ length xs
  pub short : length xs ≤ 31
  pub bytes : AllByRecursion IsNameByte xs

-- a text without a byte
abbrev pub Lacks : ℕ → List ℕ → Type 0
Lacks b xs = AllByRecursion (λ x. x ≢ b) xs

-- arguments are none, or stand behind a `:`
abbrev pub AreArguments : List ℕ → Type 0
AreArguments xs = (xs ≡ []) ⊎ ((ys : List ℕ) × (xs ≡ 58 ∷ ys))

-- the bytes of the cells of an address, each with its high byte first
abbrev pub cells_bytes : List ℕ → List ℕ
cells_bytes [] = []
cells_bytes (a ∷ cells) = big_bytes 4 a ++ cells_bytes cells

-- the cells in hexadecimal, with commas between
abbrev pub cells_text : List ℕ → List ℕ
cells_text [] = []
cells_text (a ∷ []) = unsigned_text 16 a
cells_text (a ∷ b ∷ cells) = unsigned_text 16 a ++ 44 ∷ cells_text (b ∷ cells)

pub record ComponentsAreMeant : Type 0 where
  pub names : (xs : List ℕ) → (is_name xs ≡ true) ↔ IsName xs
  pub methods : (xs : List ℕ) → (is_method_name xs ≡ true) ↔ ((1 ≤ length xs) × (length xs ≤ 31))
  -- `#address-cells` counts where it is a cell of 1 to 4
  pub counts : (k : ℕ) → 1 ≤ k → k ≤ 4 → count_in (Some (big_bytes 4 k)) ≡ k
  pub no_cell : (xs : List ℕ) → length xs ≢ 4 → count_in (Some xs) ≡ 2
  pub no_count : (xs : List ℕ) → length xs ≡ 4 → (big_number 4 xs ≡ 0) ⊎ (4 < big_number 4 xs) → count_in (Some xs) ≡ 2
  pub none : count_in None ≡ 2
  -- a unit address is the first cells of `reg`, where there are so many
  pub units : (cells rest : List ℕ) → 1 ≤ length cells → length cells ≤ 4 → AllByRecursion (λ a. a < 2 ^ 32) cells
      → unit_in (length cells) (Some (cells_bytes cells ++ rest)) ≡ Some (cells_text cells)
  pub short : (count : ℕ) (xs : List ℕ) → length xs < 4 * count → unit_in count (Some xs) ≡ None
  pub no_reg : (count : ℕ) → unit_in count None ≡ None
  -- a component of a name fits the nodes of that name
  pub by_name : (m : DataSpace) (count : ℕ) (n : Node) (name arguments : List ℕ) → Lacks 58 name → Lacks 64 name
      → AreArguments arguments → (fits m count n (asked (name ++ arguments)) ≡ true) ↔ (name ≡ node_name m n)
  -- and one of a unit address those of that address, and of that name where it has one
  pub by_unit : (m : DataSpace) (count : ℕ) (n : Node) (name unit arguments : List ℕ) → Lacks 58 name → Lacks 64 name
      → Lacks 58 unit → AreArguments arguments
      → (fits m count n (asked ((name ++ 64 ∷ unit) ++ arguments)) ≡ true)
      ↔ (((name ≡ []) ⊎ (name ≡ node_name m n)) × (unit_of m count n ≡ Some unit))
