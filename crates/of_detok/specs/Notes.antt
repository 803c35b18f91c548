-- What a listing says beyond names and operands: the names that definitions were given, and how deep structures stand
-- in one another.
use Rattle.std.specs.Prelude.{ℕ, ◌+◌, ◌-◌, ◌*◌, pos, Bool, ◌||◌, List, [], ◌++◌, map, replicate, set, slice_get}
use Rattle.std.specs.Prelude.{codes, min, Option, Some, None, nat_eq, int_lt, if◌then◌else◌}
use Rattle.std.specs.Option.{option_flatten, option_map}
use Rattle.of_stream.specs.Decoding.{Argument, Nothing, Code, Named, Offset, Token}
use Rattle.of_detok.specs.declared.notes.Extras.{Extras}
use Rattle.of_detok.specs.declared.notes.Nest.{Nest}
use Rattle.of_detok.specs.declared.notes.Nest.TheVariants.{Opens, Closes, Stays}
use Rattle.of_detok.specs.Labels.{shown, token_label}

-- what the tokens so far say of those that follow
pub record Notes : Type 0 where
  pub names : List (Option (List ℕ))  -- the name of each FCode that was given one; empty where names aren't said
  pub depth : Option ℕ  -- how many structures are open, where lines are indented

-- before the first token
abbrev pub first_notes : Extras → Notes
first_notes e = record {
  names = if e.names then replicate 4096 None else [];
  depth = if e.indents then Some 0 else None;
}

-- ---- names

-- `new-token` gives an FCode to a word without a name
abbrev pub is_nameless : ℕ → Bool
is_nameless code = nat_eq code 0x0b5

-- the names behind a token
abbrev pub named_behind : ℕ → Argument → List (Option (List ℕ)) → List (Option (List ℕ))
named_behind code (Named name c) names = set names c.0 (Some name)
named_behind code (Code c) names = if is_nameless code then set names c.0 None else names
named_behind code _ names = names

-- the name that an FCode was given, if it was given one
abbrev pub name_given : List (Option (List ℕ)) → ℕ → Option (List ℕ)
name_given names code = option_flatten (slice_get names code)

-- the name to be said of a token: that of its operand, or its own
abbrev pub name_of_token : ℕ → Argument → List (Option (List ℕ)) → Option (List ℕ)
name_of_token code Nothing names = name_given names code
name_of_token code (Code c) names = if is_nameless code then None else name_given names c.0
name_of_token code _ names = None

-- a name behind a space, if there is one
abbrev pub said_name : Option (List ℕ) → List ℕ
said_name (Some name) = codes " " ++ map shown name
said_name None = []

-- ---- structures

-- a branch forward opens a structure, and one back closes it
abbrev pub branch_nest : Argument → Nest
branch_nest (Offset by) = if int_lt by (pos 0) then Closes else Opens
branch_nest _ = Stays

-- `b(<mark)`, `b(do)`, `b(?do)`, `b(case)`, `b(of)` and `b(:)` open one
abbrev pub is_opener : ℕ → Bool
is_opener code = nat_eq code 0x0b1 || nat_eq code 0x017 || nat_eq code 0x018 || nat_eq code 0x0c4 || nat_eq code 0x01c
    || nat_eq code 0x0b7

-- `b(>resolve)`, `b(loop)`, `b(+loop)`, `b(endcase)`, `b(endof)` and `b(;)` close one
abbrev pub is_closer : ℕ → Bool
is_closer code = nat_eq code 0x0b2 || nat_eq code 0x015 || nat_eq code 0x016 || nat_eq code 0x0c5 || nat_eq code 0x0c6
    || nat_eq code 0x0c2

-- `bbranch` and `b?branch`
abbrev pub is_branch : ℕ → Bool
is_branch code = nat_eq code 0x013 || nat_eq code 0x014

-- what a token does to structures
abbrev pub nest_of : Token → Nest
nest_of t = if is_branch t.code.0 then branch_nest t.argument else if is_opener t.code.0 then Opens else
    if is_closer t.code.0 then Closes else Stays

-- so many structures are counted at most
abbrev pub deepest : ℕ
deepest = 32

-- how many structures are open around the line of a token
abbrev pub depth_at : Nest → ℕ → ℕ
depth_at Closes d = d - 1
depth_at Opens d = d
depth_at Stays d = d

-- and behind it
abbrev pub depth_behind : Nest → ℕ → ℕ
depth_behind Opens d = min (d + 1) deepest
depth_behind Closes d = d - 1
depth_behind Stays d = d

-- two spaces for each structure
abbrev pub indent : Nest → Option ℕ → List ℕ
indent t (Some d) = replicate (2 * depth_at t d) 0x20
indent t None = []

-- ---- tokens

-- what is noted behind a token
abbrev pub behind_token : Token → Notes → Notes
behind_token t n = record {
  names = named_behind t.code.0 t.argument n.names;
  depth = option_map (depth_behind (nest_of t)) n.depth;
}

-- the label of a token at a position, indented, with the name that it was given
abbrev pub noted_label : Notes → ℕ → Token → List ℕ
noted_label n position t =
    indent (nest_of t) n.depth ++ token_label position t ++ said_name (name_of_token t.code.0 t.argument n.names)
