-- How long tokens are.
use Rattle.std.proofs.Common.{◌≡◌, ℕ, suc, ◌+◌, ◌/◌, ◌%◌, ◌≤◌, Bool, true, false, List, [], ◌∷◌, ◌++◌, length, nat_lt}
use Rattle.std.proofs.Common.{if◌then◌else◌, refl, ◌∙◌, arith}
use Rattle.std.proofs.lemmas.Bool.Decides.{nat_tests}
use Rattle.std.proofs.lemmas.List.{length-append}
use Rattle.of_fcodes.specs.declared.codes.FCode.{FCode}
use Rattle.of_stream.specs.declared.stream.OffsetSize.{OffsetSize}
use Rattle.of_stream.specs.declared.stream.OffsetSize.TheVariants.{One, Two}
use Rattle.of_stream.specs.Bytes.{IsEncodable, argument_bytes, code_bytes, fits, offset_bytes, token_bytes}
use Rattle.of_stream.specs.Sizes.{width}
use Rattle.of_source.specs.Keywords.{fcode}
use Rattle.of_source.specs.Items.{Item, call, maker_token}
use Rattle.of_source.specs.Items as item
use Rattle.of_tok.specs.declared.place.Place.{Place}
use Rattle.of_tok.specs.Image.{bytes_of, written_bytes}
use Rattle.of_tok.specs.Layout.{Laid, after, end_place, laid, item_laid, starts_after}
use Rattle.of_tok.specs.Places.{behind}
use Rattle.of_tok.specs.Tokens.{aimed, offset_of, straight, branch_code, do_code, loop_code, first}
use Rattle.of_stream.specs.Decoding.{Argument, Nothing, Literal, String, Code, Named, Offset, Token}

code_short : (c : FCode) → length (code_bytes c) ≤ 2
code_short c = either (nat_lt c.0 256)
  where
    either : (b : Bool) → length (if b then c.0 ∷ [] else c.0 / 256 ∷ c.0 % 256 ∷ []) ≤ 2
    either true = omega arith
    either false = omega arith

argument_short : (size : OffsetSize) (a : Argument) → fits size a ≡ true → length (argument_bytes size a) ≤ 258
argument_short size Nothing h = omega arith
argument_short size (Literal x) h = omega arith
argument_short size (String s) h = grind (arith, nat_tests)
argument_short size (Code c) h = grind (arith, code_short c)
argument_short size (Named s c) h = grind (arith, nat_tests, code_short c, length-append s (code_bytes c))
argument_short One (Offset by) h = omega arith
argument_short Two (Offset by) h = omega arith

-- a token that has bytes has few of them
pub few : (size : OffsetSize) (t : Token) → IsEncodable size t → length (token_bytes size t) ≤ 260
unfolding token_bytes
few size t h =
    let a = argument_short size t.argument h.2 in
    let c = code_short t.code in
    omega (arith, length-append (code_bytes t.code) (argument_bytes size t.argument), a, c)

-- ---- how long the tokens of items are

straight_length : (code : ℕ) (p : Place) → nat_lt code 256 ≡ true → length (written_bytes (straight code p)) ≡ 1
unfolding token_bytes
straight_length code p h = rw h refl

aimed_length : (l code : ℕ) (p : Place) (t : ℕ) → nat_lt code 256 ≡ true
    → length (written_bytes (aimed l code p t)) ≡ 1 + width p.size
unfolding token_bytes
aimed_length l code p t h = rw h (sized p.size)
  where
    sized : (z : OffsetSize)
        → suc (length (offset_bytes z (offset_of (record { word = l; place = p; code = fcode code; target = t }))))
        ≡ 1 + width z
    sized One = refl
    sized Two = refl

one : (code : ℕ) → nat_lt code 256 ≡ true → (p : Place) (bytes : List ℕ)
    → p.position + length (written_bytes (straight code p) ++ bytes) ≡ p.position + 1 + length bytes
one code h p bytes = omega (arith, length-append (written_bytes (straight code p)) bytes, straight_length code p h)

with_offset : (l code : ℕ) → nat_lt code 256 ≡ true → (p : Place) (t : ℕ) (bytes : List ℕ)
    → p.position + length (written_bytes (aimed l code p t) ++ bytes) ≡ p.position + (1 + width p.size) + length bytes
with_offset l code h p t bytes =
    omega (arith, length-append (written_bytes (aimed l code p t)) bytes, aimed_length l code p t h)

branch_short : (z : Bool) → nat_lt (branch_code z) 256 ≡ true
branch_short true = refl
branch_short false = refl

do_short : (v : Bool) → nat_lt (do_code v) 256 ≡ true
do_short true = refl
do_short false = refl

loop_short : (v : Bool) → nat_lt (loop_code v) 256 ≡ true
loop_short true = refl
loop_short false = refl

-- how many bytes an item adds
item_length : (i : Item) (p : Place) (start next : ℕ) (q : Laid)
    → p.position + length (bytes_of (item_laid i p start next q).tokens)
    ≡ (after i p).position + length (bytes_of q.tokens)
item_length (item.Plain t) p start next q =
    omega (arith, length-append (token_bytes p.size t) (bytes_of q.tokens))
item_length (item.Colon m) p start next q =
    let c = behind (maker_token m) p in
    let rest = written_bytes (straight 0x0b7 c) ++ bytes_of q.tokens in
    let a = length-append (token_bytes p.size (maker_token m)) rest in
    omega (arith, a, one 0x0b7 refl c (bytes_of q.tokens))
item_length (item.Defining m t) p start next q =
    let c = behind (maker_token m) p in
    let kind = token_bytes c.size (call t) in
    let a = length-append (token_bytes p.size (maker_token m)) (kind ++ bytes_of q.tokens) in
    omega (arith, a, length-append kind (bytes_of q.tokens))
item_length item.Semicolon p start next q = one 0x0c2 refl p (bytes_of q.tokens)
item_length (item.If l) p start next q = with_offset l 0x014 refl p (first q.aims) (bytes_of q.tokens)
item_length (item.Else l) p start next q =
    let a = with_offset l 0x013 refl p (first q.aims) (written_bytes (straight 0x0b2 p) ++ bytes_of q.tokens) in
    let b = one 0x0b2 refl p (bytes_of q.tokens) in
    omega (arith, a, b)
item_length item.Then p start next q = one 0x0b2 refl p (bytes_of q.tokens)
item_length item.Begin p start next q = one 0x0b1 refl p (bytes_of q.tokens)
item_length (item.Back z l) p start next q = with_offset l (branch_code z) (branch_short z) p start (bytes_of q.tokens)
item_length (item.Do v l) p start next q = with_offset l (do_code v) (do_short v) p (first q.ends) (bytes_of q.tokens)
item_length (item.Loop v l) p start next q = with_offset l (loop_code v) (loop_short v) p start (bytes_of q.tokens)
item_length item.Leave p start next q = one 0x01b refl p (bytes_of q.tokens)
item_length item.Case p start next q = one 0x0c4 refl p (bytes_of q.tokens)
item_length (item.Of l) p start next q = with_offset l 0x01c refl p (first q.ends) (bytes_of q.tokens)
item_length (item.EndOf l) p start next q = with_offset l 0x0c6 refl p (first q.ends) (bytes_of q.tokens)
item_length item.EndCase p start next q = one 0x0c5 refl p (bytes_of q.tokens)

-- all items and `end0`
pub all_length : (is : List Item) (p : Place) (starts : List ℕ)
    → p.position + length (bytes_of (laid is p starts).tokens) ≡ (end_place is p).position + 1
all_length [] p starts = let a = one 0x000 refl p [] in omega (arith, a)
all_length (i ∷ is) p starts =
    item_length i p (first starts) (after i p).position (laid is (after i p) (starts_after i p starts))
    ∙ all_length is (after i p) (starts_after i p starts)
