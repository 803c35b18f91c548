-- The image from what the passes give.
use Rattle.std.proofs.Common.{◌≡◌, ℕ, ◌+◌, ◌<◌, ◌≤◌, Bool, true, false, List, [], ◌∷◌, ◌++◌, length, map}
use Rattle.std.proofs.Common.{Option, Some, None, Ok, Err, nat_lt, refl, sym, ap, subst, ◌∙◌, arith}
use Rattle.std.specs.List.{All}
use Rattle.std.proofs.lemmas.List.Elements.{All-cons, All-head, All-tail}
use Rattle.std.proofs.lemmas.Bool.Decides.{nat_tests}
use Rattle.of_fcodes.specs.Lookup.{row_numbered}
use Rattle.of_fcodes.specs.Rows.{rows, first_rows, second_rows, third_rows, fourth_rows, fifth_rows}
use Rattle.of_stream.specs.declared.stream.OffsetSize.{OffsetSize}
use Rattle.of_stream.specs.declared.stream.OffsetSize.TheVariants.{One, Two}
use Rattle.of_stream.specs.Bytes.{IsEncodable}
use Rattle.of_stream.specs.Decoding.{Token}
use Rattle.of_source.specs.Encodable.{AreEncodable, HasBytes, HasTokenBytes, definitions, most_definitions}
use Rattle.of_source.specs.declared.item.Item.{Item as Held}
use Rattle.of_source.specs.Items.{Item, Source, call, item_shown, maker_token}
use Rattle.of_source.specs.Items as item
use Rattle.of_source.specs.Nest.{IsNested, ItemsGiveNest, nest_of}
use Rattle.of_stream.specs.Image.{header_length}
use Rattle.of_tok.specs.declared.fault.TokFault.{TokFault}
use Rattle.of_tok.specs.declared.fault.TokFault.TheVariants.{OffsetTooLong, TooManyWords, ImageTooLong, NoMemory}
use Rattle.of_tok.specs.declared.place.Place.{Place}
use Rattle.of_tok.specs.Image.{AreWritable, IsRefused, IsWritable, bytes_of, first_unfit, header, most_bytes}
use Rattle.of_tok.specs.Image.{tokenized, unless_unfit, written_behind}
use Rattle.of_tok.specs.Layout.{CannotPlace, Laid, Placed, after, end_place, item_laid, laid, laid_end, laid_over}
use Rattle.of_tok.specs.Layout.{placed, placed_at, starts_after}
use Rattle.of_tok.specs.Places.{behind, first_place}
use Rattle.of_tok.specs.Tokens.{tokens_of, Written, aimed, branch_code, do_code, loop_code, first}
use Rattle.of_tok.proofs.Lengths.{all_length}
use Rattle.of_tok.proofs.PassLemmas.{tokens_nested}

-- ---- the tokens can be written

aimed_writable : (z : Bool) (l : ℕ) (p : Place) (t : ℕ) → IsWritable (aimed l (branch_code z) p t)
unfolding row_numbered rows first_rows second_rows third_rows fourth_rows fifth_rows
aimed_writable true l p t = (refl, refl)
aimed_writable false l p t = (refl, refl)

do_writable : (v : Bool) (l : ℕ) (p : Place) (t : ℕ) → IsWritable (aimed l (do_code v) p t)
unfolding row_numbered rows first_rows second_rows third_rows fourth_rows fifth_rows
do_writable true l p t = (refl, refl)
do_writable false l p t = (refl, refl)

loop_writable : (v : Bool) (l : ℕ) (p : Place) (t : ℕ) → IsWritable (aimed l (loop_code v) p t)
unfolding row_numbered rows first_rows second_rows third_rows fourth_rows fifth_rows
loop_writable true l p t = (refl, refl)
loop_writable false l p t = (refl, refl)

by_size : (size : OffsetSize) (t : Token) → HasTokenBytes t → IsEncodable size t
by_size One t h = h.0
by_size Two t h = h.1

item_writable : (i : Item) → HasBytes i → (p : Place) (start next : ℕ) (q : Laid) → AreWritable q.tokens
    → AreWritable (item_laid i p start next q).tokens
unfolding row_numbered rows first_rows second_rows third_rows fourth_rows fifth_rows
item_writable (item.Plain t) h p start next q w = (by_size p.size t h, w)
item_writable (item.Colon m) h p start next q w =
    (by_size p.size (maker_token m) h, ((refl, refl, refl), w))
item_writable (item.Defining m t) h p start next q w =
    (by_size p.size (maker_token m) h.0, (by_size (behind (maker_token m) p).size (call t) h.1, w))
item_writable item.Semicolon h p start next q w = ((refl, refl, refl), w)
item_writable (item.If l) h p start next q w = ((refl, refl), w)
item_writable (item.Else l) h p start next q w = ((refl, refl), ((refl, refl, refl), w))
item_writable item.Then h p start next q w = ((refl, refl, refl), w)
item_writable item.Begin h p start next q w = ((refl, refl, refl), w)
item_writable (item.Back z l) h p start next q w = (aimed_writable z l p start, w)
item_writable (item.Do v l) h p start next q w = (do_writable v l p (first q.ends), w)
item_writable (item.Loop v l) h p start next q w = (loop_writable v l p start, w)
item_writable item.Leave h p start next q w = ((refl, refl, refl), w)
item_writable item.Case h p start next q w = ((refl, refl, refl), w)
item_writable (item.Of l) h p start next q w = ((refl, refl), w)
item_writable (item.EndOf l) h p start next q w = ((refl, refl), w)
item_writable item.EndCase h p start next q w = ((refl, refl, refl), w)

pub all_writable : (is : List Item) → All HasBytes is → (p : Place) (starts : List ℕ)
    → AreWritable (laid is p starts).tokens
unfolding row_numbered rows first_rows second_rows third_rows fourth_rows fifth_rows
all_writable [] h p starts = ((refl, refl, refl), tt)
all_writable (i ∷ is) h p starts =
    let behind = All-tail HasBytes i is h in
    item_writable i (All-head HasBytes i is h) p (first starts) (after i p).position
    (laid is (after i p) (starts_after i p starts))
    (all_writable is behind (after i p) (starts_after i p starts))

-- ---- the image

-- the tokens of a source
abbrev pub tokens : Source → List Written
tokens s = tokens_of s.size (nest_of s.items)

pub too_many : (s : Source) → most_definitions < definitions s.items → tokenized s ≡ Err TooManyWords
unfolding tokenized
too_many s h = let t : nat_lt most_definitions (definitions s.items) ≡ true = grind (arith, nat_tests, h) in rw t refl

pub too_long : (s : Source) → definitions s.items ≤ most_definitions
    → most_bytes < header_length + length (bytes_of (tokens s)) → tokenized s ≡ Err ImageTooLong
unfolding tokenized
too_long s h l =
    let t : nat_lt most_definitions (definitions s.items) ≡ false = grind (arith, nat_tests, h) in
    let u : nat_lt most_bytes (header_length + length (bytes_of (tokens s))) ≡ true = grind (arith, nat_tests, l) in
    rw (t, u) refl

-- a source whose image isn't too long
fair : (s : Source) → definitions s.items ≤ most_definitions
    → header_length + length (bytes_of (tokens s)) ≤ most_bytes
    → tokenized s
    ≡ unless_unfit (first_unfit (tokens s)) (header s.size (bytes_of (tokens s)) ++ bytes_of (tokens s))
unfolding tokenized
fair s h l =
    let t : nat_lt most_definitions (definitions s.items) ≡ false = grind (arith, nat_tests, h) in
    let u : nat_lt most_bytes (header_length + length (bytes_of (tokens s))) ≡ false = grind (arith, nat_tests, l) in
    rw (t, u) refl

same_fault : (o : Option ℕ) (xs ys : List ℕ) (f : TokFault) → IsRefused (unless_unfit o xs) f
    → IsRefused (unless_unfit o ys) f
same_fault o xs ys NoMemory h = tt
same_fault None xs ys (OffsetTooLong l) h = absurd cc
same_fault (Some k) xs ys (OffsetTooLong l) h = h
same_fault None xs ys TooManyWords h = absurd cc
same_fault (Some k) xs ys TooManyWords h = absurd cc
same_fault None xs ys ImageTooLong h = absurd cc
same_fault (Some k) xs ys ImageTooLong h = absurd cc

pub refused : (s : Source) (ws : List Written) (f : TokFault) → definitions s.items ≤ most_definitions
    → ws ≡ tokens s → header_length + length (bytes_of ws) ≤ most_bytes
    → IsRefused (written_behind [] ws) f → IsRefused (tokenized s) f
refused s ws f h e l r =
    rw (fair s h (rw (← e) l))
    (same_fault (first_unfit (tokens s)) (bytes_of (tokens s))
    (header s.size (bytes_of (tokens s)) ++ bytes_of (tokens s)) f (rw (← e) r))

ok_bytes : (o : Option ℕ) (xs ys : List ℕ) → unless_unfit o xs ≡ Ok ys → (xs ≡ ys) × (o ≡ None)
ok_bytes None xs ys h = (cc, refl)
ok_bytes (Some l) xs ys h = absurd cc

pub accepted : (s : Source) (ws : List Written) (bytes : List ℕ) → definitions s.items ≤ most_definitions
    → ws ≡ tokens s → header_length + length (bytes_of ws) ≤ most_bytes
    → written_behind [] ws ≡ Ok bytes → tokenized s ≡ Ok (header s.size bytes ++ bytes)
accepted s ws bytes h e l r =
    let b = ok_bytes (first_unfit (tokens s)) (bytes_of (tokens s)) bytes (rw (← e) r) in
    fair s h (rw (← e) l)
    ∙ ap (λ (o : Option ℕ). unless_unfit o (header s.size (bytes_of (tokens s)) ++ bytes_of (tokens s))) b.1
    ∙ ap (λ xs. Ok (header s.size xs ++ xs)) b.0

-- ---- what the passes give

-- the items of a source in the code
pub each_has_bytes : (s : Source) (xs : List Held) → AreEncodable s.items → map item_shown xs ≡ s.items
    → definitions s.items ≤ most_definitions → All (λ x. HasBytes (item_shown x)) xs
each_has_bytes s xs h e l = unmapped xs (subst (All HasBytes) (sym e) (h l))
  where
    unmapped : (ys : List Held) → All HasBytes (map item_shown ys) → All (λ y. HasBytes (item_shown y)) ys
    unmapped [] a = λ k d l. absurd (omega (arith, l))
    unmapped (y ∷ ys) a =
        All-cons (λ (z : Held). HasBytes (item_shown z)) y ys (All-head HasBytes (item_shown y) (map item_shown ys) a)
        (unmapped ys (All-tail HasBytes (item_shown y) (map item_shown ys) a))

-- items that have bytes have them at their places
pub placed_have_bytes : (is : List Item) (p : Place) (starts : List ℕ) → All HasBytes is
    → All (λ (x : Placed). HasBytes x.item) (placed is p starts)
placed_have_bytes [] p starts h = λ k d l. absurd (omega (arith, l))
placed_have_bytes (i ∷ is) p starts h =
    All-cons (λ (x : Placed). HasBytes x.item) (placed_at i p starts) (placed is (after i p) (starts_after i p starts))
    (All-head HasBytes i is h)
    (placed_have_bytes is (after i p) (starts_after i p starts) (All-tail HasBytes i is h))

-- what is laid out from the items at their places
pub laid_tokens : ItemsGiveNest → (s : Source) → IsNested s.items → (e : Place) (ps : List Placed) (ws : List Written)
    → ps ≡ placed s.items (first_place s.size) [] → e ≡ end_place s.items (first_place s.size)
    → ws ≡ (laid_over ps (laid_end e)).tokens → ws ≡ tokens s
laid_tokens give s n e ps ws c d h =
    h
    ∙ ap (λ (xs : List Placed). (laid_over xs (laid_end e)).tokens) c
    ∙ ap (λ (q : Place). (laid_over (placed s.items (first_place s.size) []) (laid_end q)).tokens) d
    ∙ tokens_nested give s.size s.items n

pub tokens_length : ItemsGiveNest → (s : Source) → IsNested s.items
    → header_length + length (bytes_of (tokens s)) ≡ (end_place s.items (first_place s.size)).position + 1
tokens_length give s n =
    ap (λ ws. header_length + length (bytes_of ws)) (sym (tokens_nested give s.size s.items n))
    ∙ all_length s.items (first_place s.size) []

pub tokens_writable : (s : Source) (ws : List Written) → ItemsGiveNest → IsNested s.items → AreEncodable s.items
    → definitions s.items ≤ most_definitions → ws ≡ tokens s → AreWritable ws
tokens_writable s ws give n h l e =
    subst AreWritable (tokens_nested give s.size s.items n ∙ sym e)
    (all_writable s.items (h l) (first_place s.size) [])

pub cannot_place : ItemsGiveNest → (s : Source) → IsNested s.items → definitions s.items ≤ most_definitions
    → (f : TokFault) → CannotPlace s.items (first_place s.size) f → IsRefused (tokenized s) f
cannot_place give s n h NoMemory c = tt
cannot_place give s n h ImageTooLong c = too_long s h (omega (arith, tokens_length give s n, c))
cannot_place give s n h TooManyWords c = absurd c
cannot_place give s n h (OffsetTooLong l) c = absurd c

-- all tokens find room, where the last item ends before the limit
pub has_room : ItemsGiveNest → (s : Source) → IsNested s.items → (ws : List Written) → ws ≡ tokens s
    → (end_place s.items (first_place s.size)).position < most_bytes
    → header_length + length (bytes_of ws) ≤ most_bytes
has_room give s n ws e l = rw e (omega (arith, tokens_length give s n, l))
