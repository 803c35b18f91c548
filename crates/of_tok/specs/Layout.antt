-- The tokens of a list of items: places from the front, with the positions behind what opened, and targets from the
-- end, with where the open branches lead and where the open parts end.
use Rattle.std.specs.Prelude.{◌≡◌, ◌≤◌, ℕ, List, [], ◌∷◌, ◌++◌}
use Rattle.of_stream.specs.declared.stream.OffsetSize.{OffsetSize}
use Rattle.of_source.specs.Items.{Item, call, maker_token}
use Rattle.of_source.specs.Items as item
use Rattle.of_source.specs.Nest.{Nest, items_of}
use Rattle.of_tok.specs.declared.fault.TokFault.{TokFault}
use Rattle.of_tok.specs.declared.fault.TokFault.TheVariants.{ImageTooLong, NoMemory}
use Rattle.of_tok.specs.declared.place.Place.{Place}
use Rattle.of_tok.specs.Places.{behind, first_place, past, past_offset}
use Rattle.of_tok.specs.Tokens.{Written, Straight, aimed, straight, first, others, branch_code, do_code, loop_code}
use Rattle.of_tok.specs.Tokens.{tokens_of}
use Rattle.of_tok.specs.Image.{most_bytes}

-- ---- from the front

-- behind an item
abbrev pub after : Item → Place → Place
after (item.Plain t) p = behind t p
after (item.Colon m) p = past 1 (behind (maker_token m) p)
after (item.Defining m t) p = behind (call t) (behind (maker_token m) p)
after (item.If l) p = past_offset p
after (item.Else l) p = past 1 (past_offset p)
after (item.Back z l) p = past_offset p
after (item.Do v l) p = past_offset p
after (item.Loop v l) p = past_offset p
after (item.Of l) p = past_offset p
after (item.EndOf l) p = past_offset p
after _ p = past 1 p

-- the positions to which the closers of the open `begin`s and `do`s lead, latest first
abbrev pub starts_after : Item → Place → List ℕ → List ℕ
starts_after item.Begin p starts = (past 1 p).position ∷ starts
starts_after (item.Do v l) p starts = (past_offset p).position ∷ starts
starts_after (item.Back z l) p starts = others starts
starts_after (item.Loop v l) p starts = others starts
starts_after _ p starts = starts

-- an item at its place, with the position to which a closer leads there, and that behind the item
pub record Placed : Type 0 where
  pub item : Item
  pub place : Place
  pub start : ℕ
  pub next : ℕ

abbrev pub placed_at : Item → Place → List ℕ → Placed
placed_at i p starts = record { item = i; place = p; start = first starts; next = (after i p).position }

-- the items of a list at their places
abbrev pub placed : List Item → Place → List ℕ → List Placed
placed [] p starts = []
placed (i ∷ is) p starts = placed_at i p starts ∷ placed is (after i p) (starts_after i p starts)

-- behind all items
abbrev pub end_place : List Item → Place → Place
end_place [] p = p
end_place (i ∷ is) p = end_place is (after i p)

-- how far the items have places
pub record Front : Type 0 where
  pub placed : List Placed
  pub starts : List ℕ
  pub place : Place  -- of the next

-- nothing has a place yet, and the first is this
abbrev pub front_at : Place → Front
front_at p = record { placed = []; starts = []; place = p }

-- the next item at its place
abbrev pub placing : Item → Front → Front
placing i f =
    record {
      placed = f.placed ++ placed_at i f.place f.starts ∷ [];
      starts = starts_after i f.place f.starts;
      place = after i f.place;
    }

abbrev pub all_placed : List Item → Front → Front
all_placed [] f = f
all_placed (i ∷ is) f = all_placed is (placing i f)

-- ---- from the end

-- what is laid out
pub record Laid : Type 0 where
  pub aims : List ℕ  -- where the open branches lead, latest first
  pub ends : List ℕ  -- where the open loops, cases and parts of cases end
  pub tokens : List Written

-- with another token in front
abbrev pub putting : Written → Laid → Laid
putting w q = record q { tokens = w ∷ q.tokens }

-- a branch is closed that leads to this position
abbrev pub closing : ℕ → Laid → Laid
closing position q = record q { aims = position ∷ q.aims }

-- the latest branch begins here
abbrev pub without_aim : Laid → Laid
without_aim q = record q { aims = others q.aims }

-- a part ends at this position
abbrev pub ending : ℕ → Laid → Laid
ending position q = record q { ends = position ∷ q.ends }

-- the innermost part begins here
abbrev pub without_end : Laid → Laid
without_end q = record q { ends = others q.ends }

-- an item before what is laid out behind it, by its place, where a closer leads there, and the position behind it
abbrev pub item_laid : Item → Place → ℕ → ℕ → Laid → Laid
item_laid (item.Plain t) p start next q = putting (Straight p.size t) q
item_laid (item.Colon m) p start next q =
    putting (Straight p.size (maker_token m)) (putting (straight 0x0b7 (behind (maker_token m) p)) q)
item_laid (item.Defining m t) p start next q =
    putting (Straight p.size (maker_token m)) (putting (Straight (behind (maker_token m) p).size (call t)) q)
item_laid item.Semicolon p start next q = putting (straight 0x0c2 p) q
item_laid (item.If l) p start next q = putting (aimed l 0x014 p (first q.aims)) (without_aim q)
item_laid (item.Else l) p start next q =
    putting (aimed l 0x013 p (first q.aims)) (putting (straight 0x0b2 p) (closing next (without_aim q)))
item_laid item.Then p start next q = putting (straight 0x0b2 p) (closing next q)
item_laid item.Begin p start next q = putting (straight 0x0b1 p) q
item_laid (item.Back z l) p start next q = putting (aimed l (branch_code z) p start) q
item_laid (item.Do v l) p start next q = putting (aimed l (do_code v) p (first q.ends)) (without_end q)
item_laid (item.Loop v l) p start next q = putting (aimed l (loop_code v) p start) (ending next q)
item_laid item.Leave p start next q = putting (straight 0x01b p) q
item_laid item.Case p start next q = putting (straight 0x0c4 p) (without_end q)
item_laid (item.Of l) p start next q = putting (aimed l 0x01c p (first q.ends)) (without_end q)
item_laid (item.EndOf l) p start next q = putting (aimed l 0x0c6 p (first q.ends)) (ending next q)
item_laid item.EndCase p start next q = putting (straight 0x0c5 p) (ending next q)

-- the same, of an item at its place
abbrev pub laid_before : Placed → Laid → Laid
laid_before x q = item_laid x.item x.place x.start x.next q

-- the end of a source
abbrev pub laid_end : Place → Laid
laid_end p = record { aims = []; ends = []; tokens = straight 0x000 p ∷ [] }

-- items in front of what is laid out
abbrev pub laid_over : List Placed → Laid → Laid
laid_over [] q = q
laid_over (x ∷ xs) q = laid_before x (laid_over xs q)

-- the items of a source at a place
abbrev pub laid : List Item → Place → List ℕ → Laid
laid items p starts = laid_over (placed items p starts) (laid_end (end_place items p))

-- the items of a nest have the nest's tokens
abbrev pub PassesGiveTokens : Type 0
PassesGiveTokens =
    (size : OffsetSize) (x : Nest) → (laid (items_of x []) (first_place size) []).tokens ≡ tokens_of size x

-- why items from a place on can't be placed: they leave no room for `end0`, or memory was refused
abbrev pub CannotPlace : List Item → Place → TokFault → Type 0
CannotPlace items p ImageTooLong = most_bytes ≤ (end_place items p).position
CannotPlace items p NoMemory = Unit {0}
CannotPlace items p _ = ⊥
