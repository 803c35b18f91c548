-- Stacks of open structures, each with where it will end.
use Rattle.std.proofs.Common.{◌≡◌, ◌≢◌, ℕ, suc, ◌≤◌, ◌<◌, List, [], ◌∷◌, length, Option, Some, refl, ap, sym, arith}
use Rattle.std.specs.Prelude.{slice_get, remove, map}
use Rattle.of_control.specs.declared.opener.Opener.{Opener}
use Rattle.of_control.specs.declared.opener.Kind.TheVariants.{Orig, Dest, DoSys, CaseSys, OfSys}
use Rattle.of_control.specs.Openers.{orig_count}
use Rattle.of_control.specs.Calls.{opener_at}

-- an open structure with the item at which it begins, and the item before which it will end; where a text or a token
-- gives it a target or a position, that
pub data Entry : Type 0 where
  Ahead : ℕ → Option ℕ → ℕ → Entry  -- a branch
  Begun : ℕ → Option ℕ → Entry  -- a `begin`, whose end no item names
  Looping : ℕ → ℕ → Entry  -- a `do`
  Cased : ℕ → ℕ → Entry  -- a `case`
  Parted : ℕ → ℕ → Entry  -- an `of`

abbrev pub opener : Entry → Opener
opener (Ahead a o t) = opener_at a (Orig o)
opener (Begun a o) = opener_at a (Dest o)
opener (Looping a t) = opener_at a DoSys
opener (Cased a t) = opener_at a CaseSys
opener (Parted a t) = opener_at a OfSys

abbrev pub openers : List Entry → List Opener
openers G = map opener G

pub length-openers : (G : List Entry) → length (openers G) ≡ length G
length-openers [] = refl
length-openers (x ∷ G) = ap suc (length-openers G)

-- with x among the branches that are later than each other structure
pub data Put (x : Entry) : List Entry → List Entry → Type 0 where
  top : {H : List Entry} → Put x H (x ∷ H)
  under : {H G : List Entry} (a : ℕ) (o : Option ℕ) (t : ℕ) → Put x H G → Put x (Ahead a o t ∷ H) (Ahead a o t ∷ G)

-- so many branches are later
abbrev pub depth : {x : Entry} {H G : List Entry} → Put x H G → ℕ
depth top = 0
depth (under a o t u) = suc (depth u)

pub remove-put : {x : Entry} {H G : List Entry} → (u : Put x H G) → remove (openers G) (depth u) ≡ openers H
remove-put top = refl
remove-put (under a o t u) = ap (λ os. opener_at a (Orig o) ∷ os) (remove-put u)

pub get-put : {x : Entry} {H G : List Entry} → (u : Put x H G) → slice_get (openers G) (depth u) ≡ Some (opener x)
get-put top = refl
get-put (under a o t u) = get-put u

pub length-put : {x : Entry} {H G : List Entry} → Put x H G → length G ≡ suc (length H)
length-put top = refl
length-put (under a o t u) = ap suc (length-put u)

pub depth-count :
    {a t : ℕ} {o : Option ℕ} {H G : List Entry} → (u : Put (Ahead a o t) H G) → depth u < orig_count (openers G)
depth-count top = omega arith
depth-count (under b p s u) = let h = depth-count u in omega arith

-- two that were put can be put the other way round
pub record Both (x y : Entry) (H G : List Entry) : Type 0 where
  pub between : List Entry
  pub first : Put y H between
  pub second : Put x between G

pub swapped :
    {x : Entry} {a : ℕ} {o : Option ℕ} {t : ℕ} {H M G : List Entry} → Put x H M → Put (Ahead a o t) M G →
    Both x (Ahead a o t) H G
swapped {a = a} {o = o} {t = t} {H = H} u top =
    record { between = Ahead a o t ∷ H; first = top; second = under a o t u }
swapped top (under b p s v) = record { between = _; first = v; second = top }
swapped (under b p s u) (under c q r v) =
    let both = swapped u v in
    record { between = Ahead b p s ∷ both.between; first = under b p s both.first; second = under b p s both.second }

-- ---- places

-- where n items stand
abbrev pub Placed : ℕ → List Entry → Type 0
Placed n [] = Unit {0}
Placed n (Ahead a o t ∷ G) = (a < n) × Placed n G
Placed n (Begun a o ∷ G) = (a ≤ n) × Placed n G
Placed n (Looping a t ∷ G) = (a < n) × Placed n G
Placed n (Cased a t ∷ G) = (a ≤ n) × Placed n G
Placed n (Parted a t ∷ G) = (a < n) × Placed n G

pub placed_more : (n : ℕ) (G : List Entry) → Placed n G → Placed (suc n) G
placed_more n [] h = tt
placed_more n (Ahead a o t ∷ G) h = (omega arith, placed_more n G h.1)
placed_more n (Begun a o ∷ G) h = (omega arith, placed_more n G h.1)
placed_more n (Looping a t ∷ G) h = (omega arith, placed_more n G h.1)
placed_more n (Cased a t ∷ G) h = (omega arith, placed_more n G h.1)
placed_more n (Parted a t ∷ G) h = (omega arith, placed_more n G h.1)

abbrev tail_placed : (n : ℕ) (x : Entry) (G : List Entry) → Placed n (x ∷ G) → Placed n G
tail_placed n (Ahead a o t) G h = h.1
tail_placed n (Begun a o) G h = h.1
tail_placed n (Looping a t) G h = h.1
tail_placed n (Cased a t) G h = h.1
tail_placed n (Parted a t) G h = h.1

pub placed_without : {x : Entry} {H G : List Entry} (n : ℕ) → Put x H G → Placed n G → Placed n H
placed_without {x = x} {H = H} n top h = tail_placed n x H h
placed_without n (under a o t u) h = (h.0, placed_without n u h.1)

pub place_of_put :
    {a t : ℕ} {o : Option ℕ} {H G : List Entry} (n : ℕ) → Put (Ahead a o t) H G → Placed n G → a < n
place_of_put n top h = h.0
place_of_put n (under b p s u) h = place_of_put n u h.1

-- ---- branches at different items

abbrev pub Away : ℕ → List Entry → Type 0
Away b [] = Unit {0}
Away b (Ahead a o t ∷ G) = (a ≢ b) × Away b G
Away b (Begun a o ∷ G) = Away b G
Away b (Looping a t ∷ G) = Away b G
Away b (Cased a t ∷ G) = Away b G
Away b (Parted a t ∷ G) = Away b G

abbrev pub Apart : List Entry → Type 0
Apart [] = Unit {0}
Apart (Ahead a o t ∷ G) = Away a G × Apart G
Apart (Begun a o ∷ G) = Apart G
Apart (Looping a t ∷ G) = Apart G
Apart (Cased a t ∷ G) = Apart G
Apart (Parted a t ∷ G) = Apart G

abbrev tail_away : (b : ℕ) (x : Entry) (G : List Entry) → Away b (x ∷ G) → Away b G
tail_away b (Ahead a o t) G h = h.1
tail_away b (Begun a o) G h = h
tail_away b (Looping a t) G h = h
tail_away b (Cased a t) G h = h
tail_away b (Parted a t) G h = h

abbrev tail_apart : (x : Entry) (G : List Entry) → Apart (x ∷ G) → Apart G
tail_apart (Ahead a o t) G h = h.1
tail_apart (Begun a o) G h = h
tail_apart (Looping a t) G h = h
tail_apart (Cased a t) G h = h
tail_apart (Parted a t) G h = h

away_without : {x : Entry} {H G : List Entry} (b : ℕ) → Put x H G → Away b G → Away b H
away_without {x = x} {H = H} b top h = tail_away b x H h
away_without b (under a o t u) h = (h.0, away_without b u h.1)

pub apart_without : {x : Entry} {H G : List Entry} → Put x H G → Apart G → Apart H
apart_without {x = x} {H = H} top h = tail_apart x H h
apart_without (under a o t u) h = (away_without a u h.0, apart_without u h.1)

-- the branch that was put is at another item than those
pub others_away : {a t : ℕ} {o : Option ℕ} {H G : List Entry} (b : ℕ) → Put (Ahead a o t) H G → Away b G → a ≢ b
others_away b top h = h.0
others_away b (under c p s u) h = others_away b u h.1

pub away_from_others : {a t : ℕ} {o : Option ℕ} {H G : List Entry} → Put (Ahead a o t) H G → Apart G → Away a H
away_from_others top h = h.0
away_from_others {a = a} (under c p s u) h =
    let other : c ≢ a = λ e. others_away c u h.0 (sym e) in (other, away_from_others u h.1)

pub away_ahead : (n : ℕ) (G : List Entry) → Placed n G → Away n G
away_ahead n [] h = tt
away_ahead n (Ahead a o t ∷ G) h = (omega arith, away_ahead n G h.1)
away_ahead n (Begun a o ∷ G) h = away_ahead n G h.1
away_ahead n (Looping a t ∷ G) h = away_ahead n G h.1
away_ahead n (Cased a t ∷ G) h = away_ahead n G h.1
away_ahead n (Parted a t ∷ G) h = away_ahead n G h.1
