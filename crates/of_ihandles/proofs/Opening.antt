-- The blocks that an opening takes: that of the arguments comes first.
use Rattle.std.proofs.Common.{◌≡◌, ℕ, ◌<◌, List, [], ◌∷◌, Option, Some, None, Result, Ok, Err, refl}
use Rattle.std.proofs.Common.{sym, ap, ◌∙◌, arith}
use Rattle.of_cells.specs.declared.cells.Cell.{Cell}
use Rattle.of_memory.specs.Blocks.{least_free, rounded}
use Rattle.of_memory.specs.BlockCalls.{instances_taken}
use Rattle.of_memory.specs.DataSpace.{DataSpace}
use Rattle.of_memory.specs.Regions.{instance_limit, instance_start}
use Rattle.of_memory.specs.declared.fault.MemFault.{MemFault}
use Rattle.of_nodes.specs.declared.properties.Span.{Span}
use Rattle.of_ihandles.specs.declared.instance_fault.InstanceFault.TheVariants.{Full}
use Rattle.of_ihandles.specs.Blocks.{IsInRegion, all_left, blocks_taken, one_taken, span, spans}
use Rattle.of_ihandles.proofs.BlocksTaken.{First, first_taken, taken_at}

abbrev cell : ℕ → Cell
cell n = record { 0 = n }

-- no block is longer than its region
none_free : (m : DataSpace) (n : ℕ) → 0xFFFF_FFFF < n
    → least_free instance_start instance_limit m.instances (rounded n) ≡ None
none_free m n long = go (least_free instance_start instance_limit m.instances (rounded n)) refl
  where
    go : (o : Option ℕ) → least_free instance_start instance_limit m.instances (rounded n) ≡ o → o ≡ None
    go None e = refl
    go (Some a) e =
        let i : IsInRegion (span (cell a) (cell n)) = taken_at m (cell n) a e in absurd (omega (arith, long, i.to))

pub long_taken : (m : DataSpace) (n : ℕ) → 0xFFFF_FFFF < n → one_taken m (cell n) ≡ Err Full
long_taken m n long = let none = none_free m n long in rw none refl

pub all_long : (m : DataSpace) (n : ℕ) (ns : List Cell) → 0xFFFF_FFFF < n → blocks_taken m (cell n ∷ ns) ≡ Err Full
all_long m n ns long = let none = none_free m n long in rw none refl

-- the first of several blocks is as long as it was to be
record HasFirst (n : Cell) (bs : List Span) : Type 0 where
  first : Span
  others : List Span
  all : bs ≡ first ∷ others
  length : first.length ≡ n

has_first : (m after : DataSpace) (n : Cell) (ns : List Cell) (bs : List Span)
    → blocks_taken m (n ∷ ns) ≡ Ok (bs, after) → HasFirst n bs
has_first m after n ns bs e = go (instances_taken m (n ∷ ns)) refl e
  where
    go : (r : Result (List Cell × DataSpace) MemFault) → instances_taken m (n ∷ ns) ≡ r
        → all_left (n ∷ ns) r ≡ Ok (bs, after) → HasFirst n bs
    go (Err fault) f h = absurd cc
    go (Ok x) f h =
        let s : First m x.1 n ns x.0 = first_taken m x.1 n ns x.0 f in
        let both : ◌≡◌ {A = List Span × DataSpace} (spans x.0 (n ∷ ns), x.1) (bs, after) = cc in
        let same : spans x.0 (n ∷ ns) ≡ bs = ap (λ (p : List Span × DataSpace). p.0) both in
        let same' = rw s.all at same in
        record {
          first = span (cell s.address) n;
          others = spans s.others ns;
          all = sym same';
          length = refl;
        }

pub some_first : (m after : DataSpace) (n : Cell) (ns : List Cell) → blocks_taken m (n ∷ ns) ≡ Ok ([], after) → ⊥
some_first m after n ns e = let f : HasFirst n [] = has_first m after n ns [] e in let no = f.all in absurd cc

pub first_length : (m after : DataSpace) (n : Cell) (ns : List Cell) (b : Span) (bs : List Span)
    → blocks_taken m (n ∷ ns) ≡ Ok (b ∷ bs, after) → b.length ≡ n
first_length m after n ns b bs e =
    let f : HasFirst n (b ∷ bs) = has_first m after n ns (b ∷ bs) e in
    let same : b ≡ f.first = let all = f.all in cc in
    ap (λ (s : Span). s.length) same ∙ f.length

pub ruleset opening = (all_long, some_first, first_length)
