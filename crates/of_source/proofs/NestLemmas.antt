-- The nest that items give back.
use Rattle.std.proofs.Common.{◌≡◌, List, [], ◌∷◌, refl, ap, ◌∙◌}
use Rattle.of_source.specs.Items.{Item}
use Rattle.of_source.specs.Items as item
use Rattle.of_source.specs.Nest.{Nest, Stop, Plain, Definition, Defining, If, Else, Then, Begin, Do, Leave, Case, Of}
use Rattle.of_source.specs.Nest.{items_of, Inside, after_word, after_closer, after_opener, opened_by, read_back}
use Rattle.of_source.specs.Nest.{nest_of}

-- a nest, and then another
abbrev pub joined : Nest → Nest → Nest
joined Stop s = s
joined (Plain t r) s = Plain t (joined r s)
joined (Definition m i r) s = Definition m i (joined r s)
joined (Defining m t r) s = Defining m t (joined r s)
joined (If l r) s = If l (joined r s)
joined (Else l r) s = Else l (joined r s)
joined (Then r) s = Then (joined r s)
joined (Begin i z l r) s = Begin i z l (joined r s)
joined (Do q k i l m r) s = Do q k i l m (joined r s)
joined (Leave r) s = Leave (joined r s)
joined (Case i r) s = Case i (joined r s)
joined (Of k i m r) s = Of k i m (joined r s)

joined-Stop : (x : Nest) → joined x Stop ≡ x
joined-Stop Stop = refl
joined-Stop (Plain t r) = ap (Plain t) (joined-Stop r)
joined-Stop (Definition m i r) = ap (Definition m i) (joined-Stop r)
joined-Stop (Defining m t r) = ap (Defining m t) (joined-Stop r)
joined-Stop (If l r) = ap (If l) (joined-Stop r)
joined-Stop (Else l r) = ap (Else l) (joined-Stop r)
joined-Stop (Then r) = ap Then (joined-Stop r)
joined-Stop (Begin i z l r) = ap (Begin i z l) (joined-Stop r)
joined-Stop (Do q k i l m r) = ap (Do q k i l m) (joined-Stop r)
joined-Stop (Leave r) = ap Leave (joined-Stop r)
joined-Stop (Case i r) = ap (Case i) (joined-Stop r)
joined-Stop (Of k i m r) = ap (Of k i m) (joined-Stop r)

abbrev pub before : Nest → Inside → Inside
before x q = record { nest = joined x q.nest; around = q.around }

-- a part that was read back to its opener
closed : (o c : Item) (i : Nest) (q : Inside)
    → after_opener o (before i (after_closer c q)) ≡ opened_by o i ((c, q.nest) ∷ q.around)
closed o c i q = ap (λ (j : Nest). opened_by o j ((c, q.nest) ∷ q.around)) (joined-Stop i)

pub read_back-items_of : (x : Nest) (more : List Item) → read_back (items_of x more) ≡ before x (read_back more)
read_back-items_of Stop more = refl
read_back-items_of (Plain t r) more = ap (after_word (Plain t)) (read_back-items_of r more)
read_back-items_of (If l r) more = ap (after_word (If l)) (read_back-items_of r more)
read_back-items_of (Else l r) more = ap (after_word (Else l)) (read_back-items_of r more)
read_back-items_of (Then r) more = ap (after_word Then) (read_back-items_of r more)
read_back-items_of (Leave r) more = ap (after_word Leave) (read_back-items_of r more)
read_back-items_of (Defining m t r) more = ap (after_word (Defining m t)) (read_back-items_of r more)
read_back-items_of (Definition m i r) more =
    ap (after_opener (item.Colon m)) (read_back-items_of i (item.Semicolon ∷ items_of r more))
    ∙ closed (item.Colon m) item.Semicolon i (read_back (items_of r more))
    ∙ ap (λ (q : Inside). opened_by (item.Colon m) i ((item.Semicolon, q.nest) ∷ q.around)) (read_back-items_of r more)
read_back-items_of (Begin i z l r) more =
    ap (after_opener item.Begin) (read_back-items_of i (item.Back z l ∷ items_of r more))
    ∙ closed item.Begin (item.Back z l) i (read_back (items_of r more))
    ∙ ap (λ (q : Inside). opened_by item.Begin i ((item.Back z l, q.nest) ∷ q.around)) (read_back-items_of r more)
read_back-items_of (Do v k i l m r) more =
    ap (after_opener (item.Do v k)) (read_back-items_of i (item.Loop l m ∷ items_of r more))
    ∙ closed (item.Do v k) (item.Loop l m) i (read_back (items_of r more))
    ∙ ap (λ (q : Inside). opened_by (item.Do v k) i ((item.Loop l m, q.nest) ∷ q.around)) (read_back-items_of r more)
read_back-items_of (Case i r) more =
    ap (after_opener item.Case) (read_back-items_of i (item.EndCase ∷ items_of r more))
    ∙ closed item.Case item.EndCase i (read_back (items_of r more))
    ∙ ap (λ (q : Inside). opened_by item.Case i ((item.EndCase, q.nest) ∷ q.around)) (read_back-items_of r more)
read_back-items_of (Of k i m r) more =
    ap (after_opener (item.Of k)) (read_back-items_of i (item.EndOf m ∷ items_of r more))
    ∙ closed (item.Of k) (item.EndOf m) i (read_back (items_of r more))
    ∙ ap (λ (q : Inside). opened_by (item.Of k) i ((item.EndOf m, q.nest) ∷ q.around)) (read_back-items_of r more)

pub nest_of-items_of : (x : Nest) → nest_of (items_of x []) ≡ x
unfolding nest_of
nest_of-items_of x = ap (λ (q : Inside). q.nest) (read_back-items_of x []) ∙ joined-Stop x

pub items_give_nest : (x : Nest) → nest_of (items_of x []) ≡ x
items_give_nest x = nest_of-items_of x
