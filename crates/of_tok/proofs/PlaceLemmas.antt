-- Places from the front.
use Rattle.std.proofs.Common.{◌≡◌, ℕ, ◌+◌, ◌<◌, ◌≤◌, List, [], ◌∷◌, ◌++◌, length, map, drop, refl, sym, ap, ◌∙◌}
use Rattle.std.proofs.Common.{arith, append_assoc}
use Rattle.std.proofs.lemmas.List.{append-nil, at_drop_more, drop_all}
use Rattle.std.proofs.Math.ListN.{get_or}
use Rattle.of_source.specs.declared.item.Item.{Item as Held}
use Rattle.of_source.specs.Items.{Item, item_shown}
use Rattle.of_source.specs.Items as item
use Rattle.of_tok.specs.declared.place.Place.{Place}
use Rattle.of_tok.specs.Layout.{Front, after, all_placed, end_place, front_at, placed, placed_at, placing, starts_after}

pub placed_all : (is : List Item) (f : Front) → (all_placed is f).placed ≡ f.placed ++ placed is f.place f.starts
placed_all [] f = sym (append-nil f.placed)
placed_all (i ∷ is) f =
    placed_all is (placing i f)
    ∙ append_assoc f.placed (placed_at i f.place f.starts ∷ [])
    (placed is (after i f.place) (starts_after i f.place f.starts))

pub end_all : (is : List Item) (f : Front) → (all_placed is f).place ≡ end_place is f.place
end_all [] f = refl
end_all (i ∷ is) f = end_all is (placing i f)

-- an item takes at least a byte
after_rises : (i : Item) (p : Place) → p.position ≤ (after i p).position
after_rises (item.Plain t) p = omega arith
after_rises (item.Colon m) p = omega arith
after_rises (item.Defining m t) p = omega arith
after_rises item.Semicolon p = omega arith
after_rises (item.If l) p = omega arith
after_rises (item.Else l) p = omega arith
after_rises item.Then p = omega arith
after_rises item.Begin p = omega arith
after_rises (item.Back z l) p = omega arith
after_rises (item.Do v l) p = omega arith
after_rises (item.Loop v l) p = omega arith
after_rises item.Leave p = omega arith
after_rises item.Case p = omega arith
after_rises (item.Of l) p = omega arith
after_rises (item.EndOf l) p = omega arith
after_rises item.EndCase p = omega arith

end_rises : (is : List Item) (p : Place) → p.position ≤ (end_place is p).position
end_rises [] p = omega arith
end_rises (i ∷ is) p = let a = after_rises i p in let b = end_rises is (after i p) in omega (arith, a, b)

-- what has a place is all, where nothing is left
pub done : (items : List Held) (k : ℕ) (f : Front) (p : Place) → length items ≤ k
    → all_placed (map item_shown (drop k items)) f ≡ all_placed (map item_shown items) (front_at p)
    → (f.placed ≡ placed (map item_shown items) p []) × (f.place ≡ end_place (map item_shown items) p)
done items k f p l h =
    let e : f ≡ all_placed (map item_shown items) (front_at p) =
    sym (ap (λ (is : List Held). all_placed (map item_shown is) f) (drop_all k items l)) ∙ h in (
      ap (λ (x : Front). x.placed) e ∙ placed_all (map item_shown items) (front_at p),
      ap (λ (x : Front). x.place) e ∙ end_all (map item_shown items) (front_at p),
    )

-- what is left ends no earlier than it begins
pub beyond : (is js : List Item) (f : Front) (p : Place) (n : ℕ) → all_placed is f ≡ all_placed js (front_at p)
    → n ≤ f.place.position → n ≤ (end_place js p).position
beyond is js f p n h l =
    let e : end_place is f.place ≡ end_place js p =
    sym (end_all is f) ∙ ap (λ (x : Front). x.place) h ∙ end_all js (front_at p) in
    let r = end_rises is f.place in
    let a : (end_place is f.place).position ≡ (end_place js p).position = ap (λ (x : Place). x.position) e in
    omega (arith, r, a, l)

pub beyond_next : (items : List Held) (k : ℕ) (x : Held) (f g : Front) (p : Place) (n : ℕ) → k < length items
    → x ≡ get_or items k x → g ≡ placing (item_shown x) f
    → all_placed (map item_shown (drop k items)) f ≡ all_placed (map item_shown items) (front_at p)
    → n ≤ g.place.position → n ≤ (end_place (map item_shown items) p).position
beyond_next items k x f g p n l e s h =
    beyond (map item_shown (drop (k + 1) items)) (map item_shown items) g p n
    (ap (all_placed (map item_shown (drop (k + 1) items))) s
    ∙ ap (λ (y : Held). all_placed (map item_shown (y ∷ drop (k + 1) items)) f) e
    ∙ sym (at_drop_more (λ (is : List Held). all_placed (map item_shown is) f) items k x l) ∙ h)
