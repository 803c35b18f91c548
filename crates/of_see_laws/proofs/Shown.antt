-- The stack of open structures while the elements of `see` are compiled, beside that of the elements whose items they
-- are printed of: a `case` is open only from its first `of` on, and the branches between two other structures stand in
-- the order of their items.
use Rattle.std.proofs.Common.{◌≡◌, ◌≢◌, ℕ, zero, suc, ◌≤◌, ◌<◌, Bool, true, false, not, List, [], ◌∷◌, length, Option}
use Rattle.std.proofs.Common.{Some, None, refl, ap, ◌∙◌, arith, nat_eq, ◌||◌, if◌then◌else◌}
use Rattle.std.proofs.lemmas.Bool.{eq-eqb, ne_eqb}
use Rattle.of_control.specs.Openers.{any_do_sys, dest_index, one_later}
use Rattle.of_control.specs.Items.{Item}
use Rattle.of_see.specs.SeeItems.{has, lasting}
use Rattle.of_see_laws.proofs.Stacks.{Ahead, Begun, Cased, Entry, Looping, Parted, Put, depth, length-put, openers}
use Rattle.of_see_laws.proofs.Stacks.{swapped, top, under}
use Rattle.of_see_laws.proofs.Runs.{case_end, loop_end}
use Rattle.of_see_laws.proofs.Kept.{Kept, NoCase}
use Rattle.of_see_laws.proofs.Seen.{NoneTo}

-- the one stack, the other, and where the cases end that have an `endof`
pub data Shows : List Entry → List Entry → List ℕ → Type 0 where
  nothing : Shows [] [] []
  ahead : {G M H : List Entry} {cs : List ℕ} (a : ℕ) (o : Option ℕ) (t : ℕ) → Shows G M cs → Put (Ahead a None t) M H
      → Shows (Ahead a o t ∷ G) H cs
  begun : {G H : List Entry} {cs : List ℕ} (a : ℕ) (o : Option ℕ) → Shows G H cs
      → Shows (Begun a o ∷ G) (Begun a None ∷ H) cs
  looping : {G H : List Entry} {cs : List ℕ} (a t : ℕ) → Shows G H cs → Shows (Looping a t ∷ G) (Looping a t ∷ H) cs
  dormant : {G H : List Entry} {cs : List ℕ} (a e : ℕ) → Shows G H cs → Shows (Cased a e ∷ G) H cs
  armed : {G H : List Entry} {cs : List ℕ} (a b e : ℕ) → Shows G H cs → Shows (Cased a e ∷ G) (Cased b e ∷ H) (e ∷ cs)
  first : {G H : List Entry} {cs : List ℕ} (a t b c e : ℕ) → Shows G H cs
      → Shows (Parted a t ∷ Cased b e ∷ G) (Parted a t ∷ Cased c e ∷ H) cs
  later : {G H : List Entry} {cs : List ℕ} (a t b c e : ℕ) → Shows G H cs
      → Shows (Parted a t ∷ Cased b e ∷ G) (Parted a t ∷ Cased c e ∷ H) (e ∷ cs)

pub few_shown : {G H : List Entry} {cs : List ℕ} → Shows G H cs → length H ≤ length G
few_shown nothing = omega arith
few_shown (ahead a o t s u) = let h = few_shown s in let l = length-put u in omega (arith, h, l)
few_shown (begun a o s) = let h = few_shown s in omega (arith, h)
few_shown (looping a t s) = let h = few_shown s in omega (arith, h)
few_shown (dormant a e s) = let h = few_shown s in omega (arith, h)
few_shown (armed a b e s) = let h = few_shown s in omega (arith, h)
few_shown (first a t b c e s) = let h = few_shown s in omega (arith, h)
few_shown (later a t b c e s) = let h = few_shown s in omega (arith, h)

-- without a structure that was under branches
pub record Without (x : Entry) (G H : List Entry) (cs : List ℕ) : Type 0 where
  pub stack : List Entry
  pub put : Put x stack H
  pub shows : Shows G stack cs

pub without_branch :
    {a t : ℕ} {o : Option ℕ} {M G H : List Entry} {cs : List ℕ} → Put (Ahead a o t) M G → Shows G H cs →
    Without (Ahead a None t) M H cs
without_branch top (ahead a o t s u) = record { stack = _; put = u; shows = s }
without_branch (under b q n v) (ahead c r m s u) =
    let w = without_branch v s in
    let both = swapped w.put u in
    record { stack = both.between; put = both.second; shows = ahead b q n w.shows both.first }

pub without_mark :
    {a : ℕ} {o : Option ℕ} {M G H : List Entry} {cs : List ℕ} → Put (Begun a o) M G → Shows G H cs →
    Without (Begun a None) M H cs
without_mark top (begun a o s) = record { stack = _; put = top; shows = s }
without_mark (under b q n v) (ahead c r m s u) =
    let w = without_mark v s in
    let both = swapped w.put u in
    record { stack = both.between; put = both.second; shows = ahead b q n w.shows both.first }

pub mark_index : {a : ℕ} {o : Option ℕ} {H G : List Entry} (u : Put (Begun a o) H G) →
    dest_index None (openers G) ≡ Some (depth u)
mark_index top = refl
mark_index (under b q n u) = ap one_later (mark_index u)

-- ---- loops

loop_put : {a t : ℕ} {o : Option ℕ} {H G : List Entry} → Put (Ahead a o t) H G → loop_end G ≡ loop_end H
loop_put top = refl
loop_put (under b q n u) = loop_put u

any_put :
    {a t : ℕ} {o : Option ℕ} {H G : List Entry} → Put (Ahead a o t) H G →
    any_do_sys (openers G) ≡ any_do_sys (openers H)
any_put top = refl
any_put (under b q n u) = any_put u

pub loop_shown : {G H : List Entry} {cs : List ℕ} → Shows G H cs → loop_end H ≡ loop_end G
loop_shown nothing = refl
loop_shown (ahead a o t s u) = loop_put u ∙ loop_shown s
loop_shown (begun a o s) = loop_shown s
loop_shown (looping a zero s) = loop_shown s
loop_shown (looping a (suc t) s) = refl
loop_shown (dormant a e s) = loop_shown s
loop_shown (armed a b e s) = loop_shown s
loop_shown (first a t b c e s) = loop_shown s
loop_shown (later a t b c e s) = loop_shown s

pub any_shown : {G H : List Entry} {cs : List ℕ} → Shows G H cs → any_do_sys (openers H) ≡ any_do_sys (openers G)
any_shown nothing = refl
any_shown (ahead a o t s u) = any_put u ∙ any_shown s
any_shown (begun a o s) = any_shown s
any_shown (looping a t s) = refl
any_shown (dormant a e s) = any_shown s
any_shown (armed a b e s) = any_shown s
any_shown (first a t b c e s) = any_shown s
any_shown (later a t b c e s) = any_shown s

-- ---- branches

none_put : {a t : ℕ} {o : Option ℕ} {H G : List Entry} (p : ℕ) → Put (Ahead a o t) H G → t ≢ p → NoneTo p H → NoneTo p G
none_put p top ne h = (ne, h)
none_put p (under b q n u) ne h = (h.0, none_put p u ne h.1)

-- no branch goes to an item that comes before where they end
pub none_shown :
    {A : Type 0} {G H : List Entry} {cs : List ℕ} (p : ℕ) (I : List (Item A)) → Shows G H cs → Kept (suc p) G I →
    NoneTo p H
none_shown p I nothing k = tt
none_shown p I (ahead a o t s u) k = none_put p u (λ e. omega (arith, e, k.0)) (none_shown p I s k.1)
none_shown p I (begun a o s) k = none_shown p I s k
none_shown p I (looping a t s) k = none_shown p I s k.1
none_shown p I (dormant a e s) k = none_shown p I s k.2
none_shown p I (armed a b e s) k = none_shown p I s k.2
none_shown p I (first a t b c e s) k = none_shown p I s k.2.2
none_shown p I (later a t b c e s) k = none_shown p I s k.2.2

-- ---- cases

pub has_first : (e : ℕ) (cs : List ℕ) → has (e ∷ cs) e ≡ true
has_first e cs = ap (λ b. b || has cs e) (eq-eqb e e refl)

has_other : (e n : ℕ) (cs : List ℕ) → e ≢ n → has cs n ≡ false → has (e ∷ cs) n ≡ false
has_other e n cs ne h = ap (λ b. b || has cs n) (ne_eqb e n ne) ∙ h

pub new_case : {G H : List Entry} {cs : List ℕ} (n : ℕ) → Shows G H cs → NoCase n G → has cs n ≡ false
new_case n nothing h = refl
new_case n (ahead a o t s u) h = new_case n s h
new_case n (begun a o s) h = new_case n s h
new_case n (looping a t s) h = new_case n s h
new_case n (dormant a e s) h = new_case n s h.1
new_case n (armed {cs = cs} a b e s) h = has_other e n cs h.0 (new_case n s h.1)
new_case n (first a t b c e s) h = new_case n s h.1
new_case n (later {cs = cs} a t b c e s) h = has_other e n cs h.0 (new_case n s h.1)

pub lasting_all : (n : ℕ) (cs : List ℕ) → has cs n ≡ false → lasting n cs ≡ cs
lasting_all n [] h = refl
lasting_all n (c ∷ cs) h = by_test (nat_eq c n) h (lasting_all n cs)
  where
    by_test : (b : Bool) → (b || has cs n) ≡ false → (has cs n ≡ false → lasting n cs ≡ cs)
        → (if not b then c ∷ lasting n cs else lasting n cs) ≡ c ∷ cs
    by_test true e rest = let bad : ⊥ = cc in absurd bad
    by_test false e rest = ap (λ l. c ∷ l) (rest e)

pub lasting_first : (n : ℕ) (cs : List ℕ) → has cs n ≡ false → lasting n (n ∷ cs) ≡ cs
lasting_first n cs h =
    ap (λ b. if not b then n ∷ lasting n cs else lasting n cs) (eq-eqb n n refl) ∙ lasting_all n cs h

pub case_end_top : (p a e : ℕ) (G : List Entry) → p < e → case_end (Cased a e ∷ G) ≡ e
case_end_top p a zero G lt = absurd (omega arith)
case_end_top p a (suc e) G lt = refl
