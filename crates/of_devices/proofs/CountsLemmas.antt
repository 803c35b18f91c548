-- Keys come in order, and clocks count.
use Rattle.std.proofs.Common.{◌≡◌, ◌∙◌, ℕ, ◌+◌, ◌-◌, ◌%◌, ◌^◌, ◌<◌, zero, suc, List, [], ◌∷◌, length, drop, get_or}
use Rattle.std.proofs.Common.{count_by, Bool, true, cond, nat_lt, if◌then◌else◌, fold, refl, sym, ap, arith}
use Rattle.std.proofs.lemmas.Grind.{common_steps}
use Rattle.std.proofs.lemmas.List.{length-drop}
use Rattle.std.proofs.lemmas.List.Sums.{sum_by-cons}
use Rattle.of_asking.specs.declared.query.Answer.TheVariants.{Value}
use Rattle.of_asking.specs.declared.query.Query.{Query}
use Rattle.of_asking.specs.declared.query.Query.TheVariants.{Read, Write, Peek, Poke, Key, KeyReady, Milliseconds}
use Rattle.of_asking.specs.declared.query.Query.TheVariants.{Wait}
use Rattle.of_devices.specs.Clocks.{clock_after}
use Rattle.of_devices.specs.Keyboards.{keys_after, next_key, readiness}
use Rattle.of_devices.specs.Laws.{ClockCounts, KeysComeInOrder, is_key, is_milliseconds}

-- one more that passes
count_more : (p : Query → Bool) (q : Query) (qs : List Query) → p q ≡ true
    → count_by p (q ∷ qs) ≡ suc (count_by p qs)
count_more p q qs e = sum_by-cons (λ r. cond (p r) 1 0) q qs ∙ rw e (omega arith)

-- ---- keys

drop_one : (n : ℕ) (keys : List ℕ) → drop n (drop 1 keys) ≡ drop (suc n) keys
drop_one zero [] = refl
drop_one (suc n) [] = refl
drop_one n (k ∷ keys) = refl

-- the keys that are left are those behind as many as were asked for
left : (keys : List ℕ) (before : List Query) → fold keys_after keys before ≡ drop (count_by is_key before) keys
left keys [] = refl
left keys (Read w a ∷ before) = left keys before
left keys (Write w a x ∷ before) = left keys before
left keys (Peek w a ∷ before) = left keys before
left keys (Poke w a x ∷ before) = left keys before
left keys (Key ∷ before) =
    left (drop 1 keys) before ∙ drop_one (count_by is_key before) keys
    ∙ ap (λ n. drop n keys) (sym (count_more is_key Key before refl))
left keys (KeyReady ∷ before) = left keys before
left keys (Milliseconds ∷ before) = left keys before
left keys (Wait n ∷ before) = left keys before

next_place : (keys : List ℕ) (n : ℕ) → next_key (drop n keys) ≡ get_or keys n 0
next_place [] zero = refl
next_place [] (suc n) = refl
next_place (k ∷ keys) zero = refl
next_place (k ∷ keys) (suc n) = next_place keys n

same_test : (m n : ℕ) → nat_lt 0 (m - n) ≡ nat_lt n m
same_test m n = grind (arith, common_steps)

ready_place : (keys : List ℕ) (n : ℕ) → readiness (drop n keys) ≡ (if nat_lt n (length keys) then 1 else 0)
ready_place keys n = rw (length-drop n keys, same_test (length keys) n) refl

pub keys_come_in_order : KeysComeInOrder
keys_come_in_order = record {
  key = λ keys before. ap (λ left. Value (next_key left)) (left keys before) ∙ ap Value (next_place keys _);
  ready = λ keys before. ap (λ left. Value (readiness left)) (left keys before) ∙ ap Value (ready_place keys _);
}

-- ---- clocks

later : (time n : ℕ) → ((time + 1) % 2 ^ 32 + n) % 2 ^ 32 ≡ (time + suc n) % 2 ^ 32
later time n = omega arith

counted : (time : ℕ) (before : List Query) → time < 2 ^ 32
    → fold clock_after time before ≡ (time + count_by is_milliseconds before) % 2 ^ 32
counted time [] small = omega (arith, small)
counted time (Read w a ∷ before) small = counted time before small
counted time (Write w a x ∷ before) small = counted time before small
counted time (Peek w a ∷ before) small = counted time before small
counted time (Poke w a x ∷ before) small = counted time before small
counted time (Key ∷ before) small = counted time before small
counted time (KeyReady ∷ before) small = counted time before small
counted time (Milliseconds ∷ before) small =
    counted ((time + 1) % 2 ^ 32) before (omega arith) ∙ later time (count_by is_milliseconds before)
    ∙ ap (λ n. (time + n) % 2 ^ 32) (sym (count_more is_milliseconds Milliseconds before refl))
counted time (Wait n ∷ before) small = counted time before small

pub clock_counts : ClockCounts
clock_counts time before small = ap Value (counted time before small)
