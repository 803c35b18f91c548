-- The law `questions_are_said`: each table, line by line.
use Rattle.std.proofs.Common.{◌≡◌, ◌↔◌, ℕ, ◌+◌, ◌/◌, ◌^◌, ◌<◌, ◌≤◌, Bool, true, false, List, [], ◌∷◌, length}
use Rattle.std.proofs.Common.{nat_le, None, Result, Err, refl, arith, ap, sym}
use Rattle.std.proofs.Common.{if◌then◌else◌}
use Rattle.std.specs.Prelude.{◌==◌}
use Rattle.std.proofs.lemmas.Bool.{and_parts, leb-false, leb-true}
use Rattle.std.proofs.lemmas.Bool.Decides.{nat_tests}
use Rattle.of_cells.specs.declared.cells.Cell.{Cell}
use Rattle.of_stacks.specs.declared.throws.Throw.{Throw}
use Rattle.of_stacks.specs.Throws.{misaligned, stack_overflow}
use Rattle.of_fcodes.specs.declared.words.DevicesWord.TheVariants as word
use Rattle.of_fcodes.specs.declared.words.KeysWord.TheVariants as keys
use Rattle.of_memory.specs.DataSpace.{DataSpace, byte_at}
use Rattle.of_memory.specs.Regions.{region_of, region_numbered, span}
use Rattle.of_memory.specs.Width.{bytes_in}
use Rattle.of_memory.specs.declared.width.Width.{Width}
use Rattle.of_memory.specs.declared.width.Width.TheVariants.{One, Two, Four}
use Rattle.of_board.specs.declared.board.Board.{Board}
use Rattle.of_asking.specs.declared.query.Query.{Query}
use Rattle.of_asking.specs.declared.query.Query.TheVariants as query
use Rattle.of_asking.specs.Devices.{cut, devices_entry, is_aligned, is_device, peek_entry, poke_entry, read_entry}
use Rattle.of_asking.specs.Devices.{write_entry}
use Rattle.of_asking.specs.Keys.{keys_entry, one_more, wait_entry}
use Rattle.of_asking.specs.Questions.{Asking, Asks, Gives}
use Rattle.of_asking.specs.Said.{AreCells, IsOf, IsRegister, IsWait, IsWith, QuestionsAreSaid, low, peeking, poking}
use Rattle.of_asking.specs.Said.{reading, writing}

-- ---- registers

from_tests : (w : Width) (a : ℕ) → is_device a w ≡ true → is_aligned a w ≡ true → IsRegister w a
from_tests w a e f =
    let both = and_parts (nat_le 0x8000_0000 a) (nat_le (a + bytes_in w) 0xC000_0000) e in
    record {
      from = leb-true 0x8000_0000 a both.0;
      to = leb-true (a + bytes_in w) 0xC000_0000 both.1;
      aligned = grind (arith, nat_tests);
    }

is_there : (w : Width) (a : ℕ) → IsRegister w a → is_device a w ≡ true
is_there w a h = let from = h.from in let to = h.to in grind (arith, nat_tests)

is_even : (w : Width) (a : ℕ) → IsRegister w a → is_aligned a w ≡ true
is_even w a h = let aligned = h.aligned in grind (arith, nat_tests)

-- what is asked of an address, by its two tests
tested : (c d : Bool) (w : Width) (a : ℕ) (said q : Query) (r : Result Board Throw)
    → is_device a w ≡ c → is_aligned a w ≡ d
    → (◌≡◌ {A = Asking Board} (if c then (if d then Asks said else Gives (Err misaligned)) else Gives r) (Asks q))
    ↔ (IsRegister w a × (q ≡ said))
tested true true w a said q r e f = (λ h. (from_tests w a e f, cc), λ h. ap Asks (sym h.1))
tested true false w a said q r e f = (λ h. absurd cc, λ h. absurd (let even = is_even w a h.0 in cc))
tested false d w a said q r e f = (λ h. absurd cc, λ h. absurd (let there = is_there w a h.0 in cc))

reads_if : (w : Width) (s : List Cell) (b : Board) (q : Query)
    → (read_entry w s None b ≡ Asks q) ↔ IsOf w s (query.Read w) q
reads_if w [] b q = (λ h. absurd cc, λ h. absurd h)
reads_if w (a ∷ s) b q = tested (is_device a.0 w) (is_aligned a.0 w) w a.0 (query.Read w a) q _ refl refl

peeks_if : (w : Width) (s : List Cell) (b : Board) (q : Query)
    → (peek_entry w s None b ≡ Asks q) ↔ IsOf w s (query.Peek w) q
peeks_if w [] b q = (λ h. absurd cc, λ h. absurd h)
peeks_if w (a ∷ s) b q = tested (is_device a.0 w) (is_aligned a.0 w) w a.0 (query.Peek w a) q _ refl refl

-- a cell is its low four bytes
cut_low : (w : Width) (x : Cell) → x.0 < 2 ^ 32 → cut w x ≡ low w x
cut_low One x small = refl
cut_low Two x small = refl
cut_low Four x small = ap (λ (n : ℕ). record { 0 = n }) (omega (arith, small))

second : (a x : Cell) (s : List Cell) → AreCells (a ∷ x ∷ s) → x.0 < 2 ^ 32
second a x s small = small 1 a (omega arith)

writes_if : (w : Width) (s : List Cell) (b : Board) (q : Query) → AreCells s
    → (write_entry w s None b ≡ Asks q) ↔ IsWith w s (query.Write w) q
writes_if w [] b q small = (λ h. absurd cc, λ h. absurd h)
writes_if w (a ∷ []) b q small = (λ h. absurd cc, λ h. absurd h)
writes_if w (a ∷ x ∷ s) b q small =
    rw (cut_low w x (second a x s small))
    (tested (is_device a.0 w) (is_aligned a.0 w) w a.0 (query.Write w a (low w x)) q _ refl refl)

pokes_if : (w : Width) (s : List Cell) (b : Board) (q : Query) → AreCells s
    → (poke_entry w s None b ≡ Asks q) ↔ IsWith w s (query.Poke w) q
pokes_if w [] b q small = (λ h. absurd cc, λ h. absurd h)
pokes_if w (a ∷ []) b q small = (λ h. absurd cc, λ h. absurd h)
pokes_if w (a ∷ x ∷ s) b q small =
    rw (cut_low w x (second a x s small))
    (tested (is_device a.0 w) (is_aligned a.0 w) w a.0 (query.Poke w a (low w x)) q _ refl refl)

reads : (w : Width) (b : Board) (q : Query)
    → (devices_entry (reading w) None b ≡ Asks q) ↔ IsOf w b.stack (query.Read w) q
unfolding devices_entry
reads One b q = reads_if One b.stack b q
reads Two b q = reads_if Two b.stack b q
reads Four b q = reads_if Four b.stack b q

writes : (w : Width) (b : Board) (q : Query) → AreCells b.stack
    → (devices_entry (writing w) None b ≡ Asks q) ↔ IsWith w b.stack (query.Write w) q
unfolding devices_entry
writes One b q small = writes_if One b.stack b q small
writes Two b q small = writes_if Two b.stack b q small
writes Four b q small = writes_if Four b.stack b q small

peeks : (w : Width) (b : Board) (q : Query)
    → (devices_entry (peeking w) None b ≡ Asks q) ↔ IsOf w b.stack (query.Peek w) q
unfolding devices_entry
peeks One b q = peeks_if One b.stack b q
peeks Two b q = peeks_if Two b.stack b q
peeks Four b q = peeks_if Four b.stack b q

pokes : (w : Width) (b : Board) (q : Query) → AreCells b.stack
    → (devices_entry (poking w) None b ≡ Asks q) ↔ IsWith w b.stack (query.Poke w) q
unfolding devices_entry
pokes One b q small = pokes_if One b.stack b q small
pokes Two b q small = pokes_if Two b.stack b q small
pokes Four b q small = pokes_if Four b.stack b q small

-- ---- keys and time

one_if : (c : Bool) (n : ℕ) (said q : Query) → nat_le 256 n ≡ c
    → (◌≡◌ {A = Asking Board} (if c then Gives (Err stack_overflow) else Asks said) (Asks q))
    ↔ ((n < 256) × (q ≡ said))
one_if true n said q e = (λ h. absurd cc, λ h. absurd (let full = leb-true 256 n e in omega (arith, full, h.0)))
one_if false n said q e = (λ h. (leb-false 256 n e, cc), λ h. ap Asks (sym h.1))

one : (said : Query) (b : Board) (q : Query)
    → (one_more said None b ≡ Asks q) ↔ ((length b.stack < 256) × (q ≡ said))
one said b q = one_if (nat_le 256 (length b.stack)) (length b.stack) said q refl

milliseconds : (b : Board) (q : Query)
    → (devices_entry word.Milliseconds None b ≡ Asks q) ↔ ((length b.stack < 256) × (q ≡ query.Milliseconds))
unfolding devices_entry
milliseconds b q = one query.Milliseconds b q

waits_if : (s : List Cell) (b : Board) (q : Query) → (wait_entry s None b ≡ Asks q) ↔ IsWait s q
waits_if [] b q = (λ h. absurd cc, λ h. absurd h)
waits_if (n ∷ s) b q = (λ h. cc, λ h. ap Asks (sym h))

wait : (b : Board) (q : Query) → (devices_entry word.Wait None b ≡ Asks q) ↔ IsWait b.stack q
unfolding devices_entry
wait b q = waits_if b.stack b q

key : (b : Board) (q : Query) → (keys_entry keys.Key None b ≡ Asks q) ↔ ((length b.stack < 256) × (q ≡ query.Key))
unfolding keys_entry
key b q = one query.Key b q

key_ready : (b : Board) (q : Query)
    → (keys_entry keys.KeyReady None b ≡ Asks q) ↔ ((length b.stack < 256) × (q ≡ query.KeyReady))
unfolding keys_entry
key_ready b q = one query.KeyReady b q

-- ---- the data space lies below all devices

no_region : (n : ℕ) → 7 ≤ n → region_numbered n ≡ None
no_region n large =
    let one : (n == 1) ≡ false = grind (arith, nat_tests) in
    let two : (n == 2) ≡ false = grind (arith, nat_tests) in
    let three : (n == 3) ≡ false = grind (arith, nat_tests) in
    let four : (n == 4) ≡ false = grind (arith, nat_tests) in
    let five : (n == 5) ≡ false = grind (arith, nat_tests) in
    let six : (n == 6) ≡ false = grind (arith, nat_tests) in
    rw (one, two, three, four, five, six) refl

far : (a : ℕ) → 0x8000_0000 ≤ a → region_of a ≡ None
far a from = no_region (a / span) (omega (arith, from))

apart : (m : DataSpace) (w : Width) (a i : ℕ) → IsRegister w a → i < bytes_in w → byte_at m (a + i) ≡ None
apart m w a i h l =
    let from = h.from in rw (far (a + i) (omega (arith, from))) refl

pub questions_are_said : QuestionsAreSaid
questions_are_said = record {
  reads = reads;
  writes = writes;
  peeks = peeks;
  pokes = pokes;
  milliseconds = milliseconds;
  wait = wait;
  key = key;
  key_ready = key_ready;
  apart = apart;
}
