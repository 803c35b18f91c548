-- A clock, by its time: what it takes and answers, and what a question leaves of it.
use Rattle.std.specs.Prelude.{ℕ, ◌+◌, ◌%◌, ◌^◌, Bool, true, false}
use Rattle.of_asking.specs.declared.query.Answer.{Answer}
use Rattle.of_asking.specs.declared.query.Answer.TheVariants.{Value}
use Rattle.of_asking.specs.declared.query.Query.{Query}
use Rattle.of_asking.specs.declared.query.Query.TheVariants.{Read, Write, Peek, Poke, Key, KeyReady, Milliseconds}
use Rattle.of_asking.specs.declared.query.Query.TheVariants.{Wait}
use Rattle.of_devices.specs.Racks.{untaken}

-- it takes what is asked of the time
abbrev pub is_of_time : Query → Bool
is_of_time (Read w a) = false
is_of_time (Write w a x) = false
is_of_time (Peek w a) = false
is_of_time (Poke w a x) = false
is_of_time Key = false
is_of_time KeyReady = false
is_of_time Milliseconds = true
is_of_time (Wait n) = false

-- what it answers to a question that it takes
abbrev pub clock_answer : ℕ → Query → Answer
clock_answer time (Read w a) = untaken (Read w a)
clock_answer time (Write w a x) = untaken (Write w a x)
clock_answer time (Peek w a) = untaken (Peek w a)
clock_answer time (Poke w a x) = untaken (Poke w a x)
clock_answer time Key = untaken Key
clock_answer time KeyReady = untaken KeyReady
clock_answer time Milliseconds = Value time
clock_answer time (Wait n) = untaken (Wait n)

-- what a question leaves of the time: it is one later each time that it was asked, and 0 behind 2^32 - 1
abbrev pub clock_after : ℕ → Query → ℕ
clock_after time (Read w a) = time
clock_after time (Write w a x) = time
clock_after time (Peek w a) = time
clock_after time (Poke w a x) = time
clock_after time Key = time
clock_after time KeyReady = time
clock_after time Milliseconds = (time + 1) % 2 ^ 32
clock_after time (Wait n) = time
