-- A keyboard, by the keys that are left: what it takes and answers, and what a question leaves of it.
use Rattle.std.specs.Prelude.{ℕ, Bool, true, false, List, [], ◌∷◌, drop, length, nat_lt, if◌then◌else◌}
use Rattle.of_asking.specs.declared.query.Answer.{Answer}
use Rattle.of_asking.specs.declared.query.Answer.TheVariants.{Value}
use Rattle.of_asking.specs.declared.query.Query.{Query}
use Rattle.of_asking.specs.declared.query.Query.TheVariants.{Read, Write, Peek, Poke, Key, KeyReady, Milliseconds}
use Rattle.of_asking.specs.declared.query.Query.TheVariants.{Wait}
use Rattle.of_devices.specs.Racks.{untaken}

-- it takes what is asked of keys
abbrev pub is_of_keys : Query → Bool
is_of_keys (Read w a) = false
is_of_keys (Write w a x) = false
is_of_keys (Peek w a) = false
is_of_keys (Poke w a x) = false
is_of_keys Key = true
is_of_keys KeyReady = true
is_of_keys Milliseconds = false
is_of_keys (Wait n) = false

-- the next key, or 0
abbrev pub next_key : List ℕ → ℕ
next_key [] = 0
next_key (k ∷ keys) = k

-- 1 if there is a key, else 0
abbrev pub readiness : List ℕ → ℕ
readiness keys = if nat_lt 0 (length keys) then 1 else 0

-- what it answers to a question that it takes
abbrev pub keys_answer : List ℕ → Query → Answer
keys_answer keys (Read w a) = untaken (Read w a)
keys_answer keys (Write w a x) = untaken (Write w a x)
keys_answer keys (Peek w a) = untaken (Peek w a)
keys_answer keys (Poke w a x) = untaken (Poke w a x)
keys_answer keys Key = Value (next_key keys)
keys_answer keys KeyReady = Value (readiness keys)
keys_answer keys Milliseconds = untaken Milliseconds
keys_answer keys (Wait n) = untaken (Wait n)

-- what a question leaves of the keys
abbrev pub keys_after : List ℕ → Query → List ℕ
keys_after keys (Read w a) = keys
keys_after keys (Write w a x) = keys
keys_after keys (Peek w a) = keys
keys_after keys (Poke w a x) = keys
keys_after keys Key = drop 1 keys
keys_after keys KeyReady = keys
keys_after keys Milliseconds = keys
keys_after keys (Wait n) = keys
