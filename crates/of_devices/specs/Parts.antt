-- The devices of a board.
use Rattle.std.specs.Prelude.{Bool, List, [], ◌∷◌, fold, map}
use Rattle.of_asking.specs.declared.query.Answer.{Answer}
use Rattle.of_asking.specs.declared.query.Answer.TheVariants.{BusFault}
use Rattle.of_asking.specs.declared.query.Query.{Query}
use Rattle.of_devices.specs.Clocks.{clock_after, clock_answer, is_of_time}
use Rattle.of_devices.specs.Keyboards.{is_of_keys, keys_after, keys_answer}
use Rattle.of_devices.specs.Memories.{addresses, memory_after, memory_answer, memory_with}
use Rattle.of_devices.specs.Racks.{Meant, rack_meant}
use Rattle.of_devices.specs.Ranges.{stays_in, touches}
use Rattle.of_devices.specs.Stored.{Stored}
use Rattle.of_devices.specs.declared.board.Board.{Board}
use Rattle.of_devices.specs.declared.part.Part.{Part}
use Rattle.of_devices.specs.declared.part.Part.TheVariants as part

-- A device with a state: which questions it takes, what it answers at a state, and what a question leaves of that.
abbrev pub meant_by : {S : Type 0} → (Query → Bool) → (S → Query → Answer) → (S → Query → S) → S → Meant
meant_by takes answer after state = record { takes = takes; meaning = λ qs q. answer (fold after state qs) q }

-- which questions a part takes, and what it answers to one behind others
abbrev pub part_meant : Part → Meant
part_meant (part.Memory m) = meant_by (stays_in (addresses m)) memory_answer memory_after m
part_meant (part.Broken r) = record { takes = touches r; meaning = λ qs q. BusFault }
part_meant (part.Keyboard keys) = meant_by is_of_keys keys_answer keys_after keys
part_meant (part.Clock time) = meant_by is_of_time clock_answer clock_after time

-- the parts of a board as one device: the first that takes a question answers it
abbrev pub board_meant : Board → Meant
board_meant board = rack_meant (map part_meant board.parts.items)

-- 4,096 bytes from 0x80000000 on, all 0
unfoldable pub standard_memory : Stored
standard_memory = memory_with (record { 0 = 0x8000_0000 }) 4096 []

-- the devices of a board of which nothing is said
abbrev pub standard_parts : List Part
standard_parts = part.Memory standard_memory ∷ part.Clock 0 ∷ []
