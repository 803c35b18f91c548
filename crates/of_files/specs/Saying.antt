-- What is said on the error output.
use Rattle.std.specs.Prelude.{ℕ, List, Option}
use Rattle.of_files.specs.Messages.{SaysFault}
use Rattle.of_files.specs.declared.fault.Fault.{Fault}
use Rattle.of_files.specs.declared.messages.Messages.{Messages}

-- a fault was said on an output for messages, by what is known of the bytes that went out
abbrev pub Said : {W : Type 0} → (W → Option (List ℕ)) → Messages W → Messages W → Fault → Type 0
Said contents old new f = SaysFault f (contents old.out) (contents new.out) new.failed
