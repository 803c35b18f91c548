-- What was printed under a script.
use Rattle.std.proofs.Common.{inr, ℕ, List, Option, Err}
use Rattle.of_calls.specs.declared.script_fault.ScriptFault.{ScriptFault}
use Rattle.of_commands.specs.Debugs.{Debugging, PrintsStates, Shows}
use Rattle.of_files.specs.Messages.{AppendsPart}
use Rattle.of_files.specs.Faults.{IsUnwritten}
use Rattle.of_files.specs.declared.fault.Fault.{Fault}

-- a part of it, where a write failed
pub states_part : (d : Debugging) (text : List ℕ) (wrong : Option ScriptFault) (old new : Option (List ℕ)) (f : Fault)
    → Shows d text wrong → AppendsPart old new text × IsUnwritten f → PrintsStates d old new (Err f)
states_part d text wrong old new f shows part = inr (text, inr (wrong, shows, part.0, part.1))
