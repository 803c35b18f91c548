use Rattle.of_memory.proofs.Faults.{write_fault_of_read}
use Rattle.of_memory.proofs.memory.Memory.write_fault.Goals as goal

pub returns-in-Some-clause-value : goal.returns-in-Some-clause-value
returns-in-Some-clause-value c =
    write_fault_of_read c.args.self.now c.args.addr c.args.len c.args.width c.in-Some.fault c.in-Some.ensures.value
