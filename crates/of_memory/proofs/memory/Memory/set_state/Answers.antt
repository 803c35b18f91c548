use Rattle.of_memory.proofs.memory.Memory.set_state.Goals as goal

pub returns : goal.returns
returns c = rw (c.place.ensures, c.flag.ensures) at c.put_cell.ensures
