use Rattle.std.specs.Int.{bytes_high_first}
use Rattle.of_prims.proofs.memory_words.store_two.Goals as goal

pub put_cell-requires-2 : goal.put_cell-requires-2
put_cell-requires-2 c =
    rw (c.put_cell.ensures, c.add.ensures)
    (c.parts_are_good.ensures.second_writes c.args.memory.now c.in_ok-x.a.0 (bytes_high_first 4 c.in_ok-x.y.0)
    c.in_ok-check_write.ensures.ok)
