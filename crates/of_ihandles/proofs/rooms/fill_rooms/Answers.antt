use Rattle.std.proofs.Common.{◌≡◌, ◌<◌, length, true, ap, ◌∙◌, sym, rules, arith}
use Rattle.of_ihandles.specs.Instances.{is_open}
use Rattle.of_ihandles.proofs.RoomLoops.{fills_next, fills_out, read_twice}
use Rattle.of_ihandles.proofs.rooms.fill_rooms.Goals as goal

pub returns-in-None : goal.returns-in-None
returns-in-None c =
    sym (fills_out c.args.«package» c.loop-i.made.items c.loop-i.i c.loop-i.next c.args.blocks.now
    (sym c.in-None.ensures))
    ∙ c.loop-i.invariant.filled

pub loop-i-preserved : goal.loop-i-preserved
loop-i-preserved c =
    let within : c.loop-i.i < length c.loop-i.made.items =
    omega (arith, c.loop-i.made.ok.0, c.loop-i.invariant.len, c.args.made.now.ok.0) in
    let opened : is_open c.args.«package» c.index.result.now ≡ true = search rules in
    let same =
    read_twice c.loop-i.made.items c.loop-i.i _ _ within c.index_mut.ensures.value c.index.ensures in
    record {
      filled = fills_next c.args.«package» c.loop-i.made.items c.loop-i.i c.loop-i.next _ _ c.in-Some.block
          c.args.blocks.now within c.index_mut.ensures.value
          (ap (is_open c.args.«package») same ∙ opened) c.fill_room.ensures
          (sym c.in-Some.ensures)
          ∙ c.loop-i.invariant.filled;
      few = omega arith;
      len = search rules;
    }
