use Rattle.std.proofs.Common.{rules, ◌≡◌, ◌≤◌, ◌+◌, length, [], Ok}
use Rattle.of_memory.specs.Growth.{append_copied, zeros_allotted}
use Rattle.of_cells.specs.Outcomes.{Answers}
use Rattle.of_memory.specs.Outcomes.{address_of}
use Rattle.of_compile.specs.Coding.{compiling}
use Rattle.of_eval.specs.Defining.{string_element}
use Rattle.of_eval.proofs.Strings.{string_ends}
use Rattle.of_eval.proofs.tokens.compile_string.Goals as goal

pub returns : goal.returns
returns g c =
    let s = c.args.eval.now in
    let m = c.append_copy.new.self in
    let room : length s.code.code.cells + 3 ≤ 65536 = search rules in
    let copied : append_copied s.board.memory c.args.from.0 c.args.length.0 [] ≡ Ok (c.in_default.field-0.0, m)
    = search rules in
    let same : c.reserve.new.self.coding ≡ s.code = search rules in
    let coded : compiling (string_element s.board.memory.here c.args.length.0) c.reserve.new.self.coding
    ≡ record { coding = c.compile.new.self.coding; ended = c.compile.result } = search rules in
    let zeros : Answers (zeros_allotted m 0) m c.allot_zeros.new.self (address_of c.allot_zeros.result) =
    search rules in
    string_ends s _ c.args.from.0 c.args.length.0 (c.in_default.field-0.0, m) c.reserve.new.self.coding
    c.compile.new.self.coding c.allot_zeros.new.self c.compile.result c.allot_zeros.result room copied same coded zeros
    (search rules)
