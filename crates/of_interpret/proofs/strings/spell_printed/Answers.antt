use Rattle.std.proofs.Common.{rules, ◌≡◌, ◌≤◌, ◌<◌, ◌+◌, length, Err, Ok, sym, ap, ◌∙◌}
use Rattle.of_compile.specs.Coding.{compiling}
use Rattle.of_memory.specs.Growth.{appended}
use Rattle.of_eval.specs.Defining.{string_element}
use Rattle.of_interpret.specs.Strings.{bytes_put}
use Rattle.of_interpret.specs.TextWords.{type_element}
use Rattle.of_interpret.proofs.Spelt.{done_printed, faulty_printed, full_printed}
use Rattle.of_interpret.proofs.strings.spell_printed.Goals as goal

pub returns-then-end-gt-CAPACITY : goal.returns-then-end-gt-CAPACITY
returns-then-end-gt-CAPACITY g c =
    let o = c.args.coding.now.coding in
    let long : 65536 < length o.code.cells + 4 = search rules in
    (full_printed o c.args.memory.now c.args.bytes.now long, search rules)

pub returns-in-Err : goal.returns-in-Err
returns-in-Err g c =
    let o = c.args.coding.now.coding in
    let m = c.args.memory.now in
    let room : length o.code.cells + 4 ≤ 65536 = search rules in
    let fault : bytes_put (appended m c.args.bytes.now) ≡ Err c.in-Err.fault = search rules in
    (faulty_printed o m c.args.bytes.now c.in-Err.fault room fault, search rules)

pub returns : goal.returns
returns g c =
    let o = c.args.coding.now.coding in
    let m = c.args.memory.now in
    let bytes = c.args.bytes.now in
    let room : length o.code.cells + 4 ≤ 65536 = search rules in
    let put : bytes_put (appended m bytes) ≡ Ok c.put_bytes.new.memory = search rules in
    let same : c.reserve.new.self.coding ≡ o = search rules in
    let coded : compiling (string_element m.here (length bytes)) c.reserve.new.self.coding
    ≡ record { coding = c.compile.new.self.coding; ended = c.compile.result } = search rules in
    let typed : compiling type_element c.compile.new.self.coding
    ≡ record { coding = c.compile-2.new.self.coding; ended = c.compile-2.result } = search rules in
    done_printed o c.compile.new.self.coding c.compile-2.new.self.coding m c.put_bytes.new.memory bytes
    c.compile.result c.compile-2.result room put
    (ap (compiling (string_element m.here (length bytes))) (sym same) ∙ coded) typed
