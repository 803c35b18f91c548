use Rattle.std.proofs.Common.{rules, ◌≡◌, ◌≤◌, ◌<◌, ◌+◌, length, Err, Ok, sym, ap, ◌∙◌}
use Rattle.of_compile.specs.Coding.{compiling}
use Rattle.of_memory.specs.Growth.{appended}
use Rattle.of_eval.specs.Defining.{string_element}
use Rattle.of_interpret.specs.Strings.{bytes_put}
use Rattle.of_interpret.proofs.Spelt.{done, faulty, full}
use Rattle.of_interpret.proofs.strings.spell.Goals as goal

pub returns-then-end-gt-CAPACITY : goal.returns-then-end-gt-CAPACITY
returns-then-end-gt-CAPACITY g c =
    let o = c.args.coding.now.coding in
    let long : 65536 < length o.code.cells + 3 = search rules in
    (full o c.args.memory.now c.args.bytes.now long, search rules)

pub returns-in-Err : goal.returns-in-Err
returns-in-Err g c =
    let o = c.args.coding.now.coding in
    let m = c.args.memory.now in
    let room : length o.code.cells + 3 ≤ 65536 = search rules in
    let fault : bytes_put (appended m c.args.bytes.now) ≡ Err c.in-Err.fault = search rules in
    (faulty o m c.args.bytes.now c.in-Err.fault room fault, search rules)

pub returns : goal.returns
returns g c =
    let o = c.args.coding.now.coding in
    let m = c.args.memory.now in
    let bytes = c.args.bytes.now in
    let room : length o.code.cells + 3 ≤ 65536 = search rules in
    let put : bytes_put (appended m bytes) ≡ Ok c.put_bytes.new.memory = search rules in
    let same : c.reserve.new.self.coding ≡ o = search rules in
    let coded : compiling (string_element m.here (length bytes)) c.reserve.new.self.coding
    ≡ record { coding = c.compile.new.self.coding; ended = c.compile.result } = search rules in
    done o c.compile.new.self.coding m c.put_bytes.new.memory bytes c.compile.result room put
    (ap (compiling (string_element m.here (length bytes))) (sym same) ∙ coded)
