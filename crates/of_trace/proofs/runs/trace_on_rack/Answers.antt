use Rattle.std.proofs.Common.{rules, map, [], ◌≡◌, subst, sym}
use Rattle.of_compile.specs.Coding.{Coding}
use Rattle.of_devices.specs.Racks.{Meant}
use Rattle.of_machine.specs.Racks.{answers_of}
use Rattle.of_machine.specs.Runs.{Feed, RunsTo}
use Rattle.of_machine.specs.Stretches.{StretchesWith}
use Rattle.of_trace.proofs.Gone.{ends_first_with}
use Rattle.of_trace.proofs.runs.trace_on_rack.Goals as goal

pub returns-in-Ok-trace_begun_with : goal.returns-in-Ok-trace_begun_with
returns-in-Ok-trace_begun_with g c =
    let f : _ → Meant = λ d. (goal.Device-dyn g (d.vtable, d.value)).meant d.value in
    let ds = map f c.args.rack.now.items in
    let es = map f c.trace_begun_with.new.rack.items in
    let image = c.args.image.now in
    let lines = map (λ l. l.items) c.args.lines.now in
    let limit = c.args.limit in
    let start : Feed Coding = c.in-Ok.run' in
    let last : Feed Coding = c.trace_begun_with.new.run in
    let end = c.in-Ok-trace_begun_with.end in
    let s : StretchesWith limit ds es start last end = search rules in
    let same : c.into_machine.result ≡ last.machine = search rules in
    let ended = ends_first_with c.stretches_join.ensures image lines limit ds es start last end c.ranges.limit.fits
    c.in-Ok.ensures.begun s in
    subst (λ m. RunsTo image lines (answers_of ds m.asked) [] limit m end) (sym same) ended
