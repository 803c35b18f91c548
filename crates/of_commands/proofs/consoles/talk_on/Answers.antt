use Rattle.std.proofs.Common.{rules, ◌≡◌, ◌∙◌, ap, map, subst, sym}
use Rattle.std.proofs.lemmas.Result.{err_from_is_err_and}
use Rattle.of_compile.specs.Coding.{Coding}
use Rattle.of_devices.specs.Racks.{Meant}
use Rattle.of_monitor.specs.Turns.{Attended}
use Rattle.of_commands.specs.Consoles.{at_rest, behind_image, image_of}
use Rattle.of_commands.specs.GivenUp.{IsUnrun}
use Rattle.of_commands.proofs.Sessions.{all_printed, as_made}
use Rattle.of_commands.proofs.Stopped.{unprinted, unrun, unsaid}
use Rattle.of_commands.proofs.consoles.talk_on.Goals as goal

pub returns : goal.returns
returns g c =
    let f : _ → Meant = λ d. (goal.Device-dyn g (d.vtable, d.value)).meant d.value in
    let ds = map f c.args.rack.now.items in
    let x : Attended Coding = (c.args.machine.now, ds) in
    let y : Attended Coding = (c.run_first.new.machine, map f c.run_first.new.rack.items) in
    all_printed ds c.args.console.limit (image_of c.args.console) (g.L.Read.remaining c.args.lines.now)
    (g.W.Write.contents c.args.out.now) (g.W.Write.contents c.print_since.new.out)
    (g.W.Write.contents c.session.new.out) x y (as_made c.args.machine.now ds c.requires.new)
    (c.in_ok-run_first.ensures.begun ∙ ap (λ i. behind_image c.args.console.limit i x) c.first_image.ensures)
    c.in_ok-print_since.ensures.ok c.in_ok-session.ensures.ok

pub returns-in_err-run_first : goal.returns-in_err-run_first
returns-in_err-run_first g c =
    let f : _ → Meant = λ d. (goal.Device-dyn g (d.vtable, d.value)).meant d.value in
    let ds = map f c.args.rack.now.items in
    let error = c.in_err-run_first.field-0.0 in
    let p = err_from_is_err_and c.from_residual.result c.from_residual.ensures.1 in
    let same : error ≡ p.0 = search rules in
    let refused : IsUnrun c.args.machine.now (image_of c.args.console) error =
    subst (λ i. IsUnrun c.args.machine.now i error) c.first_image.ensures c.in_err-run_first.ensures.err in
    let why : IsUnrun (at_rest ds).0 (image_of c.args.console) error =
    subst (λ m. IsUnrun m (image_of c.args.console) error) c.requires.new refused in
    rw (p.1, sym same)
    (unrun ds c.args.console.limit (image_of c.args.console) (g.L.Read.remaining c.args.lines.now)
    (g.W.Write.contents c.args.out.now) error why)

pub returns-in_err-print_since : goal.returns-in_err-print_since
returns-in_err-print_since g c =
    let f : _ → Meant = λ d. (goal.Device-dyn g (d.vtable, d.value)).meant d.value in
    let ds = map f c.args.rack.now.items in
    let x : Attended Coding = (c.args.machine.now, ds) in
    let y : Attended Coding = (c.run_first.new.machine, map f c.run_first.new.rack.items) in
    let error = c.in_err-print_since.field-0.0 in
    let p = err_from_is_err_and c.from_residual-in_err-print_since.result
    c.from_residual-in_err-print_since.ensures.1 in
    let same : error ≡ p.0 = search rules in
    rw (p.1, sym same)
    (unprinted ds c.args.console.limit (image_of c.args.console) (g.L.Read.remaining c.args.lines.now)
    (g.W.Write.contents c.args.out.now) (g.W.Write.contents c.print_since.new.out) error x y
    (as_made c.args.machine.now ds c.requires.new)
    (c.in_ok-run_first.ensures.begun ∙ ap (λ i. behind_image c.args.console.limit i x) c.first_image.ensures)
    c.in_err-print_since.ensures.err c.in_err-print_since.ensures.fault)

pub returns-in_err-session : goal.returns-in_err-session
returns-in_err-session g c =
    let f : _ → Meant = λ d. (goal.Device-dyn g (d.vtable, d.value)).meant d.value in
    let ds = map f c.args.rack.now.items in
    let x : Attended Coding = (c.args.machine.now, ds) in
    let y : Attended Coding = (c.run_first.new.machine, map f c.run_first.new.rack.items) in
    let error = c.in_err-session.field-0.0 in
    let p = err_from_is_err_and c.from_residual-in_err-session.result c.from_residual-in_err-session.ensures.1 in
    let same : error ≡ p.0 = search rules in
    rw (p.1, sym same)
    (unsaid ds c.args.console.limit (image_of c.args.console) (g.L.Read.remaining c.args.lines.now)
    (g.W.Write.contents c.args.out.now) (g.W.Write.contents c.print_since.new.out)
    (g.W.Write.contents c.session.new.out) error x y (as_made c.args.machine.now ds c.requires.new)
    (c.in_ok-run_first.ensures.begun ∙ ap (λ i. behind_image c.args.console.limit i x) c.first_image.ensures)
    c.in_ok-print_since.ensures.ok c.in_err-session.ensures.err)
