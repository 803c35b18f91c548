use Rattle.std.proofs.Common.{length, rules}
use Rattle.of_nodes.specs.Nodes.{number_of}
use Rattle.of_console.specs.Names.{method_name, methods_of}
use Rattle.of_console.proofs.NameLists.{all_named, one_named}
use Rattle.of_console.proofs.names.methods_named.Goals as goal

pub loop-name-preserved : goal.loop-name-preserved
loop-name-preserved c =
    one_named (λ name. name.now) (method_name c.args.dictionary.now)
    (methods_of c.args.tree.now (number_of (length c.args.tree.now) c.args.node)) c.loop-name.names.items
    c.push.new.self.items c.in-Some.name (search rules) c.loop-name.invariant (search rules)

pub returns : goal.returns
returns c =
    all_named (λ name. name.now) (method_name c.args.dictionary.now)
    (methods_of c.args.tree.now (number_of (length c.args.tree.now) c.args.node)) c.loop-name.names.items
    c.loop-name.invariant (search rules)
