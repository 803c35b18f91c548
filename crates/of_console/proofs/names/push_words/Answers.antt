use Rattle.std.proofs.Common.{◌≡◌, ◌-◌, ◌++◌, suc, length, arith, rules, subst}
use Rattle.of_dict.specs.Words.{listed}
use Rattle.of_console.specs.Names.{listed_below, names_shown}
use Rattle.of_console.proofs.NameLists.{goes_on}
use Rattle.of_console.proofs.names.push_words.Goals as goal

pub loop-number-preserved : goal.loop-number-preserved
loop-number-preserved c =
    let words = c.args.dictionary.now in
    let out = c.loop-number.out.items in
    let all = c.args.out.now.items ++ names_shown (listed_below words (length words)) in
    let k = c.loop-number.number - 1 in
    let is : c.loop-number.number ≡ suc k = omega (arith, c.loop-number-test.true) in
    record {
      within = omega (arith, c.loop-number.invariant.within);
      shown = goes_on out c.push_listed.new.out.items all (listed words k) (listed_below words k)
          (subst (λ n. out ++ names_shown (listed_below words n) ≡ all) is c.loop-number.invariant.shown)
          (search rules);
    }
