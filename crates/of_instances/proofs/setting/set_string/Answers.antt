use Rattle.std.proofs.Common.{◌≡◌, ◌++◌, ◌∷◌, [], ◌∙◌, arith}
use Rattle.std.proofs.lemmas.Grind.{common_steps}
use Rattle.of_instances.specs.Setting.{string_entry}
use Rattle.of_instances.proofs.setting.set_string.Goals as goal

pub returns : goal.returns
unfolding string_entry
returns c =
    let value : c.as_slice.result.now ≡ c.in_ok-text.text.now ++ 0 ∷ [] =
    c.as_slice.ensures.value ∙ c.in_ok-value.ensures in
    let put = rw value at c.put_property.ensures in
    grind (arith, common_steps)
