use Rattle.std.proofs.Common.{◌∙◌}
use Rattle.std.proofs.lemmas.List.{get_or_read}
use Rattle.kit_ops.specs.Arithmetic.{compare, bit}
use Rattle.kit_flat.proofs.interpreter.Running.compared.Goals as goal

pub returns : goal.returns
returns c =
    let x = get_or_read c.args.self.now.top.values.items c.args.left c.index.result.now c.requires.left c.index.ensures 0 in
    let y = get_or_read c.args.self.now.top.values.items c.args.right c.index-2.result.now c.requires.right c.index-2.ensures 0 in
    c.bit.ensures ∙ (λ i. bit (compare c.args.function (x i) (y i)))
