use Rattle.std.proofs.Common.{ap, ◌∙◌}
use Rattle.ir_core.specs.edits.Naming.{value_named}
use Rattle.ir_core.proofs.edits.naming.value.Goals as goal

pub returns : goal.returns
returns g c = c.value_in_program.ensures ∙ ap (λ program. value_named program c.args.made.now c.args.at) c.program.ensures
