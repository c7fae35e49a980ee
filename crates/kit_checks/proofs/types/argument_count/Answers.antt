use Rattle.ir_program.specs.Program.{argument_count, block_at}
use Rattle.std.proofs.Common.{sym, subst, IsSome, ◌∙◌, ap}
use Rattle.kit_checks.proofs.types.argument_count.Goals as goal

pub argument_count-requires : goal.argument_count-requires
argument_count-requires c = subst (λ p. IsSome (block_at p c.args.block)) (sym c.program.ensures) c.requires

pub returns : goal.returns
returns c = c.argument_count.ensures ∙ ap (λ p. argument_count p c.args.block) c.program.ensures
