use Rattle.ir_program.specs.Program.{argument_count, arguments_at, block_at, type_in}
use Rattle.std.proofs.Common.{sym, subst, IsSome, ◌≡◌, ◌<◌, Some}
use Rattle.kit_checks.proofs.types.argument_type.Goals as goal

pub argument_type-requires-clause-block : goal.argument_type-requires-clause-block
argument_type-requires-clause-block c = subst (λ p. IsSome (block_at p c.args.block)) (sym c.program.ensures) c.requires.block

pub argument_type-requires-clause-within : goal.argument_type-requires-clause-within
argument_type-requires-clause-within c = subst (λ p. c.args.index < argument_count p c.args.block) (sym c.program.ensures) c.requires.within

pub returns : goal.returns
returns c = subst (λ p. type_in (arguments_at p c.args.block) c.args.index ≡ Some c.argument_type.result) c.program.ensures c.argument_type.ensures
