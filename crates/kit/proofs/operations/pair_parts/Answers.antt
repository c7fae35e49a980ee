use Rattle.std.proofs.Common.{[], ◌∷◌, sym, ap, ◌∙◌}
use Rattle.ir_print.specs.declared.format.Part.TheVariants as part
use Rattle.ir_program.specs.Program.{results_at}
use Rattle.kit.proofs.Parted.{one_type, no_type}
use Rattle.kit.proofs.operations.pair_parts.Goals as goal

pub returns-then-get_num_results-eq0 : goal.returns-then-get_num_results-eq0
returns-then-get_num_results-eq0 c = λ ty e. absurd (no_type (results_at c.args.ctx.now.program c.args.op) ty e (sym c.get_num_results.ensures ∙ c.if-get_num_results-eq0.true))

pub returns : goal.returns
returns c = λ ty e. c.in_ok-vec.ensures.items ∙ ap (λ t. part.Operands 1 ∷ part.Operands 1 ∷ part.Type t ∷ []) (one_type (results_at c.args.ctx.now.program c.args.op) ty c.get_type-ty.result e c.get_type-ty.ensures)
