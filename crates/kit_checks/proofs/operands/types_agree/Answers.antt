use Rattle.std.proofs.Common.{◌∙◌, ap, sym}
use Rattle.kit_checks.specs.Words.{is_arithmetic, is_comparison, is_cond_br, kind_of}
use Rattle.kit_checks.specs.World.{world_of}
use Rattle.kit_checks.proofs.Alike.{arithmetic_types, comparison_types, condition_types, other_types}
use Rattle.kit_checks.proofs.operands.types_agree.Goals as goal

pub returns-then-is_arithmetic : goal.returns-then-is_arithmetic
returns-then-is_arithmetic c u s = arithmetic_types (world_of c.args.ctx.now) u c.has_one_type.result (kind_of (world_of c.args.ctx.now) u) (ap is_arithmetic (c.kind_of-kind.ensures u s) ∙ sym c.is_arithmetic.ensures ∙ c.if-is_arithmetic.true) (c.has_one_type.ensures u s)

pub returns-then-is_comparison : goal.returns-then-is_comparison
returns-then-is_comparison c u s = comparison_types (world_of c.args.ctx.now) u c.compares_bits.result (kind_of (world_of c.args.ctx.now) u) (ap is_comparison (c.kind_of-kind.ensures u s) ∙ sym c.is_comparison.ensures ∙ c.if-is_comparison.true) (c.compares_bits.ensures u s)

pub returns-then-is_cond_br : goal.returns-then-is_cond_br
returns-then-is_cond_br c u s = condition_types (world_of c.args.ctx.now) u c.has_condition.result (kind_of (world_of c.args.ctx.now) u) (ap is_cond_br (c.kind_of-kind.ensures u s) ∙ sym c.is_cond_br.ensures ∙ c.if-is_cond_br.true) (c.has_condition.ensures u s)

pub returns : goal.returns
returns c u s = other_types (world_of c.args.ctx.now) u (kind_of (world_of c.args.ctx.now) u) (ap is_arithmetic (c.kind_of-kind.ensures u s) ∙ sym c.is_arithmetic.ensures ∙ c.if-is_arithmetic.false) (ap is_comparison (c.kind_of-kind.ensures u s) ∙ sym c.is_comparison.ensures ∙ c.if-is_comparison.false) (ap is_cond_br (c.kind_of-kind.ensures u s) ∙ sym c.is_cond_br.ensures ∙ c.if-is_cond_br.false)
