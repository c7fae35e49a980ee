use Rattle.std.proofs.Common.{◌↔◌, ◌∙◌, IsTrue, sym, subst}
use Rattle.kit_checks.specs.Rules.{FitsKind}
use Rattle.kit_checks.specs.World.{world_of}
use Rattle.kit_checks.proofs.format.fits_format.Goals as goal

pub returns-in-Module : goal.returns-in-Module
returns-in-Module c u s = subst (λ k. IsTrue c.fits_module.result ↔ FitsKind (world_of c.args.ctx.now) u k) (sym (c.kind_of.ensures u s ∙ c.in-Module.is)) (c.fits_module.ensures u s)

pub returns-in-Func : goal.returns-in-Func
returns-in-Func c u s = subst (λ k. IsTrue c.fits_function.result ↔ FitsKind (world_of c.args.ctx.now) u k) (sym (c.kind_of.ensures u s ∙ c.in-Func.is)) (c.fits_function.ensures u s)

pub returns-in-Constant : goal.returns-in-Constant
returns-in-Constant c u s = subst (λ k. IsTrue c.fits_constant.result ↔ FitsKind (world_of c.args.ctx.now) u k) (sym (c.kind_of.ensures u s ∙ c.in-Constant.is)) (c.fits_constant.ensures u s)

pub returns-in-ForwardRef : goal.returns-in-ForwardRef
returns-in-ForwardRef c u s = subst (λ k. IsTrue c.has_shape.result ↔ FitsKind (world_of c.args.ctx.now) u k) (sym (c.kind_of.ensures u s ∙ c.in-ForwardRef.is)) (c.has_shape.ensures u s)

pub returns-in-Arithmetic : goal.returns-in-Arithmetic
returns-in-Arithmetic c u s = subst (λ k. IsTrue c.has_shape-in-Arithmetic.result ↔ FitsKind (world_of c.args.ctx.now) u k) (sym (c.kind_of.ensures u s ∙ c.in-Arithmetic.is)) (c.has_shape-in-Arithmetic.ensures u s)

pub returns-in-Comparison : goal.returns-in-Comparison
returns-in-Comparison c u s = subst (λ k. IsTrue c.has_shape-in-Comparison.result ↔ FitsKind (world_of c.args.ctx.now) u k) (sym (c.kind_of.ensures u s ∙ c.in-Comparison.is)) (c.has_shape-in-Comparison.ensures u s)

pub returns-in-Br : goal.returns-in-Br
returns-in-Br c u s = subst (λ k. IsTrue c.has_counts.result ↔ FitsKind (world_of c.args.ctx.now) u k) (sym (c.kind_of.ensures u s ∙ c.in-Br.is)) (c.has_counts.ensures u s)

pub returns-in-CondBr : goal.returns-in-CondBr
returns-in-CondBr c u s = subst (λ k. IsTrue c.fits_cond_br.result ↔ FitsKind (world_of c.args.ctx.now) u k) (sym (c.kind_of.ensures u s ∙ c.in-CondBr.is)) (c.fits_cond_br.ensures u s)

pub returns-in-Call : goal.returns-in-Call
returns-in-Call c u s = subst (λ k. IsTrue c.has_call_numbers.result ↔ FitsKind (world_of c.args.ctx.now) u k) (sym (c.kind_of.ensures u s ∙ c.in-Call.is)) (c.has_call_numbers.ensures u s)

pub returns-in-Emit : goal.returns-in-Emit
returns-in-Emit c u s = subst (λ k. IsTrue c.has_shape-in-Emit.result ↔ FitsKind (world_of c.args.ctx.now) u k) (sym (c.kind_of.ensures u s ∙ c.in-Emit.is)) (c.has_shape-in-Emit.ensures u s)

pub returns-in-Return : goal.returns-in-Return
returns-in-Return c u s = subst (λ k. IsTrue c.has_counts-in-Return.result ↔ FitsKind (world_of c.args.ctx.now) u k) (sym (c.kind_of.ensures u s ∙ c.in-Return.is)) (c.has_counts-in-Return.ensures u s)
