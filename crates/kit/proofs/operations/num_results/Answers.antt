use Rattle.std.proofs.Common.{◌∙◌, ap, length, sym}
use Rattle.kit.specs.Forms.{Value, TwoOperands, Empty, Called, form_of}
use Rattle.kit.proofs.Numbered.{typed_so}
use Rattle.kit.proofs.Resulting.{constant_counted, pair_counted, call_counted, without_results}
use Rattle.kit.proofs.operations.num_results.Goals as goal

pub returns-in-Constant : goal.returns-in-Constant
returns-in-Constant c = λ n ps at shown.
    c.results_of_constant.ensures ∙ (constant_counted c.args.ctx.now.types.keys c.args.parts.now ps shown ∙ ap length (sym (typed_so n ps c.args.kind Value at (ap form_of c.in-Constant.is))))

pub returns-in-Arithmetic : goal.returns-in-Arithmetic
returns-in-Arithmetic c = λ n ps at shown.
    c.results_of_pair.ensures ∙ (pair_counted c.args.ctx.now.types.keys c.args.parts.now ps shown ∙ ap length (sym (typed_so n ps c.args.kind TwoOperands at (ap form_of c.in-Arithmetic.is))))

pub returns-in-Comparison : goal.returns-in-Comparison
returns-in-Comparison c = λ n ps at shown.
    c.results_of_pair-in-Comparison.ensures ∙ (pair_counted c.args.ctx.now.types.keys c.args.parts.now ps shown ∙ ap length (sym (typed_so n ps c.args.kind TwoOperands at (ap form_of c.in-Comparison.is))))

pub returns-in-ForwardRef : goal.returns-in-ForwardRef
returns-in-ForwardRef c = λ n ps at shown. ap length (sym (typed_so n ps c.args.kind Empty at (ap form_of c.in-ForwardRef.is)))

pub returns-in-Call : goal.returns-in-Call
returns-in-Call c = λ n ps at shown.
    c.results_of_call.ensures ∙ (call_counted c.args.ctx.now.types.keys c.args.parts.now ps shown ∙ ap length (sym (typed_so n ps c.args.kind Called at (ap form_of c.in-Call.is))))

pub returns-in-Module : goal.returns-in-Module
returns-in-Module c = λ n ps at shown. ap length (sym (without_results n ps c.args.kind at c.in-Module.is))
