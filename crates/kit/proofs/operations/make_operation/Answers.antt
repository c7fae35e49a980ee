use Rattle.std.proofs.Common.{ap, refl}
use Rattle.kit.specs.Forms.{NamedRegion, TypedRegion, Value, TwoOperands, OneOperand, AnyOperands, Empty, Called, Edge, ConditionEdges, form_of}
use Rattle.kit.proofs.Numbered.{operation_made, operation_made_of, operation_refused}
use Rattle.kit.proofs.operations.make_operation.Goals as goal

pub returns-in-Module-clause-made : goal.returns-in-Module-clause-made
returns-in-Module-clause-made c = operation_made_of c.make_module.result (λ d. d.attributes) (λ d. d.result_types.items) c.args.kind NamedRegion c.args.parts.now c.args.ctx.now.types.keys (ap form_of c.in-Module.is) c.make_module.ensures.made

pub returns-in-Module-clause-refused : goal.returns-in-Module-clause-refused
returns-in-Module-clause-refused c = λ i f. operation_refused c.args.kind NamedRegion c.args.parts.now c.args.ctx.now.types.keys i (ap form_of c.in-Module.is) (c.make_module.ensures.refused i f c.args.ctx.now.types.keys)

pub returns-in-Func-clause-made : goal.returns-in-Func-clause-made
returns-in-Func-clause-made c = operation_made_of c.make_function.result (λ d. d.attributes) (λ d. d.result_types.items) c.args.kind TypedRegion c.args.parts.now c.args.ctx.now.types.keys (ap form_of c.in-Func.is) c.make_function.ensures.made

pub returns-in-Func-clause-refused : goal.returns-in-Func-clause-refused
returns-in-Func-clause-refused c = λ i f. operation_refused c.args.kind TypedRegion c.args.parts.now c.args.ctx.now.types.keys i (ap form_of c.in-Func.is) (c.make_function.ensures.refused i f c.args.ctx.now.types.keys)

pub returns-in-Arithmetic-clause-made : goal.returns-in-Arithmetic-clause-made
returns-in-Arithmetic-clause-made c = operation_made_of c.make_of_pair.result (λ d. d.attributes) (λ d. d.result_types.items) c.args.kind TwoOperands c.args.parts.now c.args.ctx.now.types.keys (ap form_of c.in-Arithmetic.is) c.make_of_pair.ensures.made

pub returns-in-Arithmetic-clause-refused : goal.returns-in-Arithmetic-clause-refused
returns-in-Arithmetic-clause-refused c = λ i f. operation_refused c.args.kind TwoOperands c.args.parts.now c.args.ctx.now.types.keys i (ap form_of c.in-Arithmetic.is) (c.make_of_pair.ensures.refused i f c.args.ctx.now.types.keys)

pub returns-in-Comparison-clause-made : goal.returns-in-Comparison-clause-made
returns-in-Comparison-clause-made c = operation_made_of c.make_of_pair-in-Comparison.result (λ d. d.attributes) (λ d. d.result_types.items) c.args.kind TwoOperands c.args.parts.now c.args.ctx.now.types.keys (ap form_of c.in-Comparison.is) c.make_of_pair-in-Comparison.ensures.made

pub returns-in-Comparison-clause-refused : goal.returns-in-Comparison-clause-refused
returns-in-Comparison-clause-refused c = λ i f. operation_refused c.args.kind TwoOperands c.args.parts.now c.args.ctx.now.types.keys i (ap form_of c.in-Comparison.is) (c.make_of_pair-in-Comparison.ensures.refused i f c.args.ctx.now.types.keys)

pub returns-in-Emit-clause-made : goal.returns-in-Emit-clause-made
returns-in-Emit-clause-made c = operation_made_of c.make_of_operand.result (λ d. d.attributes) (λ d. d.result_types.items) c.args.kind OneOperand c.args.parts.now c.args.ctx.now.types.keys (ap form_of c.in-Emit.is) c.make_of_operand.ensures.made

pub returns-in-Emit-clause-refused : goal.returns-in-Emit-clause-refused
returns-in-Emit-clause-refused c = λ i f. operation_refused c.args.kind OneOperand c.args.parts.now c.args.ctx.now.types.keys i (ap form_of c.in-Emit.is) (c.make_of_operand.ensures.refused i f c.args.ctx.now.types.keys)

pub returns-in-Return-clause-made : goal.returns-in-Return-clause-made
returns-in-Return-clause-made c = operation_made_of c.make_of_operands.result (λ d. d.attributes) (λ d. d.result_types.items) c.args.kind AnyOperands c.args.parts.now c.args.ctx.now.types.keys (ap form_of c.in-Return.is) c.make_of_operands.ensures.made

pub returns-in-Return-clause-refused : goal.returns-in-Return-clause-refused
returns-in-Return-clause-refused c = λ i f. operation_refused c.args.kind AnyOperands c.args.parts.now c.args.ctx.now.types.keys i (ap form_of c.in-Return.is) (c.make_of_operands.ensures.refused i f c.args.ctx.now.types.keys)

pub returns-in-Constant-clause-made : goal.returns-in-Constant-clause-made
returns-in-Constant-clause-made c = operation_made c.make_constant.result (λ d. d.attributes) (λ d. d.result_types.items) c.args.kind Value c.args.parts.now c.args.ctx.now.types.keys c.make_constant.new.ctx.types.keys (ap form_of c.in-Constant.is) c.make_constant.ensures.made

pub returns-in-Constant-clause-refused : goal.returns-in-Constant-clause-refused
returns-in-Constant-clause-refused c = λ i f. operation_refused c.args.kind Value c.args.parts.now c.args.ctx.now.types.keys i (ap form_of c.in-Constant.is) (c.make_constant.ensures.refused i f)

pub returns-in-ForwardRef-clause-refused : goal.returns-in-ForwardRef-clause-refused
returns-in-ForwardRef-clause-refused c = λ i f. operation_refused c.args.kind Empty c.args.parts.now c.args.ctx.now.types.keys i (ap form_of c.in-ForwardRef.is) (c.make_of_nothing.ensures.refused i f)

pub returns-in-Br-clause-refused : goal.returns-in-Br-clause-refused
returns-in-Br-clause-refused c = λ i f. operation_refused c.args.kind Edge c.args.parts.now c.args.ctx.now.types.keys i (ap form_of c.in-Br.is) (c.make_br.ensures.refused i f c.args.ctx.now.types.keys)

pub returns-in-CondBr-clause-refused : goal.returns-in-CondBr-clause-refused
returns-in-CondBr-clause-refused c = λ i f. operation_refused c.args.kind ConditionEdges c.args.parts.now c.args.ctx.now.types.keys i (ap form_of c.in-CondBr.is) (c.make_cond_br.ensures.refused i f c.args.ctx.now.types.keys)

pub returns-in-Call-clause-refused : goal.returns-in-Call-clause-refused
returns-in-Call-clause-refused c = λ i f. operation_refused c.args.kind Called c.args.parts.now c.args.ctx.now.types.keys i (ap form_of c.in-Call.is) (c.make_call.ensures.refused i f)

pub returns-in-Module-clause-program : goal.returns-in-Module-clause-program
returns-in-Module-clause-program c = refl

pub returns-in-Module-clause-types : goal.returns-in-Module-clause-types
returns-in-Module-clause-types c = λ ty key e. (e, refl)

pub returns-in-Func-clause-program : goal.returns-in-Func-clause-program
returns-in-Func-clause-program c = refl

pub returns-in-Func-clause-types : goal.returns-in-Func-clause-types
returns-in-Func-clause-types c = λ ty key e. (e, refl)

pub returns-in-Arithmetic-clause-program : goal.returns-in-Arithmetic-clause-program
returns-in-Arithmetic-clause-program c = refl

pub returns-in-Arithmetic-clause-types : goal.returns-in-Arithmetic-clause-types
returns-in-Arithmetic-clause-types c = λ ty key e. (e, refl)

pub returns-in-Comparison-clause-program : goal.returns-in-Comparison-clause-program
returns-in-Comparison-clause-program c = refl

pub returns-in-Comparison-clause-types : goal.returns-in-Comparison-clause-types
returns-in-Comparison-clause-types c = λ ty key e. (e, refl)

pub returns-in-Emit-clause-program : goal.returns-in-Emit-clause-program
returns-in-Emit-clause-program c = refl

pub returns-in-Emit-clause-types : goal.returns-in-Emit-clause-types
returns-in-Emit-clause-types c = λ ty key e. (e, refl)

pub returns-in-Return-clause-program : goal.returns-in-Return-clause-program
returns-in-Return-clause-program c = refl

pub returns-in-Return-clause-types : goal.returns-in-Return-clause-types
returns-in-Return-clause-types c = λ ty key e. (e, refl)

pub returns-in-ForwardRef-clause-program : goal.returns-in-ForwardRef-clause-program
returns-in-ForwardRef-clause-program c = c.make_of_nothing.ensures.program

pub returns-in-ForwardRef-clause-types : goal.returns-in-ForwardRef-clause-types
returns-in-ForwardRef-clause-types c = c.make_of_nothing.ensures.types

pub returns-in-Br-clause-program : goal.returns-in-Br-clause-program
returns-in-Br-clause-program c = refl

pub returns-in-Br-clause-types : goal.returns-in-Br-clause-types
returns-in-Br-clause-types c = λ ty key e. (e, refl)

pub returns-in-CondBr-clause-program : goal.returns-in-CondBr-clause-program
returns-in-CondBr-clause-program c = refl

pub returns-in-CondBr-clause-types : goal.returns-in-CondBr-clause-types
returns-in-CondBr-clause-types c = λ ty key e. (e, refl)

pub returns-in-Call-clause-program : goal.returns-in-Call-clause-program
returns-in-Call-clause-program c = refl

pub returns-in-Call-clause-types : goal.returns-in-Call-clause-types
returns-in-Call-clause-types c = λ ty key e. (e, refl)

pub returns-in-ForwardRef-clause-made : goal.returns-in-ForwardRef-clause-made
returns-in-ForwardRef-clause-made c = operation_made c.make_of_nothing.result (λ d. d.attributes) (λ d. d.result_types.items) c.args.kind Empty c.args.parts.now c.args.ctx.now.types.keys c.make_of_nothing.new.ctx.types.keys (ap form_of c.in-ForwardRef.is) c.make_of_nothing.ensures.made

pub returns-in-Br-clause-made : goal.returns-in-Br-clause-made
returns-in-Br-clause-made c = operation_made_of c.make_br.result (λ d. d.attributes) (λ d. d.result_types.items) c.args.kind Edge c.args.parts.now c.args.ctx.now.types.keys (ap form_of c.in-Br.is) c.make_br.ensures.made

pub returns-in-CondBr-clause-made : goal.returns-in-CondBr-clause-made
returns-in-CondBr-clause-made c = operation_made_of c.make_cond_br.result (λ d. d.attributes) (λ d. d.result_types.items) c.args.kind ConditionEdges c.args.parts.now c.args.ctx.now.types.keys (ap form_of c.in-CondBr.is) c.make_cond_br.ensures.made

pub returns-in-Call-clause-made : goal.returns-in-Call-clause-made
returns-in-Call-clause-made c = operation_made c.make_call.result (λ d. d.attributes) (λ d. d.result_types.items) c.args.kind Called c.args.parts.now c.args.ctx.now.types.keys c.args.ctx.now.types.keys (ap form_of c.in-Call.is) c.make_call.ensures.made

pub returns-in-Constant-clause-program : goal.returns-in-Constant-clause-program
returns-in-Constant-clause-program c = c.make_constant.ensures.program

pub returns-in-Constant-clause-types : goal.returns-in-Constant-clause-types
returns-in-Constant-clause-types c = c.make_constant.ensures.types
