use Rattle.std.proofs.Common.{◌≡◌, ℕ, [], ◌∷◌, ap, ◌∙◌, length, subst}
use Rattle.std.specs.Result.{IfOk}
use Rattle.ir_names.specs.Dictionary.{attribute_at}
use Rattle.ir_print.specs.Shown.{ShowsParts}
use Rattle.ir_print.specs.declared.format.Part.TheVariants as part
use Rattle.ir_program.specs.Program.{results_at}
use Rattle.ir_program.specs.Rows.{operands_at}
use Rattle.text_dialect.specs.Seen.{types_of}
use Rattle.kit_ops.specs.Keys.{symbol_name, function_type, callee, callee_type, segment_sizes}
use Rattle.kit.specs.Forms.{NamedRegion, TypedRegion, Value, TwoOperands, OneOperand, AnyOperands, Empty, Called, Edge, ConditionEdges, form_of}
use Rattle.kit.specs.Parts.{AreModuleParts, AreFunctionParts, AreCallParts, condition_parts}
use Rattle.kit.specs.Says.{says}
use Rattle.kit.proofs.Parted.{if_ok, seen_kind, seen_entries, seen_results, seen_operands, said_as, named_region_parted, typed_region_parted, value_parted, two_operands_parted, any_operands_parted, one_operand_parted, called_parted, empty_parted, edge_parted, edges_parted}
use Rattle.kit.proofs.operations.operation_parts.Goals as goal

pub returns-in-Module : goal.returns-in-Module
returns-in-Module c = λ types o n us ps at e h.
    let said = said_as c.kind.result NamedRegion c.deref.result.now.attributes (length (operands_at c.args.ctx.now.program c.args.op)) (types_of (results_at c.args.ctx.now.program c.args.op)) o n us
    (seen_kind c.args.ctx.now.program c.args.op o at c.kind.result c.kind.ensures) (ap form_of c.in-Module.is) (seen_entries c.args.ctx.now.program c.args.op o at c.deref.result.now c.deref.ensures)
    (ap length (seen_operands c.args.ctx.now.program c.args.op o at)) (ap types_of (seen_results c.args.ctx.now.program c.args.op o at)) e in
    if_ok c.module_parts.result (λ parts. AreModuleParts (attribute_at c.deref.result.now.attributes symbol_name) parts.items) (λ parts. ShowsParts says types parts.items ps) c.module_parts.ensures
    (λ parts are. named_region_parted types c.deref.result.now.attributes (length (operands_at c.args.ctx.now.program c.args.op)) (types_of (results_at c.args.ctx.now.program c.args.op)) parts.items us ps are said h)

pub returns-in-Func : goal.returns-in-Func
returns-in-Func c = λ types o n us ps at e h.
    let said = said_as c.kind.result TypedRegion c.deref.result.now.attributes (length (operands_at c.args.ctx.now.program c.args.op)) (types_of (results_at c.args.ctx.now.program c.args.op)) o n us
    (seen_kind c.args.ctx.now.program c.args.op o at c.kind.result c.kind.ensures) (ap form_of c.in-Func.is) (seen_entries c.args.ctx.now.program c.args.op o at c.deref.result.now c.deref.ensures)
    (ap length (seen_operands c.args.ctx.now.program c.args.op o at)) (ap types_of (seen_results c.args.ctx.now.program c.args.op o at)) e in
    if_ok c.function_parts.result (λ parts. AreFunctionParts (attribute_at c.deref.result.now.attributes symbol_name) (attribute_at c.deref.result.now.attributes function_type) parts.items) (λ parts. ShowsParts says types parts.items ps) c.function_parts.ensures
    (λ parts are. typed_region_parted types c.deref.result.now.attributes (length (operands_at c.args.ctx.now.program c.args.op)) (types_of (results_at c.args.ctx.now.program c.args.op)) parts.items us ps are said h)

pub returns-in-Constant : goal.returns-in-Constant
returns-in-Constant c = λ types o n us ps at e h.
    value_parted types c.deref.result.now.attributes (length (operands_at c.args.ctx.now.program c.args.op)) (types_of (results_at c.args.ctx.now.program c.args.op)) c.constant_parts.result us ps c.constant_parts.ensures
    (said_as c.kind.result Value c.deref.result.now.attributes (length (operands_at c.args.ctx.now.program c.args.op)) (types_of (results_at c.args.ctx.now.program c.args.op)) o n us
    (seen_kind c.args.ctx.now.program c.args.op o at c.kind.result c.kind.ensures) (ap form_of c.in-Constant.is) (seen_entries c.args.ctx.now.program c.args.op o at c.deref.result.now c.deref.ensures)
    (ap length (seen_operands c.args.ctx.now.program c.args.op o at)) (ap types_of (seen_results c.args.ctx.now.program c.args.op o at)) e) h

pub returns-in-Arithmetic : goal.returns-in-Arithmetic
returns-in-Arithmetic c = λ types o n us ps at e h.
    two_operands_parted types c.deref.result.now.attributes (length (operands_at c.args.ctx.now.program c.args.op)) (types_of (results_at c.args.ctx.now.program c.args.op)) c.pair_parts.result us ps c.pair_parts.ensures
    (said_as c.kind.result TwoOperands c.deref.result.now.attributes (length (operands_at c.args.ctx.now.program c.args.op)) (types_of (results_at c.args.ctx.now.program c.args.op)) o n us
    (seen_kind c.args.ctx.now.program c.args.op o at c.kind.result c.kind.ensures) (ap form_of c.in-Arithmetic.is) (seen_entries c.args.ctx.now.program c.args.op o at c.deref.result.now c.deref.ensures)
    (ap length (seen_operands c.args.ctx.now.program c.args.op o at)) (ap types_of (seen_results c.args.ctx.now.program c.args.op o at)) e) h

pub returns-in-Comparison : goal.returns-in-Comparison
returns-in-Comparison c = λ types o n us ps at e h.
    two_operands_parted types c.deref.result.now.attributes (length (operands_at c.args.ctx.now.program c.args.op)) (types_of (results_at c.args.ctx.now.program c.args.op)) c.pair_parts-in-Comparison.result us ps c.pair_parts-in-Comparison.ensures
    (said_as c.kind.result TwoOperands c.deref.result.now.attributes (length (operands_at c.args.ctx.now.program c.args.op)) (types_of (results_at c.args.ctx.now.program c.args.op)) o n us
    (seen_kind c.args.ctx.now.program c.args.op o at c.kind.result c.kind.ensures) (ap form_of c.in-Comparison.is) (seen_entries c.args.ctx.now.program c.args.op o at c.deref.result.now c.deref.ensures)
    (ap length (seen_operands c.args.ctx.now.program c.args.op o at)) (ap types_of (seen_results c.args.ctx.now.program c.args.op o at)) e) h

pub returns-in_ok-vec-in-Emit : goal.returns-in_ok-vec-in-Emit
returns-in_ok-vec-in-Emit c = λ types o n us ps at e h.
    one_operand_parted types c.deref.result.now.attributes (length (operands_at c.args.ctx.now.program c.args.op)) (types_of (results_at c.args.ctx.now.program c.args.op)) c.in_ok-vec-in-Emit.field-0.items us ps (c.in_ok-vec-in-Emit.ensures.items ∙ ap (λ k. part.Operands k ∷ []) c.get_num_operands.ensures)
    (said_as c.kind.result OneOperand c.deref.result.now.attributes (length (operands_at c.args.ctx.now.program c.args.op)) (types_of (results_at c.args.ctx.now.program c.args.op)) o n us
    (seen_kind c.args.ctx.now.program c.args.op o at c.kind.result c.kind.ensures) (ap form_of c.in-Emit.is) (seen_entries c.args.ctx.now.program c.args.op o at c.deref.result.now c.deref.ensures)
    (ap length (seen_operands c.args.ctx.now.program c.args.op o at)) (ap types_of (seen_results c.args.ctx.now.program c.args.op o at)) e) h

pub returns-in_ok-vec-in-Return : goal.returns-in_ok-vec-in-Return
returns-in_ok-vec-in-Return c = λ types o n us ps at e h.
    any_operands_parted types c.deref.result.now.attributes (length (operands_at c.args.ctx.now.program c.args.op)) (types_of (results_at c.args.ctx.now.program c.args.op)) c.in_ok-vec-in-Return.field-0.items us ps (c.in_ok-vec-in-Return.ensures.items ∙ ap (λ k. part.Operands k ∷ []) c.get_num_operands-in-Return.ensures)
    (said_as c.kind.result AnyOperands c.deref.result.now.attributes (length (operands_at c.args.ctx.now.program c.args.op)) (types_of (results_at c.args.ctx.now.program c.args.op)) o n us
    (seen_kind c.args.ctx.now.program c.args.op o at c.kind.result c.kind.ensures) (ap form_of c.in-Return.is) (seen_entries c.args.ctx.now.program c.args.op o at c.deref.result.now c.deref.ensures)
    (ap length (seen_operands c.args.ctx.now.program c.args.op o at)) (ap types_of (seen_results c.args.ctx.now.program c.args.op o at)) e) h

pub returns-in-ForwardRef : goal.returns-in-ForwardRef
returns-in-ForwardRef c = λ types o n us ps at e h.
    empty_parted types c.deref.result.now.attributes (length (operands_at c.args.ctx.now.program c.args.op)) (types_of (results_at c.args.ctx.now.program c.args.op)) c.new.result.items us ps c.new.ensures.items
    (said_as c.kind.result Empty c.deref.result.now.attributes (length (operands_at c.args.ctx.now.program c.args.op)) (types_of (results_at c.args.ctx.now.program c.args.op)) o n us
    (seen_kind c.args.ctx.now.program c.args.op o at c.kind.result c.kind.ensures) (ap form_of c.in-ForwardRef.is) (seen_entries c.args.ctx.now.program c.args.op o at c.deref.result.now c.deref.ensures)
    (ap length (seen_operands c.args.ctx.now.program c.args.op o at)) (ap types_of (seen_results c.args.ctx.now.program c.args.op o at)) e) h

pub returns-in_ok-vec-in-Br : goal.returns-in_ok-vec-in-Br
returns-in_ok-vec-in-Br c = λ types o n us ps at e h.
    edge_parted types c.deref.result.now.attributes (length (operands_at c.args.ctx.now.program c.args.op)) (types_of (results_at c.args.ctx.now.program c.args.op)) c.in_ok-vec-in-Br.field-0.items us ps (c.in_ok-vec-in-Br.ensures.items ∙ ap (λ k. part.Successor k ∷ []) c.get_num_operands-in-Br.ensures)
    (said_as c.kind.result Edge c.deref.result.now.attributes (length (operands_at c.args.ctx.now.program c.args.op)) (types_of (results_at c.args.ctx.now.program c.args.op)) o n us
    (seen_kind c.args.ctx.now.program c.args.op o at c.kind.result c.kind.ensures) (ap form_of c.in-Br.is) (seen_entries c.args.ctx.now.program c.args.op o at c.deref.result.now c.deref.ensures)
    (ap length (seen_operands c.args.ctx.now.program c.args.op o at)) (ap types_of (seen_results c.args.ctx.now.program c.args.op o at)) e) h

pub returns-in-CondBr : goal.returns-in-CondBr
returns-in-CondBr c = λ types o n us ps at e h.
    if_ok c.edge_parts.result (λ parts. parts.items ≡ condition_parts (attribute_at c.deref.result.now.attributes segment_sizes)) (λ parts. ShowsParts says types parts.items ps) c.edge_parts.ensures
    (λ parts is. edges_parted types c.deref.result.now.attributes (length (operands_at c.args.ctx.now.program c.args.op)) (types_of (results_at c.args.ctx.now.program c.args.op)) parts.items us ps is
    (said_as c.kind.result ConditionEdges c.deref.result.now.attributes (length (operands_at c.args.ctx.now.program c.args.op)) (types_of (results_at c.args.ctx.now.program c.args.op)) o n us
    (seen_kind c.args.ctx.now.program c.args.op o at c.kind.result c.kind.ensures) (ap form_of c.in-CondBr.is) (seen_entries c.args.ctx.now.program c.args.op o at c.deref.result.now c.deref.ensures)
    (ap length (seen_operands c.args.ctx.now.program c.args.op o at)) (ap types_of (seen_results c.args.ctx.now.program c.args.op o at)) e) h)

pub returns-in-Call : goal.returns-in-Call
returns-in-Call c = λ types o n us ps at e h.
    let said = said_as c.kind.result Called c.deref.result.now.attributes (length (operands_at c.args.ctx.now.program c.args.op)) (types_of (results_at c.args.ctx.now.program c.args.op)) o n us
    (seen_kind c.args.ctx.now.program c.args.op o at c.kind.result c.kind.ensures) (ap form_of c.in-Call.is) (seen_entries c.args.ctx.now.program c.args.op o at c.deref.result.now c.deref.ensures)
    (ap length (seen_operands c.args.ctx.now.program c.args.op o at)) (ap types_of (seen_results c.args.ctx.now.program c.args.op o at)) e in
    if_ok c.call_parts.result (λ parts. AreCallParts (attribute_at c.deref.result.now.attributes callee) (attribute_at c.deref.result.now.attributes callee_type) (length (operands_at c.args.ctx.now.program c.args.op)) parts.items) (λ parts. ShowsParts says types parts.items ps)
    (subst (λ (k : ℕ). IfOk c.call_parts.result (λ parts. AreCallParts (attribute_at c.deref.result.now.attributes callee) (attribute_at c.deref.result.now.attributes callee_type) k parts.items)) c.get_num_operands-in-Call.ensures c.call_parts.ensures)
    (λ parts are. called_parted types c.deref.result.now.attributes (length (operands_at c.args.ctx.now.program c.args.op)) (types_of (results_at c.args.ctx.now.program c.args.op)) parts.items us ps are said h)
