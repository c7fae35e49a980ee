use Rattle.std.proofs.Common.{◌∙◌, sym, ap, subst, map}
use Rattle.ir_program.specs.Program.{results_at}
use Rattle.ir_program.specs.Rows.{operands_at, successors_at}
use Rattle.kit.specs.Context.{KitProgram}
use Rattle.kit_flat.specs.Forms.{op_of, form_view}
use Rattle.kit_flat.specs.Formed.{IsFormed}
use Rattle.kit_places.specs.Numbers.{value_number, block_number, values_of}
use Rattle.kit_interpreter.proofs.Lowered.{unformed, lowers}
use Rattle.kit_interpreter.proofs.lowering.lower_operation.Goals as goal

pub unreachable-requires-in-None-2 : goal.unreachable-requires-in-None-2
unreachable-requires-in-None-2 c =
    let o = subst (IsFormed c.in-Some.shape c.in_ok-results.results.items c.in_ok-operands.operands.items
    c.deref.result.now) c.in-None-2.is c.in_ok-lowered.ensures in
    let r = c.in_ok-results.ensures ∙ ap (λ (p : KitProgram). map (value_number c.args.values.now.keys)
    (values_of (results_at p c.args.op))) c.program.ensures in
    let x = c.in_ok-operands.ensures ∙ ap (λ (p : KitProgram). map (value_number c.args.values.now.keys)
    (operands_at p c.args.op)) c.program-2.ensures in
    let b = c.deref.ensures.value ∙ c.in_ok-successors.ensures
    ∙ ap (λ (p : KitProgram). map (block_number c.args.blocks.now.keys) (successors_at p c.args.op))
    c.program-3.ensures in
    unformed c.args.ctx.now c.args.functions.now.outer c.args.values.now.keys c.args.blocks.now.keys
    c.args.functions.now.handles.keys c.args.op c.requires.numbered c.in-Some.shape c.in-Some.ensures.form
    ((λ i. op_of (form_view c.in-Some.shape) (sym r i) (sym x i) (sym b i)) ∙ o)

pub returns : goal.returns
returns c =
    let o = subst (IsFormed c.in-Some.shape c.in_ok-results.results.items c.in_ok-operands.operands.items
    c.deref.result.now) c.in-Some-2.is c.in_ok-lowered.ensures in
    let r = c.in_ok-results.ensures ∙ ap (λ (p : KitProgram). map (value_number c.args.values.now.keys)
    (values_of (results_at p c.args.op))) c.program.ensures in
    let x = c.in_ok-operands.ensures ∙ ap (λ (p : KitProgram). map (value_number c.args.values.now.keys)
    (operands_at p c.args.op)) c.program-2.ensures in
    let b = c.deref.ensures.value ∙ c.in_ok-successors.ensures
    ∙ ap (λ (p : KitProgram). map (block_number c.args.blocks.now.keys) (successors_at p c.args.op))
    c.program-3.ensures in
    lowers c.args.ctx.now c.args.functions.now.outer c.args.values.now.keys c.args.blocks.now.keys
    c.args.functions.now.handles.keys c.args.op c.requires.numbered c.in-Some.shape c.in-Some.ensures.form
    c.in-Some.ensures.fits c.in-Some-2.lowered
    ((λ i. op_of (form_view c.in-Some.shape) (sym r i) (sym x i) (sym b i)) ∙ o)
