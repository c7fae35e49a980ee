use Rattle.std.proofs.Common.{◌≡◌, ◌∙◌, sym, ap, subst, length, map}
use Rattle.ir_program.specs.Program.{arguments_at}
use Rattle.ir_program.specs.Lists.{operations_in}
use Rattle.ir_program.specs.Replacing.{same_value}
use Rattle.ir_program.proofs.used.Renaming.{value-test}
use Rattle.kit.specs.Context.{KitProgram}
use Rattle.kit_flat.specs.View.{op_view}
use Rattle.kit_flat.specs.Sound.{AreBelow, InstructionFits}
use Rattle.kit_flat.specs.Renames.{rename_op, TargetsAreInside}
use Rattle.kit_places.specs.Numbers.{value_number, values_of, no_value, value_at, block_with, operation_with}
use Rattle.kit_places.specs.Store.{op_at}
use Rattle.kit_places.proofs.Rows.{moved, ended}
use Rattle.kit_interpreter.proofs.Sets.{listed_next, next_each, next_same}
use Rattle.kit_interpreter.proofs.Lowered.{named_back, numbers_below}
use Rattle.kit_interpreter.proofs.lowering.lower_block.Goals as goal

pub lower_operation-requires-clause-numbered : goal.lower_operation-requires-clause-numbered
lower_operation-requires-clause-numbered c = c.requires.numbered.operations c.in-Some.op
    (listed_next (operations_in c.args.ctx.now.program c.args.block) c.loop-op.yielded _ _ c.in-Some.op
    c.loop-op.invariant.listed c.in-Some.ensures.steps)

pub loop-op-preserved : goal.loop-op-preserved
loop-op-preserved c = record {
  listed = moved (λ ps. ps ≡ operations_in c.args.ctx.now.program c.args.block) c.loop-op.yielded _ _ c.in-Some.op
      c.in-Some.ensures.steps c.loop-op.invariant.listed;
  same = next_same (op_at c.args.ctx.now c.args.functions.now.outer)
      (λ o. rename_op (value_at c.args.values.now.keys) (block_with c.args.blocks.now.keys)
      (operation_with c.args.functions.now.handles.keys) (op_view o)) c.loop-op.yielded c.in-Some.op
      c.loop-op.instructions.items _ c.in_ok-lower_operation.field-0
      c.in_ok-push.ensures.items c.in_ok-lower_operation.ensures.seen c.loop-op.invariant.same;
  fits = next_each (λ j o. InstructionFits (length c.args.functions.now.handles.keys)
      (length c.args.values.now.keys) o) c.loop-op.instructions.items _ c.in_ok-lower_operation.field-0
      c.in_ok-push.ensures.items c.loop-op.invariant.fits c.in_ok-lower_operation.ensures.fits;
  inside = next_each (λ j o. TargetsAreInside (length c.args.blocks.now.keys) o) c.loop-op.instructions.items _
      c.in_ok-lower_operation.field-0 c.in_ok-push.ensures.items c.loop-op.invariant.inside
      c.in_ok-lower_operation.ensures.inside;
}

pub returns : goal.returns
returns c =
    let keys = c.args.values.now.keys in
    let vs = values_of (arguments_at c.args.ctx.now.program c.args.block) in
    let row = c.in_ok-arguments.ensures ∙ ap
    (λ (p : KitProgram). map (value_number keys) (values_of (arguments_at p c.args.block))) c.program-2.ensures in
    let all = ended (λ ps. ps ≡ operations_in c.args.ctx.now.program c.args.block) c.loop-op.yielded
    c.loop-op.op-iterator c.in-None.ensures.steps.0 c.loop-op.invariant.listed in
    record {
      arguments = named_back same_value value-test no_value keys vs c.requires.numbered.arguments
          ∙ ap (map (value_at keys)) (sym row);
      operations = ap (map (op_at c.args.ctx.now c.args.functions.now.outer)) (sym all) ∙ c.loop-op.invariant.same;
      fits = record {
        arguments_fit = subst (AreBelow (length keys)) (sym row)
            (numbers_below same_value value-test keys vs c.requires.numbered.arguments);
        instructions_fit = c.loop-op.invariant.fits;
      };
      inside = c.loop-op.invariant.inside;
    }
