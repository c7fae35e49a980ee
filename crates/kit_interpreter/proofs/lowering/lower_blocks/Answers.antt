use Rattle.std.proofs.Common.{◌∙◌, sym, ap, subst, length, ◌+◌}
use Rattle.std.proofs.lemmas.List.{length-append}
use Rattle.std.proofs.lemmas.Option.{get_or_from_slice_get}
use Rattle.ir_program.specs.Program.{no_handle}
use Rattle.ir_program.specs.declared.handles.Ptr.{Ptr}
use Rattle.ir_program.specs.declared.handles.BasicBlock.{BasicBlock}
use Rattle.kit_places.specs.Numbers.{block_with}
use Rattle.kit_interpreter.specs.Lowering.{LowersBlock}
use Rattle.kit_interpreter.proofs.Sets.{next_each}
use Rattle.kit_interpreter.proofs.lowering.lower_blocks.Goals as goal

pub loop-i-preserved : goal.loop-i-preserved
loop-i-preserved c =
    let lowers = LowersBlock c.args.ctx.now c.args.functions.now.outer c.args.values.now.keys c.args.blocks.now.keys
    c.args.functions.now.handles.keys in
    let is = get_or_from_slice_get c.args.blocks.now.keys c.loop-i.i c.in-Some.block.now no_handle
    (sym c.in-Some.ensures.key) in
    let at = ap (block_with c.args.blocks.now.keys) c.loop-i.invariant.len ∙ is in
    record {
      len = ap length c.in_ok-push-in-Some.ensures.items ∙ length-append c.loop-i.lowered.items _
          ∙ ap (λ n. n + 1) c.loop-i.invariant.len;
      each = next_each (λ i x. lowers (block_with c.args.blocks.now.keys i) x) c.loop-i.lowered.items _
          c.in_ok-lower_block-in-Some.field-0 c.in_ok-push-in-Some.ensures.items c.loop-i.invariant.each
          (subst (λ (b : Ptr BasicBlock). lowers b c.in_ok-lower_block-in-Some.field-0) (sym at)
          c.in_ok-lower_block-in-Some.ensures);
    }
