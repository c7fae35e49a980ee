use Rattle.std.proofs.Common.{◌≡◌, ◌∙◌, ◌+◌, ◌∷◌, List, drop, length, take, sym, ap, arith, length-append}
use Rattle.std.proofs.lemmas.List.{drop_more}
use Rattle.std.specs.Prelude.{Vec}
use Rattle.std.specs.Global.{Global}
use Rattle.ir_program.specs.declared.handles.BasicBlock.{BasicBlock}
use Rattle.ir_program.specs.declared.handles.IRNode.{IRNode}
use Rattle.ir_program.specs.declared.handles.Ptr.{Ptr}
use Rattle.text_frames.specs.building.Made.{lists_of}
use Rattle.text_frames.specs.Worlds.{joined}
use Rattle.text_assembling.proofs.Taking.{taken_off}
use Rattle.text_assembling.proofs.making.take_off.Goals as goal

pub loop-blocks-preserved : goal.loop-blocks-preserved
loop-blocks-preserved c = record {
  rest = λ xs ys e many.
      let now = c.loop-blocks.invariant.rest xs ys e many in
      let lists = c.args.lists.now in
      let i = c.loop-blocks.blocks-index in
      let b = c.blocks-item.result in
      let split : drop i lists ≡ b ∷ drop (i + 1) lists = drop_more lists i b c.loop-blocks-test.true ∙ ap (λ (y : Vec (Ptr BasicBlock) Global). y ∷ drop (i + 1) lists) (sym c.blocks-item.is) in
      let count : length now.0 ≡ length b.items + length (joined (lists_of (drop (i + 1) lists))) =
      now.2 ∙ (ap (λ (ls : List (Vec (Ptr BasicBlock) Global)). length (joined (lists_of ls))) split ∙ length-append b.items (joined (lists_of (drop (i + 1) lists)))) in
      let off = taken_off xs now.0 c.saturating_sub-rest.result (length b.items) (length (joined (lists_of (drop (i + 1) lists)))) count (let l = ap length now.1 in omega (arith, l, c.loop-blocks.loose.ok.0, c.blocks-item.result.ok.0)) in
      (off.0, c.truncate.ensures.items ∙ (ap (λ (zs : List IRNode). take c.saturating_sub-rest.result zs) now.1 ∙ off.1), off.2);
  shorter = omega (arith, c.loop-blocks.invariant.shorter, c.truncate.ensures.len);
  capacity = c.truncate.ensures.capacity ∙ c.loop-blocks.invariant.capacity;
}
