use Rattle.std.proofs.Common.{ℕ, ◌≡◌, List, Some, slice_get, length, ap, sym, ◌∙◌, subst, arith}
use Rattle.std.specs.Prelude.{◌↔◌, Contains}
use Rattle.ir_program.specs.declared.handles.Ptr.{Ptr}
use Rattle.ir_program.specs.declared.handles.BasicBlock.{BasicBlock}
use Rattle.opt_inside.specs.reach.Paths.{IsEntry}
use Rattle.opt_inside.proofs.ReachLemmas.Lists.{at_index}
use Rattle.opt_inside.proofs.ReachLemmas.Marks.{no_rows, row_more, rows_are}
use Rattle.opt_inside.proofs.reach.paths.path_rows.Goals as goal

pub loop-block-init : goal.loop-block-init
loop-block-init g c = no_rows c.args.program.now c.args.blocks.now.keys c.new-rows.result.items c.new-rows.ensures.items

pub exit_numbers-requires : goal.exit_numbers-requires
exit_numbers-requires g c = (c.requires _ (c.loop-block.block-index, at_index _ _ c.loop-block.block-index _ c.as_slice-block-items.ensures.keys c.loop-block-test.true)).1.block

pub loop-block-preserved : goal.loop-block-preserved
loop-block-preserved g c = row_more c.args.program.now c.args.blocks.now.keys c.loop-block.rows.items c.push.new.self.items c.in_ok-exit_numbers.field-0 c.loop-block.block-index _
    (at_index _ _ c.loop-block.block-index _ c.as_slice-block-items.ensures.keys c.loop-block-test.true) c.in_ok-exit_numbers.ensures c.in_ok-push.ensures.items c.loop-block.invariant

pub returns : goal.returns
returns g c =
    let all = ap length c.as_slice-block-items.ensures.keys in
    let short = c.loop-block.auto.block-index-end in
    let done = c.loop-block-test.false in
    rows_are c.args.program.now c.args.blocks.now.keys c.loop-block.rows.items c.push-2.new.self.items c.in_ok-entry_numbers.field-0 c.loop-block.block-index (omega (arith, all, short, done))
    (subst (λ (keys : List (Ptr BasicBlock)). (n : ℕ) → Contains c.in_ok-entry_numbers.field-0.items n ↔ ((b : Ptr BasicBlock) × (slice_get keys n ≡ Some b) × IsEntry c.args.program.now b)) c.as_slice.ensures.keys c.in_ok-entry_numbers.ensures)
    c.in_ok-push-2.ensures.items c.loop-block.invariant

pub entry_numbers-requires : goal.entry_numbers-requires
entry_numbers-requires g c = λ b l. c.requires b (l.0, ap (λ (keys : List (Ptr BasicBlock)). slice_get keys l.0) (sym c.as_slice.ensures.keys) ∙ l.1)
