use Rattle.std.proofs.Common.{◌≡◌, ℕ, Some, slice_get}
use Rattle.std.proofs.lemmas.Option.{slice_get-get_or}
use Rattle.ir_program.specs.Program.{no_handle}
use Rattle.ir_program.specs.declared.handles.Ptr.{Ptr}
use Rattle.ir_program.specs.declared.handles.BasicBlock.{BasicBlock}
use Rattle.opt_inside.specs.reach.Paths.{IsEntry}
use Rattle.opt_inside.proofs.ReachLemmas.Marks.{gathered_none, entries_gathered, entries_all}
use Rattle.opt_inside.proofs.reach.paths.entry_numbers.Goals as goal

pub loop-number-init : goal.loop-number-init
loop-number-init g c = gathered_none (λ (k n : ℕ). (k ≡ n) × (b : Ptr BasicBlock) × (slice_get c.args.blocks.now k ≡ Some b) × IsEntry c.args.program.now b) c.new-row.result.items c.new-row.ensures.items

pub is_entry-requires : goal.is_entry-requires
is_entry-requires g c = c.requires _ (c.loop-number.number, slice_get-get_or c.args.blocks.now c.loop-number.number no_handle c.loop-number-test.true)

pub loop-number-preserved : goal.loop-number-preserved
loop-number-preserved g c =
    let here = slice_get-get_or c.args.blocks.now c.loop-number.number no_handle c.loop-number-test.true in
    entries_gathered c.args.program.now c.args.blocks.now c.loop-number.row.items c.push_if.new.items.items c.loop-number.number _ here c.is_entry.result c.is_entry.ensures c.in_ok-push_if.ensures c.loop-number.invariant

pub returns : goal.returns
returns g c = entries_all c.args.program.now c.args.blocks.now c.loop-number.row.items c.loop-number.number c.loop-number-test.false c.loop-number.invariant
