use Rattle.std.proofs.Common.{◌≡◌, ℕ, Some, slice_get}
use Rattle.std.proofs.lemmas.Option.{slice_get-get_or}
use Rattle.ir_program.specs.Program.{no_handle}
use Rattle.ir_program.specs.declared.handles.Ptr.{Ptr}
use Rattle.ir_program.specs.declared.handles.BasicBlock.{BasicBlock}
use Rattle.opt_inside.specs.declared.reach.fates.Fate.TheVariants.{Unreached}
use Rattle.opt_inside.proofs.ReachLemmas.Marks.{gathered_none, distinct_none, going_gathered, going_once, going_all}
use Rattle.opt_inside.proofs.reach.fates.unreached_among.Goals as goal

pub loop-number-init : goal.loop-number-init
loop-number-init c = record {
  listed = gathered_none (λ (k : ℕ) (b : Ptr BasicBlock). (slice_get c.args.blocks.now k ≡ Some b) × (slice_get c.args.fates.now k ≡ Some Unreached)) c.new-unreached.result.items c.new-unreached.ensures.items;
  once = distinct_none c.new-unreached.result.items c.new-unreached.ensures.items;
}

pub loop-number-preserved : goal.loop-number-preserved
loop-number-preserved c =
    let here = slice_get-get_or c.args.blocks.now c.loop-number.number no_handle c.loop-number-test.true in
    record {
      listed = going_gathered c.args.blocks.now c.args.fates.now c.loop-number.unreached.items c.push_if.new.items.items c.loop-number.number _ here c.is_unreached.result c.is_unreached.ensures c.in_ok-push_if.ensures c.loop-number.invariant.listed;
      once = going_once c.args.blocks.now c.args.fates.now c.loop-number.unreached.items c.push_if.new.items.items c.loop-number.number _ here c.is_unreached.result c.in_ok-push_if.ensures c.requires.once c.loop-number.invariant.listed c.loop-number.invariant.once;
    }

pub returns-clause-listed : goal.returns-clause-listed
returns-clause-listed c = going_all c.args.blocks.now c.args.fates.now c.loop-number.unreached.items c.loop-number.number c.loop-number-test.false c.loop-number.invariant.listed

pub returns-clause-once : goal.returns-clause-once
returns-clause-once c = c.loop-number.invariant.once
