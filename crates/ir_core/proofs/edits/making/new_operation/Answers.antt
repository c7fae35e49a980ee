use Rattle.std.proofs.Common.{[], refl}
use Rattle.ir_core.proofs.EditsLemmas.Makings.{named_each, built_of, same_still}
use Rattle.ir_core.specs.edits.Naming.{value_named, block_named}
use Rattle.ir_program.specs.Program.{block_at, IsLiveValue}
use Rattle.std.proofs.Common.{IsSome, ap, slice_get, Err, ◌∙◌, sym}
use Rattle.ir_program.specs.declared.handles.Ptr.{Ptr}
use Rattle.ir_program.specs.declared.handles.BasicBlock.{BasicBlock}
use Rattle.ir_core.proofs.edits.making.new_operation.Goals as goal

pub new-requires-clause-operands : goal.new-requires-clause-operands
new-requires-clause-operands g c = λ k v at.
    named_each (value_named c.args.ctx.now.program c.args.made.now) (IsLiveValue c.args.ctx.now.program) c.args.operands.now c.in-Ok.operands.items
    (c.name_live_values.ensures.0 c.if-not-name_live_values.false) c.in-Ok.ensures k v (sym (ap (λ vs. slice_get vs k) c.deref.ensures.value) ∙ at)

pub new-requires-clause-successors : goal.new-requires-clause-successors
new-requires-clause-successors g c = λ k b at.
    named_each (block_named c.args.made.now) (λ (x : Ptr BasicBlock). IsSome (block_at c.args.ctx.now.program x)) c.args.successors.now c.in-Ok-blocks.successors.items
    (c.name_live_blocks.ensures.0 c.if-not-name_live_blocks.false) c.in-Ok-blocks.ensures k b (sym (ap (λ bs. slice_get bs k) c.deref-2.ensures.value) ∙ at)

pub returns-in_default-blocks : goal.returns-in_default-blocks
returns-in_default-blocks g c = (
  ((c.are_known.ensures.0 c.if-not-are_known.false, c.name_live_values.ensures.0 c.if-not-name_live_values.false, c.name_live_blocks.ensures.0 c.if-not-name_live_blocks.false), tt),
  same_still c.args.ctx.now,
)

pub returns-in-Ok-new : goal.returns-in-Ok-new
returns-in-Ok-new g c = (
  (c.are_known.ensures.0 c.if-not-are_known.false, c.name_live_values.ensures.0 c.if-not-name_live_values.false, c.name_live_blocks.ensures.0 c.if-not-name_live_blocks.false),
  (
    c.in-Ok-new.op,
    c.in-Ok.operands.items,
    c.in-Ok-blocks.successors.items,
    refl,
    c.in-Ok.ensures,
    c.in-Ok-blocks.ensures,
    built_of c.args.ctx.now.program c.new.new.ctx.program c.in-Ok-new.op c.args.result_types.now c.args.num_regions (record { kind = c.args.kind; notes = record { attributes = []; loc = g.D.DialectTables.nowhere } }) (record { kind = c.args.kind; notes = record { attributes = []; loc = g.D.DialectTables.nowhere } }) c.deref.result.now c.in-Ok.operands.items c.deref-2.result.now c.in-Ok-blocks.successors.items refl c.deref.ensures.value c.deref-2.ensures.value c.in-Ok-new.ensures.built,
    c.in-Ok-new.ensures.types,
  ),
)

pub returns-in-Err-Memory : goal.returns-in-Err-Memory
returns-in-Err-Memory g c = (
  ((c.are_known.ensures.0 c.if-not-are_known.false, c.name_live_values.ensures.0 c.if-not-name_live_values.false, c.name_live_blocks.ensures.0 c.if-not-name_live_blocks.false), tt),
  record { program = c.in-Err-Memory.ensures.err; values = c.in-Err-Memory.ensures.err_values; types = c.in-Err-Memory.ensures.types },
)

pub returns : goal.returns
returns g c = (
  ((c.are_known.ensures.0 c.if-not-are_known.false, c.name_live_values.ensures.0 c.if-not-name_live_values.false, c.name_live_blocks.ensures.0 c.if-not-name_live_blocks.false), c.in-Err-CounterFull.ensures.full (ap Err c.in-Err-CounterFull.field-0-is)),
  record { program = c.in-Err-CounterFull.ensures.err; values = c.in-Err-CounterFull.ensures.err_values; types = c.in-Err-CounterFull.ensures.types },
)
