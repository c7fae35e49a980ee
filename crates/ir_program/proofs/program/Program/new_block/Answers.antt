use Rattle.std.proofs.Common.{◌≡◌, Some, ap, ◌∙◌, subst}
use Rattle.ir_entities.specs.Uses.{SetsKey}
use Rattle.ir_entities.specs.Links.{list_at}
use Rattle.ir_entities.specs.Lists.{ListsView}
use Rattle.ir_entities.specs.Forest.{Forest}
use Rattle.ir_program.specs.Handles.{handle}
use Rattle.ir_arena.specs.Lends.{with_value}
use Rattle.ir_program.specs.declared.records.BlockRecord.{BlockRecord}
use Rattle.ir_program.specs.declared.handles.BasicBlock.{BasicBlock}
use Rattle.ir_program.proofs.made.Alike.{grown-sound}
use Rattle.ir_program.proofs.made.NewBlocks.{block-back-sound, block-back, block-made-sound, block-made, updates-rewritten, rewritten-here, slot-rewritten, spent-rewritten, rewritten-first, the_same, unlinked_block_where}
use Rattle.ir_program.proofs.program.Program.new_block.Goals as goal

pub invariant_of-self : goal.invariant_of-self
invariant_of-self g c = grown-sound (record { forest = c.self.inside.forest; values = c.self.inside.values; targets = c.self.inside.targets; counter = c.self.inside.counter }) c.new_block.new.self c.in_err-key.ensures.ops c.in_err-key.ensures.err c.in_err-key.ensures.regions c.in_err-key.ensures.in_blocks (λ i. ap (λ ls. list_at ls i) c.in_err-key.ensures.in_regions) (λ i. ap (λ (l : ListsView). list_at l.lists i) c.in_err-key.ensures.in_ops) c.self.invariant

pub invariant_of-self-in_default : goal.invariant_of-self-in_default
invariant_of-self-in_default g c = rw c.in_default.ensures.err (block-back-sound (record { forest = c.self.inside.forest; values = c.self.inside.values; targets = c.self.inside.targets; counter = c.self.inside.counter }) c.free_block.new.self
    (ap (λ (f : Forest _ _ _). f.ops) c.free_block.ensures.rest ∙ c.in_ok-key.ensures.ops)
    (ap (λ (f : Forest _ _ _). f.regions) c.free_block.ensures.rest ∙ c.in_ok-key.ensures.regions)
    (ap (λ (f : Forest _ _ _). f.in_regions.lists) c.free_block.ensures.rest ∙ c.in_ok-key.ensures.in_regions)
    (λ i. ap (λ (f : Forest _ _ _). list_at f.in_blocks.lists i) c.free_block.ensures.rest ∙ c.in_ok-key.ensures.in_blocks i)
    (ap (λ (f : Forest _ _ _). f.in_ops) c.free_block.ensures.rest ∙ c.in_ok-key.ensures.in_ops)
    c.new_block.new.self.blocks c.in_ok-key.key _ c.in_ok-key.ensures.fresh c.in_ok-key.ensures.updates c.in_ok-key.ensures.slot c.free_block.ensures.updates c.free_block.ensures.slot c.self.invariant)

pub returns-in_default-clause-err : goal.returns-in_default-clause-err
returns-in_default-clause-err g c = rw (← c.self.view_is, c.in_default.ensures.err) (block-back (record { forest = c.self.inside.forest; values = c.self.inside.values; targets = c.self.inside.targets; counter = c.self.inside.counter }) c.free_block.new.self
    (ap (λ (f : Forest _ _ _). f.ops) c.free_block.ensures.rest ∙ c.in_ok-key.ensures.ops)
    (ap (λ (f : Forest _ _ _). f.regions) c.free_block.ensures.rest ∙ c.in_ok-key.ensures.regions)
    (ap (λ (f : Forest _ _ _). f.in_regions.lists) c.free_block.ensures.rest ∙ c.in_ok-key.ensures.in_regions)
    (λ i. ap (λ (f : Forest _ _ _). list_at f.in_blocks.lists i) c.free_block.ensures.rest ∙ c.in_ok-key.ensures.in_blocks i)
    (ap (λ (f : Forest _ _ _). f.in_ops) c.free_block.ensures.rest ∙ c.in_ok-key.ensures.in_ops)
    c.new_block.new.self.blocks c.in_ok-key.key _ c.in_ok-key.ensures.fresh c.in_ok-key.ensures.updates c.in_ok-key.ensures.slot c.free_block.ensures.updates c.free_block.ensures.slot c.in_ok-key.ensures.spent c.free_block.ensures.spent c.know.ensures.forest)

pub invariant_of-self-2 : goal.invariant_of-self-2
invariant_of-self-2 g c =
    let is : c.block_mut.result.now ≡ record { payload = c.args.payload; arguments = c.new.result; thread = 0 } = the_same _ _ _ c.block_mut.ensures.value (rewritten-first c.self.inside.forest.blocks c.new_block.new.self.blocks c.in_ok-key.key _ c.block_mut.result.now c.in_ok-key.ensures.updates c.in_ok-key.ensures.slot) in
    let defined : SetsKey c.self.inside.targets c.define.new.self c.in-Ok.thread (Some (handle {E = BasicBlock} c.in_ok-key.key)) = subst (λ x. SetsKey c.self.inside.targets c.define.new.self c.in-Ok.thread (Some x)) c.new-2.ensures c.in-Ok.ensures.defined in
    block-made-sound (record { forest = c.self.inside.forest; values = c.self.inside.values; targets = c.self.inside.targets; counter = c.self.inside.counter }) _ c.in_ok-key.ensures.ops c.in_ok-key.ensures.regions c.in_ok-key.ensures.in_regions c.in_ok-key.ensures.in_blocks c.in_ok-key.ensures.in_ops
    c.define.new.self (handle {E = BasicBlock} c.in_ok-key.key) (record { payload = c.block_mut.result.now.payload; arguments = c.block_mut.result.now.arguments; thread = c.in-Ok.thread }) c.in_ok-key.ensures.fresh
    (rewritten-here c.self.inside.forest.blocks c.new_block.new.self.blocks c.in_ok-key.key _ _ c.in_ok-key.ensures.updates c.in_ok-key.ensures.slot)
    (updates-rewritten c.self.inside.forest.blocks c.new_block.new.self.blocks c.in_ok-key.key _ _ c.in_ok-key.ensures.updates c.in_ok-key.ensures.slot)
    (slot-rewritten c.self.inside.forest.blocks c.new_block.new.self.blocks c.in_ok-key.key _ _ c.in_ok-key.ensures.updates c.in_ok-key.ensures.slot)
    (ap (λ (b : BlockRecord _). b.arguments.items) is ∙ c.new.ensures.items)
    c.in-Ok.ensures.fresh defined c.in-Ok.ensures.places c.self.invariant

pub returns-clause-made : goal.returns-clause-made
returns-clause-made g c =
    let is : c.block_mut.result.now ≡ record { payload = c.args.payload; arguments = c.new.result; thread = 0 } = the_same _ _ _ c.block_mut.ensures.value (rewritten-first c.self.inside.forest.blocks c.new_block.new.self.blocks c.in_ok-key.key _ c.block_mut.result.now c.in_ok-key.ensures.updates c.in_ok-key.ensures.slot) in
    let defined : SetsKey c.self.inside.targets c.define.new.self c.in-Ok.thread (Some (handle {E = BasicBlock} c.in_ok-key.key)) = subst (λ x. SetsKey c.self.inside.targets c.define.new.self c.in-Ok.thread (Some x)) c.new-2.ensures c.in-Ok.ensures.defined in
    rw (← c.self.view_is, c.new-3.ensures) (block-made (record { forest = c.self.inside.forest; values = c.self.inside.values; targets = c.self.inside.targets; counter = c.self.inside.counter }) (record c.new_block.new.self { blocks = with_value c.new_block.new.self.blocks c.in_ok-key.key (record { payload = c.block_mut.result.now.payload; arguments = c.block_mut.result.now.arguments; thread = c.in-Ok.thread }) }) c.in_ok-key.ensures.ops c.in_ok-key.ensures.regions c.in_ok-key.ensures.in_regions c.in_ok-key.ensures.in_blocks c.in_ok-key.ensures.in_ops
    c.define.new.self (handle {E = BasicBlock} c.in_ok-key.key) (record { payload = c.block_mut.result.now.payload; arguments = c.block_mut.result.now.arguments; thread = c.in-Ok.thread }) c.in_ok-key.ensures.fresh
    (rewritten-here c.self.inside.forest.blocks c.new_block.new.self.blocks c.in_ok-key.key _ _ c.in_ok-key.ensures.updates c.in_ok-key.ensures.slot)
    (updates-rewritten c.self.inside.forest.blocks c.new_block.new.self.blocks c.in_ok-key.key _ _ c.in_ok-key.ensures.updates c.in_ok-key.ensures.slot)
    (slot-rewritten c.self.inside.forest.blocks c.new_block.new.self.blocks c.in_ok-key.key _ _ c.in_ok-key.ensures.updates c.in_ok-key.ensures.slot)
    (ap (λ (b : BlockRecord _). b.arguments.items) is ∙ c.new.ensures.items)
    c.in-Ok.ensures.fresh defined c.in-Ok.ensures.places
    c.in_ok-key.ensures.unspent (spent-rewritten c.self.inside.forest.blocks c.new_block.new.self.blocks c.in_ok-key.key _ _ c.in_ok-key.ensures.updates c.in_ok-key.ensures.slot c.in_ok-key.ensures.spent) c.in_ok-key.ensures.bare c.know.ensures.forest c.know_named.ensures c.args.payload (ap (λ (b : BlockRecord _). b.payload) is))

pub returns-clause-unlinked : goal.returns-clause-unlinked
returns-clause-unlinked g c = rw c.new-3.ensures (unlinked_block_where (record { forest = record c.new_block.new.self { blocks = with_value c.new_block.new.self.blocks c.in_ok-key.key (record { payload = c.block_mut.result.now.payload; arguments = c.block_mut.result.now.arguments; thread = c.in-Ok.thread }) }; values = c.self.inside.values; targets = c.define.new.self; counter = c.self.inside.counter }) (handle {E = BasicBlock} c.in_ok-key.key) (record { forest = c.know-2.ensures.forest; ops_apart = c.know-2.ensures.ops_apart; blocks_apart = c.know-2.ensures.blocks_apart; regions_apart = c.know-2.ensures.regions_apart; ops_once = c.know-2.ensures.ops_once; blocks_once = c.know-2.ensures.blocks_once; regions_once = c.know-2.ensures.regions_once }) c.in_ok-key.ensures.root)
