use Rattle.std.proofs.Common.{ap}
use Rattle.ir_entities.specs.Links.{list_at}
use Rattle.ir_entities.specs.Lists.{ListsView}
use Rattle.ir_program.specs.Handles.{handle}
use Rattle.ir_program.specs.declared.handles.Operation.{Operation}
use Rattle.ir_program.proofs.made.Alike.{grown-sound, operation-made-sound, operation-made, unlinked_where}
use Rattle.ir_program.proofs.program.Program.new_operation.Goals as goal

pub invariant_of-self : goal.invariant_of-self
invariant_of-self g c = grown-sound (record { forest = c.self.inside.forest; values = c.self.inside.values; targets = c.self.inside.targets; counter = c.self.inside.counter }) c.new_op.new.self c.in_err-key.ensures.err c.in_err-key.ensures.blocks c.in_err-key.ensures.regions (λ i. ap (λ ls. list_at ls i) c.in_err-key.ensures.in_blocks) (λ i. ap (λ (l : ListsView). list_at l.lists i) c.in_err-key.ensures.in_regions) c.in_err-key.ensures.in_ops c.self.invariant

pub invariant_of-self-2 : goal.invariant_of-self-2
invariant_of-self-2 g c = operation-made-sound (record { forest = c.self.inside.forest; values = c.self.inside.values; targets = c.self.inside.targets; counter = c.self.inside.counter }) c.new_op.new.self (handle {E = Operation} c.in_ok-key.key) _ c.in_ok-key.ensures.fresh c.in_ok-key.ensures.updates c.in_ok-key.ensures.slot c.new.ensures.items c.new-2.ensures.items c.new-3.ensures.items c.in_ok-key.ensures.in_blocks c.in_ok-key.ensures.in_ops c.in_ok-key.ensures.in_regions c.in_ok-key.ensures.blocks c.in_ok-key.ensures.regions c.self.invariant

pub returns-clause-made : goal.returns-clause-made
returns-clause-made g c = rw (← c.self.view_is, c.new-4.ensures) (operation-made (record { forest = c.self.inside.forest; values = c.self.inside.values; targets = c.self.inside.targets; counter = c.self.inside.counter }) c.new_op.new.self (handle {E = Operation} c.in_ok-key.key) _ c.in_ok-key.ensures.fresh c.in_ok-key.ensures.updates c.in_ok-key.ensures.slot c.new.ensures.items c.new-2.ensures.items c.new-3.ensures.items c.in_ok-key.ensures.in_blocks c.in_ok-key.ensures.in_ops c.in_ok-key.ensures.in_regions c.in_ok-key.ensures.blocks c.in_ok-key.ensures.regions c.in_ok-key.ensures.unspent c.in_ok-key.ensures.spent c.in_ok-key.ensures.bare c.know.ensures.forest)

pub returns-clause-unlinked : goal.returns-clause-unlinked
returns-clause-unlinked g c = rw c.new-4.ensures (unlinked_where (record { forest = c.new_op.new.self; values = c.self.inside.values; targets = c.self.inside.targets; counter = c.self.inside.counter }) (handle {E = Operation} c.in_ok-key.key) (record { forest = c.know-2.ensures.forest; ops_apart = c.know-2.ensures.ops_apart; blocks_apart = c.know-2.ensures.blocks_apart; regions_apart = c.know-2.ensures.regions_apart; ops_once = c.know-2.ensures.ops_once; blocks_once = c.know-2.ensures.blocks_once; regions_once = c.know-2.ensures.regions_once }) c.in_ok-key.ensures.root)
