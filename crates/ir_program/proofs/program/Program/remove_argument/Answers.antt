use Rattle.std.proofs.Common.{refl}
use Rattle.ir_program.proofs.defined.Leaves.{free-argument}
use Rattle.ir_program.proofs.defined.BlockJoins.{argument-defined, argument-unnamed, argument-left_value, argument-left-sound, argument-left-seen}
use Rattle.ir_program.proofs.defined.Kept.{argument-forgotten}
use Rattle.ir_program.proofs.program.Program.remove_argument.Goals as goal

pub remove_definition-definition-requires-clause-defined : goal.remove_definition-definition-requires-clause-defined
remove_definition-definition-requires-clause-defined g c = argument-defined _ _ c.self.view_is c.args.block _ c.block_mut-record.ensures.value c.args.index c.self.invariant

pub remove_definition-definition-requires-clause-unused : goal.remove_definition-definition-requires-clause-unused
remove_definition-definition-requires-clause-unused g c = argument-unnamed _ _ c.self.view_is c.args.block _ c.block_mut-record.ensures.value c.args.index c.self.invariant c.requires.unused

pub invariant_of-self : goal.invariant_of-self
invariant_of-self g c = argument-left-sound (record { forest = c.self.inside.forest; values = c.self.inside.values; targets = c.self.inside.targets; counter = c.self.inside.counter }) c.args.block c.block_mut-record.result.now _ c.block_mut-record.ensures.value refl _ c.args.index
    c.remove_definition-definition.ensures.removed c.self.invariant

pub returns-clause-value : goal.returns-clause-value
returns-clause-value g c = argument-left_value _ _ c.self.view_is c.args.block _ c.block_mut-record.ensures.value c.args.index c.remove_definition-definition.result c.remove_definition-definition.ensures.answer c.new.result c.new.ensures

pub returns-clause-removed : goal.returns-clause-removed
returns-clause-removed g c = rw (← c.self.view_is) (argument-left-seen (record { forest = c.self.inside.forest; values = c.self.inside.values; targets = c.self.inside.targets; counter = c.self.inside.counter }) c.args.block c.block_mut-record.result.now _ c.block_mut-record.ensures.value refl _ c.args.index
    c.remove_definition-definition.ensures.removed c.self.invariant refl (free-argument _ _ c.self.view_is c.args.block c.args.index c.requires.unused))

pub returns-clause-forgotten : goal.returns-clause-forgotten
returns-clause-forgotten g c = rw (← c.self.view_is) (argument-forgotten (record { forest = c.self.inside.forest; values = c.self.inside.values; targets = c.self.inside.targets; counter = c.self.inside.counter }) c.args.block c.block_mut-record.result.now _ c.block_mut-record.ensures.value _ _ c.self.invariant c.args.index c.new.result
    _ c.remove_definition-definition.ensures.answer c.remove_definition-definition.ensures.removed.removed c.new.ensures)
