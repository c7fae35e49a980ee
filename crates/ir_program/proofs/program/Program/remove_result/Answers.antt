use Rattle.std.proofs.Common.{refl}
use Rattle.ir_program.proofs.defined.Leaves.{free-result, result-defined, result-unnamed, result-left_value, result-left-sound, result-left-seen}
use Rattle.ir_program.proofs.defined.Kept.{result-forgotten}
use Rattle.ir_program.proofs.program.Program.remove_result.Goals as goal

pub remove_definition-definition-requires-clause-defined : goal.remove_definition-definition-requires-clause-defined
remove_definition-definition-requires-clause-defined g c = result-defined _ _ c.self.view_is c.args.op _ c.op_mut-record.ensures.value c.args.index c.self.invariant

pub remove_definition-definition-requires-clause-unused : goal.remove_definition-definition-requires-clause-unused
remove_definition-definition-requires-clause-unused g c = result-unnamed _ _ c.self.view_is c.args.op _ c.op_mut-record.ensures.value c.args.index c.self.invariant c.requires.unused

pub invariant_of-self : goal.invariant_of-self
invariant_of-self g c = result-left-sound (record { forest = c.self.inside.forest; values = c.self.inside.values; targets = c.self.inside.targets; counter = c.self.inside.counter }) c.args.op c.op_mut-record.result.now _ c.op_mut-record.ensures.value refl refl _ c.args.index
    c.remove_definition-definition.ensures.removed c.self.invariant

pub returns-clause-value : goal.returns-clause-value
returns-clause-value g c = result-left_value _ _ c.self.view_is c.args.op _ c.op_mut-record.ensures.value c.args.index c.remove_definition-definition.result c.remove_definition-definition.ensures.answer c.new.result c.new.ensures

pub returns-clause-removed : goal.returns-clause-removed
returns-clause-removed g c = rw (← c.self.view_is) (result-left-seen (record { forest = c.self.inside.forest; values = c.self.inside.values; targets = c.self.inside.targets; counter = c.self.inside.counter }) c.args.op c.op_mut-record.result.now _ c.op_mut-record.ensures.value refl refl _ c.args.index
    c.remove_definition-definition.ensures.removed c.self.invariant refl (free-result _ _ c.self.view_is c.args.op c.args.index c.requires.unused))

pub returns-clause-forgotten : goal.returns-clause-forgotten
returns-clause-forgotten g c = rw (← c.self.view_is) (result-forgotten (record { forest = c.self.inside.forest; values = c.self.inside.values; targets = c.self.inside.targets; counter = c.self.inside.counter }) c.args.op c.op_mut-record.result.now _ c.op_mut-record.ensures.value _ _ c.self.invariant c.args.index c.new.result
    _ c.remove_definition-definition.ensures.answer c.remove_definition-definition.ensures.removed.removed c.new.ensures)
