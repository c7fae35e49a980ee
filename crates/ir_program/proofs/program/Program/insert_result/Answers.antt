use Rattle.std.proofs.Common.{refl}
use Rattle.ir_program.proofs.defined.Joins.{same-record-sound, same-record, result-joined-sound, result-joined-seen, results-within}
use Rattle.ir_program.proofs.made.Frames.{on_err}
use Rattle.ir_program.proofs.defined.Kept.{result-defined_now}
use Rattle.ir_program.proofs.defined.KeptTypes.{unchanged-types}
use Rattle.ir_program.proofs.program.Program.insert_result.Goals as goal

pub invariant_of-self : goal.invariant_of-self
invariant_of-self g c = same-record-sound (record { forest = c.self.inside.forest; values = c.self.inside.values; targets = c.self.inside.targets; counter = c.self.inside.counter }) c.args.op c.op_mut-record.result.now _ c.op_mut-record.ensures.value refl refl _ c.in_err-insert_definition.ensures.values_err c.self.invariant c.in_err-insert_definition.ensures.definitions_err

pub returns-in_err-insert_definition-clause-err : goal.returns-in_err-insert_definition-clause-err
returns-in_err-insert_definition-clause-err g c = rw (← c.self.view_is) (on_err _ (same-record (record { forest = c.self.inside.forest; values = c.self.inside.values; targets = c.self.inside.targets; counter = c.self.inside.counter }) c.args.op c.op_mut-record.result.now _ c.op_mut-record.ensures.value refl refl _ c.in_err-insert_definition.ensures.values_err refl c.in_err-insert_definition.ensures.definitions_err))

pub returns-in_err-insert_definition-clause-err_types : goal.returns-in_err-insert_definition-clause-err_types
returns-in_err-insert_definition-clause-err_types g c = rw (← c.self.view_is) (on_err _ (unchanged-types _ _ (same-record (record { forest = c.self.inside.forest; values = c.self.inside.values; targets = c.self.inside.targets; counter = c.self.inside.counter }) c.args.op c.op_mut-record.result.now _ c.op_mut-record.ensures.value refl refl _ c.in_err-insert_definition.ensures.values_err refl c.in_err-insert_definition.ensures.definitions_err)))

pub invariant_of-self-2 : goal.invariant_of-self-2
invariant_of-self-2 g c = result-joined-sound (record { forest = c.self.inside.forest; values = c.self.inside.values; targets = c.self.inside.targets; counter = c.self.inside.counter }) c.args.op c.op_mut-record.result.now _ c.op_mut-record.ensures.value refl refl c.insert_definition.new.values c.args.index c.new-value.result c.args.ty
    c.new-value.ensures (results-within _ _ c.self.view_is c.args.op _ c.op_mut-record.ensures.value c.args.index c.requires.within) c.in_ok-insert_definition.ensures.inserted _ refl c.self.invariant

pub returns-clause-inserted : goal.returns-clause-inserted
returns-clause-inserted g c = rw (← c.self.view_is) (result-joined-seen (record { forest = c.self.inside.forest; values = c.self.inside.values; targets = c.self.inside.targets; counter = c.self.inside.counter }) c.args.op c.op_mut-record.result.now _ c.op_mut-record.ensures.value refl refl c.insert_definition.new.values c.args.index c.new-value.result c.args.ty
    c.new-value.ensures (results-within _ _ c.self.view_is c.args.op _ c.op_mut-record.ensures.value c.args.index c.requires.within) c.in_ok-insert_definition.ensures.inserted _ refl c.know_named.ensures)

pub returns-clause-defined : goal.returns-clause-defined
returns-clause-defined g c = rw (← c.self.view_is) (result-defined_now (record { forest = c.self.inside.forest; values = c.self.inside.values; targets = c.self.inside.targets; counter = c.self.inside.counter }) c.args.op c.op_mut-record.result.now _ c.op_mut-record.ensures.value c.insert_definition.new.values _ c.self.invariant c.args.index c.new-value.result refl refl refl c.args.ty
    c.new-value.ensures (results-within _ _ c.self.view_is c.args.op _ c.op_mut-record.ensures.value c.args.index c.requires.within) c.in_ok-insert_definition.ensures.inserted
    c.know_named.ensures)
