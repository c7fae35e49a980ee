use Rattle.std.proofs.Common.{ap}
use Rattle.ir_program.specs.Program.{Program}
use Rattle.ir_program.proofs.rows.RowReads.{operand-row}
use Rattle.ir_program.proofs.rows.OperandEdits.{types-same, removed-sound, removed-seen}
use Rattle.ir_program.proofs.program.Program.remove_operand.Goals as goal

pub remove_place-requires-clause-row : goal.remove_place-requires-clause-row
remove_place-requires-clause-row g c =
    let was : Program g.row.O.Denot g.row.B.Denot = record { forest = c.self.inside.forest; values = c.self.inside.values; targets = c.self.inside.targets; counter = c.self.inside.counter } in
    operand-row was c.args.op c.op_mut-record.result.now c.op_mut-record.ensures.value c.self.invariant

pub invariant_of-self : goal.invariant_of-self
invariant_of-self g c =
    let was : Program g.row.O.Denot g.row.B.Denot = record { forest = c.self.inside.forest; values = c.self.inside.values; targets = c.self.inside.targets; counter = c.self.inside.counter } in
    removed-sound was c.args.op c.op_mut-record.result.now c.op_mut-record.ensures.value c.remove_place.new.row c.remove_place.new.uses c.self.invariant c.remove_place.ensures.definitions c.args.index c.remove_place.ensures.removed.0 c.remove_place.ensures.removed.1

pub returns-clause-removed : goal.returns-clause-removed
returns-clause-removed g c =
    let was : Program g.row.O.Denot g.row.B.Denot = record { forest = c.self.inside.forest; values = c.self.inside.values; targets = c.self.inside.targets; counter = c.self.inside.counter } in
    rw (← c.self.view_is) (removed-seen was c.args.op c.op_mut-record.result.now c.op_mut-record.ensures.value c.remove_place.new.row c.remove_place.new.uses c.self.invariant c.remove_place.ensures.definitions c.args.index c.remove_place.ensures.removed.0 c.remove_place.ensures.removed.1)

pub returns-clause-values : goal.returns-clause-values
returns-clause-values g c =
    let was : Program g.row.O.Denot g.row.B.Denot = record { forest = c.self.inside.forest; values = c.self.inside.values; targets = c.self.inside.targets; counter = c.self.inside.counter } in
    record {
      types = rw (← c.self.view_is) (types-same was c.args.op c.op_mut-record.result.now c.op_mut-record.ensures.value c.remove_place.new.row c.remove_place.new.uses);
      counter = ap (λ (w : Program _ _). w.counter) c.self.view_is;
    }
