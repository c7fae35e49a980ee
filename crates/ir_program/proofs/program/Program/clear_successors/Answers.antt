use Rattle.ir_program.specs.Program.{Program}
use Rattle.ir_entities.specs.Uses.{place_of}
use Rattle.ir_entities.proofs.RowEdits.{row-distinct}
use Rattle.ir_program.proofs.rows.RowReads.{row-place, successor-row}
use Rattle.ir_program.proofs.erased.Clears.{successors-cleared-sound, successors-cleared, successors-frame}
use Rattle.ir_program.proofs.program.Program.clear_successors.Goals as goal

pub clear_row-requires-clause-distinct : goal.clear_row-requires-clause-distinct
clear_row-requires-clause-distinct g c =
    let was : Program g.row.O.Denot g.row.B.Denot = record { forest = c.self.inside.forest; values = c.self.inside.values; targets = c.self.inside.targets; counter = c.self.inside.counter } in
    row-distinct (place_of c.self.inside.targets) c.op_mut-record.result.now.successors.items c.args.op.key.slot (successor-row was c.args.op c.op_mut-record.result.now c.op_mut-record.ensures.value c.self.invariant)

pub clear_row-requires-clause-used : goal.clear_row-requires-clause-used
clear_row-requires-clause-used g c k q e =
    let was : Program g.row.O.Denot g.row.B.Denot = record { forest = c.self.inside.forest; values = c.self.inside.values; targets = c.self.inside.targets; counter = c.self.inside.counter } in
    row-place (place_of c.self.inside.targets) c.op_mut-record.result.now.successors.items c.args.op.key.slot k q (successor-row was c.args.op c.op_mut-record.result.now c.op_mut-record.ensures.value c.self.invariant) e

pub invariant_of-self : goal.invariant_of-self
invariant_of-self g c =
    let was : Program g.row.O.Denot g.row.B.Denot = record { forest = c.self.inside.forest; values = c.self.inside.values; targets = c.self.inside.targets; counter = c.self.inside.counter } in
    successors-cleared-sound was c.args.op c.op_mut-record.result.now c.op_mut-record.ensures.value c.clear_row.new.row c.self.invariant c.clear_row.ensures.emptied c.clear_row.new.uses c.clear_row.ensures.definitions c.clear_row.ensures.releases

pub returns-clause-cleared : goal.returns-clause-cleared
returns-clause-cleared g c =
    let was : Program g.row.O.Denot g.row.B.Denot = record { forest = c.self.inside.forest; values = c.self.inside.values; targets = c.self.inside.targets; counter = c.self.inside.counter } in
    rw (← c.self.view_is) (successors-cleared was c.args.op c.op_mut-record.result.now c.op_mut-record.ensures.value c.clear_row.new.row c.self.invariant c.clear_row.ensures.emptied c.clear_row.new.uses c.clear_row.ensures.definitions c.clear_row.ensures.releases)

pub returns-clause-frame : goal.returns-clause-frame
returns-clause-frame g c =
    let was : Program g.row.O.Denot g.row.B.Denot = record { forest = c.self.inside.forest; values = c.self.inside.values; targets = c.self.inside.targets; counter = c.self.inside.counter } in
    rw (← c.self.view_is) (successors-frame was c.args.op c.op_mut-record.result.now c.op_mut-record.ensures.value c.clear_row.new.row c.self.invariant c.clear_row.ensures.emptied c.clear_row.new.uses c.clear_row.ensures.definitions c.clear_row.ensures.releases)
