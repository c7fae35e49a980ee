use Rattle.std.proofs.Common.{◌≡◌, Some, sym, subst, ap}
use Rattle.ir_entities.specs.Uses.{key_of}
use Rattle.ir_program.specs.Program.{Program}
use Rattle.ir_program.proofs.rows.RowFrames.{on_ok, on_err, either_way}
use Rattle.ir_program.proofs.rows.RowReads.{successor-row}
use Rattle.ir_program.proofs.rows.SuccessorEdits.{types-same, kept-sound, successors-unchanged, inserted-sound, inserted-seen}
use Rattle.ir_program.proofs.program.Program.insert_successor.Goals as goal

pub insert_place-requires-clause-row : goal.insert_place-requires-clause-row
insert_place-requires-clause-row g c =
    let was : Program g.row.O.Denot g.row.B.Denot = record { forest = c.self.inside.forest; values = c.self.inside.values; targets = c.self.inside.targets; counter = c.self.inside.counter } in
    successor-row was c.args.op c.op_mut-record.result.now c.op_mut-record.ensures.value c.self.invariant

pub invariant_of-self : goal.invariant_of-self
invariant_of-self g c =
    let was : Program g.row.O.Denot g.row.B.Denot = record { forest = c.self.inside.forest; values = c.self.inside.values; targets = c.self.inside.targets; counter = c.self.inside.counter } in
    let key : key_of was.targets c.block_thread-thread.result ≡ Some c.args.block = subst (λ (x : Program g.row.O.Denot g.row.B.Denot). key_of x.targets c.block_thread-thread.result ≡ Some c.args.block) (sym c.self.view_is) c.block_thread-thread.ensures in
    either_way c.insert_place.result c.insert_place.ensures.inserted c.insert_place.ensures.err c.insert_place.ensures.row_err
    (λ inserted. inserted-sound was c.args.op c.op_mut-record.result.now c.op_mut-record.ensures.value c.insert_place.new.row c.insert_place.new.uses c.self.invariant c.insert_place.ensures.definitions c.args.index inserted.0 c.block_thread-thread.result c.args.block key inserted.1)
    (λ same rows. kept-sound was c.args.op c.op_mut-record.result.now c.op_mut-record.ensures.value c.insert_place.new.row c.insert_place.new.uses c.self.invariant same rows)

pub returns-clause-inserted : goal.returns-clause-inserted
returns-clause-inserted g c =
    let was : Program g.row.O.Denot g.row.B.Denot = record { forest = c.self.inside.forest; values = c.self.inside.values; targets = c.self.inside.targets; counter = c.self.inside.counter } in
    let key : key_of was.targets c.block_thread-thread.result ≡ Some c.args.block = subst (λ (x : Program g.row.O.Denot g.row.B.Denot). key_of x.targets c.block_thread-thread.result ≡ Some c.args.block) (sym c.self.view_is) c.block_thread-thread.ensures in
    rw (← c.self.view_is) (on_ok c.insert_place.result c.insert_place.ensures.inserted
    (λ inserted. inserted-seen was c.args.op c.op_mut-record.result.now c.op_mut-record.ensures.value c.insert_place.new.row c.insert_place.new.uses c.self.invariant c.insert_place.ensures.definitions c.args.index inserted.0 c.block_thread-thread.result c.args.block key inserted.1))

pub returns-clause-err : goal.returns-clause-err
returns-clause-err g c =
    let was : Program g.row.O.Denot g.row.B.Denot = record { forest = c.self.inside.forest; values = c.self.inside.values; targets = c.self.inside.targets; counter = c.self.inside.counter } in
    rw (← c.self.view_is) (on_err c.insert_place.result c.insert_place.ensures.err c.insert_place.ensures.row_err
    (λ same rows. successors-unchanged was c.args.op c.op_mut-record.result.now c.op_mut-record.ensures.value c.insert_place.new.row c.insert_place.new.uses c.self.invariant same rows))

pub returns-clause-values : goal.returns-clause-values
returns-clause-values g c =
    let was : Program g.row.O.Denot g.row.B.Denot = record { forest = c.self.inside.forest; values = c.self.inside.values; targets = c.self.inside.targets; counter = c.self.inside.counter } in
    record {
      types = rw (← c.self.view_is) (types-same was c.args.op c.op_mut-record.result.now c.op_mut-record.ensures.value c.insert_place.new.row c.insert_place.new.uses);
      counter = ap (λ (w : Program _ _). w.counter) c.self.view_is;
    }
