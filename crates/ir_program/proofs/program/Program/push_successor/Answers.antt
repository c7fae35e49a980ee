use Rattle.std.proofs.Common.{◌≡◌, Some, sym, subst, ap}
use Rattle.ir_entities.specs.Uses.{key_of}
use Rattle.ir_program.specs.Program.{Program}
use Rattle.ir_program.proofs.rows.RowFrames.{on_ok, on_err, either_way}
use Rattle.ir_program.proofs.rows.SuccessorEdits.{types-same, kept-sound, successors-unchanged, pushed-sound, pushed-seen}
use Rattle.ir_program.proofs.program.Program.push_successor.Goals as goal

pub invariant_of-self : goal.invariant_of-self
invariant_of-self g c =
    let was : Program g.row.O.Denot g.row.B.Denot = record { forest = c.self.inside.forest; values = c.self.inside.values; targets = c.self.inside.targets; counter = c.self.inside.counter } in
    let key : key_of was.targets c.block_thread-thread.result ≡ Some c.args.block = subst (λ (x : Program g.row.O.Denot g.row.B.Denot). key_of x.targets c.block_thread-thread.result ≡ Some c.args.block) (sym c.self.view_is) c.block_thread-thread.ensures in
    either_way c.push_place.result c.push_place.ensures.pushed c.push_place.ensures.err c.push_place.ensures.row_err
    (λ pushed. pushed-sound was c.args.op c.op_mut-record.result.now c.op_mut-record.ensures.value c.push_place.new.row c.push_place.new.uses c.self.invariant c.push_place.ensures.definitions pushed.0 c.block_thread-thread.result c.args.block key pushed.1)
    (λ same rows. kept-sound was c.args.op c.op_mut-record.result.now c.op_mut-record.ensures.value c.push_place.new.row c.push_place.new.uses c.self.invariant same rows)

pub returns-clause-pushed : goal.returns-clause-pushed
returns-clause-pushed g c =
    let was : Program g.row.O.Denot g.row.B.Denot = record { forest = c.self.inside.forest; values = c.self.inside.values; targets = c.self.inside.targets; counter = c.self.inside.counter } in
    let key : key_of was.targets c.block_thread-thread.result ≡ Some c.args.block = subst (λ (x : Program g.row.O.Denot g.row.B.Denot). key_of x.targets c.block_thread-thread.result ≡ Some c.args.block) (sym c.self.view_is) c.block_thread-thread.ensures in
    rw (← c.self.view_is) (on_ok c.push_place.result c.push_place.ensures.pushed
    (λ pushed. pushed-seen was c.args.op c.op_mut-record.result.now c.op_mut-record.ensures.value c.push_place.new.row c.push_place.new.uses c.self.invariant c.push_place.ensures.definitions pushed.0 c.block_thread-thread.result c.args.block key pushed.1))

pub returns-clause-err : goal.returns-clause-err
returns-clause-err g c =
    let was : Program g.row.O.Denot g.row.B.Denot = record { forest = c.self.inside.forest; values = c.self.inside.values; targets = c.self.inside.targets; counter = c.self.inside.counter } in
    rw (← c.self.view_is) (on_err c.push_place.result c.push_place.ensures.err c.push_place.ensures.row_err
    (λ same rows. successors-unchanged was c.args.op c.op_mut-record.result.now c.op_mut-record.ensures.value c.push_place.new.row c.push_place.new.uses c.self.invariant same rows))

pub returns-clause-values : goal.returns-clause-values
returns-clause-values g c =
    let was : Program g.row.O.Denot g.row.B.Denot = record { forest = c.self.inside.forest; values = c.self.inside.values; targets = c.self.inside.targets; counter = c.self.inside.counter } in
    record {
      types = rw (← c.self.view_is) (types-same was c.args.op c.op_mut-record.result.now c.op_mut-record.ensures.value c.push_place.new.row c.push_place.new.uses);
      counter = ap (λ (w : Program _ _). w.counter) c.self.view_is;
    }
