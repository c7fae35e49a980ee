use Rattle.std.proofs.Common.{◌≡◌, ◌<◌, Some, length, sym, subst, ap, get_or}
use Rattle.ir_entities.specs.Uses.{key_of}
use Rattle.ir_program.specs.Program.{Program}
use Rattle.ir_program.specs.Rows.{operands_at}
use Rattle.ir_program.proofs.rows.RowReads.{row-place, operand-row, operand-stood}
use Rattle.ir_program.proofs.rows.OperandEdits.{renamed-sound, renamed-seen}
use Rattle.ir_program.proofs.program.Program.replace_operand.Goals as goal

pub rename-requires-clause-place : goal.rename-requires-clause-place
rename-requires-clause-place g c =
    let was : Program g.row.O.Denot g.row.B.Denot = record { forest = c.self.inside.forest; values = c.self.inside.values; targets = c.self.inside.targets; counter = c.self.inside.counter } in
    let l : c.args.index < length (operands_at was c.args.op) = subst (λ (x : Program g.row.O.Denot g.row.B.Denot). c.args.index < length (operands_at x c.args.op)) (sym c.self.view_is) c.requires.within in
    row-place _ _ _ _ _ (operand-row was c.args.op c.op.result.now (sym c.op.ensures) c.self.invariant) (operand-stood was c.args.op c.op.result.now (sym c.op.ensures) c.args.index (get_or c.deref.result.now c.args.index 0) l (ap (λ xs. get_or xs c.args.index 0) c.deref.ensures))

pub invariant_of-self : goal.invariant_of-self
invariant_of-self g c =
    let was : Program g.row.O.Denot g.row.B.Denot = record { forest = c.self.inside.forest; values = c.self.inside.values; targets = c.self.inside.targets; counter = c.self.inside.counter } in
    let l : c.args.index < length (operands_at was c.args.op) = subst (λ (x : Program g.row.O.Denot g.row.B.Denot). c.args.index < length (operands_at x c.args.op)) (sym c.self.view_is) c.requires.within in
    let key : key_of was.values c.thread-thread.result ≡ Some c.args.value = subst (λ (x : Program g.row.O.Denot g.row.B.Denot). key_of x.values c.thread-thread.result ≡ Some c.args.value) (sym c.self.view_is) c.thread-thread.ensures in
    let stood = operand-stood was c.args.op c.op.result.now (sym c.op.ensures) c.args.index (get_or c.deref.result.now c.args.index 0) l (ap (λ xs. get_or xs c.args.index 0) c.deref.ensures) in
    renamed-sound was c.args.op c.op.result.now (sym c.op.ensures) c.rename.new.self c.rename.ensures.definitions c.self.invariant c.args.index (get_or c.deref.result.now c.args.index 0) c.thread-thread.result c.args.value key stood c.rename.ensures.renamed

pub returns-clause-replaced : goal.returns-clause-replaced
returns-clause-replaced g c =
    let was : Program g.row.O.Denot g.row.B.Denot = record { forest = c.self.inside.forest; values = c.self.inside.values; targets = c.self.inside.targets; counter = c.self.inside.counter } in
    let l : c.args.index < length (operands_at was c.args.op) = subst (λ (x : Program g.row.O.Denot g.row.B.Denot). c.args.index < length (operands_at x c.args.op)) (sym c.self.view_is) c.requires.within in
    let key : key_of was.values c.thread-thread.result ≡ Some c.args.value = subst (λ (x : Program g.row.O.Denot g.row.B.Denot). key_of x.values c.thread-thread.result ≡ Some c.args.value) (sym c.self.view_is) c.thread-thread.ensures in
    let stood = operand-stood was c.args.op c.op.result.now (sym c.op.ensures) c.args.index (get_or c.deref.result.now c.args.index 0) l (ap (λ xs. get_or xs c.args.index 0) c.deref.ensures) in
    rw (← c.self.view_is) (renamed-seen was c.args.op c.op.result.now (sym c.op.ensures) c.rename.new.self c.rename.ensures.definitions c.self.invariant c.args.index (get_or c.deref.result.now c.args.index 0) c.thread-thread.result c.args.value key stood c.rename.ensures.renamed)
