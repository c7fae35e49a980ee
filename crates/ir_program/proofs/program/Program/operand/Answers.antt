use Rattle.std.proofs.Common.{◌<◌, sym, subst, length, ap, get_or}
use Rattle.ir_program.specs.Program.{Program, IsLiveValue}
use Rattle.ir_program.specs.Rows.{operands_at}
use Rattle.ir_program.proofs.rows.RowReads.{row-place, operand-named, operand-row, operand-stood, known-value}
use Rattle.ir_program.proofs.program.Program.operand.Goals as goal

pub definition-requires : goal.definition-requires
definition-requires g c =
    let was : Program g.row.O.Denot g.row.B.Denot = record { forest = c.self.inside.forest; values = c.self.inside.values; targets = c.self.inside.targets; counter = c.self.inside.counter } in
    let l : c.args.index < length (operands_at was c.args.op) = subst (λ (x : Program g.row.O.Denot g.row.B.Denot). c.args.index < length (operands_at x c.args.op)) (sym c.self.view_is) c.requires in
    row-place _ _ _ _ _ (operand-row was c.args.op c.op.result.now (sym c.op.ensures) c.self.invariant) (operand-stood was c.args.op c.op.result.now (sym c.op.ensures) c.args.index (get_or c.deref.result.now c.args.index 0) l (ap (λ xs. get_or xs c.args.index 0) c.deref.ensures))

pub returns-clause-exact : goal.returns-clause-exact
returns-clause-exact g c =
    let was : Program g.row.O.Denot g.row.B.Denot = record { forest = c.self.inside.forest; values = c.self.inside.values; targets = c.self.inside.targets; counter = c.self.inside.counter } in
    let l : c.args.index < length (operands_at was c.args.op) = subst (λ (x : Program g.row.O.Denot g.row.B.Denot). c.args.index < length (operands_at x c.args.op)) (sym c.self.view_is) c.requires in
    let stood = operand-stood was c.args.op c.op.result.now (sym c.op.ensures) c.args.index (get_or c.deref.result.now c.args.index 0) l (ap (λ xs. get_or xs c.args.index 0) c.deref.ensures) in
    rw (← c.self.view_is) (operand-named was c.args.op c.op.result.now (sym c.op.ensures) c.args.index (get_or c.deref.result.now c.args.index 0) c.definition.result c.key.result stood c.definition.ensures.named c.key.ensures)

pub returns-clause-live : goal.returns-clause-live
returns-clause-live g c =
    subst (λ (x : Program g.row.O.Denot g.row.B.Denot). IsLiveValue x c.key.result) c.self.view_is (known-value _ c.definition.result c.key.result c.self.invariant c.key.ensures)
