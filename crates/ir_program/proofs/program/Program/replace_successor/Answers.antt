use Rattle.std.proofs.Common.{◌≡◌, ◌<◌, Some, length, sym, subst, ap, get_or}
use Rattle.ir_entities.specs.Uses.{key_of}
use Rattle.ir_program.specs.Program.{Program}
use Rattle.ir_program.specs.Rows.{successors_at}
use Rattle.ir_program.proofs.rows.RowReads.{row-place, successor-row, successor-stood}
use Rattle.ir_program.proofs.rows.SuccessorEdits.{renamed-sound, renamed-seen}
use Rattle.ir_program.proofs.program.Program.replace_successor.Goals as goal

pub rename-requires-clause-place : goal.rename-requires-clause-place
rename-requires-clause-place g c =
    let was : Program g.row.O.Denot g.row.B.Denot = record { forest = c.self.inside.forest; values = c.self.inside.values; targets = c.self.inside.targets; counter = c.self.inside.counter } in
    let l : c.args.index < length (successors_at was c.args.op) = subst (λ (x : Program g.row.O.Denot g.row.B.Denot). c.args.index < length (successors_at x c.args.op)) (sym c.self.view_is) c.requires.within in
    row-place _ _ _ _ _ (successor-row was c.args.op c.op.result.now (sym c.op.ensures) c.self.invariant) (successor-stood was c.args.op c.op.result.now (sym c.op.ensures) c.args.index (get_or c.deref.result.now c.args.index 0) l (ap (λ xs. get_or xs c.args.index 0) c.deref.ensures))

pub invariant_of-self : goal.invariant_of-self
invariant_of-self g c =
    let was : Program g.row.O.Denot g.row.B.Denot = record { forest = c.self.inside.forest; values = c.self.inside.values; targets = c.self.inside.targets; counter = c.self.inside.counter } in
    let l : c.args.index < length (successors_at was c.args.op) = subst (λ (x : Program g.row.O.Denot g.row.B.Denot). c.args.index < length (successors_at x c.args.op)) (sym c.self.view_is) c.requires.within in
    let key : key_of was.targets c.block_thread-thread.result ≡ Some c.args.block = subst (λ (x : Program g.row.O.Denot g.row.B.Denot). key_of x.targets c.block_thread-thread.result ≡ Some c.args.block) (sym c.self.view_is) c.block_thread-thread.ensures in
    let stood = successor-stood was c.args.op c.op.result.now (sym c.op.ensures) c.args.index (get_or c.deref.result.now c.args.index 0) l (ap (λ xs. get_or xs c.args.index 0) c.deref.ensures) in
    renamed-sound was c.args.op c.op.result.now (sym c.op.ensures) c.rename.new.self c.rename.ensures.definitions c.self.invariant c.args.index (get_or c.deref.result.now c.args.index 0) c.block_thread-thread.result c.args.block key stood c.rename.ensures.renamed

pub returns-clause-replaced : goal.returns-clause-replaced
returns-clause-replaced g c =
    let was : Program g.row.O.Denot g.row.B.Denot = record { forest = c.self.inside.forest; values = c.self.inside.values; targets = c.self.inside.targets; counter = c.self.inside.counter } in
    let l : c.args.index < length (successors_at was c.args.op) = subst (λ (x : Program g.row.O.Denot g.row.B.Denot). c.args.index < length (successors_at x c.args.op)) (sym c.self.view_is) c.requires.within in
    let key : key_of was.targets c.block_thread-thread.result ≡ Some c.args.block = subst (λ (x : Program g.row.O.Denot g.row.B.Denot). key_of x.targets c.block_thread-thread.result ≡ Some c.args.block) (sym c.self.view_is) c.block_thread-thread.ensures in
    let stood = successor-stood was c.args.op c.op.result.now (sym c.op.ensures) c.args.index (get_or c.deref.result.now c.args.index 0) l (ap (λ xs. get_or xs c.args.index 0) c.deref.ensures) in
    rw (← c.self.view_is) (renamed-seen was c.args.op c.op.result.now (sym c.op.ensures) c.rename.new.self c.rename.ensures.definitions c.self.invariant c.args.index (get_or c.deref.result.now c.args.index 0) c.block_thread-thread.result c.args.block key stood c.rename.ensures.renamed)
