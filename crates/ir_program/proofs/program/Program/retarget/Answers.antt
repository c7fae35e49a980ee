use Rattle.std.proofs.Common.{sym, ap, get_or}
use Rattle.ir_program.proofs.used.Renaming.{edge-place, edge-sound, edge-seen}
use Rattle.ir_program.proofs.program.Program.retarget.Goals as goal

pub rename-requires-clause-place : goal.rename-requires-clause-place
rename-requires-clause-place g c = edge-place _ c.args.self.now c.self.view_is c.self.invariant c.args.place.user_op c.op.result.now (sym c.op.ensures) c.args.place.index c.args.place.def c.requires.place (get_or c.deref.result.now c.args.place.index 0) (ap (λ xs. get_or xs c.args.place.index 0) c.deref.ensures)

pub invariant_of-self : goal.invariant_of-self
invariant_of-self g c = edge-sound _ c.args.self.now c.self.view_is c.self.invariant c.args.place.user_op c.op.result.now (sym c.op.ensures) c.args.place.index c.args.place.def c.requires.place (get_or c.deref.result.now c.args.place.index 0) (ap (λ xs. get_or xs c.args.place.index 0) c.deref.ensures)
    c.rename.new.self c.rename.ensures.definitions c.edge_thread-thread.result c.args.other c.edge_thread-thread.ensures c.rename.ensures.renamed

pub returns-clause-retargeted : goal.returns-clause-retargeted
returns-clause-retargeted g c = edge-seen _ c.args.self.now c.self.view_is c.self.invariant c.args.place.user_op c.op.result.now (sym c.op.ensures) c.args.place.index c.args.place.def c.requires.place (get_or c.deref.result.now c.args.place.index 0) (ap (λ xs. get_or xs c.args.place.index 0) c.deref.ensures)
    c.rename.new.self c.rename.ensures.definitions c.edge_thread-thread.result c.args.other c.edge_thread-thread.ensures c.rename.ensures.renamed
