use Rattle.ir_program.proofs.used.Consequences.{block-unused, block-counts}
use Rattle.ir_program.proofs.used.Renaming.{retargeted-sound, retargeted-seen}
use Rattle.ir_program.proofs.program.Program.retarget_all.Goals as goal

pub invariant_of-self : goal.invariant_of-self
invariant_of-self g c = retargeted-sound _ c.args.self.now c.self.view_is c.self.invariant c.replace_all.new.self c.replace_all.ensures.definitions c.know_named.ensures c.edge_thread-from.result c.edge_thread-to.result c.args.block c.args.other c.edge_thread-from.ensures c.edge_thread-to.ensures c.replace_all.ensures.renamed

pub returns-clause-retargeted : goal.returns-clause-retargeted
returns-clause-retargeted g c = retargeted-seen _ c.args.self.now c.self.view_is c.self.invariant c.replace_all.new.self c.replace_all.ensures.definitions c.know_named.ensures c.edge_thread-from.result c.edge_thread-to.result c.args.block c.args.other c.edge_thread-from.ensures c.edge_thread-to.ensures c.replace_all.ensures.renamed

pub returns-clause-unused : goal.returns-clause-unused
returns-clause-unused g c = block-unused c.args.self.now _ c.args.block c.args.other (returns-clause-retargeted g c)

pub returns-clause-count : goal.returns-clause-count
returns-clause-count g c = block-counts c.args.self.now _ c.args.block c.args.other (returns-clause-retargeted g c)
