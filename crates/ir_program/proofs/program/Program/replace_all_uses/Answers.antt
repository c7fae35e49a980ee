use Rattle.ir_program.proofs.used.Consequences.{value-unused, value-counts}
use Rattle.ir_program.proofs.used.Renaming.{replaced-sound, replaced-seen}
use Rattle.ir_program.proofs.program.Program.replace_all_uses.Goals as goal

pub invariant_of-self : goal.invariant_of-self
invariant_of-self g c = replaced-sound _ c.args.self.now c.self.view_is c.self.invariant c.replace_all.new.self c.replace_all.ensures.definitions c.know_named.ensures c.thread-from.result c.thread-to.result c.args.value c.args.other c.thread-from.ensures c.thread-to.ensures c.replace_all.ensures.renamed

pub returns-clause-replaced : goal.returns-clause-replaced
returns-clause-replaced g c = replaced-seen _ c.args.self.now c.self.view_is c.self.invariant c.replace_all.new.self c.replace_all.ensures.definitions c.know_named.ensures c.thread-from.result c.thread-to.result c.args.value c.args.other c.thread-from.ensures c.thread-to.ensures c.replace_all.ensures.renamed

pub returns-clause-unused : goal.returns-clause-unused
returns-clause-unused g c = value-unused c.args.self.now _ c.args.value c.args.other (returns-clause-replaced g c)

pub returns-clause-count : goal.returns-clause-count
returns-clause-count g c = value-counts c.args.self.now _ c.args.value c.args.other (returns-clause-replaced g c)
