use Rattle.std.proofs.Common.{◌∙◌}
use Rattle.indexmap.proofs.CallerLemmas.{insert_entry-new}
use Rattle.ir_symbols.specs.Collections.{same_handle}
use Rattle.ir_symbols.proofs.collections.SymbolTableCollection.put.Goals as goal

-- a new key goes last
pub returns-in-Ok-clause-ok : goal.returns-in-Ok-clause-ok
returns-in-Ok-clause-ok c = c.in-Ok.ensures.entries ∙ insert_entry-new same_handle c.args.self.now.tables c.args.op c.args.table c.requires
