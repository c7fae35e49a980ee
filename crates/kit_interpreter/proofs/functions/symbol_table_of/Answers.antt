use Rattle.std.proofs.Common.{subst}
use Rattle.ir_symbols.specs.Collections.{TableEntries, KeepsTable}
use Rattle.kit_interpreter.specs.Lowering.{symbol_of, holds_table}
use Rattle.kit_interpreter.proofs.Tables.{made_table}
use Rattle.kit_interpreter.proofs.functions.symbol_table_of.Goals as goal

pub returns-in-Ok : goal.returns-in-Ok
returns-in-Ok c = made_table c.args.ctx.now.program c.args.outer c.make_symbol_table.new.self.tables.entries
    (subst (λ (es : TableEntries). KeepsTable symbol_of holds_table c.args.ctx.now.program c.args.outer es
    c.make_symbol_table.new.self.tables.entries) c.new-tables.ensures c.in-Ok.ensures.made)
