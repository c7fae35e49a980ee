use Rattle.ir_symbols.proofs.Collected.{shares_no_name}
use Rattle.symbol_ifaces.proofs.used_symbols.distinct_symbols.Goals as goal

pub returns-in-Ok-clause-distinct : goal.returns-in-Ok-clause-distinct
returns-in-Ok-clause-distinct g c = λ s. shares_no_name g.O.SymbolPayload.name_in g.O.SymbolPayload.holds_table c.args.ctx.now.program c.args.op _ c.in-Ok.ensures.made s
