use Rattle.std.proofs.Common.{subst, sym}
use Rattle.ir_symbols.specs.Collections.{AreInStep, looked_up, no_body}
use Rattle.ir_symbols.proofs.Collected.{found_in_kept, none_without_body, still_in_step}
use Rattle.ir_symbols.proofs.collections.SymbolTableCollection.lookup_symbol_in_table.Goals as goal

pub returns-then-lacks_body-clause-found : goal.returns-then-lacks_body-clause-found
returns-then-lacks_body-clause-found g c = λ in_step.
    none_without_body g.O.SymbolPayload.name_in g.O.SymbolPayload.holds_table c.args.ctx.now.program c.args.table c.args.name.now (c.lacks_body.ensures.lacks c.if-lacks_body.true)

pub returns-then-lacks_body-clause-tables : goal.returns-then-lacks_body-clause-tables
returns-then-lacks_body-clause-tables g c = no_body (c.lacks_body.ensures.lacks c.if-lacks_body.true)

pub returns-clause-found : goal.returns-clause-found
returns-clause-found g c = λ in_step.
    found_in_kept g.O.SymbolPayload.name_in g.O.SymbolPayload.holds_table c.args.ctx.now.program c.know_listed.ensures c.args.table c.args.self.now.tables.entries c.make_symbol_table.new.self.tables.entries
    c.in_ok-make_symbol_table.ensures.made in_step c.requires c.args.name.now c.entry.result c.entry.ensures

pub returns-clause-tables : goal.returns-clause-tables
returns-clause-tables g c = looked_up c.in_ok-make_symbol_table.ensures.made

pub returns-clause-in_step : goal.returns-clause-in_step
returns-clause-in_step g c =
    still_in_step g.O.SymbolPayload.name_in g.O.SymbolPayload.holds_table c.args.ctx.now.program c.args.table c.args.self.now.tables.entries c.make_symbol_table.new.self.tables.entries
    c.in_ok-make_symbol_table.ensures.made

pub returns-in_err-make_symbol_table-clause-in_step : goal.returns-in_err-make_symbol_table-clause-in_step
returns-in_err-make_symbol_table-clause-in_step g c = λ in_step.
    subst (λ es. AreInStep g.O.SymbolPayload.name_in g.O.SymbolPayload.holds_table c.args.ctx.now.program es) (sym c.in_err-make_symbol_table.ensures.same) in_step
