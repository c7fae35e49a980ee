use Rattle.std.proofs.Common.{◌≡◌, false, Option, None, Some, is_some, refl, sym, subst, ◌∙◌, rules}
use Rattle.std.proofs.lemmas.Result.{IfErr-weaker}
use Rattle.ir_symbols.specs.Collections.{table_in, IsNotKeptBy, KeepsTable, kept, made}
use Rattle.ir_symbols.specs.Tables.{IsNoTableBy, IsTableOf}
use Rattle.ir_symbols.specs.declared.errors.SymbolTableErr.TheVariants.{Memory}
use Rattle.ir_symbols.specs.declared.tables.SymbolTable.{SymbolTable}
use Rattle.ir_symbols.proofs.Collected.{shares_no_name}
use Rattle.ir_symbols.proofs.collections.SymbolTableCollection.make_symbol_table.Goals as goal

none_so : (o : Option SymbolTable) → is_some o ≡ false → o ≡ None
none_so None h = refl
none_so (Some t) h = cc

pub returns-then-contains_key-clause-made : goal.returns-then-contains_key-clause-made
returns-then-contains_key-clause-made g c = kept (sym c.contains_key.ensures ∙ c.if-contains_key.true)

pub returns-clause-made : goal.returns-clause-made
returns-clause-made g c =
    let none : table_in c.args.self.now.tables.entries c.args.op ≡ None = none_so _ (sym c.contains_key.ensures ∙ c.if-contains_key.false) in
    subst (KeepsTable g.O.SymbolPayload.name_in g.O.SymbolPayload.holds_table c.args.ctx.now.program c.args.op c.args.self.now.tables.entries) (sym c.in_ok-put.ensures.ok) (made none c.in_ok-table.table c.in_ok-table.ensures.made)

pub returns-in_err-table-clause-refused : goal.returns-in_err-table-clause-refused
returns-in_err-table-clause-refused g c =
    let none : table_in c.args.self.now.tables.entries c.args.op ≡ None = none_so _ (sym c.contains_key.ensures ∙ c.if-contains_key.false) in
    IfErr-weaker c.from_residual.result (IsNoTableBy g.O.SymbolPayload.name_in g.O.SymbolPayload.holds_table c.args.ctx.now.program c.args.op) _ (λ e h. record { absent = none; no_table = h }) (search rules)

pub returns-in_err-put-clause-refused : goal.returns-in_err-put-clause-refused
returns-in_err-put-clause-refused g c =
    let none : table_in c.args.self.now.tables.entries c.args.op ≡ None = none_so _ (sym c.contains_key.ensures ∙ c.if-contains_key.false) in
    let is : IsTableOf g.O.SymbolPayload.name_in g.O.SymbolPayload.holds_table c.args.ctx.now.program c.args.op c.in_ok-table.table = c.in_ok-table.ensures.made in
    let refused : IsNotKeptBy g.O.SymbolPayload.name_in g.O.SymbolPayload.holds_table c.args.ctx.now.program c.args.op c.args.self.now.tables.entries Memory
    = record { absent = none; no_table = (is.is_table, shares_no_name g.O.SymbolPayload.name_in g.O.SymbolPayload.holds_table c.args.ctx.now.program c.args.op c.in_ok-table.table is) } in
    IfErr-weaker c.from_residual-in_err-put.result (λ e. e ≡ Memory) _
    (λ e h. subst (IsNotKeptBy g.O.SymbolPayload.name_in g.O.SymbolPayload.holds_table c.args.ctx.now.program c.args.op c.args.self.now.tables.entries) (sym h) refused) (search rules)
