use Rattle.std.proofs.Common.{Some, None, refl}
use Rattle.std.proofs.lemmas.Result.{IfErr-weaker, IfOk-weaker, on_ok_weaker}
use Rattle.ir_symbols.specs.Collections.{nearest, no_table}
use Rattle.ir_symbols.proofs.collections.SymbolTableCollection.lookup_symbol_in_nearest_table.Goals as goal

pub returns-in-Some-clause-found : goal.returns-in-Some-clause-found
returns-in-Some-clause-found g c = IfOk-weaker c.lookup_symbol_in_table.result _ _
    (λ found h in_step. record { nearest = Some c.in-Some.table; is_nearest = c.in-Some.ensures.nearest; is_found = h in_step })
    c.lookup_symbol_in_table.ensures.found

pub returns-in-Some-clause-tables : goal.returns-in-Some-clause-tables
returns-in-Some-clause-tables g c = on_ok_weaker c.lookup_symbol_in_table.result (λ h. nearest c.in-Some.table c.in-Some.ensures.nearest h) c.lookup_symbol_in_table.ensures.tables

pub returns-in-Some-clause-refused : goal.returns-in-Some-clause-refused
returns-in-Some-clause-refused g c = IfErr-weaker c.lookup_symbol_in_table.result _ _
    (λ e h. record { op = c.in-Some.table; is_nearest = c.in-Some.ensures.nearest; not_kept = h })
    c.lookup_symbol_in_table.ensures.refused

pub returns-in-None-clause-found : goal.returns-in-None-clause-found
returns-in-None-clause-found g c = λ in_step. record { nearest = None; is_nearest = c.in-None.ensures.nearest; is_found = refl }

pub returns-in-None-clause-tables : goal.returns-in-None-clause-tables
returns-in-None-clause-tables g c = no_table
