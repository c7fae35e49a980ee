use Rattle.std.proofs.Common.{rules}
use Rattle.symbol_ifaces.proofs.symbol_tables.SymbolTableInterface.verify.Goals as goal

pub returns-in-Some-clause-exact : goal.returns-in-Some-clause-exact
returns-in-Some-clause-exact g c = λ consistent.
    let unknown = c.in-Some.ensures in
    let symbols = consistent (search (rules, c.if-not-op_implements.ensures, c.kind.ensures, c.op_implements.ensures)) in
    unknown.unknown (symbols.used c.in-Some.user unknown.of_table)
