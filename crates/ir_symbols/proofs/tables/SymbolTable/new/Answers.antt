use Rattle.std.proofs.Common.{refl, subst, rules, tests}
use Rattle.ir_symbols.specs.Tables.{AreSymbolsOf}
use Rattle.ir_symbols.proofs.tables.SymbolTable.new.Goals as goal

pub returns-clause-made : goal.returns-clause-made
returns-clause-made g c = record {
  of_op = refl;
  is_table = search (rules, tests);
  of_body = search rules;
  agrees = subst (λ p. AreSymbolsOf g.O.SymbolPayload.name_in p c.in-Some.body c.in_ok-names.names) c.program-program.ensures c.in_ok-names.ensures.ok;
}
