use Rattle.std.proofs.Common.{◌≡◌, ℕ, Some, slice_get, subst}
use Rattle.std.specs.Prelude.{IfSome}
use Rattle.ir_program.specs.Lists.{operations_in, StandsInBlock}
use Rattle.ir_symbols.proofs.Collected.{found_in_table}
use Rattle.ir_symbols.specs.Tables.{IsTableOf}
use Rattle.symbol_ifaces.proofs.KnownNames.{known_found}
use Rattle.symbol_ifaces.proofs.used_symbols.knows.Goals as goal

pub returns-in-Some : goal.returns-in-Some
returns-in-Some g c =
    let listed = subst (λ p. (block : _) (k : ℕ) (q : _) → slice_get (operations_in p block) k ≡ Some q → StandsInBlock p q block) c.program.ensures c.know_lists.ensures.operations in
    λ is. rw (c.is_some.ensures, c.lookup.ensures) (known_found g.O.SymbolPayload.name_in c.args.ctx.now.program c.args.table c.args.name.now _ (found_in_table g.O.SymbolPayload.name_in g.O.SymbolPayload.holds_table c.args.ctx.now.program listed c.args.table _ (subst (λ s. IfSome s (IsTableOf g.O.SymbolPayload.name_in g.O.SymbolPayload.holds_table c.args.ctx.now.program c.args.table)) c.in-Some.is is) c.args.name.now))

pub returns-in-None : goal.returns-in-None
returns-in-None g c = λ is. rw c.is_some-in-None.ensures (known_found g.O.SymbolPayload.name_in c.args.ctx.now.program c.args.table c.args.name.now c.scan.result c.scan.ensures)
