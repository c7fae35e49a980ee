use Rattle.std.proofs.Common.{IsSome, rules, subst}
use Rattle.std.specs.Prelude.{IfSome}
use Rattle.ir_program.specs.Program.{operation_at}
use Rattle.ir_program.specs.declared.handles.IRNode.TheVariants.{Operation as OperationNode}
use Rattle.ir_symbols.specs.Contents.{symbol_name}
use Rattle.ir_symbols.specs.Tables.{IsTableOf}
use Rattle.ir_walks.specs.Turns.{IsKnown}
use Rattle.symbol_ifaces.specs.Symbols.{holds_table, used_symbol}
use Rattle.symbol_ifaces.specs.Tables.{IsServed, Looks, Offers}
use Rattle.symbol_ifaces.proofs.Visited.{ended_by}
use Rattle.symbol_ifaces.proofs.used_symbols.find_unknown.Goals as goal

pub returns : goal.returns
returns g c =
    let name = symbol_name g.D.DialectTables.op_has g.D.BuiltinDialect.held_identifier in
    let holds = holds_table g.D.DialectTables.op_has in
    let uses = used_symbol g.D.DialectTables.op_has g.D.BuiltinDialect.held_identifier g.D.BuiltinDialect.key_of_callee g.D.BuiltinDialect.place_of_callee c.args.ctx.now.program in
    let p = c.args.ctx.now.program in
    let table = c.args.table in
    ended_by name holds uses p table (subst (λ z. IsKnown z (OperationNode table)) c.program.ensures c.know_inside.ensures) _ _ _ _ _
    c.walk_symbol_table-end.ensures
    (λ s op r f' s' k. record {
      looks = λ live.
          let offered : Offers (IsSome (operation_at p table) × IsSome (operation_at p op) × IfSome c.args.symbols.now (IsTableOf name holds p table))
          (Looks (IsServed name holds uses p table) k.shown.now op k.left.now) = search rules in
          subst (λ z. Looks (IsServed name holds uses p table) z op s') k.shows
          (subst (λ z. Looks (IsServed name holds uses p table) k.shown.now op z) k.leaves
          (offered.given (c.requires.live, live, c.requires.symbols)));
      goes_on = search rules;
      same = search rules;
    })
