use Rattle.std.proofs.Common.{◌≡◌, map}
use Rattle.std.specs.List.{range_with_len}
use Rattle.ir_scopes.specs.Scopes.{isolated_at}
use Rattle.text_dialect.specs.formats.Isolated.{is_isolated}
use Rattle.text_dialect.proofs.formats.scopes.isolated_kinds.Given as goal

abbrev pub invariant-loop-number : goal.invariant-loop-number
invariant-loop-number g l =
    let isolated = isolated_at g.D.TextDialect.kind_at (is_isolated g.D.DialectTables.op_has) in
    l.isolated.items ≡ map isolated (range_with_len 0 l.number)
