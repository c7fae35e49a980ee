use Rattle.std.proofs.Common.{arith, ap, ◌∙◌}
use Rattle.ir_scopes.specs.Scopes.{is_isolated_kind}
use Rattle.ir_scopes.proofs.Marks.{few_kinds, few_operations, mark_more, marks_all}
use Rattle.text_dialect.specs.formats.Isolated.{is_isolated}
use Rattle.text_dialect.proofs.formats.scopes.isolated_kinds.Goals as goal

pub loop-number-preserved : goal.loop-number-preserved
loop-number-preserved g c =
    let isolated = is_isolated g.D.DialectTables.op_has in
    let marked = c.op_implements.ensures ∙ ap (is_isolated_kind isolated) c.in-Some.ensures.kind in
    let numbered = g.met.D.TextDialect.operations in
    mark_more _ _ _ isolated numbered c.loop-number.number _ _ _ c.loop-number.invariant marked
    c.in_ok-push.ensures.items

pub returns-in_default : goal.returns-in_default
returns-in_default g c =
    let isolated = is_isolated g.D.DialectTables.op_has in
    let numbered = g.met.D.TextDialect.operations in
    let k = c.loop-number.number in
    let few = few_kinds _ _ _ isolated numbered k c.in_default.ensures.kind in
    marks_all _ _ _ isolated numbered k _ few c.loop-number.invariant

pub returns : goal.returns
returns g c =
    let isolated = is_isolated g.D.DialectTables.op_has in
    let few = few_operations g.D.TextDialect.formats g.met.D.TextDialect.few in
    let numbered = g.met.D.TextDialect.operations in
    let k = c.loop-number.number in
    marks_all _ _ _ isolated numbered k _ (omega (arith, few, c.loop-number-test.false)) c.loop-number.invariant
