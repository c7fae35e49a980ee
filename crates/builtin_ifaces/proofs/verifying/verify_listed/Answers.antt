use Rattle.std.proofs.Common.{◌≡◌, ◌∙◌, Some, slice_get, sym, subst, arith, below_more}
use Rattle.std.proofs.lemmas.Option.{same_Some, slice_get-get_or}
use Rattle.ir_names.specs.declared.interfaces.OpInterface.{OpInterface}
use Rattle.builtin_ifaces.specs.Interfaces.{Rule}
use Rattle.builtin_ifaces.proofs.Within.{listed_within}
use Rattle.builtin_ifaces.proofs.verifying.verify_listed.Goals as goal

pub loop-interface-preserved : goal.loop-interface-preserved
loop-interface-preserved g c =
    let xs = c.args.interfaces.now in
    let n = c.loop-interface.interface-index in
    let R = λ (i : OpInterface). Rule g.D.BuiltinDialect.held_identifier g.D.BuiltinDialect.held_type g.D.BuiltinDialect.held_sizes g.D.BuiltinDialect.segment_count g.D.BuiltinDialect.layout g.D.BuiltinDialect.key_of_callee_type (λ key. g.D.DialectTables.type_text (g.D.DialectTables.kind_of_type key)) g.D.DialectTables.type_has c.args.ctx.now.program c.args.ctx.now.types c.args.op i in
    below_more (λ k. (i : OpInterface) → slice_get xs k ≡ Some i → R i) n c.loop-interface.invariant
    (λ i at. subst R (same_Some _ i (sym (slice_get-get_or xs n _ c.loop-interface-test.true) ∙ at)) c.in-Ok.ensures)

pub returns-in-Err : goal.returns-in-Err
returns-in-Err g c =
    let xs = c.args.interfaces.now in
    let n = c.loop-interface.interface-index in
    λ all. c.in-Err.ensures (all n _ (slice_get-get_or xs n _ c.loop-interface-test.true))

pub returns : goal.returns
returns g c =
    let xs = c.args.interfaces.now in
    λ k i at. c.loop-interface.invariant k (omega (arith, listed_within xs k i at, c.loop-interface-test.false)) i at
