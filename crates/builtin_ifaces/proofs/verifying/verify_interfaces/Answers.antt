use Rattle.std.proofs.Common.{◌≡◌, true, List, slice_get, sym, ap, subst, ◌∙◌}
use Rattle.ir_names.specs.declared.interfaces.OpInterface.{OpInterface}
use Rattle.builtin_ifaces.specs.Interfaces.{AllRules}
use Rattle.builtin_tables.specs.Listed.{lists_interface}
use Rattle.builtin_ifaces.proofs.ListedLemmas.{listed_at}
use Rattle.builtin_ifaces.proofs.verifying.verify_interfaces.Goals as goal

pub returns-in-Ok-clause-exact : goal.returns-in-Ok-clause-exact
returns-in-Ok-clause-exact g c =
    let A = λ (is : List OpInterface). AllRules g.D.BuiltinDialect.held_identifier g.D.BuiltinDialect.held_type g.D.BuiltinDialect.held_sizes g.D.BuiltinDialect.segment_count g.D.BuiltinDialect.layout g.D.BuiltinDialect.key_of_callee_type (λ key. g.D.DialectTables.type_text (g.D.DialectTables.kind_of_type key)) g.D.DialectTables.type_has c.args.ctx.now.program c.args.ctx.now.types c.args.op is in
    rw c.kind.ensures (subst A c.interfaces.ensures c.in-Ok.ensures)

pub returns-in-Err-clause-exact : goal.returns-in-Err-clause-exact
returns-in-Err-clause-exact g c =
    let A = λ (is : List OpInterface). AllRules g.D.BuiltinDialect.held_identifier g.D.BuiltinDialect.held_type g.D.BuiltinDialect.held_sizes g.D.BuiltinDialect.segment_count g.D.BuiltinDialect.layout g.D.BuiltinDialect.key_of_callee_type (λ key. g.D.DialectTables.type_text (g.D.DialectTables.kind_of_type key)) g.D.DialectTables.type_has c.args.ctx.now.program c.args.ctx.now.types c.args.op is in
    λ meets. c.in-Err.ensures (subst A (sym c.interfaces.ensures) (rw c.kind.ensures at meets))

pub returns-in-Ok-clause-implemented : goal.returns-in-Ok-clause-implemented
returns-in-Ok-clause-implemented g c =
    let kind = c.kind.result in
    let table = g.D.BuiltinDialect.table kind in
    rw c.kind.ensures (λ i plain has.
    let listed : lists_interface table i ≡ true = sym (g.met.D.BuiltinDialect.listed kind i) ∙ has in
    let at = listed_at table i plain listed in
    c.in-Ok.ensures at.0 i (ap (λ interfaces. slice_get interfaces at.0) c.interfaces.ensures ∙ at.1))
