use Rattle.std.proofs.Common.{◌≡◌, ℕ, ◌<◌, Some, slice_get}
use Rattle.ir_names.specs.declared.interfaces.OpInterface.{OpInterface}
use Rattle.interface_verifiers.specs.Summary.{DialectSummary}
use Rattle.interface_verifiers.specs.Wanted.{IsAsWantedBy}
use Rattle.interface_verifiers.proofs.interfaces.verify_listed.Given as goal

-- the operation is as those interfaces want it that were seen
abbrev pub invariant-loop-listed : goal.invariant-loop-listed
invariant-loop-listed g l =
    let d : DialectSummary g.row.D-OpKind.Denot g.row.D-Attr.Denot g.row.D-TypeKey.Denot = record {
      names = g.D.DialectTables.op_text;
      interfaces = g.D.BuiltinDialect.table;
      implements = g.D.DialectTables.op_has;
      segment_count = g.D.BuiltinDialect.segment_count;
      layout = g.D.BuiltinDialect.layout;
      callee_key = g.D.BuiltinDialect.key_of_callee;
      callee_place = g.D.BuiltinDialect.place_of_callee;
      callee_type_key = g.D.BuiltinDialect.key_of_callee_type;
      held_identifier = g.D.BuiltinDialect.held_identifier;
      held_type = g.D.BuiltinDialect.held_type;
      held_sizes = g.D.BuiltinDialect.held_sizes;
      type_of = g.D.DialectTables.type_of_attr;
      type_names = λ key. g.D.DialectTables.type_text (g.D.DialectTables.kind_of_type key);
      type_implements = g.D.DialectTables.type_has;
    } in
    (k : ℕ) → k < l.listed-index → (i : OpInterface) → slice_get l.interfaces k ≡ Some i → IsAsWantedBy d (g.R.RegionBranchVerifier.edges l.ctx) l.ctx.program l.ctx.types l.op i
