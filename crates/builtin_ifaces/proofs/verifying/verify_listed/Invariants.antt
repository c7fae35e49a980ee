use Rattle.std.proofs.Common.{◌≡◌, ℕ, ◌<◌, Some, slice_get}
use Rattle.ir_names.specs.declared.interfaces.OpInterface.{OpInterface}
use Rattle.builtin_ifaces.specs.Interfaces.{Rule}
use Rattle.builtin_ifaces.proofs.verifying.verify_listed.Given as goal

-- the operation is as those interfaces want it that were seen
abbrev pub invariant-loop-interface : goal.invariant-loop-interface
invariant-loop-interface g l = (k : ℕ) → k < l.interface-index → (i : OpInterface) → slice_get l.interfaces k ≡ Some i → Rule g.D.BuiltinDialect.held_identifier g.D.BuiltinDialect.held_type g.D.BuiltinDialect.held_sizes g.D.BuiltinDialect.segment_count g.D.BuiltinDialect.layout g.D.BuiltinDialect.key_of_callee_type (λ key. g.D.DialectTables.type_text (g.D.DialectTables.kind_of_type key)) g.D.DialectTables.type_has l.ctx.program l.ctx.types l.op i
