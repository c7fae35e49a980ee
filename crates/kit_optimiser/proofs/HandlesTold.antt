-- Handles can be told apart.
use Rattle.std.proofs.Common.{◌≡◌, Bool, true, false, ◌&&◌, refl, ap}
use Rattle.ir_program.specs.declared.handles.DefiningEntity.{DefiningEntity}
use Rattle.ir_program.specs.declared.handles.DefiningEntity.TheVariants.{Op as ByOp, Block as ByBlock}
use Rattle.ir_program.specs.declared.handles.Operation.{Operation}
use Rattle.ir_program.specs.declared.handles.Ptr.{Ptr}
use Rattle.ir_program.specs.declared.handles.Value.{Value}
use Rattle.ir_program.specs.Replacing.{same_value, same_block}
use Rattle.ir_trees.specs.ListRewrites.{same_operation}
use Rattle.ir_trees.specs.Stands.{by_handle}
use Rattle.kit_ruled_views.specs.ProgramLaws.{AreTold}
use Rattle.kit_ruled_views.proofs.HandleSameness.{values_apart, blocks_apart}
use Rattle.kit_views.specs.FlatView.{IsSameness}

-- the first result of an operation
abbrev first_result : Ptr Operation → Value
first_result p = record { definer = ByOp p; number = 0 }

-- the operation that defines a value, or else this one
abbrev by_entity : Ptr Operation → DefiningEntity → Ptr Operation
by_entity p (ByOp q) = q
by_entity p (ByBlock b) = p

without_true : (b : Bool) → (b && true) ≡ true → b ≡ true
without_true true e = refl
without_true false e = absurd (cc e)

pub operations_apart : IsSameness same_operation
operations_apart = record {
  true_same = λ p q e. ap (λ (v : Value). by_entity p v.definer)
      (values_apart.true_same (first_result p) (first_result q) (ap (λ b. b && true) e));
  same_true = λ p. without_true (same_operation p p) (values_apart.same_true (first_result p));
}

-- of handles it is told whether they are the same
abbrev pub handles_told : AreTold by_handle
handles_told = record {
  operation = same_operation;
  operations = operations_apart;
  block = same_block;
  blocks = blocks_apart;
  value = same_value;
  values = values_apart;
}
