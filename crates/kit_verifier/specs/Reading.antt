-- What a program says of an operation: its kind, and what its attributes have.
use Rattle.std.specs.Prelude.{ℕ, List, Option, option_and_then, option_map}
use Rattle.ir_base.specs.declared.types.TypeHandle.{TypeHandle}
use Rattle.ir_names.specs.Dictionary.{attribute_at}
use Rattle.ir_program.specs.Lent.{payload_at}
use Rattle.ir_program.specs.Program.{Program}
use Rattle.ir_program.specs.declared.handles.Ptr.{Ptr}
use Rattle.ir_program.specs.declared.handles.Operation.{Operation}
use Rattle.kit_ops.specs.declared.attributes.keys.TheConstants.{SYMBOL_NAME}
use Rattle.kit_ops.specs.declared.kinds.KitOp.{KitOp}
use Rattle.kit_checks.specs.Words.{identifier_in, type_in}
use Rattle.kit_checks.specs.World.{World}

module _ {O B : Type 0} (w : World O B) (c : Program O B) where
  -- the kind of the operation
  abbrev pub kind_at : Ptr Operation → Option KitOp
  kind_at op = option_map w.kind (payload_at c op)

  -- the text of the identifier under a key of its attributes, the type there, where there is one
  abbrev pub text_under : List ℕ → Ptr Operation → Option (List ℕ)
  text_under key op =
      option_and_then (λ o. option_and_then identifier_in (attribute_at (w.attributes o) key)) (payload_at c op)

  abbrev pub type_under : List ℕ → Ptr Operation → Option TypeHandle
  type_under key op =
      option_and_then (λ o. option_and_then type_in (attribute_at (w.attributes o) key)) (payload_at c op)

  -- its name as a symbol
  abbrev pub name_at : Ptr Operation → Option (List ℕ)
  name_at op = text_under SYMBOL_NAME.now op
