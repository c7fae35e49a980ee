-- Handles of types and keys of saved values, by the places that they stand for.
use Rattle.std.proofs.Common.{◌≡◌}
use Rattle.ir_base.specs.declared.types.TypeHandle.{TypeHandle}
use Rattle.ir_types.specs.declared.saved.SavedKey.{SavedKey}

-- handles with one number are one
pub one_handle : (x y : TypeHandle) → x.number ≡ y.number → x ≡ y
one_handle x y e = λ j. record { number = e j }

-- and so are keys of saved values
pub one_saved_key : (x y : SavedKey) → x.number ≡ y.number → x ≡ y
one_saved_key x y e = λ j. record { number = e j }
