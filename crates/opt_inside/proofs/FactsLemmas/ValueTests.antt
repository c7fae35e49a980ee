-- Values compare equal exactly where they are the same.
use Rattle.std.proofs.Common.{◌≡◌, ℕ, Bool, refl}
use Rattle.ir_program.specs.Replacing.{same_value}
use Rattle.ir_program.specs.declared.handles.Value.{Value}
use Rattle.ir_program.specs.declared.handles.DefiningEntity.{DefiningEntity}
use Rattle.ir_program.specs.declared.handles.DefiningEntity.TheVariants.{Op as ByOp, Block as ByBlock}
use Rattle.ir_program.specs.contracts.handles.ValuePartialEq.TheImpl.{eq-value}

abbrev value_of : DefiningEntity → ℕ → Value
value_of e m = record { definer = e; number = m }

tests_agree : (a b : DefiningEntity) (m n : ℕ) → eq-value.it (value_of a m) (value_of b n) ≡ same_value (value_of a m) (value_of b n)
tests_agree (ByOp p) (ByOp q) m n = refl
tests_agree (ByOp p) (ByBlock q) m n = refl
tests_agree (ByBlock p) (ByOp q) m n = refl
tests_agree (ByBlock p) (ByBlock q) m n = refl

pub value_test : (v : Value) → ◌≡◌ {A = Value → Bool} (λ w. eq-value.it v w) (λ w. same_value v w)
value_test v = λ i w. tests_agree v.definer w.definer v.number w.number i
