-- Operations that are branches, and others.
use Rattle.std.proofs.Common.{◌≡◌, ◌∙◌, ℕ, Bool, false, true≢false, Option, Some, None, refl, sym, ap}
use Rattle.std.specs.Prelude.{option_map}
use Rattle.ir_program.specs.Lent.{payload_at}
use Rattle.ir_program.specs.Program.{Program, OperationView, operation_at}
use Rattle.ir_program.specs.declared.handles.Operation.{Operation}
use Rattle.ir_program.specs.declared.handles.Ptr.{Ptr}
use Rattle.ir_trees.specs.Stands.{in_program}
use Rattle.opt_inside.specs.Numbered.{Numbers}
use Rattle.opt_trees.specs.Dialect.{Dialect}
use Rattle.opt_dce.specs.liveness.Problems.{Forwards, IsBranch}
use Rattle.opt_dialect.proofs.Removing.{payload_is}

-- what forwards an operand is a branch
pub branch_by : {O B A : Type 0} (d : Dialect (in_program O B) A) (c : Program O B) (n : Numbers) (p : Ptr Operation)
    (k x : ℕ) → Forwards d c n p k x → IsBranch d c p
branch_by d c n p k x f view there =
    let is_there = f.there in
    let branch = f.branch in
    cc (is_there, there, branch)

-- an operation is no branch whose payload says so
pub not_branch : {O B A : Type 0} (d : Dialect (in_program O B) A) (c : Program O B) (p : Ptr Operation) (w : O)
    (is : Bool) → payload_at c p ≡ Some w → is ≡ d.is_branch w → is ≡ false → IsBranch d c p → ⊥
not_branch {O} d c p w is has same plain branch = go (operation_at c p) refl
  where
    go : (o : Option (OperationView O)) → operation_at c p ≡ o → ⊥
    go None e =
        let none = ap (option_map (λ (v : OperationView O). v.payload)) e in
        absurd (cc (none, has))
    go (Some v) e =
        let content = payload_is d c p v w has e in
        true≢false (sym (branch v e) ∙ (ap d.is_branch content ∙ (sym same ∙ plain)))
