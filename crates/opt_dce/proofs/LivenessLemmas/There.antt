-- What is numbered is there.
use Rattle.std.proofs.Common.{◌≡◌, ⊎_elim, ℕ, Some, None, refl, sym, ap, subst, ◌∙◌}
use Rattle.std.specs.Prelude.{Option, IsSome, option_map}
use Rattle.std.specs.Prelude.{slice_get}
use Rattle.ir_program.specs.Program.{Program, TypedValue, IsLiveValue, operation_at, block_at, value_in, type_in, type_at}
use Rattle.ir_program.specs.Definers.{values_at}
use Rattle.ir_program.specs.declared.handles.IRNode.TheVariants.{Operation as OperationNode, BasicBlock as BlockNode}
use Rattle.ir_program.specs.declared.handles.DefiningEntity.{DefiningEntity}
use Rattle.ir_program.specs.declared.handles.DefiningEntity.TheVariants.{Op as ByOp, Block as ByBlock}
use Rattle.ir_program.specs.declared.handles.Ptr.{Ptr}
use Rattle.ir_program.specs.declared.handles.Operation.{Operation}
use Rattle.ir_program.specs.declared.handles.BasicBlock.{BasicBlock}
use Rattle.ir_program.specs.declared.handles.Value.{Value}
use Rattle.opt_inside.specs.Occurring.{IsBelowRoot, IsBlockBelow, IsDefinedBelow}
use Rattle.opt_dce.proofs.LivenessLemmas.Ground.{none_or, has_value_in, results_here, arguments_here}
use Rattle.opt_dce.proofs.LivenessLemmas.Within.{block_around}
use Rattle.opt_dce.proofs.LivenessLemmas.Users.{region_around}

some_is : {X : Type 0} (o : Option X) (x : X) → o ≡ Some x → IsSome o
some_is o x h = subst IsSome (sym h) refl

module _ {O B : Type 0} (c : Program O B) (op : Ptr Operation) where
  pub inside_live : (p : Ptr Operation) → IsBelowRoot c op p → IsSome (operation_at c p)
  inside_live p below = (block_around c (OperationNode op) (OperationNode p) p below.inside refl (λ e. let same : p ≡ op = cc in below.other same)).1.operation

  pub block_live : (b : Ptr BasicBlock) → IsBlockBelow c op b → IsSome (block_at c b)
  block_live b below = (region_around c op (BlockNode b) b below refl).1.block

  module _ (typed : (e : DefiningEntity) (k : ℕ) (v : Value) → value_in (values_at c e) k ≡ Some v → type_at c v ≡ type_in (values_at c e) k) where
    typed_live : (e : DefiningEntity) (k : ℕ) (v : Value) → value_in (values_at c e) k ≡ Some v → IsLiveValue c v
    typed_live e k v h = ⊎_elim
        (λ none. let gone : value_in (values_at c e) k ≡ None = ap (λ o. option_map (λ (t : TypedValue). t.value) o) none in absurd (cc (gone, h)))
        (λ t. some_is (type_at c v) t.0.ty (typed e k v h ∙ ap (λ o. option_map (λ (z : TypedValue). z.ty) o) t.1))
        (none_or (slice_get (values_at c e) k))

    pub defined_live : (v : Value) → IsDefinedBelow c op v → IsLiveValue c v
    defined_live v h = ⊎_elim
        (λ w. let k = has_value_in w.1.results v w.4 in typed_live (ByOp w.0) k.0 v (ap (λ ts. value_in ts k.0) (results_here c w.0 w.1 w.3) ∙ k.1))
        (λ w. let k = has_value_in w.1.arguments v w.4 in typed_live (ByBlock w.0) k.0 v (ap (λ ts. value_in ts k.0) (arguments_here c w.0 w.1 w.3) ∙ k.1))
        h

  module _ (definer : (e : DefiningEntity) (k : ℕ) (v : Value) → value_in (values_at c e) k ≡ Some v → v.definer ≡ e) where
    pub definer_below : (v : Value) (b : Ptr BasicBlock) → IsDefinedBelow c op v → v.definer ≡ ByBlock b → IsBlockBelow c op b
    definer_below v b h by = ⊎_elim
        (λ w. let k = has_value_in w.1.results v w.4 in
        let e : v.definer ≡ ByOp w.0 = definer (ByOp w.0) k.0 v (ap (λ ts. value_in ts k.0) (results_here c w.0 w.1 w.3) ∙ k.1) in
        absurd (cc (e, by)))
        (λ w. let k = has_value_in w.1.arguments v w.4 in
        let e : v.definer ≡ ByBlock w.0 = definer (ByBlock w.0) k.0 v (ap (λ ts. value_in ts k.0) (arguments_here c w.0 w.1 w.3) ∙ k.1) in
        let same : w.0 ≡ b = cc (e, by) in
        subst (IsBlockBelow c op) same w.2)
        h
