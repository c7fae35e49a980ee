-- Each entity is inside an operation or isn't.
use Rattle.std.proofs.Common.{◌≡◌, ◌≢◌, ◌⊎◌, inl, inr, ⊎_elim, ℕ, zero, suc, List, [], ◌∷◌, Some, slice_get, sym, ap}
use Rattle.ir_program.specs.Lists.{StandsInside}
use Rattle.ir_program.specs.Preorder.{AreInside}
use Rattle.ir_program.specs.Program.{Program}
use Rattle.ir_program.specs.declared.handles.IRNode.{IRNode}
use Rattle.ir_program.specs.declared.handles.IRNode.TheVariants.{Operation as OperationNode, Region as RegionNode}
use Rattle.ir_program.specs.declared.handles.IRNode.TheVariants.{BasicBlock as BlockNode}
use Rattle.ir_program.specs.declared.handles.Operation.{Operation}
use Rattle.ir_program.specs.declared.handles.Ptr.{Ptr}
use Rattle.ir_program.proofs.made.Frames.{same_or_not}
use Rattle.ir_trees.proofs.Members.{Has, at_has}

-- two entities are the same or not
node_or_not : (e f : IRNode) → (e ≡ f) ⊎ (e ≢ f)
node_or_not (OperationNode p) (OperationNode q) = ⊎_elim
    (λ e. inl (ap OperationNode e))
    (λ ne. inr (λ h. let e : p ≡ q = cc in ne e))
    (same_or_not p q)
node_or_not (BlockNode p) (BlockNode q) = ⊎_elim
    (λ e. inl (ap BlockNode e))
    (λ ne. inr (λ h. let e : p ≡ q = cc in ne e))
    (same_or_not p q)
node_or_not (RegionNode p) (RegionNode q) = ⊎_elim
    (λ e. inl (ap RegionNode e))
    (λ ne. inr (λ h. let e : p ≡ q = cc in ne e))
    (same_or_not p q)
node_or_not (OperationNode p) (BlockNode q) = inr (λ h. cc)
node_or_not (OperationNode p) (RegionNode q) = inr (λ h. cc)
node_or_not (BlockNode p) (OperationNode q) = inr (λ h. cc)
node_or_not (BlockNode p) (RegionNode q) = inr (λ h. cc)
node_or_not (RegionNode p) (OperationNode q) = inr (λ h. cc)
node_or_not (RegionNode p) (BlockNode q) = inr (λ h. cc)

node_found : (e : IRNode) (es : List IRNode) → ((k : ℕ) × (slice_get es k ≡ Some e)) ⊎ (Has e es → ⊥)
node_found e [] = inr (λ h. h)
node_found e (x ∷ es) = ⊎_elim
    (λ (same : e ≡ x). inl (zero, ap Some (sym same)))
    (λ (ne : e ≢ x). ⊎_elim
    (λ (r : (k : ℕ) × (slice_get es k ≡ Some e)). inl (suc r.0, r.1))
    (λ none. inr (λ h. ⊎_elim ne none h)) (node_found e es))
    (node_or_not e x)

-- what is among the entities inside an operation is inside it, and nothing else is
pub decided_by : {O B : Type 0} (c : Program O B) (op : Ptr Operation) (es : List IRNode)
    → AreInside c (OperationNode op) es → (e : IRNode)
    → StandsInside c (OperationNode op) e ⊎ (StandsInside c (OperationNode op) e → ⊥)
decided_by c op es members e = ⊎_elim
    (λ (k : (k : ℕ) × (slice_get es k ≡ Some e)). inl (members.inside k.0 e k.1))
    (λ none. inr (λ i. let k = members.all e i in none (at_has es k.0 e k.1)))
    (node_found e es)
