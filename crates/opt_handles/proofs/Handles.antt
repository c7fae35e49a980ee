-- What becomes of handles: nothing, and one pass after the other.
use Rattle.std.proofs.Common.{◌≡◌, inl, inr, ⊎_elim, Option, Some, None, IsSome, option_map, ap}
use Rattle.ir_program.specs.Edits.{KeepsErased}
use Rattle.ir_program.specs.Erased.{IsGone}
use Rattle.ir_program.specs.Lists.{IsLiveNode}
use Rattle.ir_program.specs.Program.{Program, operation_of, block_of, region_of, operation_at, block_at, region_at}
use Rattle.ir_program.specs.declared.handles.IRNode.{IRNode}
use Rattle.ir_program.specs.declared.handles.IRNode.TheVariants.{Operation as OperationNode, Region as RegionNode, BasicBlock as BlockNode}
use Rattle.ir_program.specs.declared.handles.Operation.{Operation}
use Rattle.ir_program.specs.declared.handles.Ptr.{Ptr}
use Rattle.opt_handles.specs.Handles.{KeepsHandles}

nothing : {X : Type 0} (o : Option X) → o ≡ None → IsSome o → ⊥
nothing None e h = cc
nothing (Some x) e h = cc

module _ {O B : Type 0} where
  -- what is erased is not there
  pub not_both : (c : Program O B) (e : IRNode) → IsGone c e → IsLiveNode c e → ⊥
  not_both c (OperationNode p) gone live = nothing (operation_at c p) gone.0 live
  not_both c (BlockNode b) gone live = nothing (block_at c b) gone.0 live
  not_both c (RegionNode r) gone live = nothing (region_at c r) gone.0 live

  -- what is erased stays so
  pub stays_gone : (old new : Program O B) → KeepsErased old new → (e : IRNode) → IsGone old e → IsGone new e
  stays_gone old new erased (OperationNode p) g = let s = erased.operations p.key g.1 in (ap (option_map (operation_of new p)) s.gone, s)
  stays_gone old new erased (BlockNode b) g = let s = erased.blocks b.key g.1 in (ap (option_map (block_of new b)) s.gone, s)
  stays_gone old new erased (RegionNode r) g = let s = erased.regions r.key g.1 in (ap (option_map (λ u. region_of new r)) s.gone, s)

  pub erased_none : (c : Program O B) → KeepsErased c c
  erased_none c = record { operations = λ q s. s; blocks = λ q s. s; regions = λ q s. s }

  pub erased_twice : (old mid new : Program O B) → KeepsErased old mid → KeepsErased mid new → KeepsErased old new
  erased_twice old mid new a b = record {
    operations = λ q s. b.operations q (a.operations q s);
    blocks = λ q s. b.blocks q (a.blocks q s);
    regions = λ q s. b.regions q (a.regions q s);
  }

  pub handles_same : (c : Program O B) (op : Ptr Operation) → KeepsHandles c c op
  handles_same c op = record { erased = erased_none c; inside = λ e i. inl i }

  pub handles_twice : (old mid new : Program O B) (op : Ptr Operation) → KeepsHandles old mid op → KeepsHandles mid new op → KeepsHandles old new op
  handles_twice old mid new op a b = record {
    erased = erased_twice old mid new a.erased b.erased;
    inside = λ e i. ⊎_elim (b.inside e) (λ g. inr (stays_gone mid new b.erased e g)) (a.inside e i);
  }

  pub fresh_handles : (old new : Program O B) (op : Ptr Operation) → KeepsHandles old new op
      → (e : IRNode) → IsLiveNode new e → IsGone old e → ⊥
  fresh_handles old new op keeps e live gone = not_both new e (stays_gone old new keeps.erased e gone) live
