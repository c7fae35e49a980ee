-- The edges under a place stay in their regions exactly where they do at each operation and each block there.
use Rattle.std.proofs.Common.{Bool}
use Rattle.ir_program.specs.Program.{Program, operation_at}
use Rattle.ir_program.specs.Lists.{operations_in}
use Rattle.ir_program.specs.Rows.{successors_at}
use Rattle.ir_program.specs.declared.handles.IRNode.{IRNode}
use Rattle.ir_program.specs.declared.handles.IRNode.TheVariants.{Operation as OperationNode, Region as RegionNode, BasicBlock as BlockNode}
use Rattle.ir_program.specs.declared.handles.Ptr.{Ptr}
use Rattle.ir_program.specs.declared.handles.Operation.{Operation}
use Rattle.ir_program.specs.declared.handles.BasicBlock.{BasicBlock}
use Rattle.ir_trees.specs.Searched.{Lists}
use Rattle.opt_inside.proofs.Around.{HasLists}
use Rattle.opt_inside.specs.reach.Edges.{IsNodeUnder, IsUnder, HasLocalEdgesFrom}
use Rattle.opt_inside.specs.declared.reach.starts.Start.{Start}
use Rattle.opt_inside.proofs.ReachLemmas.Under.{under_block, under_home, beside_under}
use Rattle.opt_inside.specs.forwarding.Local.{IsLocalEdge, HasLocalEdgesAt}
use Rattle.opt_inside.proofs.ForwardingLemmas.Staying.{something, at_end, stays_beside, leaves_last, is_terminator_of}

module _ {O B : Type 0} (is_terminator : O → Bool) (c : Program O B) (start : Start) where
  edge_local : HasLocalEdgesFrom is_terminator c start → (p : Ptr Operation) (s : Ptr BasicBlock) → IsUnder c start p → Lists (successors_at c p) s → IsLocalEdge is_terminator c p s
  edge_local h p s u edge =
      let b = under_home c start p u in
      let v = something (operation_at c p) b.2.operation in
      record {
        block = b.0;
        in_block = b.2;
        last = at_end (operations_in c b.0) b.2.index (h.last p s b.0 b.2.index u edge b.2.here);
        view = v.0;
        there = v.1;
        terminator = h.terminators p s v.0 u edge v.1;
        siblings = record { region = b.1; first = b.3; second = h.leaving p s b.0 b.1 u edge b.2 b.3 };
      }

  -- from all together to each
  pub each_local : HasLocalEdgesFrom is_terminator c start → (e : IRNode) → IsNodeUnder c start e → HasLocalEdgesAt is_terminator c e
  each_local h (OperationNode p) u = λ s k edge. edge_local h p s u (k, edge)
  each_local h (BlockNode s) u = λ p k edge. edge_local h p s (h.entering p s (k, edge) u) (k, edge)
  each_local h (RegionNode r) u = tt

  -- from each to all together
  pub local_from_each : HasLists c → ((e : IRNode) → IsNodeUnder c start e → HasLocalEdgesAt is_terminator c e) → HasLocalEdgesFrom is_terminator c start
  local_from_each lists each = record {
    leaving = λ p s b r u edge in_b in_r. stays_beside is_terminator c lists p s b r (each (OperationNode p) u s edge.0 edge.1) in_b in_r;
    entering = λ p s edge u.
        let l = each (BlockNode s) u p edge.0 edge.1 in
        under_block c start p l.block l.in_block (beside_under c start lists s l.block l.siblings.region l.siblings.second l.siblings.first u);
    last = λ p s b k u edge here. leaves_last is_terminator c lists p s b k (each (OperationNode p) u s edge.0 edge.1) here;
    terminators = λ p s v u edge there. is_terminator_of is_terminator c lists p s v (each (OperationNode p) u s edge.0 edge.1) there;
  }

  -- where nothing is under the place
  pub local_of_none : ((e : IRNode) → IsNodeUnder c start e → ⊥) → HasLocalEdgesFrom is_terminator c start
  local_of_none none = record {
    leaving = λ p s b r u. absurd (none (OperationNode p) u);
    entering = λ p s edge u. absurd (none (BlockNode s) u);
    last = λ p s b k u. absurd (none (OperationNode p) u);
    terminators = λ p s v u. absurd (none (OperationNode p) u);
  }
