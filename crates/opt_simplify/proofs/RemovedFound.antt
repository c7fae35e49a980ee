-- What is known of the blocks that are found to be unreached.
use Rattle.std.proofs.Common.{◌≡◌, ◌≢◌, ⊎_elim, ℕ, zero, suc, ◌+◌, Bool, true, List, [], ◌∷◌, Option, None, Some, IsSome, option_map, refl, sym, ap, subst}
use Rattle.std.specs.Prelude.{◌↔◌}
use Rattle.std.proofs.lemmas.Option.{none-some}
use Rattle.ir_program.specs.Definers.{values_at}
use Rattle.ir_program.specs.Erased.{definer_node}
use Rattle.ir_program.specs.Lists.{StandsInside}
use Rattle.ir_program.specs.Program.{Program, TypedValue, IsLiveValue, type_at, value_in, type_in, results_at, arguments_at}
use Rattle.ir_program.specs.declared.handles.DefiningEntity.{DefiningEntity}
use Rattle.ir_program.specs.declared.handles.DefiningEntity.TheVariants.{Op as ByOp, Block as ByBlock}
use Rattle.ir_program.specs.declared.handles.IRNode.TheVariants.{Operation as OperationNode, BasicBlock as BlockNode}
use Rattle.ir_program.specs.declared.handles.Ptr.{Ptr}
use Rattle.ir_program.specs.declared.handles.Operation.{Operation}
use Rattle.ir_program.specs.declared.handles.BasicBlock.{BasicBlock}
use Rattle.ir_program.specs.declared.handles.Value.{Value}
use Rattle.ir_trees.specs.Searched.{Lists, AreDistinct}
use Rattle.ir_trees.specs.Stands.{by_handle, in_program, ProgramTree, StandsFor}
use Rattle.ir_trees.proofs.Members.{has_at, at_has}
use Rattle.opt_trees.specs.Dialect.{Dialect}
use Rattle.opt_trees.specs.Occurrences.{Has}
use Rattle.opt_trees.specs.Simplify.{StartingRegions, IsUnreached}
use Rattle.opt_inside.specs.Numbered.{Numbers, NumbersInside, values_in}
use Rattle.opt_inside.specs.Occurring.{IsBlockBelow}
use Rattle.opt_inside.proofs.Added.{HasValues, value_at, at_value}
use Rattle.opt_inside.proofs.Among.{results_are, arguments_are}
use Rattle.opt_inside.proofs.Around.{HasLists, inside_both, is_root}
use Rattle.opt_simplify.specs.Refusals.{AreUnreached}
use Rattle.opt_simplify.specs.Removed.{is_listed, IsWithinPickedBlocks}
use Rattle.opt_inside.specs.reach.Edges.{HasLocalEdgesFrom}
use Rattle.opt_inside.specs.reach.Fates.{HasReachTest}
use Rattle.opt_inside.specs.reach.Starts.{IsStartIn}
use Rattle.opt_inside.specs.declared.reach.starts.Start.{Start}
use Rattle.opt_simplify.proofs.RemovedAmong.{among_has, has_among}
use Rattle.opt_simplify.proofs.RemovedApart.{picked_below, picked_there, picked_apart, edges_within}
use Rattle.opt_inside.proofs.ReachLemmas.Occurs.{Occurs}

module _ {O B A : Type 0} (d : Dialect (in_program O B) A) (c : Program O B) (lists : HasLists c) (op : Ptr Operation) (n : Numbers) (numbered : NumbersInside c op n)
    (start : Start) (edges : HasLocalEdgesFrom d.is_terminator c start) (place : StartingRegions by_handle) (is_start : IsStartIn c start place) (t : ProgramTree O B) (stands : StandsFor c op t) (occurs : (u : ProgramTree O B) → StandsFor c op u → Occurs c op u) (row : List (Ptr BasicBlock))
    (unreached : (p : StartingRegions by_handle) → IsStartIn c start p → (u : ProgramTree O B) → StandsFor c op u → (b : Ptr BasicBlock) → Lists row b ↔ IsUnreached d p u b) where
  listed : (p : StartingRegions by_handle) → IsStartIn c start p → (u : ProgramTree O B) → StandsFor c op u → (b : Ptr BasicBlock) → (is_listed row b ≡ true) ↔ IsUnreached d p u b
  listed p is u s b = (
    λ h. (unreached p is u s b).0 (has_at row b (among_has row b h)),
    λ h. let l = (unreached p is u s b).1 h in has_among row b (at_has row l.0 b l.1),
  )

  pub are_unreached : AreDistinct row → ((u : ProgramTree O B) → StandsFor c op u → HasReachTest u) → AreUnreached d c op start row
  are_unreached once reached = record {
    unreached = listed;
    reached = reached;
    once = once;
    there = picked_there d place c lists op n numbered t (occurs t stands) (is_listed row) (listed place is_start t stands);
    below = picked_below d place c lists op n numbered t (occurs t stands) (is_listed row) (listed place is_start t stands);
    apart = picked_apart d place c lists op n numbered t (occurs t stands) (is_listed row) (listed place is_start t stands) start is_start;
    edges = edges_within d place c lists op n numbered t (occurs t stands) (is_listed row) (listed place is_start t stands) start is_start d.is_terminator edges;
  }

something : {X : Type 0} (o : Option X) → IsSome o → (x : X) × (o ≡ Some x)
something (Some x) h = (x, refl)
something None h = cc

type_there : (ts : List TypedValue) (k : ℕ) (v : Value) → value_in ts k ≡ Some v → IsSome (type_in ts k)
type_there [] k v h = absurd (none-some v h)
type_there (t ∷ ts) zero v h = refl
type_there (t ∷ ts) (suc k) v h = type_there ts k v h

module _ {O B : Type 0} (c : Program O B) (lists : HasLists c) (op : Ptr Operation) (n : Numbers) (numbered : NumbersInside c op n) (values : HasValues c) where
  -- values with a number are there
  live_at : (e : DefiningEntity) (v : Value) → Has v (values_in (values_at c e)) → IsLiveValue c v
  live_at e v has =
      let k = has_at (values_in (values_at c e)) v has in
      let at = at_value (values_at c e) k.0 v k.1 in
      subst IsSome (sym (values.typed e k.0 v at)) (type_there (values_at c e) k.0 v at)

  pub numbered_live : (v : Value) → Lists n.values v → IsLiveValue c v
  numbered_live v l = ⊎_elim
      (λ g. live_at (ByOp g.0) v (subst (Has v) (results_are c g.0 g.1 g.3) g.4))
      (λ g. live_at (ByBlock g.0) v (subst (Has v) (arguments_are c g.0 g.1 g.3) g.4))
      ((numbered.values v).0 l)

  -- values that are defined below the root have a number
  pub live_numbered : (picks : Ptr BasicBlock → Bool) → ((b : Ptr BasicBlock) → picks b ≡ true → IsBlockBelow c op b) → (v : Value) → IsLiveValue c v → IsWithinPickedBlocks c picks (definer_node v.definer) → Lists n.values v
  live_numbered picks below v live w =
      let ty = something (type_at c v) live in
      let s = values.stands v ty.0 ty.1 in
      by_definer v.definer s.index (ap (option_map (λ (x : TypedValue). x.value)) s.stands) w
    where
      by_definer : (e : DefiningEntity) (k : ℕ) → value_in (values_at c e) k ≡ Some v → IsWithinPickedBlocks c picks (definer_node e) → Lists n.values v
      by_definer (ByOp p) k at h =
          let inside = inside_both c (OperationNode op) (BlockNode h.0) (OperationNode p) (below h.0 h.1) h.2 in
          let other : p ≢ op = λ e. (let i : StandsInside c (BlockNode h.0) (OperationNode op) = subst (λ q. StandsInside c (BlockNode h.0) (OperationNode q)) e h.2 in
          let f : BlockNode h.0 ≡ OperationNode op = is_root c lists op (BlockNode h.0) (below h.0 h.1) i in cc) in
          let j = numbered.results_in_order p (record { inside = inside; other = other }) in
          (j.0 + k, j.1 k v (value_at (results_at c p) k v at))
      by_definer (ByBlock b) k at h =
          let j = numbered.arguments_in_order b (inside_both c (OperationNode op) (BlockNode h.0) (BlockNode b) (below h.0 h.1) h.2) in
          (j.0 + k, j.1 k v (value_at (arguments_at c b) k v at))
