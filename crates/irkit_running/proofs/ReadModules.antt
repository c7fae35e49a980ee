-- Where all that has come since a context was seen is inside an operation, nothing outside it names what is inside.
use Rattle.std.proofs.Common.{◌≡◌, ⊎_elim, ℕ, List, [], ◌∷◌, Option, Some, None, option_map, unwrap_or, slice_get, refl, sym}
use Rattle.std.proofs.Common.{ap, subst}
use Rattle.ir_program.specs.Erased.{definer_node}
use Rattle.ir_program.specs.Lists.{StandsInside}
use Rattle.ir_program.specs.Program.{OperationView, operation_at}
use Rattle.ir_program.specs.declared.handles.DefiningEntity.TheVariants.{Op as ByOp, Block as ByBlock}
use Rattle.ir_program.specs.declared.handles.IRNode.{IRNode}
use Rattle.ir_program.specs.declared.handles.IRNode.TheVariants.{Operation as OperationNode, BasicBlock as BlockNode}
use Rattle.ir_program.specs.declared.handles.Operation.{Operation}
use Rattle.ir_program.specs.declared.handles.Ptr.{Ptr}
use Rattle.ir_program.specs.declared.handles.Value.{Value}
use Rattle.kit.specs.Context.{KitContext}
use Rattle.opt_inside.specs.Occurring.{IsDefinedBelow}
use Rattle.opt_inside.proofs.Added.{HasValues, definer_of}
use Rattle.opt_inside.proofs.Among.{results_are, arguments_are}
use Rattle.opt_trees.specs.Occurrences.{Has}
use Rattle.text_frames.specs.building.Inside.{IsInsideSome}
use Rattle.text_frames.proofs.BuildingLemmas.Discarded.{used_since}
use Rattle.text_frames.proofs.BuildingLemmas.Insides.{one_some, some_one}
use Rattle.text_frames.proofs.BuildingLemmas.Stood.{HasLists, seen_stands, stands_seen}
use Rattle.text_dialect.specs.Seen.{seen, seen_operation}
use Rattle.text_frames.specs.Raised.{HoldsAllNew}
use Rattle.kit.specs.Meaning.{KitOperation}
use Rattle.kit_ruled_passes.specs.Entering.{IsEnteredNowhere}
use Rattle.kit_ruled_views.specs.Functions.{IsSelfContained}
use Rattle.irkit_running.specs.Known.{KitSeen}

-- what is in a row of an operation is in that of one that is there
in_row : {Y : Type 0} (f : OperationView KitOperation → List Y) (o : Option (OperationView KitOperation)) (k : ℕ) (y : Y)
    → slice_get (unwrap_or (option_map f o) []) k ≡ Some y
    → (x : OperationView KitOperation) × (o ≡ Some x) × (slice_get (f x) k ≡ Some y)
in_row f None k y e = cc
in_row f (Some x) k y e = (x, refl, e)

module _ (s : KitContext) (root : Ptr Operation) (lists : HasLists s.program) (values : HasValues s.program)
    (start : KitSeen) (new : HoldsAllNew start (seen s) (OperationNode root ∷ [])) where
  inside_some : (e : IRNode) → StandsInside s.program (OperationNode root) e
      → IsInsideSome (seen s) (OperationNode root ∷ []) e
  inside_some e i = some_one (seen s) (OperationNode root) e (stands_seen s (OperationNode root) e i)

  stands_inside : (e : IRNode) → IsInsideSome (seen s) (OperationNode root ∷ []) e
      → StandsInside s.program (OperationNode root) e
  stands_inside e i = seen_stands s lists (OperationNode root) e (one_some (seen s) (OperationNode root) e i)

  pub entered_nowhere : IsEnteredNowhere s root
  entered_nowhere b below entered =
      let m = in_row (λ (x : OperationView KitOperation). x.successors) (operation_at s.program entered.0) entered.2.0 b
      entered.2.1 in
      let used = used_since start (seen s) (OperationNode root ∷ []) new.came in
      entered.1 (stands_inside (OperationNode entered.0) (used.blocks entered.0 (seen_operation m.0) entered.2.0 b
      (ap (option_map seen_operation) m.1) m.2 (inside_some (BlockNode b) below)))

  definer_inside : (v : Value) → IsDefinedBelow s.program root v
      → StandsInside s.program (OperationNode root) (definer_node v.definer)
  definer_inside v d = ⊎_elim
      (λ g.
      let by : v.definer ≡ ByOp g.0 = definer_of s.program values (ByOp g.0) v
      (subst (Has v) (results_are s.program g.0 g.1 g.3) g.4) in
      subst (λ e. StandsInside s.program (OperationNode root) (definer_node e)) (sym by) g.2.inside)
      (λ g.
      let by : v.definer ≡ ByBlock g.0 = definer_of s.program values (ByBlock g.0) v
      (subst (Has v) (arguments_are s.program g.0 g.1 g.3) g.4) in
      subst (λ e. StandsInside s.program (OperationNode root) (definer_node e)) (sym by) g.2)
      d

  pub self_contained : IsSelfContained s root
  self_contained v below taken =
      let m = in_row (λ (x : OperationView KitOperation). x.operands) (operation_at s.program taken.0) taken.2.0 v
      taken.2.1 in
      let used = used_since start (seen s) (OperationNode root ∷ []) new.came in
      taken.1 (stands_inside (OperationNode taken.0) (used.values taken.0 (seen_operation m.0) taken.2.0 v
      (ap (option_map seen_operation) m.1) m.2 (inside_some (definer_node v.definer) (definer_inside v below))))
