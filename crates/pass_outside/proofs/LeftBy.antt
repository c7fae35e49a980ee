-- What leaves all that isn't inside an operation: operands there change only where they are defined below it, and nothing
-- is brought inside or comes outside.
use Rattle.std.proofs.Common.{◌≡◌, ◌⊎◌, ⊎_elim, List, [], map, Option, Some, IsSome, option_map, unwrap_or, slice_get, sym, ap, ◌∙◌}
use Rattle.std.proofs.lemmas.List.{length-map, map-id}
use Rattle.std.proofs.lemmas.Option.{slice_get-map}
use Rattle.ir_program.specs.Lists.{StandsInside}
use Rattle.ir_program.specs.Program.{Program, OperationView, operation_at, block_at, region_at}
use Rattle.ir_program.specs.declared.handles.BasicBlock.{BasicBlock}
use Rattle.ir_program.specs.declared.handles.IRNode.{IRNode}
use Rattle.ir_program.specs.declared.handles.IRNode.TheVariants.{Operation as OperationNode, BasicBlock as BlockNode}
use Rattle.ir_program.specs.declared.handles.IRNode.TheVariants.{Region as RegionNode}
use Rattle.ir_program.specs.declared.handles.Operation.{Operation}
use Rattle.ir_program.specs.declared.handles.Ptr.{Ptr}
use Rattle.ir_program.specs.declared.handles.Value.{Value}
use Rattle.opt_inside.specs.Occurring.{IsDefinedBelow}
use Rattle.opt_inside.specs.Outside.{AddsNoneOutside, ChangesOperandsOutside, KeepsOutside}
use Rattle.pass_outside.specs.Outside.{IsLiveOutside, KeepsOtherOperands, LeavesOutside}
use Rattle.pass_outside.specs.Sound.{IsSound}
use Rattle.pass_outside.proofs.Outside.{some_of, is_some, region_out_of}

module _ {O B : Type 0} (old new : Program O B) (op : Ptr Operation) where
  -- what is inside the operation and was there before was inside it
  pub record BringsNoOldInside : Type 0 where
    pub operations : (p : Ptr Operation) → IsSome (operation_at old p)
        → StandsInside new (OperationNode op) (OperationNode p) → StandsInside old (OperationNode op) (OperationNode p)
    pub blocks : (b : Ptr BasicBlock) → IsSome (block_at old b) → StandsInside new (OperationNode op) (BlockNode b)
        → StandsInside old (OperationNode op) (BlockNode b)

  module _ (was : IsSound old) (is : IsSound new) (live : IsSome (operation_at new op)) (f : Value → Value)
      (same : (v : Value) → (f v ≡ v) ⊎ IsDefinedBelow old op v) (changes : ChangesOperandsOutside old new op f)
      (inside : BringsNoOldInside) where
    other_kept : (vs : List Value) → KeepsOtherOperands old new op vs (map f vs)
    other_kept vs = record {
      count = length-map vs f;
      kept = λ k v here other. slice_get-map f vs k ∙ ap (option_map f) here
          ∙ ap Some (⊎_elim (λ (e : f v ≡ v). e) (λ below. absurd (other below)) (same v));
    }

    stays : (e : IRNode) → IsLiveOutside old op e → IsLiveOutside new op e
    stays (OperationNode p) out =
        let v = some_of (operation_at old p) out.0 in (
          is_some (operation_at new p) (record v.0 { operands = map f v.0.operands }) (changes.operations p v.0 out.1 v.1),
          λ i. out.1 (inside.operations p out.0 i),
        )
    stays (BlockNode b) out =
        let v = some_of (block_at old b) out.0 in
        (is_some (block_at new b) v.0 (changes.blocks b v.0 out.1 v.1), λ i. out.1 (inside.blocks b out.0 i))
    stays (RegionNode r) out =
        let p = out.0 in
        let v = some_of (operation_at old p) out.1.operation in
        let regions = λ (o : Option (OperationView O)). unwrap_or (option_map (λ (x : OperationView O). x.regions) o) [] in
        let lists : regions (operation_at new p) ≡ regions (operation_at old p) =
        ap regions (changes.operations p v.0 out.2 v.1) ∙ sym (ap regions v.1) in (
          p,
          is.regions p out.1.index r (ap (λ l. slice_get l out.1.index) lists ∙ out.1.here),
          λ i. out.2 (inside.operations p out.1.operation i),
        )

    pub left_by : AddsNoneOutside old new op → LeavesOutside old new op
    left_by none_come = record {
      sound = is;
      live = live;
      operations = λ p v out there. (map f v.operands, changes.operations p v out there, other_kept v.operands);
      blocks = changes.blocks;
      regions = λ r out.
          let v = some_of (region_at old r) out.1.region in
          changes.regions r v.0 (region_out_of old was op r out) v.1 ∙ sym v.1;
      stays = stays;
      none_come = none_come;
    }

  -- where not even operands change
  pub kept_changes : KeepsOutside old new op → ChangesOperandsOutside old new op (λ v. v)
  kept_changes kept = record {
    operations = λ p v out there. kept.operations p v out there
        ∙ (let e = map-id v.operands in λ i. Some (record v { operands = sym e i }));
    blocks = kept.blocks;
    regions = kept.regions;
  }
