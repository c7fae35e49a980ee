-- Handles are kept where some decisions are carried out: decided branches are erased, and all else stays where it was.
use Rattle.std.proofs.Common.{◌≡◌, ◌⊎◌, inl, inr, ⊎_elim, ℕ, List, [], map, Option, Some, None, IsSome, option_map, unwrap_or, slice_get, refl, sym, ap, ◌∙◌, subst}
use Rattle.std.proofs.lemmas.Option.{slice_get-map}
use Rattle.ir_program.specs.Erased.{IsGone}
use Rattle.ir_program.specs.Lists.{operations_in, blocks_in, regions_in, StandsInBlock, StandsInRegion, StandsInOperation, StandsInside, itself, in_block, in_region, in_operation}
use Rattle.ir_program.specs.Program.{Program, OperationView, BlockView, RegionView, operation_at, block_at}
use Rattle.ir_program.specs.declared.handles.IRNode.{IRNode}
use Rattle.ir_program.specs.declared.handles.IRNode.TheVariants.{Operation as OperationNode, BasicBlock as BlockNode, Region as RegionNode}
use Rattle.ir_program.specs.declared.handles.Ptr.{Ptr}
use Rattle.ir_program.specs.declared.handles.Operation.{Operation}
use Rattle.ir_program.specs.declared.handles.Region.{Region}
use Rattle.ir_program.specs.declared.handles.BasicBlock.{BasicBlock}
use Rattle.ir_trees.specs.Searched.{Lists}
use Rattle.ir_trees.specs.Stands.{in_program}
use Rattle.opt_trees.specs.Dialect.{Dialect}
use Rattle.opt_handles.specs.Handles.{KeepsHandles}
use Rattle.opt_decide.specs.Phase.{IsUndecided, HasDecided, CarriesOutPart}
use Rattle.opt_decide.specs.Planned.{AreDecisions, AreSomeDecisions}
use Rattle.opt_decide.specs.declared.plan.Decision.{Decision}
use Rattle.opt_decide.proofs.Carried.{among_or_not, bare_branch}
use Rattle.opt_decide.proofs.Folded.{something}

there_if : {X Y : Type 0} (f : X → Y) (o : Option X) → IsSome o → IsSome (option_map f o)
there_if f None h = cc
there_if f (Some x) h = refl

none_listed : {X : Type 0} (xs : List X) (k : ℕ) (x : X) → xs ≡ [] → slice_get xs k ≡ Some x → ⊥
none_listed xs k x e h = let n : None ≡ Some x = ap (λ ys. slice_get ys k) (sym e) ∙ h in cc

module _ {O B A : Type 0} (d : Dialect (in_program O B) A) (old new : Program O B) (op : Ptr Operation) (ds : List Decision) (are : AreSomeDecisions d old op ds) (has : HasDecided d old new ds) where
  operations_now : (b : Ptr BasicBlock) → operations_in new b ≡ map has.names (operations_in old b)
  operations_now b = ap (λ o. unwrap_or (option_map (λ (v : BlockView B). v.operations) o) []) (has.blocks b) ∙ of_block (block_at old b)
    where
      of_block : (o : Option (BlockView B)) → unwrap_or (option_map (λ (v : BlockView B). v.operations) (option_map (λ (l : BlockView B). record l { operations = map has.names l.operations }) o)) []
          ≡ map has.names (unwrap_or (option_map (λ (v : BlockView B). v.operations) o) [])
      of_block None = refl
      of_block (Some l) = refl

  block_live : (b : Ptr BasicBlock) → IsSome (block_at old b) → IsSome (block_at new b)
  block_live b live = subst IsSome (sym (has.blocks b)) (there_if (λ (l : BlockView B). record l { operations = map has.names l.operations }) (block_at old b) live)

  -- an operation that isn't decided is as it was
  same_there : (p : Ptr Operation) → IsUndecided ds p → IsSome (operation_at old p) → operation_at new p ≡ operation_at old p
  same_there p none live = let v = something (operation_at old p) live in has.others p v.0 v.1 none ∙ sym v.1

  -- and no decided one has regions
  holds_none : (r : Ptr Region) (p : Ptr Operation) → StandsInOperation old r p → IsUndecided ds p
  holds_none r p s x l e =
      let bare = bare_branch d old x.op x.edge (are.sound x l) in
      let empty : regions_in old p ≡ [] = ap (regions_in old) (sym e) ∙ ap (λ o. unwrap_or (option_map (λ (v : OperationView O). v.regions) o) []) bare.there ∙ bare.regions in
      none_listed (regions_in old p) s.index r empty s.here

  still_in_block : (p : Ptr Operation) (b : Ptr BasicBlock) → IsUndecided ds p → StandsInBlock old p b → StandsInBlock new p b
  still_in_block p b none s = record {
    operation = subst IsSome (sym (same_there p none s.operation)) s.operation;
    block = block_live b s.block;
    index = s.index;
    here = ap (λ xs. slice_get xs s.index) (operations_now b) ∙ slice_get-map has.names (operations_in old b) s.index ∙ ap (option_map has.names) s.here ∙ ap Some (has.same p none);
  }

  still_in_region : (b : Ptr BasicBlock) (r : Ptr Region) → StandsInRegion old b r → StandsInRegion new b r
  still_in_region b r s = record {
    block = block_live b s.block;
    region = subst IsSome (sym (has.regions r)) s.region;
    index = s.index;
    here = ap (λ o. slice_get (unwrap_or (option_map (λ (v : RegionView). v.blocks) o) []) s.index) (has.regions r) ∙ s.here;
  }

  still_in_operation : (r : Ptr Region) (p : Ptr Operation) → StandsInOperation old r p → StandsInOperation new r p
  still_in_operation r p s =
      let same = same_there p (holds_none r p s) s.operation in
      record {
        region = subst IsSome (sym (has.regions r)) s.region;
        operation = subst IsSome (sym same) s.operation;
        index = s.index;
        here = ap (λ o. slice_get (unwrap_or (option_map (λ (v : OperationView O). v.regions) o) []) s.index) same ∙ s.here;
      }

  abbrev Stays : IRNode → Type 0
  Stays (OperationNode p) = IsUndecided ds p → StandsInside new (OperationNode op) (OperationNode p)
  Stays (BlockNode b) = StandsInside new (OperationNode op) (BlockNode b)
  Stays (RegionNode r) = StandsInside new (OperationNode op) (RegionNode r)

  -- what is inside the root stays inside it, but for decided branches
  stays : (e : IRNode) → StandsInside old (OperationNode op) e → Stays e
  stays _ itself = λ none. itself
  stays _ (in_block p b s i) = λ none. in_block p b (still_in_block p b none s) (stays (BlockNode b) i)
  stays _ (in_region b r s i) = in_region b r (still_in_region b r s) (stays (RegionNode r) i)
  stays _ (in_operation r p s i) = in_operation r p (still_in_operation r p s) (stays (OperationNode p) i (holds_none r p s))

  inside_or_gone : (e : IRNode) → StandsInside old (OperationNode op) e → StandsInside new (OperationNode op) e ⊎ IsGone new e
  inside_or_gone (BlockNode b) i = inl (stays (BlockNode b) i)
  inside_or_gone (RegionNode r) i = inl (stays (RegionNode r) i)
  inside_or_gone (OperationNode p) i = ⊎_elim
      (λ (h : (x : Decision) × Lists ds x × (x.op ≡ p)). inr (subst (λ z. IsGone new (OperationNode z)) h.2 (has.done h.0 h.1).gone))
      (λ none. inl (stays (OperationNode p) i none))
      (among_or_not ds p)

  pub some_handles : KeepsHandles old new op
  some_handles = record { erased = has.erased; inside = inside_or_gone }

module _ {O B A : Type 0} (d : Dialect (in_program O B) A) (old new : Program O B) (op : Ptr Operation) where
  pub part_handles : CarriesOutPart d old new op → KeepsHandles old new op
  part_handles part = some_handles d old new op part.decisions part.are part.decided

  pub all_handles : (ds : List Decision) → AreDecisions d old op ds → HasDecided d old new ds → KeepsHandles old new op
  all_handles ds are has = some_handles d old new op ds (record { below = are.below; sound = are.sound; once = are.once }) has
