-- An operation stands for one tree alone.
use Rattle.std.proofs.Common.{◌≡◌, Option, Some, sym, ap, ◌∙◌, refl, subst}
use Rattle.ir_program.specs.Program.{Program, OperationView, BlockView, RegionView, operation_at, block_at, region_at}
use Rattle.ir_program.specs.declared.handles.Ptr.{Ptr}
use Rattle.ir_program.specs.declared.handles.Operation.{Operation}
use Rattle.ir_trees.specs.Trees.{Sort, Operations, Blocks, Regions, Tree, operation, block, region, Root}
use Rattle.ir_trees.specs.Stands.{by_handle, in_program, Handles, head_of, label_of, AreTree, no_operations, no_blocks, no_regions, first_operation, first_block, first_region, StandsFor}

same_some : {X : Type 0} (o : Option X) (x y : X) → o ≡ Some x → o ≡ Some y → x ≡ y
same_some o x y h g = let e : Some x ≡ Some y = sym h ∙ g in cc

module _ {O B : Type 0} (c : Program O B) where
  pub one_list : (s : Sort) (hs : Handles s) (t u : Tree by_handle (in_program O B) s) → AreTree c s hs t → AreTree c s hs u → t ≡ u
  one_list _ _ _ _ no_operations no_operations = refl
  one_list _ _ _ _ no_blocks no_blocks = refl
  one_list _ _ _ _ no_regions no_regions = refl
  one_list _ _ _ _ (first_operation p ps v rs rest there inner more) (first_operation _ _ w rs2 rest2 there2 inner2 more2) =
      let e : v ≡ w = same_some (operation_at c p) v w there there2 in
      let a : rs ≡ rs2 = one_list Regions v.regions rs rs2 inner (subst (λ (x : OperationView O). AreTree c Regions x.regions rs2) (sym e) inner2) in
      let b : rest ≡ rest2 = one_list Operations ps rest rest2 more more2 in
      λ i. operation (head_of p (e i)) (a i) (b i)
  one_list _ _ _ _ (first_block p ps v ops rest there inner more) (first_block _ _ w ops2 rest2 there2 inner2 more2) =
      let e : v ≡ w = same_some (block_at c p) v w there there2 in
      let a : ops ≡ ops2 = one_list Operations v.operations ops ops2 inner (subst (λ (x : BlockView B). AreTree c Operations x.operations ops2) (sym e) inner2) in
      let b : rest ≡ rest2 = one_list Blocks ps rest rest2 more more2 in
      λ i. block (label_of p (e i)) (a i) (b i)
  one_list _ _ _ _ (first_region p ps v bs rest there inner more) (first_region _ _ w bs2 rest2 there2 inner2 more2) =
      let e : v ≡ w = same_some (region_at c p) v w there there2 in
      let a : bs ≡ bs2 = one_list Blocks v.blocks bs bs2 inner (subst (λ (x : RegionView). AreTree c Blocks x.blocks bs2) (sym e) inner2) in
      let b : rest ≡ rest2 = one_list Regions ps rest rest2 more more2 in
      λ i. region (a i) (b i)

  pub one_tree : (p : Ptr Operation) (t u : Root by_handle (in_program O B)) → StandsFor c p t → StandsFor c p u → t ≡ u
  one_tree p t u h g =
      let e : h.view ≡ g.view = same_some (operation_at c p) h.view g.view h.there g.there in
      let a : t.regions ≡ u.regions = one_list Regions h.view.regions t.regions u.regions h.regions (subst (λ (x : OperationView O). AreTree c Regions x.regions u.regions) (sym e) g.regions) in
      let b : t.head ≡ u.head = h.head ∙ ap (head_of p) e ∙ sym g.head in
      λ i. record { head = b i; regions = a i }
