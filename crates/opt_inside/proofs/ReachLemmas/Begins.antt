-- Where looking begins, by places and by regions of the program.
use Rattle.std.proofs.Common.{◌≡◌, ◌≢◌, inl, ⊎_elim, ℕ, Bool, true, false, Option, None, Some, slice_get, option_map, unwrap_or, refl, sym, ap, ◌∙◌, subst}
use Rattle.std.specs.Prelude.{◌↔◌, [], ◌∷◌}
use Rattle.std.proofs.lemmas.Option.{none-some, same_Some}
use Rattle.ir_program.specs.Lists.{StandsInBlock, StandsInOperation, operations_in, regions_in}
use Rattle.ir_program.specs.Program.{Program, OperationView, operation_at}
use Rattle.ir_program.specs.Replacing.{same_block}
use Rattle.ir_program.specs.declared.handles.Ptr.{Ptr}
use Rattle.ir_program.specs.declared.handles.Operation.{Operation as AnOperation}
use Rattle.ir_program.specs.declared.handles.Region.{Region as ARegion}
use Rattle.ir_program.specs.declared.handles.BasicBlock.{BasicBlock}
use Rattle.ir_program.proofs.made.Frames.{same_or_not}
use Rattle.ir_trees.proofs.HandleTests.{block_yes, block_no}
use Rattle.ir_trees.specs.Stands.{by_handle}
use Rattle.opt_trees.specs.Simplify.{StartingRegions, OfOperations, OfRegion, BeginsAt}
use Rattle.opt_inside.proofs.Around.{HasLists}
use Rattle.opt_inside.specs.reach.Starts.{IsStartIn, BeginsAtRegion}
use Rattle.opt_inside.specs.declared.reach.starts.Start.{Start}
use Rattle.opt_inside.specs.declared.reach.starts.Start.TheVariants.{Operation, Block, Region}
use Rattle.opt_inside.proofs.ReachLemmas.Members.{has_lists, lists_has}

-- looking begins at a region of the place exactly where it begins at this region in the program
pub begins_exactly : {O B : Type 0} (c : Program O B) (lists : HasLists c) (start : Start) (p : StartingRegions by_handle) → IsStartIn c start p
    → (q : Ptr AnOperation) (i : ℕ) (r : Ptr ARegion) → slice_get (regions_in c q) i ≡ Some r → BeginsAt p q i ↔ BeginsAtRegion c start q r
begins_exactly c lists (Operation op) p is q i r here = subst (λ z. BeginsAt z q i ↔ (q ≡ op)) (sym is) (
  λ h. ⊎_elim (λ (e : q ≡ op). e) (λ none. absurd none) h,
  λ e. inl e,
)
begins_exactly c lists (Block b) p is q i r here = subst (λ z. BeginsAt z q i ↔ StandsInBlock c q b) (sym is) (
  λ h. let l = has_lists (operations_in c b) q h in lists.operations b l.0 q l.1,
  λ s. lists_has (operations_in c b) q s.index s.here,
)
begins_exactly {O} c lists (Region first) p is q i r here =
    let at : slice_get (regions_in c is.0) is.1 ≡ Some first = ap (λ o. slice_get (unwrap_or (option_map (λ (v : OperationView O). v.regions) o) []) is.1) is.3 ∙ is.4 in
    subst (λ z. BeginsAt z q i ↔ (r ≡ first)) (sym is.5) (
      λ h. same_Some r first (sym here ∙ (λ j. slice_get (regions_in c (h.0 j)) (h.1 j)) ∙ at),
      λ e. lists.regions_once r q is.0 i is.1 here (at ∙ ap Some (sym e)),
    )

-- what the test of two blocks says
pub tested : (p q : Ptr BasicBlock) (is : Bool) → is ≡ same_block p q → (is ≡ true) ↔ (p ≡ q)
tested p q is says = (
  λ h. ⊎_elim (λ e. e) (λ (ne : p ≢ q). let f : true ≡ false = sym h ∙ says ∙ block_no p q ne in cc) (same_or_not p q),
  λ e. says ∙ block_yes p q e,
)

-- there is a place for each start, but for a region of no operation
module _ {O B : Type 0} (c : Program O B) (start : Start) where
  pub starts_at_operation : (op : Ptr AnOperation) → start ≡ Operation op → (p : StartingRegions by_handle) × IsStartIn c start p
  starts_at_operation op e = (OfOperations (op ∷ []), subst (λ s. IsStartIn c s (OfOperations (op ∷ []))) (sym e) refl)

  pub starts_at_block : (b : Ptr BasicBlock) → start ≡ Block b → (p : StartingRegions by_handle) × IsStartIn c start p
  starts_at_block b e = (OfOperations (operations_in c b), subst (λ s. IsStartIn c s (OfOperations (operations_in c b))) (sym e) refl)

  pub starts_at_region : (r : Ptr ARegion) → start ≡ Region r → (q : Ptr AnOperation) × StandsInOperation c r q → (p : StartingRegions by_handle) × IsStartIn c start p
  starts_at_region r e h = by_view (operation_at c h.0) refl h.1.here where
    by_view : (o : Option (OperationView O)) → operation_at c h.0 ≡ o → slice_get (unwrap_or (option_map (λ (v : OperationView O). v.regions) o) []) h.1.index ≡ Some r → (p : StartingRegions by_handle) × IsStartIn c start p
    by_view None there at = absurd (none-some r at)
    by_view (Some v) there at = (OfRegion h.0 h.1.index, subst (λ s. IsStartIn c s (OfRegion h.0 h.1.index)) (sym e) (h.0, h.1.index, v, there, at, refl))

  pub starts_nowhere : HasLists c → (r : Ptr ARegion) → start ≡ Region r → ((q : Ptr AnOperation) × StandsInOperation c r q → ⊥) → (p : StartingRegions by_handle) → IsStartIn c start p → ⊥
  starts_nowhere lists r e none p is =
      let h : IsStartIn c (Region r) p = subst (λ s. IsStartIn c s p) e is in
      none (h.0, lists.regions h.0 h.1 r (ap (λ o. slice_get (unwrap_or (option_map (λ (v : OperationView O). v.regions) o) []) h.1) h.3 ∙ h.4))
