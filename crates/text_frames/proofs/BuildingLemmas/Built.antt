-- An operation that is built in a program, and whose regions are filled then, is made in what is seen of it.
use Rattle.std.proofs.Common.{◌≡◌, ◌≢◌, ⊎_elim, ℕ, List, [], ◌++◌, Some, IsSome, option_map, unwrap_or, slice_get, length, sym, ap, ◌∙◌, subst}
use Rattle.ir_base.specs.declared.types.TypeHandle.{TypeHandle}
use Rattle.ir_program.specs.Made.{BuildsOperation}
use Rattle.ir_program.specs.Program.{RegionView, operation_at}
use Rattle.ir_program.specs.declared.handles.Ptr.{Ptr}
use Rattle.ir_program.specs.declared.handles.Operation.{Operation}
use Rattle.ir_program.specs.declared.handles.Region.{Region}
use Rattle.ir_program.specs.declared.handles.BasicBlock.{BasicBlock}
use Rattle.ir_context.specs.declared.notes.OperationData.{OperationData}
use Rattle.text_dialect.specs.Seen.{seen, seen_operation, seen_block}
use Rattle.text_frames.specs.building.Kept.{GivesNumbers}
use Rattle.text_frames.specs.building.Loose.{IsLooseOperation, AreAllLoose, regions_of}
use Rattle.text_frames.specs.building.Made.{FillsRegions, MakesDetachedOperation}
use Rattle.text_frames.proofs.BuildingLemmas.Filled.{still_loose_operation}
use Rattle.text_frames.proofs.BuildingLemmas.Members.{found_or_not, pairs_map}
use Rattle.text_frames.proofs.BuildingLemmas.Opened.{ContextOf, loose_operation}
use Rattle.text_frames.proofs.BuildingLemmas.Options.{no_some, same_some, there}
use Rattle.text_frames.proofs.BuildingLemmas.Payloads.{payloads_built}

module _ {D TypeKind AttrKind TypeBody Saved Location OpKind Attr TypeKey : Type 0}
    (c d : ContextOf D TypeKind AttrKind TypeBody Saved Location OpKind Attr TypeKey)
    (same : d.types ≡ c.types)
    (p : Ptr Operation) (data_of : OperationData D TypeKind AttrKind TypeBody Saved Location OpKind Attr TypeKey) (tys : List TypeHandle) (n : ℕ)
    (built : BuildsOperation c.program d.program p data_of tys [] [] n) where
  pub built_loose : IsLooseOperation (seen d) p
  built_loose = loose_operation d p (there (operation_at d.program p) _ built.made) built.unlinked

  pub built_regions : regions_of (seen d) p ≡ built.handles
  built_regions = ap (λ o. unwrap_or (option_map (λ y. y.regions) (option_map seen_operation o)) []) built.made

  pub built_count : length (regions_of (seen d) p) ≡ n
  built_count = ap length built_regions ∙ built.count

  bare : (k : ℕ) (r : Ptr Region) → slice_get built.handles k ≡ Some r → (seen d).region r ≡ Some []
  bare k r e = ap (option_map (λ (v : RegionView). v.blocks)) (built.regions.made k r e)

  -- blocks that were in no region are in none of the new ones
  pub built_all_loose : (bss : List (List (Ptr BasicBlock))) → AreAllLoose (seen c) bss → AreAllLoose (seen d) bss
  built_all_loose bss loose i bs here k b listed = let h = loose i bs here k b listed in record {
    there = subst IsSome (sym (ap (option_map seen_block) (built.blocks b))) h.there;
    loose = λ r ys j e at. ⊎_elim
        (λ (found : (m : ℕ) × (slice_get built.handles m ≡ Some r)).
        let none : [] ≡ ys = same_some [] ys (sym (bare found.0 r found.1) ∙ e) in
        no_some b (ap (λ zs. slice_get zs j) none ∙ at))
        (λ (out : (m : ℕ) → slice_get built.handles m ≢ Some r). h.loose r ys j (sym (ap (option_map (λ (v : RegionView). v.blocks)) (built.regions.others r out)) ∙ e) at)
        (found_or_not r built.handles);
  }

  module _ (e : ContextOf D TypeKind AttrKind TypeBody Saved Location OpKind Attr TypeKey) (bss : List (List (Ptr BasicBlock)))
      (fills : FillsRegions (seen d) (seen e) (regions_of (seen d) p) bss) where
    filled_handles : FillsRegions (seen d) (seen e) built.handles bss
    filled_handles = subst (λ rs. FillsRegions (seen d) (seen e) rs bss) built_regions fills

    pub makes : MakesDetachedOperation (seen c) (seen e) p data_of.kind data_of.notes.attributes tys c.program.counter bss
    makes = record {
      handles = built.handles;
      fresh = ap (option_map seen_operation) built.fresh;
      fresh_regions = λ k r h. ap (option_map (λ (v : RegionView). v.blocks)) (built.regions.fresh k r h);
      distinct = λ j k r a b. built.regions.distinct j k r a b;
      made = fills.operations p ∙ ap (option_map seen_operation) built.made;
      filled = pairs_map (λ r bs. (seen e).region r ≡ option_map (λ (were : List (Ptr BasicBlock)). were ++ bs) ((seen d).region r)) (λ r bs. (seen e).region r ≡ Some bs) built.handles bss
          (λ k r bs here beside h. h ∙ ap (option_map (λ (were : List (Ptr BasicBlock)). were ++ bs)) (bare k r here)) filled_handles.filled;
      loose = still_loose_operation (seen d) (seen e) p (fills.operations p) fills.blocks built_loose;
      others = λ q ne. fills.operations q ∙ ap (option_map seen_operation) (built.others q ne);
      blocks = λ b. fills.blocks b ∙ ap (option_map seen_block) (built.blocks b);
      regions = λ r none. filled_handles.others r none ∙ ap (option_map (λ (v : RegionView). v.blocks)) (built.regions.others r none);
      types = fills.types ∙ ap (λ ts. ts.keys) same;
    }

  pub built_numbers : GivesNumbers c.program d.program (length tys)
  built_numbers = record {
    counter = built.counter;
    erased = built.erased;
    payloads = payloads_built c.program d.program p data_of tys [] [] n built;
  }
