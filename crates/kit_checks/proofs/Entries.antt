-- The entry of an operation: the first block of its first region, in the program and in the tree.
use Rattle.std.proofs.Common.{◌≡◌, ◌↔◌, List, Option, Some, None, option_and_then, slice_get, refl, sym, ap, ◌∙◌, subst, IsTrue, Bool, false}
use Rattle.std.proofs.lemmas.Bool.{false≢true}
use Rattle.ir_base.specs.declared.types.TypeHandle.{TypeHandle}
use Rattle.ir_program.specs.Lists.{blocks_in, regions_in}
use Rattle.ir_program.specs.Program.{Program}
use Rattle.ir_program.specs.declared.handles.Ptr.{Ptr}
use Rattle.ir_program.specs.declared.handles.Operation.{Operation}
use Rattle.ir_program.specs.declared.handles.Region.{Region}
use Rattle.ir_program.specs.declared.handles.BasicBlock.{BasicBlock}
use Rattle.ir_trees.specs.Stands.{ProgramTree, StandsFor}
use Rattle.ir_trees.specs.Trees.{Blocks}
use Rattle.kit_checks.specs.Located.{RegionHasBlocks}
use Rattle.kit_checks.specs.Passing.{OfBody}
use Rattle.kit_checks.specs.Reading.{IsEntryOrNone, TakesInputs}
use Rattle.kit_checks.specs.Sites.{Listed, Body, block_list, region_list}
use Rattle.kit_checks.specs.Words.{entry_of, first_body, types_of}
use Rattle.kit_checks.proofs.Down.{block_listed, region_listed, regions_are}
use Rattle.kit_checks.proofs.Upward.{block_tree, region_tree}

none_where : {X : Type 0} (o : Option X) → ((x : X) → o ≡ Some x → ⊥) → o ≡ None
none_where None h = refl
none_where (Some x) h = absurd (h x refl)

module _ {O B : Type 0} (c : Program O B) (op : Ptr Operation) (u : ProgramTree O B) (s : StandsFor c op u) where
  pub no_region : slice_get (regions_in c op) 0 ≡ None → IsEntryOrNone c u None
  no_region none =
      let empty : slice_get (region_list u.regions) 0 ≡ None = none_where (slice_get (region_list u.regions) 0) (λ blocks here.
      let r = region_listed c s.view.regions u.regions s.regions 0 blocks here in
      let e : None ≡ Some r.0 = sym none ∙ sym (ap (λ l. slice_get l 0) (regions_are c op u s)) ∙ r.1 in cc) in
      ap (option_and_then first_body) empty

  module _ (region : Ptr Region) (first : slice_get (regions_in c op) 0 ≡ Some region) where
    the_region : (blocks : Listed O B Blocks) × (slice_get (region_list u.regions) 0 ≡ Some blocks) × RegionHasBlocks c region blocks
    the_region = region_tree c s.view.regions u.regions s.regions 0 region (ap (λ l. slice_get l 0) (regions_are c op u s) ∙ first)

    pub entry_is : (o : Option (Ptr BasicBlock)) → o ≡ slice_get (blocks_in c region) 0 → IsEntryOrNone c u o
    entry_is None is =
        let none : slice_get (block_list the_region.0) 0 ≡ None = none_where (slice_get (block_list the_region.0) 0) (λ body here.
        let b = block_listed c (blocks_in c region) the_region.0 the_region.2.listed 0 body here in
        let e : None ≡ Some body.label.name = is ∙ b.0 in cc) in
        ap (option_and_then first_body) the_region.1 ∙ none
    entry_is (Some block) is =
        let body = block_tree c (blocks_in c region) the_region.0 the_region.2.listed 0 block (sym is) in
        (body.0, ap (option_and_then first_body) the_region.1 ∙ body.1, body.2)

-- whether its arguments have some types
module _ {O B : Type 0} (c : Program O B) (u : ProgramTree O B) (inputs : List TypeHandle) where
  pub takes_nothing : (o : Option (Ptr BasicBlock)) → o ≡ None → IsEntryOrNone c u o → IsTrue false ↔ TakesInputs u inputs
  takes_nothing o is entry =
      let none : entry_of u ≡ None = subst (IsEntryOrNone c u) is entry in
      (λ h. absurd (false≢true h), λ takes. let e : None ≡ Some takes.0 = sym none ∙ takes.1 in cc)

  pub takes_as : (o : Option (Ptr BasicBlock)) (block : Ptr BasicBlock) (r : Bool) → o ≡ Some block → IsEntryOrNone c u o → OfBody c block (λ b. IsTrue r ↔ (types_of b.label.arguments ≡ inputs)) →
      IsTrue r ↔ TakesInputs u inputs
  takes_as o block r is entry tells =
      let e : (body : Body O B) × (entry_of u ≡ Some body) × _ = subst (IsEntryOrNone c u) is entry in (
        λ h. (e.0, e.1, (tells e.0 e.2).0 h),
        λ takes. (tells e.0 e.2).1 (let q : Some takes.0 ≡ Some e.0 = sym takes.1 ∙ e.1 in let same : takes.0 ≡ e.0 = cc in subst (λ (b : Body O B). types_of b.label.arguments ≡ inputs) same takes.2),
      )
