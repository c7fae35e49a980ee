-- The tree of texts of a tree that can be written.
use Rattle.std.proofs.Common.{◌≡◌, ◌∙◌, ℕ, zero, suc, List, [], ◌∷◌, map, Option, Some, None, refl, ap, sym, slice_get}
use Rattle.ir_base.specs.declared.types.TypeHandle.{TypeHandle}
use Rattle.ir_names.specs.declared.identifier.Identifier.{Identifier}
use Rattle.ir_names.specs.Identifier.{text_of}
use Rattle.ir_forest.specs.Bare.{AreBareTrees, IsBare, AreBareArguments}
use Rattle.ir_forest.specs.Closed.{number_in, AreOperations, AreBlocks, AreRegions}
use Rattle.ir_print.specs.Layout.{IsFlat, AreShallow, AreFlatArguments}
use Rattle.ir_print.specs.Pieces.{ValueTree, operation, a_region, block, EntityHead, entity, Entities, no_entity, an_entity}
use Rattle.ir_print.specs.Shown.{Pairs}
use Rattle.ir_program.specs.declared.handles.BasicBlock.{BasicBlock}
use Rattle.ir_program.specs.declared.handles.Ptr.{Ptr}
use Rattle.ir_program.specs.declared.handles.Value.{Value}
use Rattle.ir_trees.specs.Stands.{by_handle, ProgramHead, ProgramLabel}
use Rattle.ir_trees.specs.Trees.{Defined, Sort, Operations, Blocks, Regions, end}
use Rattle.ir_trees.specs.Trees as tree
use Rattle.kit.specs.Meaning.{KitOperation, KitBlock}
use Rattle.kit_checks.specs.Sites.{Listed}
use Rattle.kit_ops.specs.declared.types.KitType.{KitType}
use Rattle.kit.specs.Says.{values}
use Rattle.opt_trees.proofs.Lists.{length-map}
use Rattle.kit_writable_trees.specs.Writable.{types_in, count_of, IsWritableHead, IsWritableLabel, IsWritable}

-- parts of trees of `kit`
abbrev pub Part : Sort → Type 0
Part s = Listed KitOperation KitBlock s

-- the label of a block: the empty one where it has none
abbrev pub own_label : Option Identifier → List ℕ
own_label None = []
own_label (Some id) = text_of id

module _ {N : Type 0} (types : List KitType) (ν : Value → N) (β : Ptr BasicBlock → N) where
  -- definitions by their names, with the types that are written beside them
  abbrev pub named_so : List (Defined Value TypeHandle) → List ValueTree → List (N × ValueTree)
  named_so [] ys = []
  named_so (d ∷ ds) [] = []
  named_so (d ∷ ds) (y ∷ ys) = (ν d.name, y) ∷ named_so ds ys

  abbrev pub head_text : (d regions : ℕ) (h : ProgramHead KitOperation KitBlock)
      → IsWritableHead {N = by_handle} types d regions h → EntityHead N
  head_text d regions h w = operation w.kind (named_so h.results w.shapes) (map ν h.operands) (map β h.successors) w.pieces

  abbrev pub label_so : (d : ℕ) (l : ProgramLabel KitOperation KitBlock) → IsWritableLabel {N = by_handle} types d l → EntityHead N
  label_so d l w = block (β l.name) (own_label l.content.label) (named_so l.arguments w.arguments.shapes)

  abbrev pub written : {s : Sort} (d : ℕ) (x : Part s) → IsWritable {N = by_handle} types d x → Entities N
  written d end w = no_entity
  written d (tree.operation h rs rest) w =
      an_entity (entity (head_text d (count_of rs) h w.0) (written d rs w.1)) (written d rest w.2)
  written d (tree.block l os rest) w = an_entity (entity (label_so d l w.0) (written d os w.1)) (written d rest w.2)
  written zero (tree.region bs rest) w = absurd w.0
  written (suc e) (tree.region bs rest) w = an_entity (entity a_region (written e bs w.0)) (written (suc e) rest w.1)

  -- ---- shapes

  pub shapes_so : (R : TypeHandle → ValueTree → Type 0) (ds : List (Defined Value TypeHandle)) (ys : List ValueTree)
      → Pairs R (types_in ds) ys → map (λ x. x.1) (named_so ds ys) ≡ ys
  shapes_so R [] [] h = refl
  shapes_so R [] (y ∷ ys) h = absurd h
  shapes_so R (d ∷ ds) [] h = absurd h
  shapes_so R (d ∷ ds) (y ∷ ys) h = ap (λ zs. y ∷ zs) (shapes_so R ds ys h.1)

  pub flat_so : (d : ℕ) (ds : List (Defined Value TypeHandle)) (ys : List ValueTree)
      → ((i : ℕ) (y : ValueTree) → slice_get ys i ≡ Some y → IsFlat d y) → AreFlatArguments d (named_so ds ys)
  flat_so d [] ys h = tt
  flat_so d (x ∷ ds) [] h = tt
  flat_so d (x ∷ ds) (y ∷ ys) h = (h 0 y refl, flat_so d ds ys (λ i z e. h (suc i) z e))

  pub bare_so : (ds : List (Defined Value TypeHandle)) (ys : List ValueTree)
      → ((i : ℕ) (y : ValueTree) → slice_get ys i ≡ Some y → IsBare y) → AreBareArguments (named_so ds ys)
  bare_so [] ys h = tt
  bare_so (x ∷ ds) [] h = tt
  bare_so (x ∷ ds) (y ∷ ys) h = (h 0 y refl, bare_so ds ys (λ i z e. h (suc i) z e))

  -- there are as many regions
  pub as_many : (d : ℕ) (x : Part Regions) (w : IsWritable {N = by_handle} types d x) → number_in (written d x w) ≡ count_of x
  as_many d end w = refl
  as_many zero (tree.region bs rest) w = absurd w.0
  as_many (suc e) (tree.region bs rest) w = ap suc (as_many (suc e) rest w.1)

  -- ---- operations are as their pieces say

  mutual
    pub are_operations : (d : ℕ) (x : Part Operations) (w : IsWritable {N = by_handle} types d x)
        → AreOperations values (written d x w)
    are_operations d end w = tt
    are_operations d (tree.operation h rs rest) w = (
      (
        shapes_so _ h.results w.0.shapes w.0.typed ∙ w.0.read,
        w.0.holds ∙ sym (as_many d rs w.1),
        w.0.counted ∙ sym (length-map β h.successors),
        are_regions d rs w.1,
      ),
      are_operations d rest w.2,
    )

    pub are_regions : (d : ℕ) (x : Part Regions) (w : IsWritable {N = by_handle} types d x) → AreRegions values (written d x w)
    are_regions d end w = tt
    are_regions zero (tree.region bs rest) w = absurd w.0
    are_regions (suc e) (tree.region bs rest) w = (are_blocks e bs w.0, are_regions (suc e) rest w.1)

    pub are_blocks : (d : ℕ) (x : Part Blocks) (w : IsWritable {N = by_handle} types d x) → AreBlocks values (written d x w)
    are_blocks d end w = tt
    are_blocks d (tree.block l os rest) w = (are_operations d os w.1, are_blocks d rest w.2)

  -- ---- depths, and what is below pieces

  pub is_shallow : {s : Sort} (d : ℕ) (x : Part s) (w : IsWritable {N = by_handle} types d x) → AreShallow d (written d x w)
  is_shallow d end w = tt
  is_shallow d (tree.operation h rs rest) w = ((w.0.flat, is_shallow d rs w.1), is_shallow d rest w.2)
  is_shallow d (tree.block l os rest) w =
      ((flat_so d l.arguments w.0.arguments.shapes w.0.arguments.flat, is_shallow d os w.1), is_shallow d rest w.2)
  is_shallow zero (tree.region bs rest) w = absurd w.0
  is_shallow (suc e) (tree.region bs rest) w = ((tt, is_shallow e bs w.0), is_shallow (suc e) rest w.1)

  pub is_bare : {s : Sort} (d : ℕ) (x : Part s) (w : IsWritable {N = by_handle} types d x) → AreBareTrees (written d x w)
  is_bare d end w = tt
  is_bare d (tree.operation h rs rest) w = ((w.0.bare, is_bare d rs w.1), is_bare d rest w.2)
  is_bare d (tree.block l os rest) w =
      ((bare_so l.arguments w.0.arguments.shapes w.0.arguments.bare, is_bare d os w.1), is_bare d rest w.2)
  is_bare zero (tree.region bs rest) w = absurd w.0
  is_bare (suc e) (tree.region bs rest) w = ((tt, is_bare e bs w.0), is_bare (suc e) rest w.1)
