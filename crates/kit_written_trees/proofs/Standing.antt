-- What is written of a tree is the tree of texts of the operation that it is the tree of.
use Rattle.std.proofs.Common.{◌≡◌, ◌∙◌, inl, inr, ℕ, zero, suc, List, [], ◌∷◌, map, length, Option, Some, None, option_map, refl, ap, sym}
use Rattle.ir_names.specs.declared.identifier.Identifier.{Identifier}
use Rattle.ir_print.specs.Pieces.{ValueTree}
use Rattle.ir_print.specs.Shown.{Pairs, ShowsType}
use Rattle.ir_program.specs.Program.{OperationView, RegionView, TypedValue}
use Rattle.ir_program.specs.declared.handles.Ptr.{Ptr}
use Rattle.ir_program.specs.declared.handles.Operation.{Operation}
use Rattle.ir_program.specs.declared.handles.Region.{Region}
use Rattle.ir_program.specs.declared.handles.BasicBlock.{BasicBlock}
use Rattle.ir_program.specs.declared.handles.Value.{Value}
use Rattle.ir_trees.specs.Renames.{names_of}
use Rattle.ir_trees.specs.Stands.{by_handle, head_of, defined_by, AreTree, no_operations, no_blocks, no_regions, first_operation, first_block, first_region}
use Rattle.ir_trees.specs.Trees.{Operations, Blocks, Regions}
use Rattle.kit.specs.Context.{KitContext}
use Rattle.opt_trees.specs.Occurrences.{Has}
use Rattle.text_dialect.specs.Seen.{seen, seen_operation, seen_block, types_of}
use Rattle.text_dialect.specs.Standing.{Naming, HasDefinition, HasHead, HasOwnLabel, HaveRegionTrees, HaveBlockTrees, HaveTrees}
use Rattle.kit.specs.Meaning.{KitOperation}
use Rattle.kit.specs.Says.{says}
use Rattle.kit_writable_trees.specs.Writable.{types_in, count_of, IsWritableHead, IsWritable}
use Rattle.kit_written_trees.proofs.Known.{KnownAll}
use Rattle.kit_written_trees.proofs.Edges.{BlocksKnown}
use Rattle.ir_print.specs.Printed.{IsLabel}
use Rattle.kit_written_trees.proofs.Written.{Part, own_label, named_so, written}

module _ {N : Type 0} (s : KitContext) (ν : Value → N) (β : Ptr BasicBlock → N) (Named : Naming N)
    (Known : Value → Type 0) (KnownBlock : Ptr BasicBlock → Type 0) (named : (v : Value) → Known v → Named.value v (ν v))
    (block_named : (b : Ptr BasicBlock) → KnownBlock b → Named.block b (β b)) where
  -- the types of definitions are those of the values
  types_same : (vs : List TypedValue) → types_in (map defined_by vs) ≡ types_of vs
  types_same [] = refl
  types_same (v ∷ vs) = ap (λ tys. v.ty ∷ tys) (types_same vs)

  -- definitions are named and typed so
  defined_so : (vs : List TypedValue) (ys : List ValueTree)
      → Pairs (ShowsType says s.types.keys) (types_in (map defined_by vs)) ys
      → ((v : Value) → Has v (names_of (map defined_by vs)) → Known v)
      → Pairs (HasDefinition says Named s.types.keys) vs (named_so s.types.keys ν β (map defined_by vs) ys)
  defined_so [] [] h known = tt
  defined_so [] (y ∷ ys) h known = absurd h
  defined_so (v ∷ vs) [] h known = absurd h
  defined_so (v ∷ vs) (y ∷ ys) h known =
      ((named v.value (known v.value (inl refl)), h.0), defined_so vs ys h.1 (λ x has. known x (inr has)))

  -- operands are named so
  used_so : (xs : List Value) → ((v : Value) → Has v xs → Known v) → Pairs Named.value xs (map ν xs)
  used_so [] known = tt
  used_so (x ∷ xs) known = (named x (known x (inl refl)), used_so xs (λ v has. known v (inr has)))

  -- so are the blocks that may be gone on to
  next_so : (bs : List (Ptr BasicBlock)) → ((b : Ptr BasicBlock) → Has b bs → KnownBlock b)
      → Pairs Named.block bs (map β bs)
  next_so [] known = tt
  next_so (b ∷ bs) known = (block_named b (known b (inl refl)), next_so bs (λ c has. known c (inr has)))

  label_is : (v : Option Identifier) → IsLabel v (own_label v)
  label_is None = refl
  label_is (Some id) = refl

  pub head_so : (d regions : ℕ) (p : Ptr Operation) (v : OperationView KitOperation)
      (w : IsWritableHead {N = by_handle} s.types.keys d regions (head_of p v))
      → ((x : Value) → Has x (names_of (map defined_by v.results)) → Known x) → ((x : Value) → Has x v.operands → Known x)
      → ((b : Ptr BasicBlock) → Has b v.successors → KnownBlock b)
      → HasHead says Named s.types.keys (seen_operation v) w.kind (named_so s.types.keys ν β (map defined_by v.results) w.shapes)
      (map ν v.operands) (map β v.successors) w.pieces
  head_so d regions p v w results operands successors = record {
    said = w.said;
    says_it = ap (λ tys. says.of_operation v.payload.kind v.payload.notes.attributes (length v.operands) tys)
        (sym (types_same v.results)) ∙ w.says_it;
    shown = w.shown;
    defines = defined_so v.results w.shapes w.typed results;
    mentions = used_so v.operands operands;
    goes_on = next_so v.successors successors;
  }

  mutual
    pub have_trees : (d : ℕ) (ps : List (Ptr Operation)) (x : Part Operations) (w : IsWritable {N = by_handle} s.types.keys d x)
        → AreTree s.program Operations ps x → KnownAll Known x → BlocksKnown KnownBlock x
        → HaveTrees says Named HasOwnLabel (seen s) ps (written s.types.keys ν β d x w)
    have_trees d [] x w no_operations known blocks = tt
    have_trees d (p ∷ ps) x w (first_operation _ _ v rs rest there inner after) known blocks = (
      (
        seen_operation v,
        ap (option_map seen_operation) there,
        head_so d (count_of rs) p v w.0 known.0 known.1 blocks.0,
        have_region_trees d v.regions rs w.1 inner known.2 blocks.1,
      ),
      have_trees d ps rest w.2 after known.3 blocks.2,
    )

    pub have_region_trees : (d : ℕ) (rs : List (Ptr Region)) (x : Part Regions)
        (w : IsWritable {N = by_handle} s.types.keys d x) → AreTree s.program Regions rs x → KnownAll Known x
        → BlocksKnown KnownBlock x → HaveRegionTrees says Named HasOwnLabel (seen s) rs (written s.types.keys ν β d x w)
    have_region_trees d [] x w no_regions known blocks = tt
    have_region_trees zero (r ∷ rs) x w (first_region _ _ v bs rest there inner after) known blocks = absurd w.0
    have_region_trees (suc e) (r ∷ rs) x w (first_region _ _ v bs rest there inner after) known blocks = (
      (
        v.blocks,
        ap (option_map (λ (z : RegionView). z.blocks)) there,
        have_block_trees e v.blocks bs w.0 inner known.0 blocks.0,
      ),
      have_region_trees (suc e) rs rest w.1 after known.1 blocks.1,
    )

    pub have_block_trees : (d : ℕ) (bs : List (Ptr BasicBlock)) (x : Part Blocks)
        (w : IsWritable {N = by_handle} s.types.keys d x) → AreTree s.program Blocks bs x → KnownAll Known x
        → BlocksKnown KnownBlock x → HaveBlockTrees says Named HasOwnLabel (seen s) bs (written s.types.keys ν β d x w)
    have_block_trees d [] x w no_blocks known blocks = tt
    have_block_trees d (b ∷ bs) x w (first_block _ _ v os rest there inner after) known blocks = (
      (
        seen_block v,
        ap (option_map seen_block) there,
        record {
          labelled = label_is v.payload.label;
          no_attributes = ap length w.0.no_attributes;
        },
        block_named b blocks.0,
        defined_so v.arguments w.0.arguments.shapes w.0.arguments.shown known.0,
        have_trees d v.operations os w.1 inner known.1 blocks.1,
      ),
      have_block_trees d bs rest w.2 after known.2 blocks.2,
    )
