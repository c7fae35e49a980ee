-- A function of a module that keeps the rules has a flat view.
use Rattle.std.proofs.Common.{◌≡◌, ℕ, zero, suc, true, List, [], ◌∷◌, ◌++◌, map, length, Option, Some, slice_get, refl}
use Rattle.std.proofs.Common.{sym, ap, ◌∙◌, subst}
use Rattle.std.proofs.lemmas.List.{append-nil, length-map}
use Rattle.std.proofs.lemmas.Option.{slice_get_within, same_Some}
use Rattle.ir_base.specs.declared.types.TypeHandle.{TypeHandle}
use Rattle.ir_program.specs.declared.handles.BasicBlock.{BasicBlock}
use Rattle.ir_program.specs.declared.handles.Ptr.{Ptr}
use Rattle.ir_program.specs.declared.handles.Value.{Value}
use Rattle.ir_trees.specs.Names.{Names, Contents}
use Rattle.ir_trees.specs.Renames.{names_of}
use Rattle.ir_trees.specs.Searched.{AreDistinct, labels_in, block_names}
use Rattle.ir_trees.specs.Trees.{Label, Operations, Blocks, Regions, Tree, end, operation, block, region}
use Rattle.kit.specs.Context.{KitTree}
use Rattle.kit_ops.specs.declared.types.KitType.{KitType}
use Rattle.kit.specs.Meaning.{KitOperation, KitBlock}
use Rattle.kit_behaviour.specs.Machine.{AllEdges, Edge, Op, Branch, Block, Fun, ops_left, arguments_of}
use Rattle.kit_behaviour.specs.Rules.{EdgeFits, EdgesOfOpFit, AllEdgesFit}
use Rattle.kit_behaviour.specs.Scopes.{SameLength}
use Rattle.kit_checks.specs.declared.rule.Rule.TheVariants as rule
use Rattle.kit_checks.specs.Sites.{Listed, operation_list, block_list}
use Rattle.kit_checks.specs.Words.{is_branch, types_of}
use Rattle.kit_views.specs.FlatView.{AreOps, AreFlatBlocks, names_in, FlattensTo}
use Rattle.kit_views.specs.Reading.{Reading, kit_contents, kit_reading}
use Rattle.kit_ruled_views.specs.Ruled.{IsRuledFunction, HasOwnNames}
use Rattle.kit_ruled_views.proofs.FunctionSites.{KitBlocks, KitBody, KitAround, no_region, own_format, own_region}
use Rattle.kit_ruled_views.proofs.FunctionSites.{inner_around, inner_keeps}
use Rattle.kit_ruled_views.proofs.OperationViews.{Leads, OpLeads, HandsOn, IsRuled, handed, OpView, op_view}
use Rattle.kit_ruled_views.proofs.SmallLists.{none_of, as_many}

-- ---- views of lists

-- each operation of a flat block, each operation of a flat function, leads to blocks of the tree
abbrev AllLead : KitBlocks → List (Op Value) → Type 0
AllLead blocks [] = Unit {0}
AllLead blocks (p ∷ ps) = OpLeads blocks p × AllLead blocks ps

abbrev BlocksLead : KitBlocks → Fun Value → Type 0
BlocksLead blocks [] = Unit {0}
BlocksLead blocks (k ∷ ks) = AllLead blocks k.ops × BlocksLead blocks ks

module _ (leads : TypeHandle → Option KitType) (typed : Value → Option TypeHandle) (numbered : List ℕ → ℕ)
    (blocks : KitBlocks) where
  abbrev reading : Reading kit_contents
  reading = kit_reading leads numbered

  -- the operation has no regions, and is one of a flat function
  abbrev IsSeen : KitTree → Type 0
  IsSeen op = (op.regions ≡ end) × OpView leads typed blocks op numbered

  ops_view : (os : Listed KitOperation KitBlock Operations)
      → ((k : ℕ) (op : KitTree) → slice_get (operation_list os) k ≡ Some op → IsSeen op)
      → (ps : List (Op Value)) × AreOps reading (names_in blocks) os ps × AllLead blocks ps
  ops_view end each = ([], tt, tt)
  ops_view (operation h rs rest) each =
      let op : KitTree = record { head = h; regions = rs } in
      let one : IsSeen op = each 0 op refl in
      let more = ops_view rest (λ k. each (suc k)) in
      (one.1.flat ∷ more.0, (one.0, one.1.is, more.1), (one.1.goes, more.2))

  blocks_view : (bs : KitBlocks)
      → ((j k : ℕ) (body : KitBody) (op : KitTree) → slice_get (block_list bs) j ≡ Some body
      → slice_get (operation_list body.operations) k ≡ Some op → IsSeen op)
      → (ks : Fun Value) × AreFlatBlocks reading (names_in blocks) bs ks × BlocksLead blocks ks
  blocks_view end each = ([], tt, tt)
  blocks_view (block l os rest) each =
      let one = ops_view os (λ k op. each 0 k (record { label = l; operations = os }) op refl) in
      let more = blocks_view rest (λ j. each (suc j)) in
      (record { arguments = names_of l.arguments; ops = one.0 } ∷ more.0, (refl, one.1, more.1), (one.2, more.2))

-- ---- edges

same_length : {X : Type 0} (vs ws : List X) → length vs ≡ length ws → SameLength ws vs
same_length [] [] h = tt
same_length [] (w ∷ ws) h = cc
same_length (v ∷ vs) [] h = cc
same_length (v ∷ vs) (w ∷ ws) h = same_length vs ws cc

module _ (r : Reading kit_contents) (names : List (Ptr BasicBlock)) where
  -- the block at an index, in the tree and in its flat view
  block_both : (bs : KitBlocks) (ks : Fun Value) → AreFlatBlocks r names bs ks → (j : ℕ) (body : KitBody)
      → slice_get (block_list bs) j ≡ Some body
      → (k : Block Value) × (slice_get ks j ≡ Some k) × (names_of body.label.arguments ≡ k.arguments)
  block_both end ks are j body h = cc
  block_both (block l os rest) [] are j body h = absurd are
  block_both (block l os rest) (k ∷ ks) are zero body h =
      let mine : KitBody = record { label = l; operations = os } in
      let same : mine ≡ body = cc in
      (k, refl, ap (λ (x : KitBody). names_of x.label.arguments) (sym same) ∙ are.0)
  block_both (block l os rest) (k ∷ ks) are (suc j) body h = block_both rest ks are.2 j body h

  module _ (blocks : KitBlocks) (f : Fun Value) (are : AreFlatBlocks r names blocks f) where
    edge_fits : (e : Edge Value) → Leads blocks e → EdgeFits (Some f) e
    edge_fits e leads =
        let b = block_both blocks f are e.target leads.0 leads.1 in
        let many : length e.forwards ≡ length b.0.arguments =
        leads.2 ∙ sym (length-map leads.0.label.arguments (λ d. d.name)) ∙ ap length b.2 in
        record {
          count = subst (λ o. SameLength (arguments_of o) e.forwards) (sym b.1)
              (same_length e.forwards b.0.arguments many);
          leads = slice_get_within f e.target b.0 b.1;
        }

    edges_fit : (es : List (Edge Value)) → AllEdges (Leads blocks) es → AllEdges (EdgeFits (Some f)) es
    edges_fit [] lead = tt
    edges_fit (e ∷ es) lead = (edge_fits e lead.0, edges_fit es lead.1)

    op_fits : (p : Op Value) → OpLeads blocks p → EdgesOfOpFit (Some f) p
    op_fits (Branch s xs e es) lead = edges_fit (e ∷ es) lead
    op_fits _ lead = tt

    ops_fit : (ps : List (Op Value)) → AllLead blocks ps → AllEdgesFit (Some f) ps
    ops_fit [] lead = tt
    ops_fit (p ∷ ps) lead = (op_fits p lead.0, ops_fit ps lead.1)

    block_fits : (ks : Fun Value) → BlocksLead blocks ks → (b : ℕ) → AllEdgesFit (Some f) (ops_left (slice_get ks b) 0)
    block_fits [] lead b = tt
    block_fits (k ∷ ks) lead zero = ops_fit k.ops lead.0
    block_fits (k ∷ ks) lead (suc b) = block_fits ks lead.1 b

-- ---- names

module _ {N : Names} {S : Contents} (r : Reading S) (names : List N.block) where
  no_labels : (os : Tree N S Operations) (ps : List (Op N.value)) → AreOps r names os ps → labels_in os ≡ []
  no_labels end ps are = refl
  no_labels (operation h rs more) [] are = absurd are
  no_labels (operation h rs more) (p ∷ ps) are = λ i. labels_in (are.0 i) ++ no_labels more ps are.2 i

  names_all : (bs : Tree N S Blocks) (ks : Fun N.value) → AreFlatBlocks r names bs ks
      → map (λ (l : Label N S). l.name) (labels_in bs) ≡ names_in bs
  names_all end ks are = refl
  names_all (block l os more) [] are = absurd are
  names_all (block l os more) (k ∷ ks) are =
      ap (λ ls. l.name ∷ map (λ (x : Label N S). x.name) (ls ++ labels_in more)) (no_labels os k.ops are.1)
      ∙ ap (λ ns. l.name ∷ ns) (names_all more ks are.2)

  -- the names of the blocks of a function's tree are those of its blocks
  pub names_are : (rs : Tree N S Regions) (bs : Tree N S Blocks) (ks : Fun N.value) → AreFlatBlocks r names bs ks
      → rs ≡ region bs end → map (λ (l : Label N S). l.name) (labels_in rs) ≡ names_in bs
  names_are rs bs ks are is =
      ap (λ (x : Tree N S Regions). map (λ (l : Label N S). l.name) (labels_in x)) is
      ∙ ap (map (λ (l : Label N S). l.name)) (append-nil (labels_in bs)) ∙ names_all bs ks are

-- ---- functions

module _ (leads : TypeHandle → Option KitType) (typed : Value → Option TypeHandle) (u : KitTree)
    (ruled : IsRuledFunction leads typed u) (blocks : KitBlocks) (is : u.regions ≡ region blocks end) where
  module _ (j k : ℕ) (body : KitBody) (op : KitTree) (block_here : slice_get (block_list blocks) j ≡ Some body)
      (op_here : slice_get (operation_list body.operations) k ≡ Some op) where
    abbrev around : KitAround
    around = inner_around leads typed u ruled blocks is j body k

    -- an edge of an operation of the function
    pub hands_on : is_branch op.head.content.kind ≡ true → (edge : ℕ) (target : Ptr BasicBlock)
        → slice_get op.head.successors edge ≡ Some target
        → HandsOn blocks (handed leads typed blocks op op.head.content.kind edge) target
    hands_on branch edge target here =
        let fit = inner_keeps leads typed u ruled blocks is j k body op block_here op_here rule.EdgesFit edge target
        here in
        let same : fit.0 ≡ around = sym (same_Some around fit.0 fit.1) in
        let many = as_many typed Some
        (handed leads typed blocks op op.head.content.kind edge) (types_of fit.2.body.label.arguments)
        (fit.2.operands branch) in
        record {
          place = fit.2.here.0;
          body = fit.2.body;
          here = subst (λ (a : KitAround). slice_get (block_list a.blocks) fit.2.here.0 ≡ Some fit.2.body) same
              fit.2.here.1;
          named = fit.2.named;
          count = many ∙ length-map fit.2.body.label.arguments (λ d. d.holds);
        }

    pub has_no_region : op.regions ≡ end
    has_no_region =
        let keeps = inner_keeps leads typed u ruled blocks is j k body op block_here op_here rule.FunctionHolds in
        no_region op.regions (keeps around (refl, ruled.function)).1

    ruled_op : IsRuled leads typed blocks op op.head.content.kind
    ruled_op =
        let keeps = inner_keeps leads typed u ruled blocks is j k body op block_here op_here in
        record {
          instruction = (keeps rule.FunctionHolds around (refl, ruled.function)).0;
          format = keeps rule.FitsFormat;
          edges = hands_on;
        }

    seen : (numbered : List ℕ → ℕ) → IsSeen leads typed numbered blocks op
    seen numbered = (has_no_region, op_view leads typed blocks op numbered ruled_op)

  -- a function's operations have no regions, so its blocks are all blocks in it
  pub names_apart : AreDistinct (block_names u) → AreDistinct (names_in blocks)
  names_apart apart =
      let v = blocks_view leads typed (λ n. 0) blocks blocks (λ j k body op hb ho. seen j k body op hb ho (λ n. 0)) in
      subst AreDistinct (names_are (kit_reading leads (λ n. 0)) (names_in blocks) u.regions blocks v.0 v.1 is) apart

-- a function of a module that keeps the rules has a flat view
pub flat_view : (leads : TypeHandle → Option KitType) (typed : Value → Option TypeHandle) (numbered : List ℕ → ℕ)
    (u : KitTree) → IsRuledFunction leads typed u → HasOwnNames u
    → (f : Fun Value) × FlattensTo (kit_reading leads numbered) u f
flat_view leads typed numbered u ruled own =
    let r : Reading kit_contents = kit_reading leads numbered in
    let b = own_region leads typed u ruled in
    let v = blocks_view leads typed numbered b.0 b.0
    (λ j k body op hb ho. seen leads typed u ruled b.0 b.1 j k body op hb ho numbered) in (
      v.0,
      record {
        view = record {
          function = ruled.function;
          no_operands = none_of u.head.operands (own_format leads typed u ruled).1;
          blocks = b.0;
          region = b.1;
          are = v.1;
        };
        operations = own.operations;
        blocks = names_apart leads typed u ruled b.0 b.1 own.blocks;
        values = own.values;
        edges = λ n. block_fits r (names_in b.0) b.0 v.0 v.1 v.0 v.2 n;
      },
    )
