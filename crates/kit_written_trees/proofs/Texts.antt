-- The text of an operation that can be written.
use Rattle.std.specs.Prelude.{slice_get}
use Rattle.std.proofs.Common.{◌≡◌, ◌∙◌, ⊎_elim, ℕ, ◌<◌, List, Some, [], ◌++◌, map, length, option_map, ap, sym, subst}
use Rattle.std.specs.List.{range_with_len}
use Rattle.std.proofs.lemmas.List.FromFn.{length-range_with_len}
use Rattle.ir_forest.specs.Closed.{IsClosedTree, IsNumbered, IsScopedRoot, FitsTree, regions_said, number_in, all_mentioned, all_defined, blocks_of, definitions_of, mentioned_by, defined_by, in_scope, is_isolated_head}
use Rattle.ir_forest.specs.Closed.{names_of as names_so}
use Rattle.ir_print.specs.Pieces.{Entity, entity}
use Rattle.ir_program.proofs.defined.Arrivals.{same_value}
use Rattle.ir_program.proofs.made.Frames.{same_or_not}
use Rattle.ir_program.specs.declared.handles.BasicBlock.{BasicBlock}
use Rattle.ir_program.specs.declared.handles.Operation.{Operation}
use Rattle.ir_program.specs.declared.handles.Ptr.{Ptr}
use Rattle.ir_program.specs.declared.handles.Value.{Value}
use Rattle.ir_trees.specs.Searched.{AreDistinct, block_names}
use Rattle.ir_trees.specs.Renames.{names_of}
use Rattle.ir_trees.specs.Stands.{by_handle, head_of, ProgramHead, StandsFor}
use Rattle.kit.specs.Context.{KitContext, KitTree}
use Rattle.opt_trees.specs.Occurrences.{Has, defined_in}
use Rattle.text_dialect.specs.Seen.{seen, seen_operation}
use Rattle.text_dialect.specs.Standing.{HasHead, HasOwnLabel, StandsForTexts}
use Rattle.text_rereading.proofs.Fits.{tree_fits}
use Rattle.text_rereading.specs.Rereading.{Numbering, Named}
use Rattle.kit.specs.Meaning.{KitOperation, KitBlock}
use Rattle.kit_language.specs.Language.{kit_language}
use Rattle.kit_ruled_passes.specs.Edges.{IsNoBlock, HasScopedEdges}
use Rattle.kit_ruled_passes.specs.Scopes.{IsNone, Scoped}
use Rattle.kit.specs.Says.{says, values}
use Rattle.kit.specs.Forms.{formats}
use Rattle.kit.specs.Readable.{says_types, says_attributes, says_operations}
use Rattle.kit_writable_trees.specs.Writable.{count_of, IsWritableHead, IsWritableRoot}
use Rattle.kit_views.proofs.Lists.{has_get}
use Rattle.kit_written_trees.specs.Laws.{AreToldByNumbers, HasText}
use Rattle.opt_trees.proofs.Lists.{length-map}
use Rattle.kit_written_trees.proofs.Edges.{blocks_in, blocks_found, blocks_known, blocks_same, have_edges}
use Rattle.kit_written_trees.proofs.Known.{regions_known, has_right, has_parts}
use Rattle.kit_written_trees.proofs.RootRegions.{said_isolated}
use Rattle.kit_written_trees.proofs.Numbered.{place_in, is_found, are_numbered}
use Rattle.kit_written_trees.proofs.Scoping.{in_by_has, scope_kept, names_same, definitions_same, all_in, regions_scoped}
use Rattle.kit_written_trees.proofs.Standing.{head_so, have_region_trees}
use Rattle.kit_written_trees.proofs.Written.{named_so, head_text, written, shapes_so, as_many, are_regions, is_shallow, is_bare}

module _ (s : KitContext) (root : Ptr Operation) (t : KitTree) (stands : StandsFor s.program root t)
    (w : IsWritableRoot {N = by_handle} s.types.keys t) (no_results : t.head.results ≡ []) (no_operands : t.head.operands ≡ [])
    (no_successors : t.head.successors ≡ []) (scoped : Scoped t.regions IsNone) (edges : HasScopedEdges t)
    (distinct : AreDistinct (defined_in t.regions)) (told : AreToldByNumbers (defined_in t.regions))
    (apart : AreDistinct (block_names t)) where
  abbrev numbering : Numbering
  numbering = record { values = defined_in t.regions; blocks = blocks_in t.regions }

  abbrev ν : Value → ℕ
  ν v = place_in same_value v (defined_in t.regions)

  abbrev β : Ptr BasicBlock → ℕ
  β b = place_in (same_or_not {E = BasicBlock}) b (blocks_in t.regions)

  abbrev text : Entity ℕ
  text = entity (head_text s.types.keys ν β 64 (count_of t.regions) t.head w.head) (written s.types.keys ν β 64 t.regions w.regions)

  abbrev Known : Value → Type 0
  Known v = Has v (defined_in t.regions)

  abbrev KnownBlock : Ptr BasicBlock → Type 0
  KnownBlock b = Has b (blocks_in t.regions)

  named : (v : Value) → Known v → (Named numbering).value v (ν v)
  named v has = is_found same_value v (defined_in t.regions) has

  block_named : (b : Ptr BasicBlock) → KnownBlock b → (Named numbering).block b (β b)
  block_named b has = is_found (same_or_not {E = BasicBlock}) b (blocks_in t.regions) has

  -- the text of a head that is the operation's
  abbrev HeadSo : ProgramHead KitOperation KitBlock → Type 0
  HeadSo h = (v : IsWritableHead {N = by_handle} s.types.keys 64 (count_of t.regions) h) → h.results ≡ [] → h.operands ≡ []
      → h.successors ≡ []
      → HasHead says (Named numbering) s.types.keys (seen_operation stands.view) v.kind
      (named_so s.types.keys ν β h.results v.shapes) (map ν h.operands) (map β h.successors) v.pieces

  own_head : HeadSo (head_of root stands.view)
  own_head v e f g = head_so s ν β (Named numbering) Known KnownBlock named block_named 64 (count_of t.regions) root
      stands.view v
      (λ x has. absurd (subst (λ ds. Has x (names_of ds)) e has)) (λ x has. absurd (subst (λ xs. Has x xs) f has))
      (λ b has. absurd (subst (λ bs. Has b bs) g has))

  root_head : HeadSo t.head
  root_head = subst HeadSo (sym stands.head) own_head

  has_tree : StandsForTexts says (Named numbering) (seen s) root text
  has_tree = (
    seen_operation stands.view,
    ap (option_map seen_operation) stands.there,
    root_head w.head no_results no_operands no_successors,
    have_region_trees s ν β (Named numbering) Known KnownBlock named block_named 64 stands.view.regions t.regions w.regions
        stands.regions (regions_known Known t.regions scoped (λ v has. has))
        (blocks_known KnownBlock t.regions (IsNoBlock by_handle) edges (λ b none. absurd none) (λ b has. has)),
  )

  scoped_root : IsScopedRoot kit_language.isolated text
  scoped_root = (
    in_by_has (mentioned_by kit_language.isolated text) (defined_by kit_language.isolated text) (λ n has.
        let ts = written s.types.keys ν β 64 t.regions w.regions in
        let head = head_text s.types.keys ν β 64 (count_of t.regions) t.head w.head in
        ⊎_elim
        (λ u. absurd (subst (λ xs. Has n (map ν xs)) no_operands u))
        (λ i. has_right n (names_so (named_so s.types.keys ν β t.head.results w.head.shapes))
        (in_scope kit_language.isolated head (all_defined kit_language.isolated ts))
        (scope_kept kit_language.isolated s.types.keys ν β (is_isolated_head kit_language.isolated head)
        (all_mentioned kit_language.isolated ts) (all_defined kit_language.isolated ts)
        (λ m. all_in kit_language.isolated s.types.keys ν β 64 t.regions w.regions scoped m) n i))
        (has_parts n (map ν t.head.operands) (in_scope kit_language.isolated head (all_mentioned kit_language.isolated ts))
        has)),
    (
      tt,
      regions_scoped kit_language.isolated s.types.keys ν β (kit_language.isolated w.head.kind) 64 t.regions w.regions scoped,
    ),
  )

  many_said : regions_said w.head.pieces ≡ number_in (written s.types.keys ν β 64 t.regions w.regions)
  many_said = w.head.holds ∙ sym (as_many s.types.keys ν β 64 t.regions w.regions)

  fits : FitsTree formats values text
  fits = tree_fits says formats values says_types says_attributes says_operations (Named numbering) HasOwnLabel (seen s) text
      root has_tree

  closed : IsClosedTree kit_language text
  closed = record {
    operation = (
      shapes_so s.types.keys ν β _ t.head.results w.head.shapes w.head.typed ∙ w.head.read,
      many_said,
      w.head.counted ∙ sym (length-map β t.head.successors),
      are_regions s.types.keys ν β 64 t.regions w.regions,
    );
    fits = fits;
    scoped = scoped_root;
    edges = (
      in_by_has (map β t.head.successors) [] (λ n has. absurd (subst (λ bs. Has n (map β bs)) no_successors has)),
      have_edges s.types.keys ν β 64 t.regions w.regions (IsNoBlock by_handle) [] edges (λ b none. absurd none),
    );
    isolated = λ some.
        said_isolated w.head.kind fits.0.0 w.head.pieces fits.0.1 fits.0.2 (subst (λ n. 0 < n) (sym many_said) some);
    shallow = (w.head.flat, is_shallow s.types.keys ν β 64 t.regions w.regions);
    bare = (w.head.bare, is_bare s.types.keys ν β 64 t.regions w.regions);
  }

  -- all definitions are those in the regions, by their numbers
  definitions : definitions_of text ≡ map ν (defined_in t.regions)
  definitions =
      (λ i. names_same kit_language.isolated s.types.keys ν β _ t.head.results w.head.shapes w.head.typed i
      ++ definitions_same kit_language.isolated s.types.keys ν β 64 t.regions w.regions i)
      ∙ ap (λ ds. map ν (names_of ds) ++ map ν (defined_in t.regions)) no_results

  -- so are all blocks
  blocks : blocks_of text ≡ map β (blocks_in t.regions)
  blocks = blocks_same s.types.keys ν β 64 t.regions w.regions

  -- what has the numbers of distinct things is numbered
  counted_so : {X : Type 0} (ns : List ℕ) (xs : List X) → ns ≡ range_with_len 0 (length xs)
      → ns ≡ range_with_len 0 (length ns)
  counted_so ns xs e =
      e ∙ ap (range_with_len 0) (sym (ap length e ∙ length-range_with_len 0 (length xs)))

  numbered : IsNumbered text
  numbered = record {
    values = counted_so (definitions_of text) (defined_in t.regions)
        (definitions ∙ are_numbered same_value (defined_in t.regions) distinct);
    blocks = counted_so (blocks_of text) (blocks_in t.regions)
        (blocks ∙ are_numbered (same_or_not {E = BasicBlock}) (blocks_in t.regions)
        (subst AreDistinct (blocks_found t.regions) apart));
  }

  pub has_text : HasText s root
  has_text = record {
    numbering = numbering;
    text = text;
    distinct = λ i j v x h k same.
        let vs = defined_in t.regions in
        let one = told v x (has_get vs i v h) (has_get vs j x k) same in
        distinct i j v h (subst (λ y. slice_get vs j ≡ Some y) (sym one) k);
    stands = has_tree;
    closed = closed;
    numbered = numbered;
  }
