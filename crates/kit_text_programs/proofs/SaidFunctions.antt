-- The flat view of a function that stands for a text is, by the numbers of its values, what the text says.
use Rattle.std.proofs.Common.{◌≡◌, ℕ, zero, suc, ◌+◌, List, [], ◌∷◌, ◌++◌, map, take, drop, length, Some, slice_get, option_map, refl, arith}
use Rattle.std.proofs.Common.{sym, ap, ◌∙◌, subst}
use Rattle.std.specs.Prelude.{nat_eq, unwrap_or}
use Rattle.std.proofs.lemmas.List.{append-nil, length-append, length-map, map-append}
use Rattle.std.proofs.Math.Seq.{take-append_seam, drop-append_seam, take-length}
use Rattle.std.proofs.lemmas.Option.{same_Some}
use Rattle.ir_print.specs.Pieces.{ValueTree, Pieces, operation, a_region, block, entity, Entities, no_entity, an_entity}
use Rattle.ir_print.specs.Shown.{Pairs}
use Rattle.ir_program.specs.Program.{OperationView, BlockView, RegionView, TypedValue, operation_at, block_at}
use Rattle.ir_program.specs.Program.{region_at}
use Rattle.ir_program.specs.declared.handles.Ptr.{Ptr}
use Rattle.ir_program.specs.declared.handles.Operation.{Operation}
use Rattle.ir_program.specs.declared.handles.Region.{Region}
use Rattle.ir_program.specs.declared.handles.BasicBlock.{BasicBlock}
use Rattle.ir_program.specs.declared.handles.Value.{Value}
use Rattle.ir_trees.specs.Renames.{names_of}
use Rattle.ir_trees.specs.Stands.{by_handle, in_program, head_of, defined_by, AreTree, no_operations, no_blocks}
use Rattle.ir_trees.specs.Stands.{first_operation, first_block}
use Rattle.ir_trees.specs.Trees.{Sort, Operations, Blocks, Tree}
use Rattle.ir_types.specs.Interned.{key_at}
use Rattle.kit.specs.Context.{KitContext}
use Rattle.opt_trees.specs.Occurrences.{types_of}
use Rattle.text_dialect.specs.Seen.{SeenOperation, SeenBlock, seen, seen_operation, seen_block}
use Rattle.text_dialect.specs.Standing.{HasDefinition, HasHead, HaveBlockTrees, HaveTrees}
use Rattle.text_rereading.specs.Rereading.{Numbering, Named}
use Rattle.kit.specs.Meaning.{KitOperation, KitBlock}
use Rattle.kit_ops.specs.declared.attributes.KitAttr.{KitAttr}
use Rattle.kit_ops.specs.declared.kinds.KitOp.{KitOp}
use Rattle.kit_ops.specs.declared.kinds.KitOp.TheVariants as ops
use Rattle.kit.specs.Forms.{number_of, read_ops}
use Rattle.kit.specs.Says.{says}
use Rattle.kit_behaviour.specs.Machine.{Arith, Calculated, Compared, Edge, Plain, Nonzero, Cases}
use Rattle.kit_behaviour.specs.Machine.{Op, Const, Calc, Emit, Call, Branch, Return, Block, Fun, left_in, arguments_in}
use Rattle.kit_behaviour.specs.Numbering.{AnyBlock}
use Rattle.kit_behaviour.specs.Renaming.{rename_op, rename_block, same_block, AllNamed, OpNamed, OpsNamed}
use Rattle.kit_behaviour.proofs.ControlFlow.NamedPlacing.{AreNamed}
use Rattle.kit_views.specs.FlatView.{kind_of, IsOp, AreOps, AreFlatBlocks}
use Rattle.kit_views.specs.Reading.{kit_reading}
use Rattle.kit_text_programs.specs.Laws.{HaveOwnNumbers}
use Rattle.kit_text_programs.proofs.SaidPrograms.{width_said, bits_said, first_in, second_in, op_said, numbers_in}
use Rattle.kit_text_programs.proofs.SaidPrograms.{name_said, sizes_said, edge_said, place_among, widths_in, ops_said, blocks_said}
use Rattle.kit_text_programs.proofs.ValueNumbers.{found, numbers_same, number_of_value, HasNumber, number_is}
use Rattle.kit_text_programs.proofs.AlikeLists.{beside, before}
use Rattle.kit_checks.specs.Words.{segment, sizes_or_none}
use Rattle.ir_trees.specs.Searched.{AreDistinct}
use Rattle.kit.specs.Readable.{numbered_kind}
use Rattle.kit_text_programs.proofs.SaidHeads.{said_parts, width_shown, bits_shown, callee_shown}
use Rattle.kit_text_programs.proofs.ReadHeads.{sizes_shown}
use Rattle.kit_text_programs.proofs.Unlabelled.{HasSomeLabel}

-- parts of trees of operations of `kit`
abbrev pub KitPart : Sort → Type 0
KitPart k = Tree by_handle (in_program KitOperation KitBlock) k

first_same : {X : Type 0} (x y : X) (xs ys : List X) → x ∷ xs ≡ y ∷ ys → x ≡ y
first_same x y xs ys e = cc

-- how many operands the second edge hands on
behind : (n k m a b : ℕ) → n ≡ suc (k + m) → k ≡ a → 1 + (a + b) ≡ n → m ≡ b
behind n k m a b e f g = omega arith

-- arithmetic that is read is that of its kind
calc_said : (numbered : List ℕ → ℕ) (f : Arith) (ds ws us bs : List ℕ) (ps : Pieces)
    → op_said numbered (Some (kind_of f)) ds ws us bs ps
    ≡ Calc f (first_in ws) (first_in ds) (first_in us) (second_in us)
calc_said numbered (Calculated a) ds ws us bs ps = refl
calc_said numbered (Compared c) ds ws us bs ps = refl

-- what is handed on along two edges, of the operands of a conditional branch
first_segment : (x : ℕ) (us vs : List ℕ) (a b : ℕ) → length us ≡ a → segment (x ∷ (us ++ vs)) (1 ∷ a ∷ b ∷ []) 1 ≡ us
first_segment x us vs a b long = ap (λ n. take n (us ++ vs)) (sym long) ∙ take-append_seam us vs

second_segment : (x : ℕ) (us vs : List ℕ) (a b : ℕ) → length us ≡ a → length vs ≡ b
    → segment (x ∷ (us ++ vs)) (1 ∷ a ∷ b ∷ []) 2 ≡ vs
second_segment x us vs a b long more =
    ap (λ n. take b (drop n (us ++ vs))) (sym long) ∙ ap (take b) (drop-append_seam us vs)
    ∙ ap (λ n. take n vs) (sym more) ∙ take-length vs

module _ (s : KitContext) (numbering : Numbering) (own : HaveOwnNumbers numbering) (numbered : List ℕ → ℕ) where
  -- values by their numbers in the text
  abbrev by_number : Value → ℕ
  by_number = number_of_value numbering own

  abbrev IsNumbered : Value → Type 0
  IsNumbered = HasNumber numbering own

  abbrev numbered_op : Op Value → Op ℕ
  numbered_op = rename_op by_number same_block

  -- ---- lists

  uses_said : (vs : List Value) (ns : List ℕ) → Pairs (Named numbering).value vs ns
      → (map by_number vs ≡ ns) × AllNamed IsNumbered vs
  uses_said [] [] h = (refl, tt)
  uses_said [] (n ∷ ns) h = absurd h
  uses_said (v ∷ vs) [] h = absurd h
  uses_said (v ∷ vs) (n ∷ ns) h =
      let rest = uses_said vs ns h.1 in (
        ap (λ (k : ℕ). k ∷ map by_number vs) (number_is numbering own v n h.0)
            ∙ ap (λ (ks : List ℕ). n ∷ ks) rest.0,
        ((n, h.0), rest.1),
      )

  -- definitions have the numbers and the widths that are written
  record AreSaid (vs : List TypedValue) (xs : List (ℕ × ValueTree)) : Type 0 where
    numbers : map by_number (names_of (map defined_by vs)) ≡ numbers_in xs
    widths : map (kit_reading (key_at s.types) numbered).width (types_of (map defined_by vs)) ≡ widths_in xs
    named : AllNamed IsNumbered (names_of (map defined_by vs))

  defines_said : (vs : List TypedValue) (xs : List (ℕ × ValueTree))
      → Pairs (HasDefinition says (Named numbering) s.types.keys) vs xs → AreSaid vs xs
  defines_said [] [] h = record { numbers = refl; widths = refl; named = tt }
  defines_said [] (x ∷ xs) h = absurd h
  defines_said (v ∷ vs) [] h = absurd h
  defines_said (v ∷ vs) (x ∷ xs) h =
      let rest = defines_said vs xs h.1 in
      record {
        numbers = ap (λ (k : ℕ). k ∷ map by_number (names_of (map defined_by vs)))
            (number_is numbering own v.value x.0 h.0.0)
            ∙ ap (λ (ks : List ℕ). x.0 ∷ ks) rest.numbers;
        widths = ap (λ (k : ℕ). k ∷ map (kit_reading (key_at s.types) numbered).width (types_of (map defined_by vs)))
            (width_shown s.types.keys v.ty x.1 h.0.1) ∙ ap (λ (ks : List ℕ). width_said x.1 ∷ ks) rest.widths;
        named = ((x.0, h.0.0), rest.named);
      }

  -- values that are named in two lists
  named_parts : (vs us : List Value) → AllNamed IsNumbered (vs ++ us) → AllNamed IsNumbered vs × AllNamed IsNumbered us
  named_parts [] us h = (tt, h)
  named_parts (v ∷ vs) us h = let rest = named_parts vs us h.1 in ((h.0, rest.0), rest.1)

  -- ---- blocks of a function

  -- the blocks with these names have these numbers, and no name comes twice
  pub record ArePlaces (names : List (Ptr BasicBlock)) (targets : List ℕ) : Type 0 where
    pub numbers : Pairs (Named numbering).block names targets
    pub apart : AreDistinct names

  module _ (names : List (Ptr BasicBlock)) (targets : List ℕ) (places : ArePlaces names targets) where
    -- a block that stands at a place is found there by its number
    placed : (b : Ptr BasicBlock) (n k : ℕ) → (Named numbering).block b n → slice_get names k ≡ Some b
        → k ≡ place_among targets n
    placed b n k named at =
        let other = beside (Named numbering).block names targets places.numbers k b at in
        let number : other.0 ≡ n = own.blocks other.0 n b other.2 named in
        let there = found nat_eq numbers_same n targets k (other.1 ∙ ap Some number) in
        let back = before (Named numbering).block names targets places.numbers there.0 n there.2 in
        let same : back.0 ≡ b = same_Some back.0 b (sym back.2 ∙ named) in
        places.apart k there.0 b at (back.1 ∙ ap Some same) ∙ sym (ap (λ o. unwrap_or o 0) there.1)

    -- so edges lead to the places of successors
    edges_placed : (bs : List (Ptr BasicBlock)) (es : List (Edge Value)) (ns : List ℕ)
        → map Some bs ≡ map (λ (e : Edge Value). slice_get names e.target) es → Pairs (Named numbering).block bs ns
        → map (λ (e : Edge Value). e.target) es ≡ map (place_among targets) ns
    edges_placed [] [] [] e h = refl
    edges_placed [] es (n ∷ ns) e h = absurd h
    edges_placed [] (x ∷ es) [] e h = cc
    edges_placed (b ∷ bs) es [] e h = absurd h
    edges_placed (b ∷ bs) [] (n ∷ ns) e h = cc
    edges_placed (b ∷ bs) (x ∷ es) (n ∷ ns) e h =
        let at : Some b ≡ slice_get names x.target = cc in
        let rest : map Some bs ≡ map (λ (y : Edge Value). slice_get names y.target) es = cc in
        let first = placed b n x.target h.0 (sym at) in
        let others = edges_placed bs es ns rest h.1 in
        λ i. first i ∷ others i

  -- ---- operations

  module _ (names : List (Ptr BasicBlock)) (targets : List ℕ) (places : ArePlaces names targets) (p : Ptr Operation)
      (v : OperationView KitOperation) (kind : ℕ) (results : List (ℕ × ValueTree)) (used successors : List ℕ) (pieces : Pieces)
      (h : HasHead says (Named numbering) s.types.keys (seen_operation v) kind results used successors pieces) where
    abbrev IsFlatOp : Op Value → Type 0
    IsFlatOp op = IsOp (kit_reading (key_at s.types) numbered) names (head_of p v) op

    -- the places of its successors
    abbrev goes : List ℕ
    goes = map (place_among targets) successors

    abbrev said_op : Op ℕ
    said_op = op_said numbered (slice_get read_ops kind) (numbers_in results) (widths_in results) used goes pieces

    has_number : number_of v.payload.kind ≡ Some kind
    has_number = (said_parts v.payload.kind v.payload.notes.attributes (length v.operands)
        (map (λ x. x.ty) v.results) kind h.said h.says_it).2

    at_kind : (k : KitOp) → v.payload.kind ≡ k → slice_get read_ops kind ≡ Some k
    at_kind k is = numbered_kind v.payload.kind kind has_number ∙ ap Some is

    said_by : (k : KitOp) → v.payload.kind ≡ k
        → op_said numbered (Some k) (numbers_in results) (widths_in results) used goes pieces ≡ said_op
    said_by k is = ap (λ o. op_said numbered o (numbers_in results) (widths_in results) used goes pieces) (sym (at_kind k is))

    defined : AreSaid v.results results
    defined = defines_said v.results results h.defines

    uses : (map by_number v.operands ≡ used) × AllNamed IsNumbered v.operands
    uses = uses_said v.operands used h.mentions

    -- the flat operation is what is said, and its values have numbers
    abbrev IsSaidOp : Op Value → Type 0
    IsSaidOp op = (numbered_op op ≡ said_op) × OpNamed IsNumbered AnyBlock op

    defines_one : (x : Value) → names_of (map defined_by v.results) ≡ x ∷ []
        → (by_number x ≡ first_in (numbers_in results)) × IsNumbered x
    defines_one x e = (
      ap first_in (ap (map by_number) (sym e) ∙ defined.numbers),
      (subst (AllNamed IsNumbered) e defined.named).0,
    )

    op_same : (op : Op Value) → IsFlatOp op → IsSaidOp op
    op_same (Const x n) is =
        let def = defines_one x is.0.results in
        let bits : n ≡ bits_said pieces = sym is.1
        ∙ bits_shown s.types.keys v.payload.kind v.payload.notes.attributes (length v.operands)
        (map (λ y. y.ty) v.results) kind h.said pieces h.says_it h.shown is.0.kind in (
          ap (Const (by_number x)) bits ∙ ap (λ (k : ℕ). Const k (bits_said pieces)) def.0
              ∙ said_by ops.Constant is.0.kind,
          def.1,
        )
    op_same (Calc f w x y z) is =
        let def = defines_one x is.0.results in
        let operands : by_number y ∷ by_number z ∷ [] ≡ used = ap (map by_number) (sym is.0.operands) ∙ uses.0 in
        let width : w ≡ first_in (widths_in results) = ap first_in (sym is.1 ∙ defined.widths) in
        let named = subst (AllNamed IsNumbered) is.0.operands uses.1 in (
          ap (λ (k : ℕ). Calc f k (by_number x) (by_number y) (by_number z)) width
              ∙ ap (λ (k : ℕ). Calc f (first_in (widths_in results)) k (by_number y) (by_number z)) def.0
              ∙ ap (λ (us : List ℕ). Calc f (first_in (widths_in results)) (first_in (numbers_in results))
              (first_in us) (second_in us)) operands
              ∙ sym (calc_said numbered f (numbers_in results) (widths_in results) used goes pieces)
              ∙ said_by (kind_of f) is.0.kind,
          (def.1, named.0, named.1.0),
        )
    op_same (Emit x) is =
        let operands : by_number x ∷ [] ≡ used = ap (map by_number) (sym is.operands) ∙ uses.0 in
        let named = subst (AllNamed IsNumbered) is.operands uses.1 in
        (ap (λ (us : List ℕ). Emit (first_in us)) operands ∙ said_by ops.Emit is.kind, named.0)
    op_same (Call rs c xs) is =
        let defines : map by_number rs ≡ numbers_in results = ap (map by_number) (sym is.0.results) ∙ defined.numbers in
        let takes : map by_number xs ≡ used = ap (map by_number) (sym is.0.operands) ∙ uses.0 in
        let called : c ≡ numbered (name_said pieces) = sym is.1
        ∙ callee_shown s.types.keys numbered v.payload.kind v.payload.notes.attributes (length v.operands)
        (map (λ y. y.ty) v.results) kind h.said pieces h.says_it h.shown is.0.kind in (
          (λ i. Call (defines i) (called i) (takes i)) ∙ said_by ops.Call is.0.kind,
          (subst (AllNamed IsNumbered) is.0.results defined.named, subst (AllNamed IsNumbered) is.0.operands uses.1),
        )
    op_same (Branch Plain [] e []) is =
        let hands : map by_number e.forwards ≡ used =
        ap (map by_number) (sym (append-nil e.forwards) ∙ sym is.0.operands) ∙ uses.0 in
        let place : e.target ≡ first_in goes =
        ap first_in (edges_placed names targets places v.successors (e ∷ []) successors is.0.successors h.goes_on) in (
          (λ i. Branch Plain [] (edge_said (place i) (hands i)) []) ∙ said_by ops.Br is.0.kind,
          (tt, ((tt, subst (AllNamed IsNumbered) (is.0.operands ∙ append-nil e.forwards) uses.1), tt)),
        )
    op_same (Branch Plain (x ∷ xs) e es) is = let long = is.1 in absurd (omega arith)
    op_same (Branch Plain [] e (f ∷ es)) is = let long = is.2 in absurd (omega arith)
    op_same (Branch Nonzero (x ∷ []) e (f ∷ [])) is =
        let ones = map by_number e.forwards in
        let twos = map by_number f.forwards in
        let all : v.operands ≡ x ∷ (e.forwards ++ f.forwards) =
        is.0.operands ∙ ap (λ vs. x ∷ (e.forwards ++ vs)) (append-nil f.forwards) in
        let takes : by_number x ∷ (ones ++ twos) ≡ used =
        ap (λ ns. by_number x ∷ ns) (sym (map-append by_number e.forwards f.forwards))
        ∙ ap (map by_number) (sym all) ∙ uses.0 in
        let sizes = sizes_shown s.types.keys v.payload.kind v.payload.notes.attributes (length v.operands)
        (map (λ y. y.ty) v.results) kind h.said pieces h.says_it h.shown is.0.kind in
        let a = sizes.first in
        let b = sizes.second in
        let ones_long : length ones ≡ a = length-map e.forwards by_number ∙ sym is.3 ∙ sizes.first_is in
        let many : length v.operands ≡ suc (length e.forwards + length f.forwards) =
        ap length all ∙ ap suc (length-append e.forwards f.forwards) in
        let ones_flat : length e.forwards ≡ a = sym is.3 ∙ sizes.first_is in
        let twos_flat : length f.forwards ≡ b = behind (length v.operands) (length e.forwards) (length f.forwards) a b many
        ones_flat sizes.adds_up in
        let twos_long : length twos ≡ b = length-map f.forwards by_number ∙ twos_flat in
        let segmented : (i : ℕ) → segment (by_number x ∷ (ones ++ twos)) (1 ∷ a ∷ b ∷ []) i ≡ segment used (sizes_said pieces) i =
        (λ i. ap (λ ns. segment ns (1 ∷ a ∷ b ∷ []) i) takes ∙ ap (λ zs. segment used (sizes_or_none zs) i) (sym sizes.told)) in
        let chosen : by_number x ∷ [] ≡ segment used (sizes_said pieces) 0 = segmented 0 in
        let first : ones ≡ segment used (sizes_said pieces) 1 =
        sym (first_segment (by_number x) ones twos a b ones_long) ∙ segmented 1 in
        let second : twos ≡ segment used (sizes_said pieces) 2 =
        sym (second_segment (by_number x) ones twos a b ones_long twos_long) ∙ segmented 2 in
        let placed : e.target ∷ f.target ∷ [] ≡ goes =
        edges_placed names targets places v.successors (e ∷ f ∷ []) successors is.0.successors h.goes_on in
        let named = subst (AllNamed IsNumbered) all uses.1 in
        let parts = named_parts e.forwards f.forwards named.1 in (
          (λ i. Branch Nonzero (chosen i) (edge_said (first_in (placed i)) (first i))
              (edge_said (second_in (placed i)) (second i) ∷ [])) ∙ said_by ops.CondBr is.0.kind,
          ((named.0, tt), ((tt, parts.0), ((tt, parts.1), tt))),
        )
    op_same (Branch Nonzero [] e es) is = let long = is.1 in absurd (omega arith)
    op_same (Branch Nonzero (x ∷ y ∷ xs) e es) is = let long = is.1 in absurd (omega arith)
    op_same (Branch Nonzero (x ∷ []) e []) is = let long = is.2 in absurd (omega arith)
    op_same (Branch Nonzero (x ∷ []) e (f ∷ g ∷ es)) is = let long = is.2 in absurd (omega arith)
    op_same (Branch (Cases ns) xs e es) is = absurd is
    op_same (Return xs) is =
        let operands : map by_number xs ≡ used = ap (map by_number) (sym is.operands) ∙ uses.0 in
        (ap Return operands ∙ said_by ops.Return is.kind, subst (AllNamed IsNumbered) is.operands uses.1)

  -- ---- what handles lead to

  pub same_operation : (p : Ptr Operation) (v : OperationView KitOperation) (o : SeenOperation KitOp KitAttr)
      → operation_at s.program p ≡ Some v → (seen s).operation p ≡ Some o → seen_operation v ≡ o
  same_operation p v o there h = same_Some (seen_operation v) o (sym (ap (option_map seen_operation) there) ∙ h)

  pub same_label : (b : Ptr BasicBlock) (v : BlockView KitBlock) (o : SeenBlock)
      → block_at s.program b ≡ Some v → (seen s).block b ≡ Some o → seen_block v ≡ o
  same_label b v o there h = same_Some (seen_block v) o (sym (ap (option_map seen_block) there) ∙ h)

  pub same_region : (r : Ptr Region) (v : RegionView) (bs : List (Ptr BasicBlock))
      → region_at s.program r ≡ Some v → (seen s).region r ≡ Some bs → v.blocks ≡ bs
  same_region r v bs there h = same_Some v.blocks bs (sym (ap (option_map (λ x. x.blocks)) there) ∙ h)

  -- ---- blocks

  module _ (names : List (Ptr BasicBlock)) (targets : List ℕ) (places : ArePlaces names targets) where
    abbrev AreFlatOps : KitPart Operations → List (Op Value) → Type 0
    AreFlatOps x os = AreOps (kit_reading (key_at s.types) numbered) names x os

    ops_same : (ps : List (Ptr Operation)) (x : KitPart Operations) (ts : Entities ℕ) (os : List (Op Value))
        → AreTree s.program Operations ps x → HaveTrees says (Named numbering) HasSomeLabel (seen s) ps ts
        → AreFlatOps x os → (map numbered_op os ≡ ops_said numbered targets ts) × OpsNamed IsNumbered AnyBlock os
    ops_same [] x no_entity [] no_operations h are = (refl, tt)
    ops_same [] x no_entity (op ∷ os) no_operations h are = absurd are
    ops_same [] x (an_entity t ts) os no_operations h are = absurd h
    ops_same (p ∷ ps) x ts [] (first_operation _ _ v rs rest there inner after) h are = absurd are
    ops_same (p ∷ ps) x no_entity (op ∷ os) (first_operation _ _ v rs rest there inner after) h are = absurd h
    ops_same (p ∷ ps) x (an_entity (entity (operation kind results used successors pieces) us) ts) (op ∷ os)
        (first_operation _ _ v rs rest there inner after) h are =
        let here = h.0 in
        let is : seen_operation v ≡ here.0 = same_operation p v here.0 there here.1 in
        let head = subst (λ o. HasHead says (Named numbering) s.types.keys o kind results used successors pieces) (sym is) here.2 in
        let first = op_same names targets places p v kind results used successors pieces head op are.1 in
        let others = ops_same ps rest ts os after h.1 are.2 in (
          ap (λ (o : Op ℕ). o ∷ map numbered_op os) first.0
              ∙ ap (λ (qs : List (Op ℕ)). op_said numbered (slice_get read_ops kind) (numbers_in results)
              (widths_in results) used (map (place_among targets) successors) pieces ∷ qs) others.0,
          (first.1, others.1),
        )
    ops_same (p ∷ ps) x (an_entity (entity a_region us) ts) (op ∷ os)
        (first_operation _ _ v rs rest there inner after) h are = absurd h.0
    ops_same (p ∷ ps) x (an_entity (entity (block named label arguments) us) ts) (op ∷ os)
        (first_operation _ _ v rs rest there inner after) h are = absurd h.0

    -- the values of blocks have numbers
    abbrev BlocksNamed : Fun Value → Type 0
    BlocksNamed [] = Unit {0}
    BlocksNamed (k ∷ ks) = AllNamed IsNumbered k.arguments × OpsNamed IsNumbered AnyBlock k.ops × BlocksNamed ks

    ops_named : (f : Fun Value) → BlocksNamed f → (b : ℕ) → OpsNamed IsNumbered AnyBlock (left_in (Some f) b 0)
    ops_named [] h b = tt
    ops_named (k ∷ ks) h zero = h.1
    ops_named (k ∷ ks) h (suc b) = ops_named ks h.2 b

    arguments_named : (f : Fun Value) → BlocksNamed f → (b : ℕ) → AllNamed IsNumbered (arguments_in (Some f) b)
    arguments_named [] h b = tt
    arguments_named (k ∷ ks) h zero = h.0
    arguments_named (k ∷ ks) h (suc b) = arguments_named ks h.2 b

    pub all_named : (f : Fun Value) → BlocksNamed f → AreNamed IsNumbered (Some f)
    all_named f h = record { ops = ops_named f h; arguments = arguments_named f h }

    pub blocks_same : (bs : List (Ptr BasicBlock)) (x : KitPart Blocks) (ts : Entities ℕ) (f : Fun Value)
        → AreTree s.program Blocks bs x → HaveBlockTrees says (Named numbering) HasSomeLabel (seen s) bs ts
        → AreFlatBlocks (kit_reading (key_at s.types) numbered) names x f
        → (map (rename_block by_number) f ≡ blocks_said numbered targets ts) × BlocksNamed f
    blocks_same [] x no_entity [] no_blocks h are = (refl, tt)
    blocks_same [] x no_entity (k ∷ ks) no_blocks h are = absurd are
    blocks_same [] x (an_entity t ts) f no_blocks h are = absurd h
    blocks_same (b ∷ bs) x ts [] (first_block _ _ v os rest there inner after) h are = absurd are
    blocks_same (b ∷ bs) x no_entity (k ∷ ks) (first_block _ _ v os rest there inner after) h are = absurd h
    blocks_same (b ∷ bs) x (an_entity (entity (block named label arguments) us) ts) (k ∷ ks)
        (first_block _ _ v os rest there inner after) h are =
        let here = h.0 in
        let is : seen_block v ≡ here.0 = same_label b v here.0 there here.1 in
        let defines =
        subst (λ (o : SeenBlock). Pairs (HasDefinition says (Named numbering) s.types.keys) o.arguments arguments)
        (sym is) here.4 in
        let trees = subst (λ (o : SeenBlock). HaveTrees says (Named numbering) HasSomeLabel (seen s) o.operations us)
        (sym is) here.5 in
        let takes = defines_said v.arguments arguments defines in
        let numbers : map by_number k.arguments ≡ numbers_in arguments = ap (map by_number) (sym are.0)
        ∙ takes.numbers in
        let inside = ops_same v.operations os us k.ops inner trees are.1 in
        let others = blocks_same bs rest ts ks after h.1 are.2 in (
          ap (λ (c : Block ℕ). c ∷ map (rename_block by_number) ks)
              (ap (λ (ns : List ℕ). record { arguments = ns; ops = map numbered_op k.ops }) numbers
              ∙ ap (λ (qs : List (Op ℕ)). record { arguments = numbers_in arguments; ops = qs }) inside.0)
              ∙ ap (λ (cs : Fun ℕ). record { arguments = numbers_in arguments; ops = ops_said numbered targets us } ∷ cs) others.0,
          (subst (AllNamed IsNumbered) are.0 takes.named, inside.1, others.1),
        )
    blocks_same (b ∷ bs) x (an_entity (entity (operation kind results used successors pieces) us) ts) (k ∷ ks)
        (first_block _ _ v os rest there inner after) h are = absurd h.0
    blocks_same (b ∷ bs) x (an_entity (entity a_region us) ts) (k ∷ ks)
        (first_block _ _ v os rest there inner after) h are = absurd h.0
