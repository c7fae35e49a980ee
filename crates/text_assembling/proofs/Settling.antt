-- What a step that names or makes something does to the definitions, to the operations that wait, and to the world.
use Rattle.std.proofs.Common.{◌≡◌, ◌≢◌, ◌∙◌, ℕ, ◌+◌, inl, inr, List, [], ◌∷◌, ◌++◌, map, length, Option, Some, None, IsSome, slice_get, option_map, unwrap_or, sym, ap, subst, append-nil, Vec}
use Rattle.std.specs.Global.{Global}
use Rattle.std.proofs.lemmas.List.{map-append}
use Rattle.text_frames.specs.Worlds.{joined}
use Rattle.ir_base.specs.declared.types.TypeHandle.{TypeHandle}
use Rattle.ir_program.specs.Adds.{numbered_values}
use Rattle.ir_program.specs.declared.handles.BasicBlock.{BasicBlock}
use Rattle.ir_program.specs.declared.handles.DefiningEntity.{DefiningEntity}
use Rattle.ir_program.specs.declared.handles.IRNode.{IRNode}
use Rattle.ir_program.specs.declared.handles.IRNode.TheVariants.{BasicBlock as BlockNode}
use Rattle.ir_program.specs.declared.handles.Operation.{Operation}
use Rattle.ir_program.specs.declared.handles.Ptr.{Ptr}
use Rattle.ir_program.specs.declared.handles.Value.{Value}
use Rattle.ir_grammar.specs.Nesting.{Position, at_end, move}
use Rattle.ir_grammar.specs.declared.grammar.Action.{Action}
use Rattle.ir_formats.specs.Ordered.{Standing, moved_by}
use Rattle.text_dialect.specs.Seen.{SeenOperation, Seen}
use Rattle.text_frames.specs.building.Kept.{KeepsAllSeen}
use Rattle.text_frames.specs.building.Later.{IsLater}
use Rattle.text_frames.specs.building.Loose.{AreDistinctHandles, IsLooseBlock, values_of}
use Rattle.text_frames.proofs.BuildingLemmas.Later.{defined_later}
use Rattle.text_frames.proofs.BuildingLemmas.Options.{is_there, there}
use Rattle.text_frames.specs.Waiting.{Pending, Waiting}
use Rattle.text_frames.specs.declared.opened.Open.{Open}
use Rattle.text_frames.specs.Raised.{AreWaiting, HoldsAllNew, block_nodes}
use Rattle.text_frames.specs.Worlds.{AreAmong, NameTokens, LaterNames, LaterWorld, operands_of, successors_of, set_all, values_alone}
use Rattle.text_frames.proofs.Defining.{numbered_defined}
use Rattle.text_frames.proofs.LaterWorlds.{get_left, get_right, among_both, names_same, later_same, KeepsEach}
use Rattle.text_frames.proofs.Rising.{get_map, made_length, set_all_keeps}
use Rattle.text_assembling.specs.declared.assembling.Assembler.{Assembler}
use Rattle.text_assembling.specs.Assembling.{AreSettled, IsUnrooted, NamesOne, Stage, blocks_of, root_nodes, world_of}
use Rattle.text_assembling.proofs.Lists.{get_either, get_image, only_one, once_put}
use Rattle.text_assembling.proofs.SettledDefinitions.{numbers_split, settled_here}

-- ---- the root and the loose things

-- no root is made where an action has its place
pub unrooted : (p : Position) (x : Action) (around : List Position) (next : Standing) (root : Option (Ptr Operation)) → moved_by (move p x) around ≡ Some next → IsUnrooted p root → root ≡ None
unrooted at_end x around next root h none = cc
unrooted _ x around next root h none = none

pub still_unrooted : (p : Position) (root : Option (Ptr Operation)) → root ≡ None → IsUnrooted p root
still_unrooted at_end root e = tt
still_unrooted _ root e = e

module _ {D K A T : Type 0} where
  -- the loose things are the blocks that are in no region, and the root
  abbrev pub IsStacked : Assembler D K A T → Type 0
  IsStacked a = a.made.loose.items ≡ block_nodes (blocks_of a) ++ root_nodes a.made.root

  pub stack_same : (a c : Assembler D K A T) → blocks_of c ≡ blocks_of a → c.made.loose.items ≡ a.made.loose.items → c.made.root ≡ a.made.root → IsStacked a → IsStacked c
  stack_same a c blocks loose root h =
      loose ∙ (h ∙ (ap (λ (bs : List (Ptr BasicBlock)). block_nodes bs ++ root_nodes a.made.root) (sym blocks)
      ∙ ap (λ (r : Option (Ptr Operation)). block_nodes (blocks_of c) ++ root_nodes r) (sym root)))

  -- no root, and these blocks
  pub stack_blocks : (a : Assembler D K A T) (bs : List (Ptr BasicBlock)) → blocks_of a ≡ bs → a.made.root ≡ None → IsStacked a → a.made.loose.items ≡ block_nodes bs ++ []
  stack_blocks a bs blocks root h =
      h ∙ (ap (λ (cs : List (Ptr BasicBlock)). block_nodes cs ++ root_nodes a.made.root) blocks
      ∙ ap (λ (r : Option (Ptr Operation)). block_nodes bs ++ root_nodes r) root)

-- ---- a definition is named

module _ {D K A T : Type 0} (s : Stage K A T) (a c : Assembler D K A T) (names : NameTokens) where
  pub world_named : (more : NameTokens) → LaterNames names more → NamesOne a c → LaterWorld (world_of s a names) (world_of s c more)
  world_named more later new = record {
    ctx = later_same s.ctx;
    values = λ n x h. ap (λ (xs : List (Option Value)). slice_get xs n) new.values ∙ get_left a.made.values.items (None ∷ []) n (Some x) h;
    blocks = λ n b h. ap (λ (v : Vec (Ptr BasicBlock) Global). slice_get v.items n) new.blocks ∙ h;
    names = later;
    pending = λ i x h. ap (λ (xs : Waiting). slice_get xs.items i) new.pending ∙ h;
  }

module _ {D K A T : Type 0} (s : Stage K A T) (a : Assembler D K A T) (tokens : List ℕ) (counter : ℕ) where
  -- what is named innermost has no value yet
  pub here_waits : AreSettled s a tokens counter → (i n : ℕ) → slice_get a.here.numbers.items i ≡ Some n → slice_get a.made.values.items n ≡ Some None
  here_waits h i n at =
      let x = get_right (joined (map (λ (f : Open D K A T). f.numbers.items) a.around.items)) a.here.numbers.items i n at in
      h.waiting x.0 n (ap (λ (ns : List ℕ). slice_get ns x.0) (numbers_split a) ∙ x.1)

-- ---- what is named innermost is made

module _ {D K A T : Type 0} (s t : Stage K A T) (a c : Assembler D K A T) (e : DefiningEntity) (types : List TypeHandle) (names : NameTokens) (counter : ℕ)
    (later : IsLater s.ctx t.ctx) (many : length a.here.numbers.items ≡ length types)
    (values : c.made.values.items ≡ set_all a.here.numbers.items (values_alone (numbered_values e s.counter types)) a.made.values.items)
    (settled : AreSettled s a names.definitions counter) where
  pub settled_defined : c.around.items ≡ a.around.items → c.here.numbers.items ≡ [] → values_of t.ctx e ≡ numbered_values e s.counter types → t.counter ≡ s.counter + length types
      → AreSettled t c names.definitions counter
  settled_defined around numbers made given =
      let long : length (values_alone (numbered_values e s.counter types)) ≡ length types = made_length e s.counter types in
      settled_here s t a c names.definitions counter (values_alone (numbered_values e s.counter types)) around numbers values (long ∙ sym many)
      (λ i v at. numbered_defined t.ctx e s.counter types made i v at)
      (λ v h. defined_later s.ctx t.ctx later v h) (given ∙ ap (λ (n : ℕ). s.counter + n) (sym long)) settled

  pub world_defined : ((n : ℕ) (b : Ptr BasicBlock) → slice_get a.made.blocks.items n ≡ Some b → slice_get c.made.blocks.items n ≡ Some b)
      → ((i : ℕ) (x : Pending) → slice_get a.made.pending.items i ≡ Some x → slice_get c.made.pending.items i ≡ Some x)
      → LaterWorld (world_of s a names) (world_of t c names)
  world_defined blocks pending = record {
    ctx = later;
    values = λ n x at. ap (λ (xs : List (Option Value)). slice_get xs n) values
        ∙ set_all_keeps a.here.numbers.items (values_alone (numbered_values e s.counter types)) a.made.values.items (here_waits s a names.definitions counter settled) n x at;
    blocks = blocks;
    names = names_same names;
    pending = pending;
  }

-- ---- operations that wait

module _ {K A T : Type 0} (start : Seen K A T) where
  -- operations that wait do so where each operation is what it was
  pub waiting_kept : (s t : Seen K A T) (pending : List Pending) (names : NameTokens) → ((p : Ptr Operation) (o : SeenOperation K A) → s.operation p ≡ Some o → t.operation p ≡ Some o)
      → AreWaiting start s pending names → AreWaiting start t pending names
  waiting_kept s t pending names kept h = record {
    once = h.once;
    there = λ i x e. (let m = is_there (s.operation x.op) (h.there i x e) in there (t.operation x.op) m.0 (kept x.op m.0 m.1));
    came = h.came;
    empty = λ i x e. (let m = is_there (s.operation x.op) (h.there i x e) in
        ap (λ (o : Option (SeenOperation K A)). unwrap_or (option_map (λ (v : SeenOperation K A). v.operands) o) []) (kept x.op m.0 m.1 ∙ sym m.1) ∙ h.empty i x e);
    no_successors = λ i x e. (let m = is_there (s.operation x.op) (h.there i x e) in
        ap (λ (o : Option (SeenOperation K A)). unwrap_or (option_map (λ (v : SeenOperation K A). v.successors) o) []) (kept x.op m.0 m.1 ∙ sym m.1) ∙ h.no_successors i x e);
    among = h.among;
    labels_among = h.labels_among;
  }

  -- and where more names are read
  pub waiting_longer : (s : Seen K A T) (pending : List Pending) (names more : NameTokens) → LaterNames names more → AreWaiting start s pending names → AreWaiting start s pending more
  waiting_longer s pending names more later h = record {
    once = h.once;
    there = h.there;
    came = h.came;
    empty = h.empty;
    no_successors = h.no_successors;
    among = λ i x e. among_both x.tokens names.mentions more.mentions (h.among i x e) later.mentions;
    labels_among = λ i x e. among_both x.labels names.edges more.edges (h.labels_among i x e) later.edges;
  }

  -- one more operation waits, which wasn't there
  pub waiting_more : (s : Seen K A T) (pending : List Pending) (new : Pending) (o : SeenOperation K A) (names : NameTokens) → s.operation new.op ≡ Some o → o.operands ≡ [] → o.successors ≡ []
      → start.operation new.op ≡ None → ((i : ℕ) (x : Pending) → slice_get pending i ≡ Some x → x.op ≢ new.op) → AreAmong new.tokens names.mentions → AreAmong new.labels names.edges
      → AreWaiting start s pending names → AreWaiting start s (pending ++ new ∷ []) names
  waiting_more s pending new o names at none no_edge fresh other among labels h = record {
    once = subst (λ (ps : List (Ptr Operation)). AreDistinctHandles ps) (sym (map-append (λ (x : Pending). x.op) pending (new ∷ [])))
        (once_put (map (λ (x : Pending). x.op) pending) new.op h.once (λ k e. not_there k e));
    there = λ i x e. elim (get_either pending (new ∷ []) i x e) [
      | inl f ↦ h.there i x f
      | inr f ↦ subst (λ (y : Pending). IsSome (s.operation y.op)) (only_one new f.0 x f.1).1 (there (s.operation new.op) o at)
    ];
    came = λ i x e. elim (get_either pending (new ∷ []) i x e) [
      | inl f ↦ h.came i x f
      | inr f ↦ subst (λ (y : Pending). start.operation y.op ≡ None) (only_one new f.0 x f.1).1 fresh
    ];
    empty = λ i x e. elim (get_either pending (new ∷ []) i x e) [
      | inl f ↦ h.empty i x f
      | inr f ↦ subst (λ (y : Pending). operands_of s y.op ≡ []) (only_one new f.0 x f.1).1
          (ap (λ (u : Option (SeenOperation K A)). unwrap_or (option_map (λ (v : SeenOperation K A). v.operands) u) []) at ∙ none)
    ];
    among = λ i x e. elim (get_either pending (new ∷ []) i x e) [
      | inl f ↦ h.among i x f
      | inr f ↦ subst (λ (y : Pending). AreAmong y.tokens names.mentions) (only_one new f.0 x f.1).1 among
    ];
    no_successors = λ i x e. elim (get_either pending (new ∷ []) i x e) [
      | inl f ↦ h.no_successors i x f
      | inr f ↦ subst (λ (y : Pending). successors_of s y.op ≡ []) (only_one new f.0 x f.1).1
          (ap (λ (u : Option (SeenOperation K A)). unwrap_or (option_map (λ (v : SeenOperation K A). v.successors) u) []) at ∙ no_edge)
    ];
    labels_among = λ i x e. elim (get_either pending (new ∷ []) i x e) [
      | inl f ↦ h.labels_among i x f
      | inr f ↦ subst (λ (y : Pending). AreAmong y.labels names.edges) (only_one new f.0 x f.1).1 labels
    ];
  }
    where
      not_there : (k : ℕ) → slice_get (map (λ (x : Pending). x.op) pending) k ≡ Some new.op → ⊥
      not_there k e = let m = get_map (λ (x : Pending). x.op) pending k new.op e in other k m.0 m.1 m.2

-- ---- blocks that are in no region

module _ {D K A T : Type 0} where
  pub of_stack : (a : Assembler D K A T) (bs : List (Ptr BasicBlock)) → blocks_of a ≡ bs → a.made.root ≡ None → IsStacked a → a.made.loose.items ≡ block_nodes bs
  of_stack a bs blocks root h = stack_blocks a bs blocks root h ∙ append-nil (block_nodes bs)

  pub stack_of : (c : Assembler D K A T) (bs : List (Ptr BasicBlock)) → blocks_of c ≡ bs → c.made.root ≡ None → c.made.loose.items ≡ block_nodes bs → IsStacked c
  stack_of c bs blocks root loose =
      loose ∙ (sym (append-nil (block_nodes bs)) ∙ (ap (λ (cs : List (Ptr BasicBlock)). block_nodes cs ++ []) (sym blocks)
      ∙ ap (λ (r : Option (Ptr Operation)). block_nodes (blocks_of c) ++ root_nodes r) (sym root)))

module _ {K A T : Type 0} (start s : Seen K A T) (xs : List IRNode) (bs : List (Ptr BasicBlock)) (held : HoldsAllNew start s xs) (is : xs ≡ block_nodes bs) where
  -- each of them is loose
  pub each_loose : (i : ℕ) (b : Ptr BasicBlock) → slice_get bs i ≡ Some b → IsLooseBlock s b
  each_loose i b at = held.loose.loose i (BlockNode b) (ap (λ (ys : List IRNode). slice_get ys i) is ∙ get_image BlockNode bs i b at)

  -- and stays as it was where all is kept
  pub each_kept : (t : Seen K A T) → KeepsAllSeen s t → KeepsEach s t bs
  each_kept t keeps b i at = let m = is_there (s.block b) (each_loose i b at).there in keeps.blocks b m.0 m.1 ∙ sym m.1
