-- Where blocks are joined in a program, the tree of an operation is the old one with its chains joined.
use Rattle.std.proofs.Common.{◌≡◌, inl, inr, ⊎_elim, Bool, true, false, List, [], ◌∷◌, ◌++◌, map, Some, None, option_map, unwrap_or, refl, sym, ap, ◌∙◌, subst}
use Rattle.std.specs.Prelude.{if◌then◌else◌}
use Rattle.ir_program.specs.Lists.{operations_in}
use Rattle.ir_program.specs.Program.{Program, OperationView, BlockView, RegionView, operation_at, block_at, region_at}
use Rattle.ir_program.specs.declared.handles.Ptr.{Ptr}
use Rattle.ir_program.specs.declared.handles.Operation.{Operation}
use Rattle.ir_program.specs.declared.handles.Region.{Region}
use Rattle.ir_program.specs.declared.handles.BasicBlock.{BasicBlock}
use Rattle.ir_program.specs.declared.handles.Value.{Value}
use Rattle.ir_trees.proofs.Members.{Has}
use Rattle.ir_trees.specs.Stands.{by_handle, in_program, ProgramTree, Handles, StandsFor, head_of, label_of, AreTree, no_operations, no_blocks, no_regions, first_operation, first_block, first_region}
use Rattle.ir_trees.specs.Trees.{Sort, Operations, Blocks, Regions, Tree, end, operation, block, region}
use Rattle.opt_inside.specs.Occurring.{FoundBlock}
use Rattle.opt_trees.specs.Dialect.{Dialect}
use Rattle.opt_trees.specs.Occurrences.{block_occurrences_of}
use Rattle.opt_trees.specs.Simplify.{StartingRegions, Joinable, Joins, ends, operations, regions, taken, first, chain_ends, chain_goes_on, use_head, use_instead, but_last, append}
use Rattle.opt_chains.specs.Merging.{front, without, along}

-- what is known of the blocks of a tree and of its program after they were joined: which blocks are joined behind each
-- (none behind those that went), which went, and what stands for each value
pub record IsMerged {O B A : Type 0} (d : Dialect (in_program O B) A) (old new : Program O B) (t : ProgramTree O B) (names : Value → Value) (behind : Ptr BasicBlock → List (Ptr BasicBlock)) (gone : Ptr BasicBlock → Bool) (is_left : Ptr Operation → Type 0) : Type 0 where
  pub operation : (p : Ptr Operation) (v : OperationView O) → is_left p → operation_at old p ≡ Some v → operation_at new p ≡ Some (record v { operands = map names v.operands })
  pub block : (b : Ptr BasicBlock) (v : BlockView B) → gone b ≡ false → block_at old b ≡ Some v → block_at new b ≡ Some (record v { operations = along old v.operations (behind b) })
  pub region : (r : Ptr Region) (v : RegionView) → region_at old r ≡ Some v → (w : RegionView) × (region_at new r ≡ Some w) × (w.blocks ≡ without gone v.blocks)

module _ {O B A : Type 0} (d : Dialect (in_program O B) A) (place : StartingRegions by_handle) (old : Program O B) (t : ProgramTree O B) where
  -- the blocks are a chain behind b, to its end, and only the last of them has a last operation that is left
  pub data IsChain (is_left : Ptr Operation → Type 0) : Ptr BasicBlock → List (Ptr BasicBlock) → Type 0 where
    at_end : (b : Ptr BasicBlock) → ((c : Ptr BasicBlock) → Joinable d place t b c → ⊥) → ((p : Ptr Operation) → Has p (operations_in old b) → is_left p) → IsChain is_left b []
    before : (b c : Ptr BasicBlock) (cs : List (Ptr BasicBlock)) → Joinable d place t b c → ((p : Ptr Operation) → Has p (front (operations_in old b)) → is_left p) → IsChain is_left c cs → IsChain is_left b (c ∷ cs)

module _ {O B A : Type 0} (d : Dialect (in_program O B) A) (place : StartingRegions by_handle) (old new : Program O B) (t : ProgramTree O B) (names : Value → Value) (is_left : Ptr Operation → Type 0) where
  -- operations of one block with what is below them, joined
  data OwnOf : List (Ptr Operation) → Tree by_handle (in_program O B) Operations → Tree by_handle (in_program O B) Operations → Type 0 where
    no_own : OwnOf [] end end
    one_own : (p : Ptr Operation) (ps : List (Ptr Operation)) (v : OperationView O) (rs qs : Tree by_handle (in_program O B) Regions) (rest more : Tree by_handle (in_program O B) Operations)
        → operation_at old p ≡ Some v → Joins d place t None Regions rs qs → AreTree new Regions v.regions (use_instead names qs) → OwnOf ps rest more → OwnOf (p ∷ ps) (operation (head_of p v) rs rest) (operation (head_of p v) qs more)

  -- blocks of one region, each with its operations joined
  data BlocksOf : List (Ptr BasicBlock) → Tree by_handle (in_program O B) Blocks → Type 0 where
    no_more : BlocksOf [] end
    one_block : (b : Ptr BasicBlock) (bs : List (Ptr BasicBlock)) (v : BlockView B) (ops own : Tree by_handle (in_program O B) Operations) (rest : Tree by_handle (in_program O B) Blocks)
        → block_at old b ≡ Some v → AreTree old Operations v.operations ops → OwnOf v.operations ops own → BlocksOf bs rest → BlocksOf (b ∷ bs) (block (label_of b v) ops rest)

  own_joins : (ps : List (Ptr Operation)) (ops own : Tree by_handle (in_program O B) Operations) → OwnOf ps ops own → Joins d place t None Operations ops own
  own_joins _ _ _ no_own = ends Operations
  own_joins _ _ _ (one_own p ps v rs qs rest more there inner tree rests) = operations (head_of p v) rs qs rest more inner (own_joins ps rest more rests)

  own_front : (ps : List (Ptr Operation)) (ops own : Tree by_handle (in_program O B) Operations) → OwnOf ps ops own → OwnOf (front ps) (but_last ops) (but_last own)
  own_front _ _ _ no_own = no_own
  own_front _ _ _ (one_own p _ v rs qs _ _ there inner tree no_own) = no_own
  own_front _ _ _ (one_own p _ v rs qs _ _ there inner tree (one_own p2 ps v2 rs2 qs2 rest more there2 inner2 tree2 rests)) =
      one_own p (front (p2 ∷ ps)) v rs qs (but_last (operation (head_of p2 v2) rs2 rest)) (but_last (operation (head_of p2 v2) qs2 more)) there inner tree
      (own_front (p2 ∷ ps) (operation (head_of p2 v2) rs2 rest) (operation (head_of p2 v2) qs2 more) (one_own p2 ps v2 rs2 qs2 rest more there2 inner2 tree2 rests))

  -- one list of operations behind the other
  use_append : (xs ys : Tree by_handle (in_program O B) Operations) → use_instead names (append xs ys) ≡ append (use_instead names xs) (use_instead names ys)
  use_append end ys = refl
  use_append (operation h rs rest) ys = let e = use_append rest ys in λ i. operation (use_head names h) (use_instead names rs) (e i)

  trees_append : (ps qs : List (Ptr Operation)) (xs ys : Tree by_handle (in_program O B) Operations) → AreTree new Operations ps xs → AreTree new Operations qs ys → AreTree new Operations (ps ++ qs) (append xs ys)
  trees_append _ qs _ ys no_operations behind = behind
  trees_append _ qs _ ys (first_operation p ps v rs rest there inner more) behind = first_operation p (ps ++ qs) v rs (append rest ys) there inner (trees_append ps qs rest ys more behind)

  module _ (behind : Ptr BasicBlock → List (Ptr BasicBlock)) (gone : Ptr BasicBlock → Bool) (merged : IsMerged d old new t names behind gone is_left) where
    own_tree : (ps : List (Ptr Operation)) (ops own : Tree by_handle (in_program O B) Operations) → OwnOf ps ops own → ((p : Ptr Operation) → Has p ps → is_left p) → AreTree new Operations ps (use_instead names own)
    own_tree _ _ _ no_own left = no_operations
    own_tree _ _ _ (one_own p ps v rs qs rest more there inner tree rests) left =
        first_operation p ps (record v { operands = map names v.operands }) (use_instead names qs) (use_instead names more)
        (merged.operation p v (left p (inl refl)) there) tree (own_tree ps rest more rests (λ q h. left q (inr h)))

    -- the blocks of a region that are found, with their operations
    find_block : (bs : List (Ptr BasicBlock)) (u : Tree by_handle (in_program O B) Blocks) → BlocksOf bs u → (c : Ptr BasicBlock) → Has c bs
        → (v : BlockView B) × (ops : Tree by_handle (in_program O B) Operations) × (own : Tree by_handle (in_program O B) Operations) × (block_at old c ≡ Some v) × AreTree old Operations v.operations ops × OwnOf v.operations ops own
    find_block _ _ no_more c h = absurd h
    find_block _ _ (one_block b bs v ops own rest there tree owns rests) c h = ⊎_elim
        (λ (e : c ≡ b). (v, ops, own, ap (block_at old) e ∙ there, tree, owns))
        (λ r. find_block bs rest rests c r)
        h

    -- all operations of a chain, from one of its blocks on
    module _ (all : List (Ptr BasicBlock)) (u : Tree by_handle (in_program O B) Blocks) (whole : BlocksOf all u)
        (beside : (b c : Ptr BasicBlock) → Has b all → Joinable d place t b c → Has c all)
        (found : (b c : Ptr BasicBlock) (v : BlockView B) (ops : Tree by_handle (in_program O B) Operations) → Joinable d place t b c → block_at old c ≡ Some v → AreTree old Operations v.operations ops
        → (x : FoundBlock O B) × Has x (block_occurrences_of t) × (x.label.name ≡ c) × (x.operations ≡ ops)) where
      chain_joined : (b : Ptr BasicBlock) (cs : List (Ptr BasicBlock)) (v : BlockView B) (ops own : Tree by_handle (in_program O B) Operations) → IsChain d place old t is_left b cs → Has b all → block_at old b ≡ Some v → OwnOf v.operations ops own
          → (every : Tree by_handle (in_program O B) Operations) × Joins d place t (Some b) Operations ops every × AreTree new Operations (along old v.operations cs) (use_instead names every)
      chain_joined b _ v ops own (at_end _ none left) has there owns = (
        own,
        chain_ends b ops own none (own_joins v.operations ops own owns),
        own_tree v.operations ops own owns (subst (λ l. (p : Ptr Operation) → Has p l → is_left p) (ap (λ o. unwrap_or (option_map (λ (x : BlockView B). x.operations) o) []) there) left),
      )
      chain_joined b _ v ops own (before _ c cs joins left chain) has there owns =
          let in_region = beside b c has joins in
          let f = find_block all u whole c in_region in
          let rest = chain_joined c cs f.0 f.1 f.2 chain in_region f.3 f.5 in
          let x = found b c f.0 f.1 joins f.3 f.4 in
          let behind_it : operations_in old c ≡ f.0.operations = ap (λ o. unwrap_or (option_map (λ (y : BlockView B). y.operations) o) []) f.3 in
          let shorter = own_front v.operations ops own owns in (
            append (but_last own) rest.0,
            chain_goes_on b x.0 ops (but_last own) rest.0 (append (but_last own) rest.0)
                (subst (Joinable d place t b) (sym x.2) joins) x.1 (own_joins (front v.operations) (but_last ops) (but_last own) shorter)
                (subst (λ n. Joins d place t (Some n) Operations x.0.operations rest.0) (sym x.2) (subst (λ o. Joins d place t (Some c) Operations o rest.0) (sym x.3) rest.1)) refl,
            subst (λ (w : Tree by_handle (in_program O B) Operations). AreTree new Operations (front v.operations ++ along old (operations_in old c) cs) w) (sym (use_append (but_last own) rest.0))
                (trees_append (front v.operations) (along old (operations_in old c) cs) (use_instead names (but_last own)) (use_instead names rest.0)
                (own_tree (front v.operations) (but_last ops) (but_last own) shorter (subst (λ l. (p : Ptr Operation) → Has p (front l) → is_left p) (ap (λ o. unwrap_or (option_map (λ (y : BlockView B). y.operations) o) []) there) left))
                (subst (λ l. AreTree new Operations (along old l cs) (use_instead names rest.0)) (sym behind_it) rest.2)),
          )

      -- which blocks begin a chain, and which are in one
      module _ (is_first : (b : Ptr BasicBlock) → gone b ≡ false → ((a : Ptr BasicBlock) → Joinable d place t a b → ⊥) × IsChain d place old t is_left b (behind b))
          (is_taken : (b : Ptr BasicBlock) → gone b ≡ true → (a : Ptr BasicBlock) × Joinable d place t a b) where
        blocks_joined : (bs : List (Ptr BasicBlock)) (w : Tree by_handle (in_program O B) Blocks) → BlocksOf bs w → ((b : Ptr BasicBlock) → Has b bs → Has b all)
            → (after : Tree by_handle (in_program O B) Blocks) × Joins d place t None Blocks w after × AreTree new Blocks (without gone bs) (use_instead names after)
        blocks_joined _ _ no_more sub = (end, ends Blocks, no_blocks)
        blocks_joined _ _ (one_block b bs v ops own rest there tree owns rests) sub = by_case (blocks_joined bs rest rests (λ c h. sub c (inr h))) (gone b) refl where
          by_case : ((after : Tree by_handle (in_program O B) Blocks) × Joins d place t None Blocks rest after × AreTree new Blocks (without gone bs) (use_instead names after)) → (s : Bool) → gone b ≡ s → (after : Tree by_handle (in_program O B) Blocks) × Joins d place t None Blocks (block (label_of b v) ops rest) after × AreTree new Blocks (if s then without gone bs else b ∷ without gone bs) (use_instead names after)
          by_case later true e = let a = is_taken b e in (later.0, taken (label_of b v) ops rest later.0 a.0 a.1 later.1, later.2)
          by_case later false e =
              let f = is_first b e in
              let c = chain_joined b (behind b) v ops own f.1 (sub b (inl refl)) there owns in (
                block (label_of b v) c.0 later.0,
                first (label_of b v) ops c.0 rest later.0 f.0 c.1 later.1,
                first_block b (without gone bs) (record v { operations = along old v.operations (behind b) }) (use_instead names c.0) (use_instead names later.0) (merged.block b v e there) c.2 later.2,
              )

  -- what is made of operations, blocks and regions with what is in them
  abbrev MadeOf : (s : Sort) → Handles s → Tree by_handle (in_program O B) s → Type 0
  MadeOf Operations ps ops = (own : Tree by_handle (in_program O B) Operations) × OwnOf ps ops own
  MadeOf Blocks bs u = BlocksOf bs u
  MadeOf Regions rs u = (qs : Tree by_handle (in_program O B) Regions) × Joins d place t None Regions u qs × AreTree new Regions rs (use_instead names qs)

  module _ (behind : Ptr BasicBlock → List (Ptr BasicBlock)) (gone : Ptr BasicBlock → Bool) (merged : IsMerged d old new t names behind gone is_left)
      (together : (b c : Ptr BasicBlock) → Joinable d place t b c → (r : Ptr Region) (v : RegionView) → region_at old r ≡ Some v → Has b v.blocks → Has c v.blocks)
      (found : (b c : Ptr BasicBlock) (v : BlockView B) (ops : Tree by_handle (in_program O B) Operations) → Joinable d place t b c → block_at old c ≡ Some v → AreTree old Operations v.operations ops
      → (x : FoundBlock O B) × Has x (block_occurrences_of t) × (x.label.name ≡ c) × (x.operations ≡ ops))
      (is_first : (b : Ptr BasicBlock) → gone b ≡ false → ((a : Ptr BasicBlock) → Joinable d place t a b → ⊥) × IsChain d place old t is_left b (behind b))
      (is_taken : (b : Ptr BasicBlock) → gone b ≡ true → (a : Ptr BasicBlock) × Joinable d place t a b) where
    all_made : (s : Sort) (hs : Handles s) (u : Tree by_handle (in_program O B) s) → AreTree old s hs u → MadeOf s hs u
    all_made _ _ _ no_operations = (end, no_own)
    all_made _ _ _ no_blocks = no_more
    all_made _ _ _ no_regions = (end, ends Regions, no_regions)
    all_made _ _ _ (first_operation p ps v rs rest there inner more) =
        let below = all_made Regions v.regions rs inner in
        let later = all_made Operations ps rest more in
        (operation (head_of p v) below.0 later.0, one_own p ps v rs below.0 rest later.0 there below.1 below.2 later.1)
    all_made _ _ _ (first_block b bs v ops rest there inner more) =
        let own = all_made Operations v.operations ops inner in
        one_block b bs v ops own.0 rest there inner own.1 (all_made Blocks bs rest more)
    all_made _ _ _ (first_region r rs v bs rest there inner more) =
        let blocks = all_made Blocks v.blocks bs inner in
        let later = all_made Regions rs rest more in
        let made = blocks_joined behind gone merged v.blocks bs blocks (λ b c has joins. together b c joins r v there has) found is_first is_taken v.blocks bs blocks (λ b h. h) in
        let now = merged.region r v there in (
          region made.0 later.0,
          regions bs made.0 rest later.0 made.1 later.1,
          first_region r rs now.0 (use_instead names made.0) (use_instead names later.0) now.1 (subst (λ l. AreTree new Blocks l (use_instead names made.0)) (sym now.2) made.2) later.2,
        )

    -- the root with its chains joined
    pub merged_tree : (op : Ptr Operation) → is_left op → StandsFor old op t → (qs : Tree by_handle (in_program O B) Regions) × Joins d place t None Regions t.regions qs × StandsFor new op (record { head = use_head names t.head; regions = use_instead names qs })
    merged_tree op left stands =
        let made = all_made Regions stands.view.regions t.regions stands.regions in
        (made.0, made.1, record { view = record stands.view { operands = map names stands.view.operands }; there = merged.operation op stands.view left stands.there; head = ap (use_head names) stands.head; regions = made.2 })
