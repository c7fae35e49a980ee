-- A function of the dialect, as a tree and as a flat function: the same values, blocks by their index in the region.
use Rattle.std.specs.Prelude.{◌≡◌, ℕ, Bool, true, List, [], ◌∷◌, ◌++◌, map, length, Some, slice_get}
use Rattle.ir_trees.specs.Names.{Names, Contents}
use Rattle.ir_trees.specs.Searched.{AreDistinct, operation_names}
use Rattle.ir_trees.specs.Renames.{names_of}
use Rattle.ir_trees.specs.Trees.{Head, Operations, Blocks, Tree, end, operation, block, region, Root}
use Rattle.opt_trees.specs.Occurrences.{types_of, defined_in}
use Rattle.kit_ops.specs.declared.kinds.KitOp.{KitOp}
use Rattle.kit_ops.specs.declared.kinds.KitOp.TheVariants as ops
use Rattle.kit_behaviour.specs.Machine.{Arith, Calculated, Compared, Edge, Select, Plain, Nonzero}
use Rattle.kit_behaviour.specs.Machine.{Cases, Op, Const, Calc, Emit, Call, Branch, Return, Fun, left_in}
use Rattle.kit_behaviour.specs.Facts.{all_forwarded}
use Rattle.kit_behaviour.specs.Rules.{AllEdgesFit}
use Rattle.kit_views.specs.Reading.{Reading}

-- a test that says which names are the same
pub record IsSameness {V : Type 0} (same : V → V → Bool) : Type 0 where
  pub true_same : (x y : V) → same x y ≡ true → x ≡ y
  pub same_true : (x : V) → same x x ≡ true

-- the kind of an operation of arithmetic or of a comparison
abbrev pub kind_of : Arith → KitOp
kind_of (Calculated a) = ops.Arithmetic a
kind_of (Compared c) = ops.Comparison c

module _ {N : Names} {S : Contents} (r : Reading S) (names : List N.block) where
  -- an operation of this kind, with these results and operands, whose successors are the targets of these edges by
  -- their index among the names of the blocks
  pub record IsOf (h : Head N S) (k : KitOp) (rs xs : List N.value) (es : List (Edge N.value)) : Type 0 where
    pub kind : r.kind h.content ≡ k
    pub results : names_of h.results ≡ rs
    pub operands : h.operands ≡ xs
    pub successors : map Some h.successors ≡ map (λ (e : Edge N.value). slice_get names e.target) es

  -- a branch: of one edge, which forwards all operands; or with one operand as its condition and two edges, which
  -- forward the others, the first as many as the segments say
  abbrev pub IsFlatBranch : Head N S → Select → List N.value → Edge N.value → List (Edge N.value) → Type 0
  IsFlatBranch h Plain xs e es = IsOf h ops.Br [] (xs ++ all_forwarded (e ∷ es)) (e ∷ es) × (length xs ≡ 0)
      × (length es ≡ 0)
  IsFlatBranch h Nonzero xs e es = IsOf h ops.CondBr [] (xs ++ all_forwarded (e ∷ es)) (e ∷ es) × (length xs ≡ 1)
      × (length es ≡ 1) × (r.first h.content ≡ length e.forwards)
  IsFlatBranch h (Cases ns) xs e es = ⊥

  -- the operation is this one of the flat function; of arithmetic and comparisons the width is that of the result
  abbrev pub IsOp : Head N S → Op N.value → Type 0
  IsOp h (Const v n) = IsOf h ops.Constant (v ∷ []) [] [] × (r.number h.content ≡ n)
  IsOp h (Calc f w v x y) = IsOf h (kind_of f) (v ∷ []) (x ∷ y ∷ []) [] × (map r.width (types_of h.results) ≡ w ∷ [])
  IsOp h (Emit x) = IsOf h ops.Emit [] (x ∷ []) []
  IsOp h (Call rs c xs) = IsOf h ops.Call rs xs [] × (r.callee h.content ≡ c)
  IsOp h (Branch s xs e es) = IsFlatBranch h s xs e es
  IsOp h (Return xs) = IsOf h ops.Return [] xs []

  -- these operations, none of which has regions, are those of the flat block
  abbrev pub AreOps : Tree N S Operations → List (Op N.value) → Type 0
  AreOps end [] = Unit {0}
  AreOps end (op ∷ rest) = ⊥
  AreOps (operation h rs more) [] = ⊥
  AreOps (operation h rs more) (op ∷ rest) = (rs ≡ end) × IsOp h op × AreOps more rest

  -- these blocks are those of the flat function
  abbrev pub AreFlatBlocks : Tree N S Blocks → Fun N.value → Type 0
  AreFlatBlocks end [] = Unit {0}
  AreFlatBlocks end (k ∷ ks) = ⊥
  AreFlatBlocks (block l os more) [] = ⊥
  AreFlatBlocks (block l os more) (k ∷ ks) = (names_of l.arguments ≡ k.arguments) × AreOps os k.ops × AreFlatBlocks more ks

-- the names of the blocks of a region, in order
abbrev pub names_in : {N : Names} {S : Contents} → Tree N S Blocks → List N.block
names_in end = []
names_in (block l os more) = l.name ∷ names_in more

-- the tree is a function without operands, of one region, whose blocks are those of the flat function
pub record IsView {N : Names} {S : Contents} (r : Reading S) (t : Root N S) (f : Fun N.value) : Type 0 where
  pub function : r.kind t.head.content ≡ ops.Func
  pub no_operands : t.head.operands ≡ []
  pub blocks : Tree N S Blocks
  pub region : t.regions ≡ region blocks end
  pub are : AreFlatBlocks r (names_in blocks) blocks f

-- the function has the flat view f: what is defined has distinct names, and each edge of f leads to a block and
-- forwards as many values as this has arguments
pub record FlattensTo {N : Names} {S : Contents} (r : Reading S) (t : Root N S) (f : Fun N.value) : Type 0 where
  pub view : IsView r t f
  pub operations : AreDistinct (operation_names t)
  pub blocks : AreDistinct (names_in view.blocks)
  pub values : AreDistinct (defined_in t.regions)
  pub edges : (b : ℕ) → AllEdgesFit (Some f) (left_in (Some f) b 0)
