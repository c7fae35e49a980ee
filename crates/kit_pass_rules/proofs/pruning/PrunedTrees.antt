-- A tree in which some branches take one edge, some blocks are gone, and operations have other handles.
use Rattle.std.proofs.Common.{◌≡◌, ℕ, Bool, true, false, List, [], ◌∷◌, ◌++◌, map, Option, Some, None, option_map}
use Rattle.std.proofs.Common.{slice_get, refl, sym, ap, ◌∙◌}
use Rattle.std.specs.Prelude.{if◌then◌else◌}
use Rattle.ir_program.specs.declared.handles.BasicBlock.{BasicBlock}
use Rattle.ir_program.specs.declared.handles.Operation.{Operation}
use Rattle.ir_program.specs.declared.handles.Ptr.{Ptr}
use Rattle.ir_program.specs.declared.handles.Value.{Value}
use Rattle.ir_trees.specs.Stands.{ProgramHead}
use Rattle.ir_trees.specs.Trees.{Sort, Operations, Blocks, Regions, end, operation, block, region}
use Rattle.kit.specs.Context.{KitTree}
use Rattle.kit.specs.Meaning.{KitOperation, KitBlock, kit, operation_of}
use Rattle.kit_checks.specs.Sites.{Listed, operation_list, block_list, region_list}
use Rattle.kit_checks.specs.Words.{bodies_of, joined}
use Rattle.kit_ops.specs.declared.kinds.KitOp.TheVariants as ops
use Rattle.kit_pass_rules.proofs.Left.{left}
use Rattle.kit_pass_rules.proofs.Thin.{KitBody}
use Rattle.opt_trees.specs.Facts.{forwarded}
use Rattle.opt_trees.specs.Occurrences.{cons_if}
use Rattle.opt_trees.proofs.Lists.{map-append}

abbrev pub KitHead : Type 0
KitHead = ProgramHead KitOperation KitBlock

abbrev pub KitListed : Sort → Type 0
KitListed s = Listed KitOperation KitBlock s

-- what changes: handles of operations, the one edge that a branch takes from now on, if it is so, and what blocks go
pub record Pruning : Type 0 where
  pub names : Ptr Operation → Ptr Operation
  pub taken : KitHead → KitListed Regions → Option ℕ
  pub gone : Ptr BasicBlock → Bool

-- what an operation carries, its operands and its successors, where it takes an edge
abbrev pub content_by : Option ℕ → KitHead → KitOperation
content_by None h = h.content
content_by (Some i) h = operation_of ops.Br []

abbrev pub operands_by : Option ℕ → KitHead → List Value
operands_by None h = h.operands
operands_by (Some i) h = forwarded kit h i

abbrev pub successors_by : Option ℕ → KitHead → List (Ptr BasicBlock)
successors_by None h = h.successors
successors_by (Some i) h = cons_if (slice_get h.successors i) []

abbrev pub head_by : Ptr Operation → Option ℕ → KitHead → KitHead
head_by n q h = record {
  name = n;
  content = content_by q h;
  results = h.results;
  operands = operands_by q h;
  successors = successors_by q h;
}

module _ (g : Pruning) where
  abbrev pub prune_head : KitHead → KitListed Regions → KitHead
  prune_head h rs = head_by (g.names h.name) (g.taken h rs) h

  abbrev pub prune : {s : Sort} → KitListed s → KitListed s
  prune end = end
  prune (operation h rs rest) = operation (prune_head h rs) (prune rs) (prune rest)
  prune (block l ops rest) = if g.gone l.name then prune rest else block l (prune ops) (prune rest)
  prune (region bs rest) = region (prune bs) (prune rest)

  abbrev pub prune_tree : KitTree → KitTree
  prune_tree u = record { head = prune_head u.head u.regions; regions = prune u.regions }

  abbrev pub prune_body : KitBody → KitBody
  prune_body b = record { label = b.label; operations = prune b.operations }

  abbrev pub goes : KitBody → Bool
  goes b = g.gone b.label.name

  pub regions_pruned : (rs : KitListed Regions) →
      region_list (prune rs) ≡ map (λ (bs : KitListed Blocks). prune bs) (region_list rs)
  regions_pruned end = refl
  regions_pruned (region bs rest) = ap (λ l. prune bs ∷ l) (regions_pruned rest)

  pub operations_pruned : (ops : KitListed Operations) → operation_list (prune ops) ≡ map prune_tree
      (operation_list ops)
  operations_pruned end = refl
  operations_pruned (operation h rs rest) = ap (λ l. prune_tree (record { head = h; regions = rs }) ∷ l)
      (operations_pruned rest)

  pub blocks_pruned : (bs : KitListed Blocks) → block_list (prune bs) ≡ map prune_body (left goes (block_list bs))
  blocks_pruned end = refl
  blocks_pruned (block l ops rest) = step (g.gone l.name) (blocks_pruned rest)
    where
      step : (b : Bool) → block_list (prune rest) ≡ map prune_body (left goes (block_list rest)) →
          block_list (if b then prune rest else block l (prune ops) (prune rest))
          ≡ map prune_body (if b then left goes (block_list rest) else (record { label = l; operations = ops })
          ∷ left goes (block_list rest))
      step true e = e
      step false e = ap (λ ys. prune_body (record { label = l; operations = ops }) ∷ ys) e

left_append : {X : Type 0} (p : X → Bool) (xs ys : List X) → left p (xs ++ ys) ≡ left p xs ++ left p ys
left_append p [] ys = refl
left_append {X} p (x ∷ xs) ys = step (p x) (left_append p xs ys)
  where
    step : (b : Bool) → left p (xs ++ ys) ≡ left p xs ++ left p ys →
        (if b then left p (xs ++ ys) else x ∷ left p (xs ++ ys)) ≡ (if b then left p xs else x ∷ left p xs) ++ left p ys
    step true e = e
    step false e = ap (λ l. x ∷ l) e

module _ (g : Pruning) where
  bodies_step : (rs : List (KitListed Blocks)) →
      joined (map block_list (map (λ (bs : KitListed Blocks). prune g bs) rs)) ≡ map (prune_body g)
      (left (goes g) (joined (map block_list rs)))
  bodies_step [] = refl
  bodies_step (bs ∷ rs) =
      ap (λ l. l ++ joined (map block_list (map (λ (bs : KitListed Blocks). prune g bs) rs))) (blocks_pruned g bs)
      ∙ (ap (λ l. map (prune_body g) (left (goes g) (block_list bs)) ++ l) (bodies_step rs)
      ∙ (sym (map-append (prune_body g) (left (goes g) (block_list bs)) (left (goes g) (joined (map block_list rs))))
      ∙ ap (map (prune_body g)) (sym (left_append (goes g) (block_list bs) (joined (map block_list rs))))))

  pub bodies_pruned : (u : KitTree) → bodies_of (prune_tree g u) ≡ map (prune_body g) (left (goes g) (bodies_of u))
  bodies_pruned u = ap (λ l. joined (map block_list l)) (regions_pruned g u.regions)
      ∙ bodies_step (region_list u.regions)

-- a first member that stays is first
pub first_left : {X Y : Type 0} (p : X → Bool) (f : X → Y) (xs : List X) →
    ((x : X) → slice_get xs 0 ≡ Some x → p x ≡ false) →
    slice_get (map f (left p xs)) 0 ≡ option_map f (slice_get xs 0)
first_left p f [] h = refl
first_left p f (x ∷ xs) h = ap (λ b. slice_get (map f (if b then left p xs else x ∷ left p xs)) 0) (h x refl)
