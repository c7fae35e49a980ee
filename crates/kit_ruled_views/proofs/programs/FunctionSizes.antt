-- No function of a program has more operations than the module that it is the program of.
use Rattle.std.proofs.Common.{◌≡◌, ⊎_elim, ℕ, suc, ◌+◌, ◌≤◌, Bool, List, [], ◌∷◌, ◌++◌, length, map, Option, Some, None}
use Rattle.std.proofs.Common.{refl, sym, subst, arith}
use Rattle.std.proofs.lemmas.List.{length-append}
use Rattle.std.specs.Prelude.{reverse}
use Rattle.ir_base.specs.declared.types.TypeHandle.{TypeHandle}
use Rattle.ir_trees.specs.Names.{Names}
use Rattle.ir_trees.specs.Trees.{Sort, Operations, Blocks, Regions, Tree, end, operation, block, region, Root}
use Rattle.opt_trees.specs.Occurrences.{Has, Occurrence, Inside, OperationSite, Spot, inner, next_block, next_region}
use Rattle.opt_trees.specs.Occurrences.{at_root, occurrences_in}
use Rattle.opt_trees.proofs.NoneDead.{has-append}
use Rattle.kit_ops.specs.declared.types.KitType.{KitType}
use Rattle.kit_behaviour.specs.Laws.{AlikeWithin, EachKeepsRules}
use Rattle.kit_behaviour.specs.Machine.{Fun, Op, FunctionsByPath}
use Rattle.kit_behaviour.specs.Numbering.{place_block, place_of}
use Rattle.kit_behaviour.specs.PassLists.{IsAfter, IsPass, Pass}
use Rattle.kit_behaviour.specs.Places.{Place}
use Rattle.kit_behaviour.specs.Renaming.{rename_op, same_block}
use Rattle.kit_behaviour.specs.Rules.{operation_count, operations_of, OperationsWithin}
use Rattle.kit_behaviour.proofs.Behaviour.SizeLemmas.{length_map}
use Rattle.kit_behaviour.proofs.PassListLemmas.{pass_within}
use Rattle.kit_views.specs.FlatView.{AreFlatBlocks, AreOps, FlattensTo, names_in}
use Rattle.kit_views.specs.Reading.{Reading, kit_contents, kit_reading}
use Rattle.kit_ruled_views.specs.Paths.{locate}
use Rattle.kit_ruled_views.specs.Programs.{HasFunctionView, IsProgramOf}
use Rattle.kit_ruled_views.specs.Sound.{tree_of}
use Rattle.kit_ruled_views.proofs.programs.Located.{located}
use Rattle.kit_ruled_views.specs.Operations.{operations_below}

-- how many operations are in an operation of a tree
abbrev inside : {N : Names} → Occurrence N kit_contents → ℕ
inside o = length (occurrences_in o.regions (inner o.head o.site))

module _ {N : Names} where
  -- what holds of two lists holds of both together
  in_parts : (xs ys : List (Occurrence N kit_contents)) (o : Occurrence N kit_contents) → Has o (xs ++ ys)
      → (Has o xs → inside o ≤ length xs) → (Has o ys → inside o ≤ length ys) → inside o ≤ length (xs ++ ys)
  in_parts xs ys o has first last =
      let sum = length-append xs ys in
      ⊎_elim (λ h. let n = first h in omega (arith, n, sum)) (λ h. let n = last h in omega (arith, n, sum))
      (has-append o xs ys has)

  -- in an operation of a tree there are no more than in the tree
  in_tree : (s : Sort) (t : Tree N kit_contents s) (i : Inside N kit_contents s) (o : Occurrence N kit_contents)
      → Has o (occurrences_in t i) → inside o ≤ length (occurrences_in t i)
  in_tree _ end i o has = absurd has
  in_tree _ (operation h rs rest) i o has =
      let xs = occurrences_in rs (inner h i) in
      let ys = occurrences_in rest i in
      let sum = length-append xs ys in
      ⊎_elim
      (λ e. subst (λ (x : Occurrence N kit_contents). inside x ≤ suc (length (xs ++ ys))) (sym e) (omega (arith, sum)))
      (λ more.
      let n = in_parts xs ys o more (in_tree Regions rs (inner h i) o) (in_tree Operations rest i o) in
      omega (arith, n))
      has
  in_tree _ (block l os rest) i o has =
      in_parts (occurrences_in os (record { spot = i; label = l })) (occurrences_in rest (next_block i)) o has
      (in_tree Operations os (record { spot = i; label = l }) o) (in_tree Blocks rest (next_block i) o)
  in_tree _ (region bs rest) i o has =
      in_parts (occurrences_in bs i) (occurrences_in rest (next_region i)) o has
      (in_tree Blocks bs i o) (in_tree Regions rest (next_region i) o)

  -- a function has no more than its tree
  module _ (r : Reading kit_contents) (names : List N.block) where
    operations_in : (os : Tree N kit_contents Operations) (ps : List (Op N.value)) (i : OperationSite N kit_contents)
        → AreOps r names os ps → length ps ≤ length (occurrences_in os i)
    operations_in end [] i are = omega arith
    operations_in end (p ∷ ps) i are = absurd are
    operations_in (operation h rs more) [] i are = absurd are
    operations_in (operation h rs more) (p ∷ ps) i are =
        let n = operations_in more ps i are.2 in
        let sum = length-append (occurrences_in rs (inner h i)) (occurrences_in more i) in
        omega (arith, n, sum)

    blocks_in : (bs : Tree N kit_contents Blocks) (f : Fun N.value) (i : Spot N kit_contents)
        → AreFlatBlocks r names bs f → operations_of f ≤ length (occurrences_in bs i)
    blocks_in end [] i are = omega arith
    blocks_in end (k ∷ ks) i are = absurd are
    blocks_in (block l os more) [] i are = absurd are
    blocks_in (block l os more) (k ∷ ks) i are =
        let here : OperationSite N kit_contents = record { spot = i; label = l } in
        let n = operations_in os k.ops here are.1 in
        let m = blocks_in more ks (next_block i) are.2 in
        let sum = length-append (occurrences_in os here) (occurrences_in more (next_block i)) in
        omega (arith, n, m, sum)

  view_in : (r : Reading kit_contents) (o : Occurrence N kit_contents) (f : Fun N.value) → FlattensTo r (tree_of o) f
      → operations_of f ≤ inside o
  view_in r o f flat =
      let i = inner o.head o.site in
      let blocks = flat.view.blocks in
      let n = blocks_in r (names_in blocks) blocks f i flat.view.are in
      let sum = length-append (occurrences_in blocks i) [] in
      subst (λ (x : Tree N kit_contents Regions). operations_of f ≤ length (occurrences_in x i)) (sym flat.view.region)
      (omega (arith, n, sum))

-- places for names change no number of operations
placed_count : {V : Type 0} (r : V → Place) (f : Fun V) → operations_of (map (place_block r) f) ≡ operations_of f
placed_count r [] = refl
placed_count r (k ∷ ks) =
    let n = length_map (rename_op r same_block) k.ops in
    let m = placed_count r ks in
    omega (arith, n, m)

module _ {N : Names} (same : N.value → N.value → Bool) (leads : TypeHandle → Option KitType) (numbered : List ℕ → ℕ)
    (t : Root N kit_contents) where
  function_within : (path : List ℕ) (o : Option (Root N kit_contents)) → locate numbered path t ≡ o
      → (q : Option (Fun Place)) → HasFunctionView {N = N} same leads numbered o q
      → operation_count q ≤ operations_below t
  function_within path None e q is = subst (λ x. operation_count x ≤ operations_below t) (sym is) (omega arith)
  function_within path (Some u) e q is =
      let z = located numbered path t (at_root t) u e in
      let flat : FlattensTo (kit_reading leads numbered) (tree_of z.it) is.0 =
      subst (λ x. FlattensTo (kit_reading leads numbered) x is.0) (sym z.is) is.1 in
      let n = view_in (kit_reading leads numbered) z.it is.0 flat in
      let m = in_tree Regions t.regions (at_root t) z.it z.stands in
      let k = placed_count (place_of same is.0) is.0 in
      subst (λ x. operation_count x ≤ operations_below t) (sym is.2) (omega (arith, n, m, k))

  pub program_within : (p : FunctionsByPath Place) → IsProgramOf {N = N} same leads numbered t p
      → OperationsWithin (operations_below t) p
  program_within p is path = function_within (reverse path) (locate numbered (reverse path) t) refl (p path) (is path)

-- one pass, by the numbers of operations of both modules
pub one_pass : (x : Pass) (p q : FunctionsByPath Place) (a b : ℕ) → EachKeepsRules p → IsAfter (x ∷ []) p q
    → OperationsWithin a p → OperationsWithin b q → AlikeWithin (suc (a + b)) p q
one_pass x p q a b rules made first last =
    pass_within x p q (a + b) rules (subst (IsPass x p) made.2 made.1)
    (λ path. let n = first path in omega (arith, n)) (λ path. let n = last path in omega (arith, n))
