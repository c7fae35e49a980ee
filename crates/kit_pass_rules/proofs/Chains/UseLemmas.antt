-- Lists of a tree in which other values are used.
use Rattle.std.proofs.Common.{◌≡◌, ℕ, zero, suc, List, [], ◌∷◌, ◌++◌, map, take, refl, sym, ap, ◌∙◌}
use Rattle.ir_program.specs.declared.handles.Value.{Value}
use Rattle.ir_trees.specs.Trees.{Operations, Blocks, Regions, end, operation, block, region}
use Rattle.kit.specs.Context.{KitTree}
use Rattle.kit_checks.specs.Sites.{operation_list, block_list, region_list}
use Rattle.kit_checks.specs.Words.{values_of, joined, bodies_of}
use Rattle.kit_pass_rules.proofs.Chains.InversionLemmas.{KitList, KitBody}
use Rattle.kit_pass_rules.proofs.Chains.ListLemmas.{KitHead, heads, defined_by}
use Rattle.opt_trees.specs.Simplify.{use_head, use_instead}
use Rattle.opt_trees.proofs.Lists.{map-append}

module _ (f : Value → Value) where
  -- the operation, the block with other values
  abbrev pub used : KitTree → KitTree
  used u = record { head = use_head f u.head; regions = use_instead f u.regions }

  abbrev pub used_body : KitBody → KitBody
  used_body b = record { label = b.label; operations = use_instead f b.operations }

  abbrev pub used_blocks : KitList Blocks → KitList Blocks
  used_blocks bs = use_instead f bs

  pub operations_used : (xs : KitList Operations) → operation_list (use_instead f xs) ≡ map used (operation_list xs)
  operations_used end = refl
  operations_used (operation h rs rest) = ap (λ l. used (record { head = h; regions = rs }) ∷ l) (operations_used rest)

  pub blocks_used : (bs : KitList Blocks) → block_list (use_instead f bs) ≡ map used_body (block_list bs)
  blocks_used end = refl
  blocks_used (block l xs rest) = ap (λ ys. used_body (record { label = l; operations = xs }) ∷ ys) (blocks_used rest)

  pub regions_used : (rs : KitList Regions) → region_list (use_instead f rs) ≡ map used_blocks (region_list rs)
  regions_used end = refl
  regions_used (region bs rest) = ap (λ l. use_instead f bs ∷ l) (regions_used rest)

  pub heads_used : (us : List KitTree) → heads (map used us) ≡ map (use_head f) (heads us)
  heads_used [] = refl
  heads_used (u ∷ us) = ap (λ l. use_head f u.head ∷ l) (heads_used us)

  -- operations define what they did
  pub defined_used : (hs : List KitHead) → defined_by (map (use_head f) hs) ≡ defined_by hs
  defined_used [] = refl
  defined_used (h ∷ hs) = ap (λ l. values_of h.results ++ l) (defined_used hs)

  pub take_used : (hs : List KitHead) (k : ℕ) → take k (map (use_head f) hs) ≡ map (use_head f) (take k hs)
  take_used hs zero = refl
  take_used [] (suc k) = refl
  take_used (h ∷ hs) (suc k) = ap (λ l. use_head f h ∷ l) (take_used hs k)

  bodies_step : (rs : List (KitList Blocks)) → joined (map block_list (map used_blocks rs)) ≡ map used_body
      (joined (map block_list rs))
  bodies_step [] = refl
  bodies_step (bs ∷ rs) =
      ap (λ l. l ++ joined (map block_list (map used_blocks rs))) (blocks_used bs)
      ∙ (ap (λ l. map used_body (block_list bs) ++ l) (bodies_step rs)
      ∙ sym (map-append used_body (block_list bs) (joined (map block_list rs))))

  pub bodies_used : (u : KitTree) → bodies_of (used u) ≡ map used_body (bodies_of u)
  bodies_used u = ap (λ l. joined (map block_list l)) (regions_used u.regions) ∙ bodies_step (region_list u.regions)
