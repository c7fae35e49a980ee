-- A tree without what goes: its lists, its heads, its attributes.
use Rattle.std.proofs.Common.{◌≡◌, inl, inr, ℕ, zero, suc, Bool, true, false, List, [], ◌∷◌, ◌++◌, map, Some, slice_get, refl, sym, ap, ◌∙◌, subst}
use Rattle.std.specs.Prelude.{if◌then◌else◌}
use Rattle.ir_trees.specs.Stands.{by_handle}
use Rattle.ir_trees.specs.Trees.{Operations, Blocks, Regions, end, operation, block, region}
use Rattle.kit.specs.Context.{KitTree}
use Rattle.kit.specs.Meaning.{KitOperation, KitBlock, kit}
use Rattle.kit_checks.specs.Sites.{Listed, Body, operation_list, block_list, region_list}
use Rattle.kit_checks.specs.Words.{bodies_of, joined}
use Rattle.kit_pass_rules.proofs.Left.{left}
use Rattle.opt_trees.specs.Dialect.{drop}
use Rattle.opt_trees.specs.Dce.{Gone, Whole, thin_head, thin_label, thin}
use Rattle.opt_trees.specs.Occurrences.{Has}
use Rattle.opt_trees.proofs.Lists.{some_same, none_some, map-append}

abbrev pub KitBody : Type 0
KitBody = Body KitOperation KitBlock

module _ (g : Gone by_handle) where
  -- the operation, the block without what goes
  abbrev pub thin_tree : KitTree → KitTree
  thin_tree u = record { head = thin_head kit g u.head; regions = thin kit g u.regions }

  abbrev pub thin_body : KitBody → KitBody
  thin_body b = record { label = thin_label kit g b.label; operations = thin kit g b.operations }

  abbrev pub goes : KitTree → Bool
  goes u = g.item (Whole u.head.name)

  pub regions_thin : (rs : Listed KitOperation KitBlock Regions) → region_list (thin kit g rs) ≡ map (λ (bs : Listed KitOperation KitBlock Blocks). thin kit g bs) (region_list rs)
  regions_thin end = refl
  regions_thin (region bs rest) = ap (λ l. thin kit g bs ∷ l) (regions_thin rest)

  pub blocks_thin : (bs : Listed KitOperation KitBlock Blocks) → block_list (thin kit g bs) ≡ map thin_body (block_list bs)
  blocks_thin end = refl
  blocks_thin (block l ops rest) = ap (λ ys. thin_body (record { label = l; operations = ops }) ∷ ys) (blocks_thin rest)

  pub operations_thin : (ops : Listed KitOperation KitBlock Operations) → operation_list (thin kit g ops) ≡ map thin_tree (left goes (operation_list ops))
  operations_thin end = refl
  operations_thin (operation h rs rest) = step (g.item (Whole h.name)) (operations_thin rest)
    where
      step : (b : Bool) → operation_list (thin kit g rest) ≡ map thin_tree (left goes (operation_list rest)) →
          operation_list (if b then thin kit g rest else operation (thin_head kit g h) (thin kit g rs) (thin kit g rest))
          ≡ map thin_tree (if b then left goes (operation_list rest) else (record { head = h; regions = rs }) ∷ left goes (operation_list rest))
      step true e = e
      step false e = ap (λ l. thin_tree (record { head = h; regions = rs }) ∷ l) e

  -- lists of blocks of all regions
  bodies_step : (rs : List (Listed KitOperation KitBlock Blocks)) →
      joined (map block_list (map (λ (bs : Listed KitOperation KitBlock Blocks). thin kit g bs) rs)) ≡ map thin_body (joined (map block_list rs))
  bodies_step [] = refl
  bodies_step (bs ∷ rs) =
      ap (λ l. l ++ joined (map block_list (map (λ (bs : Listed KitOperation KitBlock Blocks). thin kit g bs) rs))) (blocks_thin bs)
      ∙ (ap (λ l. map thin_body (block_list bs) ++ l) (bodies_step rs) ∙ sym (map-append thin_body (block_list bs) (joined (map block_list rs))))

  pub bodies_thin : (u : KitTree) → bodies_of (thin_tree u) ≡ map thin_body (bodies_of u)
  bodies_thin u = ap (λ l. joined (map block_list l)) (regions_thin u.regions) ∙ bodies_step (region_list u.regions)

-- what is left of a list of what is left stands in the list
pub record Dropped {X : Type 0} (p : ℕ → Bool) (xs : List X) (x : X) : Type 0 where
  pub index : ℕ
  pub here : slice_get xs index ≡ Some x
  pub stays : p index ≡ false

pub dropped_at : {X : Type 0} (p : ℕ → Bool) (xs : List X) (k : ℕ) (x : X) → slice_get (drop p xs) k ≡ Some x → Dropped p xs x
dropped_at p [] k x e = absurd (none_some x e)
dropped_at {X} p (y ∷ xs) k x e = step (p 0) refl k e (λ k e. dropped_at (λ i. p (suc i)) xs k x e)
  where
    step : (b : Bool) → p 0 ≡ b → (k : ℕ) → slice_get (if b then drop (λ i. p (suc i)) xs else y ∷ drop (λ i. p (suc i)) xs) k ≡ Some x →
        ((k : ℕ) → slice_get (drop (λ i. p (suc i)) xs) k ≡ Some x → Dropped (λ i. p (suc i)) xs x) → Dropped p (y ∷ xs) x
    step true q k e ih = let d = ih k e in record { index = suc d.index; here = d.here; stays = d.stays }
    step false q zero e ih = record { index = 0; here = e; stays = q }
    step false q (suc k) e ih = let d = ih k e in record { index = suc d.index; here = d.here; stays = d.stays }

-- a member that stays is left
pub has_dropped : {X : Type 0} (p : ℕ → Bool) (xs : List X) (x : X) (k : ℕ) → slice_get xs k ≡ Some x → p k ≡ false → Has x (drop p xs)
has_dropped p [] x k e q = absurd (none_some x e)
has_dropped p (y ∷ xs) x zero e q = subst (λ b. Has x (if b then drop (λ i. p (suc i)) xs else y ∷ drop (λ i. p (suc i)) xs)) (sym q) (inl (sym (some_same y x e)))
has_dropped p (y ∷ xs) x (suc k) e q = step (p 0) (has_dropped (λ i. p (suc i)) xs x k e q)
  where
    step : (b : Bool) → Has x (drop (λ i. p (suc i)) xs) → Has x (if b then drop (λ i. p (suc i)) xs else y ∷ drop (λ i. p (suc i)) xs)
    step true h = h
    step false h = inr h
