-- One region with one block without arguments, said of trees and of lists of handles.
use Rattle.std.proofs.Common.{◌≡◌, ◌≢◌, ◌↔◌, ℕ, suc, Bool, false, List, [], ◌∷◌, map, length, Option, Some, None, IsTrue, option_map, unwrap_or, slice_get, refl, sym, ap, ◌∙◌, subst, arith}
use Rattle.std.proofs.lemmas.Bool.{false≢true}
use Rattle.std.proofs.lemmas.List.{length-map}
use Rattle.ir_program.specs.Lists.{blocks_in, regions_in}
use Rattle.ir_program.specs.Program.{Program, BlockView, arguments_at}
use Rattle.ir_program.specs.declared.handles.Ptr.{Ptr}
use Rattle.ir_program.specs.declared.handles.Operation.{Operation}
use Rattle.ir_program.specs.declared.handles.Region.{Region}
use Rattle.ir_program.specs.declared.handles.BasicBlock.{BasicBlock}
use Rattle.ir_trees.specs.Stands.{defined_by}
use Rattle.ir_trees.specs.Trees.{Blocks}
use Rattle.kit_checks.specs.Located.{IsBody, RegionHasBlocks}
use Rattle.kit_checks.specs.Passing.{OfRegion}
use Rattle.kit_checks.specs.Reading.{OfTree}
use Rattle.kit_checks.specs.Rules.{HasModuleBody}
use Rattle.kit_checks.specs.Sites.{Listed, Body, block_list, region_list}
use Rattle.kit_checks.proofs.Down.{block_listed, regions_are}
use Rattle.kit_checks.proofs.Trees.{region_count}
use Rattle.kit_checks.proofs.Upward.{block_tree, region_tree}
use Rattle.kit_verifier.specs.Repeats.{HasPlainBlock}

single : {X : Type 0} (xs : List X) (x : X) → slice_get xs 0 ≡ Some x → slice_get xs 1 ≡ None → xs ≡ x ∷ []
single [] x h n = cc
single (y ∷ []) x h n = let e : Some y ≡ Some x = h in let s : y ≡ x = cc in ap (λ z. z ∷ []) s
single (y ∷ z ∷ ys) x h n = cc

one_member : {X : Type 0} (xs : List X) (x : X) → length xs ≡ 1 → slice_get xs 0 ≡ Some x → xs ≡ x ∷ []
one_member [] x one h = cc
one_member (y ∷ []) x one h = let e : Some y ≡ Some x = h in let s : y ≡ x = cc in ap (λ z. z ∷ []) s
one_member (y ∷ z ∷ ys) x one h = absurd (let e : suc (suc (length ys)) ≡ 1 = one in omega arith)

empty_if : {X : Type 0} (xs : List X) → length xs ≡ 0 → xs ≡ []
empty_if [] h = refl
empty_if (x ∷ xs) h = absurd (omega arith)

from_map : {X Y : Type 0} (f : X → Y) (xs : List X) → map f xs ≡ [] → xs ≡ []
from_map f [] h = refl
from_map f (x ∷ xs) h = cc

module _ {O B : Type 0} (c : Program O B) where
  -- no member at an index of the handles, none at the index of the trees
  none_at : (r : Ptr Region) (blocks : Listed O B Blocks) → RegionHasBlocks c r blocks → (k : ℕ) → slice_get (blocks_in c r) k ≡ None → slice_get (block_list blocks) k ≡ None
  none_at r blocks at k none = by (slice_get (block_list blocks) k) refl
    where
      by : (o : Option (Body O B)) → slice_get (block_list blocks) k ≡ o → slice_get (block_list blocks) k ≡ None
      by None e = e
      by (Some body) e =
          let l = block_listed c (blocks_in c r) blocks at.listed k body e in
          let f : None ≡ Some body.label.name = sym none ∙ l.0 in cc

  arguments_are : (b : Ptr BasicBlock) (body : Body O B) → IsBody c b body → body.label.arguments ≡ map defined_by (arguments_at c b)
  arguments_are b body s = ap (λ l. l.arguments) s.label ∙ ap (map defined_by) (sym (ap (λ o. unwrap_or (option_map (λ (x : BlockView B). x.arguments) o) []) s.there))

  module _ (r : Ptr Region) where
    -- the region has no block
    pub no_block : slice_get (blocks_in c r) 0 ≡ None → OfRegion c r (λ blocks. IsTrue false ↔ HasPlainBlock blocks)
    no_block none blocks at = (
      λ h. absurd (false≢true h),
      λ p. let e : Some p.0 ≡ None = sym (ap (λ l. slice_get l 0) p.1) ∙ none_at r blocks at 0 none in cc,
    )

    module _ (b : Ptr BasicBlock) (first : slice_get (blocks_in c r) 0 ≡ Some b) where
      pub more_blocks : (next : Ptr BasicBlock) → slice_get (blocks_in c r) 1 ≡ Some next → OfRegion c r (λ blocks. IsTrue false ↔ HasPlainBlock blocks)
      more_blocks next more blocks at = (
        λ h. absurd (false≢true h),
        λ p.
            let t = block_tree c (blocks_in c r) blocks at.listed 1 next more in
            let e : Some t.0 ≡ None = sym t.1 ∙ ap (λ l. slice_get l 1) p.1 in cc,
      )

      pub last_block : (count : ℕ) (is : Bool) → slice_get (blocks_in c r) 1 ≡ None → count ≡ length (arguments_at c b) → IsTrue is ↔ (count ≡ 0) → OfRegion c r (λ blocks. IsTrue is ↔ HasPlainBlock blocks)
      last_block count is last many tells blocks at =
          let t = block_tree c (blocks_in c r) blocks at.listed 0 b first in
          let one : block_list blocks ≡ t.0 ∷ [] = single (block_list blocks) t.0 t.1 (none_at r blocks at 1 last) in (
            λ h. (t.0, one, arguments_are b t.0 t.2 ∙ ap (map defined_by) (empty_if (arguments_at c b) (sym many ∙ tells.0 h))),
            λ p.
                let e : Some p.0 ≡ Some t.0 = sym (ap (λ l. slice_get l 0) p.1) ∙ t.1 in
                let same : p.0 ≡ t.0 = cc in
                let none : map defined_by (arguments_at c b) ≡ [] = sym (arguments_are b t.0 t.2) ∙ sym (ap (λ (x : Body O B). x.label.arguments) same) ∙ p.2 in
                tells.1 (many ∙ ap length (from_map defined_by (arguments_at c b) none)),
          )

  module _ (op : Ptr Operation) where
    -- the operation has another number of regions
    pub other_count : (count : ℕ) → count ≡ length (regions_in c op) → count ≢ 1 → OfTree c op (λ u. IsTrue false ↔ HasModuleBody u)
    other_count count many other u s = (
      λ h. absurd (false≢true h),
      λ m.
          let e : length (region_list u.regions) ≡ 1 = sym (length-map (region_list u.regions) block_list) ∙ ap length m.one in
          absurd (other (many ∙ sym (region_count c op u s) ∙ e)),
    )

    pub no_region : (count : ℕ) → count ≡ length (regions_in c op) → count ≡ 1 → slice_get (regions_in c op) 0 ≡ None → OfTree c op (λ u. IsTrue false ↔ HasModuleBody u)
    no_region count many one none u s = absurd (by (regions_in c op) (sym many ∙ one) none)
      where
        by : (rs : List (Ptr Region)) → length rs ≡ 1 → slice_get rs 0 ≡ None → ⊥
        by [] l n = cc
        by (r ∷ rs) l n = cc

    pub one_region : (r : Ptr Region) (count : ℕ) (is : Bool) → count ≡ length (regions_in c op) → count ≡ 1 → slice_get (regions_in c op) 0 ≡ Some r → OfRegion c r (λ blocks. IsTrue is ↔ HasPlainBlock blocks) →
        OfTree c op (λ u. IsTrue is ↔ HasModuleBody u)
    one_region r count is many one first tells u s =
        let t = region_tree c s.view.regions u.regions s.regions 0 r (subst (λ l. slice_get l 0 ≡ Some r) (sym (regions_are c op u s)) first) in
        let lone : region_list u.regions ≡ t.0 ∷ [] = one_member (region_list u.regions) t.0 (region_count c op u s ∙ sym many ∙ one) t.1 in
        let all : map block_list (region_list u.regions) ≡ block_list t.0 ∷ [] = ap (map block_list) lone in (
          λ h. let p = (tells t.0 t.2).0 h in record { body = p.0; one = all ∙ ap (λ l. l ∷ []) p.1; no_arguments = p.2 },
          λ m.
              let e : Some (block_list t.0) ≡ Some (m.body ∷ []) = ap (λ l. slice_get l 0) (sym all ∙ m.one) in
              let same : block_list t.0 ≡ m.body ∷ [] = cc in
              (tells t.0 t.2).1 (m.body, same, m.no_arguments),
        )
