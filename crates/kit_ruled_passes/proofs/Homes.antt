-- Values of a program say who defines them, in each tree.
use Rattle.std.proofs.Common.{◌≡◌, ℕ, zero, suc, ◌+◌, Bool, true, false, List, [], Some, option_map, unwrap_or}
use Rattle.std.proofs.Common.{slice_get}
use Rattle.std.proofs.Common.{refl, sym, ap, ◌∙◌, subst, arith}
use Rattle.ir_program.specs.Lists.{blocks_in}
use Rattle.ir_program.specs.Program.{Program, RegionView}
use Rattle.ir_program.specs.declared.handles.BasicBlock.{BasicBlock}
use Rattle.ir_program.specs.declared.handles.DefiningEntity.TheVariants.{Op as ByOp, Block as ByBlock}
use Rattle.ir_program.specs.declared.handles.Ptr.{Ptr}
use Rattle.ir_program.specs.declared.handles.Region.{Region}
use Rattle.ir_trees.specs.Stands.{Handles, AreTree, no_operations, no_blocks, no_regions, first_operation, first_block}
use Rattle.ir_trees.specs.Stands.{first_region}
use Rattle.ir_trees.specs.Trees.{Sort, Operations, Blocks, Regions}
use Rattle.opt_inside.proofs.Added.{HasValues, definer_of}
use Rattle.opt_inside.proofs.Among.{results_are, arguments_are}
use Rattle.opt_inside.proofs.Around.{HasLists}
use Rattle.opt_trees.specs.Occurrences.{Has}
use Rattle.kit.specs.Meaning.{KitOperation, KitBlock}
use Rattle.kit_ruled_passes.specs.Scopes.{Part}
use Rattle.kit_ruled_passes.proofs.Scopes.{IsByOp, AtEntry, Homed}

abbrev is_start : ℕ → Bool
is_start zero = true
is_start (suc n) = false

module _ (c : Program KitOperation KitBlock) (lists : HasLists c) (values : HasValues c) where
  -- the block is the first of a region
  abbrev pub IsFirst : Ptr BasicBlock → Type 0
  IsFirst b = (r : Ptr Region) × (slice_get (blocks_in c r) 0 ≡ Some b)

  -- the handles are those of a region from this index on
  abbrev AreFrom : Ptr Region → ℕ → List (Ptr BasicBlock) → Type 0
  AreFrom r n bs = (k : ℕ) (b : Ptr BasicBlock) → slice_get bs k ≡ Some b → slice_get (blocks_in c r) (n + k) ≡ Some b

  abbrev HomedAt : (s : Sort) → Handles s → Part s → Type 0
  HomedAt Operations ps t = (first : Bool) → Homed IsFirst t first
  HomedAt Blocks bs t = (r : Ptr Region) (n : ℕ) → AreFrom r n bs → Homed IsFirst t (is_start n)
  HomedAt Regions rs t = Homed IsFirst t true

  at_entry : (b : Ptr BasicBlock) (r : Ptr Region) (n : ℕ) → slice_get (blocks_in c r) n ≡ Some b
      → AtEntry IsFirst (is_start n) b
  at_entry b r zero at = (r, at)
  at_entry b r (suc n) at = λ other.
      let one = lists.blocks_once b r other.0 (suc n) 0 at other.1 in
      absurd (omega (arith, one.1))

  homed_part : (s : Sort) (hs : Handles s) (t : Part s) → AreTree c s hs t → HomedAt s hs t
  homed_part _ _ _ no_operations = λ first. tt
  homed_part _ _ _ no_blocks = λ r n from. tt
  homed_part _ _ _ no_regions = tt
  homed_part _ _ _ (first_operation p ps v rs rest there below behind) = λ first. (
    λ x i. subst IsByOp (sym (definer_of c values (ByOp p) x (subst (Has x) (results_are c p v there) i))) tt,
    homed_part Regions v.regions rs below,
    homed_part Operations ps rest behind first,
  )
  homed_part _ _ _ (first_block b bs v os rest there below behind) = λ r n from.
      let at : slice_get (blocks_in c r) n ≡ Some b =
      ap (slice_get (blocks_in c r)) (let e : n ≡ n + 0 = omega arith in e) ∙ from 0 b refl in (
        (
          at_entry b r n at,
          λ x i. definer_of c values (ByBlock b) x (subst (Has x) (arguments_are c b v there) i),
        ),
        homed_part Operations v.operations os below true,
        homed_part Blocks bs rest behind r (suc n) (λ k d h.
            ap (slice_get (blocks_in c r)) (let e : suc n + k ≡ n + suc k = omega arith in e) ∙ from (suc k) d h),
      )
  homed_part _ _ _ (first_region r rs v bs rest there below behind) = (
    homed_part Blocks v.blocks bs below r 0 (λ k b h.
        ap (slice_get (blocks_in c r)) (let e : 0 + k ≡ k = omega arith in e)
        ∙ ap (λ o. slice_get (unwrap_or (option_map (λ (x : RegionView). x.blocks) o) []) k) there ∙ h),
    homed_part Regions rs rest behind,
  )

  pub homed_regions : (rs : List (Ptr Region)) (t : Part Regions) → AreTree c Regions rs t → Homed IsFirst t true
  homed_regions rs t is = homed_part Regions rs t is
