-- What is found in a tree is what its handles lead to, where it stands.
use Rattle.std.proofs.Common.{⊎_elim, refl, sym, subst}
use Rattle.ir_program.specs.Program.{Program}
use Rattle.ir_program.specs.declared.handles.Ptr.{Ptr}
use Rattle.ir_program.specs.declared.handles.Operation.{Operation}
use Rattle.ir_trees.specs.Trees.{Sort, Operations, Blocks, Regions, Tree}
use Rattle.ir_trees.specs.Stands.{by_handle, in_program, Handles, ProgramTree, head_of, label_of, AreTree, no_operations, no_blocks, no_regions, first_operation, first_block, first_region, StandsFor}
use Rattle.ir_trees.proofs.Members.{has_either}
use Rattle.opt_trees.specs.Occurrences.{Has, Inside, inner, next_block, next_region, at_root, occurrences_in, block_occurrences_in, occurrences_of, block_occurrences_of}
use Rattle.opt_inside.specs.Occurring.{Found, FoundBlock, IsOccurrence, IsBlockOccurrence}
use Rattle.opt_inside.proofs.Around.{HasLists}
use Rattle.opt_inside.proofs.Spots.{StandAt, at_start, down_block, next_of_region, down_region, next_of_operation, in_its_block, below_root, down_operation, next_of_block}

module _ {O B : Type 0} (c : Program O B) (op : Ptr Operation) (lists : HasLists c) where
  occurring : (s : Sort) (hs : Handles s) (t : Tree by_handle (in_program O B) s) (i : Inside by_handle (in_program O B) s) → AreTree c s hs t → StandAt c op s hs i → (o : Found O B) → Has o (occurrences_in t i) → IsOccurrence c op o
  occurring _ _ _ i no_operations at o has = absurd has
  occurring _ _ _ i no_blocks at o has = absurd has
  occurring _ _ _ i no_regions at o has = absurd has
  occurring _ _ _ i (first_operation p ps v rs left there below behind) at o has = ⊎_elim
      (λ same. subst (IsOccurrence c op) (sym same) (record {
        view = v;
        there = there;
        head = refl;
        regions = below;
        below = below_root c op lists p ps i at;
        in_block = in_its_block c op lists p ps i at;
        block_view = at.view;
        block_there = at.there;
        label = at.label;
        spot = at.spot;
      }))
      (λ more. ⊎_elim
      (occurring Regions v.regions rs (inner (head_of p v) i) below (down_operation c op lists p ps i v at there) o)
      (occurring Operations ps left i behind (next_of_block c op lists p ps i at) o)
      (has_either (occurrences_in rs (inner (head_of p v) i)) (occurrences_in left i) o more))
      has
  occurring _ _ _ i (first_block b bs v ops left there below behind) at o has = ⊎_elim
      (occurring Operations v.operations ops (record { spot = i; label = label_of b v }) below (down_block c op lists b bs i v at there) o)
      (occurring Blocks bs left (next_block i) behind (next_of_region c op lists b bs i at) o)
      (has_either (occurrences_in ops (record { spot = i; label = label_of b v })) (occurrences_in left (next_block i)) o has)
  occurring _ _ _ i (first_region r rs v bs left there below behind) at o has = ⊎_elim
      (occurring Blocks v.blocks bs i below (down_region c op lists r rs i v at there) o)
      (occurring Regions rs left (next_region i) behind (next_of_operation c op lists r rs i at) o)
      (has_either (occurrences_in bs i) (occurrences_in left (next_region i)) o has)

  block_occurring : (s : Sort) (hs : Handles s) (t : Tree by_handle (in_program O B) s) (i : Inside by_handle (in_program O B) s) → AreTree c s hs t → StandAt c op s hs i → (x : FoundBlock O B) → Has x (block_occurrences_in t i) → IsBlockOccurrence c op x
  block_occurring _ _ _ i no_operations at x has = absurd has
  block_occurring _ _ _ i no_blocks at x has = absurd has
  block_occurring _ _ _ i no_regions at x has = absurd has
  block_occurring _ _ _ i (first_operation p ps v rs left there below behind) at x has = ⊎_elim
      (block_occurring Regions v.regions rs (inner (head_of p v) i) below (down_operation c op lists p ps i v at there) x)
      (block_occurring Operations ps left i behind (next_of_block c op lists p ps i at) x)
      (has_either (block_occurrences_in rs (inner (head_of p v) i)) (block_occurrences_in left i) x has)
  block_occurring _ _ _ i (first_block b bs v ops left there below behind) at x has =
      let down = down_block c op lists b bs i v at there in ⊎_elim
      (λ same. subst (IsBlockOccurrence c op) (sym same) (record { view = v; there = there; label = refl; operations = below; below = down.below; spot = down.spot }))
      (λ more. ⊎_elim
      (block_occurring Operations v.operations ops (record { spot = i; label = label_of b v }) below down x)
      (block_occurring Blocks bs left (next_block i) behind (next_of_region c op lists b bs i at) x)
      (has_either (block_occurrences_in ops (record { spot = i; label = label_of b v })) (block_occurrences_in left (next_block i)) x more))
      has
  block_occurring _ _ _ i (first_region r rs v bs left there below behind) at x has = ⊎_elim
      (block_occurring Blocks v.blocks bs i below (down_region c op lists r rs i v at there) x)
      (block_occurring Regions rs left (next_region i) behind (next_of_operation c op lists r rs i at) x)
      (has_either (block_occurrences_in bs i) (block_occurrences_in left (next_region i)) x has)

  -- of the tree that the root stands for
  pub sound : (t : ProgramTree O B) → StandsFor c op t → (o : Found O B) → Has o (occurrences_of t) → IsOccurrence c op o
  sound t stands = occurring Regions stands.view.regions t.regions (at_root t) stands.regions (at_start c op lists t stands)

  pub blocks_sound : (t : ProgramTree O B) → StandsFor c op t → (x : FoundBlock O B) → Has x (block_occurrences_of t) → IsBlockOccurrence c op x
  blocks_sound t stands = block_occurring Regions stands.view.regions t.regions (at_root t) stands.regions (at_start c op lists t stands)
