-- Trees of what a program shows are its trees, and stay where what it shows is kept.
use Rattle.ir_program.specs.Program.{Program}
use Rattle.ir_program.specs.declared.handles.Ptr.{Ptr}
use Rattle.ir_program.specs.declared.handles.Operation.{Operation}
use Rattle.ir_trees.specs.Trees.{Sort, Tree}
use Rattle.ir_trees.specs.Stands.{by_handle, in_program, ProgramTree, Handles, AreTree, no_operations, no_blocks, no_regions, first_operation, first_block, first_region, StandsFor}
use Rattle.ir_trees.specs.Seen.{AreSeen, no_operations as sees_no_operations, no_blocks as sees_no_blocks, no_regions as sees_no_regions, first_operation as sees_operation, first_block as sees_block, first_region as sees_region, IsSeenAs, KeepsLiveHandles, seen}

module _ {O B : Type 0} (c : Program O B) where
  are_seen : (s : Sort) (ps : Handles s) (t : Tree by_handle (in_program O B) s) → AreTree c s ps t → AreSeen (seen c) s ps t
  are_seen _ _ _ no_operations = sees_no_operations
  are_seen _ _ _ no_blocks = sees_no_blocks
  are_seen _ _ _ no_regions = sees_no_regions
  are_seen _ _ _ (first_operation p ps v rs rest e inner more) = sees_operation p ps v rs rest e (are_seen _ _ _ inner) (are_seen _ _ _ more)
  are_seen _ _ _ (first_block b bs v ops rest e inner more) = sees_block b bs v ops rest e (are_seen _ _ _ inner) (are_seen _ _ _ more)
  are_seen _ _ _ (first_region r rs v bs rest e inner more) = sees_region r rs v bs rest e (are_seen _ _ _ inner) (are_seen _ _ _ more)

  are_trees : (s : Sort) (ps : Handles s) (t : Tree by_handle (in_program O B) s) → AreSeen (seen c) s ps t → AreTree c s ps t
  are_trees _ _ _ sees_no_operations = no_operations
  are_trees _ _ _ sees_no_blocks = no_blocks
  are_trees _ _ _ sees_no_regions = no_regions
  are_trees _ _ _ (sees_operation p ps v rs rest e inner more) = first_operation p ps v rs rest e (are_trees _ _ _ inner) (are_trees _ _ _ more)
  are_trees _ _ _ (sees_block b bs v ops rest e inner more) = first_block b bs v ops rest e (are_trees _ _ _ inner) (are_trees _ _ _ more)
  are_trees _ _ _ (sees_region r rs v bs rest e inner more) = first_region r rs v bs rest e (are_trees _ _ _ inner) (are_trees _ _ _ more)

  pub seen_as : (op : Ptr Operation) (t : ProgramTree O B) → StandsFor c op t → IsSeenAs (seen c) op t
  seen_as op t h = record { view = h.view; there = h.there; head = h.head; regions = are_seen _ _ _ h.regions }

  pub stands_as : (op : Ptr Operation) (t : ProgramTree O B) → IsSeenAs (seen c) op t → StandsFor c op t
  stands_as op t h = record { view = h.view; there = h.there; head = h.head; regions = are_trees _ _ _ h.regions }

module _ {O B : Type 0} (old new : Program O B) (keeps : KeepsLiveHandles (seen old) (seen new)) where
  kept : (s : Sort) (ps : Handles s) (t : Tree by_handle (in_program O B) s) → AreTree old s ps t → AreTree new s ps t
  kept _ _ _ no_operations = no_operations
  kept _ _ _ no_blocks = no_blocks
  kept _ _ _ no_regions = no_regions
  kept _ _ _ (first_operation p ps v rs rest e inner more) = first_operation p ps v rs rest (keeps.operations p v e) (kept _ _ _ inner) (kept _ _ _ more)
  kept _ _ _ (first_block b bs v ops rest e inner more) = first_block b bs v ops rest (keeps.blocks b v e) (kept _ _ _ inner) (kept _ _ _ more)
  kept _ _ _ (first_region r rs v bs rest e inner more) = first_region r rs v bs rest (keeps.regions r v e) (kept _ _ _ inner) (kept _ _ _ more)

  pub kept_tree : (op : Ptr Operation) (t : ProgramTree O B) → StandsFor old op t → StandsFor new op t
  kept_tree op t h = record { view = h.view; there = keeps.operations op h.view h.there; head = h.head; regions = kept _ _ _ h.regions }
