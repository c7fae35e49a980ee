-- Deciding branches, removing blocks and joining chains, one after the other, make of a program what simplifying makes
-- of the tree of an operation.
use Rattle.std.proofs.Common.{◌≡◌, Option, Some, None, IsSome, refl, sym, subst}
use Rattle.ir_program.specs.Program.{Program, operation_at}
use Rattle.ir_program.specs.declared.handles.IRNode.TheVariants.{Operation as OperationNode, Region as RegionNode, BasicBlock as BlockNode}
use Rattle.ir_program.specs.declared.handles.Ptr.{Ptr}
use Rattle.ir_program.specs.declared.handles.Operation.{Operation}
use Rattle.ir_program.specs.declared.handles.BasicBlock.{BasicBlock}
use Rattle.ir_program.specs.declared.handles.Value.{Value}
use Rattle.ir_trees.specs.Renames.{Maps, rename_root}
use Rattle.ir_trees.specs.Stands.{by_handle, in_program, ProgramTree, StandsFor}
use Rattle.opt_trees.specs.Dialect.{Dialect}
use Rattle.opt_trees.specs.Simplify.{all_of, decided}
use Rattle.opt_inside.specs.Outside.{AddsNoneOutside, KeepsOutside, ChangesOperandsOutside}
use Rattle.opt_decide.specs.Phase.{DecidesBranches, BringsNoneInside, maps_of}
use Rattle.opt_simplify.specs.Phases.{RemovesBlocks}
use Rattle.opt_chains.specs.Phases.{MergesBlocks}
use Rattle.ir_opts.specs.SimplifiedTree.{SimplifiesTree}
use Rattle.ir_opts.proofs.SimplifiedNames.{CutsAndJoins, renamed_back, done_back, simplified_by}

module _ {O B : Type 0} (op : Ptr Operation) where
  -- what is kept in a first step, and then changed in operands alone, is so in both
  pub outside_then : (old middle new : Program O B) (f : Value → Value) → KeepsOutside old middle op
      → BringsNoneInside old middle op → ChangesOperandsOutside middle new op f → ChangesOperandsOutside old new op f
  outside_then old middle new f keeps inside changes = record {
    operations = λ p v out there. changes.operations p v
        (λ i. out (inside (OperationNode p) (subst IsSome (sym there) refl) i)) (keeps.operations p v out there);
    blocks = λ b v out there. changes.blocks b v
        (λ i. out (inside (BlockNode b) (subst IsSome (sym there) refl) i)) (keeps.blocks b v out there);
    regions = λ r v out there. changes.regions r v
        (λ i. out (inside (RegionNode r) (subst IsSome (sym there) refl) i)) (keeps.regions r v out there);
  }

module _ {O B A : Type 0} (d : Dialect (in_program O B) A) (old branched reduced new : Program O B)
    (op : Ptr Operation) (t : ProgramTree O B) (decides : DecidesBranches d old branched op t)
    (removes : (u : ProgramTree O B) → StandsFor branched op u
    → RemovesBlocks d (all_of u) branched reduced op u)
    (inside : BringsNoneInside branched reduced op)
    (merges : (u : ProgramTree O B) → StandsFor reduced op u → MergesBlocks d (all_of u) reduced new op u) where
  -- the tree with its branches decided, in the old names
  abbrev start : ProgramTree O B
  start = decided d decides.around t

  abbrev removed : RemovesBlocks d (all_of (rename_root decides.names start)) branched reduced op
      (rename_root decides.names start)
  removed = removes (rename_root decides.names start) decides.stands

  abbrev merged : MergesBlocks d (all_of removed.after) reduced new op removed.after
  merged = merges removed.after removed.stands

  -- the names of what is new
  abbrev f : Ptr Operation → Ptr Operation
  f = decides.names.operation

  abbrev Done : ProgramTree O B → ProgramTree O B → Type 0
  Done u after = CutsAndJoins (Ptr Operation) (Ptr BasicBlock) Value (in_program O B) f decides.twice d (Ptr Operation) u
      after merged.joined.names

  of_operations_alone : decides.names ≡ maps_of f
  of_operations_alone = λ i. record {
    operation = f;
    block = λ b. decides.blocks b i;
    value = λ v. decides.values v i;
  }

  -- in the old names the same blocks are cut and the same chains joined
  done : Done start (rename_root (maps_of f) merged.after)
  done = done_back (Ptr Operation) (Ptr BasicBlock) Value (in_program O B) f decides.twice d start merged.after
      merged.joined.names
      (subst (λ (n : Maps by_handle by_handle). Done (rename_root n start) merged.after) of_operations_alone
      (record { cut = removed.after; is_cut = removed.cut; is_joined = merged.joined; names = refl }))

  outside : ChangesOperandsOutside old new op merged.joined.names
  outside = outside_then op old branched new merged.joined.names decides.outside decides.inside
      (outside_then op branched reduced new merged.joined.names removed.outside inside merged.outside)

  none_come : AddsNoneOutside old new op
  none_come p live out =
      let joined = merged.none_come p live out in
      let cut = removed.none_come p joined.0 joined.1 in
      let v = there (operation_at branched p) cut.0 in
      let was = decides.around_it p v.0 cut.1 v.1 in
      (subst IsSome (sym was.1) refl, was.0)
    where
      there : {X : Type 0} (o : Option X) → IsSome o → (x : X) × (o ≡ Some x)
      there (Some x) h = (x, refl)
      there None h = cc

  pub simplifies_tree : SimplifiesTree d old new op t
  simplifies_tree =
      let s = simplified_by (Ptr Operation) (Ptr BasicBlock) Value (in_program O B) f decides.twice d decides.around t
      (rename_root (maps_of f) merged.after) merged.joined.names done in
      record {
        around = decides.around;
        says = decides.says;
        after = rename_root (maps_of f) merged.after;
        simplified = s.0;
        names = f;
        twice = decides.twice;
        fresh = decides.operations;
        kept = decides.kept;
        root = decides.root;
        stands = subst (StandsFor new op)
            (sym (renamed_back (Ptr Operation) (Ptr BasicBlock) Value (in_program O B) f decides.twice merged.after))
            merged.stands;
        outside = subst (ChangesOperandsOutside old new op) (sym s.1) outside;
        none_come = none_come;
      }
