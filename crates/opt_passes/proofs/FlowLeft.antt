-- What is left outside an operation where control flow below it is simplified, or simplifying it stops.
use Rattle.std.proofs.Common.{◌≡◌, ◌⊎◌, ⊎_elim, inl, inr, None, IsSome, refl, sym, ap, ◌∙◌, subst}
use Rattle.ir_opts.specs.Simplified.{StopsAt, while_deciding, while_removing, loses_uses, while_joining, comes_back}
use Rattle.ir_opts.specs.SimplifiedTree.{SimplifiesTree}
use Rattle.ir_program.specs.Lists.{StandsInside, itself}
use Rattle.ir_program.specs.Program.{Program, operation_at, block_at}
use Rattle.ir_program.specs.declared.handles.BasicBlock.{BasicBlock}
use Rattle.ir_program.specs.declared.handles.IRNode.TheVariants.{Operation as OperationNode, BasicBlock as BlockNode}
use Rattle.ir_program.specs.declared.handles.IRNode.TheVariants.{Region as RegionNode}
use Rattle.ir_program.specs.declared.handles.Operation.{Operation}
use Rattle.ir_program.specs.declared.handles.Ptr.{Ptr}
use Rattle.ir_program.specs.declared.handles.Value.{Value}
use Rattle.ir_trees.specs.Renames.{names_of, rename_root}
use Rattle.ir_trees.specs.Stands.{by_handle, in_program, ProgramTree, StandsFor}
use Rattle.ir_trees.proofs.Members.{at_has}
use Rattle.opt_decide.specs.Phase.{DecidesBranches, maps_of}
use Rattle.opt_decide.proofs.NamesDecided.{not_none}
use Rattle.opt_dialect.specs.declared.status.OptError.{OptError}
use Rattle.opt_inside.specs.Occurring.{IsBlockBelow, IsDefinedBelow}
use Rattle.opt_inside.specs.Outside.{AddsNoneOutside, KeepsOutside}
use Rattle.opt_inside.proofs.Values.{defined}
use Rattle.opt_simplify.specs.Phases.{RemovesBlocks}
use Rattle.opt_trees.specs.Dialect.{Dialect}
use Rattle.opt_trees.specs.Occurrences.{at_root}
use Rattle.opt_trees.specs.Simplify.{StartingRegions, Follows, stops, goes_on, all_of, decide, keep, use_instead}
use Rattle.opt_trees.proofs.Defined.{argument_defined}
use Rattle.pass_outside.specs.Outside.{LeavesOutside}
use Rattle.pass_outside.specs.Sound.{IsSound}
use Rattle.pass_outside.proofs.InTrees.{HasOperation, Includes, includes_both, operation_reached, block_reached}
use Rattle.pass_outside.proofs.InTrees.{operation_held, operation_inside, block_inside}
use Rattle.pass_outside.proofs.LeftBy.{BringsNoOldInside, left_by, kept_changes}
use Rattle.pass_outside.proofs.Outside.{some_of, is_some, has_lists}
use Rattle.pass_outside.proofs.PassIncludes.{decided_less, kept_less, joined_less, renamed_operation, renamed_block}
use Rattle.opt_passes.proofs.SomeDecided.{part_live, part_outside, part_inside, part_none_come}

-- ---- simplified

module _ {O B A : Type 0} (d : Dialect (in_program O B) A) (old new : Program O B) (op : Ptr Operation) (was : IsSound old)
    (is : IsSound new) (t : ProgramTree O B) (stands : StandsFor old op t) (done : SimplifiesTree d old new op t) where
  cut_less : Includes done.simplified.cut.regions t.regions
  cut_less =
      let middle = decide d done.around.alone t.regions in
      let cut = done.simplified.is_cut in
      subst (λ (z : ProgramTree O B). Includes z.regions t.regions) (sym cut.is)
      (includes_both (keep cut.gone middle) middle t.regions (kept_less cut.gone middle)
      (decided_less d done.around.alone t.regions))

  after_less : Includes done.after.regions t.regions
  after_less =
      let join = done.simplified.is_joined in
      subst (λ (z : ProgramTree O B). Includes z.regions t.regions) (sym join.is)
      (includes_both (use_instead join.names join.regions) done.simplified.cut.regions t.regions
      (joined_less d (all_of t) done.simplified.cut join.names join.regions join.joins) cut_less)

  abbrev after : ProgramTree O B
  after = rename_root (maps_of done.names) done.after

  operation_was : (p : Ptr Operation) → IsSome (operation_at old p) → HasOperation after.regions p
      → HasOperation t.regions p
  operation_was p live has =
      let r = renamed_operation (maps_of done.names) done.after.regions p has in
      let there = after_less.operations r.0 r.1 in
      let held = operation_held old op t stands r.0 there in
      ⊎_elim
      (λ (same : done.names r.0 ≡ r.0). subst (λ z. HasOperation t.regions z) (sym (r.2 ∙ same)) there)
      (λ (none : operation_at old (done.names r.0) ≡ None).
      absurd (not_none (operation_at old p) live (ap (operation_at old) r.2 ∙ none)))
      (done.fresh r.0 held.1.operation)

  block_was : (b : Ptr BasicBlock) → IsBlockBelow new op b → IsBlockBelow old op b
  block_was b i =
      let m = block_reached new op after done.stands b i in
      let r = renamed_block (maps_of done.names) done.after.regions b m.has in
      subst (IsBlockBelow old op) (sym r.2) (block_inside old op t stands r.0 (after_less.blocks r.0 r.1))

  inside : BringsNoOldInside old new op
  inside = record {
    operations = λ p live i. ⊎_elim
        (λ (e : p ≡ op). subst (λ z. StandsInside old (OperationNode op) (OperationNode z)) (sym e) itself)
        (λ m. operation_inside old op t stands p (operation_was p live m.has))
        (operation_reached new op after done.stands p i);
    blocks = λ b live i. block_was b i;
  }

  -- a value in whose place another is used is an argument of a block of the tree
  followed : (v x : Value) → Follows d (all_of t) done.simplified.cut v x → (x ≡ v) ⊎ IsDefinedBelow old op v
  followed _ _ (stops v none) = inl refl
  followed _ _ (goes_on v u x g rest) =
      let cut = done.simplified.cut in
      inr ((defined old (has_lists old was) op t stands v).0 (cut_less.values v
      (argument_defined cut.regions (at_root cut) g.joins.target v g.joins.target_stands
      (at_has (names_of g.joins.target.label.arguments) g.place v g.takes))))

  pub flow_left : LeavesOutside old new op
  flow_left = left_by old new op was is (is_some (operation_at new op) done.stands.view done.stands.there)
      done.simplified.is_joined.names
      (λ v. followed v (done.simplified.is_joined.names v) (done.simplified.is_joined.follows v))
      done.outside inside done.none_come

-- ---- stopped

-- a step that keeps all that is outside
record Spares {O B : Type 0} (old new : Program O B) (op : Ptr Operation) : Type 0 where
  live : IsSome (operation_at new op)
  outside : KeepsOutside old new op
  inside : BringsNoOldInside old new op
  none_come : AddsNoneOutside old new op

module _ {O B A : Type 0} (d : Dialect (in_program O B) A) (old : Program O B) (op : Ptr Operation) where
  decides_spares : (new : Program O B) (t : ProgramTree O B) → DecidesBranches d old new op t → Spares old new op
  decides_spares new t decides = record {
    live = is_some (operation_at new op) decides.stands.view decides.stands.there;
    outside = decides.outside;
    inside = record {
      operations = λ p live i. decides.inside (OperationNode p) live i;
      blocks = λ b live i. decides.inside (BlockNode b) live i;
    };
    none_come = λ p live out.
        let v = some_of (operation_at new p) live in
        let before = decides.around_it p v.0 out v.1 in
        (is_some (operation_at old p) v.0 before.1, before.0);
  }

  -- then unreached blocks are cut
  removes_spares : (mid new : Program O B) (t u : ProgramTree O B) (p : StartingRegions by_handle) → DecidesBranches d old mid op t
      → RemovesBlocks d p mid new op u → Spares old new op
  removes_spares mid new t u p decides removes =
      let first = decides_spares mid t decides in
      record {
        live = is_some (operation_at new op) removes.stands.view removes.stands.there;
        outside = record {
          operations = λ q v out there. removes.outside.operations q v
              (λ i. out (first.inside.operations q (is_some (operation_at old q) v there) i))
              (first.outside.operations q v out there);
          blocks = λ b v out there. removes.outside.blocks b v
              (λ i. out (first.inside.blocks b (is_some (block_at old b) v there) i))
              (first.outside.blocks b v out there);
          regions = λ r v out there. removes.outside.regions r v
              (λ i. out (decides.inside (RegionNode r) (subst IsSome (sym there) refl) i))
              (first.outside.regions r v out there);
        };
        inside = record {
          operations = λ q live i. first.inside.operations q live (removes.inside (OperationNode q) i);
          blocks = λ b live i. first.inside.blocks b live (removes.inside (BlockNode b) i);
        };
        none_come = λ q live out. let before = removes.none_come q live out in first.none_come q before.0 before.1;
      }

  module _ (new : Program O B) (was : IsSound old) (is : IsSound new) (t : ProgramTree O B) (stands : StandsFor old op t) where
    stopped_spares : (e : OptError) → StopsAt d old new op e → Spares old new op
    stopped_spares e (while_deciding _ part) =
        let there = is_some (operation_at old op) stands.view stands.there in
        record {
          live = part_live d old new op was there part;
          outside = part_outside d old new op was there part;
          inside = part_inside d old new op was there part;
          none_come = part_none_come d old new op was there part;
        }
    stopped_spares e (while_removing _ decides) = decides_spares new t (decides t stands)
    stopped_spares e (loses_uses _ decides _) = decides_spares new t (decides t stands)
    stopped_spares e (while_joining _ mid decides removes) =
        let first = decides t stands in
        removes_spares mid new t _ _ first (removes _ first.stands)
    stopped_spares e (comes_back _ mid decides removes _) =
        let first = decides t stands in
        removes_spares mid new t _ _ first (removes _ first.stands)

    pub stopped_left : (e : OptError) → StopsAt d old new op e → LeavesOutside old new op
    stopped_left e stops_at =
        let spares = stopped_spares e stops_at in
        left_by old new op was is spares.live (λ v. v) (λ v. inl refl) (kept_changes old new op spares.outside)
        spares.inside spares.none_come
