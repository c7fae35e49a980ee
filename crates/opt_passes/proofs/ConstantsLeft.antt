-- What is left outside an operation where constants are put in for values below it.
use Rattle.std.proofs.Common.{◌≡◌, ◌⊎◌, ⊎_elim, inl, inr, Option, Some, None, IsSome, refl, sym, ap, ◌∙◌, subst}
use Rattle.ir_program.specs.Lists.{StandsInside, itself}
use Rattle.ir_program.specs.Program.{Program, OperationView, operation_at}
use Rattle.ir_program.specs.declared.handles.BasicBlock.{BasicBlock}
use Rattle.ir_program.specs.declared.handles.IRNode.TheVariants.{Operation as OperationNode}
use Rattle.ir_program.specs.declared.handles.Operation.{Operation}
use Rattle.ir_program.specs.declared.handles.Ptr.{Ptr}
use Rattle.ir_program.specs.declared.handles.Value.{Value}
use Rattle.ir_trees.specs.Renames.{names_of, rename_root}
use Rattle.ir_trees.specs.Stands.{by_handle, in_program, ProgramHead, ProgramLabel, ProgramTree, StandsFor}
use Rattle.opt_decide.proofs.NamesDecided.{not_none}
use Rattle.opt_dialect.specs.declared.status.IRStatus.{IRStatus}
use Rattle.opt_inside.specs.Occurring.{IsBlockBelow, IsDefinedBelow}
use Rattle.opt_inside.specs.Outside.{AddsNoneOutside}
use Rattle.opt_inside.proofs.Values.{defined}
use Rattle.opt_inside.proofs.Walked.{sound, blocks_sound}
use Rattle.opt_sccp.specs.Puts.{PutsConstants}
use Rattle.opt_sccp.specs.Sccp.{Propagates, PropagatesPart}
use Rattle.opt_trees.specs.Dialect.{Dialect}
use Rattle.opt_trees.specs.Occurrences.{Has}
use Rattle.opt_trees.specs.Sccp.{Old, New, IsArgument, IsResult, put, put_root, used_as}
use Rattle.pass_outside.specs.Outside.{LeavesOutside}
use Rattle.pass_outside.specs.Sound.{IsSound}
use Rattle.pass_outside.proofs.ConstantsPut.{put_from, put_block, put_stays, put_new}
use Rattle.pass_outside.proofs.InTrees.{HasOperation, operation_reached, block_reached, operation_inside, block_inside}
use Rattle.pass_outside.proofs.LeftBy.{BringsNoOldInside, left_by}
use Rattle.pass_outside.proofs.Outside.{some_of, is_some, has_lists}
use Rattle.pass_outside.proofs.PassIncludes.{renamed_operation, renamed_block, rename_operation}

module _ {O B A : Type 0} (d : Dialect (in_program O B) A) (old new : Program O B) (op : Ptr Operation) (was : IsSound old)
    (is : IsSound new) (t : ProgramTree O B) (stands : StandsFor old op t) where
  module _ (made : Value → Option A) (below : (v : Value) (a : A) → made v ≡ Some a → IsDefinedBelow old op v)
      (made_by : (v : Value) (a : A) → made v ≡ Some a → IsSome (d.constant a))
      (puts : PutsConstants d old new op made t) where
    abbrev after : ProgramTree O B
    after = rename_root puts.names (put_root {N = by_handle} d made t)

    -- what is in the tree stays in it, and the constants come
    old_stays : (q : Ptr Operation) → HasOperation t.regions q → HasOperation after.regions q
    old_stays q i = subst (λ z. HasOperation after.regions z) (puts.old_operations q)
        (rename_operation puts.names (put {N = by_handle} d made t.regions) (Old q)
        (put_stays by_handle d made t.regions q i))

    new_comes : (u : Value) (a : A) → made u ≡ Some a → HasOperation after.regions (puts.names.operation (New u))
    new_comes u a e =
        let maker = some_of (d.constant a) (made_by u a e) in
        rename_operation puts.names (put {N = by_handle} d made t.regions) (New u)
        (put_new by_handle d made u a e maker.0 maker.1 t.regions
        ((defined old (has_lists old was) op t stands u).1 (below u a e)))

    -- what is there now was there, or is a constant
    was_in_tree : (p : Ptr Operation) → IsSome (operation_at old p) → HasOperation after.regions p → HasOperation t.regions p
    was_in_tree p live has =
        let r = renamed_operation puts.names (put {N = by_handle} d made t.regions) p has in
        ⊎_elim
        (λ q.
        let same : q.0 ≡ p = sym (r.2 ∙ ap puts.names.operation q.2 ∙ puts.old_operations q.0) in
        subst (λ z. HasOperation t.regions z) same q.1)
        (λ q.
        let same : p ≡ puts.names.operation (New q.0) = r.2 ∙ ap puts.names.operation q.3 in
        absurd (not_none (operation_at old p) live (ap (operation_at old) same ∙ puts.led_nowhere q.0 q.1 q.2)))
        (put_from by_handle d made t.regions r.0 r.1)

    block_was : (b : Ptr BasicBlock) → IsBlockBelow new op b → IsBlockBelow old op b
    block_was b i =
        let m = block_reached new op after puts.stands b i in
        let r = renamed_block puts.names (put {N = by_handle} d made t.regions) b m.has in
        let same : b ≡ r.0 = r.2 ∙ puts.old_blocks r.0 in
        subst (IsBlockBelow old op) (sym same)
        (block_inside old op t stands r.0 (put_block by_handle d made t.regions r.0 r.1))

    inside : BringsNoOldInside old new op
    inside = record {
      operations = λ p live i. ⊎_elim
          (λ (e : p ≡ op). subst (λ z. StandsInside old (OperationNode op) (OperationNode z)) (sym e) itself)
          (λ m. operation_inside old op t stands p (was_in_tree p live m.has))
          (operation_reached new op after puts.stands p i);
      blocks = λ b live i. block_was b i;
    }

    -- what isn't inside the operation now was there
    was_there : (p : Ptr Operation) → IsSome (operation_at new p)
        → (StandsInside new (OperationNode op) (OperationNode p) → ⊥) → (o : Option (OperationView O))
        → operation_at old p ≡ o → IsSome (operation_at old p)
    was_there p live out (Some v) at = is_some (operation_at old p) v at
    was_there p live out None at = absurd (not_none (operation_at new p) live
        (puts.no_others p at (λ u a e same. out
        (subst (λ z. StandsInside new (OperationNode op) (OperationNode z)) (sym same)
        (operation_inside new op after puts.stands (puts.names.operation (New u)) (new_comes u a e))))))

    none_come : AddsNoneOutside old new op
    none_come p live out = (
      was_there p live out (operation_at old p) refl,
      λ i. ⊎_elim
          (λ (e : p ≡ op). out (subst (λ z. StandsInside new (OperationNode op) (OperationNode z)) (sym e) itself))
          (λ m. out (operation_inside new op after puts.stands p (old_stays p m.has)))
          (operation_reached old op t stands p i),
    )

    -- an operand is a value that is defined below the operation, or stays
    operand_now : (v : Value) (o : Option A) → made v ≡ o
        → (puts.names.value (used_as v o) ≡ v) ⊎ IsDefinedBelow old op v
    operand_now v None e = inl (puts.old_values v)
    operand_now v (Some a) e = inr (below v a e)

    constants_left : LeavesOutside old new op
    constants_left = left_by old new op was is (is_some (operation_at new op) puts.stands.view puts.stands.there)
        (λ v. puts.names.value (used_as v (made v))) (λ v. operand_now v (made v) refl) puts.outside inside none_come

  -- all of them
  pub propagated_left : (status : IRStatus) → Propagates d old new op status t → LeavesOutside old new op
  propagated_left status done = constants_left done.made made_below made_by done.puts
    where
      made_below : (v : Value) (a : A) → done.made v ≡ Some a → IsDefinedBelow old op v
      made_below v a e = ⊎_elim
          (λ (r : IsResult d t done.decided.facts v).
          let i = sound old op (has_lists old was) t stands r.definer r.stands in
          inl (
            r.definer.head.name,
            i.view,
            i.below,
            i.there,
            subst (λ (h : ProgramHead O B). Has v (names_of h.results)) i.head r.result,
          ))
          (λ (r : IsArgument t done.decided.facts.runs v).
          let i = blocks_sound old op (has_lists old was) t stands r.definer r.stands in
          inr (
            r.definer.label.name,
            i.view,
            i.below,
            i.there,
            subst (λ (l : ProgramLabel O B). Has v (names_of l.arguments)) i.label r.argument,
          ))
          (done.decided.is_made.gets v a e).place

      made_by : (v : Value) (a : A) → done.made v ≡ Some a → IsSome (d.constant a)
      made_by v a e = let g = done.decided.is_made.gets v a e in is_some (d.constant a) g.maker g.made_by

  -- a part of them
  pub part_left : PropagatesPart d old new op t → LeavesOutside old new op
  part_left part = constants_left part.made part.below part.made_by part.puts
