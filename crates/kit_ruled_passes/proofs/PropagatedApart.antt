-- A module with constants put in is apart from all else, if it was.
use Rattle.std.proofs.Common.{◌≡◌, ◌≢◌, ◌⊎◌, inl, inr, ⊎_elim, map, Option, Some, None, refl, sym, ap, ◌∙◌, subst}
use Rattle.ir_program.specs.Lists.{StandsInside, itself}
use Rattle.ir_program.specs.Program.{OperationView, operation_at}
use Rattle.ir_program.specs.declared.handles.BasicBlock.{BasicBlock}
use Rattle.ir_program.specs.declared.handles.IRNode.TheVariants.{Operation as OperationNode}
use Rattle.ir_program.specs.declared.handles.Operation.{Operation}
use Rattle.ir_program.specs.declared.handles.Ptr.{Ptr}
use Rattle.ir_program.specs.declared.handles.Value.{Value}
use Rattle.ir_program.proofs.made.Frames.{same_or_not}
use Rattle.ir_trees.specs.Renames.{names_of, rename_root}
use Rattle.ir_trees.specs.Stands.{by_handle, StandsFor, ProgramHead, ProgramLabel}
use Rattle.ir_trees.proofs.Members.{has_made}
use Rattle.kit.specs.Context.{KitProgram, KitTree}
use Rattle.opt_inside.specs.Occurring.{IsBelowRoot, IsBlockBelow, IsDefinedBelow}
use Rattle.opt_inside.proofs.Values.{defined}
use Rattle.opt_inside.proofs.Walked.{sound, blocks_sound}
use Rattle.opt_sccp.specs.Sccp.{Propagates}
use Rattle.opt_dialect.specs.declared.status.IRStatus.{IRStatus}
use Rattle.opt_trees.specs.Occurrences.{Has}
use Rattle.opt_trees.specs.Sccp.{Old, New, Gets, IsResult, IsArgument, put, put_root, used_as}
use Rattle.kit.specs.Meaning.{KitOperation, KitBlock, kit}
use Rattle.kit_ops.specs.declared.attributes.IntegerAttr.{IntegerAttr}
use Rattle.pass_outside.proofs.ConstantsPut.{put_from, put_block, put_stays, put_new}
use Rattle.pass_outside.proofs.InTrees.{HasOperation, has_or_not, operation_reached, block_reached, operation_inside}
use Rattle.pass_outside.proofs.InTrees.{block_inside, same_some}
use Rattle.kit_ruled_passes.proofs.LeftApart.{IsKnownBefore, StoodOutside, LeavesApart, below_root}
use Rattle.pass_outside.proofs.PassIncludes.{renamed_operation, renamed_block, rename_operation}

module _ (old new : KitProgram) (root : Ptr Operation) (known : IsKnownBefore old root) (t : KitTree)
    (stands : StandsFor old root t) (answer : IRStatus) (done : Propagates kit old new root answer t) where
  abbrev after : KitTree
  after = rename_root done.puts.names (put_root {N = by_handle} kit done.made t)

  gets : (v : Value) (a : IntegerAttr) → done.made v ≡ Some a → Gets kit done.decided.around t done.decided.facts v a
  gets v a e = done.decided.is_made.gets v a e

  -- a value that gets a constant is defined below the root
  made_below : (v : Value) (a : IntegerAttr) → done.made v ≡ Some a → IsDefinedBelow old root v
  made_below v a e = ⊎_elim
      (λ (r : IsResult kit t done.decided.facts v).
      let i = sound old root known.lists t stands r.definer r.stands in
      inl (
        r.definer.head.name,
        i.view,
        i.below,
        i.there,
        subst (λ (h : ProgramHead KitOperation KitBlock). Has v (names_of h.results)) i.head r.result,
      ))
      (λ (r : IsArgument t done.decided.facts.runs v).
      let i = blocks_sound old root known.lists t stands r.definer r.stands in
      inr (
        r.definer.label.name,
        i.view,
        i.below,
        i.there,
        subst (λ (l : ProgramLabel KitOperation KitBlock). Has v (names_of l.arguments)) i.label r.argument,
      ))
      (gets v a e).place

  old_stays : (q : Ptr Operation) → HasOperation t.regions q → HasOperation after.regions q
  old_stays q i = subst (λ z. HasOperation after.regions z) (done.puts.old_operations q)
      (rename_operation done.puts.names (put {N = by_handle} kit done.made t.regions) (Old q)
      (put_stays by_handle kit done.made t.regions q i))

  new_comes : (u : Value) (a : IntegerAttr) → done.made u ≡ Some a
      → HasOperation after.regions (done.puts.names.operation (New u))
  new_comes u a e =
      let g = gets u a e in
      rename_operation done.puts.names (put {N = by_handle} kit done.made t.regions) (New u)
      (put_new by_handle kit done.made u a e g.maker g.made_by t.regions
      ((defined old known.lists root t stands u).1 (made_below u a e)))

  block_was : (b : Ptr BasicBlock) → IsBlockBelow new root b → IsBlockBelow old root b
  block_was b below =
      let m = block_reached new root after done.puts.stands b below in
      let r = renamed_block done.puts.names (put {N = by_handle} kit done.made t.regions) b m.has in
      let same : b ≡ r.0 = r.2 ∙ done.puts.old_blocks r.0 in
      subst (IsBlockBelow old root) (sym same)
      (block_inside old root t stands r.0 (put_block by_handle kit done.made t.regions r.0 r.1))

  operation_was : (p : Ptr Operation) → IsBelowRoot new root p → IsBelowRoot old root p ⊎ (operation_at old p ≡ None)
  operation_was p below = ⊎_elim
      (λ e. absurd (below.other e))
      (λ m.
      let r = renamed_operation done.puts.names (put {N = by_handle} kit done.made t.regions) p m.has in
      ⊎_elim
      (λ q.
      let same : p ≡ q.0 = r.2 ∙ ap done.puts.names.operation q.2 ∙ done.puts.old_operations q.0 in
      inl (subst (IsBelowRoot old root) (sym same) (below_root old root known.lists t stands q.0 q.1)))
      (λ q.
      let same : p ≡ done.puts.names.operation (New q.0) = r.2 ∙ ap done.puts.names.operation q.3 in
      inr (ap (operation_at old) same ∙ done.puts.led_nowhere q.0 q.1 q.2))
      (put_from by_handle kit done.made t.regions r.0 r.1))
      (operation_reached new root after done.puts.stands p below.inside)

  -- what an operand outside becomes
  operand_was : (y : Value) (o : Option IntegerAttr) → done.made y ≡ o
      → (done.puts.names.value (used_as y o) ≡ y) ⊎ IsDefinedBelow old root y
  operand_was y None e = inl (done.puts.old_values y)
  operand_was y (Some a) e = inr (made_below y a e)

  module _ (p : Ptr Operation) (v : OperationView KitOperation)
      (out : StandsInside new (OperationNode root) (OperationNode p) → ⊥) (there : operation_at new p ≡ Some v) where
    abbrev used : Value → Value
    used y = done.puts.names.value (used_as y (done.made y))

    stood : (StandsInside old (OperationNode root) (OperationNode p) → ⊥) → (o : Option (OperationView KitOperation))
        → operation_at old p ≡ o → StoodOutside old new root p v
    stood before None at =
        let gone : operation_at new p ≡ None = done.puts.no_others p at (λ u a e same. out
        (subst (λ z. StandsInside new (OperationNode root) (OperationNode z)) (sym same)
        (operation_inside new root after done.puts.stands (done.puts.names.operation (New u)) (new_comes u a e)))) in
        let e : Some v ≡ None = sym there ∙ gone in cc
    stood before (Some w) at =
        let now = done.puts.outside.operations p w before at in
        let same : v ≡ record w { operands = map used w.operands } =
        same_some (operation_at new p) v (record w { operands = map used w.operands }) there now in
        record {
          before = before;
          view = w;
          there = at;
          successors = ap (λ (x : OperationView KitOperation). x.successors) same;
          operands = λ x has.
              let m = has_made used w.operands x
              (subst (λ (z : OperationView KitOperation). Has x z.operands) same has) in (
                m.0,
                m.1,
                ⊎_elim (λ e. inl (m.2 ∙ e)) (λ d. inr d) (operand_was m.0 (done.made m.0) refl),
              );
        }

    outside_was : StoodOutside old new root p v
    outside_was = ⊎_elim
        (λ (e : p ≡ root). absurd (out (subst (λ z. StandsInside new (OperationNode root) (OperationNode z)) (sym e)
        itself)))
        (λ (other : p ≢ root). ⊎_elim
        (λ has. absurd (out (operation_inside new root after done.puts.stands p (old_stays p has))))
        (λ none. stood
        (λ inside. ⊎_elim other (λ m. none m.has) (operation_reached old root t stands p inside))
        (operation_at old p) refl)
        (has_or_not t.regions p (same_or_not p)))
        (same_or_not p root)

  pub propagated_apart : LeavesApart old new root
  propagated_apart = record { blocks = block_was; operations = operation_was; outside = outside_was }
