-- Where what stays takes a value of what goes, so it is in trees, and the other way round.
use Rattle.std.proofs.Common.{◌≡◌, ◌⊎◌, inl, inr, ⊎_elim, ℕ, Bool, true, false, [], Option, None, Some, slice_get, option_map, unwrap_or, refl, sym, ap, ◌∙◌, subst}
use Rattle.std.specs.Prelude.{◌↔◌}
use Rattle.std.proofs.lemmas.Option.{none-some}
use Rattle.ir_program.specs.Erased.{definer_node}
use Rattle.ir_program.specs.Lists.{StandsInside, itself, in_block}
use Rattle.ir_program.specs.Program.{Program, OperationView, IsLiveValue, operation_at, results_at, arguments_at}
use Rattle.ir_program.specs.Rows.{operands_at}
use Rattle.ir_program.specs.Uses.{IsUsed}
use Rattle.ir_program.specs.declared.handles.DefiningEntity.TheVariants.{Op as ByOp, Block as ByBlock}
use Rattle.ir_program.specs.declared.handles.IRNode.{IRNode}
use Rattle.ir_program.specs.declared.handles.IRNode.TheVariants.{Operation as OperationNode, BasicBlock as BlockNode}
use Rattle.ir_program.specs.declared.handles.Ptr.{Ptr}
use Rattle.ir_program.specs.declared.handles.Operation.{Operation}
use Rattle.ir_program.specs.declared.handles.BasicBlock.{BasicBlock}
use Rattle.ir_program.specs.declared.handles.Value.{Value}
use Rattle.ir_program.proofs.made.Frames.{same_or_not}
use Rattle.ir_trees.specs.Trees.{Head, Label, Regions, Root}
use Rattle.ir_trees.specs.Renames.{names_of}
use Rattle.ir_trees.specs.Stands.{by_handle, in_program, ProgramTree}
use Rattle.ir_trees.proofs.Members.{has_at, at_has}
use Rattle.opt_trees.specs.Dialect.{Dialect}
use Rattle.opt_trees.specs.Dce.{TreeSurroundings}
use Rattle.opt_trees.specs.Occurrences.{Has, occurrences_of, block_occurrences_of, defined_in, at_root}
use Rattle.opt_trees.specs.Simplify.{StartingRegions, IsUnreached, IsCut, LosesUse, IsUsedBelow}
use Rattle.opt_inside.specs.Numbered.{Numbers, NumbersInside, values_in}
use Rattle.opt_inside.specs.Occurring.{Found, FoundBlock, IsBlockBelow, IsDefinedBelow}
use Rattle.opt_inside.proofs.Added.{HasValues, at_value}
use Rattle.opt_inside.proofs.Among.{results_are, arguments_are}
use Rattle.opt_inside.proofs.Around.{HasLists, inside_both, around_operation, is_root}
use Rattle.opt_inside.specs.Around.{SaysAround}
use Rattle.opt_inside.specs.reach.Fates.{HasReachTest}
use Rattle.opt_simplify.specs.Removed.{IsWithinPickedBlocks, TakesWithin, IsTakenOutsideBlocks}
use Rattle.opt_simplify.proofs.RemovedFound.{live_numbered}
use Rattle.opt_simplify.proofs.RemovedKept.{Clear, over, over_block, cut_root, operation_kept, operation_was, result_kept, argument_kept, defined_clear}
use Rattle.opt_simplify.proofs.RemovedPicking.{not_true}
use Rattle.opt_simplify.proofs.RemovedValues.{defined_by_found}
use Rattle.opt_inside.proofs.ReachLemmas.Occurs.{Occurs}

same_truth : (a b : Bool) → (a ≡ true → b ≡ true) → (b ≡ true → a ≡ true) → a ≡ b
same_truth true b f g = sym (f refl)
same_truth false true f g = g refl
same_truth false false f g = refl

module _ {O B : Type 0} (c : Program O B) (lists : HasLists c) (op : Ptr Operation) (t : ProgramTree O B) (occurs : Occurs c op t) (values : HasValues c)
    (picks : Ptr BasicBlock → Bool) (below : (b : Ptr BasicBlock) → picks b ≡ true → IsBlockBelow c op b) where
  -- what is found stands in no block that goes exactly where none of those over it goes
  op_outside : (o : Found O B) → Has o (occurrences_of t) → Clear picks (over o) → IsWithinPickedBlocks c picks (OperationNode o.head.name) → ⊥
  op_outside o has clear h =
      let is = occurs.sound o has in
      let m : Has h.0 (over o) = ⊎_elim
      (λ (e : BlockNode h.0 ≡ OperationNode o.head.name). cc)
      (λ i. ⊎_elim (λ e. inl e) (λ ne. inr ((is.spot.within h.0).1 (below h.0 h.1, ne, i))) (same_or_not h.0 o.site.label.name))
      (around_operation c lists (BlockNode h.0) o.head.name o.site.label.name is.in_block h.2) in
      let f : true ≡ false = sym h.1 ∙ clear h.0 m in cc

  op_clear : (o : Found O B) → Has o (occurrences_of t) → (IsWithinPickedBlocks c picks (OperationNode o.head.name) → ⊥) → Clear picks (over o)
  op_clear o has out w m =
      let is = occurs.sound o has in
      not_true (picks w) (λ h. out (
        w,
        h,
        in_block o.head.name o.site.label.name is.in_block (⊎_elim
            (λ (e : w ≡ o.site.label.name). subst (λ b. StandsInside c (BlockNode w) (BlockNode b)) e itself)
            (λ k. ((is.spot.within w).0 k).2)
            m),
      ))

  block_outside : (x : FoundBlock O B) → Has x (block_occurrences_of t) → Clear picks (over_block x) → IsWithinPickedBlocks c picks (BlockNode x.label.name) → ⊥
  block_outside x has clear h =
      let is = occurs.blocks_sound x has in
      let m : Has h.0 (over_block x) = ⊎_elim (λ e. inl e) (λ ne. inr ((is.spot.within h.0).1 (below h.0 h.1, ne, h.2))) (same_or_not h.0 x.label.name) in
      let f : true ≡ false = sym h.1 ∙ clear h.0 m in cc

  block_clear : (x : FoundBlock O B) → Has x (block_occurrences_of t) → (IsWithinPickedBlocks c picks (BlockNode x.label.name) → ⊥) → Clear picks (over_block x)
  block_clear x has out w m =
      let is = occurs.blocks_sound x has in
      not_true (picks w) (λ h. out (
        w,
        h,
        ⊎_elim
            (λ (e : w ≡ x.label.name). subst (λ b. StandsInside c (BlockNode w) (BlockNode b)) e itself)
            (λ k. ((is.spot.within w).0 k).2)
            m,
      ))

  -- the definers of what is found
  result_definer : (o : Found O B) → Has o (occurrences_of t) → (v : Value) → Has v (names_of o.head.results) → v.definer ≡ ByOp o.head.name
  result_definer o has v d =
      let is = occurs.sound o has in
      let m : Has v (values_in (results_at c o.head.name)) = subst (Has v) (results_are c o.head.name is.view is.there) (subst (λ (h : Head by_handle (in_program O B)). Has v (names_of h.results)) is.head d) in
      let k = has_at (values_in (results_at c o.head.name)) v m in
      values.definer (ByOp o.head.name) k.0 v (at_value (results_at c o.head.name) k.0 v k.1)

  argument_definer : (x : FoundBlock O B) → Has x (block_occurrences_of t) → (v : Value) → Has v (names_of x.label.arguments) → v.definer ≡ ByBlock x.label.name
  argument_definer x has v d =
      let is = occurs.blocks_sound x has in
      let m : Has v (values_in (arguments_at c x.label.name)) = subst (Has v) (arguments_are c x.label.name is.view is.there) (subst (λ (l : Label by_handle (in_program O B)). Has v (names_of l.arguments)) is.label d) in
      let k = has_at (values_in (arguments_at c x.label.name)) v m in
      values.definer (ByBlock x.label.name) k.0 v (at_value (arguments_at c x.label.name) k.0 v k.1)

  -- the values of what stays are those that are defined there
  went_within : (v : Value) → IsWithinPickedBlocks c picks (definer_node v.definer) → Has v (defined_in (cut_root picks t).regions) → ⊥
  went_within v w h = ⊎_elim
      (λ (f : (o : Found O B) × Has o (occurrences_of t) × Has v (names_of o.head.results) × Clear picks (over o)).
      op_outside f.0 f.1 f.3 (subst (λ e. IsWithinPickedBlocks c picks (definer_node e)) (result_definer f.0 f.1 v f.2) w))
      (λ (f : (x : FoundBlock O B) × Has x (block_occurrences_of t) × Has v (names_of x.label.arguments) × Clear picks (over_block x)).
      block_outside f.0 f.1 f.3 (subst (λ e. IsWithinPickedBlocks c picks (definer_node e)) (argument_definer f.0 f.1 v f.2) w))
      (defined_clear picks t v h)

  stays_outside : (v : Value) → Has v (defined_in t.regions) → (IsWithinPickedBlocks c picks (definer_node v.definer) → ⊥) → Has v (defined_in (cut_root picks t).regions)
  stays_outside v h out = ⊎_elim
      (λ (f : (o : Found O B) × Has o (occurrences_of t) × Has v (names_of o.head.results)).
      result_kept picks t f.0 v f.1 (op_clear f.0 f.1 (λ w. out (subst (λ e. IsWithinPickedBlocks c picks (definer_node e)) (sym (result_definer f.0 f.1 v f.2)) w))) f.2)
      (λ (f : (x : FoundBlock O B) × Has x (block_occurrences_of t) × Has v (names_of x.label.arguments)).
      argument_kept picks t f.0 v f.1 (block_clear f.0 f.1 (λ w. out (subst (λ e. IsWithinPickedBlocks c picks (definer_node e)) (sym (argument_definer f.0 f.1 v f.2)) w))) f.2)
      (defined_by_found Regions t.regions (at_root t) v h)

  -- operands of what is found
  row : (o : Found O B) → Has o (occurrences_of t) → operands_at c o.head.name ≡ o.head.operands
  row o has =
      let is = occurs.sound o has in
      ap (λ v. unwrap_or (option_map (λ (w : OperationView O). w.operands) v) []) is.there ∙ sym (ap (λ (g : Head by_handle (in_program O B)). g.operands) is.head)

  root_row : operands_at c op ≡ t.head.operands
  root_row = ap (λ v. unwrap_or (option_map (λ (w : OperationView O). w.operands) v) []) occurs.stands.there ∙ sym (ap (λ (g : Head by_handle (in_program O B)). g.operands) occurs.stands.head)

  module _ {A : Type 0} (d : Dialect (in_program O B) A) (w : TreeSurroundings by_handle A) (says : SaysAround d c op w) where
    pub loses_use : (n : Numbers) → NumbersInside c op n → ((v : Value) → IsUsed c v → IsLiveValue c v) → ((v : Value) → Has v (defined_in t.regions) ↔ IsDefinedBelow c op v)
        → ((e : IRNode) → StandsInside c (OperationNode op) e ⊎ (StandsInside c (OperationNode op) e → ⊥)) → IsTakenOutsideBlocks c picks → LosesUse w t (cut_root picks t)
    loses_use n numbered used defined decides taken = record {
      value = taken.value;
      was = (defined taken.value).1 ((numbered.values taken.value).0 (live_numbered c lists op n numbered values picks below taken.value (used taken.value (used_there taken.user taken.takes.0 taken.value taken.takes.1)) taken.defined));
      went = went_within taken.value taken.defined;
      named = ⊎_elim
          (λ inside. ⊎_elim
          (λ (e : taken.user ≡ op). inr (inl (subst (Has taken.value) root_row (subst (λ q. Has taken.value (operands_at c q)) e (at_has (operands_at c taken.user) taken.takes.0 taken.value taken.takes.1)))))
          (λ ne.
          let o = occurs.found taken.user (record { inside = inside; other = ne }) in
          let clear = op_clear o.0 o.1 (λ h. taken.outside (subst (λ q. IsWithinPickedBlocks c picks (OperationNode q)) o.2 h)) in
          let p = operation_kept picks t o.0 o.1 clear in
          let at : slice_get o.0.head.operands taken.takes.0 ≡ Some taken.value = ap (λ vs. slice_get vs taken.takes.0) (sym (row o.0 o.1)) ∙ ap (λ q. slice_get (operands_at c q) taken.takes.0) o.2 ∙ taken.takes.1 in
          inl (record { user = p.0; place = taken.takes.0; operand = record { stands = p.1; operand = ap (λ (h : Head by_handle (in_program O B)). slice_get h.operands taken.takes.0) p.2 ∙ at } }))
          (same_or_not taken.user op))
          (λ out. inr (inr ((says.pinned taken.value).1 (taken.user, out, taken.takes))))
          (decides (OperationNode taken.user));
    } where
      used_there : (p : Ptr Operation) (k : ℕ) (v : Value) → slice_get (operands_at c p) k ≡ Some v → IsUsed c v
      used_there p k v h = by_view (operation_at c p) refl h where
        by_view : (o : Option (OperationView O)) → operation_at c p ≡ o → slice_get (unwrap_or (option_map (λ (x : OperationView O). x.operands) o) []) k ≡ Some v → IsUsed c v
        by_view None e m = absurd (none-some v m)
        by_view (Some o) e m = (p, o, e, k, m)

    -- where all are taken within what goes, none is lost
    none_named : TakesWithin c picks → (v : Value) → IsUsedBelow (cut_root picks t) v ⊎ (Has v t.head.operands ⊎ (w.is_pinned v ≡ true)) → IsWithinPickedBlocks c picks (definer_node v.definer) → ⊥
    none_named takes v named within = ⊎_elim
        (λ (u : IsUsedBelow (cut_root picks t) v).
        let r = operation_was picks t u.user u.operand.stands in
        let at : slice_get (operands_at c r.0.head.name) u.place ≡ Some v = ap (λ vs. slice_get vs u.place) (row r.0 r.1) ∙ ap (λ (h : Head by_handle (in_program O B)). slice_get h.operands u.place) (sym r.2) ∙ u.operand.operand in
        op_outside r.0 r.1 r.3 (takes r.0.head.name u.place v at within))
        (λ more. ⊎_elim
        (λ (m : Has v t.head.operands).
        let k = has_at (operands_at c op) v (subst (Has v) (sym root_row) m) in
        let h = takes op k.0 v k.1 within in
        let e : BlockNode h.0 ≡ OperationNode op = is_root c lists op (BlockNode h.0) (below h.0 h.1) h.2 in cc)
        (λ pin.
        let p = (says.pinned v).0 pin in
        let h = takes p.0 p.2.0 v p.2.1 within in
        p.1 (inside_both c (OperationNode op) (BlockNode h.0) (OperationNode p.0) (below h.0 h.1) h.2))
        more)
        named

    pub loses_none : (place : StartingRegions by_handle) → ((b : Ptr BasicBlock) → (picks b ≡ true) ↔ IsUnreached d place t b) → TakesWithin c picks → (after : ProgramTree O B) → IsCut d place t after → LosesUse w t after → ⊥
    loses_none place exact takes after cut loses =
        let same : cut.gone ≡ picks = λ i b. same_truth (cut.gone b) (picks b) (λ h. (exact b).1 (cut.there b h)) (λ h. cut.all b ((exact b).0 h)) i in
        let is : after ≡ cut_root picks t = cut.is ∙ ap (λ g. cut_root g t) same in
        let here : LosesUse w t (cut_root picks t) = subst (λ (a : Root by_handle (in_program O B)). LosesUse w t a) is loses in
        let none = none_named takes here.value here.named in
        here.went (stays_outside here.value here.was none)

-- the tree without the blocks that are unreached
pub cut_is : {O B A : Type 0} (d : Dialect (in_program O B) A) (place : StartingRegions by_handle) (c : Program O B) (picks : Ptr BasicBlock → Bool) (t : ProgramTree O B) → ((b : Ptr BasicBlock) → (picks b ≡ true) ↔ IsUnreached d place t b) → HasReachTest t → IsCut d place t (cut_root picks t)
cut_is d place c picks t exact reach = record {
  reach = reach.0;
  reached = λ b. (reach.1 b).0;
  all_reached = λ b. (reach.1 b).1;
  gone = picks;
  there = λ b. (exact b).0;
  all = λ b. (exact b).1;
  is = refl;
}
