-- Edits of one operation, one after the other, and of operations of a list.
use Rattle.std.proofs.Common.{◌≡◌, ⊎_elim, ℕ, suc, ◌+◌, ◌<◌, Bool, true, false, List, [], length, take, get_or, remove, Option, Some, None, IsSome, option_map, unwrap_or, slice_get, refl, sym, ap, ◌∙◌, subst}
use Rattle.std.proofs.lemmas.Option.{slice_get-get_or, slice_get_within}
use Rattle.ir_program.specs.Edits.{EditsOperation, KeepsErased}
use Rattle.ir_program.specs.Program.{Program, OperationView, no_handle, operation_at}
use Rattle.ir_program.specs.RowEdits.{RemovesOperand}
use Rattle.ir_program.specs.Rows.{operands_at}
use Rattle.ir_program.specs.declared.handles.Ptr.{Ptr}
use Rattle.ir_program.specs.declared.handles.Operation.{Operation}
use Rattle.ir_program.specs.declared.handles.Value.{Value}
use Rattle.ir_program.specs.declared.handles.DefiningEntity.TheVariants.{Op as ByOp}
use Rattle.opt_dialect.specs.Masks.{marked}
use Rattle.ir_trees.specs.Stands.{in_program}
use Rattle.ir_program.specs.Lent.{payload_at}
use Rattle.opt_trees.specs.Dialect.{Dialect, drop}
use Rattle.opt_dce.specs.declared.liveness.plan.LostOperands.{LostOperands}
use Rattle.opt_dce.specs.Steps.{LosesListed, loses}
use Rattle.opt_dce.proofs.Turns.{mapped_twice, not_before, before_or_it, it_next, before_next}
use Rattle.opt_dce.proofs.Picking.{dropped_from, none_from, one_from, kept_from, at_from}

-- the operation without the operands that are marked from an index on
abbrev pub loses_from : {O : Type 0} → ℕ → List Bool → OperationView O → OperationView O
loses_from i marks v = record v { operands = dropped_from i (marked marks) v.operands }

module _ {O B : Type 0} where
  -- what was kept twice is kept
  pub erased_both : (old mid new : Program O B) → KeepsErased old mid → KeepsErased mid new → KeepsErased old new
  erased_both old mid new a b = record { operations = λ q s. b.operations q (a.operations q s); blocks = λ q s. b.blocks q (a.blocks q s); regions = λ q s. b.regions q (a.regions q s) }

  -- two edits of one operation
  pub edits_both : (old mid new : Program O B) (p : Ptr Operation) (f h k : OperationView O → OperationView O) → EditsOperation old mid p f → EditsOperation mid new p h → ((v : OperationView O) → h (f v) ≡ k v) → EditsOperation old new p k
  edits_both old mid new p f h k a b e = record {
    edited = b.edited ∙ ap (option_map h) a.edited ∙ mapped_twice f h k e (operation_at old p);
    others = λ q ne. b.others q ne ∙ a.others q ne;
    blocks = λ q. b.blocks q ∙ a.blocks q;
    regions = λ q. b.regions q ∙ a.regions q;
    erased = erased_both old mid new a.erased b.erased;
  }

  -- an edit that changes nothing
  pub edits_none : (c : Program O B) (p : Ptr Operation) (f : OperationView O → OperationView O) → ((v : OperationView O) → operation_at c p ≡ Some v → f v ≡ v) → EditsOperation c c p f
  edits_none c p f same = record {
    edited = by_case (operation_at c p) refl;
    others = λ q ne. refl;
    blocks = λ q. refl;
    regions = λ q. refl;
    erased = record { operations = λ q s. s; blocks = λ q s. s; regions = λ q s. s };
  } where
    by_case : (o : Option (OperationView O)) → operation_at c p ≡ o → o ≡ option_map f o
    by_case None e = refl
    by_case (Some v) e = ap Some (sym (same v e))

  pub begins : (c : Program O B) (p : Ptr Operation) (marks : List Bool) → length marks ≡ length (operands_at c p) → EditsOperation c c p (loses_from (length marks) marks)
  begins c p marks count = edits_none c p (loses_from (length marks) marks) (λ v there.
      let e : length marks ≡ length v.operands = count ∙ ap (λ o. length (unwrap_or (option_map (λ (y : OperationView O). y.operands) o) [])) there in
      λ j. record v { operands = (ap (λ n. dropped_from n (marked marks) v.operands) e ∙ none_from (marked marks) v.operands) j })

  -- one turn: the operand at the index goes, or stays
  module _ (old mid : Program O B) (p : Ptr Operation) (marks : List Bool) (i n : ℕ) (next : n ≡ suc i) (done : EditsOperation old mid p (loses_from n marks)) where
    done_next : EditsOperation old mid p (loses_from (suc i) marks)
    done_next = subst (λ m. EditsOperation old mid p (loses_from m marks)) next done

    at_now : slice_get (operands_at mid p) i ≡ slice_get (operands_at old p) i
    at_now = ap (λ o. slice_get (unwrap_or (option_map (λ (y : OperationView O). y.operands) o) []) i) done_next.edited ∙ by_case (operation_at old p) where
      by_case : (o : Option (OperationView O)) → slice_get (unwrap_or (option_map (λ (y : OperationView O). y.operands) (option_map (loses_from (suc i) marks) o)) []) i ≡ slice_get (unwrap_or (option_map (λ (y : OperationView O). y.operands) o) []) i
      by_case None = refl
      by_case (Some v) = at_from i (marked marks) v.operands

    pub within_now : i < length (operands_at old p) → i < length (operands_at mid p)
    within_now lt =
        let none : Value = record { definer = ByOp no_handle; number = 0 } in
        slice_get_within (operands_at mid p) i (get_or (operands_at old p) i none) (at_now ∙ slice_get-get_or (operands_at old p) i none lt)

    pub one_goes : (new : Program O B) → marked marks i ≡ true → RemovesOperand mid new p i → EditsOperation old new p (loses_from i marks)
    one_goes new h removes = edits_both old mid new p (loses_from (suc i) marks) (λ v. record v { operands = remove v.operands i }) (loses_from i marks) done_next removes
        (λ v j. record v { operands = one_from i (marked marks) v.operands h j })

    pub one_stays : marked marks i ≡ false → EditsOperation old mid p (loses_from i marks)
    one_stays h = subst (EditsOperation old mid p) (λ j v. record v { operands = kept_from i (marked marks) v.operands h j }) done_next

module _ {O B A : Type 0} (d : Dialect (in_program O B) A) where
  -- the operands go, and then what the operation says of them
  pub lost_both : (old mid new : Program O B) (p : Ptr Operation) (picks : ℕ → Bool) (w u : O) → EditsOperation old mid p (λ v. record v { operands = drop picks v.operands })
      → payload_at mid p ≡ Some w → u ≡ d.drop_operands w picks → EditsOperation mid new p (λ v. record v { payload = u }) → EditsOperation old new p (loses d picks)
  lost_both old mid new p picks w u removed value made edits = record {
    edited = edits.edited ∙ ap (option_map (λ (v : OperationView O). record v { payload = u })) removed.edited ∙ by_case (operation_at old p) (ap (option_map (λ (v : OperationView O). v.payload)) (sym removed.edited) ∙ value);
    others = λ q ne. edits.others q ne ∙ removed.others q ne;
    blocks = λ q. edits.blocks q ∙ removed.blocks q;
    regions = λ q. edits.regions q ∙ removed.regions q;
    erased = erased_both old mid new removed.erased edits.erased;
  } where
    by_case : (o : Option (OperationView O)) → option_map (λ (v : OperationView O). v.payload) (option_map (λ (v : OperationView O). record v { operands = drop picks v.operands }) o) ≡ Some w
        → option_map (λ (v : OperationView O). record v { payload = u }) (option_map (λ (v : OperationView O). record v { operands = drop picks v.operands }) o) ≡ option_map (loses d picks) o
    by_case None h = refl
    by_case (Some v) h =
        let same : w ≡ v.payload = cc in
        λ j. Some (record v { payload = (made ∙ ap (λ x. d.drop_operands x picks) same) j; operands = drop picks v.operands })

  -- one turn of the loop over the operations that lose operands
  module _ (old mid : Program O B) (ls : List LostOperands) (once : (j k : ℕ) (l m : LostOperands) → slice_get ls j ≡ Some l → slice_get ls k ≡ Some m → l.op ≡ m.op → j ≡ k) (i : ℕ) (l : LostOperands) (here : slice_get ls i ≡ Some l) (done : LosesListed d old mid (take i ls)) where
    as_before : operation_at mid l.op ≡ operation_at old l.op
    as_before = done.others l.op (not_before (λ (x : LostOperands). x.op) ls once i l here)

    pub there_still : IsSome (operation_at old l.op) → IsSome (operation_at mid l.op)
    there_still h = subst IsSome (sym as_before) h

    pub count_still : length l.marks.items ≡ length (operands_at old l.op) → length l.marks.items ≡ length (operands_at mid l.op)
    count_still h = h ∙ ap (λ o. length (unwrap_or (option_map (λ (y : OperationView O). y.operands) o) [])) (sym as_before)

    pub lost_next : (new : Program O B) → EditsOperation mid new l.op (loses d (marked l.marks.items)) → LosesListed d old new (take (i + 1) ls)
    lost_next new edits = record {
      listed = λ m h. ⊎_elim
          (λ before. edits.others m.op (not_before (λ (x : LostOperands). x.op) ls once i l here m before) ∙ done.listed m before)
          (λ (e : m ≡ l). subst (λ (x : LostOperands). operation_at new x.op ≡ option_map (loses d (marked x.marks.items)) (operation_at old x.op)) (sym e) (edits.edited ∙ ap (option_map (loses d (marked l.marks.items))) as_before))
          (before_or_it (λ (x : LostOperands). x.op) ls once i l here m h);
      others = λ p out.
          edits.others p (λ e. out l (it_next (λ (x : LostOperands). x.op) ls once i l here) (sym e))
          ∙ done.others p (λ m h. out m (before_next (λ (x : LostOperands). x.op) ls once i l here m h));
      blocks = λ b. edits.blocks b ∙ done.blocks b;
      regions = λ r. edits.regions r ∙ done.regions r;
      erased = erased_both old mid new done.erased edits.erased;
    }
