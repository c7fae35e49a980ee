-- An operation put in place of another.
use Rattle.std.proofs.Common.{◌≡◌, ◌≢◌, inl, inr, ⊎_elim, ℕ, zero, suc, cond, List, [], ◌∷◌, map, Option, Some, None, option_map, unwrap_or, slice_get, insert, remove, refl, sym, ap, ◌∙◌, subst}
use Rattle.std.specs.Prelude.{IsSome}
use Rattle.ir_base.specs.declared.types.TypeHandle.{TypeHandle}
use Rattle.ir_program.specs.Definers.{StandsAtDefiner, values_at}
use Rattle.ir_program.specs.Edits.{EditsBlock}
use Rattle.ir_program.specs.Erased.{ErasesOperation, IsApart, definer_node}
use Rattle.ir_program.specs.ListEdits.{PutsOperationBefore}
use Rattle.ir_program.specs.Lists.{operations_in, regions_in, IsLinkedOperation, StandsInside, StandOnce, itself}
use Rattle.ir_program.specs.Program.{Program, OperationView, BlockView, operation_at, block_at, results_at, type_at, TypedValue, IsLiveValue}
use Rattle.ir_program.specs.Rows.{operands_at}
use Rattle.ir_program.specs.declared.handles.DefiningEntity.{DefiningEntity}
use Rattle.ir_program.specs.declared.handles.DefiningEntity.TheVariants.{Op as ByOp, Block as ByBlock}
use Rattle.ir_program.specs.declared.handles.IRNode.TheVariants.{Operation as OperationNode}
use Rattle.ir_program.specs.declared.handles.Ptr.{Ptr}
use Rattle.ir_program.specs.declared.handles.Operation.{Operation}
use Rattle.ir_program.specs.declared.handles.BasicBlock.{BasicBlock}
use Rattle.ir_program.specs.declared.handles.Value.{Value}
use Rattle.ir_program.proofs.made.Frames.{same_or_not}
use Rattle.ir_trees.proofs.HandleTests.{operation_yes, operation_no}
use Rattle.ir_trees.proofs.Members.{Has, Once, has_at, at_has, once_of}
use Rattle.opt_decide.specs.Replaced.{in_place_of, SwapsIn}
use Rattle.opt_decide.proofs.BareOperations.{only_itself, no_other_inside, no_block_inside, no_region_inside}
use Rattle.opt_decide.proofs.Folded.{something}

module _ (p q : Ptr Operation) where
  pub swaps_none : (xs : List (Ptr Operation)) → (Has p xs → ⊥) → map (in_place_of p q) xs ≡ xs
  swaps_none [] none = refl
  swaps_none (x ∷ xs) none =
      let rest = swaps_none xs (λ h. none (inr h)) in
      let same : in_place_of p q x ≡ x = ap (λ b. cond b q x) (operation_no x p (λ e. none (inl (sym e)))) in
      λ i. same i ∷ rest i

  pub swapped : (xs : List (Ptr Operation)) (k : ℕ) → Once xs → slice_get xs k ≡ Some p → remove (insert xs k q) (suc k) ≡ map (in_place_of p q) xs
  swapped [] k once h = cc
  swapped (x ∷ xs) zero once h =
      let s : Some x ≡ Some p = h in
      let e : x ≡ p = cc in
      let here : in_place_of p q x ≡ q = ap (λ b. cond b q x) (operation_yes x p e) in
      let rest = swaps_none xs (λ has. once.0 (subst (λ z. Has z xs) (sym e) has)) in
      λ i. sym here i ∷ sym rest i
  swapped (x ∷ xs) (suc k) once h =
      let ne : x ≢ p = λ e. once.0 (subst (λ z. Has z xs) (sym e) (at_has xs k p h)) in
      let same : in_place_of p q x ≡ x = ap (λ b. cond b q x) (operation_no x p ne) in
      let rest = swapped xs k once.1 h in
      λ i. sym same i ∷ rest i

  pub inserted_at : (xs : List (Ptr Operation)) (k : ℕ) → slice_get xs k ≡ Some p → slice_get (insert xs k q) (suc k) ≡ Some p
  inserted_at [] k h = cc
  inserted_at (x ∷ xs) zero h = h
  inserted_at (x ∷ xs) (suc k) h = inserted_at xs k h

same_lists : {B : Type 0} (f : List (Ptr Operation) → List (Ptr Operation)) (o : Option (BlockView B)) → ((l : BlockView B) → o ≡ Some l → f l.operations ≡ l.operations) → o ≡ option_map (λ (l : BlockView B). record l { operations = f l.operations }) o
same_lists f None h = refl
same_lists f (Some l) h = let e = h l refl in λ i. Some (record l { operations = sym e i })

module _ {O B : Type 0} (old put new : Program O B) (p q : Ptr Operation) (place : IsLinkedOperation old p) (bare : regions_in old p ≡ [])
    (once : StandOnce (operations_in old)) (edit : PutsOperationBefore old put p q) where
  abbrev b : Ptr BasicBlock
  b = place.0

  abbrev k : ℕ
  k = place.1.index

  edits : EditsBlock old put b (λ v. record v { operations = insert v.operations k q })
  edits = edit b k place.1.here

  l : (x : BlockView B) × (block_at old b ≡ Some x)
  l = something (block_at old b) place.1.block

  in_record : (x : BlockView B) (c : Ptr BasicBlock) → block_at old c ≡ Some x → operations_in old c ≡ x.operations
  in_record x c there = ap (λ o. unwrap_or (option_map (λ (v : BlockView B). v.operations) o) []) there

  pub bare_put : regions_in put p ≡ []
  bare_put = ap (λ o. unwrap_or (option_map (λ (v : OperationView O). v.regions) o) []) (edits.operations p) ∙ bare

  pub results_put : results_at put p ≡ results_at old p
  results_put = ap (λ o. unwrap_or (option_map (λ (v : OperationView O). v.results) o) []) (edits.operations p)

  pub live_put : IsSome (operation_at put p)
  live_put = subst IsSome (sym (edits.operations p)) place.1.operation

  block_put : block_at put b ≡ Some (record l.0 { operations = insert l.0.operations k q })
  block_put = edits.edited ∙ ap (option_map (λ (v : BlockView B). record v { operations = insert v.operations k q })) l.1

  here : slice_get l.0.operations k ≡ Some p
  here = ap (λ xs. slice_get xs k) (sym (in_record l.0 b l.1)) ∙ place.1.here

  here_put : slice_get (operations_in put b) (suc k) ≡ Some p
  here_put = ap (λ o. slice_get (unwrap_or (option_map (λ (v : BlockView B). v.operations) o) []) (suc k)) block_put ∙ inserted_at p q l.0.operations k here

  listed_once : Once l.0.operations
  listed_once = let e = in_record l.0 b l.1 in
      once_of l.0.operations (λ i j x g h. (once x b b i j (ap (λ xs. slice_get xs i) e ∙ g) (ap (λ xs. slice_get xs j) e ∙ h)).1)

  module _ (erases : ErasesOperation put new p) where
    abbrev listing : BlockView B → BlockView B
    listing v = record v { operations = map (in_place_of p q) v.operations }

    at_block : block_at new b ≡ option_map listing (block_at old b)
    at_block =
        let s = swapped p q l.0.operations k listed_once here in
        erases.holder b (suc k) here_put ∙ ap (option_map (λ (v : BlockView B). record v { operations = remove v.operations (suc k) })) block_put
        ∙ (λ i. Some (record l.0 { operations = s i })) ∙ sym (ap (option_map listing) l.1)

    elsewhere : (x : Ptr BasicBlock) → x ≢ b → block_at new x ≡ option_map listing (block_at old x)
    elsewhere x ne =
        erases.blocks x (no_block_inside put p bare_put x) (λ s.
        ne (once p x b s.index k (ap (λ o. slice_get (unwrap_or (option_map (λ (v : BlockView B). v.operations) o) []) s.index) (sym (edits.others x ne)) ∙ s.here) place.1.here).0)
        ∙ edits.others x ne
        ∙ same_lists (map (in_place_of p q)) (block_at old x) (λ v there. swaps_none p q v.operations (λ has.
        let j = has_at v.operations p has in
        ne (once p x b j.0 k (ap (λ xs. slice_get xs j.0) (in_record v x there) ∙ j.1) place.1.here).0))

    pub swaps_in : SwapsIn old new p q
    swaps_in = record {
      gone = erases.gone (OperationNode p) live_put itself;
      others = λ x ne. erases.operations x (no_other_inside put p bare_put x ne) ∙ edits.operations x;
      blocks = λ x. ⊎_elim (λ (e : x ≡ b). subst (λ z. block_at new z ≡ option_map listing (block_at old z)) (sym e) at_block) (λ ne. elsewhere x ne) (same_or_not x b);
      regions = λ r. erases.regions r (no_region_inside put p bare_put r) ∙ edits.regions r;
      erased = record {
        operations = λ key h. erases.erased.operations key (edits.erased.operations key h);
        blocks = λ key h. erases.erased.blocks key (edits.erased.blocks key h);
        regions = λ key h. erases.erased.regions key (edits.erased.regions key h);
      };
    }

-- nothing takes a value of an operation without results, or leads into one without regions
module _ {O B : Type 0} (c : Program O B) (p : Ptr Operation) (bare : regions_in c p ≡ []) where
  by_definer : (e : DefiningEntity) → StandsInside c (OperationNode p) (definer_node e) → ByOp p ≡ e
  by_definer (ByOp x) i = let s = only_itself c p bare (OperationNode x) i in let t : p ≡ x = cc in ap ByOp t
  by_definer (ByBlock x) i = absurd (no_block_inside c p bare x i)

  pub is_apart : ((x : Ptr Operation) (k : ℕ) (v : Value) → slice_get (operands_at c x) k ≡ Some v → ByOp p ≡ v.definer → ⊥) → IsApart c (OperationNode p)
  is_apart unused = record {
    values = λ x k v at i. absurd (unused x k v at (by_definer v.definer i));
    blocks = λ x k s at i. absurd (no_block_inside c p bare s i);
  }

-- no operand is a result of an operation without results
pub none_used : {O B : Type 0} (c : Program O B) (p : Ptr Operation) → results_at c p ≡ []
    → ((v : Value) (ty : TypeHandle) → type_at c v ≡ Some ty → StandsAtDefiner c v ty)
    → ((x : Ptr Operation) (k : ℕ) (v : Value) → slice_get (operands_at c x) k ≡ Some v → IsLiveValue c v)
    → (x : Ptr Operation) (k : ℕ) (v : Value) → slice_get (operands_at c x) k ≡ Some v → ByOp p ≡ v.definer → ⊥
none_used c p none stands known x k v at e =
    let ty = something (type_at c v) (known x k v at) in
    let s = stands v ty.0 ty.1 in
    let one : TypedValue = record { value = v; ty = ty.0 } in
    let n : None ≡ Some one = ap (λ ts. slice_get ts s.index) (sym none) ∙ ap (λ z. slice_get (values_at c z) s.index) e ∙ s.stands in
    cc
