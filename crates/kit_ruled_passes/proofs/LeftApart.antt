-- When what a pass leaves of a module is apart from all else.
use Rattle.std.proofs.Common.{◌≡◌, ◌⊎◌, inl, inr, ⊎_elim, ℕ, List, [], Option, Some, None, IsSome}
use Rattle.std.proofs.Common.{option_map, unwrap_or, slice_get, refl, sym, ap, ◌∙◌, subst}
use Rattle.std.proofs.lemmas.Option.{slice_get-map}
use Rattle.ir_base.specs.declared.types.TypeHandle.{TypeHandle}
use Rattle.ir_program.specs.Definers.{values_at}
use Rattle.ir_program.specs.Lists.{StandsInside}
use Rattle.ir_program.specs.Program.{TypedValue, OperationView, BlockView, IsLiveValue, operation_at, block_at, type_at}
use Rattle.ir_program.specs.Rows.{operands_at}
use Rattle.ir_program.specs.declared.handles.BasicBlock.{BasicBlock}
use Rattle.ir_program.specs.declared.handles.DefiningEntity.{DefiningEntity}
use Rattle.ir_program.specs.declared.handles.DefiningEntity.TheVariants.{Op as ByOp, Block as ByBlock}
use Rattle.ir_program.specs.declared.handles.IRNode.TheVariants.{Operation as OperationNode}
use Rattle.ir_program.specs.declared.handles.Operation.{Operation}
use Rattle.ir_program.specs.declared.handles.Ptr.{Ptr}
use Rattle.ir_program.specs.declared.handles.Value.{Value}
use Rattle.ir_program.proofs.defined.Standing.{seen-definer}
use Rattle.ir_trees.specs.Stands.{StandsFor}
use Rattle.ir_trees.proofs.Members.{at_has, has_at}
use Rattle.kit.specs.Context.{KitContext, KitProgram, KitTree}
use Rattle.opt_inside.specs.Around.{IsTakenOutside}
use Rattle.opt_inside.specs.Numbered.{values_in}
use Rattle.opt_inside.specs.Occurring.{IsBelowRoot, IsBlockBelow, IsDefinedBelow}
use Rattle.opt_inside.proofs.Added.{HasValues, at_value}
use Rattle.opt_inside.proofs.Among.{results_are, arguments_are}
use Rattle.opt_inside.proofs.Around.{HasLists, not_root}
use Rattle.opt_trees.specs.Occurrences.{Has}
use Rattle.kit.specs.Meaning.{KitOperation, KitBlock}
use Rattle.kit_ruled_views.specs.Functions.{IsSelfContained}
use Rattle.kit_ruled_passes.specs.Entering.{IsEnteredNowhere}
use Rattle.pass_outside.proofs.InTrees.{HasOperation, operation_held, operation_inside}

-- something in a row stands in what is there
pub in_row : {X Y : Type 0} (f : X → List Y) (o : Option X) (k : ℕ) (y : Y)
    → slice_get (unwrap_or (option_map f o) []) k ≡ Some y → (x : X) × (o ≡ Some x) × (slice_get (f x) k ≡ Some y)
in_row f None k y e = cc
in_row f (Some x) k y e = (x, refl, e)

pub something : {X : Type 0} (o : Option X) → IsSome o → (x : X) × (o ≡ Some x)
something (Some x) h = (x, refl)
something None h = cc

-- a value of a definer tells of which
definer_now : (c : KitProgram) (e : DefiningEntity) (v : Value) → Has v (values_in (values_at c e)) → v.definer ≡ e
definer_now c e v has =
    let k = has_at (values_in (values_at c e)) v has in
    seen-definer c e k.0 v (at_value (values_at c e) k.0 v k.1)

-- what is known of the program before the pass
pub record IsKnownBefore (c : KitProgram) (root : Ptr Operation) : Type 0 where
  pub lists : HasLists c
  pub values : HasValues c
  pub live : (p : Ptr Operation) (k : ℕ) (v : Value) → slice_get (operands_at c p) k ≡ Some v → IsLiveValue c v
  pub tree : (t : KitTree) × StandsFor c root t

-- an operation in the tree is below the root
pub below_root : (c : KitProgram) (root : Ptr Operation) → HasLists c → (t : KitTree) → StandsFor c root t
    → (p : Ptr Operation) → HasOperation t.regions p → IsBelowRoot c root p
below_root c root lists t stands p has =
    let h = operation_held c root t stands p has in
    record { inside = operation_inside c root t stands p has; other = not_root c lists root p h.0 h.1 h.2 }

-- ---- values that are there

module _ (c : KitProgram) (root : Ptr Operation) (values : HasValues c) (v : Value) (live : IsLiveValue c v) where
  standing : (ty : TypeHandle) × (k : ℕ) × (slice_get (values_at c v.definer) k ≡ Some (record { value = v; ty = ty }))
  standing =
      let ty = something (type_at c v) live in
      let at = values.stands v ty.0 ty.1 in
      (ty.0, at.index, at.stands)

  among : (e : DefiningEntity) → v.definer ≡ e → Has v (values_in (values_at c e))
  among e by =
      let at = standing in
      let here : slice_get (values_at c e) at.1 ≡ Some (record { value = v; ty = at.0 }) =
      ap (λ x. slice_get (values_at c x) at.1) (sym by) ∙ at.2 in
      at_has (values_in (values_at c e)) at.1 v (slice_get-map (λ (x : TypedValue). x.value) (values_at c e) at.1
      ∙ ap (option_map (λ (x : TypedValue). x.value)) here)

  result_below : (p : Ptr Operation) → v.definer ≡ ByOp p → IsBelowRoot c root p → IsDefinedBelow c root v
  result_below p by below =
      let has = among (ByOp p) by in
      let at = standing in
      let m = in_row (λ (x : OperationView KitOperation). x.results) (operation_at c p) at.1
      (record { value = v; ty = at.0 }) (ap (λ x. slice_get (values_at c x) at.1) (sym by) ∙ at.2) in
      inl (p, m.0, below, m.1, subst (Has v) (sym (results_are c p m.0 m.1)) has)

  result_nowhere : (p : Ptr Operation) → v.definer ≡ ByOp p → operation_at c p ≡ None → ⊥
  result_nowhere p by none =
      let at = standing in
      let m = in_row (λ (x : OperationView KitOperation). x.results) (operation_at c p) at.1
      (record { value = v; ty = at.0 }) (ap (λ x. slice_get (values_at c x) at.1) (sym by) ∙ at.2) in
      let e : Some m.0 ≡ None = sym m.1 ∙ none in cc

  argument_below : (b : Ptr BasicBlock) → v.definer ≡ ByBlock b → IsBlockBelow c root b → IsDefinedBelow c root v
  argument_below b by below =
      let has = among (ByBlock b) by in
      let at = standing in
      let m = in_row (λ (x : BlockView KitBlock). x.arguments) (block_at c b) at.1
      (record { value = v; ty = at.0 }) (ap (λ x. slice_get (values_at c x) at.1) (sym by) ∙ at.2) in
      inr (b, m.0, below, m.1, subst (Has v) (sym (arguments_are c b m.0 m.1)) has)

-- ---- what a pass leaves

module _ (old new : KitProgram) (root : Ptr Operation) where
  -- the operation stood outside before, and led where it leads; what it takes it took, or it took a value of the root
  pub record StoodOutside (p : Ptr Operation) (v : OperationView KitOperation) : Type 0 where
    pub before : StandsInside old (OperationNode root) (OperationNode p) → ⊥
    pub view : OperationView KitOperation
    pub there : operation_at old p ≡ Some view
    pub successors : v.successors ≡ view.successors
    pub operands : (x : Value) → Has x v.operands
        → (y : Value) × Has y view.operands × ((x ≡ y) ⊎ IsDefinedBelow old root y)

  -- what is inside the root was, or is new; and what isn't, stood outside before
  pub record LeavesApart : Type 0 where
    pub blocks : (b : Ptr BasicBlock) → IsBlockBelow new root b → IsBlockBelow old root b
    pub operations : (p : Ptr Operation) → IsBelowRoot new root p
        → IsBelowRoot old root p ⊎ (operation_at old p ≡ None)
    pub outside : (p : Ptr Operation) (v : OperationView KitOperation)
        → (StandsInside new (OperationNode root) (OperationNode p) → ⊥) → operation_at new p ≡ Some v
        → StoodOutside p v

module _ (s new : KitContext) (root : Ptr Operation) (leaves : LeavesApart s.program new.program root) where
  pub stays_unentered : IsEnteredNowhere s root → IsEnteredNowhere new root
  stays_unentered was b below entered =
      let p = entered.0 in
      let k = entered.2.0 in
      let m = in_row (λ (x : OperationView KitOperation). x.successors) (operation_at new.program p) k b entered.2.1 in
      let o = leaves.outside p m.0 entered.1 m.1 in
      was b (leaves.blocks b below) (
        p,
        o.before,
        (
          k,
          ap (λ x. slice_get (unwrap_or (option_map (λ (y : OperationView KitOperation). y.successors) x) []) k) o.there
              ∙ ap (λ l. slice_get l k) (sym o.successors) ∙ m.2,
        ),
      )

  module _ (known : IsKnownBefore s.program root) where
    -- a value that is there before, and defined below the root now, was defined below it
    defined_before : (v : Value) → IsLiveValue s.program v → IsDefinedBelow new.program root v
        → IsDefinedBelow s.program root v
    defined_before v live d = ⊎_elim
        (λ g.
        let by : v.definer ≡ ByOp g.0 =
        definer_now new.program (ByOp g.0) v (subst (Has v) (results_are new.program g.0 g.1 g.3) g.4) in
        ⊎_elim
        (λ was. result_below s.program root known.values v live g.0 by was)
        (λ none. absurd (result_nowhere s.program root known.values v live g.0 by none))
        (leaves.operations g.0 g.2))
        (λ g.
        let by : v.definer ≡ ByBlock g.0 =
        definer_now new.program (ByBlock g.0) v (subst (Has v) (arguments_are new.program g.0 g.1 g.3) g.4) in
        argument_below s.program root known.values v live g.0 by (leaves.blocks g.0 g.2))
        d

    pub stays_contained : IsSelfContained s root → IsSelfContained new root
    stays_contained was v below taken =
        let p = taken.0 in
        let m = in_row (λ (x : OperationView KitOperation). x.operands) (operation_at new.program p) taken.2.0 v
        taken.2.1 in
        let o = leaves.outside p m.0 taken.1 m.1 in
        let y = o.operands v (at_has m.0.operands taken.2.0 v m.2) in
        let k = has_at o.view.operands y.0 y.1 in
        let at : slice_get (operands_at s.program p) k.0 ≡ Some y.0 =
        ap (λ x. slice_get (unwrap_or (option_map (λ (z : OperationView KitOperation). z.operands) x) []) k.0) o.there
        ∙ k.1 in
        let then_taken : IsTakenOutside s.program root y.0 = (p, o.before, (k.0, at)) in
        ⊎_elim
        (λ same. was v
        (defined_before v (subst (IsLiveValue s.program) (sym same) (known.live p k.0 y.0 at)) below)
        (subst (IsTakenOutside s.program root) (sym same) then_taken))
        (λ d. was y.0 d then_taken)
        y.2
