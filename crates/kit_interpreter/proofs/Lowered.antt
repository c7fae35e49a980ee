-- Operations by the numbers of what they name.
use Rattle.std.proofs.Common.{◌≡◌, ℕ, suc, ◌<◌, Bool, List, [], ◌∷◌, length, get_or, map, Some, None, refl, sym, ap, ◌∙◌}
use Rattle.std.specs.List.{All, position_or_len}
use Rattle.std.proofs.lemmas.Option.{slice_get_within, get_or_from_slice_get}
use Rattle.std.proofs.lemmas.List.Elements.{All-nil, All-cons}
use Rattle.ir_program.specs.Program.{results_at, no_handle}
use Rattle.ir_program.specs.Rows.{operands_at, successors_at}
use Rattle.ir_program.specs.declared.handles.Ptr.{Ptr}
use Rattle.ir_program.specs.declared.handles.Operation.{Operation}
use Rattle.ir_program.specs.declared.handles.BasicBlock.{BasicBlock}
use Rattle.ir_program.specs.declared.handles.Value.{Value}
use Rattle.ir_program.proofs.used.Renames.{IsTestOf}
use Rattle.ir_program.proofs.used.Renaming.{value-test, block-test}
use Rattle.ir_program.specs.Replacing.{same_value, same_block}
use Rattle.ir_trees.specs.Searched.{Lists}
use Rattle.kit.specs.Context.{KitContext}
use Rattle.kit_flat.specs.Machine.{MachineOp, Other}
use Rattle.kit_flat.specs.View.{op_view}
use Rattle.kit_flat.specs.Forms.{op_of, rename_form, form_view}
use Rattle.kit_flat.specs.Formed.{FormFits}
use Rattle.kit_flat.specs.Renames.{rename_op}
use Rattle.kit_flat.specs.declared.flat.Instruction.{Instruction}
use Rattle.kit_flat.specs.declared.forming.FlatForm.{FlatForm}
use Rattle.kit_flat.proofs.Natural.{natural}
use Rattle.kit_flat.proofs.Fitting.{formed_fits}
use Rattle.kit_places.specs.Numbers.{value_number, block_number, values_of, no_value, value_at, block_with, operation_with}
use Rattle.kit_places.specs.Store.{op_if, form_at, op_at}
use Rattle.kit_interpreter.specs.Lowering.{IsLowerable, LowersOperation}
use Rattle.kit_interpreter.proofs.Places.{placed}

-- what is listed is what its number names
pub named_back : {X : Type 0} (same : X → X → Bool) → IsTestOf same → (d : X) (keys xs : List X)
    → ((x : X) → Lists xs x → Lists keys x) → xs ≡ map (λ i. get_or keys i d)
    (map (λ x. position_or_len (same x) keys) xs)
named_back same test d keys [] h = refl
named_back same test d keys (x ∷ xs) h =
    let p = placed same test keys x (h x (0, refl)) in
    let e = sym (get_or_from_slice_get keys (position_or_len (same x) keys) x d p) in
    let t = named_back same test d keys xs (λ y l. h y (suc l.0, l.1)) in
    λ i. e i ∷ t i

-- and its number is below those of the others
pub numbers_below : {X : Type 0} (same : X → X → Bool) → IsTestOf same → (keys xs : List X)
    → ((x : X) → Lists xs x → Lists keys x) → All (λ i. i < length keys) (map (λ x. position_or_len (same x) keys) xs)
numbers_below same test keys [] h = All-nil (λ (i : ℕ). i < length keys)
numbers_below same test keys (x ∷ xs) h =
    All-cons (λ (i : ℕ). i < length keys) (position_or_len (same x) keys) (map (λ x. position_or_len (same x) keys) xs)
    (slice_get_within keys (position_or_len (same x) keys) x (placed same test keys x (h x (0, refl))))
    (numbers_below same test keys xs (λ y l. h y (suc l.0, l.1)))

module _ (s : KitContext) (m : Ptr Operation) (values : List Value) (blocks : List (Ptr BasicBlock))
    (handles : List (Ptr Operation)) (q : Ptr Operation) (is : IsLowerable s m values blocks q) where
  abbrev ren : MachineOp ℕ ℕ ℕ → MachineOp Value (Ptr BasicBlock) (Ptr Operation)
  ren = rename_op (value_at values) (block_with blocks) (operation_with handles)

  abbrev rs : List ℕ
  rs = map (value_number values) (values_of (results_at s.program q))

  abbrev xs : List ℕ
  xs = map (value_number values) (operands_at s.program q)

  abbrev bs : List ℕ
  bs = map (block_number blocks) (successors_at s.program q)

  -- an operation without a form isn't executed
  pub formless : None ≡ form_at s m q → ⊥
  formless e = is.executes (ap (λ o. op_if o (values_of (results_at s.program q)) (operands_at s.program q)
      (successors_at s.program q)) (sym e))

  -- the operation is the one of its form and its numbers, by the names of these
  seen_as : (shape : FlatForm) → Some (rename_form (operation_with handles) (form_view shape)) ≡ form_at s m q
      → op_at s m q ≡ ren (op_of (form_view shape) rs xs bs)
  seen_as shape e =
      (λ i. op_if (sym e i)
      (named_back same_value value-test no_value values (values_of (results_at s.program q)) is.results i)
      (named_back same_value value-test no_value values (operands_at s.program q) is.operands i)
      (named_back same_block block-test no_handle blocks (successors_at s.program q) is.successors i))
      ∙ natural (value_at values) (block_with blocks) (operation_with handles) (form_view shape) rs xs bs

  pub unformed : (shape : FlatForm) → Some (rename_form (operation_with handles) (form_view shape)) ≡ form_at s m q
      → op_of (form_view shape) rs xs bs ≡ Other → ⊥
  unformed shape e o = is.executes (seen_as shape e ∙ ap ren o)

  pub lowers : (shape : FlatForm) → Some (rename_form (operation_with handles) (form_view shape)) ≡ form_at s m q
      → FormFits (length handles) shape → (x : Instruction) → op_of (form_view shape) rs xs bs ≡ op_view x
      → LowersOperation s m values blocks handles q x
  lowers shape e f x o =
      let fits = formed_fits (length handles) (length values) (length blocks) shape f rs xs bs
      (numbers_below same_value value-test values (values_of (results_at s.program q)) is.results)
      (numbers_below same_value value-test values (operands_at s.program q) is.operands)
      (numbers_below same_block block-test blocks (successors_at s.program q) is.successors) x o in
      record { seen = seen_as shape e ∙ ap ren o; fits = fits.0; inside = fits.1 }
