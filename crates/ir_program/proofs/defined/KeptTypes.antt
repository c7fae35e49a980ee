-- The types of values are those that are seen at their definers, so they stay where what is seen stays.
use Rattle.std.proofs.Common.{◌≡◌, ⊎_elim, ℕ, Bool, true, false, cond, eqb, List, [], ◌∷◌, ◌++◌, ◌≢◌, map, Option, Some, None, option_map, unwrap_or, refl, sym, ap, ◌∙◌, subst}
use Rattle.ir_base.specs.declared.types.TypeHandle.{TypeHandle}
use Rattle.ir_program.specs.Program.{Program, OperationView, BlockView, TypedValue, typed_value, operation_at, block_at, results_at, arguments_at, definitions_of, numbered, type_at}
use Rattle.ir_program.specs.Definers.{values_at}
use Rattle.ir_program.specs.Edits.{EditsOperation, EditsBlock, IsUnchanged}
use Rattle.ir_program.specs.declared.handles.Ptr.{Ptr}
use Rattle.ir_program.specs.declared.handles.Operation.{Operation}
use Rattle.ir_program.specs.declared.handles.BasicBlock.{BasicBlock}
use Rattle.ir_program.specs.declared.handles.Region.{Region}
use Rattle.ir_program.specs.declared.handles.Value.{Value}
use Rattle.ir_program.specs.declared.handles.DefiningEntity.{DefiningEntity}
use Rattle.ir_program.specs.declared.handles.DefiningEntity.TheVariants.{Op as ByOp, Block as ByBlock}
use Rattle.ir_program.specs.declared.records.Definition.{Definition}
use Rattle.ir_program.proofs.made.Frames.{same_or_not}
use Rattle.ir_program.proofs.defined.Stands.{results-seen_as, arguments-seen_as}

-- the type of the value with this number
abbrev typed : ℕ → List TypedValue → Option TypeHandle
typed n [] = None
typed n (t ∷ ts) = cond (eqb t.value.number n) (Some t.ty) (typed n ts)

typed-map : (e : DefiningEntity) (n : ℕ) (ds : List Definition) → typed n (map (typed_value e) ds) ≡ option_map (λ (d : Definition). d.ty) (numbered n ds)
typed-map e n [] = refl
typed-map e n (d ∷ ds) = by (eqb d.number n) (typed-map e n ds)
  where
    by : (b : Bool) → typed n (map (typed_value e) ds) ≡ option_map (λ (x : Definition). x.ty) (numbered n ds)
        → cond b (Some d.ty) (typed n (map (typed_value e) ds)) ≡ option_map (λ (x : Definition). x.ty) (cond b (Some d) (numbered n ds))
    by true rest = refl
    by false rest = rest

module _ {O B : Type 0} where
  values-of : (c : Program O B) (e : DefiningEntity) → values_at c e ≡ map (typed_value e) (definitions_of c e)
  values-of c (ByOp p) = results-seen_as c p
  values-of c (ByBlock p) = arguments-seen_as c p

  type-typed : (c : Program O B) (v : Value) → typed v.number (values_at c v.definer) ≡ type_at c v
  type-typed c v = ap (typed v.number) (values-of c v.definer) ∙ typed-map v.definer v.number (definitions_of c v.definer)

  module _ (c d : Program O B) where
    -- where results and arguments are seen as they were, values have the types that they had
    pub types-kept : ((e : DefiningEntity) → values_at d e ≡ values_at c e) → (v : Value) → type_at d v ≡ type_at c v
    types-kept same v = sym (type-typed d v) ∙ ap (typed v.number) (same v.definer) ∙ type-typed c v

    pub operation_edit-types : (p : Ptr Operation) (f : OperationView O → OperationView O) → EditsOperation c d p f → ((o : OperationView O) → (f o).results ≡ o.results) → (v : Value) → type_at d v ≡ type_at c v
    operation_edit-types p f edits same = types-kept kept
      where
        here : (x : Option (OperationView O)) → unwrap_or (option_map (λ (o : OperationView O). o.results) (option_map f x)) [] ≡ unwrap_or (option_map (λ (o : OperationView O). o.results) x) []
        here None = refl
        here (Some o) = same o

        kept : (e : DefiningEntity) → values_at d e ≡ values_at c e
        kept (ByBlock q) = ap (λ x. unwrap_or (option_map (λ (b : BlockView B). b.arguments) x) []) (edits.blocks q)
        kept (ByOp q) = ⊎_elim
            (λ (e : q ≡ p). subst (λ x. results_at d x ≡ results_at c x) (sym e) (ap (λ x. unwrap_or (option_map (λ (o : OperationView O). o.results) x) []) edits.edited ∙ here (operation_at c p)))
            (λ ne. ap (λ x. unwrap_or (option_map (λ (o : OperationView O). o.results) x) []) (edits.others q ne))
            (same_or_not q p)

    pub block_edit-types : (p : Ptr BasicBlock) (f : BlockView B → BlockView B) → EditsBlock c d p f → ((b : BlockView B) → (f b).arguments ≡ b.arguments) → (v : Value) → type_at d v ≡ type_at c v
    block_edit-types p f edits same = types-kept kept
      where
        here : (x : Option (BlockView B)) → unwrap_or (option_map (λ (b : BlockView B). b.arguments) (option_map f x)) [] ≡ unwrap_or (option_map (λ (b : BlockView B). b.arguments) x) []
        here None = refl
        here (Some b) = same b

        kept : (e : DefiningEntity) → values_at d e ≡ values_at c e
        kept (ByOp q) = ap (λ x. unwrap_or (option_map (λ (o : OperationView O). o.results) x) []) (edits.operations q)
        kept (ByBlock q) = ⊎_elim
            (λ (e : q ≡ p). subst (λ x. arguments_at d x ≡ arguments_at c x) (sym e) (ap (λ x. unwrap_or (option_map (λ (b : BlockView B). b.arguments) x) []) edits.edited ∙ here (block_at c p)))
            (λ ne. ap (λ x. unwrap_or (option_map (λ (b : BlockView B). b.arguments) x) []) (edits.others q ne))
            (same_or_not q p)

    -- the same operations and blocks define the same values
    same-types : ((q : Ptr Operation) → operation_at d q ≡ operation_at c q) → ((q : Ptr BasicBlock) → block_at d q ≡ block_at c q) → (v : Value) → type_at d v ≡ type_at c v
    same-types operations blocks = types-kept kept
      where
        kept : (e : DefiningEntity) → values_at d e ≡ values_at c e
        kept (ByOp q) = ap (λ x. unwrap_or (option_map (λ (o : OperationView O). o.results) x) []) (operations q)
        kept (ByBlock q) = ap (λ x. unwrap_or (option_map (λ (b : BlockView B). b.arguments) x) []) (blocks q)

    pub unchanged-types : IsUnchanged c d → (v : Value) → type_at d v ≡ type_at c v
    unchanged-types same = same-types same.operations same.blocks

    -- more regions are no other results
    pub regions_more-types : (p : Ptr Operation) (rs : List (Ptr Region)) → operation_at d p ≡ option_map (λ (o : OperationView O). record o { regions = o.regions ++ rs }) (operation_at c p)
        → ((q : Ptr Operation) → q ≢ p → operation_at d q ≡ operation_at c q) → ((q : Ptr BasicBlock) → block_at d q ≡ block_at c q) → (v : Value) → type_at d v ≡ type_at c v
    regions_more-types p rs holder others blocks = types-kept kept
      where
        here : (x : Option (OperationView O)) → unwrap_or (option_map (λ (o : OperationView O). o.results) (option_map (λ (o : OperationView O). record o { regions = o.regions ++ rs }) x)) [] ≡ unwrap_or (option_map (λ (o : OperationView O). o.results) x) []
        here None = refl
        here (Some o) = refl

        kept : (e : DefiningEntity) → values_at d e ≡ values_at c e
        kept (ByBlock q) = ap (λ x. unwrap_or (option_map (λ (b : BlockView B). b.arguments) x) []) (blocks q)
        kept (ByOp q) = ⊎_elim
            (λ (e : q ≡ p). subst (λ x. results_at d x ≡ results_at c x) (sym e) (ap (λ x. unwrap_or (option_map (λ (o : OperationView O). o.results) x) []) holder ∙ here (operation_at c p)))
            (λ ne. ap (λ x. unwrap_or (option_map (λ (o : OperationView O). o.results) x) []) (others q ne))
            (same_or_not q p)
