-- Operands and successors that are pushed one after the other, and values that can be.
use Rattle.std.proofs.Common.{◌≡◌, ℕ, List, [], ◌∷◌, ◌++◌, Option, Some, None, IsSome, option_map, unwrap_or, slice_get, refl, sym, ap, ◌∙◌, subst}
use Rattle.std.proofs.lemmas.List.{append-nil}
use Rattle.ir_program.specs.Adds.{AreLiveValues}
use Rattle.ir_program.specs.Definers.{values_at}
use Rattle.ir_program.specs.Edits.{EditsOperation, EditsBlock, IsUnchanged, KeepsValues}
use Rattle.ir_program.specs.Program.{Program, OperationView, BlockView, RegionView, TypedValue, operation_at, block_at, type_at, value_in, type_in}
use Rattle.ir_program.specs.declared.handles.Ptr.{Ptr}
use Rattle.ir_program.specs.declared.handles.Operation.{Operation}
use Rattle.ir_program.specs.declared.handles.BasicBlock.{BasicBlock}
use Rattle.ir_program.specs.declared.handles.Value.{Value}
use Rattle.ir_program.specs.declared.handles.DefiningEntity.{DefiningEntity}
use Rattle.ir_program.specs.declared.handles.DefiningEntity.TheVariants.{Op as ByOp, Block as ByBlock}
use Rattle.ir_context.specs.declared.notes.OperationData.{OperationData}
use Rattle.ir_context.specs.declared.notes.BlockNotes.{BlockNotes}
use Rattle.text_dialect.specs.Seen.{SeenOperation, SeenBlock, Seen, seen, seen_operation, seen_block}
use Rattle.text_frames.specs.building.Loose.{values_of, AreDefined}
use Rattle.text_frames.specs.building.Made.{LinksUses, LinksOperands, LinksSuccessors, AppendsOperation}
use Rattle.text_frames.proofs.BuildingLemmas.Later.{no_more_uses, more_uses}
use Rattle.text_frames.proofs.BuildingLemmas.Opened.{ContextOf}
use Rattle.text_frames.proofs.BuildingLemmas.Options.{there}

-- values have the types with which they stand at their definers
abbrev pub AreTyped : {O B : Type 0} → Program O B → Type 0
AreTyped c = (e : DefiningEntity) (k : ℕ) (v : Value) → value_in (values_at c e) k ≡ Some v → type_at c v ≡ type_in (values_at c e) k

module _ {K A : Type 0} where
  -- the operation with these values and blocks behind its operands and successors
  abbrev pub with_uses : List Value → List (Ptr BasicBlock) → SeenOperation K A → SeenOperation K A
  with_uses vs bs v = record v { operands = v.operands ++ vs; successors = v.successors ++ bs }

  no_use : (o : Option (SeenOperation K A)) → o ≡ option_map (with_uses [] []) o
  no_use None = refl
  no_use (Some v) = no_more_uses v

  both_uses : (xs ys : List Value) (bs cs : List (Ptr BasicBlock)) (o : Option (SeenOperation K A))
      → option_map (with_uses ys cs) (option_map (with_uses xs bs) o) ≡ option_map (with_uses (xs ++ ys) (bs ++ cs)) o
  both_uses xs ys bs cs None = refl
  both_uses xs ys bs cs (Some v) = more_uses v xs ys bs cs

module _ {K A T : Type 0} where
  pub links_none : (s : Seen K A T) (p : Ptr Operation) → LinksUses s s p [] []
  links_none s p = record { linked = no_use (s.operation p); others = λ q ne. refl; blocks = λ b. refl; regions = λ r. refl; types = refl }

  pub links_both : (s t u : Seen K A T) (p : Ptr Operation) (xs ys : List Value) (bs cs : List (Ptr BasicBlock)) → LinksUses s t p xs bs → LinksUses t u p ys cs
      → LinksUses s u p (xs ++ ys) (bs ++ cs)
  links_both s t u p xs ys bs cs a b = record {
    linked = b.linked ∙ ap (option_map (with_uses ys cs)) a.linked ∙ both_uses xs ys bs cs (s.operation p);
    others = λ q ne. b.others q ne ∙ a.others q ne;
    blocks = λ q. b.blocks q ∙ a.blocks q;
    regions = λ r. b.regions r ∙ a.regions r;
    types = b.types ∙ a.types;
  }

-- the operations and blocks of a dialect's programs
abbrev OperationOf : (D TypeKind AttrKind TypeBody Saved Location OpKind Attr TypeKey : Type 0) → Type 0
OperationOf D TypeKind AttrKind TypeBody Saved Location OpKind Attr TypeKey = OperationView (OperationData D TypeKind AttrKind TypeBody Saved Location OpKind Attr TypeKey)

abbrev BlockOf : (D TypeKind AttrKind TypeBody Saved Location OpKind Attr TypeKey : Type 0) → Type 0
BlockOf D TypeKind AttrKind TypeBody Saved Location OpKind Attr TypeKey = BlockView (BlockNotes D TypeKind AttrKind TypeBody Saved Location OpKind Attr TypeKey)

module _ {D TypeKind AttrKind TypeBody Saved Location OpKind Attr TypeKey : Type 0} where
  seen_pushed : (x : Value) (o : Option (OperationOf D TypeKind AttrKind TypeBody Saved Location OpKind Attr TypeKey))
      → option_map seen_operation (option_map (λ (v : OperationOf D TypeKind AttrKind TypeBody Saved Location OpKind Attr TypeKey). record v { operands = v.operands ++ x ∷ [] }) o)
      ≡ option_map (with_uses (x ∷ []) []) (option_map seen_operation o)
  seen_pushed x None = refl
  seen_pushed x (Some v) = ap (λ bs. Some (record (seen_operation v) { operands = v.operands ++ x ∷ []; successors = bs })) (sym (append-nil v.successors))

  seen_pushed_block : (b : Ptr BasicBlock) (o : Option (OperationOf D TypeKind AttrKind TypeBody Saved Location OpKind Attr TypeKey))
      → option_map seen_operation (option_map (λ (v : OperationOf D TypeKind AttrKind TypeBody Saved Location OpKind Attr TypeKey). record v { successors = v.successors ++ b ∷ [] }) o)
      ≡ option_map (with_uses [] (b ∷ [])) (option_map seen_operation o)
  seen_pushed_block b None = refl
  seen_pushed_block b (Some v) = ap (λ vs. Some (record (seen_operation v) { operands = vs; successors = v.successors ++ b ∷ [] })) (sym (append-nil v.operands))

  seen_appended : (p : Ptr Operation) (o : Option (BlockOf D TypeKind AttrKind TypeBody Saved Location OpKind Attr TypeKey))
      → option_map seen_block (option_map (λ (v : BlockOf D TypeKind AttrKind TypeBody Saved Location OpKind Attr TypeKey). record v { operations = v.operations ++ p ∷ [] }) o)
      ≡ option_map (λ (v : SeenBlock). record v { operations = v.operations ++ p ∷ [] }) (option_map seen_block o)
  seen_appended p None = refl
  seen_appended p (Some v) = refl

  results_same : (o : Option (OperationView (OperationData D TypeKind AttrKind TypeBody Saved Location OpKind Attr TypeKey)))
      → unwrap_or (option_map (λ v. v.results) (option_map seen_operation o)) [] ≡ unwrap_or (option_map (λ v. v.results) o) []
  results_same None = refl
  results_same (Some v) = refl

  arguments_same : (o : Option (BlockView (BlockNotes D TypeKind AttrKind TypeBody Saved Location OpKind Attr TypeKey)))
      → unwrap_or (option_map (λ v. v.arguments) (option_map seen_block o)) [] ≡ unwrap_or (option_map (λ v. v.arguments) o) []
  arguments_same None = refl
  arguments_same (Some v) = refl

  module _ (c d : ContextOf D TypeKind AttrKind TypeBody Saved Location OpKind Attr TypeKey) (same : d.types ≡ c.types) where
    pub push_links : (p : Ptr Operation) (x : Value) → EditsOperation c.program d.program p (λ (v : OperationOf D TypeKind AttrKind TypeBody Saved Location OpKind Attr TypeKey). record v { operands = v.operands ++ x ∷ [] }) → LinksOperands (seen c) (seen d) p (x ∷ [])
    push_links p x h = record {
      linked = ap (option_map seen_operation) h.edited ∙ seen_pushed x (operation_at c.program p);
      others = λ q ne. ap (option_map seen_operation) (h.others q ne);
      blocks = λ b. ap (option_map seen_block) (h.blocks b);
      regions = λ r. ap (option_map (λ (v : RegionView). v.blocks)) (h.regions r);
      types = ap (λ ts. ts.keys) same;
    }

    pub push_links_block : (p : Ptr Operation) (b : Ptr BasicBlock) → EditsOperation c.program d.program p (λ (v : OperationOf D TypeKind AttrKind TypeBody Saved Location OpKind Attr TypeKey). record v { successors = v.successors ++ b ∷ [] }) → LinksSuccessors (seen c) (seen d) p (b ∷ [])
    push_links_block p b h = record {
      linked = ap (option_map seen_operation) h.edited ∙ seen_pushed_block b (operation_at c.program p);
      others = λ q ne. ap (option_map seen_operation) (h.others q ne);
      blocks = λ b. ap (option_map seen_block) (h.blocks b);
      regions = λ r. ap (option_map (λ (v : RegionView). v.blocks)) (h.regions r);
      types = ap (λ ts. ts.keys) same;
    }

    pub put_appends : (b : Ptr BasicBlock) (p : Ptr Operation) → EditsBlock c.program d.program b (λ (v : BlockOf D TypeKind AttrKind TypeBody Saved Location OpKind Attr TypeKey). record v { operations = v.operations ++ p ∷ [] }) → AppendsOperation (seen c) (seen d) b p
    put_appends b p h = record {
      appended = ap (option_map seen_block) h.edited ∙ seen_appended p (block_at c.program b);
      others = λ q ne. ap (option_map seen_block) (h.others q ne);
      operations = λ q. ap (option_map seen_operation) (h.operations q);
      regions = λ r. ap (option_map (λ (v : RegionView). v.blocks)) (h.regions r);
      types = ap (λ ts. ts.keys) same;
    }

    -- what is linked is linked still where nothing changes
    pub links_still : (s : Seen OpKind Attr TypeKey) (p : Ptr Operation) (xs : List Value) (bs : List (Ptr BasicBlock)) → LinksUses s (seen c) p xs bs → IsUnchanged c.program d.program → LinksUses s (seen d) p xs bs
    links_still s p xs bs links h = record {
      linked = ap (option_map seen_operation) (h.operations p) ∙ links.linked;
      others = λ q ne. ap (option_map seen_operation) (h.operations q) ∙ links.others q ne;
      blocks = λ b. ap (option_map seen_block) (h.blocks b) ∙ links.blocks b;
      regions = λ r. ap (option_map (λ (v : RegionView). v.blocks)) (h.regions r) ∙ links.regions r;
      types = ap (λ ts. ts.keys) same ∙ links.types;
    }

  module _ (c : ContextOf D TypeKind AttrKind TypeBody Saved Location OpKind Attr TypeKey) where
    pub values_seen : (e : DefiningEntity) → values_of (seen c) e ≡ values_at c.program e
    values_seen (ByOp p) = results_same (operation_at c.program p)
    values_seen (ByBlock b) = arguments_same (block_at c.program b)

    -- values that are seen at their definers have types
    pub defined_live : AreTyped c.program → (vs : List Value) → AreDefined (seen c) vs → AreLiveValues c.program vs
    defined_live typed vs defined k v e =
        let h = defined k v e in
        let here : slice_get (values_at c.program v.definer) h.index ≡ Some (record { value = v; ty = h.ty }) = ap (λ xs. slice_get xs h.index) (sym (values_seen v.definer)) ∙ h.here in
        there (type_at c.program v) h.ty (typed v.definer h.index v (ap (option_map (λ (t : TypedValue). t.value)) here) ∙ ap (option_map (λ (t : TypedValue). t.ty)) here)

    pub still_live : (d : ContextOf D TypeKind AttrKind TypeBody Saved Location OpKind Attr TypeKey) → KeepsValues c.program d.program → (vs : List Value) → AreLiveValues c.program vs → AreLiveValues d.program vs
    still_live d keeps vs live k v e = subst IsSome (sym (keeps.types v)) (live k v e)
