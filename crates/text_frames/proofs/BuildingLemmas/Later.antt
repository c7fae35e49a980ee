-- What is made leaves what is whole as it is.
use Rattle.std.proofs.Common.{◌≡◌, ◌≢◌, ⊎_elim, ℕ, List, [], ◌∷◌, ◌++◌, Option, Some, None, IsSome, option_map, unwrap_or, slice_get, refl, sym, ap, ◌∙◌, subst}
use Rattle.std.proofs.lemmas.List.{append-nil, append_assoc}
use Rattle.ir_base.specs.declared.types.TypeHandle.{TypeHandle}
use Rattle.ir_names.specs.declared.identifier.Identifier.{Identifier}
use Rattle.ir_program.specs.Made.{IsNoneOf}
use Rattle.ir_program.specs.Program.{TypedValue}
use Rattle.ir_program.specs.declared.handles.Ptr.{Ptr}
use Rattle.ir_program.specs.declared.handles.Operation.{Operation}
use Rattle.ir_program.specs.declared.handles.BasicBlock.{BasicBlock}
use Rattle.ir_program.specs.declared.handles.Value.{Value}
use Rattle.ir_program.specs.declared.handles.DefiningEntity.{DefiningEntity}
use Rattle.ir_program.specs.declared.handles.DefiningEntity.TheVariants.{Op as ByOp, Block as ByBlock}
use Rattle.ir_program.proofs.made.Frames.{same_or_not}
use Rattle.text_dialect.specs.Seen.{SeenOperation, SeenBlock, Seen}
use Rattle.text_frames.specs.building.Kept.{KeepsAllSeen, SameSeen}
use Rattle.text_frames.specs.building.Loose.{IsLooseOperation, IsLooseBlock, values_of, IsDefinedValue, IsDefinedBlock}
use Rattle.text_frames.specs.building.Made.{OpensBlock, MakesDetachedOperation, AppendsOperation, LinksUses}
use Rattle.text_frames.specs.building.Later.{IsLater}
use Rattle.text_frames.proofs.BuildingLemmas.Members.{in_append, only_member, found_or_not, pairs_at}
use Rattle.text_frames.proofs.BuildingLemmas.Options.{no_some, same_some, is_there, there, mapped, mapped_there}

-- a handle that led somewhere isn't one that led nowhere
pub not_fresh : {E X : Type 0} (at : Ptr E → Option X) (p q : Ptr E) (x : X) → at p ≡ None → at q ≡ Some x → q ≢ p
not_fresh at p q x none e same = no_some x (sym none ∙ ap at (sym same) ∙ e)

pub no_more_uses : {K A : Type 0} (o : SeenOperation K A) → Some o ≡ Some (record o { operands = o.operands ++ []; successors = o.successors ++ [] })
no_more_uses o = ap (λ vs. Some (record o { operands = vs })) (sym (append-nil o.operands))
    ∙ ap (λ bs. Some (record o { operands = o.operands ++ []; successors = bs })) (sym (append-nil o.successors))

-- uses behind others, one after the other or all together
pub more_uses : {K A : Type 0} (o : SeenOperation K A) (vs ws : List Value) (bs cs : List (Ptr BasicBlock))
    → Some (record o { operands = (o.operands ++ vs) ++ ws; successors = (o.successors ++ bs) ++ cs })
    ≡ Some (record o { operands = o.operands ++ (vs ++ ws); successors = o.successors ++ (bs ++ cs) })
more_uses o vs ws bs cs = ap (λ xs. Some (record o { operands = xs; successors = (o.successors ++ bs) ++ cs })) (append_assoc o.operands vs ws)
    ∙ ap (λ xs. Some (record o { operands = o.operands ++ (vs ++ ws); successors = xs })) (append_assoc o.successors bs cs)

no_more_operations : (v : SeenBlock) → Some v ≡ Some (record v { operations = v.operations ++ [] })
no_more_operations v = ap (λ ps. Some (record v { operations = ps })) (sym (append-nil v.operations))

module _ {K A T : Type 0} where
  pub keeps_both : (s t u : Seen K A T) → KeepsAllSeen s t → KeepsAllSeen t u → KeepsAllSeen s u
  keeps_both s t u a b = record {
    operations = λ p o e. b.operations p o (a.operations p o e);
    blocks = λ q v e. b.blocks q v (a.blocks q v e);
    regions = λ r bs e. b.regions r bs (a.regions r bs e);
    types = λ n key e. b.types n key (a.types n key e);
  }

  pub same_keeps : (s t : Seen K A T) → SameSeen s t → KeepsAllSeen s t
  same_keeps s t h = record {
    operations = λ p o e. h.operations p ∙ e;
    blocks = λ b v e. h.blocks b ∙ e;
    regions = λ r bs e. h.regions r ∙ e;
    types = h.types;
  }

  pub opens_keeps : (s t : Seen K A T) (b : Ptr BasicBlock) (label : Option Identifier) (tys : List TypeHandle) (n : ℕ) → OpensBlock s t b label tys n → KeepsAllSeen s t
  opens_keeps s t b label tys n h = record {
    operations = λ p o e. h.operations p ∙ e;
    blocks = λ q v e. h.others q (not_fresh s.block b q v h.fresh e) ∙ e;
    regions = λ r bs e. h.regions r ∙ e;
    types = λ m key e. ap (λ ts. slice_get ts m) h.types ∙ e;
  }

  pub makes_keeps : (s t : Seen K A T) (p : Ptr Operation) (kind : K) (attributes : List (List ℕ × A)) (tys : List TypeHandle) (n : ℕ) (bss : List (List (Ptr BasicBlock)))
      → MakesDetachedOperation s t p kind attributes tys n bss → KeepsAllSeen s t
  makes_keeps s t p kind attributes tys n bss h = record {
    operations = λ q o e. h.others q (not_fresh s.operation p q o h.fresh e) ∙ e;
    blocks = λ b v e. h.blocks b ∙ e;
    regions = λ r bs e. h.regions r (λ k at. no_some bs (sym (h.fresh_regions k r at) ∙ e)) ∙ e;
    types = λ m key e. ap (λ ts. slice_get ts m) h.types ∙ e;
  }

  -- what is kept is whole
  pub keeps_later : (s t : Seen K A T) → KeepsAllSeen s t → IsLater s t
  keeps_later s t h = record {
    types = h.types;
    operations = λ p o e. ([], [], h.operations p o e ∙ no_more_uses o);
    regions = h.regions;
    placed = λ b v e at. h.blocks b v e;
    open_blocks = λ b v e. ([], h.blocks b v e ∙ no_more_operations v);
  }

  pub later_both : (s t u : Seen K A T) → IsLater s t → IsLater t u → IsLater s u
  later_both s t u a b = record {
    types = λ n key e. b.types n key (a.types n key e);
    operations = λ p o e.
        let f = a.operations p o e in
        let g = b.operations p (record o { operands = o.operands ++ f.0; successors = o.successors ++ f.1 }) f.2 in
        (f.0 ++ g.0, f.1 ++ g.1, g.2 ∙ more_uses o f.0 g.0 f.1 g.1);
    regions = λ r bs e. b.regions r bs (a.regions r bs e);
    placed = λ q v e at. b.placed q v (a.placed q v e at) (record { region = at.region; blocks = at.blocks; index = at.index; at = a.regions at.region at.blocks at.at; here = at.here });
    open_blocks = λ q v e.
        let f = a.open_blocks q v e in
        let g = b.open_blocks q (record v { operations = v.operations ++ f.0 }) f.1 in
        (f.0 ++ g.0, g.1 ∙ ap (λ ps. Some (record v { operations = ps })) (append_assoc v.operations f.0 g.0));
  }

  pub appends_later : (s t : Seen K A T) (b : Ptr BasicBlock) (p : Ptr Operation) → IsLooseBlock s b → AppendsOperation s t b p → IsLater s t
  appends_later s t b p loose h = record {
    types = λ n key e. ap (λ ts. slice_get ts n) h.types ∙ e;
    operations = λ q o e. ([], [], h.operations q ∙ e ∙ no_more_uses o);
    regions = λ r bs e. h.regions r ∙ e;
    placed = λ q v e at. h.others q (λ same. loose.loose at.region at.blocks at.index at.at (at.here ∙ ap Some same)) ∙ e;
    open_blocks = λ q v e. ⊎_elim
        (λ (same : q ≡ b). (
          p ∷ [],
          ap t.block same ∙ h.appended ∙ ap (option_map (λ (w : SeenBlock). record w { operations = w.operations ++ p ∷ [] })) (ap s.block (sym same) ∙ e),
        ))
        (λ (ne : q ≢ b). ([], h.others q ne ∙ e ∙ no_more_operations v))
        (same_or_not q b);
  }

  pub links_later : (s t : Seen K A T) (p : Ptr Operation) (vs : List Value) (bs : List (Ptr BasicBlock)) → LinksUses s t p vs bs → IsLater s t
  links_later s t p vs bs h = record {
    types = λ n key e. ap (λ ts. slice_get ts n) h.types ∙ e;
    operations = λ q o e. ⊎_elim
        (λ (same : q ≡ p). (
          vs,
          bs,
          ap t.operation same ∙ h.linked ∙ ap (option_map (λ (w : SeenOperation K A). record w { operands = w.operands ++ vs; successors = w.successors ++ bs })) (ap s.operation (sym same) ∙ e),
        ))
        (λ (ne : q ≢ p). ([], [], h.others q ne ∙ e ∙ no_more_uses o))
        (same_or_not q p);
    regions = λ r bs e. h.regions r ∙ e;
    placed = λ b v e at. h.blocks b ∙ e;
    open_blocks = λ b v e. ([], h.blocks b ∙ e ∙ no_more_operations v);
  }

  -- a value that is defined is so later
  pub defined_later : (s t : Seen K A T) → IsLater s t → (v : Value) → IsDefinedValue s v → IsDefinedValue t v
  defined_later s t later v h = record { index = h.index; ty = h.ty; here = still v.definer (slice_get (values_of s v.definer) h.index) h.index (record { value = v; ty = h.ty }) refl h.here } where
    from_operation : (p : Ptr Operation) (o : Option (SeenOperation K A)) → s.operation p ≡ o → (k : ℕ) (x : TypedValue) → slice_get (unwrap_or (option_map (λ (u : SeenOperation K A). u.results) o) []) k ≡ Some x
        → slice_get (values_of t (ByOp p)) k ≡ Some x
    from_operation p None e k x here = no_some x here
    from_operation p (Some o) e k x here = let f = later.operations p o e in ap (λ y. slice_get (unwrap_or (option_map (λ (u : SeenOperation K A). u.results) y) []) k) f.2 ∙ here

    from_block : (b : Ptr BasicBlock) (o : Option SeenBlock) → s.block b ≡ o → (k : ℕ) (x : TypedValue) → slice_get (unwrap_or (option_map (λ (u : SeenBlock). u.arguments) o) []) k ≡ Some x
        → slice_get (values_of t (ByBlock b)) k ≡ Some x
    from_block b None e k x here = no_some x here
    from_block b (Some w) e k x here = let f = later.open_blocks b w e in ap (λ y. slice_get (unwrap_or (option_map (λ (u : SeenBlock). u.arguments) y) []) k) f.1 ∙ here

    still : (e : DefiningEntity) (o : Option TypedValue) (k : ℕ) (x : TypedValue) → slice_get (values_of s e) k ≡ o → slice_get (values_of s e) k ≡ Some x → slice_get (values_of t e) k ≡ Some x
    still (ByOp p) o k x e here = from_operation p (s.operation p) refl k x here
    still (ByBlock b) o k x e here = from_block b (s.block b) refl k x here

  -- so is a block that is there
  pub block_later : (s t : Seen K A T) → IsLater s t → (b : Ptr BasicBlock) → IsDefinedBlock s b → IsDefinedBlock t b
  block_later s t later b h = let m = is_there (s.block b) h in let f = later.open_blocks b m.0 m.1 in there (t.block b) _ f.1

-- what is made leaves what is loose so, but for what it takes in
module _ {K A T : Type 0} where
  pub opens_loose_block : (s t : Seen K A T) (b : Ptr BasicBlock) (label : Option Identifier) (tys : List TypeHandle) (n : ℕ) → OpensBlock s t b label tys n
      → (q : Ptr BasicBlock) → IsLooseBlock s q → IsLooseBlock t q
  opens_loose_block s t b label tys n h q loose = let m = is_there (s.block q) loose.there in record {
    there = there (t.block q) m.0 ((opens_keeps s t b label tys n h).blocks q m.0 m.1);
    loose = λ r bs k e listed. loose.loose r bs k (sym (h.regions r) ∙ e) listed;
  }

  pub opens_loose_operation : (s t : Seen K A T) (b : Ptr BasicBlock) (label : Option Identifier) (tys : List TypeHandle) (n : ℕ) → OpensBlock s t b label tys n
      → (p : Ptr Operation) → IsLooseOperation s p → IsLooseOperation t p
  opens_loose_operation s t b label tys n h p loose = record {
    there = subst IsSome (sym (h.operations p)) loose.there;
    loose = λ q v k e listed. ⊎_elim
        (λ (same : q ≡ b). no_some p (ap (λ (w : SeenBlock). slice_get w.operations k) (same_some _ v (sym h.made ∙ ap t.block (sym same) ∙ e)) ∙ listed))
        (λ (ne : q ≢ b). loose.loose q v k (sym (h.others q ne) ∙ e) listed)
        (same_or_not q b);
  }

  pub makes_loose_block : (s t : Seen K A T) (p : Ptr Operation) (kind : K) (attributes : List (List ℕ × A)) (tys : List TypeHandle) (n : ℕ) (bss : List (List (Ptr BasicBlock)))
      → MakesDetachedOperation s t p kind attributes tys n bss → (q : Ptr BasicBlock) → IsLooseBlock s q
      → ((k : ℕ) (bs : List (Ptr BasicBlock)) → slice_get bss k ≡ Some bs → IsNoneOf bs q) → IsLooseBlock t q
  makes_loose_block s t p kind attributes tys n bss h q loose none = record {
    there = subst IsSome (sym (h.blocks q)) loose.there;
    loose = λ r bs k e listed. ⊎_elim
        (λ (found : (j : ℕ) × (slice_get h.handles j ≡ Some r)).
        let g = pairs_at (λ x ys. t.region x ≡ Some ys) h.handles bss h.filled found.0 r found.1 in
        none found.0 g.0 g.1 k (ap (λ ys. slice_get ys k) (same_some g.0 bs (sym g.2 ∙ e)) ∙ listed))
        (λ (out : (j : ℕ) → slice_get h.handles j ≢ Some r). loose.loose r bs k (sym (h.regions r out) ∙ e) listed)
        (found_or_not r h.handles);
  }

  pub makes_loose_operation : (s t : Seen K A T) (p : Ptr Operation) (kind : K) (attributes : List (List ℕ × A)) (tys : List TypeHandle) (n : ℕ) (bss : List (List (Ptr BasicBlock)))
      → MakesDetachedOperation s t p kind attributes tys n bss → (q : Ptr Operation) → IsLooseOperation s q → IsLooseOperation t q
  makes_loose_operation s t p kind attributes tys n bss h q loose = let m = is_there (s.operation q) loose.there in record {
    there = there (t.operation q) m.0 ((makes_keeps s t p kind attributes tys n bss h).operations q m.0 m.1);
    loose = λ b v k e listed. loose.loose b v k (sym (h.blocks b) ∙ e) listed;
  }

  pub appends_loose_block : (s t : Seen K A T) (b : Ptr BasicBlock) (p : Ptr Operation) → AppendsOperation s t b p → (q : Ptr BasicBlock) → IsLooseBlock s q → IsLooseBlock t q
  appends_loose_block s t b p h q loose = record {
    there = ⊎_elim
        (λ (same : q ≡ b). subst IsSome (sym (ap t.block same ∙ h.appended)) (mapped_there (λ (w : SeenBlock). record w { operations = w.operations ++ p ∷ [] }) (s.block b) (subst IsSome (ap s.block same) loose.there)))
        (λ (ne : q ≢ b). subst IsSome (sym (h.others q ne)) loose.there)
        (same_or_not q b);
    loose = λ r bs k e listed. loose.loose r bs k (sym (h.regions r) ∙ e) listed;
  }

  pub appends_loose_operation : (s t : Seen K A T) (b : Ptr BasicBlock) (p : Ptr Operation) → AppendsOperation s t b p → (q : Ptr Operation) → q ≢ p → IsLooseOperation s q → IsLooseOperation t q
  appends_loose_operation s t b p h q other loose = record {
    there = subst IsSome (sym (h.operations q)) loose.there;
    loose = λ c v k e listed. ⊎_elim
        (λ (same : c ≡ b).
        let m = mapped (λ (w : SeenBlock). record w { operations = w.operations ++ p ∷ [] }) (s.block b) v (sym h.appended ∙ ap t.block (sym same) ∙ e) in
        ⊎_elim
        (λ (a : slice_get m.0.operations k ≡ Some q). loose.loose b m.0 k m.1 a)
        (λ (a : (j : ℕ) × (slice_get (p ∷ []) j ≡ Some q)). other (only_member p a.0 q a.1))
        (in_append m.0.operations (p ∷ []) k q (ap (λ (w : SeenBlock). slice_get w.operations k) m.2 ∙ listed)))
        (λ (ne : c ≢ b). loose.loose c v k (sym (h.others c ne) ∙ e) listed)
        (same_or_not c b);
  }

  pub links_loose_block : (s t : Seen K A T) (p : Ptr Operation) (vs : List Value) (bs : List (Ptr BasicBlock)) → LinksUses s t p vs bs → (q : Ptr BasicBlock) → IsLooseBlock s q → IsLooseBlock t q
  links_loose_block s t p vs bs h q loose = record {
    there = subst IsSome (sym (h.blocks q)) loose.there;
    loose = λ r cs k e listed. loose.loose r cs k (sym (h.regions r) ∙ e) listed;
  }

  pub links_loose_operation : (s t : Seen K A T) (p : Ptr Operation) (vs : List Value) (bs : List (Ptr BasicBlock)) → LinksUses s t p vs bs → (q : Ptr Operation) → IsLooseOperation s q → IsLooseOperation t q
  links_loose_operation s t p vs bs h q loose = record {
    there = ⊎_elim
        (λ (same : q ≡ p). subst IsSome (sym (ap t.operation same ∙ h.linked)) (mapped_there (λ (w : SeenOperation K A). record w { operands = w.operands ++ vs; successors = w.successors ++ bs }) (s.operation p) (subst IsSome (ap s.operation same) loose.there)))
        (λ (ne : q ≢ p). subst IsSome (sym (h.others q ne)) loose.there)
        (same_or_not q p);
    loose = λ b v k e listed. loose.loose b v k (sym (h.blocks b) ∙ e) listed;
  }
