-- No place names what stands inside an entity, once the operations in it name nothing and none outside names any of it.
use Rattle.std.proofs.Common.{◌≡◌, ℕ, ⊎_elim, ◌⊎◌, List, [], ◌∷◌, map, Option, Some, None, IsSome, option_map, unwrap_or, slice_get, refl, sym, ap, ◌∙◌, subst}
use Rattle.std.proofs.lemmas.Option.{slice_get-map}
use Rattle.ir_entities.specs.declared.forest.Place.{Place}
use Rattle.ir_entities.specs.declared.forest.Place.TheVariants.{Op, Block}
use Rattle.ir_arena.specs.Arena.{get, held}
use Rattle.ir_entities.specs.Shape.{IsInside}
use Rattle.ir_entities.specs.Forest.{Forest, shape_of, pointer_to}
use Rattle.ir_entities.specs.Uses.{key_of, place_of, named_of, NamesDefinition, PlaceOfUse as UsePlace}
use Rattle.ir_program.specs.Handles.{handle}
use Rattle.ir_program.specs.Program.{Program, OperationView, operation_at, operation_of, definitions_of, definition_at, numbered, value_named, block_named, key_if, no_handle}
use Rattle.ir_program.specs.Rows.{operands_at, successors_at}
use Rattle.ir_program.specs.Sound.{IsProgram, operand_row, successor_row}
use Rattle.ir_program.specs.Uses.{IsUsed}
use Rattle.ir_program.specs.Listed.{AreListed}
use Rattle.ir_program.specs.Lists.{StandsInside, IsLiveNode, place_of_node}
use Rattle.ir_program.specs.Drops.{without_uses, DropsInside}
use Rattle.ir_program.specs.Erases.{NoneNames, value_place, block_place, definer_place}
use Rattle.ir_program.specs.Erased.{IsApart, definer_node}
use Rattle.ir_program.specs.declared.handles.Ptr.{Ptr}
use Rattle.ir_program.specs.declared.handles.Operation.{Operation}
use Rattle.ir_program.specs.declared.handles.BasicBlock.{BasicBlock}
use Rattle.ir_program.specs.declared.handles.Value.{Value}
use Rattle.ir_program.specs.declared.handles.DefiningEntity.{DefiningEntity}
use Rattle.ir_program.specs.declared.handles.DefiningEntity.TheVariants.{Op as ByOp, Block as ByBlock}
use Rattle.ir_program.specs.declared.handles.IRNode.{IRNode}
use Rattle.ir_program.specs.declared.handles.IRNode.TheVariants.{Operation as OperationNode, BasicBlock as BlockNode}
use Rattle.ir_program.specs.declared.records.Definition.{Definition}
use Rattle.ir_program.specs.declared.records.OperationRecord.{OperationRecord}
use Rattle.ir_program.specs.declared.records.BlockRecord.{BlockRecord}
use Rattle.ir_program.specs.declared.records.RegionRecord.{RegionRecord}
use Rattle.ir_program.proofs.defined.Stands.{named-used}
use Rattle.ir_program.proofs.defined.Stands.{get-held}
use Rattle.ir_program.proofs.lists.There.{operation_there, block_there}
use Rattle.ir_program.proofs.lists.Inside.{inside_by_slots, inside_by_handles}
use Rattle.ir_program.proofs.erased.DropWalks.{frame-shape}

map_none : {X Y : Type 0} (f : X → Y) (xs : List X) → map f xs ≡ [] → xs ≡ []
map_none f [] e = refl
map_none f (x ∷ xs) e = cc

no_operand : {O : Type 0} (was : Option (OperationView O)) (o : OperationView O) → option_map without_uses was ≡ Some o → o.operands ≡ []
no_operand None o e = cc
no_operand (Some w) o e = let s : without_uses w ≡ o = cc in ap (λ (z : OperationView _). z.operands) (sym s)

no_successor : {O : Type 0} (was : Option (OperationView O)) (o : OperationView O) → option_map without_uses was ≡ Some o → o.successors ≡ []
no_successor None o e = cc
no_successor (Some w) o e = let s : without_uses w ≡ o = cc in ap (λ (z : OperationView _). z.successors) (sym s)

-- what has a thread is there
pub some_thread : {X : Type 0} (f : X → ℕ) (o : Option X) (t : ℕ) → option_map f o ≡ Some t → IsSome o
some_thread f None t e = cc
some_thread f (Some x) t e = refl

pub node_place : (e : DefiningEntity) → place_of_node (definer_node e) ≡ definer_place e
node_place (ByOp p) = refl
node_place (ByBlock b) = refl

module _ {O B : Type 0} where
  -- the definer of a value that stands is there
  pub live_definer : (c : Program O B) (v : Value) → IsSome (definition_at c v) → IsLiveNode c (definer_node v.definer)
  live_definer c v h = by v.definer refl
    where
      by : (e : DefiningEntity) → v.definer ≡ e → IsLiveNode c (definer_node e)
      by (ByOp p) is = operation_there c p (got (get c.forest.ops p.key) refl)
        where
          got : (o : Option (OperationRecord O)) → get c.forest.ops p.key ≡ o → IsSome (get c.forest.ops p.key)
          got None e = let n : definition_at c v ≡ None = ap (λ z. numbered v.number (definitions_of c z)) is ∙ ap (λ x. numbered v.number (unwrap_or (option_map (λ (r : OperationRecord O). r.results.items) x) [])) e in cc
          got (Some o) e = rw e refl
      by (ByBlock p) is = block_there c p (got (get c.forest.blocks p.key) refl)
        where
          got : (o : Option (BlockRecord B)) → get c.forest.blocks p.key ≡ o → IsSome (get c.forest.blocks p.key)
          got None e = let n : definition_at c v ≡ None = ap (λ z. numbered v.number (definitions_of c z)) is ∙ ap (λ x. numbered v.number (unwrap_or (option_map (λ (r : BlockRecord B). r.arguments.items) x) [])) e in cc
          got (Some o) e = rw e refl

  -- some operation may go on to the block
  abbrev GoesTo : Program O B → Ptr BasicBlock → Type 0
  GoesTo c b = (p : Ptr Operation) × (o : OperationView O) × (operation_at c p ≡ Some o) × (k : ℕ) × (slice_get o.successors k ≡ Some b)

  -- a block whose thread has a place is a successor
  pub named-gone_to : (c : Program O B) → IsProgram c → (b : Ptr BasicBlock) (t p : ℕ) → key_of c.targets t ≡ Some b → NamesDefinition c.targets p t → GoesTo c b
  named-gone_to c inv b t p key names = by_place (place_of c.targets p) refl
    where
      named : block_named c.targets p ≡ b
      named = ap (λ o. unwrap_or o no_handle) (ap (key_if c.targets) names ∙ key)

      by_operation : (x : UsePlace) (r : Option (OperationRecord O)) → held c.forest.ops x.user ≡ r → slice_get (successor_row c x.user) x.index ≡ Some p → GoesTo c b
      by_operation x None none stands = let e : slice_get (successor_row c x.user) x.index ≡ None = ap (λ o. slice_get (unwrap_or (option_map (λ (y : OperationRecord O). y.successors.items) o) []) x.index) none in cc
      by_operation x (Some r) some stands =
          let q : Ptr Operation = handle (pointer_to c.forest.ops x.user) in
          let at : slice_get r.successors.items x.index ≡ Some p = sym (ap (λ o. slice_get (unwrap_or (option_map (λ (y : OperationRecord O). y.successors.items) o) []) x.index) some) ∙ stands in
          (q, operation_of c q r, ap (option_map (operation_of c q)) (get-held c.forest.ops x.user ∙ some), x.index, slice_get-map (block_named c.targets) r.successors.items x.index ∙ ap (option_map (block_named c.targets)) at ∙ ap Some named)

      by_place : (o : Option UsePlace) → place_of c.targets p ≡ o → GoesTo c b
      by_place None none = let e : named_of (place_of c.targets p) ≡ None = ap named_of none in cc
      by_place (Some x) some = by_operation x (held c.forest.ops x.user) refl (inv.successors.all p x some)

  module _ (old mid : Program O B) (x : IRNode) (inv : IsProgram mid) (live : IsLiveNode old x) (listed : AreListed old) (apart : IsApart old x)
      (decide : (e : Place) → IsInside (shape_of old.forest) (place_of_node x) e ⊎ (IsInside (shape_of old.forest) (place_of_node x) e → ⊥))
      (drops : DropsInside old mid (place_of_node x)) where
    same_shape : shape_of mid.forest ≡ shape_of old.forest
    same_shape = frame-shape old mid drops.frame

    pub values-unnamed : NoneNames (shape_of mid.forest) (place_of_node x) value_place mid.values
    values-unnamed t q v key inside names =
        ⊎_elim
        (λ within. let none : o.operands ≡ [] = no_operand (operation_at old p) o (sym (drops.inside p within) ∙ at) in let e : slice_get o.operands k ≡ None = ap (λ l. slice_get l k) none in let h : slice_get o.operands k ≡ Some v = here in cc)
        (λ out.
        let same : operation_at old p ≡ Some o = sym (drops.outside p out) ∙ at in
        let takes : slice_get (operands_at old p) k ≡ Some v = ap (λ y. slice_get (unwrap_or (option_map (λ (w : OperationView O). w.operands) y) []) k) same ∙ here in
        out (inside_by_slots old x (OperationNode p) (apart.values p k v takes stands)))
        (decide (Op p.key.slot))
      where
        used : IsUsed mid v
        used = named-used mid inv v t q key names

        p : Ptr Operation
        p = used.0

        o : OperationView O
        o = used.1

        at : operation_at mid p ≡ Some o
        at = used.2

        k : ℕ
        k = used.3

        here : slice_get o.operands k ≡ Some v
        here = used.4

        there : IsSome (definition_at old v)
        there = subst (λ ds. IsSome (numbered v.number ds)) (drops.frame.definitions v.definer) (some_thread (λ (d : Definition). d.thread) (definition_at mid v) t ((inv.values v t).1 key))

        stands : StandsInside old x (definer_node v.definer)
        stands = inside_by_handles old listed x live (definer_node v.definer) (live_definer old v there)
            (subst (IsInside (shape_of old.forest) (place_of_node x)) (sym (node_place v.definer)) (subst (λ s. IsInside s (place_of_node x) (value_place v)) same_shape inside))

    pub blocks-unnamed : NoneNames (shape_of mid.forest) (place_of_node x) block_place mid.targets
    blocks-unnamed t q b key inside names =
        ⊎_elim
        (λ within. let none : o.successors ≡ [] = no_successor (operation_at old p) o (sym (drops.inside p within) ∙ at) in let e : slice_get o.successors k ≡ None = ap (λ l. slice_get l k) none in let h : slice_get o.successors k ≡ Some b = here in cc)
        (λ out.
        let same : operation_at old p ≡ Some o = sym (drops.outside p out) ∙ at in
        let goes : slice_get (successors_at old p) k ≡ Some b = ap (λ y. slice_get (unwrap_or (option_map (λ (w : OperationView O). w.successors) y) []) k) same ∙ here in
        out (inside_by_slots old x (OperationNode p) (apart.blocks p k b goes stands)))
        (decide (Op p.key.slot))
      where
        used : GoesTo mid b
        used = named-gone_to mid inv b t q key names

        p : Ptr Operation
        p = used.0

        o : OperationView O
        o = used.1

        at : operation_at mid p ≡ Some o
        at = used.2

        k : ℕ
        k = used.3

        here : slice_get o.successors k ≡ Some b
        here = used.4

        there : IsSome (get old.forest.blocks b.key)
        there = subst (λ bs. IsSome (get bs b.key)) (ap (λ (g : Forest (OperationRecord O) (BlockRecord B) RegionRecord). g.blocks) drops.frame.forest) (some_thread (λ (r : BlockRecord B). r.thread) (get mid.forest.blocks b.key) t ((inv.blocks b t).1 key))

        stands : StandsInside old x (BlockNode b)
        stands = inside_by_handles old listed x live (BlockNode b) (block_there old b there) (subst (λ s. IsInside s (place_of_node x) (Block b.key.slot)) same_shape inside)

    -- the operations inside have no places
    pub no-operands : (i : ℕ) → IsInside (shape_of mid.forest) (place_of_node x) (Op i) → operand_row mid i ≡ []
    no-operands i inside = by (held mid.forest.ops i) refl
      where
        by : (o : Option (OperationRecord O)) → held mid.forest.ops i ≡ o → operand_row mid i ≡ []
        by None e = ap (λ y. unwrap_or (option_map (λ (r : OperationRecord O). r.operands.items) y) []) e
        by (Some r) e =
            let p : Ptr Operation = handle (pointer_to mid.forest.ops i) in
            let at : operation_at mid p ≡ Some (operation_of mid p r) = ap (option_map (operation_of mid p)) (get-held mid.forest.ops i ∙ e) in
            let none : (operation_of mid p r).operands ≡ [] = no_operand (operation_at old p) (operation_of mid p r) (sym (drops.inside p (subst (λ s. IsInside s (place_of_node x) (Op i)) same_shape inside)) ∙ at) in
            ap (λ y. unwrap_or (option_map (λ (r : OperationRecord O). r.operands.items) y) []) e ∙ map_none (value_named mid.values) r.operands.items none

    pub no-successors : (i : ℕ) → IsInside (shape_of mid.forest) (place_of_node x) (Op i) → successor_row mid i ≡ []
    no-successors i inside = by (held mid.forest.ops i) refl
      where
        by : (o : Option (OperationRecord O)) → held mid.forest.ops i ≡ o → successor_row mid i ≡ []
        by None e = ap (λ y. unwrap_or (option_map (λ (r : OperationRecord O). r.successors.items) y) []) e
        by (Some r) e =
            let p : Ptr Operation = handle (pointer_to mid.forest.ops i) in
            let at : operation_at mid p ≡ Some (operation_of mid p r) = ap (option_map (operation_of mid p)) (get-held mid.forest.ops i ∙ e) in
            let none : (operation_of mid p r).successors ≡ [] = no_successor (operation_at old p) (operation_of mid p r) (sym (drops.inside p (subst (λ s. IsInside s (place_of_node x) (Op i)) same_shape inside)) ∙ at) in
            ap (λ y. unwrap_or (option_map (λ (r : OperationRecord O). r.successors.items) y) []) e ∙ map_none (block_named mid.targets) r.successors.items none
