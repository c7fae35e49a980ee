-- Where values that are defined below the root stand.
use Rattle.std.proofs.Common.{◌≡◌, ◌≢◌, ◌⊎◌, inl, inr, ⊎_elim, ℕ, zero, suc, List, [], ◌∷◌, map, Some, option_map, unwrap_or, slice_get, refl, sym, ap, ◌∙◌, subst}
use Rattle.ir_base.specs.declared.types.TypeHandle.{TypeHandle}
use Rattle.ir_program.specs.Program.{Program, TypedValue, OperationView, BlockView, operation_at, block_at, type_at, value_in, type_in}
use Rattle.ir_program.specs.Definers.{values_at, StandsAtDefiner}
use Rattle.ir_program.specs.Lists.{StandsInBlock, StandsInside, itself, in_block, in_region, in_operation}
use Rattle.ir_program.specs.declared.handles.IRNode.{IRNode}
use Rattle.ir_program.specs.declared.handles.IRNode.TheVariants.{Operation as OperationNode, BasicBlock as BlockNode}
use Rattle.ir_program.specs.declared.handles.Ptr.{Ptr}
use Rattle.ir_program.specs.declared.handles.Operation.{Operation}
use Rattle.ir_program.specs.declared.handles.BasicBlock.{BasicBlock}
use Rattle.ir_program.specs.declared.handles.Value.{Value}
use Rattle.ir_program.specs.declared.handles.DefiningEntity.{DefiningEntity}
use Rattle.ir_program.specs.declared.handles.DefiningEntity.TheVariants.{Op as ByOp, Block as ByBlock}
use Rattle.ir_trees.specs.Renames.{names_of}
use Rattle.ir_trees.specs.Stands.{defined_by}
use Rattle.ir_trees.specs.Trees.{Defined}
use Rattle.opt_trees.specs.Occurrences.{Has}
use Rattle.opt_inside.specs.Occurring.{IsBelowRoot, IsBlockBelow, IsDefinedBelow}

-- what `know_values` tells of a program: values stand at their definers, each once
pub record AreDefined {O B : Type 0} (c : Program O B) : Type 0 where
  pub definer : (e : DefiningEntity) (k : ℕ) (v : Value) → value_in (values_at c e) k ≡ Some v → v.definer ≡ e
  pub once : (e : DefiningEntity) (j k : ℕ) (v : Value) → value_in (values_at c e) j ≡ Some v → value_in (values_at c e) k ≡ Some v → j ≡ k

-- a value that stands at an index has a type there
pub type_there : (ts : List TypedValue) (k : ℕ) (v : Value) → value_in ts k ≡ Some v → (ty : TypeHandle) × (type_in ts k ≡ Some ty)
type_there [] k v h = cc
type_there (t ∷ ts) zero v h = (t.ty, refl)
type_there (t ∷ ts) (suc k) v h = type_there ts k v h

pub are_defined : {O B : Type 0} (c : Program O B) → ((e : DefiningEntity) (k : ℕ) (v : Value) → value_in (values_at c e) k ≡ Some v → v.definer ≡ e)
    → ((e : DefiningEntity) (k : ℕ) (v : Value) → value_in (values_at c e) k ≡ Some v → type_at c v ≡ type_in (values_at c e) k)
    → ((v : Value) (ty : TypeHandle) → type_at c v ≡ Some ty → StandsAtDefiner c v ty) → AreDefined c
are_defined c definer typed stands = record { definer = definer; once = once }
  where
    once : (e : DefiningEntity) (j k : ℕ) (v : Value) → value_in (values_at c e) j ≡ Some v → value_in (values_at c e) k ≡ Some v → j ≡ k
    once e j k v g h =
        let ty = type_there (values_at c e) j v g in
        let s = stands v ty.0 (typed e j v g ∙ ty.1) in
        let same = definer e j v g in
        let first : j ≡ s.index = s.once j (ap (λ x. value_in (values_at c x) j) same ∙ g) in
        let second : k ≡ s.index = s.once k (ap (λ x. value_in (values_at c x) k) same ∙ h) in
        first ∙ sym second

-- names of definitions, by index
pub name_index : (ts : List TypedValue) (v : Value) → Has v (names_of (map defined_by ts)) → (k : ℕ) × (value_in ts k ≡ Some v)
name_index [] v h = absurd h
name_index (t ∷ ts) v h = ⊎_elim (λ s. (zero, ap Some (sym s))) (λ r. let g = name_index ts v r in (suc g.0, g.1)) h

pub index_name : (ts : List TypedValue) (k : ℕ) (v : Defined Value TypeHandle) → slice_get (map defined_by ts) k ≡ Some v → value_in ts k ≡ Some v.name
index_name [] k v h = cc
index_name (t ∷ ts) zero v h = let s : Some (defined_by t) ≡ Some v = h in let q : defined_by t ≡ v = cc in ap (λ (x : Defined Value TypeHandle). Some x.name) q
index_name (t ∷ ts) (suc k) v h = index_name ts k v h

pub name_at : (ts : List TypedValue) (k : ℕ) (v : Value) → value_in ts k ≡ Some v → (x : Defined Value TypeHandle) × (slice_get (map defined_by ts) k ≡ Some x) × (x.name ≡ v)
name_at [] k v h = cc
name_at (t ∷ ts) zero v h = let s : Some t.value ≡ Some v = h in let q : t.value ≡ v = cc in (defined_by t, refl, q)
name_at (t ∷ ts) (suc k) v h = name_at ts k v h

module _ {O B : Type 0} (c : Program O B) where
  -- the lists of records
  pub results_are : (p : Ptr Operation) (w : OperationView O) → operation_at c p ≡ Some w → values_at c (ByOp p) ≡ w.results
  results_are p w there = ap (λ o. unwrap_or (option_map (λ (x : OperationView O). x.results) o) []) there

  pub arguments_are : (b : Ptr BasicBlock) (w : BlockView B) → block_at c b ≡ Some w → values_at c (ByBlock b) ≡ w.arguments
  arguments_are b w there = ap (λ o. unwrap_or (option_map (λ (x : BlockView B). x.arguments) o) []) there

  pub result_at : (p : Ptr Operation) (w : OperationView O) (k : ℕ) (v : Value) → operation_at c p ≡ Some w → value_in w.results k ≡ Some v → value_in (values_at c (ByOp p)) k ≡ Some v
  result_at p w k v there h = ap (λ ts. value_in ts k) (results_are p w there) ∙ h

  pub argument_at : (b : Ptr BasicBlock) (w : BlockView B) (k : ℕ) (v : Value) → block_at c b ≡ Some w → value_in w.arguments k ≡ Some v → value_in (values_at c (ByBlock b)) k ≡ Some v
  argument_at b w k v there h = ap (λ ts. value_in ts k) (arguments_are b w there) ∙ h

  module _ (op : Ptr Operation) where
    split : (x : IRNode) → StandsInside c (OperationNode op) x → (p : Ptr Operation) → x ≡ OperationNode p → p ≢ op → (b : Ptr BasicBlock) × StandsInBlock c p b × StandsInside c (OperationNode op) (BlockNode b)
    split _ itself p e ne = let q : p ≡ op = cc in absurd (ne q)
    split _ (in_block q b s i) p e ne = let same : q ≡ p = cc in (b, subst (λ x. StandsInBlock c x b) same s, i)
    split _ (in_region b r s i) p e ne = cc
    split _ (in_operation r q s i) p e ne = cc

    -- an operation below the root is in a block below it
    pub block_around : (p : Ptr Operation) → IsBelowRoot c op p → (b : Ptr BasicBlock) × StandsInBlock c p b × IsBlockBelow c op b
    block_around p below = split (OperationNode p) below.inside p refl below.other

    -- a result of an operation below the root
    pub record IsResultBelow (v : Value) (p : Ptr Operation) : Type 0 where
      pub view : OperationView O
      pub there : operation_at c p ≡ Some view
      pub below : IsBelowRoot c op p
      pub index : ℕ
      pub stands : value_in view.results index ≡ Some v
      pub definer : v.definer ≡ ByOp p

    -- an argument of a block below it
    pub record IsArgumentBelow (v : Value) (b : Ptr BasicBlock) : Type 0 where
      pub view : BlockView B
      pub there : block_at c b ≡ Some view
      pub below : IsBlockBelow c op b
      pub index : ℕ
      pub stands : value_in view.arguments index ≡ Some v
      pub definer : v.definer ≡ ByBlock b

    module _ (values : AreDefined c) where
      pub result_or_argument : (v : Value) → IsDefinedBelow c op v → ((p : Ptr Operation) × IsResultBelow v p) ⊎ ((b : Ptr BasicBlock) × IsArgumentBelow v b)
      result_or_argument v = ⊎_elim
          (λ h. let k = name_index h.1.results v h.4 in
          inl (h.0, record { view = h.1; there = h.3; below = h.2; index = k.0; stands = k.1; definer = values.definer (ByOp h.0) k.0 v (result_at h.0 h.1 k.0 v h.3 k.1) }))
          (λ h. let k = name_index h.1.arguments v h.4 in
          inr (h.0, record { view = h.1; there = h.3; below = h.2; index = k.0; stands = k.1; definer = values.definer (ByBlock h.0) k.0 v (argument_at h.0 h.1 k.0 v h.3 k.1) }))
