-- What putting in one constant did.
use Rattle.std.proofs.Common.{◌≡◌, ◌≢◌, ℕ, List, [], ◌∷◌, Option, Some, None, IsSome, option_map, unwrap_or, slice_get, refl, sym, ap, ◌∙◌, subst}
use Rattle.ir_base.specs.declared.types.TypeHandle.{TypeHandle}
use Rattle.ir_program.specs.Program.{Program, OperationView, BlockView, operation_at, results_at, type_at, value_in, type_in, IsLiveValue}
use Rattle.ir_program.specs.Adds.{numbered_values}
use Rattle.ir_program.specs.Definers.{values_at}
use Rattle.ir_program.specs.Made.{BuildsOperation}
use Rattle.ir_program.specs.declared.handles.Ptr.{Ptr}
use Rattle.ir_program.specs.declared.handles.Operation.{Operation}
use Rattle.ir_program.specs.declared.handles.Value.{Value}
use Rattle.ir_program.specs.declared.handles.DefiningEntity.{DefiningEntity}
use Rattle.ir_program.specs.declared.handles.DefiningEntity.TheVariants.{Op as ByOp, Block as ByBlock}
use Rattle.ir_program.specs.Edits.{KeepsErased, KeepsValues}
use Rattle.ir_program.specs.UseEdits.{ReplacesValue}
use Rattle.ir_trees.specs.Stands.{in_program}
use Rattle.opt_trees.specs.Dialect.{Dialect}
use Rattle.opt_sccp.specs.declared.putting.Made.{Made}
use Rattle.opt_sccp.specs.Placed.{Placed, DefinerIsPlaced, CanPutAt, PutsAtDefiner, PutsOne}
use Rattle.opt_sccp.proofs.Definitions.{type_there}

there_or_not : {X : Type 0} (o p : Option X) → IsSome o → o ≡ p → p ≡ None → ⊥
there_or_not (Some x) p h e n = let q : Some x ≡ None = e ∙ n in cc
there_or_not None p h e n = cc

pub live_type : {O B : Type 0} (c : Program O B) (v : Value) (e : DefiningEntity) (k : ℕ) → value_in (values_at c e) k ≡ Some v
    → ((k : ℕ) → value_in (values_at c e) k ≡ Some v → type_at c v ≡ type_in (values_at c e) k) → IsLiveValue c v
live_type c v e k at typed = let ty = type_there (values_at c e) k v at in subst IsSome (sym (typed k at ∙ ty.1)) refl

module _ {O B : Type 0} (old built : Program O B) (p : Ptr Operation) (content : O) (tys : List TypeHandle) (n : ℕ) (builds : BuildsOperation old built p content tys [] [] n) where
  -- what is somewhere isn't the new operation
  pub placed_other : (e : DefiningEntity) → DefinerIsPlaced old e → e ≢ ByOp p
  placed_other (ByOp q) place e = let same : q ≡ p = cc in there_or_not (operation_at old q) (operation_at old p) place.1.operation (ap (operation_at old) same) builds.fresh
  placed_other (ByBlock b) place e = cc

  pub place_kept : (e : DefiningEntity) → DefinerIsPlaced old e → DefinerIsPlaced built e
  place_kept (ByOp q) place =
      let other : q ≢ p = λ same. placed_other (ByOp q) place (ap ByOp same) in (
        place.0,
        record {
          operation = subst IsSome (sym (builds.others q other)) place.1.operation;
          block = subst IsSome (sym (builds.blocks place.0)) place.1.block;
          index = place.1.index;
          here = ap (λ o. slice_get (unwrap_or (option_map (λ (v : BlockView B). v.operations) o) []) place.1.index) (builds.blocks place.0) ∙ place.1.here;
        },
      )
  place_kept (ByBlock b) place = subst IsSome (sym (builds.blocks b)) place

-- putting an operation somewhere changes no operation
pub puts_keep : {O B : Type 0} (old new : Program O B) (e : DefiningEntity) (p : Ptr Operation) → DefinerIsPlaced old e → PutsAtDefiner old new e p → (q : Ptr Operation) → operation_at new q ≡ operation_at old q
puts_keep old new (ByOp m) p place puts q = (puts place.0 place.1.index place.1.here).operations q
puts_keep old new (ByBlock b) p place puts q = puts.operations q

-- nor does it make an erased handle lead somewhere
pub placed_erased : {O B : Type 0} (old new : Program O B) (e : DefiningEntity) (p : Ptr Operation) → DefinerIsPlaced old e → PutsAtDefiner old new e p → KeepsErased old new
placed_erased old new (ByOp m) p place puts = (puts place.0 place.1.index place.1.here).erased
placed_erased old new (ByBlock b) p place puts = puts.erased

-- the first result of a new operation with one result
pub first_result : {O B : Type 0} (c : Program O B) (p : Ptr Operation) (w : OperationView O) (ty : TypeHandle) (n : ℕ) (v : Value) → operation_at c p ≡ Some w
    → w.results ≡ numbered_values (ByOp p) n (ty ∷ []) → value_in (results_at c p) 0 ≡ Some v → v ≡ record { definer = ByOp p; number = n }
first_result c p w ty n v there is at =
    let all : results_at c p ≡ numbered_values (ByOp p) n (ty ∷ []) = ap (λ o. unwrap_or (option_map (λ (x : OperationView _). x.results) o) []) there ∙ is in
    let s : Some (record { definer = ByOp p; number = n }) ≡ Some v = sym (ap (λ ts. value_in ts 0) all) ∙ at in
    cc

-- a value that stood somewhere is there once the new operation is made and put somewhere
pub still_live : {O B : Type 0} (old built put : Program O B) (p : Ptr Operation) (content : O) (tys : List TypeHandle) (n : ℕ) (v : Value) → BuildsOperation old built p content tys [] [] n
    → CanPutAt old v → ((e : DefiningEntity) (k : ℕ) (x : Value) → value_in (values_at old e) k ≡ Some x → type_at old x ≡ type_in (values_at old e) k) → KeepsValues built put → IsLiveValue put v
still_live old built put p content tys n v builds can typed keeps =
    subst IsSome (sym (keeps.types v ∙ builds.types v (placed_other old built p content tys n builds v.definer can.place)))
    (live_type old v v.definer can.index can.stands (λ k. typed v.definer k v))

-- the steps together
pub one_put : {O B A : Type 0} (d : Dialect (in_program O B) A) (old built put new : Program O B) (m : Made A) (content : O) (p : Ptr Operation) (ty : TypeHandle) (r : Value) → d.constant m.constant ≡ Some content
    → ty ≡ d.constant_type m.constant → BuildsOperation old built p content (ty ∷ []) [] [] 0 → CanPutAt old m.value → PutsAtDefiner built put m.value.definer p
    → value_in (results_at put p) 0 ≡ Some r → ReplacesValue put new m.value r → (x : Placed O A) × (x.made ≡ m) × PutsOne d old new x
one_put {O} {B} {A} d old built put new m content p ty r makes typed builds can puts at replaces =
    let x : Placed O A = record { made = m; content = content; op = p; result = r } in
    let place = place_kept old built p content (ty ∷ []) 0 builds m.value.definer can.place in
    let there = puts_keep built put m.value.definer p place puts p ∙ builds.made in (
      x,
      refl,
      record {
        makes = makes;
        built = built;
        put = put;
        builds = subst (λ t. BuildsOperation old built p content (t ∷ []) [] [] 0) typed builds;
        result = first_result put p _ ty old.counter r there refl at;
        puts = puts;
        replaces = replaces;
      },
    )
