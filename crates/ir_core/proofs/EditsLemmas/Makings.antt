-- What was tested of the arguments of edits that make operations and blocks.
use Rattle.std.proofs.Common.{◌≡◌, ◌↔◌, ℕ, zero, suc, ◌<◌, Bool, true, List, [], ◌∷◌, Option, Some, IsSome, IsTrue, length, slice_get, refl, sym, ◌∙◌, subst, arith}
use Rattle.std.proofs.lemmas.Option.{slice_get_within}
use Rattle.ir_base.specs.declared.types.TypeHandle.{TypeHandle}
use Rattle.ir_context.specs.Known.{IsKnownIn, AreKnownIn}
use Rattle.ir_program.specs.Program.{Program, block_at, IsLiveValue}
use Rattle.ir_program.specs.declared.handles.Ptr.{Ptr}
use Rattle.ir_program.specs.declared.handles.BasicBlock.{BasicBlock}
use Rattle.ir_program.specs.declared.handles.Value.{Value}
use Rattle.ir_program.proofs.made.AddSteps.{kept-erased}
use Rattle.ir_core.specs.declared.edits.edit.Entity.{Entity}
use Rattle.ir_core.specs.declared.edits.edit.At.{At}
use Rattle.ir_core.specs.declared.edits.edit.ValueAt.{ValueAt}
use Rattle.ir_program.specs.declared.handles.Operation.{Operation}
use Rattle.ir_program.specs.declared.handles.Use.{Use}
use Rattle.ir_program.specs.Uses.{IsUseIn}
use Rattle.ir_core.specs.declared.edits.edit.PlaceAt.{PlaceAt}
use Rattle.ir_core.specs.edits.UseEdits.{AreListedUses}
use Rattle.ir_core.specs.edits.Naming.{operation_named, value_named, block_named, NameEach, AreNamed}
use Rattle.ir_context.specs.Views.{ContextView}
use Rattle.ir_core.specs.edits.Same.{IsSame}
use Rattle.ir_program.specs.Made.{BuildsOperation}

pub known_where : (count : ℕ) (tys : List TypeHandle) (b : Bool) → (IsTrue b ↔ AreKnownIn count tys) → b ≡ true → (k : ℕ) (ty : TypeHandle) → slice_get tys k ≡ Some ty → IsKnownIn count ty
known_where count tys b l e = l.0 e

module _ {O B : Type 0} (c : Program O B) (made : List (Option Entity)) where
  pub values_where : (names : List ValueAt) (b : Bool) → (IsTrue b ↔ NameEach (value_named c made) (IsLiveValue c) names) → b ≡ true
      → (k : ℕ) (x : ValueAt) → slice_get names k ≡ Some x → (v : Value) × (value_named c made x ≡ Some v) × IsLiveValue c v
  values_where names b l e = l.0 e

  pub blocks_where : (names : List (At (Ptr BasicBlock))) (b : Bool) → (IsTrue b ↔ NameEach (block_named made) (λ x. IsSome (block_at c x)) names) → b ≡ true
      → (k : ℕ) (x : At (Ptr BasicBlock)) → slice_get names k ≡ Some x → (v : Ptr BasicBlock) × (block_named made x ≡ Some v) × IsSome (block_at c v)
  blocks_where names b l e = l.0 e

-- an index below the length has an element
there : {X : Type 0} (xs : List X) (k : ℕ) → k < length xs → (x : X) × (slice_get xs k ≡ Some x)
there [] k lt = absurd (omega (arith, lt))
there (x ∷ xs) zero lt = (x, refl)
there (x ∷ xs) (suc k) lt = there xs k (omega (arith, lt))

-- of what the names stand for, what holds of each
pub named_each : {X Y : Type 0} (name : X → Option Y) (P : Y → Type 0) (xs : List X) (ys : List Y) → NameEach name P xs → AreNamed name xs ys → (k : ℕ) (y : Y) → slice_get ys k ≡ Some y → P y
named_each name P xs ys each named k y at =
    let lt : k < length xs = omega (arith, named.count, slice_get_within ys k y at) in
    let x = there xs k lt in
    let h = each k x.0 x.1 in
    let e : Some h.0 ≡ Some y = sym h.1 ∙ sym (named.each k x.0 x.1) ∙ at in
    let q : h.0 ≡ y = cc in
    subst P q h.2

pub places_where : (made : List (Option Entity)) (places : List PlaceAt) (b : Bool) → (IsTrue b ↔ NameEach (λ (at : PlaceAt). operation_named made at.user_op) (λ _. Unit {0}) places) → b ≡ true
    → (k : ℕ) (at : PlaceAt) → slice_get places k ≡ Some at → (p : Ptr Operation) × (operation_named made at.user_op ≡ Some p) × Unit {0}
places_where made places b l e = l.0 e

-- the uses of a list stand, and are uses of x
pub listed_stand : {X : Type 0} (made : List (Option Entity)) (places : List PlaceAt) (rows : Ptr Operation → List X) (x : X) (us : List (Use X)) → AreListedUses made places rows x us
    → (k : ℕ) (u : Use X) → slice_get us k ≡ Some u → IsUseIn rows u × (u.def ≡ x)
listed_stand made places rows x us listed k u e = let s = listed.sound k u e in (s.0, s.1)

module _ {O B T : Type 0} where
  -- nothing has changed
  pub same_still : (c : ContextView O B T) → IsSame c c
  same_still c = record { program = record { operations = λ p. refl; blocks = λ p. refl; regions = λ p. refl; erased = kept-erased c.program; counter = refl }; values = λ v. refl; types = refl }

-- what is built of the same parts
pub built_of : {O B : Type 0} (c n : Program O B) (p : Ptr Operation) (tys : List TypeHandle) (count : ℕ) (d e : O) (vs ws : List Value) (bs cs : List (Ptr BasicBlock)) → d ≡ e → vs ≡ ws → bs ≡ cs → BuildsOperation c n p d tys vs bs count → BuildsOperation c n p e tys ws cs count
built_of c n p tys count d e vs ws bs cs payload values blocks h = subst (λ x. BuildsOperation c n p x tys ws cs count) payload (subst (λ x. BuildsOperation c n p d tys x cs count) values (subst (λ x. BuildsOperation c n p d tys vs x count) blocks h))
