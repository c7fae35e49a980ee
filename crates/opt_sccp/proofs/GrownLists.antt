-- The constants of an operation or a block, with one more.
use Rattle.std.proofs.Common.{◌≡◌, ℕ, zero, suc, ◌<◌, List, [], ◌∷◌, ◌++◌, Option, Some, None, slice_get, refl, sym, ap, ◌∙◌, arith}
use Rattle.ir_base.specs.declared.types.TypeHandle.{TypeHandle}
use Rattle.ir_program.specs.declared.handles.Ptr.{Ptr}
use Rattle.ir_program.specs.declared.handles.Operation.{Operation}
use Rattle.ir_program.specs.declared.handles.Value.{Value}
use Rattle.ir_trees.specs.Trees.{Defined, Operations, Tree}
use Rattle.ir_trees.specs.Stands.{by_handle, in_program}
use Rattle.ir_trees.specs.Rewrites.{roots}
use Rattle.opt_trees.specs.Dialect.{Dialect}
use Rattle.opt_sccp.specs.Placed.{Placed, PlacedFor, constant_if, for_results, for_arguments}
use Rattle.opt_sccp.proofs.PutOutside.{no_results, no_arguments}

module _ {O B A : Type 0} (d : Dialect (in_program O B) A) (f g : PlacedFor O A) where
  pub same_results : (vs : List (Defined Value TypeHandle)) → ((k : ℕ) (v : Defined Value TypeHandle) → slice_get vs k ≡ Some v → f v.name ≡ g v.name) → for_results d f vs ≡ for_results d g vs
  same_results [] h = refl
  same_results (v ∷ vs) h = let rest = same_results vs (λ k w e. h (suc k) w e) in λ i. constant_if d (h zero v refl i) (rest i)

  pub same_arguments : (vs : List (Defined Value TypeHandle)) (t : Tree by_handle (in_program O B) Operations) → ((k : ℕ) (v : Defined Value TypeHandle) → slice_get vs k ≡ Some v → f v.name ≡ g v.name)
      → for_arguments d f vs t ≡ for_arguments d g vs t
  same_arguments [] t h = refl
  same_arguments (v ∷ vs) t h = ap (λ o. for_arguments d f vs (constant_if d o t)) (h zero v refl) ∙ same_arguments vs (constant_if d (g v.name) t) (λ k w e. h (suc k) w e)

  -- x is for the value at an index, before which they agree, and behind which there is nothing yet
  pub record AddsAt (x : Placed O A) (vs : List (Defined Value TypeHandle)) (k : ℕ) : Type 0 where
    pub value : Defined Value TypeHandle
    pub stands : slice_get vs k ≡ Some value
    pub now : f value.name ≡ Some x
    pub was : g value.name ≡ None
    pub earlier : (j : ℕ) (w : Defined Value TypeHandle) → slice_get vs j ≡ Some w → j < k → f w.name ≡ g w.name
    pub later : (j : ℕ) (w : Defined Value TypeHandle) → slice_get vs j ≡ Some w → k < j → f w.name ≡ None
    pub later_was : (j : ℕ) (w : Defined Value TypeHandle) → slice_get vs j ≡ Some w → k < j → g w.name ≡ None

  module _ (x : Placed O A) where
    tail_adds : (v : Defined Value TypeHandle) (vs : List (Defined Value TypeHandle)) (k : ℕ) → AddsAt x (v ∷ vs) (suc k) → AddsAt x vs k
    tail_adds v vs k a = record {
      value = a.value;
      stands = a.stands;
      now = a.now;
      was = a.was;
      earlier = λ j w e less. a.earlier (suc j) w e (omega arith);
      later = λ j w e less. a.later (suc j) w e (omega arith);
      later_was = λ j w e less. a.later_was (suc j) w e (omega arith);
    }

    first_is : (v : Defined Value TypeHandle) (vs : List (Defined Value TypeHandle)) → (a : AddsAt x (v ∷ vs) zero) → v ≡ a.value
    first_is v vs a = let s : Some v ≡ Some a.value = a.stands in cc

    roots_if : (o : Option (Placed O A)) (t u : Tree by_handle (in_program O B) Operations) (l : List (Ptr Operation)) → roots t ≡ roots u ++ l → roots (constant_if d o t) ≡ roots (constant_if d o u) ++ l
    roots_if None t u l e = e
    roots_if (Some y) t u l e = ap (λ z. y.op ∷ z) e

    pub results_more : (vs : List (Defined Value TypeHandle)) (k : ℕ) → AddsAt x vs k → roots (for_results d f vs) ≡ roots (for_results d g vs) ++ x.op ∷ []
    results_more [] k a = let s : None ≡ Some a.value = a.stands in cc
    results_more (v ∷ vs) zero a =
        let e = first_is v vs a in
        let now : f v.name ≡ Some x = ap (λ (w : Defined Value TypeHandle). f w.name) e ∙ a.now in
        let was : g v.name ≡ None = ap (λ (w : Defined Value TypeHandle). g w.name) e ∙ a.was in
        ap (λ o. roots (constant_if d o (for_results d f vs))) now
        ∙ ap (λ z. x.op ∷ z) (no_results d f vs (λ j w h. a.later (suc j) w h (omega arith)))
        ∙ sym (ap (λ o. roots (constant_if d o (for_results d g vs)) ++ x.op ∷ []) was ∙ ap (λ z. z ++ x.op ∷ []) (no_results d g vs (λ j w h. a.later_was (suc j) w h (omega arith))))
    results_more (v ∷ vs) (suc k) a =
        ap (λ o. roots (constant_if d o (for_results d f vs))) (a.earlier zero v refl (omega arith))
        ∙ roots_if (g v.name) (for_results d f vs) (for_results d g vs) (x.op ∷ []) (results_more vs k (tail_adds v vs k a))

    pub arguments_more : (vs : List (Defined Value TypeHandle)) (k : ℕ) (t : Tree by_handle (in_program O B) Operations) → AddsAt x vs k → for_arguments d f vs t ≡ constant_if d (Some x) (for_arguments d g vs t)
    arguments_more [] k t a = let s : None ≡ Some a.value = a.stands in cc
    arguments_more (v ∷ vs) zero t a =
        let e = first_is v vs a in
        let now : f v.name ≡ Some x = ap (λ (w : Defined Value TypeHandle). f w.name) e ∙ a.now in
        let was : g v.name ≡ None = ap (λ (w : Defined Value TypeHandle). g w.name) e ∙ a.was in
        ap (λ o. for_arguments d f vs (constant_if d o t)) now
        ∙ no_arguments d f vs (constant_if d (Some x) t) (λ j w h. a.later (suc j) w h (omega arith))
        ∙ sym (ap (λ o. constant_if d (Some x) (for_arguments d g vs (constant_if d o t))) was ∙ ap (λ u. constant_if d (Some x) u) (no_arguments d g vs t (λ j w h. a.later_was (suc j) w h (omega arith))))
    arguments_more (v ∷ vs) (suc k) t a =
        ap (λ o. for_arguments d f vs (constant_if d o t)) (a.earlier zero v refl (omega arith))
        ∙ arguments_more vs k (constant_if d (g v.name) t) (tail_adds v vs k a)
