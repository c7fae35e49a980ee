-- Lists of what is put in below a root.
use Rattle.std.proofs.Common.{◌≡◌, ◌⊎◌, ⊎_elim, ℕ, zero, suc, ◌<◌, List, [], ◌∷◌, ◌++◌, Some, option_map, slice_get, refl, sym, ap, ◌∙◌, arith}
use Rattle.std.proofs.lemmas.Bool.{cases_order}
use Rattle.std.proofs.lemmas.Option.{slice_get-map}
use Rattle.ir_program.specs.Program.{Program, value_in}
use Rattle.ir_program.specs.Definers.{values_at}
use Rattle.ir_program.specs.declared.handles.Ptr.{Ptr}
use Rattle.ir_program.specs.declared.handles.Operation.{Operation}
use Rattle.ir_program.specs.declared.handles.BasicBlock.{BasicBlock}
use Rattle.ir_program.specs.declared.handles.DefiningEntity.{DefiningEntity}
use Rattle.ir_program.specs.declared.handles.DefiningEntity.TheVariants.{Op as ByOp, Block as ByBlock}
use Rattle.ir_trees.specs.Stands.{in_program}
use Rattle.opt_trees.specs.Dialect.{Dialect}
use Rattle.opt_trees.specs.Occurrences.{Has}
use Rattle.opt_sccp.specs.Made.{IsPutList}
use Rattle.opt_sccp.specs.Placed.{Placed}
use Rattle.opt_sccp.proofs.Definitions.{AreDefined, result_at, argument_at, IsResultBelow, IsArgumentBelow, result_or_argument}
use Rattle.opt_sccp.proofs.PlacedLists.{made_in, has_map, has_index}

-- what is before the last of a list has an index below that one's
pub before_last : {X : Type 0} (xs : List X) (x y : X) → Has x xs → (i : ℕ) × (j : ℕ) × (slice_get (xs ++ y ∷ []) i ≡ Some x) × (slice_get (xs ++ y ∷ []) j ≡ Some y) × (i < j)
before_last [] x y h = absurd h
before_last {X} (z ∷ xs) x y h = ⊎_elim
    (λ e. let k = last_index xs y in let less : zero < suc k.0 = omega arith in (zero, suc k.0, ap Some (sym e), k.1, less))
    (λ r. let g = before_last xs x y r in let is : g.0 < g.1 = g.4 in let less : suc g.0 < suc g.1 = omega arith in (suc g.0, suc g.1, g.2, g.3, less)) h
  where
    last_index : {X : Type 0} (ys : List X) (y : X) → (k : ℕ) × (slice_get (ys ++ y ∷ []) k ≡ Some y)
    last_index [] y = (zero, refl)
    last_index (z ∷ ys) y = let g = last_index ys y in (suc g.0, g.1)

module _ {O B A : Type 0} (d : Dialect (in_program O B) A) (old : Program O B) (ps : List (Placed O A))
    (values : AreDefined old) (op : Ptr Operation) (list : IsPutList d old op (made_in ps)) where
  pub place : (x : Placed O A) → Has x ps → ((p : Ptr Operation) × IsResultBelow old op x.made.value p) ⊎ ((b : Ptr BasicBlock) × IsArgumentBelow old op x.made.value b)
  place x h = result_or_argument old op values x.made.value (list.below x.made (has_map (λ (y : Placed O A). y.made) ps x h))

  -- those of one definer come in its order
  pub in_order : (i j : ℕ) (x y : Placed O A) → slice_get ps i ≡ Some x → slice_get ps j ≡ Some y → i < j
      → (e : DefiningEntity) (a b : ℕ) → value_in (values_at old e) a ≡ Some x.made.value → value_in (values_at old e) b ≡ Some y.made.value → a < b
  in_order i j x y g h less = list.ordered i j x.made y.made
      (slice_get-map (λ (z : Placed O A). z.made) ps i ∙ ap (option_map (λ (z : Placed O A). z.made)) g)
      (slice_get-map (λ (z : Placed O A). z.made) ps j ∙ ap (option_map (λ (z : Placed O A). z.made)) h)
      less

  -- where a value stands
  pub placed_at : (x : Placed O A) → Has x ps → (e : DefiningEntity) × (a : ℕ) × (value_in (values_at old e) a ≡ Some x.made.value)
  placed_at x h = ⊎_elim
      (λ r. (ByOp r.0, r.1.index, result_at old r.0 r.1.view r.1.index x.made.value r.1.there r.1.stands))
      (λ r. (ByBlock r.0, r.1.index, argument_at old r.0 r.1.view r.1.index x.made.value r.1.there r.1.stands))
      (place x h)

  -- no value comes twice
  before_itself : (i j : ℕ) (x y : Placed O A) → Has x ps → slice_get ps i ≡ Some x → slice_get ps j ≡ Some y → x.made.value ≡ y.made.value → i < j → ⊥
  before_itself i j x y has g h e less =
      let at = placed_at x has in
      let again : value_in (values_at old at.0) at.1 ≡ Some y.made.value = at.2 ∙ ap Some e in
      let self : at.1 < at.1 = in_order i j x y g h less at.0 at.1 at.1 at.2 again in
      omega arith

  pub one_for : (x y : Placed O A) → Has x ps → Has y ps → x.made.value ≡ y.made.value → x ≡ y
  one_for x y h g e =
      let i = has_index ps x h in
      let j = has_index ps y g in
      ⊎_elim
      (λ (s : i.0 ≡ j.0). let q : Some x ≡ Some y = sym i.1 ∙ ap (slice_get ps) s ∙ j.1 in cc)
      (λ less. ⊎_elim (λ l. absurd (before_itself i.0 j.0 x y h i.1 j.1 e l)) (λ l. absurd (before_itself j.0 i.0 y x g j.1 i.1 (sym e) l)) less)
      (cases_order i.0 j.0)
