-- Lists of which all members are the same.
use Rattle.std.proofs.Common.{◌≡◌, ◌↔◌, ⊎_elim, Bool, true, List, [], ◌∷◌, ◌++◌, map, length, Option, Some, option_map, IsTrue, slice_get, refl, sym, ap, ◌∙◌, subst, arith}
use Rattle.std.proofs.Common.{false, true≢false}
use Rattle.std.proofs.lemmas.Bool.{false≢true}
use Rattle.std.proofs.lemmas.List.{length-map}
use Rattle.std.proofs.lemmas.Option.{slice_get-map}
use Rattle.ir_base.specs.declared.types.TypeHandle.{TypeHandle}
use Rattle.ir_program.specs.Program.{Program, TypedValue, results_at, type_at, type_in}
use Rattle.ir_program.specs.Rows.{operands_at}
use Rattle.ir_program.specs.declared.handles.Ptr.{Ptr}
use Rattle.ir_program.specs.declared.handles.Operation.{Operation}
use Rattle.ir_trees.specs.Stands.{ProgramTree, StandsFor}
use Rattle.kit_ops.specs.declared.kinds.KitOp.{KitOp}
use Rattle.kit_ops.specs.declared.kinds.KitOp.TheVariants as ops
use Rattle.kit_checks.specs.Rules.{HasCondition, HasKindTypes}
use Rattle.kit_checks.specs.World.{World}
use Rattle.kit_checks.proofs.Trees.{operands_are, result_types}
use Rattle.ir_trees.proofs.Members.{at_has, has_at, has_front, has_back, has_either, has_map, has_made}
use Rattle.kit_checks.specs.Words.{AreAllEqual, Every, IsBit, is_arithmetic, is_comparison, is_cond_br, types_of}
use Rattle.kit_checks.proofs.Passed.{every_has, has_every}

module _ {X : Type 0} where
  pub alike_none : (xs : List X) → length xs ≡ 0 → IsTrue true ↔ AreAllEqual xs
  alike_none [] none = (λ h x y a b. let e = a.1 in cc, λ h. refl)
  alike_none (x ∷ xs) none = absurd (omega arith)

  -- all are the same where all are the first one
  pub alike_first : (xs : List X) (x : X) → slice_get xs 0 ≡ Some x → Every (λ y. y ≡ x) xs ↔ AreAllEqual xs
  alike_first xs x first = (
    λ every a b in_a in_b. every in_a.0 a in_a.1 ∙ sym (every in_b.0 b in_b.1),
    λ alike k y here. alike y x (k, here) (0, first),
  )

  pub every_both : (P : X → Type 0) (xs ys : List X) → Every P xs → Every P ys → Every P (xs ++ ys)
  every_both P xs ys a b = has_every P (xs ++ ys) (λ x has. ⊎_elim (every_has P xs a x) (every_has P ys b x) (has_either xs ys x has))

  pub every_front : (P : X → Type 0) (xs ys : List X) → Every P (xs ++ ys) → Every P xs
  every_front P xs ys all = has_every P xs (λ x has. every_has P (xs ++ ys) all x (has_front xs ys x has))

  pub every_back : (P : X → Type 0) (xs ys : List X) → Every P (xs ++ ys) → Every P ys
  every_back P xs ys all = has_every P ys (λ x has. every_has P (xs ++ ys) all x (has_back xs ys x has))

  pub every_some : (h : X) (hs : List X) → Every (λ x. x ≡ h) hs ↔ Every (λ o. o ≡ Some h) (map Some hs)
  every_some h hs = (
    λ every. has_every (λ o. o ≡ Some h) (map Some hs) (λ o has. let m = has_made Some hs o has in m.2 ∙ ap Some (every_has (λ x. x ≡ h) hs every m.0 m.1)),
    λ every. has_every (λ x. x ≡ h) hs (λ x has. let e : Some x ≡ Some h = every_has (λ o. o ≡ Some h) (map Some hs) every (Some x) (has_map Some hs x has) in cc),
  )

  pub alike_some : (hs : List X) → AreAllEqual hs ↔ AreAllEqual (map Some hs)
  alike_some hs = (
    λ alike a b in_a in_b.
        let m = has_made Some hs a (at_has (map Some hs) in_a.0 a in_a.1) in
        let n = has_made Some hs b (at_has (map Some hs) in_b.0 b in_b.1) in
        m.2 ∙ ap Some (alike m.0 n.0 (has_at hs m.0 m.1) (has_at hs n.0 n.1)) ∙ sym n.2,
    λ alike x y in_x in_y. let e : Some x ≡ Some y = alike (Some x) (Some y) (in_x.0, slice_get-map Some hs in_x.0 ∙ ap (option_map Some) in_x.1) (in_y.0, slice_get-map Some hs in_y.0 ∙ ap (option_map Some) in_y.1) in cc,
  )

  first_front : (xs ys : List X) (x : X) → slice_get xs 0 ≡ Some x → slice_get (xs ++ ys) 0 ≡ Some x
  first_front [] ys x h = cc
  first_front (z ∷ xs) ys x h = h

nothing : {X : Type 0} (xs : List X) → length xs ≡ 0 → xs ≡ []
nothing [] h = refl
nothing (x ∷ xs) h = absurd (omega arith)

-- types of operands, which may be none, and of results
module _ {X : Type 0} (os : List (Option X)) (hs : List X) where
  pub alike_without : length os ≡ 0 → AreAllEqual hs ↔ AreAllEqual (os ++ map Some hs)
  alike_without none = subst (λ l. AreAllEqual hs ↔ AreAllEqual (l ++ map Some hs)) (sym (nothing os none)) (alike_some hs)

  module _ (h : X) (first : slice_get os 0 ≡ Some (Some h)) where
    pub alike_parts : Every (λ o. o ≡ Some h) os → Every (λ x. x ≡ h) hs → AreAllEqual (os ++ map Some hs)
    alike_parts a b = (alike_first (os ++ map Some hs) (Some h) (first_front os (map Some hs) (Some h) first)).0 (every_both (λ o. o ≡ Some h) os (map Some hs) a ((every_some h hs).0 b))

    pub part_operands : AreAllEqual (os ++ map Some hs) → Every (λ o. o ≡ Some h) os
    part_operands alike = every_front (λ o. o ≡ Some h) os (map Some hs) ((alike_first (os ++ map Some hs) (Some h) (first_front os (map Some hs) (Some h) first)).1 alike)

    pub part_results : AreAllEqual (os ++ map Some hs) → Every (λ x. x ≡ h) hs
    part_results alike = (every_some h hs).1 (every_back (λ o. o ≡ Some h) os (map Some hs) ((alike_first (os ++ map Some hs) (Some h) (first_front os (map Some hs) (Some h) first)).1 alike))

-- the types of operands, in the program and in the tree
module _ {O B : Type 0} (c : Program O B) (op : Ptr Operation) (u : ProgramTree O B) (s : StandsFor c op u) where
  pub first_type : (ty : TypeHandle) → option_map (type_at c) (slice_get (operands_at c op) 0) ≡ Some (Some ty) → slice_get (map (type_at c) u.head.operands) 0 ≡ Some (Some ty)
  first_type ty h = slice_get-map (type_at c) u.head.operands 0 ∙ ap (λ l. option_map (type_at c) (slice_get l 0)) (operands_are c op u s) ∙ h

  pub no_types : length (operands_at c op) ≡ 0 → length (map (type_at c) u.head.operands) ≡ 0
  no_types h = length-map u.head.operands (type_at c) ∙ ap length (operands_are c op u s) ∙ h

  pub first_result : (ty : TypeHandle) → type_in (results_at c op) 0 ≡ Some ty → slice_get (types_of u.head.results) 0 ≡ Some ty
  first_result ty h = ap (λ l. slice_get l 0) (result_types c op u s) ∙ slice_get-map (λ (t : TypedValue). t.ty) (results_at c op) 0 ∙ h

-- which types an operation of a kind has
module _ {O B : Type 0} (w : World O B) (u : ProgramTree O B) (r : Bool) where
  pub arithmetic_types : (k : KitOp) → is_arithmetic k ≡ true → IsTrue r ↔ AreAllEqual (map w.value_type u.head.operands ++ map Some (types_of u.head.results)) → IsTrue r ↔ HasKindTypes w u k
  arithmetic_types (ops.Arithmetic a) is tells = tells
  arithmetic_types _ is tells = absurd (false≢true is)

  pub comparison_types : (k : KitOp) → is_comparison k ≡ true → IsTrue r ↔ AreAllEqual (map w.value_type u.head.operands) × Every (IsBit w) (types_of u.head.results) → IsTrue r ↔ HasKindTypes w u k
  comparison_types (ops.Comparison a) is tells = tells
  comparison_types _ is tells = absurd (false≢true is)

  pub condition_types : (k : KitOp) → is_cond_br k ≡ true → IsTrue r ↔ HasCondition w u → IsTrue r ↔ HasKindTypes w u k
  condition_types ops.CondBr is tells = tells
  condition_types _ is tells = absurd (false≢true is)

pub other_types : {O B : Type 0} (w : World O B) (u : ProgramTree O B) (k : KitOp) → is_arithmetic k ≡ false → is_comparison k ≡ false → is_cond_br k ≡ false → IsTrue true ↔ HasKindTypes w u k
other_types w u (ops.Arithmetic a) x y z = absurd (true≢false x)
other_types w u (ops.Comparison a) x y z = absurd (true≢false y)
other_types w u ops.CondBr x y z = absurd (true≢false z)
other_types w u _ x y z = (λ h. tt, λ h. refl)
