-- The flat view of a tree with constants put in.
use Rattle.std.proofs.Common.{◌≡◌, ℕ, suc, List, [], ◌∷◌, ◌++◌, map, length, Option, Some, None, refl, sym, ap, ◌∙◌, subst}
use Rattle.std.specs.Prelude.{slice_get, option_map}
use Rattle.ir_base.specs.declared.types.TypeHandle.{TypeHandle}
use Rattle.ir_trees.specs.Names.{Names}
use Rattle.ir_trees.specs.Renames.{rename_defined}
use Rattle.ir_trees.specs.Trees.{Defined, Head}
use Rattle.opt_trees.specs.Occurrences.{types_of}
use Rattle.opt_trees.specs.Sccp.{Name, Old, fresh, used_as, old_head}
use Rattle.opt_trees.proofs.Lists.{names-map}
use Rattle.kit_behaviour.specs.Facts.{all_forwarded}
use Rattle.kit_behaviour.specs.InsertedConstants as flat
use Rattle.kit_behaviour.specs.InsertedConstants.{put_if, put_args, put_before, put_ops, put_block, constant_of, use_of}
use Rattle.kit_behaviour.specs.Machine.{Edge, Plain, Nonzero, Cases, Op, Const, Calc, Emit, Call, Branch, Return, Block}
use Rattle.kit_behaviour.specs.Renaming.{rename_edge, rename_op, rename_block, same_block}
use Rattle.kit_behaviour.specs.Replacement.{replace_edge, replace_op, replace_block}
use Rattle.kit_ops.specs.declared.attributes.IntegerAttr.{IntegerAttr}
use Rattle.kit_ops.specs.declared.kinds.KitOp.{KitOp}
use Rattle.kit_ops.specs.declared.kinds.KitOp.TheVariants as ops
use Rattle.kit_ops.specs.declared.types.KitType.{KitType}
use Rattle.kit_views.specs.Reading.{kit_contents, kit_reading}
use Rattle.kit_views.specs.FlatView.{kind_of, IsOf, IsOp}
use Rattle.kit_views.specs.FlatConstants.{as_name}

-- lists under three maps

module _ {V : Type 0} (made : V → Option IntegerAttr) where
  -- the numbers of the constants
  abbrev pub numbers : flat.Made V
  numbers v = option_map (λ (a : IntegerAttr). a.bits) (made v)

  -- what a use names afterwards
  abbrev pub used : V → Name V V
  used v = used_as v (made v)

  abbrev pub after_op : Op (flat.OldOrNewName V) → Op (Name V V)
  after_op p = rename_op as_name same_block (replace_op (use_of numbers) p)

  abbrev pub after_edge : Edge (flat.OldOrNewName V) → Edge (Name V V)
  after_edge e = rename_edge as_name same_block (replace_edge (use_of numbers) e)

  abbrev pub old_edge : Edge V → Edge (flat.OldOrNewName V)
  old_edge e = rename_edge flat.Old same_block e

  abbrev pub after_ops : List (Op (flat.OldOrNewName V)) → List (Op (Name V V))
  after_ops ps = map (rename_op as_name same_block) (map (replace_op (use_of numbers)) ps)

  abbrev pub after_block : Block (flat.OldOrNewName V) → Block (Name V V)
  after_block k = rename_block as_name (replace_block (use_of numbers) k)

  pub use_same : (v : V) → as_name (use_of numbers (flat.Old v)) ≡ used v
  use_same v = step (made v)
    where
      step : (o : Option IntegerAttr) → as_name (constant_of (option_map (λ (a : IntegerAttr). a.bits) o) v) ≡ used_as v o
      step None = refl
      step (Some a) = refl

  pub uses_same : (vs : List V) → map as_name (map (use_of numbers) (map flat.Old vs)) ≡ map used vs
  uses_same [] = refl
  uses_same (v ∷ vs) = λ i. use_same v i ∷ uses_same vs i

  pub olds_same : (vs : List V) → map as_name (map flat.Old vs) ≡ map Old vs
  olds_same [] = refl
  olds_same (v ∷ vs) = ap (λ l. Old v ∷ l) (olds_same vs)

  -- what edges forward
  pub forwarded_same : (es : List (Edge V)) → map used (all_forwarded es) ≡ all_forwarded (map (λ e. after_edge (old_edge e)) es)
  forwarded_same [] = refl
  forwarded_same (e ∷ es) = maps-append e.forwards (all_forwarded es) ∙ λ i. sym (uses_same e.forwards) i ++ forwarded_same es i
    where
      maps-append : (xs ys : List V) → map used (xs ++ ys) ≡ map used xs ++ map used ys
      maps-append [] ys = refl
      maps-append (x ∷ xs) ys = ap (λ l. used x ∷ l) (maps-append xs ys)

  pub edges_same : (es : List (Edge V)) → map (rename_edge as_name same_block) (map (replace_edge (use_of numbers)) (map (rename_edge flat.Old same_block) es)) ≡ map (λ e. after_edge (old_edge e)) es
  edges_same [] = refl
  edges_same (e ∷ es) = ap (λ l. after_edge (old_edge e) ∷ l) (edges_same es)

  pub targets_same : {B : Type 0} (names : List B) (es : List (Edge V)) → map (λ (e : Edge V). slice_get names e.target) es ≡ map (λ (e : Edge (Name V V)). slice_get names e.target) (map (λ e. after_edge (old_edge e)) es)
  targets_same names [] = refl
  targets_same names (e ∷ es) = ap (λ l. slice_get names e.target ∷ l) (targets_same names es)

pub append_map : {X Y : Type 0} (f : X → Y) (xs ys : List X) → map f (xs ++ ys) ≡ map f xs ++ map f ys
append_map f [] ys = refl
append_map f (x ∷ xs) ys = ap (λ l. f x ∷ l) (append_map f xs ys)

pub length_map : {X Y : Type 0} (f : X → Y) (xs : List X) → length (map f xs) ≡ length xs
length_map f [] = refl
length_map f (x ∷ xs) = ap suc (length_map f xs)

module _ {V : Type 0} (made : V → Option IntegerAttr) where
  three : (xs : List V) → length (map as_name (map (use_of (numbers made)) (map flat.Old xs))) ≡ length xs
  three xs = length_map as_name (map (use_of (numbers made)) (map flat.Old xs)) ∙ (length_map (use_of (numbers made)) (map flat.Old xs) ∙ length_map flat.Old xs)

  four : (es : List (Edge V)) → length (map (rename_edge as_name same_block) (map (replace_edge (use_of (numbers made))) (map (rename_edge flat.Old same_block) es))) ≡ length es
  four es = ap length (edges_same made es) ∙ length_map (λ e. after_edge made (old_edge made e)) es

types_map : {V W T : Type 0} (f : V → W) (ds : List (Defined V T)) → types_of (map (rename_defined f) ds) ≡ types_of ds
types_map f [] = refl
types_map f (v ∷ vs) = ap (λ l. v.holds ∷ l) (types_map f vs)

module _ {N : Names} (leads : TypeHandle → Option KitType) (numbered : List ℕ → ℕ) (names : List N.block) (made : N.value → Option IntegerAttr) where
  -- an operation under its old names, its operands naming constants
  old_of : (h : Head N kit_contents) (k : KitOp) (rs xs : List N.value) (es : List (Edge N.value)) → IsOf (kit_reading leads numbered) names h k rs xs es → IsOf {N = fresh N} (kit_reading leads numbered) names (old_head {N = N} made h) k (map Old rs) (map (used made) xs) (map (λ e. after_edge made (old_edge made e)) es)
  old_of h k rs xs es is = record {
    kind = is.kind;
    results = names-map Old h.results ∙ ap (map Old) is.results;
    operands = ap (map (used made)) is.operands;
    successors = is.successors ∙ targets_same made names es;
  }

  old_branch : (h : Head N kit_contents) (k : KitOp) (xs : List N.value) (e : Edge N.value) (es : List (Edge N.value)) → IsOf (kit_reading leads numbered) names h k [] (xs ++ all_forwarded (e ∷ es)) (e ∷ es) → IsOf {N = fresh N} (kit_reading leads numbered) names (old_head {N = N} made h) k [] (map as_name (map (use_of (numbers made)) (map flat.Old xs)) ++ all_forwarded (after_edge made (old_edge made e) ∷ map (rename_edge as_name same_block) (map (replace_edge (use_of (numbers made))) (map (rename_edge flat.Old same_block) es)))) (after_edge made (old_edge made e) ∷ map (rename_edge as_name same_block) (map (replace_edge (use_of (numbers made))) (map (rename_edge flat.Old same_block) es)))
  old_branch h k xs e es is =
      let o = old_of h k [] (xs ++ all_forwarded (e ∷ es)) (e ∷ es) is in
      let q : map (used made) (xs ++ all_forwarded (e ∷ es)) ≡ map as_name (map (use_of (numbers made)) (map flat.Old xs)) ++ all_forwarded (map (λ e. after_edge made (old_edge made e)) (e ∷ es)) =
      append_map (used made) xs (all_forwarded (e ∷ es)) ∙ λ i. sym (uses_same made xs) i ++ forwarded_same made (e ∷ es) i in
      let s = ap (λ l. after_edge made (old_edge made e) ∷ l) (sym (edges_same made es)) in
      subst (λ z. IsOf {N = fresh N} (kit_reading leads numbered) names (old_head {N = N} made h) k [] (map as_name (map (use_of (numbers made)) (map flat.Old xs)) ++ all_forwarded z) z) s
      (subst (λ z. IsOf {N = fresh N} (kit_reading leads numbered) names (old_head {N = N} made h) k [] z (map (λ e. after_edge made (old_edge made e)) (e ∷ es))) q o)

  pub old_op : (h : Head N kit_contents) (p : Op N.value) → IsOp (kit_reading leads numbered) names h p → IsOp {N = fresh N} (kit_reading leads numbered) names (old_head {N = N} made h) (after_op made (flat.old p))
  old_op h (Const y n) is = (old_of h ops.Constant (y ∷ []) [] [] is.0, is.1)
  old_op h (Calc a w y b c) is = (
    subst (λ z. IsOf {N = fresh N} (kit_reading leads numbered) names (old_head {N = N} made h) (kind_of a) (Old y ∷ []) z []) (λ i. sym (use_same made b) i ∷ sym (use_same made c) i ∷ []) (old_of h (kind_of a) (y ∷ []) (b ∷ c ∷ []) [] is.0),
    ap (map (kit_reading leads numbered).width) (types_map Old h.results) ∙ is.1,
  )
  old_op h (Emit x) is = subst (λ z. IsOf {N = fresh N} (kit_reading leads numbered) names (old_head {N = N} made h) ops.Emit [] z []) (λ i. sym (use_same made x) i ∷ []) (old_of h ops.Emit [] (x ∷ []) [] is)
  old_op h (Call rs c xs) is = (
    subst (λ z. IsOf {N = fresh N} (kit_reading leads numbered) names (old_head {N = N} made h) ops.Call z (map as_name (map (use_of (numbers made)) (map flat.Old xs))) []) (sym (olds_same made rs))
        (subst (λ z. IsOf {N = fresh N} (kit_reading leads numbered) names (old_head {N = N} made h) ops.Call (map Old rs) z []) (sym (uses_same made xs)) (old_of h ops.Call rs xs [] is.0)),
    is.1,
  )
  old_op h (Branch Plain xs e es) is = (old_branch h ops.Br xs e es is.0, three made xs ∙ is.1, four made es ∙ is.2)
  old_op h (Branch Nonzero xs e es) is = (old_branch h ops.CondBr xs e es is.0, three made xs ∙ is.1, four made es ∙ is.2, is.3 ∙ sym (three made e.forwards))
  old_op h (Branch (Cases ns) xs e es) is = absurd is
  old_op h (Return xs) is = subst (λ z. IsOf {N = fresh N} (kit_reading leads numbered) names (old_head {N = N} made h) ops.Return [] z []) (sym (uses_same made xs)) (old_of h ops.Return [] xs [] is)
