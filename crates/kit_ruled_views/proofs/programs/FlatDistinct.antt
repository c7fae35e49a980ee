-- In the flat view of a function whose values have distinct names, each name is at one place.
use Rattle.std.proofs.Common.{◌≡◌, ℕ, zero, suc, List, [], ◌∷◌, ◌++◌, Option, Some, None, refl, ap}
use Rattle.std.proofs.Common.{◌∙◌, subst}
use Rattle.std.specs.Prelude.{slice_get}
use Rattle.ir_trees.specs.Names.{Names, Contents}
use Rattle.ir_trees.specs.Renames.{names_of}
use Rattle.ir_trees.specs.Trees.{Operations, Blocks, Tree, end, operation, block, Root}
use Rattle.opt_trees.specs.Occurrences.{Has, defined_in}
use Rattle.opt_trees.proofs.NoneDead.{has-left, has-right}
use Rattle.kit_behaviour.specs.Machine.{Op, Block, Fun}
use Rattle.kit_behaviour.specs.Places.{Place, Arg, Res}
use Rattle.kit_behaviour.specs.Scopes.{defs, all_defs}
use Rattle.kit_behaviour.proofs.Numbering.NumberingBehaviour.{block_of, name_op, name_in}
use Rattle.kit_behaviour.proofs.Numbering.NumberingRules as places
use Rattle.kit_views.specs.FlatView.{AreOps, AreFlatBlocks, FlattensTo, names_in}
use Rattle.kit_views.specs.Reading.{Reading}
use Rattle.kit_views.proofs.Lists.{Distinct, to_distinct, from_distinct, distinct_left, distinct_right, distinct_apart}
use Rattle.kit_views.proofs.Lists.{has_get}
use Rattle.kit_ruled_views.proofs.programs.FlatDefined.{results_are}

abbrev raise : Place → Place
raise (Arg b i) = Arg (suc b) i
raise (Res b o i) = Res (suc b) o i

module _ {V : Type 0} where
  -- the values of these blocks, in order
  abbrev pub flat_values : List (Block V) → List V
  flat_values [] = []
  flat_values (k ∷ ks) = k.arguments ++ (all_defs k.ops ++ flat_values ks)

  -- what stands at a place
  abbrev arg_in : Option (Block V) → ℕ → Option V
  arg_in None i = None
  arg_in (Some k) i = slice_get k.arguments i

  abbrev res_in : Option (Block V) → ℕ → ℕ → Option V
  res_in None o i = None
  res_in (Some k) o i = name_op (slice_get k.ops o) i

  abbrev at : List (Block V) → Place → Option V
  at ks (Arg b i) = arg_in (slice_get ks b) i
  at ks (Res b o i) = res_in (slice_get ks b) o i

  at_is : (ks : List (Block V)) (a : Place) → at ks a ≡ name_in (slice_get ks (block_of a)) a
  at_is ks (Arg b i) = by_block (slice_get ks b)
    where
      by_block : (o : Option (Block V)) → arg_in o i ≡ name_in o (Arg b i)
      by_block None = refl
      by_block (Some k) = refl
  at_is ks (Res b p i) = by_block (slice_get ks b)
    where
      by_block : (o : Option (Block V)) → res_in o p i ≡ name_in o (Res b p i)
      by_block None = refl
      by_block (Some k) = refl

  op_at : (ops : List (Op V)) (o i : ℕ) (v : V) → name_op (slice_get ops o) i ≡ Some v → Has v (all_defs ops)
  op_at [] o i v e = absurd (cc e)
  op_at (op ∷ ops) zero i v e = has-left v (defs op) (all_defs ops) (has_get (defs op) i v e)
  op_at (op ∷ ops) (suc o) i v e = has-right v (defs op) (all_defs ops) (op_at ops o i v e)

  has_at : (ks : List (Block V)) (a : Place) (v : V) → at ks a ≡ Some v → Has v (flat_values ks)
  has_at [] (Arg b i) v e = absurd (cc e)
  has_at [] (Res b o i) v e = absurd (cc e)
  has_at (k ∷ ks) (Arg zero i) v e =
      has-left v k.arguments (all_defs k.ops ++ flat_values ks) (has_get k.arguments i v e)
  has_at (k ∷ ks) (Res zero o i) v e =
      has-right v k.arguments (all_defs k.ops ++ flat_values ks)
      (has-left v (all_defs k.ops) (flat_values ks) (op_at k.ops o i v e))
  has_at (k ∷ ks) (Arg (suc b) i) v e =
      has-right v k.arguments (all_defs k.ops ++ flat_values ks)
      (has-right v (all_defs k.ops) (flat_values ks) (has_at ks (Arg b i) v e))
  has_at (k ∷ ks) (Res (suc b) o i) v e =
      has-right v k.arguments (all_defs k.ops ++ flat_values ks)
      (has-right v (all_defs k.ops) (flat_values ks) (has_at ks (Res b o i) v e))

  ops_one : (ops : List (Op V)) → Distinct (all_defs ops) → (o p i j : ℕ) (v : V) →
      name_op (slice_get ops o) i ≡ Some v →
      name_op (slice_get ops p) j ≡ Some v → (o ≡ p) × (i ≡ j)
  ops_one [] d o p i j v e f = absurd (cc e)
  ops_one (op ∷ ops) d zero zero i j v e f =
      (refl, from_distinct (defs op) (distinct_left (defs op) (all_defs ops) d) i j v e f)
  ops_one (op ∷ ops) d zero (suc p) i j v e f =
      absurd (distinct_apart (defs op) (all_defs ops) v d (has_get (defs op) i v e) (op_at ops p j v f))
  ops_one (op ∷ ops) d (suc o) zero i j v e f =
      absurd (distinct_apart (defs op) (all_defs ops) v d (has_get (defs op) j v f) (op_at ops o i v e))
  ops_one (op ∷ ops) d (suc o) (suc p) i j v e f =
      let q = ops_one ops (distinct_right (defs op) (all_defs ops) d) o p i j v e f in (ap suc q.0, q.1)

  module _ (k : Block V) (ks : List (Block V)) (d : Distinct (flat_values (k ∷ ks))) (v : V) where
    abbrev rest : List V
    rest = all_defs k.ops ++ flat_values ks

    distinct_rest : Distinct rest
    distinct_rest = distinct_right k.arguments rest d

    -- an argument of the first block is none of its results, and neither is in another block
    arg_res : (i o j : ℕ) → slice_get k.arguments i ≡ Some v → name_op (slice_get k.ops o) j ≡ Some v → ⊥
    arg_res i o j e f =
        distinct_apart k.arguments rest v d (has_get k.arguments i v e)
        (has-left v (all_defs k.ops) (flat_values ks) (op_at k.ops o j v f))

    arg_below : (i : ℕ) (a : Place) → slice_get k.arguments i ≡ Some v → at ks a ≡ Some v → ⊥
    arg_below i a e f =
        distinct_apart k.arguments rest v d (has_get k.arguments i v e)
        (has-right v (all_defs k.ops) (flat_values ks) (has_at ks a v f))

    res_below : (o i : ℕ) (a : Place) → name_op (slice_get k.ops o) i ≡ Some v → at ks a ≡ Some v → ⊥
    res_below o i a e f =
        distinct_apart (all_defs k.ops) (flat_values ks) v distinct_rest (op_at k.ops o i v e) (has_at ks a v f)

    first_block : (a b : Place) → at (k ∷ ks) a ≡ Some v → at (k ∷ ks) b ≡ Some v →
        ((a b : Place) → at ks a ≡ Some v → at ks b ≡ Some v → a ≡ b) → a ≡ b
    first_block (Arg zero i) (Arg zero j) e f ih =
        ap (Arg zero) (from_distinct k.arguments (distinct_left k.arguments rest d) i j v e f)
    first_block (Arg zero i) (Arg (suc b) j) e f ih = absurd (arg_below i (Arg b j) e f)
    first_block (Arg zero i) (Res zero o j) e f ih = absurd (arg_res i o j e f)
    first_block (Arg zero i) (Res (suc b) o j) e f ih = absurd (arg_below i (Res b o j) e f)
    first_block (Arg (suc c) i) (Arg zero j) e f ih = absurd (arg_below j (Arg c i) f e)
    first_block (Arg (suc c) i) (Arg (suc b) j) e f ih = ap raise (ih (Arg c i) (Arg b j) e f)
    first_block (Arg (suc c) i) (Res zero o j) e f ih = absurd (res_below o j (Arg c i) f e)
    first_block (Arg (suc c) i) (Res (suc b) o j) e f ih = ap raise (ih (Arg c i) (Res b o j) e f)
    first_block (Res zero p i) (Arg zero j) e f ih = absurd (arg_res j p i f e)
    first_block (Res zero p i) (Arg (suc b) j) e f ih = absurd (res_below p i (Arg b j) e f)
    first_block (Res zero p i) (Res zero o j) e f ih =
        let q = ops_one k.ops (distinct_left (all_defs k.ops) (flat_values ks) distinct_rest) p o i j v e f in
        λ x. Res zero (q.0 x) (q.1 x)
    first_block (Res zero p i) (Res (suc b) o j) e f ih = absurd (res_below p i (Res b o j) e f)
    first_block (Res (suc c) p i) (Arg zero j) e f ih = absurd (arg_below j (Res c p i) f e)
    first_block (Res (suc c) p i) (Arg (suc b) j) e f ih = ap raise (ih (Res c p i) (Arg b j) e f)
    first_block (Res (suc c) p i) (Res zero o j) e f ih = absurd (res_below o j (Res c p i) f e)
    first_block (Res (suc c) p i) (Res (suc b) o j) e f ih = ap raise (ih (Res c p i) (Res b o j) e f)

  one_at : (ks : List (Block V)) → Distinct (flat_values ks) → (v : V) (a b : Place) → at ks a ≡ Some v →
      at ks b ≡ Some v → a ≡ b
  one_at [] d v (Arg b i) c e f = absurd (cc e)
  one_at [] d v (Res b o i) c e f = absurd (cc e)
  one_at (k ∷ ks) d v a b e f =
      first_block k ks d v a b e f
      (one_at ks (distinct_right (all_defs k.ops) (flat_values ks) (distinct_right k.arguments
      (all_defs k.ops ++ flat_values ks) d)) v)

module _ {N : Names} {S : Contents} (r : Reading S) (names : List N.block) where
  ops_values : (os : Tree N S Operations) (ops : List (Op N.value)) → AreOps r names os ops →
      defined_in os ≡ all_defs ops
  ops_values end [] h = refl
  ops_values end (op ∷ ops) h = absurd h
  ops_values (operation g rs more) [] h = absurd h
  ops_values (operation g rs more) (op ∷ ops) h =
      ap (λ l. names_of g.results ++ (l ++ defined_in more)) (ap defined_in h.0)
      ∙ (λ i. results_are r names g op h.1 i ++ ops_values more ops h.2 i)

  blocks_values : (bs : Tree N S Blocks) (f : Fun N.value) → AreFlatBlocks r names bs f → defined_in bs ≡ flat_values f
  blocks_values end [] h = refl
  blocks_values end (k ∷ ks) h = absurd h
  blocks_values (block l os more) [] h = absurd h
  blocks_values (block l os more) (k ∷ ks) h =
      λ i. h.0 i ++ (ops_values os k.ops h.1 i ++ blocks_values more ks h.2 i)

pub flat_distinct : {N : Names} {S : Contents} (r : Reading S) (u : Root N S) (f : Fun N.value) → FlattensTo r u f →
    places.Distinct (Some f)
flat_distinct r u f flat =
    let all = to_distinct (defined_in u.regions) flat.values in
    let here = distinct_left (defined_in flat.view.blocks) [] (subst (λ z. Distinct (defined_in z)) flat.view.region
    all) in
    let one = one_at f (subst Distinct (blocks_values r (names_in flat.view.blocks) flat.view.blocks f flat.view.are)
    here) in
    λ v a b e g. one v a b (at_is f a ∙ e) (at_is f b ∙ g)
