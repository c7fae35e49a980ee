-- The flat view of a tree with constants put in, block by block.
use Rattle.std.proofs.Common.{◌≡◌, inl, inr, ℕ, ◌<◌, List, [], ◌∷◌, map, Option, Some, None, refl, sym, ap, ◌∙◌, subst}
use Rattle.std.specs.Prelude.{slice_get, option_map}
use Rattle.std.proofs.lemmas.Option.{slice_get-map}
use Rattle.ir_base.specs.declared.types.TypeHandle.{TypeHandle}
use Rattle.ir_trees.specs.Names.{Names}
use Rattle.ir_trees.specs.Renames.{names_of}
use Rattle.ir_trees.specs.Trees.{Defined, Head, Operations, Blocks, Tree, end, operation, block}
use Rattle.opt_trees.specs.Occurrences.{Has, Occurrence, OperationSite, Spot, inner, next_block, occurrences_in}
use Rattle.opt_trees.specs.Sccp.{Name, Old, fresh, put_one, put_results, put_arguments, old_head, put}
use Rattle.opt_trees.proofs.Lists.{names-map}
use Rattle.opt_trees.proofs.NoneDead.{has-left, has-right}
use Rattle.kit_behaviour.specs.InsertedConstants as flat
use Rattle.kit_behaviour.specs.InsertedConstants.{put_if, put_args, put_before, put_ops, put_block, use_of}
use Rattle.kit_behaviour.specs.Machine.{AllEdges, Edge, Op, Const, Calc, Emit, Call, Branch, Return, Block, Fun, ops_left, left_in, arguments_of, arguments_in, size}
use Rattle.kit_behaviour.specs.Renaming.{rename_block, rename_edge, same_block}
use Rattle.kit_behaviour.specs.Replacement.{replace_block, replace_edge}
use Rattle.kit_behaviour.specs.Rules.{EdgeFits, EdgesOfOpFit, AllEdgesFit}
use Rattle.kit_behaviour.specs.Scopes.{SameLength}
use Rattle.kit_ops.specs.declared.attributes.IntegerAttr.{IntegerAttr}
use Rattle.kit_ops.specs.declared.types.KitType.{KitType}
use Rattle.kit.specs.Meaning.{kit}
use Rattle.kit_views.specs.Reading.{kit_contents, kit_reading}
use Rattle.kit_views.specs.FlatView.{IsOp, AreOps, AreFlatBlocks, names_in}
use Rattle.kit_views.specs.FlatConstants.{as_name}
use Rattle.kit_views.proofs.Calculated.{IsCalculated}
use Rattle.kit_views.proofs.PutIn.{numbers, after_op, after_edge, old_edge, after_ops, olds_same, old_op, length_map}

module _ {N : Names} (leads : TypeHandle → Option KitType) (numbered : List ℕ → ℕ) (names : List N.block) (made : N.value → Option IntegerAttr) where
  abbrev Ops : Tree (fresh N) kit_contents Operations → List (Op (Name N.value N.value)) → Type 0
  Ops os ps = AreOps {N = fresh N} (kit_reading leads numbered) names os ps

  -- a constant
  constant_put : (v : N.value) (o : Option IntegerAttr) (rest : Tree (fresh N) kit_contents Operations) (fr : List (Op (flat.OldOrNewName N.value))) → Ops rest (after_ops made fr) → Ops (put_one {N = N} kit v o rest) (after_ops made (put_if (option_map (λ (a : IntegerAttr). a.bits) o) v fr))
  constant_put v None rest fr a = a
  constant_put v (Some x) rest fr a = (refl, (record { kind = refl; results = refl; operands = refl; successors = refl }, refl), a)

  arguments_put : (vs : List (Defined N.value TypeHandle)) (rest : Tree (fresh N) kit_contents Operations) (fr : List (Op (flat.OldOrNewName N.value))) → Ops rest (after_ops made fr) → Ops (put_arguments {N = N} kit made vs rest) (after_ops made (put_args (numbers made) (names_of vs) fr))
  arguments_put [] rest fr a = a
  arguments_put (v ∷ vs) rest fr a = arguments_put vs (put_one {N = N} kit v.name (made v.name) rest) (put_if (numbers made v.name) v.name fr) (constant_put v.name (made v.name) rest fr a)

  none_put : (vs : List (Defined N.value TypeHandle)) (rest : Tree (fresh N) kit_contents Operations) → ((v : N.value) → Has v (names_of vs) → made v ≡ None) → put_results {N = N} kit made vs rest ≡ rest
  none_put [] rest h = refl
  none_put (v ∷ vs) rest h = ap (λ o. put_one {N = N} kit v.name o (put_results {N = N} kit made vs rest)) (h v.name (inl refl)) ∙ none_put vs rest (λ w i. h w (inr i))

  single_put : (vs : List (Defined N.value TypeHandle)) (y : N.value) (rest : Tree (fresh N) kit_contents Operations) → names_of vs ≡ y ∷ [] → put_results {N = N} kit made vs rest ≡ put_one {N = N} kit y (made y) rest
  single_put [] y rest e = absurd (cc e)
  single_put (v ∷ []) y rest e = let q : v.name ≡ y = cc e in ap (λ z. put_one {N = N} kit z (made z) rest) q
  single_put (v ∷ (w ∷ vs)) y rest e = absurd (cc e)

  -- no constant and no result of a call gets a constant
  abbrev Only : Head N kit_contents → Type 0
  Only h = (v : N.value) (p : Op N.value) → Has v (names_of h.results) → IsOp (kit_reading leads numbered) names h p → (IsCalculated v p → ⊥) → made v ≡ None

  results_put : (h : Head N kit_contents) (p : Op N.value) → IsOp (kit_reading leads numbered) names h p → Only h → (rest : Tree (fresh N) kit_contents Operations) (fr : List (Op (flat.OldOrNewName N.value))) → Ops rest (after_ops made fr) → Ops (put_results {N = N} kit made h.results rest) (after_ops made (put_before (numbers made) p fr))
  results_put h (Const y n) is only rest fr a = subst (λ z. Ops z (after_ops made fr)) (sym (none_put h.results rest (λ v i. only v (Const y n) i is (λ z. z)))) a
  results_put h (Calc k w y b c) is only rest fr a = subst (λ z. Ops z (after_ops made (put_if (numbers made y) y fr))) (sym (single_put h.results y rest is.0.results)) (constant_put y (made y) rest fr a)
  results_put h (Emit x) is only rest fr a = subst (λ z. Ops z (after_ops made fr)) (sym (none_put h.results rest (λ v i. only v (Emit x) i is (λ z. z)))) a
  results_put h (Call rs c xs) is only rest fr a = subst (λ z. Ops z (after_ops made fr)) (sym (none_put h.results rest (λ v i. only v (Call rs c xs) i is (λ z. z)))) a
  results_put h (Branch s xs e es) is only rest fr a = subst (λ z. Ops z (after_ops made fr)) (sym (none_put h.results rest (λ v i. only v (Branch s xs e es) i is (λ z. z)))) a
  results_put h (Return xs) is only rest fr a = subst (λ z. Ops z (after_ops made fr)) (sym (none_put h.results rest (λ v i. only v (Return xs) i is (λ z. z)))) a

  ops_put : (os : Tree N kit_contents Operations) (ps : List (Op N.value)) (c : OperationSite N kit_contents) → AreOps (kit_reading leads numbered) names os ps → ((o : Occurrence N kit_contents) → Has o (occurrences_in os c) → Only o.head) → Ops (put {N = N} kit made os) (after_ops made (put_ops (numbers made) ps))
  ops_put end [] c a only = tt
  ops_put end (p ∷ ps) c a only = absurd a
  ops_put (operation h rs more) [] c a only = absurd a
  ops_put (operation h rs more) (p ∷ ps) c a only =
      results_put h p a.1 (only (record { site = c; head = h; regions = rs }) (inl refl))
      (operation (old_head {N = N} made h) (put {N = N} kit made rs) (put {N = N} kit made more)) (flat.old p ∷ put_ops (numbers made) ps) (
        ap (λ z. put {N = N} kit made z) a.0,
        old_op leads numbered names made h p a.1,
        ops_put more ps c a.2 (λ o i. only o (inr (has-right o (occurrences_in rs (inner h c)) (occurrences_in more c) i))),
      )

  pub blocks_put : (bs : Tree N kit_contents Blocks) (ks : Fun N.value) (c : Spot N kit_contents) → AreFlatBlocks (kit_reading leads numbered) names bs ks → ((o : Occurrence N kit_contents) → Has o (occurrences_in bs c) → Only o.head) → AreFlatBlocks {N = fresh N} (kit_reading leads numbered) names (put {N = N} kit made bs) (map (rename_block as_name) (map (replace_block (use_of (numbers made))) (map (put_block (numbers made)) ks)))
  blocks_put end [] c a only = tt
  blocks_put end (k ∷ ks) c a only = absurd a
  blocks_put (block l os more) [] c a only = absurd a
  blocks_put (block l os more) (k ∷ ks) c a only = (
    names-map Old l.arguments ∙ (ap (map Old) a.0 ∙ sym (olds_same made k.arguments)),
    subst (λ z. Ops (put_arguments {N = N} kit made l.arguments (put {N = N} kit made os)) (after_ops made (put_args (numbers made) z (put_ops (numbers made) k.ops)))) a.0
        (arguments_put l.arguments (put {N = N} kit made os) (put_ops (numbers made) k.ops) (ops_put os k.ops (record { spot = c; label = l }) a.1 (λ o i. only o (has-left o (occurrences_in os (record { spot = c; label = l })) (occurrences_in more (next_block c)) i)))),
    blocks_put more ks (next_block c) a.2 (λ o i. only o (has-right o (occurrences_in os (record { spot = c; label = l })) (occurrences_in more (next_block c)) i)),
  )

pub names_put : {N : Names} (made : N.value → Option IntegerAttr) (bs : Tree N kit_contents Blocks) → names_in {N = fresh N} (put {N = N} kit made bs) ≡ names_in bs
names_put made end = refl
names_put made (block l os more) = ap (λ z. l.name ∷ z) (names_put made more)

-- edges still fit
module _ {V : Type 0} (made : V → Option IntegerAttr) (f : Fun V) where
  abbrev pub rest : Fun (Name V V)
  rest = map (rename_block as_name) (map (replace_block (use_of (numbers made))) (map (put_block (numbers made)) f))

  at_rest : (b : ℕ) → slice_get rest b ≡ option_map (rename_block as_name) (option_map (replace_block (use_of (numbers made))) (option_map (put_block (numbers made)) (slice_get f b)))
  at_rest b =
      slice_get-map (rename_block as_name) (map (replace_block (use_of (numbers made))) (map (put_block (numbers made)) f)) b
      ∙ ap (option_map (rename_block as_name)) (slice_get-map (replace_block (use_of (numbers made))) (map (put_block (numbers made)) f) b
      ∙ ap (option_map (replace_block (use_of (numbers made)))) (slice_get-map (put_block (numbers made)) f b))

  takes_rest : (b : ℕ) → arguments_in (Some rest) b ≡ map as_name (map flat.Old (arguments_in (Some f) b))
  takes_rest b = ap arguments_of (at_rest b) ∙ step (slice_get f b)
    where
      step : (o : Option (Block V)) → arguments_of (option_map (rename_block as_name) (option_map (replace_block (use_of (numbers made))) (option_map (put_block (numbers made)) o))) ≡ map as_name (map flat.Old (arguments_of o))
      step None = refl
      step (Some k) = refl

  size_rest : size (Some rest) ≡ size (Some f)
  size_rest = length_map (rename_block as_name) (map (replace_block (use_of (numbers made))) (map (put_block (numbers made)) f)) ∙ (length_map (replace_block (use_of (numbers made))) (map (put_block (numbers made)) f) ∙ length_map (put_block (numbers made)) f)

  same_lengths : (ts gs : List V) → SameLength ts gs → SameLength (map as_name (map flat.Old ts)) (map as_name (map (use_of (numbers made)) (map flat.Old gs)))
  same_lengths [] [] s = tt
  same_lengths [] (g ∷ gs) s = absurd s
  same_lengths (t ∷ ts) [] s = absurd s
  same_lengths (t ∷ ts) (g ∷ gs) s = same_lengths ts gs s

  edge_after : (e : Edge V) → EdgeFits (Some f) e → EdgeFits (Some rest) (after_edge made (old_edge made e))
  edge_after e h = record {
    count = subst (λ z. SameLength z (map as_name (map (use_of (numbers made)) (map flat.Old e.forwards)))) (sym (takes_rest e.target)) (same_lengths (arguments_in (Some f) e.target) e.forwards h.count);
    leads = subst (λ n. e.target < n) (sym size_rest) h.leads;
  }

  edges_after : (es : List (Edge V)) → AllEdges (EdgeFits (Some f)) es → AllEdges (EdgeFits (Some rest)) (map (rename_edge as_name same_block) (map (replace_edge (use_of (numbers made))) (map (rename_edge flat.Old same_block) es)))
  edges_after [] h = tt
  edges_after (e ∷ es) h = (edge_after e h.0, edges_after es h.1)

  op_after : (p : Op V) → EdgesOfOpFit (Some f) p → EdgesOfOpFit (Some rest) (after_op made (flat.old p))
  op_after (Const y n) h = tt
  op_after (Calc a w y b c) h = tt
  op_after (Emit x) h = tt
  op_after (Call rs c xs) h = tt
  op_after (Branch s xs e es) h = (edge_after e h.0, edges_after es h.1)
  op_after (Return xs) h = tt

  put_fits : (o : Option ℕ) (v : V) (ps : List (Op (flat.OldOrNewName V))) → AllEdgesFit (Some rest) (after_ops made ps) → AllEdgesFit (Some rest) (after_ops made (put_if o v ps))
  put_fits None v ps h = h
  put_fits (Some n) v ps h = (tt, h)

  before_fits : (p : Op V) (ps : List (Op (flat.OldOrNewName V))) → AllEdgesFit (Some rest) (after_ops made ps) → AllEdgesFit (Some rest) (after_ops made (put_before (numbers made) p ps))
  before_fits (Const y n) ps h = h
  before_fits (Calc a w y b c) ps h = put_fits (numbers made y) y ps h
  before_fits (Emit x) ps h = h
  before_fits (Call rs c xs) ps h = h
  before_fits (Branch s xs e es) ps h = h
  before_fits (Return xs) ps h = h

  ops_fit : (ps : List (Op V)) → AllEdgesFit (Some f) ps → AllEdgesFit (Some rest) (after_ops made (put_ops (numbers made) ps))
  ops_fit [] h = tt
  ops_fit (p ∷ ps) h = before_fits p (flat.old p ∷ put_ops (numbers made) ps) (op_after p h.0, ops_fit ps h.1)

  args_fit : (vs : List V) (ps : List (Op (flat.OldOrNewName V))) → AllEdgesFit (Some rest) (after_ops made ps) → AllEdgesFit (Some rest) (after_ops made (put_args (numbers made) vs ps))
  args_fit [] ps h = h
  args_fit (v ∷ vs) ps h = args_fit vs (put_if (numbers made v) v ps) (put_fits (numbers made v) v ps h)

  pub rest_fits : ((b : ℕ) → AllEdgesFit (Some f) (left_in (Some f) b 0)) → (b : ℕ) → AllEdgesFit (Some rest) (left_in (Some rest) b 0)
  rest_fits h b = subst (λ o. AllEdgesFit (Some rest) (ops_left o 0)) (sym (at_rest b)) (step (slice_get f b) (h b))
    where
      step : (o : Option (Block V)) → AllEdgesFit (Some f) (ops_left o 0) → AllEdgesFit (Some rest) (ops_left (option_map (rename_block as_name) (option_map (replace_block (use_of (numbers made))) (option_map (put_block (numbers made)) o))) 0)
      step None h = tt
      step (Some k) h = args_fit k.arguments (put_ops (numbers made) k.ops) (ops_fit k.ops h)
