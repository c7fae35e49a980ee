-- Chains of blocks joined in the tree of a function, and in its flat view.
use Rattle.std.proofs.Common.{◌≡◌, ◌⊎◌, ⊎_elim, inl, inr, ℕ, suc, ◌+◌, ◌<◌, ◌≤◌, Bool, true, List, [], ◌∷◌, ◌++◌, map}
use Rattle.std.proofs.Common.{length, Option, Some, refl, sym, ap, ◌∙◌, subst, arith}
use Rattle.std.specs.Prelude.{slice_get, not}
use Rattle.ir_base.specs.declared.types.TypeHandle.{TypeHandle}
use Rattle.ir_trees.specs.Names.{Names, Contents}
use Rattle.ir_trees.specs.Renames.{names_of}
use Rattle.ir_trees.specs.Searched.{heads_in}
use Rattle.ir_trees.specs.Trees.{Head, Label, Sort, Blocks, Tree, end, operation, block, region, Root}
use Rattle.opt_trees.specs.Dialect.{Dialect}
use Rattle.opt_trees.specs.Occurrences.{Has, Occurrence, occurrences_of, defined_in}
use Rattle.opt_trees.specs.Simplify.{all_of, use_head, use_instead, IsJoined}
use Rattle.opt_trees.proofs.Lists.{map-map, map-append, has-map}
use Rattle.kit_behaviour.specs.Machine.{Block, Fun, left_in}
use Rattle.kit_behaviour.specs.Rules.{EndsWell}
use Rattle.kit_behaviour.specs.SimplifiedBlocks.{Reached, IsJoinedSet, Depth, between, keep_blocks, IsLaterArgument, merged}
use Rattle.kit_behaviour.proofs.ControlFlow.NamedChains.{merged_fits}
use Rattle.kit_behaviour.proofs.ControlFlow.SimplifyBehaviour.{depth_few}
use Rattle.kit_behaviour.proofs.ControlFlow.SimplifyExists.{taken_exists}
use Rattle.kit_ops.specs.declared.types.KitType.{KitType}
use Rattle.kit.specs.Meaning.{kit, is_module}
use Rattle.kit_views.specs.Reading.{Reading, kit_contents, kit_reading}
use Rattle.kit_views.specs.FlatView.{IsSameness, AreFlatBlocks, names_in, FlattensTo}
use Rattle.kit_views.specs.Laws.{IsMergedFlat}
use Rattle.kit_views.proofs.Definers.{heads_are}
use Rattle.kit_views.proofs.Lists.{Distinct, to_distinct, from_distinct, Sub, sub_distinct}
use Rattle.kit_views.proofs.Read.{Reads, kit_reads}
use Rattle.kit_views.proofs.Standing.{whole, Given, root_spot, one_operation, one_maker, one_block, not_both}
use Rattle.kit_views.proofs.FlatRemoval.{given_of}
use Rattle.kit_views.proofs.JoinableBoth.{nothing_behind}
use Rattle.kit_views.proofs.ChainedTree.{all_stand, JoinedFrom, no_more, later, head, joined_region}
use Rattle.kit_views.proofs.GivenBoth.{stands_for, gone, later_there, later_back, are_apart}
use Rattle.kit_views.proofs.JoinedNames.{all_in, OfBlock, InChainOf, joined_names}
use Rattle.kit_views.proofs.JoinedOps.{names_replaced, kept_names, all_chained, blocks_joined}

-- 1. names and values of a tree, as what its operations and blocks have

module _ {N : Names} {S : Contents} where
  abbrev own_name : Head N S → List N.operation
  own_name o = o.name ∷ []

  abbrev no_name : Label N S → List N.operation
  no_name l = []

  abbrev own_results : Head N S → List N.value
  own_results o = names_of o.results

  abbrev own_arguments : Label N S → List N.value
  own_arguments l = names_of l.arguments

  -- other operands change nothing of either
  names_all : (s : N.value → N.value) {q : Sort} (t : Tree N S q) →
      map (λ (z : Head N S). z.name) (heads_in (use_instead s t)) ≡ all_in own_name no_name t
  names_all s end = refl
  names_all s (operation o rs rest) =
      ap (λ l. o.name ∷ l) (map-append (λ (z : Head N S). z.name) (heads_in (use_instead s rs))
      (heads_in (use_instead s rest)) ∙ (λ i. names_all s rs i ++ names_all s rest i))
  names_all s (block l os rest) = map-append (λ (z : Head N S). z.name) (heads_in (use_instead s os))
      (heads_in (use_instead s rest)) ∙ (λ i. names_all s os i ++ names_all s rest i)
  names_all s (region bs rest) = map-append (λ (z : Head N S). z.name) (heads_in (use_instead s bs))
      (heads_in (use_instead s rest)) ∙ (λ i. names_all s bs i ++ names_all s rest i)

  names_were : {q : Sort} (t : Tree N S q) → map (λ (z : Head N S). z.name) (heads_in t) ≡ all_in own_name no_name t
  names_were end = refl
  names_were (operation o rs rest) = ap (λ l. o.name ∷ l)
      (map-append (λ (z : Head N S). z.name) (heads_in rs) (heads_in rest)
      ∙ (λ i. names_were rs i ++ names_were rest i))
  names_were (block l os rest) = map-append (λ (z : Head N S). z.name) (heads_in os) (heads_in rest)
      ∙ (λ i. names_were os i ++ names_were rest i)
  names_were (region bs rest) = map-append (λ (z : Head N S). z.name) (heads_in bs) (heads_in rest)
      ∙ (λ i. names_were bs i ++ names_were rest i)

  values_all : (s : N.value → N.value) {q : Sort} (t : Tree N S q) →
      defined_in (use_instead s t) ≡ all_in own_results own_arguments t
  values_all s end = refl
  values_all s (operation o rs rest) = λ i. names_of o.results ++ (values_all s rs i ++ values_all s rest i)
  values_all s (block l os rest) = λ i. names_of l.arguments ++ (values_all s os i ++ values_all s rest i)
  values_all s (region bs rest) = λ i. values_all s bs i ++ values_all s rest i

  values_were : {q : Sort} (t : Tree N S q) → defined_in t ≡ all_in own_results own_arguments t
  values_were end = refl
  values_were (operation o rs rest) = λ i. names_of o.results ++ (values_were rs i ++ values_were rest i)
  values_were (block l os rest) = λ i. names_of l.arguments ++ (values_were os i ++ values_were rest i)
  values_were (region bs rest) = λ i. values_were bs i ++ values_were rest i

the_one : {X : Type 0} (x y : X) → Has x (y ∷ []) → x ≡ y
the_one x y h = ⊎_elim (λ e. e) (λ k. absurd k) h

-- 2. the tree whose chains are joined

module _ {N : Names} {S : Contents} {A : Type 0} (d : Dialect S A) (r : Reading S) (law : Reads d r) (h : Head N S)
    (bs : Tree N S Blocks) (f : Fun N.value) (given : Given r h bs f) (ssa : d.is_ssa h.content 0 ≡ true)
    (good_ends : (b : ℕ) → b < length f → EndsWell (left_in (Some f) b 0))
    (all_reached : (b : ℕ) → b < length f → Reached (Some f) b) (same : N.value → N.value → Bool)
    (sameness : IsSameness same) where
  abbrev j : ℕ → Bool
  j = (taken_exists (Some f)).0

  is_taken : IsJoinedSet (Some f) j
  is_taken = (taken_exists (Some f)).1

  abbrev T : Root N S
  T = whole r h bs f

  abbrev JoinedBs : ℕ → Tree N S Blocks → Tree N S Blocks → Type 0
  JoinedBs = JoinedFrom d r law h bs f given ssa good_ends all_reached j

  blocks_sub : (i : ℕ) (ts more : Tree N S Blocks) → JoinedBs i ts more → Sub (names_in more) (names_in ts)
  blocks_sub _ _ _ (no_more i) = refl
  blocks_sub _ _ _ (later i l os rest more q x) = inl (blocks_sub (suc i) rest more x)
  blocks_sub _ _ _ (head i l os all rest more q c x) = inr (names_in more, refl, blocks_sub (suc i) rest more x)

  names_before : Distinct (h.name ∷ all_in own_name no_name bs)
  names_before =
      subst Distinct (ap (λ l. h.name ∷ l) (names_were (region bs end) ∙ nothing_behind (all_in own_name no_name bs)))
      (to_distinct (h.name ∷ map (λ (z : Head N S). z.name) (heads_in (region bs end))) given.operations)

  values_before : Distinct (all_in own_results own_arguments bs)
  values_before =
      subst Distinct (values_were (region bs end) ∙ nothing_behind (all_in own_results own_arguments bs))
      (to_distinct (defined_in (region bs end)) given.values)

  named_once : (o p : Occurrence N S) (x : N.operation) → Has o (occurrences_of T) → Has p (occurrences_of T) →
      Has x (own_name o.head) → Has x (own_name p.head) → o ≡ p
  named_once o p x i k a b = one_operation r h bs f given o p i k
      (sym (the_one x o.head.name a) ∙ the_one x p.head.name b)

  -- the root's name is no name of an operation
  root_apart : (o : Occurrence N S) → Has o (occurrences_of T) → h.name ≡ o.head.name → ⊥
  root_apart o i e =
      names_before.0
      (subst (Has h.name) (names_were bs)
      (subst (λ l. Has h.name (map (λ (z : Head N S). z.name) l)) (nothing_behind (heads_in bs))
      (subst (λ l. Has h.name (map (λ (z : Head N S). z.name) l)) (heads_are (region bs end) (root_spot r h bs f given))
      (subst (Has h.name) (sym (map-map (λ (z : Head N S). z.name) (λ (z : Occurrence N S). z.head) (occurrences_of T)))
      (subst (λ x. Has x (map (λ (z : Occurrence N S). z.head.name) (occurrences_of T))) (sym e)
      (has-map (λ (z : Occurrence N S). z.head.name) o (occurrences_of T) i))))))

  module _ (more : Tree N S Blocks) (joined : JoinedBs 0 bs more) where
    names_after : Distinct (h.name ∷ all_in own_name no_name more)
    names_after =
        let q = joined_names own_name no_name d r law h bs f given ssa good_ends all_reached j is_taken names_before.1
        named_once (λ y z x i k a b. absurd a) (λ o y x i k a b. absurd b) 0 bs more joined
        (all_stand d r law h bs f given ssa good_ends all_reached) in
        (λ w. by_source (q.of h.name w).b (q.of h.name w).of, q.distinct)
      where
        by_source : (b : ℕ) → InChainOf own_name no_name d r law h bs f given ssa good_ends all_reached j is_taken
            names_before.1 named_once (λ y z x i k a b. absurd a)
            (λ o y x i k a b. absurd b) b 0 h.name ⊎ OfBlock own_name no_name d r law h bs f given ssa good_ends
            all_reached j is_taken names_before.1 named_once (λ y z x i k a b. absurd a)
            (λ o y x i k a b. absurd b) b h.name → ⊥
        by_source b w = ⊎_elim (λ p. root_apart p.of.it p.of.stands (the_one h.name p.of.it.head.name p.of.has))
            (λ p. absurd p.has) w

    values_after : Distinct (all_in own_results own_arguments more)
    values_after =
        (joined_names own_results own_arguments d r law h bs f given ssa good_ends all_reached j is_taken values_before
        (λ o p x i k a b. one_maker r h bs f given o p x i k a b)
        (λ y z x i k a b. one_block r h bs f given y z x i k a b)
        (λ o y x i k a b. not_both r h bs f given o y x i k a b) 0 bs more joined
        (all_stand d r law h bs f given ssa good_ends all_reached)).distinct

    module _ (s : N.value → N.value) where
      abbrev G : N.value → Bool
      G = gone same sameness j f

      there : (v : N.value) → G v ≡ true → IsLaterArgument j (Some f) v
      there v e = later_there same sameness j f v e

      back : (v : N.value) → IsLaterArgument j (Some f) v → G v ≡ true
      back v w = later_back same sameness j f v w

      long : (b n : ℕ) → Depth (Some f) j b n → n ≤ length f
      long b n x = depth_few (Some f) j is_taken b n x

      abbrev others : List N.block
      others = names_in (use_instead s more)

      abbrev stays : ℕ → Bool
      stays b = not (j b)

      abbrev new_number : ℕ → ℕ
      new_number = between stays 0

      stand : (t : ℕ) → stays t ≡ true → slice_get others (new_number t) ≡ slice_get (names_in bs) t
      stand t e =
          let z : 0 + t ≡ t = omega arith in
          ap (λ l. slice_get l (new_number t)) (names_replaced s more)
          ∙ kept_names d r law h bs f given ssa good_ends all_reached
          (are_apart r h bs f given) j is_taken G there back s (length f) long 0 bs more joined t (ap stays z ∙ e)

      abbrev chained : List (Block N.value)
      chained = all_chained d r law h bs f given ssa good_ends all_reached
          (are_apart r h bs f given) j is_taken G there back s (length f) long others stand f

      abbrev rest : Fun N.value
      rest = keep_blocks stays new_number 0 chained

      are : AreFlatBlocks r others (use_instead s more) rest
      are =
          blocks_joined d r law h bs f given ssa good_ends all_reached
          (are_apart r h bs f given) j is_taken G there back s (length f) long others stand 0 bs more joined
          (all_stand d r law h bs f given ssa good_ends all_reached) f given.are
          (λ m k e. let z : 0 + m ≡ m = omega arith in ap (slice_get f) z ∙ e)

      flat : FlattensTo r (record { head = use_head s h; regions = use_instead s (region more end) }) rest
      flat = record {
        view = record {
          function = given.function;
          no_operands = ap (map s) given.no_operands;
          blocks = use_instead s more;
          region = refl;
          are = are;
        };
        operations =
            from_distinct (h.name ∷ map (λ (z : Head N S). z.name) (heads_in (use_instead s (region more end))))
            (subst Distinct (ap (λ l. h.name ∷ l) (sym (names_all s (region more end)
            ∙ nothing_behind (all_in own_name no_name more)))) names_after);
        blocks =
            from_distinct others (subst Distinct (sym (names_replaced s more))
            (sub_distinct (names_in more) (names_in bs) (blocks_sub 0 bs more joined)
            (to_distinct (names_in bs) given.blocks)));
        values =
            from_distinct (defined_in (use_instead s (region more end)))
            (subst Distinct (sym (values_all s (region more end)
            ∙ nothing_behind (all_in own_results own_arguments more))) values_after);
        edges = merged_fits (Some f) (are_apart r h bs f given) j is_taken G there back s good_ends given.edges
            (length f) long;
      }

      is_merged : Some rest ≡ merged j G s (length f) (Some f)
      is_merged = refl

  pub joined_flat : (after : Root N S) → IsJoined d (all_of T) T after → IsMergedFlat r f after
  joined_flat after w =
      let m = joined_region d r law h bs f given ssa good_ends all_reached j is_taken w.regions w.joins in
      let e : after ≡ record { head = use_head w.names h; regions = use_instead w.names (region m.0 end) } =
      w.is ∙ ap (λ z. record { head = use_head w.names h; regions = use_instead w.names z }) m.1 in
      record {
        rest = rest m.0 m.2 w.names;
        merges = record {
          later = j;
          is_later = is_taken;
          gone = G m.0 m.2 w.names;
          is_gone = λ v. (there m.0 m.2 w.names v, back m.0 m.2 w.names v);
          names = w.names;
          follows = λ v. stands_for d r law h bs f given ssa good_ends all_reached j is_taken v (w.names v)
              (w.follows v);
          most = length f;
          long = long m.0 m.2 w.names;
          is = is_merged m.0 m.2 w.names;
        };
        is_view = subst (λ z. FlattensTo r z (rest m.0 m.2 w.names)) (sym e) (flat m.0 m.2 w.names);
      }

pub chains_merged : {N : Names} (same : N.value → N.value → Bool) (leads : TypeHandle → Option KitType)
    (numbered : List ℕ → ℕ) (t after : Root N kit_contents) (f : Fun N.value) → IsSameness same →
    FlattensTo (kit_reading leads numbered) t f → ((b : ℕ) → b < length f → EndsWell (left_in (Some f) b 0)) →
    ((b : ℕ) → b < length f → Reached (Some f) b) → IsJoined kit (all_of t) t after →
    IsMergedFlat (kit_reading leads numbered) f after
chains_merged {N} same leads numbered t after f sameness is_flat good_ends all_reached joined =
    let r : Reading kit_contents = kit_reading leads numbered in
    let bs : Tree N kit_contents Blocks = is_flat.view.blocks in
    let given : Given r t.head bs f = given_of r t f is_flat in
    let e : t ≡ whole r t.head bs f = λ i. record { head = t.head; regions = is_flat.view.region i } in
    let ssa : kit.is_ssa t.head.content 0 ≡ true = ap (λ k. not (is_module k)) given.function in
    let is : IsJoined kit (all_of (whole r t.head bs f)) (whole r t.head bs f) after =
    subst (λ z. IsJoined kit (all_of z) z after) e joined in
    joined_flat kit r (kit_reads leads numbered) t.head bs f given ssa good_ends all_reached same sameness after is
