-- The tree of a function beside its flat view: where operations, blocks and definitions of values stand in both.
use Rattle.std.proofs.Common.{◌≡◌, ⊎_elim, ℕ, ◌+◌, ◌<◌, List, [], ◌++◌, map, length, Option, Some, None, refl, sym, ap, ◌∙◌, subst}
use Rattle.std.specs.Prelude.{slice_get, option_map}
use Rattle.ir_trees.specs.Names.{Names, Contents}
use Rattle.ir_trees.specs.Renames.{names_of}
use Rattle.ir_trees.specs.Searched.{AreDistinct, operation_names}
use Rattle.ir_trees.specs.Trees.{Head, Blocks, Tree, end, region, Root}
use Rattle.opt_trees.specs.Dialect.{Dialect}
use Rattle.opt_trees.specs.Dce.{ForwardsTo}
use Rattle.opt_trees.specs.Occurrences.{Has, Occurrence, BlockOccurrence, Spot, at_root, occurrences_in, block_occurrences_in, occurrences_of, block_occurrences_of, defined_in}
use Rattle.opt_trees.proofs.Lists.{some_same, none_some, map-map, at-map}
use Rattle.opt_trees.proofs.NoneDead.{has-append, has-left}
use Rattle.kit_behaviour.specs.Machine.{Edge, Op, Block, Fun, left_in, arguments_of, arguments_in}
use Rattle.kit_behaviour.specs.Rules.{AllEdgesFit}
use Rattle.kit_ops.specs.declared.kinds.KitOp.TheVariants as ops
use Rattle.kit_views.specs.Reading.{Reading}
use Rattle.kit_views.specs.FlatView.{AreFlatBlocks, names_in}
use Rattle.kit_views.proofs.Lists.{Distinct, to_distinct, one_named, one_source, gathered}
use Rattle.kit_views.proofs.Definers.{Definer, ByOp, ByBlock, makes, definers, all_made, op_definer, block_definer, heads_are}
use Rattle.kit_views.proofs.Pairs.{Pair, pairs, Back, backs, BlockPair, block_pairs, BlockBack, block_backs}
use Rattle.kit_views.proofs.Forwarded.{start, IsForwarding, range_get, range_at, get_below}

pub strip : {X : Type 0} (x : X) (xs : List X) → Has x (xs ++ []) → Has x xs
strip x xs h = ⊎_elim (λ i. i) (λ i. absurd i) (has-append x xs [] h)

module _ {N : Names} {S : Contents} (r : Reading S) (h : Head N S) (bs : Tree N S Blocks) (f : Fun N.value) where
  -- the function of one region
  abbrev pub whole : Root N S
  whole = record { head = h; regions = region bs end }

  pub record Given : Type 0 where
    pub function : r.kind h.content ≡ ops.Func
    pub no_operands : h.operands ≡ []
    pub are : AreFlatBlocks r (names_in bs) bs f
    pub operations : AreDistinct (operation_names whole)
    pub blocks : AreDistinct (names_in bs)
    pub values : AreDistinct (defined_in (region bs end))
    pub edges : (b : ℕ) → AllEdgesFit (Some f) (left_in (Some f) b 0)

  module _ (given : Given) where
    abbrev pub root_spot : Spot N S
    root_spot = at_root whole

    pub pair : (o : Occurrence N S) → Has o (occurrences_of whole) → Pair r (names_in bs) root_spot (names_in bs) o f
    pair o i = pairs r (names_in bs) bs f root_spot given.are o (strip o (occurrences_in bs root_spot) i)

    pub back : (b : ℕ) (k : Block N.value) (p : Op N.value) → slice_get f b ≡ Some k → Has p k.ops → Back r (names_in bs) root_spot (names_in bs) b (occurrences_of whole) p
    back b k p e i =
        let q = backs r (names_in bs) bs f root_spot given.are b k p e i in
        record { it = q.it; stands = has-left q.it (occurrences_in bs root_spot) [] q.stands; name = q.name; is = q.is; around = q.around; regions = q.regions }

    pub block_pair : (x : BlockOccurrence N S) → Has x (block_occurrences_of whole) → BlockPair r (names_in bs) root_spot (names_in bs) x f
    block_pair x i = block_pairs r (names_in bs) bs f root_spot given.are x (strip x (block_occurrences_in bs root_spot) i)

    pub block_back : (b : ℕ) (k : Block N.value) → slice_get f b ≡ Some k → BlockBack r (names_in bs) root_spot (names_in bs) (block_occurrences_of whole) b k
    block_back b k e =
        let q = block_backs r (names_in bs) bs f root_spot given.are b k e in
        record { it = q.it; stands = has-left q.it (block_occurrences_in bs root_spot) [] q.stands; same = q.same }

    -- operations of one name
    pub one_operation : (o p : Occurrence N S) → Has o (occurrences_of whole) → Has p (occurrences_of whole) → o.head.name ≡ p.head.name → o ≡ p
    one_operation o p i j e =
        one_named (λ (z : Occurrence N S). z.head.name) (occurrences_of whole) o p
        (subst Distinct (sym (ap (map (λ (z : Head N S). z.name)) (heads_are (region bs end) root_spot)) ∙ map-map (λ (z : Head N S). z.name) (λ (z : Occurrence N S). z.head) (occurrences_of whole)) (to_distinct (operation_names whole) given.operations).1) i j e

    distinct_definers : Distinct (gathered makes (definers (region bs end) root_spot))
    distinct_definers = subst Distinct (sym (all_made (region bs end) root_spot)) (to_distinct (defined_in (region bs end)) given.values)

    -- definers of one value
    pub one_definer : (x y : Definer N S) (v : N.value) → Has x (definers (region bs end) root_spot) → Has y (definers (region bs end) root_spot) → Has v (makes x) → Has v (makes y) → x ≡ y
    one_definer x y v i j a b = one_source makes (definers (region bs end) root_spot) x y v distinct_definers i j a b

    by_op : (o p : Occurrence N S) → ByOp o ≡ ByOp p → o ≡ p
    by_op o p e = cc e

    by_block : (o p : BlockOccurrence N S) → ByBlock o ≡ ByBlock p → o ≡ p
    by_block o p e = cc e

    pub one_maker : (o p : Occurrence N S) (v : N.value) → Has o (occurrences_of whole) → Has p (occurrences_of whole) → Has v (names_of o.head.results) → Has v (names_of p.head.results) → o ≡ p
    one_maker o p v i j a b = by_op o p (one_definer (ByOp o) (ByOp p) v (op_definer (region bs end) root_spot o i) (op_definer (region bs end) root_spot p j) a b)

    pub one_block : (x y : BlockOccurrence N S) (v : N.value) → Has x (block_occurrences_of whole) → Has y (block_occurrences_of whole) → Has v (names_of x.label.arguments) → Has v (names_of y.label.arguments) → x ≡ y
    one_block x y v i j a b = by_block x y (one_definer (ByBlock x) (ByBlock y) v (block_definer (region bs end) root_spot x i) (block_definer (region bs end) root_spot y j) a b)

    pub not_both : (o : Occurrence N S) (y : BlockOccurrence N S) (v : N.value) → Has o (occurrences_of whole) → Has y (block_occurrences_of whole) → Has v (names_of o.head.results) → Has v (names_of y.label.arguments) → ⊥
    not_both o y v i j a b = let e = one_definer (ByOp o) (ByBlock y) v (op_definer (region bs end) root_spot o i) (block_definer (region bs end) root_spot y j) a b in absurd (cc e)

    -- a block of the flat function has the arguments of the block of the tree with its name
    pub arguments_are : (x : BlockOccurrence N S) → Has x (block_occurrences_of whole) → (n : ℕ) → slice_get (names_in bs) n ≡ Some x.label.name → names_of x.label.arguments ≡ arguments_in (Some f) n
    arguments_are x i n e =
        let q = block_pair x i in
        q.same.arguments ∙ ap arguments_of (sym q.at) ∙ ap (λ b. arguments_in (Some f) b) (given.blocks q.place n x.label.name q.same.name e)

    pub record Held (n : ℕ) (v : N.value) : Type 0 where
      pub it : BlockOccurrence N S
      pub stands : Has it (block_occurrences_of whole)
      pub name : slice_get (names_in bs) n ≡ Some it.label.name
      pub arguments : names_of it.label.arguments ≡ arguments_in (Some f) n

    -- a block of the flat function that has arguments is one of the tree
    pub held : (n p : ℕ) (v : N.value) → slice_get (arguments_in (Some f) n) p ≡ Some v → Held n v
    held n p v e = by_block_at (slice_get f n) refl e
      where
        by_block_at : (o : Option (Block N.value)) → slice_get f n ≡ o → slice_get (arguments_of o) p ≡ Some v → Held n v
        by_block_at None g k = absurd (none_some v k)
        by_block_at (Some k) g _ = let q = block_back n k g in record { it = q.it; stands = q.stands; name = q.same.name; arguments = q.same.arguments ∙ ap arguments_of (sym g) }

-- edges of a branch, and its successors
pub record LeadsBy {V B : Type 0} (names bs : List B) (es : List (Edge V)) (j : ℕ) (e : Edge V) : Type 0 where
  pub b : B
  pub successor : slice_get bs j ≡ Some b
  pub name : slice_get names e.target ≡ Some b

pub record EdgeBy {V B : Type 0} (names : List B) (es : List (Edge V)) (j : ℕ) (b : B) : Type 0 where
  pub e : Edge V
  pub at : slice_get es j ≡ Some e
  pub name : slice_get names e.target ≡ Some b

abbrev pub target_in : {V B : Type 0} → List B → Edge V → Option B
target_in names e = slice_get names e.target

pub leads_by : {V B : Type 0} (names : List B) (bs : List B) (es : List (Edge V)) → map Some bs ≡ map (target_in names) es → (j : ℕ) (e : Edge V) → slice_get es j ≡ Some e → LeadsBy names bs es j e
leads_by {V} {B} names bs es q j e i = step (slice_get bs j) refl (sym (at-map Some bs j) ∙ ap (λ z. slice_get z j) q ∙ at-map (target_in names) es j ∙ ap (option_map (target_in names)) i)
  where
    step : (o : Option B) → slice_get bs j ≡ o → option_map Some o ≡ Some (target_in names e) → LeadsBy names bs es j e
    step None s k = absurd (none_some (target_in names e) k)
    step (Some b) s k = record { b = b; successor = s; name = sym (some_same (Some b) (target_in names e) k) }

pub edge_by : {V B : Type 0} (names : List B) (bs : List B) (es : List (Edge V)) → map Some bs ≡ map (target_in names) es → (j : ℕ) (b : B) → slice_get bs j ≡ Some b → EdgeBy names es j b
edge_by {V} {B} names bs es q j b i = step (slice_get es j) refl (sym (at-map (target_in names) es j) ∙ ap (λ z. slice_get z j) (sym q) ∙ at-map Some bs j ∙ ap (option_map Some) i)
  where
    step : (o : Option (Edge V)) → slice_get es j ≡ o → option_map (target_in names) o ≡ Some (Some b) → EdgeBy names es j b
    step None s k = absurd (none_some (Some b) k)
    step (Some e) s k = record { e = e; at = s; name = some_same (target_in names e) (Some b) k }

module _ {N : Names} {S : Contents} {A : Type 0} (d : Dialect S A) (r : Reading S) (h : Head N S) (bs : Tree N S Blocks) (f : Fun N.value) (given : Given r h bs f) where
  module _ (o : Occurrence N S) (xs : List N.value) (es : List (Edge N.value)) (w : IsForwarding d (names_in bs) o.head xs es) where
    -- what an edge forwards to an argument of its target is forwarded in the tree
    pub to_tree : (j : ℕ) (e : Edge N.value) (p i : ℕ) (v a : N.value) → slice_get es j ≡ Some e → slice_get e.forwards p ≡ Some v → i ≡ start es (length xs) j + p → slice_get (arguments_in (Some f) e.target) p ≡ Some a → ForwardsTo d (whole r h bs f) o i a
    to_tree j e p i v a at is index takes =
        let q = held r h bs f given e.target p a takes in
        let l = leads_by (names_in bs) o.head.successors es w.successors j e at in
        record {
          branch = w.branch;
          edge = j;
          target = q.it;
          stands = q.stands;
          leads = l.successor ∙ (sym l.name ∙ q.name);
          place = p;
          gives = ap (λ z. slice_get z p) (w.forwards j e at) ∙ range_at (start es (length xs) j) (length e.forwards) p (get_below e.forwards p v is) ∙ ap Some (sym index);
          takes = ap (λ z. slice_get z p) q.arguments ∙ takes;
        }

    pub record Flatly (i : ℕ) (a : N.value) : Type 0 where
      pub edge : ℕ
      pub e : Edge N.value
      pub at : slice_get es edge ≡ Some e
      pub place : ℕ
      pub below : place < length e.forwards
      pub index : i ≡ start es (length xs) edge + place
      pub takes : slice_get (arguments_in (Some f) e.target) place ≡ Some a

    -- and what is forwarded in the tree is forwarded by an edge
    pub to_flat : (i : ℕ) (a : N.value) → ForwardsTo d (whole r h bs f) o i a → Flatly i a
    to_flat i a g =
        let l = edge_by (names_in bs) o.head.successors es w.successors g.edge g.target.label.name g.leads in
        let m = range_get (start es (length xs) g.edge) (length l.e.forwards) g.place i (ap (λ z. slice_get z g.place) (sym (w.forwards g.edge l.e l.at)) ∙ g.gives) in
        record {
          edge = g.edge;
          e = l.e;
          at = l.at;
          place = g.place;
          below = m.1;
          index = m.0;
          takes = ap (λ z. slice_get z g.place) (sym (arguments_are r h bs f given g.target g.stands l.e.target l.name)) ∙ g.takes;
        }
