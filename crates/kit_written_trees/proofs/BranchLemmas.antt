-- Branches that can be written: what is said of their edges, what is said where operands have gone, and what is said of the
-- edge that is taken where a branch is decided.
use Rattle.std.proofs.Common.{◌≡◌, ◌∙◌, ◌⊎◌, inl, inr, ⊎_elim, ℕ, zero, suc, ◌+◌, ◌<◌, ◌==◌, Bool, true, false}
use Rattle.std.proofs.Common.{List, [], ◌∷◌, length, Option, Some, None, option_and_then, option_map, slice_get, refl, sym, ap, subst, arith}
use Rattle.std.specs.Prelude.{if◌then◌else◌}
use Rattle.std.specs.Str.{bytes_eq}
use Rattle.std.proofs.lemmas.Bool.{eq-eqb}
use Rattle.ir_base.specs.declared.types.TypeHandle.{TypeHandle}
use Rattle.ir_names.specs.Dictionary.{attribute_at, with_attribute}
use Rattle.ir_names.specs.Tree.{Trees, node, no_tree, a_tree}
use Rattle.ir_names.specs.declared.interfaces.OpInterface.TheVariants as op
use Rattle.ir_forest.specs.Closed.{regions_said}
use Rattle.ir_print.specs.Pieces.{operands, successor, ValueTree}
use Rattle.ir_print.specs.Shown.{Said, said_operands, said_successor, alone, Pairs, ShowsAll, ShowsType, successors_said}
use Rattle.ir_trees.specs.Names.{Names}
use Rattle.ir_trees.specs.Trees.{Head, Regions, Tree}
use Rattle.kit.specs.Forms.{OpForm, Edge, ConditionEdges, form_of, number_of}
use Rattle.kit.specs.Meaning.{Entries, changed_to, changed_at, dropped_of, without_operands, kit}
use Rattle.kit.specs.Readable.{is_numbered, only_if, condition_says}
use Rattle.kit.specs.Says.{says, values, one, only, condition_said, said_in, said_of_condition, said_of_operation, said_of_sizes}
use Rattle.kit.specs.Seen.{one_seen, three_seen}
use Rattle.kit_checks.specs.Words.{sizes_in}
use Rattle.kit_ops.specs.Keys.{segment_sizes}
use Rattle.kit_ops.specs.Table.{has_interface}
use Rattle.kit_ops.specs.declared.attributes.IntegerAttr.{IntegerAttr}
use Rattle.kit_ops.specs.declared.attributes.KitAttr.{KitAttr}
use Rattle.kit_ops.specs.declared.attributes.KitAttr.TheVariants as attrs
use Rattle.kit_ops.specs.declared.kinds.KitOp.{KitOp}
use Rattle.kit_ops.specs.declared.kinds.KitOp.TheVariants as ops
use Rattle.kit_ops.specs.declared.types.KitType.{KitType}
use Rattle.kit_pass_rules.proofs.Segments.{from}
use Rattle.kit_views.proofs.Dropped.{drop_none}
use Rattle.kit_views.specs.Reading.{kit_contents}
use Rattle.kit_written_trees.proofs.EdgeLemmas.{sizes_of, IsConditionalBranch, Conditional, conditional, sizes_add_up}
use Rattle.kit_written_trees.proofs.EdgeLemmas.{conditional_left, LosesAtBranches, BranchesTo, IsDecided, stays, takes_first}
use Rattle.kit_written_trees.proofs.EdgeLemmas.{takes_second, conditional_decided, other_decided, plain_decided}
use Rattle.kit_written_trees.proofs.HeadLemmas.{head_like}
use Rattle.kit_writable_trees.specs.Writable.{types_in, IsWritableHead}
use Rattle.opt_trees.specs.Dce.{Gone, thin_head}
use Rattle.opt_trees.specs.Dialect.{drop}
use Rattle.opt_trees.specs.Occurrences.{cons_if}
use Rattle.opt_trees.specs.Simplify.{decide_head}
use Rattle.opt_trees.proofs.Lists.{some_same, none_some}

-- an operation is an unconditional branch, a conditional one, or none
branch_or_not : (k : KitOp) → (k ≡ ops.Br) ⊎ ((k ≡ ops.CondBr) ⊎ (has_interface k op.Branch ≡ false))
branch_or_not ops.Br = inl refl
branch_or_not ops.CondBr = inr (inl refl)
branch_or_not ops.Module = inr (inr refl)
branch_or_not ops.Func = inr (inr refl)
branch_or_not ops.Constant = inr (inr refl)
branch_or_not (ops.Arithmetic a) = inr (inr refl)
branch_or_not (ops.Comparison c) = inr (inr refl)
branch_or_not ops.Emit = inr (inr refl)
branch_or_not ops.Return = inr (inr refl)
branch_or_not ops.ForwardRef = inr (inr refl)
branch_or_not ops.Call = inr (inr refl)

-- what is no branch has the attributes that it had, without operands
other_kept : (k : KitOp) (p : ℕ → Bool) (es : Entries) → has_interface k op.Branch ≡ false → dropped_of k p es ≡ es
other_kept ops.CondBr p es e = cc
other_kept k p es e = refl

-- an attribute in the place of another leaves as many
put_count : (es : Entries) (key : List ℕ) (a b : KitAttr) → attribute_at es key ≡ Some a →
    length (with_attribute es key b) ≡ length es
put_count [] key a b e = absurd (none_some a e)
put_count (x ∷ es) key a b e = step (bytes_eq key x.0) e (put_count es key a b)
  where
    step : (y : Bool) → (if y then Some x.1 else attribute_at es key) ≡ Some a →
        (attribute_at es key ≡ Some a → length (with_attribute es key b) ≡ length es) →
        length (if y then (x.0, b) ∷ es else x ∷ with_attribute es key b) ≡ length (x ∷ es)
    step true e rest = refl
    step false e rest = ap suc (rest e)

changed_count : (es : Entries) (key : List ℕ) (f : KitAttr → KitAttr) → length (changed_at es key f) ≡ length es
changed_count es key f = by_case (attribute_at es key) refl
  where
    by_case : (o : Option KitAttr) → attribute_at es key ≡ o → length (changed_to es key f o) ≡ length es
    by_case None e = refl
    by_case (Some a) e = put_count es key a (f a) e

-- what is said of segments with these sizes
condition_is : (o : Option KitAttr) (xs : List ℕ) (n : ℕ) → option_and_then sizes_in o ≡ Some xs →
    said_of_condition o n ≡ said_of_sizes xs n
condition_is (Some (attrs.SegmentSizes v)) xs n e = ap (λ ys. said_of_sizes ys n) (some_same v.items xs e)
condition_is (Some other) xs n e = absurd (none_some xs e)
condition_is None xs n e = absurd (none_some xs e)

-- one target is left of an edge
target_count : {X : Type 0} (xs : List X) (i : ℕ) → i < length xs → length (cons_if (slice_get xs i) []) ≡ 1
target_count [] i less = absurd (omega (arith, less))
target_count (x ∷ xs) zero less = refl
target_count (x ∷ xs) (suc i) less = target_count xs i (omega (arith, less))

no_types : (types : List KitType) (tys : List TypeHandle) (shapes : List ValueTree) →
    Pairs (ShowsType says types) tys shapes → shapes ≡ [] → tys ≡ []
no_types types [] shapes h e = refl
no_types types (ty ∷ tys) [] h e = absurd h
no_types types (ty ∷ tys) (shape ∷ shapes) h e = cc

-- ---- what is known of a branch that can be written

module _ {N : Names} (types : List KitType) (d n : ℕ) (h : Head N kit_contents) (w : IsWritableHead types d n h) where
  abbrev entries : Entries
  entries = h.content.notes.attributes

  -- it says what its form says, with the number of its kind
  says_form : (form : OpForm) (number : ℕ) → form_of h.content.kind ≡ Some form →
      number_of h.content.kind ≡ Some number →
      (said_in form entries (length h.operands) (types_in h.results) ≡ Some w.said) × (w.kind ≡ number)
  says_form form number f k =
      let said = is_numbered (form_of h.content.kind) (number_of h.content.kind)
      (λ x. said_in x entries (length h.operands) (types_in h.results)) w.kind w.said w.says_it in
      let same : form ≡ said.0 = some_same form said.0 (sym f ∙ said.1) in (
        ap (λ x. said_in x entries (length h.operands) (types_in h.results)) same ∙ said.3,
        some_same w.kind number (sym said.2 ∙ k),
      )

  -- where no result is read of its pieces, it has none
  gives_none : (number : ℕ) → w.kind ≡ number → values.result_types number w.pieces ≡ [] → types_in h.results ≡ []
  gives_none number k none = no_types types (types_in h.results) w.shapes w.typed
      (w.read ∙ (ap (λ i. values.result_types i w.pieces) k ∙ none))

  pub record PlainFacts : Type 0 where
    pub no_attributes : (length entries == 0) ≡ true
    pub no_results : types_in h.results ≡ []
    pub no_regions : n ≡ 0
    pub one_edge : length h.successors ≡ 1

  pub plain_facts : h.content.kind ≡ ops.Br → PlainFacts
  plain_facts kind =
      let count = length h.operands in
      let edge : Trees (Said KitAttr) = one (alone (said_successor count)) in
      let says_it = says_form Edge 7 (ap form_of kind) (ap number_of kind) in
      let said = only_if (length entries == 0) (Some edge) w.said says_it.0 in
      let shown : ShowsAll says types edge w.pieces =
      subst (λ (us : Trees (Said KitAttr)). ShowsAll says types us w.pieces) (sym (some_same edge w.said said.1)) w.shown in
      let piece = one_seen says types (alone (said_successor count)) w.pieces shown in
      let is : w.pieces ≡ a_tree (node (successor count) piece.2.0) no_tree =
      piece.1 ∙ ap (λ (t : ValueTree). a_tree t no_tree) piece.2.1 in
      record {
        no_attributes = said.0;
        no_results = gives_none 7 says_it.1 refl;
        no_regions = sym w.holds ∙ ap regions_said is;
        one_edge = sym w.counted ∙ ap successors_said is;
      }

  pub record ConditionFacts : Type 0 where
    pub first : ℕ
    pub second : ℕ
    pub one_attribute : (length entries == 1) ≡ true
    pub sizes : sizes_of h ≡ Some (1 ∷ first ∷ second ∷ [])
    pub adds_up : length h.operands ≡ 1 + first + second
    pub no_results : types_in h.results ≡ []
    pub no_regions : n ≡ 0
    pub two_edges : length h.successors ≡ 2

  pub condition_facts : h.content.kind ≡ ops.CondBr → ConditionFacts
  condition_facts kind =
      let count = length h.operands in
      let says_it = says_form ConditionEdges 8 (ap form_of kind) (ap number_of kind) in
      let said = only_if (length entries == 1) (said_of_condition (attribute_at entries segment_sizes) count) w.said
      says_it.0 in
      let condition = condition_says (attribute_at entries segment_sizes) count w.said said.1 in
      let sizes = condition.say in
      let a = sizes.first in
      let b = sizes.second in
      let total : 1 + (a + b) ≡ count = sizes.adds_up in
      let shown : ShowsAll says types (condition_said a b) w.pieces =
      subst (λ (us : Trees (Said KitAttr)). ShowsAll says types us w.pieces) (sym sizes.says_it) w.shown in
      let pieces = three_seen says types (alone (said_operands 1)) (alone (said_successor a)) (alone (said_successor b))
      w.pieces shown in
      let is : w.pieces ≡ a_tree (node (operands 1) pieces.4.0)
      (a_tree (node (successor a) pieces.5.0) (a_tree (node (successor b) pieces.6.0) no_tree)) =
      pieces.3
      ∙ (ap (λ (t : ValueTree). a_tree t (a_tree pieces.1 (a_tree pieces.2 no_tree))) pieces.4.1
      ∙ (ap (λ (t : ValueTree). a_tree (node (operands 1) pieces.4.0) (a_tree t (a_tree pieces.2 no_tree))) pieces.5.1
      ∙ ap (λ (t : ValueTree). a_tree (node (operands 1) pieces.4.0) (a_tree (node (successor a) pieces.5.0) (a_tree t no_tree)))
      pieces.6.1)) in
      record {
        first = a;
        second = b;
        one_attribute = said.0;
        sizes = ap (option_and_then sizes_in) condition.has_sizes ∙ ap Some sizes.are;
        adds_up = omega (arith, total);
        no_results = gives_none 8 says_it.1 refl;
        no_regions = sym w.holds ∙ ap regions_said is;
        two_edges = sym w.counted ∙ ap successors_said is;
      }

-- ---- branches that can be written

module _ {N : Names} (types : List KitType) (d : ℕ) (g : Head N kit_contents) where
  pub plain_writable : g.content.kind ≡ ops.Br → (length g.content.notes.attributes == 0) ≡ true →
      types_in g.results ≡ [] → length g.successors ≡ 1 → IsWritableHead types d 0 g
  plain_writable kind bare none edge =
      let count = length g.operands in
      let said : Trees (Said KitAttr) = one (alone (said_successor count)) in
      record {
        kind = 7;
        said = said;
        pieces = a_tree (node (successor count) no_tree) no_tree;
        shapes = [];
        says_it = ap (λ k. said_of_operation k g.content.notes.attributes count (types_in g.results)) kind
            ∙ ap (λ (b : Bool). option_map {U = ℕ × Trees (Said KitAttr)} (λ us. (7, us)) (only b (Some said))) bare;
        shown = (refl, tt);
        typed = subst (λ tys. Pairs (ShowsType says types) tys []) (sym none) tt;
        read = refl;
        holds = refl;
        flat = (tt, tt);
        bare = (refl, tt);
        counted = sym edge;
      }

  pub condition_writable : (a b : ℕ) → g.content.kind ≡ ops.CondBr → (length g.content.notes.attributes == 1) ≡ true →
      sizes_of g ≡ Some (1 ∷ a ∷ b ∷ []) → length g.operands ≡ 1 + a + b → types_in g.results ≡ [] →
      length g.successors ≡ 2 → IsWritableHead types d 0 g
  condition_writable a b kind alone sizes total none edges =
      let count = length g.operands in
      let es = g.content.notes.attributes in
      let adds_up : 1 + (a + b) ≡ count = omega (arith, total) in
      let test : said_of_sizes (1 ∷ a ∷ b ∷ []) count ≡ Some (condition_said a b) =
      ap (λ (t : Bool). only t (Some (condition_said a b))) (eq-eqb (1 + (a + b)) count adds_up) in
      record {
        kind = 8;
        said = condition_said a b;
        pieces = a_tree (node (operands 1) no_tree)
            (a_tree (node (successor a) no_tree) (a_tree (node (successor b) no_tree) no_tree));
        shapes = [];
        says_it = ap (λ k. said_of_operation k es count (types_in g.results)) kind
            ∙ (ap (λ (t : Bool). option_map {U = ℕ × Trees (Said KitAttr)} (λ us. (8, us))
            (only t (said_of_condition (attribute_at es segment_sizes) count))) alone
            ∙ ap (option_map {U = ℕ × Trees (Said KitAttr)} (λ us. (8, us)))
            (condition_is (attribute_at es segment_sizes) (1 ∷ a ∷ b ∷ []) count sizes ∙ test));
        shown = (refl, (refl, (refl, tt)));
        typed = subst (λ tys. Pairs (ShowsType says types) tys []) (sym none) tt;
        read = refl;
        holds = refl;
        flat = (tt, (tt, (tt, tt)));
        bare = (refl, (refl, (refl, tt)));
        counted = sym edges;
      }

-- ---- operands that go

-- without its operands that go an operation can be written
module _ {N : Names} (types : List KitType) (g : Gone N) (d n : ℕ) (h : Head N kit_contents) (lose : LosesAtBranches g h)
    (w : IsWritableHead types d n h) where
  abbrev left : Head N kit_contents
  left = thin_head kit g h

  abbrev attributes_left : KitOp → Entries
  attributes_left k = dropped_of k (g.operand h.name) h.content.notes.attributes

  plain_dropped : h.content.kind ≡ ops.Br → IsWritableHead types d n left
  plain_dropped kind =
      let facts = plain_facts types d n h w kind in
      subst (λ m. IsWritableHead types d m left) (sym facts.no_regions) (plain_writable types d left kind
      (ap (λ k. length (attributes_left k) == 0) kind ∙ facts.no_attributes) facts.no_results facts.one_edge)

  condition_dropped : h.content.kind ≡ ops.CondBr → IsWritableHead types d n left
  condition_dropped kind =
      let facts = condition_facts types d n h w kind in
      let c = conditional h facts.first facts.second kind facts.sizes facts.adds_up in
      let p = g.operand h.name in
      let fs = drop (from p 1) c.first in
      let ss = drop (from p (1 + length c.first)) c.second in
      let is : IsConditionalBranch left c.tested fs ss =
      conditional_left g h c.tested c.first c.second c.is (lose.condition kind) in
      subst (λ m. IsWritableHead types d m left) (sym facts.no_regions)
      (condition_writable types d left (length fs) (length ss) is.kind
      (ap (λ k. length (attributes_left k) == 1) kind
      ∙ (ap (λ m. m == 1) (changed_count h.content.notes.attributes segment_sizes (without_operands p))
      ∙ facts.one_attribute))
      is.sizes (sizes_add_up left c.tested fs ss is) facts.no_results facts.two_edges)

  other_dropped : has_interface h.content.kind op.Branch ≡ false → IsWritableHead types d n left
  other_dropped none = head_like types d n n h left
      (record {
        kind = refl;
        attributes = other_kept h.content.kind (g.operand h.name) h.content.notes.attributes none;
        operands = ap length (drop_none (g.operand h.name) h.operands (lose.others none));
        results = refl;
        successors = refl;
      })
      refl w

  pub head_dropped : IsWritableHead types d n left
  head_dropped = ⊎_elim plain_dropped (λ r. ⊎_elim condition_dropped other_dropped r) (branch_or_not h.content.kind)

-- ---- branches that are decided

-- so can what is decided of a branch
module _ {N : Names} (types : List KitType) (alone : N.value → Option IntegerAttr) (d n : ℕ) (h : Head N kit_contents)
    (rs : Tree N kit_contents Regions) (w : IsWritableHead types d n h) where
  condition_decided : h.content.kind ≡ ops.CondBr → IsWritableHead types d n (decide_head kit alone h rs)
  condition_decided kind =
      by (decide_head kit alone h rs) (conditional_decided h c.tested c.first c.second c.is alone rs)
    where
      facts : ConditionFacts types d n h w
      facts = condition_facts types d n h w kind

      c : Conditional h
      c = conditional h facts.first facts.second kind facts.sizes facts.adds_up

      taken : (after : Head N kit_contents) (handed : List N.value) (i : ℕ) → i < 2 →
          BranchesTo h c.tested c.first c.second c.is after handed (cons_if (slice_get h.successors i) []) →
          IsWritableHead types d n after
      taken after handed i less t =
          let two : length h.successors ≡ 2 = facts.two_edges in
          subst (λ m. IsWritableHead types d m after) (sym facts.no_regions)
          (plain_writable types d after t.plain.kind (ap (λ (es : Entries). length es == 0) t.no_attributes)
          (ap types_in t.results ∙ facts.no_results)
          (ap length t.targets_are ∙ target_count h.successors i (omega (arith, less, two))))

      by : (after : Head N kit_contents) → IsDecided h c.tested c.first c.second c.is after →
          IsWritableHead types d n after
      by after (stays e) = subst (IsWritableHead types d n) (sym e) w
      by after (takes_first t) = taken after c.first 0 (omega arith) t
      by after (takes_second t) = taken after c.second 1 (omega arith) t

  pub head_decided : IsWritableHead types d n (decide_head kit alone h rs)
  head_decided = ⊎_elim
      (λ kind. subst (IsWritableHead types d n) (sym (plain_decided alone h rs kind)) w)
      (λ r. ⊎_elim condition_decided
      (λ none. subst (IsWritableHead types d n) (sym (other_decided alone h rs none)) w) r)
      (branch_or_not h.content.kind)
