-- With constants in place of known values a tree that keeps the rules can be written.
use Rattle.std.proofs.Common.{◌≡◌, ⊎_elim, ℕ, zero, suc, ◌≤◌, List, [], ◌∷◌, ◌++◌, length, Option, Some, None, slice_get, option_and_then, inl, inr, refl, sym, ap, ◌∙◌, subst}
use Rattle.ir_base.specs.declared.types.TypeHandle.{TypeHandle}
use Rattle.ir_print.specs.Pieces.{ValueTree}
use Rattle.ir_print.specs.Shown.{Pairs, ShowsType}
use Rattle.ir_program.specs.declared.handles.Value.{Value}
use Rattle.ir_trees.specs.Names.{Names}
use Rattle.ir_trees.specs.Renames.{names_of, rename_root}
use Rattle.ir_trees.specs.Stands.{ProgramHead}
use Rattle.ir_trees.specs.Trees.{Defined, Head, Label, Sort, Operations, Regions, Tree, end, operation, block, region, Root}
use Rattle.kit.specs.Context.{KitTree}
use Rattle.kit.specs.Meaning.{KitOperation, KitBlock, kit}
use Rattle.kit_checks.proofs.Down.{step_to}
use Rattle.kit_checks.specs.KitWorld.{kit_world}
use Rattle.kit_checks.specs.Rules.{AttributesAreKnown, ValuesAreIntegers}
use Rattle.kit_checks.specs.Words.{IsValueType, bodies_of, integer_type}
use Rattle.kit_checks.specs.declared.rule.Rule.TheVariants as rule
use Rattle.kit_ops.specs.declared.attributes.IntegerAttr.{IntegerAttr}
use Rattle.kit_ops.specs.declared.kinds.KitOp.TheVariants as ops
use Rattle.kit_ops.specs.declared.types.IntegerType.{IntegerType}
use Rattle.kit_ops.specs.declared.types.KitType.{KitType}
use Rattle.kit_pass_rules.specs.Laws.{IsGood}
use Rattle.kit_pass_rules.proofs.Lists.{map_get, index_of_has}
use Rattle.kit_pass_rules.proofs.Located.{located, located_block}
use Rattle.kit_pass_rules.proofs.SccpCame.{body_in}
use Rattle.kit_pass_rules.proofs.SccpLaw.{fits}
use Rattle.kit_pass_rules.proofs.Walk.{OccurrenceOf, BlockOf, child_of}
use Rattle.kit.specs.Forms.{form_of}
use Rattle.kit.specs.Readable.{says_kinds}
use Rattle.kit.specs.Says.{says, result_types_by}
use Rattle.kit_views.specs.Reading.{kit_contents}
use Rattle.kit_written_trees.specs.PassLaws.{leads_by, SccpStaysWritable}
use Rattle.kit_written_trees.proofs.ConstantLemmas.{IsNumber, key_of, constant_writable}
use Rattle.kit_written_trees.proofs.DepthLemmas.{IsAbove, first_above, results_above}
use Rattle.kit_written_trees.proofs.HeadLemmas.{head_like}
use Rattle.kit_written_trees.proofs.RenameLemmas.{types_renamed, root_renamed}
use Rattle.kit_writable_trees.specs.Writable.{types_in, count_of, AreWritten, IsWritableHead, IsWritableLabel, IsWritable, IsWritableRoot}
use Rattle.opt_trees.specs.Occurrences.{Has, Inside, Occurrence, OperationSite, inner, next_block, next_region}
use Rattle.opt_trees.specs.Occurrences.{at_root, occurrences_in, occurrences_of, block_occurrences_of}
use Rattle.opt_trees.proofs.NoneDead.{has-left, has-right}
use Rattle.opt_trees.specs.Sccp.{Old, fresh, used_as, put_one, put_results, put_arguments, old_head, old_label, put, put_root}
use Rattle.opt_trees.proofs.Lists.{some_same, has-from_map, length-map}

-- ---- where constants are put

-- at this depth values may be, or there are none
abbrev IsAboveFor : {V : Type 0} → ℕ → List (Defined V TypeHandle) → Type 0
IsAboveFor {V} d vs = (v : Defined V TypeHandle) (us : List (Defined V TypeHandle)) → vs ≡ v ∷ us → IsAbove d

-- no operation of a part is a placeholder
abbrev NoPlaceholder : {N : Names} {s : Sort} → Tree N kit_contents s → Inside N kit_contents s → Type 0
NoPlaceholder {N} x c =
    (o : Occurrence N kit_contents) → Has o (occurrences_in x c) → o.head.content.kind ≡ ops.ForwardRef → ⊥

module _ {N : Names} (types : List KitType) (made : N.value → Option IntegerAttr)
    (numbers : (v : N.value) (a : IntegerAttr) → made v ≡ Some a → IsNumber types a) where
  one_put : (d : ℕ) (v : N.value) (o : Option IntegerAttr) → ((a : IntegerAttr) → o ≡ Some a → IsNumber types a) →
      (rest : Tree (fresh N) kit_contents Operations) → IsWritable types (suc d) rest →
      IsWritable types (suc d) (put_one {N = N} kit v o rest)
  one_put d v None is rest w = w
  one_put d v (Some a) is rest w = (constant_writable types a (is a refl) {N = N} d v, tt, w)

  results_put : (d : ℕ) (vs : List (Defined N.value TypeHandle)) (rest : Tree (fresh N) kit_contents Operations) →
      IsWritable types (suc d) rest → IsWritable types (suc d) (put_results {N = N} kit made vs rest)
  results_put d [] rest w = w
  results_put d (v ∷ vs) rest w =
      one_put d v.name (made v.name) (numbers v.name) (put_results {N = N} kit made vs rest) (results_put d vs rest w)

  arguments_put : (d : ℕ) (vs : List (Defined N.value TypeHandle)) (rest : Tree (fresh N) kit_contents Operations) →
      IsWritable types (suc d) rest → IsWritable types (suc d) (put_arguments {N = N} kit made vs rest)
  arguments_put d [] rest w = w
  arguments_put d (v ∷ vs) rest w =
      arguments_put d vs (put_one {N = N} kit v.name (made v.name) rest)
      (one_put d v.name (made v.name) (numbers v.name) rest w)

  all_results : (d : ℕ) (vs : List (Defined N.value TypeHandle)) → IsAboveFor d vs →
      (rest : Tree (fresh N) kit_contents Operations) → IsWritable types d rest →
      IsWritable types d (put_results {N = N} kit made vs rest)
  all_results d [] f rest w = w
  all_results zero (v ∷ vs) f rest w = let x = f v vs refl in let e : zero ≡ suc x.0 = x.1 in absurd (cc e)
  all_results (suc d) (v ∷ vs) f rest w = results_put d (v ∷ vs) rest w

  all_arguments : (d : ℕ) (vs : List (Defined N.value TypeHandle)) → IsAboveFor d vs →
      (rest : Tree (fresh N) kit_contents Operations) → IsWritable types d rest →
      IsWritable types d (put_arguments {N = N} kit made vs rest)
  all_arguments d [] f rest w = w
  all_arguments zero (v ∷ vs) f rest w = let x = f v vs refl in let e : zero ≡ suc x.0 = x.1 in absurd (cc e)
  all_arguments (suc d) (v ∷ vs) f rest w = arguments_put d (v ∷ vs) rest w

  head_above : (d n : ℕ) (h : Head N kit_contents) → (h.content.kind ≡ ops.ForwardRef → ⊥) →
      IsWritableHead types d n h → IsAboveFor d h.results
  head_above d n h other w v us e = results_above types h.content.kind other d v.holds (types_in us) w.shapes w.pieces
      (subst (λ vs. Pairs (ShowsType says types) (types_in vs) w.shapes) e w.typed)
      (w.read ∙ ap (λ k. result_types_by (option_and_then form_of k) w.pieces)
      (says_kinds h.content.kind h.content.notes.attributes (length h.operands) (types_in h.results) w.kind w.said
      w.says_it)) w.flat

  label_above : (d : ℕ) (l : Label N kit_contents) → IsWritableLabel types d l → IsAboveFor d l.arguments
  label_above d l w v us e = first_above types d v.holds (types_in us) w.arguments.shapes
      (subst (λ vs. Pairs (ShowsType says types) (types_in vs) w.arguments.shapes) e w.arguments.shown)
      (λ t ts same. w.arguments.flat 0 t (ap (λ (xs : List ValueTree). slice_get xs 0) same))

  -- ---- what stood there

  count_put : (rs : Tree N kit_contents Regions) → count_of (put kit made rs) ≡ count_of rs
  count_put end = refl
  count_put (region bs rest) = ap suc (count_put rest)

  head_put : (d n m : ℕ) (h : Head N kit_contents) → m ≡ n → IsWritableHead types d n h →
      IsWritableHead types d m (old_head {N = N} made h)
  head_put d n m h count w = head_like types d n m h (old_head {N = N} made h)
      (record {
        kind = refl;
        attributes = refl;
        operands = length-map (λ v. used_as v (made v)) h.operands;
        results = types_renamed Old h.results;
        successors = refl;
      })
      count w

  label_put : (d : ℕ) (l : Label N kit_contents) → IsWritableLabel types d l →
      IsWritableLabel types d (old_label {N = N} l)
  label_put d l w = record {
    no_attributes = w.no_attributes;
    arguments = subst (AreWritten types d) (sym (types_renamed Old l.arguments)) w.arguments;
  }

  put_writable : {s : Sort} (d : ℕ) (x : Tree N kit_contents s) (c : Inside N kit_contents s) → NoPlaceholder x c →
      IsWritable types d x → IsWritable types d (put kit made x)
  put_writable d end c free w = tt
  put_writable d (operation h rs rest) c free w =
      let r : IsWritable types d (put kit made rs) = put_writable d rs (inner h c)
      (λ o has. free o (inr (has-left o (occurrences_in rs (inner h c)) (occurrences_in rest c) has))) w.1 in
      let m : IsWritable types d (put kit made rest) = put_writable d rest c
      (λ o has. free o (inr (has-right o (occurrences_in rs (inner h c)) (occurrences_in rest c) has))) w.2 in
      all_results d h.results
      (head_above d (count_of rs) h (free (record { site = c; head = h; regions = rs }) (inl refl)) w.0)
      (operation (old_head {N = N} made h) (put kit made rs) (put kit made rest))
      (head_put d (count_of rs) (count_of (put kit made rs)) h (count_put rs) w.0, r, m)
  put_writable d (block l os rest) c free w =
      let here : OperationSite N kit_contents = record { spot = c; label = l } in (
        label_put d l w.0,
        all_arguments d l.arguments (label_above d l w.0) (put kit made os) (put_writable d os here
            (λ o has. free o (has-left o (occurrences_in os here) (occurrences_in rest (next_block c)) has)) w.1),
        put_writable d rest (next_block c)
            (λ o has. free o (has-right o (occurrences_in os here) (occurrences_in rest (next_block c)) has)) w.2,
      )
  put_writable zero (region bs rest) c free w = absurd w.0
  put_writable (suc d) (region bs rest) c free w = (
    put_writable d bs c
        (λ o has. free o (has-left o (occurrences_in bs c) (occurrences_in rest (next_region c)) has)) w.0,
    put_writable (suc d) rest (next_region c)
        (λ o has. free o (has-right o (occurrences_in bs c) (occurrences_in rest (next_region c)) has)) w.1,
  )

  pub root_put : (t : Root N kit_contents) → NoPlaceholder t.regions (at_root t) → IsWritableRoot types t →
      IsWritableRoot types (put_root kit made t)
  root_put t free w = record {
    head = head_put 64 (count_of t.regions) (count_of (put kit made t.regions)) t.head (count_put t.regions) w.head;
    regions = put_writable 64 t.regions (at_root t) free w.regions;
  }

-- ---- which constants

module _ (leads : TypeHandle → Option KitType) (old : Value → Option TypeHandle) (t : KitTree)
    (good : IsGood leads old t) where
  -- the type of a value that is defined in the tree, of 1 to 64 bits
  record TypeOf (v : Value) : Type 0 where
    pub type : TypeHandle
    pub was : old v ≡ Some type
    pub value : IsValueType (kit_world leads old) type

  -- what keeps the rules has no placeholder
  no_placeholder : (o : OccurrenceOf KitOperation KitBlock) → Has o (occurrences_of t) →
      o.head.content.kind ≡ ops.ForwardRef → ⊥
  no_placeholder o stands e =
      let l = located t o stands in
      let c = child_of t l.s l.outer l.up l.r l.b l.k l.blocks l.body l.u l.region_here l.block_here l.here in
      let known : AttributesAreKnown (kit_world leads old) (step_to l.s l.outer l.blocks l.b l.body l.k l.u) =
      good.obeys rule.AttributesAreKnown c.place (step_to l.s l.outer l.blocks l.b l.body l.k l.u) c.at_place in
      known.no_forward_ref (ap (λ (h : ProgramHead KitOperation KitBlock). h.content.kind) l.head ∙ e)

  result_type : (v : Value) (o : OccurrenceOf KitOperation KitBlock) → Has o (occurrences_of t) →
      Has v (names_of o.head.results) → TypeOf v
  result_type v o stands result =
      let p = has-from_map (λ (d : Defined Value TypeHandle). d.name) v o.head.results result in
      let l = located t o stands in
      let c = child_of t l.s l.outer l.up l.r l.b l.k l.blocks l.body l.u l.region_here l.block_here l.here in
      let values : ValuesAreIntegers (kit_world leads old) (step_to l.s l.outer l.blocks l.b l.body l.k l.u) =
      good.obeys rule.ValuesAreIntegers c.place (step_to l.s l.outer l.blocks l.b l.body l.k l.u) c.at_place in
      let has : Has p.it l.u.head.results =
      subst (Has p.it) (sym (ap (λ (h : ProgramHead KitOperation KitBlock). h.results) l.head)) p.stands in
      let i = index_of_has l.u.head.results p.it has in
      record {
        type = p.it.holds;
        was = ap old (sym p.is) ∙ good.typed_in.results o stands p.it p.stands;
        value = values.results i.0 p.it.holds
            (map_get (λ (d : Defined Value TypeHandle). d.holds) l.u.head.results i.0 p.it i.1);
      }

  argument_type : (v : Value) (o : BlockOf KitOperation KitBlock) → Has o (block_occurrences_of t) →
      Has v (names_of o.label.arguments) → TypeOf v
  argument_type v o stands argument =
      let p = has-from_map (λ (d : Defined Value TypeHandle). d.name) v o.label.arguments argument in
      let l = located_block t o stands in
      let values : ValuesAreIntegers (kit_world leads old) l.s =
      good.obeys rule.ValuesAreIntegers (l.up.prefix ++ []) l.s (l.up.reaches []) in
      let b = index_of_has (bodies_of l.s.op) l.body
      (body_in l.s.op l.r l.b l.blocks l.body l.region_here l.block_here) in
      let has : Has p.it l.body.label.arguments = subst (Has p.it) (sym (ap (λ z. z.arguments) l.label)) p.stands in
      let i = index_of_has l.body.label.arguments p.it has in
      record {
        type = p.it.holds;
        was = ap old (sym p.is) ∙ good.typed_in.arguments o stands p.it p.stands;
        value = values.arguments b.0 l.body b.1 i.0 p.it.holds
            (map_get (λ (d : Defined Value TypeHandle). d.holds) l.body.label.arguments i.0 p.it i.1);
      }

pub sccp_law : SccpStaysWritable
sccp_law = λ types typed t after writable good named.
    let x = named.is_sccp in
    let leads : TypeHandle → Option KitType = leads_by types in
    let numbers : (v : Value) (a : IntegerAttr) → x.made v ≡ Some a → IsNumber types a = λ v a e.
    let gets = x.is_made.gets v a e in
    let fit = fits leads typed t good x.facts x.best named.around v a gets in
    let of : TypeOf leads typed t good v = ⊎_elim (λ r. result_type leads typed t good v r.definer r.stands r.result)
    (λ r. argument_type leads typed t good v r.definer r.stands r.argument) gets.place in
    let same_type : of.type ≡ a.ty = some_same of.type a.ty (sym of.was ∙ fit.typed) in
    let same : of.value.0 ≡ a.integer = some_same of.value.0 a.integer
    (sym of.value.1 ∙ (ap (integer_type (kit_world leads typed)) same_type ∙ fit.is_type)) in
    record {
      key = key_of (leads a.ty) a.integer fit.is_type;
      least = subst (λ (i : IntegerType). 1 ≤ i.width) same of.value.2;
      most = subst (λ (i : IntegerType). i.width ≤ 64) same of.value.3;
      in_range = fit.in_range;
    } in
    let whole : rename_root named.names (put_root kit x.made t) ≡ after =
    sym (named.is ∙ ap (rename_root named.names) x.is) in
    subst (IsWritableRoot types) whole
    (root_renamed types named.names (put_root kit x.made t)
    (root_put types x.made numbers t (λ o has. no_placeholder leads typed t good o has) writable))
