-- What is left without what is dead hands on along its edges what the blocks there take.
use Rattle.std.proofs.Common.{◌≡◌, inr, ℕ, zero, suc, ◌+◌, ◌<◌, Bool, true, false, List, [], ◌∷◌, ◌++◌, map, length, Option, Some, option_and_then, slice_get, refl, sym, ap, ◌∙◌, subst, arith}
use Rattle.ir_base.specs.declared.types.TypeHandle.{TypeHandle}
use Rattle.ir_names.specs.Dictionary.{attribute_at}
use Rattle.ir_names.specs.declared.interfaces.OpInterface.TheVariants as op
use Rattle.ir_program.specs.declared.handles.Ptr.{Ptr}
use Rattle.ir_program.specs.declared.handles.BasicBlock.{BasicBlock}
use Rattle.ir_program.specs.declared.handles.Value.{Value}
use Rattle.ir_trees.specs.Stands.{by_handle}
use Rattle.ir_trees.specs.Trees.{Defined}
use Rattle.kit.specs.Context.{KitTree}
use Rattle.kit.specs.Dropped.{kept}
use Rattle.kit.specs.Forwarded.{forwards_once}
use Rattle.kit.specs.Meaning.{KitOperation, KitBlock, kit, first_size, forwards_of, dropped_of}
use Rattle.kit_checks.specs.KitWorld.{HasDeclaredTypes, kit_world}
use Rattle.kit_checks.specs.Rules as rules
use Rattle.kit_checks.specs.Sites.{block_list}
use Rattle.kit_checks.specs.Words.{Every, HaveTypes, types_of, is_branch, along_edge, segment, segment_sizes, sizes_in, sizes_or_none}
use Rattle.kit_checks.specs.declared.rule.Rule.TheVariants as rule
use Rattle.kit_checks.proofs.Everys.{at_index}
use Rattle.kit_ops.specs.declared.attributes.IntegerAttr.{IntegerAttr}
use Rattle.kit_ops.specs.declared.kinds.KitOp.{KitOp}
use Rattle.kit_ops.specs.declared.kinds.KitOp.TheVariants as ops
use Rattle.kit_ops.specs.declared.types.KitType.{KitType}
use Rattle.kit_ops.specs.Keys as keys
use Rattle.kit_ops.specs.Table.{has_interface}
use Rattle.kit_pass_rules.specs.Laws.{IsGood}
use Rattle.kit_pass_rules.proofs.DceCame.{KitAround, thin_around, Old}
use Rattle.kit_pass_rules.proofs.DceMore.{condition_stays}
use Rattle.kit_pass_rules.proofs.DceRules.{keeps, lost_at, operands_same}
use Rattle.kit_pass_rules.proofs.Lists.{map_get, has_at_index, index_of_has, map_same}
use Rattle.kit_pass_rules.proofs.Segments.{from, drop_same, drop_map, drop_count, condition_of, first_segment, second_segment, condition_left, sizes_left, first_is, range_get, first_forwarded, second_forwarded}
use Rattle.kit_pass_rules.proofs.Thin.{KitBody, thin_tree, thin_body, blocks_thin}
use Rattle.kit_pass_rules.proofs.Walk.{BlockOf, block_of, within, occurrence_of, child_of, block_here}
use Rattle.std.proofs.lemmas.Option.{slice_get_within}
use Rattle.opt_trees.specs.Dialect.{drop}
use Rattle.opt_trees.specs.Dce.{TreeSurroundings as DceAround, Slot, Gone, IsGoneExactly, gone_at}
use Rattle.opt_trees.specs.Occurrences.{Has}
use Rattle.opt_trees.proofs.Lists.{some_same, length-map}
use Rattle.opt_trees.proofs.NoneDead.{has-left, has-right}

same_bool : (x y : Bool) → (x ≡ true → y ≡ true) → (y ≡ true → x ≡ true) → x ≡ y
same_bool true y f g = sym (f refl)
same_bool false true f g = g refl
same_bool false false f g = refl

module _ (leads : TypeHandle → Option KitType) (old new : Value → Option TypeHandle) (w : DceAround by_handle IntegerAttr) (t : KitTree)
    (good : IsGood leads old t) (g : Gone by_handle) (is_gone : IsGoneExactly kit w t g) (typed : HasDeclaredTypes new (thin_tree g t))
    (u : KitTree) (a : KitAround) (j : ℕ) (o : Old g t u a j) where
  abbrev lost : ℕ → Bool
  lost = g.operand u.head.name

  abbrev handed : ℕ → List ℕ
  handed edge = forwards_of u.head.content.kind (first_size u.head.content.notes.attributes) (length u.head.operands) edge

  module _ (body : KitBody) (b : ℕ) (hb : slice_get (block_list a.blocks) b ≡ Some body) (edge : ℕ)
      (leads_there : slice_get u.head.successors edge ≡ Some body.label.name) (branch : has_interface u.head.content.kind op.Branch ≡ true) where
    abbrev goes_out : ℕ → Bool
    goes_out i = gone_at g (slice_get body.label.arguments i)

    -- an operand goes with the argument that it is forwarded to
    go_together : (i m : ℕ) (d : Defined Value TypeHandle) → slice_get (handed edge) i ≡ Some m → slice_get body.label.arguments i ≡ Some d → lost m ≡ goes_out i
    go_together i m d given argument =
        let c = child_of t (record { op = a.owner; around = o.up_around }) a.outer o.up o.region a.number a.index a.blocks a.body u o.region_here o.block_here o.here in
        let x = block_here t (record { op = a.owner; around = o.up_around }) a.outer o.up o.region b a.blocks body o.region_here hb in
        let target : BlockOf KitOperation KitBlock = block_of x.spot body in
        let named : slice_get (map (λ (d : Defined Value TypeHandle). d.name) body.label.arguments) i ≡ Some d.name = map_get (λ (d : Defined Value TypeHandle). d.name) body.label.arguments i d argument in
        same_bool (lost m) (goes_out i)
        (λ q.
        let f = lost_at leads old new w t good g is_gone (occurrence_of (within c.spot a.body) u) c.here m q in
        let once = forwards_once u.head.content.kind (first_size u.head.content.notes.attributes) (length u.head.operands) f.1.edge f.1.place edge i m f.1.gives given in
        let block_name : f.1.target.label.name ≡ body.label.name =
        some_same f.1.target.label.name body.label.name (sym f.1.leads ∙ (ap (slice_get u.head.successors) once.0 ∙ leads_there)) in
        let same : f.1.target ≡ target = good.apart.blocks f.1.target target f.1.stands x.block block_name in
        let value : f.0 ≡ d.name = some_same f.0 d.name
        (sym f.1.takes ∙ ((λ k. slice_get (map (λ (d : Defined Value TypeHandle). d.name) (same k).label.arguments) (once.1 k)) ∙ named)) in
        ap (gone_at g) argument ∙ (ap (λ z. g.item (Slot z)) (sym value) ∙ is_gone.all (Slot f.0) f.2))
        (λ q.
        let item : g.item (Slot d.name) ≡ true = sym (ap (gone_at g) argument) ∙ q in
        is_gone.all_lost u.head.name m (record {
          user = occurrence_of (within c.spot a.body) u;
          stands = c.here;
          name = refl;
          argument = d.name;
          forwards = record { branch = branch; edge = edge; target = target; stands = x.block; leads = leads_there; place = i; gives = given; takes = named };
          dead = is_gone.dead (Slot d.name) item;
        }))

    -- what is handed on has the types of the arguments, without those that go
    handed_types : (vs : List Value) (s : ℕ) → Every (λ v. new v ≡ old v) (drop (from lost s) vs) → HaveTypes (kit_world leads old) vs (types_of body.label.arguments) →
        ((i : ℕ) → i < length vs → slice_get (handed edge) i ≡ Some (s + i)) → HaveTypes (kit_world leads new) (drop (from lost s) vs) (types_of (drop goes_out body.label.arguments))
    handed_types vs s same have given =
        let tys : List TypeHandle = types_of body.label.arguments in
        let counts : length vs ≡ length tys = sym (length-map old vs) ∙ (ap length have ∙ length-map Some tys) in
        let ds : length tys ≡ length body.label.arguments = length-map (λ (d : Defined Value TypeHandle). d.holds) body.label.arguments in
        let ss : length (map Some tys) ≡ length tys = length-map Some tys in
        map_same new old (drop (from lost s) vs) same
        ∙ (sym (drop_map (from lost s) old vs)
        ∙ (ap (drop (from lost s)) have
        ∙ (drop_same (from lost s) goes_out (map Some tys) (λ i less.
        let d = at_index body.label.arguments i (omega (arith, less, ss, ds)) in
        go_together i (s + i) d.0 (given i (omega (arith, less, ss, counts))) d.1)
        ∙ (drop_map goes_out Some tys ∙ ap (map Some) (drop_map goes_out (λ (d : Defined Value TypeHandle). d.holds) body.label.arguments)))))

    every_in : (xs ys : List Value) → ((v : Value) → Has v xs → Has v ys) → Every (λ v. new v ≡ old v) ys → Every (λ v. new v ≡ old v) xs
    every_in xs ys sub h k v e = let i = index_of_has ys v (sub v (has_at_index xs k v e)) in h i.0 v i.1

    branch_types : (k : KitOp) → u.head.content.kind ≡ k → is_branch k ≡ true → rules.FitsKind (kit_world leads old) u k →
        HaveTypes (kit_world leads old) (along_edge k (sizes_or_none (segment_sizes (kit_world leads old) u)) u.head.operands edge) (types_of body.label.arguments) →
        HaveTypes (kit_world leads new) (along_edge k (sizes_or_none (segment_sizes (kit_world leads new) (thin_tree g u))) (drop lost u.head.operands) edge) (types_of (drop goes_out body.label.arguments))
    branch_types ops.Br e is fits have =
        let below_one : edge < length u.head.successors = slice_get_within u.head.successors edge body.label.name leads_there in
        let one : length u.head.successors ≡ 1 = fits.successors in
        let first : edge ≡ 0 = omega (arith, below_one, one) in
        let same : drop (from lost 0) u.head.operands ≡ drop lost u.head.operands = drop_same (from lost 0) lost u.head.operands (λ i less. let z : 0 + i ≡ i = omega arith in ap lost z) in
        subst (λ l. HaveTypes (kit_world leads new) l (types_of (drop goes_out body.label.arguments))) same
        (handed_types u.head.operands 0 (subst (Every (λ v. new v ≡ old v)) (sym same) (operands_same leads old new w t good g is_gone u a j o typed)) have
        (λ i less. (λ x. slice_get (forwards_of (e x) (first_size u.head.content.notes.attributes) (length u.head.operands) (first x)) i) ∙ range_get 0 (length u.head.operands) i less))
    branch_types ops.CondBr e is fits have =
        cond_types e fits.1 (slice_get_within u.head.successors edge body.label.name leads_there) fits.0.successors edge refl have
      where
        cond_types : u.head.content.kind ≡ ops.CondBr → rules.HasSegments (kit_world leads old) u → edge < length u.head.successors → length u.head.successors ≡ 2 → (n : ℕ) → edge ≡ n →
            HaveTypes (kit_world leads old) (segment u.head.operands (sizes_or_none (segment_sizes (kit_world leads old) u)) (suc edge)) (types_of body.label.arguments) →
            HaveTypes (kit_world leads new) (segment (drop lost u.head.operands) (sizes_or_none (segment_sizes (kit_world leads new) (thin_tree g u))) (suc edge)) (types_of (drop goes_out body.label.arguments))
        cond_types e h less two n at have =
            let first : ℕ = h.2.0 in
            let second : ℕ = h.2.1 in
            let c = condition_of u.head.operands first second h.2.3 in
            let stays = condition_stays leads old new w t good g is_gone u a j o e in
            let fs : List Value = drop (from lost 1) c.first in
            let ss : List Value = drop (from lost (1 + first)) c.second in
            let fc : length fs ≡ kept lost 1 first = drop_count lost 1 c.first ∙ ap (kept lost 1) c.first_count in
            let sc : length ss ≡ kept lost (1 + first) second = drop_count lost (1 + first) c.second ∙ ap (kept lost (1 + first)) c.second_count in
            let left_over : drop lost u.head.operands ≡ c.condition ∷ (fs ++ ss) = ap (drop lost) c.is ∙ condition_left c.condition c.first c.second first second c.first_count c.second_count lost stays in
            let was : sizes_or_none (segment_sizes (kit_world leads old) u) ≡ 1 ∷ first ∷ second ∷ [] = ap sizes_or_none h.1 ∙ h.2.2 in
            let now : sizes_or_none (segment_sizes (kit_world leads new) (thin_tree g u)) ≡ 1 ∷ kept lost 1 first ∷ kept lost (1 + first) second ∷ [] =
            ap sizes_or_none (ap (λ k. option_and_then sizes_in (attribute_at (dropped_of k lost u.head.content.notes.attributes) keys.segment_sizes)) e
            ∙ sizes_left u.head.content.notes.attributes lost first second h.0 h.1 h.2.2) in
            let size : first_size u.head.content.notes.attributes ≡ first = first_is u.head.content.notes.attributes first second h.0 h.1 h.2.2 in
            let all : Every (λ v. new v ≡ old v) (c.condition ∷ (fs ++ ss)) = subst (Every (λ v. new v ≡ old v)) left_over (operands_same leads old new w t good g is_gone u a j o typed) in
            pick n at
            (λ zero_edge.
            subst (λ l. HaveTypes (kit_world leads new) l (types_of (drop goes_out body.label.arguments)))
            (sym ((λ x. segment (left_over x) (now x) (suc (zero_edge x))) ∙ first_segment c.condition fs ss (kept lost 1 first) (kept lost (1 + first) second) fc sc))
            (handed_types c.first 1 (every_in fs (c.condition ∷ (fs ++ ss)) (λ v i. inr (has-left v fs ss i)) all)
            (subst (λ l. HaveTypes (kit_world leads old) l (types_of body.label.arguments))
            ((λ x. segment (c.is x) (was x) (suc (zero_edge x))) ∙ first_segment c.condition c.first c.second first second c.first_count c.second_count) have)
            (λ i below_it. (λ x. slice_get (forwards_of (e x) (size x) (length u.head.operands) (zero_edge x)) i)
            ∙ first_forwarded first second (length u.head.operands) i h.2.3 (let q : length c.first ≡ first = c.first_count in omega (arith, below_it, q)))))
            (λ one_edge.
            subst (λ l. HaveTypes (kit_world leads new) l (types_of (drop goes_out body.label.arguments)))
            (sym ((λ x. segment (left_over x) (now x) (suc (one_edge x))) ∙ second_segment c.condition fs ss (kept lost 1 first) (kept lost (1 + first) second) fc sc))
            (handed_types c.second (1 + first) (every_in ss (c.condition ∷ (fs ++ ss)) (λ v i. inr (has-right v fs ss i)) all)
            (subst (λ l. HaveTypes (kit_world leads old) l (types_of body.label.arguments))
            ((λ x. segment (c.is x) (was x) (suc (one_edge x))) ∙ second_segment c.condition c.first c.second first second c.first_count c.second_count) have)
            (λ i below_it. (λ x. slice_get (forwards_of (e x) (size x) (length u.head.operands) (one_edge x)) i)
            ∙ second_forwarded first second (length u.head.operands) i h.2.3 (let q : length c.second ≡ second = c.second_count in omega (arith, below_it, q)))))
          where
            pick : {P : Type 0} (n : ℕ) → edge ≡ n → (edge ≡ 0 → P) → (edge ≡ 1 → P) → P
            pick zero at f g = f at
            pick (suc zero) at f g = g at
            pick (suc (suc n)) at f g = absurd (omega (arith, at, less, two))
    branch_types k e is fits have = absurd (cc is)

  -- rule 9
  leads_left : (edge : ℕ) (target : Ptr BasicBlock) → slice_get u.head.successors edge ≡ Some target → rules.EdgeLeadsTo (kit_world leads old) u a edge target →
      rules.EdgeLeadsTo (kit_world leads new) (thin_tree g u) (thin_around g a j) edge target
  leads_left edge target e h =
      let there : slice_get u.head.successors edge ≡ Some h.body.label.name = e ∙ ap Some (sym h.named) in
      record {
        body = thin_body g h.body;
        here = (h.here.0, ap (λ l. slice_get l h.here.0) (blocks_thin g a.blocks) ∙ map_get (thin_body g) (block_list a.blocks) h.here.0 h.body h.here.1);
        named = h.named;
        operands = λ is. branch_types h.body h.here.0 h.here.1 edge there (is_branch_kind u.head.content.kind is) u.head.content.kind refl is
            (keeps leads old new w t good g is_gone u a j o rule.FitsFormat) (h.operands is);
      }
    where
      is_branch_kind : (k : KitOp) → is_branch k ≡ true → has_interface k op.Branch ≡ true
      is_branch_kind ops.Br q = refl
      is_branch_kind ops.CondBr q = refl
      is_branch_kind k q = absurd (cc q)

  pub edges_fit : rules.EdgesFit (kit_world leads new) (record { op = thin_tree g u; around = Some (thin_around g a j) })
  edges_fit edge target e =
      let r : rules.EdgesFit (kit_world leads old) (record { op = u; around = Some a }) = keeps leads old new w t good g is_gone u a j o rule.EdgesFit in
      let x = r edge target e in
      (thin_around g a j, refl, leads_left edge target e (subst (λ (z : KitAround). rules.EdgeLeadsTo (kit_world leads old) u z edge target) (sym (some_same a x.0 x.1)) x.2))
