-- Constants put into the tree of a function are constants put into its flat view.
use Rattle.std.proofs.Common.{◌≡◌, ◌⊎◌, ⊎_elim, inl, inr, ℕ, Bool, true, false, List, [], ◌∷◌, map, Option, Some, None, refl, sym, ap, ◌∙◌, subst}
use Rattle.std.specs.Prelude.{option_map, ◌↔◌}
use Rattle.ir_base.specs.declared.types.TypeHandle.{TypeHandle}
use Rattle.ir_names.specs.declared.interfaces.OpInterface.TheVariants as op
use Rattle.ir_trees.specs.Names.{Names}
use Rattle.ir_trees.specs.Renames.{names_of}
use Rattle.ir_trees.specs.Searched.{AreDistinct, operation_names, heads_in}
use Rattle.ir_trees.specs.Trees.{Head, Blocks, Tree, end, region, Root}
use Rattle.opt_rows.specs.declared.known.Known.{Known}
use Rattle.opt_rows.specs.declared.known.Known.TheVariants as known
use Rattle.opt_trees.specs.Dce.{TreeSurroundings}
use Rattle.opt_trees.specs.Facts as trees
use Rattle.opt_trees.specs.Occurrences.{Has, Occurrence, occurrences_in, occurrences_of, defined_in}
use Rattle.opt_trees.specs.Sccp as sccp
use Rattle.opt_trees.specs.Sccp.{fresh, IsResult, IsArgument, AreMadeConstants, put, put_root, IsSccp}
use Rattle.opt_trees.proofs.Lists.{some_same, none_some}
use Rattle.opt_trees.proofs.Defined.{result_defined, argument_defined}
use Rattle.opt_trees.proofs.NoneDead.{has-left}
use Rattle.kit_behaviour.specs.Facts.{Fact, Undetermined, Unknown}
use Rattle.kit_behaviour.specs.Facts as flat
use Rattle.kit_behaviour.specs.Machine.{Arith, Calculated, Compared, Op, Const, Calc, Emit, Call, Branch, Return, Fun}
use Rattle.kit_ops.specs.declared.attributes.IntegerAttr.{IntegerAttr}
use Rattle.kit_ops.specs.declared.kinds.KitOp.{KitOp}
use Rattle.kit_ops.specs.declared.kinds.KitOp.TheVariants as ops
use Rattle.kit_ops.specs.declared.types.KitType.{KitType}
use Rattle.kit_ops.specs.declared.attributes.KitAttr.TheVariants as attrs
use Rattle.kit_ops.specs.Keys.{constant_value}
use Rattle.kit.specs.Meaning.{kit, is_constant, operation_of}
use Rattle.kit_ops.specs.Table.{has_interface}
use Rattle.kit_views.specs.Reading.{kit_contents, kit_reading}
use Rattle.kit_views.specs.FlatView.{IsSameness, kind_of, IsOp, AreFlatBlocks, names_in, FlattensTo}
use Rattle.kit_behaviour.specs.InsertedConstants.{put_block, use_of}
use Rattle.kit_behaviour.specs.NamedPasses.{GetsConstant}
use Rattle.kit_behaviour.specs.Replacement.{replace_block}
use Rattle.kit_behaviour.specs.Rules.{blocks_operands, uses_in}
use Rattle.kit_behaviour.specs.Scopes.{In}
use Rattle.kit_views.specs.FlatConstants.{IsPropagatedView}
use Rattle.kit_views.specs.Laws.{NothingPinned}
use Rattle.kit_views.proofs.Calculated.{IsCalculated, GetsIn, gets_both, has_to_in, in_to_has}
use Rattle.kit_views.proofs.FlatUses.{operands_are, used_of, user_of}
use Rattle.kit_views.specs.FlatFacts.{IsKnownAs, AreFlatly}
use Rattle.kit_views.specs.Typed.{number_as, IsTyped}
use Rattle.kit_views.proofs.Lists.{to_distinct, from_distinct, has_get, at_has}
use Rattle.kit_views.proofs.Uses.{true_false}
use Rattle.kit_views.proofs.Standing.{whole, Given, root_spot, pair, back, block_pair, block_back, one_maker, not_both}
use Rattle.kit_views.proofs.ClosedBoth.{arith_folds, branch_kind}
use Rattle.kit_views.proofs.FlatRemoval.{given_of}
use Rattle.kit_views.proofs.FlatBest.{flat_best}
use Rattle.kit_views.proofs.PutIn.{numbers}
use Rattle.kit_views.proofs.PutBlocks.{blocks_put, names_put, rest, rest_fits}
use Rattle.kit_views.proofs.PutNames.{operations_distinct, values_distinct}

-- a known attribute, as a number
known_as : (leads : TypeHandle → Option KitType) (ty : TypeHandle) (k : Known IntegerAttr) (t : Fact) (a : IntegerAttr) → IsKnownAs leads ty k t → k ≡ known.One a → t ≡ flat.Known a.bits
known_as leads ty k Undetermined a is e = let q : known.Undetermined ≡ known.One a = sym is ∙ e in absurd (cc q)
known_as leads ty k Unknown a is e = let q : known.Any ≡ known.One a = sym is ∙ e in absurd (cc q)
known_as leads ty k (flat.Known n) a is e =
    let q : known.One (number_as leads ty n) ≡ known.One a = sym is.0 ∙ e in
    let m : number_as leads ty n ≡ a = cc q in ap (λ (z : IntegerAttr). flat.Known z.bits) m

pub arith_makes : (a : Arith) → is_constant (kind_of a) ≡ false
arith_makes (Calculated a) = refl
arith_makes (Compared c) = refl

module _ {N : Names} (leads : TypeHandle → Option KitType) (numbered : List ℕ → ℕ) (type_at : N.value → TypeHandle) where
  by_kind : (h : Head N kit_contents) (kd : KitOp) (g : KitOp → Bool) (b : Bool) → h.content.kind ≡ kd → g kd ≡ b → g h.content.kind ≡ b
  by_kind h kd g b e q = ap g e ∙ q

  -- what folds and is no constant is arithmetic or a comparison
  pub calculated : (h : Head N kit_contents) (names : List N.block) (v : N.value) (p : Op N.value) → IsOp (kit_reading leads numbered) names h p → kit.is_foldable h.content ≡ true → kit.is_constant h.content ≡ false → Has v (names_of h.results) → IsCalculated v p
  calculated h names v (Const y n) is e c i = absurd (true_false (is_constant h.content.kind) (by_kind h ops.Constant is_constant true is.0.kind refl) c)
  calculated h names v (Calc a w y x z) is e c i = ⊎_elim (λ q. q) (λ q. absurd q) (subst (Has v) is.0.results i)
  calculated h names v (Emit x) is e c i = absurd (true_false (has_interface h.content.kind op.ConstFold) e (by_kind h ops.Emit (λ k. has_interface k op.ConstFold) false is.kind refl))
  calculated h names v (Call rs d xs) is e c i = absurd (true_false (has_interface h.content.kind op.ConstFold) e (by_kind h ops.Call (λ k. has_interface k op.ConstFold) false is.0.kind refl))
  calculated h names v (Branch s xs x es) is e c i = absurd (true_false (has_interface h.content.kind op.ConstFold) e (branch_kind leads numbered type_at h names s xs x es is).0)
  calculated h names v (Return xs) is e c i = absurd (true_false (has_interface h.content.kind op.ConstFold) e (by_kind h ops.Return (λ k. has_interface k op.ConstFold) false is.kind refl))

  pub record Makes (h : Head N kit_contents) (v : N.value) : Type 0 where
    pub folds : kit.is_foldable h.content ≡ true
    pub no_constant : kit.is_constant h.content ≡ false
    pub result : Has v (names_of h.results)

  makes_of : (h : Head N kit_contents) (names : List N.block) (v : N.value) (p : Op N.value) → IsOp (kit_reading leads numbered) names h p → IsCalculated v p → Makes h v
  makes_of h names v (Const y n) is c = absurd c
  makes_of h names v (Calc a w y x z) is c = record {
    folds = by_kind h (kind_of a) (λ k. has_interface k op.ConstFold) true is.0.kind (arith_folds a);
    no_constant = by_kind h (kind_of a) is_constant false is.0.kind (arith_makes a);
    result = subst (Has v) (sym is.0.results) (inl c);
  }
  makes_of h names v (Emit x) is c = absurd c
  makes_of h names v (Call rs d xs) is c = absurd c
  makes_of h names v (Branch s xs e es) is c = absurd c
  makes_of h names v (Return xs) is c = absurd c

  module _ (h : Head N kit_contents) (bs : Tree N kit_contents Blocks) (f : Fun N.value) (given : Given (kit_reading leads numbered) h bs f) (k : trees.Facts N IntegerAttr) (l : flat.FunctionFacts N.value) (agree : AreFlatly leads {N = N} type_at (whole (kit_reading leads numbered) h bs f) (names_in bs) k l) (w : TreeSurroundings N IntegerAttr) (none : NothingPinned w (whole (kit_reading leads numbered) h bs f)) (made : N.value → Option IntegerAttr) (is_made : AreMadeConstants kit w (whole (kit_reading leads numbered) h bs f) k made) where
    result_gets : (v : N.value) (q : IsResult kit (whole (kit_reading leads numbered) h bs f) k v) (n : ℕ) → l.of v ≡ flat.Known n → GetsIn f l v n
    result_gets v q n e =
        let p = pair (kit_reading leads numbered) h bs f given q.definer q.stands in
        record { known = e; b = p.place; runs = agree.runs p.place q.definer.site.label.name p.name ∙ q.runs; block = p.k; stands = p.at; place = inr (p.op, p.stands, calculated q.definer.head (names_in bs) v p.op p.is q.folds q.no_constant q.result) }

    argument_gets : (v : N.value) (q : IsArgument (whole (kit_reading leads numbered) h bs f) k.runs v) (n : ℕ) → l.of v ≡ flat.Known n → GetsIn f l v n
    argument_gets v q n e =
        let p = block_pair (kit_reading leads numbered) h bs f given q.definer q.stands in
        record { known = e; b = p.place; runs = agree.runs p.place q.definer.label.name p.same.name ∙ q.in_run; block = p.k; stands = p.at; place = inl (subst (Has v) p.same.arguments q.argument) }

    there : (v : N.value) (n : ℕ) (o : Option IntegerAttr) → made v ≡ o → option_map (λ (a : IntegerAttr). a.bits) o ≡ Some n → GetsIn f l v n
    there v n None e q = absurd (none_some n q)
    there v n (Some a) e q =
        let g = is_made.gets v a e in
        let bits : a.bits ≡ n = some_same a.bits n q in
        ⊎_elim
        (λ (z : IsResult kit (whole (kit_reading leads numbered) h bs f) k v). result_gets v z n (known_as leads (type_at v) (k.of v) (l.of v) a (agree.of v (result_defined (region bs end) (root_spot (kit_reading leads numbered) h bs f given) z.definer v z.stands z.result)) g.known ∙ ap flat.Known bits))
        (λ (z : IsArgument (whole (kit_reading leads numbered) h bs f) k.runs v). argument_gets v z n (known_as leads (type_at v) (k.of v) (l.of v) a (agree.of v (argument_defined (region bs end) (root_spot (kit_reading leads numbered) h bs f given) z.definer v z.stands z.argument)) g.known ∙ ap flat.Known bits)) g.place

    -- a value that is defined has a use in the tree exactly where it has one in the flat view
    used_flat : (v : N.value) → Has v (defined_in (region bs end)) → sccp.IsUsed w (whole (kit_reading leads numbered) h bs f) v → In v (uses_in (Some f))
    used_flat v d u = ⊎_elim
        (λ b.
        let p = pair (kit_reading leads numbered) h bs f given b.0 b.2.stands in
        has_to_in v (blocks_operands f)
        (used_of v f p.place p.k p.op p.at p.stands
        (subst (Has v) (operands_are (kit_reading leads numbered) (names_in bs) b.0.head p.op p.is) (has_get b.0.head.operands b.1 v b.2.operand))))
        (λ q. ⊎_elim (λ i. absurd (subst (Has v) given.no_operands i)) (λ e. absurd (none v d e)) q)
        u

    flat_used : (v : N.value) → In v (uses_in (Some f)) → sccp.IsUsed w (whole (kit_reading leads numbered) h bs f) v
    flat_used v i =
        let u = user_of v f (in_to_has v (blocks_operands f) i) in
        let o = back (kit_reading leads numbered) h bs f given u.b u.k u.op u.at u.stands in
        let at = at_has o.it.head.operands v (subst (Has v) (sym (operands_are (kit_reading leads numbered) (names_in bs) o.it.head u.op o.is)) u.operand) in
        inl (o.it, at.place, record { stands = o.stands; operand = at.is })

    used_there : (v : N.value) (n : ℕ) (o : Option IntegerAttr) → made v ≡ o → option_map (λ (a : IntegerAttr). a.bits) o ≡ Some n → In v (uses_in (Some f))
    used_there v n None e q = absurd (none_some n q)
    used_there v n (Some a) e q =
        let g = is_made.gets v a e in
        used_flat v
        (⊎_elim
        (λ (z : IsResult kit (whole (kit_reading leads numbered) h bs f) k v). result_defined (region bs end) (root_spot (kit_reading leads numbered) h bs f given) z.definer v z.stands z.result)
        (λ (z : IsArgument (whole (kit_reading leads numbered) h bs f) k.runs v). argument_defined (region bs end) (root_spot (kit_reading leads numbered) h bs f given) z.definer v z.stands z.argument)
        g.place)
        g.used

    -- the fact of a value that is defined, where it is, and that it has a use
    made_here : (v : N.value) (n : ℕ) → l.of v ≡ flat.Known n → Has v (defined_in (region bs end)) → In v (uses_in (Some f)) → IsResult kit (whole (kit_reading leads numbered) h bs f) k v ⊎ IsArgument (whole (kit_reading leads numbered) h bs f) k.runs v → numbers made v ≡ Some n
    made_here v n e i u place =
        let is = subst (IsKnownAs leads (type_at v) (k.of v)) e (agree.of v i) in
        ap (option_map (λ (a : IntegerAttr). a.bits)) (is_made.all v (number_as leads (type_at v) n) (record { known = is.0; maker = operation_of ops.Constant ((constant_value, attrs.Integer (number_as leads (type_at v) n)) ∷ []); made_by = refl; place = place; used = flat_used v u }))

    back_again : (v : N.value) (n : ℕ) → GetsIn f l v n → In v (uses_in (Some f)) → numbers made v ≡ Some n
    back_again v n g u = ⊎_elim
        (λ i.
        let x = block_back (kit_reading leads numbered) h bs f given g.b g.block g.stands in
        let has = subst (Has v) (sym x.same.arguments) i in
        made_here v n g.known (argument_defined (region bs end) (root_spot (kit_reading leads numbered) h bs f given) x.it v x.stands has) u
        (inr (record { definer = x.it; stands = x.stands; in_run = sym (agree.runs g.b x.it.label.name x.same.name) ∙ g.runs; argument = has })))
        (λ (i : (p : Op N.value) × Has p g.block.ops × IsCalculated v p).
        let o = back (kit_reading leads numbered) h bs f given g.b g.block i.0 g.stands i.1 in
        let m = makes_of o.it.head (names_in bs) v i.0 o.is i.2 in
        made_here v n g.known (result_defined (region bs end) (root_spot (kit_reading leads numbered) h bs f given) o.it v o.stands m.result) u
        (inl (record { definer = o.it; stands = o.stands; runs = sym (agree.runs g.b o.it.site.label.name o.name) ∙ g.runs; folds = m.folds; no_constant = m.no_constant; result = m.result }))) g.place

    -- no constant and no result of a call gets a constant
    only : (o : Occurrence N kit_contents) → Has o (occurrences_of (whole (kit_reading leads numbered) h bs f)) → (v : N.value) (p : Op N.value) → Has v (names_of o.head.results) → IsOp (kit_reading leads numbered) (names_in bs) o.head p → (IsCalculated v p → ⊥) → made v ≡ None
    only o i v p j is n = step (made v) refl
      where
        step : (z : Option IntegerAttr) → made v ≡ z → made v ≡ None
        step None e = e
        step (Some a) e =
            absurd (⊎_elim
            (λ (q : IsResult kit (whole (kit_reading leads numbered) h bs f) k v).
            let one = one_maker (kit_reading leads numbered) h bs f given q.definer o v q.stands i q.result j in
            n (calculated o.head (names_in bs) v p is (ap (λ (z : Occurrence N kit_contents). kit.is_foldable z.head.content) (sym one) ∙ q.folds) (ap (λ (z : Occurrence N kit_contents). kit.is_constant z.head.content) (sym one) ∙ q.no_constant) j))
            (λ (q : IsArgument (whole (kit_reading leads numbered) h bs f) k.runs v). not_both (kit_reading leads numbered) h bs f given o q.definer v i q.stands j q.argument) (is_made.gets v a e).place)

    pub put_flat : FlattensTo {N = fresh N} (kit_reading leads numbered) (put_root {N = N} kit made (whole (kit_reading leads numbered) h bs f)) (rest made f)
    put_flat = record {
      view = record {
        function = given.function;
        no_operands = ap (map (λ v. sccp.used_as v (made v))) given.no_operands;
        blocks = put {N = N} kit made bs;
        region = refl;
        are = subst (λ z. AreFlatBlocks {N = fresh N} (kit_reading leads numbered) z (put {N = N} kit made bs) (rest made f)) (sym (names_put {N = N} made bs))
            (blocks_put leads numbered (names_in bs) made bs f (root_spot (kit_reading leads numbered) h bs f given) given.are (λ o i. only o (has-left o (occurrences_in bs (root_spot (kit_reading leads numbered) h bs f given)) [] i)));
      };
      operations = from_distinct (sccp.Old h.name ∷ map (λ (z : Head (fresh N) kit_contents). z.name) (heads_in (put {N = N} kit made (region bs end)))) (operations_distinct {N = N} made h.name (region bs end) (to_distinct (operation_names (whole (kit_reading leads numbered) h bs f)) given.operations) (to_distinct (defined_in (region bs end)) given.values));
      blocks = subst AreDistinct (sym (names_put {N = N} made bs)) given.blocks;
      values = from_distinct (defined_in (put {N = N} kit made (region bs end))) (values_distinct {N = N} made (region bs end) (to_distinct (defined_in (region bs end)) given.values));
      edges = rest_fits made f given.edges;
    }

    pub made_exactly : (v : N.value) (n : ℕ) → (numbers made v ≡ Some n) ↔ (GetsConstant (Some f) l v n × In v (uses_in (Some f)))
    made_exactly v n = (
      λ e. ((gets_both f l v n).0 (there v n (made v) refl e), used_there v n (made v) refl e),
      λ g. back_again v n ((gets_both f l v n).1 g.0) g.1,
    )

module _ {N : Names} (leads : TypeHandle → Option KitType) (numbered : List ℕ → ℕ) (same : N.value → N.value → Bool) (sameness : IsSameness same) (same_block : N.block → N.block → Bool) (block_law : IsSameness same_block) (type_at : N.value → TypeHandle) where
  pub propagated : (w : TreeSurroundings N IntegerAttr) (t : Root N kit_contents) (after : Root (fresh N) kit_contents) (f : Fun N.value) → FlattensTo (kit_reading leads numbered) t f → IsTyped leads {N = N} type_at t → NothingPinned w t → IsSccp kit w t after → IsPropagatedView {N = N} leads numbered f after
  propagated w t after f is_flat typed unpinned pass =
      let bs : Tree N kit_contents Blocks = is_flat.view.blocks in
      let given : Given (kit_reading leads numbered) t.head bs f = given_of (kit_reading leads numbered) t f is_flat in
      let e : t ≡ whole (kit_reading leads numbered) t.head bs f = λ i. record { head = t.head; regions = is_flat.view.region i } in
      let best = flat_best leads numbered same sameness same_block block_law type_at t f pass.facts is_flat typed pass.best in
      let agree = subst (λ z. AreFlatly leads {N = N} type_at z (names_in bs) pass.facts best.0) e best.2 in
      let none = subst (λ z. NothingPinned w z) e unpinned in
      let is_made = subst (λ z. AreMadeConstants kit w z pass.facts pass.made) e pass.is_made in
      let is : after ≡ put_root {N = N} kit pass.made (whole (kit_reading leads numbered) t.head bs f) = pass.is ∙ ap (put_root {N = N} kit pass.made) e in
      record {
        put = map (replace_block (use_of (numbers pass.made))) (map (put_block (numbers pass.made)) f);
        propagates = record {
          facts = best.0;
          best = best.1;
          made = numbers pass.made;
          gets = made_exactly leads numbered type_at t.head bs f given pass.facts best.0 agree w none pass.made is_made;
          is = refl;
        };
        is_view = subst (λ z. FlattensTo {N = fresh N} (kit_reading leads numbered) z (rest pass.made f)) (sym is) (put_flat leads numbered type_at t.head bs f given pass.facts best.0 agree w none pass.made is_made);
      }
