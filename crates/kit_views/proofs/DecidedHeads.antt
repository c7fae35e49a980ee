-- Branches that constants decide, in the tree and in the flat view.
use Rattle.std.proofs.Common.{◌≡◌, ℕ, zero, suc, ◌<◌, ◌^◌, Bool, true, false, List, [], ◌∷◌, ◌++◌, map, Option, Some, None, refl, sym, ap, ◌∙◌, subst, arith}
use Rattle.std.specs.Prelude.{slice_get, if◌then◌else◌, not, ◌&&◌}
use Rattle.ir_base.specs.declared.types.TypeHandle.{TypeHandle}
use Rattle.ir_names.specs.declared.interfaces.OpInterface.TheVariants as op
use Rattle.ir_trees.specs.Names.{Names}
use Rattle.ir_trees.specs.Renames.{names_of}
use Rattle.ir_trees.specs.Trees.{Defined, Head, Blocks, Tree}
use Rattle.opt_trees.specs.Dce.{TreeSurroundings}
use Rattle.opt_trees.specs.Occurrences.{Has, cons_if, Occurrence, occurrences_of}
use Rattle.opt_trees.specs.Simplify.{is_empty, is_end, is_bare, along_edge, decide_head}
use Rattle.kit_behaviour.specs.DecidedBranches.{branch_by, decide_op}
use Rattle.kit_behaviour.specs.Facts.{Fact, Unknown, Known, FunctionFacts, Numbers, knows_more}
use Rattle.kit_behaviour.specs.Machine.{Edge, Plain, Nonzero, Cases, chosen, edge_at, Op, Const, Calc, Emit, Call, Branch, Return, Fun}
use Rattle.kit_ops.specs.declared.attributes.IntegerAttr.{IntegerAttr}
use Rattle.kit_ops.specs.declared.kinds.KitOp.{KitOp}
use Rattle.kit_ops.specs.declared.kinds.KitOp.TheVariants as ops
use Rattle.kit_ops.specs.declared.types.KitType.{KitType}
use Rattle.kit.specs.Meaning.{kit, is_br, edge_of, picked_by}
use Rattle.kit_ops.specs.Table.{has_interface}
use Rattle.kit_views.specs.Reading.{kit_contents, kit_reading, integer_of}
use Rattle.kit_views.specs.FlatView.{kind_of, IsOp, names_in}
use Rattle.kit_views.specs.Typed.{number_as, width_at, LeadsToBit, TypesFit, IsTyped}
use Rattle.kit_views.proofs.OwnConstants.{KnowsExactly}
use Rattle.kit_views.proofs.Read.{kit_reads}
use Rattle.kit_views.proofs.Excused.{arith_branch}
use Rattle.kit_views.proofs.Forwarded.{IsForwarding, from_branch}
use Rattle.kit_views.proofs.Standing.{whole, Given, pair, leads_by}
use Rattle.kit_views.proofs.BranchFacts.{pick_of, chosen_pick, pick_small, forwards_are}

-- the facts that are known alone
abbrev pub fact_of : Option IntegerAttr → Fact
fact_of None = Unknown
fact_of (Some a) = Known a.bits

abbrev pub facts_of : {N : Names} → TreeSurroundings N IntegerAttr → FunctionFacts N.value
facts_of w = record { runs = λ b. true; of = λ v. fact_of (w.alone v) }

empty_is : {V T : Type 0} (ds : List (Defined V T)) → names_of ds ≡ [] → is_empty ds ≡ true
empty_is [] e = refl
empty_is (v ∷ ds) e = absurd (cc e)

and_false : (b : Bool) → b && false ≡ false
and_false true = refl
and_false false = refl

append_none : {X : Type 0} (xs : List X) → xs ≡ xs ++ []
append_none [] = refl
append_none (x ∷ xs) = ap (λ l. x ∷ l) (append_none xs)

among_two : {V : Type 0} (e e2 : Edge V) (n : ℕ) → n < 2 → slice_get (e ∷ e2 ∷ []) n ≡ Some (edge_at e (e2 ∷ []) n)
among_two e e2 zero h = refl
among_two e e2 (suc zero) h = refl
among_two e e2 (suc (suc n)) h = absurd (omega (arith, h))

module _ {N : Names} (leads : TypeHandle → Option KitType) (numbered : List ℕ → ℕ) (h : Head N kit_contents) (bs : Tree N kit_contents Blocks) (f : Fun N.value) (given : Given (kit_reading leads numbered) h bs f) (type_at : N.value → TypeHandle) (typed : IsTyped leads {N = N} type_at (whole (kit_reading leads numbered) h bs f)) (w : TreeSurroundings N IntegerAttr) (constants : KnowsExactly w (whole (kit_reading leads numbered) h bs f)) where
  abbrev Whole : Occurrence N kit_contents → Type 0
  Whole o = Has o (occurrences_of (whole (kit_reading leads numbered) h bs f))

  -- a value that is known alone is a number of its type
  small : (v : N.value) (a : IntegerAttr) → w.alone v ≡ Some a → a.bits < 2 ^ width_at leads (type_at v)
  small v a e =
      let q = (constants v a).0 e in
      let t = subst (λ z. TypesFit leads {N = N} type_at z q.definer.head) q.constant (typed.operations q.definer q.stands) v q.result in
      let same : number_as leads (type_at v) t.0 ≡ a = let s = sym t.1 ∙ q.value in cc s in
      subst (λ (z : IntegerAttr). z.bits < 2 ^ width_at leads (type_at v)) same t.2

  no_branch : (o : Occurrence N kit_contents) → kit.is_branch o.head.content ≡ false → decide_head kit w.alone o.head o.regions ≡ o.head
  no_branch o e = ap (λ b. if (b && (is_empty o.head.results && is_end o.regions)) && not (kit.is_plain o.head.content) then along_edge kit o.head (kit.edge o.head.content (map w.alone o.head.operands)) kit.plain else o.head) e

  by_kind : (o : Occurrence N kit_contents) (kd : KitOp) → o.head.content.kind ≡ kd → has_interface kd op.Branch ≡ false → decide_head kit w.alone o.head o.regions ≡ o.head
  by_kind o kd e q = no_branch o (ap (λ z. has_interface z op.Branch) e ∙ q)

  plain_stays : (o : Occurrence N kit_contents) → o.head.content.kind ≡ ops.Br → decide_head kit w.alone o.head o.regions ≡ o.head
  plain_stays o e =
      ap (λ b. if is_bare kit o.head o.regions && not b then along_edge kit o.head (kit.edge o.head.content (map w.alone o.head.operands)) kit.plain else o.head) (ap is_br e)
      ∙ ap (λ b. if b then along_edge kit o.head (kit.edge o.head.content (map w.alone o.head.operands)) kit.plain else o.head) (and_false (is_bare kit o.head o.regions))

  two_along : (o : Occurrence N kit_contents) → Whole o → o.head.content.kind ≡ ops.CondBr → names_of o.head.results ≡ [] → decide_head kit w.alone o.head o.regions ≡ along_edge kit o.head (edge_of ops.CondBr (map w.alone o.head.operands)) kit.plain
  two_along o i e results =
      let regions : is_end o.regions ≡ true = ap is_end (pair (kit_reading leads numbered) h bs f given o i).regions in
      let branch : kit.is_branch o.head.content ≡ true = ap (λ z. has_interface z op.Branch) e in
      let other : kit.is_plain o.head.content ≡ false = ap is_br e in
      (λ j. if (branch j && (empty_is o.head.results results j && regions j)) && not (other j) then along_edge kit o.head (kit.edge o.head.content (map w.alone o.head.operands)) kit.plain else o.head)
      ∙ ap (λ z. along_edge kit o.head (edge_of z (map w.alone o.head.operands)) kit.plain) e

  pub op_decided : (o : Occurrence N kit_contents) (p : Op N.value) → Whole o → IsOp (kit_reading leads numbered) (names_in bs) o.head p → IsOp (kit_reading leads numbered) (names_in bs) (decide_head kit w.alone o.head o.regions) (decide_op (facts_of w) p)
  op_decided o (Const y n) i is = subst (λ z. IsOp (kit_reading leads numbered) (names_in bs) z (Const y n)) (sym (by_kind o ops.Constant is.0.kind refl)) is
  op_decided o (Calc a u y b c) i is = subst (λ z. IsOp (kit_reading leads numbered) (names_in bs) z (Calc a u y b c)) (sym (by_kind o (kind_of a) is.0.kind (arith_branch a))) is
  op_decided o (Emit x) i is = subst (λ z. IsOp (kit_reading leads numbered) (names_in bs) z (Emit x)) (sym (by_kind o ops.Emit is.kind refl)) is
  op_decided o (Call rs c xs) i is = subst (λ z. IsOp (kit_reading leads numbered) (names_in bs) z (Call rs c xs)) (sym (by_kind o ops.Call is.0.kind refl)) is
  op_decided o (Return xs) i is = subst (λ z. IsOp (kit_reading leads numbered) (names_in bs) z (Return xs)) (sym (by_kind o ops.Return is.kind refl)) is
  op_decided o (Branch Plain [] e []) i is = subst (λ z. IsOp (kit_reading leads numbered) (names_in bs) z (Branch Plain [] e [])) (sym (plain_stays o is.0.kind)) is
  op_decided o (Branch Plain [] e (e2 ∷ es)) i is = absurd (omega (arith, is.2))
  op_decided o (Branch Plain (x ∷ xs) e es) i is = absurd (omega (arith, is.1))
  op_decided o (Branch Nonzero [] e es) i is = absurd (omega (arith, is.1))
  op_decided o (Branch Nonzero (x ∷ (y ∷ xs)) e es) i is = absurd (omega (arith, is.1))
  op_decided o (Branch Nonzero (x ∷ []) e []) i is = absurd (omega (arith, is.2))
  op_decided o (Branch Nonzero (x ∷ []) e (e2 ∷ (e3 ∷ es))) i is = absurd (omega (arith, is.2))
  op_decided o (Branch Nonzero (x ∷ []) e (e2 ∷ [])) i is = step (w.alone x) refl
    where
      v : IsForwarding kit (names_in bs) o.head (x ∷ []) (e ∷ e2 ∷ [])
      v = from_branch kit (kit_reading leads numbered) (kit_reads leads numbered) (names_in bs) o.head Nonzero (x ∷ []) e (e2 ∷ []) is

      along : (q : Option IntegerAttr) → w.alone x ≡ q → decide_head kit w.alone o.head o.regions ≡ along_edge kit o.head (picked_by q) kit.plain
      along q g = two_along o i is.0.kind v.results ∙ (ap (λ z. along_edge kit o.head (edge_of ops.CondBr (map w.alone z)) kit.plain) v.operands ∙ ap (λ z. along_edge kit o.head (picked_by z) kit.plain) g)

      flat_is : (q : Option IntegerAttr) → w.alone x ≡ q → branch_by (knows_more (fact_of q) (Numbers [])) Nonzero (x ∷ []) e (e2 ∷ []) ≡ decide_op (facts_of w) (Branch Nonzero (x ∷ []) e (e2 ∷ []))
      flat_is q g = ap (λ z. branch_by (knows_more (fact_of z) (Numbers [])) Nonzero (x ∷ []) e (e2 ∷ [])) (sym g)

      step : (q : Option IntegerAttr) → w.alone x ≡ q → IsOp (kit_reading leads numbered) (names_in bs) (decide_head kit w.alone o.head o.regions) (decide_op (facts_of w) (Branch Nonzero (x ∷ []) e (e2 ∷ [])))
      step None g =
          subst (IsOp (kit_reading leads numbered) (names_in bs) (decide_head kit w.alone o.head o.regions)) (flat_is None g)
          (subst (λ z. IsOp (kit_reading leads numbered) (names_in bs) z (Branch Nonzero (x ∷ []) e (e2 ∷ []))) (sym (along None g)) is)
      step (Some a) g =
          let bit : LeadsToBit leads (type_at x) = subst (λ z. TypesFit leads {N = N} type_at z o.head) is.0.kind (typed.operations o i) x (ap (λ z. slice_get z 0) v.operands) in
          let n : ℕ = a.bits in
          let lt : n < 2 = subst (λ z. n < 2 ^ z) (ap (λ z. (integer_of z).width) bit) (small x a g) in
          let b = leads_by (names_in bs) o.head.successors (e ∷ e2 ∷ []) v.successors (pick_of n) (edge_at e (e2 ∷ []) (pick_of n)) (among_two e e2 (pick_of n) (pick_small n)) in
          let fw = forwards_are leads numbered h bs f given type_at typed o i (x ∷ []) (e ∷ e2 ∷ []) v (pick_of n) (edge_at e (e2 ∷ []) (pick_of n)) (among_two e e2 (pick_of n) (pick_small n)) in
          let pick : pick_of n ≡ chosen Nonzero (n ∷ []) = sym (chosen_pick n lt) in
          subst (IsOp (kit_reading leads numbered) (names_in bs) (decide_head kit w.alone o.head o.regions)) (flat_is (Some a) g)
          (subst (λ z. IsOp (kit_reading leads numbered) (names_in bs) z (Branch Plain [] (edge_at e (e2 ∷ []) (chosen Nonzero (n ∷ []))) [])) (sym (along (Some a) g))
          (subst (λ m. IsOp (kit_reading leads numbered) (names_in bs) (along_edge kit o.head (Some (pick_of n)) kit.plain) (Branch Plain [] (edge_at e (e2 ∷ []) m) [])) pick (
            record {
              kind = refl;
              results = v.results;
              operands = fw ∙ append_none (edge_at e (e2 ∷ []) (pick_of n)).forwards;
              successors = ap (λ z. map Some (cons_if z [])) b.successor ∙ ap (λ z. z ∷ []) (sym b.name);
            },
            refl,
            refl,
          )))
  op_decided o (Branch (Cases ns) xs e es) i is = absurd is
