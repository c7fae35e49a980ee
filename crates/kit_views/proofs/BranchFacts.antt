-- What a branch asks of facts, in the tree and in the flat function.
use Rattle.std.proofs.Common.{◌≡◌, ⊎_elim, inl, inr, ℕ, zero, suc, ◌+◌, ◌-◌, ◌<◌, ◌^◌, Bool, true, false, List, [], ◌∷◌, ◌++◌, map, length, Option, Some, None, refl, sym, ap, ◌∙◌, subst, arith}
use Rattle.std.specs.Prelude.{slice_get, nat_eq, if◌then◌else◌}
use Rattle.std.proofs.lemmas.Bool.{eqb-true}
use Rattle.ir_base.specs.declared.types.TypeHandle.{TypeHandle}
use Rattle.ir_trees.specs.Names.{Names}
use Rattle.ir_trees.specs.Renames.{names_of}
use Rattle.ir_trees.specs.Trees.{Head, Blocks, Tree, end, region}
use Rattle.opt_rows.specs.declared.known.Known.TheVariants as known
use Rattle.opt_rows.specs.Known as tree
use Rattle.opt_rows.specs.Known.{asked}
use Rattle.opt_trees.specs.Facts as trees
use Rattle.opt_trees.specs.Facts.{forwarded, IsFeasible}
use Rattle.opt_trees.specs.Occurrences.{Has, Occurrence, BlockOccurrence, occurrences_of, block_occurrences_of, defined_in, picks}
use Rattle.opt_trees.proofs.Lists.{some_same, none_some}
use Rattle.opt_trees.proofs.Defined.{argument_defined}
use Rattle.kit_behaviour.specs.Facts.{Undetermined, Knows, Lacks, Numbers, Open, knows_more, knows, all_forwarded, branch_knows, BranchClosedIn, EdgeClosedIn}
use Rattle.kit_behaviour.specs.Facts as flat
use Rattle.kit_behaviour.specs.Machine.{AllEdges, Edge, Select, Plain, Nonzero, Cases, chosen, edge_at, Fun}
use Rattle.kit_behaviour.specs.Rules.{EdgeFits}
use Rattle.kit_ops.specs.declared.attributes.IntegerAttr.{IntegerAttr}
use Rattle.kit_ops.specs.declared.kinds.KitOp.TheVariants as ops
use Rattle.kit_ops.specs.declared.types.KitType.{KitType}
use Rattle.kit.specs.Folded.{same_number}
use Rattle.kit.specs.Meaning.{kit, feasible_of}
use Rattle.kit_views.specs.Reading.{kit_contents, kit_reading, integer_of}
use Rattle.kit_views.specs.FlatView.{IsFlatBranch, names_in}
use Rattle.kit_views.specs.Typed.{number_as, width_at, LeadsToBit, TypesFit, IsTyped}
use Rattle.kit_views.proofs.Lists.{has_get, at_has}
use Rattle.kit_views.proofs.Read.{kit_reads}
use Rattle.kit_views.proofs.Forwarded.{start, start_least, forwarded_at, get_right, get_there, IsForwarding, from_branch}
use Rattle.kit_views.proofs.Uses.{edge_fits}
use Rattle.kit_views.proofs.Standing.{whole, Given, root_spot, block_back, arguments_are, to_tree, edge_by, leads_by}
use Rattle.kit_views.proofs.Folding.{Det, number, any}
use Rattle.kit_views.proofs.Dets.{asked_none, asked_some, first_number, first_any, det_knows, knows_none, unless, unless_parts, below_tree, below_flat, picks_range, all_edges_at}

abbrev pub pick_of : ℕ → ℕ
pick_of n = if nat_eq n 1 then 0 else 1

pub chosen_pick : (n : ℕ) → n < 2 → chosen Nonzero (n ∷ []) ≡ pick_of n
chosen_pick zero h = refl
chosen_pick (suc zero) h = refl
chosen_pick (suc (suc n)) h = absurd (omega (arith, h))

pub pick_small : (n : ℕ) → pick_of n < 2
pick_small n = step (nat_eq n 1)
  where
    step : (b : Bool) → (if b then 0 else 1) < 2
    step true = omega arith
    step false = omega arith

module _ {N : Names} (leads : TypeHandle → Option KitType) (numbered : List ℕ → ℕ) (h : Head N kit_contents) (bs : Tree N kit_contents Blocks) (f : Fun N.value) (given : Given (kit_reading leads numbered) h bs f) (type_at : N.value → TypeHandle) (typed : IsTyped leads {N = N} type_at (whole (kit_reading leads numbered) h bs f)) where
  abbrev pub Stands : Occurrence N kit_contents → Type 0
  Stands o = Has o (occurrences_of (whole (kit_reading leads numbered) h bs f))

  abbrev pub Defined : N.value → Type 0
  Defined v = Has v (defined_in (region bs end))

  module _ (o : Occurrence N kit_contents) (here : Stands o) (xs : List N.value) (es : List (Edge N.value)) (v : IsForwarding kit (names_in bs) o.head xs es) where
    operand_at : (j : ℕ) (e : Edge N.value) (p i : ℕ) (u : N.value) → slice_get es j ≡ Some e → slice_get e.forwards p ≡ Some u → i ≡ start es (length xs) j + p → slice_get o.head.operands i ≡ Some u
    operand_at j e p i u at is q =
        let l = start_least es (length xs) j in
        ap (λ z. slice_get z i) v.operands ∙ get_right xs (all_forwarded es) i (i - length xs) u (omega (arith, q, l)) (forwarded_at es (length xs) j p (i - length xs) e u at is (omega (arith, q, l)))

    pub forwards_are : (j : ℕ) (e : Edge N.value) → slice_get es j ≡ Some e → forwarded kit o.head j ≡ e.forwards
    forwards_are j e at = ap (picks o.head.operands) (v.forwards j e at) ∙ picks_range o.head.operands e.forwards (start es (length xs) j) (λ p i u is q. operand_at j e p i u at is q)

    -- an argument and what is forwarded to it
    pub record Partners (t g : N.value) : Type 0 where
      pub argument : Defined t
      pub given_one : Defined g
      pub same_type : type_at g ≡ type_at t

    partners : (j : ℕ) (e : Edge N.value) (x : BlockOccurrence N kit_contents) → slice_get es j ≡ Some e → Has x (block_occurrences_of (whole (kit_reading leads numbered) h bs f)) → slice_get (names_in bs) e.target ≡ Some x.label.name → (p : ℕ) (t g : N.value) → slice_get (names_of x.label.arguments) p ≡ Some t → slice_get e.forwards p ≡ Some g → Partners t g
    partners j e x at stands name p t g ta ga =
        let i : ℕ = start es (length xs) j + p in
        let op = operand_at j e p i g at ga refl in
        let takes = ap (λ z. slice_get z p) (sym (arguments_are (kit_reading leads numbered) h bs f given x stands e.target name)) ∙ ta in
        record {
          argument = argument_defined (region bs end) (root_spot (kit_reading leads numbered) h bs f given) x t stands (has_get (names_of x.label.arguments) p t ta);
          given_one = typed.operands o g here (has_get o.head.operands i g op);
          same_type = typed.forwards o i g t here op (to_tree kit (kit_reading leads numbered) h bs f given o xs es v j e p i g t at ga refl takes);
        }

    module _ (k : trees.Facts N IntegerAttr) (l : flat.FunctionFacts N.value) (runs : (n : ℕ) (b : N.block) → slice_get (names_in bs) n ≡ Some b → l.runs n ≡ k.runs b) where
      edge_tree : ((t g : N.value) → Partners t g → flat.FactAtOrBelow (l.of t) (l.of g) → tree.AtOrBelow (k.of t) (k.of g)) → (j : ℕ) (e : Edge N.value) (b : N.block) → slice_get es j ≡ Some e → slice_get (names_in bs) e.target ≡ Some b → EdgeClosedIn (Some f) l e → trees.EdgeClosed kit (block_occurrences_of (whole (kit_reading leads numbered) h bs f)) k o.head j b
      edge_tree order j e b at name c = record {
        target = sym (runs e.target b name) ∙ c.0;
        arguments = λ x stands q.
            let n = name ∙ ap Some (sym q) in
            let a = arguments_are (kit_reading leads numbered) h bs f given x stands e.target n in
            subst (λ z. tree.AllBelow k.of (names_of x.label.arguments) (map k.of z)) (sym (forwards_are j e at))
            (below_tree leads type_at k.of l.of (names_of x.label.arguments) e.forwards (λ p t g ta ga. order t g (partners j e x at stands n p t g ta ga)) l refl (subst (λ z. flat.AllFactsAtOrBelow l z e.forwards) (sym a) c.1));
      }

      edge_flat : ((t g : N.value) → Partners t g → tree.AtOrBelow (k.of t) (k.of g) → flat.FactAtOrBelow (l.of t) (l.of g)) → (j : ℕ) (e : Edge N.value) (b : N.block) → slice_get es j ≡ Some e → EdgeFits (Some f) e → slice_get (names_in bs) e.target ≡ Some b → trees.EdgeClosed kit (block_occurrences_of (whole (kit_reading leads numbered) h bs f)) k o.head j b → EdgeClosedIn (Some f) l e
      edge_flat order j e b at fits name c =
          let there = get_there f e.target fits.leads in
          let x = block_back (kit_reading leads numbered) h bs f given e.target there.0 there.1 in
          let q : x.it.label.name ≡ b = some_same x.it.label.name b (sym x.same.name ∙ name) in
          let a = arguments_are (kit_reading leads numbered) h bs f given x.it x.stands e.target x.same.name in (
            runs e.target b name ∙ c.target,
            subst (λ z. flat.AllFactsAtOrBelow l z e.forwards) a
                (below_flat leads type_at k.of l.of (names_of x.it.label.arguments) e.forwards (λ p t g ta ga. order t g (partners j e x.it at x.stands x.same.name p t g ta ga)) l refl
                (subst (λ z. tree.AllBelow k.of (names_of x.it.label.arguments) (map k.of z)) (forwards_are j e at) (c.arguments x.it x.stands q))),
          )

  module _ (k : trees.Facts N IntegerAttr) (l : flat.FunctionFacts N.value) (runs : (n : ℕ) (b : N.block) → slice_get (names_in bs) n ≡ Some b → l.runs n ≡ k.runs b) (o : Occurrence N kit_contents) (here : Stands o) where
    abbrev IsDet : N.value → Type 0
    IsDet v = Det leads (type_at v) (k.of v) (l.of v)

    one_bit : (x : N.value) (n : ℕ) → LeadsToBit leads (type_at x) → n < 2 ^ width_at leads (type_at x) → n < 2
    one_bit x n b lt = subst (λ w. n < 2 ^ w) (ap (λ z. (integer_of z).width) b) lt

    feasible_number : (a : IntegerAttr) (ys : List (Option IntegerAttr)) (j : ℕ) → o.head.content.kind ≡ ops.CondBr → kit.feasible o.head.content (Some a ∷ ys) j ≡ nat_eq (pick_of a.bits) j
    feasible_number a ys j e = ap (λ z. feasible_of z (Some a ∷ ys) j) e

    -- the edge that is feasible is the one that is chosen
    feasible_is : (n : ℕ) (ys qs : List (Option IntegerAttr)) (ty : TypeHandle) (j : ℕ) → o.head.content.kind ≡ ops.CondBr → qs ≡ Some (number_as leads ty n) ∷ ys → kit.feasible o.head.content qs j ≡ true → pick_of n ≡ j
    feasible_is n ys qs ty j e q t = eqb-true (pick_of n) j (sym (ap (λ z. kit.feasible o.head.content z j) q ∙ feasible_number (number_as leads ty n) ys j e) ∙ t)

    is_feasible : (n : ℕ) (ys qs : List (Option IntegerAttr)) (ty : TypeHandle) → o.head.content.kind ≡ ops.CondBr → qs ≡ Some (number_as leads ty n) ∷ ys → kit.feasible o.head.content qs (pick_of n) ≡ true
    is_feasible n ys qs ty e q = ap (λ z. kit.feasible o.head.content z (pick_of n)) q ∙ feasible_number (number_as leads ty n) ys (pick_of n) e ∙ same_number (pick_of n)

    -- the edge with a small number among two
    among_two : (e e2 : Edge N.value) (n : ℕ) → n < 2 → slice_get (e ∷ e2 ∷ []) n ≡ Some (edge_at e (e2 ∷ []) n)
    among_two e e2 zero h = refl
    among_two e e2 (suc zero) h = refl
    among_two e e2 (suc (suc n)) h = absurd (omega (arith, h))

    module _ (kind_types : TypesFit leads {N = N} type_at o.head.content.kind o.head) where
      condition_bit : (x : N.value) (rest : List N.value) → o.head.content.kind ≡ ops.CondBr → o.head.operands ≡ x ∷ rest → LeadsToBit leads (type_at x)
      condition_bit x rest e q = subst (λ z. TypesFit leads {N = N} type_at z o.head) e kind_types x (ap (λ z. slice_get z 0) q)

      is_two : (xs : List N.value) (e : Edge N.value) (es : List (Edge N.value)) → IsFlatBranch (kit_reading leads numbered) (names_in bs) o.head Nonzero xs e es → o.head.content.kind ≡ ops.CondBr
      is_two xs e es is = is.0.kind

      forwarding : (s : Select) (xs : List N.value) (e : Edge N.value) (es : List (Edge N.value)) → IsFlatBranch (kit_reading leads numbered) (names_in bs) o.head s xs e es → IsForwarding kit (names_in bs) o.head xs (e ∷ es)
      forwarding s xs e es is = from_branch kit (kit_reading leads numbered) (kit_reads leads numbered) (names_in bs) o.head s xs e es is

      -- a branch that is closed in the flat function is closed in the tree
      module _ (det : (v : N.value) → Defined v → (k.of v ≡ known.Undetermined → ⊥) → IsDet v) (order : (t g : N.value) → Defined t → Defined g → type_at g ≡ type_at t → flat.FactAtOrBelow (l.of t) (l.of g) → tree.AtOrBelow (k.of t) (k.of g)) where
        module _ (qs : List (Option IntegerAttr)) (asks : asked (map k.of o.head.operands) ≡ Some qs) where
          all_det : (v : N.value) → Has v o.head.operands → IsDet v
          all_det v i = det v (typed.operands o v here i) (asked_none leads type_at k.of l.of o.head.operands qs asks v i)

          flat_edge : (s : Select) (xs : List N.value) (e : Edge N.value) (es : List (Edge N.value)) → IsFlatBranch (kit_reading leads numbered) (names_in bs) o.head s xs e es → BranchClosedIn (Some f) l s (branch_knows l xs (e ∷ es)) e es → (i : ℕ) (g : Edge N.value) (b : N.block) → slice_get (e ∷ es) i ≡ Some g → slice_get (names_in bs) g.target ≡ Some b → IsFeasible kit o.head qs b → EdgeClosedIn (Some f) l g
          flat_edge Plain [] e [] is c i g b at name feas =
              let v = forwarding Plain [] e [] is in
              let n = det_knows leads type_at k.of l.of (all_forwarded (e ∷ [])) (λ u j. all_det u (subst (Has u) (sym v.operands) j)) in
              let m = subst (λ z. BranchClosedIn (Some f) l Plain z e []) (unless (knows (map l.of (all_forwarded (e ∷ [])))) (Numbers []) n) c in
              all_edges_at (λ x. x.target ≡ e.target → EdgeClosedIn (Some f) l x) (e ∷ []) m i g at (only i g at)
            where
              only : (i : ℕ) (g : Edge N.value) → slice_get (e ∷ []) i ≡ Some g → g.target ≡ e.target
              only zero g at = ap (λ (z : Edge N.value). z.target) (sym (some_same e g at))
              only (suc i) g at = absurd (none_some g at)
          flat_edge Plain [] e (e2 ∷ es) is c i g b at name feas = absurd (omega (arith, is.2))
          flat_edge Plain (x ∷ xs) e es is c i g b at name feas = absurd (omega (arith, is.1))
          flat_edge Nonzero [] e es is c i g b at name feas = absurd (omega (arith, is.1))
          flat_edge Nonzero (x ∷ (y ∷ xs)) e es is c i g b at name feas = absurd (omega (arith, is.1))
          flat_edge Nonzero (x ∷ []) e [] is c i g b at name feas = absurd (omega (arith, is.2))
          flat_edge Nonzero (x ∷ []) e (e2 ∷ (e3 ∷ es)) is c i g b at name feas = absurd (omega (arith, is.2))
          flat_edge Nonzero (x ∷ []) e (e2 ∷ []) is c i g b at name feas = step (all_det x (subst (Has x) (sym v.operands) (inl refl)))
            where
              v : IsForwarding kit (names_in bs) o.head (x ∷ []) (e ∷ e2 ∷ [])
              v = forwarding Nonzero (x ∷ []) e (e2 ∷ []) is

              n : knows (map l.of (all_forwarded (e ∷ e2 ∷ []))) ≡ Lacks → ⊥
              n = det_knows leads type_at k.of l.of (all_forwarded (e ∷ e2 ∷ [])) (λ u j. all_det u (subst (Has u) (sym v.operands) (inr j)))

              m : BranchClosedIn (Some f) l Nonzero (knows (map l.of (x ∷ []))) e (e2 ∷ [])
              m = subst (λ z. BranchClosedIn (Some f) l Nonzero z e (e2 ∷ [])) (unless (knows (map l.of (all_forwarded (e ∷ e2 ∷ [])))) (knows (map l.of (x ∷ []))) n) c

              asked_first : asked (map k.of (x ∷ all_forwarded (e ∷ e2 ∷ []))) ≡ Some qs
              asked_first = ap (λ z. asked (map k.of z)) (sym v.operands) ∙ asks

              step : IsDet x → EdgeClosedIn (Some f) l g
              step (number w a q lt) =
                  let small = one_bit x w (condition_bit x (all_forwarded (e ∷ e2 ∷ [])) (is_two (x ∷ []) e (e2 ∷ []) is) v.operands) lt in
                  let ys = first_number leads type_at k.of l.of x (all_forwarded (e ∷ e2 ∷ [])) qs (number_as leads (type_at x) w) a asked_first in
                  let j = feasible_is w ys.0 qs (type_at x) feas.0 (is_two (x ∷ []) e (e2 ∷ []) is) ys.1 feas.2 in
                  let pick : chosen Nonzero (w ∷ []) ≡ feas.0 = chosen_pick w small ∙ j in
                  let ge = edge_by (names_in bs) o.head.successors (e ∷ e2 ∷ []) v.successors feas.0 b feas.1 in
                  let two : feas.0 < 2 = subst (λ z. z < 2) j (pick_small w) in
                  let picked : ge.e ≡ edge_at e (e2 ∷ []) feas.0 = some_same ge.e (edge_at e (e2 ∷ []) feas.0) (sym ge.at ∙ among_two e e2 feas.0 two) in
                  let target : g.target ≡ (edge_at e (e2 ∷ []) (chosen Nonzero (w ∷ []))).target =
                  given.blocks g.target ge.e.target b name ge.name ∙ (ap (λ (z : Edge N.value). z.target) picked ∙ ap (λ z. (edge_at e (e2 ∷ []) z).target) (sym pick)) in
                  let open_numbers = subst (λ z. BranchClosedIn (Some f) l Nonzero (knows_more z (Numbers [])) e (e2 ∷ [])) q m in
                  all_edges_at (λ y. y.target ≡ (edge_at e (e2 ∷ []) (chosen Nonzero (w ∷ []))).target → EdgeClosedIn (Some f) l y) (e ∷ e2 ∷ []) open_numbers i g at target
              step (any a q) =
                  let all = subst (λ z. BranchClosedIn (Some f) l Nonzero (knows_more z (Numbers [])) e (e2 ∷ [])) q m in
                  all_edges_at (EdgeClosedIn (Some f) l) (e ∷ e2 ∷ []) all i g at
          flat_edge (Cases ns) xs e es is c i g b at name feas = absurd is

        pub branch_tree : (s : Select) (xs : List N.value) (e : Edge N.value) (es : List (Edge N.value)) → IsFlatBranch (kit_reading leads numbered) (names_in bs) o.head s xs e es → BranchClosedIn (Some f) l s (branch_knows l xs (e ∷ es)) e es → trees.BranchClosed kit (block_occurrences_of (whole (kit_reading leads numbered) h bs f)) k o.head true (asked (map k.of o.head.operands))
        branch_tree s xs e es is c = step (asked (map k.of o.head.operands)) refl
          where
            step : (q : trees.Asked IntegerAttr) → asked (map k.of o.head.operands) ≡ q → trees.BranchClosed kit (block_occurrences_of (whole (kit_reading leads numbered) h bs f)) k o.head true q
            step None asks = tt
            step (Some qs) asks = λ i b successor feas.
                let v = forwarding s xs e es is in
                let g = edge_by (names_in bs) o.head.successors (e ∷ es) v.successors i b successor in
                edge_tree o here xs (e ∷ es) v k l runs (λ t u p. order t u p.argument p.given_one p.same_type) i g.e b g.at g.name (flat_edge qs asks s xs e es is c i g.e b g.at g.name feas)

      -- and one that is closed in the tree is closed in the flat function
      module _ (det : (v : N.value) → Defined v → (l.of v ≡ Undetermined → ⊥) → IsDet v) (order : (t g : N.value) → Defined t → Defined g → type_at g ≡ type_at t → tree.AtOrBelow (k.of t) (k.of g) → flat.FactAtOrBelow (l.of t) (l.of g)) where
        module _ (s : Select) (xs : List N.value) (e : Edge N.value) (es : List (Edge N.value)) (is : IsFlatBranch (kit_reading leads numbered) (names_in bs) o.head s xs e es) (fits : AllEdges (EdgeFits (Some f)) (e ∷ es)) (c : trees.BranchClosed kit (block_occurrences_of (whole (kit_reading leads numbered) h bs f)) k o.head true (asked (map k.of o.head.operands))) (full : branch_knows l xs (e ∷ es) ≡ Lacks → ⊥) where
          operands_det : (v : N.value) → Has v o.head.operands → IsDet v
          operands_det v i =
              let w = forwarding s xs e es is in
              let a = at_has o.head.operands v i in
              det v (typed.operands o v here i)
              (either (xs) (all_forwarded (e ∷ es)) v (subst (Has v) w.operands i)
              (λ j. knows_none leads type_at k.of l.of xs (unless_parts (knows (map l.of (all_forwarded (e ∷ es)))) (knows (map l.of xs)) full).1 v j)
              (λ j. knows_none leads type_at k.of l.of (all_forwarded (e ∷ es)) (unless_parts (knows (map l.of (all_forwarded (e ∷ es)))) (knows (map l.of xs)) full).0 v j))
            where
              either : {C : Type 0} (ys zs : List N.value) (v : N.value) → Has v (ys ++ zs) → (Has v ys → C) → (Has v zs → C) → C
              either [] zs v i a b = b i
              either (y ∷ ys) zs v i a b = ⊎_elim (λ q. a (inl q)) (λ q. either ys zs v q (λ j. a (inr j)) b) i

          tree_edge : (qs : List (Option IntegerAttr)) → asked (map k.of o.head.operands) ≡ Some qs → (i : ℕ) (g : Edge N.value) → slice_get (e ∷ es) i ≡ Some g → ((b : N.block) → slice_get (names_in bs) g.target ≡ Some b → IsFeasible kit o.head qs b) → EdgeClosedIn (Some f) l g
          tree_edge qs asks i g at feas =
              let w = forwarding s xs e es is in
              let b = leads_by (names_in bs) o.head.successors (e ∷ es) w.successors i g at in
              let closed = subst (λ z. trees.BranchClosed kit (block_occurrences_of (whole (kit_reading leads numbered) h bs f)) k o.head true z) asks c in
              edge_flat o here xs (e ∷ es) w k l runs (λ t u p. order t u p.argument p.given_one p.same_type) i g b.b at (edge_fits (Some f) (e ∷ es) fits i g at) b.name (closed i b.b b.successor (feas b.b b.name))

        feasible_any : (ys qs : List (Option IntegerAttr)) (j : ℕ) → o.head.content.kind ≡ ops.CondBr → qs ≡ None ∷ ys → kit.feasible o.head.content qs j ≡ true
        feasible_any ys qs j e q = ap (λ z. kit.feasible o.head.content z j) q ∙ ap (λ z. feasible_of z (None ∷ ys) j) e

        feasible_plain : (qs : List (Option IntegerAttr)) (j : ℕ) → o.head.content.kind ≡ ops.Br → kit.feasible o.head.content qs j ≡ true
        feasible_plain qs j e = ap (λ z. feasible_of z qs j) e

        same_numbers : (ns ms : List ℕ) → Numbers ns ≡ Numbers ms → ns ≡ ms
        same_numbers ns ms e = cc e

        pub branch_flat : (s : Select) (xs : List N.value) (e : Edge N.value) (es : List (Edge N.value)) → IsFlatBranch (kit_reading leads numbered) (names_in bs) o.head s xs e es → AllEdges (EdgeFits (Some f)) (e ∷ es) → trees.BranchClosed kit (block_occurrences_of (whole (kit_reading leads numbered) h bs f)) k o.head true (asked (map k.of o.head.operands)) → BranchClosedIn (Some f) l s (branch_knows l xs (e ∷ es)) e es
        branch_flat Plain [] e [] is fits c = step (branch_knows l [] (e ∷ [])) refl
          where
            v : IsForwarding kit (names_in bs) o.head [] (e ∷ [])
            v = forwarding Plain [] e [] is

            closed : (branch_knows l [] (e ∷ []) ≡ Lacks → ⊥) → EdgeClosedIn (Some f) l e
            closed full =
                let a = asked_some leads type_at k.of l.of o.head.operands (operands_det Plain [] e [] is fits c full) in
                let b = leads_by (names_in bs) o.head.successors (e ∷ []) v.successors 0 e refl in
                tree_edge Plain [] e [] is fits c full a.0 a.1 0 e refl (λ z name. (0, b.successor ∙ (sym b.name ∙ name), feasible_plain a.0 0 is.0.kind))

            step : (q : Knows) → branch_knows l [] (e ∷ []) ≡ q → BranchClosedIn (Some f) l Plain q e []
            step Lacks z = tt
            step (Numbers ns) z = (λ t. closed (λ w. let u : Lacks ≡ Numbers ns = sym w ∙ z in cc u), tt)
            step Open z = (closed (λ w. let u : Lacks ≡ Open = sym w ∙ z in cc u), tt)
        branch_flat Plain [] e (e2 ∷ es) is fits c = absurd (omega (arith, is.2))
        branch_flat Plain (x ∷ xs) e es is fits c = absurd (omega (arith, is.1))
        branch_flat Nonzero [] e es is fits c = absurd (omega (arith, is.1))
        branch_flat Nonzero (x ∷ (y ∷ xs)) e es is fits c = absurd (omega (arith, is.1))
        branch_flat Nonzero (x ∷ []) e [] is fits c = absurd (omega (arith, is.2))
        branch_flat Nonzero (x ∷ []) e (e2 ∷ (e3 ∷ es)) is fits c = absurd (omega (arith, is.2))
        branch_flat Nonzero (x ∷ []) e (e2 ∷ []) is fits c = step (branch_knows l (x ∷ []) (e ∷ e2 ∷ [])) refl
          where
            two : o.head.content.kind ≡ ops.CondBr
            two = is_two (x ∷ []) e (e2 ∷ []) is

            v : IsForwarding kit (names_in bs) o.head (x ∷ []) (e ∷ e2 ∷ [])
            v = forwarding Nonzero (x ∷ []) e (e2 ∷ []) is

            knows_is : (branch_knows l (x ∷ []) (e ∷ e2 ∷ []) ≡ Lacks → ⊥) → branch_knows l (x ∷ []) (e ∷ e2 ∷ []) ≡ knows (map l.of (x ∷ []))
            knows_is full = unless (knows (map l.of (all_forwarded (e ∷ e2 ∷ [])))) (knows (map l.of (x ∷ []))) (unless_parts (knows (map l.of (all_forwarded (e ∷ e2 ∷ [])))) (knows (map l.of (x ∷ []))) full).0

            dets : (branch_knows l (x ∷ []) (e ∷ e2 ∷ []) ≡ Lacks → ⊥) → (u : N.value) → Has u o.head.operands → IsDet u
            dets full = operands_det Nonzero (x ∷ []) e (e2 ∷ []) is fits c full

            asked_first : (qs : List (Option IntegerAttr)) → asked (map k.of o.head.operands) ≡ Some qs → asked (map k.of (x ∷ all_forwarded (e ∷ e2 ∷ []))) ≡ Some qs
            asked_first qs asks = ap (λ z. asked (map k.of z)) (sym v.operands) ∙ asks

            by_number : (full : branch_knows l (x ∷ []) (e ∷ e2 ∷ []) ≡ Lacks → ⊥) (ns : List ℕ) → branch_knows l (x ∷ []) (e ∷ e2 ∷ []) ≡ Numbers ns → (i : ℕ) (g : Edge N.value) → slice_get (e ∷ e2 ∷ []) i ≡ Some g → g.target ≡ (edge_at e (e2 ∷ []) (chosen Nonzero ns)).target → EdgeClosedIn (Some f) l g
            by_number full ns z i g at target = by_det (dets full x (subst (Has x) (sym v.operands) (inl refl)))
              where
                by_det : IsDet x → EdgeClosedIn (Some f) l g
                by_det (number n a q lt) =
                    let r = asked_some leads type_at k.of l.of o.head.operands (dets full) in
                    let ys = first_number leads type_at k.of l.of x (all_forwarded (e ∷ e2 ∷ [])) r.0 (number_as leads (type_at x) n) a (asked_first r.0 r.1) in
                    let small = one_bit x n (condition_bit x (all_forwarded (e ∷ e2 ∷ [])) two v.operands) lt in
                    let m : n ∷ [] ≡ ns = same_numbers (n ∷ []) ns (sym (ap (λ t. knows_more t (Numbers [])) q) ∙ (sym (knows_is full) ∙ z)) in
                    let pick : chosen Nonzero ns ≡ pick_of n = ap (chosen Nonzero) (sym m) ∙ chosen_pick n small in
                    let b = leads_by (names_in bs) o.head.successors (e ∷ e2 ∷ []) v.successors (pick_of n) (edge_at e (e2 ∷ []) (pick_of n)) (among_two e e2 (pick_of n) (pick_small n)) in
                    tree_edge Nonzero (x ∷ []) e (e2 ∷ []) is fits c full r.0 r.1 i g at (λ y name.
                    let t : g.target ≡ (edge_at e (e2 ∷ []) (pick_of n)).target = target ∙ ap (λ w. (edge_at e (e2 ∷ []) w).target) pick in
                    (pick_of n, b.successor ∙ (sym b.name ∙ (ap (slice_get (names_in bs)) (sym t) ∙ name)), is_feasible n ys.0 r.0 (type_at x) two ys.1))
                by_det (any a q) = let bad : Open ≡ Numbers ns = sym (ap (λ t. knows_more t (Numbers [])) q) ∙ (sym (knows_is full) ∙ z) in absurd (cc bad)

            by_open : (full : branch_knows l (x ∷ []) (e ∷ e2 ∷ []) ≡ Lacks → ⊥) → branch_knows l (x ∷ []) (e ∷ e2 ∷ []) ≡ Open → (i : ℕ) (g : Edge N.value) → slice_get (e ∷ e2 ∷ []) i ≡ Some g → EdgeClosedIn (Some f) l g
            by_open full z i g at = by_det (dets full x (subst (Has x) (sym v.operands) (inl refl)))
              where
                by_det : IsDet x → EdgeClosedIn (Some f) l g
                by_det (number n a q lt) = let bad : Numbers (n ∷ []) ≡ Open = sym (ap (λ t. knows_more t (Numbers [])) q) ∙ (sym (knows_is full) ∙ z) in absurd (cc bad)
                by_det (any a q) =
                    let r = asked_some leads type_at k.of l.of o.head.operands (dets full) in
                    let ys = first_any leads type_at k.of l.of x (all_forwarded (e ∷ e2 ∷ [])) r.0 a (asked_first r.0 r.1) in
                    let b = leads_by (names_in bs) o.head.successors (e ∷ e2 ∷ []) v.successors i g at in
                    tree_edge Nonzero (x ∷ []) e (e2 ∷ []) is fits c full r.0 r.1 i g at (λ y name. (i, b.successor ∙ (sym b.name ∙ name), feasible_any ys.0 r.0 i two ys.1))

            step : (q : Knows) → branch_knows l (x ∷ []) (e ∷ e2 ∷ []) ≡ q → BranchClosedIn (Some f) l Nonzero q e (e2 ∷ [])
            step Lacks z = tt
            step (Numbers ns) z =
                let full : branch_knows l (x ∷ []) (e ∷ e2 ∷ []) ≡ Lacks → ⊥ = λ w. let u : Lacks ≡ Numbers ns = sym w ∙ z in absurd (cc u) in
                (by_number full ns z 0 e refl, (by_number full ns z 1 e2 refl, tt))
            step Open z =
                let full : branch_knows l (x ∷ []) (e ∷ e2 ∷ []) ≡ Lacks → ⊥ = λ w. let u : Lacks ≡ Open = sym w ∙ z in absurd (cc u) in
                (by_open full z 0 e refl, (by_open full z 1 e2 refl, tt))
        branch_flat (Cases ns) xs e es is fits c = absurd is
