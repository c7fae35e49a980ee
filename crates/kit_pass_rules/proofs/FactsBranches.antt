-- What is forwarded to arguments has their types.
use Rattle.std.proofs.Common.{◌≡◌, ⊎_elim, inl, inr, ℕ, zero, suc, ◌+◌, ◌-◌, ◌<◌, Bool, true, false, List, [], ◌∷◌, ◌++◌, map, length, Option, Some, None, slice_get, refl, sym, ap, ◌∙◌, subst, arith}
use Rattle.std.specs.Prelude.{min}
use Rattle.std.proofs.lemmas.Option.{slice_get_within}
use Rattle.ir_base.specs.declared.types.TypeHandle.{TypeHandle}
use Rattle.ir_names.specs.declared.interfaces.OpInterface.TheVariants as op
use Rattle.ir_program.specs.declared.handles.Ptr.{Ptr}
use Rattle.ir_program.specs.declared.handles.BasicBlock.{BasicBlock}
use Rattle.ir_program.specs.declared.handles.Value.{Value}
use Rattle.ir_trees.specs.Renames.{names_of}
use Rattle.ir_trees.specs.Stands.{by_handle}
use Rattle.ir_trees.specs.Trees.{Defined}
use Rattle.kit.specs.Context.{KitTree}
use Rattle.kit.specs.Meaning.{KitOperation, KitBlock, kit, range, forwards_of, first_size}
use Rattle.kit_checks.specs.KitWorld.{kit_world}
use Rattle.kit_checks.specs.Rules as rules
use Rattle.kit_checks.specs.Words.{types_of, is_branch, along_edge, segment, segment_sizes, sizes_or_none}
use Rattle.kit_checks.specs.declared.rule.Rule.TheVariants as rule
use Rattle.kit_ops.specs.declared.attributes.IntegerAttr.{IntegerAttr}
use Rattle.kit_ops.specs.declared.kinds.KitOp.{KitOp}
use Rattle.kit_ops.specs.declared.kinds.KitOp.TheVariants as ops
use Rattle.kit_ops.specs.declared.types.KitType.{KitType}
use Rattle.kit_ops.specs.Table.{has_interface}
use Rattle.kit_pass_rules.specs.Laws.{IsGood}
use Rattle.kit_pass_rules.proofs.DceCame.{KitAround}
use Rattle.kit_pass_rules.proofs.FactsClosed.{lowered, asked_lower, arguments_below, rule_here}
use Rattle.kit_pass_rules.proofs.FactsFit.{Tests}
use Rattle.kit_pass_rules.proofs.Located.{Located}
use Rattle.kit_pass_rules.proofs.PutIn.{append_assoc}
use Rattle.kit_pass_rules.proofs.Segments.{condition_of, first_segment, second_segment, first_is}
use Rattle.kit_pass_rules.proofs.Walk.{OccurrenceOf, BlockOf, block_of, block_here}
use Rattle.opt_rows.specs.Known.{asked}
use Rattle.opt_trees.specs.Facts.{Facts, BranchClosed, forwarded}
use Rattle.opt_trees.specs.Occurrences.{Has, picks, cons_if, occurrences_of, block_occurrences_of}
use Rattle.opt_trees.proofs.Lists.{some_same}

append_none : {X : Type 0} (xs : List X) → xs ++ [] ≡ xs
append_none [] = refl
append_none (x ∷ xs) = ap (λ l. x ∷ l) (append_none xs)

at_middle : {X : Type 0} (ps qs : List X) (x : X) (n : ℕ) → length ps ≡ n → slice_get (ps ++ (x ∷ qs)) n ≡ Some x
at_middle [] qs x zero e = refl
at_middle [] qs x (suc n) e = absurd (omega (arith, e))
at_middle (p ∷ ps) qs x zero e = absurd (omega (arith, e))
at_middle (p ∷ ps) qs x (suc n) e = at_middle ps qs x n (omega (arith, e))

one_more : {X : Type 0} (ps : List X) (x : X) (n : ℕ) → length ps ≡ n → length (ps ++ (x ∷ [])) ≡ suc n
one_more [] x n e = omega (arith, e)
one_more (p ∷ ps) x n e = let z : length (ps ++ (x ∷ [])) ≡ suc (length ps) = one_more ps x (length ps) refl in omega (arith, z, e)

-- the members of a run
picks_run : {X : Type 0} (ps fs ss : List X) (n m : ℕ) → length ps ≡ n → length fs ≡ m → picks (ps ++ (fs ++ ss)) (range n m) ≡ fs
picks_run ps [] ss n zero e f = refl
picks_run ps [] ss n (suc m) e f = absurd (omega (arith, f))
picks_run ps (x ∷ fs) ss n zero e f = absurd (omega (arith, f))
picks_run ps (x ∷ fs) ss n (suc m) e f =
    ap (λ z. cons_if z (picks (ps ++ (x ∷ (fs ++ ss))) (range (suc n) m))) (at_middle ps (fs ++ ss) x n e)
    ∙ ap (λ l. x ∷ l)
    (ap (λ l. picks l (range (suc n) m)) (sym (append_assoc ps (x ∷ []) (fs ++ ss)))
    ∙ picks_run (ps ++ (x ∷ [])) fs ss (suc n) m (one_more ps x n e) (omega (arith, f)))

module _ (leads : TypeHandle → Option KitType) (old : Value → Option TypeHandle) (t : KitTree) (good : IsGood leads old t)
    (test : Option TypeHandle → IntegerAttr → Bool) (tests : Tests leads test) (k : Facts by_handle IntegerAttr)
    (o : OccurrenceOf KitOperation KitBlock) (stands : Has o (occurrences_of t)) (l : Located t o) where
  cond_forwarded : (n : ℕ) (edge : ℕ) → edge ≡ n → edge < 2 → l.u.head.content.kind ≡ ops.CondBr → rules.HasSegments (kit_world leads old) l.u →
      forwarded kit l.u.head edge ≡ segment l.u.head.operands (sizes_or_none (segment_sizes (kit_world leads old) l.u)) (suc edge)
  cond_forwarded n edge at less e h =
      let first : ℕ = h.2.0 in
      let second : ℕ = h.2.1 in
      let c = condition_of l.u.head.operands first second h.2.3 in
      let sizes : sizes_or_none (segment_sizes (kit_world leads old) l.u) ≡ 1 ∷ first ∷ second ∷ [] = ap sizes_or_none h.1 ∙ h.2.2 in
      let size : first_size l.u.head.content.notes.attributes ≡ first = first_is l.u.head.content.notes.attributes first second h.0 h.1 h.2.2 in
      let count : length l.u.head.operands ≡ 1 + first + second = h.2.3 in
      pick n at
      (λ z.
      let m : min first ((1 + first + second) - 1) ≡ first = omega arith in
      (λ i. picks (c.is i) (forwards_of (e i) (size i) (count i) (z i)))
      ∙ (ap (λ w. picks (c.condition ∷ (c.first ++ c.second)) (range 1 w)) m
      ∙ (picks_run (c.condition ∷ []) c.first c.second 1 first refl c.first_count
      ∙ sym ((λ i. segment (c.is i) (sizes i) (suc (z i))) ∙ first_segment c.condition c.first c.second first second c.first_count c.second_count))))
      (λ z.
      let m : (1 + first + second) - (1 + first) ≡ second = omega arith in
      let n : length (c.condition ∷ c.first) ≡ 1 + first = let q : length c.first ≡ first = c.first_count in omega (arith, q) in
      (λ i. picks (c.is i) (forwards_of (e i) (size i) (count i) (z i)))
      ∙ (ap (λ w. picks (c.condition ∷ (c.first ++ c.second)) (range (1 + first) w)) m
      ∙ (ap (λ w. picks (c.condition ∷ (c.first ++ w)) (range (1 + first) second)) (sym (append_none c.second))
      ∙ (picks_run (c.condition ∷ c.first) c.second [] (1 + first) second n c.second_count
      ∙ sym ((λ i. segment (c.is i) (sizes i) (suc (z i))) ∙ second_segment c.condition c.first c.second first second c.first_count c.second_count)))))
    where
      pick : {P : Type 0} (n : ℕ) → edge ≡ n → (edge ≡ 0 → P) → (edge ≡ 1 → P) → P
      pick zero at f g = f at
      pick (suc zero) at f g = g at
      pick (suc (suc n)) at f g = absurd (omega (arith, at, less))

  along : (K : KitOp) → l.u.head.content.kind ≡ K → is_branch K ≡ true → rules.FitsKind (kit_world leads old) l.u K → (edge : ℕ) (target : Ptr BasicBlock) → slice_get l.u.head.successors edge ≡ Some target →
      forwarded kit l.u.head edge ≡ along_edge K (sizes_or_none (segment_sizes (kit_world leads old) l.u)) l.u.head.operands edge
  along ops.Br e is fits edge target at =
      let one : length l.u.head.successors ≡ 1 = fits.successors in
      let less : edge < length l.u.head.successors = slice_get_within l.u.head.successors edge target at in
      let z : edge ≡ 0 = omega (arith, one, less) in
      (λ i. picks l.u.head.operands (forwards_of (e i) (first_size l.u.head.content.notes.attributes) (length l.u.head.operands) (z i)))
      ∙ (ap (λ xs. picks xs (range 0 (length l.u.head.operands))) (sym (append_none l.u.head.operands))
      ∙ picks_run [] l.u.head.operands [] 0 (length l.u.head.operands) refl refl)
  along ops.CondBr e is fits edge target at =
      let two : length l.u.head.successors ≡ 2 = fits.0.successors in
      let less : edge < length l.u.head.successors = slice_get_within l.u.head.successors edge target at in
      cond_forwarded edge edge refl (omega (arith, two, less)) e fits.1
  along K e is fits edge target at = absurd (cc is)

  branch_kind : (K : KitOp) → has_interface K op.Branch ≡ true → is_branch K ≡ true
  branch_kind ops.Br e = refl
  branch_kind ops.CondBr e = refl
  branch_kind K e = absurd (cc e)

  argument_types : (ds : List (Defined Value TypeHandle)) → ((d : Defined Value TypeHandle) → Has d ds → old d.name ≡ Some d.holds) → map old (names_of ds) ≡ map Some (types_of ds)
  argument_types [] h = refl
  argument_types (d ∷ ds) h = λ i. h d (inl refl) i ∷ argument_types ds (λ c j. h c (inr j)) i

  forwarded_types : has_interface l.u.head.content.kind op.Branch ≡ true → (edge : ℕ) (target : Ptr BasicBlock) → slice_get l.u.head.successors edge ≡ Some target →
      (x : BlockOf KitOperation KitBlock) → Has x (block_occurrences_of t) → x.label.name ≡ target → map old (forwarded kit l.u.head edge) ≡ map old (names_of x.label.arguments)
  forwarded_types branch edge target at x hx named =
      let a : KitAround = record { owner = l.s.op; outer = l.outer; blocks = l.blocks; number = l.b; body = l.body; index = l.k } in
      let is = branch_kind l.u.head.content.kind branch in
      let r = rule_here leads old t good test tests k o stands l rule.EdgesFit edge target at in
      let to : rules.EdgeLeadsTo (kit_world leads old) l.u a edge target = subst (λ (z : KitAround). rules.EdgeLeadsTo (kit_world leads old) l.u z edge target) (sym (some_same a r.0 r.1)) r.2 in
      let b = block_here t l.s l.outer l.up l.r to.here.0 l.blocks to.body l.region_here to.here.1 in
      let same : x ≡ block_of b.spot to.body = good.apart.blocks x (block_of b.spot to.body) hx b.block (named ∙ sym to.named) in
      ap (map old) (along l.u.head.content.kind refl is (rule_here leads old t good test tests k o stands l rule.FitsFormat) edge target at)
      ∙ (to.operands is
      ∙ (sym (argument_types to.body.label.arguments (good.typed_in.arguments (block_of b.spot to.body) b.block))
      ∙ ap (λ (z : BlockOf KitOperation KitBlock). map old (names_of z.label.arguments)) (sym same)))

  branch_true : (q : Option (List (Option IntegerAttr))) → has_interface l.u.head.content.kind op.Branch ≡ true →
      BranchClosed kit (block_occurrences_of t) k l.u.head true q → BranchClosed kit (block_occurrences_of t) (lowered leads old t good test tests k) l.u.head true q
  branch_true None c h = tt
  branch_true (Some xs) c h = λ i b at feasible.
      let e = h i b at feasible in
      record {
        target = e.target;
        arguments = λ x hx named. arguments_below leads old t good test tests k (names_of x.label.arguments) (forwarded kit l.u.head i)
            (forwarded_types c i b at x hx named) (e.arguments x hx named);
      }

  pub branch_lower : (c : Bool) → has_interface l.u.head.content.kind op.Branch ≡ c → BranchClosed kit (block_occurrences_of t) k l.u.head c (asked (map k.of l.u.head.operands)) →
      BranchClosed kit (block_occurrences_of t) (lowered leads old t good test tests k) l.u.head c (asked (map (lowered leads old t good test tests k).of l.u.head.operands))
  branch_lower false e h = tt
  branch_lower true e h = ⊎_elim
      (λ none. subst (BranchClosed kit (block_occurrences_of t) (lowered leads old t good test tests k) l.u.head true) (sym none) tt)
      (λ r. subst (BranchClosed kit (block_occurrences_of t) (lowered leads old t good test tests k) l.u.head true) (sym r.0) (branch_true (asked (map k.of l.u.head.operands)) e h))
      (asked_lower leads old t good test tests k l.u.head.operands)
