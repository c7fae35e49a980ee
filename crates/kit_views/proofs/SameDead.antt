-- What is dead in the tree of a function is dead in its flat view.
use Rattle.std.proofs.Common.{◌≡◌, ◌⊎◌, ⊎_elim, inl, inr, ℕ, zero, suc, Bool, true, false, List, [], ◌∷◌, Option, Some, None, refl, sym, ap, ◌∙◌, subst}
use Rattle.std.specs.Prelude.{slice_get, if◌then◌else◌, not, ◌&&◌, ◌↔◌, map}
use Rattle.ir_names.specs.declared.interfaces.OpInterface.TheVariants as op
use Rattle.ir_trees.specs.Names.{Names, Contents}
use Rattle.ir_trees.specs.Renames.{names_of}
use Rattle.ir_trees.specs.Trees.{Head, Blocks, Tree, end, region}
use Rattle.opt_trees.specs.Dialect.{Dialect}
use Rattle.opt_trees.specs.Dce.{TreeSurroundings, Item, Whole, Slot, MayClose, May, Touches, IsKept, IsDead, dies, IsExcused, by_operation, by_argument, Gone, IsGoneExactly}
use Rattle.opt_trees.specs.Occurrences.{Has, Occurrence, BlockOccurrence, defined_in, occurrences_of, block_occurrences_of, Use}
use Rattle.opt_trees.proofs.Defined.{result_defined, argument_defined}
use Rattle.kit_behaviour.specs.Machine.{Arith, Calculated, Compared, Op, Const, Calc, Emit, Call, Branch, Return, Block, Fun, arguments_of, arguments_in}
use Rattle.kit_behaviour.specs.DeadValues.{candidates, may_die, all_uses_dead, HoldsDead}
use Rattle.kit_behaviour.specs.DeadValues as flat
use Rattle.kit_behaviour.specs.Scopes.{is_in}
use Rattle.kit_ops.specs.declared.kinds.KitOp.{KitOp}
use Rattle.kit_ops.specs.declared.kinds.KitOp.TheVariants as ops
use Rattle.kit.specs.Meaning.{is_function}
use Rattle.kit_ops.specs.Table.{row_of, has_interface}
use Rattle.kit_views.specs.Reading.{Reading}
use Rattle.kit_views.specs.FlatView.{IsSameness, kind_of, IsOp, names_in}
use Rattle.kit_views.specs.Laws.{NothingPinned, IsOfDead}
use Rattle.kit_views.proofs.Lists.{in_has, has_in, has_get, gathered, has_gathered, from_gathered}
use Rattle.kit_views.proofs.Definers.{Definer, ByOp, ByBlock, definers, op_definer, block_definer, definer_is}
use Rattle.kit_views.proofs.Pairs.{first_at}
use Rattle.kit_views.proofs.Read.{Reads}
use Rattle.kit_views.proofs.Forwarded.{from_branch}
use Rattle.kit_views.proofs.Uses.{and_both, and_left, and_right, true_false, not_true, not_false, blocks_all, blocks_each, IsPure, Candidate, argument, result, candidate_is, argument_candidate, result_candidate, edges_fit}
use Rattle.kit_views.proofs.Standing.{whole, Given, root_spot, pair, back, block_pair, block_back, one_operation, one_maker, one_block, not_both}
use Rattle.kit_views.proofs.Excused.{arith_effects, Own, Passed, use_ok, use_back}

arith_ends : (a : Arith) → has_interface (kind_of a) op.IsTerminator ≡ false
arith_ends (Calculated a) = refl
arith_ends (Compared c) = refl

no_successors : {B : Type 0} (bs : List B) (b : B) → map Some bs ≡ [] → Has b bs → ⊥
no_successors [] b e i = i
no_successors (x ∷ bs) b e i = absurd (cc e)

module _ {N : Names} {S : Contents} {A : Type 0} (d : Dialect S A) (r : Reading S) (law : Reads d r) (names : List N.block) where
  pub effects_are : (h : Head N S) (k : KitOp) → r.kind h.content ≡ k → d.has_effects h.content ≡ (row_of k).has_effects
  effects_are h k e = law.effects h.content ∙ ap (λ z. (row_of z).has_effects) e

  ends_are : (h : Head N S) (k : KitOp) → r.kind h.content ≡ k → d.is_terminator h.content ≡ has_interface k op.IsTerminator
  ends_are h k e = law.ends h.content ∙ ap (λ z. has_interface z op.IsTerminator) e

  pub record PureFacts (h : Head N S) (v : N.value) : Type 0 where
    pub effects : d.has_effects h.content ≡ false
    pub no_end : d.is_terminator h.content ≡ false
    pub only : (u : N.value) → Has u (names_of h.results) → u ≡ v
    pub has : Has v (names_of h.results)

  one_only : (h : Head N S) (y u : N.value) → names_of h.results ≡ y ∷ [] → Has u (names_of h.results) → u ≡ y
  one_only h y u e i = ⊎_elim (λ q. q) (λ q. absurd q) (subst (Has u) e i)

  pub pure_facts : (h : Head N S) (v : N.value) (p : Op N.value) → IsOp r names h p → IsPure v p → PureFacts h v
  pure_facts h v (Const y n) is q = record { effects = effects_are h ops.Constant is.0.kind; no_end = ends_are h ops.Constant is.0.kind; only = λ u i. one_only h y u is.0.results i ∙ sym q; has = subst (Has v) (sym is.0.results) (inl q) }
  pure_facts h v (Calc a w y b c) is q = record { effects = effects_are h (kind_of a) is.0.kind ∙ arith_effects a ∙ q.0; no_end = ends_are h (kind_of a) is.0.kind ∙ arith_ends a; only = λ u i. one_only h y u is.0.results i ∙ sym q.1; has = subst (Has v) (sym is.0.results) (inl q.1) }
  pure_facts h v (Emit x) is q = absurd q
  pure_facts h v (Call rs c xs) is q = absurd q
  pure_facts h v (Branch s xs e es) is q = absurd q
  pure_facts h v (Return xs) is q = absurd q

  pub pure_from : (h : Head N S) (v : N.value) (p : Op N.value) → IsOp r names h p → d.has_effects h.content ≡ false → Has v (names_of h.results) → IsPure v p
  pure_from h v (Const y n) is e i = one_only h y v is.0.results i
  pure_from h v (Calc a w y b c) is e i = (sym (effects_are h (kind_of a) is.0.kind ∙ arith_effects a) ∙ e, one_only h y v is.0.results i)
  pure_from h v (Emit x) is e i = true_false (d.has_effects h.content) (effects_are h ops.Emit is.kind) e
  pure_from h v (Call rs c xs) is e i = true_false (d.has_effects h.content) (effects_are h ops.Call is.0.kind) e
  pure_from h v (Branch s xs x es) is e i = true_false (d.has_effects h.content) (from_branch d r law names h s xs x es is).effects e
  pure_from h v (Return xs) is e i = true_false (d.has_effects h.content) (effects_are h ops.Return is.kind) e

  -- branches alone lead to blocks
  pub leads_branch : (h : Head N S) (b : N.block) (p : Op N.value) → IsOp r names h p → Has b h.successors → d.is_branch h.content ≡ true
  leads_branch h b (Const y n) is i = absurd (no_successors h.successors b is.0.successors i)
  leads_branch h b (Calc a w y x c) is i = absurd (no_successors h.successors b is.0.successors i)
  leads_branch h b (Emit x) is i = absurd (no_successors h.successors b is.successors i)
  leads_branch h b (Call rs c xs) is i = absurd (no_successors h.successors b is.0.successors i)
  leads_branch h b (Branch s xs x es) is i = (from_branch d r law names h s xs x es is).branch
  leads_branch h b (Return xs) is i = absurd (no_successors h.successors b is.successors i)

module _ {N : Names} {S : Contents} {A : Type 0} (d : Dialect S A) (r : Reading S) (law : Reads d r) (w : TreeSurroundings N A) (h : Head N S) (bs : Tree N S Blocks) (f : Fun N.value) (given : Given r h bs f) (same : N.value → N.value → Bool) (sameness : IsSameness same) where
  nested : (o : Occurrence N S) → Has o (occurrences_of (whole r h bs f)) → (v : N.value) → Has v (defined_in o.regions) → ⊥
  nested o i v k = subst (λ z. Has v (defined_in z)) (pair r h bs f given o i).regions k

  no_root_operand : (v : N.value) → Has v h.operands → ⊥
  no_root_operand v i = subst (Has v) given.no_operands i

  -- the entry's arguments are those of a first block
  pub record Entry (v : N.value) : Type 0 where
    pub it : BlockOccurrence N S
    pub stands : Has it (block_occurrences_of (whole r h bs f))
    pub has : Has v (names_of it.label.arguments)
    pub first : it.spot.first ≡ true

  entry_of : (v : N.value) → Has v (arguments_in (Some f) 0) → Entry v
  entry_of v i = step (slice_get f 0) refl i
    where
      step : (o : Option (Block N.value)) → slice_get f 0 ≡ o → Has v (arguments_of o) → Entry v
      step None e k = absurd k
      step (Some b) e k = let q = block_back r h bs f given 0 b e in record { it = q.it; stands = q.stands; has = subst (Has v) (sym q.same.arguments) k; first = q.same.first }

  module _ (unpinned : NothingPinned w (whole r h bs f)) where
    not_kept : (x : Item N) → ((v : N.value) → Touches (whole r h bs f) x v → Has v (defined_in (region bs end))) → IsKept w (whole r h bs f) x → ⊥
    not_kept x at k = ⊎_elim (λ p. unpinned k.0 (at k.0 k.1) p) (λ i. no_root_operand k.0 i) k.2

    slot_defined : (x : BlockOccurrence N S) (v : N.value) → Has x (block_occurrences_of (whole r h bs f)) → Has v (names_of x.label.arguments) → (u : N.value) → Touches (whole r h bs f) (Slot v) u → Has u (defined_in (region bs end))
    slot_defined x v i k u e = subst (λ z. Has z (defined_in (region bs end))) e (argument_defined (region bs end) (root_spot r h bs f given) x v i k)

    whole_defined : (a : N.operation) (u : N.value) → Touches (whole r h bs f) (Whole a) u → Has u (defined_in (region bs end))
    whole_defined a u m = ⊎_elim (λ i. result_defined (region bs end) (root_spot r h bs f given) m.it u m.stands i) (λ i. absurd (nested m.it m.stands u i)) m.value

    module _ (g : Gone N) (is_gone : IsGoneExactly d w (whole r h bs f) g) where
      abbrev pub going : List N.value → List N.value
      going [] = []
      going (v ∷ vs) = if g.item (Slot v) then v ∷ going vs else going vs

      abbrev pub lost_by : Definer N S → List N.value
      lost_by (ByOp o) = if g.item (Whole o.head.name) then names_of o.head.results else []
      lost_by (ByBlock x) = going (names_of x.label.arguments)

      -- the values that go
      abbrev pub lost : N.value → Bool
      lost v = is_in same v (gathered lost_by (definers (region bs end) (root_spot r h bs f given)))

      going_goes : (v : N.value) (vs : List N.value) → Has v (going vs) → Has v vs × (g.item (Slot v) ≡ true)
      going_goes v [] i = absurd i
      going_goes v (x ∷ vs) i = step (g.item (Slot x)) refl i (going_goes v vs)
        where
          step : (b : Bool) → g.item (Slot x) ≡ b → Has v (if b then x ∷ going vs else going vs) → (Has v (going vs) → Has v vs × (g.item (Slot v) ≡ true)) → Has v (x ∷ vs) × (g.item (Slot v) ≡ true)
          step true e k ih = ⊎_elim (λ q. (inl q, ap (λ z. g.item (Slot z)) q ∙ e)) (λ q. let m = ih q in (inr m.0, m.1)) k
          step false e k ih = let m = ih k in (inr m.0, m.1)

      goes_going : (v : N.value) (vs : List N.value) → Has v vs → g.item (Slot v) ≡ true → Has v (going vs)
      goes_going v [] i e = absurd i
      goes_going v (x ∷ vs) i e = step (g.item (Slot x)) refl i (λ k. goes_going v vs k e)
        where
          step : (b : Bool) → g.item (Slot x) ≡ b → Has v (x ∷ vs) → (Has v vs → Has v (going vs)) → Has v (if b then x ∷ going vs else going vs)
          step true q k ih = ⊎_elim (λ m. inl m) (λ m. inr (ih m)) k
          step false q k ih = ⊎_elim (λ m. absurd (true_false (g.item (Slot v)) e (ap (λ z. g.item (Slot z)) m ∙ q))) ih k

      -- why a value goes
      pub data Lost (v : N.value) : Type 0 where
        as_result : (o : Occurrence N S) → Has o (occurrences_of (whole r h bs f)) → Has v (names_of o.head.results) → g.item (Whole o.head.name) ≡ true → Lost v
        as_argument : (x : BlockOccurrence N S) → Has x (block_occurrences_of (whole r h bs f)) → Has v (names_of x.label.arguments) → g.item (Slot v) ≡ true → Lost v

      result_goes : (v : N.value) (o : Occurrence N S) → Has o (occurrences_of (whole r h bs f)) → (b : Bool) → g.item (Whole o.head.name) ≡ b → Has v (if b then names_of o.head.results else []) → Lost v
      result_goes v o i true e k = as_result o i k e
      result_goes v o i false e k = absurd k

      pub lost_is : (v : N.value) → lost v ≡ true → Lost v
      lost_is v e =
          let s = from_gathered lost_by (definers (region bs end) (root_spot r h bs f given)) v (in_has same sameness v _ e) in
          definer_is (region bs end) (root_spot r h bs f given) s.it (λ z. Has v (lost_by z) → Lost v)
          (λ o i k. result_goes v o i (g.item (Whole o.head.name)) refl k)
          (λ x i k. let m = going_goes v (names_of x.label.arguments) k in as_argument x i m.0 m.1) s.stands s.gives

      pub result_lost : (o : Occurrence N S) (v : N.value) → Has o (occurrences_of (whole r h bs f)) → Has v (names_of o.head.results) → g.item (Whole o.head.name) ≡ true → lost v ≡ true
      result_lost o v i k e =
          has_in same sameness v _ (has_gathered lost_by (definers (region bs end) (root_spot r h bs f given)) (ByOp o) v (op_definer (region bs end) (root_spot r h bs f given) o i)
          (subst (λ b. Has v (if b then names_of o.head.results else [])) (sym e) k))

      pub argument_lost : (x : BlockOccurrence N S) (v : N.value) → Has x (block_occurrences_of (whole r h bs f)) → Has v (names_of x.label.arguments) → g.item (Slot v) ≡ true → lost v ≡ true
      argument_lost x v i k e =
          has_in same sameness v _ (has_gathered lost_by (definers (region bs end) (root_spot r h bs f given)) (ByBlock x) v (block_definer (region bs end) (root_spot r h bs f given) x i)
          (goes_going v (names_of x.label.arguments) k e))

      pub lost_result : (o : Occurrence N S) (v : N.value) → Has o (occurrences_of (whole r h bs f)) → Has v (names_of o.head.results) → lost v ≡ true → g.item (Whole o.head.name) ≡ true
      lost_result o v i k e = step (lost_is v e)
        where
          step : Lost v → g.item (Whole o.head.name) ≡ true
          step (as_result p j m q) = ap (λ (z : Occurrence N S). g.item (Whole z.head.name)) (one_maker r h bs f given o p v i j k m) ∙ q
          step (as_argument x j m q) = absurd (not_both r h bs f given o x v i j k m)

      pub lost_argument : (x : BlockOccurrence N S) (v : N.value) → Has x (block_occurrences_of (whole r h bs f)) → Has v (names_of x.label.arguments) → lost v ≡ true → g.item (Slot v) ≡ true
      lost_argument x v i k e = step (lost_is v e)
        where
          step : Lost v → g.item (Slot v) ≡ true
          step (as_result p j m q) = absurd (not_both r h bs f given p x v j i m k)
          step (as_argument y j m q) = q

      -- the flat uses of v are of values that go: so are those of the tree
      flat_uses : (v : N.value) → all_uses_dead same (Some f) lost v ≡ true → (o : Occurrence N S) (i : ℕ) → Use (whole r h bs f) v o i → IsExcused d w (whole r h bs f) o i
      flat_uses v u o i user =
          let q = pair r h bs f given o user.stands in
          let fits = edges_fit (Some f) f given.edges q.place q.k q.at q.op q.stands in
          let dead = blocks_each same (Some f) lost v f u q.place q.k q.at q.op q.stands in
          ⊎_elim
          (λ own. by_operation o i o.head.name (inl refl) (is_gone.dead (Whole o.head.name) (lost_result o own.1.0 user.stands own.1.1 own.1.2)))
          (λ (z : Passed d r law h bs f given same sameness lost o i). by_argument o i z.0 z.1 (is_gone.dead (Slot z.0) (lost_argument z.1.target z.0 z.1.stands (has_get (names_of z.1.target.label.arguments) z.1.place z.0 z.1.takes) z.2)))
          (use_back d r law h bs f given same sameness lost o v q.op q.is fits dead i user.operand)

      pub holds : HoldsDead same (Some f) lost
      holds v m = step (candidate_is v f (in_has same sameness v (candidates f) (and_right (not (is_in same v (arguments_in (Some f) 0))) (is_in same v (candidates f)) may)))
        where
          may : may_die same (Some f) v ≡ true
          may = and_left (may_die same (Some f) v) (all_uses_dead same (Some f) lost v) m

          uses : all_uses_dead same (Some f) lost v ≡ true
          uses = and_right (may_die same (Some f) v) (all_uses_dead same (Some f) lost v) m

          no_entry : Has v (arguments_in (Some f) 0) → ⊥
          no_entry i = not_false (is_in same v (arguments_in (Some f) 0)) (and_left (not (is_in same v (arguments_in (Some f) 0))) (is_in same v (candidates f)) may) (has_in same sameness v (arguments_in (Some f) 0) i)

          later : (b : ℕ) (k : Block N.value) → slice_get f b ≡ Some k → Has v k.arguments → first_at true b ≡ false
          later zero k e i = absurd (no_entry (subst (λ z. Has v (arguments_of z)) (sym e) i))
          later (suc b) k e i = refl

          step : Candidate v f → lost v ≡ true
          step (argument b k e i) =
              let x = block_back r h bs f given b k e in
              let has = subst (Has v) (sym x.same.arguments) i in
              argument_lost x.it v x.stands has (is_gone.all (Slot v) (dies (Slot v)
              (record {
                it = x.it;
                stands = x.stands;
                argument = has;
                removable = law.removes x.it.spot.owner.content x.it.spot.region x.it.spot.first ∙ λ j. is_function (((ap (λ (z : Head N S). r.kind z.content) x.same.owner ∙ given.function)) j) && not ((x.same.first ∙ later b k e i) j);
                predecessors = λ o j q. let p = pair r h bs f given o j in leads_branch d r law (names_in bs) o.head x.it.label.name p.op p.is q;
              })
              (not_kept (Slot v) (slot_defined x.it v x.stands has))
              (λ u o j q user. flat_uses v uses o j (subst (λ z. Use (whole r h bs f) z o j) (sym q) user))))
          step (result b k p e i pure) =
              let q = back r h bs f given b k p e i in
              let facts = pure_facts d r law (names_in bs) q.it.head v p q.is pure in
              result_lost q.it v q.stands facts.has (is_gone.all (Whole q.it.head.name) (dies (Whole q.it.head.name)
              (record { it = q.it; stands = q.stands; name = refl; pure = facts.effects; no_terminator = facts.no_end })
              (not_kept (Whole q.it.head.name) (whole_defined q.it.head.name))
              (λ u o j c user. flat_uses v uses o j (subst (λ z. Use (whole r h bs f) z o j)
              (⊎_elim (λ y. facts.only u (subst (λ (z : Occurrence N S). Has u (names_of z.head.results)) (one_operation r h bs f given c.it q.it c.stands q.stands c.name) y)) (λ y. absurd (nested c.it c.stands u y.0)) c.value) user))))

      module _ (E : N.value → Bool) (all : HoldsDead same (Some f) E) where
        may_of : (x : Item N) → IsDead d w (whole r h bs f) x → May d (whole r h bs f) x
        may_of _ (dies x may kept uses) = may

        effects_of : (a : N.operation) → IsDead d w (whole r h bs f) (Whole a) → (o : Occurrence N S) → Has o (occurrences_of (whole r h bs f)) → a ≡ o.head.name → d.has_effects o.head.content ≡ false
        effects_of a dead o i e =
            let may = may_of (Whole a) dead in
            ap (λ (z : Occurrence N S). d.has_effects z.head.content) (sym (one_operation r h bs f given may.it o may.stands i (may.name ∙ e))) ∙ may.pure

        not_in_entry : (v : N.value) → (Has v (arguments_in (Some f) 0) → ⊥) → not (is_in same v (arguments_in (Some f) 0)) ≡ true
        not_in_entry v k = not_true (is_in same v (arguments_in (Some f) 0)) (λ e. k (in_has same sameness v (arguments_in (Some f) 0) e))

        -- what may go in the tree may go in the flat function
        slot_may : (v : N.value) → MayClose d (whole r h bs f) v → may_die same (Some f) v ≡ true
        slot_may v may =
            let q = block_pair r h bs f given may.it may.stands in
            and_both _ _
            (not_in_entry v (λ i. let y = entry_of v i in
            let same_block = one_block r h bs f given may.it y.it v may.stands y.stands may.argument y.has in
            let first : may.it.spot.first ≡ true = ap (λ (z : BlockOccurrence N S). z.spot.first) same_block ∙ y.first in
            not_false may.it.spot.first (and_right (is_function (r.kind may.it.spot.owner.content)) (not may.it.spot.first) (sym (law.removes may.it.spot.owner.content may.it.spot.region may.it.spot.first) ∙ may.removable)) first))
            (has_in same sameness v (candidates f) (argument_candidate v f q.place q.k q.at (subst (Has v) q.same.arguments may.argument)))

        result_may : (v : N.value) (o : Occurrence N S) → Has o (occurrences_of (whole r h bs f)) → Has v (names_of o.head.results) → d.has_effects o.head.content ≡ false → may_die same (Some f) v ≡ true
        result_may v o i k e =
            let q = pair r h bs f given o i in
            and_both _ _
            (not_in_entry v (λ j. let y = entry_of v j in not_both r h bs f given o y.it v i y.stands k y.has))
            (has_in same sameness v (candidates f) (result_candidate v f q.place q.k q.op q.at q.stands (pure_from d r law (names_in bs) o.head v q.op q.is e k)))

        -- the flat uses of a value whose uses in the tree are excused
        uses_ok : (v : N.value) → ((o : Occurrence N S) (i : ℕ) → Has o (occurrences_of (whole r h bs f)) → slice_get o.head.operands i ≡ Some v → Own d r law h bs f given same sameness E o ⊎ Passed d r law h bs f given same sameness E o i) → all_uses_dead same (Some f) E v ≡ true
        uses_ok v k = blocks_all same (Some f) E v f (λ b j e p i. let q = back r h bs f given b j p e i in use_ok d r law h bs f given same sameness E q.it v p q.is (λ n m. k q.it n q.stands m))

        mutual
          member : (x : Item N) → IsDead d w (whole r h bs f) x → (v : N.value) → Touches (whole r h bs f) x v → E v ≡ true
          member _ (dies (Slot y) may kept uses) v touch =
              all v (and_both _ _ (subst (λ z. may_die same (Some f) z ≡ true) touch (slot_may y may))
              (uses_ok v (λ o i j e. excuse o i (uses v o i touch (record { stands = j; operand = e })) j)))
          member _ (dies (Whole a) may kept uses) v touch =
              all v (and_both _ _
              (⊎_elim (λ i. result_may v touch.it touch.stands i (ap (λ (z : Occurrence N S). d.has_effects z.head.content) (sym (one_operation r h bs f given may.it touch.it may.stands touch.stands (may.name ∙ sym touch.name))) ∙ may.pure)) (λ i. absurd (nested touch.it touch.stands v i)) touch.value)
              (uses_ok v (λ o i j e. excuse o i (uses v o i (record { it = touch.it; stands = touch.stands; name = touch.name; value = ⊎_elim (λ q. inl q) (λ q. absurd (nested touch.it touch.stands v q)) touch.value }) (record { stands = j; operand = e })) j)))

          excuse : (o : Occurrence N S) (i : ℕ) → IsExcused d w (whole r h bs f) o i → Has o (occurrences_of (whole r h bs f)) → Own d r law h bs f given same sameness E o ⊎ Passed d r law h bs f given same sameness E o i
          excuse _ _ (by_operation o i a m dead) j =
              let e : a ≡ o.head.name = ⊎_elim (λ q. q) (λ q. absurd (subst (Has a) (pair r h bs f given o j).around q)) m in
              inl (effects_of a dead o j e, λ v k. member (Whole a) dead v (record { it = o; stands = j; name = sym e; value = inl k }))
          excuse _ _ (by_argument o i v m dead) j = inr (v, m, member (Slot v) dead v refl)

        pub least : (v : N.value) → lost v ≡ true → E v ≡ true
        least v e = step (lost_is v e)
          where
            step : Lost v → E v ≡ true
            step (as_result o i k q) = member (Whole o.head.name) (is_gone.dead (Whole o.head.name) q) v (record { it = o; stands = i; name = refl; value = inl k })
            step (as_argument x i k q) = member (Slot v) (is_gone.dead (Slot v) q) v refl

      pub same_dead : flat.IsDeadSet same (Some f) lost
      same_dead = record { holds = holds; least = λ e all v q. least e all v q }

      -- the set is that of dead arguments and of results of dead operations
      pub lost_are : (v : N.value) → (lost v ≡ true) ↔ (IsDead d w (whole r h bs f) (Slot v) ⊎ IsOfDead d w (whole r h bs f) v)
      lost_are v = (λ e. there (lost_is v e), back_again)
        where
          there : Lost v → IsDead d w (whole r h bs f) (Slot v) ⊎ IsOfDead d w (whole r h bs f) v
          there (as_result o i k q) = inr (record { definer = o; stands = i; result = k; dead = is_gone.dead (Whole o.head.name) q })
          there (as_argument x i k q) = inl (is_gone.dead (Slot v) q)

          slot : (x : Item N) → IsDead d w (whole r h bs f) x → May d (whole r h bs f) x
          slot _ (dies x may kept uses) = may

          back_again : IsDead d w (whole r h bs f) (Slot v) ⊎ IsOfDead d w (whole r h bs f) v → lost v ≡ true
          back_again z = ⊎_elim
              (λ k. let may = slot (Slot v) k in argument_lost may.it v may.stands may.argument (is_gone.all (Slot v) k))
              (λ (k : IsOfDead d w (whole r h bs f) v). result_lost k.definer v k.stands k.result (is_gone.all (Whole k.definer.head.name) k.dead)) z
