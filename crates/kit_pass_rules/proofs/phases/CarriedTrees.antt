-- What each operation and block of a tree is made of keeps handles apart and values typed.
use Rattle.std.proofs.Common.{◌≡◌, Option, slice_get, sym, ap, ◌∙◌, subst}
use Rattle.ir_base.specs.declared.types.TypeHandle.{TypeHandle}
use Rattle.ir_program.specs.declared.handles.Value.{Value}
use Rattle.ir_trees.specs.Renames.{names_of}
use Rattle.kit.specs.Context.{KitTree}
use Rattle.kit.specs.Meaning.{KitOperation, KitBlock}
use Rattle.kit_checks.specs.KitWorld.{HasDeclaredTypes, kit_world}
use Rattle.kit_ops.specs.declared.types.KitType.{KitType}
use Rattle.kit_pass_rules.specs.Laws.{IsGood}
use Rattle.kit_pass_rules.specs.Worlds.{HandlesAreApart, ObeysIn}
use Rattle.kit_pass_rules.proofs.Walk.{OccurrenceOf, BlockOf}
use Rattle.kit_pass_rules.proofs.pruning.PrunedTrees.{Pruning, prune_tree}
use Rattle.kit_pass_rules.proofs.pruning.PrunedSites.{MayPrune}
use Rattle.kit_pass_rules.proofs.pruning.AllRules.{pruned_keeps}
use Rattle.opt_trees.specs.Occurrences.{Has, occurrences_of, block_occurrences_of}
use Rattle.opt_trees.proofs.Lists.{Preimage}

-- each operation and block of the second tree is made of one of the first: different operations get different names,
-- results and what a block says of itself stay
pub record Carries (t u : KitTree) : Type 0 where
  pub made : OccurrenceOf KitOperation KitBlock → OccurrenceOf KitOperation KitBlock
  pub block_made : BlockOf KitOperation KitBlock → BlockOf KitOperation KitBlock
  pub operations : (p : OccurrenceOf KitOperation KitBlock) → Has p (occurrences_of u) →
      Preimage made p (occurrences_of t)
  pub blocks : (y : BlockOf KitOperation KitBlock) → Has y (block_occurrences_of u) → Preimage block_made y
      (block_occurrences_of t)
  pub names : (o p : OccurrenceOf KitOperation KitBlock) → Has o (occurrences_of t) → Has p (occurrences_of t) →
      (made o).head.name ≡ (made p).head.name → o.head.name ≡ p.head.name
  pub results : (o : OccurrenceOf KitOperation KitBlock) → (made o).head.results ≡ o.head.results
  pub labels : (x : BlockOf KitOperation KitBlock) → (block_made x).label ≡ x.label

module _ (t u : KitTree) (c : Carries t u) where
  same_label : (x y : BlockOf KitOperation KitBlock) → c.block_made x ≡ y → x.label ≡ y.label
  same_label x y e = sym (c.labels x) ∙ ap (λ (z : BlockOf KitOperation KitBlock). z.label) e

  pub carried_apart : HandlesAreApart t → HandlesAreApart u
  carried_apart apart = record {
    operations = λ o p ho hp e.
        let a = c.operations o ho in
        let b = c.operations p hp in
        let named : (c.made a.it).head.name ≡ (c.made b.it).head.name =
        ap (λ (z : OccurrenceOf KitOperation KitBlock). z.head.name) a.is
        ∙ (e ∙ sym (ap (λ (z : OccurrenceOf KitOperation KitBlock). z.head.name) b.is)) in
        sym a.is ∙ (ap c.made (apart.operations a.it b.it a.stands b.stands
        (c.names a.it b.it a.stands b.stands named)) ∙ b.is);
    blocks = λ x y hx hy e.
        let a = c.blocks x hx in
        let b = c.blocks y hy in
        sym a.is ∙ (ap c.block_made (apart.blocks a.it b.it a.stands b.stands
        (ap (λ z. z.name) (same_label a.it x a.is) ∙ (e ∙ ap (λ z. z.name) (sym (same_label b.it y b.is))))) ∙ b.is);
    arguments = λ x y v i j hx hy ex ey.
        let a = c.blocks x hx in
        let b = c.blocks y hy in
        let e = apart.arguments a.it b.it v i j a.stands b.stands
        (ap (λ l. slice_get (names_of l.arguments) i) (same_label a.it x a.is) ∙ ex)
        (ap (λ l. slice_get (names_of l.arguments) j) (same_label b.it y b.is) ∙ ey) in
        (sym a.is ∙ (ap c.block_made e.0 ∙ b.is), e.1);
  }

  pub carried_typed : (typed : Value → Option TypeHandle) → HasDeclaredTypes typed t → HasDeclaredTypes typed u
  carried_typed typed was = record {
    results = λ o h d i.
        let a = c.operations o h in
        let same : (o.head.results ≡ a.it.head.results) =
        sym (ap (λ (z : OccurrenceOf KitOperation KitBlock). z.head.results) a.is) ∙ c.results a.it in
        was.results a.it a.stands d (subst (Has d) same i);
    arguments = λ b h d i.
        let a = c.blocks b h in
        was.arguments a.it a.stands d (subst (Has d) (ap (λ l. l.arguments) (sym (same_label a.it b a.is))) i);
  }

-- so what is pruned is good where it is made so, and keeps the rules where values have the types that it says
module _ (leads : TypeHandle → Option KitType) (g : Pruning) (t : KitTree) (may : MayPrune g t) (after : KitTree)
    (is : after ≡ prune_tree g t) where
  pub keeps_from : (old new : Value → Option TypeHandle) → IsGood leads old t → HasDeclaredTypes new after →
      ObeysIn (kit_world leads new) after
  keeps_from old new good typed = subst (ObeysIn (kit_world leads new)) (sym is)
      (pruned_keeps leads old new g t good may (subst (HasDeclaredTypes new) is typed))

  pub good_from : (typed : Value → Option TypeHandle) → IsGood leads typed t → Carries t after →
      IsGood leads typed after
  good_from typed good carries =
      let now : HasDeclaredTypes typed after = carried_typed t after carries typed good.typed_in in
      record {
        obeys = keeps_from typed typed good now;
        typed_in = now;
        apart =
            carried_apart t after carries good.apart;
      }
