-- What is left of a good tree without what is dead keeps all rules.
use Rattle.std.proofs.Common.{◌≡◌, [], Option, None, refl, sym, ap, ◌∙◌, subst}
use Rattle.ir_base.specs.declared.types.TypeHandle.{TypeHandle}
use Rattle.ir_program.specs.declared.handles.Value.{Value}
use Rattle.ir_trees.specs.Stands.{by_handle}
use Rattle.kit.specs.Context.{KitTree}
use Rattle.kit.specs.Meaning.{kit, dropped_of}
use Rattle.kit_checks.specs.Faults.{Keeps}
use Rattle.kit_checks.specs.KitWorld.{HasDeclaredTypes, kit_world}
use Rattle.kit_checks.specs.Rules as rules
use Rattle.kit_checks.specs.declared.rule.Rule.{Rule}
use Rattle.kit_checks.specs.declared.rule.Rule.TheVariants as rule
use Rattle.kit_ops.specs.declared.attributes.IntegerAttr.{IntegerAttr}
use Rattle.kit_ops.specs.declared.kinds.KitOp.TheVariants as ops
use Rattle.kit_ops.specs.declared.types.KitType.{KitType}
use Rattle.kit_pass_rules.specs.Laws.{IsGood, DceKeepsRules}
use Rattle.kit_pass_rules.specs.Worlds.{ObeysIn}
use Rattle.kit_pass_rules.proofs.DceCame.{KitSite, Came, at_root, below, came_from}
use Rattle.kit_pass_rules.proofs.DceEdges.{edges_fit}
use Rattle.kit_pass_rules.proofs.DceMore.{rule_function, rule_constants, rule_attributes, rule_types, rule_returns, rule_calls, rule_format}
use Rattle.kit_pass_rules.proofs.DceRules.{root_keeps, rule_root, rule_module, rule_holds, rule_values, rule_ends, rule_visible}
use Rattle.kit_pass_rules.proofs.Thin.{thin_tree}
use Rattle.opt_trees.specs.Dialect.{drop}
use Rattle.opt_trees.specs.Dce.{TreeSurroundings as DceAround, Gone, IsGoneExactly, thin}
use Rattle.opt_trees.proofs.Lists.{none_some}

module _ (leads : TypeHandle → Option KitType) (old new : Value → Option TypeHandle) (w : DceAround by_handle IntegerAttr) (t : KitTree)
    (good : IsGood leads old t) (g : Gone by_handle) (is_gone : IsGoneExactly kit w t g) where
  rule_edges : HasDeclaredTypes new (thin_tree g t) → (s : KitSite) → Came g t s → rules.EdgesFit (kit_world leads new) s
  rule_edges typed _ at_root = λ edge target e.
      let r : rules.EdgesFit (kit_world leads old) (record { op = t; around = None }) = root_keeps leads old new w t good g is_gone rule.EdgesFit in
      let x = r edge target e in absurd (none_some x.0 x.1)
  rule_edges typed _ (below u a j o) = edges_fit leads old new w t good g is_gone typed u a j o

  all_kept : HasDeclaredTypes new (thin_tree g t) → (r : Rule) (s : KitSite) → Came g t s → Keeps (kit_world leads new) r s
  all_kept typed rule.RootIsModule s c = rule_root leads old new w t good g is_gone s c
  all_kept typed rule.ModuleHolds s c = rule_module leads old new w t good g is_gone s c
  all_kept typed rule.FunctionHasType s c = rule_function leads old new w t good g is_gone s c
  all_kept typed rule.FunctionHolds s c = rule_holds leads old new w t good g is_gone s c
  all_kept typed rule.ValuesAreIntegers s c = rule_values leads old new w t good g is_gone s c
  all_kept typed rule.BlocksEnd s c = rule_ends leads old new w t good g is_gone s c
  all_kept typed rule.OperandsAreVisible s c = rule_visible leads old new w t good g is_gone s c
  all_kept typed rule.TypesAgree s c = rule_types leads old new w t good g is_gone typed s c
  all_kept typed rule.EdgesFit s c = rule_edges typed s c
  all_kept typed rule.CallsFit s c = rule_calls leads old new w t good g is_gone typed s c
  all_kept typed rule.ReturnsFit s c = rule_returns leads old new w t good g is_gone typed s c
  all_kept typed rule.ConstantsFit s c = rule_constants leads old new w t good g is_gone s c
  all_kept typed rule.AttributesAreKnown s c = rule_attributes leads old new w t good g is_gone s c
  all_kept typed rule.FitsFormat s c = rule_format leads old new w t good g is_gone s c

  -- the root loses nothing itself
  root_same : thin_tree g t ≡ record { head = t.head; regions = thin kit g t.regions }
  root_same =
      let m : t.head.content.kind ≡ ops.Module = root_keeps leads old new w t good g is_gone rule.RootIsModule refl in
      let r : rules.OperandsAreVisible (kit_world leads old) (record { op = t; around = None }) = root_keeps leads old new w t good g is_gone rule.OperandsAreVisible in
      let none : t.head.operands ≡ [] = r.root refl in
      let operands : drop (g.operand t.head.name) t.head.operands ≡ t.head.operands = ap (drop (g.operand t.head.name)) none ∙ sym none in
      let attributes : dropped_of t.head.content.kind (g.operand t.head.name) t.head.content.notes.attributes ≡ t.head.content.notes.attributes =
      ap (λ k. dropped_of k (g.operand t.head.name) t.head.content.notes.attributes) m in
      λ i. record {
        head = record {
          name = t.head.name;
          content = record t.head.content { notes = record t.head.content.notes { attributes = attributes i } };
          results = t.head.results;
          operands = operands i;
          successors = t.head.successors;
        };
        regions = thin kit g t.regions;
      }

  pub left_keeps : (after : KitTree) → after ≡ record { head = t.head; regions = thin kit g t.regions } → HasDeclaredTypes new after → ObeysIn (kit_world leads new) after
  left_keeps after e typed =
      let same : thin_tree g t ≡ after = root_same ∙ sym e in
      subst (ObeysIn (kit_world leads new)) same (λ r p s at. all_kept (subst (HasDeclaredTypes new) (sym same) typed) r s (came_from g t p s at))

pub dce_law : DceKeepsRules
dce_law = λ w leads old new t after good made typed. left_keeps leads old new w t good made.gone made.is_gone after made.is typed
