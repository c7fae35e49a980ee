-- A good tree that is pruned keeps all rules.
use Rattle.std.proofs.Common.{Option}
use Rattle.ir_base.specs.declared.types.TypeHandle.{TypeHandle}
use Rattle.ir_program.specs.declared.handles.Value.{Value}
use Rattle.kit.specs.Context.{KitTree}
use Rattle.kit_checks.specs.Faults.{Keeps}
use Rattle.kit_checks.specs.KitWorld.{HasDeclaredTypes, kit_world}
use Rattle.kit_checks.specs.declared.rule.Rule.{Rule}
use Rattle.kit_checks.specs.declared.rule.Rule.TheVariants as rule
use Rattle.kit_ops.specs.declared.types.KitType.{KitType}
use Rattle.kit_pass_rules.specs.Laws.{IsGood}
use Rattle.kit_pass_rules.specs.Worlds.{ObeysIn}
use Rattle.kit_pass_rules.proofs.DceCame.{KitSite}
use Rattle.kit_pass_rules.proofs.pruning.PrunedTrees.{Pruning, prune_tree}
use Rattle.kit_pass_rules.proofs.pruning.PrunedSites.{MayPrune, Came, came_from}
use Rattle.kit_pass_rules.proofs.pruning.EdgeRules.{rule_edges}
use Rattle.kit_pass_rules.proofs.pruning.LocalRules.{rule_constants, rule_attributes, rule_types, rule_returns}
use Rattle.kit_pass_rules.proofs.pruning.LocalRules.{rule_calls}
use Rattle.kit_pass_rules.proofs.pruning.LocalRules.{rule_format}
use Rattle.kit_pass_rules.proofs.pruning.PlacementRules.{rule_root, rule_module, rule_function, rule_holds, rule_values}
use Rattle.kit_pass_rules.proofs.pruning.PlacementRules.{rule_ends}
use Rattle.kit_pass_rules.proofs.pruning.PlacementRules.{rule_visible}

module _ (leads : TypeHandle → Option KitType) (old new : Value → Option TypeHandle) (g : Pruning) (t : KitTree)
    (good : IsGood leads old t) (may : MayPrune g t)
    (typed : HasDeclaredTypes new (prune_tree g t)) where
  kept : (r : Rule) (s : KitSite) → Came g t may s → Keeps (kit_world leads new) r s
  kept rule.RootIsModule s c = rule_root leads old new g t good may s c
  kept rule.ModuleHolds s c = rule_module leads old new g t good may s c
  kept rule.FunctionHasType s c = rule_function leads old new g t good may s c
  kept rule.FunctionHolds s c = rule_holds leads old new g t good may s c
  kept rule.ValuesAreIntegers s c = rule_values leads old new g t good may s c
  kept rule.BlocksEnd s c = rule_ends leads old new g t good may s c
  kept rule.OperandsAreVisible s c = rule_visible leads old new g t good may s c
  kept rule.TypesAgree s c = rule_types leads old new g t good may typed s c
  kept rule.EdgesFit s c = rule_edges leads old new g t good may typed s c
  kept rule.CallsFit s c = rule_calls leads old new g t good may typed s c
  kept rule.ReturnsFit s c = rule_returns leads old new g t good may typed s c
  kept rule.ConstantsFit s c = rule_constants leads old new g t good may s c
  kept rule.AttributesAreKnown s c = rule_attributes leads old new g t good may s c
  kept rule.FitsFormat s c = rule_format leads old new g t good may s c

  pub pruned_keeps : ObeysIn (kit_world leads new) (prune_tree g t)
  pruned_keeps r p s e = kept r s (came_from g t may p s e)
