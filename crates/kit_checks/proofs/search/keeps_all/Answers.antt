use Rattle.std.proofs.Common.{IsTrue, ◌↔◌, refl}
use Rattle.kit_checks.specs.Faults.{Keeps}
use Rattle.kit_checks.specs.World.{world_of}
use Rattle.kit_checks.specs.declared.rule.Rule.TheVariants as rule
use Rattle.kit_checks.proofs.LocalRules.{all_local, both, neither}
use Rattle.kit_checks.proofs.search.keeps_all.Goals as goal
use Rattle.kit_checks.proofs.search.keeps_all.Goals.{then-root_is_module, else-root_is_module}
use Rattle.kit_checks.proofs.search.keeps_all.Goals.{then-function_has_type, else-function_has_type}
use Rattle.kit_checks.proofs.search.keeps_all.Goals.{then-function_holds, else-function_holds}
use Rattle.kit_checks.proofs.search.keeps_all.Goals.{then-values_are_integers, else-values_are_integers}
use Rattle.kit_checks.proofs.search.keeps_all.Goals.{then-blocks_end, else-blocks_end}
use Rattle.kit_checks.proofs.search.keeps_all.Goals.{then-operands_are_visible, else-operands_are_visible}
use Rattle.kit_checks.proofs.search.keeps_all.Goals.{then-types_agree, else-types_agree}
use Rattle.kit_checks.proofs.search.keeps_all.Goals.{then-edges_fit, else-edges_fit}
use Rattle.kit_checks.proofs.search.keeps_all.Goals.{then-returns_fit, else-returns_fit}
use Rattle.kit_checks.proofs.search.keeps_all.Goals.{then-constants_fit, else-constants_fit}

pub returns-then-attributes_are_known : goal.returns-then-attributes_are_known
returns-then-attributes_are_known c s at =
    let keeps = Keeps (world_of c.args.ctx.now) in
    let kept-0 : IsTrue c.if-root_is_module.value ↔ (_ × keeps rule.FunctionHasType s) = elim c.if-root_is_module.branch [
      | then-root_is_module w ↦ both w.if-root_is_module.true (c.root_is_module.ensures s at) (w.function_has_type.ensures s.op at.tree) w.value-is
      | else-root_is_module w ↦ neither w.if-root_is_module.false (c.root_is_module.ensures s at) w.value-is
    ] in
    let kept-1 : IsTrue c.if-function_has_type.value ↔ (_ × keeps rule.FunctionHolds s) = elim c.if-function_has_type.branch [
      | then-function_has_type w ↦ both w.if-function_has_type.true kept-0 (w.function_holds.ensures s at) w.value-is
      | else-function_has_type w ↦ neither w.if-function_has_type.false kept-0 w.value-is
    ] in
    let kept-2 : IsTrue c.if-function_holds.value ↔ (_ × keeps rule.ValuesAreIntegers s) = elim c.if-function_holds.branch [
      | then-function_holds w ↦ both w.if-function_holds.true kept-1 (w.values_are_integers.ensures s at) w.value-is
      | else-function_holds w ↦ neither w.if-function_holds.false kept-1 w.value-is
    ] in
    let kept-3 : IsTrue c.if-values_are_integers.value ↔ (_ × keeps rule.BlocksEnd s) = elim c.if-values_are_integers.branch [
      | then-values_are_integers w ↦ both w.if-values_are_integers.true kept-2 (w.blocks_end.ensures s at) w.value-is
      | else-values_are_integers w ↦ neither w.if-values_are_integers.false kept-2 w.value-is
    ] in
    let kept-4 : IsTrue c.if-blocks_end.value ↔ (_ × keeps rule.OperandsAreVisible s) = elim c.if-blocks_end.branch [
      | then-blocks_end w ↦ both w.if-blocks_end.true kept-3 (w.operands_are_visible.ensures s at) w.value-is
      | else-blocks_end w ↦ neither w.if-blocks_end.false kept-3 w.value-is
    ] in
    let kept-5 : IsTrue c.if-operands_are_visible.value ↔ (_ × keeps rule.TypesAgree s) = elim c.if-operands_are_visible.branch [
      | then-operands_are_visible w ↦ both w.if-operands_are_visible.true kept-4 (w.types_agree.ensures s.op at.tree) w.value-is
      | else-operands_are_visible w ↦ neither w.if-operands_are_visible.false kept-4 w.value-is
    ] in
    let kept-6 : IsTrue c.if-types_agree.value ↔ (_ × keeps rule.EdgesFit s) = elim c.if-types_agree.branch [
      | then-types_agree w ↦ both w.if-types_agree.true kept-5 (w.edges_fit.ensures s at) w.value-is
      | else-types_agree w ↦ neither w.if-types_agree.false kept-5 w.value-is
    ] in
    let kept-7 : IsTrue c.if-edges_fit.value ↔ (_ × keeps rule.ReturnsFit s) = elim c.if-edges_fit.branch [
      | then-edges_fit w ↦ both w.if-edges_fit.true kept-6 (w.returns_fit.ensures s at) w.value-is
      | else-edges_fit w ↦ neither w.if-edges_fit.false kept-6 w.value-is
    ] in
    let kept-8 : IsTrue c.if-returns_fit.value ↔ (_ × keeps rule.ConstantsFit s) = elim c.if-returns_fit.branch [
      | then-returns_fit w ↦ both w.if-returns_fit.true kept-7 (w.constants_fit.ensures s.op at.tree) w.value-is
      | else-returns_fit w ↦ neither w.if-returns_fit.false kept-7 w.value-is
    ] in
    let kept-9 : IsTrue c.if-constants_fit.value ↔ (_ × keeps rule.AttributesAreKnown s) = elim c.if-constants_fit.branch [
      | then-constants_fit w ↦ both w.if-constants_fit.true kept-8 (w.attributes_are_known.ensures s at) w.value-is
      | else-constants_fit w ↦ neither w.if-constants_fit.false kept-8 w.value-is
    ] in
    all_local (world_of c.args.ctx.now) s _ (both c.if-attributes_are_known.true kept-9 (c.fits_format.ensures s.op at.tree) refl)

pub returns-else-attributes_are_known : goal.returns-else-attributes_are_known
returns-else-attributes_are_known c s at =
    let keeps = Keeps (world_of c.args.ctx.now) in
    let kept-0 : IsTrue c.if-root_is_module.value ↔ (_ × keeps rule.FunctionHasType s) = elim c.if-root_is_module.branch [
      | then-root_is_module w ↦ both w.if-root_is_module.true (c.root_is_module.ensures s at) (w.function_has_type.ensures s.op at.tree) w.value-is
      | else-root_is_module w ↦ neither w.if-root_is_module.false (c.root_is_module.ensures s at) w.value-is
    ] in
    let kept-1 : IsTrue c.if-function_has_type.value ↔ (_ × keeps rule.FunctionHolds s) = elim c.if-function_has_type.branch [
      | then-function_has_type w ↦ both w.if-function_has_type.true kept-0 (w.function_holds.ensures s at) w.value-is
      | else-function_has_type w ↦ neither w.if-function_has_type.false kept-0 w.value-is
    ] in
    let kept-2 : IsTrue c.if-function_holds.value ↔ (_ × keeps rule.ValuesAreIntegers s) = elim c.if-function_holds.branch [
      | then-function_holds w ↦ both w.if-function_holds.true kept-1 (w.values_are_integers.ensures s at) w.value-is
      | else-function_holds w ↦ neither w.if-function_holds.false kept-1 w.value-is
    ] in
    let kept-3 : IsTrue c.if-values_are_integers.value ↔ (_ × keeps rule.BlocksEnd s) = elim c.if-values_are_integers.branch [
      | then-values_are_integers w ↦ both w.if-values_are_integers.true kept-2 (w.blocks_end.ensures s at) w.value-is
      | else-values_are_integers w ↦ neither w.if-values_are_integers.false kept-2 w.value-is
    ] in
    let kept-4 : IsTrue c.if-blocks_end.value ↔ (_ × keeps rule.OperandsAreVisible s) = elim c.if-blocks_end.branch [
      | then-blocks_end w ↦ both w.if-blocks_end.true kept-3 (w.operands_are_visible.ensures s at) w.value-is
      | else-blocks_end w ↦ neither w.if-blocks_end.false kept-3 w.value-is
    ] in
    let kept-5 : IsTrue c.if-operands_are_visible.value ↔ (_ × keeps rule.TypesAgree s) = elim c.if-operands_are_visible.branch [
      | then-operands_are_visible w ↦ both w.if-operands_are_visible.true kept-4 (w.types_agree.ensures s.op at.tree) w.value-is
      | else-operands_are_visible w ↦ neither w.if-operands_are_visible.false kept-4 w.value-is
    ] in
    let kept-6 : IsTrue c.if-types_agree.value ↔ (_ × keeps rule.EdgesFit s) = elim c.if-types_agree.branch [
      | then-types_agree w ↦ both w.if-types_agree.true kept-5 (w.edges_fit.ensures s at) w.value-is
      | else-types_agree w ↦ neither w.if-types_agree.false kept-5 w.value-is
    ] in
    let kept-7 : IsTrue c.if-edges_fit.value ↔ (_ × keeps rule.ReturnsFit s) = elim c.if-edges_fit.branch [
      | then-edges_fit w ↦ both w.if-edges_fit.true kept-6 (w.returns_fit.ensures s at) w.value-is
      | else-edges_fit w ↦ neither w.if-edges_fit.false kept-6 w.value-is
    ] in
    let kept-8 : IsTrue c.if-returns_fit.value ↔ (_ × keeps rule.ConstantsFit s) = elim c.if-returns_fit.branch [
      | then-returns_fit w ↦ both w.if-returns_fit.true kept-7 (w.constants_fit.ensures s.op at.tree) w.value-is
      | else-returns_fit w ↦ neither w.if-returns_fit.false kept-7 w.value-is
    ] in
    let kept-9 : IsTrue c.if-constants_fit.value ↔ (_ × keeps rule.AttributesAreKnown s) = elim c.if-constants_fit.branch [
      | then-constants_fit w ↦ both w.if-constants_fit.true kept-8 (w.attributes_are_known.ensures s at) w.value-is
      | else-constants_fit w ↦ neither w.if-constants_fit.false kept-8 w.value-is
    ] in
    all_local (world_of c.args.ctx.now) s _ (neither c.if-attributes_are_known.false kept-9 refl)
