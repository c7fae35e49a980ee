use Rattle.std.proofs.Common.{sym, subst}
use Rattle.kit_checks.specs.Searching.{Tells}
use Rattle.kit_checks.specs.World.{world_of}
use Rattle.kit_checks.proofs.tests.keeps.Goals as goal

pub returns-in-RootIsModule : goal.returns-in-RootIsModule
returns-in-RootIsModule c = subst (λ r. Tells (world_of c.args.ctx.now) c.args.ctx.now.program c.args.root r c.args.op c.root_is_module.result) (sym c.in-RootIsModule.is) c.root_is_module.ensures

pub returns-in-FunctionHolds : goal.returns-in-FunctionHolds
returns-in-FunctionHolds c = subst (λ r. Tells (world_of c.args.ctx.now) c.args.ctx.now.program c.args.root r c.args.op c.function_holds.result) (sym c.in-FunctionHolds.is) c.function_holds.ensures

pub returns-in-ValuesAreIntegers : goal.returns-in-ValuesAreIntegers
returns-in-ValuesAreIntegers c = subst (λ r. Tells (world_of c.args.ctx.now) c.args.ctx.now.program c.args.root r c.args.op c.values_are_integers.result) (sym c.in-ValuesAreIntegers.is) c.values_are_integers.ensures

pub returns-in-BlocksEnd : goal.returns-in-BlocksEnd
returns-in-BlocksEnd c = subst (λ r. Tells (world_of c.args.ctx.now) c.args.ctx.now.program c.args.root r c.args.op c.blocks_end.result) (sym c.in-BlocksEnd.is) c.blocks_end.ensures

pub returns-in-TypesAgree : goal.returns-in-TypesAgree
returns-in-TypesAgree c = subst (λ r. Tells (world_of c.args.ctx.now) c.args.ctx.now.program c.args.root r c.args.op c.types_agree.result) (sym c.in-TypesAgree.is) (λ s at. c.types_agree.ensures s.op at.tree)

pub returns-in-ConstantsFit : goal.returns-in-ConstantsFit
returns-in-ConstantsFit c = subst (λ r. Tells (world_of c.args.ctx.now) c.args.ctx.now.program c.args.root r c.args.op c.constants_fit.result) (sym c.in-ConstantsFit.is) (λ s at. c.constants_fit.ensures s.op at.tree)

pub returns-in-FitsFormat : goal.returns-in-FitsFormat
returns-in-FitsFormat c = subst (λ r. Tells (world_of c.args.ctx.now) c.args.ctx.now.program c.args.root r c.args.op c.fits_format.result) (sym c.in-FitsFormat.is) (λ s at. c.fits_format.ensures s.op at.tree)

pub returns-in-AttributesAreKnown : goal.returns-in-AttributesAreKnown
returns-in-AttributesAreKnown c = subst (λ r. Tells (world_of c.args.ctx.now) c.args.ctx.now.program c.args.root r c.args.op c.attributes_are_known.result) (sym c.in-AttributesAreKnown.is) c.attributes_are_known.ensures

pub returns-in-FunctionHasType : goal.returns-in-FunctionHasType
returns-in-FunctionHasType c = subst (λ r. Tells (world_of c.args.ctx.now) c.args.ctx.now.program c.args.root r c.args.op c.function_has_type.result) (sym c.in-FunctionHasType.is) (λ s at. c.function_has_type.ensures s.op at.tree)

pub returns-in-OperandsAreVisible : goal.returns-in-OperandsAreVisible
returns-in-OperandsAreVisible c = subst (λ r. Tells (world_of c.args.ctx.now) c.args.ctx.now.program c.args.root r c.args.op c.operands_are_visible.result) (sym c.in-OperandsAreVisible.is) c.operands_are_visible.ensures

pub returns-in-EdgesFit : goal.returns-in-EdgesFit
returns-in-EdgesFit c = subst (λ r. Tells (world_of c.args.ctx.now) c.args.ctx.now.program c.args.root r c.args.op c.edges_fit.result) (sym c.in-EdgesFit.is) c.edges_fit.ensures

pub returns-in-ReturnsFit : goal.returns-in-ReturnsFit
returns-in-ReturnsFit c = subst (λ r. Tells (world_of c.args.ctx.now) c.args.ctx.now.program c.args.root r c.args.op c.returns_fit.result) (sym c.in-ReturnsFit.is) c.returns_fit.ensures
