-- Operations of two worlds that are alike: with all that is in them and around them, up to the handles of values,
-- types, blocks and operations.
use Rattle.std.specs.Prelude.{◌≡◌, Option, Some, None, option_and_then}
use Rattle.ir_base.specs.declared.types.TypeHandle.{TypeHandle}
use Rattle.ir_names.specs.Dictionary.{attribute_at}
use Rattle.ir_print.specs.Shown.{Pairs}
use Rattle.ir_program.specs.declared.handles.BasicBlock.{BasicBlock}
use Rattle.ir_program.specs.declared.handles.Ptr.{Ptr}
use Rattle.ir_program.specs.declared.handles.Value.{Value}
use Rattle.ir_trees.specs.Stands.{ProgramTree, ProgramHead}
use Rattle.ir_trees.specs.Trees.{Defined, Sort, Operations, Blocks, Regions, end, operation, block, region}
use Rattle.ir_trees.specs.Stands.{ProgramLabel}
use Rattle.kit_ops.specs.declared.attributes.keys.TheConstants.{SYMBOL_NAME, FUNCTION_TYPE, CONSTANT_VALUE, CALLEE}
use Rattle.kit_ops.specs.declared.attributes.keys.TheConstants.{CALLEE_TYPE, SEGMENT_SIZES}
use Rattle.kit_ops.specs.declared.attributes.IntegerAttr.{IntegerAttr}
use Rattle.kit_ops.specs.declared.attributes.KitAttr.TheVariants as attrs
use Rattle.kit_ops.specs.declared.kinds.KitOp.TheVariants as ops
use Rattle.kit_ops.specs.declared.types.FunctionType.{FunctionType}
use Rattle.kit_checks.specs.declared.rule.Rule.{Rule}
use Rattle.kit_checks.specs.declared.rule.Rule.TheVariants as rule
use Rattle.kit_checks.specs.Rules.{IsCommon, MayHave}
use Rattle.kit_checks.specs.Sites.{Around, Body, Listed, Site}
use Rattle.kit_checks.specs.Words.{Every, function_type, identifier_in, integer_in, integer_type, sizes_in, type_in}
use Rattle.kit_checks.specs.World.{World}

-- both are there and are so, or neither is there
abbrev pub AreBoth : {X Y : Type 0} → (X → Y → Type 0) → Option X → Option Y → Type 0
AreBoth R None None = Unit {0}
AreBoth R (Some x) (Some y) = R x y
AreBoth R None (Some y) = ⊥
AreBoth R (Some x) None = ⊥

-- what belongs to the same is the same
abbrev pub IsInjective : {X Y : Type 0} → (X → Y → Type 0) → Type 0
IsInjective {X} {Y} R = (a b : X) (c d : Y) → R a c → R b d → c ≡ d → a ≡ b

-- two worlds, and which types, values and blocks of the one belong to which of the other
module _ {O B P C : Type 0} (w : World O B) (x : World P C) (OfTypes : TypeHandle → TypeHandle → Type 0)
    (OfValues : Value → Value → Type 0) (OfBlocks : Ptr BasicBlock → Ptr BasicBlock → Type 0) where
  -- function types of types that belong to one another
  abbrev pub AreSignatures : FunctionType → FunctionType → Type 0
  AreSignatures f g = Pairs OfTypes f.inputs.items g.inputs.items × Pairs OfTypes f.results.items g.results.items

  -- types, values and blocks of the first world are told apart where those of the second are, and values of the second
  -- where those of the first are; types that belong to one another are the same integer type or alike function types
  pub record BelongTogether : Type 0 where
    pub types_back : IsInjective OfTypes
    pub values_back : IsInjective OfValues
    pub values_forth : IsInjective (λ u v. OfValues v u)
    pub blocks_back : IsInjective OfBlocks
    pub integers : (a c : TypeHandle) → OfTypes a c → integer_type w a ≡ integer_type x c
    pub functions : (a c : TypeHandle) → OfTypes a c → AreBoth AreSignatures (function_type w a) (function_type x c)

  -- values that belong to one another, and so do their types
  abbrev pub AreTypedAlike : Value → Value → Type 0
  AreTypedAlike v u = OfValues v u × AreBoth OfTypes (w.value_type v) (x.value_type u)

  abbrev pub AreDefinedAlike : Defined Value TypeHandle → Defined Value TypeHandle → Type 0
  AreDefinedAlike d e = AreTypedAlike d.name e.name × OfTypes d.holds e.holds

  -- the same number of the same integer type, and the types whose handles they hold belong to one another
  pub record AreIntegers (a b : IntegerAttr) : Type 0 where
    pub bits : a.bits ≡ b.bits
    pub integer : a.integer ≡ b.integer
    pub types : OfTypes a.ty b.ty

  -- operations of one kind, with operands, results and successors that belong to one another, and attributes
  -- that say the same; the first has no others than its own
  pub record AreHeads (h : ProgramHead O B) (k : ProgramHead P C) : Type 0 where
    pub kinds : w.kind h.content ≡ x.kind k.content
    pub operands : Pairs OfValues h.operands k.operands
    pub results : Pairs AreDefinedAlike h.results k.results
    pub successors : Pairs OfBlocks h.successors k.successors
    pub names : option_and_then identifier_in (attribute_at (w.attributes h.content) SYMBOL_NAME.now)
        ≡ option_and_then identifier_in (attribute_at (x.attributes k.content) SYMBOL_NAME.now)
    pub types : w.kind h.content ≡ ops.Func →
        AreBoth OfTypes (option_and_then type_in (attribute_at (w.attributes h.content) FUNCTION_TYPE.now))
        (option_and_then type_in (attribute_at (x.attributes k.content) FUNCTION_TYPE.now))
    pub constants : w.kind h.content ≡ ops.Constant →
        AreBoth AreIntegers (option_and_then integer_in (attribute_at (w.attributes h.content) CONSTANT_VALUE.now))
        (option_and_then integer_in (attribute_at (x.attributes k.content) CONSTANT_VALUE.now))
    pub valued : w.kind h.content ≡ ops.Constant →
        (v : IntegerAttr) × (attribute_at (w.attributes h.content) CONSTANT_VALUE.now ≡ Some (attrs.Integer v))
    pub own : Every (MayHave (w.kind h.content)) (w.attributes h.content)
    pub callees : w.kind h.content ≡ ops.Call →
        option_and_then identifier_in (attribute_at (w.attributes h.content) CALLEE.now)
        ≡ option_and_then identifier_in (attribute_at (x.attributes k.content) CALLEE.now)
    pub callee_types : w.kind h.content ≡ ops.Call →
        AreBoth OfTypes (option_and_then type_in (attribute_at (w.attributes h.content) CALLEE_TYPE.now))
        (option_and_then type_in (attribute_at (x.attributes k.content) CALLEE_TYPE.now))
    pub sizes : w.kind h.content ≡ ops.CondBr →
        option_and_then sizes_in (attribute_at (w.attributes h.content) SEGMENT_SIZES.now)
        ≡ option_and_then sizes_in (attribute_at (x.attributes k.content) SEGMENT_SIZES.now)

  -- lists of operations, of blocks, of regions that are alike one by one; blocks of the first have only attributes that
  -- all may have
  pub data AreAlike : (s : Sort) → Listed O B s → Listed P C s → Type 0 where
    no_operations : AreAlike Operations end end
    no_blocks : AreAlike Blocks end end
    no_regions : AreAlike Regions end end
    operations : (h : ProgramHead O B) (k : ProgramHead P C) (rs : Listed O B Regions) (qs : Listed P C Regions)
        (rest : Listed O B Operations) (others : Listed P C Operations) → AreHeads h k → AreAlike Regions rs qs →
        AreAlike Operations rest others → AreAlike Operations (operation h rs rest) (operation k qs others)
    blocks : (l : ProgramLabel O B) (m : ProgramLabel P C) (os : Listed O B Operations) (ps : Listed P C Operations)
        (rest : Listed O B Blocks) (others : Listed P C Blocks) → OfBlocks l.name m.name → Pairs AreDefinedAlike l.arguments m.arguments →
        Every IsCommon (w.block_attributes l.content) → AreAlike Operations os ps → AreAlike Blocks rest others →
        AreAlike Blocks (block l os rest) (block m ps others)
    regions : (bs : Listed O B Blocks) (cs : Listed P C Blocks) (rest : Listed O B Regions)
        (others : Listed P C Regions) →
        AreAlike Blocks bs cs → AreAlike Regions rest others → AreAlike Regions (region bs rest) (region cs others)

  pub record AreTrees (t : ProgramTree O B) (u : ProgramTree P C) : Type 0 where
    pub heads : AreHeads t.head u.head
    pub inside : AreAlike Regions t.regions u.regions

  pub record AreBodies (b : Body O B) (d : Body P C) : Type 0 where
    pub names : OfBlocks b.label.name d.label.name
    pub arguments : Pairs AreDefinedAlike b.label.arguments d.label.arguments
    pub known : Every IsCommon (w.block_attributes b.label.content)
    pub listed : AreAlike Operations b.operations d.operations

  -- around two operations are alike operations, those that they are in and all around these, and alike blocks, and they
  -- stand at the same indices
  pub record AreAround (a : Around O B) (b : Around P C) : Type 0 where
    pub owners : AreTrees a.owner b.owner
    pub outer : Pairs AreTrees a.outer b.outer
    pub beside : AreAlike Blocks a.blocks b.blocks
    pub numbers : a.number ≡ b.number
    pub bodies : AreBodies a.body b.body
    pub indices : a.index ≡ b.index

  pub record AreSitesAlike (s : Site O B) (z : Site P C) : Type 0 where
    pub trees : AreTrees s.op z.op
    pub surroundings : AreBoth AreAround s.around z.around

-- whether the rule is kept is told by the types of operands, and so where these are known to be visible
abbrev pub AreVisibleFirst : Rule → Type 0
AreVisibleFirst rule.TypesAgree = Unit {0}
AreVisibleFirst rule.EdgesFit = Unit {0}
AreVisibleFirst rule.CallsFit = Unit {0}
AreVisibleFirst rule.ReturnsFit = Unit {0}
AreVisibleFirst _ = ⊥
