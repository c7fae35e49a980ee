-- Each rule of operations that are alike.
use Rattle.std.proofs.Common.{◌≡◌, ◌≢◌, ◌↔◌, ◌<◌, ◌+◌, ◌^◌, ℕ, suc, true, List, [], ◌∷◌, ◌++◌, map, length, Option}
use Rattle.std.proofs.Common.{Some, None}
use Rattle.std.proofs.Common.{slice_get, option_and_then, refl, sym, ap, ◌∙◌, subst}
use Rattle.ir_base.specs.declared.types.TypeHandle.{TypeHandle}
use Rattle.ir_print.specs.Shown.{Pairs}
use Rattle.ir_program.specs.declared.handles.BasicBlock.{BasicBlock}
use Rattle.ir_program.specs.declared.handles.Ptr.{Ptr}
use Rattle.ir_program.specs.declared.handles.Value.{Value}
use Rattle.ir_trees.specs.Searched.{Lists}
use Rattle.ir_trees.specs.Trees.{Blocks}
use Rattle.kit_ops.specs.declared.attributes.KitAttr.TheVariants as attrs
use Rattle.kit_ops.specs.declared.kinds.KitOp.{KitOp}
use Rattle.kit_ops.specs.declared.kinds.KitOp.TheVariants as ops
use Rattle.kit_ops.specs.declared.types.IntegerType.{IntegerType}
use Rattle.kit_checks.specs.declared.rule.Rule.{Rule}
use Rattle.kit_checks.specs.declared.rule.Rule.TheVariants as rule
use Rattle.kit_checks.specs.Faults.{Keeps}
use Rattle.kit_checks.specs.Rules as rules
use Rattle.kit_checks.specs.Sites.{Around, Body, Site, operation_list, block_list, region_list}
use Rattle.kit_checks.specs.Words as words
use Rattle.kit_checks.specs.World.{World}
use Rattle.kit_text_programs.specs.Alike.{AreBoth, AreTypedAlike, AreVisibleFirst, BelongTogether, AreSignatures, AreIntegers}
use Rattle.kit_text_programs.specs.Alike.{AreAlike, AreTrees, AreBodies, AreAround}
use Rattle.kit_text_programs.specs.Alike.{AreSitesAlike}
use Rattle.kit_text_programs.proofs.AlikeLists.{same_length, beside, before, none_left, every_back, list_back, both_back}
use Rattle.kit_text_programs.proofs.AlikeLists.{member_back}
use Rattle.kit_text_programs.proofs.AlikeLists.{alike_back, some_first, some_second, none_second, pairs_joined}
use Rattle.kit_text_programs.proofs.AlikeLists.{pairs_mapped, pairs_unmapped, pairs_segment}
use Rattle.kit_text_programs.proofs.AlikeParts.{listed_operations, listed_blocks, listed_regions, members_alike, modules_alike}
use Rattle.kit_text_programs.proofs.AlikeParts.{region_bodies, bodies_alike}
use Rattle.kit_text_programs.proofs.AlikeParts.{entry_alike, types_alike}
use Rattle.kit_text_programs.proofs.AlikeParts.{visible_alike}

map_some : {X Y : Type 0} (R : X → Y → Type 0) (xs : List X) (ys : List Y) → Pairs R xs ys
    → Pairs (AreBoth R) (map Some xs) (map Some ys)
map_some R xs ys h = pairs_mapped R (AreBoth R) Some Some (λ x y k. k) xs ys h

tail_of : {X : Type 0} (x y : X) (xs ys : List X) → x ∷ xs ≡ y ∷ ys → xs ≡ ys
tail_of x y xs ys e = cc

head_of : {X : Type 0} (x y : X) (xs ys : List X) → x ∷ xs ≡ y ∷ ys → x ≡ y
head_of x y xs ys e = cc

-- a list beside a list of one list of one member is one, of one member
one_one : {X Y : Type 0} (R : X → Y → Type 0) (xs : List (List X)) (ys : List (List Y)) (y : Y) → Pairs (Pairs R) xs ys
    → ys ≡ (y ∷ []) ∷ [] → (x : X) × (xs ≡ (x ∷ []) ∷ []) × R x y
one_one R [] [] y h e = cc
one_one R [] (b ∷ ys) y h e = absurd h
one_one R (a ∷ xs) [] y h e = absurd h
one_one R (a ∷ xs) (b ∷ ys) y h e =
    let rest : xs ≡ [] = none_left (Pairs R) xs ys h.1 (tail_of b (y ∷ []) ys [] e) in
    let first = alone R a b y h.0 (head_of b (y ∷ []) ys [] e) in
    (first.0, ap (λ v. v ∷ xs) first.1 ∙ ap (λ vs. (first.0 ∷ []) ∷ vs) rest, first.2)
  where
    alone : {X Y : Type 0} (R : X → Y → Type 0) (xs : List X) (ys : List Y) (y : Y) → Pairs R xs ys → ys ≡ y ∷ []
        → (x : X) × (xs ≡ x ∷ []) × R x y
    alone R [] [] y h e = cc
    alone R [] (b ∷ ys) y h e = absurd h
    alone R (a ∷ xs) [] y h e = absurd h
    alone R (a ∷ xs) (b ∷ ys) y h e =
        let rest : xs ≡ [] = none_left R xs ys h.1 (tail_of b y ys [] e) in
        let same : b ≡ y = head_of b y ys [] e in
        (a, ap (λ vs. a ∷ vs) rest, subst (λ v. R a v) same h.0)

module _ {O B P C : Type 0} (w : World O B) (x : World P C) (OfTypes : TypeHandle → TypeHandle → Type 0)
    (OfValues : Value → Value → Type 0) (OfBlocks : Ptr BasicBlock → Ptr BasicBlock → Type 0) (agree : BelongTogether w x OfTypes OfValues OfBlocks) where
  -- ---- types

  integer_back : (a c : TypeHandle) → OfTypes a c → words.IsInteger x c → words.IsInteger w a
  integer_back a c h is = (is.0, agree.integers a c h ∙ is.1)

  value_back : (a c : TypeHandle) → OfTypes a c → words.IsValueType x c → words.IsValueType w a
  value_back a c h is = (is.0, agree.integers a c h ∙ is.1, is.2, is.3)

  bit_back : (a c : TypeHandle) → OfTypes a c → words.IsBit x c → words.IsBit w a
  bit_back a c h is = agree.integers a c h ∙ is

  function_back : (o p : Option TypeHandle) → AreBoth OfTypes o p
      → AreBoth (AreSignatures w x OfTypes OfValues OfBlocks) (option_and_then (words.function_type w) o)
      (option_and_then (words.function_type x) p)
  function_back None None h = tt
  function_back None (Some c) h = absurd h
  function_back (Some a) None h = absurd h
  function_back (Some a) (Some c) h = agree.functions a c h

  -- the values have these types where those beside them do
  have_back : (vs us : List Value) (hs gs : List TypeHandle)
      → Pairs (AreBoth OfTypes) (map w.value_type vs) (map x.value_type us) → Pairs OfTypes hs gs
      → words.HaveTypes x us gs → words.HaveTypes w vs hs
  have_back vs us hs gs values types have =
      list_back (AreBoth OfTypes) (both_back OfTypes agree.types_back) (map w.value_type vs) (map Some hs)
      (map x.value_type us) (map Some gs) values (map_some OfTypes hs gs types) have

  -- a value that is among typed ones has the type of the one beside it
  typed_among : (vs us : List Value) (v u : Value) → Pairs (AreTypedAlike w x OfTypes OfValues OfBlocks) vs us → OfValues v u
      → Lists us u → AreBoth OfTypes (w.value_type v) (x.value_type u)
  typed_among vs us v u h r at =
      let other = before (AreTypedAlike w x OfTypes OfValues OfBlocks) vs us h at.0 u at.1 in
      let same : other.0 ≡ v = agree.values_back other.0 v u u other.2.0 r refl in
      subst (λ a. AreBoth OfTypes (w.value_type a) (x.value_type u)) same other.2.1

  operands_among : (vs us ds cs : List Value) → Pairs (AreTypedAlike w x OfTypes OfValues OfBlocks) vs us → Pairs OfValues ds cs
      → ((k : ℕ) (c : Value) → slice_get cs k ≡ Some c → Lists us c)
      → Pairs (AreBoth OfTypes) (map w.value_type ds) (map x.value_type cs)
  operands_among vs us [] [] h r among = tt
  operands_among vs us [] (c ∷ cs) h r among = absurd r
  operands_among vs us (a ∷ ds) [] h r among = absurd r
  operands_among vs us (a ∷ ds) (c ∷ cs) h r among = (
    typed_among vs us a c h r.0 (among 0 c refl),
    operands_among vs us ds cs h r.1 (λ k d at. among (suc k) d at),
  )

  -- the types of the values belong to one another
  abbrev TypesBeside : Value → Value → Type 0
  TypesBeside v u = AreBoth OfTypes (w.value_type v) (x.value_type u)

  module _ (s : Site O B) (z : Site P C) (h : AreSitesAlike w x OfTypes OfValues OfBlocks s z) where
    same_kind : words.kind_of w s.op ≡ words.kind_of x z.op
    same_kind = h.trees.heads.kinds

    -- what is around the first has something beside it
    around_beside : (a : Around O B) → s.around ≡ Some a
        → (b : Around P C) × (z.around ≡ Some b) × AreAround w x OfTypes OfValues OfBlocks a b
    around_beside a e = some_second (AreAround w x OfTypes OfValues OfBlocks) s.around z.around a h.surroundings e

    none_beside : s.around ≡ None → z.around ≡ None
    none_beside e = none_second (AreAround w x OfTypes OfValues OfBlocks) s.around z.around h.surroundings e

    in_kind : (k : KitOp) (a : Around O B) → rules.InKind w s k a
        → (b : Around P C) × rules.InKind x z k b × AreAround w x OfTypes OfValues OfBlocks a b
    in_kind k a is =
        let b = around_beside a is.0 in (b.0, (b.1, sym b.2.owners.heads.kinds ∙ is.1), b.2)

    -- ---- 1

    root_is_module : rules.RootIsModule x z → rules.RootIsModule w s
    root_is_module keeps e = same_kind ∙ keeps (none_beside e)

    -- ---- 2

    module_body : rules.HasModuleBody z.op → rules.HasModuleBody s.op
    module_body has =
        let one = one_one (AreBodies w x OfTypes OfValues OfBlocks) (map block_list (region_list s.op.regions))
        (map block_list (region_list z.op.regions)) has.body
        (region_bodies w x OfTypes OfValues OfBlocks s.op.regions z.op.regions h.trees.inside) has.one in
        record {
          body = one.0;
          one = one.1;
          no_arguments = none_left _ one.0.label.arguments has.body.label.arguments one.2.arguments has.no_arguments;
        }

    fresh_name : (a : Around O B) (b : Around P C) → AreAround w x OfTypes OfValues OfBlocks a b
        → rules.HasFreshName x b z.op → rules.HasFreshName w a s.op
    fresh_name a b around fresh k other name less at named own =
        let there = beside (AreTrees w x OfTypes OfValues OfBlocks) (operation_list a.body.operations)
        (operation_list b.body.operations)
        (listed_operations w x OfTypes OfValues OfBlocks a.body.operations b.body.operations around.bodies.listed) k other at in
        fresh k there.0 name (subst (λ n. k < n) around.indices less) there.1 (sym there.2.heads.names ∙ named)
        (sym h.trees.heads.names ∙ own)

    module_holds : rules.ModuleHolds x z → rules.ModuleHolds w s
    module_holds keeps = record {
      body = λ is. module_body (keeps.body (sym same_kind ∙ is));
      kinds = λ a is. let b = in_kind ops.Module a is in ap words.is_symbol same_kind ∙ keeps.kinds b.0 b.1;
      names = λ a is. let b = in_kind ops.Module a is in fresh_name a b.0 b.2 (keeps.names b.0 b.1);
    }

    -- ---- 3

    function_body : words.kind_of w s.op ≡ ops.Func → rules.HasFunctionBody x z.op → rules.HasFunctionBody w s.op
    function_body is has =
        let type = some_first (AreSignatures w x OfTypes OfValues OfBlocks) (words.signature w s.op) (words.signature x z.op)
        has.type (function_back (words.own_type w s.op) (words.own_type x z.op)
        (h.trees.heads.types is)) has.has_type in
        let entry = some_first (AreBodies w x OfTypes OfValues OfBlocks) (words.entry_of s.op) (words.entry_of z.op) has.entry
        (entry_alike w x OfTypes OfValues OfBlocks s.op z.op h.trees) has.has_entry in
        record {
          type = type.0;
          has_type = type.1;
          inputs = every_back OfTypes (words.IsInteger w) (words.IsInteger x) integer_back type.0.inputs.items
              has.type.inputs.items type.2.0 has.inputs;
          results = every_back OfTypes (words.IsInteger w) (words.IsInteger x) integer_back type.0.results.items
              has.type.results.items type.2.1 has.results;
          entry = entry.0;
          has_entry = entry.1;
          arguments = list_back OfTypes agree.types_back (words.types_of entry.0.label.arguments) type.0.inputs.items
              (words.types_of has.entry.label.arguments) has.type.inputs.items
              (types_alike w x OfTypes OfValues OfBlocks entry.0.label.arguments has.entry.label.arguments entry.2.arguments)
              type.2.0 has.arguments;
        }

    function_has_type : rules.FunctionHasType x z → rules.FunctionHasType w s
    function_has_type keeps is = function_body is (keeps (sym same_kind ∙ is))

    -- ---- 4

    function_holds : rules.FunctionHolds x z → rules.FunctionHolds w s
    function_holds keeps a is =
        let b = in_kind ops.Func a is in
        let kept = keeps b.0 b.1 in (
          ap words.is_instruction same_kind ∙ kept.0,
          none_left (AreAlike w x OfTypes OfValues OfBlocks Blocks) (region_list s.op.regions) (region_list z.op.regions)
              (listed_regions w x OfTypes OfValues OfBlocks s.op.regions z.op.regions h.trees.inside) kept.1,
        )

    -- ---- 5

    values_are_integers : rules.ValuesAreIntegers x z → rules.ValuesAreIntegers w s
    values_are_integers keeps = record {
      results = every_back OfTypes (words.IsValueType w) (words.IsValueType x) value_back
          (words.types_of s.op.head.results) (words.types_of z.op.head.results)
          (types_alike w x OfTypes OfValues OfBlocks s.op.head.results z.op.head.results h.trees.heads.results) keeps.results;
      arguments = every_back (AreBodies w x OfTypes OfValues OfBlocks)
          (λ (b : Body O B). words.Every (words.IsValueType w) (words.types_of b.label.arguments))
          (λ (b : Body P C). words.Every (words.IsValueType x) (words.types_of b.label.arguments))
          (λ b d k. every_back OfTypes (words.IsValueType w) (words.IsValueType x) value_back
          (words.types_of b.label.arguments) (words.types_of d.label.arguments)
          (types_alike w x OfTypes OfValues OfBlocks b.label.arguments d.label.arguments k.arguments))
          (words.bodies_of s.op) (words.bodies_of z.op) (bodies_alike w x OfTypes OfValues OfBlocks s.op z.op h.trees)
          keeps.arguments;
    }

    -- ---- 6

    ends : (a : Around O B) (b : Around P C) → AreAround w x OfTypes OfValues OfBlocks a b
        → (words.is_terminator (words.kind_of x z.op) ≡ true) ↔ (b.index + 1 ≡ length
        (operation_list b.body.operations))
        → (words.is_terminator (words.kind_of w s.op) ≡ true) ↔ (a.index + 1 ≡ length
        (operation_list a.body.operations))
    ends a b around is =
        let many : length (operation_list a.body.operations) ≡ length (operation_list b.body.operations) =
        same_length (AreTrees w x OfTypes OfValues OfBlocks) (operation_list a.body.operations)
        (operation_list b.body.operations)
        (listed_operations w x OfTypes OfValues OfBlocks a.body.operations b.body.operations around.bodies.listed) in (
          λ t. ap (λ n. n + 1) around.indices ∙ is.0 (ap words.is_terminator (sym same_kind) ∙ t) ∙ sym many,
          λ e. ap words.is_terminator same_kind ∙ is.1 (ap (λ n. n + 1) (sym around.indices) ∙ e ∙ many),
        )

    blocks_end : rules.BlocksEnd x z → rules.BlocksEnd w s
    blocks_end keeps = record {
      last = λ a is. let b = in_kind ops.Func a is in ends a b.0 b.2 (keeps.last b.0 b.1);
      none_empty = λ is. every_back (AreBodies w x OfTypes OfValues OfBlocks)
          (λ (b : Body O B). operation_list b.operations ≢ []) (λ (b : Body P C). operation_list b.operations ≢ [])
          (λ b d k some none. some (none_right b d k none))
          (words.bodies_of s.op) (words.bodies_of z.op) (bodies_alike w x OfTypes OfValues OfBlocks s.op z.op h.trees)
          (keeps.none_empty (sym same_kind ∙ is));
    }
      where
        right : {X Y : Type 0} (R : X → Y → Type 0) (xs : List X) (ys : List Y) → Pairs R xs ys → xs ≡ [] → ys ≡ []
        right R xs [] k e = refl
        right R [] (y ∷ ys) k e = absurd k
        right R (v ∷ xs) (y ∷ ys) k e = cc

        none_right : (b : Body O B) (d : Body P C) → AreBodies w x OfTypes OfValues OfBlocks b d
            → operation_list b.operations ≡ []
            → operation_list d.operations ≡ []
        none_right b d k none = right (AreTrees w x OfTypes OfValues OfBlocks) (operation_list b.operations)
            (operation_list d.operations) (listed_operations w x OfTypes OfValues OfBlocks b.operations d.operations k.listed)
            none

    -- ---- 7

    untyped : (vs us : List Value) → Pairs (AreTypedAlike w x OfTypes OfValues OfBlocks) vs us → Pairs OfValues vs us
    untyped [] [] k = tt
    untyped [] (u ∷ us) k = absurd k
    untyped (v ∷ vs) [] k = absurd k
    untyped (v ∷ vs) (u ∷ us) k = (k.0.0, untyped vs us k.1)

    operands_are_visible : rules.OperandsAreVisible x z → rules.OperandsAreVisible w s
    operands_are_visible keeps = record {
      inside = λ a is. let b = around_beside a is in
          every_back OfValues (Lists (words.visible a)) (Lists (words.visible b.0))
          (λ v u k at. member_back OfValues agree.values_back (words.visible a) (words.visible b.0) v u
          (untyped (words.visible a) (words.visible b.0) (visible_alike w x OfTypes OfValues OfBlocks a b.0 b.2)) k at)
          s.op.head.operands z.op.head.operands
          h.trees.heads.operands (keeps.inside b.0 b.1);
      root = λ e. none_left OfValues s.op.head.operands z.op.head.operands h.trees.heads.operands
          (keeps.root (none_beside e));
    }

    -- ---- 8

    operand_types : rules.OperandsAreVisible x z
        → Pairs (AreBoth OfTypes) (map w.value_type s.op.head.operands) (map x.value_type z.op.head.operands)
    operand_types seen = by s.around z.around refl refl h.surroundings
      where
        no_operands : (ds cs : List Value) → Pairs OfValues ds cs → cs ≡ []
            → Pairs (AreBoth OfTypes) (map w.value_type ds) (map x.value_type cs)
        no_operands [] [] k e = tt
        no_operands [] (c ∷ cs) k e = absurd k
        no_operands (a ∷ ds) [] k e = absurd k
        no_operands (a ∷ ds) (c ∷ cs) k e = cc

        by : (o : Option (Around O B)) (p : Option (Around P C)) → s.around ≡ o → z.around ≡ p
            → AreBoth (AreAround w x OfTypes OfValues OfBlocks) o p
            → Pairs (AreBoth OfTypes) (map w.value_type s.op.head.operands) (map x.value_type z.op.head.operands)
        by None None e f k =
            no_operands s.op.head.operands z.op.head.operands h.trees.heads.operands (seen.root f)
        by None (Some b) e f k = absurd k
        by (Some a) None e f k = absurd k
        by (Some a) (Some b) e f k =
            operands_among (words.visible a) (words.visible b) s.op.head.operands z.op.head.operands
            (visible_alike w x OfTypes OfValues OfBlocks a b k) h.trees.heads.operands (seen.inside b f)

    result_types : Pairs OfTypes (words.types_of s.op.head.results) (words.types_of z.op.head.results)
    result_types = types_alike w x OfTypes OfValues OfBlocks s.op.head.results z.op.head.results h.trees.heads.results

    -- the types of operands, without the lists of them
    operands_typed : rules.OperandsAreVisible x z → Pairs TypesBeside s.op.head.operands z.op.head.operands
    operands_typed seen =
        pairs_unmapped (AreBoth OfTypes) w.value_type x.value_type s.op.head.operands z.op.head.operands (operand_types seen)

    condition_back : rules.OperandsAreVisible x z → rules.HasCondition x z.op → rules.HasCondition w s.op
    condition_back seen keeps v at =
        let other = beside TypesBeside s.op.head.operands z.op.head.operands (operands_typed seen) 0 v at in
        let has = keeps other.0 other.1 in
        let type = some_first OfTypes (w.value_type v) (x.value_type other.0) has.0 other.2 has.1 in
        (type.0, type.1, bit_back type.0 has.0 type.2 has.2)

    types_agree_as : rules.OperandsAreVisible x z → (k : KitOp) → words.kind_of w s.op ≡ k
        → rules.HasKindTypes x z.op k → rules.HasKindTypes w s.op k
    types_agree_as seen (ops.Arithmetic a) is keeps =
        alike_back (AreBoth OfTypes) (both_back OfTypes agree.types_back)
        (map w.value_type s.op.head.operands ++ map Some (words.types_of s.op.head.results))
        (map x.value_type z.op.head.operands ++ map Some (words.types_of z.op.head.results))
        (pairs_joined (AreBoth OfTypes) (map w.value_type s.op.head.operands)
        (map Some (words.types_of s.op.head.results)) (map x.value_type z.op.head.operands)
        (map Some (words.types_of z.op.head.results)) (operand_types seen)
        (map_some OfTypes (words.types_of s.op.head.results) (words.types_of z.op.head.results) result_types)) keeps
    types_agree_as seen (ops.Comparison a) is keeps = (
      alike_back (AreBoth OfTypes) (both_back OfTypes agree.types_back) (map w.value_type s.op.head.operands)
          (map x.value_type z.op.head.operands) (operand_types seen) keeps.0,
      every_back OfTypes (words.IsBit w) (words.IsBit x) bit_back (words.types_of s.op.head.results)
          (words.types_of z.op.head.results) result_types keeps.1,
    )
    types_agree_as seen ops.CondBr is keeps = condition_back seen keeps
    types_agree_as seen ops.Module is keeps = tt
    types_agree_as seen ops.Func is keeps = tt
    types_agree_as seen ops.Constant is keeps = tt
    types_agree_as seen ops.ForwardRef is keeps = tt
    types_agree_as seen ops.Br is keeps = tt
    types_agree_as seen ops.Call is keeps = tt
    types_agree_as seen ops.Emit is keeps = tt
    types_agree_as seen ops.Return is keeps = tt

    types_agree : rules.OperandsAreVisible x z → rules.TypesAgree x z → rules.TypesAgree w s
    types_agree seen keeps =
        types_agree_as seen (words.kind_of w s.op) refl (subst (rules.HasKindTypes x z.op) (sym same_kind) keeps)

    -- ---- 9 and 10

    -- the operands along an edge
    along_beside : rules.OperandsAreVisible x z → (edge : ℕ) (k : KitOp) → words.kind_of w s.op ≡ k
        → Pairs TypesBeside
        (words.along_edge k (words.sizes_or_none (words.segment_sizes w s.op)) s.op.head.operands edge)
        (words.along_edge k (words.sizes_or_none (words.segment_sizes x z.op)) z.op.head.operands edge)
    along_beside seen edge ops.Br is = operands_typed seen
    along_beside seen edge ops.CondBr is =
        subst (λ o. Pairs TypesBeside
        (words.segment s.op.head.operands (words.sizes_or_none (words.segment_sizes w s.op)) (suc edge))
        (words.segment z.op.head.operands (words.sizes_or_none o) (suc edge))) (h.trees.heads.sizes is)
        (pairs_segment TypesBeside s.op.head.operands z.op.head.operands
        (words.sizes_or_none (words.segment_sizes w s.op)) (suc edge) (operands_typed seen))
    along_beside seen edge ops.Module is = tt
    along_beside seen edge ops.Func is = tt
    along_beside seen edge ops.Constant is = tt
    along_beside seen edge ops.ForwardRef is = tt
    along_beside seen edge (ops.Arithmetic a) is = tt
    along_beside seen edge (ops.Comparison a) is = tt
    along_beside seen edge ops.Call is = tt
    along_beside seen edge ops.Emit is = tt
    along_beside seen edge ops.Return is = tt

    -- an edge leads to the block beside the one to which the other leads
    edges_fit : rules.OperandsAreVisible x z → rules.EdgesFit x z → rules.EdgesFit w s
    edges_fit seen keeps edge target at =
        let other = beside OfBlocks s.op.head.successors z.op.head.successors h.trees.heads.successors edge target at in
        let has = keeps edge other.0 other.1 in
        let leads = has.2 in
        let here = some_first (AreAround w x OfTypes OfValues OfBlocks) s.around z.around has.0 h.surroundings has.1 in
        let there = before (AreBodies w x OfTypes OfValues OfBlocks) (block_list here.0.blocks) (block_list has.0.blocks)
        (listed_blocks w x OfTypes OfValues OfBlocks here.0.blocks has.0.blocks here.2.beside) leads.here.0 leads.body
        leads.here.1 in (
          here.0,
          here.1,
          record {
            body = there.0;
            here = (leads.here.0, there.1);
            named = agree.blocks_back there.0.label.name target leads.body.label.name other.0 there.2.names other.2
                leads.named;
            operands = λ is. have_back _ _ (words.types_of there.0.label.arguments)
                (words.types_of leads.body.label.arguments)
                (pairs_mapped TypesBeside (AreBoth OfTypes) w.value_type x.value_type (λ v u k. k) _ _
                (along_beside seen edge (words.kind_of w s.op) refl))
                (types_alike w x OfTypes OfValues OfBlocks there.0.label.arguments leads.body.label.arguments
                there.2.arguments)
                (subst (λ k. words.is_branch k ≡ true → words.HaveTypes x
                (words.along_edge k (words.sizes_or_none (words.segment_sizes x z.op)) z.op.head.operands edge)
                (words.types_of leads.body.label.arguments)) (sym same_kind) leads.operands is);
          },
        )

    -- the function types that calls say
    callee_signatures : words.kind_of w s.op ≡ ops.Call
        → AreBoth (AreSignatures w x OfTypes OfValues OfBlocks) (words.callee_signature w s.op) (words.callee_signature x z.op)
    callee_signatures is =
        function_back (words.callee_type w s.op) (words.callee_type x z.op) (h.trees.heads.callee_types is)

    -- the nearest module around the one is alike that around the other, and so is the member that is called
    calls_fit : rules.OperandsAreVisible x z → rules.CallsFit x z → rules.CallsFit w s
    calls_fit seen keeps is =
        let has = keeps (sym same_kind ∙ is) in
        let calls = has.2 in
        let here = some_first (AreAround w x OfTypes OfValues OfBlocks) s.around z.around has.0 h.surroundings has.1 in
        let a = here.0 in
        let scope = some_first (AreTrees w x OfTypes OfValues OfBlocks) (words.first_module w (a.owner ∷ a.outer))
        (words.first_module x (has.0.owner ∷ has.0.outer)) calls.scope
        (modules_alike w x OfTypes OfValues OfBlocks (a.owner ∷ a.outer) (has.0.owner ∷ has.0.outer)
        (here.2.owners, here.2.outer)) calls.nearest in
        let called = before (AreTrees w x OfTypes OfValues OfBlocks) (words.members_of scope.0) (words.members_of calls.scope)
        (members_alike w x OfTypes OfValues OfBlocks scope.0 calls.scope scope.2) calls.member.0 calls.function calls.member.1 in
        let is_function : words.kind_of w called.0 ≡ ops.Func = called.2.heads.kinds ∙ calls.is_function in
        let type = some_first OfTypes (words.callee_type w s.op) (words.callee_type x z.op) calls.type
        (h.trees.heads.callee_types is) calls.has_type in
        let own = some_first OfTypes (words.own_type w called.0) (words.own_type x calls.function) calls.type
        (called.2.heads.types is_function) calls.same_type in
        let signature = some_first (AreSignatures w x OfTypes OfValues OfBlocks) (words.callee_signature w s.op)
        (words.callee_signature x z.op) calls.signature (callee_signatures is) calls.is_signature in (
          a,
          here.1,
          record {
            scope = scope.0;
            nearest = scope.1;
            name = calls.name;
            has_name = h.trees.heads.callees is ∙ calls.has_name;
            function = called.0;
            member = (calls.member.0, called.1);
            is_function = is_function;
            named = called.2.heads.names ∙ calls.named;
            type = type.0;
            has_type = type.1;
            same_type = own.1 ∙ ap Some (agree.types_back own.0 type.0 calls.type calls.type own.2 type.2 refl);
            signature = signature.0;
            is_signature = signature.1;
            operands = have_back s.op.head.operands z.op.head.operands signature.0.inputs.items
                calls.signature.inputs.items (operand_types seen) signature.2.0 calls.operands;
            results = list_back OfTypes agree.types_back (words.types_of s.op.head.results) signature.0.results.items
                (words.types_of z.op.head.results) calls.signature.results.items result_types signature.2.1
                calls.results;
          },
        )

    -- ---- 11

    returns_fit : rules.OperandsAreVisible x z → rules.ReturnsFit x z → rules.ReturnsFit w s
    returns_fit seen keeps is a f inside signed =
        let b = in_kind ops.Func a inside in
        let g = some_second (AreSignatures w x OfTypes OfValues OfBlocks) (words.signature w a.owner)
        (words.signature x b.0.owner) f
        (function_back (words.own_type w a.owner) (words.own_type x b.0.owner) (b.2.owners.heads.types inside.1)) signed
        in
        have_back s.op.head.operands z.op.head.operands f.results.items g.0.results.items (operand_types seen) g.2.1
        (keeps (sym same_kind ∙ is) b.0 g.0 b.1 g.1)

    -- ---- 12

    constants_fit : rules.ConstantsFit x z → rules.ConstantsFit w s
    constants_fit keeps is =
        let has = keeps (sym same_kind ∙ is) in
        let v = some_first (AreIntegers w x OfTypes OfValues OfBlocks) (words.constant_value w s.op)
        (words.constant_value x z.op) has.value (h.trees.heads.constants is) has.has_value in
        record {
          value = v.0;
          has_value = v.1;
          is_type = agree.integers v.0.ty has.value.ty v.2.types ∙ has.is_type ∙ ap Some (sym v.2.integer);
          in_range = subst (λ (i : IntegerType). v.0.bits < 2 ^ i.width) (sym v.2.integer)
              (subst (λ n. n < 2 ^ has.value.integer.width) (sym v.2.bits) has.in_range);
          results = every_back OfTypes (λ t. t ≡ v.0.ty) (λ t. t ≡ has.value.ty)
              (λ a c k e. agree.types_back a v.0.ty c has.value.ty k v.2.types e) (words.types_of s.op.head.results)
              (words.types_of z.op.head.results) result_types has.results;
        }

    -- ---- 13

    attributes_are_known : rules.AttributesAreKnown x z → rules.AttributesAreKnown w s
    attributes_are_known keeps = record {
      no_forward_ref = λ is. keeps.no_forward_ref (sym same_kind ∙ is);
      own = h.trees.heads.own;
      blocks = every_back (AreBodies w x OfTypes OfValues OfBlocks)
          (λ (b : Body O B). words.Every rules.IsCommon (w.block_attributes b.label.content))
          (λ (d : Body P C). Unit {0}) (λ b d alike u. alike.known) (words.bodies_of s.op) (words.bodies_of z.op)
          (bodies_alike w x OfTypes OfValues OfBlocks s.op z.op h.trees) (λ k d at. tt);
    }

    -- ---- 14

    counts_back : (r n g : ℕ) → rules.Counts z.op r n g → rules.Counts s.op r n g
    counts_back r n g has = record {
      results = same_length _ s.op.head.results z.op.head.results h.trees.heads.results ∙ has.results;
      successors = same_length OfBlocks s.op.head.successors z.op.head.successors h.trees.heads.successors
          ∙ has.successors;
      regions = same_length (AreAlike w x OfTypes OfValues OfBlocks Blocks) (region_list s.op.regions) (region_list z.op.regions)
          (listed_regions w x OfTypes OfValues OfBlocks s.op.regions z.op.regions h.trees.inside) ∙ has.regions;
    }

    operands_back : (n : ℕ) → rules.HasOperands z.op n → rules.HasOperands s.op n
    operands_back n has = same_length OfValues s.op.head.operands z.op.head.operands h.trees.heads.operands ∙ has

    name_back : rules.HasName x z.op → rules.HasName w s.op
    name_back has = (has.0, h.trees.heads.names ∙ has.1)

    fits_as : (k : KitOp) → words.kind_of w s.op ≡ k → rules.FitsKind x z.op k → rules.FitsKind w s.op k
    fits_as ops.Module is keeps = (counts_back 0 0 1 keeps.0, operands_back 0 keeps.1, name_back keeps.2)
    fits_as ops.Func is keeps = (
      counts_back 0 0 1 keeps.0,
      operands_back 0 keeps.1,
      name_back keeps.2,
      (let type = some_first OfTypes (words.own_type w s.op) (words.own_type x z.op) keeps.3.0
          (h.trees.heads.types is) keeps.3.1 in (type.0, type.1)),
    )
    fits_as ops.Constant is keeps =
        let v = h.trees.heads.valued is in
        (counts_back 1 0 0 keeps.0, operands_back 0 keeps.1, (attrs.Integer v.0, v.1, tt))
    fits_as ops.ForwardRef is keeps = (counts_back 1 0 0 keeps.0, operands_back 0 keeps.1)
    fits_as (ops.Arithmetic a) is keeps = (counts_back 1 0 0 keeps.0, operands_back 2 keeps.1)
    fits_as (ops.Comparison a) is keeps = (counts_back 1 0 0 keeps.0, operands_back 2 keeps.1)
    fits_as ops.Br is keeps = counts_back 0 1 0 keeps
    fits_as ops.CondBr is keeps =
        let sizes = keeps.1 in (
          counts_back 0 2 0 keeps.0,
          (sizes.0, h.trees.heads.sizes is ∙ sizes.1, (sizes.2.0, sizes.2.1, sizes.2.2, operands_back _ sizes.2.3)),
        )
    fits_as ops.Call is keeps =
        let signature = some_first (AreSignatures w x OfTypes OfValues OfBlocks) (words.callee_signature w s.op)
        (words.callee_signature x z.op) keeps.signature (callee_signatures is) keeps.is_signature in
        let f = signature.0 in
        let g = keeps.signature in
        let results : length f.results.items ≡ length g.results.items =
        same_length OfTypes f.results.items g.results.items signature.2.1 in
        let inputs : length f.inputs.items ≡ length g.inputs.items =
        same_length OfTypes f.inputs.items g.inputs.items signature.2.0 in
        record {
          callee = (keeps.callee.0, h.trees.heads.callees is ∙ keeps.callee.1);
          signature = f;
          is_signature = signature.1;
          numbers = (
            subst (λ n. rules.Counts s.op n 0 0) (sym results)
                (counts_back (length g.results.items) 0 0 keeps.numbers.0),
            subst (λ n. rules.HasOperands s.op n) (sym inputs)
                (operands_back (length g.inputs.items) keeps.numbers.1),
          );
        }
    fits_as ops.Emit is keeps = (counts_back 0 0 0 keeps.0, operands_back 1 keeps.1)
    fits_as ops.Return is keeps = counts_back 0 0 0 keeps

    fits_format : rules.FitsFormat x z → rules.FitsFormat w s
    fits_format keeps = fits_as (words.kind_of w s.op) refl (subst (rules.FitsKind x z.op) (sym same_kind) keeps)

  pub keeps_back : (r : Rule) (s : Site O B) (z : Site P C) → AreSitesAlike w x OfTypes OfValues OfBlocks s z
      → (AreVisibleFirst r → rules.OperandsAreVisible x z) → Keeps x r z → Keeps w r s
  keeps_back rule.RootIsModule s z h seen keeps = root_is_module s z h keeps
  keeps_back rule.ModuleHolds s z h seen keeps = module_holds s z h keeps
  keeps_back rule.FunctionHasType s z h seen keeps = function_has_type s z h keeps
  keeps_back rule.FunctionHolds s z h seen keeps = function_holds s z h keeps
  keeps_back rule.ValuesAreIntegers s z h seen keeps = values_are_integers s z h keeps
  keeps_back rule.BlocksEnd s z h seen keeps = blocks_end s z h keeps
  keeps_back rule.OperandsAreVisible s z h seen keeps = operands_are_visible s z h keeps
  keeps_back rule.TypesAgree s z h seen keeps = types_agree s z h (seen tt) keeps
  keeps_back rule.EdgesFit s z h seen keeps = edges_fit s z h (seen tt) keeps
  keeps_back rule.CallsFit s z h seen keeps = calls_fit s z h (seen tt) keeps
  keeps_back rule.ReturnsFit s z h seen keeps = returns_fit s z h (seen tt) keeps
  keeps_back rule.ConstantsFit s z h seen keeps = constants_fit s z h keeps
  keeps_back rule.AttributesAreKnown s z h seen keeps = attributes_are_known s z h keeps
  keeps_back rule.FitsFormat s z h seen keeps = fits_format s z h keeps
