-- Control flow simplified on the tree of a module is control flow simplified on its program.
use Rattle.std.proofs.Common.{◌≡◌, ⊎_elim, inl, ℕ, zero, suc, ◌≤◌, Bool, true, false, List, ◌∷◌, ◌++◌, Option, Some}
use Rattle.std.proofs.Common.{None, refl, sym, ap, ◌∙◌, subst, arith}
use Rattle.std.specs.Prelude.{not, ◌&&◌, if◌then◌else◌, map, reverse, option_map}
use Rattle.ir_base.specs.declared.types.TypeHandle.{TypeHandle}
use Rattle.ir_names.specs.Dictionary.{attribute_at}
use Rattle.ir_trees.specs.Names.{Names}
use Rattle.ir_trees.specs.Renames.{Maps, IsOneToOne, rename_root, names_of}
use Rattle.ir_trees.specs.Trees.{Head, Regions, Tree, Root}
use Rattle.opt_trees.specs.Dce.{TreeSurroundings}
use Rattle.opt_trees.specs.Occurrences.{Has, Occurrence, BlockOccurrence, occurrences_of, block_occurrences_of, at_root}
use Rattle.opt_trees.specs.Occurrences.{defined_in, OperationsApart}
use Rattle.opt_trees.specs.Simplify.{is_bare, along_edge, decide_head, decide, decided, IsReached, entry, all_of, keep}
use Rattle.opt_trees.specs.Simplify.{IsCut, IsLocal, use_head, use_instead, IsJoined, IsSimplify}
use Rattle.opt_trees.proofs.Best.{not_true}
use Rattle.opt_trees.proofs.Defined.{result_defined, argument_defined, definer}
use Rattle.opt_trees.proofs.Lists.{has-map, has-from_map}
use Rattle.opt_trees.proofs.Orderly.{decide_occurrence, decide_block, decided_operations, decided_blocks, decided_local}
use Rattle.opt_trees.proofs.Orderly.{decided_apart, kept_operation, kept_block, cut_local}
use Rattle.opt_trees.proofs.Orderly.{cut_apart}
use Rattle.kit_ops.specs.declared.attributes.IntegerAttr.{IntegerAttr}
use Rattle.kit_ops.specs.declared.kinds.KitOp.{KitOp}
use Rattle.kit_ops.specs.declared.kinds.KitOp.TheVariants as ops
use Rattle.kit_ops.specs.declared.types.KitType.{KitType}
use Rattle.kit_ops.specs.Keys.{constant_value}
use Rattle.kit.specs.Meaning.{KitOperation, kit, is_function, is_module}
use Rattle.kit_behaviour.specs.DecidedBranches as flat
use Rattle.kit_behaviour.specs.Facts.{FunctionFacts}
use Rattle.kit_behaviour.specs.Machine.{Fun, FunctionsByPath}
use Rattle.kit_behaviour.specs.Numbering.{place_fun}
use Rattle.kit_behaviour.specs.Places.{Place}
use Rattle.kit_behaviour.specs.Rules.{operands, Rules}
use Rattle.kit_behaviour.specs.Scopes.{AllIn, BlocksWith}
use Rattle.kit_behaviour.specs.SimplifiedBlocks as blocks
use Rattle.kit_behaviour.specs.SimplifiedNames.{AreConstants}
use Rattle.kit_behaviour.specs.SimplifiedBlocks.{BlocksAreJoinable, Depth, top, below, itself, SimplifiesFunction}
use Rattle.kit_behaviour.proofs.Behaviour.FrameLemmas as old
use Rattle.kit_behaviour.proofs.ControlFlow.NamedSimplifying.{simplifies_by_place}
use Rattle.kit_behaviour.proofs.Numbering.NumberingRules.{placed_rules}
use Rattle.kit_views.specs.FlatBranches.{KnowsConstants}
use Rattle.kit_views.specs.FlatView.{FlattensTo}
use Rattle.kit_views.specs.Laws.{EndWell, IsCutFlat, IsSimplifiedFlat}
use Rattle.kit_views.specs.Reading.{Reading, kit_contents, kit_reading}
use Rattle.kit_views.proofs.DecidedTree.{decided_by_own}
use Rattle.kit_views.proofs.KeptTree.{unreached_cut}
use Rattle.kit_views.proofs.SimplifiedTree as views
use Rattle.kit_ruled_views.proofs.OneView.{one_view}
use Rattle.kit_ruled_views.proofs.RenamedViews.{flat_under}
use Rattle.kit_ruled_views.specs.ProgramLaws.{AreTold}
use Rattle.kit_ruled_views.specs.Paths.{locate}
use Rattle.kit_ruled_views.specs.Programs.{HasFunctionView, IsProgramOf}
use Rattle.kit_ruled_views.specs.Sound.{tree_of, IsSound}
use Rattle.kit_ruled_views.specs.TreePasses.{maps_of, IsSimplifiedAlone}
use Rattle.kit_ruled_views.proofs.programs.ChainsInside.{picked_has, joined_inside}
use Rattle.kit_ruled_views.proofs.programs.CutInside.{reached_up, cut_inside}
use Rattle.kit_ruled_views.proofs.programs.FlatDefined.{flat_defined}
use Rattle.kit_ruled_views.proofs.programs.FlatDistinct.{flat_distinct}
use Rattle.kit_ruled_views.proofs.programs.FlatShallow.{flat_shallow, sound_local}
use Rattle.kit_ruled_views.proofs.programs.Inside.{Function, function_at, up, up_block, there, block_there, maker_up}
use Rattle.kit_ruled_views.proofs.programs.Inside.{taker_up}
use Rattle.kit_ruled_views.proofs.programs.Lifted.{one_operation}
use Rattle.kit_ruled_views.proofs.programs.NamesKept.{placed_under}
use Rattle.kit_ruled_views.proofs.programs.PutLocated.{locate_renamed}
use Rattle.kit_ruled_views.proofs.programs.ShallowFunctions.{IsShallow, block_down}
use Rattle.kit_ruled_views.proofs.programs.ShallowFunctions as functions
use Rattle.kit_ruled_views.proofs.programs.SimplifyLocated.{holder_decided, cut_tree, kept_of, Member, Follow, is_func}
use Rattle.kit_ruled_views.proofs.programs.SimplifyLocated.{arrives, whole}

-- ---- a function that is not there

abbrev is_entry : ℕ → Bool
is_entry zero = true
is_entry (suc b) = false

none_joinable : (b t : ℕ) → BlocksAreJoinable {V = Place} None b t → ⊥
none_joinable b t j = no_edge j.edge j.last
  where
    no_edge : {X : Type 0} (x : X) → None ≡ Some x → ⊥
    no_edge x e = absurd (cc e)

none_deep : (b n : ℕ) → Depth {V = Place} None (λ b. false) b n → n ≤ 0
none_deep _ _ (top b n e z) = let least : 0 ≤ 0 = omega arith in subst (λ k. k ≤ 0) (sym z) least
none_deep _ _ (below b t m n j z d) = absurd (none_joinable b t j)

none_reached : blocks.IsReachedSet {V = Place} None is_entry
none_reached = record { sound = λ b e. sound b e; full = λ b r. full b r }
  where
    sound : (b : ℕ) → is_entry b ≡ true → blocks.Reached {V = Place} None b
    sound zero e = blocks.first 0 refl
    sound (suc b) e = absurd (cc e)

    full : (b : ℕ) → blocks.Reached {V = Place} None b → is_entry b ≡ true
    full _ (blocks.first b e) = ap is_entry e
    full _ (blocks.further b t m l) = absurd l

false_true : false ≡ true → ⊥
false_true e = absurd (cc e)

none_simplifies : SimplifiesFunction None None
none_simplifies = record {
  reach = is_entry;
  reached = none_reached;
  merges = record {
    left = None;
    merges = record {
      later = λ b. false;
      is_later = record { there = λ t e. absurd (false_true e); back = λ b t j. absurd (none_joinable b t j) };
      gone = λ v. false;
      is_gone = λ v. (λ e. absurd (false_true e), λ i. absurd (false_true i.1));
      names = λ v. v;
      follows = λ v. itself v v (λ x g. false_true g.later) refl;
      most = 0;
      long = λ b n d. none_deep b n d;
      is = refl;
    };
    is = refl;
  };
}

-- ---- what is decided uses what it used

func_kind : (k : KitOp) → is_function k ≡ true → k ≡ ops.Func
func_kind ops.Func e = refl
func_kind _ e = absurd (false_true e)

decided_operands : {N : Names} (alone : N.value → Option IntegerAttr) (h : Head N kit_contents)
    (rs : Tree N kit_contents Regions) (x : N.value) → Has x (decide_head kit alone h rs).operands → Has x h.operands
decided_operands {N} alone h rs x m = by_test (is_bare kit h rs && not (kit.is_plain h.content)) m
  where
    along : (q : Option ℕ) (c : Option KitOperation) → Has x (along_edge kit h q c).operands → Has x h.operands
    along None c m = m
    along (Some i) None m = m
    along (Some i) (Some c) m = picked_has h.operands _ x m

    by_test : (b : Bool) → Has x (if b then along_edge kit h (kit.edge h.content (map alone h.operands)) kit.plain else
        h).operands → Has x h.operands
    by_test true m = along (kit.edge h.content (map alone h.operands)) kit.plain m
    by_test false m = m

module _ {N : Names} (told : AreTold N) (leads : TypeHandle → Option KitType) (numbered : List ℕ → ℕ)
    (type_at : N.value → TypeHandle) (t : Root N kit_contents) (sound : IsSound {N = N} leads numbered type_at t)
    (after : Root N kit_contents) (pass : IsSimplifiedAlone {N = N} t after) where
  abbrev Op : Type 0
  Op = Occurrence N kit_contents

  abbrev Bl : Type 0
  Bl = BlockOccurrence N kit_contents

  abbrev r : Reading kit_contents
  r = kit_reading leads numbered

  abbrev w : TreeSurroundings N IntegerAttr
  w = pass.around

  abbrev cut : IsCut kit (all_of t) (decided kit w t) pass.is.cut
  cut = pass.is.is_cut

  abbrev gone : N.block → Bool
  gone = cut.gone

  -- the tree whose branches are decided, and that without the blocks that go
  abbrev decided_tree : Root N kit_contents
  decided_tree = decided kit w t

  abbrev kept_tree : Root N kit_contents
  kept_tree = cut_tree {N = N} leads numbered type_at t sound w gone

  value_law : old.IsSameness told.value
  value_law = record { true_same = told.values.true_same; same_true = told.values.same_true }

  local_before : IsLocal decided_tree
  local_before = decided_local kit w t (sound_local {N = N} leads numbered type_at t sound)

  apart_before : OperationsApart decided_tree
  apart_before = decided_apart kit w t (one_operation t sound.names.operations)

  local_cut : IsLocal kept_tree
  local_cut = subst IsLocal cut.is (cut_local kit (all_of t) decided_tree pass.is.cut cut local_before)

  apart_cut : OperationsApart kept_tree
  apart_cut = subst OperationsApart cut.is (cut_apart kit (all_of t) decided_tree pass.is.cut cut apart_before)

  abbrev joined : IsJoined kit (all_of t) kept_tree pass.simplified
  joined = subst (λ z. IsJoined kit (all_of t) z pass.simplified) cut.is pass.is.is_joined

  stay : (b : N.block) → IsReached decided_tree b → gone b ≡ false
  stay b reach = not_true (gone b) (λ e. (cut.there b e).unreached reach)

  abbrev IsMember : Root N kit_contents → Option (Root N kit_contents) → Type 0
  IsMember v out =
      Member {N = N} leads numbered type_at t sound w gone local_cut stay joined.names
      (is_func {N = N} leads numbered type_at t sound w gone local_cut stay joined.names) v out

  abbrev Follows : Option (Root N kit_contents) → Option (Root N kit_contents) → Type 0
  Follows v out =
      Follow {N = N} leads numbered type_at t sound w gone local_cut stay joined.names
      (is_func {N = N} leads numbered type_at t sound w gone local_cut stay joined.names) v out

  where_simplified : (path : List ℕ) → Follows (locate numbered path t) (locate numbered path pass.simplified)
  where_simplified path =
      subst (λ z. Follows (locate numbered path t) (locate numbered path z)) (sym joined.is)
      (arrives {N = N} leads numbered type_at t sound w gone local_cut stay joined.names path t.head
      (use_head joined.names t.head) t.regions (at_root t) joined.regions
      (whole {N = N} leads numbered type_at t sound w gone local_cut stay joined.names joined.regions joined.joins))

  -- ---- one function

  module _ (v : Root N kit_contents) (out : Option (Root N kit_contents)) (m : IsMember v out) (f : Fun N.value)
      (is_flat : FlattensTo r (tree_of m.it) f) where
    abbrev o : Op
    o = m.it

    abbrev u : Root N kit_contents
    u = tree_of o

    kind : o.head.content.kind ≡ ops.Func
    kind = func_kind o.head.content.kind m.tested

    fn : Function {N = N} leads numbered type_at t sound o
    fn = function_at {N = N} leads numbered type_at t sound o m.stands kind

    same_view : fn.sound_function.flat ≡ f
    same_view =
        one_view r u fn.sound_function.flat f fn.sound_function.is_flat.view is_flat.view
        fn.sound_function.is_flat.blocks

    ends : EndWell f
    ends = subst EndWell same_view fn.sound_function.ends

    sees : BlocksWith (Some f) (λ a op. AllIn (operands op) a)
    sees = subst (λ g. BlocksWith (Some g) (λ a op. AllIn (operands op) a)) same_view fn.sound_function.sees

    inside_defined : (x : N.value) → Has x (defined_in o.regions) → Has x (defined_in t.regions)
    inside_defined x h =
        ⊎_elim
        (λ z. result_defined t.regions (at_root t) (up {N = N} leads numbered type_at t sound o z.it) x
        (there {N = N} leads numbered type_at t sound o fn z.it z.stands) z.value)
        (λ z. argument_defined t.regions (at_root t) (up_block {N = N} leads numbered type_at t sound o z.it) x
        (block_there {N = N} leads numbered type_at t sound o fn z.it z.stands) z.value)
        (definer o.regions (at_root u) x h)

    constants : KnowsConstants w u
    constants x a h =
        let both = pass.known x a (inside_defined x h) in (
          λ e.
              let c = both.0 e in
              let p = maker_up {N = N} leads numbered type_at t sound o fn c.definer x c.stands c.result h in
              record {
                definer = p.0;
                stands = p.1;
                constant = ap (λ (q : Op). q.head.content.kind) p.2 ∙ c.constant;
                result = subst (λ (q : Op). Has x (names_of q.head.results)) (sym p.2) c.result;
                value = ap (λ (q : Op). attribute_at q.head.content.notes.attributes constant_value) p.2 ∙ c.value;
              },
          λ c. both.1 (record {
            definer = up {N = N} leads numbered type_at t sound o c.definer;
            stands = there {N = N} leads numbered type_at t sound o fn c.definer c.stands;
            constant = c.constant;
            result = c.result;
            value = c.value;
          }),
        )

    -- the function in the tree whose branches are decided
    abbrev decided_own : Op
    decided_own = record { site = o.site; head = o.head; regions = decide kit w.alone o.regions }

    decided_stands : Has decided_own (occurrences_of decided_tree)
    decided_stands =
        subst (λ (h : Head N kit_contents). Has (record {
          site = o.site;
          head = h;
          regions = decide kit w.alone o.regions;
        }) (occurrences_of decided_tree)) (holder_decided w.alone o.head o.regions (inl kind))
        (subst (Has (decide_occurrence {N = N} {S = kit_contents} kit w.alone o)) (sym (decided_operations kit w.alone
        t.regions (at_root t)))
        (has-map (decide_occurrence {N = N} {S = kit_contents} kit w.alone) o (occurrences_of t) m.stands))

    ssa : kit.is_ssa o.head.content 0 ≡ true
    ssa = ap (λ k. not (is_module k)) kind

    abbrev decided_flat : (k : FunctionFacts N.value) × AreConstants (Some f) k
        × FlattensTo r (decided kit w u) (map (flat.decide_block k) f)
    decided_flat =
        decided_by_own told.value leads numbered type_at w u f told.values is_flat fn.sound_function.is_typed constants

    decided_shallow : IsShallow (decided kit w u)
    decided_shallow = flat_shallow r (decided kit w u) (map (flat.decide_block decided_flat.0) f) decided_flat.2

    -- and without the blocks that go
    abbrev kept_root : Root N kit_contents
    kept_root = record { head = o.head; regions = keep gone (decide kit w.alone o.regions) }

    cut_own : IsCut kit (all_of u) (decided kit w u) kept_root
    cut_own =
        cut_inside kit decided_tree local_before apart_before decided_own decided_stands decided_shallow m.seen_before
        ssa told.block told.blocks pass.is.cut cut

    cut_flat : IsCutFlat r (map (flat.decide_block decided_flat.0) f) kept_root
    cut_flat =
        unreached_cut leads numbered (decided kit w u) kept_root (map (flat.decide_block decided_flat.0) f)
        decided_flat.2 cut_own

    cut_shallow : IsShallow kept_root
    cut_shallow = flat_shallow r kept_root cut_flat.rest cut_flat.is_view

    own_stay : (y : Bl) → Has y (block_occurrences_of (decided kit w u)) → y.spot.first ≡ true →
        gone y.label.name ≡ false
    own_stay y h first =
        stay y.label.name (reached_up kit decided_tree local_before apart_before decided_own decided_stands
        decided_shallow y.label.name (entry y h first))

    -- ---- its values

    abbrev values : List N.value
    values = defined_in o.regions

    abbrev decided_op : Op → Op
    decided_op q = decide_occurrence {N = N} {S = kit_contents} kit w.alone q

    abbrev decided_bl : Bl → Bl
    decided_bl y = decide_block {N = N} {S = kit_contents} kit w.alone y

    arguments : (x : Bl) (a : N.value) → Has x (block_occurrences_of kept_root) → Has a (names_of x.label.arguments) →
        Has a values
    arguments x a h i =
        let y = kept_block gone (decide kit w.alone o.regions) (at_root u) own_stay x h in
        let z = has-from_map decided_bl y.it (block_occurrences_of u)
        (subst (Has y.it) (decided_blocks kit w.alone o.regions (at_root u)) y.stands) in
        let label = ap (λ (q : Bl). q.label) z.is ∙ ap (λ (q : Bl). q.label) y.is in
        argument_defined o.regions (at_root u) z.it a z.stands (subst (λ l. Has a (names_of l.arguments)) (sym label) i)

    uses : (p : Op) (a : N.value) → Has p (occurrences_of kept_root) → Has a p.head.operands → Has a values
    uses p a h i =
        let y = kept_operation gone (decide kit w.alone o.regions) (at_root u) own_stay p h in
        let z = has-from_map decided_op y.it (occurrences_of u)
        (subst (Has y.it) (decided_operations kit w.alone o.regions (at_root u)) y.stands) in
        let head = ap (λ (q : Op). q.head) z.is ∙ ap (λ (q : Op). q.head) y.is in
        fn.sound_function.is_typed.operands z.it a z.stands
        (decided_operands w.alone z.it.head z.it.regions a
        (subst (λ (g : Head N kit_contents). Has a g.operands) (sym head) i))

    abbrev kept_own : Op
    kept_own = kept_of {N = N} leads numbered type_at t sound w gone o

    owned : (y : Bl) (a : N.value) → Has y (block_occurrences_of kept_tree) → Has a (names_of y.label.arguments) →
        Has a values → functions.IsBlockInside kit kept_tree local_cut apart_cut kept_own m.kept cut_shallow y
    owned y a h i d =
        let k = kept_block gone (decide kit w.alone t.regions) (at_root t) (λ x n first. stay x.label.name (entry x n
        first)) y h in
        let z = has-from_map decided_bl k.it (block_occurrences_of t)
        (subst (Has k.it) (decided_blocks kit w.alone t.regions (at_root t)) k.stands) in
        let label = ap (λ (q : Bl). q.label) z.is ∙ ap (λ (q : Bl). q.label) k.is in
        let spot = ap (λ (q : Bl). q.spot) z.is ∙ ap (λ (q : Bl). q.spot) k.is in
        let x = taker_up {N = N} leads numbered type_at t sound o fn z.it a z.stands
        (subst (λ l. Has a (names_of l.arguments)) (sym label) i) d in
        let at = (flat_shallow r u f is_flat).blocks x.0 x.1 in
        block_down kit kept_tree local_cut apart_cut kept_own m.kept cut_shallow y h
        (ap (λ c. c.around) (sym spot) ∙ ap (λ (q : Bl). q.spot.around) (sym x.2)
        ∙ ap (λ l. l ++ (o.head.name ∷ o.site.spot.around)) at.around)

    -- ---- what becomes of it

    abbrev left_root : Root N kit_contents
    left_root = record { head = use_head joined.names o.head; regions = use_instead joined.names m.inside }

    joined_own : IsJoined kit (all_of u) kept_root left_root
    joined_own =
        joined_inside kit kept_tree local_cut apart_cut kept_own m.kept cut_shallow m.seen ssa told.value told.values
        values arguments uses owned joined.names joined.follows m.inside m.joins is_flat.view.no_operands

    simplified_own : IsSimplify kit w u left_root
    simplified_own = record { cut = kept_root; is_cut = cut_own; is_joined = joined_own }

    function_simplified : IsSimplifiedFlat r f left_root
    function_simplified =
        views.simplified told.value leads numbered type_at w u left_root f told.values is_flat
        fn.sound_function.is_typed constants ends simplified_own

    function_rules : Rules (place_fun told.value (Some f))
    function_rules =
        placed_rules told.value value_law (Some f) (flat_distinct r u f is_flat)
        (record { terminated = ends; sees = sees; fits = is_flat.edges })

    placed_simplified : SimplifiesFunction (place_fun told.value (Some f)) (place_fun told.value (Some
        function_simplified.rest))
    placed_simplified =
        simplifies_by_place told.value value_law (Some f) (Some function_simplified.rest)
        (flat_defined r told.value value_law u f is_flat fn.sound_function.is_typed.operands) function_rules
        function_simplified.simplifies

  -- ---- programs

  abbrev renames : Maps N N
  renames = maps_of {N = N} pass.names

  abbrev renamed : Root N kit_contents → Root N kit_contents
  renamed = rename_root {S = kit_contents} renames

  apart_names : (q : Root N kit_contents) → IsOneToOne renames q
  apart_names q = record {
    operations = λ x y a b e. pass.apart x y e;
    blocks = λ x y a b e. e;
    values = λ x y a b e. e;
  }

  where_after : (path : List ℕ) → locate numbered path after ≡ option_map renamed (locate numbered path pass.simplified)
  where_after path =
      ap (locate numbered path) pass.same ∙ locate_renamed {N = N} {M = N} renames numbered path pass.simplified

  -- the pass on one function
  record IsFunctionAfter (out : Option (Root N kit_contents)) (p : Option (Fun Place)) : Type 0 where
    placed : Option (Fun Place)
    simplifies : SimplifiesFunction p placed
    left : HasFunctionView {N = N} told.value leads numbered (option_map renamed out) placed

  function_after : (v out : Option (Root N kit_contents)) (p : Option (Fun Place)) → Follows v out →
      HasFunctionView {N = N} told.value leads numbered v p → IsFunctionAfter out p
  function_after None out p e is = record {
    placed = None;
    simplifies = subst (λ z. SimplifiesFunction z None) (sym is) none_simplifies;
    left = subst (λ z. HasFunctionView {N = N} told.value leads numbered (option_map renamed z) None) (sym e) refl;
  }
  function_after (Some v) out p m is =
      let f : Fun N.value = is.0 in
      let is_flat : FlattensTo r (tree_of m.it) f = subst (λ z. FlattensTo r z f) (sym m.is) is.1 in
      let s = function_simplified v out m f is_flat in
      let root : Root N kit_contents =
      record { head = use_head joined.names m.it.head; regions = use_instead joined.names m.inside } in
      let under = flat_under {N = N} {M = N} r renames root s.rest (apart_names root) s.is_view in
      record {
        placed = place_fun told.value (Some s.rest);
        simplifies = subst (λ z. SimplifiesFunction z (place_fun told.value (Some s.rest))) (sym is.2)
            (placed_simplified v out m f is_flat);
        left = subst (λ z. HasFunctionView {N = N} told.value leads numbered (option_map renamed z) (place_fun told.value
            (Some s.rest))) (sym m.left) (
              under.0,
              under.2,
              sym (placed_under {N = N} {M = N} r told.value told.value told.values told.values renames root s.rest
                  (apart_names root) s.is_view)
                  ∙ ap (place_fun told.value) under.1,
            );
      }

  pub simplify_on_programs : (p : FunctionsByPath Place) → IsProgramOf {N = N} told.value leads numbered t p →
      (q : FunctionsByPath Place) × IsProgramOf {N = N} told.value leads numbered after q × blocks.IsSimplifyOfFunctions p q
  simplify_on_programs p is =
      let each = λ (path : List ℕ). function_after (locate numbered (reverse path) t)
      (locate numbered (reverse path) pass.simplified) (p path) (where_simplified (reverse path)) (is path) in (
        λ path. (each path).placed,
        λ path. subst (λ z. HasFunctionView {N = N} told.value leads numbered z (each path).placed)
            (sym (where_after (reverse path))) (each path).left,
        record { each = λ path. (each path).simplifies },
      )
