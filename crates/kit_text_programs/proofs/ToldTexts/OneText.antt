-- Operations that say the same stand for texts that are the same but for labels.
use Rattle.std.proofs.Common.{◌≡◌, ℕ, List, ◌++◌, map, Some, slice_get, refl, sym, ap, ◌∙◌, subst}
use Rattle.std.specs.List.{range_with_len}
use Rattle.std.proofs.lemmas.Option.{same_Some}
use Rattle.ir_base.specs.declared.types.TypeHandle.{TypeHandle}
use Rattle.ir_forest.specs.Closed.{IsClosedTree, IsNumbered, IsSameModule, definitions_of}
use Rattle.ir_forest.specs.Closed as closed
use Rattle.ir_print.specs.Pieces.{ValueTree, Pieces, operation, a_region, block, Entity, entity, Entities}
use Rattle.ir_print.specs.Shown.{Pairs}
use Rattle.ir_program.specs.Program.{OperationView}
use Rattle.ir_program.specs.declared.handles.Operation.{Operation}
use Rattle.ir_program.specs.declared.handles.Ptr.{Ptr}
use Rattle.ir_trees.specs.Renames.{names_of, values_in, values_of, blocks_in, blocks_of}
use Rattle.ir_trees.specs.Stands.{defined_by, head_of}
use Rattle.ir_trees.specs.Trees.{Regions, Root}
use Rattle.ir_trees.specs.Renames.{no_names}
use Rattle.kit.specs.Context.{KitContext, KitTree}
use Rattle.opt_meanings.specs.Meanings.{mean, mean_defined, mean_root}
use Rattle.opt_trees.proofs.NoneDead.{has-left, has-right}
use Rattle.opt_trees.specs.Occurrences.{Has}
use Rattle.text_dialect.specs.Seen.{SeenOperation, seen, seen_operation}
use Rattle.text_dialect.specs.Standing.{HasHead, HasOwnLabel, HaveRegionTrees}
use Rattle.text_rereading.specs.Rereading.{Named}
use Rattle.kit.specs.Meaning.{KitOperation}
use Rattle.kit_language.specs.Language.{kit_language}
use Rattle.kit_ops.specs.declared.attributes.KitAttr.{KitAttr}
use Rattle.kit_ops.specs.declared.kinds.KitOp.{KitOp}
use Rattle.kit.specs.Says.{says}
use Rattle.kit_text_programs.proofs.SaidFunctions.{same_operation}
use Rattle.kit_text_programs.specs.SameLaws.{HaveTextNumbers, NumbersApart, SayTheSame, StandsAs, TheSameSayOneText}
use Rattle.kit_text_programs.specs.SameLaws.{types_in_texts, types_of_head, types_in_text}
use Rattle.kit_text_programs.specs.Meanings.{meanings, sayings}
use Rattle.kit_text_programs.proofs.ToldTexts.ClosedNumbers.{numbers_defined, blocks_defined}
use Rattle.kit_text_programs.proofs.ToldTexts.Near.{Definitions, AreNear, all_numbers, both_defined, definitions_long}
use Rattle.kit_text_programs.proofs.ToldTexts.Near.{numbers_long, numbers_of, blocks_named, all_blocks_named, blocks_named_long, blocks_of_long, both_named, rebuilt}
use Rattle.kit_text_programs.proofs.ToldTexts.NearHeads.{AreApart, heads_near}
use Rattle.kit_text_programs.proofs.ToldTexts.NearTexts.{texts_near, units_long}
use Rattle.kit_text_programs.proofs.ToldTexts.SaidParts.{AreSaid, names_said, named_said, regions_said, values_said}
use Rattle.kit_text_programs.proofs.ToldTexts.SideBySide.{Both, both_place, both_same, has_place, one_numbering}
use Rattle.kit_text_programs.proofs.ToldTexts.SideBySide.{pairs_parts}

-- ---- one root

module _ {s : KitContext} {root : Ptr Operation} {t : KitTree} {kind : ℕ} {results : Definitions} {used successors : List ℕ}
    {pieces : Pieces} {ts : Entities ℕ} (h : StandsAs (entity (operation kind results used successors pieces) ts) s root t) where
  -- what the handle leads to
  abbrev view : OperationView KitOperation
  view = h.is_tree.view

  -- the tree, by what its handle leads to
  abbrev plain_root : KitTree
  plain_root = record { head = head_of root view; regions = t.regions }

  -- it is that tree
  is_plain_root : t ≡ plain_root
  is_plain_root = λ i. record { head = h.is_tree.head i; regions = t.regions }

  -- what is seen of the root is what its handle leads to
  is_seen : seen_operation view ≡ h.stands.0
  is_seen = same_operation s h.numbering h.distinct (λ _. 0) root view h.stands.0 h.is_tree.there h.stands.1

  -- the root has the head that is written
  root_said : HasHead says (Named h.numbering) s.types.keys (seen_operation view) kind results used successors pieces
  root_said = subst (λ o. HasHead says (Named h.numbering) s.types.keys o kind results used successors pieces) (sym is_seen)
      h.stands.2

  -- its regions are what the text says
  inside_said : AreSaid s h.numbering Regions t.regions ts
  inside_said = regions_said s h.numbering h.distinct view.regions t.regions ts h.is_tree.regions
      (subst (λ (o : SeenOperation KitOp KitAttr). HaveRegionTrees says (Named h.numbering) HasOwnLabel (seen s)
      o.regions ts) (sym is_seen) h.stands.3)

  -- the values of the tree have the numbers of the text
  root_values : (code : TypeHandle → ℕ) → Pairs (Named h.numbering).value (values_of (mean_root (meanings code) plain_root))
      (numbers_of (entity (operation kind results used successors pieces) ts))
  root_values code =
      let names = names_of (map (mean_defined code) (map defined_by view.results)) in
      pairs_parts (Named h.numbering).value (names ++ view.operands) (values_in (mean (meanings code) t.regions))
      (closed.names_of results ++ used) (all_numbers ts)
      (pairs_parts (Named h.numbering).value names view.operands (closed.names_of results) used
      (names_said s h.numbering code view.results results root_said.defines) root_said.mentions)
      (values_said s h.numbering code Regions t.regions ts inside_said)

  -- so have its blocks
  root_blocks : (code : TypeHandle → ℕ) → Pairs (Named h.numbering).block (blocks_of (mean_root (meanings code) plain_root))
      (blocks_named (entity (operation kind results used successors pieces) ts))
  root_blocks code = pairs_parts (Named h.numbering).block view.successors (blocks_in (mean (meanings code) t.regions)) successors
      (all_blocks_named ts) root_said.goes_on (named_said s h.numbering code Regions t.regions ts inside_said)

-- ---- two roots

module _ (number : ValueTree → ℕ) (code other_code : TypeHandle → ℕ) (s z : KitContext) (root there : Ptr Operation)
    (t u : KitTree) (kind kind_there : ℕ) (results again : Definitions) (used taken successors going : List ℕ) (pieces said : Pieces)
    (ts us : Entities ℕ) where
  -- the first text
  abbrev text : Entity ℕ
  text = entity (operation kind results used successors pieces) ts

  -- the second text
  abbrev other : Entity ℕ
  other = entity (operation kind_there again taken going said) us

  module _ (same : SayTheSame code other_code t u) (here : StandsAs text s root t) (too : StandsAs other z there u)
      (coded : HaveTextNumbers number code s text) (coded_too : HaveTextNumbers number other_code z other)
      (apart : NumbersApart number (types_in_text text ++ types_in_text other))
      (is_closed : IsClosedTree kit_language text) (closed_too : IsClosedTree kit_language other) where
    -- a type of the first text
    abbrev Here : ValueTree → Type 0
    Here r = Has r (types_in_text text)

    -- a type of the second text
    abbrev There : ValueTree → Type 0
    There r = Has r (types_in_text other)

    -- types of the two texts with one code are the same
    types_apart : AreApart s.types.keys z.types.keys code other_code Here There
    types_apart = λ h c r q a b shown seen_too e.
        apart r q (has-left r (types_in_text text) (types_in_text other) a) (has-right q (types_in_text text) (types_in_text other) b)
        (sym (coded h r shown a) ∙ (e ∙ coded_too c q seen_too b))

    -- the trees say the same, by what their handles lead to
    plain_same : SayTheSame code other_code (plain_root here) (plain_root too)
    plain_same = subst (λ x. SayTheSame code other_code x (plain_root too)) (is_plain_root here)
        (subst (λ y. SayTheSame code other_code t y) (is_plain_root too) same)

    -- the texts are the same but for labels and numbers
    near : AreNear text other
    near =
        let firsts = types_of_head (operation kind results used successors pieces) in
        let seconds = types_of_head (operation kind_there again taken going said) in (
          heads_near s.types.keys z.types.keys code other_code Here There types_apart here.numbering too.numbering (view here)
              (view too) kind kind_there results again used taken successors going pieces said (root_said here) (root_said too)
              (ap (λ (r : Root no_names sayings). r.head.content) plain_same.shape)
              (ap (λ (r : Root no_names sayings). r.head.results) plain_same.shape)
              (units_long (view here).operands (view too).operands
              (ap (λ (r : Root no_names sayings). r.head.operands) plain_same.shape))
              (units_long (view here).successors (view too).successors
              (ap (λ (r : Root no_names sayings). r.head.successors) plain_same.shape))
              (λ r is. has-left r firsts (types_in_texts ts) is) (λ r is. has-left r seconds (types_in_texts us) is)
              is_closed.bare.0 closed_too.bare.0,
          texts_near s z here.numbering too.numbering code other_code Here There types_apart Regions t.regions u.regions ts us
              (inside_said here) (inside_said too)
              (ap (λ (r : Root no_names sayings). r.regions) plain_same.shape)
              (λ r is. has-right r firsts (types_in_texts ts) is) (λ r is. has-right r seconds (types_in_texts us) is)
              is_closed.bare.1 closed_too.bare.1,
        )

    module _ (ordered : IsNumbered text) (ordered_too : IsNumbered other) where
      -- the texts define the same numbers
      definitions_one : definitions_of text ≡ definitions_of other
      definitions_one =
          ordered.values ∙ (ap (λ (n : ℕ). range_with_len 0 n) (definitions_long text other near) ∙ sym ordered_too.values)

      -- and their blocks
      blocks_one : closed.blocks_of text ≡ closed.blocks_of other
      blocks_one =
          ordered.blocks ∙ (ap (λ (n : ℕ). range_with_len 0 n) (blocks_of_long text other near) ∙ sym ordered_too.blocks)

      -- each number of the first text stands somewhere in both
      meet : (k n : ℕ) → slice_get (numbers_of text) k ≡ Some n
          → (j : ℕ) × (slice_get (numbers_of text) j ≡ Some n) × (slice_get (numbers_of other) j ≡ Some n)
      meet k n at =
          let defined = numbers_defined kit_language.isolated kit_language.values text is_closed.operation
          is_closed.scoped n (has_place n (numbers_of text) k at) in
          both_place (numbers_of text) (numbers_of other) n n (both_defined text other n n near
          (subst (λ (ds : List ℕ). Both (definitions_of text) ds n n) definitions_one
          (both_same n (definitions_of text) defined)))

      -- the texts have the same numbers
      numbers_one : numbers_of text ≡ numbers_of other
      numbers_one = one_numbering (Named here.numbering).value (Named too.numbering).value
          (values_of (mean_root (meanings code) (plain_root here)))
          (values_of (mean_root (meanings other_code) (plain_root too))) (numbers_of text) (numbers_of other)
          (λ x y n a b. same_Some x y (sym a ∙ b)) (λ y n m a b. too.distinct.values n m y y a b refl) plain_same.values
          (root_values here code) (root_values too other_code) (numbers_long text other near) meet

      -- each block that the first text names is named somewhere in both
      meet_blocks : (k n : ℕ) → slice_get (blocks_named text) k ≡ Some n
          → (j : ℕ) × (slice_get (blocks_named text) j ≡ Some n) × (slice_get (blocks_named other) j ≡ Some n)
      meet_blocks k n at =
          let defined = blocks_defined text is_closed.edges n (has_place n (blocks_named text) k at) in
          both_place (blocks_named text) (blocks_named other) n n (both_named text other n n near
          (subst (λ (ds : List ℕ). Both (closed.blocks_of text) ds n n) blocks_one
          (both_same n (closed.blocks_of text) defined)))

      -- the texts name the same blocks
      named_one : blocks_named text ≡ blocks_named other
      named_one = one_numbering (Named here.numbering).block (Named too.numbering).block
          (blocks_of (mean_root (meanings code) (plain_root here)))
          (blocks_of (mean_root (meanings other_code) (plain_root too))) (blocks_named text) (blocks_named other)
          (λ x y n a b. same_Some x y (sym a ∙ b)) (λ y n m a b. too.distinct.blocks n m y a b) plain_same.blocks
          (root_blocks here code) (root_blocks too other_code) (blocks_named_long text other near) meet_blocks

      -- so they are the same but for labels
      same_text : IsSameModule text other
      same_text = rebuilt text other near numbers_one named_one

-- what says the same stands for one text, but for labels
pub say_one_text : TheSameSayOneText
say_one_text number code other_code (entity (operation kind results used successors pieces) ts)
    (entity (operation kind_there again taken going said) us) s z root there t u same here too coded coded_too apart is_closed
    closed_too ordered ordered_too =
    same_text number code other_code s z root there t u kind kind_there results again used taken successors going pieces said ts us same
    here too coded coded_too apart is_closed closed_too ordered ordered_too
say_one_text number code other_code (entity a_region ts) any s z root there t u same here too coded coded_too apart
    is_closed closed_too ordered ordered_too =
    absurd here.stands
say_one_text number code other_code (entity (block named label arguments) ts) any s z root there t u same here too coded
    coded_too apart is_closed closed_too ordered ordered_too =
    absurd here.stands
say_one_text number code other_code (entity (operation kind results used successors pieces) ts) (entity a_region us) s z root there
    t u same here too coded coded_too apart is_closed closed_too ordered ordered_too =
    absurd too.stands
say_one_text number code other_code (entity (operation kind results used successors pieces) ts) (entity (block named label arguments) us)
    s z root there t u same here too coded coded_too apart is_closed closed_too ordered ordered_too =
    absurd too.stands
