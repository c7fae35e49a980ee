-- Trees with the names with which what has them is printed.
use Rattle.std.proofs.Common.{◌≡◌, ℕ, zero, suc, ◌<◌, ◌^◌, Bool, true, false, cond, nat_lt, List, [], ◌∷◌, map, Option, Some, None, slice_get, refl, sym, ap, subst, ◌∙◌, arith}
use Rattle.std.specs.Option.{option_map_or}
use Rattle.std.proofs.lemmas.Bool.Decides.{nat_tests}
use Rattle.ir_forest.specs.Closed.{unlabelled, all_unlabelled, AreIn, blocks_among, HasEdges, HaveEdges}
use Rattle.ir_forest.specs.Meaning.{renamed, all_renamed}
use Rattle.ir_print.specs.Pieces.{ValueTree, operation, a_region, block, Entity, entity, Entities, no_entity, an_entity}
use Rattle.ir_print.specs.Shown.{Saying, Pairs}
use Rattle.ir_program.specs.Program.{TypedValue}
use Rattle.ir_program.specs.declared.handles.IRNode.TheVariants.{Operation as OperationNode, Region as RegionNode, BasicBlock as BlockNode}
use Rattle.ir_program.specs.declared.handles.Ptr.{Ptr}
use Rattle.ir_program.specs.declared.handles.Operation.{Operation}
use Rattle.ir_program.specs.declared.handles.Region.{Region}
use Rattle.ir_program.specs.declared.handles.BasicBlock.{BasicBlock}
use Rattle.ir_program.specs.declared.handles.Value.{Value}
use Rattle.text_dialect.specs.Printed.{value_name, label_front, block_name, IsValueName, IsBlockName, printed_names}
use Rattle.text_dialect.specs.Seen.{SeenBlock, Seen}
use Rattle.text_dialect.specs.Standing.{HasDefinition, HasTree, HasRegionTree, HasBlockTree, HaveRegionTrees, HaveBlockTrees, HaveTrees}
use Rattle.text_rereading.specs.Places.{DefinesSmall, AreSmall, IsAnywhereIn, within, AreSmallInside}
use Rattle.text_rereading.specs.Rereading.{Numbering, Named}

-- ---- numbers

-- the number, if it fits in 64 bits
abbrev pub capped : ℕ → ℕ
capped n = cond (nat_lt n (2 ^ 64)) n 0

pub capped_small : (n : ℕ) → capped n < 2 ^ 64
capped_small n = at (nat_lt n (2 ^ 64)) refl
  where
    at : (b : Bool) → nat_lt n (2 ^ 64) ≡ b → cond b n 0 < 2 ^ 64
    at true e = grind (arith, nat_tests)
    at false e = omega arith

capped_same : (n : ℕ) → n < 2 ^ 64 → capped n ≡ n
capped_same n h = at (nat_lt n (2 ^ 64)) refl
  where
    at : (b : Bool) → nat_lt n (2 ^ 64) ≡ b → cond b n 0 ≡ n
    at true e = refl
    at false e = absurd (grind (arith, nat_tests))

-- the number of the value of a definition
abbrev pub number_at : List Value → ℕ → ℕ
number_at values n = option_map_or (λ (v : Value). capped v.number) (slice_get values n) 0

pub number_small : (values : List Value) (n : ℕ) → number_at values n < 2 ^ 64
number_small values n = at (slice_get values n)
  where
    at : (o : Option Value) → option_map_or (λ (v : Value). capped v.number) o 0 < 2 ^ 64
    at None = omega arith
    at (Some v) = capped_small v.number

-- its name
abbrev pub name_at : List Value → ℕ → List ℕ
name_at values n = value_name (number_at values n)

name_is : (values : List Value) (v : Value) (n : ℕ) → v.number < 2 ^ 64 → slice_get values n ≡ Some v
    → name_at values n ≡ value_name v.number
name_is values v n small h =
    ap (λ (o : Option Value). value_name (option_map_or (λ (u : Value). capped u.number) o 0)) h
    ∙ ap value_name (capped_same v.number small)

-- ---- names of blocks

-- the name of a block, by what is seen of it
abbrev pub name_of_block : Ptr BasicBlock → Option SeenBlock → List ℕ
name_of_block b o = option_map_or (λ (v : SeenBlock). block_name (label_front v.label) b.key.slot b.key.version) o []

-- the name of the block with a number
abbrev pub block_name_at : {K A T : Type 0} → Seen K A T → List (Ptr BasicBlock) → ℕ → List ℕ
block_name_at s blocks n = option_map_or (λ (b : Ptr BasicBlock). name_of_block b (s.block b)) (slice_get blocks n) []

block_name_is : {K A T : Type 0} (s : Seen K A T) (blocks : List (Ptr BasicBlock)) (b : Ptr BasicBlock) (v : SeenBlock) (n : ℕ)
    → s.block b ≡ Some v → slice_get blocks n ≡ Some b
    → block_name_at s blocks n ≡ block_name (label_front v.label) b.key.slot b.key.version
block_name_is s blocks b v n there h =
    ap (λ (o : Option (Ptr BasicBlock)). option_map_or (λ (c : Ptr BasicBlock). name_of_block c (s.block c)) o []) h
    ∙ ap (name_of_block b) there

-- ---- the tree with its names

module _ {K A T : Type 0} (says : Saying K A T) (Labels : Ptr BasicBlock → SeenBlock → List ℕ → Type 0)
    (s : Seen K A T) (numbering : Numbering) (root : Ptr Operation) (small : AreSmallInside s root) where
  abbrev ν : ℕ → List ℕ
  ν n = name_at numbering.values n

  abbrev μ : ℕ → List ℕ
  μ n = block_name_at s numbering.blocks n

  definitions_named : (ds : List TypedValue) (rs : List (ℕ × ValueTree)) → DefinesSmall ds
      → Pairs (HasDefinition says (Named numbering) s.types) ds rs
      → Pairs (HasDefinition says (printed_names s) s.types) ds (map (λ r. (ν r.0, r.1)) rs)
  definitions_named [] [] fit h = tt
  definitions_named [] (r ∷ rs) fit h = absurd h
  definitions_named (d ∷ ds) [] fit h = absurd h
  definitions_named (d ∷ ds) (r ∷ rs) fit h = (
    (name_is numbering.values d.value r.0 (fit 0 d.value refl) h.0.0, h.0.1),
    definitions_named ds rs (λ k v e. fit (suc k) v e) h.1,
  )

  operands_named : (vs : List Value) (ns : List ℕ) → AreSmall vs → Pairs (Named numbering).value vs ns
      → Pairs IsValueName vs (map ν ns)
  operands_named [] [] fit h = tt
  operands_named [] (n ∷ ns) fit h = absurd h
  operands_named (v ∷ vs) [] fit h = absurd h
  operands_named (v ∷ vs) (n ∷ ns) fit h =
      (name_is numbering.values v n (fit 0 v refl) h.0, operands_named vs ns (λ k w e. fit (suc k) w e) h.1)

  -- these numbers name blocks that are seen
  abbrev pub AreSeen : List ℕ → Type 0
  AreSeen ns = (j n : ℕ) → slice_get ns j ≡ Some n
      → (b : Ptr BasicBlock) × (v : SeenBlock) × (slice_get numbering.blocks n ≡ Some b) × (s.block b ≡ Some v)

  none_seen : AreSeen []
  none_seen j n e = absurd (cc)

  blocks_seen : (ts : Entities ℕ) (bs : List (Ptr BasicBlock)) → HaveBlockTrees says (Named numbering) Labels s bs ts
      → AreSeen (blocks_among ts)
  blocks_seen no_entity bs h j n e = absurd (cc)
  blocks_seen (an_entity t ts) [] h j n e = absurd h
  blocks_seen (an_entity (entity (block named label arguments) us) ts) (b ∷ bs) h zero n e =
      let is : named ≡ n = cc in
      (b, h.0.0, subst (λ m. slice_get numbering.blocks m ≡ Some b) is h.0.3, h.0.1)
  blocks_seen (an_entity (entity (block named label arguments) us) ts) (b ∷ bs) h (suc j) n e = blocks_seen ts bs h.1 j n e
  blocks_seen (an_entity (entity (operation kind results used successors pieces) us) ts) (b ∷ bs) h j n e = absurd h.0
  blocks_seen (an_entity (entity a_region us) ts) (b ∷ bs) h j n e = absurd h.0

  successors_named : (ns : List ℕ) → AreSeen ns → (bs : List (Ptr BasicBlock)) (ms : List ℕ) → AreIn ms ns
      → Pairs (Named numbering).block bs ms → Pairs (printed_names s).block bs (map μ ms)
  successors_named ns seen [] [] among h = tt
  successors_named ns seen [] (m ∷ ms) among h = absurd h
  successors_named ns seen (b ∷ bs) [] among h = absurd h
  successors_named ns seen (b ∷ bs) (m ∷ ms) among h =
      let at = among 0 m refl in
      let w = seen at.0 m at.1 in
      let same : w.0 ≡ b = (let e : Some w.0 ≡ Some b = sym w.2 ∙ h.0 in cc) in
      let there : s.block b ≡ Some w.1 = subst (λ c. s.block c ≡ Some w.1) same w.3 in (
        (w.1, there, block_name_is s numbering.blocks b w.1 m there h.0),
        successors_named ns seen bs ms (λ i x e. among (suc i) x e) h.1,
      )

  -- what an operation, regions, blocks or operations are printed as that have these trees
  abbrev pub NamedTree : Ptr Operation → Entity ℕ → Type 0
  NamedTree p t =
      (u : Entity (List ℕ)) × HasTree says (printed_names s) IsBlockName s p u
      × (unlabelled u ≡ unlabelled (renamed ν μ t))

  abbrev NamedRegion : Ptr Region → Entity ℕ → Type 0
  NamedRegion r t =
      (u : Entity (List ℕ)) × HasRegionTree says (printed_names s) IsBlockName s r u
      × (unlabelled u ≡ unlabelled (renamed ν μ t))

  abbrev NamedBlock : Ptr BasicBlock → Entity ℕ → Type 0
  NamedBlock b t =
      (u : Entity (List ℕ)) × HasBlockTree says (printed_names s) IsBlockName s b u
      × (unlabelled u ≡ unlabelled (renamed ν μ t))

  abbrev NamedRegions : List (Ptr Region) → Entities ℕ → Type 0
  NamedRegions rs ts =
      (us : Entities (List ℕ)) × HaveRegionTrees says (printed_names s) IsBlockName s rs us
      × (all_unlabelled us ≡ all_unlabelled (all_renamed ν μ ts))

  abbrev NamedBlocks : List (Ptr BasicBlock) → Entities ℕ → Type 0
  NamedBlocks bs ts =
      (us : Entities (List ℕ)) × HaveBlockTrees says (printed_names s) IsBlockName s bs us
      × (all_unlabelled us ≡ all_unlabelled (all_renamed ν μ ts))

  abbrev NamedTrees : List (Ptr Operation) → Entities ℕ → Type 0
  NamedTrees ps ts =
      (us : Entities (List ℕ)) × HaveTrees says (printed_names s) IsBlockName s ps us
      × (all_unlabelled us ≡ all_unlabelled (all_renamed ν μ ts))

  mutual
    -- The tree of an operation, with the names in its text. Edges lead to these blocks, which are seen.
    named_within : (ns : List ℕ) → AreSeen ns → (t : Entity ℕ) (p : Ptr Operation)
        → IsAnywhereIn s (OperationNode root) (OperationNode p) → HasEdges ns t
        → HasTree says (Named numbering) Labels s p t → NamedTree p t
    named_within ns seen (entity (operation kind results used successors pieces) ts) p i g h =
        let o = h.0 in
        let head = h.2 in
        let fit = small (OperationNode p) i o h.1 in
        let rest =
        named_regions ns seen ts o.regions (λ k r e. within (RegionNode r) (OperationNode p) k (o, h.1, e) i) g.1 h.3 in (
          entity (operation kind (map (λ r. (ν r.0, r.1)) results) (map ν used) (map μ successors) pieces) rest.0,
          (
            o,
            h.1,
            record {
              said = head.said;
              says_it = head.says_it;
              shown = head.shown;
              defines = definitions_named o.results results fit.0 head.defines;
              mentions = operands_named o.operands used fit.1 head.mentions;
              goes_on = successors_named ns seen o.successors successors g.0 head.goes_on;
            },
            rest.1,
          ),
          ap
              (λ us. entity (operation kind (map (λ r. (ν r.0, r.1)) results) (map ν used) (map μ successors) pieces) us)
              rest.2,
        )
    named_within ns seen (entity a_region ts) p i g h = absurd h
    named_within ns seen (entity (block named label arguments) ts) p i g h = absurd h

    named_regions : (ns : List ℕ) → AreSeen ns → (ts : Entities ℕ) (rs : List (Ptr Region))
        → ((k : ℕ) (r : Ptr Region) → slice_get rs k ≡ Some r → IsAnywhereIn s (OperationNode root) (RegionNode r))
        → HaveEdges ns ts → HaveRegionTrees says (Named numbering) Labels s rs ts → NamedRegions rs ts
    named_regions ns seen no_entity [] inside g h = (no_entity, tt, refl)
    named_regions ns seen no_entity (r ∷ rs) inside g h = absurd h
    named_regions ns seen (an_entity t ts) [] inside g h = absurd h
    named_regions ns seen (an_entity t ts) (r ∷ rs) inside g h =
        let u = named_region ns t r (inside 0 r refl) g.0 h.0 in
        let us = named_regions ns seen ts rs (λ k q e. inside (suc k) q e) g.1 h.1 in
        let first : unlabelled u.0 ≡ unlabelled (renamed ν μ t) = u.2 in
        let others : all_unlabelled us.0 ≡ all_unlabelled (all_renamed ν μ ts) = us.2 in
        (an_entity u.0 us.0, (u.1, us.1), cc)

    named_region : (ns : List ℕ) (t : Entity ℕ) (r : Ptr Region) → IsAnywhereIn s (OperationNode root) (RegionNode r)
        → HasEdges ns t → HasRegionTree says (Named numbering) Labels s r t → NamedRegion r t
    named_region ns (entity a_region ts) r i g h =
        let rest =
        named_blocks (blocks_among ts) (blocks_seen ts h.0 h.2) ts h.0
        (λ k b e. within (BlockNode b) (RegionNode r) k (h.0, h.1, e) i) g.1 h.2 in
        (entity a_region rest.0, (h.0, h.1, rest.1), ap (λ us. entity a_region us) rest.2)
    named_region ns (entity (operation kind results used successors pieces) ts) r i g h = absurd h
    named_region ns (entity (block named label arguments) ts) r i g h = absurd h

    named_blocks : (ns : List ℕ) → AreSeen ns → (ts : Entities ℕ) (bs : List (Ptr BasicBlock))
        → ((k : ℕ) (b : Ptr BasicBlock) → slice_get bs k ≡ Some b → IsAnywhereIn s (OperationNode root) (BlockNode b))
        → HaveEdges ns ts → HaveBlockTrees says (Named numbering) Labels s bs ts → NamedBlocks bs ts
    named_blocks ns seen no_entity [] inside g h = (no_entity, tt, refl)
    named_blocks ns seen no_entity (b ∷ bs) inside g h = absurd h
    named_blocks ns seen (an_entity t ts) [] inside g h = absurd h
    named_blocks ns seen (an_entity t ts) (b ∷ bs) inside g h =
        let u = named_block ns seen t b (inside 0 b refl) g.0 h.0 in
        let us = named_blocks ns seen ts bs (λ k q e. inside (suc k) q e) g.1 h.1 in
        let first : unlabelled u.0 ≡ unlabelled (renamed ν μ t) = u.2 in
        let others : all_unlabelled us.0 ≡ all_unlabelled (all_renamed ν μ ts) = us.2 in
        (an_entity u.0 us.0, (u.1, us.1), cc)

    named_block : (ns : List ℕ) → AreSeen ns → (t : Entity ℕ) (b : Ptr BasicBlock)
        → IsAnywhereIn s (OperationNode root) (BlockNode b) → HasEdges ns t
        → HasBlockTree says (Named numbering) Labels s b t → NamedBlock b t
    named_block ns seen (entity (block named label arguments) ts) b i g h =
        let v = h.0 in
        let fit = small (BlockNode b) i v h.1 in
        let rest =
        named_trees ns seen ts v.operations (λ k p e. within (OperationNode p) (BlockNode b) k (v, h.1, e) i) g.1 h.5 in
        let name = block_name (label_front v.label) b.key.slot b.key.version in (
          entity (block (μ named) name (map (λ r. (ν r.0, r.1)) arguments)) rest.0,
          (
            v,
            h.1,
            refl,
            (v, h.1, block_name_is s numbering.blocks b v named h.1 h.3),
            definitions_named v.arguments arguments fit.2 h.4,
            rest.1,
          ),
          ap (λ us. entity (block (μ named) [] (map (λ r. (ν r.0, r.1)) arguments)) us) rest.2,
        )
    named_block ns seen (entity (operation kind results used successors pieces) ts) b i g h = absurd h
    named_block ns seen (entity a_region ts) b i g h = absurd h

    named_trees : (ns : List ℕ) → AreSeen ns → (ts : Entities ℕ) (ps : List (Ptr Operation))
        → ((k : ℕ) (p : Ptr Operation) → slice_get ps k ≡ Some p → IsAnywhereIn s (OperationNode root) (OperationNode p))
        → HaveEdges ns ts → HaveTrees says (Named numbering) Labels s ps ts → NamedTrees ps ts
    named_trees ns seen no_entity [] inside g h = (no_entity, tt, refl)
    named_trees ns seen no_entity (p ∷ ps) inside g h = absurd h
    named_trees ns seen (an_entity t ts) [] inside g h = absurd h
    named_trees ns seen (an_entity t ts) (p ∷ ps) inside g h =
        let u = named_within ns seen t p (inside 0 p refl) g.0 h.0 in
        let us = named_trees ns seen ts ps (λ k q e. inside (suc k) q e) g.1 h.1 in
        let first : unlabelled u.0 ≡ unlabelled (renamed ν μ t) = u.2 in
        let others : all_unlabelled us.0 ≡ all_unlabelled (all_renamed ν μ ts) = us.2 in
        (an_entity u.0 us.0, (u.1, us.1), cc)

  -- the same of a tree around which there is no region
  pub named_tree : (t : Entity ℕ) (p : Ptr Operation) → IsAnywhereIn s (OperationNode root) (OperationNode p) → HasEdges [] t
      → HasTree says (Named numbering) Labels s p t → NamedTree p t
  named_tree t p i g h = named_within [] none_seen t p i g h
