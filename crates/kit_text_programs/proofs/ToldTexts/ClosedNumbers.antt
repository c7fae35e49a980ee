-- In a closed tree of texts each number is one of a definition.
use Rattle.std.proofs.Common.{⊎_elim, ℕ, Bool, true, false, List, [], ◌∷◌, ◌++◌}
use Rattle.std.specs.Prelude.{if◌then◌else◌}
use Rattle.ir_forest.specs.Closed.{AreIn, names_of, head_defines, is_isolated_head, in_scope, defined_by}
use Rattle.ir_forest.specs.Closed.{all_defined, mentioned_by, all_mentioned, definitions_of, all_definitions_of}
use Rattle.ir_forest.specs.Closed.{IsScoped, AreScoped, IsScopedRoot, IsOperation, AreRegions, AreBlocks}
use Rattle.ir_forest.specs.Closed.{AreOperations, named_in, blocks_among, blocks_of, all_blocks_of, HasEdges, HaveEdges}
use Rattle.ir_print.specs.Pieces.{Values, operation, a_region, block, Entity, entity, Entities, no_entity, an_entity}
use Rattle.opt_trees.proofs.NoneDead.{has-append, has-left, has-right}
use Rattle.opt_trees.specs.Occurrences.{Has}
use Rattle.kit_text_programs.proofs.ToldTexts.SideBySide.{place_of, has_place}
use Rattle.kit_text_programs.proofs.ToldTexts.Near.{numbers_of, all_numbers, blocks_named, all_blocks_named}

-- what is in the first is in the second
in_second : (xs ys : List ℕ) (n : ℕ) → AreIn xs ys → Has n xs → Has n ys
in_second xs ys n are h =
    let at = place_of n xs h in
    let there = are at.0 n at.1 in has_place n ys there.0 there.1

-- what is in scope is there
scope_in : (b : Bool) (xs : List ℕ) (n : ℕ) → Has n (if b then [] else xs) → Has n xs
scope_in true xs n h = absurd h
scope_in false xs n h = h

-- the blocks among entities are blocks in them
among_blocks : (ts : Entities ℕ) (n : ℕ) → Has n (blocks_among ts) → Has n (all_blocks_of ts)
among_blocks no_entity n is = absurd is
among_blocks (an_entity (entity h us) ts) n is =
    ⊎_elim (λ first. has-left n (named_in h ++ all_blocks_of us) (all_blocks_of ts)
    (has-left n (named_in h) (all_blocks_of us) first))
    (λ rest. has-right n (named_in h ++ all_blocks_of us) (all_blocks_of ts) (among_blocks ts n rest))
    (has-append n (named_in h) (blocks_among ts) is)

module _ (P : ℕ → Type 0) where
  -- all of a list are such
  abbrev All : List ℕ → Type 0
  All xs = (n : ℕ) → Has n xs → P n

  -- all of two lists are such where all of each are
  joined : (xs ys : List ℕ) → All xs → All ys → All (xs ++ ys)
  joined xs ys a b n h = ⊎_elim (λ l. a n l) (λ r. b n r) (has-append n xs ys h)

  -- all of the first list are such
  front : (xs ys : List ℕ) → All (xs ++ ys) → All xs
  front xs ys a n h = a n (has-left n xs ys h)

  -- all of the second list are such
  back : (xs ys : List ℕ) → All (xs ++ ys) → All ys
  back xs ys a n h = a n (has-right n xs ys h)

module _ (isolated : ℕ → Bool) where
  mutual
    -- what is defined in a scope is defined
    defined_there : (t : Entity ℕ) (n : ℕ) → Has n (defined_by isolated t) → Has n (definitions_of t)
    defined_there (entity h ts) n is =
        ⊎_elim (λ first. has-left n (head_defines h) (all_definitions_of ts) first)
        (λ rest. has-right n (head_defines h) (all_definitions_of ts)
        (all_defined_there ts n (scope_in (is_isolated_head isolated h) (all_defined isolated ts) n rest)))
        (has-append n (head_defines h) (in_scope isolated h (all_defined isolated ts)) is)

    -- the same of each entity
    all_defined_there : (ts : Entities ℕ) (n : ℕ) → Has n (all_defined isolated ts) → Has n (all_definitions_of ts)
    all_defined_there no_entity n is = absurd is
    all_defined_there (an_entity t ts) n is =
        ⊎_elim (λ first. has-left n (definitions_of t) (all_definitions_of ts) (defined_there t n first))
        (λ rest. has-right n (definitions_of t) (all_definitions_of ts) (all_defined_there ts n rest))
        (has-append n (defined_by isolated t) (all_defined isolated ts) is)

  module _ (v : Values) (P : ℕ → Type 0) where
    mutual
      -- the numbers of an operation are such where those that it defines or mentions in its scope are
      operation_in : (inner : Bool) (t : Entity ℕ) → IsOperation v t → IsScoped isolated inner t
          → All P (definitions_of t) → All P (mentioned_by isolated t) → All P (numbers_of t)
      operation_in inner (entity (operation kind results used successors pieces) ts) is scoped defined mentioned =
          let inside = in_scope isolated (operation kind results used successors pieces) (all_mentioned isolated ts) in
          joined P (names_of results ++ used) (all_numbers ts)
          (joined P (names_of results) used (front P (names_of results) (all_definitions_of ts) defined)
          (front P used inside mentioned))
          (regions_in (isolated kind) ts is.3 scoped.1 (back P (names_of results) (all_definitions_of ts) defined)
          (back P used inside mentioned))
      operation_in inner (entity a_region ts) is scoped defined mentioned = absurd is
      operation_in inner (entity (block named label arguments) ts) is scoped defined mentioned = absurd is

      -- those of regions, which are scopes in an isolated operation
      regions_in : (inner : Bool) (ts : Entities ℕ) → AreRegions v ts → AreScoped isolated inner ts
          → All P (all_definitions_of ts) → All P (if inner then [] else all_mentioned isolated ts) → All P (all_numbers ts)
      regions_in inner no_entity is scoped defined mentioned = λ n h. absurd h
      regions_in true (an_entity (entity a_region us) ts) is scoped defined mentioned =
          let here = front P (all_definitions_of us) (all_definitions_of ts) defined in
          joined P (all_numbers us) (all_numbers ts)
          (blocks_in us is.0 scoped.0.1 here
          (λ n h. here n (all_defined_there us n
          (in_second (all_mentioned isolated us) (all_defined isolated us) n scoped.0.0 h))))
          (regions_in true ts is.1 scoped.1 (back P (all_definitions_of us) (all_definitions_of ts) defined)
          mentioned)
      regions_in false (an_entity (entity a_region us) ts) is scoped defined mentioned =
          joined P (all_numbers us) (all_numbers ts)
          (blocks_in us is.0 scoped.0.1 (front P (all_definitions_of us) (all_definitions_of ts) defined)
          (front P (all_mentioned isolated us) (all_mentioned isolated ts) mentioned))
          (regions_in false ts is.1 scoped.1 (back P (all_definitions_of us) (all_definitions_of ts) defined)
          (back P (all_mentioned isolated us) (all_mentioned isolated ts) mentioned))
      regions_in inner (an_entity (entity (operation kind results used successors pieces) us) ts) is scoped defined mentioned =
          absurd is.0
      regions_in inner (an_entity (entity (block named label arguments) us) ts) is scoped defined mentioned = absurd is.0

      -- those of blocks
      blocks_in : (ts : Entities ℕ) → AreBlocks v ts → AreScoped isolated false ts
          → All P (all_definitions_of ts) → All P (all_mentioned isolated ts) → All P (all_numbers ts)
      blocks_in no_entity is scoped defined mentioned = λ n h. absurd h
      blocks_in (an_entity (entity (block named label arguments) us) ts) is scoped defined mentioned =
          let here = front P (names_of arguments ++ all_definitions_of us) (all_definitions_of ts) defined in
          joined P (names_of arguments ++ all_numbers us) (all_numbers ts)
          (joined P (names_of arguments) (all_numbers us) (front P (names_of arguments) (all_definitions_of us) here)
          (operations_in us is.0 scoped.0.1 (back P (names_of arguments) (all_definitions_of us) here)
          (front P (all_mentioned isolated us) (all_mentioned isolated ts) mentioned)))
          (blocks_in ts is.1 scoped.1
          (back P (names_of arguments ++ all_definitions_of us) (all_definitions_of ts) defined)
          (back P (all_mentioned isolated us) (all_mentioned isolated ts) mentioned))
      blocks_in (an_entity (entity (operation kind results used successors pieces) us) ts) is scoped defined mentioned =
          absurd is.0
      blocks_in (an_entity (entity a_region us) ts) is scoped defined mentioned = absurd is.0

      -- those of operations
      operations_in : (ts : Entities ℕ) → AreOperations v ts → AreScoped isolated false ts
          → All P (all_definitions_of ts) → All P (all_mentioned isolated ts) → All P (all_numbers ts)
      operations_in no_entity is scoped defined mentioned = λ n h. absurd h
      operations_in (an_entity t ts) is scoped defined mentioned =
          joined P (numbers_of t) (all_numbers ts)
          (operation_in false t is.0 scoped.0 (front P (definitions_of t) (all_definitions_of ts) defined)
          (front P (mentioned_by isolated t) (all_mentioned isolated ts) mentioned))
          (operations_in ts is.1 scoped.1 (back P (definitions_of t) (all_definitions_of ts) defined)
          (back P (mentioned_by isolated t) (all_mentioned isolated ts) mentioned))

-- each number is that of a definition
pub numbers_defined : (isolated : ℕ → Bool) (v : Values) (t : Entity ℕ) → IsOperation v t → IsScopedRoot isolated t
    → (n : ℕ) → Has n (numbers_of t) → Has n (definitions_of t)
numbers_defined isolated v t is scoped =
    operation_in isolated v (λ n. Has n (definitions_of t)) false t is scoped.1 (λ n h. h)
    (λ n h. defined_there isolated t n
    (in_second (mentioned_by isolated t) (defined_by isolated t) n scoped.0 h))

-- ---- blocks

module _ (P : ℕ → Type 0) where
  mutual
    -- the blocks that an operation names are such where its own and those around it are
    operation_named : (bs : List ℕ) (t : Entity ℕ) → HasEdges bs t → All P bs → All P (blocks_of t) → All P (blocks_named t)
    operation_named bs (entity (operation kind results used successors pieces) ts) edges around own =
        joined P successors (all_blocks_named ts) (λ n h. around n (in_second successors bs n edges.0 h))
        (entities_named bs ts edges.1 around own)
    operation_named bs (entity a_region ts) edges around own =
        entities_named (blocks_among ts) ts edges.1 (λ n h. own n (among_blocks ts n h)) own
    operation_named bs (entity (block named label arguments) ts) edges around own =
        joined P (named ∷ []) (all_blocks_named ts) (front P (named ∷ []) (all_blocks_of ts) own)
        (entities_named bs ts edges.1 around (back P (named ∷ []) (all_blocks_of ts) own))

    -- the same of each entity
    entities_named : (bs : List ℕ) (ts : Entities ℕ) → HaveEdges bs ts → All P bs → All P (all_blocks_of ts)
        → All P (all_blocks_named ts)
    entities_named bs no_entity edges around own = λ n h. absurd h
    entities_named bs (an_entity t ts) edges around own =
        joined P (blocks_named t) (all_blocks_named ts)
        (operation_named bs t edges.0 around (front P (blocks_of t) (all_blocks_of ts) own))
        (entities_named bs ts edges.1 around (back P (blocks_of t) (all_blocks_of ts) own))

-- each block that is named is one of the text
pub blocks_defined : (t : Entity ℕ) → HasEdges [] t → (n : ℕ) → Has n (blocks_named t) → Has n (blocks_of t)
blocks_defined t edges = operation_named (λ n. Has n (blocks_of t)) [] t edges (λ n h. absurd h) (λ n h. h)
