-- What a renamed tree defines and mentions, and its blocks.
use Rattle.std.proofs.Common.{◌≡◌, ℕ, Bool, true, false, if◌then◌else◌, List, [], ◌∷◌, ◌++◌, map, refl, sym, ap, ◌∙◌}
use Rattle.std.proofs.lemmas.List.{map-append}
use Rattle.ir_print.specs.Pieces.{ValueTree, EntityHead, operation, a_region, block, Entity, entity, Entities, no_entity, an_entity}
use Rattle.ir_forest.specs.Closed.{names_of, head_defines, head_mentions, in_scope, defined_by, all_defined, mentioned_by, all_mentioned, definitions_of, all_definitions_of, named_in, blocks_among, blocks_of, all_blocks_of, head_goes_on}
use Rattle.ir_forest.specs.Meaning.{renamed_head, renamed, all_renamed}

abbrev mutual
  -- the operands of all operations in an entity, in the order of the text
  pub operands_of : {N : Type 0} → Entity N → List N
  operands_of (entity h ts) = head_mentions h ++ all_operands_of ts

  pub all_operands_of : {N : Type 0} → Entities N → List N
  all_operands_of no_entity = []
  all_operands_of (an_entity t ts) = operands_of t ++ all_operands_of ts

abbrev mutual
  -- the blocks to which all operations in an entity may go on, in the order of the text
  pub successors_of : {N : Type 0} → Entity N → List N
  successors_of (entity h ts) = head_goes_on h ++ all_successors_of ts

  pub all_successors_of : {N : Type 0} → Entities N → List N
  all_successors_of no_entity = []
  all_successors_of (an_entity t ts) = successors_of t ++ all_successors_of ts

module _ {M N : Type 0} (f g : M → N) where
  names_renamed : (xs : List (M × ValueTree)) → names_of (map (λ r. (f r.0, r.1)) xs) ≡ map f (names_of xs)
  names_renamed [] = refl
  names_renamed (x ∷ xs) = ap (λ z. f x.0 ∷ z) (names_renamed xs)

  head_defines_renamed : (h : EntityHead M) → head_defines (renamed_head f g h) ≡ map f (head_defines h)
  head_defines_renamed (operation kind results used successors pieces) = names_renamed results
  head_defines_renamed a_region = refl
  head_defines_renamed (block named label arguments) = names_renamed arguments

  head_mentions_renamed : (h : EntityHead M) → head_mentions (renamed_head f g h) ≡ map f (head_mentions h)
  head_mentions_renamed (operation kind results used successors pieces) = refl
  head_mentions_renamed a_region = refl
  head_mentions_renamed (block named label arguments) = refl

  if_mapped : (b : Bool) (xs : List M) (ys : List N) → ys ≡ map f xs → (if b then [] else ys) ≡ map f (if b then [] else xs)
  if_mapped true xs ys e = refl
  if_mapped false xs ys e = e

  scope_renamed : (isolated : ℕ → Bool) (h : EntityHead M) (xs : List M) (ys : List N) → ys ≡ map f xs
      → in_scope isolated (renamed_head f g h) ys ≡ map f (in_scope isolated h xs)
  scope_renamed isolated (operation kind results used successors pieces) xs ys e = if_mapped (isolated kind) xs ys e
  scope_renamed isolated a_region xs ys e = e
  scope_renamed isolated (block named label arguments) xs ys e = e

  joined : (us vs : List N) (xs ys : List M) → us ≡ map f xs → vs ≡ map f ys → us ++ vs ≡ map f (xs ++ ys)
  joined us vs xs ys e h = ap (λ z. z ++ vs) e ∙ (ap (λ z. map f xs ++ z) h ∙ sym (map-append f xs ys))

  joined_blocks : (us vs : List N) (xs ys : List M) → us ≡ map g xs → vs ≡ map g ys → us ++ vs ≡ map g (xs ++ ys)
  joined_blocks us vs xs ys e h = ap (λ z. z ++ vs) e ∙ (ap (λ z. map g xs ++ z) h ∙ sym (map-append g xs ys))

  named_renamed : (h : EntityHead M) → named_in (renamed_head f g h) ≡ map g (named_in h)
  named_renamed (operation kind results used successors pieces) = refl
  named_renamed a_region = refl
  named_renamed (block named label arguments) = refl

  pub blocks_among_renamed : (ts : Entities M) → blocks_among (all_renamed f g ts) ≡ map g (blocks_among ts)
  blocks_among_renamed no_entity = refl
  blocks_among_renamed (an_entity (entity h us) ts) = joined_blocks (named_in (renamed_head f g h)) (blocks_among (all_renamed f g ts)) (named_in h) (blocks_among ts) (named_renamed h) (blocks_among_renamed ts)

  mutual
    pub blocks_renamed : (t : Entity M) → blocks_of (renamed f g t) ≡ map g (blocks_of t)
    blocks_renamed (entity h ts) = joined_blocks (named_in (renamed_head f g h)) (all_blocks_of (all_renamed f g ts)) (named_in h) (all_blocks_of ts) (named_renamed h) (all_blocks_renamed ts)

    pub all_blocks_renamed : (ts : Entities M) → all_blocks_of (all_renamed f g ts) ≡ map g (all_blocks_of ts)
    all_blocks_renamed no_entity = refl
    all_blocks_renamed (an_entity t ts) = joined_blocks (blocks_of (renamed f g t)) (all_blocks_of (all_renamed f g ts)) (blocks_of t) (all_blocks_of ts) (blocks_renamed t) (all_blocks_renamed ts)

  mutual
    pub definitions_renamed : (t : Entity M) → definitions_of (renamed f g t) ≡ map f (definitions_of t)
    definitions_renamed (entity h ts) =
        joined (head_defines (renamed_head f g h)) (all_definitions_of (all_renamed f g ts)) (head_defines h) (all_definitions_of ts) (head_defines_renamed h) (all_definitions_renamed ts)

    pub all_definitions_renamed : (ts : Entities M) → all_definitions_of (all_renamed f g ts) ≡ map f (all_definitions_of ts)
    all_definitions_renamed no_entity = refl
    all_definitions_renamed (an_entity t ts) =
        joined (definitions_of (renamed f g t)) (all_definitions_of (all_renamed f g ts)) (definitions_of t) (all_definitions_of ts) (definitions_renamed t) (all_definitions_renamed ts)

  mutual
    pub operands_renamed : (t : Entity M) → operands_of (renamed f g t) ≡ map f (operands_of t)
    operands_renamed (entity h ts) =
        joined (head_mentions (renamed_head f g h)) (all_operands_of (all_renamed f g ts)) (head_mentions h) (all_operands_of ts) (head_mentions_renamed h) (all_operands_renamed ts)

    pub all_operands_renamed : (ts : Entities M) → all_operands_of (all_renamed f g ts) ≡ map f (all_operands_of ts)
    all_operands_renamed no_entity = refl
    all_operands_renamed (an_entity t ts) =
        joined (operands_of (renamed f g t)) (all_operands_of (all_renamed f g ts)) (operands_of t) (all_operands_of ts) (operands_renamed t) (all_operands_renamed ts)

  module _ (isolated : ℕ → Bool) where
    mutual
      pub defined_renamed : (t : Entity M) → defined_by isolated (renamed f g t) ≡ map f (defined_by isolated t)
      defined_renamed (entity h ts) =
          joined (head_defines (renamed_head f g h)) (in_scope isolated (renamed_head f g h) (all_defined isolated (all_renamed f g ts))) (head_defines h) (in_scope isolated h (all_defined isolated ts))
          (head_defines_renamed h) (scope_renamed isolated h (all_defined isolated ts) (all_defined isolated (all_renamed f g ts)) (all_defined_renamed ts))

      pub all_defined_renamed : (ts : Entities M) → all_defined isolated (all_renamed f g ts) ≡ map f (all_defined isolated ts)
      all_defined_renamed no_entity = refl
      all_defined_renamed (an_entity t ts) =
          joined (defined_by isolated (renamed f g t)) (all_defined isolated (all_renamed f g ts)) (defined_by isolated t) (all_defined isolated ts) (defined_renamed t) (all_defined_renamed ts)

    mutual
      pub mentioned_renamed : (t : Entity M) → mentioned_by isolated (renamed f g t) ≡ map f (mentioned_by isolated t)
      mentioned_renamed (entity h ts) =
          joined (head_mentions (renamed_head f g h)) (in_scope isolated (renamed_head f g h) (all_mentioned isolated (all_renamed f g ts))) (head_mentions h) (in_scope isolated h (all_mentioned isolated ts))
          (head_mentions_renamed h) (scope_renamed isolated h (all_mentioned isolated ts) (all_mentioned isolated (all_renamed f g ts)) (all_mentioned_renamed ts))

      pub all_mentioned_renamed : (ts : Entities M) → all_mentioned isolated (all_renamed f g ts) ≡ map f (all_mentioned isolated ts)
      all_mentioned_renamed no_entity = refl
      all_mentioned_renamed (an_entity t ts) =
          joined (mentioned_by isolated (renamed f g t)) (all_mentioned isolated (all_renamed f g ts)) (mentioned_by isolated t) (all_mentioned isolated ts) (mentioned_renamed t) (all_mentioned_renamed ts)
