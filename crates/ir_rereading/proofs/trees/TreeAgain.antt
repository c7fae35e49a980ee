-- The tree of a printed text is the tree that was printed.
use Rattle.std.proofs.Common.{◌≡◌, ℕ, zero, suc, ◌+◌, ◌<◌, Bool, true, false, List, [], ◌∷◌, ◌++◌, map, length, Some, None, slice_get, slice_index, refl, sym, subst, ap, ◌∙◌, arith, ◌⊎◌, inl, inr, if◌then◌else◌}
use Rattle.std.specs.List.{range_with_len}
use Rattle.ir_print.specs.Pieces.{Values, EntityHead, operation, a_region, block, Entity, entity, Entities, no_entity, an_entity}
use Rattle.ir_print.specs.Shown.{Pairs}
use Rattle.ir_scopes.specs.declared.scopes.Resolution.{Resolution}
use Rattle.ir_scopes.specs.declared.sites.Closing.{Closing}
use Rattle.ir_scopes.specs.declared.sites.Site.{Site}
use Rattle.ir_forest.specs.Meaning.{renamed}
use Rattle.ir_scopes.specs.Scopes.{name_of, Means, SitesAreApart, Resolves}
use Rattle.ir_scopes.proofs.Walks.{these}
use Rattle.ir_forest.specs.Closed.{AllDistinct, names_of, head_defines, is_isolated_head, in_scope, defined_by, all_defined, mentioned_by, all_mentioned, definitions_of, all_definitions_of, IsScope, IsScoped, AreScoped, IsScopedRoot, unlabelled, IsOperation, AreRegions, AreBlocks, IsBlock, AreOperations, blocks_of, IsNumbered}
use Rattle.ir_rereading.proofs.trees.TreeSites.{In, in_left, in_right, in_either, in_none}
use Rattle.ir_rereading.proofs.trees.TreeRenamed.{operands_of, all_operands_of, successors_of}
use Rattle.ir_rereading.proofs.trees.TreeAlike.{Alike, pairs_first, pairs_second, pairs_along, alike_from, alike_left, alike_to, alike_definitions, alike_operands, alike_blocks, alike_successors, alike_rebuild}
use Rattle.ir_rereading.proofs.trees.TreeEdges.{LinkedToken}

-- ---- what is mentioned is defined

module _ {N : Type 0} (isolated : ℕ → Bool) (x : N) where
  in_scope_too : (h : EntityHead N) (xs : List N) → In x (in_scope isolated h xs) → In x xs
  in_scope_too h xs i = go (is_isolated_head isolated h) i
    where
      go : (b : Bool) → In x (if b then [] else xs) → In x xs
      go true i = in_none x i
      go false i = i

  mutual
    -- what is defined in a scope is defined in the tree
    defined_too : (t : Entity N) → In x (defined_by isolated t) → In x (definitions_of t)
    defined_too (entity h ts) i = elim (in_either x (head_defines h) (in_scope isolated h (all_defined isolated ts)) i) [
      | inl e ↦ in_left x (head_defines h) (all_definitions_of ts) e
      | inr e ↦ in_right x (head_defines h) (all_definitions_of ts) (all_defined_too ts (in_scope_too h (all_defined isolated ts) e))
    ]

    all_defined_too : (ts : Entities N) → In x (all_defined isolated ts) → In x (all_definitions_of ts)
    all_defined_too no_entity i = in_none x i
    all_defined_too (an_entity t ts) i = elim (in_either x (defined_by isolated t) (all_defined isolated ts) i) [
      | inl e ↦ in_left x (definitions_of t) (all_definitions_of ts) (defined_too t e)
      | inr e ↦ in_right x (definitions_of t) (all_definitions_of ts) (all_defined_too ts e)
    ]

  -- it is mentioned in the scope around, or defined in the tree
  abbrev Found : Entity N → Type 0
  Found t = In x (mentioned_by isolated t) ⊎ In x (definitions_of t)

  abbrev AllFound : Entities N → Type 0
  AllFound ts = In x (all_mentioned isolated ts) ⊎ In x (all_definitions_of ts)

  -- the same of regions: no scope is around those of an isolated operation
  abbrev RegionsFound : Bool → Entities N → Type 0
  RegionsFound inner ts = ((inner ≡ false) × In x (all_mentioned isolated ts)) ⊎ In x (all_definitions_of ts)

  found_first : (t : Entity N) (ts : Entities N) → Found t → AllFound (an_entity t ts)
  found_first t ts (inl i) = inl (in_left x (mentioned_by isolated t) (all_mentioned isolated ts) i)
  found_first t ts (inr i) = inr (in_left x (definitions_of t) (all_definitions_of ts) i)

  found_more : (t : Entity N) (ts : Entities N) → AllFound ts → AllFound (an_entity t ts)
  found_more t ts (inl i) = inl (in_right x (mentioned_by isolated t) (all_mentioned isolated ts) i)
  found_more t ts (inr i) = inr (in_right x (definitions_of t) (all_definitions_of ts) i)

  region_first : (b : Bool) (ts us : Entities N) → RegionsFound b ts → RegionsFound b (an_entity (entity a_region ts) us)
  region_first b ts us (inl i) = inl (i.0, in_left x (all_mentioned isolated ts) (all_mentioned isolated us) i.1)
  region_first b ts us (inr i) = inr (in_left x (all_definitions_of ts) (all_definitions_of us) i)

  region_more : (b : Bool) (ts us : Entities N) → RegionsFound b us → RegionsFound b (an_entity (entity a_region ts) us)
  region_more b ts us (inl i) = inl (i.0, in_right x (all_mentioned isolated ts) (all_mentioned isolated us) i.1)
  region_more b ts us (inr i) = inr (in_right x (all_definitions_of ts) (all_definitions_of us) i)

  -- a region is a scope in an isolated operation
  region_scope : (b : Bool) (ts : Entities N) → IsScope isolated b a_region ts → AllFound ts → RegionsFound b ts
  region_scope b ts s (inr i) = inr i
  region_scope true ts s (inl i) = inr (all_defined_too ts (s i.0 x i.1))
  region_scope false ts s (inl i) = inl (refl, i)

  operation_scope : (kind : ℕ) (defined used : List N) (ts : Entities N) → RegionsFound (isolated kind) ts
      → In x (used ++ (if isolated kind then [] else all_mentioned isolated ts)) ⊎ In x (defined ++ all_definitions_of ts)
  operation_scope kind defined used ts (inr i) = inr (in_right x defined (all_definitions_of ts) i)
  operation_scope kind defined used ts (inl i) = inl (in_right x used (if isolated kind then [] else all_mentioned isolated ts)
      (subst (λ (b : Bool). In x (if b then [] else all_mentioned isolated ts)) (sym i.0) i.1))

  module _ (v : Values) where
    mutual
      operation_found : (t : Entity N) (inner : Bool) → IsOperation v t → IsScoped isolated inner t → In x (operands_of t) → Found t
      operation_found (entity (operation kind results used successors pieces) ts) inner h s i = elim (in_either x used (all_operands_of ts) i) [
        | inl e ↦ inl (in_left x used (in_scope isolated (operation kind results used successors pieces) (all_mentioned isolated ts)) e)
        | inr e ↦ operation_scope kind (names_of results) used ts (regions_found ts (isolated kind) h.3 s.1 e)
      ]
      operation_found (entity a_region ts) inner h s i = absurd h
      operation_found (entity (block named label arguments) ts) inner h s i = absurd h

      regions_found : (ts : Entities N) (inner : Bool) → AreRegions v ts → AreScoped isolated inner ts → In x (all_operands_of ts) → RegionsFound inner ts
      regions_found no_entity inner h s i = in_none x i
      regions_found (an_entity (entity a_region us) ts) inner h s i = elim (in_either x (all_operands_of us) (all_operands_of ts) i) [
        | inl e ↦ region_first inner us ts (region_scope inner us s.0.0 (blocks_found us h.0 s.0.1 e))
        | inr e ↦ region_more inner us ts (regions_found ts inner h.1 s.1 e)
      ]
      regions_found (an_entity (entity (operation kind results used successors pieces) us) ts) inner h s i = absurd h.0
      regions_found (an_entity (entity (block named label arguments) us) ts) inner h s i = absurd h.0

      blocks_found : (ts : Entities N) → AreBlocks v ts → AreScoped isolated false ts → In x (all_operands_of ts) → AllFound ts
      blocks_found no_entity h s i = in_none x i
      blocks_found (an_entity t ts) h s i = elim (in_either x (operands_of t) (all_operands_of ts) i) [
        | inl e ↦ found_first t ts (block_found t h.0 s.0 e)
        | inr e ↦ found_more t ts (blocks_found ts h.1 s.1 e)
      ]

      block_found : (t : Entity N) → IsBlock v t → IsScoped isolated false t → In x (operands_of t) → Found t
      block_found (entity (block named label arguments) ts) h s i = elim (operations_found ts h s.1 i) [
        | inl e ↦ inl e
        | inr e ↦ inr (in_right x (names_of arguments) (all_definitions_of ts) e)
      ]
      block_found (entity a_region ts) h s i = absurd h
      block_found (entity (operation kind results used successors pieces) ts) h s i = absurd h

      operations_found : (ts : Entities N) → AreOperations v ts → AreScoped isolated false ts → In x (all_operands_of ts) → AllFound ts
      operations_found no_entity h s i = in_none x i
      operations_found (an_entity t ts) h s i = elim (in_either x (operands_of t) (all_operands_of ts) i) [
        | inl e ↦ found_first t ts (operation_found t false h.0 s.0 e)
        | inr e ↦ found_more t ts (operations_found ts h.1 s.1 e)
      ]

    -- each operand in a tree whose scopes define what they mention has a definition
    pub operand_defined : (t : Entity N) → IsOperation v t → IsScopedRoot isolated t → In x (operands_of t) → In x (definitions_of t)
    operand_defined t h s i = elim (operation_found t false h s.1 i) [
      | inl e ↦ defined_too t (s.0 e.0 x e.1)
      | inr e ↦ e
    ]

-- ---- numbers of definitions

range_at : (a m i n : ℕ) → slice_get (range_with_len a m) i ≡ Some n → n ≡ a + i
range_at a zero i n h = let wrong : None ≡ Some n = h in cc
range_at a (suc m) zero n h = let same : a ≡ n = cc in omega arith
range_at a (suc m) (suc i) n h = omega (arith, range_at (a + 1) m i n h)

-- each number of a definition is where it is defined, and that of a block where it stands
counted_at : (xs : List ℕ) → xs ≡ range_with_len 0 (length xs) → (i n : ℕ) → slice_get xs i ≡ Some n → n ≡ i
counted_at xs h i n at = omega (arith, range_at 0 (length xs) i n (ap (λ (ys : List ℕ). slice_get ys i) (sym h) ∙ at))

site_at : (ss : List Site) (i k : ℕ) → slice_get (map (λ s. s.token) ss) i ≡ Some k → (s : Site) × (slice_get ss i ≡ Some s) × (s.token ≡ k)
site_at [] i k h = let wrong : None ≡ Some k = h in cc
site_at (s ∷ ss) zero k h = (s, refl, (let same : Some s.token ≡ Some k = h in cc))
site_at (s ∷ ss) (suc i) k h = site_at ss i k h

token_at : (ss : List Site) (i : ℕ) (s : Site) → slice_get ss i ≡ Some s → slice_get (map (λ s. s.token) ss) i ≡ Some s.token
token_at [] i s h = let wrong : None ≡ Some s = h in cc
token_at (x ∷ ss) zero s h = let same : x ≡ s = cc in ap (λ (y : Site). Some y.token) same
token_at (x ∷ ss) (suc i) s h = token_at ss i s h

-- ---- names of blocks

module _ (ls : List Site) (text μ : ℕ → List ℕ) where
  -- the token is spelled as the name of a block, and it is no label but that of this block
  abbrev pub AtBlock : ℕ → ℕ → Type 0
  AtBlock k n = (text k ≡ μ n) × ((j : ℕ) (s : Site) → slice_get ls j ≡ Some s → s.token ≡ k → j ≡ n)

module _ (ls ms : List Site) (text ν μ : ℕ → List ℕ) (tree t : Entity ℕ) where
  abbrev NamesValue : ℕ → ℕ → Type 0
  NamesValue k n = text k ≡ ν n

  abbrev NamesBlock : ℕ → ℕ → Type 0
  NamesBlock k n = text k ≡ μ n

  abbrev IsAt : ℕ → ℕ → Type 0
  IsAt = AtBlock ls text μ

  -- In a text whose tokens are the names of a tree, each label is at its own block.
  pub blocks_apart : unlabelled (renamed text text tree) ≡ unlabelled (renamed ν μ t) → IsNumbered t → blocks_of tree ≡ map (λ s. s.token) ls
      → ((k : ℕ) → In k (successors_of tree) → (m : Site) × In m ms × (m.token ≡ k)) → SitesAreApart ls ms → Alike NamesValue IsAt tree t
  blocks_apart same numbered tokens edges apart = alike_rebuild NamesValue NamesBlock NamesValue IsAt tree t spelled (record {
    defines = alike_definitions NamesValue NamesBlock tree t spelled;
    mentions = alike_operands NamesValue NamesBlock tree t spelled;
    blocks = pairs_along NamesBlock IsAt (blocks_of tree) (blocks_of t) (alike_blocks NamesValue NamesBlock tree t spelled) named;
    goes_on = pairs_along NamesBlock IsAt (successors_of tree) (successors_of t) (alike_successors NamesValue NamesBlock tree t spelled) goes;
  })
    where
      spelled : Alike NamesValue NamesBlock tree t
      spelled = alike_left (λ x n. x ≡ ν n) (λ x n. x ≡ μ n) text text tree t (alike_from ν μ (renamed text text tree) t same)

      named : (i k n : ℕ) → slice_get (blocks_of tree) i ≡ Some k → slice_get (blocks_of t) i ≡ Some n → NamesBlock k n → IsAt k n
      named i k n at there e = (
        e,
        λ j s to is.
            (let own = site_at ls i k (ap (λ (xs : List ℕ). slice_get xs i) (sym tokens) ∙ at) in
            apart.definitions j i s own.0 to own.1 (is ∙ sym own.2) ∙ sym (counted_at (blocks_of t) numbered.blocks i n there)),
      )

      goes : (i k n : ℕ) → slice_get (successors_of tree) i ≡ Some k → slice_get (successors_of t) i ≡ Some n → NamesBlock k n → IsAt k n
      goes i k n at there e = (e, λ j s to is. (let m = edges k (i, at) in absurd (apart.both j m.1.0 s m.0 to m.1.1 (is ∙ sym m.2))))

-- ---- the tree again

module _ (isolated : ℕ → Bool) (v : Values) (names : List ℕ) (ds ms : List Site) (cs : List Closing) (r : Resolution) (text ν μ : ℕ → List ℕ) (tree t : Entity ℕ) where
  -- the number that the name at a token is looked up as
  abbrev number : ℕ → ℕ
  number k = slice_index r.definitions k

  -- the token is spelled as the name of a value
  abbrev Spelled : ℕ → ℕ → Type 0
  Spelled k n = text k ≡ ν n

  -- the token is spelled as the name of a block
  abbrev SpelledBlock : ℕ → ℕ → Type 0
  SpelledBlock k n = text k ≡ μ n

  -- the token has the number of a value or a block
  abbrev Numbered : ℕ → ℕ → Type 0
  Numbered k n = number k ≡ n

  -- A text whose tokens are the names of a tree, each definition at its own name, says the tree again: each name is looked up as the
  -- number that it stands for.
  pub tree_again : unlabelled (renamed text text tree) ≡ unlabelled (renamed ν μ t) → IsOperation v t → IsNumbered t
      → IsScopedRoot isolated t → AllDistinct (definitions_of (renamed text text tree))
      → definitions_of tree ≡ map (λ s. s.token) ds → ((k : ℕ) → In k (operands_of tree) → (m : Site) × In m ms × (m.token ≡ k))
      → Resolves names (these ds ms cs) r.definitions r.count → ((m : Site) → In m ms → (j : ℕ) × Means names ds m j)
      → ((s : Site) → In s ds → s.token < length names) → ((m : Site) → In m ms → m.token < length names)
      → ((s m : Site) → In s ds → In m ms → name_of names s.token ≡ name_of names m.token → text s.token ≡ text m.token)
      → Pairs Numbered (blocks_of tree) (blocks_of t) → Pairs Numbered (successors_of tree) (successors_of t)
      → unlabelled (renamed (slice_index r.definitions) (slice_index r.definitions) tree) ≡ unlabelled t
  tree_again same whole numbered scoped distinct tokens operands resolves meant here within alike blocks edges =
      alike_to number number tree t
      (alike_rebuild Spelled SpelledBlock Numbered Numbered tree t spelled (record { defines = defines; mentions = mentions; blocks = blocks; goes_on = edges }))
    where
      printed : Alike (λ x n. x ≡ ν n) (λ x n. x ≡ μ n) (renamed text text tree) t
      printed = alike_from ν μ (renamed text text tree) t same

      spelled : Alike Spelled SpelledBlock tree t
      spelled = alike_left (λ x n. x ≡ ν n) (λ x n. x ≡ μ n) text text tree t printed

      definitions : Pairs Spelled (definitions_of tree) (definitions_of t)
      definitions = alike_definitions Spelled SpelledBlock tree t spelled

      names_printed : Pairs (λ x n. x ≡ ν n) (definitions_of (renamed text text tree)) (definitions_of t)
      names_printed = alike_definitions (λ x n. x ≡ ν n) (λ x n. x ≡ μ n) (renamed text text tree) t printed

      -- a definition has its number
      defines : Pairs Numbered (definitions_of tree) (definitions_of t)
      defines = pairs_along Spelled Numbered (definitions_of tree) (definitions_of t) definitions go
        where
          go : (i k n : ℕ) → slice_get (definitions_of tree) i ≡ Some k → slice_get (definitions_of t) i ≡ Some n → Spelled k n → Numbered k n
          go i k n at there e =
              let s = site_at ds i k (ap (λ (xs : List ℕ). slice_get xs i) (sym tokens) ∙ at) in
              let found : number s.0.token ≡ i = resolves.defined i s.0 s.1 (here s.0 (i, s.1)) in
              ap number (sym s.2) ∙ found ∙ sym (counted_at (definitions_of t) numbered.values i n there)

      -- the definition at a name is the only one
      one : (j i n : ℕ) (s : Site) → slice_get ds j ≡ Some s → slice_get (definitions_of t) i ≡ Some n → text s.token ≡ ν n → j ≡ i
      one j i n s at there e =
          let first = pairs_first Spelled (definitions_of tree) (definitions_of t) definitions j s.token (ap (λ (xs : List ℕ). slice_get xs j) tokens ∙ token_at ds j s at) in
          let x = pairs_second (λ x n. x ≡ ν n) (definitions_of (renamed text text tree)) (definitions_of t) names_printed j first.0 first.1 in
          let y = pairs_second (λ x n. x ≡ ν n) (definitions_of (renamed text text tree)) (definitions_of t) names_printed i n there in
          let equal : x.0 ≡ y.0 = x.2 ∙ (sym first.2 ∙ (e ∙ sym y.2)) in
          distinct j i y.0 (x.1 ∙ ap (λ (z : List ℕ). Some z) equal) y.1

      -- an operand has the number of its definition
      mentions : Pairs Numbered (operands_of tree) (operands_of t)
      mentions = pairs_along Spelled Numbered (operands_of tree) (operands_of t) (alike_operands Spelled SpelledBlock tree t spelled) go
        where
          go : (i k n : ℕ) → slice_get (operands_of tree) i ≡ Some k → slice_get (operands_of t) i ≡ Some n → Spelled k n → Numbered k n
          go i k n at there e =
              let m = operands k (i, at) in
              let defined = operand_defined isolated n v t whole scoped (i, there) in
              let means = meant m.0 m.1 in
              let s = means.1.0 in
              let spelling : text s.token ≡ ν n = alike s m.0 (means.0, means.1.1) m.1 means.1.2.1 ∙ (ap text m.2 ∙ e) in
              let j : means.0 ≡ defined.0 = one means.0 defined.0 n s means.1.1 defined.1 spelling in
              let found : number m.0.token ≡ means.0 = resolves.mentioned m.1.0 means.0 m.0 m.1.1 means.1 (within m.0 m.1) in
              ap number (sym m.2) ∙ (found ∙ (j ∙ sym (counted_at (definitions_of t) numbered.values defined.0 n defined.1)))

-- ---- the numbers of blocks again

module _ (names : List ℕ) (ls ms : List Site) (cs : List Closing) (r : Resolution) (text ν μ : ℕ → List ℕ) (tree t : Entity ℕ)
    (resolves : Resolves names (these ls ms cs) r.definitions r.labels) (here : (s : Site) → In s ls → s.token < length names) (within : (m : Site) → In m ms → m.token < length names) where
  abbrev Again : ℕ → ℕ → Type 0
  Again k n = slice_index r.definitions k ≡ n

  -- a block has its number
  pub blocks_again : Alike (λ k n. text k ≡ ν n) (AtBlock ls text μ) tree t → blocks_of tree ≡ map (λ s. s.token) ls
      → Pairs Again (blocks_of tree) (blocks_of t)
  blocks_again a tokens = pairs_along (AtBlock ls text μ) Again (blocks_of tree) (blocks_of t) (alike_blocks (λ k n. text k ≡ ν n) (AtBlock ls text μ) tree t a)
      (λ i k n at there e.
      (let s = site_at ls i k (ap (λ (xs : List ℕ). slice_get xs i) (sym tokens) ∙ at) in
      ap (slice_index r.definitions) (sym s.2) ∙ (resolves.defined i s.0 s.1 (here s.0 (i, s.1)) ∙ e.1 i s.0 s.1 s.2)))

  -- and so has each block to which an edge leads
  pub edges_again : ((s m : Site) → In s ls → In m ms → text s.token ≡ text m.token → name_of names s.token ≡ name_of names m.token)
      → Pairs (LinkedToken text (λ k n. text k ≡ ν n) (AtBlock ls text μ) ls ms) (successors_of tree) (successors_of t) → Pairs Again (successors_of tree) (successors_of t)
  edges_again alike p = pairs_along (LinkedToken text (λ k n. text k ≡ ν n) (AtBlock ls text μ) ls ms) Again (successors_of tree) (successors_of t) p
      (λ i k n at there e.
      (let m = e.0 in
      let d = e.3.0 in
      let label = e.3.1 in
      let means = alike d m label e.1 (e.3.3.0 ∙ sym e.3.4.0) in
      let found : slice_index r.definitions m.token ≡ label.0 = resolves.mentioned e.1.0 label.0 m e.1.1 (d, label.1, (e.3.2, means)) (within m e.1) in
      ap (slice_index r.definitions) (sym e.2) ∙ (found ∙ e.3.3.1 label.0 d label.1 refl)))
