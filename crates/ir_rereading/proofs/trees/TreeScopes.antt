-- The scopes of values in a text and in its tree.
use Rattle.std.proofs.Common.{◌≡◌, Bool, false, ℕ, zero, suc, ◌+◌, ◌<◌, List, [], ◌∷◌, ◌++◌, map, length, Some, None, slice_get, slice_index, refl, sym, subst, ap, ◌∙◌, arith, ◌⊎◌, inl, inr}
use Rattle.std.specs.List.{range_with_len}
use Rattle.std.proofs.lemmas.List.{append-nil}
use Rattle.ir_names.specs.Tree.{Trees}
use Rattle.ir_print.specs.Pieces.{Values, Entity, no_entity, an_entity}
use Rattle.ir_grammar.specs.declared.grammar.Event.{Event}
use Rattle.ir_tokens.specs.declared.faults.Fault.{Fault}
use Rattle.ir_scopes.specs.declared.scopes.Resolution.{Resolution}
use Rattle.ir_scopes.specs.declared.sites.Site.{Site}
use Rattle.ir_forest.specs.Closed.{AreIn, AllDistinct, defined_by, mentioned_by, all_defined, all_mentioned, definitions_of, all_definitions_of, IsScoped, AreScoped, IsScopedRoot}
use Rattle.ir_forest.specs.Forest.{ActionSpan, IsForestOf}
use Rattle.ir_forest.specs.Meaning.{operations_in, renamed, all_renamed}
use Rattle.ir_grammar.specs.Nesting.{at_root, at_end}
use Rattle.ir_forest.specs.Progress.{Leads}
use Rattle.ir_scopes.specs.Scopes.{beginning, definitions, mentions, closings, name_of, Means, IsAgain, IsUnresolvedName, IsResolved}
use Rattle.ir_forest.specs.ValueFaults.{HasNamesFault}
use Rattle.ir_rereading.proofs.trees.Closings.{mentions_end}
use Rattle.ir_rereading.proofs.trees.TreeCounts.{forest_counts}
use Rattle.ir_rereading.proofs.trees.TreePlaces.{forest_placed}
use Rattle.ir_rereading.proofs.trees.TreeRenamed.{operands_of, all_operands_of, definitions_renamed, defined_renamed, mentioned_renamed}
use Rattle.ir_rereading.proofs.trees.TreeSites.{In, in_map, of_map, site, Stands, Has}
use Rattle.ir_rereading.proofs.trees.TreeWalks.{root_known}

-- ---- lists of numbers

-- numbers that count from one on
pub counted : (xs : List ℕ) (n : ℕ) → ((j x : ℕ) → slice_get xs j ≡ Some x → x ≡ n + j) → xs ≡ range_with_len n (length xs)
counted [] n h = refl
counted (x ∷ xs) n h =
    let first : x ≡ n = (let e = h 0 x refl in omega arith) in
    let more = counted xs (n + 1) (λ j y at. (let e = h (suc j) y at in omega arith)) in
    ap (λ y. y ∷ xs) first ∙ ap (λ ys. n ∷ ys) more

pub get_map : {X Y : Type 0} (f : X → Y) (xs : List X) (i : ℕ) (y : Y) → slice_get (map f xs) i ≡ Some y
    → (x : X) × (slice_get xs i ≡ Some x) × (f x ≡ y)
get_map f [] i y h = let wrong : None ≡ Some y = h in cc
get_map f (x ∷ xs) zero y h = (x, refl, (let same : Some (f x) ≡ Some y = h in cc))
get_map f (x ∷ xs) (suc i) y h = get_map f xs i y h

map_get : {X Y : Type 0} (f : X → Y) (xs : List X) (i : ℕ) (x : X) → slice_get xs i ≡ Some x → slice_get (map f xs) i ≡ Some (f x)
map_get f [] i x h = let wrong : None ≡ Some x = h in cc
map_get f (z ∷ xs) zero x h = let same : Some z ≡ Some x = h in let is : z ≡ x = cc in ap (λ w. Some (f w)) is
map_get f (z ∷ xs) (suc i) x h = map_get f xs i x h

-- ---- a text and its tree

-- the token names a value
abbrev pub NamesValue : (ℕ → Bool) → List Event → ℕ → Type 0
NamesValue isolated es k = (s : Site) × (In s (definitions isolated es) ⊎ In s (mentions isolated es)) × (s.token ≡ k)

-- each value that is mentioned is defined in its scope, by a token that has the same name
abbrev pub AllMeant : {N : Type 0} → (ℕ → Bool) → List Event → (ℕ → N) → Type 0
AllMeant isolated es g = (m : Site) → In m (mentions isolated es) → (d : Site) × In d (definitions isolated es) × (d.scope ≡ m.scope) × (g d.token ≡ g m.token)

module _ (isolated : ℕ → Bool) (values : Values) (text : ℕ → List ℕ) (es : List Event) (forest : Trees ActionSpan) (tree : Entity ℕ) (read : IsForestOf es forest)
    (says : operations_in values text [] forest ≡ an_entity tree no_entity) (leads : Leads at_root [] es at_end []) (named : (f : Fault) → HasNamesFault values text es f → ⊥) where
  module _ {N : Type 0} (g : ℕ → N) where
    -- what the text has of names, by its tree
    known : Has isolated g beginning es (definitions_of tree ++ []) (defined_by isolated tree ++ []) (mentioned_by isolated tree ++ []) (operands_of tree ++ []) (IsScoped isolated false (renamed g g tree) × Unit {0})
    known =
        subst (λ ts. Has isolated g beginning es (all_definitions_of ts) (all_defined isolated ts) (all_mentioned isolated ts) (all_operands_of ts) (AreScoped isolated false (all_renamed g g ts))) says
        (root_known isolated values text g forest read.0 (forest_placed es forest read leads) (forest_counts values text es named forest read) beginning es (omega arith) read.1)

    defined_here : (k : ℕ) → In k (defined_by isolated tree) → In (site isolated 0 k) (definitions isolated es)
    defined_here k i = known.defines k (subst (In k) (sym (append-nil (defined_by isolated tree))) i)

    is_defined : (s : Site) → In s (definitions isolated es) → s.scope ≡ 0 → In s.token (defined_by isolated tree)
    is_defined s i e = subst (In s.token) (append-nil (defined_by isolated tree)) (known.defines_back s i e)

    mentioned_here : (k : ℕ) → In k (mentioned_by isolated tree) → In (site isolated 0 k) (mentions isolated es)
    mentioned_here k i = known.mentions k (subst (In k) (sym (append-nil (mentioned_by isolated tree))) i)

    is_mentioned : (s : Site) → In s (mentions isolated es) → s.scope ≡ 0 → In s.token (mentioned_by isolated tree)
    is_mentioned s i e = subst (In s.token) (append-nil (mentioned_by isolated tree)) (known.mentions_back s i e)

    root_scope : AllMeant isolated es g → AreIn (map g (mentioned_by isolated tree)) (map g (defined_by isolated tree))
    root_scope h i y at =
        let k = of_map g y (mentioned_by isolated tree) (i, at) in
        let d = h (site isolated 0 k.0) (mentioned_here k.0 k.1) in
        subst (λ z. In z (map g (defined_by isolated tree))) (d.3 ∙ k.2) (in_map g d.0.token (defined_by isolated tree) (is_defined d.0 d.1 d.2))

    root_meant : AreIn (map g (mentioned_by isolated tree)) (map g (defined_by isolated tree)) → (m : Site) → In m (mentions isolated es) → m.scope ≡ 0
        → (d : Site) × In d (definitions isolated es) × (d.scope ≡ m.scope) × (g d.token ≡ g m.token)
    root_meant h m i e =
        let used = in_map g m.token (mentioned_by isolated tree) (is_mentioned m i e) in
        let found = h used.0 (g m.token) used.1 in
        let k = of_map g (g m.token) (defined_by isolated tree) found in
        (site isolated 0 k.0, defined_here k.0 k.1, sym e, k.2)

    -- Where each mention means a definition, the renamed tree is scoped.
    pub meant_scoped : AllMeant isolated es g → IsScopedRoot isolated (renamed g g tree)
    meant_scoped h = (
      subst (λ xs. AreIn xs (defined_by isolated (renamed g g tree))) (sym (mentioned_renamed g g isolated tree))
          (subst (λ ys. AreIn (map g (mentioned_by isolated tree)) ys) (sym (defined_renamed g g isolated tree)) (root_scope h)),
      (known.down (λ m i off. h m i)).0,
    )

    -- Where the renamed tree is scoped, each mention means a definition.
    pub scoped_meant : IsScopedRoot isolated (renamed g g tree) → AllMeant isolated es g
    scoped_meant h m i = go (known.mentions_stand m i)
      where
        root : AreIn (map g (mentioned_by isolated tree)) (map g (defined_by isolated tree))
        root = subst (λ xs. AreIn xs (map g (defined_by isolated tree))) (mentioned_renamed g g isolated tree)
            (subst (λ ys. AreIn (mentioned_by isolated (renamed g g tree)) ys) (defined_renamed g g isolated tree) h.0)

        go : Stands isolated beginning es m → (d : Site) × In d (definitions isolated es) × (d.scope ≡ m.scope) × (g d.token ≡ g m.token)
        go (inl e) = root_meant root m i e
        go (inr r) = known.up (h.1, tt) m i (λ e. (let wrong : m.scope ≡ 0 = e in let low : 0 < m.scope = r.0 in omega arith))

  -- The tokens of the definitions in the tree are those of the text, in the same order.
  pub definition_tokens : definitions_of tree ≡ map (λ s. s.token) (definitions isolated es)
  definition_tokens = sym (append-nil (definitions_of tree)) ∙ sym (known (λ k. k)).tokens

  -- Each token among the operands of the tree is that of a mention.
  pub mention_tokens : (k : ℕ) → In k (operands_of tree) → (m : Site) × In m (mentions isolated es) × (m.token ≡ k)
  mention_tokens k i = (known (λ n. n)).says k (subst (In k) (sym (append-nil (operands_of tree))) i)

  -- ---- from a text to its tree

  module _ (names : List ℕ) (r : Resolution) (resolved : IsResolved isolated names es r)
      (within : (s : Site) → In s (definitions isolated es) → s.token < length names) (within_too : (m : Site) → In m (mentions isolated es) → m.token < length names) where
    numbers_meant : AllMeant isolated es (slice_index r.definitions)
    numbers_meant m i =
        let c = mentions_end isolated es leads i.0 m i.1 in
        let j = resolved.values.resolved i.0 c.0 m c.1 i.1 c.2 c.3 in
        let d = j.1.0 in (
          d,
          (j.0, j.1.1),
          j.1.2.0,
          resolved.values.defined j.0 d j.1.1 (within d (j.0, j.1.1)) ∙ sym (resolved.values.mentioned i.0 j.0 m i.1 j.1 (within_too m i)),
        )

    -- Where the names of a text are looked up, its tree is scoped.
    pub numbers_scoped : IsScopedRoot isolated (renamed (slice_index r.definitions) (slice_index r.definitions) tree)
    numbers_scoped = meant_scoped (slice_index r.definitions) numbers_meant

    -- Its definitions have the numbers from 0 on.
    pub numbers_counted : definitions_of (renamed (slice_index r.definitions) (slice_index r.definitions) tree)
        ≡ range_with_len 0 (length (definitions_of (renamed (slice_index r.definitions) (slice_index r.definitions) tree)))
    numbers_counted =
        counted (definitions_of (renamed (slice_index r.definitions) (slice_index r.definitions) tree)) 0 (λ j x at.
        (let found = get_map (slice_index r.definitions) (definitions_of tree) j x (subst (λ xs. slice_get xs j ≡ Some x) (definitions_renamed (slice_index r.definitions) (slice_index r.definitions) tree) at) in
        let s = get_map (λ (s : Site). s.token) (definitions isolated es) j found.0 (subst (λ xs. slice_get xs j ≡ Some found.0) definition_tokens found.1) in
        let is : slice_index r.definitions s.0.token ≡ j = resolved.values.defined j s.0 s.1 (within s.0 (j, s.1)) in
        let same : slice_index r.definitions s.0.token ≡ x = ap (slice_index r.definitions) s.2 ∙ found.2 in
        omega arith))

  -- ---- from a tree to its text

  module _ (names : List ℕ) (distinct : AllDistinct (definitions_of (renamed text text tree))) (scoped : IsScopedRoot isolated (renamed text text tree))
      (spelled : (j k : ℕ) → NamesValue isolated es j → NamesValue isolated es k → name_of names j ≡ name_of names k → text j ≡ text k)
      (numbered : (j k : ℕ) → NamesValue isolated es j → NamesValue isolated es k → text j ≡ text k → name_of names j ≡ name_of names k) where
    -- each mention means a definition
    pub mention_means : (i : ℕ) (m : Site) → slice_get (mentions isolated es) i ≡ Some m → (j : ℕ) × Means names (definitions isolated es) m j
    mention_means i m at =
        let d = scoped_meant text scoped m (i, at) in
        (d.1.0, (d.0, d.1.1, (d.2, numbered d.0.token m.token (d.0, inl d.1, refl) (m, inr (i, at), refl) d.3)))

    definition_text : (i : ℕ) (s : Site) → slice_get (definitions isolated es) i ≡ Some s
        → slice_get (definitions_of (renamed text text tree)) i ≡ Some (text s.token)
    definition_text i s at =
        subst (λ xs. slice_get xs i ≡ Some (text s.token)) (sym (definitions_renamed text text tree))
        (map_get text (definitions_of tree) i s.token
        (subst (λ xs. slice_get xs i ≡ Some s.token) (sym definition_tokens) (map_get (λ (s : Site). s.token) (definitions isolated es) i s at)))

    -- no name is defined twice
    pub none_again : (f : Fault) → IsAgain names (definitions isolated es) f → ⊥
    none_again f (i, j, s, lt, at, earlier, is) =
        let t = earlier.0 in
        let same : text t.token ≡ text s.token = spelled t.token s.token (t, inl (i, earlier.1), refl) (s, inl (j, at), refl) earlier.2.1 in
        let first : slice_get (definitions_of (renamed text text tree)) i ≡ Some (text s.token) = definition_text i t earlier.1 ∙ ap (λ z. Some z) same in
        let one : i ≡ j = distinct i j (text s.token) first (definition_text j s at) in
        omega arith

    -- no name lacks its definition
    pub none_lacking : (f : Fault) → IsUnresolvedName names (definitions isolated es) (mentions isolated es) (closings isolated es) f → ⊥
    none_lacking f h = let lacks = h.3 in let means = mention_means lacks.0 lacks.1 lacks.2 in lacks.4 means.0 means.1
