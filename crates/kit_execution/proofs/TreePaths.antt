-- A path leads to the same function in a context and in the tree of its module, by texts and by their numbers.
use Rattle.std.proofs.Common.{◌≡◌, ℕ, Bool, true, false, ◌&&◌, List, [], ◌∷◌, ◌++◌, map, Option, Some, None, option_map}
use Rattle.std.proofs.Common.{option_and_then, unwrap_or, slice_get, nat_eq, refl, sym, ap, ◌∙◌, subst, if◌then◌else◌}
use Rattle.std.specs.Bool.{Decides, one_answer}
use Rattle.std.specs.Str.{bytes_eq}
use Rattle.std.proofs.Math.Path.{fun_ext}
use Rattle.std.proofs.lemmas.Bool.{and_parts, false≢true}
use Rattle.std.proofs.lemmas.Bool.Decides.{Decides-eqb}
use Rattle.std.proofs.lemmas.Slice.Eq.{bytes_eq-Decides}
use Rattle.ir_names.specs.Identifier.{text_of}
use Rattle.ir_context.specs.Kept.{kind_at}
use Rattle.ir_program.specs.Program.{RegionView, BlockView}
use Rattle.ir_program.specs.Lists.{operations_in, blocks_in}
use Rattle.ir_program.specs.declared.handles.Ptr.{Ptr}
use Rattle.ir_program.specs.declared.handles.Operation.{Operation}
use Rattle.ir_program.specs.declared.handles.Region.{Region}
use Rattle.ir_program.specs.declared.handles.BasicBlock.{BasicBlock}
use Rattle.ir_trees.specs.Stands.{AreTree, StandsFor, head_of}
use Rattle.ir_trees.specs.Trees.{Operations, Blocks, Regions}
use Rattle.kit.specs.Context.{KitProgram, KitTree}
use Rattle.kit_ops.specs.Keys.{symbol_name}
use Rattle.kit_ops.specs.declared.attributes.KitAttr.{KitAttr}
use Rattle.kit_ops.specs.declared.attributes.KitAttr.TheVariants as attrs
use Rattle.kit_ops.specs.declared.kinds.KitOp.{KitOp}
use Rattle.kit_ops.specs.declared.kinds.KitOp.TheVariants as ops
use Rattle.kit.specs.Meaning as meaning
use Rattle.kit.specs.Meaning.{KitOperation, KitBlock}
use Rattle.kit_checks.specs.Sites.{Listed}
use Rattle.kit_checks.proofs.Down.{regions_are}
use Rattle.kit_execution.proofs.Bodies.{KitBlocks}
use Rattle.kit_execution.proofs.First.{first_passes}
use Rattle.kit_execution.proofs.Words.{kind_is, attribute_is}
use Rattle.kit_places.specs.Store as store
use Rattle.kit_places.specs.Store.{attribute_of, members, function_named}
use Rattle.kit_places.specs.Store.{module_named}
use Rattle.kit_places.specs.declared.places.Place.{Place}
use Rattle.kit_ruled_views.specs.Paths as tree
use Rattle.kit_execution.specs.Numberings.{NumbersTextsApart}

-- ---- names

module _ (numbered : List ℕ → ℕ) (apart : NumbersTextsApart numbered) where
  -- the attribute is a name exactly where it has the name's number
  same_name : (text : List ℕ) (o : Option KitAttr) → tree.is_name numbered (numbered text) o ≡ store.is_name text o
  same_name text (Some (attrs.Identifier name)) =
      let numbers : Decides (nat_eq (numbered text) (numbered (text_of name))) (text ≡ text_of name) =
      let d = Decides-eqb (numbered text) (numbered (text_of name)) in
      (λ h. apart text (text_of name) (d.0 h), λ h. d.1 (ap numbered h)) in
      one_answer (nat_eq (numbered text) (numbered (text_of name))) (bytes_eq text (text_of name)) numbers
      (bytes_eq-Decides text (text_of name))
  same_name text _ = refl

-- an attribute that is a name with a number
has_text : (numbered : List ℕ → ℕ) (n : ℕ) (o : Option KitAttr) → tree.is_name numbered n o ≡ true →
    (text : List ℕ) × (n ≡ numbered text)
has_text numbered n (Some (attrs.Identifier name)) h =
    (text_of name, (Decides-eqb n (numbered (text_of name))).0 h)
has_text numbered n _ h = absurd (false≢true h)

same_function : (k : KitOp) → store.is_function (Some k) ≡ meaning.is_function k
same_function ops.Func = refl
same_function _ = refl

same_module : (k : KitOp) → store.is_module (Some k) ≡ meaning.is_module k
same_module ops.Module = refl
same_module _ = refl

module _ (c : KitProgram) where
  -- the function with a number among the operations of a module
  abbrev pub is_numbered : (List ℕ → ℕ) → ℕ → Ptr Operation → Bool
  is_numbered numbered n p = store.is_function (kind_at c p) && tree.is_name numbered n (attribute_of c p symbol_name)

  abbrev is_module_numbered : (List ℕ → ℕ) → ℕ → Ptr Operation → Bool
  is_module_numbered numbered n p =
      store.is_module (kind_at c p) && tree.is_name numbered n (attribute_of c p symbol_name)

  abbrev pub function_numbered : (List ℕ → ℕ) → Ptr Operation → ℕ → Option (Ptr Operation)
  function_numbered numbered m n = store.first_with (is_numbered numbered n) (members c m)

  -- it is the one with the text
  pub numbered_is : (numbered : List ℕ → ℕ) → NumbersTextsApart numbered → (m : Ptr Operation) (text : List ℕ) →
      function_numbered numbered m (numbered text) ≡ function_named c m text
  numbered_is numbered apart m text =
      ap (λ (test : Ptr Operation → Bool). store.first_with test (members c m))
      (fun_ext (λ p. ap (λ b. store.is_function (kind_at c p) && b)
      (same_name numbered apart text (attribute_of c p symbol_name))))

  modules_numbered : (numbered : List ℕ → ℕ) → NumbersTextsApart numbered → (m : Ptr Operation) (text : List ℕ) →
      store.first_with (is_module_numbered numbered (numbered text)) (members c m) ≡ module_named c m text
  modules_numbered numbered apart m text =
      ap (λ (test : Ptr Operation → Bool). store.first_with test (members c m))
      (fun_ext (λ p. ap (λ b. store.is_module (kind_at c p) && b)
      (same_name numbered apart text (attribute_of c p symbol_name))))

  -- a number that a function has is that of a text
  pub text_back : (numbered : List ℕ → ℕ) (m : Ptr Operation) (n : ℕ) (f : Ptr Operation) →
      function_numbered numbered m n ≡ Some f → (text : List ℕ) × (n ≡ numbered text)
  text_back numbered m n f is = has_text numbered n (attribute_of c f symbol_name)
      (and_parts (store.is_function (kind_at c f)) (tree.is_name numbered n (attribute_of c f symbol_name))
      (first_passes (is_numbered numbered n) (members c m) f is)).1

  -- ---- members

  -- none in both, or one, which the tree stands for
  abbrev pub Agree : Option (Ptr Operation) → Option KitTree → Type 0
  Agree None None = Unit {0}
  Agree None (Some u) = ⊥
  Agree (Some p) None = ⊥
  Agree (Some p) (Some u) = StandsFor c p u

  module _ (test : Ptr Operation → Bool) (tested : KitOperation → Bool)
      (alike : (p : Ptr Operation) (u : KitTree) → StandsFor c p u → test p ≡ tested u.head.content) where
    first_both : (ps : List (Ptr Operation)) (os : Listed KitOperation KitBlock Operations) →
        AreTree c Operations ps os → Agree (store.first_with test ps) (tree.first_with tested os)
    first_both _ _ AreTree.no_operations = tt
    first_both _ _ (AreTree.first_operation p ps v rs rest there inside behind) =
        by_test (test p) (tested v.payload) (alike p own stands) (first_both ps rest behind)
      where
        own : KitTree
        own = record { head = head_of p v; regions = rs }

        stands : StandsFor c p own
        stands = record { view = v; there = there; head = refl; regions = inside }

        by_test : (a b : Bool) → a ≡ b → Agree (store.first_with test ps) (tree.first_with tested rest) →
            Agree (if a then Some p else store.first_with test ps) (if b then Some own else tree.first_with tested rest)
        by_test true true e ih = stands
        by_test false false e ih = ih
        by_test true false e ih = absurd (cc e)
        by_test false true e ih = absurd (cc e)

  first_of : (bs : List (Ptr BasicBlock)) (blocks : KitBlocks) → AreTree c Blocks bs blocks →
      AreTree c Operations (unwrap_or (option_map (operations_in c) (slice_get bs 0)) []) (tree.operations_first blocks)
  first_of _ _ AreTree.no_blocks = AreTree.no_operations
  first_of _ _ (AreTree.first_block b bs v os rest there inside behind) =
      subst (λ ps. AreTree c Operations ps os)
      (sym (ap (λ o. unwrap_or (option_map (λ (w : BlockView KitBlock). w.operations) o) []) there)) inside

  members_of : (rs : List (Ptr Region)) (regions : Listed KitOperation KitBlock Regions) → AreTree c Regions rs regions →
      AreTree c Operations (unwrap_or (option_map (operations_in c)
      (slice_get (unwrap_or (option_map (blocks_in c) (slice_get rs 0)) []) 0)) []) (tree.members_in regions)
  members_of _ _ AreTree.no_regions = AreTree.no_operations
  members_of _ _ (AreTree.first_region r rs v blocks rest there inside behind) =
      first_of (blocks_in c r) blocks (subst (λ bs. AreTree c Blocks bs blocks)
      (sym (ap (λ o. unwrap_or (option_map (λ (w : RegionView). w.blocks) o) []) there)) inside)

  -- the members of a module, in its tree
  members_are : (m : Ptr Operation) (u : KitTree) → StandsFor c m u →
      AreTree c Operations (members c m) (tree.members_in u.regions)
  members_are m u stands =
      subst (λ (rs : List (Ptr Region)). AreTree c Operations (unwrap_or (option_map (operations_in c)
      (slice_get (unwrap_or (option_map (blocks_in c) (slice_get rs 0)) []) 0)) []) (tree.members_in u.regions))
      (regions_are c m u stands) (members_of stands.view.regions u.regions stands.regions)

  module _ (numbered : List ℕ → ℕ) (m : Ptr Operation) (u : KitTree) (stands : StandsFor c m u) (n : ℕ) where
    pub functions_agree : Agree (function_numbered numbered m n)
        (tree.first_with (tree.is_function_named numbered n) (tree.members_in u.regions))
    functions_agree = first_both (is_numbered numbered n) (tree.is_function_named numbered n)
        (λ p w s. λ i. (ap store.is_function (kind_is c p w s) ∙ same_function w.head.content.kind) i
        && tree.is_name numbered n (attribute_is c p w s symbol_name i))
        (members c m) (tree.members_in u.regions) (members_are m u stands)

    modules_agree : Agree (store.first_with (is_module_numbered numbered n) (members c m))
        (tree.first_with (tree.is_module_named numbered n) (tree.members_in u.regions))
    modules_agree = first_both (is_module_numbered numbered n) (tree.is_module_named numbered n)
        (λ p w s. λ i. (ap store.is_module (kind_is c p w s) ∙ same_module w.head.content.kind) i
        && tree.is_name numbered n (attribute_is c p w s symbol_name i))
        (members c m) (tree.members_in u.regions) (members_are m u stands)

  -- ---- paths

  module _ (numbered : List ℕ → ℕ) (apart : NumbersTextsApart numbered) where
    -- a path leads to a function of a module
    pub record IsLed (t : KitTree) (path : List (List ℕ)) (place : Place) (u : KitTree) : Type 0 where
      pub module_tree : KitTree
      pub module_stands : StandsFor c place.within module_tree
      pub stands : StandsFor c place.function u
      pub before : List ℕ
      pub text : List ℕ
      pub path_is : map numbered path ≡ before ++ numbered text ∷ []
      pub named : function_numbered numbered place.within (numbered text) ≡ Some place.function
      pub leads : (n : ℕ) → tree.locate numbered (before ++ n ∷ []) t
          ≡ tree.first_with (tree.is_function_named numbered n) (tree.members_in module_tree.regions)

    abbrev pub PathsAgree : KitTree → List (List ℕ) → Option Place → Option KitTree → Type 0
    PathsAgree t path None None = Unit {0}
    PathsAgree t path None (Some u) = ⊥
    PathsAgree t path (Some place) None = ⊥
    PathsAgree t path (Some place) (Some u) = IsLed t path place u

    locate_more : (t : KitTree) (x : ℕ) (before : List ℕ) (n : ℕ) →
        tree.locate numbered (x ∷ (before ++ n ∷ [])) t ≡ option_and_then (tree.locate numbered (before ++ n ∷ []))
        (tree.first_with (tree.is_module_named numbered x) (tree.members_in t.regions))
    locate_more t x [] n = refl
    locate_more t x (y ∷ before) n = refl

    last_one : (m : Ptr Operation) (t : KitTree) → StandsFor c m t → (x : List ℕ) (o : Option (Ptr Operation)) →
        function_numbered numbered m (numbered x) ≡ o → (w : Option KitTree) → Agree o w →
        PathsAgree t (x ∷ []) (option_map (λ f. record { within = m; function = f }) o) w
    last_one m t stands x None is None agree = tt
    last_one m t stands x None is (Some u) agree = absurd agree
    last_one m t stands x (Some f) is None agree = absurd agree
    last_one m t stands x (Some f) is (Some u) agree = record {
      module_tree = t;
      module_stands = stands;
      stands = agree;
      before = [];
      text = x;
      path_is = refl;
      named = is;
      leads = λ n. refl;
    }

    one_more : (t w : KitTree) (x : List ℕ) (path : List (List ℕ)) →
        tree.first_with (tree.is_module_named numbered (numbered x)) (tree.members_in t.regions) ≡ Some w →
        (o : Option Place) (v : Option KitTree) → PathsAgree w path o v → PathsAgree t (x ∷ path) o v
    one_more t w x path is None None agree = tt
    one_more t w x path is None (Some u) agree = absurd agree
    one_more t w x path is (Some place) None agree = absurd agree
    one_more t w x path is (Some place) (Some u) agree = record {
      module_tree = agree.module_tree;
      module_stands = agree.module_stands;
      stands = agree.stands;
      before = numbered x ∷ agree.before;
      text = agree.text;
      path_is = ap (λ l. numbered x ∷ l) agree.path_is;
      named = agree.named;
      leads = λ n. locate_more t (numbered x) agree.before n
          ∙ ap (option_and_then (tree.locate numbered (agree.before ++ n ∷ []))) is ∙ agree.leads n;
    }

    pub paths_agree : (m : Ptr Operation) (t : KitTree) → StandsFor c m t → (path : List (List ℕ)) →
        PathsAgree t path (store.locate c m path) (tree.locate numbered (map numbered path) t)
    paths_agree m t stands [] = tt
    paths_agree m t stands (x ∷ []) =
        subst (λ o. PathsAgree t (x ∷ []) (option_map (λ f. record { within = m; function = f }) o)
        (tree.first_with (tree.is_function_named numbered (numbered x)) (tree.members_in t.regions)))
        (numbered_is numbered apart m x)
        (last_one m t stands x (function_numbered numbered m (numbered x)) refl
        (tree.first_with (tree.is_function_named numbered (numbered x)) (tree.members_in t.regions))
        (functions_agree numbered m t stands (numbered x)))
    paths_agree m t stands (x ∷ y ∷ path) =
        by_module (module_named c m x)
        (tree.first_with (tree.is_module_named numbered (numbered x)) (tree.members_in t.regions)) refl
        (subst (λ o. Agree o (tree.first_with (tree.is_module_named numbered (numbered x)) (tree.members_in t.regions)))
        (modules_numbered numbered apart m x) (modules_agree numbered m t stands (numbered x)))
        (λ k w s. paths_agree k w s (y ∷ path))
      where
        by_module : (o : Option (Ptr Operation)) (w : Option KitTree) →
            tree.first_with (tree.is_module_named numbered (numbered x)) (tree.members_in t.regions) ≡ w → Agree o w →
            ((k : Ptr Operation) (w : KitTree) → StandsFor c k w →
            PathsAgree w (y ∷ path) (store.locate c k (y ∷ path)) (tree.locate numbered (map numbered (y ∷ path)) w)) →
            PathsAgree t (x ∷ y ∷ path) (option_and_then (λ k. store.locate c k (y ∷ path)) o)
            (option_and_then (tree.locate numbered (map numbered (y ∷ path))) w)
        by_module None None is agree ih = tt
        by_module None (Some w) is agree ih = absurd agree
        by_module (Some k) None is agree ih = absurd agree
        by_module (Some k) (Some w) is agree ih =
            one_more t w x (y ∷ path) is (store.locate c k (y ∷ path))
            (tree.locate numbered (map numbered (y ∷ path)) w) (ih k w agree)
