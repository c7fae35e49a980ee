-- The runs of a function of a module that keeps the rules are those of the module's program.
use Rattle.std.proofs.Common.{◌≡◌, ℕ, List, [], ◌∷◌, ◌++◌, map, Option, Some, None, IsSome, refl, sym, ap}
use Rattle.std.proofs.Common.{◌∙◌, subst}
use Rattle.std.specs.Prelude.{reverse}
use Rattle.std.proofs.Math.Path.{fun_ext}
use Rattle.std.proofs.lemmas.List.{reverse-reverse, reverse-append}
use Rattle.ir_names.specs.Identifier.{text_of}
use Rattle.ir_names.specs.declared.identifier.Identifier.{Identifier}
use Rattle.ir_types.specs.Interned.{key_at}
use Rattle.ir_program.specs.Program.{type_at}
use Rattle.ir_program.specs.Replacing.{same_value}
use Rattle.ir_program.specs.declared.handles.Ptr.{Ptr}
use Rattle.ir_program.specs.declared.handles.Operation.{Operation}
use Rattle.ir_program.specs.declared.handles.Value.{Value}
use Rattle.ir_trees.specs.Stands.{by_handle, StandsFor}
use Rattle.kit.specs.Context.{KitContext, KitTree}
use Rattle.opt_trees.specs.Occurrences.{at_root}
use Rattle.kit_behaviour.specs.Machine as flat
use Rattle.kit_behaviour.specs.Machine.{Fun, FunctionsByPath, Alike}
use Rattle.kit_behaviour.specs.Numbering.{place_fun, placed, NamesAreDefined}
use Rattle.kit_behaviour.specs.Places.{Place, same_place}
use Rattle.kit_behaviour.proofs.Numbering.NumberingBehaviour.{placed_alike}
use Rattle.kit_execution.proofs.Paths.{can_run, path_moves}
use Rattle.kit_flat.specs.Machine as machine
use Rattle.kit_interpreter.specs.Lowering.{CanRun}
use Rattle.kit_places.specs.Placed.{place_of}
use Rattle.kit_places.specs.Store.{module_code, function_named}
use Rattle.kit_places.specs.declared.places.Place as context
use Rattle.kit_ruled_views.specs.Paths as tree
use Rattle.kit_ruled_views.specs.Programs.{HasFunctionView}
use Rattle.kit_ruled_views.specs.Sound.{IsSound}
use Rattle.kit_ruled_views.proofs.programs.FlatDefined.{flat_defined}
use Rattle.kit_ruled_views.proofs.programs.Located.{located}
use Rattle.kit_ruled_views.proofs.programs.RuledSound.{ruled_sound}
use Rattle.kit_ruled_views.specs.Ruled.{type_or_first}
use Rattle.kit_ruled_views.proofs.HandleSameness.{values_apart}
use Rattle.kit_views.specs.Reading.{kit_reading}
use Rattle.kit_views.specs.Typed.{IsTyped}
use Rattle.kit_execution.specs.Laws.{IsProgramIn, ExistTogether, program_path}
use Rattle.kit_execution.specs.Outcomes.{SameOutcome}
use Rattle.kit_execution.proofs.FlatBlocks.{function_seen}
use Rattle.kit_execution.proofs.Lockstep.{IsSeenAs, runs_alike}
use Rattle.kit_execution.proofs.Outcomes.{outcomes_same, outcome_on}
use Rattle.kit_execution.proofs.TreePaths.{function_numbered, numbered_is, text_back, Agree, functions_agree, IsLed}
use Rattle.kit_execution.proofs.TreePaths.{PathsAgree, paths_agree}

mapped_twice : {X Y Z : Type 0} (f : Y → Z) (g : X → Y) (xs : List X) → map f (map g xs) ≡ map (λ x. f (g x)) xs
mapped_twice f g [] = refl
mapped_twice f g (x ∷ xs) = ap (λ l. f (g x) ∷ l) (mapped_twice f g xs)

module _ (s : KitContext) (root : Ptr Operation) (t : KitTree) (numbered : List ℕ → ℕ) (p : FunctionsByPath Place)
    (given : IsProgramIn s root t numbered p) where
  -- ---- the program under the names of values

  abbrev IsFlatOf : Option KitTree → Option (Fun Place) → Type 0
  IsFlatOf = HasFunctionView {N = by_handle} same_value (key_at s.types) numbered

  abbrev flat_of : (o : Option KitTree) (g : Option (Fun Place)) → IsFlatOf o g → Option (Fun Value)
  flat_of None g is = None
  flat_of (Some u) g is = Some is.0

  abbrev pub handled : FunctionsByPath Value
  handled path = flat_of (tree.locate numbered (reverse path) t) (p path) (given.is path)

  flat_placed : (o : Option KitTree) (g : Option (Fun Place)) (is : IsFlatOf o g) →
      g ≡ place_fun same_value (flat_of o g is)
  flat_placed None g is = is
  flat_placed (Some u) g is = is.2

  placed_is : p ≡ placed same_value handled
  placed_is = fun_ext (λ path. flat_placed (tree.locate numbered (reverse path) t) (p path) (given.is path))

  sound : IsSound {N = by_handle} (key_at s.types) numbered (type_or_first (type_at s.program)) t
  sound = ruled_sound (key_at s.types) (type_at s.program) t (given.obeys t given.stands) numbered given.names
      given.types

  -- what a path leads to is typed
  pub function_typed : (path : List ℕ) (u : KitTree) → tree.locate numbered path t ≡ Some u →
      IsTyped (key_at s.types) {N = by_handle} (type_or_first (type_at s.program)) u
  function_typed path u e =
      let l = located numbered path t (at_root t) u e in
      subst (IsTyped (key_at s.types) {N = by_handle} (type_or_first (type_at s.program))) l.is
      (sound.functions l.it l.stands l.kind).is_typed

  flat_names : (path : List ℕ) (o : Option KitTree) → tree.locate numbered path t ≡ o → (g : Option (Fun Place))
      (is : IsFlatOf o g) → NamesAreDefined same_value (flat_of o g is)
  flat_names path None e g is = record { ops = λ b. tt; arguments = λ b. tt }
  flat_names path (Some u) e g is =
      let typed = function_typed path u e in
      flat_defined (kit_reading (key_at s.types) numbered) same_value
      (record { true_same = values_apart.true_same; same_true = values_apart.same_true }) u is.0 is.1
      (λ o x stands has. typed.operands o x stands has)

  alike : Alike same_value same_place 1 handled p
  alike = subst (Alike same_value same_place 1 handled) (sym placed_is)
      (placed_alike same_value (record { true_same = values_apart.true_same; same_true = values_apart.same_true })
      handled (λ path. flat_names (reverse path) (tree.locate numbered (reverse path) t) refl (p path)
      (given.is path)))

  -- ---- paths

  texts_are : (path : List Identifier) → map numbered (map text_of path) ≡ map (λ x. numbered (text_of x)) path
  texts_are path = mapped_twice numbered text_of path

  path_back : (path : List Identifier) →
      reverse (program_path numbered path) ≡ map (λ x. numbered (text_of x)) path
  path_back path = reverse-reverse (map (λ x. numbered (text_of x)) path)

  pub agreed : (path : List Identifier) → PathsAgree s.program numbered given.numbering t (map text_of path)
      (place_of s root path) (tree.locate numbered (reverse (program_path numbered path)) t)
  agreed path =
      subst (λ l. PathsAgree s.program numbered given.numbering t (map text_of path) (place_of s root path)
      (tree.locate numbered l t)) (texts_are path ∙ sym (path_back path))
      (paths_agree s.program numbered given.numbering root t given.stands (map text_of path))

  meets : (path : List (List ℕ)) (x : Option context.Place) (o : Option KitTree) (g : Option (Fun Place)) →
      IsFlatOf o g → PathsAgree s.program numbered given.numbering t path x o → ExistTogether x g
  meets path None None g is agree = is
  meets path None (Some u) g is agree = absurd agree
  meets path (Some place) None g is agree = absurd agree
  meets path (Some place) (Some u) g is agree = subst IsSome (sym is.2) refl

  pub path_meets : (path : List Identifier) → ExistTogether (place_of s root path) (p (program_path numbered path))
  path_meets path = meets (map text_of path) (place_of s root path)
      (tree.locate numbered (reverse (program_path numbered path)) t) (p (program_path numbered path))
      (given.is (program_path numbered path)) (agreed path)

  pub led : (path : List (List ℕ)) (x : Option context.Place) (o : Option KitTree) →
      PathsAgree s.program numbered given.numbering t path x o → (place : context.Place) → x ≡ Some place →
      (u : KitTree) × IsLed s.program numbered given.numbering t path place u
  led path None o agree place is = absurd (cc is)
  led path (Some x) None agree place is = absurd agree
  led path (Some x) (Some u) agree place is =
      let same : x ≡ place = cc is in
      (u, subst (λ z. IsLed s.program numbered given.numbering t path z u) same agree)

  module _ (path : List Identifier) (place : context.Place) (is : place_of s root path ≡ Some place) where
    abbrev leading : (u : KitTree) × IsLed s.program numbered given.numbering t (map text_of path) place u
    leading = led (map text_of path) (place_of s root path)
        (tree.locate numbered (reverse (program_path numbered path)) t) (agreed path) place is

    abbrev it : IsLed s.program numbered given.numbering t (map text_of path) place leading.0
    it = leading.1

    abbrev within : List ℕ
    within = reverse it.before

    abbrev named : ℕ → Option (Ptr Operation)
    named = function_numbered s.program numbered place.within

    agree : (text : List ℕ) → named (numbered text) ≡ function_named s.program place.within text
    agree = numbered_is s.program numbered given.numbering place.within

    -- the path in the program
    program_path_is : program_path numbered path ≡ numbered it.text ∷ within
    program_path_is = ap reverse (sym (texts_are path) ∙ it.path_is)
        ∙ reverse-append it.before (numbered it.text ∷ [])

    -- and that of a function beside it
    beside_is : (name : ℕ) → reverse (name ∷ within) ≡ it.before ++ name ∷ []
    beside_is name = reverse-append (name ∷ []) within ∙ ap (λ l. l ++ name ∷ []) (reverse-reverse it.before)

    pub beside_leads : (name : ℕ) → tree.locate numbered (reverse (name ∷ within)) t
        ≡ tree.first_with (tree.is_function_named numbered name) (tree.members_in it.module_tree.regions)
    beside_leads name = ap (λ l. tree.locate numbered l t) (beside_is name) ∙ it.leads name

    function_runs : (name : ℕ) (f : Ptr Operation) → named name ≡ Some f → CanRun s place.within f
    function_runs name f found =
        let text = text_back s.program numbered place.within name f found in
        (can_run s root given.obeys (t, given.stands) path place is).functions text.0 f
        (sym (agree text.0) ∙ ap named (sym text.1) ∙ found)

    tree_found : (f : Ptr Operation) (x : Option (Ptr Operation)) (o : Option KitTree) → Agree s.program x o →
        x ≡ Some f → (u : KitTree) × (o ≡ Some u) × StandsFor s.program f u
    tree_found f None o both e = absurd (cc e)
    tree_found f (Some g) None both e = absurd both
    tree_found f (Some g) (Some u) both e =
        let same : g ≡ f = cc e in
        (u, refl, subst (λ z. StandsFor s.program z u) same both)

    -- the tree of a function of the module
    pub function_tree : (name : ℕ) (f : Ptr Operation) → named name ≡ Some f →
        (u : KitTree) × (tree.locate numbered (reverse (name ∷ within)) t ≡ Some u) × StandsFor s.program f u
    function_tree name f found =
        let u = tree_found f (named name)
        (tree.first_with (tree.is_function_named numbered name) (tree.members_in it.module_tree.regions))
        (functions_agree s.program numbered place.within it.module_tree it.module_stands name) found in
        (u.0, beside_leads name ∙ u.1, u.2)

    seen_of : (f : Ptr Operation) → CanRun s place.within f → (u : KitTree) → StandsFor s.program f u →
        (o : Option KitTree) → o ≡ Some u → (g : Option (Fun Place)) (is : IsFlatOf o g) →
        IsSeenAs s place.within named f (flat_of o g is)
    seen_of f runs u stands None e g is = absurd (cc e)
    seen_of f runs u stands (Some v) e g is =
        let same : u ≡ v = cc e in
        function_seen s place.within named numbered agree f v (subst (StandsFor s.program f) same stands) is.0 is.1 runs

    views : (name : ℕ) (f : Ptr Operation) → named name ≡ Some f →
        IsSeenAs s place.within named f (handled (name ∷ within))
    views name f found =
        let u = function_tree name f found in
        seen_of f (function_runs name f found) u.0 u.2 (tree.locate numbered (reverse (name ∷ within)) t) u.1
        (p (name ∷ within)) (given.is (name ∷ within))

    -- ---- runs

    pub program_runs : (xs : List ℕ) (n : ℕ) →
        SameOutcome (machine.run same_value (module_code s place.within) n
        (machine.start same_value (module_code s place.within) place.function xs))
        (flat.run same_place p n (flat.start same_place p (program_path numbered path) xs))
    program_runs xs n =
        subst (λ l. SameOutcome (machine.run same_value (module_code s place.within) n
        (machine.start same_value (module_code s place.within) place.function xs))
        (flat.run same_place p n (flat.start same_place p l xs))) (sym program_path_is)
        (outcome_on (machine.run same_value (module_code s place.within) n
        (machine.start same_value (module_code s place.within) place.function xs))
        (flat.run same_value handled n (flat.start same_value handled (numbered it.text ∷ within) xs))
        (flat.run same_place p n (flat.start same_place p (numbered it.text ∷ within) xs))
        (runs_alike s place.within named handled within views (numbered it.text) place.function it.named xs
        (path_moves s root given.obeys (t, given.stands) path place is xs) n)
        (outcomes_same same_value same_place handled p alike (numbered it.text ∷ within) xs n))
