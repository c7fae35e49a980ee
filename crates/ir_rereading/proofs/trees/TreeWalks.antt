-- The names of values in what is read, by its trees.
use Rattle.std.proofs.Common.{◌≡◌, ℕ, suc, ◌≤◌, Bool, true, false, if◌then◌else◌, List, [], ◌∷◌, ◌++◌, map, length, Some, None, refl, sym, subst, ap, ◌∙◌, arith, inl, inr}
use Rattle.std.proofs.lemmas.List.{append_assoc, append-nil}
use Rattle.ir_names.specs.Tree.{LabelledTree, Trees, node, no_tree, a_tree}
use Rattle.ir_print.specs.Pieces.{ValueTree, Values, Entities, no_entity}
use Rattle.ir_grammar.specs.declared.grammar.Action.{Action}
use Rattle.ir_grammar.specs.declared.grammar.Action.TheVariants as act
use Rattle.ir_grammar.specs.declared.grammar.Event.{Event}
use Rattle.ir_scopes.specs.declared.sites.Frame.{Frame}
use Rattle.ir_forest.specs.Building.{with_name}
use Rattle.ir_forest.specs.Closed.{AreIn, names_of, all_defined, all_mentioned, all_definitions_of, AreScoped}
use Rattle.ir_forest.specs.Forest.{end_of, Deed, deeds_from, ActionSpan, ending, deeds_of, deeds_in, IsWholeStep, AreWhole}
use Rattle.ir_forest.specs.Meaning.{pieces_in, tokens_in, operands_in, arguments_in, typed, operations_in, regions_in, blocks_in, all_renamed}
use Rattle.ir_grammar.specs.Nesting.{Position, at_root, behind_root_results, at_end, in_operation, in_operands, in_successor, in_region, in_header, in_argument, in_block, behind_results, in_value, in_list, in_item, in_choice, move, end_move, piece_move}
use Rattle.ir_scopes.specs.Scopes.{EventPlace}
use Rattle.ir_rereading.proofs.trees.TreeCounts.{CountsAt, Counts}
use Rattle.ir_rereading.proofs.trees.TreeParts.{IsDeed, one_deed, split_deeds, IsQuiet, Part, part_append, part_change, part_still, part_quiet, part_defines, part_mentions, part_bracket, has_operation, part_operation, part_region, part_scope}
use Rattle.ir_rereading.proofs.trees.TreePlaces.{IsFinal, PlacedBy, Placed}
use Rattle.ir_rereading.proofs.trees.TreeRenamed.{all_operands_of, all_mentioned_renamed, all_defined_renamed}
use Rattle.ir_print.specs.declared.format.LeafSort.TheVariants as leaves
use Rattle.ir_print.specs.declared.format.ValueSort.{ValueSort}
use Rattle.ir_print.specs.declared.format.ValueSort.TheVariants as sorts
use Rattle.ir_rereading.proofs.trees.TreeSites.{In, in_left, in_right, in_either, Alike, arrived, arrived_events, Has, has_append, change}

-- ---- lists

alike : (xs : List ℕ) → Alike xs xs
alike xs k = (λ h. h, λ h. h)

alike_is : (xs ys : List ℕ) → xs ≡ ys → Alike xs ys
alike_is xs ys e k = (λ h. subst (In k) e h, λ h. subst (In k) (sym e) h)

swap_in : (k : ℕ) (xs ys zs : List ℕ) → In k (xs ++ (ys ++ zs)) → In k (ys ++ (xs ++ zs))
swap_in k xs ys zs h = elim (in_either k xs (ys ++ zs) h) [
  | inl x ↦ in_right k ys (xs ++ zs) (in_left k xs zs x)
  | inr y ↦ elim (in_either k ys zs y) [
    | inl a ↦ in_left k ys (xs ++ zs) a
    | inr b ↦ in_right k ys (xs ++ zs) (in_right k xs zs b)
  ]
]

swap : (xs ys zs : List ℕ) → Alike (xs ++ (ys ++ zs)) (ys ++ (xs ++ zs))
swap xs ys zs k = (swap_in k xs ys zs, swap_in k ys xs zs)

names_typed : (ks : List ℕ) (ts : List ValueTree) → length ks ≡ length ts → names_of (typed ks ts) ≡ ks
names_typed [] ts e = refl
names_typed (k ∷ ks) [] e = let wrong : suc (length ks) ≡ 0 = e in absurd (omega arith)
names_typed (k ∷ ks) (t ∷ ts) e = let same : suc (length ks) ≡ suc (length ts) = e in ap (λ z. k ∷ z) (names_typed ks ts (omega arith))

-- a step of an action, with the tokens where it begins and ends
abbrev step_of : Action → ℕ → ℕ → ActionSpan
step_of a f l = record { action = a; first = f; last = l }

module _ (isolated : ℕ → Bool) (values : Values) (text : ℕ → List ℕ) {N : Type 0} (g : ℕ → N) where
  -- the deeds of events from a place on are those of the trees
  abbrev Reads : EventPlace → List Event → Trees ActionSpan → Type 0
  Reads at es ts = deeds_from at.tokens es ≡ deeds_in ts

  -- the scope of a place has begun before it
  abbrev IsLow : EventPlace → Type 0
  IsLow at = at.here.values ≤ at.events

  -- something is open around what is open here
  abbrev IsInside : EventPlace → Type 0
  IsInside at = (f : Frame) × (fs : List Frame) × (at.around ≡ f ∷ fs)

  -- ---- what parts have of names, at each position

  -- types, attributes, lists and their members name no values
  abbrev QuietGoal : Trees ActionSpan → Type 0
  QuietGoal ts = (at : EventPlace) (es : List Event) → IsLow at → Reads at es ts → Part isolated g at es [] [] [] [] (Unit {0})

  -- operands mention values, and so do those that an edge hands on
  abbrev OperandsGoal : Trees ActionSpan → Type 0
  OperandsGoal ts = (at : EventPlace) (es : List Event) → IsLow at → Reads at es ts → Part isolated g at es [] [] (tokens_in ts) (tokens_in ts) (Unit {0})

  -- what regions define in the scope around them: nothing in an isolated operation
  abbrev inner_defined : Bool → Entities ℕ → List ℕ
  inner_defined b rs = if b then [] else all_defined isolated rs

  -- the same of what they mention
  abbrev inner_mentioned : Bool → Entities ℕ → List ℕ
  inner_mentioned b rs = if b then [] else all_mentioned isolated rs

  -- operands, and these regions, in an operation that is isolated or not
  abbrev RegionsPart : EventPlace → List Event → Bool → List ℕ → Entities ℕ → Type 0
  RegionsPart at es b used rs = Part isolated g at es (all_definitions_of rs) (inner_defined b rs) (used ++ inner_mentioned b rs) (used ++ all_operands_of rs) (AreScoped isolated b (all_renamed g g rs))

  -- what stands in an operation
  abbrev OperationGoal : Trees ActionSpan → Type 0
  OperationGoal ts = (at : EventPlace) (es : List Event) → IsLow at → Reads at es ts → (b : Bool) → at.here.isolated ≡ b → RegionsPart at es b (operands_in ts) (regions_in values text ts)

  -- names that are defined first, and then these entities
  abbrev EntitiesPart : EventPlace → List Event → List ℕ → Entities ℕ → Type 0
  EntitiesPart at es names ts = Part isolated g at es (names ++ all_definitions_of ts) (names ++ all_defined isolated ts) (all_mentioned isolated ts) (all_operands_of ts) (AreScoped isolated false (all_renamed g g ts))

  -- the same where the names were defined before
  abbrev BehindPart : EventPlace → List Event → List ℕ → List ℕ → Entities ℕ → Type 0
  BehindPart at es before names ts = (all : List ℕ) × (own : List ℕ)
      × Part isolated g at es all own (all_mentioned isolated ts) (all_operands_of ts) (AreScoped isolated false (all_renamed g g ts))
      × (before ++ all ≡ names ++ all_definitions_of ts) × (before ++ own ≡ names ++ all_defined isolated ts)

  -- the blocks of a region
  abbrev RegionGoal : Trees ActionSpan → Type 0
  RegionGoal ts = (at : EventPlace) (es : List Event) → IsLow at → IsInside at → Reads at es ts → EntitiesPart at es [] (blocks_in values text ts)

  -- the header of a block from here on, this argument being named last, and its operations
  abbrev HeaderGoal : Trees ActionSpan → Type 0
  HeaderGoal ts = (named : ℕ) (at : EventPlace) (es : List Event) → IsLow at → IsInside at → Reads at es ts
      → EntitiesPart at es (names_of (arguments_in values text named ts)) (operations_in values text [] ts)

  -- the same behind the name of an argument, whose type comes first
  abbrev ArgumentGoal : Trees ActionSpan → Type 0
  ArgumentGoal ts = (named : ℕ) (at : EventPlace) (es : List Event) → IsLow at → IsInside at → Reads at es ts
      → BehindPart at es (named ∷ []) (names_of (arguments_in values text named ts)) (operations_in values text [] ts)

  -- the operations of a block from here on, with these names of results before the first
  abbrev BlockGoal : List ℕ → Trees ActionSpan → Type 0
  BlockGoal names ts = (at : EventPlace) (es : List Event) → IsLow at → IsInside at → Reads at es ts → BehindPart at es names [] (operations_in values text names ts)

  -- the root from here on, with these names of results before it
  abbrev RootGoal : List ℕ → Trees ActionSpan → Type 0
  RootGoal names ts = (at : EventPlace) (es : List Event) → IsLow at → Reads at es ts → (all : List ℕ) × (own : List ℕ)
      × Has isolated g at es all own (all_mentioned isolated (operations_in values text names ts)) (all_operands_of (operations_in values text names ts)) (AreScoped isolated false (all_renamed g g (operations_in values text names ts)))
      × (names ++ all ≡ all_definitions_of (operations_in values text names ts)) × (names ++ own ≡ all_defined isolated (operations_in values text names ts))

  -- what is shown of trees, by the position where they begin
  abbrev Goal : Position → List ℕ → Trees ActionSpan → Type 0
  Goal at_root names ts = RootGoal names ts
  Goal behind_root_results names ts = RootGoal names ts
  Goal at_end names ts = ts ≡ no_tree
  Goal in_operation names ts = OperationGoal ts
  Goal in_operands names ts = OperandsGoal ts
  Goal in_successor names ts = OperandsGoal ts
  Goal in_region names ts = RegionGoal ts
  Goal in_header names ts = HeaderGoal ts
  Goal in_argument names ts = ArgumentGoal ts
  Goal in_block names ts = BlockGoal names ts
  Goal behind_results names ts = BlockGoal names ts
  Goal (in_value sort) names ts = QuietGoal ts
  Goal in_list names ts = QuietGoal ts
  Goal in_item names ts = QuietGoal ts
  Goal in_choice names ts = QuietGoal ts

  -- names of results stand only before operations
  abbrev MayName : Position → List ℕ → Type 0
  MayName in_block names = names ≡ []
  MayName _ names = Unit {0}

  -- ---- no trees

  operation_none : (at : EventPlace) (es : List Event) (b : Bool) → Reads at es no_tree → RegionsPart at es b [] no_entity
  operation_none at es true e = part_still isolated g at es e
  operation_none at es false e = part_still isolated g at es e

  none : (p : Position) (names : List ℕ) → IsFinal p → MayName p names → Goal p names no_tree
  none at_root names f m = absurd f
  none behind_root_results names f m = absurd f
  none at_end names f m = refl
  none in_operation names f m = λ at es low read b e. operation_none at es b read
  none in_operands names f m = λ at es low read. part_still isolated g at es read
  none in_successor names f m = λ at es low read. part_still isolated g at es read
  none in_region names f m = λ at es low inside read. part_still isolated g at es read
  none in_header names f m = absurd f
  none in_argument names f m = absurd f
  none in_block names f m = λ at es low inside read. ([], [], part_still isolated g at es read, append-nil names ∙ m, append-nil names ∙ m)
  none behind_results names f m = absurd f
  none (in_value sort) names f m = λ at es low read. part_still isolated g at es read
  none in_list names f m = λ at es low read. part_still isolated g at es read
  none in_item names f m = λ at es low read. part_still isolated g at es read
  none in_choice names f m = λ at es low read. part_still isolated g at es read

  -- ---- one tree and those behind it

  module _ (at : EventPlace) (es : List Event) (t : LabelledTree ActionSpan) (rest : Trees ActionSpan) (low : IsLow at) (read : Reads at es (a_tree t rest)) where
    cut : (a : List Event) × (b : List Event) × (es ≡ a ++ b) × (deeds_from at.tokens a ≡ deeds_of t) × (deeds_from (arrived isolated at a).tokens b ≡ deeds_in rest)
    cut = split_deeds isolated at es (deeds_of t) (deeds_in rest) read

    -- what comes behind a part stands where that began
    low_behind : (a : List Event) → (arrived isolated at a).here ≡ at.here → IsLow (arrived isolated at a)
    low_behind a e = let same : (arrived isolated at a).here.values ≡ at.here.values = ap (λ (f : Frame). f.values) e in omega (arith, low, same, arrived_events isolated at a)

    inside_behind : (a : List Event) → (arrived isolated at a).around ≡ at.around → IsInside at → IsInside (arrived isolated at a)
    inside_behind a e h = (h.0, h.1, e ∙ h.2)

    both : (all own used said all' own' used' said' : List ℕ) (Q R : Type 0)
        → (first : (a : List Event) → deeds_from at.tokens a ≡ deeds_of t → Part isolated g at a all own used said Q)
        → (second : (a b : List Event) → (arrived isolated at a).here ≡ at.here → (arrived isolated at a).around ≡ at.around → Reads (arrived isolated at a) b rest → Part isolated g (arrived isolated at a) b all' own' used' said' R)
        → Part isolated g at es (all ++ all') (own ++ own') (used ++ used') (said ++ said') (Q × R)
    both all own used said all' own' used' said' Q R first second =
        let c = cut in
        let p = first c.0 c.3 in
        subst (λ z. Part isolated g at z (all ++ all') (own ++ own') (used ++ used') (said ++ said') (Q × R)) (sym c.2)
        (part_append isolated g at c.0 c.1 all own used said all' own' used' said' Q R low p (second c.0 c.1 p.here p.around c.4))

    beside_quiet : (all own used said : List ℕ) (R : Type 0)
        → (first : (a : List Event) → deeds_from at.tokens a ≡ deeds_of t → Part isolated g at a [] [] [] [] (Unit {0}))
        → (second : (a b : List Event) → (arrived isolated at a).here ≡ at.here → (arrived isolated at a).around ≡ at.around → Reads (arrived isolated at a) b rest → Part isolated g (arrived isolated at a) b all own used said R)
        → Part isolated g at es all own used said R
    beside_quiet all own used said R first second =
        part_change isolated g at es all own used said all own used said (Unit {0} × R) R refl (alike own) (alike used) (λ k h. h) (λ z. z.1) (λ r. (tt, r))
        (both [] [] [] [] all own used said (Unit {0}) R first second)

  -- ---- one step

  -- a step that stands alone
  leaf_deeds : (a : Action) (f l : ℕ) (ts : Trees ActionSpan) → end_of a ≡ None → IsWholeStep (end_of a) (step_of a f l) ts → deeds_of (node (step_of a f l) ts) ≡ (a, f) ∷ []
  leaf_deeds a f l ts e w =
      let w' : IsWholeStep None (step_of a f l) ts = subst (λ x. IsWholeStep x (step_of a f l) ts) e w in
      ap (λ us. let d : Deed = (a, f) in d ∷ (deeds_in us ++ ending (end_of a) l)) w'.2 ∙ ap (λ x. let d : Deed = (a, f) in d ∷ ending x l) e

  leaf : (at : EventPlace) (es : List Event) (a : Action) (f l : ℕ) (ts : Trees ActionSpan) → end_of a ≡ None → IsWholeStep (end_of a) (step_of a f l) ts
      → deeds_from at.tokens es ≡ deeds_of (node (step_of a f l) ts) → IsDeed isolated at es a f
  leaf at es a f l ts e w read = one_deed isolated at es a f (read ∙ leaf_deeds a f l ts e w)

  quiet_leaf : (at : EventPlace) (es : List Event) (a : Action) (f l : ℕ) (ts : Trees ActionSpan) → IsQuiet isolated a → end_of a ≡ None → IsWholeStep (end_of a) (step_of a f l) ts
      → deeds_from at.tokens es ≡ deeds_of (node (step_of a f l) ts) → Part isolated g at es [] [] [] [] (Unit {0})
  quiet_leaf at es a f l ts q e w read = part_quiet isolated g at es a f q (leaf at es a f l ts e w read)

  node_deeds : (a x : Action) (f l : ℕ) (ts : Trees ActionSpan) → end_of a ≡ Some x → deeds_of (node (step_of a f l) ts) ≡ (a, f) ∷ (deeds_in ts ++ (x, l) ∷ [])
  node_deeds a x f l ts e = ap (λ z. let d : Deed = (a, f) in d ∷ (deeds_in ts ++ ending z l)) e

  quiet_node : (at : EventPlace) (es : List Event) (a x : Action) (f l : ℕ) (ts : Trees ActionSpan) → IsQuiet isolated a → IsQuiet isolated x → end_of a ≡ Some x → IsLow at → QuietGoal ts
      → deeds_from at.tokens es ≡ deeds_of (node (step_of a f l) ts) → Part isolated g at es [] [] [] [] (Unit {0})
  quiet_node at es a x f l ts q r e low inner read =
      part_bracket isolated g [] [] [] [] (Unit {0}) at es a x f l (deeds_in ts) low (read ∙ node_deeds a x f l ts e) q r
      (λ p i here around later reads. inner p i (let same : p.here.values ≡ at.here.values = ap (λ (f : Frame). f.values) here in omega (arith, low, same, later)) reads)

  -- a quiet part, and those behind it, by position
  module _ (a x : Action) (f l : ℕ) (ts rest : Trees ActionSpan) where
    quiet_then : ((at : EventPlace) (es : List Event) → IsLow at → deeds_from at.tokens es ≡ deeds_of (node (step_of a f l) ts) → Part isolated g at es [] [] [] [] (Unit {0}))
        → QuietGoal rest → QuietGoal (a_tree (node (step_of a f l) ts) rest)
    quiet_then first more at es low read =
        beside_quiet at es (node (step_of a f l) ts) rest low read [] [] [] [] (Unit {0}) (λ e. first at e low)
        (λ e b here around. more (arrived isolated at e) b (low_behind at es (node (step_of a f l) ts) rest low read e here))

    operation_then : ((at : EventPlace) (es : List Event) → IsLow at → deeds_from at.tokens es ≡ deeds_of (node (step_of a f l) ts) → Part isolated g at es [] [] [] [] (Unit {0}))
        → OperationGoal rest
        → (at : EventPlace) (es : List Event) → IsLow at → Reads at es (a_tree (node (step_of a f l) ts) rest) → (b : Bool) → at.here.isolated ≡ b → RegionsPart at es b (operands_in rest) (regions_in values text rest)
    operation_then first more at es low read b iso =
        let rs = regions_in values text rest in
        let us = operands_in rest in
        beside_quiet at es (node (step_of a f l) ts) rest low read (all_definitions_of rs) (inner_defined b rs) (us ++ inner_mentioned b rs) (us ++ all_operands_of rs) (AreScoped isolated b (all_renamed g g rs))
        (λ e. first at e low)
        (λ e c here around r. more (arrived isolated at e) c (low_behind at es (node (step_of a f l) ts) rest low read e here) r b (ap (λ (f : Frame). f.isolated) here ∙ iso))

  -- ---- pieces

  -- a step of a piece, at a position where it is quiet
  piece_quiet : (p : Position) (a : Action) (f l : ℕ) (ts rest : Trees ActionSpan) → PlacedBy (piece_move p a) (λ q. Placed q ts) (λ q. Placed q rest) → IsWholeStep (end_of a) (step_of a f l) ts
      → ((q : Position) → Placed q ts → Goal q [] ts) → (at : EventPlace) (es : List Event) → IsLow at → deeds_from at.tokens es ≡ deeds_of (node (step_of a f l) ts) → Part isolated g at es [] [] [] [] (Unit {0})
  piece_quiet p (act.Leaf sort) f l ts rest pl w inner at es low read = quiet_leaf at es (act.Leaf sort) f l ts (λ p. (refl, refl, refl, refl)) refl w read
  piece_quiet p (act.Begin sort kind) f l ts rest pl w inner at es low read =
      quiet_node at es (act.Begin sort kind) (act.End sort) f l ts (λ p. (refl, refl, refl, refl)) (λ p. (refl, refl, refl, refl)) refl low (inner (in_value sort) pl.0) read
  piece_quiet p act.BeginList f l ts rest pl w inner at es low read =
      quiet_node at es act.BeginList act.EndList f l ts (λ p. (refl, refl, refl, refl)) (λ p. (refl, refl, refl, refl)) refl low (inner in_list pl.0) read
  piece_quiet p (act.BeginChoice n) f l ts rest pl w inner at es low read =
      quiet_node at es (act.BeginChoice n) act.EndChoice f l ts (λ p. (refl, refl, refl, refl)) (λ p. (refl, refl, refl, refl)) refl low (inner in_choice pl.0) read
  piece_quiet p _ f l ts rest pl w inner at es low read = absurd pl

  piece_rest : (p : Position) (a : Action) (ts rest : Trees ActionSpan) → PlacedBy (piece_move p a) (λ q. Placed q ts) (λ q. Placed q rest) → Placed p rest
  piece_rest p (act.Leaf sort) ts rest pl = pl
  piece_rest p (act.Begin sort kind) ts rest pl = pl.1
  piece_rest p act.BeginList ts rest pl = pl.1
  piece_rest p (act.BeginChoice n) ts rest pl = pl.1
  piece_rest p _ ts rest pl = absurd pl

  -- what is known of the trees in a step, and behind it
  abbrev Known : Trees ActionSpan → List ℕ → Type 0
  Known ts names = (q : Position) → Placed q ts → MayName q names → Goal q names ts

  quiet_known : (ts : Trees ActionSpan) → Known ts [] → (q : Position) → Placed q ts → Goal q [] ts
  quiet_known ts k at_root pl = k at_root pl tt
  quiet_known ts k behind_root_results pl = k behind_root_results pl tt
  quiet_known ts k at_end pl = k at_end pl tt
  quiet_known ts k in_block pl = k in_block pl refl
  quiet_known ts k q pl = k q pl tt

  -- ---- steps in an operation

  operation_piece : (a : Action) (f l : ℕ) (ts rest : Trees ActionSpan) → PlacedBy (piece_move in_operation a) (λ q. Placed q ts) (λ q. Placed q rest) → IsWholeStep (end_of a) (step_of a f l) ts
      → Known ts [] → OperationGoal rest → OperationGoal (a_tree (node (step_of a f l) ts) rest)
  operation_piece (act.Leaf sort) f l ts rest pl w inner more = operation_then (act.Leaf sort) (act.Leaf leaves.Name) f l ts rest (piece_quiet in_operation (act.Leaf sort) f l ts rest pl w (quiet_known ts inner)) more
  operation_piece (act.Begin sort kind) f l ts rest pl w inner more = operation_then (act.Begin sort kind) (act.Leaf leaves.Name) f l ts rest (piece_quiet in_operation (act.Begin sort kind) f l ts rest pl w (quiet_known ts inner)) more
  operation_piece act.BeginList f l ts rest pl w inner more = operation_then act.BeginList (act.Leaf leaves.Name) f l ts rest (piece_quiet in_operation act.BeginList f l ts rest pl w (quiet_known ts inner)) more
  operation_piece (act.BeginChoice n) f l ts rest pl w inner more = operation_then (act.BeginChoice n) (act.Leaf leaves.Name) f l ts rest (piece_quiet in_operation (act.BeginChoice n) f l ts rest pl w (quiet_known ts inner)) more
  operation_piece _ f l ts rest pl w inner more = absurd pl

  -- operands, between an action that begins them and one that ends them
  handed_part : (a x : Action) (f l : ℕ) (ts rest : Trees ActionSpan) → IsQuiet isolated a → IsQuiet isolated x → end_of a ≡ Some x
      → OperandsGoal ts → OperationGoal rest
      → (at : EventPlace) (es : List Event) → IsLow at → Reads at es (a_tree (node (step_of a f l) ts) rest) → (b : Bool) → at.here.isolated ≡ b
      → RegionsPart at es b (tokens_in ts ++ operands_in rest) (regions_in values text rest)
  handed_part a x f l ts rest q r e inner more at es low read b iso =
      let t : LabelledTree ActionSpan = node (step_of a f l) ts in
      let rs = regions_in values text rest in
      let ks = tokens_in ts in
      let us = operands_in rest in
      let Q : Type 0 = AreScoped isolated b (all_renamed g g rs) in
      part_change isolated g at es (all_definitions_of rs) (inner_defined b rs) (ks ++ (us ++ inner_mentioned b rs)) (ks ++ (us ++ all_operands_of rs))
      (all_definitions_of rs) (inner_defined b rs) ((ks ++ us) ++ inner_mentioned b rs) ((ks ++ us) ++ all_operands_of rs) (Unit {0} × Q) Q
      refl (alike (inner_defined b rs)) (alike_is (ks ++ (us ++ inner_mentioned b rs)) ((ks ++ us) ++ inner_mentioned b rs) (sym (append_assoc ks us (inner_mentioned b rs))))
      (λ k h. subst (In k) (append_assoc ks us (all_operands_of rs)) h) (λ z. z.1) (λ q. (tt, q))
      (both at es t rest low read [] [] ks ks (all_definitions_of rs) (inner_defined b rs) (us ++ inner_mentioned b rs) (us ++ all_operands_of rs) (Unit {0}) Q
      (λ c reads. part_bracket isolated g [] [] ks ks (Unit {0}) at c a x f l (deeds_in ts) low (reads ∙ node_deeds a x f l ts e) q r
      (λ p i here around later d. inner p i (let same : p.here.values ≡ at.here.values = ap (λ (f : Frame). f.values) here in omega (arith, low, same, later)) d))
      (λ c d here around o. more (arrived isolated at c) d (low_behind at es t rest low read c here) o b (ap (λ (f : Frame). f.isolated) here ∙ iso)))

  operands_part : (f l : ℕ) (ts rest : Trees ActionSpan) → OperandsGoal ts → OperationGoal rest
      → OperationGoal (a_tree (node (step_of act.BeginOperands f l) ts) rest)
  operands_part f l ts rest inner more = handed_part act.BeginOperands act.EndOperands f l ts rest (λ p. (refl, refl, refl, refl)) (λ p. (refl, refl, refl, refl)) refl inner more

  -- an edge hands on operands, as they stand
  edge_part : (f l : ℕ) (ts rest : Trees ActionSpan) → OperandsGoal ts → OperationGoal rest
      → OperationGoal (a_tree (node (step_of act.BeginSuccessor f l) ts) rest)
  edge_part f l ts rest inner more = handed_part act.BeginSuccessor act.EndSuccessor f l ts rest (λ p. (refl, refl, refl, refl)) (λ p. (refl, refl, refl, refl)) refl inner more

  region_part : (f l : ℕ) (ts rest : Trees ActionSpan) → RegionGoal ts → OperationGoal rest → OperationGoal (a_tree (node (step_of act.BeginRegion f l) ts) rest)
  region_part f l ts rest inner more at es low read true iso =
      let t : LabelledTree ActionSpan = node (step_of act.BeginRegion f l) ts in
      let bs = blocks_in values text ts in
      let rs = regions_in values text rest in
      let us = operands_in rest in
      let P : Type 0 = AreScoped isolated false (all_renamed g g bs) in
      let In' : Type 0 = AreIn (map g (all_mentioned isolated bs)) (map g (all_defined isolated bs)) in
      let R : Type 0 = AreIn (all_mentioned isolated (all_renamed g g bs)) (all_defined isolated (all_renamed g g bs)) in
      let Q : Type 0 = AreScoped isolated true (all_renamed g g rs) in
      part_change isolated g at es (all_definitions_of bs ++ all_definitions_of rs) [] (us ++ []) (all_operands_of bs ++ (us ++ all_operands_of rs))
      (all_definitions_of bs ++ all_definitions_of rs) [] (us ++ []) (us ++ (all_operands_of bs ++ all_operands_of rs)) ((In' × P) × Q) ((R × P) × Q)
      refl (alike []) (alike (us ++ [])) (λ k. swap_in k us (all_operands_of bs) (all_operands_of rs))
      (λ z. ((subst (λ xs. AreIn xs (all_defined isolated (all_renamed g g bs))) (sym (all_mentioned_renamed g g isolated bs)) (subst (λ ys. AreIn (map g (all_mentioned isolated bs)) ys) (sym (all_defined_renamed g g isolated bs)) z.0.0), z.0.1), z.1))
      (λ z. ((subst (λ xs. AreIn xs (map g (all_defined isolated bs))) (all_mentioned_renamed g g isolated bs) (subst (λ ys. AreIn (all_mentioned isolated (all_renamed g g bs)) ys) (all_defined_renamed g g isolated bs) z.0.0), z.0.1), z.1))
      (both at es t rest low read (all_definitions_of bs) [] [] (all_operands_of bs) (all_definitions_of rs) [] (us ++ []) (us ++ all_operands_of rs) (In' × P) Q
      (λ e reads. part_scope isolated g (all_definitions_of bs) (all_defined isolated bs) (all_mentioned isolated bs) (all_operands_of bs) P at e act.BeginRegion act.EndRegion f l (deeds_in ts) low reads
      (λ p. (refl, refl, refl, refl)) (λ p. (refl, refl, refl, refl)) (λ p i lower around r. inner p i lower (at.here, at.around, around) r) iso)
      (λ e c here around r. more (arrived isolated at e) c (low_behind at es t rest low read e here) r true (ap (λ (f : Frame). f.isolated) here ∙ iso)))
  region_part f l ts rest inner more at es low read false iso =
      let t : LabelledTree ActionSpan = node (step_of act.BeginRegion f l) ts in
      let bs = blocks_in values text ts in
      let rs = regions_in values text rest in
      let us = operands_in rest in
      let P : Type 0 = AreScoped isolated false (all_renamed g g bs) in
      let Q : Type 0 = AreScoped isolated false (all_renamed g g rs) in
      part_change isolated g at es (all_definitions_of bs ++ all_definitions_of rs) (all_defined isolated bs ++ all_defined isolated rs) (all_mentioned isolated bs ++ (us ++ all_mentioned isolated rs)) (all_operands_of bs ++ (us ++ all_operands_of rs))
      (all_definitions_of bs ++ all_definitions_of rs) (all_defined isolated bs ++ all_defined isolated rs) (us ++ (all_mentioned isolated bs ++ all_mentioned isolated rs)) (us ++ (all_operands_of bs ++ all_operands_of rs)) (P × Q) ((Unit {0} × P) × Q)
      refl (alike (all_defined isolated bs ++ all_defined isolated rs)) (swap (all_mentioned isolated bs) us (all_mentioned isolated rs)) (λ k. swap_in k us (all_operands_of bs) (all_operands_of rs))
      (λ z. ((tt, z.0), z.1)) (λ z. (z.0.1, z.1))
      (both at es t rest low read (all_definitions_of bs) (all_defined isolated bs) (all_mentioned isolated bs) (all_operands_of bs) (all_definitions_of rs) (all_defined isolated rs) (us ++ all_mentioned isolated rs) (us ++ all_operands_of rs) P Q
      (λ e reads. part_region isolated g (all_definitions_of bs) (all_defined isolated bs) (all_mentioned isolated bs) (all_operands_of bs) P at e act.BeginRegion act.EndRegion f l (deeds_in ts) low reads
      (λ p. (refl, refl, refl, refl)) (λ p. (refl, refl, refl, refl)) (λ p i lower around r. inner p i lower (at.here, at.around, around) r) iso)
      (λ e c here around r. more (arrived isolated at e) c (low_behind at es t rest low read e here) r false (ap (λ (f : Frame). f.isolated) here ∙ iso)))

  -- ---- blocks

  label_part : (f l : ℕ) (ts rest : Trees ActionSpan) → HeaderGoal ts → RegionGoal rest → RegionGoal (a_tree (node (step_of act.Label f l) ts) rest)
  label_part f l ts rest inner more at es low inside read =
      let t : LabelledTree ActionSpan = node (step_of act.Label f l) ts in
      let ns = names_of (arguments_in values text 0 ts) in
      let os = operations_in values text [] ts in
      let bs = blocks_in values text rest in
      let P : Type 0 = AreScoped isolated false (all_renamed g g os) in
      let Q : Type 0 = AreScoped isolated false (all_renamed g g bs) in
      let all = (ns ++ all_definitions_of os) ++ all_definitions_of bs in
      let own = (ns ++ all_defined isolated os) ++ all_defined isolated bs in
      let used = all_mentioned isolated os ++ all_mentioned isolated bs in
      let said = all_operands_of os ++ all_operands_of bs in
      part_change isolated g at es all own used said all own used said (P × Q) ((Unit {0} × P) × Q) refl (alike own) (alike used) (λ k h. h) (λ z. ((tt, z.0), z.1)) (λ z. (z.0.1, z.1))
      (both at es t rest low read (ns ++ all_definitions_of os) (ns ++ all_defined isolated os) (all_mentioned isolated os) (all_operands_of os)
      (all_definitions_of bs) (all_defined isolated bs) (all_mentioned isolated bs) (all_operands_of bs) P Q
      (λ e reads. part_bracket isolated g (ns ++ all_definitions_of os) (ns ++ all_defined isolated os) (all_mentioned isolated os) (all_operands_of os) P at e act.Label act.EndBlock f l (deeds_in ts) low reads
      (λ p. (refl, refl, refl, refl)) (λ p. (refl, refl, refl, refl))
      (λ p i here around later r. inner 0 p i (let same : p.here.values ≡ at.here.values = ap (λ (f : Frame). f.values) here in omega (arith, low, same, later)) (inside.0, inside.1, around ∙ inside.2) r))
      (λ e c here around r. more (arrived isolated at e) c (low_behind at es t rest low read e here) (inside_behind at es t rest low read e around inside) r))

  argument_part : (f l : ℕ) (ts rest : Trees ActionSpan) → IsWholeStep None (step_of act.Argument f l) ts → ArgumentGoal rest → HeaderGoal (a_tree (node (step_of act.Argument f l) ts) rest)
  argument_part f l ts rest w more named at es low inside read =
      let t : LabelledTree ActionSpan = node (step_of act.Argument f l) ts in
      let ns = names_of (arguments_in values text f rest) in
      let os = operations_in values text [] rest in
      let Q : Type 0 = AreScoped isolated false (all_renamed g g os) in
      let c = cut at es t rest low read in
      let first = part_defines isolated g at c.0 act.Argument f (λ p. (refl, refl, refl, refl)) (leaf at c.0 act.Argument f l ts refl w c.3) in
      let r = more f (arrived isolated at c.0) c.1 (low_behind at es t rest low read c.0 first.here) (inside_behind at es t rest low read c.0 first.around inside) c.4 in
      subst (λ z. EntitiesPart at z ns os) (sym c.2)
      (part_change isolated g at (c.0 ++ c.1) (f ∷ r.0) (f ∷ r.1) (all_mentioned isolated os) (all_operands_of os) (ns ++ all_definitions_of os) (ns ++ all_defined isolated os) (all_mentioned isolated os) (all_operands_of os) (Unit {0} × Q) Q
      r.3 (alike_is (f ∷ r.1) (ns ++ all_defined isolated os) r.4) (alike (all_mentioned isolated os)) (λ k h. h) (λ z. z.1) (λ q. (tt, q))
      (part_append isolated g at c.0 c.1 (f ∷ []) (f ∷ []) [] [] r.0 r.1 (all_mentioned isolated os) (all_operands_of os) (Unit {0}) Q low first r.2))

  header_part : (f l : ℕ) (ts rest : Trees ActionSpan) → IsWholeStep None (step_of act.Header f l) ts → BlockGoal [] rest → HeaderGoal (a_tree (node (step_of act.Header f l) ts) rest)
  header_part f l ts rest w more named at es low inside read =
      let t : LabelledTree ActionSpan = node (step_of act.Header f l) ts in
      let os = operations_in values text [] rest in
      let Q : Type 0 = AreScoped isolated false (all_renamed g g os) in
      let c = cut at es t rest low read in
      let first = quiet_leaf at c.0 act.Header f l ts (λ p. (refl, refl, refl, refl)) refl w c.3 in
      let r = more (arrived isolated at c.0) c.1 (low_behind at es t rest low read c.0 first.here) (inside_behind at es t rest low read c.0 first.around inside) c.4 in
      subst (λ z. EntitiesPart at z [] os) (sym c.2)
      (part_change isolated g at (c.0 ++ c.1) r.0 r.1 (all_mentioned isolated os) (all_operands_of os) (all_definitions_of os) (all_defined isolated os) (all_mentioned isolated os) (all_operands_of os) (Unit {0} × Q) Q
      r.3 (alike_is r.1 (all_defined isolated os) r.4) (alike (all_mentioned isolated os)) (λ k h. h) (λ z. z.1) (λ q. (tt, q))
      (part_append isolated g at c.0 c.1 [] [] [] [] r.0 r.1 (all_mentioned isolated os) (all_operands_of os) (Unit {0}) Q low first r.2))

  type_part : (kind f l : ℕ) (ts rest : Trees ActionSpan) → QuietGoal ts → HeaderGoal rest → ArgumentGoal (a_tree (node (step_of (act.Begin sorts.«Type» kind) f l) ts) rest)
  type_part kind f l ts rest inner more named at es low inside read =
      let t : LabelledTree ActionSpan = node (step_of (act.Begin sorts.«Type» kind) f l) ts in
      let ns = names_of (arguments_in values text named rest) in
      let os = operations_in values text [] rest in (
        ns ++ all_definitions_of os,
        ns ++ all_defined isolated os,
        beside_quiet at es t rest low read (ns ++ all_definitions_of os) (ns ++ all_defined isolated os) (all_mentioned isolated os) (all_operands_of os) (AreScoped isolated false (all_renamed g g os))
            (λ e. quiet_node at e (act.Begin sorts.«Type» kind) (act.End sorts.«Type») f l ts (λ p. (refl, refl, refl, refl)) (λ p. (refl, refl, refl, refl)) refl low inner)
            (λ e c here around r. more named (arrived isolated at e) c (low_behind at es t rest low read e here) (inside_behind at es t rest low read e around inside) r),
        refl,
        refl,
      )

  result_part : (names : List ℕ) (f l : ℕ) (ts rest : Trees ActionSpan) → IsWholeStep None (step_of act.Result f l) ts → BlockGoal (names ++ f ∷ []) rest → BlockGoal names (a_tree (node (step_of act.Result f l) ts) rest)
  result_part names f l ts rest w more at es low inside read =
      let t : LabelledTree ActionSpan = node (step_of act.Result f l) ts in
      let os = operations_in values text (names ++ f ∷ []) rest in
      let Q : Type 0 = AreScoped isolated false (all_renamed g g os) in
      let c = cut at es t rest low read in
      let first = part_defines isolated g at c.0 act.Result f (λ p. (refl, refl, refl, refl)) (leaf at c.0 act.Result f l ts refl w c.3) in
      let r = more (arrived isolated at c.0) c.1 (low_behind at es t rest low read c.0 first.here) (inside_behind at es t rest low read c.0 first.around inside) c.4 in (
        f ∷ r.0,
        f ∷ r.1,
        subst (λ z. Part isolated g at z (f ∷ r.0) (f ∷ r.1) (all_mentioned isolated os) (all_operands_of os) Q) (sym c.2)
            (part_change isolated g at (c.0 ++ c.1) (f ∷ r.0) (f ∷ r.1) (all_mentioned isolated os) (all_operands_of os) (f ∷ r.0) (f ∷ r.1) (all_mentioned isolated os) (all_operands_of os) (Unit {0} × Q) Q
            refl (alike (f ∷ r.1)) (alike (all_mentioned isolated os)) (λ k h. h) (λ z. z.1) (λ q. (tt, q))
            (part_append isolated g at c.0 c.1 (f ∷ []) (f ∷ []) [] [] r.0 r.1 (all_mentioned isolated os) (all_operands_of os) (Unit {0}) Q low first r.2)),
        sym (append_assoc names (f ∷ []) r.0) ∙ r.3,
        sym (append_assoc names (f ∷ []) r.1) ∙ r.4,
      )

  -- names, and what an operation and those behind it define
  define_both : (names ns xs ys zs : List ℕ) → ns ≡ names → ys ≡ zs → names ++ (xs ++ ys) ≡ (ns ++ xs) ++ zs
  define_both names ns xs ys zs e h = ap (λ z. names ++ (xs ++ z)) h ∙ (sym (append_assoc names xs zs) ∙ ap (λ z. (z ++ xs) ++ zs) (sym e))

  block_part : (names : List ℕ) (kind f l : ℕ) (ts rest : Trees ActionSpan) → length names ≡ length (values.result_types kind (pieces_in values text ts))
      → OperationGoal ts → BlockGoal [] rest → BlockGoal names (a_tree (node (step_of (act.Operation kind) f l) ts) rest)
  block_part names kind f l ts rest many inner more at es low inside read =
      let t : LabelledTree ActionSpan = node (step_of (act.Operation kind) f l) ts in
      let b = isolated kind in
      let rs = regions_in values text ts in
      let us = operands_in ts in
      let os = operations_in values text [] rest in
      let P : Type 0 = AreScoped isolated b (all_renamed g g rs) in
      let Q : Type 0 = AreScoped isolated false (all_renamed g g os) in
      let c = cut at es t rest low read in
      let first = part_operation isolated g (all_definitions_of rs) (inner_defined b rs) (us ++ inner_mentioned b rs) (us ++ all_operands_of rs) P at c.0 (act.Operation kind) act.EndOperation f l (deeds_in ts) low c.3 kind
      (λ p. (refl, refl, refl, refl)) (λ p. (refl, refl, refl, refl))
      (λ p i here around later r. inner p i (let same : p.here.values ≡ at.here.values = ap (λ (f : Frame). f.values) here in omega (arith, low, same, later)) r b (ap (λ (f : Frame). f.isolated) here))
      inside.0 inside.1 inside.2 in
      let r = more (arrived isolated at c.0) c.1 (low_behind at es t rest low read c.0 first.here) (inside_behind at es t rest low read c.0 first.around inside) c.4 in
      let all = all_definitions_of rs ++ r.0 in
      let own = inner_defined b rs ++ r.1 in
      let used = (us ++ inner_mentioned b rs) ++ all_mentioned isolated os in
      let said = (us ++ all_operands_of rs) ++ all_operands_of os in
      let named = names_typed names (values.result_types kind (pieces_in values text ts)) many in (
        all,
        own,
        subst (λ z. Part isolated g at z all own used said ((Unit {0} × P) × Q)) (sym c.2)
            (part_change isolated g at (c.0 ++ c.1) all own used said all own used said (P × Q) ((Unit {0} × P) × Q) (refl {a = all}) (alike own) (alike used) (λ k h. h) (λ z. ((tt, z.0), z.1)) (λ z. (z.0.1, z.1))
            (part_append isolated g at c.0 c.1 (all_definitions_of rs) (inner_defined b rs) (us ++ inner_mentioned b rs) (us ++ all_operands_of rs) r.0 r.1 (all_mentioned isolated os) (all_operands_of os) P Q low first r.2)),
        define_both names (names_of (typed names (values.result_types kind (pieces_in values text ts)))) (all_definitions_of rs) r.0 (all_definitions_of os) named r.3,
        define_both names (names_of (typed names (values.result_types kind (pieces_in values text ts)))) (inner_defined b rs) r.1 (all_defined isolated os) named r.4,
      )

  -- ---- the root

  root_result : (names : List ℕ) (f l : ℕ) (ts rest : Trees ActionSpan) → IsWholeStep None (step_of act.Result f l) ts → RootGoal (names ++ f ∷ []) rest → RootGoal names (a_tree (node (step_of act.Result f l) ts) rest)
  root_result names f l ts rest w more at es low read =
      let t : LabelledTree ActionSpan = node (step_of act.Result f l) ts in
      let os = operations_in values text (names ++ f ∷ []) rest in
      let Q : Type 0 = AreScoped isolated false (all_renamed g g os) in
      let c = cut at es t rest low read in
      let first = part_defines isolated g at c.0 act.Result f (λ p. (refl, refl, refl, refl)) (leaf at c.0 act.Result f l ts refl w c.3) in
      let r = more (arrived isolated at c.0) c.1 (low_behind at es t rest low read c.0 first.here) c.4 in (
        f ∷ r.0,
        f ∷ r.1,
        subst (λ z. Has isolated g at z (f ∷ r.0) (f ∷ r.1) (all_mentioned isolated os) (all_operands_of os) Q) (sym c.2)
            (change isolated g at (c.0 ++ c.1) (f ∷ r.0) (f ∷ r.1) (all_mentioned isolated os) (all_operands_of os) (f ∷ r.0) (f ∷ r.1) (all_mentioned isolated os) (all_operands_of os) (Unit {0} × Q) Q
            refl (alike (f ∷ r.1)) (alike (all_mentioned isolated os)) (λ k h. h) (λ z. z.1) (λ q. (tt, q))
            (has_append isolated g at c.0 c.1 (f ∷ []) (f ∷ []) [] [] r.0 r.1 (all_mentioned isolated os) (all_operands_of os) (Unit {0}) Q first.has r.2 low (ap (λ (f : Frame). f.values) first.here))),
        sym (append_assoc names (f ∷ []) r.0) ∙ r.3,
        sym (append_assoc names (f ∷ []) r.1) ∙ r.4,
      )

  root_operation : (names : List ℕ) (kind f l : ℕ) (ts : Trees ActionSpan) → length names ≡ length (values.result_types kind (pieces_in values text ts))
      → OperationGoal ts → RootGoal names (a_tree (node (step_of (act.Operation kind) f l) ts) no_tree)
  root_operation names kind f l ts many inner at es low read =
      let b = isolated kind in
      let rs = regions_in values text ts in
      let us = operands_in ts in
      let P : Type 0 = AreScoped isolated b (all_renamed g g rs) in
      let all = all_definitions_of rs in
      let own = inner_defined b rs in
      let used = us ++ inner_mentioned b rs in
      let said = us ++ all_operands_of rs in
      let named = names_typed names (values.result_types kind (pieces_in values text ts)) many in
      let h = has_operation isolated g all own used said P at es (act.Operation kind) act.EndOperation f l (deeds_in ts) low (read ∙ append-nil (deeds_of (node (step_of (act.Operation kind) f l) ts))) kind
      (λ p. (refl, refl, refl, refl)) (λ p. (refl, refl, refl, refl))
      (λ p i here around later r. inner p i (let same : p.here.values ≡ at.here.values = ap (λ (f : Frame). f.values) here in omega (arith, low, same, later)) r b (ap (λ (f : Frame). f.isolated) here)) in (
        all ++ [],
        own ++ [],
        change isolated g at es all own used said (all ++ []) (own ++ []) (used ++ []) (said ++ []) P ((Unit {0} × P) × Unit {0})
            (sym (append-nil all)) (alike_is own (own ++ []) (sym (append-nil own))) (alike_is used (used ++ []) (sym (append-nil used))) (λ k h. subst (In k) (append-nil said) h)
            (λ p. ((tt, p), tt)) (λ z. z.0.1) h,
        define_both names (names_of (typed names (values.result_types kind (pieces_in values text ts)))) all [] [] named refl,
        define_both names (names_of (typed names (values.result_types kind (pieces_in values text ts)))) own [] [] named refl,
      )

  -- ---- all steps

  -- before a step, in it and behind it operations have as many names as results
  abbrev CountedStep : Action → ℕ → List ℕ → Trees ActionSpan → Trees ActionSpan → Type 0
  CountedStep a f names ts rest = CountsAt values text a names ts × Counts values text [] ts × Counts values text (with_name names a f) rest

  -- what is known of the trees in a step, and of those behind it
  abbrev AllKnown : Trees ActionSpan → Type 0
  AllKnown ts = (p : Position) (names : List ℕ) → Placed p ts → Counts values text names ts → MayName p names → Goal p names ts

  -- how a step at a position is known
  abbrev Steps : Position → Action → Type 0
  Steps p a = (names : List ℕ) (f l : ℕ) (ts rest : Trees ActionSpan) → PlacedBy (move p a) (λ q. Placed q ts) (λ q. Placed q rest) → IsWholeStep (end_of a) (step_of a f l) ts
      → CountedStep a f names ts rest → AllKnown ts → AllKnown rest → Goal p names (a_tree (node (step_of a f l) ts) rest)

  -- the names behind a piece are none
  piece_names : (p : Position) (a : Action) (f : ℕ) (names : List ℕ) (ts rest : Trees ActionSpan) → PlacedBy (piece_move p a) (λ q. Placed q ts) (λ q. Placed q rest)
      → Counts values text (with_name names a f) rest → Counts values text [] rest
  piece_names p (act.Leaf sort) f names ts rest pl c = c
  piece_names p (act.Begin sort kind) f names ts rest pl c = c
  piece_names p act.BeginList f names ts rest pl c = c
  piece_names p (act.BeginChoice n) f names ts rest pl c = c
  piece_names p _ f names ts rest pl c = absurd pl

  inner_known : (ts : Trees ActionSpan) → AllKnown ts → Counts values text [] ts → Known ts []
  inner_known ts k c q pl m = k q [] pl c m

  operation_steps : (a : Action) → Steps in_operation a
  operation_steps act.BeginOperands names f l ts rest pl w c inner more = operands_part f l ts rest (inner in_operands [] pl.0 c.1 tt) (more in_operation [] pl.1 c.2 tt)
  operation_steps act.BeginSuccessor names f l ts rest pl w c inner more = edge_part f l ts rest (inner in_successor [] pl.0 c.1 tt) (more in_operation [] pl.1 c.2 tt)
  operation_steps act.BeginRegion names f l ts rest pl w c inner more = region_part f l ts rest (inner in_region [] pl.0 c.1 tt) (more in_operation [] pl.1 c.2 tt)
  operation_steps act.EndOperation names f l ts rest pl w c inner more = absurd pl
  operation_steps a names f l ts rest pl w c inner more =
      operation_piece a f l ts rest pl w (inner_known ts inner c.1) (more in_operation [] (piece_rest in_operation a ts rest pl) (piece_names in_operation a f names ts rest pl c.2) tt)

  -- a step of a piece where all is quiet
  piece_steps : (p : Position) (a : Action) (names : List ℕ) (f l : ℕ) (ts rest : Trees ActionSpan) → PlacedBy (piece_move p a) (λ q. Placed q ts) (λ q. Placed q rest) → IsWholeStep (end_of a) (step_of a f l) ts
      → CountedStep a f names ts rest → AllKnown ts → QuietGoal rest → QuietGoal (a_tree (node (step_of a f l) ts) rest)
  piece_steps p a names f l ts rest pl w c inner more = quiet_then a a f l ts rest (piece_quiet p a f l ts rest pl w (quiet_known ts (inner_known ts inner c.1))) more

  -- a value is not ended among its own pieces
  end_placed : (sort s : ValueSort) (P Q : Position → Type 0) → PlacedBy (end_move sort s) P Q → ⊥
  end_placed sorts.«Type» sorts.«Type» P Q pl = absurd pl
  end_placed sorts.«Type» sorts.Attribute P Q pl = absurd pl
  end_placed sorts.Attribute sorts.«Type» P Q pl = absurd pl
  end_placed sorts.Attribute sorts.Attribute P Q pl = absurd pl

  value_steps : (sort : ValueSort) (a : Action) → Steps (in_value sort) a
  value_steps sort (act.End s) names f l ts rest pl w c inner more = absurd (end_placed sort s (λ q. Placed q ts) (λ q. Placed q rest) pl)
  value_steps sort a names f l ts rest pl w c inner more =
      piece_steps (in_value sort) a names f l ts rest pl w c inner (more (in_value sort) [] (piece_rest (in_value sort) a ts rest pl) (piece_names (in_value sort) a f names ts rest pl c.2) tt)

  item_steps : (a : Action) → Steps in_item a
  item_steps act.EndItem names f l ts rest pl w c inner more = absurd pl
  item_steps a names f l ts rest pl w c inner more =
      piece_steps in_item a names f l ts rest pl w c inner (more in_item [] (piece_rest in_item a ts rest pl) (piece_names in_item a f names ts rest pl c.2) tt)

  choice_steps : (a : Action) → Steps in_choice a
  choice_steps act.EndChoice names f l ts rest pl w c inner more = absurd pl
  choice_steps a names f l ts rest pl w c inner more =
      piece_steps in_choice a names f l ts rest pl w c inner (more in_choice [] (piece_rest in_choice a ts rest pl) (piece_names in_choice a f names ts rest pl c.2) tt)

  list_steps : (a : Action) → Steps in_list a
  list_steps act.BeginItem names f l ts rest pl w c inner more =
      quiet_then act.BeginItem act.EndItem f l ts rest
      (λ at es low. quiet_node at es act.BeginItem act.EndItem f l ts (λ p. (refl, refl, refl, refl)) (λ p. (refl, refl, refl, refl)) refl low (inner in_item [] pl.0 c.1 tt))
      (more in_list [] pl.1 c.2 tt)
  list_steps _ names f l ts rest pl w c inner more = absurd pl

  operand_part : (f l : ℕ) (ts rest : Trees ActionSpan) → IsWholeStep None (step_of act.Operand f l) ts → OperandsGoal rest → OperandsGoal (a_tree (node (step_of act.Operand f l) ts) rest)
  operand_part f l ts rest w more at es low read =
      let t : LabelledTree ActionSpan = node (step_of act.Operand f l) ts in
      let ks = tokens_in rest in
      part_change isolated g at es [] [] (f ∷ ks) (f ∷ ks) [] [] (f ∷ ks) (f ∷ ks) (Unit {0} × Unit {0}) (Unit {0}) refl (alike []) (alike (f ∷ ks)) (λ k h. h) (λ z. tt) (λ z. (tt, tt))
      (both at es t rest low read [] [] (f ∷ []) (f ∷ []) [] [] ks ks (Unit {0}) (Unit {0})
      (λ e reads. part_mentions isolated g at e f (leaf at e act.Operand f l ts refl w reads))
      (λ e b here around r. more (arrived isolated at e) b (low_behind at es t rest low read e here) r))

  operand_steps : (a : Action) → Steps in_operands a
  operand_steps act.Operand names f l ts rest pl w c inner more = operand_part f l ts rest w (more in_operands [] pl c.2 tt)
  operand_steps _ names f l ts rest pl w c inner more = absurd pl

  edge_steps : (a : Action) → Steps in_successor a
  edge_steps act.Operand names f l ts rest pl w c inner more = operand_part f l ts rest w (more in_successor [] pl c.2 tt)
  edge_steps _ names f l ts rest pl w c inner more = absurd pl

  region_steps : (a : Action) → Steps in_region a
  region_steps act.Label names f l ts rest pl w c inner more = label_part f l ts rest (inner in_header [] pl.0 c.1 tt) (more in_region [] pl.1 c.2 tt)
  region_steps _ names f l ts rest pl w c inner more = absurd pl

  header_steps : (a : Action) → Steps in_header a
  header_steps act.Argument names f l ts rest pl w c inner more = argument_part f l ts rest w (more in_argument [] pl c.2 tt)
  header_steps act.Header names f l ts rest pl w c inner more = header_part f l ts rest w (more in_block [] pl c.2 refl)
  header_steps _ names f l ts rest pl w c inner more = absurd pl

  argument_steps : (a : Action) → Steps in_argument a
  argument_steps (act.Begin sorts.«Type» kind) names f l ts rest pl w c inner more = type_part kind f l ts rest (inner (in_value sorts.«Type») [] pl.0 c.1 tt) (more in_header [] pl.1 c.2 tt)
  argument_steps _ names f l ts rest pl w c inner more = absurd pl

  block_steps : (a : Action) → Steps in_block a
  block_steps act.Result names f l ts rest pl w c inner more = result_part names f l ts rest w (more behind_results (names ++ f ∷ []) pl c.2 tt)
  block_steps (act.Operation kind) names f l ts rest pl w c inner more = block_part names kind f l ts rest c.0 (inner in_operation [] pl.0 c.1 tt) (more in_block [] pl.1 c.2 refl)
  block_steps _ names f l ts rest pl w c inner more = absurd pl

  results_steps : (a : Action) → Steps behind_results a
  results_steps act.Result names f l ts rest pl w c inner more = result_part names f l ts rest w (more behind_results (names ++ f ∷ []) pl c.2 tt)
  results_steps (act.Operation kind) names f l ts rest pl w c inner more = block_part names kind f l ts rest c.0 (inner in_operation [] pl.0 c.1 tt) (more in_block [] pl.1 c.2 refl)
  results_steps _ names f l ts rest pl w c inner more = absurd pl

  -- nothing stands behind the root
  root_last : (names : List ℕ) (kind f l : ℕ) (ts rest : Trees ActionSpan) → length names ≡ length (values.result_types kind (pieces_in values text ts)) → OperationGoal ts → rest ≡ no_tree
      → RootGoal names (a_tree (node (step_of (act.Operation kind) f l) ts) rest)
  root_last names kind f l ts rest many inner e = subst (λ us. RootGoal names (a_tree (node (step_of (act.Operation kind) f l) ts) us)) (sym e) (root_operation names kind f l ts many inner)

  root_steps : (a : Action) → Steps at_root a
  root_steps act.Result names f l ts rest pl w c inner more = root_result names f l ts rest w (more behind_root_results (names ++ f ∷ []) pl c.2 tt)
  root_steps (act.Operation kind) names f l ts rest pl w c inner more = root_last names kind f l ts rest c.0 (inner in_operation [] pl.0 c.1 tt) (more at_end [] pl.1 c.2 tt)
  root_steps _ names f l ts rest pl w c inner more = absurd pl

  root_results_steps : (a : Action) → Steps behind_root_results a
  root_results_steps act.Result names f l ts rest pl w c inner more = root_result names f l ts rest w (more behind_root_results (names ++ f ∷ []) pl c.2 tt)
  root_results_steps (act.Operation kind) names f l ts rest pl w c inner more = root_last names kind f l ts rest c.0 (inner in_operation [] pl.0 c.1 tt) (more at_end [] pl.1 c.2 tt)
  root_results_steps _ names f l ts rest pl w c inner more = absurd pl

  steps : (p : Position) (a : Action) → Steps p a
  steps at_root a = root_steps a
  steps behind_root_results a = root_results_steps a
  steps at_end a = λ names f l ts rest pl w c inner more. absurd pl
  steps in_operation a = operation_steps a
  steps in_operands a = operand_steps a
  steps in_successor a = edge_steps a
  steps in_region a = region_steps a
  steps in_header a = header_steps a
  steps in_argument a = argument_steps a
  steps in_block a = block_steps a
  steps behind_results a = results_steps a
  steps (in_value sort) a = value_steps sort a
  steps in_list a = list_steps a
  steps in_item a = item_steps a
  steps in_choice a = choice_steps a

  walk : (ts : Trees ActionSpan) → AreWhole ts → AllKnown ts
  walk no_tree w p names pl c m = none p names pl m
  walk (a_tree (node s ts) rest) w p names pl c m = steps p s.action names s.first s.last ts rest pl w.0 c (walk ts w.1) (walk rest w.2)

  -- of a whole text: what its names are, by its tree
  pub root_known : (ts : Trees ActionSpan) → AreWhole ts → Placed at_root ts → Counts values text [] ts → (at : EventPlace) (es : List Event) → at.here.values ≤ at.events → deeds_from at.tokens es ≡ deeds_in ts
      → Has isolated g at es (all_definitions_of (operations_in values text [] ts)) (all_defined isolated (operations_in values text [] ts)) (all_mentioned isolated (operations_in values text [] ts))
      (all_operands_of (operations_in values text [] ts)) (AreScoped isolated false (all_renamed g g (operations_in values text [] ts)))
  root_known ts w pl c at es low read =
      let r = walk ts w at_root [] pl c tt at es low read in
      let os = operations_in values text [] ts in
      change isolated g at es r.0 r.1 (all_mentioned isolated os) (all_operands_of os) (all_definitions_of os) (all_defined isolated os) (all_mentioned isolated os) (all_operands_of os)
      (AreScoped isolated false (all_renamed g g os)) (AreScoped isolated false (all_renamed g g os)) r.3 (alike_is r.1 (all_defined isolated os) r.4) (alike (all_mentioned isolated os)) (λ k h. h) (λ q. q) (λ q. q) r.2
