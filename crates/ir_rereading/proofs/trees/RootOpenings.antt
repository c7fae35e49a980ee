-- The regions of the root, in what is read and in its tree.
use Rattle.std.proofs.Common.{◌≡◌, ℕ, suc, ◌+◌, ◌-◌, ◌<◌, Bool, true, false, cond, List, [], ◌∷◌, ◌++◌, map, length, Some, None, slice_get, refl, sym, subst, ap, ◌∙◌, arith}
use Rattle.std.proofs.lemmas.List.{append_assoc, append-nil}
use Rattle.ir_names.specs.Tree.{Trees, node, no_tree, a_tree}
use Rattle.ir_print.specs.Pieces.{Values, EntityHead, operation, a_region, block, Entity, entity, Entities, no_entity, an_entity}
use Rattle.ir_print.specs.declared.format.ValueSort.{ValueSort}
use Rattle.ir_print.specs.declared.format.ValueSort.TheVariants as sorts
use Rattle.ir_grammar.specs.declared.grammar.Action.{Action}
use Rattle.ir_grammar.specs.declared.grammar.Action.TheVariants as act
use Rattle.ir_grammar.specs.declared.grammar.Event.{Event}
use Rattle.ir_grammar.specs.declared.grammar.Event.TheVariants.{Took, Did}
use Rattle.ir_grammar.specs.Nesting.{Position, at_root, behind_root_results, at_end, in_operation, in_operands, in_successor, in_value, in_list, in_item, in_choice, move, end_move, piece_move}
use Rattle.ir_tokens.specs.declared.faults.Fault.{Fault}
use Rattle.ir_scopes.specs.declared.sites.Frame.{Frame}
use Rattle.ir_scopes.specs.Scopes.{EventPlace, beginning, behind, last_token, here_after, around_after, here_behind_operation, here_behind_region, rest, is_around_root, opened_below_root, root_openings, each, fault_not_isolated, IsRootFault}
use Rattle.ir_forest.specs.Closed.{is_isolated_head, number_in, IsIsolatedRoot}
use Rattle.ir_forest.specs.Forest.{end_of, Deed, deeds_from, ActionSpan, ending, deeds_of, deeds_in, IsWholeStep, AreWhole, IsForestOf}
use Rattle.ir_forest.specs.Meaning.{head_of, operations_in, regions_in, renamed_head, renamed, all_renamed}
use Rattle.ir_forest.specs.Progress.{Leads}
use Rattle.ir_rereading.proofs.trees.TreePlaces.{PlacedBy, Placed, forest_placed}

-- ---- by deeds, of what is open only whether it is isolated

-- only one is open around
abbrev is_one : List Bool → Bool
is_one (b ∷ []) = true
is_one _ = false

abbrev flag_behind_operation : List Bool → Bool
flag_behind_operation [] = false
flag_behind_operation (b ∷ []) = false
flag_behind_operation (b ∷ c ∷ bs) = b

abbrev flag_behind_region : Bool → List Bool → Bool
flag_behind_region here [] = here
flag_behind_region here (b ∷ bs) = b

abbrev others : List Bool → List Bool
others [] = []
others (b ∷ bs) = bs

abbrev flags : List Frame → List Bool
flags fs = map (λ (f : Frame). f.isolated) fs

-- a step of an action, with the tokens where it begins and ends
abbrev step_of : Action → ℕ → ℕ → ActionSpan
step_of a f l = record { action = a; first = f; last = l }

-- the tokens that open the regions among steps
abbrev region_token : Action → ℕ → List ℕ
region_token act.BeginRegion k = k ∷ []
region_token _ k = []

abbrev region_tokens : Trees ActionSpan → List ℕ
region_tokens no_tree = []
region_tokens (a_tree (node s ts) more) = region_token s.action s.first ++ region_tokens more

laid : (a : Action) (f l : ℕ) (ts more : Trees ActionSpan) (ds : List Deed)
    → deeds_in (a_tree (node (step_of a f l) ts) more) ++ ds ≡ (a, f) ∷ (deeds_in ts ++ (ending (end_of a) l ++ (deeds_in more ++ ds)))
laid a f l ts more ds =
    append_assoc (deeds_of (node (step_of a f l) ts)) (deeds_in more) ds
    ∙ ap (λ (z : List Deed). (a, f) ∷ z) (append_assoc (deeds_in ts) (ending (end_of a) l) (deeds_in more ++ ds))

-- a value is not ended among its own pieces
end_placed : (sort s : ValueSort) (P Q : Position → Type 0) → PlacedBy (end_move sort s) P Q → ⊥
end_placed sorts.«Type» sorts.«Type» P Q pl = absurd pl
end_placed sorts.«Type» sorts.Attribute P Q pl = absurd pl
end_placed sorts.Attribute sorts.«Type» P Q pl = absurd pl
end_placed sorts.Attribute sorts.Attribute P Q pl = absurd pl

module _ (isolated : ℕ → Bool) where
  abbrev flag_after : Action → Bool → List Bool → Bool
  flag_after (act.Operation n) here around = isolated n
  flag_after act.EndOperation here around = flag_behind_operation around
  flag_after act.BeginRegion here around = false
  flag_after act.EndRegion here around = flag_behind_region here around
  flag_after _ here around = here

  abbrev flags_after : Action → Bool → List Bool → List Bool
  flags_after (act.Operation n) here around = here ∷ around
  flags_after act.EndOperation here around = others around
  flags_after act.BeginRegion here around = here ∷ around
  flags_after act.EndRegion here around = others around
  flags_after _ here around = around

  abbrev opened_by : Action → Bool → List Bool → ℕ → List ℕ
  opened_by act.BeginRegion here around k = cond (is_one around) (cond here [] (k ∷ [])) []
  opened_by _ here around k = []

  -- the tokens that open regions of a root that isn't isolated
  abbrev opened : Bool → List Bool → List Deed → List ℕ
  opened here around [] = []
  opened here around (d ∷ ds) = opened_by d.0 here around d.1 ++ opened (flag_after d.0 here around) (flags_after d.0 here around) ds

  -- ---- events

  one : (fs : List Frame) → is_around_root fs ≡ is_one (flags fs)
  one [] = refl
  one (f ∷ []) = refl
  one (f ∷ g ∷ fs) = refl

  made : (at : EventPlace) (a : Action) → opened_below_root at (Did a) ≡ opened_by a at.here.isolated (flags at.around) (at.tokens - 1)
  made at act.BeginRegion = ap (λ b. cond b (cond at.here.isolated [] (last_token at ∷ [])) []) (one at.around)
  made at _ = refl

  flag_next : (at : EventPlace) (a : Action) → (here_after isolated at a).isolated ≡ flag_after a at.here.isolated (flags at.around)
  flag_next at act.EndOperation = go at.around
    where
      go : (fs : List Frame) → (here_behind_operation at.events fs).isolated ≡ flag_behind_operation (flags fs)
      go [] = refl
      go (f ∷ []) = refl
      go (f ∷ g ∷ fs) = refl
  flag_next at act.EndRegion = go at.around
    where
      go : (fs : List Frame) → (here_behind_region at.here fs).isolated ≡ flag_behind_region at.here.isolated (flags fs)
      go [] = refl
      go (f ∷ fs) = refl
  flag_next at _ = refl

  rest_flags : (fs : List Frame) → flags (rest fs) ≡ others (flags fs)
  rest_flags [] = refl
  rest_flags (f ∷ fs) = refl

  flags_next : (at : EventPlace) (a : Action) → flags (around_after at a) ≡ flags_after a at.here.isolated (flags at.around)
  flags_next at act.EndOperation = rest_flags at.around
  flags_next at act.EndRegion = rest_flags at.around
  flags_next at _ = refl

  by_deeds : (at : EventPlace) (es : List Event) → each isolated opened_below_root at es ≡ opened at.here.isolated (flags at.around) (deeds_from at.tokens es)
  by_deeds at [] = refl
  by_deeds at (Took ∷ es) = by_deeds (behind isolated at Took) es
  by_deeds at (Did a ∷ es) =
      let now = flag_after a at.here.isolated (flags at.around) in
      let ds = deeds_from at.tokens es in
      ap (λ z. opened_below_root at (Did a) ++ z) (by_deeds (behind isolated at (Did a)) es)
      ∙ (ap (λ z. z ++ opened (here_after isolated at a).isolated (flags (around_after at a)) ds) (made at a)
      ∙ (ap (λ b. opened_by a at.here.isolated (flags at.around) (at.tokens - 1) ++ opened b (flags (around_after at a)) ds) (flag_next at a)
      ∙ ap (λ bs. opened_by a at.here.isolated (flags at.around) (at.tokens - 1) ++ opened now bs ds) (flags_next at a)))

  -- ---- trees in a region

  -- nothing opens below the root where two are open around, and what is open stays so
  abbrev Passes : Trees ActionSpan → Type 0
  Passes ts = (here x y : Bool) (bs : List Bool) (ds : List Deed) → opened here (x ∷ y ∷ bs) (deeds_in ts ++ ds) ≡ opened here (x ∷ y ∷ bs) ds

  deep_bracket : (a : Action) (f l : ℕ) (ts more : Trees ActionSpan) (here x y : Bool) (bs : List Bool) (ds : List Deed)
      → opened here (x ∷ y ∷ bs) ((a, f) ∷ (deeds_in ts ++ (ending (end_of a) l ++ (deeds_in more ++ ds)))) ≡ opened here (x ∷ y ∷ bs) (deeds_in more ++ ds)
      → Passes more → opened here (x ∷ y ∷ bs) (deeds_in (a_tree (node (step_of a f l) ts) more) ++ ds) ≡ opened here (x ∷ y ∷ bs) ds
  deep_bracket a f l ts more here x y bs ds first after = ap (opened here (x ∷ y ∷ bs)) (laid a f l ts more ds) ∙ (first ∙ after here x y bs ds)

  deep_step : (a : Action) (f l : ℕ) (ts more : Trees ActionSpan) → IsWholeStep (end_of a) (step_of a f l) ts → Passes ts → Passes more → Passes (a_tree (node (step_of a f l) ts) more)
  deep_step (act.Operation n) f l ts more w inner after here x y bs ds =
      deep_bracket (act.Operation n) f l ts more here x y bs ds (inner (isolated n) here x (y ∷ bs) ((act.EndOperation, l) ∷ (deeds_in more ++ ds))) after
  deep_step act.BeginRegion f l ts more w inner after here x y bs ds =
      deep_bracket act.BeginRegion f l ts more here x y bs ds (inner false here x (y ∷ bs) ((act.EndRegion, l) ∷ (deeds_in more ++ ds))) after
  deep_step act.Label f l ts more w inner after here x y bs ds =
      deep_bracket act.Label f l ts more here x y bs ds (inner here x y bs ((act.EndBlock, l) ∷ (deeds_in more ++ ds))) after
  deep_step (act.Begin sort kind) f l ts more w inner after here x y bs ds =
      deep_bracket (act.Begin sort kind) f l ts more here x y bs ds (inner here x y bs ((act.End sort, l) ∷ (deeds_in more ++ ds))) after
  deep_step act.BeginOperands f l ts more w inner after here x y bs ds =
      deep_bracket act.BeginOperands f l ts more here x y bs ds (inner here x y bs ((act.EndOperands, l) ∷ (deeds_in more ++ ds))) after
  deep_step act.BeginSuccessor f l ts more w inner after here x y bs ds =
      deep_bracket act.BeginSuccessor f l ts more here x y bs ds (inner here x y bs ((act.EndSuccessor, l) ∷ (deeds_in more ++ ds))) after
  deep_step act.BeginList f l ts more w inner after here x y bs ds =
      deep_bracket act.BeginList f l ts more here x y bs ds (inner here x y bs ((act.EndList, l) ∷ (deeds_in more ++ ds))) after
  deep_step act.BeginItem f l ts more w inner after here x y bs ds =
      deep_bracket act.BeginItem f l ts more here x y bs ds (inner here x y bs ((act.EndItem, l) ∷ (deeds_in more ++ ds))) after
  deep_step (act.BeginChoice n) f l ts more w inner after here x y bs ds =
      deep_bracket (act.BeginChoice n) f l ts more here x y bs ds (inner here x y bs ((act.EndChoice, l) ∷ (deeds_in more ++ ds))) after
  deep_step act.Result f l ts more w inner after here x y bs ds =
      deep_bracket act.Result f l ts more here x y bs ds (ap (λ us. opened here (x ∷ y ∷ bs) (deeds_in us ++ (deeds_in more ++ ds))) w.2) after
  deep_step act.Argument f l ts more w inner after here x y bs ds =
      deep_bracket act.Argument f l ts more here x y bs ds (ap (λ us. opened here (x ∷ y ∷ bs) (deeds_in us ++ (deeds_in more ++ ds))) w.2) after
  deep_step act.Header f l ts more w inner after here x y bs ds =
      deep_bracket act.Header f l ts more here x y bs ds (ap (λ us. opened here (x ∷ y ∷ bs) (deeds_in us ++ (deeds_in more ++ ds))) w.2) after
  deep_step (act.Leaf sort) f l ts more w inner after here x y bs ds =
      deep_bracket (act.Leaf sort) f l ts more here x y bs ds (ap (λ us. opened here (x ∷ y ∷ bs) (deeds_in us ++ (deeds_in more ++ ds))) w.2) after
  deep_step act.Operand f l ts more w inner after here x y bs ds =
      deep_bracket act.Operand f l ts more here x y bs ds (ap (λ us. opened here (x ∷ y ∷ bs) (deeds_in us ++ (deeds_in more ++ ds))) w.2) after
  deep_step _ f l ts more w inner after here x y bs ds = let wrong : true ≡ false = w.0 in cc

  deep : (ts : Trees ActionSpan) → AreWhole ts → Passes ts
  deep no_tree w = λ here x y bs ds. refl
  deep (a_tree (node s ts) more) w = deep_step s.action s.first s.last ts more w.0 (deep ts w.1) (deep more w.2)

  -- ---- trees without regions

  -- no region stands in what stands here
  abbrev IsInner : Position → Type 0
  IsInner in_operands = Unit {0}
  IsInner in_successor = Unit {0}
  IsInner (in_value sort) = Unit {0}
  IsInner in_list = Unit {0}
  IsInner in_item = Unit {0}
  IsInner in_choice = Unit {0}
  IsInner _ = ⊥

  -- nothing opens, and what is open stays so
  abbrev Quiet : Trees ActionSpan → Type 0
  Quiet ts = (here : Bool) (bs : List Bool) (ds : List Deed) → opened here bs (deeds_in ts ++ ds) ≡ opened here bs ds

  abbrev Known : Trees ActionSpan → Type 0
  Known ts = (p : Position) → IsInner p → Placed p ts → Quiet ts

  abbrev QuietStep : Position → Action → Type 0
  QuietStep p a = (f l : ℕ) (ts more : Trees ActionSpan) → IsInner p → PlacedBy (move p a) (λ q. Placed q ts) (λ q. Placed q more) → IsWholeStep (end_of a) (step_of a f l) ts
      → Known ts → Known more → Quiet (a_tree (node (step_of a f l) ts) more)

  quiet_piece : (p : Position) (a : Action) (f l : ℕ) (ts more : Trees ActionSpan) → IsInner p → PlacedBy (piece_move p a) (λ q. Placed q ts) (λ q. Placed q more) → IsWholeStep (end_of a) (step_of a f l) ts
      → Known ts → Known more → Quiet (a_tree (node (step_of a f l) ts) more)
  quiet_piece p (act.Leaf sort) f l ts more i pl w inner after here bs ds =
      ap (opened here bs) (laid (act.Leaf sort) f l ts more ds) ∙ (ap (λ us. opened here bs (deeds_in us ++ (deeds_in more ++ ds))) w.2 ∙ after p i pl here bs ds)
  quiet_piece p (act.Begin sort kind) f l ts more i pl w inner after here bs ds =
      ap (opened here bs) (laid (act.Begin sort kind) f l ts more ds) ∙ (inner (in_value sort) tt pl.0 here bs ((act.End sort, l) ∷ (deeds_in more ++ ds)) ∙ after p i pl.1 here bs ds)
  quiet_piece p act.BeginList f l ts more i pl w inner after here bs ds =
      ap (opened here bs) (laid act.BeginList f l ts more ds) ∙ (inner in_list tt pl.0 here bs ((act.EndList, l) ∷ (deeds_in more ++ ds)) ∙ after p i pl.1 here bs ds)
  quiet_piece p (act.BeginChoice n) f l ts more i pl w inner after here bs ds =
      ap (opened here bs) (laid (act.BeginChoice n) f l ts more ds) ∙ (inner in_choice tt pl.0 here bs ((act.EndChoice, l) ∷ (deeds_in more ++ ds)) ∙ after p i pl.1 here bs ds)
  quiet_piece p _ f l ts more i pl w inner after here bs ds = absurd pl

  quiet_value : (sort : ValueSort) (a : Action) → QuietStep (in_value sort) a
  quiet_value sort (act.End s) f l ts more i pl w inner after = absurd (end_placed sort s (λ q. Placed q ts) (λ q. Placed q more) pl)
  quiet_value sort a f l ts more i pl w inner after = quiet_piece (in_value sort) a f l ts more i pl w inner after

  quiet_item : (a : Action) → QuietStep in_item a
  quiet_item act.EndItem f l ts more i pl w inner after = absurd pl
  quiet_item a f l ts more i pl w inner after = quiet_piece in_item a f l ts more i pl w inner after

  quiet_choice : (a : Action) → QuietStep in_choice a
  quiet_choice act.EndChoice f l ts more i pl w inner after = absurd pl
  quiet_choice a f l ts more i pl w inner after = quiet_piece in_choice a f l ts more i pl w inner after

  quiet_list : (a : Action) → QuietStep in_list a
  quiet_list act.BeginItem f l ts more i pl w inner after here bs ds =
      ap (opened here bs) (laid act.BeginItem f l ts more ds) ∙ (inner in_item tt pl.0 here bs ((act.EndItem, l) ∷ (deeds_in more ++ ds)) ∙ after in_list tt pl.1 here bs ds)
  quiet_list _ f l ts more i pl w inner after here bs ds = absurd pl

  quiet_operands : (a : Action) → QuietStep in_operands a
  quiet_operands act.Operand f l ts more i pl w inner after here bs ds =
      ap (opened here bs) (laid act.Operand f l ts more ds) ∙ (ap (λ us. opened here bs (deeds_in us ++ (deeds_in more ++ ds))) w.2 ∙ after in_operands tt pl here bs ds)
  quiet_operands _ f l ts more i pl w inner after here bs ds = absurd pl

  quiet_edge : (a : Action) → QuietStep in_successor a
  quiet_edge act.Operand f l ts more i pl w inner after here bs ds =
      ap (opened here bs) (laid act.Operand f l ts more ds) ∙ (ap (λ us. opened here bs (deeds_in us ++ (deeds_in more ++ ds))) w.2 ∙ after in_successor tt pl here bs ds)
  quiet_edge _ f l ts more i pl w inner after here bs ds = absurd pl

  quiet_step : (p : Position) (a : Action) → QuietStep p a
  quiet_step in_operands a = quiet_operands a
  quiet_step in_successor a = quiet_edge a
  quiet_step (in_value sort) a = quiet_value sort a
  quiet_step in_list a = quiet_list a
  quiet_step in_item a = quiet_item a
  quiet_step in_choice a = quiet_choice a
  quiet_step _ a = λ f l ts more i pl w inner after. absurd i

  quiet : (ts : Trees ActionSpan) → AreWhole ts → Known ts
  quiet no_tree w p i pl = λ here bs ds. refl
  quiet (a_tree (node s ts) more) w p i pl = quiet_step p s.action s.first s.last ts more i pl w.0 (quiet ts w.1) (quiet more w.2)

  -- ---- the pieces of the root

  -- the root's regions open, and what is open stays so
  abbrev Opens : Trees ActionSpan → Type 0
  Opens ts = (here x : Bool) (ds : List Deed) → opened here (x ∷ []) (deeds_in ts ++ ds) ≡ cond here [] (region_tokens ts) ++ opened here (x ∷ []) ds

  opens_step : (a : Action) (f l : ℕ) (ts more : Trees ActionSpan) → PlacedBy (move in_operation a) (λ q. Placed q ts) (λ q. Placed q more) → IsWholeStep (end_of a) (step_of a f l) ts
      → Known ts → Passes ts → (Placed in_operation more → Opens more) → Opens (a_tree (node (step_of a f l) ts) more)
  opens_step act.BeginOperands f l ts more pl w inner below after here x ds =
      ap (opened here (x ∷ [])) (laid act.BeginOperands f l ts more ds) ∙ (inner in_operands tt pl.0 here (x ∷ []) ((act.EndOperands, l) ∷ (deeds_in more ++ ds)) ∙ after pl.1 here x ds)
  opens_step act.BeginSuccessor f l ts more pl w inner below after here x ds =
      ap (opened here (x ∷ [])) (laid act.BeginSuccessor f l ts more ds) ∙ (inner in_successor tt pl.0 here (x ∷ []) ((act.EndSuccessor, l) ∷ (deeds_in more ++ ds)) ∙ after pl.1 here x ds)
  opens_step (act.Leaf sort) f l ts more pl w inner below after here x ds =
      ap (opened here (x ∷ [])) (laid (act.Leaf sort) f l ts more ds) ∙ (ap (λ us. opened here (x ∷ []) (deeds_in us ++ (deeds_in more ++ ds))) w.2 ∙ after pl here x ds)
  opens_step (act.Begin sort kind) f l ts more pl w inner below after here x ds =
      ap (opened here (x ∷ [])) (laid (act.Begin sort kind) f l ts more ds) ∙ (inner (in_value sort) tt pl.0 here (x ∷ []) ((act.End sort, l) ∷ (deeds_in more ++ ds)) ∙ after pl.1 here x ds)
  opens_step act.BeginList f l ts more pl w inner below after here x ds =
      ap (opened here (x ∷ [])) (laid act.BeginList f l ts more ds) ∙ (inner in_list tt pl.0 here (x ∷ []) ((act.EndList, l) ∷ (deeds_in more ++ ds)) ∙ after pl.1 here x ds)
  opens_step (act.BeginChoice n) f l ts more pl w inner below after here x ds =
      ap (opened here (x ∷ [])) (laid (act.BeginChoice n) f l ts more ds) ∙ (inner in_choice tt pl.0 here (x ∷ []) ((act.EndChoice, l) ∷ (deeds_in more ++ ds)) ∙ after pl.1 here x ds)
  opens_step act.BeginRegion f l ts more pl w inner below after true x ds =
      ap (opened true (x ∷ [])) (laid act.BeginRegion f l ts more ds) ∙ (below false true x [] ((act.EndRegion, l) ∷ (deeds_in more ++ ds)) ∙ after pl.1 true x ds)
  opens_step act.BeginRegion f l ts more pl w inner below after false x ds =
      ap (opened false (x ∷ [])) (laid act.BeginRegion f l ts more ds) ∙ ap (λ ks. f ∷ ks) (below false false x [] ((act.EndRegion, l) ∷ (deeds_in more ++ ds)) ∙ after pl.1 false x ds)
  opens_step _ f l ts more pl w inner below after here x ds = absurd pl

  opens : (ts : Trees ActionSpan) → AreWhole ts → Placed in_operation ts → Opens ts
  opens no_tree w pl true x ds = refl
  opens no_tree w pl false x ds = refl
  opens (a_tree (node s ts) more) w pl here x ds = opens_step s.action s.first s.last ts more pl w.0 (quiet ts w.1) (deep ts w.1) (opens more w.2) here x ds

  -- ---- the root

  module _ (values : Values) (text : ℕ → List ℕ) where
    many_regions : (ts : Trees ActionSpan) → number_in (regions_in values text ts) ≡ length (region_tokens ts)
    many_regions no_tree = refl
    many_regions (a_tree (node s ts) more) = go s.action (many_regions more)
      where
        go : (a : Action) → number_in (regions_in values text more) ≡ length (region_tokens more)
            → number_in (regions_in values text (a_tree (node (step_of a s.first s.last) ts) more)) ≡ length (region_token a s.first ++ region_tokens more)
        go act.BeginRegion e = ap suc e
        go _ e = e

    -- nothing opens exactly where the root is isolated or has no region
    abbrev IsClear : Trees ActionSpan → Entity ℕ → Type 0
    IsClear ts t = (opened false [] (deeds_in ts) ≡ [] → IsIsolatedRoot isolated t) × (IsIsolatedRoot isolated t → opened false [] (deeds_in ts) ≡ [])

    clear : (kind f l : ℕ) (names : List ℕ) (ts : Trees ActionSpan) → AreWhole ts → Placed in_operation ts
        → IsClear (a_tree (node (step_of (act.Operation kind) f l) ts) no_tree) (entity (head_of values text names ts kind) (regions_in values text ts))
    clear kind f l names ts w pl = (λ e. to (sym all ∙ e), λ h. all ∙ back h)
      where
        all : opened false [] (deeds_in (a_tree (node (step_of (act.Operation kind) f l) ts) no_tree)) ≡ cond (isolated kind) [] (region_tokens ts)
        all =
            ap (opened false []) (sym (append-nil (deeds_in (a_tree (node (step_of (act.Operation kind) f l) ts) no_tree))) ∙ laid (act.Operation kind) f l ts no_tree [])
            ∙ (opens ts w pl (isolated kind) false ((act.EndOperation, l) ∷ []) ∙ append-nil (cond (isolated kind) [] (region_tokens ts)))

        to : cond (isolated kind) [] (region_tokens ts) ≡ [] → 0 < number_in (regions_in values text ts) → isolated kind ≡ true
        to e some = go (isolated kind) e
          where
            go : (b : Bool) → cond b [] (region_tokens ts) ≡ [] → b ≡ true
            go true e = refl
            go false e = let none : length (region_tokens ts) ≡ 0 = ap length e in let many = many_regions ts in absurd (omega arith)

        back : (0 < number_in (regions_in values text ts) → isolated kind ≡ true) → cond (isolated kind) [] (region_tokens ts) ≡ []
        back h = go (isolated kind) (region_tokens ts) (λ some. h (let many = many_regions ts in omega arith))
          where
            go : (b : Bool) (ks : List ℕ) → (0 < length ks → b ≡ true) → cond b [] ks ≡ []
            go true ks h = refl
            go false [] h = refl
            go false (k ∷ ks) h = let wrong : false ≡ true = h (omega arith) in cc

    -- before the root, or behind names of its results
    abbrev IsBefore : Position → Type 0
    IsBefore at_root = Unit {0}
    IsBefore behind_root_results = Unit {0}
    IsBefore _ = ⊥

    abbrev ClearStep : Position → Action → Type 0
    ClearStep p a = (f l : ℕ) (ts more : Trees ActionSpan) → PlacedBy (move p a) (λ q. Placed q ts) (λ q. Placed q more) → IsWholeStep (end_of a) (step_of a f l) ts → AreWhole ts
        → (names : List ℕ) (t : Entity ℕ) → operations_in values text names (a_tree (node (step_of a f l) ts) more) ≡ an_entity t no_entity
        → (Placed behind_root_results more → operations_in values text (names ++ f ∷ []) more ≡ an_entity t no_entity → IsClear more t)
        → IsClear (a_tree (node (step_of a f l) ts) more) t

    head_same : (t u : Entity ℕ) (ts us : Entities ℕ) → an_entity t ts ≡ an_entity u us → t ≡ u
    head_same t u ts us e = cc

    last : (more : Trees ActionSpan) → Placed at_end more → more ≡ no_tree
    last no_tree pl = refl
    last (a_tree (node s ts) more) pl = absurd pl

    clear_result : (f l : ℕ) (ts more : Trees ActionSpan) (t : Entity ℕ) → IsWholeStep None (step_of act.Result f l) ts → IsClear more t → IsClear (a_tree (node (step_of act.Result f l) ts) more) t
    clear_result f l ts more t w c = (λ e. c.0 (sym same ∙ e), λ h. same ∙ c.1 h)
      where
        same : opened false [] (deeds_in (a_tree (node (step_of act.Result f l) ts) more)) ≡ opened false [] (deeds_in more)
        same = ap (λ us. opened false [] ((deeds_in us ++ []) ++ deeds_in more)) w.2

    clear_operation : (kind f l : ℕ) (ts more : Trees ActionSpan) → Placed in_operation ts → Placed at_end more → AreWhole ts → (names : List ℕ) (t : Entity ℕ)
        → operations_in values text names (a_tree (node (step_of (act.Operation kind) f l) ts) more) ≡ an_entity t no_entity
        → IsClear (a_tree (node (step_of (act.Operation kind) f l) ts) more) t
    clear_operation kind f l ts more pl ends w names t e =
        let root = entity (head_of values text names ts kind) (regions_in values text ts) in
        let is : root ≡ t = head_same root t (operations_in values text [] more) no_entity e in
        subst (λ us. IsClear (a_tree (node (step_of (act.Operation kind) f l) ts) us) t) (sym (last more ends))
        (subst (IsClear (a_tree (node (step_of (act.Operation kind) f l) ts) no_tree)) is (clear kind f l names ts w pl))

    clear_root : (a : Action) → ClearStep at_root a
    clear_root act.Result f l ts more pl w inner names t e after = clear_result f l ts more t w (after pl e)
    clear_root (act.Operation kind) f l ts more pl w inner names t e after = clear_operation kind f l ts more pl.0 pl.1 inner names t e
    clear_root _ f l ts more pl w inner names t e after = absurd pl

    clear_results : (a : Action) → ClearStep behind_root_results a
    clear_results act.Result f l ts more pl w inner names t e after = clear_result f l ts more t w (after pl e)
    clear_results (act.Operation kind) f l ts more pl w inner names t e after = clear_operation kind f l ts more pl.0 pl.1 inner names t e
    clear_results _ f l ts more pl w inner names t e after = absurd pl

    clear_step : (p : Position) → IsBefore p → (a : Action) → ClearStep p a
    clear_step at_root i a = clear_root a
    clear_step behind_root_results i a = clear_results a
    clear_step _ i a = absurd i

    all_clear : (ts : Trees ActionSpan) → AreWhole ts → (p : Position) → IsBefore p → Placed p ts → (names : List ℕ) (t : Entity ℕ) → operations_in values text names ts ≡ an_entity t no_entity → IsClear ts t
    all_clear no_tree w p i pl names t e = cc
    all_clear (a_tree (node s ts) more) w p i pl names t e =
        clear_step p i s.action s.first s.last ts more pl w.0 w.1 names t e (λ q x. all_clear more w.2 behind_root_results tt q (names ++ s.first ∷ []) t x)

    module _ (es : List Event) (forest : Trees ActionSpan) (tree : Entity ℕ) (led : Leads at_root [] es at_end []) (of : IsForestOf es forest)
        (says : operations_in values text [] forest ≡ an_entity tree no_entity) where
      openings : root_openings isolated es ≡ opened false [] (deeds_in forest)
      openings = by_deeds beginning es ∙ ap (opened false []) of.1

      clears : IsClear forest tree
      clears = all_clear forest of.0 at_root tt (forest_placed es forest of led) [] tree says

      -- where its root has no fault, a text's root that has regions is isolated
      pub root_isolated : ((f : Fault) → IsRootFault isolated es f → ⊥) → IsIsolatedRoot isolated tree
      root_isolated none = clears.0 (sym openings ∙ empty (root_openings isolated es) refl)
        where
          empty : (ks : List ℕ) → root_openings isolated es ≡ ks → ks ≡ []
          empty [] e = refl
          empty (k ∷ ks) e = absurd (none (fault_not_isolated k) (0, k, ap (λ z. slice_get z 0) e, refl))

      -- and the other way round
      pub no_root_fault : IsIsolatedRoot isolated tree → (f : Fault) → IsRootFault isolated es f → ⊥
      no_root_fault h f (i, k, at, is) =
          let nothing : slice_get [] i ≡ Some k = sym (ap (λ z. slice_get z i) (openings ∙ clears.1 h)) ∙ at in cc

  -- ---- other names

  module _ {M N : Type 0} (f g : M → N) where
    number_renamed : (ts : Entities M) → number_in (all_renamed f g ts) ≡ number_in ts
    number_renamed no_entity = refl
    number_renamed (an_entity t ts) = ap suc (number_renamed ts)

    head_renamed : (h : EntityHead M) → is_isolated_head isolated (renamed_head f g h) ≡ is_isolated_head isolated h
    head_renamed (operation kind results used successors pieces) = refl
    head_renamed a_region = refl
    head_renamed (block named label arguments) = refl

    pub renamed_isolated : (t : Entity M) → IsIsolatedRoot isolated t → IsIsolatedRoot isolated (renamed f g t)
    renamed_isolated (entity h ts) p = λ some. head_renamed h ∙ p (subst (λ n. 0 < n) (number_renamed ts) some)

    pub isolated_of_renamed : (t : Entity M) → IsIsolatedRoot isolated (renamed f g t) → IsIsolatedRoot isolated t
    isolated_of_renamed (entity h ts) p = λ some. sym (head_renamed h) ∙ p (subst (λ n. 0 < n) (sym (number_renamed ts)) some)
