-- What a text says is shallow: at most 64 regions, types and attributes stand in one another.
use Rattle.std.proofs.Common.{◌≡◌, ℕ, zero, suc, ◌+◌, ◌-◌, ◌<◌, ◌≤◌, true, false, List, [], ◌∷◌, ◌++◌, map, Option, Some, None, refl, sym, subst, ap, ◌∙◌, arith, ◌⊎◌, inl, inr}
use Rattle.std.proofs.lemmas.Bool.{cases_lt}
use Rattle.std.proofs.lemmas.List.{append_assoc, append-nil}
use Rattle.ir_names.specs.Tree.{Trees, node, no_tree, a_tree}
use Rattle.ir_print.specs.Layout.{Deeper, AreFlat, AreFlatArguments, IsShallow, AreShallow}
use Rattle.ir_print.specs.Pieces.{ValueTree, Pieces, Values, canonical_value, operation, a_region, block, Entity, entity, Entities, no_entity, an_entity}
use Rattle.ir_grammar.specs.declared.grammar.Action.{Action}
use Rattle.ir_grammar.specs.declared.grammar.Action.TheVariants as act
use Rattle.ir_grammar.specs.declared.grammar.Event.{Event}
use Rattle.ir_grammar.specs.declared.grammar.Event.TheVariants.{Took, Did}
use Rattle.ir_tokens.specs.declared.faults.Fault.{Fault}
use Rattle.ir_scopes.specs.Depth.{IsTooDeep, fault_deep}
use Rattle.ir_forest.specs.Forest.{end_of, is_end, Deed, deeds_from, ActionSpan, ending, deeds_of, deeds_in, IsWholeStep, AreWhole, IsForestOf}
use Rattle.ir_forest.specs.Meaning.{pieces_in, arguments_in, operations_in, regions_in, blocks_in, renamed, all_renamed}
use Rattle.ir_grammar.specs.Reading.{opens, depth_at, OpensAt}
use Rattle.ir_forest.specs.Closed.{IsOperation}
use Rattle.ir_formats.specs.Ordered.{is_ordered}
use Rattle.ir_formats.specs.Ordered as ordered
use Rattle.ir_formats.specs.Rules.{rules_of}
use Rattle.ir_rereading.specs.Texts.{Says}
use Rattle.ir_formats.specs.Words.{token_text}
use Rattle.ir_forest.specs.Language.{Language}
use Rattle.ir_print.specs.declared.format.ValueSort.{ValueSort}
use Rattle.ir_print.specs.declared.format.ValueSort.TheVariants as sorts
use Rattle.ir_rereading.proofs.ReadTrees.{step_of, says_operation}

-- ---- what is open where parts begin

-- with d parts open before, each part among deeds begins where fewer than 64 are open
abbrev LowDeeds : ℕ → List Deed → Type 0
LowDeeds d [] = Unit {0}
LowDeeds d (x ∷ xs) = (opens x.0 ≡ true → d < 64) × LowDeeds (depth_at d x.0) xs

low_deeds : (n d : ℕ) (es : List Event) → ((k : ℕ) → OpensAt 64 n d es k → ⊥) → LowDeeds d (deeds_from n es)
low_deeds n d [] h = tt
low_deeds n d (Took ∷ es) h = low_deeds (n + 1) d es h
low_deeds n d (Did a ∷ es) h = ((λ e. go e (cases_lt d 64)), low_deeds n (depth_at d a) es (λ k x. h k (inr x)))
  where
    go : opens a ≡ true → (d < 64) ⊎ (64 ≤ d) → d < 64
    go e (inl x) = x
    go e (inr x) = absurd (h (n - 1) (inl (e, x, refl)))

-- the same of trees
abbrev pub IsLow : ℕ → Trees ActionSpan → Type 0
IsLow d no_tree = Unit {0}
IsLow d (a_tree (node s ts) rest) = (opens s.action ≡ true → d < 64) × IsLow (depth_at d s.action) ts × IsLow d rest

-- what begins ends again, and then as much is open as before
ends_even : (a x : Action) (d : ℕ) → end_of a ≡ Some x → depth_at (depth_at d a) x ≡ d
ends_even (act.Operation kind) act.EndOperation d e = refl
ends_even act.BeginRegion act.EndRegion d e = omega arith
ends_even act.Label act.EndBlock d e = refl
ends_even (act.Begin sort kind) (act.End other) d e = omega arith
ends_even act.BeginOperands act.EndOperands d e = refl
ends_even act.BeginSuccessor act.EndSuccessor d e = refl
ends_even act.BeginList act.EndList d e = refl
ends_even act.BeginItem act.EndItem d e = refl
ends_even (act.BeginChoice n) act.EndChoice d e = refl
ends_even _ _ d e = cc

-- what stands alone opens nothing
alone_even : (a : Action) (d : ℕ) → end_of a ≡ None → is_end a ≡ false → depth_at d a ≡ d
alone_even act.Result d e f = refl
alone_even act.Argument d e f = refl
alone_even act.Header d e f = refl
alone_even (act.Leaf sort) d e f = refl
alone_even act.Operand d e f = refl
alone_even _ d e f = cc

abbrev Lowers : Trees ActionSpan → Type 0
Lowers ts = AreWhole ts → (d : ℕ) (more : List Deed) → LowDeeds d (deeds_in ts ++ more) → IsLow d ts × LowDeeds d more

-- what is in a step, and what comes behind it
low_in : (s : ActionSpan) (ts : Trees ActionSpan) (x : Option Action) → end_of s.action ≡ x → IsWholeStep x s ts → AreWhole ts → Lowers ts → (d : ℕ) (more : List Deed)
    → LowDeeds (depth_at d s.action) ((deeds_in ts ++ ending x s.last) ++ more) → IsLow (depth_at d s.action) ts × LowDeeds d more
low_in s ts None e w whole here d more h =
    let same : deeds_in ts ++ [] ≡ [] = ap (λ us. deeds_in us ++ []) w.2 in
    (subst (IsLow (depth_at d s.action)) (sym w.2) tt, subst (λ k. LowDeeds k more) (alone_even s.action d e w.0) (subst (λ z. LowDeeds (depth_at d s.action) (z ++ more)) same h))
low_in s ts (Some x) e w whole here d more h =
    let r = here whole (depth_at d s.action) ((x, s.last) ∷ more) (subst (LowDeeds (depth_at d s.action)) (append_assoc (deeds_in ts) ((x, s.last) ∷ []) more) h) in
    (r.0, subst (λ k. LowDeeds k more) (ends_even s.action x d e) r.1.1)

lowers : (ts : Trees ActionSpan) → Lowers ts
lowers no_tree w d more h = (tt, h)
lowers (a_tree (node s ts) rest) w d more h =
    let all = subst (LowDeeds d) (append_assoc (deeds_of (node s ts)) (deeds_in rest) more) h in
    let r = low_in s ts (end_of s.action) refl w.0 w.1 (lowers ts) d (deeds_in rest ++ more) all.1 in
    let q = lowers rest w.2 d more r.1 in
    ((all.0, r.0, q.0), q.1)

-- Where a text isn't too deep, its trees aren't.
pub forest_low : (es : List Event) (ts : Trees ActionSpan) → IsForestOf es ts → ((f : Fault) → IsTooDeep es f → ⊥) → IsLow 0 ts
forest_low es ts f good =
    let low = low_deeds 0 0 es (λ k h. good (fault_deep k) (k, h, refl)) in
    (lowers ts f.0 0 [] (subst (LowDeeds 0) (f.1 ∙ sym (append-nil (deeds_in ts))) low)).0

-- ---- what is read is shallow

-- where fewer than 64 are open one more may be
more_deep : (P : ℕ → Type 0) (d e : ℕ) → d + e ≡ 64 → d < 64 → ((e : ℕ) → d + 1 + e ≡ 64 → P e) → Deeper e P
more_deep P d zero s lt f = absurd (omega (arith, s, lt))
more_deep P d (suc e) s lt f = f e (omega (arith, s))

module _ (v : Values) (text : ℕ → List ℕ) (flat : (n d : ℕ) (ps : Pieces) → AreFlat d ps → AreFlat d (v.canonical n ps)) where
  -- with d parts open before, e more may be
  abbrev Flat : Trees ActionSpan → Type 0
  Flat ts = (d e : ℕ) → d + e ≡ 64 → IsLow d ts → AreFlat e (pieces_in v text ts)

  canonical_flat : (sort : ValueSort) (n d : ℕ) (ps : Pieces) → AreFlat d ps → AreFlat d (canonical_value v sort n ps)
  canonical_flat sorts.«Type» n d ps h = h
  canonical_flat sorts.Attribute n d ps h = flat n d ps h

  piece_flat : (a : Action) (f l : ℕ) (ts rest : Trees ActionSpan) → Flat ts → (d e : ℕ) → d + e ≡ 64 → (opens a ≡ true → d < 64) → IsLow (depth_at d a) ts → AreFlat e (pieces_in v text rest)
      → AreFlat e (pieces_in v text (a_tree (node (step_of a f l) ts) rest))
  piece_flat (act.Begin sort kind) f l ts rest inner d e s lt low more =
      (more_deep (λ e. AreFlat e (canonical_value v sort kind (pieces_in v text ts))) d e s (lt refl) (λ e s. canonical_flat sort kind e (pieces_in v text ts) (inner (d + 1) e s low)), more)
  piece_flat act.BeginList f l ts rest inner d e s lt low more = (inner d e s low, more)
  piece_flat act.BeginItem f l ts rest inner d e s lt low more = (inner d e s low, more)
  piece_flat (act.BeginChoice n) f l ts rest inner d e s lt low more = (inner d e s low, more)
  piece_flat act.BeginOperands f l ts rest inner d e s lt low more = (tt, more)
  piece_flat act.BeginSuccessor f l ts rest inner d e s lt low more = (tt, more)
  piece_flat act.BeginRegion f l ts rest inner d e s lt low more = (tt, more)
  piece_flat (act.Leaf sort) f l ts rest inner d e s lt low more = (tt, more)
  piece_flat _ f l ts rest inner d e s lt low more = more

  pieces_flat : (ts : Trees ActionSpan) → Flat ts
  pieces_flat no_tree d e s low = tt
  pieces_flat (a_tree (node s ts) rest) d e sum low = piece_flat s.action s.first s.last ts rest (pieces_flat ts) d e sum low.0 low.1 (pieces_flat rest d e sum low.2)

  -- the arguments of a header are flat, whatever the first is named
  abbrev FlatArguments : Trees ActionSpan → Type 0
  FlatArguments ts = (named d e : ℕ) → d + e ≡ 64 → IsLow d ts → AreFlatArguments e (arguments_in v text named ts)

  argument_flat : (a : Action) (f l : ℕ) (ts rest : Trees ActionSpan) (named d e : ℕ) → d + e ≡ 64 → (opens a ≡ true → d < 64) → IsLow (depth_at d a) ts → IsLow d rest → FlatArguments rest
      → AreFlatArguments e (arguments_in v text named (a_tree (node (step_of a f l) ts) rest))
  argument_flat act.Argument f l ts rest named d e s lt low others more = more f d e s others
  argument_flat (act.Begin sorts.«Type» kind) f l ts rest named d e s lt low others more =
      (more_deep (λ e. AreFlat e (pieces_in v text ts)) d e s (lt refl) (λ e s. pieces_flat ts (d + 1) e s low), more named d e s others)
  argument_flat act.Header f l ts rest named d e s lt low others more = tt
  argument_flat _ f l ts rest named d e s lt low others more = more named d e s others

  arguments_flat : (ts : Trees ActionSpan) → FlatArguments ts
  arguments_flat no_tree named d e s low = tt
  arguments_flat (a_tree (node s ts) rest) named d e sum low = argument_flat s.action s.first s.last ts rest named d e sum low.0 low.1 low.2 (arguments_flat rest)

  -- what steps say in each of three ways is shallow: operations, regions and blocks
  pub record Shallow (ts : Trees ActionSpan) : Type 0 where
    pub operations : (names : List ℕ) (d e : ℕ) → d + e ≡ 64 → IsLow d ts → AreShallow e (operations_in v text names ts)
    pub regions : (d e : ℕ) → d + e ≡ 64 → IsLow d ts → AreShallow e (regions_in v text ts)
    pub blocks : (d e : ℕ) → d + e ≡ 64 → IsLow d ts → AreShallow e (blocks_in v text ts)

  module _ (f l : ℕ) (ts rest : Trees ActionSpan) (inner : Shallow ts) (more : Shallow rest) (d e : ℕ) (sum : d + e ≡ 64) where
    operation_shallow : (a : Action) (names : List ℕ) → IsLow (depth_at d a) ts → IsLow d rest → AreShallow e (operations_in v text names (a_tree (node (step_of a f l) ts) rest))
    operation_shallow act.Result names low others = more.operations (names ++ f ∷ []) d e sum others
    operation_shallow (act.Operation kind) names low others = ((pieces_flat ts d e sum low, inner.regions d e sum low), more.operations [] d e sum others)
    operation_shallow _ names low others = more.operations names d e sum others

    region_shallow : (a : Action) → (opens a ≡ true → d < 64) → IsLow (depth_at d a) ts → IsLow d rest → AreShallow e (regions_in v text (a_tree (node (step_of a f l) ts) rest))
    region_shallow act.BeginRegion lt low others = ((tt, more_deep (λ e. AreShallow e (blocks_in v text ts)) d e sum (lt refl) (λ e s. inner.blocks (d + 1) e s low)), more.regions d e sum others)
    region_shallow _ lt low others = more.regions d e sum others

    block_shallow : (a : Action) → IsLow (depth_at d a) ts → IsLow d rest → AreShallow e (blocks_in v text (a_tree (node (step_of a f l) ts) rest))
    block_shallow act.Label low others = ((arguments_flat ts 0 d e sum low, inner.operations [] d e sum low), more.blocks d e sum others)
    block_shallow _ low others = more.blocks d e sum others

  pub shallow : (ts : Trees ActionSpan) → Shallow ts
  shallow no_tree = record { operations = λ names d e s low. tt; regions = λ d e s low. tt; blocks = λ d e s low. tt }
  shallow (a_tree (node s ts) rest) = let inner = shallow ts in let more = shallow rest in record {
    operations = λ names d e sum low. operation_shallow s.first s.last ts rest inner more d e sum s.action names low.1 low.2;
    regions = λ d e sum low. region_shallow s.first s.last ts rest inner more d e sum s.action low.0 low.1 low.2;
    blocks = λ d e sum low. block_shallow s.first s.last ts rest inner more d e sum s.action low.1 low.2;
  }

-- ---- other names

module _ {M N : Type 0} (f g : M → N) where
  arguments_renamed : (d : ℕ) (xs : List (M × ValueTree)) → AreFlatArguments d xs → AreFlatArguments d (map (λ (r : M × ValueTree). (f r.0, r.1)) xs)
  arguments_renamed d [] h = tt
  arguments_renamed d (x ∷ xs) h = (h.0, arguments_renamed d xs h.1)

  deeper_still : (P Q : ℕ → Type 0) (d : ℕ) → ((e : ℕ) → P e → Q e) → Deeper d P → Deeper d Q
  deeper_still P Q zero k h = absurd h
  deeper_still P Q (suc d) k h = k d h

  mutual
    -- how deep a tree is doesn't depend on names
    pub shallow_renamed : (t : Entity M) (d : ℕ) → IsShallow d t → IsShallow d (renamed f g t)
    shallow_renamed (entity (operation kind results used successors pieces) ts) d h = (h.0, all_shallow_renamed ts d h.1)
    shallow_renamed (entity a_region ts) d h = (tt, deeper_still (λ e. AreShallow e ts) (λ e. AreShallow e (all_renamed f g ts)) d (λ e x. all_shallow_renamed ts e x) h.1)
    shallow_renamed (entity (block named label arguments) ts) d h = (arguments_renamed d arguments h.0, all_shallow_renamed ts d h.1)

    all_shallow_renamed : (ts : Entities M) (d : ℕ) → AreShallow d ts → AreShallow d (all_renamed f g ts)
    all_shallow_renamed no_entity d h = tt
    all_shallow_renamed (an_entity t ts) d h = (shallow_renamed t d h.0, all_shallow_renamed ts d h.1)

-- What a text says is shallow, where attributes that are read have pieces no deeper than those that are there.
pub says_shallow : (l : Language) → ((n d : ℕ) (ps : Pieces) → AreFlat d ps → AreFlat d (l.values.canonical n ps)) → (cs : List ℕ) (tree : Entity ℕ) → Says l cs tree → IsShallow 64 tree
says_shallow l flat cs tree (ts, names, stop, n, es, forest, t, r, reading, fine, whole, said, resolved, same) =
    let text = token_text cs ts in
    let low = forest_low es forest whole (λ f h. fine f (inr (inr (inr (inl h))))) in
    let one : AreShallow 64 (an_entity t no_entity) = subst (AreShallow 64) said ((shallow l.values text flat forest).operations [] 0 64 refl low) in
    subst (IsShallow 64) (sym same) (shallow_renamed _ _ t 64 one.0)

-- what a text says is a shallow operation
pub read_tree : (l : Language) (leads : ordered.PartPositions) → is_ordered leads (rules_of l.formats) ≡ true → (cs : List ℕ) (tree : Entity ℕ) → Says l cs tree
    → ((n d : ℕ) (ps : Pieces) → AreFlat d ps → AreFlat d (l.values.canonical n ps)) → IsOperation l.values tree × IsShallow 64 tree
read_tree l leads ok cs tree says flat = (says_operation l leads ok cs tree says, says_shallow l flat cs tree says)
