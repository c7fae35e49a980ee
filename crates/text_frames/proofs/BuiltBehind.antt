-- What one more tree adds to the operations, regions, blocks and names that others stand for.
use Rattle.std.proofs.Common.{◌≡◌, ℕ, suc, List, [], ◌∷◌, ◌++◌, length, Bool, true, false, refl, sym, ap, ◌∙◌, arith, append_assoc, append-nil, length-append}
use Rattle.std.specs.Prelude.{Vec}
use Rattle.std.specs.Global.{Global}
use Rattle.ir_names.specs.Tree.{Trees, node, no_tree, a_tree, join, count}
use Rattle.ir_program.specs.declared.handles.Ptr.{Ptr}
use Rattle.ir_program.specs.declared.handles.BasicBlock.{BasicBlock}
use Rattle.ir_print.specs.Pieces.{value_of_kind, ValueTree, Pieces, Values, a_region, block, Entity, entity, Entities, no_entity, an_entity}
use Rattle.ir_print.specs.Shown.{Saying, operands_said}
use Rattle.ir_grammar.specs.declared.grammar.Action.{Action}
use Rattle.ir_grammar.specs.declared.grammar.Action.TheVariants as act
use Rattle.ir_forest.specs.Forest.{ActionSpan}
use Rattle.ir_forest.specs.Meaning.{with_piece, pieces_in, tokens_in, operands_in, successors_in, arguments_in, typed, head_of, operations_in, regions_in, blocks_in, by_operation, by_region, by_label, by_operands, by_successor, by_argument}
use Rattle.ir_forest.specs.Building.{behind}
use Rattle.text_frames.specs.building.Trees.{with_last}
use Rattle.text_frames.specs.Worlds.{PartialModule, IsReady, AreReady, AreReadyRegions}
use Rattle.text_frames.specs.Raised.{listed, with_result, result_names, argument_token, argument_tokens, named_last, last_argument, is_header, has_header}
use Rattle.ir_print.specs.declared.format.ValueSort.TheVariants as sorts
use Rattle.ir_forest.proofs.PiecesBehind.{pieces_behind}

-- ---- what is one of several by an action, with something done to it

by_operation_ap : {X Y : Type 0} (F : X → Y) (a : Action) (x : X) (f : ℕ → X) (y : X) → F (by_operation a x f y) ≡ by_operation a (F x) (λ k. F (f k)) (F y)
by_operation_ap F act.Result x f y = refl
by_operation_ap F (act.Operation kind) x f y = refl
by_operation_ap F _ x f y = refl

by_region_ap : {X Y : Type 0} (F : X → Y) (a : Action) (x y : X) → F (by_region a x y) ≡ by_region a (F x) (F y)
by_region_ap F act.BeginRegion x y = refl
by_region_ap F _ x y = refl

by_label_ap : {X Y : Type 0} (F : X → Y) (a : Action) (x y : X) → F (by_label a x y) ≡ by_label a (F x) (F y)
by_label_ap F act.Label x y = refl
by_label_ap F _ x y = refl

-- ---- operations, regions and blocks

module _ (values : Values) (text : ℕ → List ℕ) where
  -- an operation is one more at the end, whose results have the names that stand before it
  pub operations_behind : (names : List ℕ) (ts : Trees ActionSpan) (s : ActionSpan) (us : Trees ActionSpan)
      → operations_in values text names (behind ts (node s us)) ≡ by_operation s.action (operations_in values text names ts)
      (λ kind. with_last (operations_in values text names ts) (entity (head_of values text (result_names names ts) us kind) (regions_in values text us)))
      (operations_in values text names ts)
  operations_behind names no_tree s us = refl
  operations_behind names (a_tree (node r rs) ts) s us = go r.action (λ ns. operations_behind ns ts s us)
    where
      first : Action → Entities ℕ
      first a = by_operation a (operations_in values text (names ++ r.first ∷ []) ts)
          (λ kind. an_entity (entity (head_of values text names rs kind) (regions_in values text rs)) (operations_in values text [] ts))
          (operations_in values text names ts)

      go : (a : Action)
          → ((ns : List ℕ) → operations_in values text ns (behind ts (node s us)) ≡ by_operation s.action (operations_in values text ns ts)
          (λ kind. with_last (operations_in values text ns ts) (entity (head_of values text (result_names ns ts) us kind) (regions_in values text us)))
          (operations_in values text ns ts))
          → by_operation a (operations_in values text (names ++ r.first ∷ []) (behind ts (node s us)))
          (λ kind. an_entity (entity (head_of values text names rs kind) (regions_in values text rs)) (operations_in values text [] (behind ts (node s us))))
          (operations_in values text names (behind ts (node s us)))
          ≡ by_operation s.action (first a)
          (λ kind. with_last (first a) (entity (head_of values text (result_names (with_result names a r.first) ts) us kind) (regions_in values text us)))
          (first a)
      go act.Result more = more (names ++ r.first ∷ [])
      go (act.Operation kind) more =
          let x : Entity ℕ = entity (head_of values text names rs kind) (regions_in values text rs) in
          ap (λ (es : Entities ℕ). an_entity x es) (more [])
          ∙ by_operation_ap (λ (es : Entities ℕ). an_entity x es) s.action (operations_in values text [] ts)
          (λ k. with_last (operations_in values text [] ts) (entity (head_of values text (result_names [] ts) us k) (regions_in values text us)))
          (operations_in values text [] ts)
      go _ more = more names

  pub regions_behind : (ts : Trees ActionSpan) (s : ActionSpan) (us : Trees ActionSpan)
      → regions_in values text (behind ts (node s us)) ≡ by_region s.action (with_last (regions_in values text ts) (entity a_region (blocks_in values text us))) (regions_in values text ts)
  regions_behind no_tree s us = refl
  regions_behind (a_tree (node r rs) ts) s us = go r.action (regions_behind ts s us)
    where
      first : Action → Entities ℕ
      first a = by_region a (an_entity (entity a_region (blocks_in values text rs)) (regions_in values text ts)) (regions_in values text ts)

      go : (a : Action)
          → regions_in values text (behind ts (node s us)) ≡ by_region s.action (with_last (regions_in values text ts) (entity a_region (blocks_in values text us))) (regions_in values text ts)
          → by_region a (an_entity (entity a_region (blocks_in values text rs)) (regions_in values text (behind ts (node s us)))) (regions_in values text (behind ts (node s us)))
          ≡ by_region s.action (with_last (first a) (entity a_region (blocks_in values text us))) (first a)
      go act.BeginRegion more =
          let F : Entities ℕ → Entities ℕ = λ es. an_entity (entity a_region (blocks_in values text rs)) es in
          ap F more ∙ by_region_ap F s.action (with_last (regions_in values text ts) (entity a_region (blocks_in values text us))) (regions_in values text ts)
      go _ more = more

  pub blocks_behind : (ts : Trees ActionSpan) (s : ActionSpan) (us : Trees ActionSpan)
      → blocks_in values text (behind ts (node s us)) ≡ by_label s.action
      (with_last (blocks_in values text ts) (entity (block s.first (text s.first) (arguments_in values text 0 us)) (operations_in values text [] us))) (blocks_in values text ts)
  blocks_behind no_tree s us = refl
  blocks_behind (a_tree (node r rs) ts) s us = go r.action (blocks_behind ts s us)
    where
      x : Entity ℕ
      x = entity (block s.first (text s.first) (arguments_in values text 0 us)) (operations_in values text [] us)

      y : Entity ℕ
      y = entity (block r.first (text r.first) (arguments_in values text 0 rs)) (operations_in values text [] rs)

      first : Action → Entities ℕ
      first a = by_label a (an_entity y (blocks_in values text ts)) (blocks_in values text ts)

      go : (a : Action) → blocks_in values text (behind ts (node s us)) ≡ by_label s.action (with_last (blocks_in values text ts) x) (blocks_in values text ts)
          → by_label a (an_entity y (blocks_in values text (behind ts (node s us)))) (blocks_in values text (behind ts (node s us))) ≡ by_label s.action (with_last (first a) x) (first a)
      go act.Label more =
          let F : Entities ℕ → Entities ℕ = λ es. an_entity y es in
          ap F more ∙ by_label_ap F s.action (with_last (blocks_in values text ts) x) (blocks_in values text ts)
      go _ more = more

  -- ---- arguments

  -- behind a header there are no arguments
  pub arguments_behind_header : (named : ℕ) (ts : Trees ActionSpan) (s : ActionSpan) (us : Trees ActionSpan) → has_header ts ≡ true
      → arguments_in values text named (behind ts (node s us)) ≡ arguments_in values text named ts
  arguments_behind_header named no_tree s us h = cc
  arguments_behind_header named (a_tree (node r rs) ts) s us h = go r.action h (λ n k. arguments_behind_header n ts s us k)
    where
      go : (a : Action) → is_header a (has_header ts) ≡ true
          → ((n : ℕ) → has_header ts ≡ true → arguments_in values text n (behind ts (node s us)) ≡ arguments_in values text n ts)
          → by_argument a (arguments_in values text r.first (behind ts (node s us)))
          (λ kind. (named, node (value_of_kind sorts.«Type» kind) (pieces_in values text rs)) ∷ arguments_in values text named (behind ts (node s us))) []
          (arguments_in values text named (behind ts (node s us)))
          ≡ by_argument a (arguments_in values text r.first ts) (λ kind. (named, node (value_of_kind sorts.«Type» kind) (pieces_in values text rs)) ∷ arguments_in values text named ts) []
          (arguments_in values text named ts)
      go act.Argument k more = more r.first k
      go (act.Begin sorts.«Type» kind) k more = ap (λ (xs : List (ℕ × ValueTree)). (named, node (value_of_kind sorts.«Type» kind) (pieces_in values text rs)) ∷ xs) (more named k)
      go act.Header k more = refl
      go _ k more = more named k

  -- in a header a type is that of the last argument that is named
  pub arguments_behind : (named : ℕ) (ts : Trees ActionSpan) (s : ActionSpan) (us : Trees ActionSpan) → has_header ts ≡ false
      → arguments_in values text named (behind ts (node s us)) ≡ arguments_in values text named ts
      ++ by_argument s.action [] (λ kind. (last_argument named ts, node (value_of_kind sorts.«Type» kind) (pieces_in values text us)) ∷ []) [] []
  arguments_behind named no_tree s us h = refl
  arguments_behind named (a_tree (node r rs) ts) s us h = go r.action h (λ n k. arguments_behind n ts s us k)
    where
      added : ℕ → List (ℕ × ValueTree)
      added n = by_argument s.action [] (λ kind. (last_argument n ts, node (value_of_kind sorts.«Type» kind) (pieces_in values text us)) ∷ []) [] []

      go : (a : Action) → is_header a (has_header ts) ≡ false
          → ((n : ℕ) → has_header ts ≡ false → arguments_in values text n (behind ts (node s us)) ≡ arguments_in values text n ts ++ added n)
          → by_argument a (arguments_in values text r.first (behind ts (node s us)))
          (λ kind. (named, node (value_of_kind sorts.«Type» kind) (pieces_in values text rs)) ∷ arguments_in values text named (behind ts (node s us))) []
          (arguments_in values text named (behind ts (node s us)))
          ≡ by_argument a (arguments_in values text r.first ts) (λ kind. (named, node (value_of_kind sorts.«Type» kind) (pieces_in values text rs)) ∷ arguments_in values text named ts) []
          (arguments_in values text named ts) ++ added (named_last named a r.first)
      go act.Argument k more = more r.first k
      go (act.Begin sorts.«Type» kind) k more = ap (λ (xs : List (ℕ × ValueTree)). (named, node (value_of_kind sorts.«Type» kind) (pieces_in values text rs)) ∷ xs) (more named k)
      go act.Header k more = cc
      go _ k more = more named k

-- ---- tokens and names

pub operands_behind : (ts : Trees ActionSpan) (s : ActionSpan) (us : Trees ActionSpan) → operands_in (behind ts (node s us)) ≡ operands_in ts ++ by_operands s.action (tokens_in us) []
operands_behind no_tree s us = append-nil (by_operands s.action (tokens_in us) [])
operands_behind (a_tree (node r rs) ts) s us =
    ap (λ (ks : List ℕ). by_operands r.action (tokens_in rs) [] ++ ks) (operands_behind ts s us)
    ∙ sym (append_assoc (by_operands r.action (tokens_in rs) []) (operands_in ts) (by_operands s.action (tokens_in us) []))

pub successors_behind : (ts : Trees ActionSpan) (s : ActionSpan) (us : Trees ActionSpan) → successors_in (behind ts (node s us)) ≡ successors_in ts ++ by_successor s.action (s.first ∷ []) []
successors_behind no_tree s us = append-nil (by_successor s.action (s.first ∷ []) [])
successors_behind (a_tree (node r rs) ts) s us =
    ap (λ (ks : List ℕ). by_successor r.action (r.first ∷ []) [] ++ ks) (successors_behind ts s us)
    ∙ sym (append_assoc (by_successor r.action (r.first ∷ []) []) (successors_in ts) (by_successor s.action (s.first ∷ []) []))

pub argument_tokens_behind : (ts : Trees ActionSpan) (s : ActionSpan) (us : Trees ActionSpan) → argument_tokens (behind ts (node s us)) ≡ argument_tokens ts ++ argument_token s.action s.first
argument_tokens_behind no_tree s us = append-nil (argument_token s.action s.first)
argument_tokens_behind (a_tree (node r rs) ts) s us =
    ap (λ (ks : List ℕ). argument_token r.action r.first ++ ks) (argument_tokens_behind ts s us)
    ∙ sym (append_assoc (argument_token r.action r.first) (argument_tokens ts) (argument_token s.action s.first))

pub last_argument_behind : (k : ℕ) (ts : Trees ActionSpan) (s : ActionSpan) (us : Trees ActionSpan) → last_argument k (behind ts (node s us)) ≡ named_last (last_argument k ts) s.action s.first
last_argument_behind k no_tree s us = refl
last_argument_behind k (a_tree (node r rs) ts) s us = last_argument_behind (named_last k r.action r.first) ts s us

is_header_any : (a b : Action) (h : Bool) → is_header a (is_header b h) ≡ is_header b (is_header a h)
is_header_any act.Header b h = sym (always b)
  where
    always : (b : Action) → is_header b true ≡ true
    always act.Header = refl
    always _ = refl
is_header_any _ b h = refl

pub has_header_behind : (ts : Trees ActionSpan) (s : ActionSpan) (us : Trees ActionSpan) → has_header (behind ts (node s us)) ≡ is_header s.action (has_header ts)
has_header_behind no_tree s us = refl
has_header_behind (a_tree (node r rs) ts) s us = ap (λ (b : Bool). is_header r.action b) (has_header_behind ts s us) ∙ is_header_any r.action s.action (has_header ts)

pub result_names_behind : (names : List ℕ) (ts : Trees ActionSpan) (s : ActionSpan) (us : Trees ActionSpan) → result_names names (behind ts (node s us)) ≡ with_result (result_names names ts) s.action s.first
result_names_behind names no_tree s us = refl
result_names_behind names (a_tree (node r rs) ts) s us = result_names_behind (with_result names r.action r.first) ts s us

-- ---- pieces

pub listed_join : (ps qs : Pieces) → listed (join ps qs) ≡ listed ps ++ listed qs
listed_join no_tree qs = refl
listed_join (a_tree p ps) qs = ap (λ (xs : List ValueTree). p ∷ xs) (listed_join ps qs)

pub listed_length : (ps : Pieces) → length (listed ps) ≡ count ps
listed_length no_tree = refl
listed_length (a_tree p ps) = ap suc (listed_length ps)

-- the pieces of trees with one more behind them, as a list
pub listed_behind : (values : Values) (text : ℕ → List ℕ) (ts : Trees ActionSpan) (s : ActionSpan) (us : Trees ActionSpan)
    → listed (pieces_in values text (behind ts (node s us))) ≡ listed (pieces_in values text ts) ++ listed (with_piece values s.action (text s.first) (count us) (pieces_in values text us) no_tree)
listed_behind values text ts s us = ap listed (pieces_behind values text ts s us) ∙ listed_join (pieces_in values text ts) _

-- a name that has no type yet says nothing
pub typed_longer : (ks : List ℕ) (k : ℕ) (ps : List ValueTree) → length ks ≡ length ps → typed (ks ++ k ∷ []) ps ≡ typed ks ps
typed_longer [] k [] e = refl
typed_longer [] k (p ∷ ps) e = absurd (omega (arith, e))
typed_longer (j ∷ ks) k [] e = absurd (omega (arith, e))
typed_longer (j ∷ ks) k (p ∷ ps) e = ap (λ (xs : List (ℕ × ValueTree)). (j, p) ∷ xs) (typed_longer ks k ps (omega (arith, e)))

-- one more name with its type stands at the end
pub typed_more : (ks : List ℕ) (k : ℕ) (ps : List ValueTree) (p : ValueTree) → length ks ≡ length ps → typed (ks ++ k ∷ []) (ps ++ p ∷ []) ≡ typed ks ps ++ (k, p) ∷ []
typed_more [] k [] p e = refl
typed_more [] k (q ∷ ps) p e = absurd (omega (arith, e))
typed_more (j ∷ ks) k [] p e = absurd (omega (arith, e))
typed_more (j ∷ ks) k (q ∷ ps) p e = ap (λ (xs : List (ℕ × ValueTree)). (j, q) ∷ xs) (typed_more ks k ps p (omega (arith, e)))

-- ---- operands

pub tokens_count : (ts : Trees ActionSpan) → length (tokens_in ts) ≡ count ts
tokens_count no_tree = refl
tokens_count (a_tree (node s us) ts) = ap suc (tokens_count ts)

-- pieces say as many operands as tokens name
pub operands_are_said : (values : Values) (text : ℕ → List ℕ) (ts : Trees ActionSpan) → operands_said (pieces_in values text ts) ≡ length (operands_in ts)
operands_are_said values text no_tree = refl
operands_are_said values text (a_tree (node s us) ts) = go s.action (operands_are_said values text ts)
  where
    go : (a : Action) → operands_said (pieces_in values text ts) ≡ length (operands_in ts)
        → operands_said (with_piece values a (text s.first) (count us) (pieces_in values text us) (pieces_in values text ts)) ≡ length (by_operands a (tokens_in us) [] ++ operands_in ts)
    go act.BeginOperands more = omega (arith, more, tokens_count us, length-append (tokens_in us) (operands_in ts))
    go act.BeginSuccessor more = omega (arith, more, tokens_count us, length-append (tokens_in us) (operands_in ts))
    go _ more = more

-- ---- one more that stands for its tree

module _ {K A T : Type 0} (says : Saying K A T) (w : PartialModule K A T) where
  pub ready_put : (bs : List (Ptr BasicBlock)) (ts : Entities ℕ) (b : Ptr BasicBlock) (t : Entity ℕ) → AreReady says w bs ts → IsReady says w b t → AreReady says w (bs ++ b ∷ []) (with_last ts t)
  ready_put [] no_entity b t h k = (k, tt)
  ready_put (c ∷ bs) (an_entity u ts) b t h k = (h.0, ready_put bs ts b t h.1 k)
  ready_put _ _ b t h k = absurd h

  pub regions_put : (rs : List (Vec (Ptr BasicBlock) Global)) (ts : Entities ℕ) (bs : Vec (Ptr BasicBlock) Global) (us : Entities ℕ) → AreReadyRegions says w rs ts → AreReady says w bs.items us
      → AreReadyRegions says w (rs ++ bs ∷ []) (with_last ts (entity a_region us))
  regions_put [] no_entity bs us h k = (k, tt)
  regions_put (cs ∷ rs) (an_entity (entity a_region vs) ts) bs us h k = (h.0, regions_put rs ts bs us h.1 k)
  regions_put _ _ bs us h k = absurd h
