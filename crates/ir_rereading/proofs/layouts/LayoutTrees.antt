-- Reading a layout builds its tree.
use Rattle.std.proofs.Common.{◌≡◌, ℕ, suc, ◌+◌, ◌-◌, List, [], ◌∷◌, Some, slice_get, codes, arith, refl, ap, sym, subst, ◌∙◌}
use Rattle.std.proofs.lemmas.List.{append-nil}
use Rattle.ir_names.specs.Tree.{Trees, node, no_tree, a_tree, join}
use Rattle.ir_print.specs.Formats as step
use Rattle.ir_print.specs.Formats.{Formats, Kind, Steps}
use Rattle.ir_print.specs.Layout.{line, leaf_text}
use Rattle.ir_print.specs.Pieces.{value_of_kind, list, item, chosen, operands, successor, region, leaf, ValueTree, Pieces, Values, operation, a_region, block, Entity, entity, Entities, no_entity, an_entity}
use Rattle.ir_print.specs.Shapes.{parts_in, Fits, FitArguments}
use Rattle.ir_forest.specs.Closed.{IsOperation, AreRegions, IsRegion, AreBlocks, IsBlock, AreOperations, FitsTree, FitTrees}
use Rattle.ir_grammar.specs.declared.grammar.Action.TheVariants as act
use Rattle.ir_forest.specs.Forest.{deeds, ActionSpan, deeds_in, AreWhole, IsForestOf}
use Rattle.ir_forest.specs.Meaning.{operations_in, blocks_in, renamed, all_renamed}
use Rattle.ir_forest.specs.ValueFaults.{AreSound}
use Rattle.ir_forest.specs.Building.{with_name}
use Rattle.ir_rereading.proofs.layouts.LayoutParts.{AreFine, HaveTexts, Gives, Reads, so, then, spaced, taken, worded, nothing, IsNode, IsLeaf, between, single, Says}
use Rattle.ir_rereading.proofs.layouts.LayoutValues.{IsPlain, join_none, kind_at_read, parts_read, here}
use Rattle.ir_rereading.proofs.layouts.LayoutOperations.{ArePlainArguments, IsPlainTree, ArePlainTrees, RegionsRead, all_parts_read}
use Rattle.ir_rereading.proofs.layouts.LayoutEntities.{SaysArguments, no_arguments, more_arguments, argument_says, SaysEntities, none_said, more_said, SaysAllEntities, say_all_entities, SaysBody, body_says, block_says, region_says, operation_says, results_read}
use Rattle.ir_print.specs.declared.format.ValueSort.TheVariants as sorts
use Rattle.ir_rereading.proofs.layouts.Marks.{Mark, white, token, word, one_leaf, did, tokens, events, kind_on, type_on, parts_on, results_on, all_parts_on, argument_on, more_arguments_on, arguments_on, operation_on, regions_on, region_on, blocks_on, block_on, operations_on, more_operations_on, marks, IsSpelt, AreSpelt}

module _ (f : Formats) (v : Values) (text : ℕ → List ℕ) where
  -- ---- arguments

  -- one tree that says a type
  abbrev IsType : ℕ → Pieces → Trees ActionSpan → Type 0
  IsType n ts xs = (i : ℕ) × IsNode (act.Begin sorts.«Type» n) i (Says v text ts [] [] no_entity) xs

  typed_read : (cs : List ℕ) (t : ValueTree) → Fits f v (step.a_value sorts.«Type») t → IsPlain t
      → Reads text (SaysArguments v text ((cs, t) ∷ [])) (λ rest. token cs ∷ did act.Argument ∷ word (codes ": ") (codes ":") ∷ type_on f t rest)
  typed_read cs (node (value_of_kind sorts.«Type» n) ts) fit plain k rest h =
      let t = node (value_of_kind sorts.«Type» n) ts in
      let mid = word (codes ": ") (codes ":") ∷ type_on f t rest in
      let read : Reads text (IsType n ts) (kind_on (slice_get f.types n) (act.Begin sorts.«Type» n) (act.End sorts.«Type») (parts_on f ts)) =
      kind_at_read f v text (slice_get f.types n) fit.1 fit.2 (act.Begin sorts.«Type» n) (act.End sorts.«Type») refl ts [] [] no_entity (parts_on f ts) (parts_read f v text ts (parts_in fit.1.format) fit.3 plain) (IsType n ts) (λ i xs q. (i, q)) in
      taken text k (did act.Argument ∷ mid) rest cs
      (then text (k + 1) (did act.Argument ∷ mid) mid rest (λ ys zs l q. argument_says v text cs n (k + 1 - 1) q.0 ts ys zs (here v text k cs h.0) fit.4 l q.1)
      (single text act.Argument refl (k + 1) mid h.1)
      (λ n g. worded text n (type_on f t rest) rest (codes ": ") (codes ":") (read (n + 1) rest g.1)))
  typed_read cs (node (value_of_kind sorts.Attribute n) ts) fit plain k rest h = let e = fit.0 in cc
  typed_read cs (node list ts) fit plain k rest h = absurd fit
  typed_read cs (node item ts) fit plain k rest h = absurd fit
  typed_read cs (node (chosen n) ts) fit plain k rest h = absurd fit
  typed_read cs (node (operands n) ts) fit plain k rest h = absurd plain
  typed_read cs (node (successor n) ts) fit plain k rest h = absurd plain
  typed_read cs (node region ts) fit plain k rest h = absurd plain
  typed_read cs (node (leaf x) ts) fit plain k rest h = absurd fit.0

  more_arguments_read : (xs : List (List ℕ × ValueTree)) → FitArguments f v xs → ArePlainArguments xs → Reads text (SaysArguments v text xs) (more_arguments_on f xs)
  more_arguments_read [] fit plain k rest h = nothing text (SaysArguments v text []) k rest (no_arguments v text) h
  more_arguments_read (x ∷ xs) fit plain k rest h =
      worded text k (argument_on f x (more_arguments_on f xs rest)) rest (codes ", ") (codes ",")
      (then text (k + 1) (argument_on f x (more_arguments_on f xs rest)) (more_arguments_on f xs rest) rest (more_arguments v text x xs)
      (typed_read x.0 x.1 fit.0 plain.0 (k + 1) (more_arguments_on f xs rest) h.1) (λ n g. more_arguments_read xs fit.1 plain.1 n rest g))

  arguments_read : (xs : List (List ℕ × ValueTree)) → FitArguments f v xs → ArePlainArguments xs → Reads text (SaysArguments v text xs) (arguments_on f xs)
  arguments_read [] fit plain k rest h = nothing text (SaysArguments v text []) k rest (no_arguments v text) h
  arguments_read (x ∷ xs) fit plain k rest h =
      then text k (argument_on f x (more_arguments_on f xs rest)) (more_arguments_on f xs rest) rest (more_arguments v text x xs)
      (typed_read x.0 x.1 fit.0 plain.0 k (more_arguments_on f xs rest) h) (λ n g. more_arguments_read xs fit.1 plain.1 n rest g)

  -- ---- operations, regions and blocks

  -- these trees say an operation, or a block
  abbrev IsOneOperation : Entity (List ℕ) → Trees ActionSpan → Type 0
  IsOneOperation t xs = SaysEntities v text (operations_in v text []) (an_entity t no_entity) xs

  abbrev IsOneBlock : Entity (List ℕ) → Trees ActionSpan → Type 0
  IsOneBlock t xs = SaysEntities v text (blocks_in v text) (an_entity t no_entity) xs

  -- the end of a header, and operations
  abbrev IsEnded : Entities (List ℕ) → Trees ActionSpan → Type 0
  IsEnded es zs = (ys : Trees ActionSpan) × (ws : Trees ActionSpan) × (i : ℕ) × (zs ≡ join ys ws) × IsLeaf act.Header i ys × SaysEntities v text (operations_in v text []) es ws

  mutual
    pub operation_read : (t : Entity (List ℕ)) (n : ℕ) → FitsTree f v t → IsPlainTree t → IsOperation v t → IsSpelt t → Reads text (IsOneOperation t) (operation_on f n t)
    operation_read (entity (operation kind results used successors pieces) ts) n fit plain is named = λ k rest h.
        let c = fit.0.0 in
        let t = entity (operation kind results used successors pieces) ts in
        let ms = regions_on f n ts in
        let mid = kind_on (slice_get f.operations kind) (act.Operation kind) act.EndOperation (all_parts_on f pieces used successors ms) rest in
        then text k (results_on results mid) mid rest
        (λ xs ys a b. operation_says v text kind b.0 results used successors pieces ts xs ys fit.0.3 is.0 a b.1)
        (results_read v text results k mid h)
        (λ m g. kind_at_read f v text (slice_get f.operations kind) c fit.0.1 (act.Operation kind) act.EndOperation refl pieces used successors ts (all_parts_on f pieces used successors ms)
        (all_parts_read f v text pieces (parts_in c.format) used successors ts ms fit.0.2 plain.0 fit.0.4 is.2 is.1 (regions_read ts n fit.1 plain.1 is.3 named.1))
        (λ xs. (i : ℕ) × IsNode (act.Operation kind) i (Says v text pieces used successors ts) xs) (λ i xs q. (i, q)) m rest g)
    operation_read (entity a_region ts) n fit plain is named = absurd is
    operation_read (entity (block own label arguments) ts) n fit plain is named = absurd is

    regions_read : (ts : Entities (List ℕ)) (n : ℕ) → FitTrees f v ts → ArePlainTrees ts → AreRegions v ts → AreSpelt ts → RegionsRead f v text ts (regions_on f n ts)
    regions_read no_entity n fit plain is named = tt
    regions_read (an_entity t ts) n fit plain is named = (region_read t n fit.0 plain.0 is.0 named.0, regions_read ts n fit.1 plain.1 is.1 named.1)

    region_read : (t : Entity (List ℕ)) (n : ℕ) → FitsTree f v t → IsPlainTree t → IsRegion v t → IsSpelt t
        → Reads text (Says v text (a_tree (node region no_tree) no_tree) [] [] (an_entity t no_entity)) (region_on f n t)
    region_read (entity (operation kind results used successors pieces) ts) n fit plain is named = absurd is
    region_read (entity a_region ts) n fit plain is named = λ k rest h.
        let last = white (line n) ∷ token (codes "}") ∷ did act.EndRegion ∷ rest in
        let inner = blocks_on f (n + 2) ts last in
        let g : Gives text (SaysEntities v text (blocks_in v text) ts) (k + 1) inner (did act.EndRegion ∷ rest) =
        then text (k + 1) inner last (did act.EndRegion ∷ rest)
        (λ xs ys a b. subst (λ z. SaysEntities v text (blocks_in v text) ts (join xs z)) (sym b) (subst (SaysEntities v text (blocks_in v text) ts) (sym (join_none xs)) a))
        (blocks_read ts (n + 2) fit.1 plain.1 is named.1 (k + 1) last h.1)
        (λ m g. spaced text m (token (codes "}") ∷ did act.EndRegion ∷ rest) (did act.EndRegion ∷ rest) (line n)
        (taken text m (did act.EndRegion ∷ rest) (did act.EndRegion ∷ rest) (codes "}") (nothing text (λ z. z ≡ no_tree) (m + 1) (did act.EndRegion ∷ rest) refl g.1))) in
        spaced text k (token (codes "{") ∷ did act.BeginRegion ∷ inner) rest (line n)
        (taken text k (did act.BeginRegion ∷ inner) rest (codes "{")
        (so text (k + 1) (did act.BeginRegion ∷ inner) rest (region_says v text ts (k + 1 - 1)) (between text act.BeginRegion act.EndRegion refl (k + 1) inner rest g)))
    region_read (entity (block own label arguments) ts) n fit plain is named = absurd is

    blocks_read : (ts : Entities (List ℕ)) (n : ℕ) → FitTrees f v ts → ArePlainTrees ts → AreBlocks v ts → AreSpelt ts → Reads text (SaysEntities v text (blocks_in v text) ts) (blocks_on f n ts)
    blocks_read no_entity n fit plain is named = λ k rest h. nothing text (SaysEntities v text (blocks_in v text) no_entity) k rest (none_said v text (blocks_in v text)) h
    blocks_read (an_entity t ts) n fit plain is named = λ k rest h.
        let mid = blocks_on f n ts rest in
        spaced text k (block_on f n t mid) rest (line n)
        (then text k (block_on f n t mid) mid rest (more_said v text (blocks_in v text) t ts)
        (block_read t n fit.0 plain.0 is.0 named.0 k mid h) (λ m g. blocks_read ts n fit.1 plain.1 is.1 named.1 m rest g))

    block_read : (t : Entity (List ℕ)) (n : ℕ) → FitsTree f v t → IsPlainTree t → IsBlock v t → IsSpelt t → Reads text (IsOneBlock t) (block_on f n t)
    block_read (entity (operation kind results used successors pieces) ts) n fit plain is named = absurd is
    block_read (entity a_region ts) n fit plain is named = absurd is
    block_read (entity (block own label arguments) ts) n fit plain is named = λ k rest h.
        let last = did act.EndBlock ∷ rest in
        let inner = operations_on f (n + 2) ts last in
        let header = token (codes ")") ∷ token (codes ":") ∷ did act.Header ∷ inner in
        let ended : (m : ℕ) → HaveTexts text m header → Gives text (IsEnded ts) m header last = λ m g.
        taken text m (token (codes ":") ∷ did act.Header ∷ inner) last (codes ")")
        (taken text (m + 1) (did act.Header ∷ inner) last (codes ":")
        (then text (m + 1 + 1) (did act.Header ∷ inner) inner last (λ ys ws a b. (ys, ws, m + 1 + 1 - 1, refl, a, b))
        (single text act.Header refl (m + 1 + 1) inner g.1.1)
        (λ o i. operations_read ts (n + 2) fit.1 plain.1 is named.1 o last i))) in
        let body : Gives text (SaysBody v text arguments ts) (k + 1 + 1) (token (codes "(") ∷ arguments_on f arguments header) last =
        taken text (k + 1 + 1) (arguments_on f arguments header) last (codes "(")
        (then text (k + 1 + 1 + 1) (arguments_on f arguments header) header last
        (λ xs zs a b. subst (λ z. SaysBody v text arguments ts (join xs z)) (sym b.3) (body_says v text arguments ts b.2 xs b.0 b.1 a b.4 b.5))
        (arguments_read arguments fit.0 plain.0 (k + 1 + 1 + 1) header h.1.1.1) ended) in
        taken text k (token label ∷ did act.Label ∷ token (codes "(") ∷ arguments_on f arguments header) rest (codes "^")
        (taken text (k + 1) (did act.Label ∷ token (codes "(") ∷ arguments_on f arguments header) rest label
        (so text (k + 1 + 1) (did act.Label ∷ token (codes "(") ∷ arguments_on f arguments header) rest
        (λ xs q. block_says v text own label arguments ts (k + 1 + 1 - 1) xs named.0.0 (here v text (k + 1) label h.1.0) q)
        (between text act.Label act.EndBlock refl (k + 1 + 1) (token (codes "(") ∷ arguments_on f arguments header) rest body)))

    operations_read : (ts : Entities (List ℕ)) (n : ℕ) → FitTrees f v ts → ArePlainTrees ts → AreOperations v ts → AreSpelt ts → Reads text (SaysEntities v text (operations_in v text []) ts) (operations_on f n ts)
    operations_read no_entity n fit plain is named = λ k rest h. nothing text (SaysEntities v text (operations_in v text []) no_entity) k rest (none_said v text (operations_in v text [])) h
    operations_read (an_entity t ts) n fit plain is named = λ k rest h.
        let mid = more_operations_on f n ts rest in
        spaced text k (operation_on f n t mid) rest (line n)
        (then text k (operation_on f n t mid) mid rest (more_said v text (operations_in v text []) t ts)
        (operation_read t n fit.0 plain.0 is.0 named.0 k mid h) (λ m g. more_operations_read ts n fit.1 plain.1 is.1 named.1 m rest g))

    more_operations_read : (ts : Entities (List ℕ)) (n : ℕ) → FitTrees f v ts → ArePlainTrees ts → AreOperations v ts → AreSpelt ts → Reads text (SaysEntities v text (operations_in v text []) ts) (more_operations_on f n ts)
    more_operations_read no_entity n fit plain is named = λ k rest h. nothing text (SaysEntities v text (operations_in v text []) no_entity) k rest (none_said v text (operations_in v text [])) h
    more_operations_read (an_entity t ts) n fit plain is named = λ k rest h.
        let mid = more_operations_on f n ts rest in
        taken text k (white (line n) ∷ operation_on f n t mid) rest (codes ";")
        (spaced text (k + 1) (operation_on f n t mid) rest (line n)
        (then text (k + 1) (operation_on f n t mid) mid rest (more_said v text (operations_in v text []) t ts)
        (operation_read t n fit.0 plain.0 is.0 named.0 (k + 1) mid h.1) (λ m g. more_operations_read ts n fit.1 plain.1 is.1 named.1 m rest g)))

-- ---- the whole layout

-- the tokens of marks have these texts
abbrev pub HasTexts : (ℕ → List ℕ) → List Mark → Type 0
HasTexts text ms = (k : ℕ) (x : List ℕ) → slice_get (tokens ms) k ≡ Some x → text k ≡ x

have_texts : (text : ℕ → List ℕ) (ms : List Mark) (k : ℕ) → ((j : ℕ) (x : List ℕ) → slice_get (tokens ms) j ≡ Some x → text (k + j) ≡ x) → HaveTexts text k ms
have_texts text [] k h = tt
have_texts text (white cs ∷ ms) k h = have_texts text ms k h
have_texts text (token cs ∷ ms) k h =
    let first : k ≡ k + 0 = omega arith in
    let next : (j : ℕ) → k + 1 + j ≡ k + suc j = λ j. omega arith in
    (ap text first ∙ h 0 cs refl, have_texts text ms (k + 1) (λ j x e. ap text (next j) ∙ h (suc j) x e))
have_texts text (word printed cs ∷ ms) k h =
    let first : k ≡ k + 0 = omega arith in
    let next : (j : ℕ) → k + 1 + j ≡ k + suc j = λ j. omega arith in
    (ap text first ∙ h 0 cs refl, have_texts text ms (k + 1) (λ j x e. ap text (next j) ∙ h (suc j) x e))
have_texts text (one_leaf x ∷ ms) k h =
    let first : k ≡ k + 0 = omega arith in
    let next : (j : ℕ) → k + 1 + j ≡ k + suc j = λ j. omega arith in
    (ap text first ∙ h 0 (leaf_text x) refl, have_texts text ms (k + 1) (λ j x e. ap text (next j) ∙ h (suc j) x e))
have_texts text (did a ∷ ms) k h = have_texts text ms k h

pub fine_whole : (v : Values) (text : ℕ → List ℕ) (names : List ℕ) (ts : Trees ActionSpan) → AreFine v text names ts → AreWhole ts
fine_whole v text names no_tree h = tt
fine_whole v text names (a_tree (node s ts) rest) h = (h.0, fine_whole v text [] ts h.3, fine_whole v text (with_name names s.action s.first) rest h.4)

fine_sound : (v : Values) (text : ℕ → List ℕ) (names : List ℕ) (ts : Trees ActionSpan) → AreFine v text names ts → AreSound v text ts
fine_sound v text names no_tree h = tt
fine_sound v text names (a_tree (node s ts) rest) h = (h.1, fine_sound v text [] ts h.3, fine_sound v text (with_name names s.action s.first) rest h.4)

one_renamed : (text : ℕ → List ℕ) (es : Entities ℕ) (t : Entity (List ℕ)) → all_renamed text text es ≡ an_entity t no_entity → (tree : Entity ℕ) × (es ≡ an_entity tree no_entity) × (renamed text text tree ≡ t)
one_renamed text no_entity t h = cc
one_renamed text (an_entity e no_entity) t h = let same : renamed text text e ≡ t = cc in (e, refl, same)
one_renamed text (an_entity e (an_entity d ds)) t h = cc

-- what reading a layout builds
pub record Builds (v : Values) (t : Entity (List ℕ)) (text : ℕ → List ℕ) (ms : List Mark) : Type 0 where
  pub forest : Trees ActionSpan
  pub done : deeds (events ms) ≡ deeds_in forest
  pub says : SaysAllEntities v text (operations_in v text []) (an_entity t no_entity) forest

pub layout_builds : (f : Formats) (v : Values) (t : Entity (List ℕ)) (text : ℕ → List ℕ) → FitsTree f v t → IsPlainTree t → IsOperation v t → IsSpelt t → HasTexts text (marks f t) → Builds v t text (marks f t)
layout_builds f v t text fit plain is named h =
    let none : (j : ℕ) → 0 + j ≡ j = λ j. omega arith in
    let g = operation_read f v text t 0 fit plain is named 0 [] (have_texts text (marks f t) 0 (λ j x e. ap text (none j) ∙ h j x e)) in record {
      forest = g.trees;
      done = g.done ∙ append-nil (deeds_in g.trees);
      says = say_all_entities v text (operations_in v text []) (an_entity t no_entity) g.trees refl g.is;
    }

pub layout_tree : (f : Formats) (v : Values) (t : Entity (List ℕ)) (text : ℕ → List ℕ) → FitsTree f v t → IsPlainTree t → IsOperation v t → IsSpelt t → HasTexts text (marks f t)
    → (forest : Trees ActionSpan) × (tree : Entity ℕ) × IsForestOf (events (marks f t)) forest × (operations_in v text [] forest ≡ an_entity tree no_entity) × (renamed text text tree ≡ t) × AreSound v text forest
layout_tree f v t text fit plain is named h =
    let b = layout_builds f v t text fit plain is named h in
    let r = one_renamed text (operations_in v text [] b.forest) t b.says.entities in
    (b.forest, r.0, (fine_whole v text [] b.forest b.says.fine, b.done), r.1, r.2, fine_sound v text [] b.forest b.says.fine)
