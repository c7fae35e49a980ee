-- Constants put in for known values.
-- Source: Wegman and Zadeck, Constant propagation with conditional branches, 1991: what is done with the facts.
use Rattle.std.specs.Prelude.{◌≡◌, ◌≢◌, ◌⊎◌, ℕ, Bool, true, false, List, [], ◌∷◌, map, Option, Some, None}
use Rattle.ir_trees.specs.Names.{Names, Contents}
use Rattle.ir_trees.specs.Renames.{Maps, rename_defined, names_of}
use Rattle.ir_trees.specs.Trees.{Defined, Head, Label, Sort, Operations, Tree, end, operation, block, region, Root}
use Rattle.opt_trees.specs.Occurrences.{Has, Occurrence, BlockOccurrence, occurrences_of, block_occurrences_of, Use}
use Rattle.opt_trees.specs.Dce.{TreeSurroundings}
use Rattle.opt_trees.specs.Dialect.{Dialect}
use Rattle.opt_rows.specs.declared.known.Known.TheVariants.{One}
use Rattle.opt_rows.specs.Known.{FactsOf, answer}
use Rattle.opt_rows.specs.declared.known.Known.{Known}
use Rattle.opt_trees.specs.Facts.{Facts, IsMostPrecise}

-- names for what stood there, and for what is made for it
pub data Name (X V : Type 0) : Type 0 where
  Old : (x : X) → Name X V
  New : (v : V) → Name X V

abbrev pub fresh : Names → Names
fresh N = record { operation = Name N.operation N.value; block = N.block; value = Name N.value N.value }

abbrev pub rename_name : {X Y V W : Type 0} → (X → Y) → (V → W) → Name X V → Name Y W
rename_name f g (Old x) = Old (f x)
rename_name f g (New v) = New (g v)

abbrev pub fresh_maps : {N M : Names} → Maps N M → Maps (fresh N) (fresh M)
fresh_maps r = record {
  operation = rename_name r.operation r.value;
  block = r.block;
  value = rename_name r.value r.value;
}

module _ {N : Names} {S : Contents} {A : Type 0} (d : Dialect S A) (t : Root N S) (k : Facts N A) where
  -- a result of a foldable operation, no constant itself, in a block that runs
  pub record IsResult (v : N.value) : Type 0 where
    pub definer : Occurrence N S
    pub stands : Has definer (occurrences_of t)
    pub runs : k.runs definer.site.label.name ≡ true
    pub folds : d.is_foldable definer.head.content ≡ true
    pub no_constant : d.is_constant definer.head.content ≡ false
    pub result : Has v (names_of definer.head.results)

-- an argument of a block that runs
pub record IsArgument {N : Names} {S : Contents} (t : Root N S) (runs : N.block → Bool) (v : N.value) : Type 0 where
  pub definer : BlockOccurrence N S
  pub stands : Has definer (block_occurrences_of t)
  pub in_run : runs definer.label.name ≡ true
  pub argument : Has v (names_of definer.label.arguments)

-- an operation below the root uses the value, whether it runs or not, along an edge or otherwise
abbrev pub IsUsedBelow : {N : Names} {S : Contents} → Root N S → N.value → Type 0
IsUsedBelow {N} {S} t v = (user : Occurrence N S) × (i : ℕ) × Use t v user i

-- the value has a use: below the root, at the root, or outside it
abbrev pub IsUsed : {N : Names} {S : Contents} {A : Type 0} → TreeSurroundings N A → Root N S → N.value → Type 0
IsUsed w t v = IsUsedBelow t v ⊎ (Has v t.head.operands ⊎ (w.is_pinned v ≡ true))

module _ {N : Names} {S : Contents} {A : Type 0} (d : Dialect S A) (w : TreeSurroundings N A) (t : Root N S) (k : Facts N A) where
  -- the value gets the constant of this attribute
  pub record Gets (v : N.value) (a : A) : Type 0 where
    pub known : k.of v ≡ One a
    pub maker : S.of_operation
    pub made_by : d.constant a ≡ Some maker
    pub place : IsResult d t k v ⊎ IsArgument t k.runs v
    pub used : IsUsed w t v

  -- which values get constants, and which
  pub record AreMadeConstants (made : N.value → Option A) : Type 0 where
    pub gets : (v : N.value) (a : A) → made v ≡ Some a → Gets v a
    pub all : (v : N.value) (a : A) → Gets v a → made v ≡ Some a

-- a use names the constant, where there is one
abbrev pub used_as : {V A : Type 0} → V → Option A → Name V V
used_as v None = Old v
used_as v (Some a) = New v

-- the operation that makes an attribute, its name and its result's name new
abbrev pub constant_head : {N : Names} {S : Contents} {A : Type 0} →
    Dialect S A → N.value → A → S.of_operation → Head (fresh N) S
constant_head d v a c = record {
  name = New v;
  content = c;
  results = record { name = New v; holds = d.constant_type a } ∷ [];
  operands = [];
  successors = [];
}

module _ {N : Names} {S : Contents} {A : Type 0} (d : Dialect S A) where
  abbrev pub constant_before : N.value → A → Option S.of_operation →
      Tree (fresh N) S Operations → Tree (fresh N) S Operations
  constant_before v a None rest = rest
  constant_before v a (Some c) rest = operation (constant_head {N = N} d v a c) end rest

  abbrev pub put_one : N.value → Option A → Tree (fresh N) S Operations → Tree (fresh N) S Operations
  put_one v None rest = rest
  put_one v (Some a) rest = constant_before v a (d.constant a) rest

module _ {N : Names} {S : Contents} {A : Type 0} (d : Dialect S A) (made : N.value → Option A) where
  -- one for each result, in order, before the operation
  abbrev pub put_results : List (Defined N.value S.of_value) → Tree (fresh N) S Operations → Tree (fresh N) S Operations
  put_results [] rest = rest
  put_results (v ∷ vs) rest = put_one {N = N} d v.name (made v.name) (put_results vs rest)

  -- one for each argument, the last argument's first, at the start of the block
  abbrev pub put_arguments : List (Defined N.value S.of_value) →
      Tree (fresh N) S Operations → Tree (fresh N) S Operations
  put_arguments [] rest = rest
  put_arguments (v ∷ vs) rest = put_arguments vs (put_one {N = N} d v.name (made v.name) rest)

abbrev pub old_head : {N : Names} {S : Contents} {A : Type 0} → (N.value → Option A) → Head N S → Head (fresh N) S
old_head made h = record {
  name = Old h.name;
  content = h.content;
  results = map (rename_defined Old) h.results;
  operands = map (λ v. used_as v (made v)) h.operands;
  successors = h.successors;
}

abbrev pub old_label : {N : Names} {S : Contents} → Label N S → Label (fresh N) S
old_label l = record { name = l.name; content = l.content; arguments = map (rename_defined Old) l.arguments }

module _ {N : Names} {S : Contents} {A : Type 0} (d : Dialect S A) (made : N.value → Option A) where
  abbrev pub put : {s : Sort} → Tree N S s → Tree (fresh N) S s
  put end = end
  put (operation h rs rest) =
      put_results {N = N} d made h.results (operation (old_head {N = N} made h) (put rs) (put rest))
  put (block l ops rest) = block (old_label {N = N} l) (put_arguments {N = N} d made l.arguments (put ops)) (put rest)
  put (region bs rest) = region (put bs) (put rest)

  abbrev pub put_root : Root N S → Root (fresh N) S
  put_root t = record { head = old_head {N = N} made t.head; regions = put t.regions }

module _ {N : Names} {S : Contents} {A : Type 0} (d : Dialect S A) (w : TreeSurroundings N A) where
  -- the pass; uses outside the root are renamed by used_as
  pub record IsSccp (t : Root N S) (after : Root (fresh N) S) : Type 0 where
    pub facts : Facts N A
    pub best : IsMostPrecise d t facts
    pub made : N.value → Option A
    pub is_made : AreMadeConstants d w t facts made
    pub is : after ≡ put_root {N = N} d made t

  -- of what stood there as much is known as before, and a new value is known to be its constant
  pub record KeepsFacts (t : Root N S) (k : Facts N A) (l : Facts (fresh N) A) : Type 0 where
    pub runs : (b : N.block) → l.runs b ≡ k.runs b
    pub of : (v : N.value) → l.of (Old v) ≡ k.of v
    pub made : (v : N.value) (a : A) → Gets d w t k v a → l.of (New v) ≡ One a

-- afterwards something outside the root names what stands for a value that something outside named before
abbrev pub RenamesPins : {N : Names} {A : Type 0} → (N.value → Option A) → TreeSurroundings N A →
    TreeSurroundings (fresh N) A → Type 0
RenamesPins {N} made w z = (x : Name N.value N.value) → z.is_pinned x ≡ true →
    (v : N.value) × (w.is_pinned v ≡ true) × (used_as v (made v) ≡ x)

-- what is known afterwards: the old facts of what stood there, and of a new value its constant

abbrev pub known_after : {V A : Type 0} → (V → Known A) → (V → Option A) → Name V V → Known A
known_after of made (Old v) = of v
known_after of made (New v) = answer (made v)

abbrev pub facts_after : {B V A : Type 0} → FactsOf B V A → (V → Option A) → FactsOf B (Name V V) A
facts_after k made = record { runs = k.runs; of = known_after k.of made }

-- of two it can be told whether they are the same
abbrev pub CanTell : Type 0 → Type 0
CanTell X = (x y : X) → (x ≡ y) ⊎ (x ≢ y)

module _ {N : Names} {S : Contents} {A : Type 0} (d : Dialect S A) (t : Root N S) where
  -- the value is the result of a constant
  pub record IsOfConstant (v : N.value) : Type 0 where
    pub definer : Occurrence N S
    pub stands : Has definer (occurrences_of t)
    pub constant : d.is_constant definer.head.content ≡ true
    pub result : Has v (names_of definer.head.results)

  -- where the most precise facts know a value that an operation uses to be a constant that can be made,
  -- the value is the result of a constant
  abbrev pub NamesConstants : Type 0
  NamesConstants = (k : Facts N A) → IsMostPrecise d t k →
      (v : N.value) (user : Occurrence N S) (i : ℕ) (a : A) (c : S.of_operation) →
      Use t v user i → k.of v ≡ One a → d.constant a ≡ Some c → IsOfConstant v
