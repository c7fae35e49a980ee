-- The statements of the laws.
use Rattle.std.specs.Prelude.{◌≡◌, ℕ, List, [], ◌∷◌, ◌++◌, Option, map}
use Rattle.ir_base.specs.declared.types.TypeHandle.{TypeHandle}
use Rattle.ir_forest.specs.Closed.{IsClosedTree, IsNumbered, IsSameModule}
use Rattle.ir_names.specs.Tree.{node, no_tree, a_tree}
use Rattle.ir_print.specs.Pieces.{value_of_kind, Pieces, ValueTree, EntityHead, operation, a_region, block, Entity, entity}
use Rattle.ir_print.specs.Pieces.{Entities, no_entity, an_entity}
use Rattle.ir_print.specs.Shown.{ShowsType}
use Rattle.ir_program.specs.declared.handles.Operation.{Operation}
use Rattle.ir_program.specs.declared.handles.Ptr.{Ptr}
use Rattle.ir_trees.specs.Renames.{IsSameUpToNames}
use Rattle.ir_trees.specs.Stands.{by_handle, StandsFor}
use Rattle.kit.specs.Context.{KitContext, KitTree}
use Rattle.kit.specs.Meaning.{kit}
use Rattle.kit_behaviour.specs.PassLists.{Pass}
use Rattle.kit_language.specs.Language.{kit_language}
use Rattle.kit_ruled_views.specs.TreePasses.{IsTreeAfter}
use Rattle.kit_ops.specs.declared.types.KitType.{KitType}
use Rattle.kit_ruled_views.specs.Ruled.{HasOwnNames}
use Rattle.kit_text_programs.specs.Laws.{HaveOwnNumbers}
use Rattle.kit_text_programs.specs.RuleLaws.{HasOneHandleEach}
use Rattle.kit.specs.Says.{says}
use Rattle.opt_meanings.specs.Meanings.{Bijection, IsMeant, mean_root, worded}
use Rattle.opt_trees.specs.Occurrences.{Has}
use Rattle.text_dialect.specs.Seen.{seen}
use Rattle.text_dialect.specs.Standing.{StandsForTexts}
use Rattle.text_rereading.specs.Rereading.{Numbering, Named}
use Rattle.ir_print.specs.declared.format.ValueSort.TheVariants as sorts
use Rattle.kit_text_programs.specs.Meanings.{integers, kit_said, meanings}

-- 1. passes

-- trees of two contexts say the same, by these numbers of types, up to the handles in them
abbrev pub SayTheSame : (TypeHandle → ℕ) → (TypeHandle → ℕ) → KitTree → KitTree → Type 0
SayTheSame number other t u =
    IsSameUpToNames {N = by_handle} {M = by_handle} (mean_root (meanings number) t) (mean_root (meanings other) u)

-- of trees that say the same a list of passes makes trees that say the same, whatever contexts they stand in
abbrev pub PassesKeepSame : Type 0
PassesKeepSame = (leads others : TypeHandle → Option KitType) (codes other_codes : Bijection TypeHandle ℕ)
    (numbered : List ℕ → ℕ) (xs : List Pass) (t u r q : KitTree) → SayTheSame codes.to other_codes.to t u →
    IsTreeAfter {N = by_handle} leads numbered xs t r → IsTreeAfter {N = by_handle} others numbered xs u q →
    SayTheSame codes.to other_codes.to r q

-- a list of passes on a tree is its beginning and then its rest
abbrev pub ListsOfPassesCut : Type 0
ListsOfPassesCut = (leads : TypeHandle → Option KitType) (numbered : List ℕ → ℕ) (xs ys : List Pass) (t r : KitTree) →
    IsTreeAfter {N = by_handle} leads numbered (xs ++ ys) t r →
    (m : KitTree) × IsTreeAfter {N = by_handle} leads numbered xs t m
    × IsTreeAfter {N = by_handle} leads numbered ys m r

-- `kit_said` says of what is said what `kit` says of operations and blocks, where types have numbers one to one
abbrev pub KitIsMeant : Type 0
KitIsMeant = (w : Bijection TypeHandle ℕ) → IsMeant (meanings w.to) (worded (integers w) kit) kit_said

-- 2. texts

-- the types among pieces: those that are pieces themselves, not those inside other pieces
abbrev pub types_among : Pieces → List ValueTree
types_among no_tree = []
types_among (a_tree (node (value_of_kind sorts.«Type» n) us) ts) = node (value_of_kind sorts.«Type» n) us ∷ types_among ts
types_among (a_tree (node _ us) ts) = types_among ts

-- the types that a head says: those of its results or arguments, and those among its pieces
abbrev pub types_of_head : EntityHead ℕ → List ValueTree
types_of_head (operation kind results used successors pieces) = map (λ (r : ℕ × ValueTree). r.1) results ++ types_among pieces
types_of_head a_region = []
types_of_head (block named label arguments) = map (λ (r : ℕ × ValueTree). r.1) arguments

abbrev mutual
  -- the types that a tree of texts says
  pub types_in_text : Entity ℕ → List ValueTree
  types_in_text (entity h ts) = types_of_head h ++ types_in_texts ts

  pub types_in_texts : Entities ℕ → List ValueTree
  types_in_texts no_entity = []
  types_in_texts (an_entity t ts) = types_in_text t ++ types_in_texts ts

-- an operation of a context stands for this tree and for this tree of texts. Different numbers of the text name
-- different values; below the root no two operations, blocks or definitions have one handle; a type has one handle
pub record StandsAs (text : Entity ℕ) (s : KitContext) (root : Ptr Operation) (t : KitTree) : Type 0 where
  pub numbering : Numbering
  pub distinct : HaveOwnNumbers numbering
  pub stands : StandsForTexts says (Named numbering) (seen s) root text
  pub is_tree : StandsFor s.program root t
  pub names : HasOwnNames t
  pub handles : HasOneHandleEach s

-- a handle whose type the text says has the number of that type
abbrev pub HaveTextNumbers : (ValueTree → ℕ) → (TypeHandle → ℕ) → KitContext → Entity ℕ → Type 0
HaveTextNumbers number code s text = (h : TypeHandle) (r : ValueTree) → ShowsType says s.types.keys h r →
    Has r (types_in_text text) → code h ≡ number r

-- what stands in two contexts for one text, but for labels, says the same
abbrev pub OneTextSaysTheSame : Type 0
OneTextSaysTheSame = (number : ValueTree → ℕ) (code other_code : TypeHandle → ℕ) (text other : Entity ℕ)
    (s z : KitContext) (root there : Ptr Operation) (t u : KitTree) → IsSameModule text other →
    StandsAs text s root t → StandsAs other z there u → HaveTextNumbers number code s text →
    HaveTextNumbers number other_code z other → SayTheSame code other_code t u

-- different types of these have different numbers
abbrev pub NumbersApart : (ValueTree → ℕ) → List ValueTree → Type 0
NumbersApart number rs = (r q : ValueTree) → Has r rs → Has q rs → number r ≡ number q → r ≡ q

-- what says the same stands for one text but for labels, where the texts are closed and number definitions in their
-- order, and different types have different numbers
abbrev pub TheSameSayOneText : Type 0
TheSameSayOneText = (number : ValueTree → ℕ) (code other_code : TypeHandle → ℕ) (text other : Entity ℕ)
    (s z : KitContext) (root there : Ptr Operation) (t u : KitTree) → SayTheSame code other_code t u →
    StandsAs text s root t → StandsAs other z there u → HaveTextNumbers number code s text →
    HaveTextNumbers number other_code z other → NumbersApart number (types_in_text text ++ types_in_text other) →
    IsClosedTree kit_language text → IsClosedTree kit_language other → IsNumbered text → IsNumbered other →
    IsSameModule text other

-- The types that the texts say have numbers, different ones different numbers. In any two contexts with the same types,
-- in which operations stand for two of the texts, handles can be numbered one to one in the same way.
pub record AreNumberedApart (texts : List (Entity ℕ)) : Type 0 where
  pub number : ValueTree → ℕ
  pub apart : (a b : Entity ℕ) → Has a texts → Has b texts → NumbersApart number (types_in_text a ++ types_in_text b)
  pub handles : (s z : KitContext) (a b : Entity ℕ) (root there : Ptr Operation) (t u : KitTree) → z.types ≡ s.types →
      Has a texts → Has b texts → StandsAs a s root t → StandsAs b z there u →
      (codes : Bijection TypeHandle ℕ) × HaveTextNumbers number codes.to s a × HaveTextNumbers number codes.to z b

-- the types that closed texts say can be numbered so
abbrev pub TypesAreNumbered : Type 0
TypesAreNumbered = (texts : List (Entity ℕ)) → ((a : Entity ℕ) → Has a texts → IsClosedTree kit_language a) →
    AreNumberedApart texts
