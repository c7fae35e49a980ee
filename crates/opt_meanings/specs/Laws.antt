-- The statements of the laws.
use Rattle.std.specs.Prelude.{◌≡◌, ℕ, true, Some, slice_get}
use Rattle.ir_trees.specs.Names.{Names, Contents}
use Rattle.ir_trees.specs.Renames.{HaveTests, IsSameUpToNames}
use Rattle.ir_trees.specs.Trees.{Root}
use Rattle.opt_trees.specs.Dce.{TreeSurroundings, IsDce}
use Rattle.opt_trees.specs.Dialect.{Dialect, Lawful}
use Rattle.opt_trees.specs.Occurrences.{Has, OperationsApart, Occurrence, occurrences_of, defined_in}
use Rattle.opt_trees.specs.Sccp.{fresh, IsSccp}
use Rattle.opt_trees.specs.Simplify.{IsOrderly, IsSimplify}
use Rattle.opt_meanings.specs.Meanings.{Meanings, IsMeant, Bijection, mean_root, worded, worded_around}

-- no value that is defined below the root is named from outside it
abbrev pub NonePinned : {N : Names} {S : Contents} {A : Type 0} → TreeSurroundings N A → Root N S → Type 0
NonePinned {N} w t = (v : N.value) → Has v (defined_in t.regions) → w.is_pinned v ≡ true → ⊥

-- at the same place of the two trees, in the order of the text, the contexts know the same of each operand of a branch
abbrev pub KnowAlike : {N : Names} {S : Contents} {A : Type 0} → Dialect S A → TreeSurroundings N A → TreeSurroundings N A → Root N S →
    Root N S → Type 0
KnowAlike {N} {S} d w z t u = (i j : ℕ) (o p : Occurrence N S) (v x : N.value) →
    slice_get (occurrences_of t) i ≡ Some o → slice_get (occurrences_of u) i ≡ Some p →
    d.is_branch o.head.content ≡ true → slice_get o.head.operands j ≡ Some v →
    slice_get p.head.operands j ≡ Some x → w.alone v ≡ z.alone x

-- what is made of what a tree means is the meaning of what is made of it
module _ (N : Names) (S R : Contents) (A : Type 0) where
  abbrev pub SccpMeans : Type 0
  SccpMeans = (m : Meanings S R) (d : Dialect S A) (e : Dialect R A) → IsMeant m d e →
      (w : TreeSurroundings N A) (t : Root N S) (after : Root (fresh N) S) → IsSccp d w t after →
      IsSccp e w (mean_root m t) (mean_root m after)

  abbrev pub DceMeans : Type 0
  DceMeans = (m : Meanings S R) (d : Dialect S A) (e : Dialect R A) → IsMeant m d e →
      (w : TreeSurroundings N A) (t after : Root N S) → IsDce d w t after → IsDce e w (mean_root m t) (mean_root m after)

  -- where operations have distinct names
  abbrev pub SimplifyMeans : Type 0
  SimplifyMeans = (m : Meanings S R) (d : Dialect S A) (e : Dialect R A) → IsMeant m d e →
      (w : TreeSurroundings N A) (t after : Root N S) → OperationsApart t → IsSimplify d w t after →
      IsSimplify e w (mean_root m t) (mean_root m after)

-- the same is made of a tree whatever words attributes are in
module _ (N : Names) (S : Contents) (A B : Type 0) where
  abbrev pub SccpWorded : Type 0
  SccpWorded = (w : Bijection A B) (d : Dialect S A) (a : TreeSurroundings N A) (t : Root N S)
      (after : Root (fresh N) S) → IsSccp d a t after → IsSccp (worded w d) (worded_around w a) t after

  abbrev pub DceWorded : Type 0
  DceWorded = (w : Bijection A B) (d : Dialect S A) (a : TreeSurroundings N A) (t after : Root N S) → IsDce d a t after →
      IsDce (worded w d) (worded_around w a) t after

  abbrev pub SimplifyWorded : Type 0
  SimplifyWorded = (w : Bijection A B) (d : Dialect S A) (a : TreeSurroundings N A) (t after : Root N S) →
      IsSimplify d a t after → IsSimplify (worded w d) (worded_around w a) t after

-- of trees that are the same up to names, which can be told apart, what is the same up to names is made
module _ (N : Names) (S : Contents) (A : Type 0) where
  abbrev pub SameSccps : Type 0
  SameSccps = (d : Dialect S A) → HaveTests N → (t u : Root N S) → IsSameUpToNames t u → (w z : TreeSurroundings N A) →
      NonePinned w t → NonePinned z u → (a b : Root (fresh N) S) → IsSccp d w t a → IsSccp d z u b → IsSameUpToNames a b

  -- what a second sccp makes of what the first made, under any names, is the same up to names
  abbrev pub SecondSccpsSettle : Type 0
  SecondSccpsSettle = (d : Dialect S A) → Lawful d → HaveTests N → (w z : TreeSurroundings N A) (t u : Root N S)
      (put again : Root (fresh N) S) → IsSccp d w t put → IsSameUpToNames put u → NonePinned z u →
      IsSccp d z u again → IsSameUpToNames u again

  abbrev pub SameDces : Type 0
  SameDces = (d : Dialect S A) → HaveTests N → (t u : Root N S) → IsSameUpToNames t u → (w z : TreeSurroundings N A) →
      NonePinned w t → NonePinned z u → (a b : Root N S) → IsDce d w t a → IsDce d z u b → IsSameUpToNames a b

  abbrev pub SameSimplifies : Type 0
  SameSimplifies = (d : Dialect S A) → HaveTests N → (t u : Root N S) → IsSameUpToNames t u → (w z : TreeSurroundings N A) →
      KnowAlike d w z t u → IsOrderly t → IsOrderly u → (a b : Root N S) → IsSimplify d w t a →
      IsSimplify d z u b → IsSameUpToNames a b
