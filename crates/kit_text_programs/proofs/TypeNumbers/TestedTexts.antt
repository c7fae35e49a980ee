-- Of two texts of types it can be told whether they are the same.
use Rattle.std.proofs.Common.{◌≡◌, ◌≢◌, ◌⊎◌, inl, inr, ℕ, zero, suc, Bool, true, false, List, [], ◌∷◌, refl, ap}
use Rattle.ir_names.specs.declared.kinds.Signedness.{Signedness}
use Rattle.ir_names.specs.declared.kinds.Signedness.TheVariants.{Signless, Signed, Unsigned}
use Rattle.ir_names.specs.Tree.{node, no_tree, a_tree}
use Rattle.ir_print.specs.declared.format.ValueSort.{ValueSort}
use Rattle.ir_print.specs.declared.format.ValueSort.TheVariants as sorts
use Rattle.ir_print.specs.Pieces.{Leaf, name, number, width, Piece, value_of_kind, list, item, operands, successor, region, leaf, chosen, unsigned, quoted, mark}
use Rattle.ir_print.specs.Pieces.{ValueTree, Pieces}

-- two of these are the same or not
abbrev pub Tested : {X : Type 0} → X → X → Type 0
Tested x y = (x ≡ y) ⊎ (x ≢ y)

-- what is made of one part is told apart where its part is
by_part : {A C : Type 0} (f : A → C) (a b : A) → (f a ≡ f b → a ≡ b) → Tested a b → Tested (f a) (f b)
by_part f a b back (inl e) = inl (ap f e)
by_part f a b back (inr differ) = inr (λ s. differ (back s))

-- what is made of two parts is told apart where its parts are
by_parts : {A B C : Type 0} (f : A → B → C) (a b : A) (c d : B) → (f a c ≡ f b d → a ≡ b) → (f a c ≡ f b d → c ≡ d) →
    Tested a b → Tested c d → Tested (f a c) (f b d)
by_parts f a b c d first second (inl e) (inl h) = inl (λ i. f (e i) (h i))
by_parts f a b c d first second (inl e) (inr differ) = inr (λ s. differ (second s))
by_parts f a b c d first second (inr differ) h = inr (λ s. differ (first s))

-- numbers
pub number_test : (m n : ℕ) → Tested m n
number_test zero zero = inl refl
number_test zero (suc n) = inr (λ e. cc)
number_test (suc m) zero = inr (λ e. cc)
number_test (suc m) (suc n) = by_part suc m n (λ e. cc) (number_test m n)

-- lists of numbers
numbers_test : (ms ns : List ℕ) → Tested ms ns
numbers_test [] [] = inl refl
numbers_test [] (n ∷ ns) = inr (λ e. cc)
numbers_test (m ∷ ms) [] = inr (λ e. cc)
numbers_test (m ∷ ms) (n ∷ ns) = by_parts ◌∷◌ m n ms ns (λ e. cc) (λ e. cc) (number_test m n) (numbers_test ms ns)

-- flags
flag_test : (b c : Bool) → Tested b c
flag_test true true = inl refl
flag_test true false = inr (λ e. cc)
flag_test false true = inr (λ e. cc)
flag_test false false = inl refl

-- signs of integers
sign_test : (s t : Signedness) → Tested s t
sign_test Signless Signless = inl refl
sign_test Signless _ = inr (λ e. cc)
sign_test Signed Signed = inl refl
sign_test Signed _ = inr (λ e. cc)
sign_test Unsigned Unsigned = inl refl
sign_test Unsigned _ = inr (λ e. cc)

-- sorts of values
sort_test : (s t : ValueSort) → Tested s t
sort_test sorts.«Type» sorts.«Type» = inl refl
sort_test sorts.«Type» sorts.Attribute = inr (λ e. cc)
sort_test sorts.Attribute sorts.«Type» = inr (λ e. cc)
sort_test sorts.Attribute sorts.Attribute = inl refl

-- leaves
leaf_test : (x y : Leaf) → Tested x y
leaf_test (name ms) (name ns) = by_part name ms ns (λ e. cc) (numbers_test ms ns)
leaf_test (name ms) _ = inr (λ e. cc)
leaf_test (number b m) (number c n) = by_parts number b c m n (λ e. cc) (λ e. cc) (flag_test b c) (number_test m n)
leaf_test (number b m) _ = inr (λ e. cc)
leaf_test (unsigned m) (unsigned n) = by_part unsigned m n (λ e. cc) (number_test m n)
leaf_test (unsigned m) _ = inr (λ e. cc)
leaf_test (width s m) (width t n) = by_parts width s t m n (λ e. cc) (λ e. cc) (sign_test s t) (number_test m n)
leaf_test (width s m) _ = inr (λ e. cc)
leaf_test (quoted ms) (quoted ns) = by_part quoted ms ns (λ e. cc) (numbers_test ms ns)
leaf_test (quoted ms) _ = inr (λ e. cc)
leaf_test (mark m) (mark n) = by_part mark m n (λ e. cc) (number_test m n)
leaf_test (mark m) _ = inr (λ e. cc)

-- pieces
piece_test : (p q : Piece) → Tested p q
piece_test (value_of_kind s m) (value_of_kind t n) =
    by_parts value_of_kind s t m n (λ e. cc) (λ e. cc) (sort_test s t) (number_test m n)
piece_test (value_of_kind s m) _ = inr (λ e. cc)
piece_test list list = inl refl
piece_test list _ = inr (λ e. cc)
piece_test item item = inl refl
piece_test item _ = inr (λ e. cc)
piece_test (chosen m) (chosen n) = by_part chosen m n (λ e. cc) (number_test m n)
piece_test (chosen m) _ = inr (λ e. cc)
piece_test (operands m) (operands n) = by_part operands m n (λ e. cc) (number_test m n)
piece_test (operands m) _ = inr (λ e. cc)
piece_test (successor m) (successor n) = by_part successor m n (λ e. cc) (number_test m n)
piece_test (successor m) _ = inr (λ e. cc)
piece_test region region = inl refl
piece_test region _ = inr (λ e. cc)
piece_test (leaf x) (leaf y) = by_part leaf x y (λ e. cc) (leaf_test x y)
piece_test (leaf x) _ = inr (λ e. cc)

mutual
  -- texts
  pub text_test : (r q : ValueTree) → Tested r q
  text_test (node p ts) (node q us) = by_parts node p q ts us (λ e. cc) (λ e. cc) (piece_test p q) (texts_test ts us)

  -- texts, one after the other
  texts_test : (rs qs : Pieces) → Tested rs qs
  texts_test no_tree no_tree = inl refl
  texts_test no_tree (a_tree q qs) = inr (λ e. cc)
  texts_test (a_tree r rs) no_tree = inr (λ e. cc)
  texts_test (a_tree r rs) (a_tree q qs) =
      by_parts a_tree r q rs qs (λ e. cc) (λ e. cc) (text_test r q) (texts_test rs qs)
