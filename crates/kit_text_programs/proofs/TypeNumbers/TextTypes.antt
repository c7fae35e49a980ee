-- Types of several closed texts, and of contexts, are numbered.
use Rattle.std.proofs.Common.{inl, inr, ⊎_elim, ℕ, List, [], ◌∷◌, ◌++◌, refl, subst}
use Rattle.ir_forest.specs.Closed.{IsClosedTree}
use Rattle.ir_forest.specs.Bare.{IsBare}
use Rattle.ir_print.specs.Pieces.{Entity, ValueTree}
use Rattle.kit_language.specs.Language.{kit_language}
use Rattle.opt_trees.specs.Occurrences.{Has}
use Rattle.opt_trees.proofs.NoneDead.{has-append, has-left, has-right}
use Rattle.kit_text_programs.specs.SameLaws.{types_in_text, TypesAreNumbered}
use Rattle.kit_text_programs.proofs.TypeNumbers.ClosedTypes.{closed_bare}
use Rattle.kit_text_programs.proofs.TypeNumbers.Indices.{index_of, indices_apart}
use Rattle.kit_text_programs.proofs.TypeNumbers.NumberedTypes.{types_numbered}
use Rattle.kit_text_programs.proofs.TypeNumbers.TestedTexts.{text_test}

-- the types that the texts say
abbrev types_of_all : List (Entity ℕ) → List ValueTree
types_of_all [] = []
types_of_all (a ∷ texts) = types_in_text a ++ types_of_all texts

one_within : (texts : List (Entity ℕ)) (a : Entity ℕ) → Has a texts → (r : ValueTree) → Has r (types_in_text a) → Has r (types_of_all texts)
one_within [] a h r has = absurd h
one_within (b ∷ texts) a (inl e) r has = has-left r (types_in_text b) (types_of_all texts) (subst (λ z. Has r (types_in_text z)) e has)
one_within (b ∷ texts) a (inr h) r has = has-right r (types_in_text b) (types_of_all texts) (one_within texts a h r has)

two_within : (texts : List (Entity ℕ)) (a b : Entity ℕ) → Has a texts → Has b texts → (r : ValueTree) →
    Has r (types_in_text a ++ types_in_text b) → Has r (types_of_all texts)
two_within texts a b h k r has =
    ⊎_elim (one_within texts a h r) (one_within texts b k r) (has-append r (types_in_text a) (types_in_text b) has)

all_bare : (texts : List (Entity ℕ)) → ((a : Entity ℕ) → Has a texts → IsClosedTree kit_language a) → (r : ValueTree) →
    Has r (types_of_all texts) → IsBare r
all_bare [] closed r h = absurd h
all_bare (a ∷ texts) closed r h = ⊎_elim
    (λ l. closed_bare a (closed a (inl refl)) r l)
    (λ k. all_bare texts (λ b m. closed b (inr m)) r k)
    (has-append r (types_in_text a) (types_of_all texts) h)

pub text_types_numbered : TypesAreNumbered
text_types_numbered texts closed =
    let all = types_of_all texts in
    record {
      number = index_of text_test all;
      apart = λ a b h k r q m n e.
          indices_apart text_test all r q (two_within texts a b h k r m) (two_within texts a b h k q n) e;
      handles = λ s z a b root there t u same h k first second.
          types_numbered s first.handles all (all_bare texts closed) (index_of text_test all) (indices_apart text_test all)
          z a b root there t u same first second (two_within texts a b h k);
    }
