-- What is said at the steps of a format can be read.
use Rattle.std.proofs.Common.{◌≡◌, ℕ, suc, zero, Bool, true, false, List, [], ◌∷◌, refl, subst}
use Rattle.std.specs.Prelude.{◌&&◌, Option, None, Some, slice_get}
use Rattle.ir_names.specs.Tree.{LabelledTree, Trees, node, no_tree, a_tree}
use Rattle.ir_print.specs.Formats as step
use Rattle.ir_print.specs.Formats.{Formats, Kind, Step, Steps, Choices, no_choice, a_choice, alternative}
use Rattle.ir_print.specs.Layout.{Deeper}
use Rattle.ir_print.specs.Nested.{is_nested, are_nested, are_choices_nested, kinds_nested, is_nested_little}
use Rattle.ir_print.specs.Pieces.{value_of_kind, list, item, chosen, operands, successor, region, leaf, ValueTree, Pieces}
use Rattle.text_printing.specs.Printing.{IsReadable, AreReadable}
use Rattle.ir_print.specs.Shapes.{parts_in, IsListOf, IsKnownOf, IsChoiceOf, IsSaidAt, AreSaidAt, AreMembersSaidAt, IsMemberSaidAt}
use Rattle.ir_print.specs.Shown.{Saying, Shows, ShowsAll, Said, said_list, said_item, said_choice}

both : (a b : Bool) → (a && b) ≡ true → (a ≡ true) × (b ≡ true)
both true b h = (refl, h)
both false b h = absurd (cc)

-- each of some steps has lists so deep in one another
abbrev pub AllNested : ℕ → List Step → Type 0
AllNested d [] = Unit {0}
AllNested d (s ∷ ss) = (is_nested d s ≡ true) × AllNested d ss

-- a format's parts have lists no deeper than the format
parts_nested : (d : ℕ) (ss : Steps) → are_nested d ss ≡ true → AllNested d (parts_in ss)
parts_nested d step.no_steps h = tt
parts_nested d (step.step (step.word printed text) ss) h = parts_nested d ss h
parts_nested d (step.step step.operands ss) h = (refl, parts_nested d ss h)
parts_nested d (step.step step.operand ss) h = (refl, parts_nested d ss h)
parts_nested d (step.step step.successor ss) h = (refl, parts_nested d ss h)
parts_nested d (step.step (step.a_value sort) ss) h = (refl, parts_nested d ss h)
parts_nested d (step.step step.a_region ss) h = (refl, parts_nested d ss h)
parts_nested d (step.step step.symbol_name ss) h = (refl, parts_nested d ss h)
parts_nested d (step.step (step.a_leaf sort) ss) h = (refl, parts_nested d ss h)
parts_nested d (step.step (step.list_of member printed text) ss) h = let b = both (is_nested d (step.list_of member printed text)) (are_nested d ss) h in (b.0, parts_nested d ss b.1)
parts_nested d (step.step (step.choice_of cs) ss) h = let b = both (is_nested d (step.choice_of cs)) (are_nested d ss) h in (b.0, parts_nested d ss b.1)

-- a format of a choice has lists no deeper than all of them
alternative_nested : (d : ℕ) (cs : Choices) (n : ℕ) (format : Steps) → are_choices_nested d cs ≡ true → alternative cs n ≡ Some format → are_nested d format ≡ true
alternative_nested d no_choice n format h e = cc
alternative_nested d (a_choice ss cs) zero format h e = let same : ss ≡ format = cc in subst (λ x. are_nested d x ≡ true) same (both (are_nested d ss) (are_choices_nested d cs) h).0
alternative_nested d (a_choice ss cs) (suc n) format h e = alternative_nested d cs n format (both (are_nested d ss) (are_choices_nested d cs) h).1 e

-- what a format of a choice says, one deeper
readable_choice : {A : Type 0} (d : ℕ) (s : Step) (n : ℕ) (us : Trees (Said A)) (ts : Pieces) → is_nested d s ≡ true → IsChoiceOf s n (λ ss. AreSaidAt ss us)
    → ((e : ℕ) (ss : List Step) → AllNested e ss → AreSaidAt ss us → AreReadable e ts) → Deeper d (λ e. AreReadable e ts)
readable_choice zero (step.choice_of cs) n us ts k h parts = absurd (cc)
readable_choice (suc d) (step.choice_of cs) n us ts k h parts = known (alternative cs n) refl h
  where
    known : (o : Option Steps) → alternative cs n ≡ o → IsKnownOf o (λ ss. AreSaidAt ss us) → AreReadable d ts
    known None e m = absurd m
    known (Some format) e m = parts d (parts_in format) (parts_nested d format (alternative_nested d cs n format k e)) m
readable_choice d _ n us ts k h parts = absurd h

-- the members of a list, one list deeper
readable_list : {A : Type 0} (d : ℕ) (s : Step) (us : Trees (Said A)) (ts : Pieces) → is_nested d s ≡ true → IsListOf s (λ ss. AreMembersSaidAt ss us)
    → ((e : ℕ) (ss : List Step) → AllNested e ss → AreMembersSaidAt ss us → AreReadable e ts) → Deeper d (λ e. AreReadable e ts)
readable_list zero (step.list_of member printed text) us ts n h members = absurd (cc)
readable_list (suc d) (step.list_of member printed text) us ts n h members = members d (parts_in member) (parts_nested d member n) h
readable_list d _ us ts n h members = absurd h

module _ {K A T : Type 0} (says : Saying K A T) (types : List T) where
  mutual
    readable_one : (d : ℕ) (s : Step) (u : LabelledTree (Said A)) (t : ValueTree) → is_nested d s ≡ true → IsSaidAt s u → Shows says types u t → IsReadable d t
    readable_one d s u (node (value_of_kind sort n) ts) k h x = tt
    readable_one d s u (node list ts) k h x = readable_list d s x.0 ts k (subst (λ y. IsSaidAt s y) x.1 h) (λ e ss n m. readable_members e ss x.0 ts n m x.2)
    readable_one d s u (node item ts) k h x = let o : IsSaidAt s (node said_item x.0) = subst (λ y. IsSaidAt s y) x.1 h in absurd o
    readable_one d s u (node (chosen n) ts) k h x = readable_choice d s n x.0 ts k (subst (λ y. IsSaidAt s y) x.1 h) (λ e ss nested m. readable_parts e ss x.0 ts nested m x.2)
    readable_one d s u (node (operands n) ts) k h x = tt
    readable_one d s u (node (successor n) ts) k h x = tt
    readable_one d s u (node region ts) k h x = tt
    readable_one d s u (node (leaf l) ts) k h x = (subst (λ y. IsSaidAt s y) x h).1

    readable_parts : (d : ℕ) (ss : List Step) (us : Trees (Said A)) (ts : Pieces) → AllNested d ss → AreSaidAt ss us → ShowsAll says types us ts → AreReadable d ts
    readable_parts d ss us no_tree k h x = tt
    readable_parts d [] no_tree (a_tree t ts) k h x = absurd x
    readable_parts d [] (a_tree u us) (a_tree t ts) k h x = absurd h
    readable_parts d (s ∷ ss) no_tree (a_tree t ts) k h x = absurd x
    readable_parts d (s ∷ ss) (a_tree u us) (a_tree t ts) k h x = (readable_one d s u t k.0 h.0 x.0, readable_parts d ss us ts k.1 h.1 x.1)

    readable_members : (d : ℕ) (ss : List Step) (us : Trees (Said A)) (ts : Pieces) → AllNested d ss → AreMembersSaidAt ss us → ShowsAll says types us ts → AreReadable d ts
    readable_members d ss us no_tree k h x = tt
    readable_members d ss no_tree (a_tree t ts) k h x = absurd x
    readable_members d ss (a_tree u us) (a_tree t ts) k h x = (readable_member d ss u t k h.0 x.0, readable_members d ss us ts k h.1 x.1)

    readable_member : (d : ℕ) (ss : List Step) (u : LabelledTree (Said A)) (t : ValueTree) → AllNested d ss → IsMemberSaidAt ss u → Shows says types u t → IsReadable d t
    readable_member d ss u (node (value_of_kind sort n) ts) k h x = tt
    readable_member d ss u (node list ts) k h x = let o : IsMemberSaidAt ss (node said_list x.0) = subst (λ y. IsMemberSaidAt ss y) x.1 h in absurd o
    readable_member d ss u (node item ts) k h x = readable_parts d ss x.0 ts k (subst (λ y. IsMemberSaidAt ss y) x.1 h) x.2
    readable_member d ss u (node (chosen n) ts) k h x = let o : IsMemberSaidAt ss (node (said_choice n) x.0) = subst (λ y. IsMemberSaidAt ss y) x.1 h in absurd o
    readable_member d ss u (node (operands n) ts) k h x = tt
    readable_member d ss u (node (successor n) ts) k h x = tt
    readable_member d ss u (node region ts) k h x = tt
    readable_member d ss u (node (leaf l) ts) k h x = absurd (subst (λ y. IsMemberSaidAt ss y) x h)

  -- what is said at the steps of a format can be read
  pub readable : (d : ℕ) (format : Steps) (us : Trees (Said A)) (ts : Pieces) → are_nested d format ≡ true → AreSaidAt (parts_in format) us → ShowsAll says types us ts → AreReadable d ts
  readable d format us ts n h x = readable_parts d (parts_in format) us ts (parts_nested d format n) h x

kind_nested : (d : ℕ) (ks : List Kind) (n : ℕ) (k : Kind) → kinds_nested d ks ≡ true → slice_get ks n ≡ Some k → are_nested d k.format ≡ true
kind_nested d [] n k h at = absurd (cc)
kind_nested d (l ∷ ks) zero k h at = let e : l ≡ k = cc in subst (λ x. are_nested d x.format ≡ true) e (both (are_nested d l.format) (kinds_nested d ks) h).0
kind_nested d (l ∷ ks) (suc n) k h at = kind_nested d ks n k (both (are_nested d l.format) (kinds_nested d ks) h).1 at

module _ (f : Formats) (little : is_nested_little f ≡ true) where
  operation_and_types : (kinds_nested 64 f.operations && kinds_nested 64 f.types) ≡ true
  operation_and_types = (both (kinds_nested 64 f.operations && kinds_nested 64 f.types) (kinds_nested 64 f.attributes) little).0

  pub operation_nested : (n : ℕ) (k : Kind) → slice_get f.operations n ≡ Some k → are_nested 64 k.format ≡ true
  operation_nested n k at = kind_nested 64 f.operations n k (both (kinds_nested 64 f.operations) (kinds_nested 64 f.types) operation_and_types).0 at

  pub type_nested : (n : ℕ) (k : Kind) → slice_get f.types n ≡ Some k → are_nested 64 k.format ≡ true
  type_nested n k at = kind_nested 64 f.types n k (both (kinds_nested 64 f.operations) (kinds_nested 64 f.types) operation_and_types).1 at

  pub attribute_nested : (n : ℕ) (k : Kind) → slice_get f.attributes n ≡ Some k → are_nested 64 k.format ≡ true
  attribute_nested n k at = kind_nested 64 f.attributes n k (both (kinds_nested 64 f.operations && kinds_nested 64 f.types) (kinds_nested 64 f.attributes) little).1 at
