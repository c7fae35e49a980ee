-- What a dialect says has the shape of its formats.
use Rattle.std.proofs.Common.{List, [], ◌∷◌, refl, subst}
use Rattle.ir_names.specs.Tree.{LabelledTree, Trees, node, no_tree, a_tree}
use Rattle.ir_print.specs.Formats as step
use Rattle.ir_print.specs.Formats.{Formats, Step}
use Rattle.ir_print.specs.Pieces.{value_of_kind, list, item, chosen, operands, successor, region, leaf, ValueTree, Pieces, Values}
use Rattle.ir_print.specs.Shown.{Said, Saying, Shows, ShowsAll}
use Rattle.ir_print.specs.Layout.{alternative_of}
use Rattle.ir_rereading.proofs.Alternatives.{known_along}
use Rattle.ir_print.specs.declared.format.ValueSort.TheVariants as sorts
use Rattle.ir_print.specs.Shapes.{parts_in, IsListOf, IsSaidAt, AreSaidAt, AreMembersSaidAt, IsMemberSaidAt, Fits, FitAll, FitMembers, FitsMember, SaysTypes, SaysAttributes}

list_map : (s : Step) (P Q : List Step → Type 0) → ((ss : List Step) → P ss → Q ss) → IsListOf s P → IsListOf s Q
list_map (step.list_of member printed text) P Q f h = f (parts_in member) h
list_map (step.word printed text) P Q f h = absurd h
list_map step.operands P Q f h = absurd h
list_map step.operand P Q f h = absurd h
list_map step.successor P Q f h = absurd h
list_map (step.a_value sort) P Q f h = absurd h
list_map step.a_region P Q f h = absurd h
list_map step.symbol_name P Q f h = absurd h
list_map (step.a_leaf sort) P Q f h = absurd h
list_map (step.choice_of cs) P Q f h = absurd h

module _ {K A T : Type 0} (says : Saying K A T) (f : Formats) (v : Values) (types : List T) (say_types : SaysTypes says f v) (say_attributes : SaysAttributes says f v) where
  mutual
    pub shown_fits : (t : ValueTree) (s : Step) (u : LabelledTree (Said A)) → IsSaidAt s u → Shows says types u t → Fits f v s t
    shown_fits (node (value_of_kind sorts.«Type» n) ts) s u at h =
        let said = say_types types h.1 n h.2 ts h.5 h.6 in
        (subst (IsSaidAt s) h.3 at, said.kind, said.at, all_fit ts (parts_in said.kind.format) h.2 said.shaped h.6, said.read, refl)
    shown_fits (node (value_of_kind sorts.Attribute n) ts) s u at h =
        let said = say_attributes types h.0 n h.1 ts h.3 h.4 in
        (subst (IsSaidAt s) h.2 at, said.kind, said.at, all_fit ts (parts_in said.kind.format) h.1 said.shaped h.4, said.read, said.canonical)
    shown_fits (node list ts) s u at h = list_map s (λ ss. AreMembersSaidAt ss h.0) (λ ss. FitMembers f v ss ts) (λ ss m. members_fit ts ss h.0 m h.2) (subst (IsSaidAt s) h.1 at)
    shown_fits (node item ts) s u at h = subst (IsSaidAt s) h.1 at
    shown_fits (node (chosen n) ts) s u at h = known_along (alternative_of s n) (λ ss. AreSaidAt ss h.0) (λ ss. FitAll f v ss ts) (λ ss m. all_fit ts ss h.0 m h.2) (subst (IsSaidAt s) h.1 at)
    shown_fits (node (operands n) ts) s u at h = subst (IsSaidAt s) h at
    shown_fits (node (successor n) ts) s u at h = subst (IsSaidAt s) h at
    shown_fits (node region ts) s u at h = subst (IsSaidAt s) h at
    shown_fits (node (leaf x) ts) s u at h = subst (IsSaidAt s) h at

    pub all_fit : (ts : Pieces) (ss : List Step) (us : Trees (Said A)) → AreSaidAt ss us → ShowsAll says types us ts → FitAll f v ss ts
    all_fit no_tree [] no_tree at h = tt
    all_fit no_tree (s ∷ ss) no_tree at h = absurd at
    all_fit no_tree ss (a_tree u us) at h = absurd h
    all_fit (a_tree t ts) ss no_tree at h = absurd h
    all_fit (a_tree t ts) [] (a_tree u us) at h = absurd at
    all_fit (a_tree t ts) (s ∷ ss) (a_tree u us) at h = (shown_fits t s u at.0 h.0, all_fit ts ss us at.1 h.1)

    members_fit : (ts : Pieces) (ss : List Step) (us : Trees (Said A)) → AreMembersSaidAt ss us → ShowsAll says types us ts → FitMembers f v ss ts
    members_fit no_tree ss us at h = tt
    members_fit (a_tree t ts) ss no_tree at h = absurd h
    members_fit (a_tree t ts) ss (a_tree u us) at h = (member_fits t ss u at.0 h.0, members_fit ts ss us at.1 h.1)

    member_fits : (t : ValueTree) (ss : List Step) (u : LabelledTree (Said A)) → IsMemberSaidAt ss u → Shows says types u t → FitsMember f v ss t
    member_fits (node (value_of_kind sorts.«Type» n) ts) ss u at h = absurd (subst (IsMemberSaidAt ss) h.3 at)
    member_fits (node (value_of_kind sorts.Attribute n) ts) ss u at h = absurd (subst (IsMemberSaidAt ss) h.2 at)
    member_fits (node list ts) ss u at h = absurd (subst (IsMemberSaidAt ss) h.1 at)
    member_fits (node item ts) ss u at h = all_fit ts ss h.0 (subst (IsMemberSaidAt ss) h.1 at) h.2
    member_fits (node (chosen n) ts) ss u at h = absurd (subst (IsMemberSaidAt ss) h.1 at)
    member_fits (node (operands n) ts) ss u at h = absurd (subst (IsMemberSaidAt ss) h at)
    member_fits (node (successor n) ts) ss u at h = absurd (subst (IsMemberSaidAt ss) h at)
    member_fits (node region ts) ss u at h = absurd (subst (IsMemberSaidAt ss) h at)
    member_fits (node (leaf x) ts) ss u at h = absurd (subst (IsMemberSaidAt ss) h at)
