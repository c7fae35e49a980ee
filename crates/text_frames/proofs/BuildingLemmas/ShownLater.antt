-- What parts show stays shown where types are kept.
use Rattle.std.proofs.Common.{List, [], ◌∷◌, ◌++◌}
use Rattle.ir_names.specs.Tree.{LabelledTree, Trees, node, no_tree, a_tree, join}
use Rattle.ir_print.specs.declared.format.Part.{Part}
use Rattle.ir_print.specs.Pieces.{value_of_kind, list, item, chosen, operands, successor, region, leaf, name, number, width, ValueTree, Pieces}
use Rattle.ir_print.specs.Shown.{Said, Saying, Shows, ShowsAll, ShowsPart, ShowsParts, ShowsMembers, ShowsMember}
use Rattle.std.specs.Prelude.{Vec}
use Rattle.std.specs.Global.{Global}
use Rattle.ir_print.specs.declared.format.ValueSort.TheVariants as sorts
use Rattle.text_frames.specs.building.Kept.{KeepsKeys}

module _ {K A T : Type 0} (says : Saying K A T) (s t : List T) (keeps : KeepsKeys s t) where
  mutual
    pub shows_later : (x : LabelledTree (Said A)) (p : ValueTree) → Shows says s x p → Shows says t x p
    shows_later x (node (value_of_kind sorts.«Type» n) ts) (ty, key, us, e, at, says_it, all) = (ty, key, us, e, keeps ty.number key at, says_it, all_later us ts all)
    shows_later x (node (value_of_kind sorts.Attribute n) ts) (attr, us, e, says_it, all) = (attr, us, e, says_it, all_later us ts all)
    shows_later x (node list ts) (us, e, all) = (us, e, all_later us ts all)
    shows_later x (node item ts) (us, e, all) = (us, e, all_later us ts all)
    shows_later x (node (chosen n) ts) (us, e, all) = (us, e, all_later us ts all)
    shows_later x (node (operands n) ts) h = h
    shows_later x (node (successor n) ts) h = h
    shows_later x (node region ts) h = h
    shows_later x (node (leaf l) ts) h = h

    pub all_later : (us : Trees (Said A)) (ps : Pieces) → ShowsAll says s us ps → ShowsAll says t us ps
    all_later no_tree no_tree h = h
    all_later no_tree (a_tree p ps) h = h
    all_later (a_tree u us) no_tree h = h
    all_later (a_tree u us) (a_tree p ps) h = (shows_later u p h.0, all_later us ps h.1)

module _ {D K A T : Type 0} (says : Saying K A T) (s t : List T) (keeps : KeepsKeys s t) where
  mutual
    pub part_later : (x : Part D K A T) (p : ValueTree) → ShowsPart says s x p → ShowsPart says t x p
    part_later x (node (value_of_kind sorts.«Type» n) ts) (ty, e, h) = (ty, e, shows_later says s t keeps _ (node (value_of_kind sorts.«Type» n) ts) h)
    part_later x (node (value_of_kind sorts.Attribute n) ts) (attr, e, h) = (attr, e, shows_later says s t keeps _ (node (value_of_kind sorts.Attribute n) ts) h)
    part_later x (node list ts) (ms, e, h) = (ms, e, members_later ms.items ts h)
    part_later x (node item ts) h = h
    part_later x (node (chosen n) ts) (ps, e, h) = (ps, e, parts_later ps.items ts h)
    part_later x (node (operands n) ts) h = h
    part_later x (node (successor n) ts) h = h
    part_later x (node region ts) h = h
    part_later x (node (leaf l) ts) h = h

    pub parts_later : (xs : List (Part D K A T)) (ps : Pieces) → ShowsParts says s xs ps → ShowsParts says t xs ps
    parts_later [] no_tree h = h
    parts_later [] (a_tree p ps) h = h
    parts_later (x ∷ xs) no_tree h = h
    parts_later (x ∷ xs) (a_tree p ps) h = (part_later x p h.0, parts_later xs ps h.1)

    pub members_later : (ms : List (Vec (Part D K A T) Global)) (ps : Pieces) → ShowsMembers says s ms ps → ShowsMembers says t ms ps
    members_later [] no_tree h = h
    members_later [] (a_tree p ps) h = h
    members_later (m ∷ ms) no_tree h = h
    members_later (m ∷ ms) (a_tree p ps) h = (member_later m.items p h.0, members_later ms ps h.1)

    pub member_later : (xs : List (Part D K A T)) (p : ValueTree) → ShowsMember says s xs p → ShowsMember says t xs p
    member_later xs (node item ts) h = parts_later xs ts h
    member_later xs (node (value_of_kind sort n) ts) h = h
    member_later xs (node list ts) h = h
    member_later xs (node (chosen n) ts) h = h
    member_later xs (node (operands n) ts) h = h
    member_later xs (node (successor n) ts) h = h
    member_later xs (node region ts) h = h
    member_later xs (node (leaf x) ts) h = h

-- one more part, and one more member
module _ {D K A T : Type 0} (says : Saying K A T) (types : List T) where
  pub parts_put : (xs : List (Part D K A T)) (ps : Pieces) (x : Part D K A T) (p : ValueTree) → ShowsParts says types xs ps → ShowsPart says types x p → ShowsParts says types (xs ++ x ∷ []) (join ps (a_tree p no_tree))
  parts_put [] no_tree x p h k = (k, tt)
  parts_put [] (a_tree q ps) x p h k = absurd h
  parts_put (y ∷ xs) no_tree x p h k = absurd h
  parts_put (y ∷ xs) (a_tree q ps) x p h k = (h.0, parts_put xs ps x p h.1 k)

  pub members_put : (ms : List (Vec (Part D K A T) Global)) (ps : Pieces) (m : Vec (Part D K A T) Global) (p : ValueTree) → ShowsMembers says types ms ps → ShowsMember says types m.items p → ShowsMembers says types (ms ++ m ∷ []) (join ps (a_tree p no_tree))
  members_put [] no_tree m p h k = (k, tt)
  members_put [] (a_tree q ps) m p h k = absurd h
  members_put (n ∷ ms) no_tree m p h k = absurd h
  members_put (n ∷ ms) (a_tree q ps) m p h k = (h.0, members_put ms ps m p h.1 k)
