-- Pieces one after the other, and what parts show of them.
use Rattle.std.proofs.Common.{◌≡◌, List, [], ◌∷◌, ◌++◌, refl, ap}
use Rattle.std.specs.Prelude.{Vec}
use Rattle.std.specs.Global.{Global}
use Rattle.ir_names.specs.Tree.{node, no_tree, a_tree, join}
use Rattle.ir_print.specs.Pieces.{value_of_kind, list, item, chosen, operands, successor, region, leaf, ValueTree, Pieces}
use Rattle.value_texts.specs.Shows.{ShowsAll, ShowsMember, ShowsMembers}

pub join_nothing : (ts : Pieces) → join ts no_tree ≡ ts
join_nothing no_tree = refl
join_nothing (a_tree t ts) = ap (λ (us : Pieces). a_tree t us) (join_nothing ts)

pub join_join : (ts us vs : Pieces) → join (join ts us) vs ≡ join ts (join us vs)
join_join no_tree us vs = refl
join_join (a_tree t ts) us vs = ap (λ (ws : Pieces). a_tree t ws) (join_join ts us vs)

module _ {P : Type 0} where
  module _ (R : P → ValueTree → Type 0) where
    pub shows_both : (xs ys : List P) (ts us : Pieces) → ShowsAll R xs ts → ShowsAll R ys us → ShowsAll R (xs ++ ys) (join ts us)
    shows_both [] ys no_tree us h k = k
    shows_both [] ys (a_tree t ts) us h k = absurd h
    shows_both (x ∷ xs) ys no_tree us h k = absurd h
    shows_both (x ∷ xs) ys (a_tree t ts) us h k = (h.0, shows_both xs ys ts us h.1 k)

    pub member_added : (ms : List (Vec P Global)) (m : Vec P Global) (ts us : Pieces) → ShowsMembers R ms ts → ShowsAll R m.items us
        → ShowsMembers R (ms ++ m ∷ []) (join ts (a_tree (node item us) no_tree))
    member_added [] m no_tree us h k = (k, tt)
    member_added [] m (a_tree t ts) us h k = absurd h
    member_added (x ∷ xs) m no_tree us h k = absurd h
    member_added (x ∷ xs) m (a_tree t ts) us h k = (h.0, member_added xs m ts us h.1 k)

  module _ (R S : P → ValueTree → Type 0) (later : (p : P) (t : ValueTree) → R p t → S p t) where
    pub all_later : (xs : List P) (ts : Pieces) → ShowsAll R xs ts → ShowsAll S xs ts
    all_later [] no_tree h = h
    all_later [] (a_tree t ts) h = h
    all_later (x ∷ xs) no_tree h = h
    all_later (x ∷ xs) (a_tree t ts) h = (later x t h.0, all_later xs ts h.1)

    member_later : (xs : List P) (t : ValueTree) → ShowsMember R xs t → ShowsMember S xs t
    member_later xs (node item ts) h = all_later xs ts h
    member_later xs (node (value_of_kind sort n) ts) h = h
    member_later xs (node list ts) h = h
    member_later xs (node (chosen n) ts) h = h
    member_later xs (node (operands n) ts) h = h
    member_later xs (node (successor n) ts) h = h
    member_later xs (node region ts) h = h
    member_later xs (node (leaf x) ts) h = h

    pub members_later : (ms : List (Vec P Global)) (ts : Pieces) → ShowsMembers R ms ts → ShowsMembers S ms ts
    members_later [] no_tree h = h
    members_later [] (a_tree t ts) h = h
    members_later (m ∷ ms) no_tree h = h
    members_later (m ∷ ms) (a_tree t ts) h = (member_later m.items t h.0, members_later ms ts h.1)
