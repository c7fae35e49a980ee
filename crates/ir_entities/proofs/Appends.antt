-- Moving a list behind another, node by node.
use Rattle.std.proofs.Common.{◌≡◌, ◌≢◌, ℕ, ◌<◌, Bool, true, eqb, List, [], ◌∷◌, ◌++◌, length, Some, None, refl, sym, ap, ◌∙◌, set, append_assoc}
use Rattle.std.proofs.lemmas.List.{length-set, get_or-set_same, get_or-set_other, set-set, set_comm}
use Rattle.std.proofs.lemmas.Bool.{eq-eqb, or_left}
use Rattle.ir_entities.specs.declared.siblings.Node.{Node}
use Rattle.ir_entities.specs.declared.siblings.Ends.{Ends}
use Rattle.ir_entities.specs.Links.{has, list_at, without, first_or, AreLists}
use Rattle.ir_entities.specs.Unique.{lists_one}

-- what the links of one table say holds of its lists, however they were found
pub has_as : (at : ℕ → Node) (es : List Ends) (l m : List (List ℕ)) (x d : ℕ) (b : Bool) → AreLists at es l → AreLists at es m → has x (list_at m d) ≡ b → has x (list_at l d) ≡ b
has_as at es l m x d b f g h = rw (lists_one at es l m f g) h

pub first_has : (x : ℕ) (xs : List ℕ) → Some x ≡ first_or None xs → has x xs ≡ true
first_has x [] h = cc
first_has x (y ∷ ys) h = or_left (eqb x y) (has x ys) (eq-eqb x y (cc))

-- the lists when `done` has moved and `rest` hasn't
pub record IsMoving (all : List (List ℕ)) (donee donor : ℕ) (done rest : List ℕ) (now : List (List ℕ)) : Type 0 where
  pub parts : list_at all donor ≡ done ++ rest
  pub lists : now ≡ set (set all donee (list_at all donee ++ done)) donor rest

pub moved : (all : List (List ℕ)) (donee donor node : ℕ) (done rest : List ℕ) (now mid new : List (List ℕ)) → donee ≢ donor → donee < length all → donor < length all
    → IsMoving all donee donor done rest now → Some node ≡ first_or None (list_at now donor)
    → mid ≡ set now donor (without node (list_at now donor)) → new ≡ set mid donee (list_at mid donee ++ node ∷ [])
    → (d r : List ℕ) × IsMoving all donee donor d r new
moved all donee donor node done [] now mid new ne ly lx m f mi ni =
    let here : list_at now donor ≡ [] = rw m.lists (get_or-set_same (set all donee (list_at all donee ++ done)) donor [] [] (rw length-set lx)) in
    let no : Some node ≡ None = f ∙ ap (first_or None) here in
    cc
moved all donee donor node done (r ∷ rest) now mid new ne ly lx m f mi ni =
    let ys : List ℕ = list_at all donee ++ done in
    let here : list_at now donor ≡ r ∷ rest = rw m.lists (get_or-set_same (set all donee ys) donor (r ∷ rest) [] (rw length-set lx)) in
    let same : Some node ≡ Some r = f ∙ ap (first_or None) here in
    let is : node ≡ r = cc in
    let less : without node (r ∷ rest) ≡ rest = let t : eqb node r ≡ true = eq-eqb node r is in rw t refl in
    let middle : mid ≡ set (set all donee ys) donor rest = mi ∙ rw (here, less, m.lists) (set-set (set all donee ys) donor (r ∷ rest) rest) in
    let there : list_at mid donee ≡ ys = rw middle (get_or-set_other (set all donee ys) donor donee rest [] ne ∙ get_or-set_same all donee ys [] ly) in (
      done ++ node ∷ [],
      rest,
      record {
        parts = rw is (m.parts ∙ sym (append_assoc done (r ∷ []) rest));
        lists = ni ∙ rw (there, middle) (set_comm (set all donee ys) donor donee rest (ys ++ node ∷ []) (λ e. ne (sym e)) ∙ ap (λ t. set t donor rest) (set-set all donee ys (ys ++ node ∷ []) ∙ ap (set all donee) (append_assoc (list_at all donee) done (node ∷ []))));
      },
    )
