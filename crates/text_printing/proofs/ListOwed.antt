-- Members of a list.
use Rattle.std.proofs.Common.{◌≡◌, ℕ, Bool, true, false, cond, List, [], ◌∷◌, ◌++◌, refl, ap, ◌∙◌}
use Rattle.std.specs.Prelude.{Vec}
use Rattle.std.specs.Global.{Global}
use Rattle.ir_names.specs.Tree.{node, no_tree, a_tree}
use Rattle.ir_print.specs.Formats.{Formats, Step, Steps, list_of}
use Rattle.ir_print.specs.Layout.{Chunk, spell, a_word, piece_on, parts_on, format_on, members_on, more_members_on, IsFlat, AreFlat}
use Rattle.ir_print.specs.Pieces.{item, ValueTree, Pieces}
use Rattle.text_printing.specs.Printing.{IsReadable, AreReadable}
use Rattle.ir_print.specs.Shown.{Saying, ShowsParts, ShowsMembers, ShowsMember}
use Rattle.ir_print.specs.declared.format.Part.{Part}
use Rattle.text_printing.proofs.Owed.{IsRow}
use Rattle.text_printing.proofs.ValuesOwed.{IsNoList}

-- the members that are left, as the first of their list or behind others
abbrev pub members_left : Formats → Step → Bool → Pieces → List Chunk → List Chunk
members_left f s true ts rest = members_on s (parts_on f ts) rest
members_left f s false ts rest = more_members_on s (parts_on f ts) rest

module _ {D K A T : Type 0} (says : Saying K A T) (types : List T) (left lists : ℕ) where
  -- these parts, which can be printed
  pub record ShowsGood (ps : List (Part D K A T)) (ts : Pieces) : Type 0 where
    pub shown : ShowsParts says types ps ts
    pub flat : AreFlat left ts
    pub readable : AreReadable lists ts

  -- the same of a member of a list
  abbrev pub ShowsGoodMember : Vec (Part D K A T) Global → Pieces → Type 0
  ShowsGoodMember m ts = ShowsGood m.items ts

  -- the same of members of a list
  pub record ShowsGoodMembers (ms : List (Vec (Part D K A T) Global)) (ts : Pieces) : Type 0 where
    pub shown : ShowsMembers says types ms ts
    pub flat : AreFlat left ts
    pub readable : AreReadable lists ts

module _ {D K A T : Type 0} (says : Saying K A T) (types : List T) (left lists : ℕ) (f : Formats) (member : Steps) (printed text : List ℕ) where
  -- what a member says
  first_by : (x : Vec (Part D K A T) Global) (t : ValueTree) → ShowsMember says types x.items t → Pieces
  first_by x (node item us) h = us
  first_by x (node _ us) h = absurd h

  first_of : (x : Vec (Part D K A T) Global) (xs : List (Vec (Part D K A T) Global)) (t : Pieces) → ShowsGoodMembers says types left lists (x ∷ xs) t → Pieces
  first_of x xs no_tree h = absurd h.shown
  first_of x xs (a_tree t ts) h = first_by x t h.shown.0

  others_of : (x : Vec (Part D K A T) Global) (xs : List (Vec (Part D K A T) Global)) (t : Pieces) → ShowsGoodMembers says types left lists (x ∷ xs) t → Pieces
  others_of x xs no_tree h = absurd h.shown
  others_of x xs (a_tree t ts) h = ts

  shown_by : (x : Vec (Part D K A T) Global) (t : ValueTree) (h : ShowsMember says types x.items t) → IsFlat left t → IsReadable lists t → ShowsGood says types left lists x.items (first_by x t h)
  unfolding first_by
  shown_by x (node item us) h k r = record { shown = h; flat = k; readable = r }
  shown_by x (node _ us) h k r = absurd h

  shown_of : (x : Vec (Part D K A T) Global) (xs : List (Vec (Part D K A T) Global)) (t : Pieces) (h : ShowsGoodMembers says types left lists (x ∷ xs) t) → ShowsGoodMember says types left lists x (first_of x xs t h)
  unfolding first_of
  shown_of x xs no_tree h = absurd h.shown
  shown_of x xs (a_tree t ts) h = shown_by x t h.shown.0 h.flat.0 h.readable.0

  shown_others : (x : Vec (Part D K A T) Global) (xs : List (Vec (Part D K A T) Global)) (t : Pieces) (h : ShowsGoodMembers says types left lists (x ∷ xs) t) → ShowsGoodMembers says types left lists xs (others_of x xs t h)
  unfolding others_of
  shown_others x xs no_tree h = absurd h.shown
  shown_others x xs (a_tree t ts) h = record { shown = h.shown.1; flat = h.flat.1; readable = h.readable.1 }

  begins_by : (x : Vec (Part D K A T) Global) (t : ValueTree) (h : ShowsMember says types x.items t) (rest : List Chunk) → piece_on f t (list_of member printed text) rest ≡ format_on a_word member (parts_on f (first_by x t h)) rest
  unfolding first_by
  begins_by x (node item us) h rest = refl
  begins_by x (node _ us) h rest = absurd h

  begins_of : (x : Vec (Part D K A T) Global) (xs : List (Vec (Part D K A T) Global)) (t : Pieces) (h : ShowsGoodMembers says types left lists (x ∷ xs) t) (b : Bool) (rest : List Chunk)
      → spell (members_left f (list_of member printed text) b t rest) ≡ cond b [] printed ++ spell (format_on a_word member (parts_on f (first_of x xs t h)) (members_left f (list_of member printed text) false (others_of x xs t h) rest))
  unfolding first_of others_of
  begins_of x xs no_tree h b rest = absurd h.shown
  begins_of x xs (a_tree t ts) h true rest = ap spell (begins_by x t h.shown.0 (more_members_on (list_of member printed text) (parts_on f ts) rest))
  begins_of x xs (a_tree t ts) h false rest = ap (λ cs. printed ++ spell cs) (begins_by x t h.shown.0 (more_members_on (list_of member printed text) (parts_on f ts) rest))

  ends_of : (t : Pieces) (b : Bool) (rest : List Chunk) → ShowsGoodMembers {D = D} says types left lists [] t → members_left f (list_of member printed text) b t rest ≡ rest
  ends_of no_tree true rest h = refl
  ends_of no_tree false rest h = refl
  ends_of (a_tree t ts) b rest h = absurd h.shown

  pub members_row : IsRow (ShowsGoodMember {D = D} says types left lists) (ShowsGoodMembers {D = D} says types left lists) (members_left f (list_of member printed text)) (λ us rest. format_on a_word member (parts_on f us) rest) printed
  members_row = record { ends = ends_of; first = first_of; others = others_of; shown = shown_of; shown_others = shown_others; begins = begins_of }

-- ---- members at a step that is no list

module _ {D K A T : Type 0} (says : Saying K A T) (types : List T) (f : Formats) (s : Step) (none : IsNoList s) where
  no_member : (x : Vec (Part D K A T) Global) (t : ValueTree) → ShowsMember says types x.items t → (rest : List Chunk) → piece_on f t s rest ≡ rest
  no_member x (node item us) h rest = ap (λ m. format_on a_word m (parts_on f us) rest) none.member
  no_member x (node _ us) h rest = absurd h

  no_more_members : (xs : List (Vec (Part D K A T) Global)) (ts : Pieces) → ShowsMembers says types xs ts → (rest : List Chunk) → spell (more_members_on s (parts_on f ts) rest) ≡ spell rest
  no_more_members [] no_tree h rest = refl
  no_more_members [] (a_tree t ts) h rest = absurd h
  no_more_members (x ∷ xs) no_tree h rest = absurd h
  no_more_members (x ∷ xs) (a_tree t ts) h rest =
      ap (λ c. spell (c ∷ piece_on f t s (more_members_on s (parts_on f ts) rest))) none.separator ∙ ap spell (no_member x t h.0 (more_members_on s (parts_on f ts) rest)) ∙ no_more_members xs ts h.1 rest

  pub no_members : (xs : List (Vec (Part D K A T) Global)) (ts : Pieces) → ShowsMembers says types xs ts → (rest : List Chunk) → spell (members_on s (parts_on f ts) rest) ≡ spell rest
  no_members [] no_tree h rest = refl
  no_members [] (a_tree t ts) h rest = absurd h
  no_members (x ∷ xs) no_tree h rest = absurd h
  no_members (x ∷ xs) (a_tree t ts) h rest = ap spell (no_member x t h.0 (more_members_on s (parts_on f ts) rest)) ∙ no_more_members xs ts h.1 rest
