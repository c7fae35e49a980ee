-- Reading the layout of a type or an attribute says it again.
use Rattle.std.proofs.Common.{◌≡◌, ℕ, zero, suc, ◌+◌, ◌-◌, ◌<◌, List, [], ◌∷◌, map, Option, Some, None, slice_get, codes, arith, refl, ap, sym, subst, ◌∙◌}
use Rattle.std.proofs.lemmas.List.{append-nil}
use Rattle.ir_names.specs.Tree.{Trees, node, no_tree, a_tree, join}
use Rattle.ir_print.specs.Formats as step
use Rattle.ir_print.specs.Formats.{Formats, Kind, Steps, no_steps, kinds_of}
use Rattle.ir_print.specs.declared.format.LeafSort.{LeafSort}
use Rattle.ir_print.specs.declared.format.ValueSort.{ValueSort}
use Rattle.ir_print.specs.Layout.{a_word, member_of, alternative_of, leaf_text, AreFlat, AreShallow, Deeper}
use Rattle.ir_print.specs.Pieces.{value_of_kind, list, item, chosen, operands, successor, region, Leaf, leaf, ValueTree, Pieces, Values, refused_value, canonical_value, Entities, no_entity}
use Rattle.ir_print.specs.Shapes.{parts_in, IsListOf, IsKnownOf, IsChoiceOf, sort_of, TakesLeaf, IsInRange, Fits, FitAll, FitMembers, FitsMember}
use Rattle.ir_grammar.specs.declared.grammar.Action.{Action}
use Rattle.ir_grammar.specs.declared.grammar.Action.TheVariants as act
use Rattle.ir_forest.specs.Forest.{end_of, ActionSpan}
use Rattle.ir_forest.specs.Meaning.{leaf_in, pieces_in, operands_in, successors_in, regions_in, all_renamed}
use Rattle.ir_rereading.proofs.Alternatives.{known_along}
use Rattle.ir_rereading.proofs.layouts.LayoutNumbers.{leaf_again}
use Rattle.ir_rereading.proofs.layouts.LayoutParts.{joined_none, AreLow, AreFine, HaveTexts, Gives, Reads, so, then, taken, leaf_taken, worded, nothing, IsNode, IsLeaf, between, single, Says, says_none, says_more, AreRead, format_read, kind_read}
use Rattle.ir_rereading.proofs.layouts.Marks.{one_leaf, did, Marker, format_on, some_format_on, kind_on, leaf_on, members_on, more_members_on, piece_on, parts_on}

-- ---- what is printed whole

abbrev mutual
  -- a type, an attribute, or a part of one: no operands, edges and regions stand in it, and nothing stands below its names and numbers
  pub IsPlain : ValueTree → Type 0
  IsPlain (node (value_of_kind sort n) ts) = ArePlain ts
  IsPlain (node list ts) = ArePlain ts
  IsPlain (node item ts) = ArePlain ts
  IsPlain (node (chosen n) ts) = ArePlain ts
  IsPlain (node (operands n) ts) = ⊥
  IsPlain (node (successor n) ts) = ⊥
  IsPlain (node region ts) = ⊥
  IsPlain (node (leaf x) ts) = ts ≡ no_tree

  -- the same of each piece
  pub ArePlain : Pieces → Type 0
  ArePlain no_tree = Unit {0}
  ArePlain (a_tree t ts) = IsPlain t × ArePlain ts

-- ---- trees

pub join_none : {L : Type 0} (ts : Trees L) → join ts no_tree ≡ ts
join_none no_tree = refl
join_none (a_tree t ts) = ap (a_tree t) (join_none ts)

-- one level deeper
pub deeper : (P Q : ℕ → Type 0) (d e : ℕ) → d + e ≡ 64 → Deeper e P → ((d e : ℕ) → d + e ≡ 64 → P e → Q d) → (d < 64) × Q (d + 1)
deeper P Q d zero s p f = absurd p
deeper P Q d (suc e) s p f = (omega (arith, s), f (d + 1) e (omega (arith, s)) p)

-- what trees say that are all there are
pub record SaysAll (v : Values) (text : ℕ → List ℕ) (ps : Pieces) (us ls : List (List ℕ)) (rs : Entities (List ℕ)) (xs : Trees ActionSpan) : Type 0 where
  pub fine : AreFine v text [] xs
  pub pieces : pieces_in v text xs ≡ ps
  pub operands : map text (operands_in xs) ≡ us
  pub successors : map text (successors_in xs) ≡ ls
  pub regions : all_renamed text text (regions_in v text xs) ≡ rs
  pub low : (d e : ℕ) → d + e ≡ 64 → AreFlat e ps → AreShallow e rs → AreLow d xs

pub say_all : (v : Values) (text : ℕ → List ℕ) (ps : Pieces) (us ls : List (List ℕ)) (rs : Entities (List ℕ)) (xs : Trees ActionSpan) → Says v text ps us ls rs xs → SaysAll v text ps us ls rs xs
say_all v text ps us ls rs xs s =
    let same = join_none xs in record {
      fine = subst (AreFine v text []) same (s.fine no_tree tt);
      pieces = ap (pieces_in v text) (sym same) ∙ (s.pieces no_tree ∙ join_none ps);
      operands = ap (λ z. map text (operands_in z)) (sym same) ∙ (s.operands no_tree ∙ append-nil us);
      successors = ap (λ z. map text (successors_in z)) (sym same) ∙ (s.successors no_tree ∙ append-nil ls);
      regions = ap (λ z. all_renamed text text (regions_in v text z)) (sym same) ∙ (s.regions no_tree ∙ joined_none rs);
      low = λ d e h f g. subst (AreLow d) same (s.low d e h f g no_tree tt);
    }

module _ (v : Values) (text : ℕ → List ℕ) where
  -- these trees say this piece, no operands, no edges and no regions
  abbrev pub SaysOne : ValueTree → Trees ActionSpan → Type 0
  SaysOne t xs = Says v text (a_tree t no_tree) [] [] no_entity xs

  -- ---- pieces with others in them

  pub value_says : (sort : ValueSort) (n i : ℕ) (ts : Pieces) (xs : Trees ActionSpan) → refused_value v sort n ts ≡ None → canonical_value v sort n ts ≡ ts → IsNode (act.Begin sort n) i (Says v text ts [] [] no_entity) xs
      → SaysOne (node (value_of_kind sort n) ts) xs
  value_says sort n i ts xs fit canonical q =
      let a = say_all v text ts [] [] no_entity q.1 q.3 in
      subst (SaysOne (node (value_of_kind sort n) ts)) (sym q.2) (record {
        fine = λ rest h. (tt, ap (refused_value v sort n) a.pieces ∙ fit, tt, a.fine, h);
        pieces = λ rest. ap (λ z. a_tree (node (value_of_kind sort n) z) (pieces_in v text rest)) (ap (canonical_value v sort n) a.pieces ∙ canonical);
        operands = λ rest. refl;
        successors = λ rest. refl;
        regions = λ rest. refl;
        low = λ d e s f g rest h. let r = deeper (λ e. AreFlat e ts) (λ d. AreLow d q.1) d e s f.0 (λ d e s f. a.low d e s f tt) in (λ w. r.0, r.1, h);
      })

  pub list_says : (i : ℕ) (ts : Pieces) (xs : Trees ActionSpan) → IsNode act.BeginList i (Says v text ts [] [] no_entity) xs → SaysOne (node list ts) xs
  list_says i ts xs q =
      let a = say_all v text ts [] [] no_entity q.1 q.3 in
      subst (SaysOne (node list ts)) (sym q.2) (record {
        fine = λ rest h. (tt, refl, tt, a.fine, h);
        pieces = λ rest. ap (λ z. a_tree (node list z) (pieces_in v text rest)) a.pieces;
        operands = λ rest. refl;
        successors = λ rest. refl;
        regions = λ rest. refl;
        low = λ d e s f g rest h. (λ w. cc, a.low d e s f.0 tt, h);
      })

  pub item_says : (i : ℕ) (ts : Pieces) (xs : Trees ActionSpan) → IsNode act.BeginItem i (Says v text ts [] [] no_entity) xs → SaysOne (node item ts) xs
  item_says i ts xs q =
      let a = say_all v text ts [] [] no_entity q.1 q.3 in
      subst (SaysOne (node item ts)) (sym q.2) (record {
        fine = λ rest h. (tt, refl, tt, a.fine, h);
        pieces = λ rest. ap (λ z. a_tree (node item z) (pieces_in v text rest)) a.pieces;
        operands = λ rest. refl;
        successors = λ rest. refl;
        regions = λ rest. refl;
        low = λ d e s f g rest h. (λ w. cc, a.low d e s f.0 tt, h);
      })

  pub choice_says : (n i : ℕ) (ts : Pieces) (xs : Trees ActionSpan) → IsNode (act.BeginChoice n) i (Says v text ts [] [] no_entity) xs → SaysOne (node (chosen n) ts) xs
  choice_says n i ts xs q =
      let a = say_all v text ts [] [] no_entity q.1 q.3 in
      subst (SaysOne (node (chosen n) ts)) (sym q.2) (record {
        fine = λ rest h. (tt, refl, tt, a.fine, h);
        pieces = λ rest. ap (λ z. a_tree (node (chosen n) z) (pieces_in v text rest)) a.pieces;
        operands = λ rest. refl;
        successors = λ rest. refl;
        regions = λ rest. refl;
        low = λ d e s f g rest h. (λ w. cc, a.low d e s f.0 tt, h);
      })

  -- ---- pieces of one token

  pub here : (k : ℕ) (cs : List ℕ) → text k ≡ cs → text (k + 1 - 1) ≡ cs
  here k cs h = let same : k + 1 - 1 ≡ k = omega arith in ap text same ∙ h

  leaf_says : (sort : LeafSort) (i : ℕ) (cs : List ℕ) (x : Leaf) (ts : Pieces) (xs : Trees ActionSpan) → text i ≡ cs → leaf_in sort cs ≡ x → ts ≡ no_tree → IsLeaf (act.Leaf sort) i xs → SaysOne (node (leaf x) ts) xs
  leaf_says sort i cs x ts xs h r e q =
      let s : ActionSpan = record { action = act.Leaf sort; first = i; last = i } in
      subst (SaysOne (node (leaf x) ts)) (sym q) (subst (λ z. SaysOne (node (leaf x) z) (a_tree (node s no_tree) no_tree)) (sym e) (record {
        fine = λ rest h. ((refl, refl, refl), refl, tt, tt, h);
        pieces = λ rest. ap (λ z. a_tree (node (leaf z) no_tree) (pieces_in v text rest)) (ap (leaf_in sort) h ∙ r);
        operands = λ rest. refl;
        successors = λ rest. refl;
        regions = λ rest. refl;
        low = λ d e s f g rest h. (λ w. cc, tt, h);
      }))

module _ (f : Formats) (v : Values) (text : ℕ → List ℕ) where
  -- ---- leaves

  leaf_read : (s : step.Step) (x : Leaf) (ts : Pieces) → TakesLeaf s (sort_of x) → IsInRange x → ts ≡ no_tree → Reads text (SaysOne v text (node (leaf x) ts)) (leaf_on s x)
  leaf_read step.symbol_name x ts t r e k rest h =
      let mark = did (act.Leaf (sort_of x)) ∷ rest in
      taken text k (one_leaf x ∷ mark) rest (codes "@")
      (leaf_taken text (k + 1) mark rest x
      (so text (k + 1 + 1) mark rest (λ xs q. leaf_says v text (sort_of x) (k + 1 + 1 - 1) (leaf_text x) x ts xs (here v text (k + 1) (leaf_text x) h.1.0) (leaf_again x r) e q)
      (single text (act.Leaf (sort_of x)) refl (k + 1 + 1) rest h.1.1)))
  leaf_read (step.a_leaf sort) x ts t r e k rest h =
      let mark = did (act.Leaf (sort_of x)) ∷ rest in
      leaf_taken text k mark rest x
      (so text (k + 1) mark rest (λ xs q. leaf_says v text (sort_of x) (k + 1 - 1) (leaf_text x) x ts xs (here v text k (leaf_text x) h.0) (leaf_again x r) e q)
      (single text (act.Leaf (sort_of x)) refl (k + 1) rest h.1))
  leaf_read _ x ts t r e k rest h = absurd t

  -- what a kind's texts are read as
  pub kind_at_read : (o : Option Kind) (c : Kind) → o ≡ Some c → (begins ends : Action) → end_of begins ≡ Some ends → (ts : Pieces) (us ls : List (List ℕ)) (rs : Entities (List ℕ)) (ps : List (Option Marker)) → AreRead v text (parts_in c.format) ts us ls rs ps
      → (P : Trees ActionSpan → Type 0) → ((i : ℕ) (xs : Trees ActionSpan) → IsNode begins i (Says v text ts us ls rs) xs → P xs) → Reads text P (kind_on o begins ends ps)
  kind_at_read o c at begins ends e ts us ls rs ps r P f k rest =
      subst (λ o. HaveTexts text k (kind_on o begins ends ps rest) → Gives text P k (kind_on o begins ends ps rest) rest) (sym at)
      (λ h. so text k (kind_on (Some c) begins ends ps rest) rest (f (k + 1 - 1)) (kind_read v text c begins ends e ts us ls rs ps r k rest h))

  -- ---- types and attributes

  -- a list, given its members
  list_read : (s : step.Step) (ts : Pieces) → IsListOf s (λ ss. FitMembers f v ss ts)
      → ((member : Steps) (printed cs : List ℕ) → FitMembers f v (parts_in member) ts → Reads text (Says v text ts [] [] no_entity) (members_on (step.list_of member printed cs) (parts_on f ts)))
      → Reads text (SaysOne v text (node list ts)) (λ rest. did act.BeginList ∷ members_on s (parts_on f ts) (did act.EndList ∷ rest))
  list_read (step.list_of member printed cs) ts fit inner k rest h =
      let s = step.list_of member printed cs in
      so text k (did act.BeginList ∷ members_on s (parts_on f ts) (did act.EndList ∷ rest)) rest (list_says v text (k - 1) ts)
      (between text act.BeginList act.EndList refl k (members_on s (parts_on f ts) (did act.EndList ∷ rest)) rest (inner member printed cs fit k (did act.EndList ∷ rest) h))
  list_read _ ts fit inner k rest h = absurd fit

  item_read : (s : step.Step) (ts : Pieces) → AreRead v text (parts_in (member_of s)) ts [] [] no_entity (parts_on f ts) → Reads text (SaysOne v text (node item ts)) (piece_on f (node item ts) s)
  item_read s ts r k rest h =
      so text k (piece_on f (node item ts) s rest) rest (item_says v text (k - 1) ts)
      (between text act.BeginItem act.EndItem refl k (format_on a_word (member_of s) (parts_on f ts) (did act.EndItem ∷ rest)) rest
      (format_read v text (member_of s) a_word ts [] [] no_entity (parts_on f ts) r k (did act.EndItem ∷ rest) h))

  -- one of several formats
  some_format_read : (o : Option Steps) (ts : Pieces) → IsKnownOf o (λ ss. AreRead v text ss ts [] [] no_entity (parts_on f ts)) → Reads text (Says v text ts [] [] no_entity) (some_format_on o (parts_on f ts))
  some_format_read None ts r k rest h = absurd r
  some_format_read (Some ss) ts r k rest h = format_read v text ss a_word ts [] [] no_entity (parts_on f ts) r k rest h

  choice_read : (s : step.Step) (n : ℕ) (ts : Pieces) → IsChoiceOf s n (λ ss. AreRead v text ss ts [] [] no_entity (parts_on f ts)) → Reads text (SaysOne v text (node (chosen n) ts)) (piece_on f (node (chosen n) ts) s)
  choice_read s n ts r k rest h =
      so text k (piece_on f (node (chosen n) ts) s rest) rest (choice_says v text n (k - 1) ts)
      (between text (act.BeginChoice n) act.EndChoice refl k (some_format_on (alternative_of s n) (parts_on f ts) (did act.EndChoice ∷ rest)) rest
      (some_format_read (alternative_of s n) ts r k (did act.EndChoice ∷ rest) h))

  mutual
    pub piece_read : (t : ValueTree) (s : step.Step) → Fits f v s t → IsPlain t → Reads text (SaysOne v text t) (piece_on f t s)
    piece_read (node (value_of_kind sort n) ts) s fit plain =
        kind_at_read (slice_get (kinds_of f sort) n) fit.1 fit.2 (act.Begin sort n) (act.End sort) refl ts [] [] no_entity (parts_on f ts) (parts_read ts (parts_in fit.1.format) fit.3 plain)
        (SaysOne v text (node (value_of_kind sort n) ts)) (λ i xs q. value_says v text sort n i ts xs fit.4 fit.5 q)
    piece_read (node list ts) s fit plain = list_read s ts fit (λ member printed cs fits. members_read ts member printed cs fits plain)
    piece_read (node item ts) s fit plain = absurd fit
    piece_read (node (chosen n) ts) s fit plain = choice_read s n ts
        (known_along (alternative_of s n) (λ ss. FitAll f v ss ts) (λ ss. AreRead v text ss ts [] [] no_entity (parts_on f ts)) (λ ss fits. parts_read ts ss fits plain) fit)
    piece_read (node (operands n) ts) s fit plain = absurd plain
    piece_read (node (successor n) ts) s fit plain = absurd plain
    piece_read (node region ts) s fit plain = absurd plain
    piece_read (node (leaf x) ts) s fit plain = leaf_read s x ts fit.0 fit.1 plain

    pub parts_read : (ts : Pieces) (ss : List step.Step) → FitAll f v ss ts → ArePlain ts → AreRead v text ss ts [] [] no_entity (parts_on f ts)
    parts_read no_tree [] fit plain = (refl, refl, refl)
    parts_read no_tree (s ∷ ss) fit plain = absurd fit
    parts_read (a_tree t ts) [] fit plain = absurd fit
    parts_read (a_tree t ts) (s ∷ ss) fit plain = ([], [], [], [], no_entity, no_entity, refl, refl, refl, piece_read t s fit.0 plain.0, parts_read ts ss fit.1 plain.1)

    members_read : (ts : Pieces) (member : Steps) (printed cs : List ℕ) → FitMembers f v (parts_in member) ts → ArePlain ts
        → Reads text (Says v text ts [] [] no_entity) (members_on (step.list_of member printed cs) (parts_on f ts))
    members_read no_tree member printed cs fit plain = λ k rest h. nothing text (Says v text no_tree [] [] no_entity) k rest (says_none v text) h
    members_read (a_tree t ts) member printed cs fit plain = λ k rest h.
        let s = step.list_of member printed cs in
        then text k (piece_on f t s (more_members_on s (parts_on f ts) rest)) (more_members_on s (parts_on f ts) rest) rest (says_more v text t ts [] [] [] [] no_entity no_entity)
        (member_read t member printed cs fit.0 plain.0 k (more_members_on s (parts_on f ts) rest) h)
        (λ n g. more_members_read ts member printed cs fit.1 plain.1 n rest g)

    more_members_read : (ts : Pieces) (member : Steps) (printed cs : List ℕ) → FitMembers f v (parts_in member) ts → ArePlain ts
        → Reads text (Says v text ts [] [] no_entity) (more_members_on (step.list_of member printed cs) (parts_on f ts))
    more_members_read no_tree member printed cs fit plain = λ k rest h. nothing text (Says v text no_tree [] [] no_entity) k rest (says_none v text) h
    more_members_read (a_tree t ts) member printed cs fit plain = λ k rest h.
        let s = step.list_of member printed cs in
        worded text k (piece_on f t s (more_members_on s (parts_on f ts) rest)) rest printed cs
        (then text (k + 1) (piece_on f t s (more_members_on s (parts_on f ts) rest)) (more_members_on s (parts_on f ts) rest) rest (says_more v text t ts [] [] [] [] no_entity no_entity)
        (member_read t member printed cs fit.0 plain.0 (k + 1) (more_members_on s (parts_on f ts) rest) h.1)
        (λ n g. more_members_read ts member printed cs fit.1 plain.1 n rest g))

    member_read : (t : ValueTree) (member : Steps) (printed cs : List ℕ) → FitsMember f v (parts_in member) t → IsPlain t
        → Reads text (SaysOne v text t) (piece_on f t (step.list_of member printed cs))
    member_read (node item ts) member printed cs fit plain = item_read (step.list_of member printed cs) ts (parts_read ts (parts_in member) fit plain)
    member_read (node _ ts) member printed cs fit plain = absurd fit
