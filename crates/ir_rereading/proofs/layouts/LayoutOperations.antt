-- What an operation says is read again.
use Rattle.std.proofs.Common.{◌≡◌, ℕ, suc, ◌+◌, ◌-◌, List, [], ◌∷◌, ◌++◌, map, take, drop, length, Some, None, codes, arith, refl, ap, sym, subst, ◌∙◌}
use Rattle.std.proofs.lemmas.List.{map-append, length-map, length-take-le, length-drop, take-append-drop}
use Rattle.ir_names.specs.Tree.{Trees, node, no_tree, a_tree, join, count}
use Rattle.ir_print.specs.Formats as step
use Rattle.ir_print.specs.Formats.{Formats, Kind, Steps, no_steps}
use Rattle.ir_print.specs.Pieces.{operands, successor, region, ValueTree, Pieces, Values, EntityHead, operation, a_region, block, Entity, entity, Entities, no_entity, an_entity}
use Rattle.ir_print.specs.Shapes.{FitAll}
use Rattle.ir_print.specs.Shown.{operands_said, successors_said}
use Rattle.ir_forest.specs.Closed.{regions_said, number_in}
use Rattle.ir_grammar.specs.declared.grammar.Action.{Action}
use Rattle.ir_grammar.specs.declared.grammar.Action.TheVariants as act
use Rattle.ir_forest.specs.Forest.{end_of, ActionSpan}
use Rattle.ir_forest.specs.Meaning.{tokens_in, pieces_in, operands_in, successors_in}
use Rattle.ir_rereading.proofs.layouts.LayoutParts.{AreLow, AreFine, Gives, Reads, so, then, taken, worded, nothing, IsNode, IsLeaf, between, single, Says, IsRead, AreRead}
use Rattle.ir_rereading.proofs.layouts.LayoutValues.{IsPlain, join_none, here, piece_read}
use Rattle.ir_rereading.proofs.layouts.Marks.{Mark, token, did, more_names_on, names_on, operands_on, edge_on, all_parts_on}

-- ---- what is printed whole

-- a part of what an operation says
abbrev pub IsPlainPart : ValueTree → Type 0
IsPlainPart (node (operands n) ts) = ts ≡ no_tree
IsPlainPart (node (successor n) ts) = ts ≡ no_tree
IsPlainPart (node region ts) = ts ≡ no_tree
IsPlainPart t = IsPlain t

-- all that an operation says
abbrev pub ArePlainParts : Pieces → Type 0
ArePlainParts no_tree = Unit {0}
ArePlainParts (a_tree t ts) = IsPlainPart t × ArePlainParts ts

-- the types of arguments
abbrev pub ArePlainArguments : {N : Type 0} → List (N × ValueTree) → Type 0
ArePlainArguments [] = Unit {0}
ArePlainArguments (x ∷ xs) = IsPlain x.1 × ArePlainArguments xs

-- operands, edges and regions stand in no type, no attribute and no list, and nothing stands below them, names and numbers
abbrev pub IsPlainHead : {N : Type 0} → EntityHead N → Type 0
IsPlainHead (operation kind results used successors pieces) = ArePlainParts pieces
IsPlainHead a_region = Unit {0}
IsPlainHead (block named label arguments) = ArePlainArguments arguments

abbrev mutual
  -- the same of all heads in an entity
  pub IsPlainTree : {N : Type 0} → Entity N → Type 0
  IsPlainTree (entity h ts) = IsPlainHead h × ArePlainTrees ts

  -- the same of each entity
  pub ArePlainTrees : {N : Type 0} → Entities N → Type 0
  ArePlainTrees no_entity = Unit {0}
  ArePlainTrees (an_entity t ts) = IsPlainTree t × ArePlainTrees ts

-- ---- names

-- steps that name something, at these tokens
abbrev pub leaves : Action → List ℕ → Trees ActionSpan
leaves a [] = no_tree
leaves a (k ∷ ks) = a_tree (node (record { action = a; first = k; last = k }) no_tree) (leaves a ks)

tokens_leaves : (a : Action) (ks : List ℕ) → tokens_in (leaves a ks) ≡ ks
tokens_leaves a [] = refl
tokens_leaves a (k ∷ ks) = ap (λ z. k ∷ z) (tokens_leaves a ks)

count_leaves : (a : Action) (ks : List ℕ) → count (leaves a ks) ≡ length ks
count_leaves a [] = refl
count_leaves a (k ∷ ks) = ap suc (count_leaves a ks)

module _ (v : Values) (text : ℕ → List ℕ) where
  -- these trees name something, with these names
  abbrev pub AreNames : Action → List (List ℕ) → Trees ActionSpan → Type 0
  AreNames a xs ts = (ks : List ℕ) × (ts ≡ leaves a ks) × (map text ks ≡ xs)

  more_names : (a : Action) (x : List ℕ) (xs : List (List ℕ)) (i : ℕ) (ys zs : Trees ActionSpan) → text i ≡ x → IsLeaf a i ys → AreNames a xs zs → AreNames a (x ∷ xs) (join ys zs)
  more_names a x xs i ys zs h l n = (i ∷ n.0, ap (λ y. join y zs) l ∙ ap (a_tree (node (record { action = a; first = i; last = i }) no_tree)) n.1, ap (λ z. z ∷ map text n.0) h ∙ ap (λ z. x ∷ z) n.2)

  name_read : (a : Action) → end_of a ≡ None → (x : List ℕ) (xs : List (List ℕ)) (m : List Mark → List Mark) → Reads text (AreNames a xs) m
      → Reads text (AreNames a (x ∷ xs)) (λ rest. token x ∷ did a ∷ m rest)
  name_read a e x xs m r k rest h =
      taken text k (did a ∷ m rest) rest x
      (then text (k + 1) (did a ∷ m rest) (m rest) rest (λ ys zs. more_names a x xs (k + 1 - 1) ys zs (here v text k x h.0))
      (single text a e (k + 1) (m rest) h.1) (λ n g. r n rest g))

  more_names_read : (a : Action) → end_of a ≡ None → (xs : List (List ℕ)) → Reads text (AreNames a xs) (more_names_on a xs)
  more_names_read a e [] k rest h = nothing text (AreNames a []) k rest ([], refl, refl) h
  more_names_read a e (x ∷ xs) k rest h =
      worded text k (token x ∷ did a ∷ more_names_on a xs rest) rest (codes ", ") (codes ",") (name_read a e x xs (more_names_on a xs) (more_names_read a e xs) (k + 1) rest h.1)

  pub names_read : (a : Action) → end_of a ≡ None → (xs : List (List ℕ)) → Reads text (AreNames a xs) (names_on a xs)
  names_read a e [] k rest h = nothing text (AreNames a []) k rest ([], refl, refl) h
  names_read a e (x ∷ xs) k rest h = name_read a e x xs (more_names_on a xs) (more_names_read a e xs) k rest h

  -- ---- operands

  fine_operands : (ks : List ℕ) → AreFine v text [] (leaves act.Operand ks)
  fine_operands [] = tt
  fine_operands (k ∷ ks) = ((refl, refl, refl), refl, tt, tt, fine_operands ks)

  low_operands : (d : ℕ) (ks : List ℕ) → AreLow d (leaves act.Operand ks)
  low_operands d [] = tt
  low_operands d (k ∷ ks) = (λ w. cc, tt, low_operands d ks)

  operands_says : (n i : ℕ) (us : List (List ℕ)) (ts : Pieces) (xs : Trees ActionSpan) → length us ≡ n → ts ≡ no_tree → IsNode act.BeginOperands i (AreNames act.Operand us) xs
      → Says v text (a_tree (node (operands n) ts) no_tree) us [] no_entity xs
  operands_says n i us ts xs e b q =
      let ks = q.3.0 in
      let tree : Trees ActionSpan → Trees ActionSpan = λ us. a_tree (node (record { action = act.BeginOperands; first = i; last = q.0 }) us) no_tree in
      let many : count (leaves act.Operand ks) ≡ n = count_leaves act.Operand ks ∙ (sym (length-map ks text) ∙ (ap length q.3.2 ∙ e)) in
      subst (Says v text (a_tree (node (operands n) ts) no_tree) us [] no_entity) (sym (q.2 ∙ ap tree q.3.1)) (record {
        fine = λ rest h. (tt, refl, tt, fine_operands ks, h);
        pieces = λ rest. ap (λ z. a_tree (node (operands z) no_tree) (pieces_in v text rest)) many ∙ ap (λ z. a_tree (node (operands n) z) (pieces_in v text rest)) (sym b);
        operands = λ rest. ap (λ z. map text (z ++ operands_in rest)) (tokens_leaves act.Operand ks) ∙ (map-append text ks (operands_in rest) ∙ ap (λ z. z ++ map text (operands_in rest)) q.3.2);
        successors = λ rest. refl;
        regions = λ rest. refl;
        low = λ d e s f g rest h. (λ w. cc, low_operands d ks, h);
      })

  operands_read : (s : step.Step) (n : ℕ) (us : List (List ℕ)) (ts : Pieces) → length us ≡ n → ts ≡ no_tree → IsRead v text s (node (operands n) ts) us [] no_entity (operands_on us)
  operands_read s n [] ts e b = (ap (λ z. node (operands z) ts) (sym e) ∙ ap (node (operands 0)) b, refl, refl, refl)
  operands_read s n (x ∷ xs) ts e b = λ k rest h.
      so text k (did act.BeginOperands ∷ names_on act.Operand (x ∷ xs) (did act.EndOperands ∷ rest)) rest (λ zs. operands_says n (k - 1) (x ∷ xs) ts zs e b)
      (between text act.BeginOperands act.EndOperands refl k (names_on act.Operand (x ∷ xs) (did act.EndOperands ∷ rest)) rest (names_read act.Operand refl (x ∷ xs) k (did act.EndOperands ∷ rest) h))

  -- ---- edges

  edge_says : (n i : ℕ) (l : List ℕ) (us : List (List ℕ)) (ts : Pieces) (xs : Trees ActionSpan) → text i ≡ l → length us ≡ n → ts ≡ no_tree → IsNode act.BeginSuccessor i (AreNames act.Operand us) xs
      → Says v text (a_tree (node (successor n) ts) no_tree) us (l ∷ []) no_entity xs
  edge_says n i l us ts xs label e b q =
      let ks = q.3.0 in
      let tree : Trees ActionSpan → Trees ActionSpan = λ us. a_tree (node (record { action = act.BeginSuccessor; first = i; last = q.0 }) us) no_tree in
      let many : count (leaves act.Operand ks) ≡ n = count_leaves act.Operand ks ∙ (sym (length-map ks text) ∙ (ap length q.3.2 ∙ e)) in
      subst (Says v text (a_tree (node (successor n) ts) no_tree) us (l ∷ []) no_entity) (sym (q.2 ∙ ap tree q.3.1)) (record {
        fine = λ rest h. (tt, refl, tt, fine_operands ks, h);
        pieces = λ rest. ap (λ z. a_tree (node (successor z) no_tree) (pieces_in v text rest)) many ∙ ap (λ z. a_tree (node (successor n) z) (pieces_in v text rest)) (sym b);
        operands = λ rest. ap (λ z. map text (z ++ operands_in rest)) (tokens_leaves act.Operand ks) ∙ (map-append text ks (operands_in rest) ∙ ap (λ z. z ++ map text (operands_in rest)) q.3.2);
        successors = λ rest. ap (λ z. z ∷ map text (successors_in rest)) label;
        regions = λ rest. refl;
        low = λ d e s f g rest h. (λ w. cc, low_operands d ks, h);
      })

  edge_read : (s : step.Step) (n : ℕ) (l : List ℕ) (ls us : List (List ℕ)) (ts : Pieces) → length us ≡ n → ts ≡ no_tree → IsRead v text s (node (successor n) ts) us (l ∷ []) no_entity (Some (edge_on (l ∷ ls) us))
  edge_read s n l ls us ts e b = λ k rest h.
      let end = did act.EndSuccessor ∷ rest in
      let last = token (codes ")") ∷ end in
      let inner = names_on act.Operand us last in
      let g : Gives text (AreNames act.Operand us) (k + 1 + 1) (token (codes "(") ∷ inner) end =
      taken text (k + 1 + 1) inner end (codes "(")
      (then text (k + 1 + 1 + 1) inner last end (λ xs ys a b. subst (λ z. AreNames act.Operand us (join xs z)) (sym b) (subst (AreNames act.Operand us) (sym (join_none xs)) a))
      (names_read act.Operand refl us (k + 1 + 1 + 1) last h.1.1.1)
      (λ m g. taken text m end end (codes ")") (nothing text (λ z. z ≡ no_tree) (m + 1) end refl g.1))) in
      taken text k (token l ∷ did act.BeginSuccessor ∷ token (codes "(") ∷ inner) rest (codes "^")
      (taken text (k + 1) (did act.BeginSuccessor ∷ token (codes "(") ∷ inner) rest l
      (so text (k + 1 + 1) (did act.BeginSuccessor ∷ token (codes "(") ∷ inner) rest (λ zs. edge_says n (k + 1 + 1 - 1) l us ts zs (here v text (k + 1) l h.1.0) e b)
      (between text act.BeginSuccessor act.EndSuccessor refl (k + 1 + 1) (token (codes "(") ∷ inner) rest g)))

-- ---- what an operation says

module _ (f : Formats) (v : Values) (text : ℕ → List ℕ) where
  -- regions are read one after the other
  abbrev pub RegionsRead : Entities (List ℕ) → List (List Mark → List Mark) → Type 0
  RegionsRead no_entity [] = Unit {0}
  RegionsRead (an_entity t ts) (m ∷ ms) = Reads text (Says v text (a_tree (node region no_tree) no_tree) [] [] (an_entity t no_entity)) m × RegionsRead ts ms
  RegionsRead _ _ = ⊥

  pub all_parts_read : (ts : Pieces) (ss : List step.Step) (us ls : List (List ℕ)) (es : Entities (List ℕ)) (ms : List (List Mark → List Mark)) → FitAll f v ss ts → ArePlainParts ts
      → operands_said ts ≡ length us → successors_said ts ≡ length ls → regions_said ts ≡ number_in es → RegionsRead es ms → AreRead v text ss ts us ls es (all_parts_on f ts us ls ms)
  all_parts_read no_tree [] [] [] no_entity ms fit plain o d r rs = (refl, refl, refl)
  all_parts_read no_tree [] (u ∷ us) ls es ms fit plain o d r rs = cc
  all_parts_read no_tree [] [] (l ∷ ls) es ms fit plain o d r rs = cc
  all_parts_read no_tree [] [] [] (an_entity e es) ms fit plain o d r rs = cc
  all_parts_read no_tree (s ∷ ss) us ls es ms fit plain o d r rs = absurd fit
  all_parts_read (a_tree t ts) [] us ls es ms fit plain o d r rs = absurd fit
  all_parts_read (a_tree (node (operands n) ps) ts) (s ∷ ss) us ls es ms fit plain o d r rs =
      let long : n + operands_said ts ≡ length us = o in
      let less : operands_said ts ≡ length (drop n us) = omega (arith, long, length-drop n us) in
      let enough : length (take n us) ≡ n = length-take-le n us (omega (arith, long)) in
      (take n us, drop n us, [], ls, no_entity, es, sym (take-append-drop n us), refl, refl, operands_read v text s n (take n us) ps enough plain.0, all_parts_read ts ss (drop n us) ls es ms fit.1 plain.1 less d r rs)
  all_parts_read (a_tree (node (successor n) ps) ts) (s ∷ ss) us [] es ms fit plain o d r rs = cc
  all_parts_read (a_tree (node (successor n) ps) ts) (s ∷ ss) us (l ∷ ls) es ms fit plain o d r rs =
      let long : n + operands_said ts ≡ length us = o in
      let less : operands_said ts ≡ length (drop n us) = omega (arith, long, length-drop n us) in
      let enough : length (take n us) ≡ n = length-take-le n us (omega (arith, long)) in
      let fewer : successors_said ts ≡ length ls = omega (arith, d) in (
        take n us,
        drop n us,
        l ∷ [],
        ls,
        no_entity,
        es,
        sym (take-append-drop n us),
        refl,
        refl,
        edge_read v text s n l ls (take n us) ps enough plain.0,
        all_parts_read ts ss (drop n us) ls es ms fit.1 plain.1 less fewer r rs,
      )
  all_parts_read (a_tree (node region ps) ts) (s ∷ ss) us ls no_entity ms fit plain o d r rs = cc
  all_parts_read (a_tree (node region ps) ts) (s ∷ ss) us ls (an_entity e es) [] fit plain o d r rs = absurd rs
  all_parts_read (a_tree (node region ps) ts) (s ∷ ss) us ls (an_entity e es) (m ∷ ms) fit plain o d r rs =
      let one : Reads text (Says v text (a_tree (node region ps) no_tree) [] [] (an_entity e no_entity)) m =
      subst (λ z. Reads text (Says v text (a_tree (node region z) no_tree) [] [] (an_entity e no_entity)) m) (sym plain.0) rs.0 in
      let less : regions_said ts ≡ number_in es = omega (arith, r) in
      ([], us, [], ls, an_entity e no_entity, es, refl, refl, refl, one, all_parts_read ts ss us ls es ms fit.1 plain.1 o d less rs.1)
  all_parts_read (a_tree (node c ps) ts) (s ∷ ss) us ls es ms fit plain o d r rs =
      ([], us, [], ls, no_entity, es, refl, refl, refl, piece_read f v text (node c ps) s fit.0 plain.0, all_parts_read ts ss us ls es ms fit.1 plain.1 o d r rs)
