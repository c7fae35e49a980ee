-- What reading makes of the parts of a layout.
use Rattle.std.proofs.Common.{◌≡◌, ℕ, ◌+◌, ◌-◌, ◌<◌, List, [], ◌∷◌, ◌++◌, true, map, length, Option, Some, None, refl, ap, sym, subst, ◌∙◌}
use Rattle.std.proofs.lemmas.List.{append_assoc, append-nil}
use Rattle.ir_names.specs.Tree.{Trees, node, no_tree, a_tree, join}
use Rattle.ir_print.specs.Formats as step
use Rattle.ir_print.specs.Formats.{Formats, Kind, Steps, no_steps}
use Rattle.ir_print.specs.Layout.{Before, an_id, a_word, a_part, gap_of_word, gap_of_part, leaf_text, AreFlat, AreShallow}
use Rattle.ir_print.specs.Pieces.{operands, Leaf, ValueTree, Pieces, Values, Entities, no_entity, an_entity}
use Rattle.ir_print.specs.Shapes.{parts_in}
use Rattle.ir_grammar.specs.declared.grammar.Action.{Action}
use Rattle.ir_grammar.specs.declared.grammar.Action.TheVariants as act
use Rattle.ir_forest.specs.Building.{with_name}
use Rattle.ir_forest.specs.Forest.{end_of, Deed, deeds_from, ActionSpan, ending, deeds_in, IsWholeStep}
use Rattle.ir_forest.specs.Meaning.{pieces_in, operands_in, successors_in, regions_in, all_renamed}
use Rattle.ir_grammar.specs.Reading.{opens, depth_at}
use Rattle.ir_forest.specs.ValueFaults.{refused}
use Rattle.ir_forest.proofs.BuiltTrees.{join_assoc, deeds_join}
use Rattle.ir_rereading.proofs.layouts.Marks.{Mark, white, token, word, one_leaf, did, events, Marker, part_on, format_on, kind_on}

-- ---- entities, one after the other

-- the first, and then the others
abbrev pub joined : {N : Type 0} → Entities N → Entities N → Entities N
joined no_entity us = us
joined (an_entity t ts) us = an_entity t (joined ts us)

pub joined_none : {N : Type 0} (ts : Entities N) → joined ts no_entity ≡ ts
joined_none no_entity = refl
joined_none (an_entity t ts) = ap (an_entity t) (joined_none ts)

pub joined_assoc : {N : Type 0} (ts us vs : Entities N) → joined (joined ts us) vs ≡ joined ts (joined us vs)
joined_assoc no_entity us vs = refl
joined_assoc (an_entity t ts) us vs = ap (an_entity t) (joined_assoc ts us vs)

pub shallow_apart : {N : Type 0} (d : ℕ) (ts us : Entities N) → AreShallow d (joined ts us) → AreShallow d ts × AreShallow d us
shallow_apart d no_entity us h = (tt, h)
shallow_apart d (an_entity t ts) us h = let r = shallow_apart d ts us h.1 in ((h.0, r.0), r.1)

-- ---- trees of steps

-- regions, types and attributes begin where fewer than 64 are open
abbrev pub AreLow : ℕ → Trees ActionSpan → Type 0
AreLow d no_tree = Unit {0}
AreLow d (a_tree (node s ts) rest) = (opens s.action ≡ true → d < 64) × AreLow (depth_at d s.action) ts × AreLow d rest

module _ (v : Values) (text : ℕ → List ℕ) where
  -- an operation has as many names as results
  abbrev pub IsCounted : Action → List ℕ → Trees ActionSpan → Type 0
  IsCounted (act.Operation kind) names ts = length names ≡ length (v.result_types kind (pieces_in v text ts))
  IsCounted _ names ts = Unit {0}

  -- each step is what its action is, nothing is refused, and operations have as many names as results; these names stand before
  abbrev pub AreFine : List ℕ → Trees ActionSpan → Type 0
  AreFine names no_tree = Unit {0}
  AreFine names (a_tree (node s ts) rest) =
      IsWholeStep (end_of s.action) s ts × (refused v s.action (pieces_in v text ts) ≡ None) × IsCounted s.action names ts
      × AreFine [] ts × AreFine (with_name names s.action s.first) rest

-- ---- marks

-- the tokens of marks, from this one on, have these texts
abbrev pub HaveTexts : (ℕ → List ℕ) → ℕ → List Mark → Type 0
HaveTexts text k [] = Unit {0}
HaveTexts text k (white cs ∷ ms) = HaveTexts text k ms
HaveTexts text k (token cs ∷ ms) = (text k ≡ cs) × HaveTexts text (k + 1) ms
HaveTexts text k (word printed cs ∷ ms) = (text k ≡ cs) × HaveTexts text (k + 1) ms
HaveTexts text k (one_leaf x ∷ ms) = (text k ≡ leaf_text x) × HaveTexts text (k + 1) ms
HaveTexts text k (did a ∷ ms) = HaveTexts text k ms

-- Reading marks, up to the rest, gives trees that are so.
pub record Gives (text : ℕ → List ℕ) (P : Trees ActionSpan → Type 0) (k : ℕ) (ms rest : List Mark) : Type 0 where
  pub next : ℕ
  pub trees : Trees ActionSpan
  pub done : deeds_from k (events ms) ≡ deeds_in trees ++ deeds_from next (events rest)
  pub texts : HaveTexts text next rest
  pub is : P trees

-- reading what is printed before any rest gives trees that are so
abbrev pub Reads : (ℕ → List ℕ) → (Trees ActionSpan → Type 0) → (List Mark → List Mark) → Type 0
Reads text P m = (k : ℕ) (rest : List Mark) → HaveTexts text k (m rest) → Gives text P k (m rest) rest

module _ (text : ℕ → List ℕ) where
  pub nothing : (P : Trees ActionSpan → Type 0) (k : ℕ) (rest : List Mark) → P no_tree → HaveTexts text k rest → Gives text P k rest rest
  nothing P k rest p h = record { next = k; trees = no_tree; done = refl; texts = h; is = p }

  pub so : {P Q : Trees ActionSpan → Type 0} (k : ℕ) (ms rest : List Mark) → ((xs : Trees ActionSpan) → P xs → Q xs) → Gives text P k ms rest → Gives text Q k ms rest
  so k ms rest f g = record { next = g.next; trees = g.trees; done = g.done; texts = g.texts; is = f g.trees g.is }

  pub then : {P Q R : Trees ActionSpan → Type 0} (k : ℕ) (ms mid rest : List Mark) → ((xs ys : Trees ActionSpan) → P xs → Q ys → R (join xs ys))
      → Gives text P k ms mid → ((n : ℕ) → HaveTexts text n mid → Gives text Q n mid rest) → Gives text R k ms rest
  then k ms mid rest f g h = let a = h g.next g.texts in record {
    next = a.next;
    trees = join g.trees a.trees;
    done = g.done ∙ (ap (λ z. deeds_in g.trees ++ z) a.done
        ∙ (sym (append_assoc (deeds_in g.trees) (deeds_in a.trees) (deeds_from a.next (events rest)))
        ∙ ap (λ z. z ++ deeds_from a.next (events rest)) (sym (deeds_join g.trees a.trees))));
    texts = a.texts;
    is = f g.trees a.trees g.is a.is;
  }

  pub spaced : {P : Trees ActionSpan → Type 0} (k : ℕ) (ms rest : List Mark) (cs : List ℕ) → Gives text P k ms rest → Gives text P k (white cs ∷ ms) rest
  spaced k ms rest cs g = record { next = g.next; trees = g.trees; done = g.done; texts = g.texts; is = g.is }

  pub taken : {P : Trees ActionSpan → Type 0} (k : ℕ) (ms rest : List Mark) (cs : List ℕ) → Gives text P (k + 1) ms rest → Gives text P k (token cs ∷ ms) rest
  taken k ms rest cs g = record { next = g.next; trees = g.trees; done = g.done; texts = g.texts; is = g.is }

  pub leaf_taken : {P : Trees ActionSpan → Type 0} (k : ℕ) (ms rest : List Mark) (x : Leaf) → Gives text P (k + 1) ms rest → Gives text P k (one_leaf x ∷ ms) rest
  leaf_taken k ms rest x g = record { next = g.next; trees = g.trees; done = g.done; texts = g.texts; is = g.is }

  pub worded : {P : Trees ActionSpan → Type 0} (k : ℕ) (ms rest : List Mark) (printed cs : List ℕ) → Gives text P (k + 1) ms rest → Gives text P k (word printed cs ∷ ms) rest
  worded k ms rest printed cs g = record { next = g.next; trees = g.trees; done = g.done; texts = g.texts; is = g.is }

-- one tree, of a step with this action and this token, in which trees are so
abbrev pub IsNode : Action → ℕ → (Trees ActionSpan → Type 0) → Trees ActionSpan → Type 0
IsNode a i P xs = (j : ℕ) × (us : Trees ActionSpan) × (xs ≡ a_tree (node (record { action = a; first = i; last = j }) us) no_tree) × P us

-- one tree, of a step that stands alone at this token
abbrev pub IsLeaf : Action → ℕ → Trees ActionSpan → Type 0
IsLeaf a i xs = xs ≡ a_tree (node (record { action = a; first = i; last = i }) no_tree) no_tree

bracket : (s : ActionSpan) (us : Trees ActionSpan) (a : Action) (ds xs : List Deed) → end_of s.action ≡ Some a → xs ≡ deeds_in us ++ ((a, s.last) ∷ ds)
    → (s.action, s.first) ∷ xs ≡ deeds_in (a_tree (node s us) no_tree) ++ ds
bracket s us a ds xs e h =
    let first : Deed = (s.action, s.first) in
    ap (λ z. first ∷ z)
    (h
    ∙ (sym (append_assoc (deeds_in us) ((a, s.last) ∷ []) ds)
    ∙ (ap (λ x. (deeds_in us ++ ending x s.last) ++ ds) (sym e)
    ∙ ap (λ z. z ++ ds) (sym (append-nil (deeds_in us ++ ending (end_of s.action) s.last))))))

module _ (text : ℕ → List ℕ) where
  -- what an action begins, up to what ends it
  pub between : {P : Trees ActionSpan → Type 0} (begins ends : Action) → end_of begins ≡ Some ends → (k : ℕ) (ms rest : List Mark)
      → Gives text P k ms (did ends ∷ rest) → Gives text (IsNode begins (k - 1) P) k (did begins ∷ ms) rest
  between begins ends e k ms rest g =
      let s : ActionSpan = record { action = begins; first = k - 1; last = g.next - 1 } in record {
        next = g.next;
        trees = a_tree (node s g.trees) no_tree;
        done = bracket s g.trees ends (deeds_from g.next (events rest)) (deeds_from k (events ms)) e g.done;
        texts = g.texts;
        is = (g.next - 1, g.trees, refl, g.is);
      }

  -- an action that stands alone
  pub single : (a : Action) → end_of a ≡ None → (k : ℕ) (rest : List Mark) → HaveTexts text k rest → Gives text (IsLeaf a (k - 1)) k (did a ∷ rest) rest
  single a e k rest h =
      let s : ActionSpan = record { action = a; first = k - 1; last = k - 1 } in
      let first : Deed = (a, k - 1) in record {
        next = k;
        trees = a_tree (node s no_tree) no_tree;
        done = ap (λ x. (first ∷ (ending x (k - 1) ++ [])) ++ deeds_from k (events rest)) (sym e);
        texts = h;
        is = refl;
      }

-- ---- what the parts of an operation, a type or an attribute say

-- These trees say these pieces, operands and edges with these names, and these regions, before whatever trees come next.
pub record Says (v : Values) (text : ℕ → List ℕ) (ps : Pieces) (us ls : List (List ℕ)) (rs : Entities (List ℕ)) (xs : Trees ActionSpan) : Type 0 where
  pub fine : (rest : Trees ActionSpan) → AreFine v text [] rest → AreFine v text [] (join xs rest)
  pub pieces : (rest : Trees ActionSpan) → pieces_in v text (join xs rest) ≡ join ps (pieces_in v text rest)
  pub operands : (rest : Trees ActionSpan) → map text (operands_in (join xs rest)) ≡ us ++ map text (operands_in rest)
  pub successors : (rest : Trees ActionSpan) → map text (successors_in (join xs rest)) ≡ ls ++ map text (successors_in rest)
  pub regions : (rest : Trees ActionSpan) → all_renamed text text (regions_in v text (join xs rest)) ≡ joined rs (all_renamed text text (regions_in v text rest))
  pub low : (d e : ℕ) → d + e ≡ 64 → AreFlat e ps → AreShallow e rs → (rest : Trees ActionSpan) → AreLow d rest → AreLow d (join xs rest)

module _ (v : Values) (text : ℕ → List ℕ) where
  pub says_none : Says v text no_tree [] [] no_entity no_tree
  says_none = record { fine = λ rest h. h; pieces = λ rest. refl; operands = λ rest. refl; successors = λ rest. refl; regions = λ rest. refl; low = λ d e s f g rest h. h }

  pub says_more : (t : ValueTree) (ts : Pieces) (us ws ls ms : List (List ℕ)) (rs qs : Entities (List ℕ)) (xs ys : Trees ActionSpan)
      → Says v text (a_tree t no_tree) us ls rs xs → Says v text ts ws ms qs ys → Says v text (a_tree t ts) (us ++ ws) (ls ++ ms) (joined rs qs) (join xs ys)
  says_more t ts us ws ls ms rs qs xs ys a b = record {
    fine = λ rest h. subst (AreFine v text []) (sym (join_assoc xs ys rest)) (a.fine (join ys rest) (b.fine rest h));
    pieces = λ rest. ap (pieces_in v text) (join_assoc xs ys rest) ∙ (a.pieces (join ys rest) ∙ ap (a_tree t) (b.pieces rest));
    operands = λ rest. ap (λ z. map text (operands_in z)) (join_assoc xs ys rest)
        ∙ (a.operands (join ys rest) ∙ (ap (λ z. us ++ z) (b.operands rest) ∙ sym (append_assoc us ws (map text (operands_in rest)))));
    successors = λ rest. ap (λ z. map text (successors_in z)) (join_assoc xs ys rest)
        ∙ (a.successors (join ys rest) ∙ (ap (λ z. ls ++ z) (b.successors rest) ∙ sym (append_assoc ls ms (map text (successors_in rest)))));
    regions = λ rest. ap (λ z. all_renamed text text (regions_in v text z)) (join_assoc xs ys rest)
        ∙ (a.regions (join ys rest) ∙ (ap (joined rs) (b.regions rest) ∙ sym (joined_assoc rs qs (all_renamed text text (regions_in v text rest)))));
    low = λ d e s f g rest h. let parts = shallow_apart e rs qs g in
        subst (AreLow d) (sym (join_assoc xs ys rest)) (a.low d e s (f.0, tt) parts.0 (join ys rest) (b.low d e s f.1 parts.1 rest h));
  }

  -- A part is read at a step of a format, or nothing is printed for it: then it is no operands.
  abbrev pub IsRead : step.Step → ValueTree → (us ls : List (List ℕ)) → Entities (List ℕ) → Option Marker → Type 0
  IsRead s t us ls rs None = (t ≡ node (operands 0) no_tree) × (us ≡ []) × (ls ≡ []) × (rs ≡ no_entity)
  IsRead s t us ls rs (Some p) = Reads text (Says v text (a_tree t no_tree) us ls rs) (p s)

  -- parts are read at the steps of a format, and take operands, edges and regions one after the other
  abbrev pub AreRead : List step.Step → Pieces → (us ls : List (List ℕ)) → Entities (List ℕ) → List (Option Marker) → Type 0
  AreRead [] no_tree us ls rs ps = (us ≡ []) × (ls ≡ []) × (rs ≡ no_entity)
  AreRead (s ∷ ss) (a_tree t ts) us ls rs (p ∷ ps) = (first others : List (List ℕ)) × (ahead later : List (List ℕ)) × (these those : Entities (List ℕ))
      × (us ≡ first ++ others) × (ls ≡ ahead ++ later) × (rs ≡ joined these those) × IsRead s t first ahead these p × AreRead ss ts others later those ps
  AreRead _ _ us ls rs ps = ⊥

  -- ---- formats

  -- Nothing is printed for no operands.
  none_read : (k : ℕ) (rest : List Mark) → HaveTexts text k rest
      → Gives text (Says v text (a_tree (node (operands 0) no_tree) no_tree) [] [] no_entity) k (did act.BeginOperands ∷ did act.EndOperands ∷ rest) rest
  none_read k rest h = so text k (did act.BeginOperands ∷ did act.EndOperands ∷ rest) rest
      (λ xs n. subst (Says v text (a_tree (node (operands 0) no_tree) no_tree) [] [] no_entity) (sym n.2) (subst (λ us. Says v text (a_tree (node (operands 0) no_tree) no_tree) [] [] no_entity (tree n.0 us)) (sym n.3) (empty n.0)))
      (between text act.BeginOperands act.EndOperands refl k (did act.EndOperands ∷ rest) rest (nothing text (λ us. us ≡ no_tree) k (did act.EndOperands ∷ rest) refl h))
    where
      tree : ℕ → Trees ActionSpan → Trees ActionSpan
      tree j us = a_tree (node (record { action = act.BeginOperands; first = k - 1; last = j }) us) no_tree

      empty : (j : ℕ) → Says v text (a_tree (node (operands 0) no_tree) no_tree) [] [] no_entity (tree j no_tree)
      empty j = record { fine = λ rest h. (tt, refl, tt, tt, h); pieces = λ rest. refl; operands = λ rest. refl; successors = λ rest. refl; regions = λ rest. refl; low = λ d e s f g rest h. (λ w. cc, tt, h) }

  part_read : (before : Before) (s : step.Step) (t : ValueTree) (us ls : List (List ℕ)) (rs : Entities (List ℕ)) (p : Option Marker) (ps : List (Option Marker)) (Q : Trees ActionSpan → Type 0)
      (more : Before → List (Option Marker) → List Mark) (rest : List Mark) → IsRead s t us ls rs p → ((b : Before) (n : ℕ) → HaveTexts text n (more b ps) → Gives text Q n (more b ps) rest)
      → (k : ℕ) → HaveTexts text k (part_on before s (p ∷ ps) more)
      → Gives text (λ zs. (xs : Trees ActionSpan) × (ys : Trees ActionSpan) × (zs ≡ join xs ys) × Says v text (a_tree t no_tree) us ls rs xs × Q ys) k (part_on before s (p ∷ ps) more) rest
  part_read before s t us ls rs None ps Q more rest r q k h =
      let one : Gives text (Says v text (a_tree t no_tree) us ls rs) k (did act.BeginOperands ∷ did act.EndOperands ∷ more before ps) (more before ps) =
      so text k (did act.BeginOperands ∷ did act.EndOperands ∷ more before ps) (more before ps)
      (λ xs s. subst (λ z. Says v text (a_tree z no_tree) us ls rs xs) (sym r.0)
      (subst (λ z. Says v text (a_tree (node (operands 0) no_tree) no_tree) z ls rs xs) (sym r.1)
      (subst (λ z. Says v text (a_tree (node (operands 0) no_tree) no_tree) [] z rs xs) (sym r.2)
      (subst (λ z. Says v text (a_tree (node (operands 0) no_tree) no_tree) [] [] z xs) (sym r.3) s))))
      (none_read k (more before ps) h) in
      then text k (did act.BeginOperands ∷ did act.EndOperands ∷ more before ps) (more before ps) rest (λ xs ys a b. (xs, ys, refl, a, b)) one (q before)
  part_read before s t us ls rs (Some p) ps Q more rest r q k h =
      spaced text k (p s (more a_part ps)) rest (gap_of_part before) (then text k (p s (more a_part ps)) (more a_part ps) rest (λ xs ys a b. (xs, ys, refl, a, b)) (r k (more a_part ps) h) (q a_part))

  -- steps with parts that are read
  pub format_read : (ss : Steps) (before : Before) (ts : Pieces) (us ls : List (List ℕ)) (rs : Entities (List ℕ)) (ps : List (Option Marker)) → AreRead (parts_in ss) ts us ls rs ps
      → Reads text (Says v text ts us ls rs) (format_on before ss ps)
  format_read no_steps before no_tree us ls rs ps r k rest h =
      nothing text (Says v text no_tree us ls rs) k rest
      (subst (λ z. Says v text no_tree z ls rs no_tree) (sym r.0) (subst (λ z. Says v text no_tree [] z rs no_tree) (sym r.1) (subst (λ z. Says v text no_tree [] [] z no_tree) (sym r.2) says_none))) h
  format_read no_steps before (a_tree t ts) us ls rs ps r k rest h = absurd r
  format_read (step.step (step.word printed cs) ss) before ts us ls rs ps r k rest h =
      spaced text k (word printed cs ∷ format_on a_word ss ps rest) rest (gap_of_word before)
      (worded text k (format_on a_word ss ps rest) rest printed cs (format_read ss a_word ts us ls rs ps r (k + 1) rest h.1))
  format_read (step.step s ss) before no_tree us ls rs ps r k rest h = absurd r
  format_read (step.step s ss) before (a_tree t ts) us ls rs [] r k rest h = absurd r
  format_read (step.step s ss) before (a_tree t ts) us ls rs (p ∷ ps) r k rest h =
      so text k (part_on before s (p ∷ ps) (λ b qs. format_on b ss qs rest)) rest
      (λ zs q. subst (Says v text (a_tree t ts) us ls rs) (sym q.2)
      (subst (λ z. Says v text (a_tree t ts) z ls rs (join q.0 q.1)) (sym r.6)
      (subst (λ z. Says v text (a_tree t ts) (r.0 ++ r.1) z rs (join q.0 q.1)) (sym r.7)
      (subst (λ z. Says v text (a_tree t ts) (r.0 ++ r.1) (r.2 ++ r.3) z (join q.0 q.1)) (sym r.8) (says_more t ts r.0 r.1 r.2 r.3 r.4 r.5 q.0 q.1 q.3 q.4)))))
      (part_read before s t r.0 r.2 r.4 p ps (Says v text ts r.1 r.3 r.5) (λ b qs. format_on b ss qs rest) rest r.9 (λ b n g. format_read ss b ts r.1 r.3 r.5 ps r.10 n rest g) k h)

  -- a kind's id, what its format says, and what ends
  pub kind_read : (c : Kind) (begins ends : Action) → end_of begins ≡ Some ends → (ts : Pieces) (us ls : List (List ℕ)) (rs : Entities (List ℕ)) (ps : List (Option Marker)) → AreRead (parts_in c.format) ts us ls rs ps
      → (k : ℕ) (rest : List Mark) → HaveTexts text k (kind_on (Some c) begins ends ps rest) → Gives text (IsNode begins (k + 1 - 1) (Says v text ts us ls rs)) k (kind_on (Some c) begins ends ps rest) rest
  kind_read c begins ends e ts us ls rs ps r k rest h =
      taken text k (did begins ∷ format_on an_id c.format ps (did ends ∷ rest)) rest c.id
      (between text begins ends e (k + 1) (format_on an_id c.format ps (did ends ∷ rest)) rest (format_read c.format an_id ts us ls rs ps r (k + 1) (did ends ∷ rest) h.1))
