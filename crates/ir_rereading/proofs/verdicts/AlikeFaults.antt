-- Members that begin at the end of what was read make no fault.
use Rattle.std.proofs.Common.{◌≡◌, ℕ, ◌+◌, ◌-◌, List, [], ◌∷◌, ◌++◌, Bool, true, false, Option, Some, None, slice_get, refl, sym, subst, ap, ◌∙◌, arith, append_assoc, inl, inr}
use Rattle.ir_names.specs.Tree.{LabelledTree, Trees, node}
use Rattle.ir_print.specs.Pieces.{Values}
use Rattle.ir_grammar.specs.declared.grammar.Action.{Action}
use Rattle.ir_grammar.specs.declared.grammar.Action.TheVariants.{Operation, BeginRegion, Label, Begin, BeginOperands, BeginSuccessor, BeginList, BeginItem, BeginChoice}
use Rattle.ir_grammar.specs.declared.grammar.Event.{Event}
use Rattle.ir_grammar.specs.declared.grammar.Event.TheVariants.{Took, Did}
use Rattle.ir_grammar.specs.declared.grammar.Stop.{Stop}
use Rattle.ir_tokens.specs.declared.tokens.Token.{Token}
use Rattle.ir_tokens.specs.declared.faults.Fault.{Fault}
use Rattle.ir_grammar.specs.Reading.{opens, depth_at, tooks, begins_member, OnlyBegins, AreMostlyAlike, OpensAt}
use Rattle.ir_scopes.specs.Depth.{IsTooDeep}
use Rattle.ir_forest.specs.Forest.{Deed, deeds, deeds_from, deeds_of, deeds_in, ending, end_of, ActionSpan, IsWholeStep, HasWholeTree}
use Rattle.ir_forest.specs.ValueFaults.{results, HasNumberFault, HasNamesFault}
use Rattle.ir_scopes.specs.Scopes.{EventPlace, beginning, behind, defined, mentioned, closed, labelled, label_mentioned, label_closed, opened_below_root, each, HasNameFault, HasScopeFault}
use Rattle.ir_rereading.specs.Texts.{HasFault}
use Rattle.ir_formats.specs.Words.{token_text}
use Rattle.ir_forest.specs.Language.{Language}
use Rattle.ir_scopes.proofs.Depths.{deep_stays}
use Rattle.ir_scopes.proofs.ScopeFronts.{stays}
use Rattle.ir_scopes.proofs.Walks.{same_names}

-- what begins a member is no part that counts for the depth
begins_shut : (a : Action) → begins_member a ≡ true → opens a ≡ false
begins_shut BeginItem h = refl
begins_shut (BeginChoice n) h = refl
begins_shut _ h = cc

-- ---- depth

opens_front : (many n d : ℕ) (a b : List Event) (k : ℕ) → OnlyBegins b → OpensAt many n d (a ++ b) k → OpensAt many n d a k
opens_front many n d [] [] k only h = h
opens_front many n d [] (Took ∷ b) k only h = absurd only
opens_front many n d [] (Did x ∷ b) k only (inl h) = let e : opens x ≡ false = begins_shut x only.0 in let w : true ≡ false = sym h.0 ∙ e in cc
opens_front many n d [] (Did x ∷ b) k only (inr h) = opens_front many n (depth_at d x) [] b k only.1 h
opens_front many n d (Took ∷ a) b k only h = opens_front many (n + 1) d a b k only h
opens_front many n d (Did x ∷ a) b k only (inl h) = inl h
opens_front many n d (Did x ∷ a) b k only (inr h) = inr (opens_front many n (depth_at d x) a b k only h)

deep_front : (a b : List Event) (f : Fault) → OnlyBegins b → IsTooDeep (a ++ b) f → IsTooDeep a f
deep_front a b f only h = (h.0, opens_front 64 0 0 a b h.0 only h.1, h.2)

-- ---- scopes

module _ {A : Type 0} (isolated : ℕ → Bool) (f : EventPlace → Event → List A) (none : (at : EventPlace) → f at (Did BeginItem) ≡ []) (none_chosen : (at : EventPlace) (n : ℕ) → f at (Did (BeginChoice n)) ≡ []) where
  begins_none : (at : EventPlace) (a : Action) → begins_member a ≡ true → f at (Did a) ≡ []
  begins_none at BeginItem h = none at
  begins_none at (BeginChoice n) h = none_chosen at n
  begins_none at _ h = cc

  each_begins : (at : EventPlace) (b : List Event) → OnlyBegins b → each isolated f at b ≡ []
  each_begins at [] only = refl
  each_begins at (Took ∷ b) only = absurd only
  each_begins at (Did x ∷ b) only =
      ap (λ xs. xs ++ each isolated f (behind isolated at (Did x)) b) (begins_none at x only.0) ∙ each_begins (behind isolated at (Did x)) b only.1

  each_front : (at : EventPlace) (a b : List Event) → OnlyBegins b → each isolated f at (a ++ b) ≡ each isolated f at a
  each_front at [] b only = each_begins at b only
  each_front at (e ∷ a) b only = ap (λ xs. f at e ++ xs) (each_front (behind isolated at e) a b only)

scopes_front : (isolated : ℕ → Bool) (names : List ℕ) (a b : List Event) (f : Fault) → OnlyBegins b → HasScopeFault isolated names (a ++ b) f → HasScopeFault isolated names a f
scopes_front isolated names a b f only (inl h) = inl (subst (λ n. HasNameFault names n f) (same_names
    (each_front isolated defined (λ at. refl) (λ at n. refl) beginning a b only)
    (each_front isolated mentioned (λ at. refl) (λ at n. refl) beginning a b only)
    (each_front isolated (closed isolated) (λ at. refl) (λ at n. refl) beginning a b only)) h)
scopes_front isolated names a b f only (inr (inl h)) = inr (inl (subst (λ n. HasNameFault names n f) (same_names
    (each_front isolated labelled (λ at. refl) (λ at n. refl) beginning a b only)
    (each_front isolated label_mentioned (λ at. refl) (λ at n. refl) beginning a b only)
    (each_front isolated (label_closed isolated) (λ at. refl) (λ at n. refl) beginning a b only)) h))
scopes_front isolated names a b f only (inr (inr h)) =
    inr (inr (h.0, h.1, subst (λ ks. slice_get ks h.0 ≡ Some h.1) (each_front isolated opened_below_root (λ at. refl) (λ at n. refl) beginning a b only) h.2, h.3))

-- ---- trees

abbrev AllBegin : List Deed → Type 0
AllBegin [] = Unit {0}
AllBegin (d ∷ ds) = (begins_member d.0 ≡ true) × AllBegin ds

-- the last of the deeds, if there is one, begins no member
abbrev Ends : List Deed → Type 0
Ends [] = Unit {0}
Ends (d ∷ []) = begins_member d.0 ≡ false
Ends (d ∷ e ∷ ds) = Ends (e ∷ ds)

pub deeds_append : (n : ℕ) (a b : List Event) → deeds_from n (a ++ b) ≡ deeds_from n a ++ deeds_from (n + tooks a) b
deeds_append n [] b = ap (λ k. deeds_from k b) (omega arith)
deeds_append n (Took ∷ a) b = deeds_append (n + 1) a b ∙ ap (λ k. deeds_from (n + 1) a ++ deeds_from k b) (omega arith)
deeds_append n (Did x ∷ a) b = ap (λ ds. (x, n - 1) ∷ ds) (deeds_append n a b)

deeds_begin : (n : ℕ) (b : List Event) → OnlyBegins b → AllBegin (deeds_from n b)
deeds_begin n [] only = tt
deeds_begin n (Took ∷ b) only = absurd only
deeds_begin n (Did x ∷ b) only = (only.0, deeds_begin n b only.1)

ends_rest : (d : Deed) (ds : List Deed) → Ends (d ∷ ds) → Ends ds
ends_rest d [] h = tt
ends_rest d (e ∷ ds) h = h

ends_append : (xs : List Deed) (d : Deed) (ds : List Deed) → Ends (d ∷ ds) → Ends (xs ++ d ∷ ds)
ends_append [] d ds h = h
ends_append (x ∷ []) d ds h = h
ends_append (x ∷ y ∷ xs) d ds h = ends_append (y ∷ xs) d ds h

not_all : (d : Deed) (ds after : List Deed) → AllBegin (d ∷ ds ++ after) → Ends (d ∷ ds) → ⊥
not_all d [] after all h = let w : true ≡ false = sym all.0 ∙ h in cc
not_all d (e ∷ ds) after all h = not_all e ds after all.1 h

-- what ends so stands before the members that begin
cut : (xs ys ds after : List Deed) → AllBegin ds → Ends ys → xs ++ ds ≡ ys ++ after → (rest : List Deed) × (xs ≡ ys ++ rest)
cut xs [] ds after all h e = (xs, refl)
cut [] (y ∷ ys) ds after all h e = absurd (not_all y ys after (subst AllBegin e all) h)
cut (x ∷ xs) (y ∷ ys) ds after all h e =
    let head : x ≡ y = cc in
    let tail : xs ++ ds ≡ ys ++ after = cc in
    let r = cut xs ys ds after all (ends_rest y ys h) tail in
    (r.0, ap (λ z. z ∷ xs) head ∙ ap (λ zs. y ∷ zs) r.1)

abbrev Plain : Option Action → Type 0
Plain None = Unit {0}
Plain (Some x) = begins_member x ≡ false

ending_plain : (a : Action) → Plain (end_of a)
ending_plain (Operation kind) = refl
ending_plain BeginRegion = refl
ending_plain Label = refl
ending_plain (Begin sort kind) = refl
ending_plain BeginOperands = refl
ending_plain BeginSuccessor = refl
ending_plain BeginList = refl
ending_plain BeginItem = refl
ending_plain (BeginChoice n) = refl
ending_plain _ = tt

end_plain : (a e : Action) → end_of a ≡ Some e → begins_member e ≡ false
end_plain a e h = subst Plain h (ending_plain a)

alone_plain : (a : Action) → end_of a ≡ None → begins_member a ≡ false
alone_plain BeginItem h = cc
alone_plain (BeginChoice n) h = cc
alone_plain _ h = refl

-- a whole tree ends so
tree_ends : (s : ActionSpan) (ts : Trees ActionSpan) → IsWholeStep (end_of s.action) s ts → Ends (deeds_of (node s ts))
tree_ends s ts whole = go (end_of s.action) refl whole
  where
    go : (o : Option Action) → end_of s.action ≡ o → IsWholeStep o s ts → Ends ((s.action, s.first) ∷ (deeds_in ts ++ ending o s.last))
    go None e w = subst (λ us. Ends ((s.action, s.first) ∷ (deeds_in us ++ []))) (sym w.2) (alone_plain s.action e)
    go (Some x) e w = ends_append ((s.action, s.first) ∷ deeds_in ts) (x, s.last) [] (end_plain s.action x e)

module _ (a b : List Event) (only : OnlyBegins b) (s : ActionSpan) (ts : Trees ActionSpan) (whole : IsWholeStep (end_of s.action) s ts) where
  -- a whole tree of what was read stands before the members that begin
  tree_before : (before after : List Deed) → deeds (a ++ b) ≡ before ++ (deeds_of (node s ts) ++ after) → (rest : List Deed) × (deeds a ≡ before ++ (deeds_of (node s ts) ++ rest))
  tree_before before after e =
      let r = cut (deeds a) (before ++ deeds_of (node s ts)) (deeds_from (0 + tooks a) b) after (deeds_begin (0 + tooks a) b only)
      (ends_append before (s.action, s.first) (deeds_in ts ++ ending (end_of s.action) s.last) (tree_ends s ts whole))
      (sym (deeds_append 0 a b) ∙ e ∙ sym (append_assoc before (deeds_of (node s ts)) after)) in
      (r.0, r.1 ∙ append_assoc before (deeds_of (node s ts)) r.0)

tree_front : (a b : List Event) (s : ActionSpan) (ts : Trees ActionSpan) → OnlyBegins b → HasWholeTree (a ++ b) (node s ts) → HasWholeTree a (node s ts)
tree_front a b s ts only (whole, before, after, e) = let r = tree_before a b only s ts whole.0 before after e in (whole, before, r.0, r.1)

-- what stands before them stays
deeds_more : (a b : List Event) (before tree after : List Deed) → deeds a ≡ before ++ (tree ++ after) → deeds (a ++ b) ≡ before ++ (tree ++ (after ++ deeds_from (0 + tooks a) b))
deeds_more a b before tree after e =
    deeds_append 0 a b ∙ ap (λ l. l ++ deeds_from (0 + tooks a) b) e ∙ append_assoc before (tree ++ after) (deeds_from (0 + tooks a) b)
    ∙ ap (λ l. before ++ l) (append_assoc tree after (deeds_from (0 + tooks a) b))

tree_stays : (a b : List Event) (t : LabelledTree ActionSpan) → HasWholeTree a t → HasWholeTree (a ++ b) t
tree_stays a b t (whole, before, after, e) = (whole, before, after ++ deeds_from (0 + tooks a) b, deeds_more a b before (deeds_of t) after e)

module _ (values : Values) (text : ℕ → List ℕ) (a b : List Event) (f : Fault) where
  number_front : OnlyBegins b → HasNumberFault values text (a ++ b) f → HasNumberFault values text a f
  number_front only (s, ts, i, tree, sound, refuses, is) = (s, ts, i, tree_front a b s ts only tree, sound, refuses, is)

  number_stays : HasNumberFault values text a f → HasNumberFault values text (a ++ b) f
  number_stays (s, ts, i, tree, sound, refuses, is) = (s, ts, i, tree_stays a b (node s ts) tree, sound, refuses, is)

  names_front : OnlyBegins b → HasNamesFault values text (a ++ b) f → HasNamesFault values text a f
  names_front only (names, kind, s, ts, before, after, whole, e, other, act, differ, is) =
      let r = tree_before a b only s ts whole.0 (before ++ results names) after (e ∙ sym (append_assoc before (results names) (deeds_of (node s ts) ++ after))) in
      (names, kind, s, ts, before, r.0, whole, r.1 ∙ append_assoc before (results names) (deeds_of (node s ts) ++ r.0), other, act, differ, is)

  names_stays : HasNamesFault values text a f → HasNamesFault values text (a ++ b) f
  names_stays (names, kind, s, ts, before, after, whole, e, other, act, differ, is) =
      let more = deeds_more a b (before ++ results names) (deeds_of (node s ts)) after (e ∙ sym (append_assoc before (results names) (deeds_of (node s ts) ++ after))) in
      (names, kind, s, ts, before, after ++ deeds_from (0 + tooks a) b, whole, more ∙ append_assoc before (results names) (deeds_of (node s ts) ++ (after ++ deeds_from (0 + tooks a) b)), other, act, differ, is)

-- ---- all faults

module _ (l : Language) (cs : List ℕ) (ts : List Token) (names : List ℕ) (stop : Stop) (n : ℕ) where
  pub faults_front : (a b : List Event) (f : Fault) → OnlyBegins b → HasFault l cs ts names stop n (a ++ b) f → HasFault l cs ts names stop n a f
  faults_front a b f only (inl h) = inl h
  faults_front a b f only (inr (inl h)) = inr (inl (number_front l.values (token_text cs ts) a b f only h))
  faults_front a b f only (inr (inr (inl h))) = inr (inr (inl (names_front l.values (token_text cs ts) a b f only h)))
  faults_front a b f only (inr (inr (inr (inl h)))) = inr (inr (inr (inl (deep_front a b f only h))))
  faults_front a b f only (inr (inr (inr (inr h)))) = inr (inr (inr (inr (scopes_front l.isolated names a b f only h))))

  pub faults_stay : (a b : List Event) (f : Fault) → HasFault l cs ts names stop n a f → HasFault l cs ts names stop n (a ++ b) f
  faults_stay a b f (inl h) = inl h
  faults_stay a b f (inr (inl h)) = inr (inl (number_stays l.values (token_text cs ts) a b f h))
  faults_stay a b f (inr (inr (inl h))) = inr (inr (inl (names_stays l.values (token_text cs ts) a b f h)))
  faults_stay a b f (inr (inr (inr (inl h)))) = inr (inr (inr (inl (deep_stays a b f h))))
  faults_stay a b f (inr (inr (inr (inr h)))) = inr (inr (inr (inr (stays l.isolated names a b f h))))

  -- what is alike has the same faults
  pub alike_faults : (es fs : List Event) → AreMostlyAlike es fs → (f : Fault) → HasFault l cs ts names stop n es f → HasFault l cs ts names stop n fs f
  alike_faults es fs (front, (b, e, only), (c, k, _)) f h =
      subst (λ x. HasFault l cs ts names stop n x f) (sym k) (faults_stay front c f (faults_front front b f only (subst (λ x. HasFault l cs ts names stop n x f) e h)))
