-- In the trees of a text each step has its place.
use Rattle.std.proofs.Common.{◌≡◌, ℕ, ◌+◌, true, false, List, [], ◌∷◌, ◌++◌, Some, None, refl, sym, subst, ap, ◌∙◌}
use Rattle.std.proofs.lemmas.List.{append_assoc, append-nil}
use Rattle.ir_names.specs.Tree.{Trees, node, no_tree, a_tree}
use Rattle.ir_grammar.specs.declared.grammar.Action.{Action}
use Rattle.ir_grammar.specs.declared.grammar.Action.TheVariants.{EndBlock}
use Rattle.ir_grammar.specs.declared.grammar.Event.{Event}
use Rattle.ir_grammar.specs.declared.grammar.Event.TheVariants.{Took, Did}
use Rattle.ir_forest.specs.Forest.{end_of, Deed, deeds_from, ActionSpan, ending, deeds_of, deeds_in, IsWholeStep, AreWhole, IsForestOf}
use Rattle.ir_grammar.specs.Nesting.{Position, at_root, behind_root_results, at_end, in_header, in_argument, behind_results, Move, goes_to, goes_in, goes_out, nowhere, move, header_move, argument_move, NestsBy}
use Rattle.ir_forest.specs.Progress.{Leads}
use Rattle.ir_forest.proofs.BuiltSteps.{alone, opening, closing, sort_of, EndsBy, ends_by, end_sort, Says, says, by_move}

-- ---- steps at their places

-- what stands here may end here
abbrev pub IsFinal : Position → Type 0
IsFinal at_root = ⊥
IsFinal behind_root_results = ⊥
IsFinal in_header = ⊥
IsFinal in_argument = ⊥
IsFinal behind_results = ⊥
IsFinal _ = Unit {0}

-- a step moves so: what is in it has its place from the inner position on, and what comes behind it from the next one on
abbrev pub PlacedBy : Move → (Position → Type 0) → (Position → Type 0) → Type 0
PlacedBy (goes_to next) Inner Rest = Rest next
PlacedBy (goes_in inner next) Inner Rest = Inner inner × Rest next
PlacedBy goes_out Inner Rest = ⊥
PlacedBy nowhere Inner Rest = ⊥

-- from a position on, each step has its place, and the trees may end where they do
abbrev pub Placed : Position → Trees ActionSpan → Type 0
Placed p no_tree = IsFinal p
Placed p (a_tree (node s ts) rest) = PlacedBy (move p s.action) (λ q. Placed q ts) (λ q. Placed q rest)

-- ---- deeds

-- from a position on the deeds lead to another
abbrev LeadsBy : Position → List Position → List Deed → Position → List Position → Type 0
LeadsBy p ps [] to back = (p ≡ to) × (ps ≡ back)
LeadsBy p ps (d ∷ ds) to back = NestsBy (move p d.0) ps (λ q qs. LeadsBy q qs ds to back)

by_deeds : (es : List Event) (p : Position) (ps : List Position) (n : ℕ) (to : Position) (back : List Position) → Leads p ps es to back → LeadsBy p ps (deeds_from n es) to back
by_deeds [] p ps n to back h = h
by_deeds (Took ∷ es) p ps n to back h = by_deeds es p ps (n + 1) to back h
by_deeds (Did a ∷ es) p ps n to back h = by_move (move p a) ps (λ q qs h. by_deeds es q qs n to back h) h

-- what ends a block doesn't stand in its header
header_stays : (a : Action) → header_move a ≡ goes_out → ⊥
header_stays a h = go (says in_header a) h
  where
    go : Says in_header a (header_move a) → header_move a ≡ goes_out → ⊥
    go s e = let r = subst (Says in_header a) e s in wrong a r.1 e
      where
        wrong : (a : Action) → Some EndBlock ≡ Some a → header_move a ≡ goes_out → ⊥
        wrong EndBlock h e = cc
        wrong _ h e = cc

argument_stays : (a : Action) → argument_move a ≡ goes_out → ⊥
argument_stays a h = let r = subst (Says in_argument a) h (says in_argument a) in wrong a r.1 h
  where
    wrong : (a : Action) → Some EndBlock ≡ Some a → argument_move a ≡ goes_out → ⊥
    wrong EndBlock h e = cc
    wrong _ h e = cc

no_end : {A : Type 0} (a : Action) → None ≡ Some a → A
no_end a h = cc

final : (p : Position) (a : Action) → move p a ≡ goes_out → IsFinal p
final at_root a h = no_end a (subst (Says at_root a) h (says at_root a)).1
final behind_root_results a h = no_end a (subst (Says behind_root_results a) h (says behind_root_results a)).1
final in_header a h = header_stays a h
final in_argument a h = argument_stays a h
final behind_results a h = let r = subst (Says behind_results a) h (says behind_results a) in wrong a r.1 h
  where
    wrong : (a : Action) → Some EndBlock ≡ Some a → move behind_results a ≡ goes_out → ⊥
    wrong EndBlock h e = cc
    wrong _ h e = cc
final _ a h = tt

-- an action that ends something only goes out
ends_out : (p : Position) (a : Action) (m : Move) → move p a ≡ m → Says p a m → sort_of a ≡ closing → (ps : List Position) (R : Position → List Position → Type 0) (q : Position) → NestsBy m (q ∷ ps) R → IsFinal p × R q ps
ends_out p a (goes_to n) e s c ps R q h = let wrong : alone ≡ closing = sym s.0 ∙ c in cc
ends_out p a (goes_in i n) e s c ps R q h = let wrong : opening ≡ closing = sym s.0 ∙ c in cc
ends_out p a goes_out e s c ps R q h = (final p a e, h)
ends_out p a nowhere e s c ps R q h = absurd h

-- ---- trees

-- where deeds of trees lead on, the trees have their places
abbrev Places : Trees ActionSpan → Type 0
Places ts = AreWhole ts → (p : Position) (ps : List Position) (more : List Deed) (to : Position) (back : List Position) → LeadsBy p ps (deeds_in ts ++ more) to back
    → (q : Position) × LeadsBy q ps more to back × (IsFinal q → Placed p ts)

-- what stands alone ends nothing, and has nothing in it
alone_whole : (s : ActionSpan) (ts : Trees ActionSpan) → sort_of s.action ≡ alone → IsWholeStep (end_of s.action) s ts → (end_of s.action ≡ None) × (ts ≡ no_tree)
alone_whole s ts e w =
    let x = subst (λ z. EndsBy z s.action) e (ends_by s.action) in
    let r : IsWholeStep None s ts = subst (λ z. IsWholeStep z s ts) x.0 w in
    (x.0, r.2)

module _ (s : ActionSpan) (ts rest : Trees ActionSpan) (p : Position) (ps : List Position) (more : List Deed) (to : Position) (back : List Position) where
  place : (m : Move) → move p s.action ≡ m → Says p s.action m → IsWholeStep (end_of s.action) s ts → AreWhole ts → AreWhole rest → Places ts → Places rest
      → NestsBy m ps (λ q qs. LeadsBy q qs ((deeds_in ts ++ ending (end_of s.action) s.last) ++ (deeds_in rest ++ more)) to back)
      → (q : Position) × LeadsBy q ps more to back × (IsFinal q → PlacedBy m (λ q. Placed q ts) (λ q. Placed q rest))
  place (goes_to n) e does w inner after here there h =
      let a = alone_whole s ts does.0 w in
      let same : deeds_in ts ++ ending (end_of s.action) s.last ≡ [] = ap (λ us. deeds_in us ++ ending (end_of s.action) s.last) a.1 ∙ ap (λ x. ending x s.last) a.0 in
      there after n ps more to back (subst (λ z. LeadsBy n ps (z ++ (deeds_in rest ++ more)) to back) same h)
  place (goes_in i n) e does w inner after here there h =
      let x = subst (λ z. EndsBy z s.action) does.0 (ends_by s.action) in
      let same : (deeds_in ts ++ ending (end_of s.action) s.last) ++ (deeds_in rest ++ more) ≡ deeds_in ts ++ ((x.0, s.last) ∷ (deeds_in rest ++ more)) =
      ap (λ z. (deeds_in ts ++ ending z s.last) ++ (deeds_in rest ++ more)) x.1 ∙ append_assoc (deeds_in ts) ((x.0, s.last) ∷ []) (deeds_in rest ++ more) in
      let r = here inner i (n ∷ ps) ((x.0, s.last) ∷ (deeds_in rest ++ more)) to back (subst (λ z. LeadsBy i (n ∷ ps) z to back) same h) in
      let out = ends_out r.0 x.0 (move r.0 x.0) refl (says r.0 x.0) (end_sort s.action x.0 x.1) ps (λ q qs. LeadsBy q qs (deeds_in rest ++ more) to back) n r.1 in
      let go = there after n ps more to back out.1 in
      (go.0, go.1, λ f. (r.2 out.0, go.2 f))
  place goes_out e does w inner after here there h = absurd (wrong does.0)
    where
      wrong : sort_of s.action ≡ closing → ⊥
      wrong c =
          let x = subst (λ z. EndsBy z s.action) c (ends_by s.action) in
          let r : IsWholeStep None s ts = subst (λ z. IsWholeStep z s ts) x.0 w in
          let no : true ≡ false = sym x.1 ∙ r.0 in cc
  place nowhere e does w inner after here there h = absurd h

places : (ts : Trees ActionSpan) → Places ts
places no_tree w p ps more to back h = (p, h, λ f. f)
places (a_tree (node s ts) rest) w p ps more to back h =
    place s ts rest p ps more to back (move p s.action) refl (says p s.action) w.0 w.1 w.2 (places ts) (places rest)
    (subst (λ z. LeadsBy p ps z to back) (append_assoc (deeds_of (node s ts)) (deeds_in rest) more) h)

-- each step of a whole text has its place
pub forest_placed : (es : List Event) (ts : Trees ActionSpan) → IsForestOf es ts → Leads at_root [] es at_end [] → Placed at_root ts
forest_placed es ts f h =
    let led : LeadsBy at_root [] (deeds_in ts ++ []) at_end [] = subst (λ z. LeadsBy at_root [] z at_end []) (f.1 ∙ sym (append-nil (deeds_in ts))) (by_deeds es at_root [] 0 at_end [] h) in
    let r = places ts f.0 at_root [] [] at_end [] led in
    r.2 (subst IsFinal (sym r.1.0) tt)
