-- What is open around the innermost, where that ends.
use Rattle.std.proofs.Common.{◌≡◌, ℕ, List, [], ◌∷◌, ◌++◌, reverse, Some, None, Result, OnOk, refl, sym, ap, subst, ◌∙◌}
use Rattle.std.proofs.lemmas.List.{reverse-append}
use Rattle.std.proofs.lemmas.Result.{on_ok_weaker}
use Rattle.ir_names.specs.Tree.{Trees}
use Rattle.ir_print.specs.Pieces.{Values}
use Rattle.ir_print.specs.Shown.{Saying}
use Rattle.ir_tokens.specs.declared.faults.Fault.{Fault}
use Rattle.text_frames.specs.declared.opened.AssemblyFault.{AssemblyFault}
use Rattle.text_frames.specs.declared.opened.Body.TheVariants as body
use Rattle.text_frames.specs.declared.opened.Open as opened
use Rattle.ir_forest.specs.Forest.{ActionSpan}
use Rattle.ir_forest.specs.Building as building
use Rattle.ir_forest.specs.Building.{fault_at_end, with_end, behind, ended_tree}
use Rattle.ir_grammar.specs.Nesting.{Position, at_end}
use Rattle.text_frames.specs.building.Kept.{KeepsKeys}
use Rattle.ir_formats.specs.Ordered.{Standing, alone, moved_out}
use Rattle.text_frames.specs.Frames.{FrameSort, a_text, an_operation, some_operands, an_edge, a_region, a_block, a_type, an_attribute, a_list, an_item, a_choice, sort_at, sort_of, EndsAt, Stands, Ending, Ended}
use Rattle.text_frames.proofs.Framing.{stands_later, stands_with, innermost}
use Rattle.text_frames.proofs.Ended.{is_text}

-- only an operation ends at the end of the text
root_sort : (s : FrameSort) → EndsAt s at_end → s ≡ an_operation
root_sort an_operation h = refl
root_sort a_text h = absurd h
root_sort some_operands h = cc
root_sort an_edge h = cc
root_sort a_region h = cc
root_sort a_block h = cc
root_sort a_type h = absurd h
root_sort an_attribute h = absurd h
root_sort a_list h = absurd h
root_sort an_item h = cc
root_sort a_choice h = absurd h

module _ {D K A T : Type 0} (says : Saying K A T) (values : Values) (text : ℕ → List ℕ) (s : List T)
    (f g f0 g0 : opened.Open D K A T) (gs rest : List (opened.Open D K A T)) (last_is : gs ≡ rest ++ g ∷ []) (is_f : f0 ≡ f) (is_g : g0 ≡ g) (at : Position) (ts : Trees ActionSpan) where
  -- the last of what is around is what the innermost ends in
  opens : (os : List building.Open) (qs : List Position) → Stands says values text s f at ts (reverse gs) os qs → Stands says values text s f0 at ts (g0 ∷ reverse rest) os qs
  opens os qs h =
      let top : reverse gs ≡ g ∷ reverse rest = ap reverse last_is ∙ reverse-append rest (g ∷ []) in
      subst (λ (x : opened.Open D K A T). Stands says values text s x at ts (g0 ∷ reverse rest) os qs) (sym is_f)
      (subst (λ (x : opened.Open D K A T). Stands says values text s f at ts (x ∷ reverse rest) os qs) (sym is_g)
      (subst (λ (xs : List (opened.Open D K A T)). Stands says values text s f at ts xs os qs) top h))

  ending : (o : building.Open) (os : List building.Open) (q : Position) (qs : List Position) → Stands says values text s f0 at ts (g0 ∷ reverse rest) (o ∷ os) (q ∷ qs) → Ending says values text s f0 g0 o at q ts
  ending o os q qs h = record { frame = h.0; begun = h.1; outer = innermost says values text s g0 q o.before (reverse rest) os qs h.2 }

  pub ends_with : (t : List T) (keeps : KeepsKeys s t) (h : opened.Open D K A T) (around : List (opened.Open D K A T)) (os : List building.Open) (qs : List Position) (next : Standing) (last : ℕ) (r : Result (Unit {0}) AssemblyFault)
      → around ≡ rest → Stands says values text s f at ts (reverse gs) os qs → moved_out qs ≡ Some next
      → ((o : building.Open) (to : Position) → Ending says values text s f0 g0 o at to ts → OnOk r (Ended says values text t g0 h o to ts last))
      → OnOk r ((fault_at_end values text ts os last ≡ None) × Stands says values text t h next.here (with_end ts os last).here (reverse around) (with_end ts os last).around next.around)
  ends_with t keeps h around [] [] next last r same stands out made = absurd (opens [] [] stands)
  ends_with t keeps h around [] (q ∷ qs) next last r same stands out made = absurd (opens [] (q ∷ qs) stands)
  ends_with t keeps h around (o ∷ os) [] next last r same stands out made = absurd (opens (o ∷ os) [] stands)
  ends_with t keeps h around (o ∷ os) (q ∷ qs) next last r same stands out made =
      let all : Stands says values text s f0 at ts (g0 ∷ reverse rest) (o ∷ os) (q ∷ qs) = opens (o ∷ os) (q ∷ qs) stands in
      let kept : Stands says values text t g0 q o.before (reverse rest) os qs = stands_later says values text s t keeps g0 q o.before (reverse rest) os qs all.2 in
      let goes : record { here = q; around = qs } ≡ next = cc in
      on_ok_weaker r (λ (w : Ended says values text t g0 h o q ts last). (
        w.0,
        subst (λ (x : Standing). Stands says values text t h x.here (behind o.before (ended_tree o ts last)) (reverse around) os x.around) goes
            (subst (λ (xs : List (opened.Open D K A T)). Stands says values text t h q (behind o.before (ended_tree o ts last)) (reverse xs) os qs) (sym same)
            (stands_with says values text t g0 h q q o.before (behind o.before (ended_tree o ts last)) (reverse rest) os qs refl w.2 w.1 kept)),
      ))
      (made o q (ending o os q qs all))

  pub ends_refused : (os : List building.Open) (qs : List Position) (next : Standing) (last : ℕ) (fault : Fault)
      → Stands says values text s f at ts (reverse gs) os qs → moved_out qs ≡ Some next
      → ((o : building.Open) (to : Position) → Ending says values text s f0 g0 o at to ts → fault_at_end values text ts (o ∷ []) last ≡ Some fault)
      → fault_at_end values text ts os last ≡ Some fault
  ends_refused [] [] next last fault stands out made = absurd (opens [] [] stands)
  ends_refused [] (q ∷ qs) next last fault stands out made = absurd (opens [] (q ∷ qs) stands)
  ends_refused (o ∷ os) [] next last fault stands out made = absurd (opens (o ∷ os) [] stands)
  ends_refused (o ∷ os) (q ∷ qs) next last fault stands out made =
      made o q (ending o os q qs (opens (o ∷ os) (q ∷ qs) stands))

  -- what ends at the end of the text is an operation, and stands in no block
  pub ends_root : {R : Type 0} (os : List building.Open) (qs : List Position)
      → Stands says values text s f at ts (reverse gs) os qs → moved_out qs ≡ Some (alone at_end)
      → (sort_of f0.body ≡ an_operation → g0.body ≡ body.Text → R) → R
  ends_root [] [] stands out made = absurd (opens [] [] stands)
  ends_root [] (q ∷ qs) stands out made = absurd (opens [] (q ∷ qs) stands)
  ends_root (o ∷ os) [] stands out made = absurd (opens (o ∷ os) [] stands)
  ends_root (o ∷ os) (q ∷ qs) stands out made =
      let e : Ending says values text s f0 g0 o at q ts = ending o os q qs (opens (o ∷ os) (q ∷ qs) stands) in
      let goes : record { here = q; around = qs } ≡ alone at_end = cc in
      let place : q ≡ at_end = ap (λ (x : Standing). x.here) goes in
      made (root_sort (sort_of f0.body) (subst (λ (p : Position). EndsAt (sort_of f0.body) p) place e.begun.ends))
      (is_text g0.body (e.outer.sort ∙ ap sort_at place))
