-- The links leave no choice of the lists.
use Rattle.std.proofs.Common.{◌≡◌, ℕ, ◌<◌, List, [], ◌∷◌, length, Option, Some, None, refl, sym, ap, subst, ◌∙◌, arith}
use Rattle.std.proofs.Props.{props}
use Rattle.std.proofs.lemmas.List.{ext_get_or}
use mathlib.Core.HLevel.{Σ_prop_path, ×_prop, Unit-prop}
use Rattle.ir_entities.specs.declared.siblings.Node.{Node}
use Rattle.ir_entities.specs.declared.siblings.Ends.{Ends}
use Rattle.ir_entities.specs.Links.{first_or, AreDistinctNumbers, IsSegment, IsList, AreLists}

pub segment_one : (at : ℕ → Node) (c : ℕ) (p : Option ℕ) (xs ys : List ℕ) → IsSegment at c p xs None → IsSegment at c p ys None → first_or None xs ≡ first_or None ys → xs ≡ ys
segment_one at c p [] [] s t h = refl
segment_one at c p [] (y ∷ ys) s t h = cc
segment_one at c p (x ∷ xs) [] s t h = cc
segment_one at c p (x ∷ xs) (y ∷ ys) s t h =
    let e : x ≡ y = cc in
    let t' : IsSegment at c (Some x) ys None = subst (λ z. IsSegment at c (Some z) ys None) (sym e) t.1 in
    let n : first_or None xs ≡ first_or None ys = ap (λ (r : Node). r.next) (sym s.0 ∙ ap at e ∙ t.0) in
    let r : xs ≡ ys = segment_one at c (Some x) xs ys s.1 t' n in
    cc

node_set : (a b : Node) → IsProp (a ≡ b)
node_set a b = hlevel props

segment_prop : (at : ℕ → Node) (c : ℕ) (p : Option ℕ) (xs : List ℕ) (e : Option ℕ) → IsProp (IsSegment at c p xs e)
segment_prop at c p [] e = Unit-prop
segment_prop at c p (x ∷ xs) e = ×_prop (node_set _ _) (segment_prop at c (Some x) xs e)

distinct_prop : (xs : List ℕ) → IsProp (AreDistinctNumbers xs)
distinct_prop [] = Unit-prop
distinct_prop (x ∷ xs) = ×_prop (hlevel props) (distinct_prop xs)

list_prop : (at : ℕ → Node) (ends : Ends) (c : ℕ) (xs : List ℕ) → IsProp (IsList at ends c xs)
list_prop at ends c xs = hlevel (props, segment_prop at c None xs None, distinct_prop xs)

lists_prop : (at : ℕ → Node) (es : List Ends) (ls : List (List ℕ)) → IsProp (AreLists at es ls)
lists_prop at es ls = hlevel (props, list_prop)

pub lists_one : (at : ℕ → Node) (es : List Ends) (l m : List (List ℕ)) → AreLists at es l → AreLists at es m → l ≡ m
lists_one at es l m a b =
    ext_get_or [] l m (a.count ∙ sym b.count) (λ c lt.
    let lt' : c < length m = omega (arith, a.count, b.count) in
    segment_one at c None _ _ (a.each c lt).chain (b.each c lt').chain (sym (a.each c lt).head ∙ (b.each c lt').head))

pub lists_exact : (at : ℕ → Node) (es : List Ends) → IsProp ((ls : List (List ℕ)) × AreLists at es ls)
lists_exact at es s t = Σ_prop_path (lists_prop at es) (lists_one at es s.0 t.0 s.1 t.1)
