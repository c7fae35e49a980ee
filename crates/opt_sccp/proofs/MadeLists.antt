-- Lists of the values that get constants, value by value.
use Rattle.std.proofs.Common.{◌≡◌, ◌⊎◌, inl, inr, ⊎_elim, ℕ, zero, suc, ◌<◌, ◌+◌, List, [], ◌∷◌, ◌++◌, take, length, Some, slice_get, get_or, refl, sym, ap, ◌∙◌, subst, arith, add-one}
use Rattle.std.proofs.lemmas.Option.{slice_get-get_or, slice_get_within}
use Rattle.ir_program.specs.Program.{Program}
use Rattle.ir_program.specs.declared.handles.Value.{Value}
use Rattle.ir_trees.specs.Stands.{by_handle, in_program}
use Rattle.opt_rows.specs.declared.known.Known.TheVariants.{One}
use Rattle.opt_trees.specs.Dialect.{Dialect}
use Rattle.opt_trees.specs.Facts.{Facts}
use Rattle.opt_trees.specs.Occurrences.{Has}
use Rattle.opt_sccp.specs.declared.putting.Made.{Made}
use Rattle.opt_sccp.specs.Wanted.{GetsAt, AreMade}
use Rattle.opt_sccp.proofs.PlacedLists.{index_has, has_front, has_last, last_has}
use Rattle.opt_sccp.proofs.PutLists.{before_last}
use Rattle.opt_sccp.proofs.PuttingLoop.{take_next}

-- what stands at an index of a list, in an equal list
pub element : {X : Type 0} (xs ys : List X) (i : ℕ) (d : X) → i < length xs → xs ≡ ys → slice_get ys i ≡ Some (get_or xs i d)
element xs ys i d less e = ap (λ zs. slice_get zs i) (sym e) ∙ slice_get-get_or xs i d less

get_front : {X : Type 0} (xs ys : List X) (i : ℕ) (x : X) → slice_get xs i ≡ Some x → slice_get (xs ++ ys) i ≡ Some x
get_front [] ys i x h = cc
get_front (z ∷ xs) ys zero x h = h
get_front (z ∷ xs) ys (suc i) x h = get_front xs ys i x h

-- what stands in a list with one more behind it
front_or_last : {X : Type 0} (xs : List X) (y : X) (i : ℕ) (x : X) → slice_get (xs ++ y ∷ []) i ≡ Some x → (slice_get xs i ≡ Some x) ⊎ ((i ≡ length xs) × (x ≡ y))
front_or_last [] y zero x h = let s : Some y ≡ Some x = h in let e : x ≡ y = cc in inr (refl, e)
front_or_last [] y (suc i) x h = cc
front_or_last (z ∷ xs) y zero x h = inl h
front_or_last (z ∷ xs) y (suc i) x h = ⊎_elim (λ s. inl s) (λ r. inr (ap suc r.0, r.1)) (front_or_last xs y i x h)

module _ {O B A : Type 0} (d : Dialect (in_program O B) A) (c : Program O B) (k : Facts by_handle A) (vs : List Value) (made : List (Made A)) (are : AreMade d c k vs made) (v : Value) where
  abbrev AreOrdered : List Value → List (Made A) → Type 0
  AreOrdered ws ms = (i j : ℕ) (m n : Made A) → slice_get ms i ≡ Some m → slice_get ms j ≡ Some n → i < j
      → (a : ℕ) × (b : ℕ) × (slice_get ws a ≡ Some m.value) × (slice_get ws b ≡ Some n.value) × (a < b)

  -- a value that gets none
  pub skips : ((a : A) → GetsAt d c k v a → ⊥) → AreMade d c k (vs ++ v ∷ []) made
  skips none = record {
    gets = are.gets;
    all = λ w a h g. ⊎_elim (λ l. are.all w a l g) (λ e. absurd (none a (subst (λ x. GetsAt d c k x a) e g))) (has_last vs w v h);
    ordered = λ i j m n g h less. let o = are.ordered i j m n g h less in (o.0, o.1, get_front vs (v ∷ []) o.0 m.value o.2, get_front vs (v ∷ []) o.1 n.value o.3, o.4);
    among = λ m h. has_front vs (v ∷ []) m.value (are.among m h);
  }

  -- a value that gets one
  module _ (a : A) (gets : GetsAt d c k v a) where
    abbrev one : Made A
    one = record { value = v; constant = a }

    one_ordered : AreOrdered (vs ++ v ∷ []) (made ++ one ∷ [])
    one_ordered i j m n g h less = ⊎_elim
        (λ first. ⊎_elim
        (λ second. let o = are.ordered i j m n first second less in (o.0, o.1, get_front vs (v ∷ []) o.0 m.value o.2, get_front vs (v ∷ []) o.1 n.value o.3, o.4))
        (λ last. let o = before_last vs m.value v (are.among m (index_has made i m first)) in (o.0, o.1, o.2, o.3 ∙ ap (λ (z : Made A). Some z.value) (sym last.1), o.4))
        (front_or_last made one j n h))
        (λ last. absurd (⊎_elim
        (λ second. let l = slice_get_within made j n second in let e = last.0 in omega arith)
        (λ other. let e = last.0 in let f = other.0 in omega arith)
        (front_or_last made one j n h)))
        (front_or_last made one i m g)

    pub adds : AreMade d c k (vs ++ v ∷ []) (made ++ one ∷ [])
    adds = record {
      gets = λ m h. ⊎_elim (λ l. are.gets m l) (λ e. subst (λ (z : Made A). GetsAt d c k z.value z.constant) (sym e) gets) (has_last made m one h);
      all = λ w b h g. ⊎_elim
          (λ l. has_front made (one ∷ []) (record { value = w; constant = b }) (are.all w b l g))
          (λ e.
          let s : One a ≡ One b = sym gets.known ∙ ap k.of (sym e) ∙ g.known in
          let t : a ≡ b = cc in
          subst (λ (z : Made A). Has z (made ++ one ∷ [])) (λ i. record { value = sym e i; constant = t i }) (last_has made one))
          (has_last vs w v h);
      ordered = one_ordered;
      among = λ m h. ⊎_elim (λ l. has_front vs (v ∷ []) m.value (are.among m l)) (λ e. subst (λ (z : Made A). Has z.value (vs ++ v ∷ [])) (sym e) (last_has vs v)) (has_last made m one h);
    }

module _ {O B A : Type 0} (d : Dialect (in_program O B) A) (c : Program O B) (k : Facts by_handle A) (all : List Value) (n : ℕ) (v : Value) (at : slice_get all n ≡ Some v) where
  next : take n all ++ v ∷ [] ≡ take (n + 1) all
  next = take_next all n v at ∙ ap (λ j. take j all) (sym (add-one n))

  pub value_skipped : (made : List (Made A)) → AreMade d c k (take n all) made → ((a : A) → GetsAt d c k v a → ⊥) → AreMade d c k (take (n + 1) all) made
  value_skipped made are none = subst (λ vs. AreMade d c k vs made) next (skips d c k (take n all) made are v none)

  pub value_added : (made pushed now : List (Made A)) (a : A) → AreMade d c k (take n all) made → GetsAt d c k v a → now ≡ pushed → pushed ≡ made ++ record { value = v; constant = a } ∷ [] → AreMade d c k (take (n + 1) all) now
  value_added made pushed now a are gets same e =
      subst (λ ms. AreMade d c k (take (n + 1) all) ms) (sym (same ∙ e)) (subst (λ vs. AreMade d c k vs (made ++ record { value = v; constant = a } ∷ [])) next (adds d c k (take n all) made are v a gets))
