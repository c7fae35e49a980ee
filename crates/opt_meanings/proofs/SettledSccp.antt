-- A second sccp straight after another makes what is the same up to names.
use Rattle.std.proofs.Common.{◌≡◌, ◌≢◌, ◌⊎◌, ⊎_elim, inl, inr, false, true, List, [], ◌∷◌, map, Option, Some, None, refl, sym, ap, ◌∙◌, subst}
use Rattle.ir_trees.specs.Names.{Names, Contents}
use Rattle.ir_trees.specs.Renames.{rename, rename_defined, rename_head, rename_root, HaveTests, IsSameUpToNames}
use Rattle.ir_trees.specs.Trees.{Defined, Head, Sort, Operations, Tree, end, operation, block, region, Root}
use Rattle.ir_trees.proofs.Same.{same_back, same_on}
use Rattle.opt_trees.specs.Dce.{TreeSurroundings, Agree}
use Rattle.opt_trees.specs.Dialect.{Dialect, Lawful}
use Rattle.opt_trees.specs.Occurrences.{Injection, Renaming, maps}
use Rattle.opt_trees.specs.Sccp.{Name, Old, New, fresh, fresh_maps, RenamesPins, put_results, put_arguments, old_head, old_label, put, put_root, IsSccp}
use Rattle.opt_trees.proofs.ConstantsSettled.{sccp_settles}
use Rattle.opt_trees.proofs.Lists.{some_same}
use Rattle.opt_trees.proofs.SccpRenamed.{sccp_renamed}
use Rattle.opt_meanings.specs.Laws.{NonePinned}
use Rattle.opt_meanings.proofs.Permuted.{permuted}
use Rattle.opt_meanings.proofs.RenamedSame.{renamed_same, fresh_same}
use Rattle.opt_meanings.proofs.SameDce.{nothing_around}
use Rattle.opt_meanings.proofs.SameSccp.{sccp_alone}

no_true : false ≡ true → ⊥
no_true e = cc e

-- each name as that of what stood there

abbrev name_before : {X V : Type 0} → Name X V → Option X
name_before (Old x) = Some x
name_before (New v) = None

before_is : {X V : Type 0} (y : Name X V) (x : X) → name_before y ≡ Some x → Old x ≡ y
before_is (Old z) x e = ap Old (sym (some_same z x e))
before_is (New v) x e = cc

abbrev old_name : {X V : Type 0} → Injection X (Name X V)
old_name = record { to = Old; back = name_before; there = λ x. refl; from = before_is }

abbrev own_name : {X : Type 0} → Injection X X
own_name = record { to = λ x. x; back = Some; there = λ x. refl; from = λ y x e. sym (some_same y x e) }

abbrev as_old : (N : Names) → Renaming N (fresh N)
as_old N = record { operation = old_name; block = own_name; value = old_name }

-- names of what sccp makes can be told apart
told : {X V : Type 0} → ((x y : X) → (x ≡ y) ⊎ (x ≢ y)) → ((v w : V) → (v ≡ w) ⊎ (v ≢ w)) → (x y : Name X V) → (x ≡ y) ⊎ (x ≢ y)
told f g (Old x) (Old y) = ⊎_elim (λ e. inl (ap Old e)) (λ n. inr (λ e. let same : x ≡ y = cc in n same)) (f x y)
told f g (Old x) (New v) = inr (λ e. cc)
told f g (New v) (Old x) = inr (λ e. cc)
told f g (New v) (New w) = ⊎_elim (λ e. inl (ap New e)) (λ n. inr (λ e. let same : v ≡ w = cc in n same)) (g v w)

fresh_told : {N : Names} → HaveTests N → HaveTests (fresh N)
fresh_told t = record { operation = told t.operation t.value; block = t.block; value = told t.value t.value }

own_list : {X : Type 0} (xs : List X) → xs ≡ map (λ (x : X). x) xs
own_list [] = refl
own_list (x ∷ xs) = λ i. x ∷ own_list xs i

-- no value gets a constant
abbrev none : {V A : Type 0} → V → Option A
none v = None

-- where no constant is put in, names alone are other ones
module _ {N : Names} {S : Contents} {A : Type 0} (d : Dialect S A) where
  no_results : (vs : List (Defined N.value S.of_value)) (rest : Tree (fresh N) S Operations) → put_results {N = N} d none vs rest ≡ rest
  no_results [] rest = refl
  no_results (v ∷ vs) rest = no_results vs rest

  no_arguments : (vs : List (Defined N.value S.of_value)) (rest : Tree (fresh N) S Operations) → put_arguments {N = N} d none vs rest ≡ rest
  no_arguments [] rest = refl
  no_arguments (v ∷ vs) rest = no_arguments vs rest

  old_is : (h : Head N S) → old_head {N = N} {A = A} none h ≡ rename_head (maps (as_old N)) h
  old_is h = λ i. record {
    name = Old h.name;
    content = h.content;
    results = map (rename_defined Old) h.results;
    operands = map Old h.operands;
    successors = own_list h.successors i;
  }

  put_none : {s : Sort} (t : Tree N S s) → put {N = N} d none t ≡ rename (maps (as_old N)) t
  put_none end = refl
  put_none (operation h rs rest) =
      no_results h.results (operation (old_head {N = N} {A = A} none h) (put {N = N} d none rs) (put {N = N} d none rest))
      ∙ λ i. operation (old_is h i) (put_none rs i) (put_none rest i)
  put_none (block l ops rest) =
      λ i. block (old_label {N = N} l) ((no_arguments l.arguments (put {N = N} d none ops) ∙ put_none ops) i) (put_none rest i)
  put_none (region bs rest) = λ i. region (put_none bs i) (put_none rest i)

  root_none : (t : Root N S) → put_root {N = N} d none t ≡ rename_root (maps (as_old N)) t
  root_none t = λ i. record { head = old_is t.head i; regions = put_none t.regions i }

-- a second time no constant is put in
none_put : {N : Names} {S : Contents} {A : Type 0} (d : Dialect S A) → Lawful d → (w : TreeSurroundings N A) (t : Root N S) (put : Root (fresh N) S)
    (again : Root (fresh (fresh N)) S) → IsSccp d w t put → IsSccp d (nothing_around {N = fresh N} {A = A}) put again →
    again ≡ rename_root (maps (as_old (fresh N))) put
none_put {N} {S} {A} d law w t put again p q =
    q.is ∙ ap (λ f. put_root {N = fresh N} d f put) (λ i v. no_constant v (q.made v) refl i) ∙ root_none d put
  where
    pins : RenamesPins {N = N} p.made w (nothing_around {N = fresh N} {A = A})
    pins x e = absurd (no_true e)

    no_constant : (v : Name N.value N.value) (o : Option A) → q.made v ≡ o → q.made v ≡ None
    no_constant v None e = e
    no_constant v (Some a) e = absurd (sccp_settles d w nothing_around t put q.facts law p pins q.best v a (q.is_made.gets v a e))

pub second_settles : {N : Names} {S : Contents} {A : Type 0} (d : Dialect S A) → Lawful d → HaveTests N → (w z : TreeSurroundings N A) (t u : Root N S)
    (put again : Root (fresh N) S) → IsSccp d w t put → IsSameUpToNames put u → NonePinned z u → IsSccp d z u again → IsSameUpToNames u again
second_settles {N} {S} {A} d law tests w z t u put again p s unpinned y =
    let r = as_old N in
    let n0 : TreeSurroundings N A = nothing_around in
    let p0 : TreeSurroundings (fresh N) A = nothing_around in
    let agree : Agree r n0 p0 = record { knows = λ v. refl; pins = λ v. refl } in
    let old = rename_root (maps r) u in
    let same : IsSameUpToNames put old = same_on put u old s (renamed_same r u) in
    let made = rename_root (fresh_maps {N = N} {M = fresh N} (maps r)) again in
    let one : IsSccp d p0 old made = sccp_renamed d r n0 p0 agree u again (sccp_alone d z u unpinned again y) in
    let back = permuted old put (fresh_told tests) (same_back put old same) in
    let agrees : Agree back.0 p0 p0 = record { knows = λ v. refl; pins = λ v. refl } in
    let twice = rename_root (fresh_maps {N = fresh N} {M = fresh N} (maps back.0)) made in
    let two : IsSccp d p0 put twice =
    subst (λ q. IsSccp d p0 q twice) back.1 (sccp_renamed d back.0 p0 p0 agrees old made one) in
    let is : twice ≡ rename_root (maps (as_old (fresh N))) put = none_put d law w t put twice p two in
    let end_is : IsSameUpToNames put twice = subst (λ q. IsSameUpToNames put q) (sym is) (renamed_same (as_old (fresh N)) put) in
    let to_twice : IsSameUpToNames again twice = same_on again made twice (fresh_same r again) (fresh_same back.0 made) in
    same_back again u (same_on again twice u to_twice (same_on twice put u (same_back put twice end_is) s))
