-- Naming values by their places changes no behaviour.
use Rattle.std.proofs.Common.{◌≡◌, ℕ, suc, ◌+◌, Bool, true, false, List, [], ◌∷◌, Option, Some, None, refl, sym, ap, ◌∙◌, subst, arith}
use Rattle.std.specs.Prelude.{map, slice_get, if◌then◌else◌, option_map, unwrap_or}
use Rattle.std.proofs.lemmas.Option.{slice_get-map}
use Rattle.kit_behaviour.specs.Machine.{Op, Block, Fun, FunctionsByPath, ops_left, left_in, arguments_of, arguments_in, Alike}
use Rattle.kit_behaviour.specs.Renaming.{rename_op, same_block}
use Rattle.kit_behaviour.specs.Scopes.{defs}
use Rattle.kit_behaviour.specs.Places.{Place, Arg, Res, same_place}
use Rattle.kit_behaviour.specs.Numbering.{index_of, or_else, place_in_ops, place_in_blocks, place_of, place_block, place_fun, placed, HasPlace, AnyBlock, NamesAreDefined}
use Rattle.kit_behaviour.proofs.Behaviour.FrameLemmas.{IsSameness}
use Rattle.kit_behaviour.proofs.Numbering.PlaceEquality.{place_law}
use Rattle.kit_behaviour.proofs.Behaviour.RenamingLemmas.{StaysApart, renamed_alike}

abbrev pub block_of : Place → ℕ
block_of (Arg b i) = b
block_of (Res b o i) = b

abbrev pub name_op : {V : Type 0} → Option (Op V) → ℕ → Option V
name_op None i = None
name_op (Some op) i = slice_get (defs op) i

abbrev pub name_in : {V : Type 0} → Option (Block V) → Place → Option V
name_in None a = None
name_in (Some k) (Arg b i) = slice_get k.arguments i
name_in (Some k) (Res b o i) = name_op (slice_get k.ops o) i

module _ {V : Type 0} (same : V → V → Bool) (law : IsSameness same) where
  index_found : (v : V) (xs : List V) (i : ℕ) → index_of same v xs ≡ Some i → slice_get xs i ≡ Some v
  index_found v [] i e = absurd (cc e)
  index_found v (x ∷ xs) i e = by_test (same v x) refl (index_of same v xs) refl (λ j. index_found v xs j)
    where
      by_test : (b : Bool) → same v x ≡ b → (o : Option ℕ) → index_of same v xs ≡ o → ((j : ℕ) → index_of same v xs ≡ Some j → slice_get xs j ≡ Some v) → slice_get (x ∷ xs) i ≡ Some v
      by_test true t o eo ih =
          let z : Some 0 ≡ Some i = sym (ap (λ b. if b then Some 0 else option_map suc (index_of same v xs)) t) ∙ e in
          let n : 0 ≡ i = cc z in
          subst (λ j. slice_get (x ∷ xs) j ≡ Some v) n (ap Some (sym (law.true_same v x t)))
      by_test false t None eo ih =
          let z : None ≡ Some i = sym (ap (λ b. if b then Some 0 else option_map suc (index_of same v xs)) t ∙ ap (option_map suc) eo) ∙ e in absurd (cc z)
      by_test false t (Some j) eo ih =
          let z : Some (suc j) ≡ Some i = sym (ap (λ b. if b then Some 0 else option_map suc (index_of same v xs)) t ∙ ap (option_map suc) eo) ∙ e in
          let n : suc j ≡ i = cc z in
          subst (λ k. slice_get (x ∷ xs) k ≡ Some v) n (ih j eo)

  record FoundOp (b o : ℕ) (v : V) (ops : List (Op V)) (a : Place) : Type 0 where
    n : ℕ
    i : ℕ
    is : a ≡ Res b (o + n) i
    named : name_op (slice_get ops n) i ≡ Some v

  found_op : (b o : ℕ) (v : V) (ops : List (Op V)) (a : Place) → place_in_ops same b o v ops ≡ Some a → FoundOp b o v ops a
  found_op b o v [] a e = absurd (cc e)
  found_op b o v (op ∷ ops) a e = by_index (index_of same v (defs op)) refl (found_op b (suc o) v ops a)
    where
      by_index : (t : Option ℕ) → index_of same v (defs op) ≡ t → (place_in_ops same b (suc o) v ops ≡ Some a → FoundOp b (suc o) v ops a) → FoundOp b o v (op ∷ ops) a
      by_index (Some i) t ih =
          let z : Some (Res b o i) ≡ Some a = sym (ap (λ u. or_else (option_map (Res b o) u) (place_in_ops same b (suc o) v ops)) t) ∙ e in
          let y : Res b o i ≡ a = cc z in
          let s : o ≡ o + 0 = omega arith in
          record { n = 0; i = i; is = sym y ∙ ap (λ k. Res b k i) s; named = index_found v (defs op) i t }
      by_index None t ih =
          let r = ih (sym (ap (λ u. or_else (option_map (Res b o) u) (place_in_ops same b (suc o) v ops)) t) ∙ e) in
          let s : suc o + r.n ≡ o + suc r.n = omega arith in
          record { n = suc r.n; i = r.i; is = r.is ∙ ap (λ k. Res b k r.i) s; named = r.named }

  record Found (b : ℕ) (v : V) (ks : List (Block V)) (a : Place) : Type 0 where
    n : ℕ
    is : block_of a ≡ b + n
    named : name_in (slice_get ks n) a ≡ Some v

  found : (b : ℕ) (v : V) (ks : List (Block V)) (a : Place) → place_in_blocks same b v ks ≡ Some a → Found b v ks a
  found b v [] a e = absurd (cc e)
  found b v (k ∷ ks) a e = by_index (index_of same v k.arguments) refl (place_in_ops same b 0 v k.ops) refl (found (suc b) v ks a)
    where
      by_index : (t : Option ℕ) → index_of same v k.arguments ≡ t → (u : Option Place) → place_in_ops same b 0 v k.ops ≡ u → (place_in_blocks same (suc b) v ks ≡ Some a → Found (suc b) v ks a) → Found b v (k ∷ ks) a
      by_index (Some i) t u eu ih =
          let z : Some (Arg b i) ≡ Some a = sym (ap (λ x. or_else (option_map (Arg b) x) (or_else (place_in_ops same b 0 v k.ops) (place_in_blocks same (suc b) v ks))) t) ∙ e in
          let y : Arg b i ≡ a = cc z in
          let s : b ≡ b + 0 = omega arith in
          record { n = 0; is = ap block_of (sym y) ∙ s; named = subst (λ x. name_in (Some k) x ≡ Some v) y (index_found v k.arguments i t) }
      by_index None t (Some c) eu ih =
          let z : Some c ≡ Some a = sym (ap (λ x. or_else (option_map (Arg b) x) (or_else (place_in_ops same b 0 v k.ops) (place_in_blocks same (suc b) v ks))) t ∙ ap (λ x. or_else x (place_in_blocks same (suc b) v ks)) eu) ∙ e in
          let y : c ≡ a = cc z in
          let r = found_op b 0 v k.ops c eu in
          let s : b ≡ b + 0 = omega arith in
          let w : 0 + r.n ≡ r.n = omega arith in
          let rn : name_op (slice_get k.ops (0 + r.n)) r.i ≡ Some v = ap (λ j. name_op (slice_get k.ops j) r.i) w ∙ r.named in
          record {
            n = 0;
            is = ap block_of (sym y ∙ r.is) ∙ s;
            named = subst (λ x. name_in (Some k) x ≡ Some v) (sym r.is ∙ y) rn;
          }
      by_index None t None eu ih =
          let r = ih (sym (ap (λ x. or_else (option_map (Arg b) x) (or_else (place_in_ops same b 0 v k.ops) (place_in_blocks same (suc b) v ks))) t ∙ ap (λ x. or_else x (place_in_blocks same (suc b) v ks)) eu) ∙ e) in
          let s : suc b + r.n ≡ b + suc r.n = omega arith in
          record { n = suc r.n; is = r.is ∙ s; named = r.named }

  -- so a place names one value
  pub at_place : (f : Fun V) (v : V) (a : Place) → place_in_blocks same 0 v f ≡ Some a → name_in (slice_get f (block_of a)) a ≡ Some v
  at_place f v a e =
      let r = found 0 v f a e in
      let n : r.n ≡ block_of a = omega (arith, r.is) in
      ap (λ k. name_in (slice_get f k) a) (sym n) ∙ r.named

  -- the names with a place
  abbrev pub place_name : Option (Fun V) → V → Place
  place_name None v = Arg 0 0
  place_name (Some f) v = place_of same f v

  apart_fun : (f : Fun V) (x y : V) (a b : Place) → place_in_blocks same 0 x f ≡ Some a → place_in_blocks same 0 y f ≡ Some b → same_place (place_of same f x) (place_of same f y) ≡ same x y
  apart_fun f x y a b ea eb =
      let e : same_place (place_of same f x) (place_of same f y) ≡ same_place a b = ap (λ o. same_place (unwrap_or o (Arg 0 0)) (place_of same f y)) ea ∙ ap (λ o. same_place a (unwrap_or o (Arg 0 0))) eb in
      e ∙ by_test (same x y) refl (same_place a b) refl
    where
      by_test : (s : Bool) → same x y ≡ s → (t : Bool) → same_place a b ≡ t → same_place a b ≡ same x y
      by_test true s true t = t ∙ sym s
      by_test false s false t = t ∙ sym s
      by_test true s false t =
          let xy = law.true_same x y s in
          let z : Some a ≡ Some b = sym ea ∙ ap (λ v. place_in_blocks same 0 v f) xy ∙ eb in
          let ab : a ≡ b = cc z in
          let bad : true ≡ false = sym (place_law.same_true a) ∙ ap (same_place a) ab ∙ t in absurd (cc bad)
      by_test false s true t =
          let ab = place_law.true_same a b t in
          let z : Some x ≡ Some y = sym (at_place f x a ea) ∙ ap (λ p. name_in (slice_get f (block_of p)) p) ab ∙ at_place f y b eb in
          let xy : x ≡ y = cc z in
          let bad : true ≡ false = sym (law.same_true x) ∙ ap (same x) xy ∙ s in absurd (cc bad)

  pub apart : (f : Option (Fun V)) → StaysApart same same_place (place_name f) (HasPlace same f)
  apart None x y a b = absurd a
  apart (Some f) x y a b = apart_fun f x y a.0 b.0 a.1 b.1

  place_left_block : (r : V → Place) (o : Option (Block V)) → ops_left (option_map (place_block r) o) 0 ≡ map (rename_op r same_block) (ops_left o 0)
  place_left_block r None = refl
  place_left_block r (Some b) = refl

  place_takes_block : (r : V → Place) (o : Option (Block V)) → arguments_of (option_map (place_block r) o) ≡ map r (arguments_of o)
  place_takes_block r None = refl
  place_takes_block r (Some b) = refl

  pub place_left : (f : Option (Fun V)) (b : ℕ) → left_in (place_fun same f) b 0 ≡ map (rename_op (place_name f) same_block) (left_in f b 0)
  place_left None b = refl
  place_left (Some f) b = ap (λ o. ops_left o 0) (slice_get-map (place_block (place_of same f)) f b) ∙ place_left_block (place_of same f) (slice_get f b)

  pub place_takes : (f : Option (Fun V)) (b : ℕ) → arguments_in (place_fun same f) b ≡ map (place_name f) (arguments_in f b)
  place_takes None b = refl
  place_takes (Some f) b = ap arguments_of (slice_get-map (place_block (place_of same f)) f b) ∙ place_takes_block (place_of same f) (slice_get f b)

  pub placed_alike : (p : FunctionsByPath V) → ((path : List ℕ) → NamesAreDefined same (p path)) → Alike same same_place 1 p (placed same p)
  placed_alike p h =
      renamed_alike same same_place p (placed same p) (λ path. place_name (p path)) (λ path. same_block) (λ path. HasPlace same (p path)) (λ path. AnyBlock) (λ path. apart (p path))
      (λ path.
      record {
        entry_stays = refl;
        entry_in = tt;
        left = λ b s. place_left (p path) b;
        arguments = λ b s. place_takes (p path) b;
        ops_named = λ b s. (h path).ops b;
        takes_named = λ b s. (h path).arguments b;
      })
