-- One more mark, and lists of work one after the other.
use Rattle.std.proofs.Common.{zero, ◌≡◌, ◌⊎◌, inl, inr, ⊎_elim, ℕ, suc, ◌+◌, ◌<◌, List, [], Option, None, Some, ◌∷◌, ◌++◌, take, Bool, true, false, nat_eq, cond, length, get_or, refl, sym, ap, ◌∙◌, subst, arith}
use Rattle.std.proofs.Math.ListN.{set}
use Rattle.std.specs.Prelude.{not, count_by, All, Contains}
use Rattle.std.specs.Option.{IfSome, option_to_list}
use Rattle.std.proofs.lemmas.List.{length-append, length-set, take_more}
use Rattle.std.proofs.lemmas.Option.{slice_get_read, slice_get_within, get_or_from_slice_get}
use Rattle.std.proofs.lemmas.List.Sums.{sum_by-set}
use Rattle.std.proofs.lemmas.List.Elements.{All-push, All-weaker, Contains-append_left, Contains-push, Contains-push_cases, Contains-append_cases, Contains-append_right}
use Rattle.digraph.specs.declared.worklist.Worklist.{Worklist}
use Rattle.digraph.specs.Counts.{one, count_of}
use Rattle.digraph.proofs.Counting.{count-append}
use Rattle.std.proofs.lemmas.Grind.{common_steps}
use Rattle.digraph.specs.Marks.{IsMarked}
use Rattle.digraph.specs.Work.{HasNode, Waits, Adds, Takes}

pub marked_read : (ms : List Bool) (i : ℕ) (b : Bool) → i < length ms → b ≡ get_or ms i b → b ≡ true → IsMarked ms i
marked_read ms i b h e t = slice_get_read ms (length ms) i true refl h (sym t ∙ e ∙ ap (get_or ms i) t)

pub not_marked : (ms : List Bool) (i : ℕ) → get_or ms i false ≡ false → IsMarked ms i → ⊥
not_marked ms i e h = let q = get_or_from_slice_get ms i true false h in cc

pub unmarked_read : (ms : List Bool) (i : ℕ) (b : Bool) → b ≡ get_or ms i b → b ≡ false → IsMarked ms i → ⊥
unmarked_read ms i b e t = not_marked ms i (ap (get_or ms i) (sym t) ∙ sym e ∙ t)

pub mark_kept : (ms : List Bool) (i n : ℕ) → IsMarked ms n → IsMarked (set ms i true) n
mark_kept [] i n h = h
mark_kept (m ∷ ms) zero zero h = refl
mark_kept (m ∷ ms) zero (suc n) h = h
mark_kept (m ∷ ms) (suc i) zero h = h
mark_kept (m ∷ ms) (suc i) (suc n) h = mark_kept ms i n h

pub mark_more : (ms : List Bool) (i n : ℕ) → i < length ms → get_or ms i false ≡ false → one (get_or (set ms i true) n false) ≡ one (get_or ms n false) + one (nat_eq n i)
mark_more ms i n h e = grind (arith, common_steps)

pub mark_put : (ms : List Bool) (i : ℕ) → i < length ms → IsMarked (set ms i true) i
mark_put [] i h = absurd (omega arith)
mark_put (m ∷ ms) zero h = refl
mark_put (m ∷ ms) (suc i) h = mark_put ms i (omega arith)

pub mark_only : (ms : List Bool) (i n : ℕ) → IsMarked (set ms i true) n → IsMarked ms n ⊎ (n ≡ i)
mark_only [] i n h = inl h
mark_only (m ∷ ms) zero zero h = inr refl
mark_only (m ∷ ms) zero (suc n) h = inl h
mark_only (m ∷ ms) (suc i) zero h = inl h
mark_only (m ∷ ms) (suc i) (suc n) h = ⊎_elim (λ a. inl a) (λ e. inr (ap suc e)) (mark_only ms i n h)

pub mark_count : (ms : List Bool) (i : ℕ) → i < length ms → get_or ms i false ≡ false → count_by not (set ms i true) + 1 ≡ count_by not ms
mark_count ms i h e = let s = sum_by-set (λ b. cond (not b) 1 0) ms i true false h in let f : Bool → ℕ = λ b. cond (not b) 1 0 in let q = ap f e in omega (arith, s, q)

pub one_more : (P : ℕ → Type 0) (xs ys : List ℕ) (x : ℕ) (b : Bool) → ys ≡ cond b (xs ++ x ∷ []) xs → All P xs → P x → All P ys
one_more P xs ys x true e h p = subst (All P) (sym e) (All-push P xs x h p)
one_more P xs ys x false e h p = subst (All P) (sym e) h

-- the waiting nodes are marked after one more mark
pub waiting_marked : (ms : List Bool) (xs ys : List ℕ) (x : ℕ) (b : Bool) → ys ≡ cond b (xs ++ x ∷ []) xs → All (IsMarked ms) xs → x < length ms → All (IsMarked (set ms x true)) ys
waiting_marked ms xs ys x b e h l = one_more (IsMarked (set ms x true)) xs ys x b e (All-weaker (IsMarked ms) (IsMarked (set ms x true)) (λ n q. mark_kept ms x n q) xs h) (mark_put ms x l)

pub only_one : (x n : ℕ) → Contains (x ∷ []) n → n ≡ x
only_one x n h = ⊎_elim (λ a. absurd (omega (arith, a.1))) (λ e. sym e) (Contains-push_cases [] x n h)

pub mark_added : (old new : Worklist) (node : ℕ) → node < length old.marked.items → get_or old.marked.items node false ≡ false → new.marked.items ≡ set old.marked.items node true → new.waiting.items ≡ old.waiting.items ++ node ∷ [] → Adds old new (node ∷ [])
mark_added old new node h e m w = record {
  len = ap length m ∙ length-set old.marked.items node true;
  has = λ n c. subst (λ k. IsMarked new.marked.items k) (sym (only_one node n c)) (subst (λ ms. IsMarked ms node) (sym m) (mark_put old.marked.items node h));
  keeps = λ n a. subst (λ ms. IsMarked ms n) (sym m) (mark_kept old.marked.items node n a);
  only = λ n a. ⊎_elim (λ b. inl b) (λ q. inr (subst (λ k. Contains (node ∷ []) k) (sym q) (Contains-push [] node))) (mark_only old.marked.items node n (subst (λ ms. IsMarked ms n) m a));
  waits = λ n a. subst (λ ws. Contains ws n) (sym w) (Contains-append_left old.waiting.items (node ∷ []) n a);
  fresh = λ n a. ⊎_elim (λ b. inl b) (λ q. inr (subst (λ ws. Contains ws n) (sym w) (subst (λ k. Contains (old.waiting.items ++ node ∷ []) k) (sym q) (Contains-push old.waiting.items node)))) (mark_only old.marked.items node n (subst (λ ms. IsMarked ms n) m a));
  news = λ n a. ⊎_elim (λ b. inl b) (λ q. inr (λ t. absurd (not_marked old.marked.items node e (subst (λ k. IsMarked old.marked.items k) (sym q) t)))) (Contains-push_cases old.waiting.items node n (subst (λ ws. Contains ws n) w a));
  counts = λ n. omega (arith, ap (count_of n) w, count-append n old.waiting.items (node ∷ []), mark_more old.marked.items node n h e, ap (λ ms. one (get_or ms n false)) m);
  work = let a = ap (count_by not) m in let b = mark_count old.marked.items node h e in let c = ap length w in let d = length-append old.waiting.items (node ∷ []) in omega (arith, a, b, c, d);
}

pub none_added : (w : Worklist) (nodes : List ℕ) → ((n : ℕ) → Contains nodes n → HasNode w n) → Adds w w nodes
none_added w nodes h = record {
  len = refl;
  has = h;
  keeps = λ n a. a;
  only = λ n a. inl a;
  waits = λ n a. a;
  fresh = λ n a. inl a;
  news = λ n a. inl a;
  counts = λ n. refl;
  work = omega arith;
}

pub added_more : (a b c : Worklist) (xs ys zs : List ℕ) → zs ≡ xs ++ ys → Adds a b xs → Adds b c ys → Adds a c zs
added_more a b c xs ys zs e p q = record {
  len = q.len ∙ p.len;
  has = λ n h. ⊎_elim (λ l. q.keeps n (p.has n l)) (λ r. q.has n r) (Contains-append_cases xs ys n (subst (λ s. Contains s n) e h));
  keeps = λ n h. q.keeps n (p.keeps n h);
  only = λ n h. ⊎_elim (λ l. ⊎_elim (λ m. inl m) (λ m. inr (subst (λ s. Contains s n) (sym e) (Contains-append_left xs ys n m))) (p.only n l)) (λ r. inr (subst (λ s. Contains s n) (sym e) (Contains-append_right xs ys n r))) (q.only n h);
  waits = λ n h. q.waits n (p.waits n h);
  fresh = λ n h. ⊎_elim (λ l. ⊎_elim (λ m. inl m) (λ m. inr (q.waits n m)) (p.fresh n l)) (λ r. inr r) (q.fresh n h);
  news = λ n h. ⊎_elim (λ l. p.news n l) (λ r. inr (λ o. r (p.keeps n o))) (q.news n h);
  counts = λ n. omega (arith, p.counts n, q.counts n);
  work = omega (arith, p.work, q.work);
}

pub added_next : (a b c : Worklist) (xs : List ℕ) (i x : ℕ) → i < length xs → x ≡ get_or xs i x → Adds a b (take i xs) → Adds b c (x ∷ []) → Adds a c (take (i + 1) xs)
added_next a b c xs i x h e p q = added_more a b c (take i xs) (x ∷ []) (take (i + 1) xs) (take_more xs i x h ∙ ap (λ y. take i xs ++ y ∷ []) (sym e)) p q

-- a node taken from the end of the list
pub one_taken : (old new : Worklist) (r : Option ℕ) → old.waiting.items ≡ new.waiting.items ++ option_to_list r → new.marked.items ≡ old.marked.items → IfSome r (Takes old new)
one_taken old new None e m = tt
one_taken old new (Some x) e m =
    let w : Waits old x = subst (λ ws. Contains ws x) (sym e) (Contains-push new.waiting.items x) in
    let h : HasNode old x = subst (IsMarked old.marked.items) w.2 (old.waiting_marked w.0 x w.1) in
    record {
      in_range = slice_get_within old.marked.items x true h;
      has = h;
      waited = w;
      rest = λ n c. ⊎_elim (λ a. inl a) (λ q. inr (sym q)) (Contains-push_cases new.waiting.items x n (subst (λ ws. Contains ws n) e c));
      less = λ n c. subst (λ ws. Contains ws n) (sym e) (Contains-append_left new.waiting.items (x ∷ []) n c);
      counts = λ n. omega (arith, ap (count_of n) e, count-append n new.waiting.items (x ∷ []));
      work = omega (arith, ap length e, length-append new.waiting.items (x ∷ []), ap (count_by not) m);
    }
