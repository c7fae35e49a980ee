-- One step of a walk with a stack.
use Rattle.std.proofs.Common.{zero, ◌≡◌, ⊎_elim, ℕ, suc, ◌+◌, ◌-◌, ◌<◌, ◌≤◌, List, [], ◌∷◌, ◌++◌, Some, Bool, true, false, length, get_or, drop, reverse, refl, sym, ap, ◌∙◌, subst, arith, add-one}
use Rattle.std.proofs.Math.ListN.{set}
use Rattle.std.proofs.Math.Seq.{drop-cons}
use Rattle.std.specs.Prelude.{All, Contains}
use Rattle.std.specs.declared.vec.Vec.{Vec}
use Rattle.std.specs.declared.alloc.Global.{Global}
use Rattle.std.proofs.lemmas.List.{reverse-append, length-set, length-drop, nil_from_length}
use Rattle.std.proofs.lemmas.List.Elements.{All-pop, All-push, Contains-push, Contains-push_cases, Contains-append_left, Contains-get_or}
use Rattle.digraph.specs.Graph.{successors, InRange}
use Rattle.digraph.specs.Marks.{IsMarked}
use Rattle.digraph.proofs.Marking.{mark_kept, mark_put, mark_only}
use Rattle.digraph.proofs.Searching.{successors_at}
use Rattle.digraph.specs.declared.search.Open.{Open}
use Rattle.digraph.specs.declared.search.Search.{Search}
use Rattle.digraph.specs.Visits.{Traversal, see, leave, Visits, Nothing, Passes, Enters as Entered}
use Rattle.digraph.specs.Searches.{orders, stack, Resumes, unseen_work, open_work, work, IsSearch, SeenBefore, SeenNow, Enters, Goes}

abbrev pub opened : ℕ → ℕ → Open
opened n i = record { node = n; next = i }

module _ (next : ℕ → List ℕ) where
  rest_at : (n i d : ℕ) → i < length (next n) → drop i (next n) ≡ get_or (next n) i d ∷ drop (i + 1) (next n)
  rest_at n i d h = rw (add-one, drop-cons (next n) i d)

  pub seen_child : (o q : Traversal ℕ) (f : Open) (fs : List Open) (ns : List ℕ) (c : ℕ) → f.next < length (next f.node) → c ≡ get_or (next f.node) f.next c → Contains o.seen c
      → Resumes next o (opened f.node (f.next + 1) ∷ fs) ns q → Resumes next o (f ∷ fs) ns q
  seen_child o q f fs ns c h e s r =
      (r.0, subst (λ xs. Visits next o xs r.0) (sym (rest_at f.node f.next c h)) (subst (λ x. Visits next o (x ∷ drop (f.next + 1) (next f.node)) r.0) e (Passes s r.1)), r.2)

  pub new_child : (o q : Traversal ℕ) (f : Open) (fs : List Open) (ns : List ℕ) (c : ℕ) → f.next < length (next f.node) → c ≡ get_or (next f.node) f.next c → (Contains o.seen c → ⊥)
      → Resumes next (see c o) (opened c 0 ∷ opened f.node (f.next + 1) ∷ fs) ns q → Resumes next o (f ∷ fs) ns q
  new_child o q f fs ns c h e s r =
      (r.2.0, subst (λ xs. Visits next o xs r.2.0) (sym (rest_at f.node f.next c h)) (subst (λ x. Visits next o (x ∷ drop (f.next + 1) (next f.node)) r.2.0) e (Entered s r.1 r.2.1)), r.2.2)

  pub leaves : (o q : Traversal ℕ) (f : Open) (fs : List Open) (ns : List ℕ) → length (next f.node) ≤ f.next → Resumes next (leave f.node o) fs ns q → Resumes next o (f ∷ fs) ns q
  leaves o q f fs ns h r = (o, subst (λ xs. Visits next o xs o) (sym (nil_from_length (drop f.next (next f.node)) (omega (arith, length-drop f.next (next f.node))))) Nothing, r)

  pub new_root : (o q : Traversal ℕ) (n : ℕ) (ns : List ℕ) → (Contains o.seen n → ⊥) → Resumes next (see n o) (opened n 0 ∷ []) ns q → Visits next o (n ∷ ns) q
  new_root o q n ns s r = Entered s r.1 r.2

  pub moved : (o o' q : Traversal ℕ) (fs fs' : List Open) (ns : List ℕ) → o ≡ o' → fs ≡ fs' → Resumes next o fs ns q → Resumes next o' fs' ns q
  moved o o' q fs fs' ns e p r = subst (λ x. Resumes next x fs' ns q) e (subst (λ x. Resumes next o x ns q) p r)

pub same_order : (o o' : Traversal ℕ) → o.seen ≡ o'.seen → o.left ≡ o'.left → o ≡ o'
same_order o o' a b = λ i. record { seen = a i; left = b i }

pub pushed_stack : (xs ys : List Open) (x : Open) → xs ≡ ys ++ x ∷ [] → reverse xs ≡ x ∷ reverse ys
pushed_stack xs ys x e = ap reverse e ∙ reverse-append ys (x ∷ [])

pub unseen_put : (g : List (Vec ℕ Global)) (ms : List Bool) (i : ℕ) → length ms ≡ length g → i < length ms → (IsMarked ms i → ⊥) → unseen_work g (set ms i true) + (length (successors g i) + 1) ≡ unseen_work g ms
unseen_put [] [] i e h s = absurd (omega arith)
unseen_put [] (m ∷ ms) i e h s = absurd (omega arith)
unseen_put (row ∷ g) [] i e h s = absurd (omega arith)
unseen_put (row ∷ g) (true ∷ ms) zero e h s = absurd (s refl)
unseen_put (row ∷ g) (false ∷ ms) zero e h s = omega arith
unseen_put (row ∷ g) (true ∷ ms) (suc i) e h s = unseen_put g ms i (omega arith) (omega arith) s
unseen_put (row ∷ g) (false ∷ ms) (suc i) e h s = omega (arith, unseen_put g ms i (omega arith) (omega arith) s)

module _ (g : List (Vec ℕ Global)) (a b : Search) (xs : List Open) (f : Open) (s : IsSearch g a) (top : a.path.items ≡ xs ++ f ∷ []) where
  stack_a : stack a ≡ f ∷ reverse xs
  stack_a = pushed_stack a.path.items xs f top

  abbrev InGraph : Open → Type 0
  InGraph x = x.node < length g

  pub rest_in : All InGraph xs × InGraph f
  rest_in = All-pop InGraph a.path.items xs (Some f) top s.open_in

  work_a : work g a ≡ unseen_work g a.seen.items + (((length (successors g f.node) - f.next) + 1) + open_work g (reverse xs))
  work_a = ap (λ fs. unseen_work g a.seen.items + open_work g fs) stack_a

  -- the last open node is left
  pub goes_leave : length (successors g f.node) ≤ f.next → b.seen.items ≡ a.seen.items → b.pre.items ≡ a.pre.items → b.post.items ≡ a.post.items ++ f.node ∷ [] → b.path.items ≡ xs → Goes g a b
  goes_leave h e1 e2 e3 e4 = record {
    search = record {
      len = ap length e1 ∙ s.len;
      seen = λ n m. subst (λ ys. Contains ys n) (sym e2) (s.seen n (subst (λ ms. IsMarked ms n) e1 m));
      marked = λ n m. subst (λ ms. IsMarked ms n) (sym e1) (s.marked n (subst (λ ys. Contains ys n) e2 m));
      open_in = subst (λ ys. All InGraph ys) (sym e4) rest_in.0;
    };
    back = λ ns q r. moved (successors g) (orders a) (orders a) q (f ∷ reverse xs) (stack a) ns refl (sym stack_a) (leaves (successors g) (orders a) q f (reverse xs) ns h (moved (successors g) (orders b) (leave f.node (orders a)) q (stack b) (reverse xs) ns (same_order (orders b) (leave f.node (orders a)) e2 e3) (ap reverse e4) r));
    work = let u = ap (unseen_work g) e1 in let v = ap (λ fs. open_work g (reverse fs)) e4 in omega (arith, work_a, u, v);
  }

  -- the last open node goes on with its next successor
  module _ (m : Search) (c : ℕ) (h : f.next < length (successors g f.node)) (ce : c ≡ get_or (successors g f.node) f.next c) (cin : c < length g) (e1 : m.seen.items ≡ a.seen.items) (e2 : m.pre.items ≡ a.pre.items) (e3 : m.post.items ≡ a.post.items) (e4 : m.path.items ≡ xs ++ opened f.node (f.next + 1) ∷ []) where
    stack_m : stack m ≡ opened f.node (f.next + 1) ∷ reverse xs
    stack_m = pushed_stack m.path.items xs (opened f.node (f.next + 1)) e4

    open_m : All InGraph m.path.items
    open_m = subst (λ ys. All InGraph ys) (sym e4) (All-push InGraph xs (opened f.node (f.next + 1)) rest_in.0 rest_in.1)

    contained : IsMarked a.seen.items c → Contains a.pre.items c
    contained k = s.seen c k

    goes_seen : SeenBefore m b c → Goes g a b
    goes_seen k = record {
      search = record {
        len = ap length (k.seen ∙ e1) ∙ s.len;
        seen = λ n t. subst (λ ys. Contains ys n) (sym (k.pre ∙ e2)) (s.seen n (subst (λ ms. IsMarked ms n) (k.seen ∙ e1) t));
        marked = λ n t. subst (λ ms. IsMarked ms n) (sym (k.seen ∙ e1)) (s.marked n (subst (λ ys. Contains ys n) (k.pre ∙ e2) t));
        open_in = subst (λ ys. All InGraph ys) (sym k.open_same) open_m;
      };
      back = λ ns q r. moved (successors g) (orders a) (orders a) q (f ∷ reverse xs) (stack a) ns refl (sym stack_a)
          (seen_child (successors g) (orders a) q f (reverse xs) ns c h ce (s.seen c (subst (λ ms. IsMarked ms c) e1 k.before))
          (moved (successors g) (orders b) (orders a) q (stack b) (opened f.node (f.next + 1) ∷ reverse xs) ns (same_order (orders b) (orders a) (k.pre ∙ e2) (k.post ∙ e3)) (ap reverse k.open_same ∙ stack_m) r));
      work = let u = ap (unseen_work g) (k.seen ∙ e1) in let v = ap (open_work g) (ap reverse k.open_same ∙ stack_m) in omega (arith, work_a, u, v);
    }

    goes_new : SeenNow m b c → Goes g a b
    goes_new k = record {
      search = record {
        len = ap length seen_b ∙ length-set a.seen.items c true ∙ s.len;
        seen = λ n t. ⊎_elim
            (λ o. subst (λ ys. Contains ys n) (sym pre_b) (Contains-append_left a.pre.items (c ∷ []) n (s.seen n o)))
            (λ o. subst (λ ys. Contains ys n) (sym pre_b) (subst (λ x. Contains (a.pre.items ++ c ∷ []) x) (sym o) (Contains-push a.pre.items c)))
            (mark_only a.seen.items c n (subst (λ ms. IsMarked ms n) seen_b t));
        marked = λ n t. ⊎_elim
            (λ o. subst (λ ms. IsMarked ms n) (sym seen_b) (mark_kept a.seen.items c n (s.marked n o)))
            (λ o. subst (λ ms. IsMarked ms n) (sym seen_b) (subst (λ x. IsMarked (set a.seen.items c true) x) o (mark_put a.seen.items c c_in)))
            (Contains-push_cases a.pre.items c n (subst (λ ys. Contains ys n) pre_b t));
        open_in = subst (λ ys. All InGraph ys) (sym k.open_more) (All-push InGraph m.path.items (opened c 0) open_m cin);
      };
      back = λ ns q r. moved (successors g) (orders a) (orders a) q (f ∷ reverse xs) (stack a) ns refl (sym stack_a)
          (new_child (successors g) (orders a) q f (reverse xs) ns c h ce (λ t. k.before (subst (λ ms. IsMarked ms c) (sym e1) (s.marked c t)))
          (moved (successors g) (orders b) (see c (orders a)) q (stack b) (opened c 0 ∷ opened f.node (f.next + 1) ∷ reverse xs) ns (same_order (orders b) (see c (orders a)) pre_b (k.post ∙ e3)) stack_b r));
      work = let u = ap (unseen_work g) seen_b in let v = ap (open_work g) stack_b in let w = unseen_put g a.seen.items c s.len c_in (λ t. k.before (subst (λ ms. IsMarked ms c) (sym e1) t)) in omega (arith, work_a, u, v, w);
    }
      where
        seen_b : b.seen.items ≡ set a.seen.items c true
        seen_b = k.seen ∙ ap (λ ms. set ms c true) e1

        pre_b : b.pre.items ≡ a.pre.items ++ c ∷ []
        pre_b = k.pre ∙ ap (λ ys. ys ++ c ∷ []) e2

        c_in : c < length a.seen.items
        c_in = omega (arith, s.len)

        stack_b : stack b ≡ opened c 0 ∷ opened f.node (f.next + 1) ∷ reverse xs
        stack_b = pushed_stack b.path.items m.path.items (opened c 0) k.open_more ∙ ap (λ fs. opened c 0 ∷ fs) stack_m

    pub goes_on : Enters m b c → Goes g a b
    goes_on = ⊎_elim goes_seen goes_new

pub child_in : (g : List (Vec ℕ Global)) (n : ℕ) (row : Vec ℕ Global) (i x : ℕ) → InRange g → n < length g → row ≡ get_or g n row → i < length row.items → x ≡ get_or row.items i x → x < length g
child_in g n row i x r h e l q =
    let s = successors_at g n row h e in
    r n x (subst (λ xs. Contains xs x) (sym s) (subst (λ y. Contains row.items y) (sym q) (Contains-get_or row.items i x l)))
