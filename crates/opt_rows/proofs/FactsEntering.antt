-- What is found at first, and what giving up values and entering blocks keeps.
use Rattle.std.proofs.Common.{◌≡◌, ⊎_elim, ℕ, zero, suc, ◌+◌, ◌<◌, List, [], ◌∷◌, ◌++◌, true, false, length, get_or, take, replicate, refl, sym, ap, ◌∙◌, subst}
use Rattle.std.specs.Prelude.{Contains, slice_get, unwrap_or, option_map}
use Rattle.std.specs.declared.vec.Vec.{Vec}
use Rattle.std.specs.declared.alloc.Global.{Global}
use Rattle.std.proofs.lemmas.Option.{slice_get_read}
use Rattle.std.proofs.lemmas.List.{length-replicate}
use Rattle.std.proofs.lemmas.List.Elements.{Contains-push, Contains-push_cases, Contains-append_left}
use Rattle.opt_rows.specs.declared.known.Known.{Known}
use Rattle.opt_rows.specs.declared.known.Known.TheVariants.{Undetermined, Any}
use Rattle.opt_rows.specs.declared.facts_problem.FactsProblem.{FactsProblem}
use Rattle.opt_rows.specs.declared.facts_found.Found.{Found}
use Rattle.opt_rows.specs.Known.{AtOrBelow, AllAny, MorePrecise}
use Rattle.opt_rows.specs.Facts.{NumberedFacts, RunsWithAny, arguments_of}
use Rattle.opt_rows.specs.FactsFound.{Meets, IsNothing}
use Rattle.opt_rows.proofs.FactsFalling.{at_any, at_same, any_below, meets_then}
use Rattle.opt_rows.proofs.Lists.{next_of}

-- what stands at a row of a table
pub row_at : {X : Type 0} (t : List (Vec X Global)) (n : ℕ) (row : Vec X Global) → n < length t → row ≡ get_or t n row → unwrap_or (option_map (λ (v : Vec X Global). v.items) (slice_get t n)) [] ≡ row.items
row_at {X} t n row h e = ap (λ o. unwrap_or (option_map (λ (v : Vec X Global). v.items) o) []) (slice_get_read t (length t) n row refl h e)

-- what stands in a list of the same everywhere, or past its end
same_anywhere : {X : Type 0} (n i : ℕ) (x : X) → unwrap_or (slice_get (replicate n x) i) x ≡ x
same_anywhere zero i x = refl
same_anywhere (suc n) zero x = refl
same_anywhere (suc n) (suc i) x = same_anywhere n i x

module _ {A : Type 0} where
  any_all : (f : ℕ → Known A) (xs : List ℕ) (x : ℕ) → AllAny f (xs ++ x ∷ []) → AllAny f xs
  any_all f [] x h = tt
  any_all f (y ∷ ys) x h = (h.0, any_all f ys x h.1)

  any_last : (f : ℕ → Known A) (xs : List ℕ) (x : ℕ) → AllAny f (xs ++ x ∷ []) → f x ≡ Any
  any_last f [] x h = h.0
  any_last f (y ∷ ys) x h = any_last f ys x h.1

  any_push : (f : ℕ → Known A) (xs : List ℕ) (x : ℕ) → AllAny f xs → f x ≡ Any → AllAny f (xs ++ x ∷ [])
  any_push f [] x h e = (e, tt)
  any_push f (y ∷ ys) x h e = (h.0, any_push f ys x h.1 e)

  pub all_any_stays : (xs : List ℕ) (k l : NumberedFacts A) → MorePrecise k l → AllAny k.of xs → AllAny l.of xs
  all_any_stays [] k l m h = tt
  all_any_stays (x ∷ xs) k l m h = (any_below (l.of x) (k.of x) (m.above x) h.0, all_any_stays xs k l m h.1)

  pub enters_stays : (p : FactsProblem) (b : ℕ) (k l : NumberedFacts A) → MorePrecise k l → RunsWithAny p k b → RunsWithAny p l b
  enters_stays p b k l m h = record { runs = m.fewer b h.runs; arguments = all_any_stays (arguments_of p b) k l m h.arguments }

  pub gave_up_more : (a b c : Found A) (xs : List ℕ) (i x : ℕ) → i < length xs → x ≡ get_or xs i x → Meets (λ l. AllAny l.of (take i xs)) a b → Meets (λ l. AtOrBelow (l.of x) Any) b c → Meets (λ l. AllAny l.of (take (i + 1) xs)) a c
  gave_up_more a b c xs i x h e p q = subst (λ ys. Meets (λ l. AllAny l.of ys) a c) (sym (next_of xs i x h e))
      (meets_then (λ l. AllAny l.of (take i xs)) (λ l. AtOrBelow (l.of x) Any) (λ l. AllAny l.of (take i xs ++ x ∷ []))
      (λ l g. any_all l.of (take i xs) x g)
      (λ l g. at_same (l.of x) Any (any_last l.of (take i xs) x g))
      (λ l d g. any_push l.of (take i xs) x d (at_any (l.of x) g))
      (all_any_stays (take i xs)) a b c p q)

  pub entered : (p : FactsProblem) (n : ℕ) (a b c : Found A) (xs : List ℕ) → arguments_of p n ≡ xs → Meets (λ l. l.runs n ≡ true) a b → Meets (λ l. AllAny l.of xs) b c → Meets (λ l. RunsWithAny p l n) a c
  entered p n a b c xs e q r = meets_then (λ l. l.runs n ≡ true) (λ l. AllAny l.of xs) (λ l. RunsWithAny p l n)
      (λ l g. g.runs)
      (λ l g. subst (AllAny l.of) e g.arguments)
      (λ l d g. record { runs = d; arguments = subst (AllAny l.of) (sym e) g })
      (λ k l m d. m.fewer n d) a b c q r

  pub entered_more : (p : FactsProblem) (a b c : Found A) (xs : List ℕ) (i x : ℕ) → i < length xs → x ≡ get_or xs i x → Meets (λ l. (n : ℕ) → Contains (take i xs) n → RunsWithAny p l n) a b → Meets (λ l. RunsWithAny p l x) b c → Meets (λ l. (n : ℕ) → Contains (take (i + 1) xs) n → RunsWithAny p l n) a c
  entered_more p a b c xs i x h e q r = subst (λ ys. Meets (λ l. (n : ℕ) → Contains ys n → RunsWithAny p l n) a c) (sym (next_of xs i x h e))
      (meets_then (λ l. (n : ℕ) → Contains (take i xs) n → RunsWithAny p l n) (λ l. RunsWithAny p l x) (λ l. (n : ℕ) → Contains (take i xs ++ x ∷ []) n → RunsWithAny p l n)
      (λ l g n t. g n (Contains-append_left (take i xs) (x ∷ []) n t))
      (λ l g. g x (Contains-push (take i xs) x))
      (λ l d g n t. ⊎_elim (λ s. d n s) (λ s. subst (RunsWithAny p l) s g) (Contains-push_cases (take i xs) x n t))
      (λ k l m d n t. enters_stays p n k l m (d n t)) a b c q r)

  -- no block runs and nothing is known of any value
  pub nothing : (s : Found A) (blocks values : ℕ) → s.runs.items ≡ replicate blocks false → s.known.items ≡ replicate values Undetermined → IsNothing s blocks values
  nothing s blocks values r k = record {
    blocks_len = ap length r ∙ length-replicate blocks false;
    values_len = ap length k ∙ length-replicate values Undetermined;
    none = λ b e. let f : false ≡ true = sym (ap (λ xs. unwrap_or (slice_get xs b) false) r ∙ same_anywhere blocks b false) ∙ e in cc;
    undetermined = λ v. ap (λ (xs : List (Known A)). unwrap_or (slice_get xs v) Undetermined) k ∙ same_anywhere values v Undetermined;
  }
